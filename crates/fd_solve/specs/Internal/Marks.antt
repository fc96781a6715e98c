-- Problems with some of their biases.
use Rattle.std.specs.Prelude.{◌≡◌, ℕ, ◌≤◌, ◌==◌, Bool, false, if◌then◌else◌, List, [], ◌∷◌, All, find, length, option_map, slice_index_or, take, Option, None, Some}
use Rattle.fd_prob.specs.declared.problem.Case.{Case}
use Rattle.fd_prob.specs.declared.problem.Extra.{Extra}
use Rattle.fd_prob.specs.declared.problem.Problem.{Problem}
use Rattle.fd_prob.specs.Extras.{cut_by_all, extended, extended_case}
use Rattle.fd_prob.specs.Fitting.{IsProblem}
use Rattle.fd_solve.specs.declared.marked.Marked.{Marked}

-- the problem with what the marked biases add to it, one after another; of a bias without a mark nothing is added
abbrev pub with_marked : List Bool → List Extra → Problem → Problem
with_marked [] es p = p
with_marked (mark ∷ marks) [] p = p
with_marked (mark ∷ marks) (e ∷ es) p = with_marked marks es (if mark then extended e p else p)

-- the same of the case at a place
abbrev pub marked_case : List Bool → List Extra → ℕ → Case → Case
marked_case [] es place c = c
marked_case (mark ∷ marks) [] place c = c
marked_case (mark ∷ marks) (e ∷ es) place c = marked_case marks es place (if mark then extended_case e (slice_index_or e.cases place false) c else c)

-- a case without its relations
abbrev pub bare : Case → Case
bare c = record { op = c.op; doms = c.doms; rels = [] }

-- a case with its domains cut, without its relations
abbrev pub cut_case : Extra → Case → Case
cut_case e c = record { op = c.op; doms = cut_by_all e.cuts c.doms; rels = [] }

-- the first case of an operation
abbrev pub first_of : List Case → ℕ → Option Case
first_of cases op = find (λ c. c.op == op) cases

-- the first cases of operations are the same but for their relations, and so are draws, pairs and whether it is a fetch
pub record HasFirstsOf (p firsts : Problem) : Type 0 where
  pub cases : (op : ℕ) → option_map bare (first_of firsts.cases op) ≡ option_map bare (first_of p.cases op)
  pub pivots : firsts.pivots ≡ p.pivots
  pub pairs : firsts.pairs ≡ p.pairs
  pub fetch : firsts.fetch ≡ p.fetch

-- the problem that was made, or the given one where none was
abbrev pub base_of : Option Problem → Problem → Problem
base_of None p = p
base_of (Some made) p = made

-- the problem with its marked biases
abbrev pub whole_of : Marked → Problem
whole_of m = with_marked m.marks.now m.biases.now m.problem.now

-- the problem with the first of them, those that the cases that are searched have already
abbrev pub begun_of : Marked → Problem
begun_of m = with_marked (take m.from m.marks.now) m.biases.now m.problem.now

-- the same where the cases have so many
abbrev pub begun_at : ℕ → Marked → Marked
begun_at n m = record { problem = m.problem; biases = m.biases; marks = m.marks; from = n; firsts = m.firsts }

-- it is a problem, each bias has an entry for each case, and what stands for the first cases is right
pub record AreSound (p : Problem) (biases : List Extra) (marks : List Bool) (first : Problem) : Type 0 where
  pub problem : IsProblem p
  pub entries : All (λ e. length e.cases ≡ length p.cases) biases
  pub room : length marks ≤ length biases
  pub whole : IsProblem first
  pub firsts : HasFirstsOf (with_marked marks biases p) first

abbrev pub IsSound : Marked → Type 0
IsSound m = AreSound m.problem.now m.biases.now m.marks.now m.firsts.now
