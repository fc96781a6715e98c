-- A problem with what a bias adds to it.
use Rattle.std.specs.Prelude.{ℕ, Bool, true, false, List, [], ◌∷◌, ◌++◌, filter, slice_index_or, slice_set}
use Rattle.dom_set.specs.Elements.{is_in}
use Rattle.fd_prob.specs.declared.problem.Case.{Case}
use Rattle.fd_prob.specs.declared.problem.Extra.{Extra}
use Rattle.fd_prob.specs.declared.problem.Problem.{Problem}
use Rattle.fd_prob.specs.declared.relation.Rel.{Rel}
use Rattle.fd_prob.specs.declared.relation.Rel.TheVariants.{Rows}
use Rattle.fd_prob.specs.declared.slot.Slot.{Slot}
use Rattle.fd_prob.specs.Slots.{slot_number}

-- the domains, one of them cut to what is in a set
abbrev pub cut_by : Slot × List ℕ → List (List ℕ) → List (List ℕ)
cut_by cut doms = slice_set doms (slot_number cut.0) (filter (is_in cut.1) (slice_index_or doms (slot_number cut.0) []))

abbrev pub cut_by_all : List (Slot × List ℕ) → List (List ℕ) → List (List ℕ)
cut_by_all [] doms = doms
cut_by_all (cut ∷ cuts) doms = cut_by_all cuts (cut_by cut doms)

-- a case that does not stay has no row, so that nothing fits it; its cut domains still count for the space and the pivots
abbrev pub closed_by : Bool → List Rel
closed_by true = []
closed_by false = Rows [] ∷ []

abbrev pub extended_case : Extra → Bool → Case → Case
extended_case e stays c = record { op = c.op; doms = cut_by_all e.cuts c.doms; rels = c.rels ++ e.rels ++ closed_by stays }

-- each case with its entry; there is one for each case
abbrev pub extended_cases : Extra → List Bool → List Case → List Case
extended_cases e (stays ∷ more) (c ∷ cs) = extended_case e stays c ∷ extended_cases e more cs
extended_cases e stays cs = []

-- the cuts and the relations are added to every case
abbrev pub extended : Extra → Problem → Problem
extended e p = record { cases = extended_cases e e.cases p.cases; pivots = p.pivots; pairs = p.pairs; fetch = p.fetch }
