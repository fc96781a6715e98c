-- Problems with their first marked biases, and with the others.
use Rattle.std.proofs.Common.{◌≡◌, ℕ, zero, suc, ◌+◌, ◌-◌, ◌<◌, ◌≤◌, Bool, true, false, not, List, [], ◌∷◌, ◌++◌, length, take, drop, get_or, All, None, refl, sym, ap, ◌∙◌, subst, length-append, length-drop, arith}
use Rattle.std.specs.Prelude.{if◌then◌else◌}
use Rattle.std.specs.List.{list_all}
use Rattle.std.proofs.lemmas.List.{take-append-le, take_all}
use Rattle.std.proofs.lemmas.List.Elements.{All-drop}
use Rattle.fd_prob.specs.declared.problem.Extra.{Extra}
use Rattle.fd_prob.specs.declared.problem.Problem.{Problem}
use Rattle.fd_prob.specs.Extras.{extended}
use Rattle.fd_prob.specs.Fitting.{IsProblem}
use Rattle.fd_solve.specs.declared.ready.Ready.{Ready}
use Rattle.fd_solve.specs.Internal.Equivalent.{StandFor}
use Rattle.fd_solve.specs.Internal.Marks.{with_marked}
use Rattle.fd_solve.specs.Internal.Ready.{IsReady}
use Rattle.fd_solve.proofs.Marking.{many_marked, whole_marked}

no_biases : (marks : List Bool) (p : Problem) → with_marked marks [] p ≡ p
no_biases [] p = refl
no_biases (m ∷ marks) p = refl

-- the first marks, and then the rest
pub first_and_rest : (n : ℕ) (marks : List Bool) (es : List Extra) (p : Problem) → with_marked (drop n marks) (drop n es) (with_marked (take n marks) es p) ≡ with_marked marks es p
first_and_rest zero marks es p = refl
first_and_rest (suc n) [] es p = refl
first_and_rest (suc n) (m ∷ marks) [] p = no_biases (drop n marks) p
first_and_rest (suc n) (m ∷ marks) (e ∷ es) p = first_and_rest n marks es (if m then extended e p else p)

none_of_none : (k : ℕ) → take {A = Bool} k [] ≡ []
none_of_none zero = refl
none_of_none (suc k) = refl

-- the first marks, and then some of the others
pub first_and_more : (n k to : ℕ) → to ≡ n + k → (marks : List Bool) (es : List Extra) (p : Problem) → with_marked (take k (drop n marks)) (drop n es) (with_marked (take n marks) es p) ≡ with_marked (take to marks) es p
first_and_more zero k to is marks es p = let same : k ≡ to = omega (arith, is) in ap (λ (n : ℕ). with_marked (take n marks) es p) same
first_and_more (suc n) k zero is marks es p = absurd (omega (arith, is))
first_and_more (suc n) k (suc to) is [] es p = ap (λ (ms : List Bool). with_marked ms (drop (suc n) es) p) (none_of_none k)
first_and_more (suc n) k (suc to) is (m ∷ marks) [] p = no_biases (take k (drop n marks)) p
first_and_more (suc n) k (suc to) is (m ∷ marks) (e ∷ es) p = first_and_more n k to (omega (arith, is)) marks es (if m then extended e p else p)

unmarked : (marks : List Bool) (es : List Extra) (p : Problem) → list_all not marks ≡ true → with_marked marks es p ≡ p
unmarked [] es p is = refl
unmarked (true ∷ marks) es p is = absurd (cc is)
unmarked (false ∷ marks) [] p is = refl
unmarked (false ∷ marks) (e ∷ es) p is = unmarked marks es p is

-- the slice from a place on
abbrev pub from_on : {A : Type 0} → ℕ → List A → List A
from_on n xs = take (length xs - n) (drop n xs)

from_on_is : {A : Type 0} (n : ℕ) (xs : List A) → from_on n xs ≡ drop n xs
from_on_is n xs = take_all (length xs - n) (drop n xs) (omega (arith, length-drop n xs))

-- of the problem with its first marked biases the marks and biases that are left
module _ (p : Problem) (es : List Extra) (marks : List Bool) (n : ℕ) where
  abbrev pub begun : Problem
  begun = with_marked (take n marks) es p

  -- with them it is the same problem
  pub left_whole : with_marked (from_on n marks) (from_on n es) begun ≡ with_marked marks es p
  left_whole =
      ap (λ (ms : List Bool). with_marked ms (from_on n es) begun) (from_on_is n marks)
      ∙ ap (λ (fs : List Extra). with_marked (drop n marks) fs begun) (from_on_is n es)
      ∙ first_and_rest n marks es p

  pub left_entries : All (λ e. length e.cases ≡ length p.cases) es → All (λ e. length e.cases ≡ length begun.cases) (from_on n es)
  left_entries entries =
      subst (λ (k : ℕ). All (λ e. length e.cases ≡ k) (from_on n es)) (sym (many_marked (take n marks) es p (length p.cases) entries refl))
      (subst (All (λ e. length e.cases ≡ length p.cases)) (sym (from_on_is n es)) (All-drop (λ e. length e.cases ≡ length p.cases) n es entries))

  pub left_room : length marks ≤ length es → length (from_on n marks) ≤ length (from_on n es)
  left_room room = omega (arith, room, length-drop n marks, length-drop n es, ap length (from_on_is n marks), ap length (from_on_is n es))

  pub begun_whole : IsProblem p → IsProblem begun
  begun_whole problem = whole_marked (take n marks) es p problem

  -- with the marks from there to a place
  pub brought : (to : ℕ) → n ≤ to → with_marked (take (to - n) (drop n marks)) (from_on n es) begun ≡ with_marked (take to marks) es p
  brought to le =
      ap (λ (fs : List Extra). with_marked (take (to - n) (drop n marks)) fs begun) (from_on_is n es)
      ∙ first_and_more n (to - n) to (omega (arith, le)) marks es p

  -- where none of them is marked
  pub as_it_was : (to : ℕ) → n ≤ to → list_all not (take (to - n) (drop n marks)) ≡ true → begun ≡ with_marked (take to marks) es p
  as_it_was to le none = sym (unmarked (take (to - n) (drop n marks)) (from_on n es) begun none) ∙ brought to le

-- with no mark, and with all of them
pub none_begun : (p : Problem) (es : List Extra) (marks : List Bool) (n : ℕ) → n ≡ 0 → with_marked (take n marks) es p ≡ p
none_begun p es marks n is = ap (λ (k : ℕ). with_marked (take k marks) es p) is

pub all_begun : (p : Problem) (es : List Extra) (marks : List Bool) → with_marked (take (length marks) marks) es p ≡ with_marked marks es p
all_begun p es marks = ap (λ (ms : List Bool). with_marked ms es p) (take_all (length marks) marks (omega arith))

-- a mark more
pub ready_next : (p : Problem) (es : List Extra) (marks after : List Bool) (mark : Bool) (ready : Ready) → after ≡ marks ++ mark ∷ [] → IsReady p es marks (length marks) ready → IsReady p es after (length after - 1) ready
ready_next p es marks after mark ready is so_far = record {
  within = omega (arith, so_far.within, ap length is, length-append marks (mark ∷ []));
  narrow = subst (λ (ms : List Bool). StandFor (with_marked ms es p).cases ready.narrow) (sym (take-append-le ready.from marks (mark ∷ []) so_far.within) ∙ ap (take ready.from) (sym is)) so_far.narrow;
  idle = so_far.idle;
}

-- more marks may count
pub ready_wider : (p : Problem) (es : List Extra) (marks : List Bool) (n m : ℕ) (ready : Ready) → n ≤ m → IsReady p es marks n ready → IsReady p es marks m ready
ready_wider p es marks n m ready le is = record { within = omega (arith, le, is.within); narrow = is.narrow; idle = is.idle }

-- only the cases changed
pub ready_settled : (p : Problem) (es : List Extra) (marks : List Bool) (n : ℕ) (before after : Ready) → after.from ≡ before.from → (after.narrow ≡ None → before.narrow ≡ None) → StandFor (with_marked (take before.from marks) es p).cases after.narrow → IsReady p es marks n before → IsReady p es marks n after
ready_settled p es marks n before after from_is idle narrow is = record {
  within = omega (arith, from_is, is.within);
  narrow = subst (λ (k : ℕ). StandFor (with_marked (take k marks) es p).cases after.narrow) (sym from_is) narrow;
  idle = λ none. from_is ∙ is.idle (idle none);
}

-- the last mark is another one
pub ready_after : (p : Problem) (es : List Extra) (marks tried after : List Bool) (mark other : Bool) (ready : Ready) → tried ≡ marks ++ mark ∷ [] → after ≡ marks ++ other ∷ [] → IsReady p es tried (length tried - 1) ready → IsReady p es after (length after) ready
ready_after p es marks tried after mark other ready tried_is after_is so_far =
    let within : ready.from ≤ length marks = omega (arith, so_far.within, ap length tried_is, length-append marks (mark ∷ [])) in
    record {
      within = omega (arith, within, ap length after_is, length-append marks (other ∷ []));
      narrow = subst (λ (ms : List Bool). StandFor (with_marked ms es p).cases ready.narrow)
          (ap (take ready.from) tried_is ∙ take-append-le ready.from marks (mark ∷ []) within ∙ sym (take-append-le ready.from marks (other ∷ []) within) ∙ ap (take ready.from) (sym after_is)) so_far.narrow;
      idle = so_far.idle;
    }

-- where one mark is left, and is set, the problem is the one with its bias
single : (ms : List Bool) (es : List Extra) (q : Problem) (e : Extra) → length ms ≡ 1 → get_or ms 0 false ≡ true → 0 < length es → e ≡ get_or es 0 e → with_marked ms es q ≡ extended e q
single [] es q e one set some here = absurd (omega (arith, one))
single (m ∷ ms) [] q e one set some here = absurd (omega (arith, some))
single (false ∷ ms) (f ∷ es) q e one set some here = absurd (cc set)
single (true ∷ []) (f ∷ es) q e one set some here = ap (λ (g : Extra). extended g q) (sym here)
single (true ∷ m ∷ ms) (f ∷ es) q e one set some here = absurd (omega (arith, one))

pub one_left : (p : Problem) (es : List Extra) (marks : List Bool) (n : ℕ) (e : Extra) → length (from_on n marks) ≡ 1 → get_or (from_on n marks) 0 false ≡ true → 0 < length (from_on n es) → e ≡ get_or (from_on n es) 0 e → with_marked marks es p ≡ extended e (begun p es marks n)
one_left p es marks n e one set some here = sym (left_whole p es marks n) ∙ single (from_on n marks) (from_on n es) (begun p es marks n) e one set some here
