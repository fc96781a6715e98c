-- Cases of one operation.
use Rattle.std.proofs.Common.{◌≡◌, ◌≢◌, ℕ, ◌+◌, ◌<◌, ◌≤◌, List, length, get_or, Option, Some, None, ◌⊎◌, inl, inr, sym, ◌∙◌, subst, arith}
use Rattle.std.specs.Prelude.{MatchOption}
use Rattle.std.proofs.lemmas.Bool.{cases_lt}
use Rattle.fd_prob.specs.declared.problem.Assignment.{Assignment}
use Rattle.fd_prob.specs.declared.problem.Case.{Case}
use Rattle.fd_prob.specs.declared.slot.Slot.TheVariants as slots
use Rattle.fd_prob.specs.Laws.{IsOfCase}
use Rattle.fd_prob.specs.Order.{IsAssignment}
use Rattle.fd_prob.specs.Relations.{value_of}
use Rattle.case_search.specs.Search.{Before, IsLesser, IsMadeOf, LeastOrNone}
use Rattle.fd_solve.specs.Internal.Operations.{IsMadeOfAny}
use Rattle.case_search.proofs.Lists.{any_default}
use Rattle.case_search.proofs.Orders.{as_well, lesser_of_both}

-- the assignment has the operation and is of one of the first n cases
abbrev pub IsMadeBefore : ℕ → List Case → ℕ → Assignment → Type 0
IsMadeBefore op cases n x = IsAssignment x × (value_of x slots.Op ≡ op) × ((k : ℕ) × (c : Case) × (k < n) × (k < length cases) × (get_or cases k c ≡ c) × IsOfCase x c)

-- the first n are all
pub all_before : (op : ℕ) (cases : List Case) (n : ℕ) → length cases ≤ n → (ps : List ℕ) (o : Option Assignment) → LeastOrNone ps (IsMadeBefore op cases n) o → LeastOrNone ps (IsMadeOfAny op cases) o
all_before op cases n end ps o least = as_well ps (IsMadeBefore op cases n) (IsMadeOfAny op cases)
    (λ x is. (is.0, is.1, (is.2.0, is.2.1, is.2.3, is.2.4, is.2.5)))
    (λ x is. (is.0, is.1, (is.2.0, is.2.1, omega (arith, is.2.2, end), is.2.2, is.2.3, is.2.4)))
    o least

module _ (op : ℕ) (cases : List Case) (n : ℕ) (c : Case) (lt : n < length cases) (here : c ≡ get_or cases n c) where
  wider : (x : Assignment) → IsMadeBefore op cases n x → IsMadeBefore op cases (n + 1) x
  wider x is = (is.0, is.1, (is.2.0, is.2.1, omega (arith, is.2.2), is.2.3, is.2.4, is.2.5))

  last_one : (x : Assignment) → value_of x slots.Op ≡ op → IsMadeOf c x → IsMadeBefore op cases (n + 1) x
  last_one x e is = (is.0, e, (n, c, omega arith, lt, sym here, is.1))

  -- of the first n, or of this one
  split : (x : Assignment) → IsMadeBefore op cases (n + 1) x → IsMadeBefore op cases n x ⊎ IsMadeOf c x
  split x is = elim (cases_lt is.2.0 n) [
    | inl less ↦ inl (is.0, is.1, (is.2.0, is.2.1, less, is.2.3, is.2.4, is.2.5))
    | inr from ↦
        let e : is.2.0 ≡ n = omega (arith, from, is.2.2) in
        let at_n : get_or cases n is.2.1 ≡ is.2.1 = subst (λ (k : ℕ). get_or cases k is.2.1 ≡ is.2.1) e is.2.4 in
        let same : is.2.1 ≡ c = sym at_n ∙ any_default cases n is.2.1 c lt ∙ sym here in
        inr (is.0, subst (IsOfCase x) same is.2.5)
  ]

  pub one_more_case : c.op ≡ op → (ps : List ℕ) (best other o : Option Assignment) → LeastOrNone ps (IsMadeBefore op cases n) best → LeastOrNone ps (IsMadeOf c) other → IsLesser ps best other o → LeastOrNone ps (IsMadeBefore op cases (n + 1)) o
  one_more_case same ps best other o before here_too is = as_well ps (λ y. IsMadeBefore op cases n y ⊎ IsMadeOf c y) (IsMadeBefore op cases (n + 1))
      (λ y either. elim either [ inl old ↦ wider y old | inr new ↦ last_one y (new.1.op ∙ same) new ])
      (λ y all. split y all)
      o (lesser_of_both ps (IsMadeBefore op cases n) (IsMadeOf c) best other o before here_too is)

  pub no_more_case : c.op ≢ op → (ps : List ℕ) (best : Option Assignment) → LeastOrNone ps (IsMadeBefore op cases n) best → LeastOrNone ps (IsMadeBefore op cases (n + 1)) best
  no_more_case differ ps best before = as_well ps (IsMadeBefore op cases n) (IsMadeBefore op cases (n + 1)) (λ y is. wider y is)
      (λ y all. elim (split y all) [ inl old ↦ old | inr new ↦ absurd (differ (sym new.1.op ∙ all.1)) ])
      best before

  -- what is of this case is of another, of which nothing comes before the best
  pub passed_case : (d : Case) → ((y : Assignment) → IsMadeOf c y → IsMadeOf d y) → (ps : List ℕ) (best : Option Assignment) → MatchOption best ⊥ (λ b. (y : Assignment) → IsMadeOf d y → Before ps y b → ⊥) → LeastOrNone ps (IsMadeBefore op cases n) best → LeastOrNone ps (IsMadeBefore op cases (n + 1)) best
  passed_case d into ps None behind before = absurd behind
  passed_case d into ps (Some b) behind before = record { meets = wider b before.meets; least = λ y all lower. elim (split y all) [ inl old ↦ before.least y old lower | inr new ↦ behind y (into y new) lower ] }
