-- Operations, upwards from their pivot and round to it again.
use Rattle.std.proofs.Common.{◌≡◌, ℕ, zero, suc, ◌+◌, ◌^◌, ◌<◌, ◌≤◌, Bool, true, false, cond, ◌==◌, List, [], ◌∷◌, length, get_or, MatchOption, find, Option, Some, None, ◌⊎◌, inl, inr, refl, sym, ap, ◌∙◌, subst, arith}
use Rattle.std.proofs.lemmas.Bool.{cases_lt}
use Rattle.std.proofs.lemmas.Bool.Decides.{nat_tests}
use Rattle.fd_prob.specs.declared.problem.Assignment.{Assignment}
use Rattle.fd_prob.specs.declared.problem.Case.{Case}
use Rattle.fd_prob.specs.declared.problem.Problem.{Problem}
use Rattle.fd_prob.specs.declared.slot.Slot.{Slot}
use Rattle.fd_prob.specs.declared.slot.Slot.TheVariants as slots
use Rattle.fd_prob.specs.Fitting.{IsProblem}
use Rattle.fd_prob.specs.Laws.{FittingIsOfACase}
use Rattle.fd_prob.specs.Order.{ComesBefore, pivot_of, rank}
use Rattle.fd_prob.specs.Relations.{value_of}
use Rattle.fd_prob.specs.Slots.{slot_number}
use Rattle.fd_solve.specs.Answers.{IsLeast, NothingFits}
use Rattle.case_search.specs.Search.{IsLeastOf}
use Rattle.fd_solve.specs.Internal.Operations.{ArePivots, IsFitting, IsLeastFrom, IsMadeOfAny, NoneBetween}
use Rattle.case_search.proofs.Putting.{value_word}
use Rattle.case_search.proofs.Ranks.{rank_round, rank_up}

-- the operation is the first variable
pub op_or_later : (s : Slot) → (s ≡ slots.Op) ⊎ (0 < slot_number s)
op_or_later slots.Op = inl refl
op_or_later slots.Rs1 = inr (omega arith)
op_or_later slots.Rs2 = inr (omega arith)
op_or_later slots.Imm = inr (omega arith)
op_or_later slots.Rd = inr (omega arith)
op_or_later slots.Csr = inr (omega arith)
op_or_later slots.Ea = inr (omega arith)
op_or_later slots.A = inr (omega arith)
op_or_later slots.B = inr (omega arith)
op_or_later slots.FirstPte = inr (omega arith)
op_or_later slots.SecondPte = inr (omega arith)
op_or_later slots.DataWord = inr (omega arith)
op_or_later slots.OldCsr = inr (omega arith)
op_or_later slots.Vector = inr (omega arith)

not_first : (test : Case → Bool) (d : Case) (rest : Option Case) → cond (test d) (Some d) rest ≡ None → (test d ≡ false) × (rest ≡ None)
not_first test d rest none = elim (test d) as (λ b. cond b (Some d) rest ≡ None → (b ≡ false) × (rest ≡ None)) [ true ↦ λ e. absurd (cc e) | false ↦ λ e. (refl, e) ] none

-- where none is found, none passes
missing : (test : Case → Bool) (cs : List Case) → find test cs ≡ None → (k : ℕ) (c : Case) → k < length cs → get_or cs k c ≡ c → test c ≡ false
missing test [] none k c lt is = absurd (omega (arith, lt))
missing test (d ∷ ds) none zero c lt is = subst (λ (x : Case). test x ≡ false) is (not_first test d (find test ds) none).0
missing test (d ∷ ds) none (suc k) c lt is = missing test ds (not_first test d (find test ds) none).1 k c (omega (arith, lt)) is

module _ (p : Problem) (law : FittingIsOfACase) where
  -- what fits with an operation is of one of its cases
  of_any : (op : ℕ) (y : Assignment) → IsFitting p y → value_of y slots.Op ≡ op → IsMadeOfAny op p.cases y
  of_any op y fitting is = (fitting.0, is, (law p y).0 fitting.1)

  pub operation_below : IsProblem p → (y : Assignment) → IsFitting p y → value_of y slots.Op < 58
  operation_below problem y fitting =
      let any = (law p y).0 fitting.1 in
      let is_case = problem any.0 any.1 any.2 in
      let P : Case → Type 0 = λ c. c.op < 58 in
      let below : any.1.op < 58 = subst P any.3 is_case.op in
      omega (arith, any.4.op, below)

  -- an operation without a case
  pub no_case : (from op : ℕ) → NoneBetween p from op → find (λ c. c.op == op) p.cases ≡ None → NoneBetween p from (op + 1)
  no_case from op none missed y fitting above below = elim (cases_lt (value_of y slots.Op) op) [
    | inl less ↦ none y fitting above less
    | inr from_op ↦
        let any = (law p y).0 fitting.1 in
        let e : any.1.op ≡ op = omega (arith, any.4.op, below, from_op) in
        let differs = missing (λ c. c.op == op) p.cases missed any.0 any.1 any.2 any.3 in
        absurd (clash any.1.op op e differs)
  ] where
    clash : (a b : ℕ) → a ≡ b → (a == b) ≡ false → ⊥
    clash a b e h = grind (arith, nat_tests)

  -- an operation of which nothing fits
  pub no_fit : (from op : ℕ) → NoneBetween p from op → ((y : Assignment) → IsMadeOfAny op p.cases y → ⊥) → NoneBetween p from (op + 1)
  no_fit from op none nothing y fitting above below = elim (cases_lt (value_of y slots.Op) op) [
    | inl less ↦ none y fitting above less
    | inr from_op ↦ nothing y (of_any op y fitting (omega (arith, below, from_op)))
  ]

  -- the first operation with which anything fits has the least from there on
  pub first_least : (from op : ℕ) (ps : List ℕ) (x : Assignment) → from ≤ op → NoneBetween p from op → ArePivots p op ps → IsLeastOf ps (IsMadeOfAny op p.cases) x → IsLeastFrom p from x
  first_least from op ps x le none pivots best =
      let op_is : value_of x slots.Op ≡ op = best.meets.1 in
      record {
        fitting = (best.meets.0, (law p x).1 best.meets.2);
        above = omega (arith, le, op_is);
        lower = λ y fitting above below. none y fitting above (omega (arith, below, op_is));
        least = λ y fitting same before.
            let s : Slot = before.0 in
            let P : ℕ → Type 0 = λ n. rank n (value_of y s) < rank n (value_of x s) in
            best.least y (of_any op y fitting (same ∙ op_is)) (s, before.1, subst P (ap (λ (k : ℕ). pivot_of p k s) (same ∙ op_is) ∙ sym (pivots s)) before.2);
      }

  module _ (problem : IsProblem p) (pivot : ℕ) (pivot_is : (op : ℕ) → pivot ≡ pivot_of p op slots.Op) where
    -- what comes before x has a lower rank of its operation, or the same operation
    by_operation : (y x : Assignment) → ComesBefore p y x → (rank pivot (value_of y slots.Op) < rank pivot (value_of x slots.Op)) ⊎ (value_of y slots.Op ≡ value_of x slots.Op)
    by_operation y x before = elim (op_or_later before.0) [
      | inl is ↦
          let P : Slot → Type 0 = λ s. rank (pivot_of p (value_of y slots.Op) s) (value_of y s) < rank (pivot_of p (value_of y slots.Op) s) (value_of x s) in
          let Q : ℕ → Type 0 = λ n. rank n (value_of y slots.Op) < rank n (value_of x slots.Op) in
          inl (subst Q (sym (pivot_is (value_of y slots.Op))) (subst P is before.2))
      | inr later ↦ inr (before.1 slots.Op later)
    ]

    -- the least from the pivot up is the least
    pub least_above : (x : Assignment) → IsLeastFrom p pivot x → IsLeast p x
    least_above x best = record {
      words = best.fitting.0;
      fitting = best.fitting.1;
      least = λ y words fitting before. elim (by_operation y x before) [
        | inl lower ↦
            let a : ℕ = value_of y slots.Op in
            let b : ℕ = value_of x slots.Op in
            let word : b < 2 ^ 32 = value_word x slots.Op best.fitting.0 in
            elim (cases_lt a pivot) [
              | inl below ↦ absurd (omega (arith, lower, rank_round pivot a below, rank_up pivot b best.above, word, best.above))
              | inr above ↦ best.lower y (words, fitting) above (omega (arith, lower, rank_up pivot a above, rank_up pivot b best.above))
            ]
        | inr same ↦ best.least y (words, fitting) same before
      ];
    }

    module _ (none : NoneBetween p pivot 58) where
      below_pivot : (y : Assignment) → IsFitting p y → value_of y slots.Op < pivot
      below_pivot y fitting = elim (cases_lt (value_of y slots.Op) pivot) [
        | inl below ↦ below
        | inr above ↦ absurd (none y fitting above (operation_below problem y fitting))
      ]

      -- where nothing fits from the pivot up, the least of all is the least
      pub least_below : (x : Assignment) → IsLeastFrom p 0 x → IsLeast p x
      least_below x best = record {
        words = best.fitting.0;
        fitting = best.fitting.1;
        least = λ y words fitting before. elim (by_operation y x before) [
          | inl lower ↦
              let a : ℕ = value_of y slots.Op in
              let b : ℕ = value_of x slots.Op in
              let a_below : a < pivot = below_pivot y (words, fitting) in
              let b_below : b < pivot = below_pivot x best.fitting in
              best.lower y (words, fitting) (omega arith) (omega (arith, lower, rank_round pivot a a_below, rank_round pivot b b_below))
          | inr same ↦ best.least y (words, fitting) same before
        ];
      }

      nothing : NoneBetween p 0 pivot → NothingFits p
      nothing low y words fitting = low y (words, fitting) (omega arith) (below_pivot y (words, fitting))

      pub rest_is_least : (o : Option Assignment) → MatchOption o (NoneBetween p 0 pivot) (IsLeastFrom p 0) → MatchOption o (NothingFits p) (IsLeast p)
      rest_is_least None low = nothing low
      rest_is_least (Some x) best = least_below x best
