-- The search in the domains of a case.
use Rattle.std.proofs.Common.{◌≡◌, ℕ, ◌+◌, ◌^◌, ◌<◌, ◌≤◌, Bool, true, false, not, ◌||◌, IsTrue, refl, eqb-true, List, [], ◌∷◌, length, Some, slice_index, inl, inr, ⊎_elim, sym, ap, ◌∙◌, subst, arith, get_or}
use Rattle.std.specs.List.{list_all}
use Rattle.std.proofs.lemmas.Bool.{cases_lt, false≢true, or_left, or_right}
use Rattle.std.proofs.lemmas.List.{ext_get_or}
use Rattle.std.proofs.lemmas.List.Sums.{AllPass-from_list_all, list_all-from_AllPass}
use Rattle.rv_isa.specs.declared.operation.Op.{Op}
use Rattle.dom_set.specs.Elements.{is_in}
use Rattle.fd_narrow.specs.Narrowing.{AllHold, IsInside, domain_in}
use Rattle.fd_prob.specs.declared.problem.Assignment.{Assignment}
use Rattle.fd_prob.specs.declared.problem.Case.{Case}
use Rattle.fd_prob.specs.declared.relation.Rel.{Rel}
use Rattle.fd_prob.specs.declared.relation.Rel.TheVariants.{In}
use Rattle.fd_prob.specs.declared.slot.Slot.{Slot}
use Rattle.fd_prob.specs.Mentions.{is_slot}
use Rattle.case_search.specs.Internal.Skipping.{all_let, lets}
use Rattle.fd_prob.specs.declared.slot.Slot.TheVariants as slots
use Rattle.fd_prob.specs.declared.slot.TheConstants.{SLOTS}
use Rattle.fd_prob.specs.Order.{IsAssignment, rank}
use Rattle.fd_prob.specs.Relations.{holds, value_of}
use Rattle.rv_isa.specs.Numbers.{op_numbered}
use Rattle.fd_prob.specs.Slots.{slot_number}
use Rattle.case_search.specs.Search.{FixedBelow, IsCut, IsLeastOf, IsMet, IsNext}
use Rattle.fd_prob.proofs.Places.{in_place, place_below}
use Rattle.case_search.proofs.Putting.{value_word}
use Rattle.case_search.proofs.Ranks.{is_first_or_later, rank_injective}

-- whatever meets the case and has a value of rank below k for the variable was looked for in vain
abbrev pub Tried : Case → List (List ℕ) → Slot → ℕ → ℕ → Type 0
Tried c doms s pivot k = (y : Assignment) → IsMet c doms y → rank pivot (value_of y s) < k → ⊥

-- at one place both have one value
same_at : (x y : Assignment) (s t : Slot) → slot_number t ≡ slot_number s → value_of x s ≡ value_of y s → value_of x t ≡ value_of y t
same_at x y s t e same = let P : ℕ → Type 0 = λ n. slice_index x.values n ≡ slice_index y.values n in subst P (sym e) same

same_value_at : (x : Assignment) (t s : Slot) → slot_number t ≡ slot_number s → value_of x t ≡ value_of x s
same_value_at x t s e = ap (slice_index x.values) e

-- what holds has values in the sets of its relations
holding_lets : (op : Op) (x : Assignment) (s : Slot) (r : Rel) → IsTrue (holds op x r) → lets r s (value_of x s) ≡ true
holding_lets op x s (In t set) h = go (is_slot t s) refl
  where
    go : (b : Bool) → is_slot t s ≡ b → (not (is_slot t s) || is_in set (value_of x s)) ≡ true
    go true same = or_right (not (is_slot t s)) (is_in set (value_of x s)) (ap (is_in set) (sym (same_value_at x t s (eqb-true (slot_number t) (slot_number s) same))) ∙ h)
    go false other = or_left (not (is_slot t s)) (is_in set (value_of x s)) (ap not other)
holding_lets op x s _ h = refl

-- so values that these sets lack were looked for in vain
pub skipped : (c : Case) (doms : List (List ℕ)) (s : Slot) (pivot k next : ℕ) (domain : List ℕ) (rels : List Rel) → domain ≡ domain_in doms s → rels ≡ c.rels
    → ((w : ℕ) → IsTrue (is_in domain w) → k ≤ rank pivot w → rank pivot w < next → all_let rels s w ≡ false) → Tried c doms s pivot k → Tried c doms s pivot next
skipped c doms s pivot k next domain rels domain_is rels_are passed tried y met less = elim (cases_lt (rank pivot (value_of y s)) k) [
  | inl before ↦ tried y met before
  | inr from ↦
      let lacks : all_let c.rels s (value_of y s) ≡ false =
      subst (λ (l : List Rel). all_let l s (value_of y s) ≡ false) rels_are (passed (value_of y s) (subst (λ (l : List ℕ). IsTrue (is_in l (value_of y s))) (sym domain_is) (met.inside s)) from less) in
      let all : all_let c.rels s (value_of y s) ≡ true = list_all-from_AllPass (λ r. lets r s (value_of y s)) c.rels (λ i d lt. holding_lets (op_numbered c.op) y s (get_or c.rels i d) (met.holding i d lt)) in
      false≢true (sym lacks ∙ all)
]

one_more_fixed : (doms : List (List ℕ)) (s : Slot) → FixedBelow doms (slot_number s) → ((x y : Assignment) → IsInside doms x → IsInside doms y → value_of x s ≡ value_of y s) → FixedBelow doms (slot_number s + 1)
one_more_fixed doms s fixed same x y ix iy t below = elim (cases_lt (slot_number t) (slot_number s)) [
  | inl less ↦ fixed x y ix iy t less
  | inr from ↦ same_at x y s t (omega (arith, below, from)) (same x y ix iy)
]

-- two members of a set of one number
pub members_same : (xs : List ℕ) (a b : ℕ) → length xs ≡ 1 → is_in xs a ≡ true → is_in xs b ≡ true → a ≡ b
members_same [] a b one ia ib = absurd (omega (arith, one))
members_same (x ∷ y ∷ ys) a b one ia ib = absurd (omega (arith, one))
members_same (x ∷ []) a b one ia ib = ⊎_elim (λ e. ⊎_elim (λ f. sym e ∙ f) (λ none. absurd (cc none)) (is_first_or_later x b [] ib)) (λ none. absurd (cc none)) (is_first_or_later x a [] ia)

-- a domain of one number fixes its variable
pub single_fixes : (doms : List (List ℕ)) (s : Slot) → FixedBelow doms (slot_number s) → length (domain_in doms s) ≡ 1 → FixedBelow doms (slot_number s + 1)
single_fixes doms s fixed one = one_more_fixed doms s fixed (λ x y ix iy. members_same (domain_in doms s) (value_of x s) (value_of y s) one (ix s) (iy s))

module _ (c : Case) (doms : List (List ℕ)) (s : Slot) (v : ℕ) (cut : List (List ℕ)) (cuts : IsCut c doms s v cut) where
  pub outward : (x : Assignment) → IsMet c cut x → IsMet c doms x
  outward x met = record { words = met.words; inside = cuts.within x met.inside; holding = met.holding }

  pub inward : (x : Assignment) → IsMet c doms x → value_of x s ≡ v → IsMet c cut x
  inward x met is = record { words = met.words; inside = cuts.keeps x met.inside is met.holding; holding = met.holding }

  -- with one value more variables are fixed
  pub fixed_next : FixedBelow doms (slot_number s) → FixedBelow cut (slot_number s + 1)
  fixed_next fixed = one_more_fixed cut s (λ x y ix iy. fixed x y (cuts.within x ix) (cuts.within y iy)) (λ x y ix iy. cuts.value x ix ∙ sym (cuts.value y iy))

  -- where nothing has a lower rank for the variable, the least with the value is the least of all
  pub found : (ps : List ℕ) → ((y : Assignment) → IsMet c doms y → rank (slice_index ps (slot_number s)) (value_of y s) < rank (slice_index ps (slot_number s)) v → ⊥) → FixedBelow doms (slot_number s) → (x : Assignment) → IsLeastOf ps (IsMet c cut) x → IsLeastOf ps (IsMet c doms) x
  found ps lower fixed x best = record {
    meets = outward x best.meets;
    least = λ y met before.
        let p : ℕ = slice_index ps (slot_number s) in
        let x_is : value_of x s ≡ v = cuts.value x best.meets.inside in
        elim (cases_lt (slot_number before.0) (slot_number s)) [
          | inl less ↦
              let e = ap (rank (slice_index ps (slot_number before.0))) (fixed y x met.inside (cuts.within x best.meets.inside) before.0 less) in
              omega (arith, before.2, e)
          | inr from ↦ elim (cases_lt (slot_number s) (slot_number before.0)) [
            | inl later ↦ best.least y (inward y met (before.1 s later ∙ x_is)) before
            | inr to ↦
                let e : slot_number before.0 ≡ slot_number s = omega (arith, from, to) in
                let P : ℕ → Type 0 = λ n. rank (slice_index ps n) (slice_index y.values n) < rank (slice_index ps n) (slice_index x.values n) in
                let nearer : rank p (value_of y s) < rank p (value_of x s) = subst P e before.2 in
                let same = ap (rank p) x_is in
                lower y met (omega (arith, nearer, same))
          ]
        ];
  }

  module _ (ps : List ℕ) (k : ℕ) (tried : Tried c doms s (slice_index ps (slot_number s)) k) (next : IsNext (domain_in doms s) (slice_index ps (slot_number s)) k (Some v)) where
    -- nothing has a lower rank than the next value
    pub none_lower : (y : Assignment) → IsMet c doms y → rank (slice_index ps (slot_number s)) (value_of y s) < rank (slice_index ps (slot_number s)) v → ⊥
    none_lower y met less = elim (cases_lt (rank (slice_index ps (slot_number s)) (value_of y s)) k) [
      | inl before_k ↦ tried y met before_k
      | inr behind_k ↦ let far = next.2 (value_of y s) (met.inside s) behind_k in omega (arith, far, less)
    ]

    -- the next value was tried in vain
    pub one_tried : slice_index ps (slot_number s) < 2 ^ 32 → v < 2 ^ 32 → ((y : Assignment) → IsMet c cut y → ⊥) → Tried c doms s (slice_index ps (slot_number s)) (rank (slice_index ps (slot_number s)) v + 1)
    one_tried lp lv none y met below =
        let p : ℕ = slice_index ps (slot_number s) in
        elim (cases_lt (rank p (value_of y s)) k) [
          | inl before_k ↦ tried y met before_k
          | inr behind_k ↦
              let far = next.2 (value_of y s) (met.inside s) behind_k in
              let same : rank p (value_of y s) ≡ rank p v = omega (arith, far, below) in
              none y (inward y met (rank_injective p (value_of y s) v lp (value_word y s met.words) lv same))
        ]

-- where all variables are fixed, one assignment is all there is
module _ (c : Case) (doms : List (List ℕ)) (fixed : FixedBelow doms 14) (x : Assignment) (words : IsAssignment x) (inside : IsInside doms x) where
  pub last_found : AllHold (op_numbered c.op) c.rels x → (ps : List ℕ) → IsLeastOf ps (IsMet c doms) x
  last_found holding ps = record {
    meets = record { words = words; inside = inside; holding = holding };
    least = λ y met before.
        let e = ap (rank (slice_index ps (slot_number before.0))) (fixed y x met.inside inside before.0 (place_below before.0)) in
        omega (arith, before.2, e);
  }

  same_value : (y : Assignment) → IsInside doms y → (n : ℕ) → n < 14 → slice_index y.values n ≡ slice_index x.values n
  same_value y iy n lt =
      let s : Slot = get_or SLOTS n slots.Op in
      let P : ℕ → Type 0 = λ m. slice_index y.values m ≡ slice_index x.values m in
      subst P (in_place n slots.Op lt) (fixed y x iy inside s (place_below s))

  is_x : (y : Assignment) → IsAssignment y → IsInside doms y → y ≡ x
  is_x y wy iy =
      let e : y.values ≡ x.values = ext_get_or 0 y.values x.values (wy.length ∙ sym words.length) (λ n lt. same_value y iy n (omega (arith, lt, wy.length))) in
      let made : List ℕ → Assignment = λ v. record { values = v } in
      ap made e

  pub last_none : (AllHold (op_numbered c.op) c.rels x → ⊥) → (y : Assignment) → IsMet c doms y → ⊥
  last_none fails y met = fails (subst (AllHold (op_numbered c.op) c.rels) (is_x y met.words met.inside) met.holding)

-- the same of a variable that stands at a place
pub single_at : (doms : List (List ℕ)) (s : Slot) (n : ℕ) → slot_number s ≡ n → FixedBelow doms n → length (domain_in doms s) ≡ 1 → FixedBelow doms (n + 1)
single_at doms s n place fixed one = subst (λ (m : ℕ). FixedBelow doms (m + 1)) place (single_fixes doms s (subst (FixedBelow doms) (sym place) fixed) one)

module _ (c : Case) (doms start : List (List ℕ)) (start_is : start ≡ doms) (s : Slot) (v : ℕ) (cut : List (List ℕ)) (cuts : IsCut c start s v cut) (n : ℕ) (place : slot_number s ≡ n) where
  cuts_here : IsCut c doms s v cut
  cuts_here = subst (λ (ds : List (List ℕ)). IsCut c ds s v cut) start_is cuts

  pub fixed_at : FixedBelow doms n → FixedBelow cut (n + 1)
  fixed_at fixed = subst (λ (m : ℕ). FixedBelow cut (m + 1)) place (fixed_next c doms s v cut cuts_here (subst (FixedBelow doms) (sym place) fixed))

  module _ (ps : List ℕ) (k : ℕ) (domain : List ℕ) (domain_is : domain ≡ domain_in doms s) (tried : Tried c doms s (slice_index ps n) k) (next : IsNext domain (slice_index ps n) k (Some v)) where
    tried_here : Tried c doms s (slice_index ps (slot_number s)) k
    tried_here = subst (λ (m : ℕ). Tried c doms s (slice_index ps m) k) (sym place) tried

    next_here : IsNext (domain_in doms s) (slice_index ps (slot_number s)) k (Some v)
    next_here = subst (λ (m : ℕ). IsNext (domain_in doms s) (slice_index ps m) k (Some v)) (sym place) (subst (λ (xs : List ℕ). IsNext xs (slice_index ps n) k (Some v)) domain_is next)

    pub found_at : FixedBelow doms n → (x : Assignment) → IsLeastOf ps (IsMet c cut) x → IsLeastOf ps (IsMet c doms) x
    found_at fixed x best = found c doms s v cut cuts_here ps (none_lower c doms s v cut cuts_here ps k tried_here next_here) (subst (FixedBelow doms) (sym place) fixed) x best

    pub one_tried_at : slice_index ps n < 2 ^ 32 → v < 2 ^ 32 → ((y : Assignment) → IsMet c cut y → ⊥) → Tried c doms s (slice_index ps n) (rank (slice_index ps n) v + 1)
    one_tried_at lp lv none =
        let word : slice_index ps (slot_number s) < 2 ^ 32 = subst (λ (m : ℕ). slice_index ps m < 2 ^ 32) (sym place) lp in
        subst (λ (m : ℕ). Tried c doms s (slice_index ps m) (rank (slice_index ps m) v + 1)) place (one_tried c doms s v cut cuts_here ps k tried_here next_here word lv none)

-- all relations hold where the test of the code says so
module _ (c : Case) (op : Op) (rels : List Rel) (x : Assignment) (op_is : op ≡ op_numbered c.op) (rels_is : rels ≡ c.rels) where
  tested_as : list_all (holds op x) rels ≡ list_all (holds (op_numbered c.op) x) c.rels
  tested_as = ap (λ (o : Op). list_all (holds o x) rels) op_is ∙ ap (λ (rs : List Rel). list_all (holds (op_numbered c.op) x) rs) rels_is

  pub holding_of : true ≡ list_all (holds op x) rels → AllHold (op_numbered c.op) c.rels x
  holding_of h = AllPass-from_list_all (holds (op_numbered c.op) x) c.rels (sym tested_as ∙ sym h)

  pub not_holding_of : false ≡ list_all (holds op x) rels → AllHold (op_numbered c.op) c.rels x → ⊥
  not_holding_of h holding = false≢true (h ∙ tested_as ∙ list_all-from_AllPass (holds (op_numbered c.op) x) c.rels holding)
