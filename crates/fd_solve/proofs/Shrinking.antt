-- A bias that cuts no variable whose cut may make a space larger.
use Rattle.std.proofs.Common.{◌≡◌, ◌≢◌, ℕ, zero, suc, ◌+◌, ◌≤◌, ◌/◌, ◌||◌, ◌==◌, Bool, true, false, cond, List, [], ◌∷◌, length, map, filter, find, set, get_or, Option, Some, None, option_map, refl, sym, ap, ◌∙◌, subst, mul-le-mul, mul-le-mul_right, add-le-add, le_refl, le_trans, arith}
use Rattle.std.specs.Prelude.{if◌then◌else◌, not}
use Rattle.std.specs.List.{cons_option, filter_map, list_all, list_any}
use Rattle.std.proofs.lemmas.Bool.{and_parts}
use Rattle.std.proofs.lemmas.Option.{same_Some}
use Rattle.std.proofs.lemmas.List.{get_or-set_other}
use Rattle.dom_set.specs.Elements.{is_in}
use Rattle.fd_prob.specs.declared.problem.Case.{Case}
use Rattle.fd_prob.specs.declared.problem.Extra.{Extra}
use Rattle.fd_prob.specs.declared.problem.Problem.{Problem}
use Rattle.fd_prob.specs.declared.slot.Slot.{Slot}
use Rattle.fd_prob.specs.declared.slot.Slot.TheVariants as slots
use Rattle.fd_prob.specs.Extras.{cut_by, cut_by_all, extended}
use Rattle.fd_prob.specs.Fitting.{domain_of}
use Rattle.fd_prob.specs.Slots.{slot_number}
use Rattle.fd_prob.specs.Spaces.{access_space, allowed_case, allowed_cases, counted_fields, has_page, if_allowed, is_access, numbers_from, operation_space, pages_in, pages_of, product_of, saturated, size_in, source_of, space, sum_of}
use Rattle.rv_isa.specs.Numbers.{op_numbered}
use Rattle.rv_isa.specs.Table.{row_of}
use Rattle.fd_solve.specs.Internal.Marks.{bare, cut_case, first_of}
use Rattle.fd_solve.specs.Internal.Shrinking.{may_grow, shrinks}
use Rattle.fd_solve.proofs.FirstCases.{allowed_bare, bare_find, bare_map, bare_pages, bare_space, first_extended}

-- ---- lists of which some elements were taken away

-- no longer, and what an element passes an element of the other passes
record IsLess (xs ys : List ℕ) : Type 0 where
  pub size : length xs ≤ length ys
  pub has : (p : ℕ → Bool) → list_any p xs ≡ true → list_any p ys ≡ true

same_less : (xs : List ℕ) → IsLess xs xs
same_less xs = record { size = le_refl _; has = λ p h. h }

less_trans : (xs ys zs : List ℕ) → IsLess xs ys → IsLess ys zs → IsLess xs zs
less_trans xs ys zs one two = record { size = le_trans one.size two.size; has = λ p h. two.has p (one.has p h) }

one_more : (x : ℕ) (xs ys : List ℕ) → IsLess xs ys → IsLess xs (x ∷ ys)
one_more x xs ys less = record {
  size = omega (arith, less.size);
  has = λ p h. elim (p x) as (λ b. (b || list_any p ys) ≡ true) [ true ↦ refl | false ↦ less.has p h ];
}

both_more : (x : ℕ) (xs ys : List ℕ) → IsLess xs ys → IsLess (x ∷ xs) (x ∷ ys)
both_more x xs ys less = record {
  size = omega (arith, less.size);
  has = λ p. elim (p x) as (λ b. (b || list_any p xs) ≡ true → (b || list_any p ys) ≡ true) [ true ↦ λ h. refl | false ↦ λ h. less.has p h ];
}

filtered_less : (q : ℕ → Bool) (xs : List ℕ) → IsLess (filter q xs) xs
filtered_less q [] = same_less []
filtered_less q (x ∷ xs) = elim (q x) as (λ b. IsLess (cond b (x ∷ filter q xs) (filter q xs)) (x ∷ xs)) [
  | true ↦ both_more x (filter q xs) xs (filtered_less q xs)
  | false ↦ one_more x (filter q xs) xs (filtered_less q xs)
]

-- fewer numbers pass a test that implies another one
fewer_pass : (f g : ℕ → Bool) → ((n : ℕ) → f n ≡ true → g n ≡ true) → (ns : List ℕ) → length (filter f ns) ≤ length (filter g ns)
fewer_pass f g implies [] = le_refl _
fewer_pass f g implies (n ∷ ns) =
    let rest = fewer_pass f g implies ns in
    elim (f n) as (λ b. (b ≡ true → g n ≡ true) → length (cond b (n ∷ filter f ns) (filter f ns)) ≤ length (cond (g n) (n ∷ filter g ns) (filter g ns))) [
      | true ↦ λ h. subst (λ (b : Bool). length (n ∷ filter f ns) ≤ length (cond b (n ∷ filter g ns) (filter g ns))) (sym (h refl)) (omega (arith, rest))
      | false ↦ λ h. elim (g n) as (λ b. length (filter f ns) ≤ length (cond b (n ∷ filter g ns) (filter g ns))) [ true ↦ omega (arith, rest) | false ↦ rest ]
    ] (implies n)

less_pages : (xs ys : List ℕ) → IsLess xs ys → pages_of xs ≤ pages_of ys
less_pages xs ys less = fewer_pass (has_page xs) (has_page ys) (λ n. less.has (λ x. x / 4096 == n)) _

-- ---- domains that were cut

abbrev at_slot : List (List ℕ) → Slot → List ℕ
at_slot doms s = get_or doms (slot_number s) []

set_less : (f : List ℕ → List ℕ) → ((xs : List ℕ) → IsLess (f xs) xs) → (doms : List (List ℕ)) (n m : ℕ) → IsLess (get_or (set doms n (f (get_or doms n []))) m []) (get_or doms m [])
set_less f less [] n m = same_less _
set_less f less (d ∷ doms) zero zero = less d
set_less f less (d ∷ doms) zero (suc m) = same_less _
set_less f less (d ∷ doms) (suc n) zero = same_less d
set_less f less (d ∷ doms) (suc n) (suc m) = set_less f less doms n m

cut_less : (cuts : List (Slot × List ℕ)) (doms : List (List ℕ)) (s : Slot) → IsLess (at_slot (cut_by_all cuts doms) s) (at_slot doms s)
cut_less [] doms s = same_less _
cut_less (cut ∷ cuts) doms s =
    less_trans (at_slot (cut_by_all cuts (cut_by cut doms)) s) (at_slot (cut_by cut doms) s) (at_slot doms s)
    (cut_less cuts (cut_by cut doms) s)
    (set_less (filter (is_in cut.1)) (filtered_less (is_in cut.1)) doms (slot_number cut.0) (slot_number s))

not_true : (b : Bool) → not b ≡ true → b ≡ false
not_true true h = absurd (cc h)
not_true false h = refl

-- a variable that no cut is of
kept : (s : Slot) → ((t : Slot) → may_grow t ≡ false → slot_number s ≢ slot_number t) → (cuts : List (Slot × List ℕ)) (doms : List (List ℕ)) → list_all (λ cut. not (may_grow cut.0)) cuts ≡ true → at_slot (cut_by_all cuts doms) s ≡ at_slot doms s
kept s other [] doms all = refl
kept s other (cut ∷ cuts) doms all =
    let parts = and_parts _ _ all in
    kept s other cuts (cut_by cut doms) parts.1
    ∙ get_or-set_other doms (slot_number cut.0) (slot_number s) _ [] (other cut.0 (not_true _ parts.0))

-- the two are told by their places
grows_by_place : (t : Slot) → may_grow t ≡ (if slot_number t == 0 then true else slot_number t == 7)
grows_by_place slots.Op = refl
grows_by_place slots.Rs1 = refl
grows_by_place slots.Rs2 = refl
grows_by_place slots.Imm = refl
grows_by_place slots.Rd = refl
grows_by_place slots.Csr = refl
grows_by_place slots.Ea = refl
grows_by_place slots.A = refl
grows_by_place slots.B = refl
grows_by_place slots.FirstPte = refl
grows_by_place slots.SecondPte = refl
grows_by_place slots.DataWord = refl
grows_by_place slots.OldCsr = refl
grows_by_place slots.Vector = refl

not_op : (t : Slot) → may_grow t ≡ false → slot_number slots.Op ≢ slot_number t
not_op t h e = absurd (cc (sym h ∙ grows_by_place t ∙ ap (λ (n : ℕ). if n == 0 then true else n == 7) (sym e)))

not_a : (t : Slot) → may_grow t ≡ false → slot_number slots.A ≢ slot_number t
not_a t h e = absurd (cc (sym h ∙ grows_by_place t ∙ ap (λ (n : ℕ). if n == 0 then true else n == 7) (sym e)))

-- ---- spaces

size_less : (e : Extra) (c : Case) (s : Slot) → size_in (cut_case e c) s ≤ size_in c s
unfolding domain_of
size_less e c s = (cut_less e.cuts c.doms s).size

product_less : (f g : Slot → ℕ) → ((s : Slot) → f s ≤ g s) → (ss : List Slot) → product_of (map f ss) ≤ product_of (map g ss)
product_less f g less [] = le_refl _
product_less f g less (s ∷ ss) = mul-le-mul (less s) (product_less f g less ss)

sum_less : (f g : Case → ℕ) → ((c : Case) → f c ≤ g c) → (cs : List Case) → sum_of (map f cs) ≤ sum_of (map g cs)
sum_less f g less [] = le_refl _
sum_less f g less (c ∷ cs) = omega (arith, less c, sum_less f g less cs)

saturated_less : (m n : ℕ) → m ≤ n → saturated m ≤ saturated n
saturated_less m n h = omega (arith, h)

module _ (e : Extra) (small : shrinks e ≡ true) where
  source_kept : (c : Case) → size_in (cut_case e c) slots.A ≡ size_in c slots.A
  unfolding domain_of
  source_kept c = ap length (kept slots.A not_a e.cuts c.doms small)

  op_kept : (c : Case) → domain_of (cut_case e c) slots.Op ≡ domain_of c slots.Op
  unfolding domain_of
  op_kept c = kept slots.Op not_op e.cuts c.doms small

  one_less : (c : Case) → operation_space (cut_case e c) ≤ operation_space c
  unfolding operation_space
  one_less c = mul-le-mul
      (product_less (size_in (cut_case e c)) (size_in c) (size_less e c) (counted_fields (row_of (op_numbered c.op))))
      (subst (λ (n : ℕ). source_of (op_numbered c.op) n ≤ source_of (op_numbered c.op) (size_in c slots.A)) (sym (source_kept c)) (le_refl _))

  pages_less : (o : Option Case) → pages_in (option_map (cut_case e) o) ≤ pages_in o
  unfolding domain_of
  pages_less None = le_refl _
  pages_less (Some c) = less_pages _ _ (cut_less e.cuts c.doms slots.Ea)

  allowed_cut : (o : Option Case) → if_allowed (option_map (cut_case e) (option_map bare o)) ≡ option_map (cut_case e) (if_allowed o)
  allowed_cut None = refl
  allowed_cut (Some c) =
      ap (λ (d : List ℕ). if is_in d c.op then Some (cut_case e c) else None) (op_kept c)
      ∙ elim (is_in (domain_of c slots.Op) c.op) as (λ b. (if b then Some (cut_case e c) else None) ≡ option_map (cut_case e) (if b then Some c else None)) [ true ↦ refl | false ↦ refl ]

  chosen_cut : (a b : Option Case) (xs ys : List Case) → option_map bare a ≡ option_map (cut_case e) b → map bare xs ≡ map (cut_case e) ys → map bare (cons_option a xs) ≡ map (cut_case e) (cons_option b ys)
  chosen_cut None None xs ys same rest = rest
  chosen_cut None (Some c) xs ys same rest = absurd (cc same)
  chosen_cut (Some c) None xs ys same rest = absurd (cc same)
  chosen_cut (Some c) (Some d) xs ys same rest = ap (λ (k : Case). k ∷ map bare xs) (same_Some (bare c) (cut_case e d) same) ∙ ap (λ (cs : List Case). cut_case e d ∷ cs) rest

  all_cut : (f g : ℕ → Option Case) → ((n : ℕ) → option_map bare (f n) ≡ option_map (cut_case e) (g n)) → (ns : List ℕ) → map bare (filter_map f ns) ≡ map (cut_case e) (filter_map g ns)
  all_cut f g same [] = refl
  all_cut f g same (n ∷ ns) = chosen_cut (f n) (g n) (filter_map f ns) (filter_map g ns) (same n) (all_cut f g same ns)

  cut_find : (cs : List Case) → find is_access (map (cut_case e) cs) ≡ option_map (cut_case e) (find is_access cs)
  cut_find [] = refl
  cut_find (c ∷ cs) =
      elim (is_access c) as (λ b. cond b (Some (cut_case e c)) (find is_access (map (cut_case e) cs)) ≡ option_map (cut_case e) (cond b (Some c) (find is_access cs))) [
        | true ↦ refl
        | false ↦ cut_find cs
      ]

  map_map : (cs : List Case) → map operation_space (map (cut_case e) cs) ≡ map (λ c. operation_space (cut_case e c)) cs
  map_map [] = refl
  map_map (c ∷ cs) = ap (λ (ns : List ℕ). operation_space (cut_case e c) ∷ ns) (map_map cs)

  module _ (p : Problem) (entries : length e.cases ≡ length p.cases) where
    same_allowed : (op : ℕ) → option_map bare (allowed_case (extended e p).cases op) ≡ option_map (cut_case e) (allowed_case p.cases op)
    unfolding allowed_case
    same_allowed op =
        allowed_bare (first_of (extended e p).cases op)
        ∙ ap if_allowed (first_extended e e.cases p.cases op entries)
        ∙ allowed_cut (first_of p.cases op)

    cut_cases : map bare (allowed_cases (extended e p)) ≡ map (cut_case e) (allowed_cases p)
    cut_cases = all_cut (allowed_case (extended e p).cases) (allowed_case p.cases) same_allowed (numbers_from 0 58)

    operations_less : sum_of (map operation_space (allowed_cases (extended e p))) ≤ sum_of (map operation_space (allowed_cases p))
    operations_less =
        let same : map operation_space (allowed_cases (extended e p)) ≡ map (λ c. operation_space (cut_case e c)) (allowed_cases p) =
        sym (bare_map operation_space bare_space (allowed_cases (extended e p))) ∙ ap (map operation_space) cut_cases ∙ map_map (allowed_cases p) in
        subst (λ (ns : List ℕ). sum_of ns ≤ sum_of (map operation_space (allowed_cases p))) (sym same) (sum_less (λ c. operation_space (cut_case e c)) operation_space one_less (allowed_cases p))

    accesses_less : pages_in (find is_access (allowed_cases (extended e p))) ≤ pages_in (find is_access (allowed_cases p))
    accesses_less =
        let same : pages_in (find is_access (allowed_cases (extended e p))) ≡ pages_in (option_map (cut_case e) (find is_access (allowed_cases p))) =
        sym (bare_pages (find is_access (allowed_cases (extended e p)))) ∙ ap pages_in (sym (bare_find (allowed_cases (extended e p))))
        ∙ ap (λ (cs : List Case). pages_in (find is_access cs)) cut_cases ∙ ap pages_in (cut_find (allowed_cases p)) in
        subst (λ (n : ℕ). n ≤ pages_in (find is_access (allowed_cases p))) (sym same) (pages_less (find is_access (allowed_cases p)))

    -- the space with the bias is no larger
    pub space_shrinks : space (extended e p) ≤ space p
    space_shrinks = elim p.fetch as (λ b. (if b then p.pairs else saturated (sum_of (map operation_space (allowed_cases (extended e p))) + access_space (extended e p))) ≤ (if b then p.pairs else saturated (sum_of (map operation_space (allowed_cases p)) + access_space p))) [
      | true ↦ le_refl _
      | false ↦ saturated_less _ _ (add-le-add operations_less (mul-le-mul_right p.pairs accesses_less))
    ]
