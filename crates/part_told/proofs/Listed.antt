-- Words by number, as pairs by ascending address.
use Rattle.std.proofs.Common.{◌≡◌, ℕ, ◌+◌, ◌*◌, ◌/◌, ◌<◌, ◌≤◌, ◌^◌, true, List, [], ◌∷◌, ◌++◌, map, Option, Some, None, refl, sym, ap, ◌∙◌, subst, inl, inr, arith}
use Rattle.std.specs.Prelude.{All, IsSome}
use Rattle.std.specs.List.{AllByRecursion}
use Rattle.std.specs.List.Sorted.{IsStrictlySortedBy}
use Rattle.std.specs.BTreeMap.{BTreeMap, get, is_at, IsOrdered}
use Rattle.std.specs.Map.{lookup, keys_of}
use Rattle.std.specs.Ordering.{nat_cmp}
use Rattle.std.specs.declared.cmp.Ordering.TheVariants.{Less, Equal, Greater}
use Rattle.std.proofs.lemmas.Cmp.{nat_cmp_total, eq_by_cmp_equiv}
use Rattle.std.proofs.lemmas.Map.Views.{All-keys_from_lookup}
use Rattle.std.proofs.lemmas.List.{map-append}
use Rattle.std.proofs.lemmas.List.Elements.{All-head, All-tail}
use Rattle.std.proofs.lemmas.Bool.{cases_eq, cases_lt, eq-eqb, ne_eqb, le-ltb}
use Rattle.rv_mem.specs.Ram.{in_ram}
use Rattle.tpl_admit.specs.Starts.{lookup as value_in}
use Rattle.part_machine.specs.Whole.{given}
use Rattle.part_told.specs.Words.{at_address, AreListed, IsWithinRam, ListsWords}
use Rattle.part_told.proofs.Numbers.{is_at_number}

-- an address has the value of its number
found_address : (es : List (ℕ × ℕ)) (n : ℕ) → value_in (map at_address es) (n * 4) ≡ lookup (is_at (nat_cmp n)) es
found_address [] n = refl
found_address (e ∷ es) n = elim (cases_eq e.0 n) [
  | inl same ↦ rw (eq-eqb (e.0 * 4) (n * 4) (omega (arith, same)), is_at_number n e.0, eq-eqb e.0 n same) refl
  | inr apart ↦ rw (ne_eqb (e.0 * 4) (n * 4) (λ h. apart (omega (arith, h))), is_at_number n e.0, ne_eqb e.0 n apart) (found_address es n)
]

later_above : (k : ℕ) (ks : List ℕ) → AllByRecursion (λ y. nat_cmp k y ≡ Less) ks → AllByRecursion (λ y. k + 1 ≤ y) ks
later_above k [] are = tt
later_above k (y ∷ ks) are = (elim (cases_lt k y) [ inl below ↦ omega (arith, below) | inr above ↦ absurd (not_less above are.0) ], later_above k ks are.1)
  where
    not_less : y ≤ k → nat_cmp k y ≡ Less → ⊥
    not_less above less = elim (cases_eq k y) [
      | inl same ↦ (let no : Equal ≡ Less = rw (le-ltb k y above, eq-eqb k y same) at less in absurd (cc no))
      | inr apart ↦ (let no : Greater ≡ Less = rw (le-ltb k y above, ne_eqb k y apart) at less in absurd (cc no))
    ]

listed_from : (ram : List (ℕ × ℕ)) (from : ℕ) (es : List (ℕ × ℕ)) → IsStrictlySortedBy nat_cmp (keys_of es) → AllByRecursion (λ k. from ≤ k) (keys_of es)
    → AllByRecursion (λ e. e.1 < 2 ^ 32) (map at_address es) → All (λ k. in_ram ram k ≡ true) (keys_of es) → AreListed ram (from * 4) (map at_address es)
unfolding IsStrictlySortedBy
listed_from ram from [] sorted above words there = tt
listed_from ram from (e ∷ es) sorted above words there =
    let number : e.0 * 4 / 4 ≡ e.0 = omega arith in
    let next : (e.0 + 1) * 4 ≡ e.0 * 4 + 4 = omega arith in (
      omega (arith, above.0),
      omega arith,
      ap (in_ram ram) number ∙ All-head (λ k. in_ram ram k ≡ true) e.0 (keys_of es) there,
      words.0,
      subst (λ (n : ℕ). AreListed ram n (map at_address es)) next (listed_from ram (e.0 + 1) es sorted.1 (later_above e.0 (keys_of es) sorted.0) words.1 (All-tail (λ k. in_ram ram k ≡ true) e.0 (keys_of es) there)),
    )

all_above : (ks : List ℕ) → AllByRecursion (λ k. 0 ≤ k) ks
all_above [] = tt
all_above (k ∷ ks) = (omega arith, all_above ks)

-- a map's entries, at their addresses
pub lists : (ram words pairs : List (ℕ × ℕ)) (m : BTreeMap ℕ ℕ) → IsOrdered nat_cmp m → ((n : ℕ) → get nat_cmp m n ≡ given words n) → pairs ≡ map at_address m.entries → AllByRecursion (λ e. e.1 < 2 ^ 32) pairs → IsWithinRam ram words → ListsWords ram words pairs
lists ram words pairs m ordered values is small inside = record {
  values = λ n. ap (λ (ps : List (ℕ × ℕ)). value_in ps (n * 4)) is ∙ found_address m.entries n ∙ values n;
  listed = subst (λ (ps : List (ℕ × ℕ)). AreListed ram 0 ps) (sym is) (listed_from ram 0 m.entries ordered (all_above (keys_of m.entries))
      (subst (λ (ps : List (ℕ × ℕ)). AllByRecursion (λ e. e.1 < 2 ^ 32) ps) is small) there);
}
  where
    has : (q : ℕ) (o : Option ℕ) → get nat_cmp m q ≡ o → IsSome o → in_ram ram q ≡ true
    has q None e some = absurd (cc some)
    has q (Some v) e some = inside q v (sym (values q) ∙ e)

    there : All (λ k. in_ram ram k ≡ true) (keys_of m.entries)
    there = All-keys_from_lookup (eq_by_cmp_equiv nat_cmp_total) (λ k. in_ram ram k ≡ true) m.entries (λ q some. has q (get nat_cmp m q) refl some)

pub addresses_more : {A : Type 0} (f : A → ℕ × ℕ) (ys : List A) (y : A) (pairs new : List (ℕ × ℕ)) → pairs ≡ map at_address (map f ys) → new ≡ pairs ++ at_address (f y) ∷ [] → new ≡ map at_address (map f (ys ++ y ∷ []))
addresses_more f ys y pairs new old more =
    more ∙ ap (λ (ps : List (ℕ × ℕ)). ps ++ at_address (f y) ∷ []) old ∙ sym (map-append at_address (map f ys) (f y ∷ [])) ∙ ap (map at_address) (sym (map-append f ys (y ∷ [])))
