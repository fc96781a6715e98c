-- Footprints of records, with some accesses more.
use Rattle.std.proofs.Common.{◌≡◌, ◌≢◌, ℕ, ◌+◌, ◌/◌, ◌<◌, ◌≤◌, ◌⊎◌, true, ◌&&◌, eqb, leb, ltb, List, [], ◌∷◌, ◌++◌, refl, sym, subst, inl, inr, arith}
use Rattle.std.specs.Prelude.{All}
use Rattle.std.specs.List.{list_any}
use Rattle.std.proofs.lemmas.Bool.{cases_eq, eqb-true, eq-eqb, and_parts, and_from, or_cases, or_left, or_right, leb-true, ltb-true}
use Rattle.std.proofs.lemmas.List.Elements.{All-head, All-tail}
use Rattle.rv_script.specs.declared.access.Access.{Access}
use Rattle.rv_script.specs.declared.access.Role.{Role}
use Rattle.rv_script.specs.Lists.{HasItem}
use Rattle.rv_script.specs.Bytes.{covers}
use Rattle.rv_script.proofs.Items.{has_either, has_first, has_second}
use Rattle.rv_hart.specs.Effects.{IsInWord}
use Rattle.foot_map.specs.Touches.{is_part, same_role}
use Rattle.foot_map.specs.Order.{rank}
use Rattle.foot_map.proofs.Orders.{same_role_is}
use Rattle.part_machine.specs.Notes.{Feet, touched}
use Rattle.part_state.specs.Meaning.{IsFootOf}

-- one of the bytes that an access adds
pub record IsPartOf (k : ℕ) (x : Access) (b h : ℕ) (r : Role) : Type 0 where
  pub hart : k ≡ h
  pub role : x.role ≡ r
  pub byte : covers x b ≡ true

part_is : (k : ℕ) (x : Access) (b h : ℕ) (r : Role) → IsInWord x → is_part k x.role x.addr x.size b h r ≡ true → IsPartOf k x b h r
part_is k x b h r word t =
    let p = and_parts (leb x.addr b && ltb b (x.addr + x.size)) (eqb k h && same_role x.role r) t in
    let q = and_parts (leb x.addr b) (ltb b (x.addr + x.size)) p.0 in
    let o = and_parts (eqb k h) (same_role x.role r) p.1 in
    let low : x.addr ≤ b = leb-true x.addr b q.0 in
    let high : b < x.addr + x.size = ltb-true b (x.addr + x.size) q.1 in
    let same : b / 4 ≡ x.addr / 4 = omega (arith, low, high, word.within) in
    record {
      hart = eqb-true k h o.0;
      role = same_role_is x.role r o.1;
      byte = and_from _ _ (eq-eqb (b / 4) (x.addr / 4) same) p.0;
    }

is_part_of : (k : ℕ) (x : Access) (b : ℕ) → covers x b ≡ true → is_part k x.role x.addr x.size b k x.role ≡ true
is_part_of k x b c =
    let p = and_parts (eqb (b / 4) (x.addr / 4)) (leb x.addr b && ltb b (x.addr + x.size)) c in
    and_from _ _ p.1 (and_from _ _ (eq-eqb k k refl) (eq-eqb (rank x.role) (rank x.role) refl))

any_part : (k : ℕ) (xs : List Access) (b h : ℕ) (r : Role) → All IsInWord xs → list_any (λ x. is_part k x.role x.addr x.size b h r) xs ≡ true → (x : Access) × HasItem xs x × IsPartOf k x b h r
any_part k [] b h r words t = absurd (cc t)
any_part k (x ∷ xs) b h r words t = elim (or_cases (is_part k x.role x.addr x.size b h r) _ t) [
  | inl here ↦ (x, inl refl, part_is k x b h r (All-head IsInWord x xs words) here)
  | inr later ↦ let y = any_part k xs b h r (All-tail IsInWord x xs words) later in (y.0, inr y.1, y.2)
]

part_any : (k : ℕ) (xs : List Access) (x : Access) (b : ℕ) → HasItem xs x → covers x b ≡ true → list_any (λ y. is_part k y.role y.addr y.size b k x.role) xs ≡ true
part_any k [] x b i c = absurd i
part_any k (y ∷ xs) x b i c = elim i [
  | inl here ↦ or_left _ _ (subst (λ (z : Access). is_part k z.role z.addr z.size b k x.role ≡ true) (sym here) (is_part_of k x b c))
  | inr later ↦ or_right _ _ (part_any k xs x b later c)
]

-- with some accesses more of hart k
pub record IsMore (k : ℕ) (xs : List Access) (did did' : ℕ → List Access) : Type 0 where
  pub here : did' k ≡ did k ++ xs
  pub there : (j : ℕ) → j ≢ k → did' j ≡ did j

pub keeps : (k : ℕ) (xs : List Access) (did did' : ℕ → List Access) → IsMore k xs did did' → (j : ℕ) (x : Access) → HasItem (did j) x → HasItem (did' j) x
keeps k xs did did' m j x i = elim (cases_eq j k) [
  | inl same ↦ subst (λ (l : ℕ). HasItem (did' l) x) (sym same) (subst (λ (ys : List Access). HasItem ys x) (sym m.here) (has_first (did k) xs x (subst (λ (l : ℕ). HasItem (did l) x) same i)))
  | inr other ↦ subst (λ (ys : List Access). HasItem ys x) (sym (m.there j other)) i
]

pub adds : (k : ℕ) (xs : List Access) (did did' : ℕ → List Access) → IsMore k xs did did' → (x : Access) → HasItem xs x → HasItem (did' k) x
adds k xs did did' m x i = subst (λ (ys : List Access). HasItem ys x) (sym m.here) (has_second (did k) xs x i)

pub was : (k : ℕ) (xs : List Access) (did did' : ℕ → List Access) → IsMore k xs did did' → (j : ℕ) (x : Access) → HasItem (did' j) x → HasItem (did j) x ⊎ ((j ≡ k) × HasItem xs x)
was k xs did did' m j x i = elim (cases_eq j k) [
  | inl same ↦ elim (has_either (did k) xs x (subst (λ (ys : List Access). HasItem ys x) m.here (subst (λ (l : ℕ). HasItem (did' l) x) same i))) [
    | inl old ↦ inl (subst (λ (l : ℕ). HasItem (did l) x) (sym same) old)
    | inr new ↦ inr (same, new)
  ]
  | inr other ↦ inl (subst (λ (ys : List Access). HasItem ys x) (m.there j other) i)
]

pub foot_more : (k : ℕ) (xs : List Access) (feet : Feet) (did did' : ℕ → List Access) → All IsInWord xs → IsFootOf feet did
    → did' k ≡ did k ++ xs → ((j : ℕ) → j ≢ k → did' j ≡ did j) → IsFootOf (touched k xs feet) did'
foot_more k xs feet did did' words foot here there b h r = (
  λ t. elim (or_cases (feet b h r) _ t) [
    | inl old ↦ (let x = (foot b h r).0 old in (x.0, keeps k xs did did' (record { here = here; there = there }) h x.0 x.1, x.2, x.3))
    | inr new ↦ (let x = any_part k xs b h r words new in (x.0, subst (λ (j : ℕ). HasItem (did' j) x.0) x.2.hart (subst (λ (ys : List Access). HasItem ys x.0) (sym here) (has_second (did k) xs x.0 x.1)), x.2.role, x.2.byte))
  ],
  λ x. elim (was k xs did did' (record { here = here; there = there }) h x.0 x.1) [
    | inl old ↦ or_left (feet b h r) _ ((foot b h r).1 (x.0, old, x.2, x.3))
    | inr new ↦ or_right (feet b h r) _ (subst (λ (q : Role). list_any (λ y. is_part k y.role y.addr y.size b h q) xs ≡ true) x.2
        (subst (λ (j : ℕ). list_any (λ y. is_part k y.role y.addr y.size b j x.0.role) xs ≡ true) (sym new.0) (part_any k xs x.0 b new.1 x.3)))
  ],
)
