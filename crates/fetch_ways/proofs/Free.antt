-- What a clash says of a walk.
use Rattle.std.proofs.Common.{◌≡◌, ℕ, ◌+◌, ◌/◌, ◌%◌, Bool, true, not, ◌&&◌, eqb, leb, ltb, List, [], ◌∷◌, Option, Some, None, refl, sym, ap, subst, inl, inr, arith}
use Rattle.std.specs.Prelude.{IfNone, IfSome}
use Rattle.std.specs.List.{list_any}
use Rattle.std.specs.Option.{is_none}
use Rattle.std.proofs.lemmas.Bool.{and_from, and_parts, cases_Bool, eq-eqb, eqb-true, le-leb, leb-true, lt-ltb, ltb-true, or_cases, or_left, or_right}
use Rattle.rv_script.specs.declared.access.Role.{Role}
use Rattle.rv_script.specs.declared.access.Role.TheVariants.{Fetch, Walk, Load, Store}
use Rattle.rv_script.specs.Bytes.{covers}
use Rattle.foot_map.specs.declared.clash.Clash.{Clash}
use Rattle.foot_map.specs.declared.touch.Touch.{Touch}
use Rattle.foot_map.specs.Races.{IsClash, breaks}
use Rattle.foot_map.specs.Touches.{has, is_triple, same_role}
use Rattle.foot_map.proofs.Orders.{same_role_is}
use Rattle.fetch_ways.specs.Ways.{is_free_walk, walk_at}

abbrev hits : ℕ → ℕ → Touch → Bool
hits hart addr touch = covers (walk_at addr) touch.byte && breaks (eqb touch.hart hart) touch.role Walk

same_role_refl : (r : Role) → same_role r r ≡ true
same_role_refl Fetch = refl
same_role_refl Walk = refl
same_role_refl Load = refl
same_role_refl Store = refl

itself : (t : Touch) → is_triple t t.byte t.hart t.role ≡ true
itself t = and_from _ _ (eq-eqb t.byte t.byte refl) (and_from _ _ (eq-eqb t.hart t.hart refl) (same_role_refl t.role))

later : (t : Touch) (ts : List Touch) (hart addr : ℕ) (c : Clash) → IsClash ts hart Walk addr 4 c → IsClash (t ∷ ts) hart Walk addr 4 c
later t ts hart addr c is = record { held = or_right _ _ is.held; from = is.from; below = is.below; broken = is.broken }

-- what is hit is a clash
clashes : (ts : List Touch) (hart addr : ℕ) → list_any (hits hart addr) ts ≡ true → (c : Clash) × IsClash ts hart Walk addr 4 c
clashes [] hart addr h = absurd (cc)
clashes (t ∷ ts) hart addr h = elim (or_cases (hits hart addr t) (list_any (hits hart addr) ts) h) [
  | inl here ↦
      let p = and_parts (covers (walk_at addr) t.byte) (breaks (eqb t.hart hart) t.role Walk) here in
      let q = and_parts (eqb (t.byte / 4) (addr / 4)) (leb addr t.byte && ltb t.byte (addr + 4)) p.0 in
      let r = and_parts (leb addr t.byte) (ltb t.byte (addr + 4)) q.1 in
      (record { byte = t.byte; hart = t.hart; role = t.role }, record { held = or_left _ _ (itself t); from = leb-true addr t.byte r.0; below = ltb-true t.byte (addr + 4) r.1; broken = p.1 })
  | inr there ↦ let c = clashes ts hart addr there in (c.0, later t ts hart addr c.0 c.1)
]

-- a clash is hit
hit_by : (ts : List Touch) (hart addr b h : ℕ) (r : Role) → has ts b h r ≡ true → covers (walk_at addr) b ≡ true → breaks (eqb h hart) r Walk ≡ true → list_any (hits hart addr) ts ≡ true
hit_by [] hart addr b h r held covered broken = absurd (cc)
hit_by (t ∷ ts) hart addr b h r held covered broken = elim (or_cases (is_triple t b h r) (has ts b h r) held) [
  | inl one ↦
      let p = and_parts (eqb t.byte b) (eqb t.hart h && same_role t.role r) one in
      let q = and_parts (eqb t.hart h) (same_role t.role r) p.1 in
      or_left _ _ (and_from _ _
      (subst (λ (n : ℕ). covers (walk_at addr) n ≡ true) (sym (eqb-true t.byte b p.0)) covered)
      (subst (λ (s : Role). breaks (eqb t.hart hart) s Walk ≡ true) (sym (same_role_is t.role r q.1)) (subst (λ (n : ℕ). breaks (eqb n hart) r Walk ≡ true) (sym (eqb-true t.hart h q.0)) broken)))
  | inr other ↦ or_right _ _ (hit_by ts hart addr b h r other covered broken)
]

pub free_where_none : (ts : List Touch) (hart addr : ℕ) (o : Option Clash) → addr % 4 ≡ 0 → IfNone o ((c : Clash) → IsClash ts hart Walk addr 4 c → ⊥) → IfSome o (IsClash ts hart Walk addr 4) → is_none o ≡ is_free_walk ts hart addr
free_where_none ts hart addr None aligned none some = elim (cases_Bool (list_any (hits hart addr) ts)) [
  | inl hit ↦ let c = clashes ts hart addr hit in absurd (none c.0 c.1)
  | inr free ↦ sym (ap (λ (b : Bool). not b) free)
]
free_where_none ts hart addr (Some c) aligned none is =
    let from = is.from in
    let below = is.below in
    let covered : covers (walk_at addr) c.byte ≡ true =
    and_from _ _ (eq-eqb (c.byte / 4) (addr / 4) (omega (arith, from, below, aligned))) (and_from _ _ (le-leb addr c.byte from) (lt-ltb c.byte (addr + 4) below)) in
    sym (ap (λ (b : Bool). not b) (hit_by ts hart addr c.byte c.hart c.role is.held covered is.broken))
