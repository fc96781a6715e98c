-- What a clash says of a fetch, and that races rest on footprints alone.
use Rattle.std.proofs.Common.{◌≡◌, ℕ, ◌+◌, ◌/◌, ◌%◌, Bool, true, false, not, ◌&&◌, eqb, leb, ltb, List, [], ◌∷◌, Option, Some, None, refl, sym, ap, ◌∙◌, subst, inl, inr, arith}
use Rattle.std.specs.Prelude.{IfNone, IfSome}
use Rattle.std.specs.List.{list_any}
use Rattle.std.specs.Option.{is_none}
use Rattle.std.proofs.lemmas.Bool.{and_from, and_parts, cases_Bool, eq-eqb, eqb-true, le-leb, leb-true, lt-ltb, ltb-true, or_cases, or_left, or_right}
use Rattle.rv_script.specs.declared.access.Access.{Access}
use Rattle.rv_script.specs.declared.access.Role.{Role}
use Rattle.rv_script.specs.declared.access.Role.TheVariants.{Fetch, Walk, Load, Store}
use Rattle.rv_script.specs.Bytes.{covers}
use Rattle.foot_map.specs.declared.clash.Clash.{Clash}
use Rattle.foot_map.specs.declared.touch.Touch.{Touch}
use Rattle.foot_map.specs.Races.{IsClash, IsFootprint, breaks}
use Rattle.foot_map.specs.Touches.{has, is_triple, same_role}
use Rattle.foot_map.proofs.Orders.{same_role_is}
use Rattle.rv_script.specs.Folds.{Entry}
use Rattle.rv_script.specs.Script.{access_of}
use Rattle.leaf_link.specs.Turns.{Turn, is_free_access, is_free_entry}
use Rattle.leaf_turn.specs.Grounds.{is_free_fetch}

abbrev fetch_at : ℕ → Access
fetch_at addr = record { role = Fetch; addr = addr; size = 4; value = 0 }

abbrev hits : Access → ℕ → Touch → Bool
hits x hart touch = covers x touch.byte && breaks (eqb touch.hart hart) touch.role x.role

same_role_refl : (r : Role) → same_role r r ≡ true
same_role_refl Fetch = refl
same_role_refl Walk = refl
same_role_refl Load = refl
same_role_refl Store = refl

itself : (t : Touch) → is_triple t t.byte t.hart t.role ≡ true
itself t = and_from _ _ (eq-eqb t.byte t.byte refl) (and_from _ _ (eq-eqb t.hart t.hart refl) (same_role_refl t.role))

-- of a triple in the set that an access hits
pub record IsHit (x : Access) (ts : List Touch) (hart : ℕ) : Type 0 where
  pub byte : ℕ
  pub other : ℕ
  pub role : Role
  pub held : has ts byte other role ≡ true
  pub covered : covers x byte ≡ true
  pub broken : breaks (eqb other hart) role x.role ≡ true

hit_of : (x : Access) (ts : List Touch) (hart : ℕ) → list_any (hits x hart) ts ≡ true → IsHit x ts hart
hit_of x [] hart h = absurd (cc h)
hit_of x (t ∷ ts) hart h = elim (or_cases (hits x hart t) (list_any (hits x hart) ts) h) [
  | inl here ↦
      let p = and_parts (covers x t.byte) (breaks (eqb t.hart hart) t.role x.role) here in
      record { byte = t.byte; other = t.hart; role = t.role; held = or_left _ _ (itself t); covered = p.0; broken = p.1 }
  | inr there ↦
      let c = hit_of x ts hart there in
      record { byte = c.byte; other = c.other; role = c.role; held = or_right _ _ c.held; covered = c.covered; broken = c.broken }
]

hit_by : (x : Access) (ts : List Touch) (hart b h : ℕ) (r : Role) → has ts b h r ≡ true → covers x b ≡ true → breaks (eqb h hart) r x.role ≡ true → list_any (hits x hart) ts ≡ true
hit_by x [] hart b h r held covered broken = absurd (cc)
hit_by x (t ∷ ts) hart b h r held covered broken = elim (or_cases (is_triple t b h r) (has ts b h r) held) [
  | inl one ↦
      let p = and_parts (eqb t.byte b) (eqb t.hart h && same_role t.role r) one in
      let q = and_parts (eqb t.hart h) (same_role t.role r) p.1 in
      or_left _ _ (and_from _ _
      (subst (λ (n : ℕ). covers x n ≡ true) (sym (eqb-true t.byte b p.0)) covered)
      (subst (λ (s : Role). breaks (eqb t.hart hart) s x.role ≡ true) (sym (same_role_is t.role r q.1)) (subst (λ (n : ℕ). breaks (eqb n hart) r x.role ≡ true) (sym (eqb-true t.hart h q.0)) broken)))
  | inr other ↦ or_right _ _ (hit_by x ts hart b h r other covered broken)
]

-- what is hit is a clash
clashes : (ts : List Touch) (hart addr : ℕ) → list_any (hits (fetch_at addr) hart) ts ≡ true → (c : Clash) × IsClash ts hart Fetch addr 4 c
clashes ts hart addr h =
    let c = hit_of (fetch_at addr) ts hart h in
    let q = and_parts (eqb (c.byte / 4) (addr / 4)) (leb addr c.byte && ltb c.byte (addr + 4)) c.covered in
    let r = and_parts (leb addr c.byte) (ltb c.byte (addr + 4)) q.1 in
    (record { byte = c.byte; hart = c.other; role = c.role }, record { held = c.held; from = leb-true addr c.byte r.0; below = ltb-true c.byte (addr + 4) r.1; broken = c.broken })

pub free_where_none : (ts : List Touch) (hart addr : ℕ) (o : Option Clash) → addr % 4 ≡ 0 → IfNone o ((c : Clash) → IsClash ts hart Fetch addr 4 c → ⊥) → IfSome o (IsClash ts hart Fetch addr 4) → is_none o ≡ is_free_fetch ts hart addr
free_where_none ts hart addr None aligned none some = elim (cases_Bool (list_any (hits (fetch_at addr) hart) ts)) [
  | inl hit ↦ let c = clashes ts hart addr hit in absurd (none c.0 c.1)
  | inr free ↦ sym (ap (λ (b : Bool). not b) free)
]
free_where_none ts hart addr (Some c) aligned none is =
    let from = is.from in
    let below = is.below in
    let covered : covers (fetch_at addr) c.byte ≡ true =
    and_from _ _ (eq-eqb (c.byte / 4) (addr / 4) (omega (arith, from, below, aligned))) (and_from _ _ (le-leb addr c.byte from) (lt-ltb c.byte (addr + 4) below)) in
    sym (ap (λ (b : Bool). not b) (hit_by (fetch_at addr) ts hart c.byte c.hart c.role is.held covered is.broken))

-- it rests on which triples are in the set alone
same_hits : (x : Access) (one other : List Touch) (hart : ℕ) → ((b h : ℕ) (r : Role) → has one b h r ≡ true → has other b h r ≡ true) → list_any (hits x hart) one ≡ true → list_any (hits x hart) other ≡ true
same_hits x one other hart all h = let c = hit_of x one hart h in hit_by x other hart c.byte c.other c.role (all c.byte c.other c.role c.held) c.covered c.broken

both_ways : (a b : Bool) → (a ≡ true → b ≡ true) → (b ≡ true → a ≡ true) → a ≡ b
both_ways true b h k = sym (h refl)
both_ways false true h k = k refl
both_ways false false h k = refl

pub same_races : (x : Access) (one other : List Touch) (did : ℕ → List Access) (hart : ℕ) → IsFootprint one did → IsFootprint other did → list_any (hits x hart) one ≡ list_any (hits x hart) other
same_races x one other did hart f g =
    both_ways (list_any (hits x hart) one) (list_any (hits x hart) other)
    (same_hits x one other hart (λ b h r i. (g b h r).1 ((f b h r).0 i)))
    (same_hits x other one hart (λ b h r i. (f b h r).1 ((g b h r).0 i)))

pub same_freedom : (one other : List Touch) (did : ℕ → List Access) (hart addr : ℕ) → IsFootprint one did → IsFootprint other did → is_free_fetch one hart addr ≡ is_free_fetch other hart addr
same_freedom one other did hart addr f g = ap (λ (b : Bool). not b) (same_races (fetch_at addr) one other did hart f g)

-- an entry of a step is free at each turn of the hart with the same records
pub free_alike : (t u : Turn) (did : ℕ → List Access) → IsFootprint t.feet did → IsFootprint u.feet did → t.fixed.number ≡ u.fixed.number → (e : Entry) → is_free_entry t e ≡ is_free_entry u e
free_alike t u did f g number e = go (access_of e.question e.value)
  where
    go : (o : Option Access) → is_free_access t o ≡ is_free_access u o
    go None = refl
    go (Some x) =
        ap (λ (b : Bool). not b) (same_races x t.feet u.feet did t.fixed.number f g)
        ∙ ap (λ (n : ℕ). not (list_any (hits x n) u.feet)) number
