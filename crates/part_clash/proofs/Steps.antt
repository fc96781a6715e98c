-- Clashes of one access, of the accesses up to one, and of all.
use Rattle.std.proofs.Common.{◌≡◌, ℕ, ◌+◌, ◌/◌, ◌<◌, ◌≤◌, ◌⊎◌, Bool, true, ◌&&◌, ◌||◌, eqb, leb, ltb, List, [], ◌∷◌, ◌++◌, length, take, get_or, Option, Some, None, sym, ap, ◌∙◌, subst, inl, inr, arith}
use Rattle.std.specs.Option.{IfSome, IfNone}
use Rattle.std.specs.List.{list_any}
use Rattle.std.proofs.lemmas.Bool.{and_parts, and_from, or_cases, or_left, or_right, eqb-true, eq-eqb, leb-true, le-leb, ltb-true, lt-ltb, true≢false}
use Rattle.std.proofs.lemmas.List.{take_more, take_all}
use Rattle.std.proofs.lemmas.List.Folds.{list_any_more}
use Rattle.rv_script.specs.declared.access.Access.{Access}
use Rattle.rv_script.specs.declared.access.Role.{Role}
use Rattle.rv_script.specs.declared.access.Role.TheVariants.{Fetch}
use Rattle.rv_script.specs.Bytes.{covers}
use Rattle.rv_script.specs.Lists.{HasItem}
use Rattle.rv_script.proofs.Items.{has_first, has_old_or_last, has_last}
use Rattle.rv_hart.specs.Effects.{IsInWord}
use Rattle.foot_map.specs.declared.clash.Clash.{Clash}
use Rattle.foot_map.specs.declared.touch.Touch.{Touch}
use Rattle.foot_map.specs.Order.{rank}
use Rattle.foot_map.specs.Touches.{has, same_role}
use Rattle.foot_map.specs.Races.{breaks, IsClash, IsNotAfter}
use Rattle.foot_map.proofs.Orders.{same_role_is}
use Rattle.part_clash.specs.Clashes.{Feet, touches_with, IsStepClash, IsLeastStepClash, HasNoStepClash}
use Rattle.part_clash.specs.Internal.Parts.{IsLeastWith, IsOwnClash, IsAccessClash}
use Rattle.part_clash.proofs.Joins.{least_same, least_of, least_of_both}

-- stands past a list's end
abbrev pub no_access : Access
no_access = record { role = Fetch; addr = 0; size = 0; value = 0 }

-- ---- bytes and roles

-- the byte is one of the access's
record IsAt (x : Access) (b : ℕ) : Type 0 where
  pub word : b / 4 ≡ x.addr / 4
  pub low : x.addr ≤ b
  pub high : b < x.addr + x.size

at_of : (x : Access) (b : ℕ) → covers x b ≡ true → IsAt x b
at_of x b h =
    let p = and_parts (eqb (b / 4) (x.addr / 4)) (leb x.addr b && ltb b (x.addr + x.size)) h in
    let q = and_parts (leb x.addr b) (ltb b (x.addr + x.size)) p.1 in
    record { word = eqb-true _ _ p.0; low = leb-true x.addr b q.0; high = ltb-true b (x.addr + x.size) q.1 }

covers_of : (x : Access) (b : ℕ) → IsAt x b → covers x b ≡ true
covers_of x b at = and_from _ _ (eq-eqb (b / 4) (x.addr / 4) at.word) (and_from _ _ (le-leb x.addr b at.low) (lt-ltb b (x.addr + x.size) at.high))

-- in its word an access covers all bytes up to its end
covers_word : (x : Access) (b : ℕ) → IsInWord x → x.addr ≤ b → b < x.addr + x.size → covers x b ≡ true
covers_word x b word low high = covers_of x b (record { word = omega (arith, low, high, word.within); low = low; high = high })

same_role_from : (r s : Role) → r ≡ s → same_role r s ≡ true
same_role_from r s h = eq-eqb (rank r) (rank s) (ap rank h)

-- ---- what is touched

-- one of the accesses touches the byte in the role
abbrev touched_by : List Access → ℕ → Role → Bool
touched_by xs b r = list_any (λ y. same_role y.role r && covers y b) xs

touched_cases : (feet : Feet) (hart : ℕ) (xs : List Access) (b h : ℕ) (r : Role) → touches_with feet hart xs b h r ≡ true → (feet b h r ≡ true) ⊎ ((h ≡ hart) × (touched_by xs b r ≡ true))
touched_cases feet hart xs b h r t = elim (or_cases (feet b h r) (eqb h hart && touched_by xs b r) t) [
  | inl before ↦ inl before
  | inr now ↦ (let p = and_parts (eqb h hart) (touched_by xs b r) now in inr (eqb-true h hart p.0, p.1))
]

touched_now : (feet : Feet) (hart : ℕ) (xs : List Access) (b h : ℕ) (r : Role) → h ≡ hart → touched_by xs b r ≡ true → touches_with feet hart xs b h r ≡ true
touched_now feet hart xs b h r is t = or_right (feet b h r) (eqb h hart && touched_by xs b r) (and_from (eqb h hart) (touched_by xs b r) (eq-eqb h hart is) t)

-- ---- one access against the step's

-- with none of the step's accesses it is a clash of the footprint
pub least_alone : (touches : List Touch) (hart : ℕ) (x : Access) (o : Option Clash) → IsInWord x
    → IfNone o ((c : Clash) → IsClash touches hart x.role x.addr x.size c → ⊥)
    → IfSome o (IsClash touches hart x.role x.addr x.size)
    → IfSome o (λ c. (d : Clash) → IsClash touches hart x.role x.addr x.size d → IsNotAfter c d)
    → IsLeastWith (IsAccessClash (has touches) hart [] x) o
least_alone touches hart x o word none some first = least_same (IsClash touches hart x.role x.addr x.size) (IsAccessClash (has touches) hart [] x) o back to (least_of (IsClash touches hart x.role x.addr x.size) o none some first)
  where
    back : (c : Clash) → IsAccessClash (has touches) hart [] x c → IsClash touches hart x.role x.addr x.size c
    back c clash =
        let p = at_of x c.byte clash.covered in
        let held : has touches c.byte c.hart c.role ≡ true = elim (touched_cases (has touches) hart [] c.byte c.hart c.role clash.touched) [ inl t ↦ t | inr now ↦ absurd (true≢false (sym now.1)) ] in
        record { held = held; from = p.low; below = p.high; broken = clash.broken }

    to : (c : Clash) → IsClash touches hart x.role x.addr x.size c → IsAccessClash (has touches) hart [] x c
    to c clash = record {
      covered = covers_word x c.byte word clash.from clash.below;
      touched = or_left (has touches c.byte c.hart c.role) _ clash.held;
      broken = clash.broken;
    }

-- with one access more
pub least_more : (feet : Feet) (hart : ℕ) (xs : List Access) (i : ℕ) (d x : Access) (a b o : Option Clash) → i < length xs
    → IsLeastWith (IsAccessClash feet hart (take i xs) x) a → IsLeastWith (IsOwnClash hart x (get_or xs i d)) b
    → (o ≡ a) ⊎ (o ≡ b) → IfSome o (λ c. IfSome a (IsNotAfter c) × IfSome b (IsNotAfter c)) → IfNone o ((a ≡ None) × (b ≡ None))
    → IsLeastWith (IsAccessClash feet hart (take (i + 1) xs) x) o
least_more feet hart xs i d x a b o within la lb one upto none =
    least_of_both (IsAccessClash feet hart (take i xs) x) (IsOwnClash hart x y) (IsAccessClash feet hart (take (i + 1) xs) x) a b o split old new la lb one upto none
  where
    y : Access
    y = get_or xs i d

    more : (b : ℕ) (r : Role) → touched_by (take (i + 1) xs) b r ≡ (touched_by (take i xs) b r || (same_role y.role r && covers y b))
    more b r = list_any_more (λ z. same_role z.role r && covers z b) xs i d within

    split : (c : Clash) → IsAccessClash feet hart (take (i + 1) xs) x c → IsAccessClash feet hart (take i xs) x c ⊎ IsOwnClash hart x y c
    split c clash = elim (touched_cases feet hart (take (i + 1) xs) c.byte c.hart c.role clash.touched) [
      | inl before ↦ inl (record { covered = clash.covered; touched = or_left (feet c.byte c.hart c.role) _ before; broken = clash.broken })
      | inr now ↦ elim (or_cases (touched_by (take i xs) c.byte c.role) (same_role y.role c.role && covers y c.byte) (sym (more c.byte c.role) ∙ now.1)) [
        | inl early ↦ inl (record { covered = clash.covered; touched = touched_now feet hart (take i xs) c.byte c.hart c.role now.0 early; broken = clash.broken })
        | inr here ↦ (
            let p = and_parts (same_role y.role c.role) (covers y c.byte) here in
            inr (record {
              covered = clash.covered;
              touched = p.1;
              by_hart = now.0;
              in_role = sym (same_role_is y.role c.role p.0);
              broken = ap (λ (s : Bool). breaks s c.role x.role) (sym (eq-eqb c.hart hart now.0)) ∙ clash.broken;
            })
            )
      ]
    ]

    old : (c : Clash) → IsAccessClash feet hart (take i xs) x c → IsAccessClash feet hart (take (i + 1) xs) x c
    old c clash = record {
      covered = clash.covered;
      touched = elim (touched_cases feet hart (take i xs) c.byte c.hart c.role clash.touched) [
        | inl before ↦ or_left (feet c.byte c.hart c.role) _ before
        | inr now ↦ touched_now feet hart (take (i + 1) xs) c.byte c.hart c.role now.0 (more c.byte c.role ∙ or_left (touched_by (take i xs) c.byte c.role) _ now.1)
      ];
      broken = clash.broken;
    }

    new : (c : Clash) → IsOwnClash hart x y c → IsAccessClash feet hart (take (i + 1) xs) x c
    new c clash = record {
      covered = clash.covered;
      touched = touched_now feet hart (take (i + 1) xs) c.byte c.hart c.role clash.by_hart
          (more c.byte c.role ∙ or_right (touched_by (take i xs) c.byte c.role) _ (and_from (same_role y.role c.role) (covers y c.byte) (same_role_from y.role c.role (sym clash.in_role)) clash.touched));
      broken = ap (λ (s : Bool). breaks s c.role x.role) (eq-eqb c.hart hart clash.by_hart) ∙ clash.broken;
    }

-- ---- the step's accesses

-- one of the accesses ys, of the step's xs, would race with this triple
abbrev pub IsAmongClash : Feet → ℕ → List Access → List Access → Clash → Type 0
IsAmongClash feet hart xs ys c = (x : Access) × HasItem ys x × IsAccessClash feet hart xs x c

-- with one access more
pub least_next : (feet : Feet) (hart : ℕ) (xs : List Access) (i : ℕ) (d : Access) (a b o : Option Clash) → i < length xs
    → IsLeastWith (IsAmongClash feet hart xs (take i xs)) a → IsLeastWith (IsAccessClash feet hart xs (get_or xs i d)) b
    → (o ≡ a) ⊎ (o ≡ b) → IfSome o (λ c. IfSome a (IsNotAfter c) × IfSome b (IsNotAfter c)) → IfNone o ((a ≡ None) × (b ≡ None))
    → IsLeastWith (IsAmongClash feet hart xs (take (i + 1) xs)) o
least_next feet hart xs i d a b o within la lb one upto none =
    least_of_both (IsAmongClash feet hart xs (take i xs)) (IsAccessClash feet hart xs x) (IsAmongClash feet hart xs (take (i + 1) xs)) a b o split old new la lb one upto none
  where
    x : Access
    x = get_or xs i d

    more : take (i + 1) xs ≡ take i xs ++ x ∷ []
    more = take_more xs i d within

    split : (c : Clash) → IsAmongClash feet hart xs (take (i + 1) xs) c → IsAmongClash feet hart xs (take i xs) c ⊎ IsAccessClash feet hart xs x c
    split c clash = elim (has_old_or_last (take i xs) x clash.0 (subst (λ (ys : List Access). HasItem ys clash.0) more clash.1)) [
      | inl early ↦ inl (clash.0, early, clash.2)
      | inr here ↦ inr (subst (λ (z : Access). IsAccessClash feet hart xs z c) (sym here) clash.2)
    ]

    old : (c : Clash) → IsAmongClash feet hart xs (take i xs) c → IsAmongClash feet hart xs (take (i + 1) xs) c
    old c clash = (clash.0, subst (λ (ys : List Access). HasItem ys clash.0) (sym more) (has_first (take i xs) (x ∷ []) clash.0 clash.1), clash.2)

    new : (c : Clash) → IsAccessClash feet hart xs x c → IsAmongClash feet hart xs (take (i + 1) xs) c
    new c clash = (x, subst (λ (ys : List Access). HasItem ys x) (sym more) (has_last (take i xs) x), clash)

-- those of all accesses are the step's
least_all : (feet : Feet) (hart : ℕ) (xs ys : List Access) (o : Option Clash) → ys ≡ xs → IsLeastWith (IsAmongClash feet hart xs ys) o → IsLeastWith (IsStepClash feet hart xs) o
least_all feet hart xs ys o is least = least_same (IsAmongClash feet hart xs xs) (IsStepClash feet hart xs) o back to (subst (λ (zs : List Access). IsLeastWith (IsAmongClash feet hart xs zs) o) is least)
  where
    back : (c : Clash) → IsStepClash feet hart xs c → IsAmongClash feet hart xs xs c
    back c clash = (clash.access, clash.among, record { covered = clash.covered; touched = clash.touched; broken = clash.broken })

    to : (c : Clash) → IsAmongClash feet hart xs xs c → IsStepClash feet hart xs c
    to c clash = record { access = clash.0; among = clash.1; covered = clash.2.covered; touched = clash.2.touched; broken = clash.2.broken }

step_some : (feet : Feet) (hart : ℕ) (xs : List Access) (o : Option Clash) → IsLeastWith (IsStepClash feet hart xs) o → IfSome o (IsLeastStepClash feet hart xs)
step_some feet hart xs None least = tt
step_some feet hart xs (Some c) least = record { clash = least.0; least = least.1 }

step_none : (feet : Feet) (hart : ℕ) (xs : List Access) (o : Option Clash) → IsLeastWith (IsStepClash feet hart xs) o → IfNone o (HasNoStepClash feet hart xs)
step_none feet hart xs None least = least
step_none feet hart xs (Some c) least = tt

pub answer_some : (feet : Feet) (hart : ℕ) (xs : List Access) (i : ℕ) (o : Option Clash) → length xs ≤ i → IsLeastWith (IsAmongClash feet hart xs (take i xs)) o → IfSome o (IsLeastStepClash feet hart xs)
answer_some feet hart xs i o end least = step_some feet hart xs o (least_all feet hart xs (take i xs) o (take_all i xs end) least)

pub answer_none : (feet : Feet) (hart : ℕ) (xs : List Access) (i : ℕ) (o : Option Clash) → length xs ≤ i → IsLeastWith (IsAmongClash feet hart xs (take i xs)) o → IfNone o (HasNoStepClash feet hart xs)
answer_none feet hart xs i o end least = step_none feet hart xs o (least_all feet hart xs (take i xs) o (take_all i xs end) least)
