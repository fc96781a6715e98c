-- Blocked bytes and races in the words of clashes and of race-freedom.
use Rattle.std.proofs.Common.{◌≡◌, ℕ, ◌+◌, ◌-◌, ◌<◌, true, false, eqb, List, refl, sym, ap, ◌∙◌, arith}
use Rattle.std.proofs.lemmas.Bool.{both_ways, false_from_ne_true}
use Rattle.rv_script.specs.declared.access.Role.{Role}
use Rattle.foot_map.specs.declared.touch.Touch.{Touch}
use Rattle.foot_map.specs.declared.clash.Clash.{Clash}
use Rattle.foot_map.specs.Touches.{has}
use Rattle.foot_map.specs.Races.{breaks, is_blocked, has_race, IsClash}
use Rattle.foot_map.specs.Laws.{BlockedWhereClash, NoRaceRaceFree}
use Rattle.foot_map.proofs.Races.{by_table}
use Rattle.foot_map.proofs.Entries.{any_has, has_any, blocked_by, blocked_from}

pub blocked : BlockedWhereClash
blocked s hart role b = (
  λ is.
      let by = blocked_by s hart role b is in
      (record { byte = b; hart = by.0; role = by.1 }, record { held = by.2; from = omega arith; below = omega arith; broken = by.3 }),
  λ clash. blocked_at s hart role b 1 b clash.0 clash.1 (let from = clash.1.from in let below = clash.1.below in omega arith),
) where
  blocked_at : (s : List Touch) (hart : ℕ) (role : Role) (b len byte : ℕ) (c : Clash) → IsClash s hart role b len c → c.byte ≡ byte → is_blocked s hart role byte ≡ true
  blocked_at s hart role b len byte c clash same = blocked_from s hart role byte c.hart c.role (ap (λ (n : ℕ). has s n c.hart c.role) (sym same) ∙ clash.held) clash.broken

pub no_race : NoRaceRaceFree
no_race s did foot = (
  λ none. (by_table did).1 (λ j k x y b hx hy cx cy. false_from_ne_true (breaks (eqb j k) x.role y.role) (λ broken.
      both_ways (has_race s) none
      (has_any (λ t. is_blocked s t.hart t.role t.byte) s b k y.role ((foot b k y.role).1 (y, hy, refl, cy))
      (blocked_from s k y.role b j x.role ((foot b j x.role).1 (x, hx, refl, cx)) broken)))),
  λ free. false_from_ne_true (has_race s) (λ is.
      let t = any_has (λ t. is_blocked s t.hart t.role t.byte) s is in
      let by = blocked_by s t.0.hart t.0.role t.0.byte t.2 in
      let x = (foot t.0.byte by.0 by.1).0 by.2 in
      let y = (foot t.0.byte t.0.hart t.0.role).0 t.1 in
      both_ways (breaks (eqb by.0 t.0.hart) by.1 t.0.role)
      ((λ i. breaks (eqb by.0 t.0.hart) (sym x.2 i) (sym y.2 i)) ∙ (by_table did).0 free by.0 t.0.hart x.0 y.0 t.0.byte x.1 y.1 x.3 y.3)
      by.3),
)

-- no clash over so many bytes where none of them is blocked
pub room_from : (s : List Touch) (hart : ℕ) (role : Role) (a len : ℕ) → ((i : ℕ) → i < len → is_blocked s hart role (a + i) ≡ false) → (c : Clash) → IsClash s hart role a len c → ⊥
room_from s hart role a len none c clash =
    let from = clash.from in
    let below = clash.below in
    let at : c.byte ≡ a + (c.byte - a) = omega arith in
    both_ways (is_blocked s hart role (a + (c.byte - a))) (none (c.byte - a) (omega arith))
    (ap (is_blocked s hart role) (sym at) ∙ blocked_from s hart role c.byte c.hart c.role clash.held clash.broken)

pub free_from : (s : List Touch) (hart : ℕ) (role : Role) (a len i : ℕ) → i < len → ((c : Clash) → IsClash s hart role a len c → ⊥) → is_blocked s hart role (a + i) ≡ false
free_from s hart role a len i lt none = false_from_ne_true (is_blocked s hart role (a + i)) (λ is.
    let by = blocked_by s hart role (a + i) is in
    none (record { byte = a + i; hart = by.0; role = by.1 }) (record { held = by.2; from = omega arith; below = omega arith; broken = by.3 }))
