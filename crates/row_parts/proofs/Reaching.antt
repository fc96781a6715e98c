-- Addresses that lead to a frame.
use Rattle.std.proofs.Common.{◌≡◌, ℕ, ◌+◌, ◌-◌, ◌*◌, ◌/◌, ◌%◌, ◌^◌, ◌<◌, ◌≤◌, inl, inr, Bool, true, false, ◌&&◌, nat_lt, List, ◌++◌, refl, sym, ap, ◌∙◌, if◌then◌else◌, arith}
use Rattle.std.proofs.lemmas.Bool.{cases_lt}
use Rattle.std.proofs.lemmas.Nat.{pow_pos, pow-add, mod_below}
use Rattle.std.proofs.Math.Nat.{mod-add-div'}
use Rattle.sv_walk.specs.declared.entry.Kind.{Kind}
use Rattle.sv_walk.specs.Entry.{access_cause}
use Rattle.sv_walk.specs.Translation.{Reached, At, Fails, arrived}
use Rattle.row_parts.specs.Internal.Blocks.{turned}
use Rattle.row_parts.specs.Rows.{End, Reaches, found}
use Rattle.row_parts.proofs.Cuts.{apart}
use Rattle.row_parts.proofs.EndLists.{two}

small_test : (a n : ℕ) → a < n → nat_lt a n ≡ true
small_test a n h = grind arith

large_test : (a n : ℕ) → n ≤ a → nat_lt a n ≡ false
large_test a n h = grind arith

-- a frame's page ends below 2 ^ 32
pub within : (f w x : ℕ) → w ≤ 32 → f < 0x100000 → f * 4096 % 2 ^ w ≡ 0 → f * 4096 + x % 2 ^ w < 2 ^ 32
within f w x le small aligned =
    let k : ℕ = f * 4096 / 2 ^ w in
    let is : k * 2 ^ w ≡ f * 4096 = omega (arith, mod-add-div' (f * 4096) (2 ^ w), aligned) in
    let width : 32 ≡ (32 - w) + w = omega (arith, le) in
    let all : 2 ^ 32 ≡ 2 ^ (32 - w) * 2 ^ w = ap (λ (n : ℕ). 2 ^ n) width ∙ pow-add 2 (32 - w) w in
    let low : x % 2 ^ w < 2 ^ w = mod_below x (2 ^ w) (pow_pos w) in
    elim (cases_lt k (2 ^ (32 - w))) [
      | inl less ↦ omega (arith, apart k (2 ^ (32 - w)) (2 ^ w) less, is, all, low)
      | inr more ↦ elim (cases_lt (2 ^ (32 - w)) k) [
        | inl above ↦ absurd (omega (arith, apart (2 ^ (32 - w)) k (2 ^ w) above, is, all, small))
        | inr below ↦ (let e : 2 ^ (32 - w) ≡ k = omega (arith, more, below) in let times : 2 ^ (32 - w) * 2 ^ w ≡ k * 2 ^ w = ap (λ (n : ℕ). n * 2 ^ w) e in absurd (omega (arith, times, is, all, small)))
      ]
    ]

parts : (set one b : Bool) (at fails : Reached) → found ((set && turned true b) && one) (Reaches at) ++ found ((set && turned false b) && one) (Reaches fails) ≡ found (set && one) (Reaches (if (true && b) then at else fails))
parts true true true at fails = refl
parts true true false at fails = refl
parts true false true at fails = refl
parts true false false at fails = refl
parts false one true at fails = refl
parts false one false at fails = refl

-- by whether the address counts
counted : (counts set one b : Bool) (at fails : Reached) → found (counts && ((set && turned true b) && one)) (Reaches at) ++ found (counts && ((set && turned false b) && one)) (Reaches fails) ≡ found (counts && (set && one)) (Reaches (if (true && b) then at else fails))
counted true set one b at fails = parts set one b at fails
counted false set one b at fails = refl

pub reached : (old mid new : List End) (counts set one inside outside : Bool) (ram : ℕ → Bool) (kind : Kind) (addr pa : ℕ)
    → mid ≡ old ++ found (counts && (inside && one)) (Reaches (At pa)) → new ≡ mid ++ found (counts && (outside && one)) (Reaches (Fails (access_cause kind)))
    → inside ≡ (set && turned true (ram (addr / 4))) → outside ≡ (set && turned false (ram (addr / 4))) → pa ≡ addr → addr < 2 ^ 32
    → new ≡ old ++ found (counts && (set && one)) (Reaches (arrived ram kind addr))
reached old mid new counts set one inside outside ram kind addr pa first second ins out is small =
    two old mid new (found (counts && (inside && one)) (Reaches (At pa))) (found (counts && (outside && one)) (Reaches (Fails (access_cause kind)))) first second
    ∙ ap (λ (es : List End). old ++ es)
    (ap (λ (b : Bool). found (counts && (b && one)) (Reaches (At pa)) ++ found (counts && (outside && one)) (Reaches (Fails (access_cause kind)))) ins
    ∙ ap (λ (b : Bool). found (counts && ((set && turned true (ram (addr / 4))) && one)) (Reaches (At pa)) ++ found (counts && (b && one)) (Reaches (Fails (access_cause kind)))) out
    ∙ ap (λ (n : ℕ). found (counts && ((set && turned true (ram (addr / 4))) && one)) (Reaches (At n)) ++ found (counts && ((set && turned false (ram (addr / 4))) && one)) (Reaches (Fails (access_cause kind)))) is
    ∙ counted counts set one (ram (addr / 4)) (At addr) (Fails (access_cause kind))
    ∙ ap (λ (t : Bool). found (counts && (set && one)) (Reaches (if (t && ram (addr / 4)) then At addr else Fails (access_cause kind)))) (sym (small_test addr (2 ^ 32) small)))

pub beyond : (ram : ℕ → Bool) (kind : Kind) (addr : ℕ) → 2 ^ 32 ≤ addr → Fails (access_cause kind) ≡ arrived ram kind addr
beyond ram kind addr large = ap (λ (t : Bool). if (t && ram (addr / 4)) then At addr else Fails (access_cause kind)) (sym (large_test addr (2 ^ 32) large))

-- all of a frame, or none of it, is in RAM
pub arrives : (ram : ℕ → Bool) (kind : Kind) (addr : ℕ) → addr < 2 ^ 32 → ram (addr / 4) ≡ true → At addr ≡ arrived ram kind addr
arrives ram kind addr small there = ap (λ (t : Bool). if t then At addr else Fails (access_cause kind)) (sym (ap (λ (b : Bool). b && ram (addr / 4)) (small_test addr (2 ^ 32) small) ∙ there))

pub fails : (ram : ℕ → Bool) (kind : Kind) (addr : ℕ) → ram (addr / 4) ≡ false → Fails (access_cause kind) ≡ arrived ram kind addr
fails ram kind addr none = go (nat_lt addr (2 ^ 32)) (ram (addr / 4)) none
  where
    go : (a b : Bool) → b ≡ false → Fails (access_cause kind) ≡ (if (a && b) then At addr else Fails (access_cause kind))
    go true true h = absurd (cc h)
    go true false h = refl
    go false b h = refl
