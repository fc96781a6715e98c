-- The bytes of an access.
use Rattle.std.proofs.Common.{◌≡◌, ℕ, zero, suc, ◌+◌, ◌/◌, ◌%◌, ◌<◌, ◌≤◌, Bool, true, false, ◌&&◌, ◌||◌, nat_eq, nat_le, nat_lt, List, [], ◌∷◌, refl, sym, ap, ◌∙◌, inl, inr, arith}
use Rattle.std.proofs.lemmas.Bool.Decides.{nat_tests}
use Rattle.std.specs.List.{list_any}
use Rattle.rv_script.specs.declared.access.Access.{Access}
use Rattle.rv_script.specs.Bytes.{covers, any_byte}
use Rattle.foot_map.specs.declared.touch.Touch.{Touch}
use Rattle.foot_map.specs.Races.{breaks, is_blocked}
use Rattle.data_bytes.specs.Starts.{IsSize}

-- TESTS OF BYTES
any_none : (n p : ℕ) → any_byte n p (λ b. false) ≡ false
any_none zero p = refl
any_none (suc n) p = any_none n (p + 1)

four_ways : (a b c d : Bool) → ((a || b) || (c || d)) ≡ ((a || c) || (b || d))
four_ways true b c d = refl
four_ways false true true d = refl
four_ways false true false d = refl
four_ways false false c d = refl

pub any_or : (n p : ℕ) (f g : ℕ → Bool) → any_byte n p (λ b. f b || g b) ≡ (any_byte n p f || any_byte n p g)
any_or zero p f g = refl
any_or (suc n) p f g = ap (λ (b : Bool). (f p || g p) || b) (any_or n (p + 1) f g) ∙ four_ways (f p) (g p) _ _

either_and : (a b c : Bool) → ((a && c) || (b && c)) ≡ ((a || b) && c)
either_and true true true = refl
either_and true true false = refl
either_and true false true = refl
either_and true false false = refl
either_and false b c = refl

any_and : (n p : ℕ) (f : ℕ → Bool) (c : Bool) → any_byte n p (λ b. f b && c) ≡ (any_byte n p f && c)
any_and zero p f c = refl
any_and (suc n) p f c = ap (λ (b : Bool). (f p && c) || b) (any_and n (p + 1) f c) ∙ either_and (f p) _ c

pub any_same : (n p : ℕ) (f g : ℕ → Bool) → ((b : ℕ) → p ≤ b → b < p + n → f b ≡ g b) → any_byte n p f ≡ any_byte n p g
any_same zero p f g same = refl
any_same (suc n) p f g same =
    ap (λ (b : Bool). b || any_byte n (p + 1) f) (same p (omega arith) (omega arith))
    ∙ ap (λ (b : Bool). g p || b) (any_same n (p + 1) f g (λ b low high. same b (omega (arith, low)) (omega (arith, high))))

-- the bytes from an address on
from_on : (n p b : ℕ) → any_byte n p (nat_eq b) ≡ (nat_le p b && nat_lt b (p + n))
from_on zero p b = grind (arith, nat_tests)
from_on (suc n) p b = ap (λ (z : Bool). nat_eq b p || z) (from_on n (p + 1) b) ∙ grind (arith, nat_tests)

-- RACES
-- an access is in one word
pub in_word : (size p b : ℕ) → IsSize size → p % size ≡ 0 → p ≤ b → b < p + size → b / 4 ≡ p / 4
in_word size p b (inl h) m low high = omega arith
in_word size p b (inr (inl h)) m low high = (let even : p % 2 ≡ 0 = sym (ap (λ (s : ℕ). p % s) h) ∙ m in omega arith)
in_word size p b (inr (inr h)) m low high = (let whole : p % 4 ≡ 0 = sym (ap (λ (s : ℕ). p % s) h) ∙ m in omega arith)

covered : (x : Access) (b : ℕ) → IsSize x.size → x.addr % x.size ≡ 0 → covers x b ≡ any_byte x.size x.addr (nat_eq b)
covered x b is m = (let word = in_word x.size x.addr b is m in grind (arith, nat_tests)) ∙ sym (from_on x.size x.addr b)

-- no touch breaks with an access where each of its bytes is free
pub races : (feet : List Touch) (hart : ℕ) (x : Access) → IsSize x.size → x.addr % x.size ≡ 0
    → list_any (λ touch. covers x touch.byte && breaks (nat_eq touch.hart hart) touch.role x.role) feet ≡ any_byte x.size x.addr (is_blocked feet hart x.role)
races [] hart x is m = sym (any_none x.size x.addr)
races (y ∷ feet) hart x is m =
    ap (λ (b : Bool). (b && breaks (nat_eq y.hart hart) y.role x.role) || list_any (λ touch. covers x touch.byte && breaks (nat_eq touch.hart hart) touch.role x.role) feet) (covered x y.byte is m)
    ∙ ap (λ (b : Bool). (any_byte x.size x.addr (nat_eq y.byte) && breaks (nat_eq y.hart hart) y.role x.role) || b) (races feet hart x is m)
    ∙ ap (λ (b : Bool). b || any_byte x.size x.addr (is_blocked feet hart x.role)) (sym (any_and x.size x.addr (nat_eq y.byte) (breaks (nat_eq y.hart hart) y.role x.role)))
    ∙ sym (any_or x.size x.addr (λ b. nat_eq y.byte b && breaks (nat_eq y.hart hart) y.role x.role) (is_blocked feet hart x.role))
