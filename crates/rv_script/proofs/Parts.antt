-- A part of a word rests on its bytes.
use Rattle.std.proofs.Common.{◌≡◌, ℕ, zero, suc, ◌+◌, ◌-◌, ◌*◌, ◌/◌, ◌%◌, ◌^◌, ◌<◌, ◌≤◌, true, refl, sym, ap, ◌∙◌, inl, inr, arith}
use Rattle.std.proofs.lemmas.Bool.{and_from, eq-eqb, le-leb, lt-ltb, cases_lt}
use Rattle.std.proofs.lemmas.Nat.{pow-add}
use Rattle.std.proofs.Math.Nat.{pow-succ', div-div-eq-div-mul, zero-div}
use Rattle.std.proofs.Math.Arith.{mod-mul}
use Rattle.rv_script.specs.declared.access.Access.{Access}
use Rattle.rv_script.specs.Bytes.{word_address, part_of, byte_at, covers}

pow_above : (n : ℕ) → 0 < 256 ^ n
pow_above zero = omega arith
pow_above (suc n) = let p = pow_above n in let f : 256 ^ suc n ≡ 256 * 256 ^ n = pow-succ' 256 n in omega arith

-- one more byte of a number
one_more_byte : (x n : ℕ) → x % 256 ^ suc n ≡ x % 256 ^ n + 256 ^ n * (x / 256 ^ n % 256)
one_more_byte x n =
    let p : 0 < 256 ^ n = pow_above n in
    let e = mod-mul x {m = 256} {c = 256 ^ n} (omega arith) p in
    let f : 256 ^ suc n ≡ 256 * 256 ^ n = pow-succ' 256 n in
    rw f (omega arith)

further : (x o n : ℕ) → x / 256 ^ o / 256 ^ n ≡ x / 256 ^ (o + n)
further x o n = div-div-eq-div-mul x (256 ^ o) (256 ^ n) ∙ ap (λ (q : ℕ). x / q) (sym (pow-add 256 o n))

-- a word has four bytes
no_more : (v i : ℕ) → v < 2 ^ 32 → 4 ≤ i → v / 256 ^ i % 256 ≡ 0
no_more v i h l =
    let e : i ≡ 4 + (i - 4) = omega arith in
    let z : v / 256 ^ 4 ≡ 0 = omega arith in
    let p : 0 < 256 ^ (i - 4) = pow_above (i - 4) in
    let f : v / 256 ^ (4 + (i - 4)) ≡ 0 = sym (further v 4 (i - 4)) ∙ ap (λ (q : ℕ). q / 256 ^ (i - 4)) z ∙ zero-div (256 ^ (i - 4)) in
    rw (e, f) refl

part_by_bytes : (v w o n : ℕ) → v < 2 ^ 32 → w < 2 ^ 32 → ((i : ℕ) → o ≤ i → i < o + n → i < 4 → v / 256 ^ i % 256 ≡ w / 256 ^ i % 256) → v / 256 ^ o % 256 ^ n ≡ w / 256 ^ o % 256 ^ n
part_by_bytes v w o zero hv hw same = omega arith
part_by_bytes v w o (suc n) hv hw same =
    let low : v / 256 ^ o % 256 ^ n ≡ w / 256 ^ o % 256 ^ n = part_by_bytes v w o n hv hw (λ i a b c. same i a (omega arith) c) in
    let byte : v / 256 ^ (o + n) % 256 ≡ w / 256 ^ (o + n) % 256 = elim (cases_lt (o + n) 4) [
      | inl l ↦ same (o + n) (omega arith) (omega arith) l
      | inr g ↦ no_more v (o + n) hv g ∙ sym (no_more w (o + n) hw g)
    ] in
    one_more_byte (v / 256 ^ o) n
    ∙ ap (λ (q : ℕ). v / 256 ^ o % 256 ^ n + 256 ^ n * (q % 256)) (further v o n)
    ∙ rw (low, byte) refl
    ∙ sym (ap (λ (q : ℕ). w / 256 ^ o % 256 ^ n + 256 ^ n * (q % 256)) (further w o n))
    ∙ sym (one_more_byte (w / 256 ^ o) n)

-- words with the same bytes under an access have the same part there
pub part_same : (x : Access) (n v w : ℕ) → x.size ≡ n → v < 2 ^ 32 → w < 2 ^ 32
    → ((b : ℕ) → covers x b ≡ true → byte_at b v ≡ byte_at b w)
    → part_of x.addr n v ≡ part_of x.addr n w
part_same x n v w e hv hw h = part_by_bytes v w (x.addr % 4) n hv hw (λ i a b c.
    let at : (word_address x.addr + i) % 4 ≡ i = omega arith in
    let within : covers x (word_address x.addr + i) ≡ true =
    let word : (word_address x.addr + i) / 4 ≡ x.addr / 4 = omega arith in
    let low : x.addr ≤ word_address x.addr + i = omega arith in
    let high : word_address x.addr + i < x.addr + x.size = omega arith in
    and_from _ _ (eq-eqb _ _ word) (and_from _ _ (le-leb _ _ low) (lt-ltb _ _ high)) in
    rw at at (h (word_address x.addr + i) within))
