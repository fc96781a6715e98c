-- A store, byte by byte.
use Rattle.std.proofs.Common.{zero, suc, length, get_or, eq-eqb, eqb-true, ◌≡◌, ◌≢◌, ℕ, ◌+◌, ◌-◌, ◌*◌, ◌/◌, ◌%◌, ◌^◌, ◌<◌, ◌≤◌, Bool, true, false, ◌&&◌, ◌||◌, cond, nat_eq, nat_le, nat_lt, List, [], ◌∷◌, drop, refl, sym, ap, ◌∙◌, subst, arith}
use Rattle.std.specs.Int.{w32, to_le_bytes}
use Rattle.std.proofs.lemmas.Bool.{eqb-false}
use Rattle.std.proofs.lemmas.List.{drop_more}
use Rattle.std.proofs.lemmas.Bool.Decides.{nat_tests}
use Rattle.rv_mem.specs.Bytes.{byte_with, with_byte}
use Rattle.rv_mem.specs.declared.words.Seen.{Seen}
use Rattle.rv_mem.specs.declared.words.Seen.TheVariants.{Known}
use Rattle.rv_script.specs.declared.access.Access.{Access}
use Rattle.rv_script.specs.declared.access.Role.{Role}
use Rattle.rv_script.specs.declared.access.Role.TheVariants.{Store}
use Rattle.rv_script.specs.Bytes.{covers}
use Rattle.rv_script.specs.Memory.{stored_byte, stored_word, word_after}
use Rattle.rv_hart.specs.Effects.{seen_word_after, seen_accessed, seen_after}

-- the first bytes of an access alone
abbrev pub first_bytes : Access → ℕ → Access
first_bytes x i = record { role = Store; addr = x.addr; size = i; value = x.value }

abbrev pub stored_so_far : Access → ℕ → ℕ → ℕ
stored_so_far x i w = stored_word (first_bytes x i) (x.addr / 4) w

abbrev pub of_bytes : (ℕ → ℕ) → ℕ
of_bytes f = f 0 + 256 * f 1 + 65536 * f 2 + 16777216 * f 3

same_bytes : (f g : ℕ → ℕ) → ((j : ℕ) → j < 4 → f j ≡ g j) → of_bytes f ≡ of_bytes g
same_bytes f g h = rw (h 0 (omega arith), h 1 (omega arith), h 2 (omega arith), h 3 (omega arith)) refl

digit : (f : ℕ → ℕ) → ((j : ℕ) → f j < 256) → (j : ℕ) → j < 4 → of_bytes f / 256 ^ j % 256 ≡ f j
digit f h zero l = omega (arith, h 0, h 1, h 2, h 3)
digit f h (suc zero) l = omega (arith, h 0, h 1, h 2, h 3)
digit f h (suc (suc zero)) l = omega (arith, h 0, h 1, h 2, h 3)
digit f h (suc (suc (suc zero))) l = omega (arith, h 0, h 1, h 2, h 3)
digit f h (suc (suc (suc (suc j)))) l = absurd (omega arith)

either : (t : Bool) (u v : ℕ) → cond t (u % 256) (v % 256) < 256
either true u v = omega arith
either false u v = omega arith

is_byte : (x : Access) (n w j : ℕ) → stored_byte x n w j < 256
is_byte x n w j = either (covers x (n * 4 + j)) (x.value / 256 ^ (n * 4 + j - x.addr)) (w / 256 ^ j)

guarded : (t p q r : Bool) → t ≡ true → p ≡ (q || r) → (t && p) ≡ ((t && q) || r)
guarded true p q r e h = h
guarded false p q r e h = absurd (cc)

tests : (a q r i j : ℕ) → a ≡ q * 4 + r → (nat_le a (q * 4 + j) && nat_lt (q * 4 + j) (a + (i + 1))) ≡ ((nat_le a (q * 4 + j) && nat_lt (q * 4 + j) (a + i)) || nat_eq j (r + i))
tests a q r i j e = grind (arith, nat_tests)

-- byte j of the word belongs to the first i + 1 bytes
covers_more : (x : Access) (i j : ℕ) → j < 4
    → covers (first_bytes x (i + 1)) (x.addr / 4 * 4 + j) ≡ (covers (first_bytes x i) (x.addr / 4 * 4 + j) || nat_eq j (x.addr % 4 + i))
covers_more x i j l =
    guarded (nat_eq ((x.addr / 4 * 4 + j) / 4) (x.addr / 4)) (nat_le x.addr (x.addr / 4 * 4 + j) && nat_lt (x.addr / 4 * 4 + j) (x.addr + (i + 1)))
    (nat_le x.addr (x.addr / 4 * 4 + j) && nat_lt (x.addr / 4 * 4 + j) (x.addr + i)) (nat_eq j (x.addr % 4 + i))
    (eq-eqb _ _ (omega arith)) (tests x.addr (x.addr / 4) (x.addr % 4) i j (omega arith))

chosen : (t u : Bool) (v a b : ℕ) → (u ≡ true → v ≡ a) → cond u v (cond t a b) ≡ cond (t || u) a b
chosen true true v a b h = h refl
chosen false true v a b h = h refl
chosen true false v a b h = refl
chosen false false v a b h = refl

one_byte : (x : Access) (i w v j : ℕ) → j < 4 → x.addr % 4 + (i + 1) ≤ 4 → v ≡ x.value / 256 ^ i % 256
    → cond (nat_eq j (x.addr % 4 + i)) v (stored_byte (first_bytes x i) (x.addr / 4) w j) ≡ stored_byte (first_bytes x (i + 1)) (x.addr / 4) w j
one_byte x i w v j l k e =
    chosen (covers (first_bytes x i) (x.addr / 4 * 4 + j)) (nat_eq j (x.addr % 4 + i)) v (x.value / 256 ^ (x.addr / 4 * 4 + j - x.addr) % 256) (w / 256 ^ j % 256)
    (λ h. let at : j ≡ x.addr % 4 + i = eqb-true j (x.addr % 4 + i) h in
    let place : i ≡ x.addr / 4 * 4 + j - x.addr = omega arith in
    e ∙ ap (λ (n : ℕ). x.value / 256 ^ n % 256) place)
    ∙ ap (λ (t : Bool). cond t (x.value / 256 ^ (x.addr / 4 * 4 + j - x.addr) % 256) (w / 256 ^ j % 256)) (sym (covers_more x i j l))

-- one more byte of a store
pub byte_stored : (x : Access) (i w v : ℕ) → x.addr % 4 + (i + 1) ≤ 4 → v ≡ x.value / 256 ^ i % 256 → with_byte (stored_so_far x i w) ((x.addr + i) % 4) v ≡ stored_so_far x (i + 1) w
byte_stored x i w v k e =
    let at : (x.addr + i) % 4 ≡ x.addr % 4 + i = omega arith in
    ap (λ (n : ℕ). with_byte (stored_so_far x i w) n v) at
    ∙ same_bytes (byte_with (stored_so_far x i w) (x.addr % 4 + i) v) (stored_byte (first_bytes x (i + 1)) (x.addr / 4) w)
    (λ j l.
    ap (λ (b : ℕ). cond (nat_eq j (x.addr % 4 + i)) v b) (digit (stored_byte (first_bytes x i) (x.addr / 4) w) (is_byte (first_bytes x i) (x.addr / 4) w) j l)
    ∙ one_byte x i w v j l k e)

uncovered : (t : Bool) (a b : ℕ) → (t && (nat_le a b && nat_lt b (a + 0))) ≡ false
uncovered true a b = grind (arith, nat_tests)
uncovered false a b = refl

-- no byte is stored at first
pub none_stored : (x : Access) (w : ℕ) → w < 2 ^ 32 → stored_so_far x 0 w ≡ w
none_stored x w l =
    same_bytes (stored_byte (first_bytes x 0) (x.addr / 4) w) (λ j. w / 256 ^ j % 256)
    (λ j k. ap (λ (t : Bool). cond t (x.value / 256 ^ (x.addr / 4 * 4 + j - x.addr) % 256) (w / 256 ^ j % 256))
    (uncovered (nat_eq ((x.addr / 4 * 4 + j) / 4) (x.addr / 4)) x.addr (x.addr / 4 * 4 + j)))
    ∙ omega arith

byte_of_four : (value i : ℕ) → i < 4 → get_or (to_le_bytes w32 value) i 0 ≡ value / 256 ^ i % 256
byte_of_four value zero l = omega arith
byte_of_four value (suc zero) l = refl
byte_of_four value (suc (suc zero)) l = refl
byte_of_four value (suc (suc (suc zero))) l = refl
byte_of_four value (suc (suc (suc (suc i)))) l = absurd (omega arith)

-- byte i of the bytes of a value
pub byte_of_value : (bs : List ℕ) (value i : ℕ) → bs ≡ to_le_bytes w32 value → i < 4 → get_or bs i 0 ≡ value / 256 ^ i % 256
byte_of_value bs value i e l = ap (λ (xs : List ℕ). get_or xs i 0) e ∙ byte_of_four value i l

pub same_word : (a r i : ℕ) → r ≡ i → a % 4 + (i + 1) ≤ 4 → (a + r) / 4 ≡ a / 4
same_word a r i e l = omega arith

at_or_not : (t : Bool) (a b c : Seen) → (t ≡ true → a ≡ b) → (t ≡ false → a ≡ c) → a ≡ cond t b c
at_or_not true a b c f g = f refl
at_or_not false a b c f g = g refl

-- a store to a known word
pub applied : (x : Access) (old new : ℕ → Seen) (w : ℕ) → x.role ≡ Store → old (x.addr / 4) ≡ Known w
    → new (x.addr / 4) ≡ Known (stored_word x (x.addr / 4) w)
    → ((n : ℕ) → n ≢ x.addr / 4 → new n ≡ old n)
    → (n : ℕ) → new n ≡ seen_accessed x old n
applied x old new w s k e others n =
    at_or_not (nat_eq n (x.addr / 4)) (new n) (seen_word_after x n (old n)) (old n)
    (λ h. let here : n ≡ x.addr / 4 = eqb-true n (x.addr / 4) h in
    subst (λ (p : ℕ). new p ≡ seen_word_after x p (old p)) (sym here)
    (e ∙ ap (λ (r : Role). Known (word_after r x (x.addr / 4) w)) (sym s) ∙ ap (λ (q : Seen). seen_word_after x (x.addr / 4) q) (sym k)))
    (λ h. others n (λ here. eqb-false n (x.addr / 4) h here))

same_seen : (x : Access) (f g : ℕ → Seen) → ((n : ℕ) → f n ≡ g n) → (n : ℕ) → seen_accessed x f n ≡ seen_accessed x g n
same_seen x f g h n = ap (λ (q : Seen). cond (nat_eq n (x.addr / 4)) (seen_word_after x n q) q) (h n)

-- accesses to memories in which the same is seen
pub same_after : (xs : List Access) (f g : ℕ → Seen) → ((n : ℕ) → f n ≡ g n) → (n : ℕ) → seen_after xs f n ≡ seen_after xs g n
same_after [] f g h n = h n
same_after (x ∷ xs) f g h n = same_after xs (seen_accessed x f) (seen_accessed x g) (same_seen x f g h) n

-- one access, and then the rest
pub one_applied : (xs : List Access) (i : ℕ) (d : Access) (f g : ℕ → Seen) → i < length xs → ((n : ℕ) → g n ≡ seen_accessed (get_or xs i d) f n)
    → (n : ℕ) → seen_after (drop (i + 1) xs) g n ≡ seen_after (drop i xs) f n
one_applied xs i d f g l h n =
    same_after (drop (i + 1) xs) g (seen_accessed (get_or xs i d) f) h n
    ∙ ap (λ (ys : List Access). seen_after ys f n) (sym (drop_more xs i d l))
