-- What sums leave when they are divided by a power of two.
use Rattle.std.proofs.Common.{◌≡◌, ℕ, ◌+◌, ◌*◌, ◌/◌, ◌%◌, ◌^◌, ◌<◌, ◌≤◌, ◌==◌, ◌-◌, inl, inr, true, false, All, List, [], ◌∷◌, ◌++◌, IsTrue, bit_and, sym, ap, ◌∙◌, subst, arith, eq-eqb}
use Rattle.std.proofs.lemmas.Bool.{cases_eq}
use Rattle.std.proofs.lemmas.List.Folds.{list_any-append}
use Rattle.std.proofs.lemmas.Nat.{and_block, and_le_r, and_mask, mod-pow-add, mod_below, mul-mod_second, pow-add, pow_below, pow_pos}
use Rattle.std.proofs.Math.Nat.{add-mod-mod, mod-add-mod}
use Rattle.std.proofs.Math.Pow.{mod-mod-pow}
use Rattle.dom_set.specs.Elements.{elements_of, is_in, is_matching}
use Rattle.dom_set.specs.Laws.{ElementsPass, IsInTests}
use Rattle.set_sums.specs.Internal.Remainders.{AreClasses, HasClasses, HasClassSums, HasRemainders}
use Rattle.set_sums.specs.Internal.Spans.{HasDifferences}
use Rattle.set_sums.proofs.Members.{element, is_in-elements_of}
use Rattle.set_sums.proofs.Spans.{first_of_two, second_of_two}

-- a number matches the pattern of what it leaves
quarter : (n r : ℕ) → n % 4 ≡ r → IsTrue (bit_and n 3 == r)
quarter n r h = eq-eqb (bit_and n 3) r (and_mask n 2 ∙ h)

alone : (n r : ℕ) → n % 4 ≡ r → IsTrue (is_matching ((3, r) ∷ []) n)
alone n r h = first_of_two (bit_and n 3 == r) false (quarter n r h)

pub in_class : ElementsPass → IsInTests → (set class : List ℕ) (r v : ℕ) → class ≡ elements_of (is_matching ((3, r) ∷ [])) → All (λ x. x < 2 ^ 32) set → IsTrue (is_in set v) → v % 4 ≡ r → IsTrue (is_in class v)
in_class pass tests set class r v is words inside left = subst (λ (d : List ℕ). IsTrue (is_in d v)) (sym is)
    (subst IsTrue (sym (is_in-elements_of pass tests (is_matching ((3, r) ∷ [])) v (element (λ n. n < 2 ^ 32) set v words inside))) (alone v r left))

-- the low bits of a word are those of the number that it was made of
low_of_word : (n k : ℕ) → k ≤ 32 → n % 2 ^ 32 % 2 ^ k ≡ n % 2 ^ k
low_of_word n k le = let is : (32 - k) + k ≡ 32 = omega (arith, le) in ap (λ (m : ℕ). n % 2 ^ m % 2 ^ k) (sym is) ∙ mod-mod-pow n (32 - k) k

-- sums of low bits have the low bits of the sums
left_by : (k t v w : ℕ) → (v % 2 ^ k + t * (w % 2 ^ k)) % 2 ^ k ≡ (v + t * w) % 2 ^ k
left_by k t v w =
    mod-add-mod v (2 ^ k) (t * (w % 2 ^ k)) ∙ sym (add-mod-mod v (t * (w % 2 ^ k)) (2 ^ k))
    ∙ ap (λ (x : ℕ). (v + x) % 2 ^ k) (mul-mod_second t w (2 ^ k)) ∙ add-mod-mod v (t * w) (2 ^ k)

-- so have those that wrap
left_by_wrapped : (k t v w sum : ℕ) → k ≤ 32 → sum ≡ (v + (t * w) % 2 ^ 32) % 2 ^ 32 → sum % 2 ^ k ≡ (v + t * w) % 2 ^ k
left_by_wrapped k t v w sum le is =
    ap (λ (x : ℕ). x % 2 ^ k) is ∙ low_of_word (v + (t * w) % 2 ^ 32) k le
    ∙ sym (add-mod-mod v ((t * w) % 2 ^ 32) (2 ^ k)) ∙ ap (λ (x : ℕ). (v + x) % 2 ^ k) (low_of_word (t * w) k le)
    ∙ add-mod-mod v (t * w) (2 ^ k)

pub pushed_class : (classes new : List (ℕ × ℕ)) (k t v w mask sum n : ℕ) → k < 32 → mask ≡ 2 ^ k - 1 → sum ≡ (v + (t * w) % 2 ^ 32) % 2 ^ 32 → new ≡ classes ++ (mask, bit_and sum mask) ∷ [] → n % 2 ^ k ≡ (v + t * w) % 2 ^ k → IsTrue (is_matching new n)
pushed_class classes new k t v w mask sum n lt is sum_is new_is leaves =
    let one : bit_and n mask ≡ n % 2 ^ k = ap (bit_and n) is ∙ and_mask n k in
    let two : bit_and sum mask ≡ sum % 2 ^ k = ap (bit_and sum) is ∙ and_mask sum k in
    let same : bit_and n mask ≡ bit_and sum mask = one ∙ leaves ∙ sym (left_by_wrapped k t v w sum (omega (arith, lt)) sum_is) ∙ sym two in
    subst (λ (ps : List (ℕ × ℕ)). IsTrue (is_matching ps n)) (sym new_is)
    (subst IsTrue (sym (list_any-append (λ (p : ℕ × ℕ). bit_and n p.0 == p.1) classes ((mask, bit_and sum mask) ∷ [])))
    (second_of_two (is_matching classes n) (is_matching ((mask, bit_and sum mask) ∷ []) n)
    (first_of_two (bit_and n mask == bit_and sum mask) false (eq-eqb (bit_and n mask) (bit_and sum mask) same))))

-- the bits that are known are those of each element
pub known_bits : (set : List ℕ) (k mask bits : ℕ) → mask ≡ 2 ^ k - 1 → ((x : ℕ) → IsTrue (is_in set x) → bit_and x mask ≡ bits) → HasRemainders set k (bits ∷ [])
known_bits set k mask bits is known v inside =
    let low : bit_and v mask ≡ v % 2 ^ k = ap (bit_and v) is ∙ and_mask v k in
    first_of_two (bits == v % 2 ^ k) false (eq-eqb bits (v % 2 ^ k) (sym (known v inside) ∙ low))

twice : (i : ℕ) → 2 ^ (i + 1) ≡ 2 ^ i * 2
twice i = pow-add 2 i 1

-- the low bits without bit 0
low_but_one : (v j : ℕ) → bit_and v (2 ^ (j + 1) - 1 - 1) + v % 2 ≡ v % 2 ^ (j + 1)
low_but_one v j =
    let whole : 2 ^ (j + 1) - 1 - 1 ≡ (2 ^ j - 1) * 2 ^ 1 + 0 = omega (arith, pow_pos j, twice j) in
    let split : v ≡ v / 2 * 2 ^ 1 + v % 2 = omega arith in
    let cut : bit_and v (2 ^ (j + 1) - 1 - 1) ≡ bit_and (v / 2) (2 ^ j - 1) * 2 ^ 1 + bit_and (v % 2) 0 =
    ap (bit_and v) whole ∙ ap (λ (n : ℕ). bit_and n ((2 ^ j - 1) * 2 ^ 1 + 0)) split ∙ and_block 1 (v / 2) (2 ^ j - 1) (v % 2) 0 (omega arith) (omega arith) in
    omega (arith, cut, and_mask (v / 2) j, and_le_r (v % 2) 0, mod-pow-add v j 1)

pub known_but_one : (set : List ℕ) (k mask bits next : ℕ) → 0 < k → k < 32 → mask ≡ 2 ^ k - 1 → ((x : ℕ) → IsTrue (is_in set x) → bit_and x (mask - 1) ≡ bits) → next ≡ (bits + 1) % 2 ^ 32 → HasRemainders set k (bits ∷ next ∷ [])
known_but_one set k mask bits next pos lt is known next_is v inside =
    let from : (k - 1) + 1 ≡ k = omega (arith, pos) in
    let low : bit_and v (2 ^ k - 1 - 1) + v % 2 ≡ v % 2 ^ k = subst (λ (j : ℕ). bit_and v (2 ^ j - 1 - 1) + v % 2 ≡ v % 2 ^ j) from (low_but_one v (k - 1)) in
    let bits_are : bit_and v (2 ^ k - 1 - 1) ≡ bits = ap (λ (m : ℕ). bit_and v (m - 1)) (sym is) ∙ known v inside in
    let small : v % 2 ^ k < 2 ^ 32 = omega (arith, mod_below v (2 ^ k) (pow_pos k), pow_below k 32 lt) in
    elim (cases_eq (v % 2) 0) [
      | inl even ↦ first_of_two (bits == v % 2 ^ k) (is_in (next ∷ []) (v % 2 ^ k)) (eq-eqb bits (v % 2 ^ k) (omega (arith, low, bits_are, even)))
      | inr odd ↦ second_of_two (bits == v % 2 ^ k) (is_in (next ∷ []) (v % 2 ^ k)) (first_of_two (next == v % 2 ^ k) false (eq-eqb next (v % 2 ^ k) (omega (arith, low, bits_are, odd, small, next_is))))
    ]

word : (n : ℕ) → n % 2 ^ 32 < 2 ^ 32
word n = omega arith

-- all words
pub of_all : ElementsPass → IsInTests → (first second set : List ℕ) (times : ℕ) → set ≡ elements_of (λ x. true) → HasClassSums first second times set
of_all pass tests first second set times is v w h k = ap (λ (d : List ℕ). is_in d ((v + times * w) % 2 ^ 32)) is ∙ is_in-elements_of pass tests (λ x. true) ((v + times * w) % 2 ^ 32) (word (v + times * w))

pub by_patterns : ElementsPass → IsInTests → (firsts others : List ℕ) (classes given : List (ℕ × ℕ)) (set : List ℕ) (times k : ℕ) → AreClasses classes firsts others times k → given ≡ classes → set ≡ elements_of (is_matching given) → HasClasses firsts others times k set
by_patterns pass tests firsts others classes given set times k sums same is n v w small in_firsts in_others leaves =
    subst IsTrue (sym (ap (λ (d : List ℕ). is_in d n) is ∙ is_in-elements_of pass tests (is_matching given) n small ∙ ap (λ (d : List (ℕ × ℕ)). is_matching d n) same)) (sums n v w in_firsts in_others leaves)

pub by_classes : (first second firsts others set : List ℕ) (times k : ℕ) → k < 32 → HasRemainders first k firsts → HasRemainders second k others → HasClasses firsts others times k set → HasClassSums first second times set
by_classes first second firsts others set times k lt one two sums v w in_first in_second =
    sums ((v + times * w) % 2 ^ 32) (v % 2 ^ k) (w % 2 ^ k) (word (v + times * w)) (one v in_first) (two w in_second) (low_of_word (v + times * w) k (omega (arith, lt)) ∙ sym (left_by k times v w))

-- the greatest word stands for -1
back : (v w : ℕ) → v < 2 ^ 32 → ((v + w) % 2 ^ 32 + (2 ^ 32 - 1) * w) % 2 ^ 32 ≡ v
back v w small = omega (arith, small)

pub class_has : (first second classes : List ℕ) → HasClassSums first second (2 ^ 32 - 1) classes → HasDifferences first second classes
class_has first second classes same v w small h k = subst (λ (n : ℕ). IsTrue (is_in classes n)) (back v w small) (same ((v + w) % 2 ^ 32) w k h)
