-- The gaps between the pages whose indices are equal.
use Rattle.std.proofs.Common.{◌≡◌, ◌==◌, ℕ, ◌+◌, ◌*◌, ◌/◌, ◌%◌, ◌^◌, ◌<◌, Bool, true, false, not, ◌&&◌, ◌||◌, nat_le, nat_lt, List, [], ◌∷◌, ◌++◌, refl, sym, ap, ◌∙◌, eqb-true, arith}
use Rattle.std.proofs.lemmas.Bool.{eq-eqb}
use Rattle.std.proofs.lemmas.List.Folds.{list_any-append}
use Rattle.dom_set.specs.Elements.{is_within}
use Rattle.row_parts.specs.Gaps.{are_indices_equal, is_in_gap}
use Rattle.row_parts.proofs.Members.{same}
use Rattle.row_parts.proofs.Lists.{or_false}

next_gap : (i x : ℕ) → (is_in_gap i x || (nat_le (i * 0x401000 + 0x1000) x && nat_le x (i * 0x401000 + 0x400fff))) ≡ is_in_gap (i + 1) x
next_gap i x = same _ _ (λ h. grind arith) (λ h. grind arith)

pub gap_pushed : (gs : List (ℕ × ℕ)) (low high i x : ℕ) → low ≡ i * 0x401000 + 0x1000 → high ≡ i * 0x401000 + 0x400fff → is_within gs x ≡ is_in_gap i x → is_within (gs ++ (low, high) ∷ []) x ≡ is_in_gap (i + 1) x
gap_pushed gs low high i x first last is =
    list_any-append (λ (r : ℕ × ℕ). nat_le r.0 x && nat_le x r.1) gs ((low, high) ∷ [])
    ∙ ap (λ (b : Bool). is_within gs x || b) (or_false (nat_le low x && nat_le x high))
    ∙ ap (λ (b : Bool). b || (nat_le low x && nat_le x high)) is
    ∙ ap (λ (n : ℕ). is_in_gap i x || (nat_le n x && nat_le x high)) first
    ∙ ap (λ (n : ℕ). is_in_gap i x || (nat_le (i * 0x401000 + 0x1000) x && nat_le x n)) last
    ∙ next_gap i x

diagonal : (x : ℕ) → x < 2 ^ 32 → are_indices_equal x ≡ (x / 4096 % 1025 == 0)
diagonal x small = same _ _ (λ h. let e : x / 2 ^ 22 ≡ x / 2 ^ 12 % 2 ^ 10 = eqb-true _ _ h in eq-eqb _ _ (omega (arith, small, e))) (λ h. let e : x / 4096 % 1025 ≡ 0 = eqb-true _ _ h in eq-eqb _ _ (omega (arith, small, e)))

all_gaps : (b : Bool) (p : ℕ) → (p % 1025 == 0) ≡ b → p < 1048576 → (not b && nat_lt p (1025 * 1023)) ≡ not b
all_gaps true p is small = refl
all_gaps false p is small = grind arith

pub off : (x : ℕ) → x < 2 ^ 32 → is_in_gap 1023 x ≡ not (are_indices_equal x)
off x small = all_gaps (x / 4096 % 1025 == 0) (x / 4096) refl (omega (arith, small)) ∙ ap not (sym (diagonal x small))

ones : (x : ℕ) (b : Bool) → ((x % 1 == 0) && b) ≡ b
ones x b = let e : x % 1 ≡ 0 = omega arith in let t : (x % 1 == 0) ≡ true = eq-eqb _ _ e in ap (λ (c : Bool). c && b) t

pub between : (set : Bool) (gs ds : List (ℕ × ℕ)) (x : ℕ) → x < 2 ^ 32 → ds ≡ gs → is_within gs x ≡ is_in_gap 1023 x → (set && ((x % 1 == 0) && is_within ds x)) ≡ (set && not (are_indices_equal x))
between set gs ds x small is gaps = ap (λ (b : Bool). set && b) (ones x (is_within ds x) ∙ ap (λ (rs : List (ℕ × ℕ)). is_within rs x) is ∙ gaps ∙ off x small)
