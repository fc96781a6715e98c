-- Sets of addresses that lie in one page.
use Rattle.std.proofs.Common.{◌≡◌, ◌==◌, ℕ, ◌+◌, ◌*◌, ◌/◌, ◌%◌, ◌^◌, Bool, true, false, not, ◌&&◌, ◌||◌, nat_le, List, [], ◌∷◌, refl, sym, ap, ◌∙◌, arith}
use Rattle.std.specs.List.{filter}
use Rattle.dom_set.specs.Elements.{elements_of, is_in, is_within}
use Rattle.dom_set.specs.Laws.{ElementsPass, IsInTests}
use Rattle.row_parts.proofs.Members.{is_in-filter}

within_page : (page x : ℕ) → ((x % 1 == 0) && ((nat_le (page * 4096) x && nat_le x (page * 4096 + 4095)) || false)) ≡ true → x / 2 ^ 12 ≡ page
within_page page x h = grind arith

left : (a b : Bool) → b ≡ true → (not a && b) ≡ false → a ≡ true
left true b h k = refl
left false true h k = absurd (cc k)
left false false h k = absurd (cc h)

-- nothing of a set is outside the page
pub in_page : ElementsPass → IsInTests → (xs others : List ℕ) (page x : ℕ) → others ≡ filter (λ y. not (is_in (elements_of (λ z. z % 1 == 0 && is_within ((page * 4096, page * 4096 + 4095) ∷ []) z)) y)) xs → others ≡ [] → is_in xs x ≡ true → x / 2 ^ 12 ≡ page
in_page pass tests xs others page x is none there =
    let test : ℕ → Bool = λ (z : ℕ). z % 1 == 0 && is_within ((page * 4096, page * 4096 + 4095) ∷ []) z in
    let gone : (not (is_in (elements_of test) x) && is_in xs x) ≡ false = sym (is_in-filter (λ (y : ℕ). not (is_in (elements_of test) y)) xs x) ∙ ap (λ (ys : List ℕ). is_in ys x) (sym is ∙ none) in
    let kept : is_in (elements_of test) x ≡ true = left (is_in (elements_of test) x) (is_in xs x) there gone in
    within_page page x ((pass test x).0 ((tests (elements_of test) x).0 kept)).1
