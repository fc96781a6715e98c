-- Addresses that lie in one page.
use Rattle.std.proofs.Common.{◌≡◌, ℕ, ◌/◌, ◌%◌, ◌^◌, ◌<◌, ◌≤◌, Bool, true, false, ◌&&◌, List, refl, sym, ap, ◌∙◌, arith}
use Rattle.rv_mem.specs.declared.words.Seen.{Seen}
use Rattle.row_parts.specs.Classes.{entry_at, has_index}
use Rattle.row_parts.specs.Rows.{End, when}

-- the entries of addresses in a page
pub second_of : (page x : ℕ) → x / 2 ^ 12 ≡ page → x / 2 ^ 12 % 2 ^ 10 ≡ page % 1024
second_of page x h = ap (λ (n : ℕ). n % 2 ^ 10) h

pub root_of : (page x : ℕ) → x / 2 ^ 12 ≡ page → x / 2 ^ 22 ≡ page / 1024
root_of page x h = omega (arith, h)

-- by what is seen of a page's entry
pub on_page : (at : ℕ → Seen) (frame index i : ℕ) (f : Seen → List End) (set : Bool) (seen : Seen) → seen ≡ entry_at at frame index → (set ≡ true → i ≡ index) → when set (f seen) ≡ when set (f (entry_at at frame i))
on_page at frame index i f true seen is same = ap f (is ∙ ap (λ (n : ℕ). entry_at at frame n) (sym (same refl)))
on_page at frame index i f false seen is same = refl

pub and_left : (a b : Bool) → (a && b) ≡ true → a ≡ true
and_left true b h = refl
and_left false b h = absurd (cc h)

pub index_within : (first end x : ℕ) → has_index first end x ≡ true → (first ≤ x / 2 ^ 12 % 2 ^ 10) × (x / 2 ^ 12 % 2 ^ 10 < end)
index_within first end x h = grind arith
