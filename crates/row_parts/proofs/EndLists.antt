-- The ends that lists of rows give.
use Rattle.std.proofs.Common.{◌≡◌, ℕ, Bool, true, false, ◌&&◌, List, [], ◌∷◌, ◌++◌, Option, refl, sym, ap, ◌∙◌}
use Rattle.std.proofs.lemmas.List.{append_assoc, append-nil}
use Rattle.row_parts.specs.declared.row.Row.{Row}
use Rattle.row_parts.specs.Rows.{End, found, has, end_at, ends_in}

pub ends_append : (xs ys : List Row) (x : ℕ) (root leaf : Option ℕ) → ends_in (xs ++ ys) x root leaf ≡ ends_in xs x root leaf ++ ends_in ys x root leaf
ends_append [] ys x root leaf = refl
ends_append (row ∷ xs) ys x root leaf =
    ap (λ (es : List End). found (has row x root leaf) (end_at row.end x) ++ es) (ends_append xs ys x root leaf)
    ∙ sym (append_assoc (found (has row x root leaf) (end_at row.end x)) (ends_in xs x root leaf) (ends_in ys x root leaf))

pub ends_push : (xs : List Row) (row : Row) (x : ℕ) (root leaf : Option ℕ) → ends_in (xs ++ row ∷ []) x root leaf ≡ ends_in xs x root leaf ++ found (has row x root leaf) (end_at row.end x)
ends_push xs row x root leaf =
    ends_append xs (row ∷ []) x root leaf ∙ ap (λ (es : List End). ends_in xs x root leaf ++ es) (append-nil (found (has row x root leaf) (end_at row.end x)))

pub nothing : (es : List End) (b : Bool) (end : End) → b ≡ false → es ≡ es ++ found b end
nothing es b end none = sym (ap (λ (c : Bool). es ++ found c end) none ∙ append-nil es)

-- one part, and then another
pub two : (a b c g h : List End) → b ≡ a ++ g → c ≡ b ++ h → c ≡ a ++ (g ++ h)
two a b c g h first second = second ∙ ap (λ (es : List End). es ++ h) first ∙ append_assoc a g h

-- one part where the other is empty, by a test and its opposite
pub either : (in_set one other : Bool) (a b : End) → found ((in_set && true) && one) a ++ found ((in_set && false) && one) b ≡ found (in_set && one) a
either true true other a b = refl
either true false other a b = refl
either false true other a b = refl
either false false other a b = refl
