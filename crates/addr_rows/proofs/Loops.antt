-- Loops over items: a step, and the end.
use Rattle.std.proofs.Common.{◌≡◌, ℕ, ◌+◌, ◌<◌, ◌≤◌, Bool, true, false, ◌&&◌, List, [], ◌++◌, length, get_or, drop, sym, ap, ◌∙◌}
use Rattle.std.proofs.lemmas.List.{append_assoc, append-nil, drop_all}
use Rattle.row_parts.specs.Rows.{End, when}
use Rattle.row_parts.specs.Items.{by_items}
use Rattle.row_parts.proofs.Lists.{rest_is}

-- an item's ends, and then those of the others
one_more : (counts set word test : Bool) (old es rest : List End)
    → (old ++ when (counts && (set && (word && test))) es) ++ when (counts && (set && word)) rest ≡ old ++ when (counts && (set && word)) (when test es ++ rest)
one_more true true true true old es rest = append_assoc old es rest
one_more true true true false old es rest = ap (λ (kept : List End). kept ++ rest) (append-nil old)
one_more true true false test old es rest = append-nil (old ++ [])
one_more true false word test old es rest = append-nil (old ++ [])
one_more false set word test old es rest = append-nil (old ++ [])

-- a step of a loop over items
pub stepped : {X : Type 0} (test : X → Bool) (f : X → List End) (xs : List X) (i : ℕ) (item : X) (counts set word : Bool) (old new all : List End) → i < length xs → item ≡ get_or xs i item
    → new ≡ old ++ when (counts && (set && (word && test item))) (f item) → old ++ when (counts && (set && word)) (by_items test (drop i xs) f) ≡ all
    → new ++ when (counts && (set && word)) (by_items test (drop (i + 1) xs) f) ≡ all
stepped {X} test f xs i item counts set word old new all lt is e h =
    let b : Bool = counts && (set && word) in
    ap (λ (es : List End). es ++ when b (by_items test (drop (i + 1) xs) f)) e
    ∙ one_more counts set word (test item) old (f item) (by_items test (drop (i + 1) xs) f)
    ∙ sym (ap (λ (ys : List X). old ++ when b (by_items test ys f)) (rest_is xs i item lt is))
    ∙ h

nothing_left : (b : Bool) (es : List End) → es ++ when b [] ≡ es
nothing_left true es = append-nil es
nothing_left false es = append-nil es

done : {X : Type 0} (test : X → Bool) (f : X → List End) (xs : List X) (i : ℕ) (b : Bool) (es : List End) → length xs ≤ i → es ≡ es ++ when b (by_items test (drop i xs) f)
done {X} test f xs i b es le = sym (ap (λ (ys : List X). es ++ when b (by_items test ys f)) (drop_all i xs le) ∙ nothing_left b es)

pub finished : {X : Type 0} (test : X → Bool) (f : X → List End) (xs : List X) (i : ℕ) (b : Bool) (old new : List End) → length xs ≤ i
    → new ++ when b (by_items test (drop i xs) f) ≡ old ++ when b (by_items test xs f) → new ≡ old ++ when b (by_items test xs f)
finished test f xs i b old new le h = done test f xs i b new le ∙ h
