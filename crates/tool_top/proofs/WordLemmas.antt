-- Lists of words.
use Rattle.std.proofs.Common.{◌≡◌, List, [], ◌∷◌, length, map, drop, refl, arith}

pub first_dropped : {A B : Type 0} (f : A → B) (items : List A) → map f (drop 1 items) ≡ drop 1 (map f items)
first_dropped f [] = refl
first_dropped f (x ∷ items) = refl

pub none_dropped : {A B : Type 0} (f : A → B) (items : List A) → length items ≡ 0 → map f items ≡ drop 1 (map f items)
none_dropped f [] none = refl
none_dropped f (x ∷ items) none = absurd (omega (arith, none))
