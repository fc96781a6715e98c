-- What stands in a list that is made of two.
use Rattle.std.proofs.Common.{◌≡◌, ◌⊎◌, inl, inr, List, [], ◌∷◌, ◌++◌, refl}
use Rattle.rv_script.specs.Lists.{HasItem}

pub has_either : {A : Type 0} (xs ys : List A) (x : A) → HasItem (xs ++ ys) x → HasItem xs x ⊎ HasItem ys x
has_either [] ys x i = inr i
has_either (y ∷ xs) ys x i = elim i [
  | inl here ↦ inl (inl here)
  | inr there ↦ elim (has_either xs ys x there) [ inl j ↦ inl (inr j) | inr j ↦ inr j ]
]

pub has_first : {A : Type 0} (xs ys : List A) (x : A) → HasItem xs x → HasItem (xs ++ ys) x
has_first [] ys x i = absurd i
has_first (y ∷ xs) ys x i = elim i [ inl here ↦ inl here | inr there ↦ inr (has_first xs ys x there) ]

pub has_second : {A : Type 0} (xs ys : List A) (x : A) → HasItem ys x → HasItem (xs ++ ys) x
has_second [] ys x i = i
has_second (y ∷ xs) ys x i = inr (has_second xs ys x i)

-- an item of a list with one more is an old one or the last
pub has_old_or_last : {A : Type 0} (xs : List A) (last x : A) → HasItem (xs ++ last ∷ []) x → HasItem xs x ⊎ (last ≡ x)
has_old_or_last xs last x i = elim (has_either xs (last ∷ []) x i) [
  | inl old ↦ inl old
  | inr behind ↦ elim behind [ inl same ↦ inr same | inr none ↦ absurd none ]
]

pub has_last : {A : Type 0} (xs : List A) (last : A) → HasItem (xs ++ last ∷ []) last
has_last xs last = has_second xs (last ∷ []) last (inl refl)
