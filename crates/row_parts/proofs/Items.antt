-- The ends of items that pass a test, item by item.
use Rattle.std.proofs.Common.{◌≡◌, ℕ, ◌+◌, Bool, true, false, List, [], ◌∷◌, ◌++◌, Some, slice_get, refl, ap, ◌∙◌, arith}
use Rattle.std.proofs.lemmas.List.{append-nil}
use Rattle.std.proofs.lemmas.List.Folds.{list_any_at}
use Rattle.std.proofs.lemmas.Option.{get_or_from_slice_get, slice_get_within}
use Rattle.rv_mem.specs.declared.words.Seen.{Seen}
use Rattle.dom_set.specs.Counting.{one}
use Rattle.row_parts.specs.Times.{times_by}
use Rattle.row_parts.specs.Classes.{same, any_seen, times_seen, EachOnce}
use Rattle.row_parts.specs.Rows.{End, when}
use Rattle.row_parts.specs.Items.{by_items, by_kind}
use Rattle.row_parts.proofs.SeenOnce.{same_is, same_self}

cons_none : (b : Bool) (e rest : List End) (n : ℕ) → one b + n ≡ 0 → (n ≡ 0 → rest ≡ []) → when b e ++ rest ≡ []
cons_none true e rest n h none = absurd (omega (arith, h))
cons_none false e rest n h none = none (omega (arith, h))

pub cons_one : (b : Bool) (e want rest : List End) (n : ℕ) → one b + n ≡ 1 → (b ≡ true → e ≡ want) → (n ≡ 0 → rest ≡ []) → (n ≡ 1 → rest ≡ want) → when b e ++ rest ≡ want
cons_one true e want rest n h this none one_ = ap (λ (r : List End). e ++ r) (none (omega (arith, h))) ∙ append-nil e ∙ this refl
cons_one false e want rest n h this none one_ = one_ (omega (arith, h))

pub items_none : {X : Type 0} (test : X → Bool) (f : X → List End) (xs : List X) → times_by test xs ≡ 0 → by_items test xs f ≡ []
items_none test f [] h = refl
items_none test f (x ∷ xs) h = cons_none (test x) (f x) (by_items test xs f) (times_by test xs) h (items_none test f xs)

pub items_one : {X : Type 0} (test : X → Bool) (f : X → List End) (y : X) → ((x : X) → test x ≡ true → x ≡ y) → (xs : List X) → times_by test xs ≡ 1 → by_items test xs f ≡ f y
items_one test f y is [] h = absurd (omega (arith, h))
items_one {X} test f y is (x ∷ xs) h = cons_one (test x) (f x) (f y) (by_items test xs f) (times_by test xs) h (λ t. ap f (is x t)) (items_none test f xs) (items_one test f y is xs)

pub kind_one : (ks : List Seen) (s : Seen) (f : Seen → List End) → times_seen ks s ≡ 1 → by_kind ks s f ≡ f s
kind_one ks s f h = items_one (λ k. same k s) f s (λ k t. same_is k s t) ks h

listed : (table : List Seen) (i : ℕ) (s : Seen) → slice_get table i ≡ Some s → any_seen table s ≡ true
listed table i s is = list_any_at (λ k. same k s) table i s (slice_get_within table i s is) (ap (λ (k : Seen). same k s) (get_or_from_slice_get table i s s is) ∙ same_self s)

-- a list that has each thing that is seen once gives its ends
pub gives_each : (table kinds : List Seen) (i : ℕ) (s : Seen) (f : Seen → List End) → EachOnce table kinds → slice_get table i ≡ Some s → by_kind kinds s f ≡ f s
gives_each table kinds i s f once is = kind_one kinds s f (once s ∙ ap one (listed table i s is))
