-- Loops over lists: what is listed, how often, and what is left.
use Rattle.std.proofs.Common.{◌≡◌, ◌==◌, ℕ, ◌+◌, ◌<◌, ◌≤◌, Bool, true, false, ◌||◌, List, [], ◌∷◌, ◌++◌, length, get_or, drop, refl, sym, ap, ◌∙◌, subst, eqb-true, arith}
use Rattle.std.specs.List.{list_any}
use Rattle.std.proofs.lemmas.List.{drop_more, drop_all}
use Rattle.std.proofs.lemmas.List.Folds.{list_any-append}
use Rattle.dom_set.specs.Counting.{one}
use Rattle.dom_set.specs.Elements.{is_in}
use Rattle.row_parts.specs.Times.{times_by}

pub rest_is : {X : Type 0} (xs : List X) (i : ℕ) (x : X) → i < length xs → x ≡ get_or xs i x → drop i xs ≡ x ∷ drop (i + 1) xs
rest_is {X} xs i x lt is = drop_more xs i x lt ∙ ap (λ (y : X). y ∷ drop (i + 1) xs) (sym is)

pub any_rest : {X : Type 0} (p : X → Bool) (xs : List X) (i : ℕ) (x : X) → i < length xs → x ≡ get_or xs i x → list_any p (drop i xs) ≡ (p x || list_any p (drop (i + 1) xs))
any_rest {X} p xs i x lt is = ap (λ (ys : List X). list_any p ys) (rest_is xs i x lt is)

pub any_done : {X : Type 0} (p : X → Bool) (xs : List X) (i : ℕ) → length xs ≤ i → list_any p (drop i xs) ≡ false
any_done {X} p xs i le = ap (λ (ys : List X). list_any p ys) (drop_all i xs le)

pub or_false : (a : Bool) → (a || false) ≡ a
or_false true = refl
or_false false = refl

pub or_assoc : (a b c : Bool) → ((a || b) || c) ≡ (a || (b || c))
or_assoc true b c = refl
or_assoc false b c = refl

-- one item more
pub any_pushed : {X : Type 0} (p : X → Bool) (xs : List X) (x : X) (rest : Bool) → (list_any p (xs ++ x ∷ []) || rest) ≡ (list_any p xs || (p x || rest))
any_pushed p xs x rest =
    ap (λ (b : Bool). b || rest) (list_any-append p xs (x ∷ []) ∙ ap (λ (b : Bool). list_any p xs || b) (or_false (p x)))
    ∙ or_assoc (list_any p xs) (p x) rest

pub pushed : (vs : List ℕ) (v w : ℕ) (rest : Bool) → (is_in (vs ++ v ∷ []) w || rest) ≡ (is_in vs w || ((v == w) || rest))
pushed vs v w rest = any_pushed (λ (y : ℕ). y == w) vs v rest

pub times_append : {X : Type 0} (test : X → Bool) (xs : List X) (x : X) → times_by test (xs ++ x ∷ []) ≡ times_by test xs + one (test x)
times_append test [] x = omega arith
times_append test (y ∷ xs) x = omega (arith, times_append test xs x)

-- ---- lists of which no two items are the same

pub record Equals {X : Type 0} (eq : X → X → Bool) : Type 0 where
  pub is : (a b : X) → eq a b ≡ true → a ≡ b

abbrev pub Once : {X : Type 0} → (X → X → Bool) → List X → Type 0
Once {X} eq xs = (y : X) → times_by (λ x. eq x y) xs ≡ one (list_any (λ x. eq x y) xs)

one_more : (n : ℕ) (a b : Bool) → (b ≡ true → a ≡ false) → n ≡ one a → n + one b ≡ one (a || (b || false))
one_more n true true apart h = absurd (cc (apart refl))
one_more n true false apart h = omega (arith, h)
one_more n false true apart h = omega (arith, h)
one_more n false false apart h = omega (arith, h)

pub once_pushed : {X : Type 0} (eq : X → X → Bool) → Equals eq → (xs : List X) (x : X) → list_any (λ a. eq a x) xs ≡ false → Once eq xs → Once eq (xs ++ x ∷ [])
once_pushed {X} eq equals xs x new once = λ y.
    times_append (λ a. eq a y) xs x
    ∙ one_more (times_by (λ a. eq a y) xs) (list_any (λ a. eq a y) xs) (eq x y) (λ e. subst (λ (z : X). list_any (λ a. eq a z) xs ≡ false) (equals.is x y e) new) (once y)
    ∙ ap one (sym (list_any-append (λ a. eq a y) xs (x ∷ [])))

kept_or : (a b rest : Bool) → (b ≡ true → a ≡ true) → (a || (b || rest)) ≡ (a || rest)
kept_or true b rest h = refl
kept_or false true rest h = absurd (cc (h refl))
kept_or false false rest h = refl

pub rest_kept : {X : Type 0} (eq : X → X → Bool) → Equals eq → (xs : List X) (x y : X) (rest : Bool) → list_any (λ a. eq a x) xs ≡ true → (list_any (λ a. eq a y) xs || rest) ≡ (list_any (λ a. eq a y) xs || (eq x y || rest))
rest_kept {X} eq equals xs x y rest there = sym (kept_or (list_any (λ a. eq a y) xs) (eq x y) rest (λ e. subst (λ (z : X). list_any (λ a. eq a z) xs ≡ true) (equals.is x y e) there))

-- numbers
nat_equals : Equals (λ (v w : ℕ). v == w)
nat_equals = record { is = λ a b h. eqb-true a b h }

pub nat_kept : (vs : List ℕ) (v w : ℕ) (rest : Bool) → is_in vs v ≡ true → (is_in vs w || rest) ≡ (is_in vs w || ((v == w) || rest))
nat_kept vs v w rest there = rest_kept (λ (a b : ℕ). a == b) nat_equals vs v w rest there

pub nat_once : (vs : List ℕ) (v : ℕ) → is_in vs v ≡ false → ((w : ℕ) → times_by (λ y. y == w) vs ≡ one (is_in vs w)) → (w : ℕ) → times_by (λ y. y == w) (vs ++ v ∷ []) ≡ one (is_in (vs ++ v ∷ []) w)
nat_once vs v new once = once_pushed (λ (a b : ℕ). a == b) nat_equals vs v new once
