-- The blocks of memory that accesses touch.
use Rattle.std.proofs.Common.{◌≡◌, ℕ, suc, ◌+◌, ◌%◌, ◌<◌, ◌≤◌, ◌^◌, Bool, true, false, ◌==◌, ◌&&◌, ◌||◌, List, [], ◌∷◌, ◌++◌, refl, sym, ap, ◌∙◌, arith, drop, get_or, length}
use Rattle.std.specs.Prelude.{nat_le}
use Rattle.std.specs.Borrow.{Bor}
use Rattle.std.specs.List.{list_any}
use Rattle.std.proofs.Math.Seq.{drop-cons}
use Rattle.std.proofs.lemmas.List.{drop_all}
use Rattle.std.proofs.lemmas.List.Folds.{list_any-append}
use Rattle.dom_set.specs.Elements.{is_within}
use Rattle.rv_hart.specs.declared.record.Record.{Record}
use Rattle.leaf_stand.specs.Shared.{AddsSpans, traces_of}

or_none : (a : Bool) → (a || false) ≡ a
or_none true = refl
or_none false = refl

or_assoc : (a b c : Bool) → ((a || b) || c) ≡ (a || (b || c))
or_assoc true b c = refl
or_assoc false b c = refl

-- ONE THING AFTER THE OTHER
abbrev pub IsSoFar : {A : Type 0} → (A → ℕ → Bool) → List A → ℕ → List (ℕ × ℕ) → List (ℕ × ℕ) → Type 0
IsSoFar test xs i start now = (v : ℕ) → v < 2 ^ 32 → (is_within now v || list_any (λ x. test x v) (drop i xs)) ≡ (is_within start v || list_any (λ x. test x v) xs)

pub next_spans : {A : Type 0} (test : A → ℕ → Bool) (xs : List A) (i : ℕ) (d : A) (start old new : List (ℕ × ℕ)) → i < length xs → IsSoFar test xs i start old → AddsSpans (test (get_or xs i d)) old new → IsSoFar test xs (i + 1) start new
next_spans {A} test xs i d start old new lt before added v small =
    let n : i + 1 ≡ suc i = omega arith in
    let e : drop i xs ≡ get_or xs i d ∷ drop (i + 1) xs = drop-cons xs i d lt ∙ ap (λ (m : ℕ). get_or xs i d ∷ drop m xs) (sym n) in
    ap (λ (b : Bool). b || list_any (λ x. test x v) (drop (i + 1) xs)) (added v small)
    ∙ or_assoc (is_within old v) (test (get_or xs i d) v) (list_any (λ x. test x v) (drop (i + 1) xs))
    ∙ ap (λ (l : List A). is_within old v || list_any (λ x. test x v) l) (sym e) ∙ before v small

pub all_spans : {A : Type 0} (test : A → ℕ → Bool) (xs : List A) (i : ℕ) (start now : List (ℕ × ℕ)) → length xs ≤ i → IsSoFar test xs i start now → AddsSpans (λ v. list_any (λ x. test x v) xs) start now
all_spans {A} test xs i start now le far v small =
    sym (or_none (is_within now v)) ∙ sym (ap (λ (l : List A). is_within now v || list_any (λ x. test x v) l) (drop_all i xs le)) ∙ far v small

pub none_added : (test : ℕ → Bool) (old : List (ℕ × ℕ)) → ((v : ℕ) → test v ≡ false) → AddsSpans test old old
none_added test old none v small = sym (or_none (is_within old v)) ∙ ap (λ (b : Bool). is_within old v || b) (sym (none v))

pub one_added : (test : ℕ → Bool) (old new : List (ℕ × ℕ)) (span : ℕ × ℕ) → new ≡ old ++ span ∷ [] → ((v : ℕ) → v < 2 ^ 32 → (nat_le span.0 v && nat_le v span.1) ≡ test v) → AddsSpans test old new
one_added test old new span e is v small =
    ap (λ (l : List (ℕ × ℕ)). is_within l v) e ∙ list_any-append (λ r. nat_le r.0 v && nat_le v r.1) old (span ∷ [])
    ∙ ap (λ (b : Bool). is_within old v || b) (or_none (nat_le span.0 v && nat_le v span.1) ∙ is v small)

-- the records of all harts
pub any_traces : (test : List Record → Bool) (others : List (Bor (List Record))) → list_any (λ r. test r.now) others ≡ list_any test (traces_of others)
any_traces test [] = refl
any_traces test (r ∷ others) = ap (λ (b : Bool). test r.now || b) (any_traces test others)

-- each number is a multiple of 1
pub each_number : (v : ℕ) (b : Bool) → (v % 1 == 0 && b) ≡ b
each_number v b = let e : v % 1 ≡ 0 = omega arith in ap (λ (n : ℕ). n == 0 && b) e
