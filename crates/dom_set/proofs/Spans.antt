-- Ranges around the numbers of pieces.
use Rattle.std.proofs.Common.{◌≡◌, ℕ, ◌+◌, ◌<◌, ◌≤◌, Bool, true, false, ◌&&◌, ◌||◌, leb, List, [], ◌∷◌, ◌++◌, length, get_or, take, IsTrue, All, refl, sym, ap, ◌∙◌, subst, arith}
use Rattle.std.proofs.lemmas.Bool.{le-leb, and_from, false≢true}
use Rattle.std.proofs.lemmas.List.Elements.{All-append}
use Rattle.std.proofs.lemmas.List.Folds.{list_any-append, list_any_at, list_any_more}
use Rattle.set_pieces.specs.declared.piece.Piece.{Piece}
use Rattle.dom_set.specs.Elements.{elements_of, is_in, is_within}
use Rattle.set_pieces.specs.Internal.Pieces.{in_piece, holds}
use Rattle.set_pieces.specs.Ends.{AreEnds}
use Rattle.dom_set.proofs.Sets.{Contains-elements, held_word, is_in-elements, is_in_tests}

-- numbers that pass one test pass another that the first implies
pub wider_ends : (t u : ℕ → Bool) (span : ℕ × ℕ) → ((x : ℕ) → t x ≡ true → u x ≡ true) → AreEnds t span → AreEnds u span
wider_ends t u span more ends = record { ordered = ends.ordered; low = more span.0 ends.low; high = more span.1 ends.high }

pub ends_in : (ps : List Piece) (span : ℕ × ℕ) → AreEnds (holds ps) span → AreEnds (is_in (elements_of (holds ps))) span
ends_in ps span = wider_ends (holds ps) (is_in (elements_of (holds ps))) span (λ x h. is_in-elements (holds ps) x (held_word ps x h) ∙ h)

pub all_ends_in : (ps : List Piece) (spans : List (ℕ × ℕ)) → All (AreEnds (holds ps)) spans → All (AreEnds (is_in (elements_of (holds ps)))) spans
all_ends_in ps spans all k d below = ends_in ps (get_or spans k d) (all k d below)

pub held_element : (ps : List Piece) (x : ℕ) → IsTrue (is_in (elements_of (holds ps)) x) → holds ps x ≡ true
held_element ps x h = ((Contains-elements (holds ps) x).0 ((is_in_tests (elements_of (holds ps)) x).0 h)).1

pub covered_elements : (ps : List Piece) (spans : List (ℕ × ℕ)) → ((x : ℕ) → holds ps x ≡ true → is_within spans x ≡ true) → (x : ℕ) → IsTrue (is_in (elements_of (holds ps)) x) → IsTrue (is_within spans x)
covered_elements ps spans covered x h = covered x (held_element ps x h)

-- ---- one piece more

held_or : (ps : List Piece) (i : ℕ) (p : Piece) (x : ℕ) → i < length ps → get_or ps i p ≡ p → holds (take (i + 1) ps) x ≡ (holds (take i ps) x || in_piece p x)
held_or ps i p x lt is = list_any_more (λ q. in_piece q x) ps i p lt ∙ ap (λ (q : Piece). holds (take i ps) x || in_piece q x) is

or_none : (a b : Bool) → b ≡ false → (a || b) ≡ true → a ≡ true
or_none true b none h = refl
or_none false b none h = absurd (false≢true (sym none ∙ h))

pub covered_none : (ps : List Piece) (i : ℕ) (p : Piece) (spans : List (ℕ × ℕ)) (x : ℕ) → i < length ps → get_or ps i p ≡ p → ((y : ℕ) → holds (take i ps) y ≡ true → is_within spans y ≡ true) → ((y : ℕ) → in_piece p y ≡ false) → holds (take (i + 1) ps) x ≡ true → is_within spans x ≡ true
covered_none ps i p spans x lt is before none h = before x (or_none (holds (take i ps) x) (in_piece p x) (none x) (sym (held_or ps i p x lt is) ∙ h))

within_or : (spans : List (ℕ × ℕ)) (s : ℕ × ℕ) (x : ℕ) → is_within (spans ++ s ∷ []) x ≡ (is_within spans x || is_within (s ∷ []) x)
within_or spans s x = list_any-append (λ (r : ℕ × ℕ). leb r.0 x && leb x r.1) spans (s ∷ [])

first_or : (a b : Bool) → a ≡ true → (a || b) ≡ true
first_or true b h = refl
first_or false b h = absurd (false≢true h)

second_or : (a b : Bool) → b ≡ true → (a || b) ≡ true
second_or true b h = refl
second_or false b h = h

either_true : (a b c : Bool) → (a || b) ≡ true → (a ≡ true → c ≡ true) → (b ≡ true → c ≡ true) → c ≡ true
either_true true b c h left right = left refl
either_true false b c h left right = right h

pub covered_more : (ps : List Piece) (i : ℕ) (p : Piece) (spans : List (ℕ × ℕ)) (s : ℕ × ℕ) (x : ℕ) → i < length ps → get_or ps i p ≡ p → ((y : ℕ) → holds (take i ps) y ≡ true → is_within spans y ≡ true) → ((y : ℕ) → in_piece p y ≡ true → (s.0 ≤ y) × (y ≤ s.1)) → holds (take (i + 1) ps) x ≡ true → is_within (spans ++ s ∷ []) x ≡ true
covered_more ps i p spans s x lt is before around h =
    within_or spans s x ∙ either_true (holds (take i ps) x) (in_piece p x) (is_within spans x || is_within (s ∷ []) x) (sym (held_or ps i p x lt is) ∙ h)
    (λ a. first_or (is_within spans x) (is_within (s ∷ []) x) (before x a))
    (λ b. second_or (is_within spans x) (is_within (s ∷ []) x) (first_or (leb s.0 x && leb x s.1) false (and_from _ _ (le-leb s.0 x (around x b).0) (le-leb x s.1 (around x b).1))))

one_all : (P : ℕ × ℕ → Type 0) (s : ℕ × ℕ) → P s → All P (s ∷ [])
one_all P s h k d below = subst (λ (j : ℕ). P (get_or (s ∷ []) j d)) (first k below) h where
  first : (j : ℕ) → j < 1 → 0 ≡ j
  first j lt = omega arith

pub ends_more : (ps : List Piece) (i : ℕ) (p : Piece) (spans : List (ℕ × ℕ)) (s : ℕ × ℕ) → i < length ps → get_or ps i p ≡ p → All (AreEnds (holds ps)) spans → AreEnds (in_piece p) s → All (AreEnds (holds ps)) (spans ++ s ∷ [])
ends_more ps i p spans s lt is all part =
    All-append (AreEnds (holds ps)) spans (s ∷ []) all
    (one_all (AreEnds (holds ps)) s (wider_ends (in_piece p) (holds ps) s (λ x h. list_any_at (λ q. in_piece q x) ps i p lt (ap (λ (q : Piece). in_piece q x) is ∙ h)) part))
