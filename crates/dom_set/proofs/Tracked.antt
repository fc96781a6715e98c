-- Tracks around the numbers of runs.
use Rattle.std.proofs.Common.{◌≡◌, ℕ, ◌+◌, ◌<◌, ◌≤◌, ◌⊎◌, inl, inr, Option, Some, ◌%◌, ◌^◌, Bool, true, false, ◌&&◌, ◌||◌, not, eqb, leb, List, [], ◌∷◌, ◌++◌, length, get_or, take, refl, sym, ap, ◌∙◌, arith}
use Rattle.std.proofs.lemmas.Bool.{le-leb, eq-eqb, and_from, and_parts, or_left, or_right, or_cases}
use Rattle.std.proofs.lemmas.List.Folds.{list_any-append, list_any_more}
use Rattle.set_pieces.specs.declared.pattern.Pattern.{Pattern}
use Rattle.set_pieces.specs.declared.run.Run.{Run}
use Rattle.set_pieces.specs.declared.piece.Piece.{Piece}
use Rattle.dom_set.specs.declared.track.Track.{Track}
use Rattle.set_pieces.specs.Counting.{one}
use Rattle.set_pieces.specs.Internal.Patterns.{matches, matches_below, is_matched}
use Rattle.set_pieces.specs.Internal.Runs.{in_run, is_in_run}
use Rattle.set_pieces.specs.Internal.Pieces.{in_piece, holds}
use Rattle.dom_set.specs.Tracks.{is_on, is_on_one, AreKept}
use Rattle.set_pieces.proofs.Pieces.{passes}
use Rattle.set_pieces.proofs.Unmatched.{not_true}

pub run_matched : (p : Run) (x : ℕ) → in_run p x ≡ true → matches p.pattern x ≡ true
unfolding in_run
run_matched p x h = (passes (matches p.pattern) p.low p.high x h).matched

-- one track more
pub on_old : (ts : List Track) (t : Track) → AreKept ts (ts ++ t ∷ [])
on_old ts t x h = list_any-append (λ s. is_on s x) ts (t ∷ []) ∙ or_left _ _ h

pub on_track : (low high shift x : ℕ) → low ≤ x → x ≤ high → x % 2 ^ shift ≡ low % 2 ^ shift → ((leb low x && leb x high) && eqb (x % 2 ^ shift) (low % 2 ^ shift)) ≡ true
on_track low high shift x from to same = and_from _ _ (and_from _ _ (le-leb _ _ from) (le-leb _ _ to)) (eq-eqb _ _ same)

pub on_new : (ts : List Track) (t : Track) (x : ℕ) → is_on t x ≡ true → is_on_one (ts ++ t ∷ []) x ≡ true
on_new ts t x on = list_any-append (λ s. is_on s x) ts (t ∷ []) ∙ or_right (is_on_one ts x) _ (or_left _ false on)

-- what matches a pattern matches one of its halves
pub one_half : (a b c : Bool) → one a ≡ one b + one c → a ≡ true → (b || c) ≡ true
one_half a true c is h = refl
one_half a false true is h = refl
one_half true false false is h = absurd (omega (arith, is))
one_half false false false is h = h

pub bool_cases : (b : Bool) → (b ≡ true) ⊎ (b ≡ false)
bool_cases true = inl refl
bool_cases false = inr refl

-- one bit more: numbers without it are covered by then
pub bit_covered : (run : Run) (hole : Pattern) (bit x : ℕ) (part : Option Run) (before now : List Track) →
    is_in_run part x ≡ (in_run run x && (matches_below hole bit x && not (matches_below hole (bit + 1) x))) →
    (in_run run x ≡ true → matches_below hole bit x ≡ false → is_on_one before x ≡ true) → AreKept before now → (is_in_run part x ≡ true → is_on_one now x ≡ true) →
    in_run run x ≡ true → matches_below hole (bit + 1) x ≡ false → is_on_one now x ≡ true
bit_covered run hole bit x part before now is covered kept added held none = elim (bool_cases (matches_below hole bit x)) [
  | inl yet ↦ added (is ∙ and_from _ _ held (and_from _ _ yet (ap not none)))
  | inr already ↦ kept x (covered held already)
]

pub in_holed : (p : Piece) (hole : Pattern) (x : ℕ) → p.hole ≡ Some hole → in_piece p x ≡ true → (in_run p.run x ≡ true) × (matches hole x ≡ false)
unfolding in_piece
in_holed p hole x is h =
    let parts = and_parts _ _ h in
    (parts.0, not_true _ (ap (λ (o : Option Pattern). not (is_matched o x)) (sym is) ∙ parts.1))

-- one piece more
pub piece_covered : (ps : List Piece) (i : ℕ) (p : Piece) (before now : List Track) (x : ℕ) → i < length ps → p ≡ get_or ps i p →
    (holds (take i ps) x ≡ true → is_on_one before x ≡ true) → AreKept before now → (in_piece p x ≡ true → is_on_one now x ≡ true) →
    holds (take (i + 1) ps) x ≡ true → is_on_one now x ≡ true
piece_covered ps i p before now x lt is covered kept added h =
    elim (or_cases (holds (take i ps) x) (in_piece p x) (ap (λ (q : Piece). holds (take i ps) x || in_piece q x) is ∙ sym (list_any_more (λ q. in_piece q x) ps i p lt) ∙ h)) [
      | inl old ↦ kept x (covered old)
      | inr new ↦ added new
    ]
