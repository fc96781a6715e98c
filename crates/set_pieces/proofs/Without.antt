-- Pieces are runs but for a hole.
use Rattle.std.proofs.Common.{◌≡◌, ℕ, ◌+◌, ◌≤◌, Option, Some, None, IsNone, Bool, true, false, ◌&&◌, ◌||◌, not, leb, ltb, refl, sym, ap, ◌∙◌, arith}
use Rattle.std.proofs.lemmas.Bool.{and_parts}
use Rattle.std.proofs.lemmas.Bool.Decides.{nat_tests}
use Rattle.set_pieces.specs.declared.pattern.Pattern.{Pattern}
use Rattle.set_pieces.specs.declared.piece.Piece.{Piece}
use Rattle.set_pieces.specs.declared.run.Run.{Run}
use Rattle.set_pieces.specs.Internal.Patterns.{matches, is_matched}
use Rattle.set_pieces.specs.Counting.{one, total}
use Rattle.set_pieces.specs.Internal.Runs.{in_run, is_in_run}
use Rattle.set_pieces.specs.Internal.Pieces.{in_piece, is_held}
use Rattle.set_pieces.proofs.Pieces.{passes, and_all}
use Rattle.set_pieces.proofs.Totals.{total_same, total_add}

pub own_run : (p : Piece) (x : ℕ) → in_piece p x ≡ true → in_run p.run x ≡ true
unfolding in_piece
own_run p x h = (and_parts _ _ h).0

pub outside : (p : Piece) (x : ℕ) → in_run p.run x ≡ false → in_piece p x ≡ false
unfolding in_piece
outside p x h = ap (λ (b : Bool). b && not (is_matched p.hole x)) h

not_missing : (o : Option Pattern) (x : ℕ) → IsNone o → not (is_matched o x) ≡ true
not_missing None x none = refl
not_missing (Some q) x none = absurd (cc none)

pub whole_piece : (p : Piece) (x : ℕ) → IsNone p.hole → in_piece p x ≡ in_run p.run x
unfolding in_piece
whole_piece p x none = ap (λ (b : Bool). in_run p.run x && b) (not_missing p.hole x none) ∙ and_all (in_run p.run x)

run_ends : (p : Run) (x : ℕ) → in_run p x ≡ true → (p.low ≤ x) × (x ≤ p.high)
unfolding in_run
run_ends p x h = let t = passes (matches p.pattern) p.low p.high x h in (t.above, t.below)

pub in_ends : (p : Piece) (x : ℕ) → in_piece p x ≡ true → (p.run.low ≤ x) × (x ≤ p.run.high)
in_ends p x h = run_ends p.run x (own_run p x h)

-- ---- tests

pub span_twice : (s a b : Bool) → ((s && a) && (s && b)) ≡ ((s && a) && b)
span_twice true a b = refl
span_twice false a b = refl

pub none_of : (s a c : Bool) → false ≡ (a && c) → false ≡ ((s && a) && c)
none_of true a c none = none
none_of false a c none = refl

pub swapped : (r k n : Bool) → ((r && k) && n) ≡ ((r && n) && k)
swapped true true true = refl
swapped true true false = refl
swapped true false true = refl
swapped true false false = refl
swapped false k n = refl

pub none_swapped : (r k n : Bool) → false ≡ (r && k) → false ≡ ((r && n) && k)
none_swapped r k n none = ap (λ (b : Bool). b && n) none ∙ swapped r k n

pub and_no : (a : Bool) → (a && false) ≡ false
and_no true = refl
and_no false = refl

narrower : (s m a b : Bool) → a ≡ (m && b) → ((s && m) && not a) ≡ ((s && m) && not b)
narrower true true a b is = ap not is
narrower true false a b is = refl
narrower false m a b is = refl

-- what else the run's numbers have to match doesn't matter
pub hole_within : (run : Run) (x : ℕ) (a b : Bool) → a ≡ (matches run.pattern x && b) → (in_run run x && not a) ≡ (in_run run x && not b)
unfolding in_run
hole_within run x a b is = narrower _ (matches run.pattern x) a b is

pub no_hole : (run : Run) (x : ℕ) (b : Bool) → false ≡ (matches run.pattern x && b) → in_run run x ≡ (in_run run x && not b)
no_hole run x b none = sym (and_all (in_run run x)) ∙ hole_within run x false b none

-- ---- a pattern more

more_hole : (r a m h : Bool) → h ≡ (a || m) → one (r && not h) + one ((r && not a) && m) ≡ one (r && not a)
more_hole true true m h is = ap (λ (b : Bool). one (not b) + 0) is
more_hole true false true h is = ap (λ (b : Bool). one (not b) + 1) is
more_hole true false false h is = ap (λ (b : Bool). one (not b) + 0) is
more_hole false a m h is = refl

pub holed : (p : Piece) (x : ℕ) (h m : Bool) → h ≡ (is_matched p.hole x || m) → one (in_run p.run x && not h) + one (in_piece p x && m) ≡ one (in_piece p x)
unfolding in_piece
holed p x h m is = more_hole (in_run p.run x) (is_matched p.hole x) m h is

narrow_test : (s k a n m : Bool) → n ≡ (k && m) → (((s && k) && a) && n) ≡ (((s && k) && a) && m)
narrow_test true true a n m is = ap (λ (b : Bool). a && b) is
narrow_test true false a n m is = refl
narrow_test false k a n m is = refl

-- a pattern matters as far as the run's own allows
pub narrow_same : (p : Piece) (x : ℕ) (n m : Bool) → n ≡ (matches p.run.pattern x && m) → (in_piece p x && n) ≡ (in_piece p x && m)
unfolding in_piece in_run
narrow_same p x n m is = narrow_test _ (matches p.run.pattern x) _ n m is

all_tests : (s k a m : Bool) → (k ≡ true → m ≡ true) → (((s && k) && a) && m) ≡ ((s && k) && a)
all_tests true true a m all = ap (λ (b : Bool). a && b) (all refl) ∙ and_all a
all_tests true false a m all = refl
all_tests false k a m all = refl

pub within_all : (p : Piece) (x : ℕ) (m : Bool) → (matches p.run.pattern x ≡ true → m ≡ true) → (in_piece p x && m) ≡ in_piece p x
unfolding in_piece in_run
within_all p x m all = all_tests _ (matches p.run.pattern x) _ m all

-- ---- two pieces

lesser_parts : (p r h : Bool) → one (p && not (r && not h)) ≡ one (p && not r) + one (p && (r && h))
lesser_parts true true true = refl
lesser_parts true true false = refl
lesser_parts true false h = refl
lesser_parts false r h = refl

both_tests : (p r h : Bool) → one (p && r) ≡ one (p && (r && not h)) + one ((p && r) && h)
both_tests true true true = refl
both_tests true true false = refl
both_tests true false h = refl
both_tests false r h = refl

pub both_parts : (p q : Piece) (x : ℕ) → one (in_piece p x && in_run q.run x) ≡ one (in_piece p x && in_piece q x) + one ((in_piece p x && in_run q.run x) && is_matched q.hole x)
unfolding in_piece
both_parts p q x = both_tests (in_piece p x) (in_run q.run x) (is_matched q.hole x)

pub no_both : (p q : Piece) (x : ℕ) → false ≡ (in_piece p x && in_run q.run x) → one (in_piece p x && in_piece q x) ≡ 0
no_both p q x none = let parts = both_parts p q x in omega (arith, parts, ap one none)

pub span_is : (p : Bool) (low high x : ℕ) → (p && (leb low x && ltb x (high + 1))) ≡ (p && (leb low x && leb x high))
span_is true low high x = grind (arith, nat_tests)
span_is false low high x = refl

pub less_parts : (p q : Piece) (x : ℕ) (filled : Bool) → filled ≡ (in_run q.run x && is_matched q.hole x) →
    one (in_piece p x && not (in_piece q x)) ≡ one (in_piece p x && not (in_run q.run x)) + one (in_piece p x && filled)
unfolding in_piece
less_parts p q x filled is = lesser_parts (in_piece p x) (in_run q.run x) (is_matched q.hole x)
    ∙ ap (λ (c : Bool). one (in_piece p x && not (in_run q.run x)) + one (in_piece p x && c)) (sym is)

common_parts : (p r h : Bool) → one (p && r) ≡ one (p && (r && not h)) + one (p && (r && h))
common_parts true true true = refl
common_parts true true false = refl
common_parts true false h = refl
common_parts false r h = refl

-- ---- counting

parted : (p q : Piece) (x : ℕ) (filled : Bool) → filled ≡ (in_run q.run x && is_matched q.hole x) → one (in_piece p x && in_run q.run x) ≡ one (in_piece p x && in_piece q x) + one (in_piece p x && filled)
unfolding in_piece
parted p q x filled is = common_parts (in_piece p x) (in_run q.run x) (is_matched q.hole x)
    ∙ ap (λ (c : Bool). one (in_piece p x && in_piece q x) + one (in_piece p x && c)) (sym is)

pub counted_both : (p q : Piece) (common part : Option Piece) (filled : Option Run) (n : ℕ) → ((x : ℕ) → is_held common x ≡ (in_piece p x && in_run q.run x)) →
    ((x : ℕ) → is_in_run filled x ≡ (in_run q.run x && is_matched q.hole x)) → ((x : ℕ) → is_held part x ≡ (in_piece p x && is_in_run filled x)) →
    total (λ x. one (is_held common x)) n ≡ total (λ x. one (in_piece p x && in_piece q x)) n + total (λ x. one (is_held part x)) n
counted_both p q common part filled n both is parts =
    total_same (λ x. one (is_held common x)) (λ x. one (in_piece p x && in_piece q x) + one (is_held part x)) n
    (λ x _. ap one (both x) ∙ parted p q x (is_in_run filled x) (is x) ∙ ap (λ (b : Bool). one (in_piece p x && in_piece q x) + one b) (sym (parts x)))
    ∙ total_add (λ x. one (in_piece p x && in_piece q x)) (λ x. one (is_held part x)) n

one_apart : (a b : Bool) → one a ≡ one (a && not b) + one (a && b)
one_apart true true = refl
one_apart true false = refl
one_apart false b = refl

-- the numbers of a run are those of the piece and those that the hole matches
pub counted_apart : (p : Piece) (filled : Option Run) (n : ℕ) → ((x : ℕ) → is_in_run filled x ≡ (in_run p.run x && is_matched p.hole x)) →
    total (λ x. one (in_run p.run x)) n ≡ total (λ x. one (in_piece p x)) n + total (λ x. one (is_in_run filled x)) n
unfolding in_piece
counted_apart p filled n is =
    total_same (λ x. one (in_run p.run x)) (λ x. one (in_run p.run x && not (is_matched p.hole x)) + one (is_in_run filled x)) n
    (λ x _. one_apart (in_run p.run x) (is_matched p.hole x) ∙ ap (λ (b : Bool). one (in_run p.run x && not (is_matched p.hole x)) + one b) (sym (is x)))
    ∙ total_add (λ x. one (in_run p.run x && not (is_matched p.hole x))) (λ x. one (is_in_run filled x)) n
