-- The numbers of a run that a pattern doesn't match, by the bits of the pattern.
use Rattle.std.proofs.Common.{◌≡◌, ℕ, zero, suc, ◌+◌, ◌-◌, ◌<◌, Bool, true, false, ◌&&◌, ◌||◌, not, Option, Some, None, refl, sym, ap, ◌∙◌, arith}
use Rattle.std.proofs.lemmas.Bool.{and_parts, and_from, false≢true, false_from_ne_true}
use Rattle.set_pieces.specs.declared.pattern.Pattern.{Pattern}
use Rattle.set_pieces.specs.declared.run.Run.{Run}
use Rattle.set_pieces.specs.Counting.{one}
use Rattle.set_pieces.specs.Internal.Patterns.{matches, matches_below}
use Rattle.set_pieces.specs.Ends.{HasPage, IsFirstFrom}
use Rattle.set_pieces.specs.Internal.Runs.{in_run, is_in_run}
use Rattle.set_pieces.proofs.Pieces.{matches_fewer}

pub first_same : (t u : ℕ → Bool) (from : ℕ) (o : Option ℕ) → ((x : ℕ) → t x ≡ u x) → IsFirstFrom t from o → IsFirstFrom u from o
first_same t u from None same none = λ x le. sym (same x) ∙ none x le
first_same t u from (Some v) same is = (sym (same v) ∙ is.0, is.1, λ x le lt. sym (same x) ∙ is.2 x le lt)

pub none_yet : (r a : Bool) → a ≡ true → (r && not a) ≡ false
none_yet true true h = refl
none_yet true false h = absurd (false≢true h)
none_yet false a h = refl

next_bit : (r a b m : Bool) → (b ≡ true → a ≡ true) → m ≡ (r && (a && not b)) → ((r && not a) || m) ≡ (r && not b)
next_bit true true b m more is = is
next_bit true false true m more is = absurd (false≢true (more refl))
next_bit true false false m more is = refl
next_bit false a b m more is = is

pub one_missed : (r a b : Bool) → (b ≡ true → a ≡ true) → one (r && not b) ≡ one (r && not a) + one (r && (a && not b))
one_missed true true true more = refl
one_missed true true false more = refl
one_missed true false true more = absurd (false≢true (more refl))
one_missed true false false more = refl
one_missed false a b more = refl

pub one_bit_more : (run : Run) (hole : Pattern) (bit x : ℕ) (m : Bool) → m ≡ (in_run run x && (matches_below hole bit x && not (matches_below hole (bit + 1) x))) →
    ((in_run run x && not (matches_below hole bit x)) || m) ≡ (in_run run x && not (matches_below hole (bit + 1) x))
one_bit_more run hole bit x m is = next_bit (in_run run x) (matches_below hole bit x) (matches_below hole (bit + 1) x) m (matches_fewer hole bit x) is

pub all_bits : (run : Run) (hole : Pattern) (bit x : ℕ) → bit ≡ 32 → matches_below hole 32 x ≡ matches hole x →
    (in_run run x && not (matches_below hole bit x)) ≡ (in_run run x && not (matches hole x))
all_bits run hole bit x is all = ap (λ (n : ℕ). in_run run x && not (matches_below hole n x)) is ∙ ap (λ (b : Bool). in_run run x && not b) all

-- a number without one of the bits doesn't match
fewer_all : (p : Pattern) (n k x : ℕ) → matches_below p (k + n) x ≡ true → matches_below p k x ≡ true
fewer_all p zero k x h = let e : k + 0 ≡ k = omega arith in ap (λ (m : ℕ). matches_below p m x) (sym e) ∙ h
fewer_all p (suc n) k x h =
    let e : k + n + 1 ≡ k + suc n = omega arith in
    fewer_all p n k x (matches_fewer p (k + n) x (ap (λ (m : ℕ). matches_below p m x) e ∙ h))

pub unmatched_by : (p : Pattern) (bit x : ℕ) → bit < 32 → matches_below p 32 x ≡ matches p x → matches_below p (bit + 1) x ≡ false → matches p x ≡ false
unmatched_by p bit x lt all none = false_from_ne_true _ (λ h.
    let e : bit + 1 + (31 - bit) ≡ 32 = omega (arith, lt) in
    false≢true (sym none ∙ fewer_all p (31 - bit) (bit + 1) x (ap (λ (m : ℕ). matches_below p m x) e ∙ all ∙ h)))

pub page_same : (t u : ℕ → Bool) (q : ℕ) → ((x : ℕ) → t x ≡ u x) → HasPage t q → HasPage u q
page_same t u q same (y, h, e) = (y, sym (same y) ∙ h, e)

pub not_true : (b : Bool) → not b ≡ true → b ≡ false
not_true true h = absurd (false≢true h)
not_true false h = refl

pub page_of_part : (run : Run) (hole : Pattern) (bit : ℕ) (part : Option Run) (q : ℕ) → bit < 32 → ((x : ℕ) → matches_below hole 32 x ≡ matches hole x) →
    ((x : ℕ) → is_in_run part x ≡ (in_run run x && (matches_below hole bit x && not (matches_below hole (bit + 1) x)))) →
    HasPage (is_in_run part) q → HasPage (λ x. in_run run x && not (matches hole x)) q
page_of_part run hole bit part q lt all is (y, h, e) =
    let parts = and_parts _ _ (sym (is y) ∙ h) in
    let bits = and_parts _ _ parts.1 in
    let none : matches hole y ≡ false = unmatched_by hole bit y lt (all y) (not_true _ bits.1) in
    (y, and_from _ _ parts.0 (ap not none), e)
