-- Differences of sets by their tracks.
use Rattle.std.proofs.Common.{◌≡◌, ℕ, ◌+◌, ◌-◌, ◌%◌, ◌^◌, ◌<◌, ◌≤◌, ◌==◌, ◌&&◌, ◌||◌, ◌++◌, ◌∷◌, [], inl, inr, Bool, true, false, List, All, Option, Some, None, IfSome, IsTrue, nat_le, length, take, get_or, slice_get, refl, sym, ap, ◌∙◌, subst, eqb-true, eq-eqb, arith}
use Rattle.std.specs.List.{find, position_or_len}
use Rattle.std.specs.List.Sorted.{IsStrictlyIncreasing}
use Rattle.std.specs.Option.{option_or}
use Rattle.std.proofs.lemmas.Bool.{cases_lt, leb-true, leb-false, le-leb, and_parts, and_from, or_left, or_right}
use Rattle.std.proofs.lemmas.List.Folds.{find_at, list_any-append, list_any_more}
use Rattle.std.proofs.lemmas.List.Kept.{AllPairs-from_increasing}
use Rattle.std.proofs.lemmas.List.Sums.{fails_before_first, passes_at_first}
use Rattle.std.proofs.lemmas.Nat.{pow_pos}
use Rattle.std.proofs.lemmas.Option.{slice_get-get_or}
use Rattle.lane_bits.specs.Pages.{has}
use Rattle.dom_set.specs.declared.track.Track.{Track}
use Rattle.dom_set.specs.Elements.{first_cyclic, is_in, is_within}
use Rattle.dom_set.specs.Tracks.{is_on, is_on_one}
use Rattle.near_marks.specs.declared.steps.Steps.{Steps}
use Rattle.near_marks.specs.Internal.Near.{HaveNear, is_at, is_at_one, is_marked}
use Rattle.set_sums.specs.Internal.Near.{AreBackward, AreForward, AreInRanges, HasNearDifferences, HasNearOn, IsAgainst, IsAlong, IsNarrow}
use Rattle.set_sums.specs.Internal.Spans.{IsOfRanges}
use Rattle.near_marks.proofs.Grids.{mirrored}
use Rattle.set_sums.proofs.Members.{element}
use Rattle.set_sums.proofs.Spans.{either}

-- ---- steps by tracks

on_parts : (t : Track) (x : ℕ) → IsTrue (is_on t x) → (t.low ≤ x) × (x ≤ t.high) × (x % 2 ^ t.shift ≡ t.low % 2 ^ t.shift)
on_parts t x h =
    let both = and_parts (nat_le t.low x && nat_le x t.high) (x % 2 ^ t.shift == t.low % 2 ^ t.shift) h in
    let ends = and_parts (nat_le t.low x) (nat_le x t.high) both.0 in
    (leb-true t.low x ends.0, leb-true x t.high ends.1, eqb-true (x % 2 ^ t.shift) (t.low % 2 ^ t.shift) both.1)

pub against_at : (t : Track) (low high x : ℕ) → t.high < 2 ^ 32 → low ≡ 2 ^ 32 + 2048 - t.high → high ≡ 2 ^ 32 + 2048 - t.low → IsTrue (is_on t x) → IsTrue ((nat_le low (2 ^ 32 + 2048 - x) && nat_le (2 ^ 32 + 2048 - x) high) && ((2 ^ 32 + 2048 - x) % 2 ^ t.shift == low % 2 ^ t.shift))
against_at t low high x small low_is high_is h =
    let on = on_parts t x h in
    let alike : x % 2 ^ t.shift ≡ t.high % 2 ^ t.shift = on.2 ∙ sym t.ends in
    and_from (nat_le low (2 ^ 32 + 2048 - x) && nat_le (2 ^ 32 + 2048 - x) high) ((2 ^ 32 + 2048 - x) % 2 ^ t.shift == low % 2 ^ t.shift)
    (and_from (nat_le low (2 ^ 32 + 2048 - x)) (nat_le (2 ^ 32 + 2048 - x) high) (le-leb low (2 ^ 32 + 2048 - x) (omega (arith, on.1, low_is))) (le-leb (2 ^ 32 + 2048 - x) high (omega (arith, on.0, high_is))))
    (eq-eqb ((2 ^ 32 + 2048 - x) % 2 ^ t.shift) (low % 2 ^ t.shift)
    (mirrored (2 ^ t.shift) (2 ^ 32 + 2048) x t.high (pow_pos t.shift) alike on.1 (omega (arith, small)) ∙ ap (λ (n : ℕ). n % 2 ^ t.shift) (sym low_is)))

pushed : (all new : List Steps) (s : Steps) (x : ℕ) → new ≡ all ++ s ∷ [] → IsTrue (is_at_one all x || is_at s x) → IsTrue (is_at_one new x)
pushed all new s x new_is h = subst (λ (d : List Steps). IsTrue (is_at_one d x)) (sym new_is) (subst IsTrue (sym (list_any-append (λ (t : Steps). is_at t x) all (s ∷ []) ∙ ap (λ (b : Bool). is_at_one all x || b) (alone (is_at s x)))) h) where
  alone : (b : Bool) → (b || false) ≡ b
  alone true = refl
  alone false = refl

pub forward_more : (tracks : List Track) (all new : List Steps) (i : ℕ) (t : Track) (s : Steps) → i < length tracks → t ≡ get_or tracks i t → new ≡ all ++ s ∷ [] → IsAlong t s → AreForward (take i tracks) all → AreForward (take (i + 1) tracks) new
forward_more tracks all new i t s below is new_is one before x h =
    elim (either (is_on_one (take i tracks) x) (is_on (get_or tracks i t) x) (subst IsTrue (list_any_more (λ (u : Track). is_on u x) tracks i t below) h)) [
      | inl old ↦ pushed all new s x new_is (or_left (is_at_one all x) (is_at s x) (before x old))
      | inr here ↦ pushed all new s x new_is (or_right (is_at_one all x) (is_at s x) (one x (subst (λ (u : Track). IsTrue (is_on u x)) (sym is) here)))
    ]

pub backward_more : (tracks : List Track) (all new : List Steps) (i : ℕ) (t : Track) (s : Steps) → i < length tracks → t ≡ get_or tracks i t → new ≡ all ++ s ∷ [] → IsAgainst t s → AreBackward (take i tracks) all → AreBackward (take (i + 1) tracks) new
backward_more tracks all new i t s below is new_is one before x h =
    elim (either (is_on_one (take i tracks) x) (is_on (get_or tracks i t) x) (subst IsTrue (list_any_more (λ (u : Track). is_on u x) tracks i t below) h)) [
      | inl old ↦ pushed all new s (2 ^ 32 + 2048 - x) new_is (or_left (is_at_one all (2 ^ 32 + 2048 - x)) (is_at s (2 ^ 32 + 2048 - x)) (before x old))
      | inr here ↦ pushed all new s (2 ^ 32 + 2048 - x) new_is (or_right (is_at_one all (2 ^ 32 + 2048 - x)) (is_at s (2 ^ 32 + 2048 - x)) (one x (subst (λ (u : Track). IsTrue (is_on u x)) (sym is) here)))
    ]

-- ---- narrow sets

small_near : (v : ℕ) → v < 2048 → (v + 2048) % 2 ^ 32 < 4096
small_near v small = omega (arith, small)

high_near : (v : ℕ) → 2 ^ 32 - 2048 ≤ v → v < 2 ^ 32 → (v + 2048) % 2 ^ 32 < 4096
high_near v from word = omega (arith, from, word)

same_Some : (a b : ℕ) → Some a ≡ Some b → a ≡ b
same_Some a b h = cc

-- the first one from 2,048 up tells all
pub narrow_by_first : (xs : List ℕ) (v : ℕ) → IsStrictlyIncreasing xs → All (λ x. x < 2 ^ 32) xs → Some v ≡ first_cyclic xs 2048 → (2048 ≤ v → 2 ^ 32 - 2048 ≤ v) → IsNarrow xs
narrow_by_first xs v ascends words is far y h = element (λ n. (n + 2048) % 2 ^ 32 < 4096) xs y each h where
  each : All (λ n. (n + 2048) % 2 ^ 32 < 4096) xs
  each k d below = elim (cases_lt k (position_or_len (λ x. nat_le 2048 x) xs)) [
    | inl before ↦ small_near (get_or xs k d) (leb-false 2048 (get_or xs k d) (fails_before_first (λ x. nat_le 2048 x) xs k d before))
    | inr from ↦ (
        let here : position_or_len (λ x. nat_le 2048 x) xs < length xs = omega (arith, from, below) in
        let found : find (λ x. nat_le 2048 x) xs ≡ Some (get_or xs (position_or_len (λ x. nat_le 2048 x) xs) d) = find_at (λ x. nat_le 2048 x) xs ∙ slice_get-get_or xs (position_or_len (λ x. nat_le 2048 x) xs) d here in
        let same : v ≡ get_or xs (position_or_len (λ x. nat_le 2048 x) xs) d = same_Some v (get_or xs (position_or_len (λ x. nat_le 2048 x) xs) d) (is ∙ ap (λ (o : Option ℕ). option_or o (slice_get xs 0)) found) in
        let passes : 2048 ≤ get_or xs (position_or_len (λ x. nat_le 2048 x) xs) d = leb-true 2048 (get_or xs (position_or_len (λ x. nat_le 2048 x) xs) d) (passes_at_first (λ x. nat_le 2048 x) xs d here) in
        let least : 2 ^ 32 - 2048 ≤ v = far (omega (arith, same, passes)) in
        high_near (get_or xs k d) (elim (cases_lt (position_or_len (λ x. nat_le 2048 x) xs) k) [
          | inl after ↦ omega (arith, same, least, AllPairs-from_increasing xs ascends (position_or_len (λ x. nat_le 2048 x) xs) k d after below)
          | inr at ↦ (let is_k : position_or_len (λ x. nat_le 2048 x) xs ≡ k = omega (arith, from, at) in omega (arith, same, least, ap (λ (i : ℕ). get_or xs i d) is_k))
        ]) (words k d below)
        )
  ]

-- ---- differences

near_sum : (v w : ℕ) → v < 2 ^ 32 → w < 2 ^ 32 → ((v + w) % 2 ^ 32 + (2 ^ 32 + 2048 - w)) % 2 ^ 32 ≡ (v + 2048) % 2 ^ 32
near_sum v w small word = omega (arith, small, word)

near_word : (v : ℕ) → v < 2 ^ 32 → (2 ^ 32 - 2048 + (v + 2048) % 2 ^ 32) % 2 ^ 32 ≡ v
near_word v small = omega (arith, small)

pub near_on : (made gaps marks : List ℕ) (tracks others : List Track) (all turned : List Steps) (ranges : List (ℕ × ℕ)) → AreForward tracks all → AreBackward others turned → HaveNear gaps all turned → ((x : ℕ) → x < 4096 → IsTrue (is_marked gaps x) → IsTrue (has marks x)) → AreInRanges marks 4096 ranges → IsOfRanges ranges made → HasNearOn tracks others made
near_on made gaps marks tracks others all turned ranges ahead back sums told within is v w small near word h k =
    let sum : ((v + w) % 2 ^ 32 + (2 ^ 32 + 2048 - w)) % 2 ^ 32 ≡ (v + 2048) % 2 ^ 32 = near_sum v w small word in
    let marked : IsTrue (is_marked gaps ((v + 2048) % 2 ^ 32)) = subst (λ (n : ℕ). IsTrue (is_marked gaps n)) sum (sums ((v + w) % 2 ^ 32) (2 ^ 32 + 2048 - w) (ahead ((v + w) % 2 ^ 32) k) (back w h) (omega (arith, sum, near))) in
    is.all v small (subst (λ (n : ℕ). IsTrue (is_within ranges n)) (near_word v small) (within ((v + 2048) % 2 ^ 32) near (told ((v + 2048) % 2 ^ 32) near marked)))

pub by_tracks : (first second made : List ℕ) (tracks others : List Track) → All (λ w. w < 2 ^ 32) second → ((x : ℕ) → IsTrue (is_in first x) → IsTrue (is_on_one tracks x)) → ((x : ℕ) → IsTrue (is_in second x) → IsTrue (is_on_one others x)) → HasNearOn tracks others made → HasNearDifferences first second made
by_tracks first second made tracks others words one two on v w small near h k = on v w small near (element (λ n. n < 2 ^ 32) second w words h) (two w h) (one ((v + w) % 2 ^ 32) k)

pub all_by_tracks : (near : Option (List ℕ)) (first second : List ℕ) (tracks others : List Track) → All (λ w. w < 2 ^ 32) second → ((x : ℕ) → IsTrue (is_in first x) → IsTrue (is_on_one tracks x)) → ((x : ℕ) → IsTrue (is_in second x) → IsTrue (is_on_one others x)) → IfSome near (HasNearOn tracks others) → IfSome near (HasNearDifferences first second)
all_by_tracks None first second tracks others words one two h = h
all_by_tracks (Some made) first second tracks others words one two on = by_tracks first second made tracks others words one two on
