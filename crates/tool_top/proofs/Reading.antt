-- What the bytes that were read say of what the source had left.
use Rattle.std.proofs.Common.{◌≡◌, ℕ, ◌<◌, ◌≤◌, inl, inr, List, [], ◌∷◌, ◌++◌, length, drop, take, refl, sym, ◌∙◌, ap, subst, arith, None, Some}
use Rattle.std.specs.declared.option.Option.{Option}
use Rattle.std.specs.Io.KnownBytes.{Consumes, IsAtEnd}
use Rattle.std.proofs.lemmas.Bool.{cases_lt}
use Rattle.std.proofs.lemmas.List.{append-nil, drop_all, take_all}
use Rattle.std.proofs.Math.Seq.{drop-append_seam, take-append_seam}
use Rattle.std.proofs.lemmas.Option.{same_Some}
use Rattle.tool_top.specs.Promise.{AreGiven, AreTaken}

-- some bytes, up to a limit, were read, and all that there was where they are fewer
pub record Reads (old new : Option (List ℕ)) (bytes : List ℕ) (limit : ℕ) : Type 0 where
  pub taken : Consumes old new bytes
  pub whole : length bytes < limit → IsAtEnd new
  pub bound : length bytes ≤ limit

pub reads_of : (old new : Option (List ℕ)) (read bytes : List ℕ) (limit limit' : ℕ) → limit ≡ limit' → bytes ≡ read → Consumes old new read → (length read < limit → IsAtEnd new) → length read ≤ limit
    → Reads old new bytes limit'
reads_of old new read bytes limit limit' same value taken whole bound =
    subst (λ (n : ℕ). Reads old new bytes n) same (subst (λ (l : List ℕ). Reads old new l limit) (sym value) (record { taken = taken; whole = whole; bound = bound }))

-- what was read begins what there was to read
front_of : (old new : Option (List ℕ)) (bytes text : List ℕ) → Consumes old new bytes → old ≡ Some text → (rest : List ℕ) × (new ≡ Some rest) × (text ≡ bytes ++ rest)
front_of None new bytes text taken is = absurd (cc is)
front_of (Some xs) None bytes text taken is = absurd taken
front_of (Some xs) (Some ys) bytes text taken is = (ys, refl, sym (same_Some xs text is) ∙ taken)

-- nothing is left behind fewer bytes than the limit
nothing_behind : (new : Option (List ℕ)) (rest : List ℕ) → IsAtEnd new → new ≡ Some rest → rest ≡ []
nothing_behind None rest end is = absurd (cc is)
nothing_behind (Some ys) rest end is = sym (same_Some ys rest is) ∙ end

-- where fewer bytes than the limit were read, they are what the source had left
all_read : (old new : Option (List ℕ)) (bytes text : List ℕ) (limit : ℕ) → Reads old new bytes limit → old ≡ Some text → length bytes < limit → bytes ≡ text
all_read old new bytes text limit reads is short =
    let front = front_of old new bytes text reads.taken is in
    let none : front.0 ≡ [] = nothing_behind new front.0 (reads.whole short) front.1 in
    sym (append-nil bytes) ∙ ap (λ (l : List ℕ). bytes ++ l) (sym none) ∙ sym front.2

-- what was read is the front of what the source had left, up to the limit
front_left : (old new : Option (List ℕ)) (bytes text : List ℕ) (limit : ℕ) → Reads old new bytes limit → old ≡ Some text → bytes ≡ take limit text
front_left old new bytes text limit reads is =
    let front = front_of old new bytes text reads.taken is in
    elim (cases_lt (length bytes) limit) [
      | inl short ↦
          let same : bytes ≡ text = all_read old new bytes text limit reads is short in
          same ∙ sym (take_all limit text (omega (arith, short, ap length same)))
      | inr full ↦
          let size : length bytes ≡ limit = omega (arith, full, reads.bound) in
          sym (ap (take limit) front.2 ∙ ap (λ (n : ℕ). take n (bytes ++ front.0)) (sym size) ∙ take-append_seam bytes front.0)
    ]

-- and what is left then is all behind that
pub read_all : (old new : Option (List ℕ)) (bytes text : List ℕ) (limit : ℕ) → Reads old new bytes limit → old ≡ Some text → new ≡ Some (drop limit text)
read_all old new bytes text limit reads is =
    let front = front_of old new bytes text reads.taken is in
    front.1 ∙ ap (λ (l : List ℕ). Some l) (elim (cases_lt (length bytes) limit) [
      | inl short ↦
          let none : front.0 ≡ [] = nothing_behind new front.0 (reads.whole short) front.1 in
          let same : bytes ≡ text = all_read old new bytes text limit reads is short in
          none ∙ sym (drop_all limit text (omega (arith, short, ap length same)))
      | inr full ↦
          let size : length bytes ≡ limit = omega (arith, full, reads.bound) in
          sym (ap (drop limit) front.2 ∙ ap (λ (n : ℕ). drop n (bytes ++ front.0)) (sym size) ∙ drop-append_seam bytes front.0)
    ])

pub are_taken : (old new : Option (List ℕ)) (bytes : List ℕ) (limit : ℕ) → Reads old new bytes limit → AreTaken limit old new bytes
are_taken old new bytes limit reads = record { within = reads.bound; consumed = reads.taken; first = λ text is. front_left old new bytes text limit reads is }

no_bytes : (bytes : List ℕ) → length bytes ≤ 0 → bytes ≡ []
no_bytes [] none = refl
no_bytes (b ∷ bytes) none = absurd (omega (arith, none))

-- the bytes that are there are those that were taken
pub given_taken : (old new : Option (List ℕ)) (given bytes : List ℕ) (limit : ℕ) → AreGiven limit old given → Reads old new bytes limit → given ≡ bytes
given_taken old new given bytes limit (inl none) reads = none.1 ∙ sym (no_bytes bytes (omega (arith, none.0, reads.bound)))
given_taken old new given bytes limit (inr some) reads = some.2 ∙ sym (front_left old new bytes some.0 limit reads some.1)

pub same_some : {A : Type 0} (x y : A) → ◌≡◌ {A = Option A} (Some x) (Some y) → x ≡ y
same_some x y e = cc e
