-- Frames and the bytes in them.
use Rattle.std.proofs.Common.{inl, inr, ◌≡◌, ℕ, ◌+◌, ◌-◌, ◌/◌, ◌%◌, ◌<◌, ◌≤◌, ◌^◌, Bool, true, false, ◌&&◌, ◌||◌, not, nat_eq, nat_le, nat_lt, List, [], ◌∷◌, refl, ap, ◌∙◌, arith}
use Rattle.std.specs.List.{filter, list_any}
use Rattle.std.specs.Bool.{◌==◌}
use Rattle.std.proofs.lemmas.Bool.Decides.{nat_tests}
use Rattle.std.proofs.lemmas.Bool.{or_cases, or_left, or_right, eqb-true}
use Rattle.dom_set.specs.Elements.{elements_of, is_in, is_within}
use Rattle.data_bytes.specs.Sets.{IsSetOf}
use Rattle.data_bytes.specs.Frames.{in_frames_from}
use Rattle.data_bytes.proofs.Sets.{elements_are, minus_test, run_test}

-- the bytes of a frame
pub frame_test : (frame v : ℕ) → frame % 4096 ≡ 0 → (nat_le frame v && nat_le v (frame + 4095)) ≡ nat_eq (v / 4096) (frame / 4096)
frame_test frame v h = grind (arith, nat_tests)

-- the bytes of a word
pub word_test : (addr v : ℕ) → addr % 4 ≡ 0 → (nat_le addr v && nat_le v (addr + 3)) ≡ nat_eq (v / 4) (addr / 4)
word_test addr v h = grind (arith, nat_tests)

one_within : (low high v : ℕ) → (nat_le low v && nat_le v high) ≡ true → (nat_le (low / 4096) (v / 4096) && nat_le (v / 4096) (high / 4096)) ≡ true
one_within low high v h = grind (arith, nat_tests)

-- the frames of runs hold the bytes of the runs
pub runs_held : (runs : List (ℕ × ℕ)) (v : ℕ) → is_within runs v ≡ true → list_any (λ run. in_frames_from run v) runs ≡ true
runs_held [] v h = h
runs_held (r ∷ rs) v h = elim (or_cases (nat_le r.0 v && nat_le v r.1) (is_within rs v) h) [
  | inl here ↦ or_left (in_frames_from r v) (list_any (λ run. in_frames_from run v) rs) (one_within r.0 r.1 v here)
  | inr there ↦ or_right (in_frames_from r v) (list_any (λ run. in_frames_from run v) rs) (runs_held rs v there)
]

-- what is left of a frame where the free offsets are taken out
pub barred_there : (blocked : ℕ → Bool) (frame v : ℕ) → frame % 4096 ≡ 0 → frame < 2 ^ 32 → v < 2 ^ 32
    → (nat_eq (v / 4096) (frame / 4096) && not (nat_lt ((v + (2 ^ 32 - frame)) % 2 ^ 32) 4096 && not (blocked (frame + (v + (2 ^ 32 - frame)) % 2 ^ 32)))) ≡ (nat_eq (v / 4096) (frame / 4096) && blocked v)
barred_there blocked frame v h f small = step (nat_eq (v / 4096) (frame / 4096)) refl where
  inside : (nat_eq (v / 4096) (frame / 4096)) ≡ true → (v + (2 ^ 32 - frame)) % 2 ^ 32 ≡ v - frame
  inside e = (let same : v / 4096 ≡ frame / 4096 = eqb-true (v / 4096) (frame / 4096) e in grind arith)

  there : (a : Bool) → not (true && not a) ≡ a
  there true = refl
  there false = refl

  step : (t : Bool) → nat_eq (v / 4096) (frame / 4096) ≡ t → (t && not (nat_lt ((v + (2 ^ 32 - frame)) % 2 ^ 32) 4096 && not (blocked (frame + (v + (2 ^ 32 - frame)) % 2 ^ 32)))) ≡ (t && blocked v)
  step false e = refl
  step true e =
      let same : v / 4096 ≡ frame / 4096 = eqb-true (v / 4096) (frame / 4096) e in
      let near : nat_lt (v - frame) 4096 ≡ true = grind (arith, nat_tests) in
      let back : frame + (v - frame) ≡ v = omega arith in
      ap (λ (y : ℕ). not (nat_lt y 4096 && not (blocked (frame + y)))) (inside e)
      ∙ ap (λ (b : Bool). not (b && not (blocked (frame + (v - frame))))) near
      ∙ there (blocked (frame + (v - frame))) ∙ ap blocked back

-- a frame more
pub shared : (s h a b c : Bool) → s ≡ (a && c) → h ≡ (b && c) → (s || h) ≡ ((a || b) && c)
shared s h true b true e k = ap (λ (x : Bool). x || h) e
shared s h true true false e k = (λ i. e i || k i)
shared s h true false false e k = (λ i. e i || k i)
shared s h false b c e k = (λ i. e i || k i)

pub frame_are : (frame : ℕ) (set : List ℕ) → frame % 4096 ≡ 0 → set ≡ elements_of (λ x. x % 1 == 0 && is_within ((frame, frame + 4095) ∷ []) x) → IsSetOf (λ v. nat_eq (v / 4096) (frame / 4096)) set
frame_are frame set h e v small = elements_are (λ x. x % 1 == 0 && is_within ((frame, frame + 4095) ∷ []) x) set e v small ∙ run_test frame (frame + 4095) v ∙ frame_test frame v h

pub word_are : (addr : ℕ) (set : List ℕ) → addr % 4 ≡ 0 → set ≡ elements_of (λ x. x % 1 == 0 && is_within ((addr, addr + 3) ∷ []) x) → IsSetOf (λ v. nat_eq (v / 4) (addr / 4)) set
word_are addr set h e v small = elements_are (λ x. x % 1 == 0 && is_within ((addr, addr + 3) ∷ []) x) set e v small ∙ run_test addr (addr + 3) v ∙ word_test addr v h

-- of a frame what is not among the free offsets
pub barred_are : (blocked : ℕ → Bool) (frame : ℕ) (bytes offsets free set : List ℕ) → frame % 4096 ≡ 0 → frame < 2 ^ 32
    → bytes ≡ elements_of (λ x. x % 1 == 0 && is_within ((frame, frame + 4095) ∷ []) x)
    → offsets ≡ elements_of (λ x. nat_lt x 4096 && not (blocked (frame + x)))
    → free ≡ elements_of (λ y. is_in offsets ((y + (2 ^ 32 - frame)) % 2 ^ 32))
    → set ≡ filter (λ x. not (is_in free x)) bytes
    → IsSetOf (λ v. nat_eq (v / 4096) (frame / 4096) && blocked v) set
barred_are blocked frame bytes offsets free set h f b o e k v small =
    let is_free : IsSetOf (λ w. nat_lt ((w + (2 ^ 32 - frame)) % 2 ^ 32) 4096 && not (blocked (frame + (w + (2 ^ 32 - frame)) % 2 ^ 32))) free =
    λ w s. elements_are (λ y. is_in offsets ((y + (2 ^ 32 - frame)) % 2 ^ 32)) free e w s
    ∙ elements_are (λ x. nat_lt x 4096 && not (blocked (frame + x))) offsets o ((w + (2 ^ 32 - frame)) % 2 ^ 32) (omega arith) in
    minus_test bytes free set (λ x. nat_eq (x / 4096) (frame / 4096)) (λ w. nat_lt ((w + (2 ^ 32 - frame)) % 2 ^ 32) 4096 && not (blocked (frame + (w + (2 ^ 32 - frame)) % 2 ^ 32)))
    (frame_are frame bytes h b) is_free k v small
    ∙ barred_there blocked frame v h f small

-- how far a loop over numbers came
pub cut_at : (a b n w : ℕ) → b + 1 ≤ n → (b + 1 < n → n ≤ a) → (nat_le a w && nat_lt w n) ≡ (nat_le a w && nat_le w b)
cut_at a b n w least most = step (nat_le a w) refl where
  step : (t : Bool) → nat_le a w ≡ t → (t && nat_lt w n) ≡ (t && nat_le w b)
  step false e = refl
  step true e = grind (arith, nat_tests)
