-- What is seen of words, and the sets of their bytes.
use Rattle.std.proofs.Common.{inl, inr, ◌≡◌, ℕ, Bool, true, ◌&&◌, ◌||◌, not, IsTrue, List, sym, ap, ◌∙◌}
use Rattle.std.specs.List.{list_any}
use Rattle.std.proofs.lemmas.Bool.{and_parts, or_cases, or_left, or_right}
use Rattle.dom_set.specs.Elements.{is_within}
use Rattle.rv_mem.specs.declared.words.Seen.{Seen}
use Rattle.rv_mem.specs.declared.words.Seen.TheVariants.{Known, Untouched, Vacant}
use Rattle.rv_mem.specs.Seen.{is_there, is_known, is_untouched}
use Rattle.rv_mem.specs.Frames.{in_frames}
use Rattle.data_bytes.specs.Frames.{in_frames_from}
use Rattle.data_bytes.proofs.Framing.{runs_held}

pub untouched_is : (s : Seen) (a b : Bool) → a ≡ is_there s → b ≡ is_known s → (a && not b) ≡ is_untouched s
untouched_is (Known w) a b h k = (λ i. h i && not (k i))
untouched_is Untouched a b h k = (λ i. h i && not (k i))
untouched_is Vacant a b h k = (λ i. h i && not (k i))

-- the frame of a byte that is known or fresh is asked
pub asked : (runs : List (ℕ × ℕ)) (frames pool : List ℕ) (v : ℕ) (known fresh seen apart : Bool)
    → in_frames frames v ≡ (list_any (λ run. in_frames_from run v) runs || in_frames pool v)
    → known ≡ is_within runs v → fresh ≡ (seen && (in_frames pool v && apart)) → IsTrue (known || fresh) → in_frames frames v ≡ true
asked runs frames pool v known fresh seen apart held k f h = elim (or_cases known fresh h) [
  | inl here ↦ held ∙ or_left (list_any (λ run. in_frames_from run v) runs) (in_frames pool v) (runs_held runs v (sym k ∙ here))
  | inr there ↦ held ∙ or_right (list_any (λ run. in_frames_from run v) runs) (in_frames pool v) ((and_parts (in_frames pool v) apart ((and_parts seen (in_frames pool v && apart) (sym f ∙ there)).1)).0)
]

pub and_true : (a b : Bool) → a ≡ true → (a && b) ≡ b
and_true a b h = ap (λ (x : Bool). x && b) h
