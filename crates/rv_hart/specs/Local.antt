-- What a step rests on, in the words of the state.
use Rattle.std.specs.Prelude.{◌≡◌, ℕ, ◌/◌, ◌^◌, ◌<◌, true, false, Some}
use Rattle.rv_script.specs.declared.access.Access.{Access}
use Rattle.rv_script.specs.declared.place.Place.{Place}
use Rattle.rv_script.specs.Bytes.{byte_at, covers}
use Rattle.rv_script.specs.Lists.{HasItem}
use Rattle.rv_script.specs.Logs.{is_word}
use Rattle.rv_hart.specs.Whole.{Step, WholeHart, needed_places, step_of, value_at}

-- another whole hart and memory have the same fixed parts, the same values of the registers and CSRs that the step needs, and the same bytes
-- wherever an access of its record is
pub record RestsAlike (h g : WholeHart) (words other : ℕ → ℕ) (s : Step) : Type 0 where
  pub fixed : g.fixed ≡ h.fixed
  pub places : (place : Place) → HasItem (needed_places h words) place → is_word place ≡ false → value_at g.file other place ≡ value_at h.file words place
  pub bytes : (x : Access) (b : ℕ) → HasItem s.did.accesses x → covers x b ≡ true → byte_at b (other (b / 4)) ≡ byte_at b (words (b / 4))

-- it makes this step too
abbrev pub LocalByBytes : Type 0
LocalByBytes =
    (h g : WholeHart) (words other : ℕ → ℕ) (s : Step) → ((n : ℕ) → words n < 2 ^ 32) → ((n : ℕ) → other n < 2 ^ 32)
    → step_of h words ≡ Some s → RestsAlike h g words other s → step_of g other ≡ Some s
