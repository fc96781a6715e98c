-- What a load or store may do with the bytes of memory.
use Rattle.std.specs.Prelude.{◌≡◌, ℕ, ◌/◌, ◌^◌, ◌<◌, not, ◌&&◌, ◌||◌, nat_eq, IsTrue, List}
use Rattle.dom_set.specs.Elements.{is_in}
use Rattle.rv_script.specs.declared.access.Role.TheVariants.{Load, Store}
use Rattle.foot_map.specs.declared.touch.Touch.{Touch}
use Rattle.foot_map.specs.Races.{is_blocked}
use Rattle.rv_mem.specs.declared.words.Seen.{Seen}
use Rattle.rv_mem.specs.Seen.{is_there, is_known, is_untouched}
use Rattle.data_bytes.specs.declared.memory.DataBytes.{DataBytes}
use Rattle.data_bytes.specs.Sets.{IsSetOf}
use Rattle.rv_mem.specs.Frames.{in_frames}

-- of a memory by the numbers of its words, and a hart that stands at a pc: what is known, what may be started in the pool, what is
-- no RAM, and what of the first two races with what was touched
pub record AreDataBytes (mem : ℕ → Seen) (feet : List Touch) (hart : ℕ) (pool : List ℕ) (pc : ℕ) (bytes : DataBytes) : Type 0 where
  pub known : IsSetOf (λ v. is_known (mem (v / 4))) bytes.known
  -- the word at the pc is fetched, so that it is not started by a load or store
  pub fresh : IsSetOf (λ v. is_untouched (mem (v / 4)) && (in_frames pool v && not (nat_eq (v / 4) (pc / 4)))) bytes.fresh
  pub outside : IsSetOf (λ v. not (is_there (mem (v / 4)))) bytes.outside
  pub loaded : (v : ℕ) → v < 2 ^ 32 → IsTrue (is_in bytes.known v || is_in bytes.fresh v) → is_in bytes.not_loaded v ≡ is_blocked feet hart Load v
  -- what the step fetches it may not store to
  pub stored : (v : ℕ) → v < 2 ^ 32 → IsTrue (is_in bytes.known v || is_in bytes.fresh v) → is_in bytes.not_stored v ≡ (is_blocked feet hart Store v || nat_eq (v / 4) (pc / 4))
