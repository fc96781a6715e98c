-- What the loads and stores of a turn may do.
use Rattle.std.specs.Prelude.{◌≡◌, ℕ, ◌*◌, ◌%◌, ◌^◌, ◌<◌, Bool, true, false, List}
use Rattle.std.specs.List.{list_any}
use Rattle.dom_set.specs.Elements.{is_in}
use Rattle.rv_script.specs.declared.place.Place.TheVariants.{Word}
use Rattle.rv_script.specs.Bytes.{word_address}
use Rattle.rv_script.specs.Folds.{Entry}
use Rattle.rv_script.specs.Logs.{entry_place, same_place}
use Rattle.rv_mem.specs.declared.words.Seen.{Seen}
use Rattle.rv_mem.specs.Seen.{is_known, is_there}
use Rattle.sv_walk.specs.Translation.{is_translated}
use Rattle.rv_hart.specs.Machine.{data_view}
use Rattle.data_bytes.specs.Bytes.{AreDataBytes}
use Rattle.data_bytes.specs.declared.starts.DataAccess.TheVariants.{Load, Store}
use Rattle.data_bytes.specs.Sets.{IsSetOf}
use Rattle.data_ways.specs.Ways.{AreDataWays}
use Rattle.rv_mem.specs.Frames.{in_frames}
use Rattle.leaf_link.specs.Turns.{Turn, is_first_form, is_second_form}
use Rattle.leaf_link.specs.Cases.{is_some_word, or_no}
use Rattle.data_goals.specs.declared.accesses.Accesses.{Accesses}

-- the word of an address is one of the entries that a walk read
abbrev pub is_walked : List Entry → ℕ → Bool
is_walked walk v = list_any (λ e. same_place (entry_place e) (Word (word_address v))) walk

-- these are what the loads and stores of the turn may do; its fetch reads the entries of `walk` and leads to `pa`
pub record HasAccesses (t : Turn) (walk : List Entry) (pa : ℕ) (a : Accesses) : Type 0 where
  pub aligned : pa % 4 ≡ 0
  pub small : pa < 2 ^ 32
  -- the memory by the numbers of its words
  pub mem : ℕ → Seen
  pub known : (n : ℕ) → is_some_word (t.known (Word (n * 4))) ≡ is_known (mem n)
  pub ram : (n : ℕ) → t.fixed.ram n ≡ is_there (mem n)
  pub are : AreDataBytes mem t.feet t.fixed.number t.pool pa a.bytes
  pub walked : IsSetOf (is_walked walk) a.walked
  -- no frame is both one of the tables and one of the pool
  pub apart : (v : ℕ) → in_frames t.tables v ≡ true → in_frames t.pool v ≡ false
  pub firsts : IsSetOf (λ v. or_no (is_translated (data_view t.fixed)) (is_first_form t v) v) a.firsts
  pub seconds : IsSetOf (λ v. or_no (is_translated (data_view t.fixed)) (is_second_form t v) v) a.seconds
  pub loads : AreDataWays t Load (is_in a.pages) a.loads.items
  pub stores : AreDataWays t Store (is_in a.pages) a.stores.items
