-- Where loads and stores lead while page table entries may still be chosen, and which of their walks keep.
use Rattle.std.specs.Prelude.{◌≡◌, ℕ, ◌+◌, ◌%◌, ◌^◌, ◌<◌, Bool, true, not, ◌&&◌, ◌||◌, bit_and, List}
use Rattle.std.specs.List.{list_all}
use Rattle.dom_set.specs.Elements.{is_in}
use Rattle.rv_script.specs.declared.place.Place.TheVariants.{Word}
use Rattle.rv_script.specs.Bytes.{word_address}
use Rattle.rv_script.specs.Folds.{Entry}
use Rattle.rv_script.specs.Lists.{HasItem}
use Rattle.rv_script.specs.Logs.{entry_place, same_place}
use Rattle.foot_map.specs.declared.touch.Touch.{Touch}
use Rattle.rv_mem.specs.declared.words.Seen.{Seen}
use Rattle.rv_mem.specs.Seen.{is_there}
use Rattle.sv_walk.specs.declared.entry.Kind.{Kind}
use Rattle.sv_walk.specs.declared.entry.Kind.TheVariants as kinds
use Rattle.sv_walk.specs.declared.entry.View.{View}
use Rattle.sv_walk.specs.Translation.{Reached, At, Fails}
use Rattle.row_parts.specs.declared.forms.Forms.{Forms}
use Rattle.row_parts.specs.Gaps.{counts}
use Rattle.addr_rows.specs.Walks.{Shows}
use Rattle.rv_hart.specs.Machine.{data_view}
use Rattle.data_bytes.specs.declared.starts.DataAccess.{DataAccess}
use Rattle.data_bytes.specs.declared.starts.DataAccess.TheVariants.{Load, Store}
use Rattle.leaf_link.specs.Cases.{is_some_word}
use Rattle.leaf_link.specs.Turns.{Turn, is_free, is_free_entry}
use Rattle.leaf_link.specs.Reaching.{Walks}
use Rattle.fetch_ways.specs.Ways.{HasForms, is_free_walk, walk_at}
use Rattle.data_ways.specs.declared.way.DataEnd.{DataEnd}
use Rattle.data_ways.specs.declared.way.DataEnd.TheVariants as ends
use Rattle.data_ways.specs.declared.way.DataWay.{DataWay}

abbrev pub kind_of : DataAccess → Kind
kind_of Load = kinds.Load
kind_of Store = kinds.Store

-- what the walks of loads and stores rest on at a turn: what is seen of memory, what was touched, how the hart sees the addresses of data, and what new entries may be
pub record IsDataGround (at : ℕ → Seen) (feet : List Touch) (hart : ℕ) (v : View) (f : Forms) (t : Turn) : Type 0 where
  pub view : data_view t.fixed ≡ v
  pub ram : (n : ℕ) → t.fixed.ram n ≡ is_there (at n)
  pub shows : Shows at t.fixed.ram t.known
  pub free : (a : ℕ) → a % 4 ≡ 0 → is_free t (walk_at a) ≡ is_free_walk feet hart a
  pub forms : HasForms t f

abbrev pub reached_by : DataEnd → ℕ → Reached
reached_by (ends.At base mask) ea = At ((base + bit_and ea mask) % 2 ^ 32)
reached_by (ends.Fails cause) ea = Fails cause

-- no known entry of a walk is the word of an address
abbrev pub is_off : Turn → List Entry → ℕ → Bool
is_off t log p = list_all (λ e. not (is_some_word (t.known (entry_place e))) || not (same_place (entry_place e) (Word (word_address p)))) log

-- what is asked of a walk beside its end: no entry races with what was touched, and none that is known is the word to which a store goes
abbrev pub keeps : Turn → DataAccess → List Entry → Reached → Bool
keeps t Store log (At p) = list_all (is_free_entry t) log && is_off t log p
keeps t access log end = list_all (is_free_entry t) log

-- each choice of an address of some pages and of new entries, 0 where one is not new, whose walk keeps is in a way with its end; a way holds nothing else
pub record AreDataWays (t : Turn) (access : DataAccess) (pages : ℕ → Bool) (ways : List DataWay) : Type 0 where
  pub sound : (way : DataWay) → HasItem ways way → (ea first second : ℕ) → ea < 2 ^ 32 → counts way.apart ea ≡ true → is_in way.ea ea ≡ true → is_in way.first first ≡ true → is_in way.second second ≡ true
      → (log : List Entry) × Walks t (kind_of access) ea first second log (reached_by way.end ea) × (keeps t access log (reached_by way.end ea) ≡ true)
  pub complete : (ea first second : ℕ) (log : List Entry) (end : Reached) → ea < 2 ^ 32 → pages ea ≡ true → Walks t (kind_of access) ea first second log end → keeps t access log end ≡ true
      → (way : DataWay) × HasItem ways way × (counts way.apart ea ≡ true) × (is_in way.ea ea ≡ true) × (is_in way.first first ≡ true) × (is_in way.second second ≡ true) × (reached_by way.end ea ≡ end)
