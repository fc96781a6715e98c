-- Where the pc leads while page table entries may still be chosen, and which of these walks keep.
use Rattle.std.specs.Prelude.{◌≡◌, ℕ, ◌%◌, Bool, true, not, ◌&&◌, nat_eq, List}
use Rattle.std.specs.List.{list_all, list_any}
use Rattle.dom_set.specs.Elements.{is_in}
use Rattle.rv_script.specs.declared.access.Access.{Access}
use Rattle.rv_script.specs.declared.access.Role.TheVariants.{Walk}
use Rattle.rv_script.specs.Bytes.{covers}
use Rattle.rv_script.specs.Folds.{Entry}
use Rattle.rv_script.specs.Lists.{HasItem}
use Rattle.foot_map.specs.declared.touch.Touch.{Touch}
use Rattle.foot_map.specs.Races.{breaks}
use Rattle.rv_mem.specs.declared.words.Seen.{Seen}
use Rattle.rv_mem.specs.Seen.{is_there}
use Rattle.sv_walk.specs.declared.entry.View.{View}
use Rattle.sv_walk.specs.Translation.{Reached, At, Fails}
use Rattle.row_parts.specs.declared.forms.Forms.{Forms}
use Rattle.addr_rows.specs.Walks.{Shows}
use Rattle.rv_hart.specs.Machine.{fetch_view}
use Rattle.leaf_link.specs.Turns.{Turn, is_free, is_free_entry}
use Rattle.leaf_link.specs.FetchRows.{FetchWalks, fetch_keeps}
use Rattle.fetch_ways.specs.declared.way.FetchEnd.{FetchEnd}
use Rattle.fetch_ways.specs.declared.way.FetchEnd.TheVariants as ends
use Rattle.fetch_ways.specs.declared.way.FetchWay.{FetchWay}

-- what a turn lets new entries be is the forms
pub record HasForms (t : Turn) (forms : Forms) : Type 0 where
  pub tables : t.tables ≡ forms.tables.items
  pub pool : t.pool ≡ forms.pool.items
  pub flags : t.flags ≡ forms.flags.items

-- the reading of a page table entry
abbrev pub walk_at : ℕ → Access
walk_at addr = record { role = Walk; addr = addr; size = 4; value = 0 }

-- a hart's walk of the entry at an address races with none of the touches
abbrev pub is_free_walk : List Touch → ℕ → ℕ → Bool
is_free_walk touches hart addr = not (list_any (λ touch. covers (walk_at addr) touch.byte && breaks (nat_eq touch.hart hart) touch.role Walk) touches)

-- what the walk of a fetch rests on at a turn: what is seen of memory, what was touched, where the hart stands, and what new entries may be
pub record IsFetchGround (at : ℕ → Seen) (feet : List Touch) (hart : ℕ) (v : View) (addr : ℕ) (f : Forms) (t : Turn) : Type 0 where
  pub pc : t.fixed.pc ≡ addr
  pub view : fetch_view t.fixed ≡ v
  pub ram : (n : ℕ) → t.fixed.ram n ≡ is_there (at n)
  pub shows : Shows at t.fixed.ram t.known
  pub free : (a : ℕ) → a % 4 ≡ 0 → is_free t (walk_at a) ≡ is_free_walk feet hart a
  pub forms : HasForms t f

abbrev pub reached_by : FetchEnd → Reached
reached_by (ends.At pa) = At pa
reached_by (ends.Fails cause) = Fails cause

-- what is asked of a walk beside its end: no entry races with what was touched; where it leads somewhere and an entry is new, the word there is not known and is no new entry
abbrev pub keeps : Turn → List Entry → Reached → Bool
keeps t log (At pa) = fetch_keeps t log pa
keeps t log (Fails cause) = list_all (is_free_entry t) log

-- each choice of new entries, 0 where one is not new, whose walk keeps is in a way with its end; a way holds nothing else
pub record AreFetchWays (t : Turn) (ways : List FetchWay) : Type 0 where
  pub sound : (way : FetchWay) → HasItem ways way → (first second : ℕ) → is_in way.first first ≡ true → is_in way.second second ≡ true
      → (log : List Entry) × FetchWalks t first second log (reached_by way.end) × (keeps t log (reached_by way.end) ≡ true)
  pub complete : (first second : ℕ) (log : List Entry) (end : Reached) → FetchWalks t first second log end → keeps t log end ≡ true
      → (way : FetchWay) × HasItem ways way × (is_in way.first first ≡ true) × (is_in way.second second ≡ true) × (reached_by way.end ≡ end)
