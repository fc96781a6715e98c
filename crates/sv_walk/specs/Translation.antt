-- The translation of an address, as what it asks of memory (Privileged, 4.3.2).
use Rattle.std.specs.Prelude.{ℕ, ◌+◌, ◌*◌, ◌/◌, ◌%◌, ◌^◌, Bool, not, ◌&&◌, ◌||◌, nat_le, nat_lt, if◌then◌else◌}
use Rattle.rv_csr.specs.declared.cause.Cause.{Cause}
use Rattle.rv_csr.specs.Privilege.{is_machine}
use Rattle.rv_script.specs.Script.{Label, Label.FetchRoot, Label.FetchSecond, Label.DataRoot, Label.DataSecond, Script, Script.Outside, Script.Done, ◌>>=◌, read}
use Rattle.sv_walk.specs.declared.entry.Kind.{Kind}
use Rattle.sv_walk.specs.declared.entry.Kind.TheVariants.{Fetch}
use Rattle.sv_walk.specs.declared.entry.View.{View}
use Rattle.sv_walk.specs.Entry.{page_number, is_invalid, is_pointer, is_reserved, is_unaligned, is_closed, page_cause, access_cause}

-- where an address leads: to a physical address in RAM, or to a trap
pub data Reached : Type 0 where
  At : ℕ → Reached
  Fails : Cause → Reached

abbrev pub root_label : Kind → Label
root_label Fetch = FetchRoot
root_label _ = DataRoot

abbrev pub second_label : Kind → Label
second_label Fetch = FetchSecond
second_label _ = DataSecond

-- the word at a physical address is one of RAM; an address of 2 ^ 32 or more is outside it
abbrev pub is_in_ram : (ℕ → Bool) → ℕ → Bool
is_in_ram ram addr = nat_lt addr (2 ^ 32) && ram (addr / 4)

-- an access outside RAM is an access fault (Privileged, 3.6)
abbrev pub arrived : (ℕ → Bool) → Kind → ℕ → Reached
arrived ram kind addr = if is_in_ram ram addr then At addr else Fails (access_cause kind)

-- the second entry has to be a leaf that lets the access through; the page has 2 ^ 12 bytes (steps 3 to 8)
unfoldable pub second_end : (ℕ → Bool) → View → Kind → ℕ → ℕ → Reached
second_end ram v kind va entry =
    if is_invalid entry || (is_pointer entry || is_closed v kind entry) then Fails (page_cause kind)
    else arrived ram kind (page_number entry * 2 ^ 12 + va % 2 ^ 12)

-- the address of the second entry: VPN[0], bits 21:12 of the address, is its index (steps 2 and 4)
abbrev pub second_address : ℕ → ℕ → ℕ
second_address va entry = page_number entry * 2 ^ 12 + va / 2 ^ 12 % 2 ^ 10 * 4

-- the table that a pointer leads to; an entry outside RAM is an access fault (step 2)
unfoldable pub from_pointer : (ℕ → Bool) → View → Kind → ℕ → ℕ → Script Reached
from_pointer ram v kind va entry =
    if is_in_ram ram (second_address va entry)
    then (do
      second ← read (second_label kind) (second_address va entry) 4
      Done (second_end ram v kind va second))
    else Done (Fails (access_cause kind))

-- the root entry: a pointer, or a superpage of 2 ^ 22 bytes (steps 3 to 8); a pointer with a reserved bit is outside the profile
unfoldable pub from_root : (ℕ → Bool) → View → Kind → ℕ → ℕ → Script Reached
from_root ram v kind va entry =
    if is_invalid entry then Done (Fails (page_cause kind))
    else if is_pointer entry then (if is_reserved entry then Outside else from_pointer ram v kind va entry)
    else if is_unaligned entry || is_closed v kind entry then Done (Fails (page_cause kind))
    else Done (arrived ram kind (entry / 2 ^ 20 * 2 ^ 22 + va % 2 ^ 22))

-- translation holds in S and U where satp's MODE, its bit 31, is 1 (Privileged, 4.1.11)
abbrev pub is_translated : View → Bool
is_translated v = not (is_machine v.privilege) && nat_le 0x80000000 v.satp

-- the address of the root entry: satp has the table's PPN in bits 21:0, and VPN[1], bits 31:22 of the address, is its index (steps 1 and 2)
abbrev pub root_address : View → ℕ → ℕ
root_address v va = v.satp % 2 ^ 22 * 2 ^ 12 + va / 2 ^ 22 * 4

-- the translation of an address
unfoldable pub translated : (ℕ → Bool) → View → Kind → ℕ → Script Reached
translated ram v kind va =
    if is_translated v
    then (if is_in_ram ram (root_address v va)
    then (do
      root ← read (root_label kind) (root_address v va) 4
      from_root ram v kind va root)
    else Done (Fails (access_cause kind)))
    else Done (arrived ram kind va)
