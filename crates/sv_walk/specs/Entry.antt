-- The rules of Sv32 on one page table entry (Privileged, 4.3.1 and 4.3.2).
use Rattle.std.specs.Prelude.{ℕ, ◌/◌, ◌%◌, ◌^◌, Bool, true, false, not, ◌&&◌, ◌||◌, ◌==◌, if◌then◌else◌}
use Rattle.rv_csr.specs.declared.cause.Cause.{Cause}
use Rattle.rv_csr.specs.declared.cause.Cause.TheVariants.{FetchAccess, LoadAccess, StoreAccess, FetchPage, LoadPage, StorePage}
use Rattle.rv_csr.specs.Privilege.{is_supervisor}
use Rattle.sv_walk.specs.declared.entry.EntryFlag.{EntryFlag}
use Rattle.sv_walk.specs.declared.entry.EntryFlag.TheVariants.{Valid, Readable, Writable, Executable, User, Accessed, Dirty}
use Rattle.sv_walk.specs.declared.entry.Kind.{Kind}
use Rattle.sv_walk.specs.declared.entry.Kind.TheVariants.{Fetch, Load, Store}
use Rattle.sv_walk.specs.declared.entry.View.{View}

-- the bits V, R, W, X, U, A and D; G, bit 5, and bits 9:8 change nothing here (4.3.1)
abbrev pub bit_of : EntryFlag → ℕ
bit_of Valid = 0
bit_of Readable = 1
bit_of Writable = 2
bit_of Executable = 3
bit_of User = 4
bit_of Accessed = 6
bit_of Dirty = 7

abbrev pub has : EntryFlag → ℕ → Bool
has flag entry = entry / 2 ^ bit_of flag % 2 == 1

-- PPN, bits 31:10
abbrev pub page_number : ℕ → ℕ
page_number entry = entry / 2 ^ 10

-- V is 0, or W is 1 and R is 0 (4.3.2, step 3)
abbrev pub is_invalid : ℕ → Bool
is_invalid entry = not (has Valid entry) || (has Writable entry && not (has Readable entry))

-- a valid entry whose R and X are 0 leads to a further table (4.3.2, step 4)
abbrev pub is_pointer : ℕ → Bool
is_pointer entry = not (has Readable entry) && not (has Executable entry)

-- a pointer has its U, A and D clear: other values are reserved (4.3.1)
abbrev pub is_reserved : ℕ → Bool
is_reserved entry = has User entry || (has Accessed entry || has Dirty entry)

-- a superpage of 2 ^ 22 bytes begins inside one (4.3.2, step 6)
abbrev pub is_unaligned : ℕ → Bool
is_unaligned entry = not (page_number entry % 2 ^ 10 == 0)

abbrev pub is_fetch : Kind → Bool
is_fetch Fetch = true
is_fetch _ = false

abbrev pub is_store : Kind → Bool
is_store Store = true
is_store _ = false

-- A is 0, or the access is a store and D is 0 (4.3.2, step 7)
abbrev pub is_unmarked : Kind → ℕ → Bool
is_unmarked kind entry = not (has Accessed entry) || (is_store kind && not (has Dirty entry))

-- fetches want X, loads R, or X where MXR is set, stores W (4.3.1 and 4.3.2, step 5)
abbrev pub lacks_permission : View → Kind → ℕ → Bool
lacks_permission v Fetch entry = not (has Executable entry)
lacks_permission v Load entry = not (has Readable entry || (v.mxr && has Executable entry))
lacks_permission v Store entry = not (has Writable entry)

-- U reaches its own pages alone; S reaches them where SUM is set, and never fetches from them (4.3.1 and 3.1.6.3)
abbrev pub is_out_of_reach : View → Kind → ℕ → Bool
is_out_of_reach v kind entry = if is_supervisor v.privilege then has User entry && (is_fetch kind || not v.sum) else not (has User entry)

-- a leaf that doesn't let the access through
abbrev pub is_closed : View → Kind → ℕ → Bool
is_closed v kind entry = is_unmarked kind entry || (lacks_permission v kind entry || is_out_of_reach v kind entry)

-- the page faults and the access faults (Privileged, 3.1.15)
abbrev pub page_cause : Kind → Cause
page_cause Fetch = FetchPage
page_cause Load = LoadPage
page_cause Store = StorePage

abbrev pub access_cause : Kind → Cause
access_cause Fetch = FetchAccess
access_cause Load = LoadAccess
access_cause Store = StoreAccess
