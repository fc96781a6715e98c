-- Where a page table entry leads.
use Rattle.std.specs.Prelude.{ℕ, ◌*◌, ◌/◌, ◌^◌, ◌||◌, if◌then◌else◌}
use Rattle.sv_walk.specs.declared.entry.Kind.{Kind}
use Rattle.sv_walk.specs.declared.entry.View.{View}
use Rattle.sv_walk.specs.Entry.{page_number, is_invalid, is_pointer, is_reserved, is_unaligned, is_closed}
use Rattle.row_parts.specs.declared.target.Target.{Target}
use Rattle.row_parts.specs.declared.target.Target.TheVariants.{PageFault, Frame, Outside, Table}

-- a second entry leads to a frame, or to a page fault
unfoldable pub second_target : View → Kind → ℕ → Target
second_target v kind entry =
    if is_invalid entry || (is_pointer entry || is_closed v kind entry) then PageFault
    else Frame (page_number entry)

-- a root entry leads to a table or to the first frame of a superpage, to a page fault, or outside the profile
unfoldable pub root_target : View → Kind → ℕ → Target
root_target v kind entry =
    if is_invalid entry then PageFault
    else if is_pointer entry then (if is_reserved entry then Outside else Table (page_number entry))
    else if is_unaligned entry || is_closed v kind entry then PageFault
    else Frame (entry / 2 ^ 20 * 1024)
