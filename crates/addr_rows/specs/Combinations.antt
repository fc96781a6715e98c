-- Where an address leads with new page table entries.
use Rattle.std.specs.Prelude.{ℕ, ◌+◌, ◌*◌, ◌/◌, ◌%◌, ◌^◌, ◌==◌, if◌then◌else◌, Bool, true, false, not, ◌&&◌, ◌||◌, List, [], Option, Some, None}
use Rattle.std.specs.List.{list_any}
use Rattle.rv_mem.specs.declared.words.Seen.{Seen}
use Rattle.rv_mem.specs.declared.words.Seen.TheVariants.{Known, Untouched, Vacant}
use Rattle.sv_walk.specs.declared.entry.Kind.{Kind}
use Rattle.sv_walk.specs.declared.entry.View.{View}
use Rattle.sv_walk.specs.Entry.{page_number, is_invalid, is_pointer, is_reserved, is_unaligned, is_closed, page_cause, access_cause}
use Rattle.sv_walk.specs.Translation.{Fails, arrived, second_end, is_translated}
use Rattle.row_parts.specs.Classes.{entry_at}
use Rattle.row_parts.specs.Gaps.{are_indices_equal}
use Rattle.row_parts.specs.Rows.{End, Reaches, Leaves, is_of, when, found}

-- what a translation depends on beside memory, and what new entries may be
pub record Setting : Type 0 where
  pub ram : ℕ → Bool
  pub view : View
  pub kind : Kind
  pub tables : List ℕ  -- the frames in which new entries may stand
  pub first : ℕ → Bool  -- what a new root entry may be
  pub second : ℕ → Bool  -- what a new second entry may be

-- no word is new
abbrev pub no : Option ℕ → Bool
no given = is_of None given

-- new entries may stand in the frame with this number
abbrev pub is_table : List ℕ → ℕ → Bool
is_table tables frame = list_any (λ t. t / 4096 == frame) tables

abbrev pub root_frame : View → ℕ
root_frame v = v.satp % 2 ^ 22

-- the second entry of an address is the word that its new root entry is
abbrev pub is_own_entry : Setting → Bool → ℕ → ℕ → Bool
is_own_entry st own frame x = own && (frame == root_frame st.view && are_indices_equal x)

abbrev pub page_fault : Setting → End
page_fault st = Reaches (Fails (page_cause st.kind))

abbrev pub access_fault : Setting → End
access_fault st = Reaches (Fails (access_cause st.kind))

abbrev pub second_reaches : Setting → ℕ → ℕ → End
second_reaches st x entry = Reaches (second_end st.ram st.view st.kind x entry)

-- the ends at a second entry that is seen so, with this new second entry or with none
unfoldable pub at_second : Setting → Bool → ℕ → Seen → Option ℕ → List End
at_second st may x Vacant leaf = found (no leaf) (access_fault st)
at_second st may x (Known entry) leaf = found (no leaf) (second_reaches st x entry)
at_second st may x Untouched None = []
at_second st may x Untouched (Some w) = found (may && st.second w) (second_reaches st x w)

-- the ends behind a pointer to the table in a frame; own: the pointer is new
unfoldable pub pointed : (ℕ → Seen) → Setting → Bool → ℕ → ℕ → Option ℕ → List End
pointed at st own frame x leaf = at_second st (is_table st.tables frame && not (is_own_entry st own frame x)) x (entry_at at frame (x / 2 ^ 12 % 2 ^ 10)) leaf

-- the ends at a root entry; own: it is new
unfoldable pub rooted : (ℕ → Seen) → Setting → Bool → ℕ → ℕ → Option ℕ → List End
rooted at st own entry x leaf =
    if is_invalid entry then found (no leaf) (page_fault st)
    else if is_pointer entry then (if is_reserved entry then found (no leaf) Leaves else pointed at st own (page_number entry) x leaf)
    else if is_unaligned entry || is_closed st.view st.kind entry then found (no leaf) (page_fault st)
    else found (no leaf) (Reaches (arrived st.ram st.kind (entry / 2 ^ 20 * 2 ^ 22 + x % 2 ^ 22)))

-- the ends at a root entry that is seen so
unfoldable pub at_root : (ℕ → Seen) → Setting → ℕ → Seen → Option ℕ → Option ℕ → List End
at_root at st x Vacant root leaf = found (no root && no leaf) (access_fault st)
at_root at st x (Known entry) root leaf = when (no root) (rooted at st false entry x leaf)
at_root at st x Untouched None leaf = []
at_root at st x Untouched (Some w) leaf = when (is_table st.tables (root_frame st.view) && st.first w) (rooted at st true w x leaf)

-- the end of an address with these new words, where it has one
unfoldable pub ways : (ℕ → Seen) → Setting → ℕ → Option ℕ → Option ℕ → List End
ways at st x root leaf =
    if is_translated st.view then at_root at st x (entry_at at (root_frame st.view) (x / 2 ^ 22)) root leaf
    else found (no root && no leaf) (Reaches (arrived st.ram st.kind x))
