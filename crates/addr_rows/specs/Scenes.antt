-- What the code keeps, as a setting.
use Rattle.std.specs.Prelude.{◌≡◌, ℕ, ◌/◌, ◌^◌, ◌&&◌, Bool, true, false, List, [], ◌∷◌, Option, Some, None}
use Rattle.dom_set.specs.Elements.{is_in}
use Rattle.rv_mem.specs.Ram.{in_ram}
use Rattle.sv_walk.specs.declared.entry.Kind.{Kind}
use Rattle.sv_walk.specs.declared.entry.View.{View}
use Rattle.row_parts.specs.declared.forms.Forms.{Forms}
use Rattle.addr_rows.specs.declared.scene.Scene.{Scene}
use Rattle.row_parts.specs.Alike.{is_held, by_groups, by_word}
use Rattle.row_parts.specs.Forms.{is_first, is_second, IsOnce}
use Rattle.rv_mem.specs.declared.words.Seen.{Seen}
use Rattle.row_parts.specs.declared.row.Row.{Row}
use Rattle.row_parts.specs.Classes.{entry_at}
use Rattle.row_parts.specs.Rows.{Adds, is_of, when}
use Rattle.addr_rows.specs.Combinations.{Setting, at_root, pointed, root_frame, second_reaches}

abbrev pub setting_of : Scene → Setting
setting_of s = record { ram = in_ram s.ram; view = s.view; kind = s.kind; tables = s.tables.items; first = is_in s.firsts.items; second = is_held s.seconds.items }

-- the setting of a call
abbrev pub setting_with : List (ℕ × ℕ) → View → Kind → Forms → Setting
setting_with regions v kind f = record { ram = in_ram regions; view = v; kind = kind; tables = f.tables.items; first = is_first f; second = is_second f }

-- no root entry is listed twice, and each second entry is in one group, with its ends
pub record AreKept (s : Scene) : Type 0 where
  pub firsts : IsOnce (is_in s.firsts.items) s.firsts.items
  pub seconds : (given : Option ℕ) (x : ℕ) → by_groups s.seconds.items given (λ w. second_reaches (setting_of s) x w ∷ []) ≡ by_word (is_held s.seconds.items) given (λ w. second_reaches (setting_of s) x w ∷ [])

-- entries are new
abbrev pub is_some : Option (List ℕ) → Bool
is_some None = false
is_some (Some words) = true

-- rows were appended of the addresses whose root entry leads to the table in a frame; own: the new root entries
abbrev pub AddsPointed : (ℕ → Seen) → Scene → List Row → List Row → List ℕ → Option (List ℕ) → ℕ → Type 0
AddsPointed at s old new set own frame = Adds old new (λ x root leaf. when (is_in set x && is_of own root) (pointed at (setting_of s) (is_some own) frame x leaf))

-- rows were appended of addresses that are translated
abbrev pub AddsTranslated : (ℕ → Seen) → Scene → List Row → List Row → List ℕ → Type 0
AddsTranslated at s old new set = Adds old new (λ x root leaf. when (is_in set x) (at_root at (setting_of s) x (entry_at at (root_frame s.view) (x / 2 ^ 22)) root leaf))
