-- What the loads and stores of a hart of a test may do.
use Rattle.std.specs.Prelude.{ℕ, Bool, nat_eq, List}
use Rattle.std.specs.List.{list_any}
use Rattle.rv_script.specs.Bytes.{word_address}
use Rattle.rv_script.specs.Folds.{Entry}
use Rattle.foot_map.specs.declared.touch.Touch.{Touch}
use Rattle.foot_map.specs.Races.{IsFootprint}
use Rattle.tpl_ast.specs.declared.template.Template.{Template}
use Rattle.tpl_admit.specs.Races.{footprints_of}
use Rattle.part_machine.specs.Whole.{Whole, records_of}
use Rattle.data_goals.specs.declared.accesses.Accesses.{Accesses}
use Rattle.data_goals.specs.Grounds.{HasAccesses}
use Rattle.turn_laws.specs.Given.{Setting, turn_at}
use Rattle.leaf_turn.specs.Entering.{Leads}
use Rattle.leaf_turn.specs.Grounds.{IsSettingOf}

-- the byte at an address is one of the page table entries
abbrev pub is_read : List (ℕ × ℕ) → ℕ → Bool
is_read ptes v = list_any (λ e. nat_eq (word_address e.0) (word_address v)) ptes

-- what those of a hart may do, whose fetch is from an address
abbrev pub IsDataAt : Template → ℕ → Whole → ℕ → Accesses → Type 0
IsDataAt t k w pa a = (s : Setting) (feet : List Touch) (walk : List Entry) → IsSettingOf t s → IsFootprint feet (footprints_of (λ j. records_of j w)) → Leads k w walk pa → HasAccesses (turn_at s feet k w) walk pa a
