use Rattle.std.proofs.Common.{sym, ◌∙◌}
use Rattle.leaf_link.specs.Turns.{is_first_form, is_second_form}
use Rattle.leaf_turn.proofs.Data.{zero_told}
use Rattle.leaf_turn.proofs.memory.entries_of.Goals as goal

pub returns-clause-first : goal.returns-clause-first
returns-clause-first c = λ t forms. zero_told _ (is_first_form t) c.in_ok-first.first (sym c.is_translated.ensures ∙ c.if-is_translated.false) c.in_ok-first.ensures

pub returns-clause-second : goal.returns-clause-second
returns-clause-second c = λ t forms. zero_told _ (is_second_form t) c.in_ok-second.second (sym c.is_translated.ensures ∙ c.if-is_translated.false) c.in_ok-second.ensures
