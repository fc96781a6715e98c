use Rattle.std.proofs.Common.{◌≡◌, drop}
use Rattle.std.specs.List.{list_any}
use Rattle.tpl_lang.specs.Faults.{is_repeat}
use Rattle.tpl_state.specs.Internal.Growing.{open_of}
use Rattle.tpl_state.proofs.body.is_any_repeat.Given as goal

abbrev pub invariant-loop-one : goal.invariant-loop-one
invariant-loop-one l = list_any (λ b. is_repeat (open_of b)) (drop l.one-index l.blocks) ≡ list_any (λ b. is_repeat (open_of b)) l.blocks
