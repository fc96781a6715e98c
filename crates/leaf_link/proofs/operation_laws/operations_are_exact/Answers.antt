use Rattle.leaf_link.proofs.Operations.{branches_are_exact, break_is_exact, call_is_exact, fence_is_exact, illegal_is_exact, jump_is_exact, jump_register_is_exact, plain_is_exact}
use Rattle.leaf_link.proofs.operation_laws.operations_are_exact.Goals as goal

pub returns-clause-plain : goal.returns-clause-plain
returns-clause-plain c = plain_is_exact

pub returns-clause-branches : goal.returns-clause-branches
returns-clause-branches c = branches_are_exact

pub returns-clause-jump : goal.returns-clause-jump
returns-clause-jump c = jump_is_exact

pub returns-clause-jump_register : goal.returns-clause-jump_register
returns-clause-jump_register c = jump_register_is_exact

pub returns-clause-call : goal.returns-clause-call
returns-clause-call c = call_is_exact

pub returns-clause-breakpoint : goal.returns-clause-breakpoint
returns-clause-breakpoint c = break_is_exact

pub returns-clause-illegal : goal.returns-clause-illegal
returns-clause-illegal c = illegal_is_exact

pub returns-clause-fence : goal.returns-clause-fence
returns-clause-fence c = fence_is_exact
