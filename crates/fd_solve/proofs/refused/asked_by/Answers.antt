use Rattle.std.proofs.Common.{sym, ◌∙◌}
use Rattle.fd_solve.proofs.Asking.{asks_by_rels, nothing}
use Rattle.fd_solve.proofs.refused.asked_by.Goals as goal

pub returns-then-is_empty-2 : goal.returns-then-is_empty-2
returns-then-is_empty-2 c = asks_by_rels c.args.bias.now c.as_slice-then-is_empty-2.result.now c.in_ok-asked-2.asked (sym c.as_slice-2.ensures ∙ nothing c.as_slice-2.result.now (sym c.is_empty-2.ensures ∙ c.if-is_empty-2.true)) c.as_slice-then-is_empty-2.ensures c.in_ok-asked-2.ensures
