use Rattle.std.proofs.Common.{sym, ◌∙◌}
use Rattle.case_search.proofs.Strengthening.{lacking_same}
use Rattle.case_search.proofs.stronger.may_add_value.Goals as goal

pub returns-then-lacks_value-clause-same : goal.returns-then-lacks_value-clause-same
returns-then-lacks_value-clause-same c lacks = lacking_same c.args.rels.now (sym c.lacks_value.ensures ∙ lacks)
