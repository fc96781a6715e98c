use Rattle.std.proofs.Common.{◌∙◌}
use Rattle.row_parts.proofs.Sharing.{shared}
use Rattle.row_parts.proofs.alike.grouped.Goals as goal

pub returns-clause-ends : goal.returns-clause-ends
returns-clause-ends g c = λ test given x leaf once.
    shared (g.E.Entries.ends c.args.choice.now) test c.in_ok-groups.groups.items given x leaf (λ w. c.in_ok-groups.ensures.count w ∙ once w) c.in_ok-groups.ensures.alike
