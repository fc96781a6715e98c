use Rattle.std.proofs.Common.{◌∙◌}
use Rattle.given_start.proofs.harts.hart_in.Goals as goal

pub returns-clause-fixed : goal.returns-clause-fixed
returns-clause-fixed c = λ ram. c.give_all.ensures.fixed ram ∙ c.bare_hart-hart.ensures.fixed ram
