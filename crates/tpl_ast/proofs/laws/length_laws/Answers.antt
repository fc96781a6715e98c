use Rattle.tpl_ast.proofs.Leaves.{fixed_exact, layouts_fit}
use Rattle.tpl_ast.proofs.laws.length_laws.Goals as goal

pub returns-clause-bound : goal.returns-clause-bound
returns-clause-bound c = layouts_fit

pub returns-clause-exact : goal.returns-clause-exact
returns-clause-exact c = fixed_exact
