-- Cases that the same assignments fit.
use Rattle.std.specs.Prelude.{◌≡◌}
use Rattle.fd_prob.specs.declared.problem.Assignment.{Assignment}
use Rattle.fd_prob.specs.declared.problem.Case.{Case}
use Rattle.fd_prob.specs.Fitting.{IsCase, fits_case}

-- the same assignments fit both cases, which are of one operation
pub record IsEquivalent (c made : Case) : Type 0 where
  pub whole : IsCase made
  pub op : made.op ≡ c.op
  pub same : (x : Assignment) → fits_case x made ≡ fits_case x c
