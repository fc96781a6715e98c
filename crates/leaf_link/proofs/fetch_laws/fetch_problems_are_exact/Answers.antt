use Rattle.leaf_link.proofs.FetchFits.{fetch_problems_are_exact}
use Rattle.leaf_link.proofs.fetch_laws.fetch_problems_are_exact.Goals as goal

pub returns : goal.returns
returns c = fetch_problems_are_exact
