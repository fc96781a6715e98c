use Rattle.leaf_link.proofs.Fetching.{fetches_are_exact}
use Rattle.leaf_link.proofs.fetch_laws.fetches_are_exact.Goals as goal

pub returns : goal.returns
returns c = fetches_are_exact
