use Rattle.leaf_link.proofs.FetchAnswering.{fetch_firsts_exist}
use Rattle.leaf_link.proofs.fetch_laws.fetch_firsts_exist.Goals as goal

pub returns : goal.returns
returns c = fetch_firsts_exist
