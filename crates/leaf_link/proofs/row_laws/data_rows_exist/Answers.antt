use Rattle.leaf_link.proofs.AllRows.{data_rows_exist}
use Rattle.leaf_link.proofs.row_laws.data_rows_exist.Goals as goal

pub returns : goal.returns
returns c = data_rows_exist c.rows_are_walks.ensures.ways c.rows_are_walks.ensures.walks
