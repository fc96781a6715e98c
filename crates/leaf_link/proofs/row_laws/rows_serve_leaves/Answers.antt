use Rattle.leaf_link.proofs.Serving.{entries_are_let, fetch_rows_serve, load_rows_serve, store_rows_serve}
use Rattle.leaf_link.proofs.row_laws.rows_serve_leaves.Goals as goal

pub returns-clause-entries : goal.returns-clause-entries
returns-clause-entries c = entries_are_let

pub returns-clause-loads : goal.returns-clause-loads
returns-clause-loads c = load_rows_serve

pub returns-clause-stores : goal.returns-clause-stores
returns-clause-stores c = store_rows_serve

pub returns-clause-fetches : goal.returns-clause-fetches
returns-clause-fetches c = fetch_rows_serve
