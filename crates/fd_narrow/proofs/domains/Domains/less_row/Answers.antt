use Rattle.fd_narrow.proofs.RowParts.{less_all}
use Rattle.fd_narrow.proofs.domains.Domains.less_row.Goals as goal

pub returns : goal.returns
returns c = less_all c.args.self.now c.args.row.now c.args.rest (record { ea = c.in_ok-ea.ea; root = c.in_ok-root.root; leaf = c.in_ok-leaf.leaf; word = c.in_ok-word.word }) c.in_ok-ea.ensures c.in_ok-root.ensures c.in_ok-leaf.ensures c.in_ok-word.ensures
