use Rattle.dom_set.proofs.Walks.{times_moved}
use Rattle.dom_set.proofs.lists.put_in_order.Goals as goal

pub returns-then-not-ascend : goal.returns-then-not-ascend
returns-then-not-ascend c = λ x. times_moved c.args.pieces.now.items c.sort_unstable_by_key.new.self.items x c.sort_unstable_by_key.ensures.permutation
