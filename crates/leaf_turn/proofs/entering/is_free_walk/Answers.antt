use Rattle.std.proofs.Common.{Some, None}
use Rattle.fetch_ways.proofs.Free.{free_where_none}
use Rattle.leaf_turn.proofs.entering.is_free_walk.Goals as goal

pub returns-in-None : goal.returns-in-None
returns-in-None c = free_where_none c.args.feet.now c.args.hart c.args.addr None c.requires c.in-None.ensures.none c.in-None.ensures.clash

pub returns-in-Some : goal.returns-in-Some
returns-in-Some c = free_where_none c.args.feet.now c.args.hart c.args.addr (Some c.in-Some.field-0) c.requires c.in-Some.ensures.none c.in-Some.ensures.clash
