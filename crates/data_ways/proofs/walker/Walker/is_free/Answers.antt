use Rattle.std.proofs.Common.{Some, None}
use Rattle.fetch_ways.proofs.Free.{free_where_none}
use Rattle.data_ways.proofs.walker.Walker.is_free.Goals as goal

pub returns-in-None : goal.returns-in-None
returns-in-None g c = free_where_none c.args.self.now.feet.now c.args.self.now.hart c.args.addr None c.requires.aligned c.in-None.ensures.none c.in-None.ensures.clash

pub returns-in-Some : goal.returns-in-Some
returns-in-Some g c = free_where_none c.args.self.now.feet.now c.args.self.now.hart c.args.addr (Some c.in-Some.field-0) c.requires.aligned c.in-Some.ensures.none c.in-Some.ensures.clash
