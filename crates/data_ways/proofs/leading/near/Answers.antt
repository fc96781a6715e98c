use Rattle.data_ways.proofs.Reached.{near_is}
use Rattle.data_ways.proofs.leading.near.Goals as goal

pub returns : goal.returns
returns c = λ n le.
    near_is c.args.base c.args.mask n c.in-Some.last c.args.bytes.now c.in_ok-window.window c.in_ok-near.near c.in-Some.ensures.0 c.in-Some.ensures.1 le c.in_ok-window.ensures c.in_ok-near.ensures
