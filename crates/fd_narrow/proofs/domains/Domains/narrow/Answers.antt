use Rattle.fd_narrow.proofs.Compositions.{both}
use Rattle.fd_narrow.proofs.domains.Domains.narrow.Goals as goal

pub returns-then-times-before : goal.returns-then-times-before
returns-then-times-before c = both c.args.op c.args.rels.now c.args.self.now c.loop.self c.pass.new.self c.loop.invariant c.in_ok-pass.ensures

pub loop-preserved : goal.loop-preserved
loop-preserved c = both c.args.op c.args.rels.now c.args.self.now c.loop.self c.pass.new.self c.loop.invariant c.in_ok-pass.ensures
