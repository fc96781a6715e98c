use Rattle.fd_narrow.proofs.Compositions.{both}
use Rattle.fd_narrow.proofs.domains.Domains.ask_firsts.Goals as goal

pub returns : goal.returns
returns c = both c.args.op c.args.rels.now c.args.self.now c.ask_those.new.self c.ask_those-2.new.self c.in_ok-ask_those.ensures c.in_ok-ask_those-2.ensures
