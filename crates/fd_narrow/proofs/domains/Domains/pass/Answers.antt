use Rattle.fd_narrow.proofs.Compositions.{both}
use Rattle.fd_narrow.proofs.domains.Domains.pass.Goals as goal

pub returns : goal.returns
returns c =
    let op = c.args.op in
    let rels = c.args.rels.now in
    let first = c.ask_firsts.new.self in
    let second = c.ask_those.new.self in
    both op rels c.args.self.now second c.narrow_standing.new.self (both op rels c.args.self.now first second c.in_ok-ask_firsts.ensures c.in_ok-ask_those.ensures) c.narrow_standing.ensures
