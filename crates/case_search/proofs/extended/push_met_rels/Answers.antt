use Rattle.case_search.proofs.MetRows.{all_rels, next_rel}
use Rattle.case_search.proofs.extended.push_met_rels.Goals as goal

pub loop-rel-preserved : goal.loop-rel-preserved
loop-rel-preserved c = next_rel c.args.doms.now c.args.rels.now.items c.args.more.now c.loop-rel.rel-index c.rel-item.result c.in_ok-met_rel.field-0 c.loop-rel.rels.items c.push.new.self.items c.loop-rel-test.true c.rel-item.is c.in_ok-push.ensures.items c.in_ok-met_rel.ensures c.loop-rel.invariant

pub returns : goal.returns
returns c = all_rels c.args.doms.now c.args.rels.now.items c.args.more.now c.loop-rel.rel-index c.loop-rel.rels.items c.loop-rel-test.false c.loop-rel.invariant
