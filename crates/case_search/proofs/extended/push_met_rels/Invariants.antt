use Rattle.case_search.proofs.MetRows.{AreMetRels}
use Rattle.case_search.proofs.extended.push_met_rels.Given as goal

abbrev pub invariant-loop-rel : goal.invariant-loop-rel
invariant-loop-rel l = AreMetRels l.doms l.initial.rels.items l.more l.rel-index l.rels.items
