use Rattle.case_search.specs.Internal.Easier.{AreBlind}
use Rattle.case_search.proofs.easier.blind_rels.Given as goal

abbrev pub invariant-loop-rel : goal.invariant-loop-rel
invariant-loop-rel l = AreBlind l.slot l.rels l.made.items
