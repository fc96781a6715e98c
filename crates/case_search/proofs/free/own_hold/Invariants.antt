use Rattle.std.proofs.Common.{◌≡◌, drop}
use Rattle.case_search.specs.Internal.Free.{own_hold}
use Rattle.case_search.proofs.free.own_hold.Given as goal

abbrev pub invariant-loop-rel : goal.invariant-loop-rel
invariant-loop-rel l = own_hold l.op l.x l.slot (drop l.rel-index l.rels) ≡ own_hold l.op l.x l.slot l.rels
