use Rattle.std.proofs.Common.{◌≡◌, ◌++◌, take}
use Rattle.fd_prob.proofs.copies.push_rels.Given as goal

abbrev pub invariant-loop-rel : goal.invariant-loop-rel
invariant-loop-rel l = l.rels.items ≡ l.initial.rels.items ++ take l.rel-index l.more
