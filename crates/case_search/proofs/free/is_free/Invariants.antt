use Rattle.std.proofs.Common.{◌≡◌, true}
use Rattle.std.specs.List.{AllWithin}
use Rattle.fd_prob.specs.Mentions.{mentions}
use Rattle.case_search.specs.Internal.Free.{IsSettled}
use Rattle.case_search.proofs.free.is_free.Given as goal

abbrev pub invariant-loop-rel : goal.invariant-loop-rel
invariant-loop-rel l = AllWithin (λ r. mentions r l.slot ≡ true → IsSettled l.doms l.slot r) l.rels 0 l.rel-index
