use Rattle.std.proofs.Common.{◌≡◌, drop, map}
use Rattle.tpl_admit.specs.Admitting.{false_atoms}
use Rattle.tpl_admit.specs.Internal.Moments.{moment}
use Rattle.tpl_admit.specs.Internal.Walks.{context, noted}
use Rattle.tpl_admit.proofs.judging.Context.note_atoms.Given as goal

abbrev pub invariant-loop-wish : goal.invariant-loop-wish
invariant-loop-wish l =
    noted (context l.self) (map (λ n. (l.step, n)) (false_atoms l.self.dropped.now l.self.hart l.step (moment l.on) l.n (drop l.wish-index l.wishes))) l.least
    ≡ noted (context l.self) (map (λ n. (l.step, n)) (false_atoms l.self.dropped.now l.self.hart l.step (moment l.on) 0 l.wishes)) l.initial.least
