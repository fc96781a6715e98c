use Rattle.std.proofs.Common.{Some, arith, sym, subst}
use Rattle.std.proofs.lemmas.List.Elements.{All-pop}
use Rattle.fd_solve.specs.Internal.Marks.{whole_of}
use Rattle.fd_solve.specs.Internal.Equivalent.{AreEquivalent, IsTried}
use Rattle.fd_solve.proofs.Equivalence.{equivalent_count, put_at}
use Rattle.fd_solve.proofs.sought.Narrow.put_tried.Goals as goal

pub put_narrow-requires : goal.put_narrow-requires
put_narrow-requires c =
    let cases = (whole_of c.args.marked.now).cases in
    let parts = All-pop (IsTried cases) c.loop-last.left.items c.pop.new.self.items (Some c.in-Some.last) c.in-Some.ensures.items c.loop-last.invariant.tried in
    omega (arith, parts.1.0, equivalent_count cases c.loop-last.self c.loop-last.invariant.stand)

pub loop-last-preserved : goal.loop-last-preserved
loop-last-preserved c =
    let cases = (whole_of c.args.marked.now).cases in
    let parts = All-pop (IsTried cases) c.loop-last.left.items c.pop.new.self.items (Some c.in-Some.last) c.in-Some.ensures.items c.loop-last.invariant.tried in
    record {
      stand = subst (AreEquivalent cases) (sym c.put_narrow.ensures) (put_at cases c.loop-last.self c.in-Some.last.0 c.in-Some.last.1 parts.1 c.loop-last.invariant.stand);
      tried = parts.0;
    }
