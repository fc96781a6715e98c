use Rattle.std.proofs.Common.{ℕ, Global, Vec, sym, subst, ◌∙◌}
use Rattle.fd_prob.specs.declared.problem.Case.{Case}
use Rattle.fd_solve.specs.Internal.Equivalent.{AreTried, StandFor}
use Rattle.fd_solve.specs.Internal.Marks.{begun_of, whole_of}
use Rattle.fd_solve.proofs.AllOperations.{first_least, no_case, no_fit}
use Rattle.fd_solve.proofs.operations.solve_between.Goals.{in-Some+in_ok-x+in_default-2, in_default}
use Rattle.fd_solve.proofs.operations.solve_between.Goals as goal

pub loop-op-preserved : goal.loop-op-preserved
loop-op-preserved c = record {
  none = elim c.match-pivots_with.branch [
    | in-Some+in_ok-x+in_default-2 w ↦ no_fit (whole_of c.args.marked.now) c.fitting_laws.ensures.fitting c.args.from c.loop-op.op c.loop-op.invariant.none (rw w.in_default-2.is at w.in_ok-x.ensures.least)
    | in_default w ↦ no_case (whole_of c.args.marked.now) c.fitting_laws.ensures.fitting c.args.from c.loop-op.op c.loop-op.invariant.none w.in_default.ensures
  ];
  stands = elim c.match-pivots_with.branch [
    | in-Some+in_ok-x+in_default-2 w ↦ subst (StandFor (begun_of c.args.marked.now).cases) (sym w.narrow-is) w.in_ok-x.ensures.narrow
    | in_default w ↦ subst (StandFor (begun_of c.args.marked.now).cases) (sym w.narrow-is) c.loop-op.invariant.stands
  ];
  idle = elim c.match-pivots_with.branch [
    | in-Some+in_ok-x+in_default-2 w ↦ λ none. c.loop-op.invariant.idle (w.in_ok-x.ensures.idle (sym w.narrow-is ∙ none))
    | in_default w ↦ λ none. c.loop-op.invariant.idle (sym w.narrow-is ∙ none)
  ];
  tried = elim c.match-pivots_with.branch [
    | in-Some+in_ok-x+in_default-2 w ↦ subst (λ (v : Vec (ℕ × Case) Global). AreTried (whole_of c.args.marked.now).cases v.items) (sym w.tried-is) w.in_ok-x.ensures.tried
    | in_default w ↦ subst (λ (v : Vec (ℕ × Case) Global). AreTried (whole_of c.args.marked.now).cases v.items) (sym w.tried-is) c.loop-op.invariant.tried
  ];
}

pub returns-in-Some-2-clause-least : goal.returns-in-Some-2-clause-least
returns-in-Some-2-clause-least c = first_least (whole_of c.args.marked.now) c.fitting_laws.ensures.fitting c.args.from c.loop-op.op c.in-Some.pivots c.in-Some-2.x c.loop-op.auto.op c.loop-op.invariant.none c.in-Some.ensures (rw c.in-Some-2.is at c.in_ok-x.ensures.least)
