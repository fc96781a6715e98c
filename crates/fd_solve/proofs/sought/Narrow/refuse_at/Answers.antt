use Rattle.std.proofs.Common.{List, Option, ap, arith, ◌∙◌, sym, subst}
use Rattle.std.specs.Prelude.{IfSome, slice_set}
use Rattle.fd_prob.specs.declared.problem.Case.{Case}
use Rattle.fd_prob.specs.Fitting.{IsCase}
use Rattle.fd_solve.specs.Internal.Marks.{begun_of}
use Rattle.fd_solve.specs.Internal.Equivalent.{AreEquivalent, StandsIn}
use Rattle.fd_solve.proofs.Asking.{none_asked}
use Rattle.fd_solve.proofs.Equivalence.{all_whole, equivalent_count, replaced}
use Rattle.fd_solve.proofs.sought.Narrow.refuse_at.Goals as goal

pub less-requires-clause-case : goal.less-requires-clause-case
less-requires-clause-case c = subst IsCase (sym c.case_at.ensures) (all_whole (begun_of c.args.marked.now).cases c.args.self.now c.requires.cases c.args.place c.case_at.result.now c.requires.place)

pub less-requires-clause-none : goal.less-requires-clause-none
less-requires-clause-none c =
    let cases = (begun_of c.args.marked.now).cases in
    none_asked c.args.bias.now (begun_of c.args.marked.now) c.args.self.now c.args.place c.args.slot c.args.set.now c.case_at.result.now c.requires.problem c.requires.entry c.requires.none c.requires.cases c.requires.asks
    (omega (arith, c.requires.place, equivalent_count cases c.args.self.now c.requires.cases)) (sym c.stays.ensures ∙ c.if-not-stays.false) c.case_at.ensures

pub returns-in-Some : goal.returns-in-Some
returns-in-Some c =
    let case : Case = c.case_at.result.now in
    let made : StandsIn case c.in-Some.made = subst (λ (o : Option Case). IfSome o (StandsIn case)) c.in-Some.is c.in_ok-made.ensures in
    subst (AreEquivalent (begun_of c.args.marked.now).cases) (sym (c.put.ensures ∙ ap (λ (cases : List Case). slice_set cases c.args.place c.in-Some.made) c.note.ensures)) (replaced (begun_of c.args.marked.now).cases c.args.self.now c.args.place case c.in-Some.made c.requires.place c.case_at.ensures made c.requires.cases)
