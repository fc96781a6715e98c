use Rattle.std.proofs.Common.{List, ap, slice_set, sym, subst, ◌∙◌}
use Rattle.fd_prob.specs.declared.problem.Case.{Case}
use Rattle.fd_solve.specs.Internal.Equivalent.{AreEquivalent, StandsIn}
use Rattle.fd_solve.proofs.Equivalence.{replaced, stands_in}
use Rattle.fd_solve.proofs.sought.Narrow.cut_at.Goals as goal

pub returns : goal.returns
returns c cases are =
    let before = c.args.self.now in
    let case : Case = c.case_at.result.now in
    let made : Case = c.in_ok-made.made in
    let one : StandsIn case made = subst (λ (d : Case). StandsIn d made) c.in_ok-same.ensures (stands_in c.in_ok-same.same made c.in_ok-made.ensures) in
    subst (AreEquivalent cases) (sym (c.put.ensures ∙ ap (λ (all : List Case). slice_set all c.args.place made) c.note.ensures))
    (replaced cases before c.args.place case made c.requires.place c.case_at.ensures one are)
