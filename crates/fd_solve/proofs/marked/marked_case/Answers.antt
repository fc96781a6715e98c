use Rattle.std.proofs.Common.{Bool, List, ◌+◌, drop, get_or, refl, subst, sym, arith}
use Rattle.std.specs.Prelude.{false, if◌then◌else◌}
use Rattle.fd_prob.specs.declared.problem.Case.{Case}
use Rattle.fd_prob.specs.declared.problem.Extra.{Extra}
use Rattle.fd_prob.specs.Extras.{extended_case}
use Rattle.fd_prob.specs.Fitting.{IsCase}
use Rattle.case_search.specs.Equivalent.{IsEquivalent}
use Rattle.fd_solve.specs.Internal.Marks.{marked_case}
use Rattle.fd_solve.proofs.Equivalence.{equivalent_after, equivalent_marked, equivalent_to_itself}
use Rattle.case_search.proofs.Lists.{any_default, drop_past}
use Rattle.fd_solve.proofs.Marking.{marked_case_whole, next_mark, with_bias_whole}
use Rattle.fd_solve.proofs.marked.marked_case.Goals as goal

pub loop-i-init : goal.loop-i-init
loop-i-init c =
    let whole : Case → Case = marked_case c.args.marks.now c.args.biases.now c.args.place in
    let case : Case = c.args.case.now in
    record {
      case = subst IsCase (sym c.in_ok-made.ensures) c.requires.case;
      rest = subst (λ (d : Case). IsEquivalent (whole case) (whole d)) (sym c.in_ok-made.ensures) (equivalent_to_itself (whole case) (marked_case_whole c.args.marks.now c.args.biases.now c.args.place case c.requires.case));
    }

pub loop-i-preserved : goal.loop-i-preserved
loop-i-preserved c =
    let marks = c.args.marks.now in
    let biases = c.args.biases.now in
    let i = c.loop-i.i in
    let mark : Bool = get_or marks i false in
    let bias : Extra = c.index-biases-i.result in
    let before : Case = c.loop-i.made in
    let plain : Case = if mark then extended_case bias (get_or bias.cases c.args.place false) before else before in
    let made : Case = c.in_ok-made-2.made in
    let step = equivalent_marked (drop (i + 1) marks) (drop (i + 1) biases) c.args.place plain made (with_bias_whole mark bias c.args.place before plain refl c.loop-i.invariant.case) c.in_ok-made-2.ensures in
    let same = next_mark marks biases i mark bias c.args.place before plain c.loop-i-test.true (omega (arith, c.loop-i-test.true, c.requires.marks)) (any_default marks i false mark c.loop-i-test.true) c.index-biases-i.is refl in
    record {
      case = c.in_ok-made-2.ensures.whole;
      rest = equivalent_after (marked_case marks biases c.args.place c.args.case.now) (marked_case (drop i marks) (drop i biases) c.args.place before) (marked_case (drop (i + 1) marks) (drop (i + 1) biases) c.args.place made) c.loop-i.invariant.rest
          (subst (λ (k : Case). IsEquivalent k (marked_case (drop (i + 1) marks) (drop (i + 1) biases) c.args.place made)) same step);
    }

pub returns : goal.returns
returns c =
    subst (λ (ms : List Bool). IsEquivalent (marked_case c.args.marks.now c.args.biases.now c.args.place c.args.case.now) (marked_case ms (drop c.loop-i.i c.args.biases.now) c.args.place c.loop-i.made))
    (drop_past c.args.marks.now c.loop-i.i c.loop-i-test.false) c.loop-i.invariant.rest
