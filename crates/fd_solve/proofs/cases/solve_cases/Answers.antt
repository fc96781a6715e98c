use Rattle.std.proofs.Common.{◌≡◌, ℕ, Bool, ◌+◌, ◌<◌, ◌∙◌, Global, List, Vec, length, get_or, refl, sym, subst, arith}
use Rattle.fd_prob.specs.declared.problem.Case.{Case}
use Rattle.fd_prob.specs.declared.problem.Extra.{Extra}
use Rattle.fd_prob.specs.declared.problem.Problem.{Problem}
use Rattle.fd_solve.specs.Internal.Marks.{begun_of, marked_case, with_marked}
use Rattle.fd_solve.proofs.FirstMarks.{begun_whole, from_on, left_entries, left_room, left_whole}
use Rattle.fd_prob.specs.Fitting.{IsCase}
use Rattle.case_search.specs.Search.{IsLesser, IsMadeOf, LeastOrNone}
use Rattle.fd_solve.specs.Internal.Operations.{IsMadeOfAny}
use Rattle.fd_solve.specs.Internal.Equivalent.{AreTried}
use Rattle.fd_solve.proofs.Equivalence.{equivalent_at, equivalent_count, least_marked, tried_at, unmarked}
use Rattle.fd_solve.proofs.Marking.{entry_at, many_marked, marked_at, marked_op}
use Rattle.fd_solve.proofs.OneOperation.{IsMadeBefore, all_before, no_more_case, one_more_case, passed_case}
use Rattle.fd_solve.proofs.cases.solve_cases.Goals.{then-case-op+then-may_lead+in_ok-least, else-case-op, else-case-op-via-then-case-op+else-may_lead, else-case-op-via-else-case-op}
use Rattle.fd_solve.proofs.cases.solve_cases.Goals as goal

pub may_lead-requires : goal.may_lead-requires
may_lead-requires c = (equivalent_at (begun_of c.args.marked.now).cases c.args.sought.now.cases.now c.loop-place.place c.case-item.result c.requires.cases c.loop-place-test.true c.case-item.is).2.whole

pub solve_marked-requires : goal.solve_marked-requires
solve_marked-requires c =
    let m = c.args.marked.now in
    let first : Problem = begun_of m in
    let at = equivalent_at first.cases c.args.sought.now.cases.now c.loop-place.place c.case-item.result c.requires.cases c.loop-place-test.true c.case-item.is in
    record {
      case = at.2.whole;
      entries = entry_at (from_on m.from m.biases.now) (length first.cases) c.loop-place.place (left_entries m.problem.now m.biases.now m.marks.now m.from c.requires.sound.entries)
          (omega (arith, c.loop-place-test.true, equivalent_count first.cases c.args.sought.now.cases.now c.requires.cases));
      marks = left_room m.problem.now m.biases.now m.marks.now m.from c.requires.sound.room;
    }

pub loop-place-preserved : goal.loop-place-preserved
loop-place-preserved c =
    let ps = c.args.pivots.now in
    let m = c.args.marked.now in
    let first : Problem = begun_of m in
    let marks : List Bool = from_on m.from m.marks.now in
    let biases : List Extra = from_on m.from m.biases.now in
    let entries = left_entries m.problem.now m.biases.now m.marks.now m.from c.requires.sound.entries in
    let problem = begun_whole m.problem.now m.biases.now m.marks.now m.from c.requires.sound.problem in
    let sought : List Case = c.args.sought.now.cases.now in
    let cases : List Case = (with_marked marks biases first).cases in
    let n : ℕ = c.loop-place.place in
    let plain : Case = c.case-item.result in
    let at = equivalent_at first.cases sought n plain c.requires.cases c.loop-place-test.true c.case-item.is in
    let own : Case = at.0 in
    let case : Case = marked_case marks biases n own in
    let less : n < length first.cases = omega (arith, c.loop-place-test.true, equivalent_count first.cases sought c.requires.cases) in
    let many : length cases ≡ length first.cases = many_marked marks biases first (length first.cases) entries refl in
    let lt : n < length cases = subst (λ (k : ℕ). n < k) (sym many) less in
    let here : case ≡ get_or cases n case = marked_at marks biases first (length first.cases) n own entries refl less at.1 in
    let op_is : case.op ≡ plain.op = marked_op marks biases n own ∙ sym at.2.op in
    let own_whole : IsCase own = subst IsCase (sym at.1) (problem n own less) in
    record {
      least = elim c.if-case-op.branch [
        | then-case-op+then-may_lead+in_ok-least w ↦
            let least : LeastOrNone ps (IsMadeOf case) w.in_ok-least.least = least_marked marks biases n own plain own_whole at.2 ps w.in_ok-least.least w.in_ok-least.ensures.least in
            one_more_case c.args.op cases n case lt here (op_is ∙ w.if-case-op.true) ps c.loop-place.best w.in_ok-least.least c.if-case-op.best c.loop-place.invariant.least least (subst (IsLesser ps c.loop-place.best w.in_ok-least.least) (sym w.best-is) w.lesser-best.ensures)
        | else-case-op w ↦
            let kept : LeastOrNone ps (IsMadeBefore c.args.op cases (n + 1)) c.loop-place.best = elim w.else-case-op.branch [
              | else-case-op-via-then-case-op+else-may_lead v ↦ passed_case c.args.op cases n case lt here plain (unmarked marks biases n own plain own_whole at.2) ps c.loop-place.best (v.may_lead.ensures v.if-may_lead.false) c.loop-place.invariant.least
              | else-case-op-via-else-case-op v ↦ no_more_case c.args.op cases n case lt here (λ same. v.if-case-op.false (sym op_is ∙ same)) ps c.loop-place.best c.loop-place.invariant.least
            ] in
            subst (LeastOrNone ps (IsMadeBefore c.args.op cases (n + 1))) (sym w.best-is) kept
      ];
      tried = elim c.if-case-op.branch [
        | then-case-op+then-may_lead+in_ok-least w ↦ subst (λ (v : Vec (ℕ × Case) Global). AreTried cases v.items) (sym w.tried-is) (w.in_ok-least.ensures.tried cases (tried_at marks biases first n own plain problem entries less at.1 at.2) c.loop-place.invariant.tried)
        | else-case-op w ↦ subst (λ (v : Vec (ℕ × Case) Global). AreTried cases v.items) (sym w.tried-is) c.loop-place.invariant.tried
      ];
    }

pub loop-place-init : goal.loop-place-init
loop-place-init c =
    let m = c.args.marked.now in
    record {
      least = λ y is. absurd (omega (arith, is.2.2));
      tried = subst (λ (q : Problem). AreTried q.cases c.args.tried.now.items) (sym (left_whole m.problem.now m.biases.now m.marks.now m.from)) c.requires.tried;
    }

pub returns-clause-least : goal.returns-clause-least
returns-clause-least c =
    let m = c.args.marked.now in
    let first : Problem = begun_of m in
    let marks : List Bool = from_on m.from m.marks.now in
    let biases : List Extra = from_on m.from m.biases.now in
    let whole : Problem = with_marked marks biases first in
    let n : ℕ = c.loop-place.place in
    let many : length whole.cases ≡ length first.cases = many_marked marks biases first (length first.cases) (left_entries m.problem.now m.biases.now m.marks.now m.from c.requires.sound.entries) refl in
    let items = equivalent_count first.cases c.args.sought.now.cases.now c.requires.cases in
    subst (λ (q : Problem). LeastOrNone c.args.pivots.now (IsMadeOfAny c.args.op q.cases) c.loop-place.best) (left_whole m.problem.now m.biases.now m.marks.now m.from)
    (all_before c.args.op whole.cases n (omega (arith, c.loop-place-test.false, many, items)) c.args.pivots.now c.loop-place.best c.loop-place.invariant.least)

pub returns-clause-tried : goal.returns-clause-tried
returns-clause-tried c =
    let m = c.args.marked.now in
    subst (λ (q : Problem). AreTried q.cases c.loop-place.tried.items) (left_whole m.problem.now m.biases.now m.marks.now m.from) c.loop-place.invariant.tried
