use Rattle.std.proofs.Common.{◌≡◌, ◌<◌, true, false, List, get_or, length, subst, arith, ◌∙◌, ap}
use Rattle.fd_prob.specs.declared.problem.Extra.{Extra}
use Rattle.fd_solve.specs.Answers.{NothingFits}
use Rattle.fd_solve.proofs.FirstMarks.{begun_whole, from_on, left_entries, left_room, one_left}
use Rattle.fd_solve.proofs.sought.refuse.Goals as goal

pub refuse-requires-clause-problem : goal.refuse-requires-clause-problem
refuse-requires-clause-problem c =
    let m = c.args.marked.now in
    begun_whole m.problem.now m.biases.now m.marks.now m.from c.requires.sound.problem

pub refuse-requires-clause-entry : goal.refuse-requires-clause-entry
refuse-requires-clause-entry c =
    let m = c.args.marked.now in
    let left : List Extra = from_on m.from m.biases.now in
    let one : length (from_on m.from m.marks.now) ≡ 1 = c.if-marks-ne1.false in
    let some : 0 < length left = omega (arith, one, left_room m.problem.now m.biases.now m.marks.now m.from c.requires.sound.room) in
    ap (λ (e : Extra). length e.cases) c.index-biases-0.is ∙ left_entries m.problem.now m.biases.now m.marks.now m.from c.requires.sound.entries 0 c.index-biases-0.result some

pub refuse-requires-clause-none : goal.refuse-requires-clause-none
refuse-requires-clause-none c =
    let m = c.args.marked.now in
    let left : List Extra = from_on m.from m.biases.now in
    let one : length (from_on m.from m.marks.now) ≡ 1 = c.if-marks-ne1.false in
    let some : 0 < length left = omega (arith, one, left_room m.problem.now m.biases.now m.marks.now m.from c.requires.sound.room) in
    let set : get_or (from_on m.from m.marks.now) 0 false ≡ true = c.if-not-marks.false in
    subst NothingFits (one_left m.problem.now m.biases.now m.marks.now m.from c.index-biases-0.result one set some c.index-biases-0.is) c.requires.none
