use Rattle.std.proofs.Common.{List, refl, subst, true}
use Rattle.fd_prob.specs.declared.problem.Extra.{Extra}
use Rattle.fd_solve.specs.Answers.{IsLeafAnswer}
use Rattle.leaf_turn.proofs.Rows.{rows_of_pages}
use Rattle.leaf_turn.proofs.answer.answer_of.Goals as goal

pub returns : goal.returns
returns c = λ t walk pa stands posed pages biases.
    let rows = c.data_rows_exist.ensures t posed.words in
    let of_pages = rows_of_pages c.args.stand.now.accesses t c.args.atoms.now rows.0.0 rows.1.0 rows.0.1 rows.1.1 pages in
    c.biases_are_kept.ensures t walk pa c.args.atoms.now _ (λ ea. true) rows.0.0 rows.1.0 c.args.draws.now c.in_ok-posed.posed.problem c.in_ok-extras.extras.items c.args.nodes c.in_ok-solve_leaf.field-0 posed biases (λ ea less test. refl) rows.0.1 rows.1.1
    (c.in_ok-posed.ensures.problem t walk pa rows.0.0 rows.1.0 stands posed.fetched of_pages)
    (c.in_ok-extras.ensures.extras c.args.atoms.now c.in_ok-posed.ensures.shapes t walk pa rows.0.0 rows.1.0 stands posed of_pages biases)
    (subst (λ (es : List Extra). IsLeafAnswer c.in_ok-posed.posed.problem es c.args.nodes c.in_ok-solve_leaf.field-0) c.deref.ensures.value c.in_ok-solve_leaf.ensures)
