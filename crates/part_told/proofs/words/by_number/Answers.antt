use Rattle.std.proofs.Common.{ℕ, Option, Some, List, eqb, get_or, take, sym, ap, ◌∙◌, cond}
use Rattle.std.specs.BTreeMap.{get}
use Rattle.std.specs.Ordering.{nat_cmp}
use Rattle.std.proofs.lemmas.List.{take_more}
use Rattle.part_machine.specs.Whole.{given}
use Rattle.part_machine.proofs.Given.{given_more}
use Rattle.part_told.proofs.Numbers.{is_at_number}
use Rattle.part_told.proofs.words.by_number.Goals as goal

pub loop-word-preserved : goal.loop-word-preserved
loop-word-preserved c =
    let ws : List (ℕ × ℕ) = c.args.words.now in
    let i : ℕ = c.loop-word.word-index in
    let none : ℕ × ℕ = (0, 0) in
    let e : ℕ × ℕ = get_or ws i none in
    record {
      values = λ n.
          c.in_ok-insert.ensures.updates.0 n
          ∙ ap (λ b. cond b (Some e.1) (get nat_cmp c.loop-word.values n)) (is_at_number e.0 n)
          ∙ ap (λ (o : Option ℕ). cond (eqb n e.0) (Some e.1) o) (c.loop-word.invariant.values n)
          ∙ sym (given_more (take i ws) e.0 e.1 n)
          ∙ ap (λ (es : List (ℕ × ℕ)). given es n) (sym (take_more ws i none c.loop-word-test.true));
      ordered = c.insert.ensures.ordered;
    }
