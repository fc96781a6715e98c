use Rattle.std.proofs.Common.{◌||◌, bit_and, eqb, take, sym, ◌∙◌}
use Rattle.std.proofs.lemmas.List.Folds.{list_any_more}
use Rattle.dom_set.specs.Elements.{is_matching}
use Rattle.set_pieces.specs.Internal.Runs.{is_in_run}
use Rattle.set_pieces.proofs.Times.{one_more_held}
use Rattle.dom_set.proofs.combined.pieces_matching.Goals as goal

pub loop-pattern-preserved : goal.loop-pattern-preserved
loop-pattern-preserved c = λ x lt.
    one_more_held c.loop-pattern.out.items c.push_run.new.out.items (is_in_run c.matching.result x) _ x (c.in_ok-push_run.ensures x) (c.loop-pattern.invariant x lt)
    ∙ (λ i. is_matching (take c.loop-pattern.pattern-index c.args.patterns.now) x || c.matching.ensures.held x lt i)
    ∙ sym (list_any_more (λ p. eqb (bit_and x p.0) p.1) c.args.patterns.now c.loop-pattern.pattern-index (0, 0) c.loop-pattern-test.true)
