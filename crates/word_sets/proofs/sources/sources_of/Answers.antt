use Rattle.std.proofs.Common.{◌==◌, ℕ, ◌+◌, bit_and, take, get_or}
use Rattle.std.proofs.lemmas.List.Folds.{list_any_more}
use Rattle.dom_set.specs.Elements.{is_matching}
use Rattle.word_sets.specs.Internal.Sources.{is_sourced}
use Rattle.word_sets.proofs.Origins.{comes_either}
use Rattle.word_sets.proofs.sources.sources_of.Goals as goal

pub loop-pattern-preserved : goal.loop-pattern-preserved
loop-pattern-preserved c v lv =
    let pattern = get_or c.args.patterns.now c.loop-pattern.pattern-index (0, 0) in
    comes_either c.args.how c.args.other v (is_matching (take c.loop-pattern.pattern-index c.args.patterns.now)) (λ n. bit_and n pattern.0 == pattern.1) (is_matching (take (c.loop-pattern.pattern-index + 1) c.args.patterns.now)) (is_matching c.loop-pattern.sources.items v) (is_sourced c.source_by.result v) (is_matching c.push_source.new.sources.items v)
    (c.in_ok-push_source.ensures v)
    (λ n. list_any_more (λ (p : ℕ × ℕ). bit_and n p.0 == p.1) c.args.patterns.now c.loop-pattern.pattern-index (0, 0) c.loop-pattern-test.true)
    (c.loop-pattern.invariant v lv)
    (c.source_by.ensures v lv)
