use Rattle.std.proofs.Common.{ℕ, List, ◌==◌, ◌%◌, ◌&&◌, ap, ◌∙◌}
use Rattle.std.specs.List.{filter}
use Rattle.dom_set.specs.Elements.{is_in, is_within}
use Rattle.row_parts.proofs.Members.{common}
use Rattle.row_parts.proofs.Between.{between}
use Rattle.row_parts.proofs.diagonal.off_diagonal.Goals as goal

pub returns : goal.returns
returns c = λ x small.
    ap (λ (s : List ℕ). is_in s x) c.in_ok-left.ensures
    ∙ ap (λ (s : List ℕ). is_in (filter (is_in s) c.args.set.now) x) c.in_ok-off.ensures
    ∙ common c.set_laws.ensures.pass c.set_laws.ensures.tests (λ y. y % 1 == 0 && is_within c.deref.result.now y) c.args.set.now x small
    ∙ between (is_in c.args.set.now x) c.in_ok-ranges.ranges.items c.deref.result.now x small c.deref.ensures.value (c.in_ok-ranges.ensures x)
