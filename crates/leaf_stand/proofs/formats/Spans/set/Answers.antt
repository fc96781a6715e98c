use Rattle.std.proofs.lemmas.Result.{IfOk-weaker}
use Rattle.dom_set.specs.Elements.{elements_of}
use Rattle.data_bytes.specs.Sets.{IsSetOf}
use Rattle.leaf_stand.specs.Sets.{in_spans}
use Rattle.leaf_stand.proofs.Sets.{elements_are}
use Rattle.std.proofs.Common.{◌≡◌}
use Rattle.leaf_stand.proofs.formats.Spans.set.Goals as goal

pub returns : goal.returns
returns c = IfOk-weaker c.from_ranges.result (λ s. s ≡ elements_of (in_spans c.args.self)) (IsSetOf (in_spans c.args.self)) (λ s h. elements_are (in_spans c.args.self) s h) c.from_ranges.ensures
