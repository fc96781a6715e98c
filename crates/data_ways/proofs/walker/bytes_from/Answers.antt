use Rattle.std.proofs.Common.{◌+◌, ◌%◌, ◌&&◌, ◌==◌, [], ◌∷◌, ◌∙◌}
use Rattle.dom_set.specs.Elements.{is_within}
use Rattle.data_bytes.proofs.Sets.{elements_are, run_test}
use Rattle.data_ways.proofs.walker.bytes_from.Goals as goal

pub returns : goal.returns
returns c = λ v small.
    elements_are (λ x. x % 1 == 0 && is_within ((c.args.addr, c.args.addr + c.args.more) ∷ []) x) c.in_ok-bytes.bytes c.in_ok-bytes.ensures v small
    ∙ run_test c.args.addr (c.args.addr + c.args.more) v
