use Rattle.std.proofs.Common.{◌≡◌, ◌/◌, ◌∙◌}
use Rattle.dom_set.specs.Elements.{is_within}
use Rattle.rv_mem.specs.Part.{part_at}
use Rattle.rv_mem.specs.Seen.{is_there}
use Rattle.data_bytes.proofs.Sets.{runs_are}
use Rattle.data_bytes.proofs.memory.ram_bytes.Goals as goal

pub returns : goal.returns
returns c v small =
    let there : is_within c.deref.result.now v ≡ is_there (part_at c.args.mem.now (v / 4)) = (let told = c.in_ok-runs.ensures v small in cc) in
    runs_are c.deref.result.now c.in_ok-from_ranges.field-0 c.in_ok-from_ranges.ensures v small ∙ there
