use Rattle.std.proofs.Common.{◌≡◌, ◌∙◌, arith}
use Rattle.std.proofs.lemmas.Grind.{common_steps}
use Rattle.dom_set.specs.Elements.{is_within}
use Rattle.rv_mem.specs.Frames.{in_frames}
use Rattle.data_bytes.proofs.Sets.{runs_are}
use Rattle.data_bytes.proofs.frames.frame_bytes.Goals as goal

pub returns : goal.returns
returns c v small =
    let told = c.loop-frame.invariant v in
    let held : is_within c.deref.result.now v ≡ in_frames c.args.frames.now v = grind (arith, common_steps, told) in
    runs_are c.deref.result.now c.in_ok-from_ranges.field-0 c.in_ok-from_ranges.ensures v small ∙ held
