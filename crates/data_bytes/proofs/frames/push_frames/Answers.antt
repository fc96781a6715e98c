use Rattle.std.proofs.Common.{◌/◌, ◌||◌, Bool, ap, ◌∙◌, arith}
use Rattle.rv_mem.specs.Frames.{in_frames}
use Rattle.data_bytes.proofs.Framing.{cut_at}
use Rattle.data_bytes.proofs.frames.push_frames.Goals as goal

pub returns-clause-held : goal.returns-clause-held
returns-clause-held c v =
    c.loop-number.invariant.held v
    ∙ ap (λ (b : Bool). in_frames c.args.frames.now.items v || b) (cut_at (c.args.run.0 / 4096) (c.args.run.1 / 4096) c.loop-number.number (v / 4096) (omega arith) c.loop-number.invariant.most)
