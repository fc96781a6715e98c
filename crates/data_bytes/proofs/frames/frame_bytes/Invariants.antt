use Rattle.std.proofs.Common.{◌≡◌, ℕ, take}
use Rattle.dom_set.specs.Elements.{is_within}
use Rattle.rv_mem.specs.Frames.{in_frames}
use Rattle.data_bytes.proofs.frames.frame_bytes.Given as goal

abbrev pub invariant-loop-frame : goal.invariant-loop-frame
invariant-loop-frame l = (v : ℕ) → is_within l.runs.items v ≡ in_frames (take l.frame-index l.frames) v
