use Rattle.std.proofs.Common.{◌≡◌, ℕ, take}
use Rattle.std.specs.List.{list_any}
use Rattle.rv_mem.specs.Frames.{in_frames}
use Rattle.data_bytes.specs.Frames.{in_frames_from, AreFrames}
use Rattle.data_bytes.proofs.frames.frames_of.Given as goal

abbrev pub invariant-loop-run : goal.invariant-loop-run
invariant-loop-run l = record {
  frames : AreFrames l.frames.items;
  held : (v : ℕ) → in_frames l.frames.items v ≡ list_any (λ run. in_frames_from run v) (take l.run-index l.runs);
}
