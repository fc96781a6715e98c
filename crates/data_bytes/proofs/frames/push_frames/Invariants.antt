use Rattle.std.proofs.Common.{◌≡◌, ◌+◌, ◌/◌, ◌<◌, ◌≤◌, ◌&&◌, ◌||◌, ℕ, leb, ltb}
use Rattle.rv_mem.specs.Frames.{in_frames}
use Rattle.data_bytes.specs.Frames.{AreFrames}
use Rattle.data_bytes.proofs.frames.push_frames.Given as goal

abbrev pub invariant-loop-number : goal.invariant-loop-number
invariant-loop-number l = record {
  frames : AreFrames l.frames.items;
  most : l.fn.run.1 / 4096 + 1 < l.number → l.number ≤ l.fn.run.0 / 4096;
  held : (v : ℕ) → in_frames l.frames.items v ≡ (in_frames l.initial.frames.items v || (leb (l.fn.run.0 / 4096) (v / 4096) && ltb (v / 4096) l.number));
}
