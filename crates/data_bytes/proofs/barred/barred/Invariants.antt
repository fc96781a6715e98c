use Rattle.std.proofs.Common.{◌≡◌, ◌&&◌, ◌<◌, ◌^◌, ℕ, take}
use Rattle.dom_set.specs.Elements.{is_in}
use Rattle.foot_map.specs.Races.{is_blocked}
use Rattle.rv_mem.specs.Frames.{in_frames}
use Rattle.data_bytes.proofs.barred.barred.Given as goal

abbrev pub invariant-loop-frame : goal.invariant-loop-frame
invariant-loop-frame l = (v : ℕ) → v < 2 ^ 32 → is_in l.barred v ≡ (in_frames (take l.frame-index l.frames) v && is_blocked l.feet l.hart l.role v)
