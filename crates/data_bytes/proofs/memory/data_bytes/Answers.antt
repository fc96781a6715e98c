use Rattle.std.proofs.Common.{◌≡◌, ◌/◌, ◌^◌, ◌<◌, ◌||◌, true, not, nat_eq, ℕ, Bool, List, IsTrue, sym, ap, ◌∙◌}
use Rattle.dom_set.specs.Elements.{is_in, is_within}
use Rattle.rv_script.specs.declared.access.Role.TheVariants.{Load, Store}
use Rattle.foot_map.specs.Races.{is_blocked}
use Rattle.rv_mem.specs.Part.{part_at}
use Rattle.rv_mem.specs.Seen.{is_untouched}
use Rattle.rv_mem.specs.Frames.{in_frames}
use Rattle.data_bytes.proofs.Seeing.{asked, and_true}
use Rattle.data_bytes.proofs.memory.data_bytes.Goals as goal

-- the frame of a known or fresh byte is one of those that were asked
in_asked : (c : goal.After-drop-runs-2) (v : ℕ) → v < 2 ^ 32 → IsTrue (is_in c.in_ok-seen.seen.known v || is_in c.in_ok-seen.seen.fresh v) → in_frames c.deref-3.result.now v ≡ true
in_asked c v small h =
    ap (λ (frames : List ℕ). in_frames frames v) c.deref-3.ensures.value
    ∙ asked c.deref-2.result.now c.in_ok-frames.frames.items c.args.pool.now v (is_in c.in_ok-seen.seen.known v) (is_in c.in_ok-seen.seen.fresh v)
    (is_untouched (part_at c.args.mem.now (v / 4))) (not (nat_eq (v / 4) (c.args.pc / 4)))
    (c.in_ok-frames.ensures.held v)
    (c.in_ok-seen.ensures.known v small ∙ sym (c.in_ok-runs.ensures v small) ∙ ap (λ (runs : List (ℕ × ℕ)). is_within runs v) (sym c.deref-2.ensures.value))
    (c.in_ok-seen.ensures.fresh v small) h

pub returns : goal.returns
returns c = record {
  known = c.in_ok-seen.ensures.known;
  fresh = c.in_ok-seen.ensures.fresh;
  outside = c.in_ok-seen.ensures.outside;
  loaded = λ v small h. c.in_ok-barred.ensures.loads v small ∙ and_true (in_frames c.deref-3.result.now v) (is_blocked c.args.feet.now c.args.hart Load v) (in_asked c v small h);
  stored = λ v small h.
      c.in_ok-barred.ensures.stores v small
      ∙ ap (λ (b : Bool). b || nat_eq (v / 4) (c.args.pc / 4)) (and_true (in_frames c.deref-3.result.now v) (is_blocked c.args.feet.now c.args.hart Store v) (in_asked c v small h));
}
