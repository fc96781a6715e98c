use Rattle.std.proofs.Common.{◌/◌, ◌&&◌, Bool, take, get_or, nat_eq, sym, ap, ◌∙◌}
use Rattle.std.proofs.lemmas.List.Folds.{list_any_more}
use Rattle.dom_set.specs.Elements.{is_in}
use Rattle.foot_map.specs.Races.{is_blocked}
use Rattle.rv_mem.specs.Frames.{in_frames}
use Rattle.data_bytes.proofs.Framing.{shared}
use Rattle.data_bytes.proofs.barred.barred.Goals as goal

pub loop-frame-preserved : goal.loop-frame-preserved
loop-frame-preserved c v small =
    let frames = c.args.frames.now in
    let i = c.loop-frame.frame-index in
    let blocked = is_blocked c.args.feet.now c.args.hart c.args.role v in
    c.in_ok-barred.ensures v small
    ∙ shared (is_in c.loop-frame.barred v) (is_in c.in_ok-here.here v) (in_frames (take i frames) v) (nat_eq (v / 4096) (get_or frames i 0 / 4096)) blocked
    (c.loop-frame.invariant v small) (c.in_ok-here.ensures v small)
    ∙ ap (λ (b : Bool). b && blocked) (sym (list_any_more (λ frame. nat_eq (v / 4096) (frame / 4096)) frames i 0 c.loop-frame-test.true))
