use Rattle.std.proofs.Common.{Option, map, sym, ap, ◌∙◌}
use Rattle.tpl_admit.specs.declared.admission.Unmet.{Unmet}
use Rattle.tpl_admit.specs.Admitting.{false_atoms, unretired}
use Rattle.tpl_admit.specs.Internal.Moments.{moment}
use Rattle.tpl_admit.specs.Internal.Walks.{context, noted}
use Rattle.tpl_admit.proofs.Expansions.{both_noted}
use Rattle.tpl_admit.proofs.judging.Context.note_unmet.Goals as goal

pub returns : goal.returns
returns c =
    let by = context c.args.self.now in
    let on = moment c.args.on.now in
    c.note_unretired.ensures
    ∙ ap (λ (least : Option Unmet). noted by (map (λ n. (c.args.step, n)) (unretired on c.args.wishes.now)) least) c.note_atoms-written.ensures
    ∙ sym (both_noted by (λ n. (c.args.step, n)) (false_atoms c.args.self.now.dropped.now c.args.self.now.hart c.args.step on 0 c.args.wishes.now) (unretired on c.args.wishes.now) c.args.least)
