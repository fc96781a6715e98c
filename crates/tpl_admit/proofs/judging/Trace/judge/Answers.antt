use Rattle.std.proofs.Common.{◌≡◌, Option, Some, sym, ap, ◌∙◌}
use Rattle.tpl_ast.specs.Expansion.{expansion_of}
use Rattle.tpl_admit.specs.declared.admission.Unmet.{Unmet}
use Rattle.tpl_admit.specs.Admitting.{Context, context_of, first_stand, left_over, start_failures}
use Rattle.tpl_admit.specs.Internal.Walks.{Walked, context, noted, passed, through, trace, walked}
use Rattle.tpl_admit.proofs.Expansions.{three_noted}
use Rattle.tpl_admit.proofs.judging.Trace.judge.Goals as goal

pub returns-clause-least : goal.returns-clause-least
returns-clause-least c =
    let t = trace c.args.self.now in
    let k = c.args.k in
    let by = context_of t k in
    let laid = expansion_of c.args.hart.now.body.items c.args.choices.now in
    let start = start_failures t k c.args.hart.now.start in
    let ctx : context c.context-by.result ≡ by = c.context-by.ensures in
    let begun : walked c.first-walk.result ≡ record { at = first_stand t k; least = noted by start c.args.least; left = Some c.args.choices.now } =
    c.first-walk.ensures ∙ ap (λ (x : Option Unmet). record { at = first_stand t k; least = x; left = Some c.args.choices.now }) (c.note_start-least.ensures ∙ ap (λ (b : Context). noted b start c.args.least) ctx) in
    let gone : walked c.items.new.self ≡ passed by laid (record { at = first_stand t k; least = noted by start c.args.least; left = Some c.args.choices.now }) =
    c.items.ensures ∙ (λ i. through (ctx i) (expansion_of (c.deref.ensures.value i)) (begun i)) in
    ap (λ (w : Walked). w.least) c.end.ensures
    ∙ (λ i. noted (ctx i) (left_over (gone i).at (gone i).at.records) (gone i).least)
    ∙ sym (three_noted by start laid.pieces (first_stand t k) c.args.least)
