use Rattle.std.proofs.Common.{◌≡◌, ◌∙◌, ℕ, List, subst}
use Rattle.cover_sweep.specs.Template.{demo_template}
use Rattle.tool_words.specs.declared.command.Effort.{Effort}
use Rattle.tool_texts.specs.Demo.{demo_effort}
use Rattle.tool_texts.specs.Internal.Reasons.{TellsNone}
use Rattle.tool_texts.proofs.Demos.{demo_refused}
use Rattle.tool_texts.proofs.demonstrating.demo_answer.Goals as goal

pub returns : goal.returns
returns c =
    let text : c.deref.result.now ≡ demo_template c.args.n = c.deref.ensures.value ∙ c.in_ok-text.ensures in
    let none : TellsNone (demo_effort c.args.n) (demo_template c.args.n) c.in-Err.why =
    subst (λ (t : List ℕ). TellsNone (demo_effort c.args.n) t c.in-Err.why) text (subst (λ (e : Effort). TellsNone e c.deref.result.now c.in-Err.why) c.effort_of.ensures c.in-Err.ensures.none) in
    demo_refused c.demo_laws.ensures.read c.args.n c.requires c.refused.result c.refused.ensures.out (c.refused.ensures.report (demo_effort c.args.n) (demo_template c.args.n) none)
