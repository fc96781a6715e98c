use Rattle.tool_texts.proofs.Executed.{out_short, run_answers}
use Rattle.tool_texts.proofs.running.executed.Goals as goal

pub returns-in-Ok-clause-answer : goal.returns-in-Ok-clause-answer
returns-in-Ok-clause-answer c =
    run_answers c.order_laws.ensures.taken c.sound_certificates_are_faithful.ensures.agreed c.args.number c.args.certificate.now c.in-Ok.verdict c.in_ok-text.text.items c.told.result c.in_ok-text.ensures.text
    c.in-Ok.ensures.yes c.in-Ok.ensures.faithful c.in-Ok.ensures.no c.told.ensures.yes c.told.ensures.no c.told.ensures.out c.told.ensures.report

pub returns-in-Ok-clause-out_size : goal.returns-in-Ok-clause-out_size
returns-in-Ok-clause-out_size c = out_short c.length_laws.ensures.verdict c.in-Ok.verdict c.in_ok-text.text.items c.told.result c.in_ok-text.ensures.size c.told.ensures.out
