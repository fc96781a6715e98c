use Rattle.std.proofs.Common.{◌≡◌, []}
use Rattle.replay_check.specs.declared.verdict.Verdict.TheVariants.{Yes}
use Rattle.trace_text.specs.Verdicts.{verdict_text}
use Rattle.tool_texts.specs.declared.answer.Answer.{Answer}
use Rattle.tool_texts.specs.Answers.{number_of}
use Rattle.tool_texts.specs.Files.{IsMalformed}
use Rattle.tool_texts.specs.Replay.{IsValidFile, IsWrongFile}
use Rattle.tool_texts.proofs.Refusals.{middle_answers}
use Rattle.tool_texts.proofs.replaying.replay_answer.Goals as goal

pub returns-in-Ok : goal.returns-in-Ok
returns-in-Ok c =
    c.checked.ensures c.args.bytes.now (record { well_formed = c.in-Ok.ensures.found.0; is_file = c.in-Ok.ensures.found.1 })

pub returns-in-Err-Malformed : goal.returns-in-Err-Malformed
returns-in-Err-Malformed c =
    middle_answers (λ (a : Answer). (number_of a.status ≡ 0) × IsValidFile c.args.bytes.now × (a.out.items ≡ verdict_text Yes) × (a.report.items ≡ []))
    (λ (a : Answer). (number_of a.status ≡ 9) × (a.out.items ≡ []) × IsMalformed c.args.bytes.now a.report.items)
    (λ (a : Answer). (number_of a.status ≡ 10) × IsWrongFile c.args.bytes.now a.out.items × (a.report.items ≡ [])) c.no_file.result
    (c.no_file.ensures c.args.bytes.now (c.in-Err-Malformed.ensures.wrong c.in-Err-Malformed.part (cc)) (λ certificate file.
    let none = c.in-Err-Malformed.ensures.only certificate file.well_formed file.is_file in
    absurd (cc (none, c.in-Err-Malformed.field-0-is))))
