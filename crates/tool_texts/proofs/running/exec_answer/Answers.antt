use Rattle.std.proofs.Common.{◌≡◌, []}
use Rattle.tool_texts.specs.declared.answer.Answer.{Answer}
use Rattle.tool_texts.specs.Answers.{number_of}
use Rattle.tool_texts.specs.Exec.{IsRunOfFile, IsRunOfWrongFile}
use Rattle.tool_texts.specs.Files.{IsMalformed}
use Rattle.tool_texts.proofs.Refusals.{empty_short, middle_answers}
use Rattle.tool_texts.proofs.running.exec_answer.Goals as goal

pub returns-in-Ok-clause-answer : goal.returns-in-Ok-clause-answer
returns-in-Ok-clause-answer c =
    c.executed.ensures.answer c.args.bytes.now (record { well_formed = c.in-Ok.ensures.found.0; is_file = c.in-Ok.ensures.found.1 })

pub returns-in-Err-Malformed-clause-answer : goal.returns-in-Err-Malformed-clause-answer
returns-in-Err-Malformed-clause-answer c =
    middle_answers (λ (a : Answer). (number_of a.status ≡ 0) × IsRunOfFile c.args.number c.args.bytes.now a.out.items × (a.report.items ≡ []))
    (λ (a : Answer). (number_of a.status ≡ 9) × (a.out.items ≡ []) × IsMalformed c.args.bytes.now a.report.items)
    (λ (a : Answer). (number_of a.status ≡ 10) × IsRunOfWrongFile c.args.number c.args.bytes.now a.out.items × (a.report.items ≡ [])) c.no_file.result
    (c.no_file.ensures c.args.bytes.now (c.in-Err-Malformed.ensures.wrong c.in-Err-Malformed.part (cc)) (λ certificate file.
    let none = c.in-Err-Malformed.ensures.only certificate file.well_formed file.is_file in
    absurd (cc (none, c.in-Err-Malformed.field-0-is))))

pub returns-in-Err-Malformed-clause-out_size : goal.returns-in-Err-Malformed-clause-out_size
returns-in-Err-Malformed-clause-out_size c =
    empty_short (λ (a : Answer). number_of a.status ≡ 9) (λ (a : Answer). IsMalformed c.args.bytes.now a.report.items) c.no_file.result
    (c.no_file.ensures c.args.bytes.now (c.in-Err-Malformed.ensures.wrong c.in-Err-Malformed.part (cc)) (λ certificate file.
    let none = c.in-Err-Malformed.ensures.only certificate file.well_formed file.is_file in
    absurd (cc (none, c.in-Err-Malformed.field-0-is))))
