use Rattle.std.proofs.Common.{◌≡◌}
use Rattle.tool_texts.specs.declared.answer.Answer.{Answer}
use Rattle.tool_texts.specs.Answers.{number_of}
use Rattle.tool_texts.specs.Gen.{AreTexts}
use Rattle.tool_texts.proofs.Refusals.{refusal_answers}
use Rattle.tool_texts.proofs.generating.gen_answer.Goals as goal

pub returns-in-Err : goal.returns-in-Err
returns-in-Err c =
    refusal_answers (λ (a : Answer). (number_of a.status ≡ 0) × AreTexts c.args.effort.now c.args.bytes.now a.out.items a.report.items) c.args.effort.now c.args.bytes.now c.refused.result
    c.refused.ensures.out (c.refused.ensures.report c.args.effort.now c.args.bytes.now c.in-Err.ensures.none)
