use Rattle.std.proofs.Common.{subst}
use Rattle.tpl_lang.specs.Parsing.{parses}
use Rattle.tpl_parse.specs.declared.error.ParseError.{ParseError}
use Rattle.tpl_parse.specs.Answers.{Denies}
use Rattle.tool_texts.proofs.test.test_of.Goals as goal

pub returns-in-Err-Fault-clause-none : goal.returns-in-Err-Fault-clause-none
returns-in-Err-Fault-clause-none c =
    c.faulty.ensures c.args.effort.now c.args.bytes.now (subst (λ (e : ParseError). Denies e (parses c.args.bytes.now)) c.in-Err-Fault.field-0-is c.in-Err-Fault.ensures.said)
