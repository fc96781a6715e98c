use Rattle.tool_texts.proofs.ByCommand.{limits_lose_nothing, one_answer, refusals_are_reported, texts_are_short}
use Rattle.tool_texts.proofs.laws.answer_laws.Goals as goal

pub returns-clause-one : goal.returns-clause-one
returns-clause-one c = one_answer (record {
  spelling = c.one_spelling.ensures;
  wrong = c.one_first_wrong.ensures;
  lengths = c.file_lengths.ensures;
  valid = c.one_verdict.ensures.valid;
  failure = c.one_verdict.ensures.one;
  decides = c.said_law.ensures;
  layouts = c.expansion_law.ensures;
}) c.texts_tell_what_is_made.ensures

pub returns-clause-limits : goal.returns-clause-limits
returns-clause-limits c = limits_lose_nothing (record {
  spelling = c.one_spelling.ensures;
  wrong = c.one_first_wrong.ensures;
  lengths = c.file_lengths.ensures;
  valid = c.one_verdict.ensures.valid;
  failure = c.one_verdict.ensures.one;
  decides = c.said_law.ensures;
  layouts = c.expansion_law.ensures;
}) c.template_law.ensures c.language_laws.ensures.long_texts

pub returns-clause-reported : goal.returns-clause-reported
returns-clause-reported c = refusals_are_reported

pub returns-clause-short : goal.returns-clause-short
returns-clause-short c = texts_are_short (record {
  files = c.file_lengths.ensures;
  report = c.length_laws.ensures.report;
  fault = c.length_laws.ensures.fault;
  malformed = c.length_laws.ensures.malformed;
  verdict = c.length_laws.ensures.verdict;
  gave_up = c.length_laws.ensures.gave_up;
  summary = c.demo_laws.ensures.short;
})
