use Rattle.std.proofs.Common.{◌⊎◌, inr}
use Rattle.streams.specs.Causes.{Rose}
use Rattle.tool_texts.specs.Answers.{number_of}
use Rattle.tool_top.proofs.Promises.{answered, complete_end, complete_none, ends_of, input_end, refused_end, refused_none, same_end}
use Rattle.tool_top.proofs.command.run.Goals as goal

pub returns-in-Ok-answer_to-clause-sound : goal.returns-in-Ok-answer_to-clause-sound
returns-in-Ok-answer_to-clause-sound g c =
    let e = ends_of c.args.words.now c.in-Ok.command (g.S.Source.left c.args.source.now) (g.S.Source.left c.read_up_to.new.source) c.in-Ok-read_up_to.bytes.items c.deref.result.now c.limit.result
    (number_of c.in-Ok-answer_to.answer.status) c.in-Ok-answer_to.answer.out.items c.in-Ok-answer_to.answer.report.items c.write_answer.result
    c.in-Ok.ensures.found c.in-Ok.ensures.only c.limit.ensures c.deref.ensures.value c.in-Ok-read_up_to.ensures.taken c.in-Ok-read_up_to.ensures.whole c.in-Ok-read_up_to.ensures.bound
    c.in-Ok-answer_to.ensures.found c.in-Ok-answer_to.ensures.only c.write_answer.ensures.status c.write_answer.ensures.done in
    λ is. (
      answered c.args.words.now c.in-Ok.command (g.S.Source.left c.args.source.now) (g.S.Source.left c.read_up_to.new.source) c.deref.result.now (number_of c.in-Ok-answer_to.answer.status) c.in-Ok-answer_to.answer.out.items c.in-Ok-answer_to.answer.report.items c.write_answer.result c.write_answer.result e (same_end c.write_answer.result (number_of c.in-Ok-answer_to.answer.status) c.write_answer.ensures.status is),
      c.write_answer.ensures.out_written is,
      c.write_answer.ensures.report_written is,
      c.write_answer.ensures.out_left,
      c.write_answer.ensures.report_left,
    )

pub returns-in-Ok-answer_to-clause-cut : goal.returns-in-Ok-answer_to-clause-cut
returns-in-Ok-answer_to-clause-cut g c =
    let e = ends_of c.args.words.now c.in-Ok.command (g.S.Source.left c.args.source.now) (g.S.Source.left c.read_up_to.new.source) c.in-Ok-read_up_to.bytes.items c.deref.result.now c.limit.result
    (number_of c.in-Ok-answer_to.answer.status) c.in-Ok-answer_to.answer.out.items c.in-Ok-answer_to.answer.report.items c.write_answer.result
    c.in-Ok.ensures.found c.in-Ok.ensures.only c.limit.ensures c.deref.ensures.value c.in-Ok-read_up_to.ensures.taken c.in-Ok-read_up_to.ensures.whole c.in-Ok-read_up_to.ensures.bound
    c.in-Ok-answer_to.ensures.found c.in-Ok-answer_to.ensures.only c.write_answer.ensures.status c.write_answer.ensures.done in
    λ seven. (
      answered c.args.words.now c.in-Ok.command (g.S.Source.left c.args.source.now) (g.S.Source.left c.read_up_to.new.source) c.deref.result.now (number_of c.in-Ok-answer_to.answer.status) c.in-Ok-answer_to.answer.out.items c.in-Ok-answer_to.answer.report.items c.write_answer.result 0 e (c.write_answer.ensures.done seven),
      c.write_answer.ensures.cut seven,
      c.write_answer.ensures.out_left,
      c.write_answer.ensures.report_left,
    )

pub returns-in-Ok-answer_to-clause-complete : goal.returns-in-Ok-answer_to-clause-complete
returns-in-Ok-answer_to-clause-complete g c =
    let e = ends_of c.args.words.now c.in-Ok.command (g.S.Source.left c.args.source.now) (g.S.Source.left c.read_up_to.new.source) c.in-Ok-read_up_to.bytes.items c.deref.result.now c.limit.result
    (number_of c.in-Ok-answer_to.answer.status) c.in-Ok-answer_to.answer.out.items c.in-Ok-answer_to.answer.report.items c.write_answer.result
    c.in-Ok.ensures.found c.in-Ok.ensures.only c.limit.ensures c.deref.ensures.value c.in-Ok-read_up_to.ensures.taken c.in-Ok-read_up_to.ensures.whole c.in-Ok-read_up_to.ensures.bound
    c.in-Ok-answer_to.ensures.found c.in-Ok-answer_to.ensures.only c.write_answer.ensures.status c.write_answer.ensures.done in
    complete_end c.args.words.now c.in-Ok.command (g.S.Source.left c.args.source.now) (g.S.Source.left c.read_up_to.new.source) c.deref.result.now (number_of c.in-Ok-answer_to.answer.status) c.in-Ok-answer_to.answer.out.items c.in-Ok-answer_to.answer.report.items c.write_answer.result e
    (Rose (g.S.Source.faults c.args.source.now) (g.S.Source.faults c.read_up_to.new.source) ⊎ (Rose (g.K.Sink.faults c.args.out.now) (g.K.Sink.faults c.write_answer.new.out) ⊎ Rose (g.R.Sink.faults c.args.report.now) (g.R.Sink.faults c.write_answer.new.report)))
    (λ seven. inr (c.write_answer.ensures.rose seven))

pub returns-in-Ok-answer_to-clause-refused : goal.returns-in-Ok-answer_to-clause-refused
returns-in-Ok-answer_to-clause-refused g c =
    let e = ends_of c.args.words.now c.in-Ok.command (g.S.Source.left c.args.source.now) (g.S.Source.left c.read_up_to.new.source) c.in-Ok-read_up_to.bytes.items c.deref.result.now c.limit.result
    (number_of c.in-Ok-answer_to.answer.status) c.in-Ok-answer_to.answer.out.items c.in-Ok-answer_to.answer.report.items c.write_answer.result
    c.in-Ok.ensures.found c.in-Ok.ensures.only c.limit.ensures c.deref.ensures.value c.in-Ok-read_up_to.ensures.taken c.in-Ok-read_up_to.ensures.whole c.in-Ok-read_up_to.ensures.bound
    c.in-Ok-answer_to.ensures.found c.in-Ok-answer_to.ensures.only c.write_answer.ensures.status c.write_answer.ensures.done in
    refused_end c.args.words.now c.in-Ok.command (g.S.Source.left c.args.source.now) (g.S.Source.left c.read_up_to.new.source) c.deref.result.now (number_of c.in-Ok-answer_to.answer.status) c.in-Ok-answer_to.answer.out.items c.in-Ok-answer_to.answer.report.items c.write_answer.result e (Rose (g.S.Source.faults c.args.source.now) (g.S.Source.faults c.read_up_to.new.source))

pub returns-in-Ok-answer_to-clause-input : goal.returns-in-Ok-answer_to-clause-input
returns-in-Ok-answer_to-clause-input g c =
    let e = ends_of c.args.words.now c.in-Ok.command (g.S.Source.left c.args.source.now) (g.S.Source.left c.read_up_to.new.source) c.in-Ok-read_up_to.bytes.items c.deref.result.now c.limit.result
    (number_of c.in-Ok-answer_to.answer.status) c.in-Ok-answer_to.answer.out.items c.in-Ok-answer_to.answer.report.items c.write_answer.result
    c.in-Ok.ensures.found c.in-Ok.ensures.only c.limit.ensures c.deref.ensures.value c.in-Ok-read_up_to.ensures.taken c.in-Ok-read_up_to.ensures.whole c.in-Ok-read_up_to.ensures.bound
    c.in-Ok-answer_to.ensures.found c.in-Ok-answer_to.ensures.only c.write_answer.ensures.status c.write_answer.ensures.done in
    input_end c.args.words.now c.in-Ok.command (g.S.Source.left c.args.source.now) (g.S.Source.left c.read_up_to.new.source) c.deref.result.now (number_of c.in-Ok-answer_to.answer.status) c.in-Ok-answer_to.answer.out.items c.in-Ok-answer_to.answer.report.items c.write_answer.result e

pub returns-in-Err-Usage-clause-complete : goal.returns-in-Err-Usage-clause-complete
returns-in-Err-Usage-clause-complete g c = complete_none c.args.words.now _ _ 2 (c.in-Err-Usage.ensures.usage c.in-Err-Usage.field-0-is)

pub returns-in-Err-Usage-clause-refused : goal.returns-in-Err-Usage-clause-refused
returns-in-Err-Usage-clause-refused g c = refused_none c.args.words.now _ _ 2 (c.in-Err-Usage.ensures.usage c.in-Err-Usage.field-0-is)
