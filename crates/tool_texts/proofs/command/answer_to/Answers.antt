use Rattle.std.proofs.Common.{◌≡◌, ℕ, suc, ◌<◌, List, [], ◌∷◌, length, get_or, Result, Ok, Err, refl}
use Rattle.std.specs.Prelude.{IfOk}
use Rattle.std.specs.List.{AllByRecursion}
use Rattle.tool_texts.specs.declared.answer.Answer.{Answer}
use Rattle.tool_words.specs.declared.command.Command.{Command}
use Rattle.tool_words.specs.declared.command.Command.TheVariants.{Gen, Replay, Exec, Show, Demo}
use Rattle.tool_texts.specs.declared.error.OutOfMemory.{OutOfMemory}
use Rattle.tool_texts.specs.Answers.{number_of}
use Rattle.tool_texts.specs.Commands.{Answers}
use Rattle.tool_texts.specs.Laws.{OneAnswer, TextsAreShort}
use Rattle.tool_texts.proofs.command.answer_to.Goals as goal

all_bytes : (bytes : List ℕ) → ((i : ℕ) → get_or bytes i 0 < 256) → AllByRecursion (λ b. b < 256) bytes
all_bytes [] fit = tt
all_bytes (b ∷ bytes) fit = (fit 0, all_bytes bytes (λ i. fit (suc i)))

same_status : OneAnswer → (command : Command) (bytes : List ℕ) → AllByRecursion (λ b. b < 256) bytes → (result : Result Answer OutOfMemory)
    → IfOk result (λ a. Answers command bytes (number_of a.status) a.out.items a.report.items) → (s : ℕ) (o r : List ℕ) → Answers command bytes s o r → IfOk result (λ a. s ≡ number_of a.status)
same_status one command bytes fit (Ok a) found s o r answer = (one command bytes fit s o r answer (number_of a.status) a.out.items a.report.items found).0
same_status one command bytes fit (Err e) found s o r answer = tt

out_short : TextsAreShort → (command : Command) (bytes : List ℕ) (result : Result Answer OutOfMemory)
    → IfOk result (λ a. Answers command bytes (number_of a.status) a.out.items a.report.items) → ((number : ℕ) → command ≡ Exec number → IfOk result (λ a. length a.out.items < 16777216))
    → IfOk result (λ a. length a.out.items < 16777216)
out_short short (Gen effort) bytes (Ok a) found run = (short (Gen effort) bytes (number_of a.status) a.out.items a.report.items found).0
out_short short Show bytes (Ok a) found run = (short Show bytes (number_of a.status) a.out.items a.report.items found).0
out_short short (Demo n) bytes (Ok a) found run = (short (Demo n) bytes (number_of a.status) a.out.items a.report.items found).0
out_short short Replay bytes (Ok a) found run = (short Replay bytes (number_of a.status) a.out.items a.report.items found).0
out_short short (Exec number) bytes (Ok a) found run = run number refl
out_short short command bytes (Err e) found run = tt

report_short : TextsAreShort → (command : Command) (bytes : List ℕ) (result : Result Answer OutOfMemory)
    → IfOk result (λ a. Answers command bytes (number_of a.status) a.out.items a.report.items) → IfOk result (λ a. length a.report.items < 16777216)
report_short short (Gen effort) bytes (Ok a) found = (short (Gen effort) bytes (number_of a.status) a.out.items a.report.items found).1
report_short short Show bytes (Ok a) found = (short Show bytes (number_of a.status) a.out.items a.report.items found).1
report_short short (Demo n) bytes (Ok a) found = (short (Demo n) bytes (number_of a.status) a.out.items a.report.items found).1
report_short short Replay bytes (Ok a) found = (short Replay bytes (number_of a.status) a.out.items a.report.items found).1
report_short short (Exec number) bytes (Ok a) found = short (Exec number) bytes (number_of a.status) a.out.items a.report.items found
report_short short command bytes (Err e) found = tt

pub returns-clause-out_size : goal.returns-clause-out_size
returns-clause-out_size c = out_short c.answer_laws.ensures.short c.args.command c.args.bytes.now c.answer_of.result c.answer_of.ensures.answer c.answer_of.ensures.run_size

pub returns-clause-report_size : goal.returns-clause-report_size
returns-clause-report_size c = report_short c.answer_laws.ensures.short c.args.command c.args.bytes.now c.answer_of.result c.answer_of.ensures.answer

pub returns-clause-only : goal.returns-clause-only
returns-clause-only c = same_status c.answer_laws.ensures.one c.args.command c.args.bytes.now (all_bytes c.args.bytes.now (λ i. (c.type_inv.bytes i).fits)) c.answer_of.result c.answer_of.ensures.answer
