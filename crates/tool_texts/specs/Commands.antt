-- What each command answers.
use Rattle.std.specs.Prelude.{ℕ, List}
use Rattle.tool_words.specs.declared.command.Command.{Command}
use Rattle.tool_words.specs.declared.command.Command.TheVariants.{Gen, Replay, Exec, Show, Demo}
use Rattle.tool_texts.specs.Demo.{DemoAnswers}
use Rattle.tool_texts.specs.Exec.{ExecAnswers}
use Rattle.tool_texts.specs.Gen.{GenAnswers}
use Rattle.tool_texts.specs.Replay.{ReplayAnswers}
use Rattle.tool_texts.specs.Show.{ShowAnswers}

-- To these bytes, which are none for a command that reads nothing, the command answers a status that is no fault of a device, of memory or of the
-- words, one text for `out` and one for `report`.
abbrev pub Answers : Command → List ℕ → ℕ → List ℕ → List ℕ → Type 0
Answers (Gen effort) bytes status out report = GenAnswers effort bytes status out report
Answers Replay bytes status out report = ReplayAnswers bytes status out report
Answers (Exec number) bytes status out report = ExecAnswers number bytes status out report
Answers Show bytes status out report = ShowAnswers bytes status out report
Answers (Demo n) bytes status out report = DemoAnswers n status out report
