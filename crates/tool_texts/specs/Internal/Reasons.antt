-- Why no test of a text is given.
use Rattle.std.specs.Prelude.{List, ℕ, ⊤}
use Rattle.tool_words.specs.declared.command.Effort.{Effort}
use Rattle.tool_texts.specs.declared.test.NoTest.{NoTest}
use Rattle.tool_texts.specs.declared.test.NoTest.TheVariants.{Refused, OutOfMemory}
use Rattle.tool_texts.specs.Answers.{number_of}
use Rattle.tool_texts.specs.Tests.{IsRefusal}

-- the line says why, or memory ran out
abbrev pub TellsNone : Effort → List ℕ → NoTest → Type 0
TellsNone effort text (Refused status line) = IsRefusal effort text (number_of status) line.items
TellsNone effort text OutOfMemory = ⊤
