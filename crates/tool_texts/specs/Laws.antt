-- Laws of answers.
use Rattle.std.specs.Prelude.{◌≡◌, ◌≢◌, ℕ, ◌<◌, ◌↔◌, List, [], length, take}
use Rattle.std.specs.List.{AllByRecursion}
use Rattle.tpl_ast.specs.Limits.{text_room}
use Rattle.tool_words.specs.declared.command.Command.{Command}
use Rattle.tool_words.specs.declared.command.Command.TheVariants.{Gen, Replay, Exec, Show, Demo}
use Rattle.tool_words.specs.Commands.{limit_of}
use Rattle.tool_texts.specs.Commands.{Answers}

-- a command has one answer at most to its bytes
abbrev pub OneAnswer : Type 0
OneAnswer =
    (command : Command) (bytes : List ℕ) → AllByRecursion (λ b. b < 256) bytes → (s : ℕ) (o r : List ℕ) → Answers command bytes s o r
    → (s' : ℕ) (o' r' : List ℕ) → Answers command bytes s' o' r' → (s ≡ s') × (o ≡ o') × (r ≡ r')

-- and none that rests on bytes behind its limit
abbrev pub LimitsLoseNothing : Type 0
LimitsLoseNothing = (command : Command) (bytes : List ℕ) (s : ℕ) (o r : List ℕ) → Answers command (take (limit_of command) bytes) s o r ↔ Answers command bytes s o r

-- only what was done, and a verdict on it, is told to `out`
abbrev pub RefusalsAreReported : Type 0
RefusalsAreReported = (command : Command) (bytes : List ℕ) (s : ℕ) (o r : List ℕ) → Answers command bytes s o r → s ≢ 0 → s ≢ 10 → o ≡ []

-- both texts are shorter than the room that the sinks have for them; of what `exec` tells to `out` its own call says so, since the records there are the machine's
abbrev pub AreShort : Command → List ℕ → List ℕ → Type 0
AreShort (Gen effort) out report = (length out < text_room) × (length report < text_room)
AreShort Replay out report = (length out < text_room) × (length report < text_room)
AreShort (Exec number) out report = length report < text_room
AreShort Show out report = (length out < text_room) × (length report < text_room)
AreShort (Demo n) out report = (length out < text_room) × (length report < text_room)

abbrev pub TextsAreShort : Type 0
TextsAreShort = (command : Command) (bytes : List ℕ) (s : ℕ) (o r : List ℕ) → Answers command bytes s o r → AreShort command o r
