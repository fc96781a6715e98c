-- The statuses of answers.
use Rattle.std.specs.Prelude.{ℕ, Bool, not, ◌||◌, ◌==◌}
use Rattle.tool_texts.specs.declared.answer.Status.{Status}
use Rattle.tool_texts.specs.declared.answer.Status.TheVariants.{Done, NoTemplate, GaveUp, Malformed, Invalid}

-- the numbers of the statuses
abbrev pub number_of : Status → ℕ
number_of Done = 0
number_of NoTemplate = 3
number_of GaveUp = 5
number_of Malformed = 9
number_of Invalid = 10

-- the statuses of answers: no fault of the words, of a device or of memory
abbrev pub is_answer : ℕ → Bool
is_answer n = not (n == 2 || (n == 6 || (n == 7 || n == 8)))
