-- The commands: the words that ask for each, and how much it reads.
use Rattle.std.specs.Prelude.{◌≡◌, ℕ, ◌+◌, ◌^◌, ◌-◌, List, [], ◌∷◌, Option, Some, None, option_map, option_and_then, if◌then◌else◌, codes}
use Rattle.std.specs.Str.{bytes_eq}
use Rattle.std.specs.Str.Parse.{digits_value, without_leading_plus}
use Rattle.clap.specs.ValueTests.{is_unsigned_in}
use Rattle.clap.specs.Words.{Row, Text, fault_of, one_of, subcommand_of}
use Rattle.tpl_ast.specs.Limits.{file_limits, most_text}
use Rattle.tool_words.specs.App.{testgen_app}
use Rattle.tool_words.specs.declared.command.Command.{Command}
use Rattle.tool_words.specs.declared.command.Command.TheVariants.{Gen, Replay, Exec, Show, Demo}
use Rattle.tool_words.specs.declared.command.Effort.{Effort}

-- ---- words

-- the number below 2 ^ bits that a text spells: decimal digits, behind a plus or not
abbrev pub number_of : ℕ → Text → Option ℕ
number_of bits text = if is_unsigned_in 0 (2 ^ bits - 1) text then Some (digits_value 10 (without_leading_plus text)) else None

-- the number of the argument with this id
abbrev pub number_in : ℕ → Text → List Row → Option ℕ
number_in bits id rows = option_and_then (number_of bits) (one_of id rows)

-- what a search goes by
abbrev pub effort_in : List Row → Option Effort
effort_in rows =
    option_and_then (λ seed. option_and_then (λ nodes. option_map (λ turns. record { seed = seed; nodes = nodes; turns = turns }) (number_in 64 (codes "turns") rows))
    (number_in 64 (codes "nodes") rows)) (number_in 64 (codes "seed") rows)

-- what the subcommand with this name asks for
abbrev pub asked_by : Text → List Row → Option Command
asked_by name rows =
    if bytes_eq name (codes "gen") then option_map (λ effort. Gen effort) (effort_in rows)
    else (if bytes_eq name (codes "replay") then Some Replay
    else (if bytes_eq name (codes "exec") then option_map (λ order. Exec order) (number_in 64 (codes "order") rows)
    else (if bytes_eq name (codes "show") then Some Show
    else (if bytes_eq name (codes "demo") then option_map (λ steps. Demo steps) (number_in 32 (codes "steps") rows)
    else None))))

abbrev pub asked_in : Option (Text × List Row) → Option Command
asked_in = option_and_then (λ found. asked_by found.0 found.1)

-- the words, the program's name first, are accepted and ask for the command
pub record IsAsked (words : List Text) (command : Command) : Type 0 where
  pub accepted : fault_of testgen_app words ≡ []
  pub asked : asked_in (subcommand_of testgen_app words) ≡ Some command

-- the words after the program's name ask for the command
abbrev pub IsCommand : List Text → Command → Type 0
IsCommand words command = IsAsked (codes "testgen" ∷ words) command

-- ---- limits

-- how many bytes a command takes at most, which is one more than its input may have; 0 for a command that reads nothing
abbrev pub limit_of : Command → ℕ
limit_of (Gen effort) = most_text + 1
limit_of Replay = file_limits.size + 1
limit_of (Exec order) = file_limits.size + 1
limit_of Show = file_limits.size + 1
limit_of (Demo steps) = 0
