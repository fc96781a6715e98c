-- Laws of the words of commands. Plain words and ranges are said in their own terms, without a parser of command lines.
use Rattle.std.specs.Prelude.{◌≡◌, ℕ, ◌^◌, ◌<◌, ◌≤◌, ◌⊎◌, ◌↔◌, ⊤, List, [], ◌∷◌, codes}
use Rattle.std.specs.Str.Parse.{IsNumeral, digits_value}
use Rattle.clap.specs.Words.{fault_of}
use Rattle.tool_words.specs.App.{testgen_app}
use Rattle.tool_words.specs.Commands.{IsCommand}
use Rattle.tool_words.specs.declared.command.Command.{Command}
use Rattle.tool_words.specs.declared.command.Command.TheVariants.{Gen, Replay, Exec, Show, Demo}

-- the first word of a command
abbrev pub name_of : Command → List ℕ
name_of (Gen effort) = codes "gen"
name_of Replay = codes "replay"
name_of (Exec order) = codes "exec"
name_of Show = codes "show"
name_of (Demo steps) = codes "demo"

-- the numbers of a command lie in their ranges
abbrev pub IsInRange : Command → Type 0
IsInRange (Gen effort) = (effort.seed < 2 ^ 64) × (1 ≤ effort.nodes) × (effort.nodes ≤ 1000000000) × (1 ≤ effort.turns) × (effort.turns ≤ 1000000)
IsInRange Replay = ⊤
IsInRange (Exec order) = order < 2 ^ 64
IsInRange Show = ⊤
IsInRange (Demo steps) = steps ≤ 2000

-- words ask for one command at most
abbrev pub AskForOne : Type 0
AskForOne = (words : List (List ℕ)) (one other : Command) → IsCommand words one → IsCommand words other → one ≡ other

-- words ask for a command exactly where the command line has no fault for them
abbrev pub AcceptedAsk : Type 0
AcceptedAsk = (words : List (List ℕ)) → (fault_of testgen_app (codes "testgen" ∷ words) ≡ []) ↔ ((command : Command) × IsCommand words command)

-- a command's first word is its name, and its numbers lie in their ranges
abbrev pub StartWithNames : Type 0
StartWithNames = (words : List (List ℕ)) (command : Command) → IsCommand words command → (rest : List (List ℕ)) × (words ≡ name_of command ∷ rest)

abbrev pub LieInRanges : Type 0
LieInRanges = (words : List (List ℕ)) (command : Command) → IsCommand words command → IsInRange command

-- ---- plain words

-- one decimal digit or more, and nothing else, which spell the number
pub record AreDigitsOf (n : ℕ) (word : List ℕ) : Type 0 where
  pub digits : IsNumeral 10 word
  pub value : digits_value 10 word ≡ n

-- the words are `[--nodes N] [--turns N]`, in either order; what is not given is 67,108,864 and 65,536
abbrev pub AreBudgets : List (List ℕ) → ℕ → ℕ → Type 0
AreBudgets [] nodes turns = (nodes ≡ 67108864) × (turns ≡ 65536)
AreBudgets (option ∷ word ∷ []) nodes turns =
    ((option ≡ codes "--nodes") × AreDigitsOf nodes word × (turns ≡ 65536))
    ⊎ ((option ≡ codes "--turns") × (nodes ≡ 67108864) × AreDigitsOf turns word)
AreBudgets (option ∷ word ∷ other ∷ last ∷ []) nodes turns =
    ((option ≡ codes "--nodes") × AreDigitsOf nodes word × (other ≡ codes "--turns") × AreDigitsOf turns last)
    ⊎ ((option ≡ codes "--turns") × AreDigitsOf turns word × (other ≡ codes "--nodes") × AreDigitsOf nodes last)
AreBudgets _ nodes turns = ⊥

-- the plain words of a command: `gen --seed N [--nodes N] [--turns N]`, `replay`, `exec --order N`, `show` and `demo N`
abbrev pub ArePlain : Command → List (List ℕ) → Type 0
ArePlain (Gen effort) words =
    (seed : List ℕ) × (budgets : List (List ℕ)) × (words ≡ codes "gen" ∷ codes "--seed" ∷ seed ∷ budgets) × AreDigitsOf effort.seed seed × AreBudgets budgets effort.nodes effort.turns
ArePlain Replay words = words ≡ codes "replay" ∷ []
ArePlain (Exec order) words = (word : List ℕ) × (words ≡ codes "exec" ∷ codes "--order" ∷ word ∷ []) × AreDigitsOf order word
ArePlain Show words = words ≡ codes "show" ∷ []
ArePlain (Demo steps) words = (word : List ℕ) × (words ≡ codes "demo" ∷ word ∷ []) × AreDigitsOf steps word

-- plain words ask for their command where its numbers lie in their ranges
abbrev pub PlainAsk : Type 0
PlainAsk = (words : List (List ℕ)) (command : Command) → ArePlain command words → IsInRange command → IsCommand words command

-- where one of the numbers does not, they ask for none
abbrev pub OutOfRangeAskForNone : Type 0
OutOfRangeAskForNone = (words : List (List ℕ)) (command : Command) → ArePlain command words → (IsInRange command → ⊥) → (other : Command) → IsCommand words other → ⊥
