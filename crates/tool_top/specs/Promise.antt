-- What the program promises.
use Rattle.std.specs.Prelude.{◌≡◌, ◌≢◌, ℕ, ◌≤◌, ◌==◌, nat_le, ◌&&◌, if◌then◌else◌, List, [], drop, take, length, codes, Some, Bool, not, ◌||◌, true, ◌⊎◌}
use Rattle.std.specs.declared.option.Option.{Option}
use Rattle.std.specs.Io.KnownBytes.{Appends, Consumes}
use Rattle.streams.specs.Causes.{EndsAtFault, Rose}
use Rattle.streams.specs.Sink.{GrowsByPrefix}
use Rattle.tool_words.specs.declared.command.Command.{Command}
use Rattle.tool_words.specs.Commands.{limit_of, IsCommand}
use Rattle.tool_texts.specs.Commands.{Answers}

-- WHAT IS READ

-- bytes that were taken, up to a limit; where the source tells its bytes, they are the first ones of what it had left
pub record AreTaken (limit : ℕ) (old new : Option (List ℕ)) (bytes : List ℕ) : Type 0 where
  pub within : length bytes ≤ limit
  pub consumed : Consumes old new bytes
  pub first : (left : List ℕ) → old ≡ Some left → bytes ≡ take limit left

-- the bytes that are there to be taken, where that is known: the first ones of what the source tells that it has left, and none up to a limit of 0
abbrev pub AreGiven : ℕ → Option (List ℕ) → List ℕ → Type 0
AreGiven limit old bytes = ((limit ≡ 0) × (bytes ≡ [])) ⊎ ((left : List ℕ) × (old ≡ Some left) × (bytes ≡ take limit left))

-- WHAT THE STATUSES SAY

-- the command that the words ask for answers this to the bytes that were taken
pub record IsAnswered (words : List (List ℕ)) (old new : Option (List ℕ)) (status : ℕ) : Type 0 where
  pub command : Command
  pub asked : IsCommand words command
  pub bytes : List ℕ
  pub taken : AreTaken (limit_of command) old new bytes
  pub out : List ℕ
  pub report : List ℕ
  pub answer : Answers command bytes status out report

-- a text was appended whole, and no write failed; or, on another status than 0, a front of it, and then one write failed, and nothing was taken after it
abbrev pub IsWritten : ℕ → Option (List ℕ) → Option (List ℕ) → List ℕ → Option ℕ → ℕ → ℕ → Type 0
IsWritten status old new text fault_at before now =
    (Appends old new text × (now ≡ before)) ⊎ ((status ≢ 0) × GrowsByPrefix old new text × EndsAtFault new fault_at before now × Rose before now)

-- nothing was done with the sink of an empty text
abbrev pub IsLeft : {K : Type 0} → List ℕ → K → K → Type 0
IsLeft text old new = length text ≡ 0 → new ≡ old

-- a front of the first text was appended and nothing of the second; or the first whole and a front of the second
abbrev pub AreCutShort : List ℕ → List ℕ → Option (List ℕ) → Option (List ℕ) → Option (List ℕ) → Option (List ℕ) → Type 0
AreCutShort out report old_out new_out old_report new_report =
    (GrowsByPrefix old_out new_out out × (new_report ≡ old_report)) ⊎ (Appends old_out new_out out × GrowsByPrefix old_report new_report report)

-- where the words are accepted, the command's answer to the bytes that are there is that it is done, and no call failed, it was done or memory ran out
abbrev pub IsComplete : List (List ℕ) → Option (List ℕ) → Type 0 → ℕ → Type 0
IsComplete words left failed status =
    (command : Command) (bytes out report : List ℕ) → IsCommand words command → AreGiven (limit_of command) left bytes → Answers command bytes 0 out report
    → (failed → ⊥) → (status ≡ 0) ⊎ (status ≡ 8)

-- where the words are accepted, the command's answer to the bytes that are there is another status, and no read failed, that is said or memory ran out
abbrev pub IsRefused : List (List ℕ) → Option (List ℕ) → Type 0 → ℕ → Type 0
IsRefused words left failed status =
    (command : Command) (bytes out report : List ℕ) (why : ℕ) → IsCommand words command → AreGiven (limit_of command) left bytes → Answers command bytes why out report
    → why ≢ 0 → (failed → ⊥) → (status ≡ why) ⊎ (status ≡ 8)

-- the line that a status tells `report`, where it is always the same
abbrev pub told_line : ℕ → List ℕ
told_line status =
    if status == 2 then codes "usage: testgen gen --seed N [--nodes N] [--turns N] | replay | exec --order N | show | demo N\n"
    else (if status == 6 then codes "read fault\n" else [])

-- the statuses that tell such a line
abbrev pub tells : ℕ → Bool
tells status = status == 2 || status == 6

-- the statuses on which reading came to its end: all but those of the words, of a failing read and of memory
abbrev pub ends_reading : ℕ → Bool
ends_reading status = not (status == 2 || (status == 6 || status == 8))

-- then all that the source had left was read, up to the command's limit
abbrev pub IsAllRead : Command → Option (List ℕ) → Option (List ℕ) → ℕ → Type 0
IsAllRead command old new status = ends_reading status ≡ true → (bytes : List ℕ) → old ≡ Some bytes → new ≡ Some (drop (limit_of command) bytes)

-- the numbers that the program may end with, whatever it is asked for
abbrev pub is_status : ℕ → Bool
is_status n = n == 0 || (n == 2 || (n == 3 || nat_le 5 n && nat_le n 10))
