-- What the end of a command keeps of the promise.
use Rattle.std.proofs.Common.{◌≡◌, ℕ, ◌<◌, ◌≤◌, ◌⊎◌, inl, inr, List, length, drop, true, sym, ◌∙◌, subst, Some}
use Rattle.std.specs.declared.option.Option.{Option}
use Rattle.std.specs.Io.KnownBytes.{Consumes, IsAtEnd}
use Rattle.tool_words.specs.declared.command.Command.{Command}
use Rattle.tool_texts.specs.Answers.{is_answer}
use Rattle.tool_words.specs.Commands.{limit_of, IsCommand}
use Rattle.tool_texts.specs.Commands.{Answers}
use Rattle.tool_top.specs.Promise.{AreGiven, IsAllRead, IsAnswered, IsComplete, IsRefused}
use Rattle.tool_top.proofs.Reading.{Reads, are_taken, given_taken, read_all, reads_of}

-- a command answered so many bytes that were read, and the program ends with a status: the answer's, or 7 where that is 0
pub record Ends (words : List (List ℕ)) (command : Command) (old new : Option (List ℕ)) (bytes : List ℕ) (number : ℕ) (out report : List ℕ) (status : ℕ) : Type 0 where
  pub asked : IsCommand words command
  pub one : (other : Command) → IsCommand words other → other ≡ command
  pub reads : Reads old new bytes (limit_of command)
  pub answer : Answers command bytes number out report
  pub only : (s : ℕ) (o r : List ℕ) → Answers command bytes s o r → s ≡ number
  pub end : (status ≡ number) ⊎ ((status ≡ 7) × (number ≡ 0))
  pub cut : status ≡ 7 → number ≡ 0

pub ends_of : (words : List (List ℕ)) (command : Command) (old new : Option (List ℕ)) (read bytes : List ℕ) (limit number : ℕ) (out report : List ℕ) (status : ℕ)
    → IsCommand words command → ((other : Command) → IsCommand words other → command ≡ other) → limit ≡ limit_of command → bytes ≡ read → Consumes old new read → (length read < limit → IsAtEnd new) → length read ≤ limit
    → Answers command bytes number out report → ((s : ℕ) (o r : List ℕ) → Answers command bytes s o r → s ≡ number) → (status ≡ number) ⊎ ((status ≡ 7) × (number ≡ 0)) → (status ≡ 7 → number ≡ 0)
    → Ends words command old new bytes number out report status
ends_of words command old new read bytes limit number out report status asked one same value taken whole bound answer only end cut = record {
  asked = asked;
  one = λ other asks. sym (one other asks);
  reads = reads_of old new read bytes limit (limit_of command) same value taken whole bound;
  answer = answer;
  only = only;
  end = end;
  cut = cut;
}

abbrev pub answered : (words : List (List ℕ)) (command : Command) (old new : Option (List ℕ)) (bytes : List ℕ) (number : ℕ) (out report : List ℕ) (status s : ℕ) → Ends words command old new bytes number out report status → number ≡ s → IsAnswered words old new s
answered words command old new bytes number out report status s e same = record {
  command = command;
  asked = e.asked;
  bytes = bytes;
  taken = are_taken old new bytes (limit_of command) e.reads;
  out = out;
  report = report;
  answer = subst (λ (n : ℕ). Answers command bytes n out report) same e.answer;
}

-- where no command is asked for, nothing is owed of one
pub complete_none : (words : List (List ℕ)) (old : Option (List ℕ)) (failed : Type 0) (status : ℕ) → ((command : Command) → IsCommand words command → ⊥) → IsComplete words old failed status
complete_none words old failed status none = λ other given o r asked there answer whole. absurd (none other asked)

pub refused_none : (words : List (List ℕ)) (old : Option (List ℕ)) (failed : Type 0) (status : ℕ) → ((command : Command) → IsCommand words command → ⊥) → IsRefused words old failed status
refused_none words old failed status none = λ other given o r why asked there answer some whole. absurd (none other asked)

-- a status of answers is the answer's
pub same_end : (status number : ℕ) → (status ≡ number) ⊎ ((status ≡ 7) × (number ≡ 0)) → is_answer status ≡ true → number ≡ status
same_end status number (inl same) answers = sym same
same_end status number (inr cut) answers = let never : is_answer 7 ≡ true = subst (λ (n : ℕ). is_answer n ≡ true) cut.0 answers in absurd (cc never)

-- the answer to the bytes that are there is the one to those that were read
answer_is : (words : List (List ℕ)) (command : Command) (old new : Option (List ℕ)) (bytes : List ℕ) (number : ℕ) (out report : List ℕ) (status : ℕ) → Ends words command old new bytes number out report status
    → (other : Command) (given o r : List ℕ) (s : ℕ) → IsCommand words other → AreGiven (limit_of other) old given → Answers other given s o r → s ≡ number
answer_is words command old new bytes number out report status e other given o r s asked there answer =
    let same : other ≡ command = e.one other asked in
    let there' : AreGiven (limit_of command) old given = subst (λ (k : Command). AreGiven (limit_of k) old given) same there in
    let all : given ≡ bytes = given_taken old new given bytes (limit_of command) there' e.reads in
    e.only s o r (subst (λ (b : List ℕ). Answers command b s o r) all (subst (λ (k : Command). Answers k given s o r) same answer))

pub complete_end : (words : List (List ℕ)) (command : Command) (old new : Option (List ℕ)) (bytes : List ℕ) (number : ℕ) (out report : List ℕ) (status : ℕ) → Ends words command old new bytes number out report status
    → (failed : Type 0) → (status ≡ 7 → failed) → IsComplete words old failed status
complete_end words command old new bytes number out report status e failed rose = λ other given o r asked there answer whole.
    let zero : 0 ≡ number = answer_is words command old new bytes number out report status e other given o r 0 asked there answer in
    elim e.end [
      | inl same ↦ inl (same ∙ sym zero)
      | inr cut ↦ absurd (whole (rose cut.0))
    ]

pub refused_end : (words : List (List ℕ)) (command : Command) (old new : Option (List ℕ)) (bytes : List ℕ) (number : ℕ) (out report : List ℕ) (status : ℕ) → Ends words command old new bytes number out report status
    → (failed : Type 0) → IsRefused words old failed status
refused_end words command old new bytes number out report status e failed = λ other given o r why asked there answer some whole.
    let same : why ≡ number = answer_is words command old new bytes number out report status e other given o r why asked there answer in
    elim e.end [
      | inl is ↦ inl (is ∙ sym same)
      | inr cut ↦ absurd (some (same ∙ cut.1))
    ]

pub input_end : (words : List (List ℕ)) (command : Command) (old new : Option (List ℕ)) (bytes : List ℕ) (number : ℕ) (out report : List ℕ) (status : ℕ) → Ends words command old new bytes number out report status
    → (other : Command) → IsCommand words other → IsAllRead other old new status
input_end words command old new bytes number out report status e other asked ended text left =
    subst (λ (k : Command). new ≡ Some (drop (limit_of k) text)) (sym (e.one other asked)) (read_all old new bytes text (limit_of command) e.reads left)
