-- What a certificate promises of every system and of every order of steps.
use Rattle.std.specs.Prelude.{◌≡◌, ℕ, ◌/◌, ◌≤◌, ◌<◌, true, List, length, map, take, None}
use Rattle.tpl_admit.specs.declared.certificate.Cert.{Cert}
use Rattle.tpl_admit.specs.System.{System, run_of, of_hart, times}
use Rattle.tpl_admit.specs.Starts.{final_of, trace_of, word_of, IsInState, AgreesWith, lookup}

-- all stands as is printed for the end, and what is not printed as at first
pub record IsFinished (c : Cert) (first last : System) : Type 0 where
  pub harts : (k : ℕ) → k < length c.start → IsInState c.template.ram k (final_of c k) (last.harts k)
  pub other_places : (k key : ℕ) → k < length c.start → lookup (final_of c k).places key ≡ None → (last.harts k).file key ≡ (first.harts k).file key
  pub words : map (λ w. last.memory (w.0 / 4)) c.words ≡ c.last
  pub other_words : (n : ℕ) → word_of c n ≡ None → last.memory n ≡ first.memory n

-- no hart's turn comes more often than it has records
abbrev pub IsBounded : Cert → List ℕ → Type 0
IsBounded c schedule = (k : ℕ) → times k schedule ≤ length (trace_of c k)

-- each hart's turn comes as often as it has records
abbrev pub IsComplete : Cert → List ℕ → Type 0
IsComplete c schedule = (k : ℕ) → times k schedule ≡ length (trace_of c k)

-- the run does not stop, each hart's records are the first of those that are printed, and where all were done all is finished
pub record Keeps (c : Cert) (first : System) (schedule : List ℕ) : Type 0 where
  pub whole : (run_of schedule first).whole ≡ true
  pub records : (k : ℕ) → of_hart k (run_of schedule first).events ≡ take (times k schedule) (trace_of c k)
  pub finished : IsComplete c schedule → IsFinished c first (run_of schedule first).system

-- from every system that begins so, under every interleaving of whole steps
abbrev pub IsFaithful : Cert → Type 0
IsFaithful c = (sys : System) (schedule : List ℕ) → AgreesWith c sys → IsBounded c schedule → Keeps c sys schedule
