-- What `exec` answers.
use Rattle.std.specs.Prelude.{◌≡◌, ℕ, true, List, [], ◌++◌, length, map, None, ◌⊎◌}
use Rattle.tpl_admit.specs.declared.certificate.Cert.{Cert}
use Rattle.rv_system.specs.Faithfulness.{IsFaithful}
use Rattle.replay_check.specs.Failures.{IsFirstFailure}
use Rattle.tpl_admit.specs.Starts.{first_system, trace_of}
use Rattle.tpl_admit.specs.System.{Ran, of_hart, run_of}
use Rattle.tpl_admit.specs.Validity.{IsValid}
use Rattle.rv_system.specs.Runs.{stopped_hart}
use Rattle.run_order.specs.Orders.{order_of}
use Rattle.replay_check.specs.declared.verdict.Verdict.{Verdict}
use Rattle.replay_check.specs.declared.verdict.Verdict.TheVariants.{Yes, No}
use Rattle.trace_text.specs.Events.{events_text}
use Rattle.trace_text.specs.Verdicts.{verdict_text}
use Rattle.tool_texts.specs.Files.{IsFileOf, IsMalformed}

-- the order that a number draws, in which each hart has as many turns as records
abbrev pub drawn_turns : ℕ → Cert → List ℕ
drawn_turns number c = order_of number (map (λ t. length t) c.traces)

-- the run of this order by the machine, from the start with zero wherever that gives nothing
abbrev pub drawn_run : ℕ → Cert → Ran
drawn_run number c = run_of (drawn_turns number c) (first_system c)

-- the steps that the machine made, and where it stopped
abbrev pub run_text : ℕ → Cert → List ℕ
run_text number c = events_text (drawn_run number c).events (stopped_hart (drawn_turns number c) (drawn_run number c))

-- what stands behind the run's text: the first failure, where there is one
abbrev pub verdict_behind : Verdict → List ℕ
verdict_behind Yes = []
verdict_behind (No kind hart step) = verdict_text (No kind hart step)

-- The bytes are the file of a certificate that is valid. Its run does not stop, each hart's steps in it are its records, and the text tells it.
pub record IsRunOfFile (number : ℕ) (bytes text : List ℕ) : Type 0 where
  pub certificate : Cert
  pub file : IsFileOf bytes certificate
  pub valid : IsValid certificate
  pub faithful : IsFaithful certificate
  pub whole : (drawn_run number certificate).whole ≡ true
  pub records : (k : ℕ) → of_hart k (drawn_run number certificate).events ≡ trace_of certificate k
  pub text_is : text ≡ events_text (drawn_run number certificate).events None

-- the bytes are the file of a certificate that is not valid; the text tells its run, where that stopped, and then its first failure
pub record IsRunOfWrongFile (number : ℕ) (bytes text : List ℕ) : Type 0 where
  pub certificate : Cert
  pub file : IsFileOf bytes certificate
  pub kind : ℕ
  pub hart : ℕ
  pub step : ℕ
  pub failure : IsFirstFailure certificate kind hart step
  pub text_is : text ≡ run_text number certificate ++ verdict_text (No kind hart step)

-- 0: the run of a valid file to `out`
-- 9: no file, and a line that says so to `report`
-- 10: the run of a file that is not valid to `out`, and its verdict behind it
abbrev pub ExecAnswers : ℕ → List ℕ → ℕ → List ℕ → List ℕ → Type 0
ExecAnswers number bytes status out report =
    ((status ≡ 0) × IsRunOfFile number bytes out × (report ≡ []))
    ⊎ (((status ≡ 9) × (out ≡ []) × IsMalformed bytes report)
    ⊎ ((status ≡ 10) × IsRunOfWrongFile number bytes out × (report ≡ [])))
