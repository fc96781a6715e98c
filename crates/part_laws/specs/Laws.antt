-- What holds of tests that are being made.
use Rattle.std.specs.Prelude.{◌≡◌, ℕ, ◌/◌, ◌^◌, ◌<◌, List, [], ◌∷◌, ◌++◌, length, map, Some, None}
use Rattle.rv_script.specs.declared.access.Access.{Access}
use Rattle.foot_map.specs.Races.{IsRaceFree}
use Rattle.rv_hart.specs.declared.record.Change.{Change}
use Rattle.rv_hart.specs.declared.record.Record.{Record}
use Rattle.rv_hart.specs.Whole.{record_of}
use Rattle.tpl_admit.specs.declared.certificate.Cert.{Cert}
use Rattle.tpl_admit.specs.Races.{footprints_of}
use Rattle.tpl_admit.specs.Starts.{start_of, final_of, trace_of, word_of, fixed_in, lookup}
use Rattle.tpl_ast.specs.States.{ArePlaces, AreStartWords}
use Rattle.tpl_admit.specs.Validity.{IsSound}
use Rattle.tpl_ast.specs.declared.template.HartState.{HartState}
use Rattle.tpl_admit.specs.System.{System}
use Rattle.part_laws.specs.Partial.{Held, Partial, Begins, End, Runs, is_held, IsPartialTest, place_started, word_started, with_record, IsNext, advanced}

-- nothing was done yet, and what is given is all that is known
pub record IsFresh (p : Partial) : Type 0 where
  pub records : (k : ℕ) → p.records k ≡ []
  pub harts : (k : ℕ) → p.harts k ≡ p.start k
  pub memory : (n : ℕ) → p.memory n ≡ p.words n

abbrev pub FreshLaw : Type 0
FreshLaw = (p : Partial) → IsFresh p → IsPartialTest p

-- late initialisation: what gives a value to a place that isn't known keeps all records
abbrev pub LatePlaceLaw : Type 0
LatePlaceLaw = (p : Partial) (k key v : ℕ) → IsPartialTest p → (p.harts k).places key ≡ None → IsPartialTest (place_started k key v p)

abbrev pub LateWordLaw : Type 0
LateWordLaw = (p : Partial) (n v : ℕ) → IsPartialTest p → p.memory n ≡ None → IsPartialTest (word_started n v p)

-- a step that is told on what is known, and that doesn't race, is one step more of the hart alone
abbrev pub AdvanceLaw : Type 0
AdvanceLaw = (p : Partial) (k : ℕ) (xs : List Access) (c : Change) → IsPartialTest p → k < p.count → IsNext k xs c p
    → IsRaceFree (footprints_of (advanced k xs c p).records) → IsPartialTest (advanced k xs c p)

-- a record that is what the next step of a hart does, told on what is known
pub record IsTold (p : Partial) (k : ℕ) (r : Record) : Type 0 where
  pub accesses : List Access
  pub change : Change
  pub next : IsNext k accesses change p
  pub is : r ≡ record_of (p.harts k).fixed accesses change

-- the other way round: where a hart alone, from a system that begins so, does its records and one more, rests in each step on what was given or
-- written, and nothing races, the one more is what the next step does on what is known
abbrev pub NextLaw : Type 0
NextLaw = (p : Partial) (k : ℕ) (r : Record) (sys : System) (end : End) → IsPartialTest p → k < p.count → Begins p sys
    → Runs p.words (is_held (p.start k)) (sys.harts k) sys.memory (p.records k ++ r ∷ []) end
    → IsRaceFree (footprints_of (with_record k r p.records)) → IsTold p k r

-- some system begins so, where the given words are words; so what is said of every such system is not empty
abbrev pub BegunLaw : Type 0
BegunLaw = (p : Partial) → ((n v : ℕ) → p.words n ≡ Some v → v < 2 ^ 32) → (sys : System) × Begins p sys

-- A CERTIFICATE OF IT

-- a state of a certificate is what is held of hart k
pub record IsStateOf (c : Cert) (k : ℕ) (s : HartState) (h : Held) : Type 0 where
  pub fixed : fixed_in c.template.ram k s ≡ h.fixed
  pub places : (key : ℕ) → lookup s.places key ≡ h.places key

-- a certificate has the start, the records and the end of a test that was made
pub record IsMade (p : Partial) (c : Cert) : Type 0 where
  pub count : length c.start ≡ p.count
  pub traces : length c.traces ≡ p.count
  pub finals : length c.finals ≡ p.count
  pub start : (k : ℕ) → k < p.count → IsStateOf c k (start_of c k) (p.start k)
  pub end : (k : ℕ) → k < p.count → IsStateOf c k (final_of c k) (p.harts k)
  pub records : (k : ℕ) → trace_of c k ≡ p.records k
  pub words : (n : ℕ) → word_of c n ≡ p.words n
  pub last : map (λ v. Some v) c.last ≡ map (λ w. p.memory (w.0 / 4)) c.words
  -- each key once, in ascending order
  pub start_places : (k : ℕ) → ArePlaces 0 (start_of c k).places
  pub final_places : (k : ℕ) → ArePlaces 0 (final_of c k).places
  pub start_words : AreStartWords c.template.ram 0 c.words

-- it is sound: so every system that begins so does what it says, under every order of steps
abbrev pub FinishLaw : Type 0
FinishLaw = (p : Partial) (c : Cert) → IsPartialTest p → IsMade p c → IsSound c
