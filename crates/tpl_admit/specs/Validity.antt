-- A valid certificate.
use Rattle.std.specs.Prelude.{◌≡◌, ℕ, zero, suc, ◌/◌, ◌<◌, if◌then◌else◌, List, length, map, Some, None}
use Rattle.rv_script.specs.declared.access.Access.{Access}
use Rattle.rv_script.specs.Memory.{memory_after}
use Rattle.foot_map.specs.Races.{IsRaceFree}
use Rattle.tpl_admit.specs.declared.certificate.Cert.{Cert}
use Rattle.tpl_admit.specs.Starts.{start_of, final_of, trace_of, fixed_in, first_memory, is_given, lookup}
use Rattle.tpl_ast.specs.States.{ArePlaces, AreStartWords}
use Rattle.tpl_admit.specs.Races.{footprints_of}
use Rattle.tpl_admit.specs.Solo.{solo_run, IsInitialised, knows_after}
use Rattle.tpl_admit.specs.Admission.{Admits}

-- memory after what n harts did, hart by hart in ascending order
abbrev pub in_turn : ℕ → (ℕ → List Access) → (ℕ → ℕ) → ℕ → ℕ
in_turn zero did words = words
in_turn (suc n) did words = memory_after (did n) (in_turn n did words)

-- hart k, run alone, ends as is printed: its fixed parts, and every place that was given or written and no other
pub record EndsAsPrinted (c : Cert) (k : ℕ) : Type 0 where
  pub fixed : fixed_in c.template.ram k (final_of c k) ≡ (solo_run c k).hart.fixed
  pub places : (key : ℕ) → lookup (final_of c k).places key ≡ (if knows_after (is_given (start_of c k)) (solo_run c k).steps key then Some ((solo_run c k).hart.file key) else None)

-- the given words with all stores applied are those that are printed
abbrev pub MemoryEndsAsPrinted : Cert → Type 0
MemoryEndsAsPrinted c = map (λ w. in_turn (length c.start) (footprints_of (trace_of c)) (first_memory c) (w.0 / 4)) c.words ≡ c.last

-- hart k alone does what is printed, rests on what was given or written, and ends as is printed
pub record IsHartValid (c : Cert) (k : ℕ) : Type 0 where
  pub records : map (λ x. x.step.did) (solo_run c k).steps ≡ trace_of c k
  pub initialised : IsInitialised c k
  pub ends : EndsAsPrinted c k

-- all that a certificate says of its harts is so, whatever template it was made from
pub record IsSound (c : Cert) : Type 0 where
  pub traces : length c.traces ≡ length c.start
  pub finals : length c.finals ≡ length c.start
  pub start_places : (k : ℕ) → ArePlaces 0 (start_of c k).places
  pub final_places : (k : ℕ) → ArePlaces 0 (final_of c k).places
  pub words : AreStartWords c.template.ram 0 c.words
  pub harts : (k : ℕ) → k < length c.start → IsHartValid c k
  pub race_free : IsRaceFree (footprints_of (trace_of c))
  pub last : MemoryEndsAsPrinted c

-- that, and the template admits the trace
pub record IsValid (c : Cert) : Type 0 where
  pub sound : IsSound c
  pub admits : Admits c
