-- The whole systems that begin as a certificate says: one for each fill of the places that its start doesn't give.
use Rattle.std.specs.Prelude.{◌≡◌, ℕ, ◌%◌, ◌<◌, true, nat_lt, if◌then◌else◌, length, Option, None}
use Rattle.std.specs.Option.{unwrap_or}
use Rattle.rv_csr.specs.Table.{is_legal_at}
use Rattle.rv_hart.specs.Whole.{WholeHart}
use Rattle.tpl_ast.specs.States.{AreStartWords, IsWord, is_key, is_legal_place}
use Rattle.tpl_admit.specs.declared.certificate.Cert.{Cert}
use Rattle.tpl_admit.specs.System.{System}
use Rattle.tpl_admit.specs.Starts.{start_of, word_of, fixed_in, first_system, AgreesWith, lookup}
use Rattle.tpl_admit.specs.WellFormed.{IsWellFormed}

-- a value for each register and lazy CSR of each hart, by the hart's number and the key of the place, and for each word of memory, by its number
pub record Fill : Type 0 where
  pub places : ℕ → ℕ → ℕ
  pub words : ℕ → ℕ

-- the values that are given, and those of the fill elsewhere
abbrev pub filled : (ℕ → Option ℕ) → (ℕ → ℕ) → ℕ → ℕ
filled given fill x = unwrap_or (given x) (fill x)

abbrev pub filled_hart : Cert → Fill → ℕ → WholeHart
filled_hart c fill k = record { fixed = fixed_in c.template.ram k (start_of c k); file = filled (lookup (start_of c k).places) (fill.places k) }

-- the system with the start's values where it gives some, and the fill's elsewhere
abbrev pub filled_system : Cert → Fill → System
filled_system c fill = record { harts = filled_hart c fill; memory = filled (word_of c) fill.words }

-- zero everywhere
abbrev pub no_fill : Fill
no_fill = record { places = λ k key. 0; words = λ n. 0 }

-- this value for each register, and zero for each lazy CSR
abbrev pub even_place : ℕ → ℕ → ℕ
even_place fill key = if nat_lt key 32 then fill else 0

-- so for each hart, and this value for each word
abbrev pub evenly : ℕ → Fill
evenly fill = record { places = λ k. even_place fill; words = λ n. fill }

-- the values of a system
abbrev pub fill_of : System → Fill
fill_of sys = record { places = λ k. (sys.harts k).file; words = sys.memory }

-- ---- what is said of them

-- each place and each word that the start doesn't give has the fill's value
pub record IsFilledBy (c : Cert) (fill : Fill) (sys : System) : Type 0 where
  pub places : (k key : ℕ) → lookup (start_of c k).places key ≡ None → (sys.harts k).file key ≡ fill.places k key
  pub words : (n : ℕ) → word_of c n ≡ None → sys.memory n ≡ fill.words n

-- two systems have the same memory and the same harts, of those that the certificate has
pub record IsSameFor (c : Cert) (sys other : System) : Type 0 where
  pub fixed : (k : ℕ) → k < length c.start → (sys.harts k).fixed ≡ (other.harts k).fixed
  pub places : (k key : ℕ) → k < length c.start → (sys.harts k).file key ≡ (other.harts k).file key
  pub words : (n : ℕ) → sys.memory n ≡ other.memory n

-- registers have words, and lazy CSRs legal values
abbrev pub AreLegalPlaces : (ℕ → ℕ) → Type 0
AreLegalPlaces file = (key : ℕ) → is_key key ≡ true → IsWord (file key) × (is_legal_place (key, file key) ≡ true)

-- so does a fill for so many harts, and words for memory
pub record IsLegalFill (count : ℕ) (fill : Fill) : Type 0 where
  pub places : (k : ℕ) → k < count → AreLegalPlaces (fill.places k)
  pub words : (n : ℕ) → IsWord (fill.words n)

-- a hart as a machine can have it
pub record IsLegalHart (h : WholeHart) : Type 0 where
  pub pc : IsWord h.fixed.pc
  pub aligned : h.fixed.pc % 4 ≡ 0
  pub mstatus : IsWord h.fixed.mstatus × (is_legal_at 0x300 h.fixed.mstatus ≡ true)
  pub medeleg : IsWord h.fixed.medeleg × (is_legal_at 0x302 h.fixed.medeleg ≡ true)
  pub satp : IsWord h.fixed.satp × (is_legal_at 0x180 h.fixed.satp ≡ true)
  pub places : AreLegalPlaces h.file

-- so many harts and a memory as a machine can have them
pub record IsLegalSystem (count : ℕ) (sys : System) : Type 0 where
  pub harts : (k : ℕ) → k < count → IsLegalHart (sys.harts k)
  pub words : (n : ℕ) → IsWord (sys.memory n)

-- where what is given of memory are words, the system begins as the certificate says with each fill of words
abbrev pub FillsAgree : Type 0
FillsAgree = (c : Cert) (fill : Fill) → AreStartWords c.template.ram 0 c.words → ((n : ℕ) → IsWord (fill.words n)) → AgreesWith c (filled_system c fill)

-- and has the fill wherever nothing is given
abbrev pub FillsAreKept : Type 0
FillsAreKept = (c : Cert) (fill : Fill) → IsFilledBy c fill (filled_system c fill)

-- each system that begins so is one of these
abbrev pub FillsAreAll : Type 0
FillsAreAll = (c : Cert) (sys : System) → AgreesWith c sys → IsSameFor c sys (filled_system c (fill_of sys))

-- with a legal fill it is as a machine can be
abbrev pub FillsAreLegal : Type 0
FillsAreLegal = (c : Cert) (fill : Fill) → IsWellFormed c → IsLegalFill (length c.start) fill → IsLegalSystem (length c.start) (filled_system c fill)

-- and the values of a machine are a legal fill
abbrev pub MachinesFill : Type 0
MachinesFill = (count : ℕ) (sys : System) → IsLegalSystem count sys → IsLegalFill count (fill_of sys)

-- the fill with zero everywhere is legal, and gives the system with zero wherever nothing is given
abbrev pub ZeroIsAFill : Type 0
ZeroIsAFill = ((count : ℕ) → IsLegalFill count no_fill) × ((c : Cert) → first_system c ≡ filled_system c no_fill)
