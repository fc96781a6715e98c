-- The start of a certificate, and which whole systems begin so.
use Rattle.std.specs.Prelude.{◌≡◌, ℕ, ◌*◌, ◌^◌, ◌<◌, Bool, nat_eq, if◌then◌else◌, List, [], ◌∷◌, length, Option, Some, None, slice_index_or}
use Rattle.std.specs.Option.{unwrap_or, is_some}
use Rattle.rv_csr.specs.declared.privilege.Priv.TheVariants.{M}
use Rattle.rv_hart.specs.declared.record.Record.{Record}
use Rattle.rv_hart.specs.Fixed.{Fixed}
use Rattle.rv_hart.specs.Whole.{WholeHart}
use Rattle.tpl_ast.specs.declared.template.Region.{Region}
use Rattle.tpl_admit.specs.declared.certificate.Cert.{Cert}
use Rattle.tpl_ast.specs.declared.template.HartState.{HartState}
use Rattle.tpl_ast.specs.States.{is_in_ram}
use Rattle.tpl_admit.specs.System.{System}

-- the value that a list of pairs gives to a key
abbrev pub lookup : List (ℕ × ℕ) → ℕ → Option ℕ
lookup [] key = None
lookup (e ∷ es) key = if nat_eq e.0 key then Some e.1 else lookup es key

abbrev pub no_state : HartState
no_state = record { pc = 0; privilege = M; mstatus = 0; medeleg = 0; satp = 0; places = [] }

-- the state in which hart k starts, and that in which it ends
abbrev pub start_of : Cert → ℕ → HartState
start_of c k = slice_index_or c.start k no_state

abbrev pub final_of : Cert → ℕ → HartState
final_of c k = slice_index_or c.finals k no_state

-- the records of hart k
abbrev pub trace_of : Cert → ℕ → List Record
trace_of c k = slice_index_or c.traces k []

-- the value that the start gives to word n
abbrev pub word_of : Cert → ℕ → Option ℕ
word_of c n = lookup c.words (n * 4)

-- the fixed parts that a state gives to hart k
abbrev pub fixed_in : List Region → ℕ → HartState → Fixed
fixed_in ram k s = record {
  pc = s.pc;
  privilege = s.privilege;
  mstatus = s.mstatus;
  medeleg = s.medeleg;
  satp = s.satp;
  number = k;
  ram = λ n. is_in_ram ram (n * 4);
}

-- a hart has these fixed parts, and the values that are given
pub record IsInState (ram : List Region) (k : ℕ) (s : HartState) (h : WholeHart) : Type 0 where
  pub fixed : h.fixed ≡ fixed_in ram k s
  pub places : (key v : ℕ) → lookup s.places key ≡ Some v → h.file key ≡ v

-- a whole system begins as the certificate says; all other registers, CSRs and words are arbitrary
pub record AgreesWith (c : Cert) (sys : System) : Type 0 where
  pub harts : (k : ℕ) → k < length c.start → IsInState c.template.ram k (start_of c k) (sys.harts k)
  pub words : (n v : ℕ) → word_of c n ≡ Some v → sys.memory n ≡ v
  pub memory : (n : ℕ) → sys.memory n < 2 ^ 32

-- the values that are given, and zero elsewhere
abbrev pub zero_elsewhere : (ℕ → Option ℕ) → ℕ → ℕ
zero_elsewhere given x = unwrap_or (given x) 0

abbrev pub first_hart : Cert → ℕ → WholeHart
first_hart c k = record { fixed = fixed_in c.template.ram k (start_of c k); file = zero_elsewhere (lookup (start_of c k).places) }

abbrev pub first_memory : Cert → ℕ → ℕ
first_memory c = zero_elsewhere (word_of c)

-- the system with zero wherever nothing is given
abbrev pub first_system : Cert → System
first_system c = record { harts = first_hart c; memory = first_memory c }

-- a place has a value at the start
abbrev pub is_given : HartState → ℕ → Bool
is_given s key = is_some (lookup s.places key)
