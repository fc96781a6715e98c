-- The words of the template language.
use Rattle.std.specs.Prelude.{ℕ, Bool, false, ◌&&◌, ◌||◌, ◌==◌, not, nat_lt, List, [], ◌∷◌, length, drop, slice_index, Option, Some, None, is_some, codes, if◌then◌else◌}
use Rattle.std.specs.Str.{bytes_eq}
use Rattle.rv_isa.specs.declared.operation.Op.{Op}
use Rattle.rv_isa.specs.declared.operation.TheConstants.{OPS}
use Rattle.rv_isa.specs.Names.{name_of}
use Rattle.rv_csr.specs.declared.table.Register.{Register}
use Rattle.rv_csr.specs.Table.{registers, row_of}
use Rattle.tpl_lang.specs.declared.words.Key.{Key}
use Rattle.tpl_lang.specs.declared.words.Key.TheVariants as keys
use Rattle.tpl_lang.specs.declared.words.TheConstants.{KEYS}
use Rattle.tpl_lang.specs.Numbers.{are_digits, fitting, value_of}

-- the word of a key
abbrev pub spelling_of : Key → List ℕ
spelling_of keys.Ram = codes "ram"
spelling_of keys.Pool = codes "pool"
spelling_of keys.Tables = codes "tables"
spelling_of keys.Pteflags = codes "pteflags"
spelling_of keys.Vectors = codes "vectors"
spelling_of keys.Set = codes "set"
spelling_of keys.Name = codes "name"
spelling_of keys.In = codes "in"
spelling_of keys.Data = codes "data"
spelling_of keys.Hart = codes "hart"
spelling_of keys.Start = codes "start"
spelling_of keys.Pc = codes "pc"
spelling_of keys.Priv = codes "priv"
spelling_of keys.Machine = codes "m"
spelling_of keys.Supervisor = codes "s"
spelling_of keys.User = codes "u"
spelling_of keys.Csr = codes "csr"
spelling_of keys.Reg = codes "reg"
spelling_of keys.Body = codes "body"
spelling_of keys.Do = codes "do"
spelling_of keys.Fault = codes "fault"
spelling_of keys.Seq = codes "seq"
spelling_of keys.Repeat = codes "repeat"
spelling_of keys.Choose = codes "choose"
spelling_of keys.Label = codes "label"
spelling_of keys.Align = codes "align"
spelling_of keys.Retire = codes "retire"
spelling_of keys.Prefer = codes "prefer"
spelling_of keys.Not = codes "not"
spelling_of keys.Op = codes "op"
spelling_of keys.Rs1 = codes "rs1"
spelling_of keys.Rs2 = codes "rs2"
spelling_of keys.Rd = codes "rd"
spelling_of keys.Imm = codes "imm"
spelling_of keys.Ea = codes "ea"
spelling_of keys.A = codes "a"
spelling_of keys.B = codes "b"
spelling_of keys.Pa = codes "pa"
spelling_of keys.Target = codes "target"
spelling_of keys.Outcome = codes "outcome"
spelling_of keys.Taken = codes "taken"
spelling_of keys.Shared = codes "shared"

abbrev pub key_among : List ℕ → List Key → Option Key
key_among word [] = None
key_among word (k ∷ ks) = if bytes_eq (spelling_of k) word then Some k else key_among word ks

-- the key that a word is
unfoldable pub key_of : List ℕ → Option Key
key_of word = key_among word KEYS

abbrev pub op_among : List ℕ → List Op → Option Op
op_among word [] = None
op_among word (op ∷ ops) = if bytes_eq (name_of op) word then Some op else op_among word ops

-- the operation that a word names
unfoldable pub op_of : List ℕ → Option Op
op_of word = op_among word OPS

abbrev pub csr_among : List ℕ → List Register → Option Register
csr_among word [] = None
csr_among word (r ∷ rs) = if bytes_eq (row_of r).name word then Some r else csr_among word rs

-- the control and status register that a word names
unfoldable pub csr_of : List ℕ → Option Register
csr_of word = csr_among word registers

-- the number of a register's word, x and digits, where None in Some is one that is too large
abbrev pub register_of : List ℕ → Option (Option ℕ)
register_of w = if slice_index w 0 == 120 && are_digits 10 (drop 1 w) then Some (fitting (value_of 10 0 (drop 1 w))) else None

-- a number of a register that is spelled without a leading zero
abbrev pub is_register : List ℕ → Option (Option ℕ) → Bool
is_register w None = false
is_register w (Some None) = false
is_register w (Some (Some n)) = nat_lt n 32 && (length w == 2 || not (slice_index w 1 == 48))

-- x0 to x31
unfoldable pub is_register_word : List ℕ → Bool
is_register_word w = is_register w (register_of w)

-- a word that cannot be declared
abbrev pub is_reserved : List ℕ → Bool
is_reserved word = is_some (key_of word) || (is_some (op_of word) || (is_some (csr_of word) || is_register_word word))
