-- Leaves that have candidates, at the first step of a hart in M with one known register: operations of each kind that retire, and those that
-- trap in M.
use Rattle.std.specs.Prelude.{◌≡◌, ℕ, ◌/◌, Bool, true, not, ◌&&◌, nat_eq, nat_le, if◌then◌else◌, List, [], ◌∷◌, Some, None}
use Rattle.rv_isa.specs.declared.operation.Op.{Op}
use Rattle.rv_isa.specs.declared.operation.Op.TheVariants.{Addi, Beq, Csrrw, Ebreak, Ecall, Illegal, Jal, Jalr, Lw, Mret, SfenceVma, Sret, Sw}
use Rattle.rv_csr.specs.declared.privilege.Priv.TheVariants.{M}
use Rattle.rv_script.specs.declared.place.Place.{Place}
use Rattle.rv_script.specs.declared.place.Place.TheVariants.{Reg, Csr, Word}
use Rattle.rv_script.specs.Folds.{Known, Entry}
use Rattle.sv_walk.specs.declared.entry.Kind.{Kind}
use Rattle.sv_walk.specs.declared.entry.Kind.TheVariants.{Load as ForLoad, Store as ForStore}
use Rattle.sv_walk.specs.Entry.{access_cause}
use Rattle.addr_rows.specs.Walks.{EntryRow, Faults, Leads}
use Rattle.tpl_ast.specs.declared.template.Atom.{Atom}
use Rattle.tpl_ast.specs.declared.template.Atom.TheVariants as atoms
use Rattle.tpl_ast.specs.declared.template.Var.TheVariants as vars
use Rattle.leaf_link.specs.Turns.{Turn}
use Rattle.rv_isa.specs.Numbers.{op_number}
use Rattle.leaf_link.specs.Candidates.{IsCandidate}
use Rattle.leaf_link.specs.Cases.{HasSources}
use Rattle.leaf_link.specs.KindLaws.{IsPosed}
use Rattle.leaf_link.specs.Reaching.{AreRows}

-- x1 holds an address in the pool
abbrev pub one_known : Known
one_known (Reg n) = if nat_eq n 0 then Some 0 else (if nat_eq n 1 then Some 0x8000_0100 else None)
one_known (Csr addr) = None
one_known (Word addr) = None

-- RAM begins at 0x8000_0000
abbrev pub is_bare_ram : ℕ → Bool
is_bare_ram n = nat_le 0x2000_0000 n

abbrev pub busy_turn : Turn
busy_turn = record {
  fixed = record { pc = 0x8000_0000; privilege = M; mstatus = 0; medeleg = 0; satp = 0; number = 0; ram = is_bare_ram };
  known = one_known;
  feet = [];
  pool = 0x8000_0000 ∷ [];
  tables = [];
  flags = [];
  vectors = 0x8000_0200 ∷ [];
  names = λ n. None;
  sets = λ n. [];
  others = [];
  sources = λ v. true;
}

-- without translation each address of RAM leads to itself, each other one to an access fault, and no entry is new
abbrev pub no_entry : ℕ → ℕ → Bool
no_entry first second = nat_eq first 0 && nat_eq second 0

abbrev pub bare_rows : Kind → List EntryRow
bare_rows kind =
    record { holds = λ ea first second. is_bare_ram (ea / 4) && no_entry first second; end = Leads (λ ea. ea) }
    ∷ record { holds = λ ea first second. not (is_bare_ram (ea / 4)) && no_entry first second; end = Faults (access_cause kind) }
    ∷ []

-- OPERATIONS THAT RETIRE
-- `do op in {addi}; rd in {5}; rs1 in {0}; imm in {7}; outcome in {retire}`
abbrev pub plain_leaf : List Atom
plain_leaf = atoms.In vars.Op (op_number Addi ∷ []) ∷ atoms.In vars.Rd (5 ∷ []) ∷ atoms.In vars.Rs1 (0 ∷ []) ∷ atoms.In vars.Imm (7 ∷ []) ∷ atoms.In vars.Outcome (255 ∷ []) ∷ []

-- `do op in {lw}; rd in {5}; rs1 in {BASE}; imm in {0}; outcome in {retire}`
abbrev pub load_leaf : ℕ → List Atom
load_leaf base = atoms.In vars.Op (op_number Lw ∷ []) ∷ atoms.In vars.Rd (5 ∷ []) ∷ atoms.In vars.Rs1 (base ∷ []) ∷ atoms.In vars.Imm (0 ∷ []) ∷ atoms.In vars.Outcome (255 ∷ []) ∷ []

-- `do op in {sw}; rs1 in {1}; rs2 in {0}; imm in {0}; outcome in {retire}`
abbrev pub store_leaf : List Atom
store_leaf = atoms.In vars.Op (op_number Sw ∷ []) ∷ atoms.In vars.Rs1 (1 ∷ []) ∷ atoms.In vars.Rs2 (0 ∷ []) ∷ atoms.In vars.Imm (0 ∷ []) ∷ atoms.In vars.Outcome (255 ∷ []) ∷ []

-- `do op in {csrrw}; rd in {5}; rs1 in {1}; csr in {mscratch}; outcome in {retire}`
abbrev pub csr_leaf : List Atom
csr_leaf = atoms.In vars.Op (op_number Csrrw ∷ []) ∷ atoms.In vars.Rd (5 ∷ []) ∷ atoms.In vars.Rs1 (1 ∷ []) ∷ atoms.In vars.Csr (0x340 ∷ []) ∷ atoms.In vars.Outcome (255 ∷ []) ∷ []

-- `do op in {mret}; outcome in {retire}`
abbrev pub return_leaf : List Atom
return_leaf = atoms.In vars.Op (op_number Mret ∷ []) ∷ atoms.In vars.Outcome (255 ∷ []) ∷ []

-- `do op in {beq}; rs1 in {0}; rs2 in {0}; imm in {IMM}; outcome in {OUTCOME}`
abbrev pub branch_leaf : ℕ → ℕ → List Atom
branch_leaf imm outcome = atoms.In vars.Op (op_number Beq ∷ []) ∷ atoms.In vars.Rs1 (0 ∷ []) ∷ atoms.In vars.Rs2 (0 ∷ []) ∷ atoms.In vars.Imm (imm ∷ []) ∷ atoms.In vars.Outcome (outcome ∷ []) ∷ []

-- `do op in {jal}; rd in {1}; imm in {IMM}; outcome in {OUTCOME}`
abbrev pub jump_leaf : ℕ → ℕ → List Atom
jump_leaf imm outcome = atoms.In vars.Op (op_number Jal ∷ []) ∷ atoms.In vars.Rd (1 ∷ []) ∷ atoms.In vars.Imm (imm ∷ []) ∷ atoms.In vars.Outcome (outcome ∷ []) ∷ []

-- `do op in {jalr}; rd in {5}; rs1 in {1}; imm in {IMM}; outcome in {OUTCOME}`
abbrev pub jump_register_leaf : ℕ → ℕ → List Atom
jump_register_leaf imm outcome = atoms.In vars.Op (op_number Jalr ∷ []) ∷ atoms.In vars.Rd (5 ∷ []) ∷ atoms.In vars.Rs1 (1 ∷ []) ∷ atoms.In vars.Imm (imm ∷ []) ∷ atoms.In vars.Outcome (outcome ∷ []) ∷ []

-- `do op in {sfence.vma}; rs1 in {0}; rs2 in {0}; outcome in {retire}`
abbrev pub fence_leaf : List Atom
fence_leaf = atoms.In vars.Op (op_number SfenceVma ∷ []) ∷ atoms.In vars.Rs1 (0 ∷ []) ∷ atoms.In vars.Rs2 (0 ∷ []) ∷ atoms.In vars.Outcome (255 ∷ []) ∷ []

-- `do op in {sret}; outcome in {retire}`
abbrev pub supervisor_return_leaf : List Atom
supervisor_return_leaf = atoms.In vars.Op (op_number Sret ∷ []) ∷ atoms.In vars.Outcome (255 ∷ []) ∷ []

-- OPERATIONS THAT TRAP
-- `do op in {OP}; outcome in {OUTCOME}`
abbrev pub cause_leaf : Op → ℕ → List Atom
cause_leaf op outcome = atoms.In vars.Op (op_number op ∷ []) ∷ atoms.In vars.Outcome (outcome ∷ []) ∷ []

-- `do op in {illegal}; imm in {0}; outcome in {2}`
abbrev pub illegal_leaf : List Atom
illegal_leaf = atoms.In vars.Op (op_number Illegal ∷ []) ∷ atoms.In vars.Imm (0 ∷ []) ∷ atoms.In vars.Outcome (2 ∷ []) ∷ []

-- `do op in {csrrw}; rd in {5}; rs1 in {1}; csr in {mhartid}; outcome in {2}`
abbrev pub denied_leaf : List Atom
denied_leaf = atoms.In vars.Op (op_number Csrrw ∷ []) ∷ atoms.In vars.Rd (5 ∷ []) ∷ atoms.In vars.Rs1 (1 ∷ []) ∷ atoms.In vars.Csr (0xf14 ∷ []) ∷ atoms.In vars.Outcome (2 ∷ []) ∷ []

-- `do op in {lw}; rd in {5}; rs1 in {BASE}; imm in {IMM}; outcome in {OUTCOME}`
abbrev pub failing_load_leaf : ℕ → ℕ → ℕ → List Atom
failing_load_leaf base imm outcome = atoms.In vars.Op (op_number Lw ∷ []) ∷ atoms.In vars.Rd (5 ∷ []) ∷ atoms.In vars.Rs1 (base ∷ []) ∷ atoms.In vars.Imm (imm ∷ []) ∷ atoms.In vars.Outcome (outcome ∷ []) ∷ []

-- `do op in {sw}; rs1 in {BASE}; rs2 in {0}; imm in {IMM}; outcome in {OUTCOME}`
abbrev pub failing_store_leaf : ℕ → ℕ → ℕ → List Atom
failing_store_leaf base imm outcome = atoms.In vars.Op (op_number Sw ∷ []) ∷ atoms.In vars.Rs1 (base ∷ []) ∷ atoms.In vars.Rs2 (0 ∷ []) ∷ atoms.In vars.Imm (imm ∷ []) ∷ atoms.In vars.Outcome (outcome ∷ []) ∷ []

-- the premises of the laws are met, and there is a candidate, which starts an untouched place with a value
pub record IsPossible (t : Turn) (walk : List Entry) (pa : ℕ) (leaf : List Atom) (place : Place) (v : ℕ) : Type 0 where
  pub posed : IsPosed t walk pa leaf
  pub sources : HasSources t leaf
  pub new : Known
  pub candidate : IsCandidate t leaf new
  pub untouched : t.known place ≡ None
  pub starts : new place ≡ Some v

-- without translation, at the first step
abbrev pub IsBarePossible : List Atom → Place → ℕ → Type 0
IsBarePossible leaf place v = IsPossible busy_turn [] 0x8000_0000 leaf place v

pub record HavePossible : Type 0 where
  pub loads : AreRows busy_turn (λ ea. true) ForLoad (bare_rows ForLoad)
  pub stores : AreRows busy_turn (λ ea. true) ForStore (bare_rows ForStore)
  -- the word at the pc, addi x5, x0, 7
  pub plain : IsBarePossible plain_leaf (Word 0x8000_0000) 0x0070_0293
  -- the data word, x2, and the word of a store
  pub from_known : IsBarePossible (load_leaf 1) (Word 0x8000_0100) 7
  pub from_untouched : IsBarePossible (load_leaf 2) (Reg 2) 0x8000_0100
  pub store : IsBarePossible store_leaf (Word 0x8000_0100) 7
  -- mscratch, mepc and sepc
  pub csr : IsBarePossible csr_leaf (Csr 0x340) 9
  pub returned : IsBarePossible return_leaf (Csr 0x341) 0x8000_0200
  pub returned_to_s : IsBarePossible supervisor_return_leaf (Csr 0x141) 0x8000_0200
  -- the word at the pc: beq x0, x0, 8; jal x1, 8; jalr x5, x1, 0; sfence.vma x0, x0
  pub branch : IsBarePossible (branch_leaf 8 255) (Word 0x8000_0000) 0x463
  pub jump : IsBarePossible (jump_leaf 8 255) (Word 0x8000_0000) 0x0080_00ef
  pub jump_register : IsBarePossible (jump_register_leaf 0 255) (Word 0x8000_0000) 0x82e7
  pub fence : IsBarePossible fence_leaf (Word 0x8000_0000) 0x1200_0073
  -- mtvec, at each trap: ECALL, EBREAK, an illegal word, a CSR that may not be written
  pub call : IsBarePossible (cause_leaf Ecall 11) (Csr 0x305) 0x8000_0200
  pub breakpoint : IsBarePossible (cause_leaf Ebreak 3) (Csr 0x305) 0x8000_0200
  pub illegal : IsBarePossible illegal_leaf (Csr 0x305) 0x8000_0200
  pub denied : IsBarePossible denied_leaf (Csr 0x305) 0x8000_0200
  -- a branch and jumps to what is no multiple of 4
  pub branch_misaligned : IsBarePossible (branch_leaf 2 0) (Csr 0x305) 0x8000_0200
  pub jump_misaligned : IsBarePossible (jump_leaf 2 0) (Csr 0x305) 0x8000_0200
  pub jump_register_misaligned : IsBarePossible (jump_register_leaf 2 0) (Csr 0x305) 0x8000_0200
  -- misaligned accesses, and accesses outside RAM
  pub load_misaligned : IsBarePossible (failing_load_leaf 1 1 4) (Csr 0x305) 0x8000_0200
  pub store_misaligned : IsBarePossible (failing_store_leaf 1 1 6) (Csr 0x305) 0x8000_0200
  pub load_fault : IsBarePossible (failing_load_leaf 0 0 5) (Csr 0x305) 0x8000_0200
  pub store_fault : IsBarePossible (failing_store_leaf 0 0 7) (Csr 0x305) 0x8000_0200
