-- What is known where a leaf is solved, as the turn of the definitions.
use Rattle.std.specs.Prelude.{◌≡◌, ℕ, ◌<◌, ◌^◌, Bool, true, false, not, ◌&&◌, ◌||◌, nat_eq, List, [], Option, Some, None, slice_get, IfSome}
use Rattle.dom_set.specs.Elements.{is_in}
use Rattle.rv_csr.specs.Causes.{number_of}
use Rattle.rv_csr.specs.State.{CsrValues, lazy_value}
use Rattle.rv_csr.specs.Table.{register_at}
use Rattle.rv_csr.specs.declared.table.LazyRegister.{LazyRegister}
use Rattle.rv_csr.specs.declared.table.Register.{Register}
use Rattle.rv_csr.specs.declared.table.Register.TheVariants.{Lazy}
use Rattle.rv_script.specs.declared.place.Place.{Place}
use Rattle.rv_script.specs.declared.place.Place.TheVariants.{Reg, Csr, Word}
use Rattle.rv_script.specs.Folds.{Entry}
use Rattle.rv_hart.specs.Privileged.{lazy_address}
use Rattle.fd_prob.specs.declared.slot.Slot.{Slot}
use Rattle.fd_prob.specs.declared.slot.Slot.TheVariants as slots
use Rattle.tpl_ast.specs.declared.template.Atom.{Atom}
use Rattle.data_goals.specs.Grounds.{HasAccesses}
use Rattle.leaf_link.specs.Turns.{Turn}
use Rattle.leaf_link.specs.Cases.{Shape as AShape, base_domain, may_fetch}
use Rattle.leaf_link.specs.Controls.{is_old}
use Rattle.leaf_link.specs.Firsts.{data_pairs}
use Rattle.leaf_link.specs.Kinds.{nothing_new, vector_alone}
use Rattle.leaf_stand.specs.Shared.{traces_of}
use Rattle.leaf_stand.specs.declared.stand.Name.{Name}
use Rattle.leaf_stand.specs.declared.stand.Stand.{Stand}
use Rattle.leaf_stand.specs.declared.shape.End.{End}
use Rattle.leaf_stand.specs.declared.shape.End.TheVariants.{Retires, Traps}
use Rattle.leaf_stand.specs.declared.shape.Shape.{Shape}

-- the value of a name, where it is one of the list and bound, and its set
abbrev pub value_named : Option Name → Option ℕ
value_named None = None
value_named (Some name) = name.value

abbrev pub set_named : Option Name → List ℕ
set_named None = []
set_named (Some name) = name.set.now

-- what is known of a register
abbrev pub held : Option (Option ℕ) → Option ℕ
held None = None
held (Some o) = o

abbrev pub csr_held : CsrValues → Option Register → Option ℕ
csr_held csrs (Some (Lazy register)) = lazy_value csrs register
csr_held csrs (Some register) = None
csr_held csrs None = None

abbrev pub known_of : Stand → Place → Option ℕ
known_of s (Reg n) = held (slice_get s.registers n)
known_of s (Csr addr) = csr_held s.csrs (register_at addr)
known_of s (Word addr) = s.word

-- a turn of which just this is known. Of memory, of races, of the pool and of page tables a stand tells what loads and stores may do; all else that it leaves out is of no weight
abbrev pub turn_of : Stand → Turn
turn_of s = record {
  fixed = record { pc = s.pc; privilege = s.privilege; mstatus = s.csrs.mstatus; medeleg = s.csrs.medeleg; satp = s.csrs.satp; number = s.csrs.hart; ram = λ n. true };
  known = known_of s;
  feet = [];
  pool = [];
  tables = [];
  flags = [];
  vectors = s.vectors.now;
  names = λ n. value_named (slice_get s.names.now n);
  sets = λ n. set_named (slice_get s.names.now n);
  others = traces_of s.others.now;
  sources = λ v. is_in s.sources.now v;
}

-- the stand tells what a turn is: its pc, privilege, registers and CSRs, the word at the pc, the vectors, the names, the sources and the records of the harts with lower numbers, and whether the fetch may be made
pub record IsStandOf (s : Stand) (t : Turn) (walk : List Entry) (pa : ℕ) : Type 0 where
  pub pc : t.fixed.pc ≡ s.pc
  pub privilege : t.fixed.privilege ≡ s.privilege
  pub mstatus : t.fixed.mstatus ≡ s.csrs.mstatus
  pub medeleg : t.fixed.medeleg ≡ s.csrs.medeleg
  pub registers : (n : ℕ) → t.known (Reg n) ≡ held (slice_get s.registers n)
  pub csrs : (addr : ℕ) → t.known (Csr addr) ≡ csr_held s.csrs (register_at addr)
  pub word : t.known (Word pa) ≡ s.word
  pub vectors : t.vectors ≡ s.vectors.now
  pub names : (n : ℕ) → t.names n ≡ value_named (slice_get s.names.now n)
  pub sets : (n : ℕ) → t.sets n ≡ set_named (slice_get s.names.now n)
  pub fetches : may_fetch t walk pa ≡ s.fetches
  pub pairs : data_pairs t ≡ s.pairs
  pub satp : t.fixed.satp ≡ s.csrs.satp
  pub number : t.fixed.number ≡ s.csrs.hart
  pub sources : (v : ℕ) → v < 2 ^ 32 → t.sources v ≡ is_in s.sources.now v
  pub others : t.others ≡ traces_of s.others.now
  pub accesses : IfSome s.accesses (HasAccesses t walk pa)

-- HOW A STEP ENDS
abbrev pub outcome_at : End → ℕ
outcome_at Retires = 255
outcome_at (Traps cause) = number_of cause

abbrev pub shape_at : Shape → AShape
shape_at s = record { op = s.op; outcome = outcome_at s.end; reaches = s.reaches }

abbrev pub is_retired : End → Bool
is_retired Retires = true
is_retired (Traps cause) = false

-- what an end says of single variables
abbrev pub also_at : Turn → End → Slot → ℕ → Bool
also_at t Retires = nothing_new
also_at t (Traps cause) = vector_alone t cause

-- and with the old value of a CSR that the step reads
abbrev pub also_read : Turn → End → LazyRegister → Slot → ℕ → Bool
also_read t end register slots.OldCsr v = is_old t (lazy_address register) v
also_read t end register slot v = also_at t end slot v

abbrev pub also_by : Turn → End → Option LazyRegister → Slot → ℕ → Bool
also_by t end None = also_at t end
also_by t end (Some register) = also_read t end register

-- the old value of a CSR that is read, and else 0
abbrev pub old_at : Turn → Option LazyRegister → ℕ → Bool
old_at t None v = nat_eq v 0
old_at t (Some register) v = is_old t (lazy_address register) v

-- the domain of a variable, where the step reads a CSR or none
abbrev pub domain_at : Turn → List Atom → Shape → Option LazyRegister → Slot → ℕ → Bool
domain_at t leaf s reads slots.FirstPte v = nat_eq v 0
domain_at t leaf s reads slots.SecondPte v = nat_eq v 0
domain_at t leaf s reads slots.DataWord v = nat_eq v 0
domain_at t leaf s reads slots.OldCsr v = old_at t reads v
domain_at t leaf s reads slots.Vector v = also_at t s.end slots.Vector v
domain_at t leaf s reads slot v = base_domain t 0 leaf (shape_at s) slot v

-- the same, where a data access may start any word, and whatever else is read may have any value
abbrev pub open_at : Turn → List Atom → Shape → Slot → ℕ → Bool
open_at t leaf s slots.OldCsr v = (is_retired s.end && not s.reaches) || nat_eq v 0
open_at t leaf s slots.DataWord v = s.reaches || nat_eq v 0
open_at t leaf s slot v = domain_at t leaf s None slot v
