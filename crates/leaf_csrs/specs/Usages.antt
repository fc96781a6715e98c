-- The ways of CSR instructions, one for each register and each way to use it.
use Rattle.std.specs.Prelude.{ℕ, Bool, true, false, not, ◌&&◌, ◌||◌, nat_eq, if◌then◌else◌, List, [], ◌∷◌, Option, Some, None, bit_and, bit_or, ◌-◌, ◌^◌}
use Rattle.std.specs.List.{list_any}
use Rattle.rv_isa.specs.declared.operation.Op.{Op}
use Rattle.rv_isa.specs.declared.operation.Op.TheVariants as ops
use Rattle.rv_isa.specs.Fields.{has_rs1}
use Rattle.rv_isa.specs.Table.{row_of}
use Rattle.rv_csr.specs.declared.cause.Cause.TheVariants.{Illegal}
use Rattle.rv_csr.specs.declared.table.Register.{Register}
use Rattle.rv_csr.specs.Access.{is_denied, is_read_only}
use Rattle.rv_csr.specs.Causes.{number_of}
use Rattle.rv_csr.specs.Table.{address_of, registers}
use Rattle.rv_script.specs.declared.place.Place.TheVariants.{Reg}
use Rattle.rv_hart.specs.Privileged.{is_swap}
use Rattle.fd_prob.specs.declared.slot.Slot.{Slot}
use Rattle.fd_prob.specs.declared.slot.Slot.TheVariants as slots
use Rattle.fd_prob.specs.Relations.{is_none_or_legal}
use Rattle.leaf_link.specs.Turns.{is_narrow, is_small, may_be_source}
use Rattle.leaf_link.specs.Values.{Values, instr_in}
use Rattle.leaf_link.specs.Cases.{Way, is_some_word, unless}
use Rattle.leaf_link.specs.Controls.{access_in, ends_when, grants, is_denied as is_refused, is_read_old, old_new, operand_in}
use Rattle.leaf_link.specs.Kinds.{always, traps_when, vector_alone}
use Rattle.leaf_stand.specs.declared.stand.Stand.{Stand}
use Rattle.leaf_stand.specs.Stands.{turn_of}
use Rattle.leaf_csrs.specs.declared.usage.Usage.{Usage}
use Rattle.leaf_csrs.specs.declared.usage.Usage.TheVariants.{Replaces, Swaps, Changes, Looks}

-- the usages of an operation that always writes, or only where its operand's field is not 0, on a register that may only be read, or may be written
abbrev pub usages : Bool → Bool → List Usage
usages true true = []
usages true false = Replaces ∷ Swaps ∷ []
usages false true = Looks ∷ []
usages false false = Changes ∷ []

-- how an operation may use a register; not at all where each access is refused
abbrev pub usages_of : Stand → Op → Register → List Usage
usages_of s op register = if is_denied s.csrs.mstatus register s.privilege then [] else usages (is_swap op) (is_read_only register)

-- WHAT A USAGE SAYS OF SINGLE VARIABLES
abbrev pub rd_test : Usage → ℕ → Bool
rd_test Replaces v = nat_eq v 0
rd_test Swaps v = not (nat_eq v 0)
rd_test Changes v = true
rd_test Looks v = true

-- of the field of the operand
abbrev pub field_test : Usage → ℕ → Bool
field_test Looks v = nat_eq v 0
field_test _ v = true

-- of the old value
abbrev pub old_test : Stand → Register → Usage → ℕ → Bool
old_test s register Replaces v = nat_eq v 0
old_test s register _ v = is_read_old (turn_of s) register v

-- a register that is not known may not be the source of a write of a register with few legal values, where the atoms leave many values
abbrev pub source_test : Stand → Op → Register → ℕ → Bool
source_test s op register v = not (is_narrow (row_of op) (address_of register)) || (is_small (turn_of s).sources || is_some_word ((turn_of s).known (Reg v)))

abbrev pub usage_test : Stand → Op → Register → Usage → Slot → ℕ → Bool
usage_test s op register usage slots.Rs1 v = if has_rs1 (row_of op) then field_test usage v && source_test s op register v else true
usage_test s op register usage slots.Imm v = if has_rs1 (row_of op) then true else field_test usage v
usage_test s op register usage slots.Rd v = rd_test usage v
usage_test s op register usage slots.Csr v = nat_eq v (address_of register)
usage_test s op register usage slots.OldCsr v = old_test s register usage v
usage_test s op register usage _ v = true

-- what is written, if anything is
abbrev pub written_in : Op → Values → Option ℕ
written_in ops.Csrrw x = Some (x slots.A)
written_in ops.Csrrs x = if nat_eq (x slots.Rs1) 0 then None else Some (bit_or (x slots.OldCsr) (x slots.A))
written_in ops.Csrrc x = if nat_eq (x slots.Rs1) 0 then None else Some (bit_and (x slots.OldCsr) (2 ^ 32 - 1 - x slots.A))
written_in ops.Csrrwi x = Some (x slots.Imm)
written_in ops.Csrrsi x = if nat_eq (x slots.Imm) 0 then None else Some (bit_or (x slots.OldCsr) (x slots.Imm))
written_in ops.Csrrci x = if nat_eq (x slots.Imm) 0 then None else Some (bit_and (x slots.OldCsr) (2 ^ 32 - 1 - x slots.Imm))
written_in _ x = None

abbrev pub usage_way : Stand → Op → Register → Usage → Way
usage_way s op register usage = record {
  outcome = 255;
  reaches = false;
  also = λ slot v. old_new slot v && usage_test s op register usage slot v;
  holds = λ x. is_none_or_legal (x slots.Csr) (written_in op x);
}

-- WHAT IS REFUSED
-- the register may not be accessed, or it may only be read
abbrev pub refuses : Stand → Bool → Register → Bool
refuses s false register = is_denied s.csrs.mstatus register s.privilege
refuses s true register = not (is_denied s.csrs.mstatus register s.privilege) && is_read_only register

-- the address of such a register
abbrev pub is_refused_at : Stand → Bool → ℕ → Bool
is_refused_at s written v = list_any (λ register. nat_eq (address_of register) v && refuses s written register) registers

-- the field of the operand, where what may only be read is refused since it is written
abbrev pub refused_field : Op → Bool → ℕ → Bool
refused_field op false v = true
refused_field op true v = is_swap op || not (nat_eq v 0)

abbrev pub refused_test : Stand → Op → Bool → Slot → ℕ → Bool
refused_test s op written slots.Rs1 v = if has_rs1 (row_of op) then refused_field op written v else true
refused_test s op written slots.Imm v = if has_rs1 (row_of op) then true else refused_field op written v
refused_test s op written slots.Csr v = is_refused_at s written v
refused_test s op written _ v = true

abbrev pub refused_way : Stand → Op → Bool → Way
refused_way s op written = record {
  outcome = number_of Illegal;
  reaches = false;
  also = λ slot v. vector_alone (turn_of s) Illegal slot v && refused_test s op written slot v;
  holds = always;
}

-- THE WAYS OF THE DEFINITION
abbrev pub granted_way : Stand → Op → Way
granted_way s op = ends_when (λ x. grants (turn_of s) (access_in (turn_of s).fixed (instr_in x)) (instr_in x) (x slots.OldCsr) (operand_in (row_of op) x))

abbrev pub denied_way : Stand → Way
denied_way s = traps_when (turn_of s) Illegal (λ x. is_refused (access_in (turn_of s).fixed (instr_in x)))

-- an untouched source register may be started
abbrev pub has_source : Stand → Op → Values → Bool
has_source s op x = unless (has_rs1 (row_of op)) (is_some_word ((turn_of s).known (Reg (x slots.Rs1))) || may_be_source (turn_of s) (instr_in x))
