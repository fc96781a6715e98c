-- What is denied is refused by what it accesses, or since it writes what may only be read.
use Rattle.std.proofs.Common.{◌≡◌, ◌&&◌, ◌||◌, not, Bool, true, false, Option, Some, None, refl, sym, ap, ◌∙◌, inl, inr}
use Rattle.std.proofs.lemmas.Bool.{and_from, and_parts, cases_Bool, or_left, or_right}
use Rattle.rv_isa.specs.declared.operation.Op.{Op}
use Rattle.rv_isa.specs.Table.{row_of}
use Rattle.rv_csr.specs.declared.access.CsrAccess.TheVariants.{Granted}
use Rattle.rv_csr.specs.declared.cause.Cause.TheVariants.{Illegal}
use Rattle.rv_csr.specs.declared.table.Register.{Register}
use Rattle.rv_csr.specs.Access.{access_to, is_denied, is_read_only}
use Rattle.rv_csr.specs.Table.{register_at, registers}
use Rattle.fd_prob.specs.declared.slot.Slot.{Slot}
use Rattle.fd_prob.specs.declared.slot.Slot.TheVariants as slots
use Rattle.leaf_link.specs.Controls.{is_denied as is_refused}
use Rattle.leaf_link.specs.Kinds.{vector_alone}
use Rattle.leaf_link.specs.Values.{Values, field_of_operand, has_csr_operand, instr_in}
use Rattle.leaf_link.specs.Ways.{FitsWay}
use Rattle.leaf_stand.specs.declared.stand.Stand.{Stand}
use Rattle.leaf_stand.specs.Stands.{turn_of}
use Rattle.leaf_csrs.specs.Usages.{refused_field, refused_test, refused_way, refuses}
use Rattle.leaf_csrs.specs.Laws.{DeniedAreRefused, IsRefused, RefusedAreDenied}
use Rattle.leaf_csrs.proofs.Accessed.{IsAt, access_is, at_its, barred_access, field_said, finds, first_says, found, free_access, has_address, is_barred, is_listed, second_says, writes_by}

refused_barred : (s : Stand) (op : Op) (x : Values) (written : Bool) (register : Register) → refuses s written register ≡ true → refused_field op written (field_of_operand (row_of op) (instr_in x)) ≡ true → is_barred s op x register ≡ true
refused_barred s op x false register h f = or_left _ _ h
refused_barred s op x true register h f = or_right _ _ (and_from _ _ f (and_parts _ _ h).1)

pub refused_are_denied : RefusedAreDenied
refused_are_denied s op h written x is w =
    let said = λ (slot : Slot). (and_parts (vector_alone (turn_of s) Illegal slot (x slot)) (refused_test s op written slot (x slot)) (w.each slot)).1 in
    let r : IsAt (x slots.Csr) (refuses s written) = found (x slots.Csr) (refuses s written) registers (said slots.Csr) in
    let field : refused_field op written (field_of_operand (row_of op) (instr_in x)) ≡ true =
    field_said (row_of op) (instr_in x) h (refused_field op written) (refused_field op written) (λ v b. b) (said slots.Rs1) (said slots.Imm) in
    record {
      each = λ slot. (and_parts (vector_alone (turn_of s) Illegal slot (x slot)) (refused_test s op written slot (x slot)) (w.each slot)).0;
      holds = ap is_refused (barred_access s op x r.register is (at_its (x slots.Csr) r.register r.address) (refused_barred s op x written r.register r.passes field));
    }

refused_fits : (s : Stand) (op : Op) → has_csr_operand (row_of op) ≡ true → (x : Values) → ((slot : Slot) → vector_alone (turn_of s) Illegal slot (x slot) ≡ true) → (register : Register) → register_at (x slots.Csr) ≡ Some register
    → (written : Bool) → refuses s written register ≡ true → refused_field op written (field_of_operand (row_of op) (instr_in x)) ≡ true → FitsWay (refused_way s op written) x
refused_fits s op h x alone register at written r field = record {
  each = λ slot. and_from (vector_alone (turn_of s) Illegal slot (x slot)) (refused_test s op written slot (x slot)) (alone slot) (said slot);
  holds = refl;
}
  where
    said : (slot : Slot) → refused_test s op written slot (x slot) ≡ true
    said slots.Rs1 = first_says (row_of op) (instr_in x) h (refused_field op written) (refused_field op written) (λ u f. f) field
    said slots.Imm = second_says (row_of op) (instr_in x) h (refused_field op written) field
    said slots.Csr = finds (x slots.Csr) (refuses s written) registers register (is_listed (x slots.Csr) register at) (has_address (x slots.Csr) register at) r
    said _ = refl

-- a register whose access is denied
barred_refused : (s : Stand) (op : Op) → has_csr_operand (row_of op) ≡ true → (x : Values) → ((slot : Slot) → vector_alone (turn_of s) Illegal slot (x slot) ≡ true) → (register : Register) → register_at (x slots.Csr) ≡ Some register
    → is_barred s op x register ≡ true → IsRefused s op x
barred_refused s op h x alone register at b = elim (cases_Bool (is_denied s.csrs.mstatus register s.privilege)) [
  | inl denied ↦ record { written = false; fits = refused_fits s op h x alone register at false denied refl }
  | inr free ↦
      let rest : (writes_by op x && is_read_only register) ≡ true = ap (λ (c : Bool). c || (writes_by op x && is_read_only register)) (sym free) ∙ b in
      let parts = and_parts (writes_by op x) (is_read_only register) rest in
      record { written = true; fits = refused_fits s op h x alone register at true (and_from _ _ (ap not free) parts.1) parts.0 }
]

pub denied_are_refused : DeniedAreRefused
denied_are_refused s op h x is w = go (register_at (x slots.Csr)) refl
  where
    go : (o : Option Register) → register_at (x slots.Csr) ≡ o → IsRefused s op x
    go None e = absurd (let g : is_refused (access_to s.csrs.mstatus s.privilege (writes_by op x) None) ≡ true = ap is_refused (sym (access_is s op x None is e)) ∙ w.holds in cc)
    go (Some register) e = elim (cases_Bool (is_barred s op x register)) [
      | inl barred ↦ barred_refused s op h x w.each register e barred
      | inr free ↦ absurd (let g : is_refused (Granted register) ≡ true = ap is_refused (sym (free_access s op x register is e free)) ∙ w.holds in cc)
    ]
