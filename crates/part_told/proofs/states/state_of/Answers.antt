use Rattle.std.proofs.Common.{◌≡◌, ◌%◌, ℕ, List, length, true, sym, ap, ◌∙◌, subst}
use Rattle.std.specs.List.{AllByRecursion}
use Rattle.rv_csr.specs.declared.table.Register.TheVariants.{Mstatus, Medeleg, Satp}
use Rattle.rv_csr.specs.Table.{is_legal}
use Rattle.tpl_ast.specs.States.{ArePlaces, is_legal_place}
use Rattle.part_machine.specs.Whole.{bare}
use Rattle.part_told.specs.Finishing.{AreSmall}
use Rattle.part_told.proofs.Places.{are_places, are_legal}
use Rattle.part_told.proofs.states.state_of.Goals as goal

pub returns-clause-state : goal.returns-clause-state
returns-clause-state c =
    let h = c.args.hart.now in
    let size : length h.regs ≡ 32 = c.places_of.ensures.size in
    let small = subst (λ (es : List (ℕ × ℕ)). AreSmall es) c.in_ok-places.ensures.known c.in_ok-places.ensures.small in
    record {
      pc = c.pc_of.type_inv;
      aligned = ap (λ (n : ℕ). n % 4) c.pc_of.ensures ∙ h.aligned;
      mstatus = c.mstatus.type_inv;
      medeleg = c.medeleg.type_inv;
      satp = c.satp.type_inv;
      legal_mstatus = ap (is_legal Mstatus) c.mstatus.ensures ∙ c.legal_values.ensures.mstatus;
      legal_medeleg = ap (is_legal Medeleg) c.medeleg.ensures ∙ c.legal_values.ensures.medeleg;
      legal_satp = ap (is_legal Satp) c.satp.ensures ∙ c.legal_values.ensures.satp;
      places = subst (ArePlaces 0) (sym c.in_ok-places.ensures.known) (are_places (bare h) size small);
      legal_places = subst (AllByRecursion (λ e. is_legal_place e ≡ true)) (sym c.in_ok-places.ensures.known) (are_legal (bare h) size c.legal_values.ensures.lazy);
    }
