use Rattle.std.proofs.Common.{IfOk, sym, subst, inl, inr, refl}
use Rattle.std.proofs.lemmas.Result.{IfOk-weaker}
use Rattle.rv_csr.specs.declared.table.LazyRegister.{LazyRegister}
use Rattle.rv_csr.specs.declared.table.LazyRegister.TheVariants.{Mscratch, Mtval, Sscratch, Stval}
use Rattle.rv_hart.specs.Privileged.{lazy_address}
use Rattle.leaf_link.specs.Turns.{may_be_old}
use Rattle.data_bytes.specs.Sets.{IsSetOf}
use Rattle.leaf_stand.specs.Stands.{turn_of}
use Rattle.leaf_stand.proofs.Olds.{any_word, mcause_set, scause_set}
use Rattle.leaf_stand.proofs.stand.Stand.open_values.Goals as goal

pub returns-in-Scause : goal.returns-in-Scause
returns-in-Scause c =
    subst (λ (r : LazyRegister). IfOk c.from_ranges.result (IsSetOf (may_be_old (turn_of c.args.self.now) (lazy_address r)))) (sym c.in-Scause.is)
    (IfOk-weaker c.from_ranges.result _ _ (λ s h. scause_set (turn_of c.args.self.now) s h) c.from_ranges.ensures)

pub returns-in-Mcause : goal.returns-in-Mcause
returns-in-Mcause c =
    subst (λ (r : LazyRegister). IfOk c.from_ranges-in-Mcause.result (IsSetOf (may_be_old (turn_of c.args.self.now) (lazy_address r)))) (sym c.in-Mcause.is)
    (IfOk-weaker c.from_ranges-in-Mcause.result _ _ (λ s h. mcause_set (turn_of c.args.self.now) s h) c.from_ranges-in-Mcause.ensures)

pub returns-in-Mscratch : goal.returns-in-Mscratch
returns-in-Mscratch c = elim c.in-Mscratch.is [
  | inl e ↦ subst (λ (r : LazyRegister). IfOk c.all.result (IsSetOf (may_be_old (turn_of c.args.self.now) (lazy_address r)))) (sym e) (IfOk-weaker c.all.result _ _ (λ s h. any_word (turn_of c.args.self.now) Mscratch s (λ v. refl) h) c.all.ensures)
  | inr e ↦ subst (λ (r : LazyRegister). IfOk c.all.result (IsSetOf (may_be_old (turn_of c.args.self.now) (lazy_address r)))) (sym e) (IfOk-weaker c.all.result _ _ (λ s h. any_word (turn_of c.args.self.now) Sscratch s (λ v. refl) h) c.all.ensures)
]

pub returns-in-Mtval : goal.returns-in-Mtval
returns-in-Mtval c = elim c.in-Mtval.is [
  | inl e ↦ subst (λ (r : LazyRegister). IfOk c.all-in-Mtval.result (IsSetOf (may_be_old (turn_of c.args.self.now) (lazy_address r)))) (sym e) (IfOk-weaker c.all-in-Mtval.result _ _ (λ s h. any_word (turn_of c.args.self.now) Mtval s (λ v. refl) h) c.all-in-Mtval.ensures)
  | inr e ↦ subst (λ (r : LazyRegister). IfOk c.all-in-Mtval.result (IsSetOf (may_be_old (turn_of c.args.self.now) (lazy_address r)))) (sym e) (IfOk-weaker c.all-in-Mtval.result _ _ (λ s h. any_word (turn_of c.args.self.now) Stval s (λ v. refl) h) c.all-in-Mtval.ensures)
]
