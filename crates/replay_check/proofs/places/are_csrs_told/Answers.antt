use Rattle.std.proofs.Common.{◌≡◌, ℕ, get_or, refl, subst, inl, inr, arith}
use Rattle.std.proofs.lemmas.Bool.{cases_lt}
use Rattle.rv_csr.specs.declared.table.Register.{Register}
use Rattle.rv_csr.specs.declared.table.Register.TheVariants.{Sstatus}
use Rattle.rv_csr.specs.State.{lazy_value_at}
use Rattle.rv_csr.specs.Table.{address_of, csr_key, registers}
use Rattle.tpl_admit.specs.Starts.{lookup}
use Rattle.replay_check.proofs.Ends.{each_register}
use Rattle.replay_check.proofs.places.are_csrs_told.Goals as goal

pub loop-register-preserved : goal.loop-register-preserved
loop-register-preserved c = λ k within.
    let i = c.loop-register.register-index in
    let told = c.args.told.now in
    let csrs = c.args.hart.now.csrs in
    let here : lookup told (csr_key (address_of (get_or registers i Sstatus))) ≡ lazy_value_at csrs (address_of (get_or registers i Sstatus)) = c.is_csr_told.ensures.0 c.if-not-is_csr_told.false in
    elim (cases_lt k i) [
      | inl below ↦ c.loop-register.invariant k below
      | inr from ↦
          let same : i ≡ k = omega (arith, from, within) in
          subst (λ (n : ℕ). lookup told (csr_key (address_of (get_or registers n Sstatus))) ≡ lazy_value_at csrs (address_of (get_or registers n Sstatus))) same here
    ]

pub returns : goal.returns
returns c = (
  (λ is. each_register (λ (register : Register). lookup c.args.told.now (csr_key (address_of register)) ≡ lazy_value_at c.args.hart.now.csrs (address_of register))
      (λ k within. c.loop-register.invariant k (omega (arith, within, c.loop-register-test.false)))),
  λ all. refl,
)
