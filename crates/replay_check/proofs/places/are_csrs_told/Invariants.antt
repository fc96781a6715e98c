use Rattle.std.proofs.Common.{◌≡◌, ℕ, ◌<◌, get_or}
use Rattle.rv_csr.specs.declared.table.Register.TheVariants.{Sstatus}
use Rattle.rv_csr.specs.State.{lazy_value_at}
use Rattle.rv_csr.specs.Table.{address_of, csr_key, registers}
use Rattle.tpl_admit.specs.Starts.{lookup}
use Rattle.replay_check.proofs.places.are_csrs_told.Given as goal

abbrev pub invariant-loop-register : goal.invariant-loop-register
invariant-loop-register l = (k : ℕ) → k < l.register-index → lookup l.told (csr_key (address_of (get_or registers k Sstatus))) ≡ lazy_value_at l.hart.csrs (address_of (get_or registers k Sstatus))
