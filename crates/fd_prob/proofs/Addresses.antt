-- The addresses of registers have 12 bits.
use Rattle.std.proofs.Common.{◌≡◌, ℕ, ◌≤◌, ◌^◌, false, arith}
use Rattle.std.proofs.lemmas.Bool.Decides.{nat_tests}
use Rattle.rv_csr.specs.Table.{is_legal_at}

pub no_register : (n v : ℕ) → 2 ^ 16 ≤ n → is_legal_at n v ≡ false
no_register n v h = grind (arith, nat_tests)
