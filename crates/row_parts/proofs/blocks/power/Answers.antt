use Rattle.std.proofs.Common.{ℕ, ◌≤◌, ◌^◌, sym, subst, arith}
use Rattle.std.proofs.Math.Pow.{pow_mono}
use Rattle.std.proofs.lemmas.Nat.{one_shl}
use Rattle.row_parts.proofs.blocks.power.Goals as goal

pub returns-clause-bound : goal.returns-clause-bound
returns-clause-bound c = let small : c.args.bits ≤ 32 = omega (arith, c.requires) in subst (λ (n : ℕ). n ≤ 2 ^ 32) (sym (one_shl c.args.bits 64 (omega (arith, c.requires)))) (pow_mono small)
