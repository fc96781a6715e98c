-- Reading the list of operations.
use Rattle.std.proofs.Common.{◌≡◌, ℕ, ◌<◌, get_or, subst, sym, ap, ◌∙◌}
use Rattle.std.proofs.lemmas.List.{get_or_default}
use Rattle.rv_isa.specs.declared.operation.Op.TheVariants.{Lui, Illegal}
use Rattle.rv_isa.specs.declared.operation.TheConstants.{OPS}
use Rattle.rv_isa.specs.Numbers.{op_numbered}

pub read : (n m : ℕ) → m ≡ n → n < 58 → get_or OPS m Lui ≡ op_numbered n
unfolding op_numbered
read n m e h = get_or_default OPS m Lui Illegal (subst (λ (k : ℕ). k < 58) (sym e) h) ∙ ap (λ (k : ℕ). get_or OPS k Illegal) e
