use Rattle.std.proofs.Common.{◌≡◌, ℕ, List, take}
use Rattle.tpl_ast.specs.declared.template.Region.{Region}
use Rattle.given_start.specs.Knowledge.{known_of, fixed_now}
use Rattle.rv_system.proofs.Filled.{is_listed, with_places}
use Rattle.rv_system.proofs.filling.fill_csrs.Given as goal

abbrev pub invariant-loop-key : goal.invariant-loop-key
invariant-loop-key l = record {
  known : (k : ℕ) → known_of l.hart k ≡ with_places (is_listed (take l.key-index l.keys) k) l.value (known_of l.fn.hart k);
  fixed : (ram : List Region) → fixed_now ram l.hart ≡ fixed_now ram l.fn.hart;
}
