use Rattle.std.proofs.Common.{◌≡◌, ℕ, ◌||◌, eqb, drop}
use Rattle.std.specs.List.{list_any}
use Rattle.dom_set.specs.Elements.{is_within}
use Rattle.rv_csr.specs.Table.{address_of}
use Rattle.leaf_stand.proofs.first_cases.addresses.Given as goal

abbrev pub invariant-loop-register : goal.invariant-loop-register
invariant-loop-register l =
    (v : ℕ) → (is_within l.pairs.items v || list_any (λ register. eqb (address_of register) v) (drop l.register-index l.registers)) ≡ list_any (λ register. eqb (address_of register) v) l.registers
