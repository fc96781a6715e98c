use Rattle.std.proofs.Common.{◌≡◌, ◌==◌, ℕ, ◌&&◌, take}
use Rattle.std.specs.List.{list_any}
use Rattle.dom_set.specs.Elements.{is_within}
use Rattle.rv_csr.specs.Table.{address_of, is_legal_at}
use Rattle.word_sets.proofs.addresses.addresses_among.Given as goal

abbrev pub invariant-loop-register : goal.invariant-loop-register
invariant-loop-register l = (v : ℕ) → is_within l.ranges.items v ≡ (list_any (λ register. address_of register == v) (take l.register-index l.registers) && is_legal_at v l.word)
