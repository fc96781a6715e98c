use Rattle.std.proofs.Common.{◌+◌, ◌-◌, ◌%◌, ◌^◌, IsTrue}
use Rattle.dom_set.specs.Elements.{is_in}
use Rattle.fd_prob.specs.declared.slot.Slot.TheVariants as slots
use Rattle.fd_prob.specs.Relations.{value_of}
use Rattle.fd_narrow.specs.Internal.Steps.{Leaves}
use Rattle.fd_narrow.proofs.Jumps.{indirect_narrows}
use Rattle.fd_narrow.proofs.Outcomes.{on_ok}
use Rattle.fd_narrow.proofs.domains.Domains.narrow_indirect.Goals as goal

pub returns : goal.returns
returns c = on_ok c.narrow_addend-2.result (Leaves (λ x. IsTrue (is_in c.in_ok-sums.sums ((value_of x slots.Imm + value_of x slots.A) % 2 ^ 32))) c.narrow_addend.new.self c.narrow_addend-2.new.self)
    (Leaves (λ x. IsTrue (is_in c.args.set.now ((value_of x slots.A + value_of x slots.Imm) % 2 ^ 32 - (value_of x slots.A + value_of x slots.Imm) % 2 ^ 32 % 2))) c.args.self.now c.narrow_addend-2.new.self)
    (indirect_narrows c.args.self.now c.narrow_addend.new.self c.narrow_addend-2.new.self c.args.set.now c.in_ok-sums.sums c.in_ok-sums.ensures c.in_ok-narrow_addend.ensures)
    c.narrow_addend-2.ensures
