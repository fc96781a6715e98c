use Rattle.std.proofs.Common.{◌≡◌, ℕ, ◌%◌, ◌^◌, ◌<◌, Some, None, slice_index_or, subst}
use Rattle.rv_csr.specs.declared.table.LazyRegister.{LazyRegister}
use Rattle.rv_csr.specs.State.{lazy_value}
use Rattle.part_machine.specs.Whole.{Bare}
use Rattle.part_state.specs.State.{here}
use Rattle.leaf_turn.specs.Grounds.{AreFixedWords}
use Rattle.leaf_turn.proofs.Knowing.{fixed_words, known_words}
use Rattle.leaf_turn.proofs.known.known_is_words.Goals as goal

pub returns-clause-aligned : goal.returns-clause-aligned
returns-clause-aligned c = subst (λ (b : Bare). b.pc % 4 ≡ 0) c.hart-state.ensures c.hart-state.result.now.aligned

pub returns-clause-fixed : goal.returns-clause-fixed
returns-clause-fixed c = fixed_words (here c.args.part.now) c.args.hart (subst (λ (b : Bare). AreFixedWords b.csrs) c.hart-state.ensures c.fixed_are_words.ensures)

pub returns-clause-words : goal.returns-clause-words
returns-clause-words c =
    known_words (here c.args.part.now) c.args.hart c.partial_test_laws.ensures.begun c.is_test.ensures c.requires
    (subst (λ (b : Bare). (n v : ℕ) → n < 32 → slice_index_or b.regs n None ≡ Some v → v < 2 ^ 32) c.hart-state.ensures c.registers_are_words.ensures)
    (subst (λ (b : Bare). (register : LazyRegister) (v : ℕ) → lazy_value b.csrs register ≡ Some v → v < 2 ^ 32) c.hart-state.ensures c.lazies_are_words.ensures)
