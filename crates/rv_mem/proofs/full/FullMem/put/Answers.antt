use Rattle.std.proofs.Common.{◌/◌, List, position, sym, ap, ◌∙◌}
use Rattle.rv_mem.specs.declared.full.Block.{Block}
use Rattle.rv_mem.specs.Full.{holds, blocks_at}
use Rattle.rv_mem.proofs.Blocks.{holds_there, nowhere, put_known, put_others, there_only}
use Rattle.rv_mem.proofs.full.FullMem.put.Goals as goal

pub set-requires : goal.set-requires
set-requires c =
    holds_there c.args.self.now.blocks.items (c.args.a / 4) c.in-Some.i c.index_mut.result.now
    (ap (λ (xs : List Block). position (λ b. holds b (c.args.a / 4)) xs) (sym c.deref.ensures.value) ∙ sym c.index_of.ensures ∙ c.in-Some.is)
    c.index_mut.ensures.value

pub returns-in-Some-clause-known : goal.returns-in-Some-clause-known
returns-in-Some-clause-known c =
    put_known c.args.self.now.blocks.items (c.args.a / 4) c.in-Some.i c.args.w c.index_mut.result.now c.set.new.self
    (ap (λ (xs : List Block). position (λ b. holds b (c.args.a / 4)) xs) (sym c.deref.ensures.value) ∙ sym c.index_of.ensures ∙ c.in-Some.is)
    c.index_mut.ensures.value
    (record { first = c.set.ensures.first; words = c.set.ensures.words })

pub returns-in-Some-clause-others : goal.returns-in-Some-clause-others
returns-in-Some-clause-others c =
    put_others c.args.self.now.blocks.items (c.args.a / 4) c.in-Some.i c.args.w c.index_mut.result.now c.set.new.self
    (ap (λ (xs : List Block). position (λ b. holds b (c.args.a / 4)) xs) (sym c.deref.ensures.value) ∙ sym c.index_of.ensures ∙ c.in-Some.is)
    c.index_mut.ensures.value
    (record { first = c.set.ensures.first; words = c.set.ensures.words })

pub returns-in_default-clause-known : goal.returns-in_default-clause-known
returns-in_default-clause-known c =
    there_only (blocks_at c.args.self.now.blocks.items (c.args.a / 4)) c.args.w
    (nowhere c.args.self.now.blocks.items (c.args.a / 4)
    (ap (λ (xs : List Block). position (λ b. holds b (c.args.a / 4)) xs) (sym c.deref.ensures.value) ∙ sym c.index_of.ensures ∙ c.in_default.is))
    c.requires.ram
