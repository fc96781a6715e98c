use Rattle.std.proofs.Common.{◌/◌, ℕ, List, position, sym, ap, ◌∙◌}
use Rattle.rv_mem.specs.declared.full.Block.{Block}
use Rattle.rv_mem.specs.declared.words.Seen.TheVariants.{Known}
use Rattle.rv_mem.specs.Full.{holds}
use Rattle.rv_mem.proofs.Blocks.{holds_there, at_index, nowhere}
use Rattle.rv_mem.proofs.full.FullMemWords.word.Goals as goal

pub get-requires : goal.get-requires
get-requires c =
    holds_there c.args.self.now.blocks.items (c.args.a / 4) c.in-Some.i c.index.result.now
    (ap (λ (xs : List Block). position (λ b. holds b (c.args.a / 4)) xs) (sym c.deref.ensures.value) ∙ sym c.index_of.ensures ∙ c.in-Some.is)
    c.index.ensures

pub returns-in-Some : goal.returns-in-Some
returns-in-Some c =
    ap (λ (w : ℕ). Known w) c.get.ensures
    ∙ sym (at_index c.args.self.now.blocks.items (c.args.a / 4) c.in-Some.i c.index.result.now
    (ap (λ (xs : List Block). position (λ b. holds b (c.args.a / 4)) xs) (sym c.deref.ensures.value) ∙ sym c.index_of.ensures ∙ c.in-Some.is)
    c.index.ensures)

pub returns-in-None : goal.returns-in-None
returns-in-None c =
    sym (nowhere c.args.self.now.blocks.items (c.args.a / 4)
    (ap (λ (xs : List Block). position (λ b. holds b (c.args.a / 4)) xs) (sym c.deref.ensures.value) ∙ sym c.index_of.ensures ∙ c.in-None.is))
