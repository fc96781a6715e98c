use Rattle.std.proofs.Common.{◌≡◌, ◌+◌, ◌*◌, ◌-◌, ◌++◌, ◌∷◌, [], ℕ, ap, ◌∙◌, sym, arith}
use Rattle.std.proofs.lemmas.Result.{err_from_is_err_and}
use Rattle.byte_format.specs.Internal.Readers.{chain_at, with_front}
use Rattle.byte_format.proofs.Loop.{chain_goes_on, chain_ends, chain_is_done}
use Rattle.elf_image.specs.Internal.PartReaders.{next_address, placed_at}
use Rattle.elf_image.proofs.reading.loads.run_words.Goals as goal

pub returns-in_err-word : goal.returns-in_err-word
returns-in_err-word c =
    let p = err_from_is_err_and c.from_residual.result c.from_residual.ensures.1 in
    rw (p.1, p.2) (chain_ends next_address placed_at c.in_err-word.field-0.0 c.loop-i.words c.args.count c.loop-i.i (c.args.start + 4 * c.loop-i.i) c.loop-i.rest.now (with_front c.args.words.now (chain_at next_address placed_at c.args.count c.args.start c.args.bytes.now)) c.loop-i-test.true c.in_err-word.ensures.gives c.loop-i.invariant)

pub loop-i-preserved : goal.loop-i-preserved
loop-i-preserved c =
    let next : c.args.start + 4 * c.loop-i.i + 4 ≡ c.args.start + 4 * (c.loop-i.i + 1) = omega arith in
    let one = chain_goes_on next_address placed_at c.loop-i.words c.args.count c.loop-i.i (c.args.start + 4 * c.loop-i.i) c.loop-i.rest.now c.in_ok-word.word c.in_ok-word.behind.now (with_front c.args.words.now (chain_at next_address placed_at c.args.count c.args.start c.args.bytes.now)) c.loop-i-test.true c.in_ok-word.ensures.gives c.loop-i.invariant in
    rw c.in_ok-push.ensures.ok (sym (ap (λ (a : ℕ). with_front (c.loop-i.words ++ c.in_ok-word.word ∷ []) (chain_at next_address placed_at (c.args.count - (c.loop-i.i + 1)) a c.in_ok-word.behind.now)) next) ∙ one)

pub returns : goal.returns
returns c = chain_is_done next_address placed_at c.loop-i.words c.args.count c.loop-i.i (c.args.start + 4 * c.loop-i.i) c.loop-i.rest.now (with_front c.args.words.now (chain_at next_address placed_at c.args.count c.args.start c.args.bytes.now)) c.loop-i-test.false c.loop-i.invariant
