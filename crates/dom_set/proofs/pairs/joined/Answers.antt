use Rattle.std.proofs.Common.{◌≡◌, ◌^◌, ◌&&◌, ◌||◌, leb, sym, ◌∙◌, arith}
use Rattle.std.proofs.lemmas.Nat.{pow_pos}
use Rattle.set_pieces.specs.Internal.Patterns.{matches}
use Rattle.set_pieces.specs.Internal.Runs.{in_run}
use Rattle.set_pieces.specs.Internal.Pieces.{in_piece}
use Rattle.dom_set.proofs.Merging.{multiple_is, joined_is}
use Rattle.set_pieces.proofs.Pieces.{and_all}
use Rattle.set_pieces.proofs.Without.{whole_piece}
use Rattle.dom_set.proofs.pairs.joined.Goals as goal

pub returns-clause-held : goal.returns-clause-held
unfolding in_piece in_run
returns-clause-held c = λ x.
    let p = c.args.p.run in
    let q = c.args.q.run in
    let joined : ((leb p.low x && leb x c.max.result) && matches p.pattern x) ≡ (((leb p.low x && leb x p.high) && matches p.pattern x) || ((leb q.low x && leb x q.high) && matches q.pattern x)) =
    rw (
      multiple_is c.args.shift p.pattern x c.requires.first.mask c.requires.first.bits,
      multiple_is c.args.shift q.pattern x c.requires.second.mask c.requires.second.bits,
      c.max.ensures,
    )
    (joined_is (2 ^ c.args.shift) p.low p.high q.low q.high x (pow_pos c.args.shift)
    c.requires.first.low c.requires.first.high p.ordered c.requires.ordered (omega (arith, pow_pos c.args.shift))) in
    and_all _ ∙ joined
    ∙ (λ i. sym (whole_piece c.args.p x c.requires.first.whole) i || sym (whole_piece c.args.q x c.requires.second.whole) i)
