use Rattle.std.proofs.Common.{◌^◌, ℕ, List, length, sym, ap, ◌∙◌, arith}
use Rattle.set_pieces.specs.declared.piece.Piece.{Piece}
use Rattle.set_pieces.specs.Counting.{total}
use Rattle.set_pieces.specs.Internal.Pieces.{times}
use Rattle.dom_set.proofs.Sets.{size_is, nth_is}
use Rattle.dom_set.proofs.set.Set.nth.Goals as goal

pub nth-requires-clause-within : goal.nth-requires-clause-within
nth-requires-clause-within c =
    omega (
      arith,
      c.requires,
      ap (λ (ps : List Piece). total (times ps) (2 ^ 32)) c.deref.ensures.value,
      size_is c.self.inside.pieces.items c.self.invariant,
      ap (λ (xs : List ℕ). length xs) c.self.view_is,
    )

pub returns : goal.returns
returns c = rw (← c.self.view_is)
    (nth_is c.self.inside.pieces.items c.args.n c.nth.result c.self.invariant c.nth.type_inv
    (ap (λ (ps : List Piece). total (times ps) c.nth.result) (sym c.deref.ensures.value) ∙ c.nth.ensures.below)
    (ap (λ (ps : List Piece). times ps c.nth.result) (sym c.deref.ensures.value) ∙ c.nth.ensures.held))
