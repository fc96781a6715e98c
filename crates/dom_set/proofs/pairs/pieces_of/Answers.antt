use Rattle.std.proofs.Common.{ℕ, List, ◌%◌, ◌&&◌, eqb, sym, ap, ◌∙◌, rules}
use Rattle.std.proofs.lemmas.List.Sorted.{All-permutation, list_any-IsPermutation, IsNonDecreasingBy-from_sort_by_key}
use Rattle.dom_set.specs.Elements.{is_within}
use Rattle.set_pieces.specs.declared.piece.Piece.{Piece}
use Rattle.set_pieces.proofs.Times.{holds_once}
use Rattle.set_pieces.specs.Internal.Pieces.{in_piece, holds, IsMultiples}
use Rattle.dom_set.proofs.pairs.pieces_of.Goals as goal

pub merged-requires-clause-multiples : goal.merged-requires-clause-multiples
merged-requires-clause-multiples c = rw c.deref.ensures.value
    (All-permutation (IsMultiples c.exponent-shift.result) _ _ c.sort_unstable_by_key.ensures.permutation c.in_ok-all.ensures.multiples)

pub merged-requires-clause-sorted : goal.merged-requires-clause-sorted
merged-requires-clause-sorted c = rw c.deref.ensures.value
    (IsNonDecreasingBy-from_sort_by_key (λ p. p.run.low) _ c.sort_unstable_by_key.ensures.sorted (λ a r q k. search rules))

pub returns-clause-held : goal.returns-clause-held
returns-clause-held c = λ x lt.
    holds_once c.in_ok-pieces.pieces.items x _ (c.in_ok-pieces.ensures x)
    ∙ ap (λ (ps : List Piece). holds ps x) c.deref.ensures.value
    ∙ sym (list_any-IsPermutation (λ p. in_piece p x) _ _ c.sort_unstable_by_key.ensures.permutation)
    ∙ c.in_ok-all.ensures.held x lt
    ∙ ap (λ (n : ℕ). eqb (x % n) 0 && is_within c.args.pairs.now x) (sym c.exponent-shift.ensures.power)
