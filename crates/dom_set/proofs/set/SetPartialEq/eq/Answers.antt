use Rattle.std.proofs.Common.{◌≡◌, ◌↔◌, List, IsTrue, sym, ap, ◌∙◌}
use Rattle.std.proofs.lemmas.Bool.Decides.{same_from_decides}
use Rattle.std.proofs.lemmas.Slice.Eq.{bytes_eq-Decides}
use Rattle.set_pieces.specs.declared.piece.Piece.{Piece}
use Rattle.set_pieces.specs.Internal.Pieces.{times}
use Rattle.dom_set.proofs.Sameness.{same_elements, same_times}
use Rattle.dom_set.proofs.set.SetPartialEq.eq.Goals as goal

same : (c : goal.After-are_same) → IsTrue c.are_same.result ↔ (c.args.self.now ≡ c.args.other.now)
same c = (
  λ h. sym c.self.view_is
      ∙ same_elements c.self.inside.pieces.items c.other.inside.pieces.items (λ x lt.
      ap (λ (ps : List Piece). times ps x) (sym c.deref.ensures.value)
      ∙ c.are_same.ensures.0 h x lt
      ∙ ap (λ (ps : List Piece). times ps x) c.deref-2.ensures.value)
      ∙ c.other.view_is,
  λ e. c.are_same.ensures.1 (λ x lt.
      ap (λ (ps : List Piece). times ps x) c.deref.ensures.value
      ∙ same_times c.self.inside.pieces.items c.other.inside.pieces.items c.self.invariant c.other.invariant
      (c.self.view_is ∙ e ∙ sym c.other.view_is) x lt
      ∙ ap (λ (ps : List Piece). times ps x) (sym c.deref-2.ensures.value)),
)

pub returns-clause-value : goal.returns-clause-value
returns-clause-value c = same_from_decides c.are_same.result _ (same c) (bytes_eq-Decides c.args.self.now c.args.other.now)

pub returns-clause-same : goal.returns-clause-same
returns-clause-same c = same c
