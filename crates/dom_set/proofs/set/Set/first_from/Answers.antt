use Rattle.std.proofs.Common.{◌≡◌, List, Some, subst, sym, ap, ◌∙◌}
use Rattle.set_pieces.specs.declared.piece.Piece.{Piece}
use Rattle.dom_set.specs.Elements.{first_cyclic}
use Rattle.set_pieces.specs.Internal.Pieces.{holds}
use Rattle.set_pieces.specs.Ends.{IsFirstFrom}
use Rattle.dom_set.proofs.Sets.{cyclic_here, cyclic_round, cyclic_none}
use Rattle.dom_set.proofs.set.Set.first_from.Goals as goal

pub returns-in-Some-clause-first : goal.returns-in-Some-clause-first
returns-in-Some-clause-first c = rw (← c.self.view_is, ← c.deref.ensures.value)
    (cyclic_here c.deref.result.now c.args.pivot c.in-Some.x c.in-Some.ensures)

pub returns-in-Some-clause-none : goal.returns-in-Some-clause-none
returns-in-Some-clause-none c =
    let is : Some c.in-Some.x ≡ first_cyclic c.args.self.now c.args.pivot = rw (← c.self.view_is, ← c.deref.ensures.value)
    (cyclic_here c.deref.result.now c.args.pivot c.in-Some.x c.in-Some.ensures) in
    rw (← is) at (cyclic_none c.args.self.now c.args.pivot)

pub returns-in-None-clause-first : goal.returns-in-None-clause-first
returns-in-None-clause-first c = rw (← c.self.view_is)
    (cyclic_round c.self.inside.pieces.items c.args.pivot c.first_from-in-None.result
    (λ x le. ap (λ (ps : List Piece). holds ps x) (sym c.deref.ensures.value) ∙ c.in-None.ensures x le)
    (subst (λ (ps : List Piece). IsFirstFrom (holds ps) 0 c.first_from-in-None.result) c.deref-in-None.ensures.value c.first_from-in-None.ensures))

pub returns-in-None-clause-none : goal.returns-in-None-clause-none
returns-in-None-clause-none c =
    let is : c.first_from-in-None.result ≡ first_cyclic c.args.self.now c.args.pivot = rw (← c.self.view_is)
    (cyclic_round c.self.inside.pieces.items c.args.pivot c.first_from-in-None.result
    (λ x le. ap (λ (ps : List Piece). holds ps x) (sym c.deref.ensures.value) ∙ c.in-None.ensures x le)
    (subst (λ (ps : List Piece). IsFirstFrom (holds ps) 0 c.first_from-in-None.result) c.deref-in-None.ensures.value c.first_from-in-None.ensures)) in
    rw is (cyclic_none c.args.self.now c.args.pivot)
