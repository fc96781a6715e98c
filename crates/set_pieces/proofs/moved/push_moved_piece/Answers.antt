use Rattle.std.proofs.Common.{ℕ, ◌+◌, ◌-◌, ◌%◌, ◌^◌, ◌&&◌, not, Option, sym, ap, ◌∙◌}
use Rattle.set_pieces.specs.declared.pattern.Pattern.{Pattern}
use Rattle.set_pieces.specs.Counting.{one}
use Rattle.set_pieces.specs.Internal.Patterns.{is_matched}
use Rattle.set_pieces.specs.Internal.Runs.{in_run}
use Rattle.set_pieces.specs.Internal.Pieces.{in_piece, times}
use Rattle.set_pieces.proofs.Pieces.{and_all}
use Rattle.set_pieces.proofs.moved.push_moved_piece.Goals as goal

pub returns-in_ok-push_moved_holed-in-Some : goal.returns-in_ok-push_moved_holed-in-Some
unfolding in_piece
returns-in_ok-push_moved_holed-in-Some c = λ y lt.
    let z : ℕ = (y + (2 ^ 32 - c.args.distance)) % 2 ^ 32 in
    c.in_ok-push_moved_holed-in-Some.ensures y lt
    ∙ ap (λ (o : Option Pattern). times c.args.out.now.items y + one (in_run c.args.p.run z && not (is_matched o z))) (sym c.in-Some.is)

pub returns-in_ok-push_moved-in-None : goal.returns-in_ok-push_moved-in-None
unfolding in_piece
returns-in_ok-push_moved-in-None c = λ y lt.
    let z : ℕ = (y + (2 ^ 32 - c.args.distance)) % 2 ^ 32 in
    c.in_ok-push_moved-in-None.ensures y lt
    ∙ ap (λ b. times c.args.out.now.items y + one b) (sym (and_all (in_run c.args.p.run z)))
    ∙ ap (λ (o : Option Pattern). times c.args.out.now.items y + one (in_run c.args.p.run z && not (is_matched o z))) (sym c.in-None.is)
