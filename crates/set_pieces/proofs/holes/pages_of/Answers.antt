use Rattle.std.proofs.Common.{Option, sym, subst, arith}
use Rattle.set_pieces.specs.declared.run.Run.{Run}
use Rattle.set_pieces.specs.Ends.{HasPage}
use Rattle.set_pieces.specs.Internal.Runs.{is_in_run}
use Rattle.set_pieces.proofs.holes.pages_of.Goals as goal

pub returns-in-Some-clause-held : goal.returns-in-Some-clause-held
returns-in-Some-clause-held c = λ q from past before.
    subst (λ (o : Option Run). HasPage (is_in_run o) q) (sym c.in-Some.is) (c.pages_end.ensures.held q from (omega (arith, c.max.ensures, past, before)))
