use Rattle.std.proofs.Common.{arith}
use Rattle.set_pieces.proofs.Pages.{page_held}
use Rattle.set_pieces.proofs.run.Run.pages_end.Goals as goal

pub returns-then-from-clause-held : goal.returns-then-from-clause-held
returns-then-from-clause-held c = λ q from before.
    page_held c.args.self c.args.page q c.if-self-lt4096.true (omega (arith, c.if-from.true, c.from.ensures, c.from-then-self-lt4096.ensures)) from (omega (arith, c.max.ensures, from, before))
