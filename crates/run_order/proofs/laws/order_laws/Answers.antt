use Rattle.std.proofs.Common.{refl}
use Rattle.run_order.specs.Orders.{turns_in}
use Rattle.rand_pcg.specs.Lcg.{started, increment_of}
use Rattle.rand_pcg.specs.Pcg.{multiplier_64}
use Rattle.run_order.proofs.Turns.{drawn_harts, drawn_taken}
use Rattle.run_order.proofs.laws.order_laws.Goals as goal

pub returns-clause-harts : goal.returns-clause-harts
returns-clause-harts c = λ number left i d within. drawn_harts (turns_in left) (started 64 multiplier_64 number (increment_of 64 0)) left refl i d within

pub returns-clause-taken : goal.returns-clause-taken
returns-clause-taken c = λ number left k. drawn_taken (turns_in left) (started 64 multiplier_64 number (increment_of 64 0)) left k refl
