use Rattle.std.proofs.Common.{ℕ, ◌-◌, ◌^◌, true, Option, subst, arith}
use Rattle.std.specs.Prelude.{IfSome}
use Rattle.fd_narrow.specs.Narrowing.{domain_in}
use Rattle.fd_narrow.specs.Internal.Orders.{IsOrdered, IsRanked}
use Rattle.word_sets.specs.Internal.Orders.{HasEnds}
use Rattle.fd_narrow.specs.Internal.Steps.{Leaves}
use Rattle.fd_narrow.proofs.Ranks.{after_cut}
use Rattle.fd_narrow.proofs.Outcomes.{on_ok}
use Rattle.fd_narrow.proofs.domains.Domains.cut_after.Goals as goal

pub returns-in-Some : goal.returns-in-Some
returns-in-Some c =
    let has = subst (λ (o : Option (ℕ × ℕ)). IfSome o (HasEnds c.args.order (domain_in c.args.self.now c.args.s))) c.in-Some.is c.in_ok-span.ensures in
    on_ok c.cut_ranks.result (Leaves (IsRanked c.args.order c.args.t c.saturating_add.result (2 ^ 32 - 1)) c.args.self.now c.cut_ranks.new.self) (Leaves (IsOrdered c.args.order c.args.s c.args.t true) c.args.self.now c.cut_ranks.new.self)
    (after_cut c.args.self.now c.cut_ranks.new.self c.args.s c.args.t c.args.order c.in-Some.span c.saturating_add.result (omega (arith, c.saturating_add.ensures)) has)
    c.cut_ranks.ensures
