use Rattle.std.proofs.Common.{ℕ, List, IsTrue, sym, subst}
use Rattle.fd_prob.specs.Relations.{holds}
use Rattle.fd_narrow.specs.Internal.Steps.{Leaves}
use Rattle.fd_narrow.proofs.domains.Domains.ask.Goals as goal

pub returns : goal.returns
returns c =
    let old = c.args.self.now in
    let now = c.narrow_by.new.self in
    subst (λ (d : List (List ℕ)). Leaves (λ x. IsTrue (holds c.args.op x c.args.rel.now)) old d) (sym c.sizes-after.ensures)
    (subst (λ (d : List (List ℕ)). Leaves (λ x. IsTrue (holds c.args.op x c.args.rel.now)) d now) c.sizes-before.ensures c.in_ok-narrow_by.ensures)
