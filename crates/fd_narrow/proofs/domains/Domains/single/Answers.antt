use Rattle.std.proofs.Common.{ℕ, List, IsTrue, sym, subst}
use Rattle.dom_set.specs.Elements.{is_in}
use Rattle.fd_prob.specs.Relations.{value_of}
use Rattle.set_sums.proofs.Members.{only_in}
use Rattle.fd_narrow.proofs.domains.Domains.single.Goals as goal

pub returns-in-Some : goal.returns-in-Some
returns-in-Some c = λ x inside. only_in c.domain.result.now c.in-Some.value c.in-Some.ensures (value_of x c.args.slot) (subst (λ (d : List ℕ). IsTrue (is_in d (value_of x c.args.slot))) (sym c.domain.ensures) (inside c.args.slot))
