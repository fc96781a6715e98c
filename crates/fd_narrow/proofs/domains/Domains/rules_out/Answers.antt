use Rattle.std.proofs.Common.{Bool, IsTrue, sym, ◌∙◌, subst}
use Rattle.fd_prob.specs.declared.relation.Rel.{Rel}
use Rattle.fd_prob.specs.Relations.{holds, is_same}
use Rattle.fd_narrow.specs.declared.standings.Standing.{Standing}
use Rattle.fd_narrow.specs.Internal.Standings.{Stands}
use Rattle.fd_narrow.proofs.Comparing.{differing_stand, same_stand}
use Rattle.fd_narrow.proofs.domains.Domains.rules_out.Goals as goal

pub returns-then-not-is_equal : goal.returns-then-not-is_equal
returns-then-not-is_equal c = λ operands x inside stands meets.
    let same : IsTrue (is_same x c.in-Same.s c.in-Same.t) = subst (λ (r : Rel). IsTrue (holds c.args.op x r)) c.in-Same.is meets in
    let equal = same_stand c.args.op c.args.how x stands (subst (λ (b : Bool). IsTrue b) (c.are_operands.ensures operands x) same) in
    absurd (cc (sym c.if-not-is_equal.true ∙ c.is_equal.ensures.1 equal))

pub returns-then-is_equal : goal.returns-then-is_equal
returns-then-is_equal c = λ operands x inside stands meets.
    differing_stand c.args.op x c.in-Differ.s c.in-Differ.t
    (subst (λ (how : Standing). Stands c.args.op how x) (c.is_equal-in-Differ.ensures.0 c.if-is_equal.true) stands)
    (c.are_operands-then-is_equal.ensures operands x)
    (subst (λ (r : Rel). IsTrue (holds c.args.op x r)) c.in-Differ.is meets)
