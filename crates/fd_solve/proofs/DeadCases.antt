-- Cases that nothing fits, by one relation.
use Rattle.std.proofs.Common.{◌≡◌, ℕ, ◌<◌, ◌==◌, Bool, true, false, ◌&&◌, length, get_or, refl, sym, ap, ◌∙◌}
use Rattle.rv_isa.specs.declared.operation.Op.{Op}
use Rattle.rv_isa.specs.Numbers.{op_numbered}
use Rattle.fd_prob.specs.declared.problem.Assignment.{Assignment}
use Rattle.fd_prob.specs.declared.problem.Case.{Case}
use Rattle.fd_prob.specs.declared.relation.Rel.{Rel}
use Rattle.fd_prob.specs.declared.slot.Slot.TheVariants as slots
use Rattle.fd_prob.specs.Fitting.{fits_case, is_within}
use Rattle.fd_prob.specs.Relations.{holds, value_of}
use Rattle.fd_prob.proofs.Fitted.{fits_its_case}
use Rattle.case_search.specs.Equivalent.{IsEquivalent}
use Rattle.case_search.specs.Search.{IsMadeOf}
use Rattle.fd_solve.proofs.Barring.{not_all}

and_false : (b : Bool) → (b && false) ≡ false
and_false true = refl
and_false false = refl

-- a case with a relation that never holds
pub dead_case : (c : Case) (i : ℕ) (rel : Rel) → i < length c.rels → rel ≡ get_or c.rels i rel → ((op : Op) (x : Assignment) → holds op x rel ≡ false) → (x : Assignment) → fits_case x c ≡ false
unfolding fits_case
dead_case c i rel less here never x =
    ap (λ (b : Bool). ((c.op == value_of x slots.Op) && is_within c x) && b) (not_all (holds (op_numbered c.op) x) c.rels i rel less here (never (op_numbered c.op) x))
    ∙ and_false ((c.op == value_of x slots.Op) && is_within c x)

-- what stands for it is of no assignment
pub dead_made : (c made : Case) → IsEquivalent c made → ((x : Assignment) → fits_case x made ≡ false) → (x : Assignment) → IsMadeOf c x → ⊥
dead_made c made is none x of = cc (sym (none x) ∙ is.same x ∙ fits_its_case x c of.1)
