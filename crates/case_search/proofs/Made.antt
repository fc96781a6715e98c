-- The domains of a case cut to its operation.
use Rattle.std.proofs.Common.{◌≡◌, ℕ, List, Option, sym, ◌∙◌, subst}
use Rattle.fd_narrow.specs.Narrowing.{IsInside}
use Rattle.fd_prob.specs.declared.problem.Assignment.{Assignment}
use Rattle.fd_prob.specs.declared.problem.Case.{Case}
use Rattle.fd_prob.specs.declared.slot.Slot.TheVariants as slots
use Rattle.case_search.specs.Search.{IsCut, IsMadeOf, IsMet, LeastOrNone}
use Rattle.case_search.proofs.Inside.{each_of, inside_of}
use Rattle.case_search.proofs.Orders.{as_well}

module _ (c : Case) (start : List (List ℕ)) (start_is : start ≡ c.doms) (op : ℕ) (op_is : op ≡ c.op) (cut : List (List ℕ)) (cuts : IsCut c start slots.Op op cut) where
  made : (x : Assignment) → IsMet c cut x → IsMadeOf c x
  made x met = (
    met.words,
    record {
      op = cuts.value x met.inside ∙ op_is;
      domains = each_of c x (subst (λ (ds : List (List ℕ)). IsInside ds x) start_is (cuts.within x met.inside));
      relations = met.holding;
    },
  )

  met : (x : Assignment) → IsMadeOf c x → IsMet c cut x
  met x is = record {
    words = is.0;
    inside = cuts.keeps x (subst (λ (ds : List (List ℕ)). IsInside ds x) (sym start_is) (inside_of c x is.1.domains)) (is.1.op ∙ sym op_is) is.1.relations;
    holding = is.1.relations;
  }

  pub least_made : (ps : List ℕ) (o : Option Assignment) → LeastOrNone ps (IsMet c cut) o → LeastOrNone ps (IsMadeOf c) o
  least_made ps o least = as_well ps (IsMet c cut) (IsMadeOf c) made met o least
