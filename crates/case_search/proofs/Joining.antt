-- A case whose relations are other ones that hold together where its own do.
use Rattle.std.proofs.Common.{◌≡◌, ℕ, true, List, Option, length, refl, sym, ap, ◌∙◌, subst, arith}
use Rattle.std.proofs.lemmas.List.Sums.{AllPass-from_list_all, list_all-from_AllPass}
use Rattle.dom_set.specs.Elements.{is_in}
use Rattle.fd_narrow.specs.Narrowing.{AllHold}
use Rattle.fd_prob.specs.declared.problem.Assignment.{Assignment}
use Rattle.fd_prob.specs.declared.problem.Case.{Case}
use Rattle.fd_prob.specs.declared.slot.Slot.{Slot}
use Rattle.fd_prob.specs.Fitting.{IsCase, domain_of}
use Rattle.fd_prob.specs.Joining.{IsRestated}
use Rattle.fd_prob.specs.Relations.{holds, value_of}
use Rattle.rv_isa.specs.Numbers.{op_numbered}
use Rattle.case_search.specs.Search.{IsMadeOf, LeastOrNone}
use Rattle.case_search.specs.Internal.Stronger.{IsAlike}
use Rattle.case_search.proofs.Orders.{as_well}

pub restated : (c made : Case) → IsRestated c made → IsAlike c made
restated c made is = record { op = is.op; doms = is.doms; rels = is.rels }

module _ (c made : Case) (is : IsAlike c made) where
  pub case_alike : IsCase c → IsCase made
  case_alike whole = record {
    op = omega (arith, is.op, whole.op);
    domains = ap length is.doms ∙ whole.domains;
  }

  same_domain : (s : Slot) → domain_of made s ≡ domain_of c s
  unfolding domain_of
  same_domain s = rw is.doms refl

  there : (x : Assignment) → IsMadeOf made x → IsMadeOf c x
  there x of_made = (
    of_made.0,
    record {
      op = of_made.1.op ∙ is.op;
      domains = λ s. subst (λ (xs : List ℕ). is_in xs (value_of x s) ≡ true) (same_domain s) (of_made.1.domains s);
      relations = subst (λ (n : ℕ). AllHold (op_numbered n) c.rels x) is.op (AllPass-from_list_all (holds (op_numbered made.op) x) c.rels (sym (is.rels (op_numbered made.op) x) ∙ list_all-from_AllPass (holds (op_numbered made.op) x) made.rels of_made.1.relations));
    },
  )

  back : (x : Assignment) → IsMadeOf c x → IsMadeOf made x
  back x of_case = (
    of_case.0,
    record {
      op = of_case.1.op ∙ sym is.op;
      domains = λ s. subst (λ (xs : List ℕ). is_in xs (value_of x s) ≡ true) (sym (same_domain s)) (of_case.1.domains s);
      relations = subst (λ (n : ℕ). AllHold (op_numbered n) made.rels x) (sym is.op) (AllPass-from_list_all (holds (op_numbered c.op) x) made.rels (is.rels (op_numbered c.op) x ∙ list_all-from_AllPass (holds (op_numbered c.op) x) c.rels of_case.1.relations));
    },
  )

  pub least_alike : (ps : List ℕ) (o : Option Assignment) → LeastOrNone ps (IsMadeOf made) o → LeastOrNone ps (IsMadeOf c) o
  least_alike ps o least = as_well ps (IsMadeOf made) (IsMadeOf c) there back o least
