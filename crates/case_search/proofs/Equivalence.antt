-- Cases that the same assignments fit.
use Rattle.std.proofs.Common.{◌≡◌, ℕ, Bool, ◌&&◌, ◌==◌, List, Option, length, sym, ap, ◌∙◌, subst, arith}
use Rattle.std.specs.List.{list_all}
use Rattle.std.proofs.lemmas.List.Sums.{AllPass-from_list_all, list_all-from_AllPass}
use Rattle.set_sums.proofs.Members.{same}
use Rattle.rv_isa.specs.declared.operation.Op.{Op}
use Rattle.rv_isa.specs.Numbers.{op_numbered}
use Rattle.fd_narrow.specs.Narrowing.{AllHold, IsInside, Narrows}
use Rattle.fd_prob.specs.declared.problem.Assignment.{Assignment}
use Rattle.fd_prob.specs.declared.problem.Case.{Case}
use Rattle.fd_prob.specs.declared.relation.Rel.{Rel}
use Rattle.fd_prob.specs.declared.slot.Slot.TheVariants as slots
use Rattle.fd_prob.specs.Fitting.{IsCase, fits_case, is_within}
use Rattle.fd_prob.specs.Laws.{IsOfCase}
use Rattle.fd_prob.specs.Relations.{holds, value_of}
use Rattle.fd_prob.proofs.Fitted.{fits_its_case, of_case}
use Rattle.case_search.specs.Equivalent.{IsEquivalent}
use Rattle.case_search.specs.Search.{IsMadeOf, LeastOrNone}
use Rattle.case_search.specs.Internal.Stronger.{IsAlike}
use Rattle.case_search.proofs.Inside.{each_of, inside_of, within_same}
use Rattle.case_search.proofs.Joining.{case_alike}
use Rattle.case_search.proofs.Orders.{as_well}

pub followed : (a b c : Case) → IsEquivalent a b → IsEquivalent b c → IsEquivalent a c
followed a b c one two = record { whole = two.whole; op = two.op ∙ one.op; same = λ x. two.same x ∙ one.same x }

pub alike_same : (c made : Case) → IsAlike c made → (x : Assignment) → fits_case x made ≡ fits_case x c
unfolding fits_case
alike_same c made is x =
    ap (λ (n : ℕ). (n == value_of x slots.Op && is_within made x) && list_all (holds (op_numbered n) x) made.rels) is.op
    ∙ ap (λ (b : Bool). (c.op == value_of x slots.Op && b) && list_all (holds (op_numbered c.op) x) made.rels) (within_same made c x is.doms)
    ∙ ap (λ (b : Bool). (c.op == value_of x slots.Op && is_within c x) && b) (is.rels (op_numbered c.op) x)

pub alike_equivalent : (c made : Case) → IsCase c → IsAlike c made → IsEquivalent c made
alike_equivalent c made whole is = record { whole = case_alike c made is whole; op = is.op; same = alike_same c made is }

-- with domains from which its relations took values away
pub narrow_equivalent : (c made : Case) → IsCase c → made.op ≡ c.op → made.rels ≡ c.rels → length made.doms ≡ 14 → Narrows (op_numbered c.op) c.rels c.doms made.doms → IsEquivalent c made
narrow_equivalent c made whole op_is rels_are long narrows = record {
  whole = record { op = omega (arith, op_is, whole.op); domains = long };
  op = op_is;
  same = λ x. same (fits_case x made) (fits_case x c) (λ fits. fits_its_case x c (there x (of_case x made fits))) (λ fits. fits_its_case x made (back x (of_case x c fits)));
} where
  there : (x : Assignment) → IsOfCase x made → IsOfCase x c
  there x is = record {
    op = is.op ∙ op_is;
    domains = each_of c x (narrows.within x (inside_of made x is.domains));
    relations = subst (λ (n : ℕ). AllHold (op_numbered n) c.rels x) op_is (subst (λ (rels : List Rel). AllHold (op_numbered made.op) rels x) rels_are is.relations);
  }

  back : (x : Assignment) → IsOfCase x c → IsOfCase x made
  back x is = record {
    op = is.op ∙ sym op_is;
    domains = each_of made x (narrows.keeps x (inside_of c x is.domains) is.relations);
    relations = subst (λ (n : ℕ). AllHold (op_numbered n) made.rels x) (sym op_is) (subst (λ (rels : List Rel). AllHold (op_numbered c.op) rels x) (sym rels_are) is.relations);
  }

-- with relations that hold together where its own do, of what is in its domains
pub possible_equivalent : (c made : Case) → IsCase c → made.op ≡ c.op → made.doms ≡ c.doms → ((op : Op) (x : Assignment) → IsInside c.doms x → list_all (holds op x) made.rels ≡ list_all (holds op x) c.rels) → IsEquivalent c made
possible_equivalent c made whole op_is doms_are rels_hold = record {
  whole = record { op = omega (arith, op_is, whole.op); domains = ap length doms_are ∙ whole.domains };
  op = op_is;
  same = λ x. same (fits_case x made) (fits_case x c) (λ fits. fits_its_case x c (there x (of_case x made fits))) (λ fits. fits_its_case x made (back x (of_case x c fits)));
} where
  there : (x : Assignment) → IsOfCase x made → IsOfCase x c
  there x is =
      let inside : IsInside c.doms x = subst (λ (ds : List (List ℕ)). IsInside ds x) doms_are (inside_of made x is.domains) in
      let all : AllHold (op_numbered c.op) made.rels x = subst (λ (n : ℕ). AllHold (op_numbered n) made.rels x) op_is is.relations in
      record {
        op = is.op ∙ op_is;
        domains = each_of c x inside;
        relations = AllPass-from_list_all (holds (op_numbered c.op) x) c.rels (sym (rels_hold (op_numbered c.op) x inside) ∙ list_all-from_AllPass (holds (op_numbered c.op) x) made.rels all);
      }

  back : (x : Assignment) → IsOfCase x c → IsOfCase x made
  back x is =
      let inside : IsInside c.doms x = inside_of c x is.domains in
      let all : AllHold (op_numbered c.op) made.rels x = AllPass-from_list_all (holds (op_numbered c.op) x) made.rels (rels_hold (op_numbered c.op) x inside ∙ list_all-from_AllPass (holds (op_numbered c.op) x) c.rels is.relations) in
      record {
        op = is.op ∙ sym op_is;
        domains = each_of made x (subst (λ (ds : List (List ℕ)). IsInside ds x) (sym doms_are) inside);
        relations = subst (λ (n : ℕ). AllHold (op_numbered n) made.rels x) (sym op_is) all;
      }

-- the least of the one is that of the other
pub least_equivalent : (c made : Case) → IsEquivalent c made → (ps : List ℕ) (o : Option Assignment) → LeastOrNone ps (IsMadeOf made) o → LeastOrNone ps (IsMadeOf c) o
least_equivalent c made is ps o least =
    as_well ps (IsMadeOf made) (IsMadeOf c)
    (λ x of. (of.0, of_case x c (sym (is.same x) ∙ fits_its_case x made of.1)))
    (λ x of. (of.0, of_case x made (is.same x ∙ fits_its_case x c of.1)))
    o least
