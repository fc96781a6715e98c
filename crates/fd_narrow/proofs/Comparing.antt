-- How two values stand to each other.
use Rattle.std.proofs.Common.{◌≡◌, ℕ, ◌<◌, ◌^◌, not, List, All, IsTrue, refl, sym, ap, ◌∙◌, arith, eqb-true, eq-eqb}
use Rattle.std.proofs.lemmas.Bool.Decides.{nat_tests}
use Rattle.rv_isa.specs.declared.operation.Op.{Op}
use Rattle.fd_prob.specs.declared.problem.Assignment.{Assignment}
use Rattle.fd_prob.specs.declared.slot.Slot.{Slot}
use Rattle.fd_prob.specs.declared.slot.Slot.TheVariants as slots
use Rattle.fd_prob.specs.Relations.{is_same, value_of}
use Rattle.word_sets.specs.declared.orders.Order.{Order}
use Rattle.word_sets.specs.declared.orders.Order.TheVariants.{Signed, Unsigned}
use Rattle.fd_narrow.specs.declared.standings.Standing.{Standing}
use Rattle.fd_narrow.specs.declared.standings.Standing.TheVariants.{Less, Equal, Greater}
use Rattle.fd_prob.specs.declared.relation.Rel.{Rel}
use Rattle.fd_narrow.specs.Narrowing.{domain_in}
use Rattle.fd_narrow.specs.Internal.Standings.{IsRuledOut, IsUnfit, Stands, order_of, standing}
use Rattle.set_sums.proofs.Members.{element}
use Rattle.fd_narrow.proofs.Totals.{there}

-- equal values stand as equal
alike : (order : Order) (a : ℕ) → standing order a a ≡ Equal
alike order a = grind (arith, nat_tests)

pub same_stand : (op : Op) (how : Standing) (x : Assignment) → Stands op how x → IsTrue (is_same x slots.A slots.B) → how ≡ Equal
same_stand op how x stands same =
    sym stands.is ∙ ap (standing (order_of op) (value_of x slots.A)) (sym (eqb-true (value_of x slots.A) (value_of x slots.B) same)) ∙ alike (order_of op) (value_of x slots.A)

-- words that stand as equal are equal
equal_ranks : (order : Order) (a b : ℕ) → a < 2 ^ 32 → b < 2 ^ 32 → standing order a b ≡ Equal → a ≡ b
equal_ranks Unsigned a b la lb h = grind (arith, nat_tests)
equal_ranks Signed a b la lb h = grind (arith, nat_tests)

equal_stand : (op : Op) (x : Assignment) → Stands op Equal x → IsTrue (is_same x slots.A slots.B)
equal_stand op x stands = eq-eqb (value_of x slots.A) (value_of x slots.B) (equal_ranks (order_of op) (value_of x slots.A) (value_of x slots.B) stands.first stands.second stands.is)

pub differing_stand : (op : Op) (x : Assignment) (s t : Slot) → Stands op Equal x → is_same x s t ≡ is_same x slots.A slots.B → IsTrue (not (is_same x s t)) → ⊥
differing_stand op x s t stands these differ = cc (differ, these ∙ equal_stand op x stands)

-- two words stand to each other in one of three ways
pub none_stand : (doms : List (List ℕ)) (op : Op) (rels : List Rel) (first second : List ℕ) → first ≡ domain_in doms slots.A → second ≡ domain_in doms slots.B → All (λ v. v < 2 ^ 32) first → All (λ v. v < 2 ^ 32) second → IsRuledOut doms op rels Less → IsRuledOut doms op rels Equal → IsRuledOut doms op rels Greater → IsUnfit doms op rels
none_stand doms op rels first second at_a at_b words others less equal greater x inside hold = by (standing (order_of op) (value_of x slots.A) (value_of x slots.B)) refl where
  word_a : value_of x slots.A < 2 ^ 32
  word_a = element (λ v. v < 2 ^ 32) first (value_of x slots.A) words (there doms slots.A first x at_a inside)

  word_b : value_of x slots.B < 2 ^ 32
  word_b = element (λ v. v < 2 ^ 32) second (value_of x slots.B) others (there doms slots.B second x at_b inside)

  by : (how : Standing) → standing (order_of op) (value_of x slots.A) (value_of x slots.B) ≡ how → ⊥
  by Less e = less x inside (record { first = word_a; second = word_b; is = e }) hold
  by Equal e = equal x inside (record { first = word_a; second = word_b; is = e }) hold
  by Greater e = greater x inside (record { first = word_a; second = word_b; is = e }) hold
