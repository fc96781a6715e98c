-- Pivots are words.
use Rattle.std.proofs.Common.{◌≡◌, ℕ, zero, suc, ◌%◌, ◌<◌, ◌^◌, ◌==◌, Bool, true, false, cond, List, [], ◌∷◌, length, find, All, Option, Some, None, ⊎_elim, refl, sym, subst, arith}
use Rattle.std.proofs.lemmas.Nat.{mod_below}
use Rattle.std.proofs.lemmas.Option.{same_Some}
use Rattle.dom_set.specs.Elements.{is_in}
use Rattle.fd_prob.specs.declared.problem.Case.{Case}
use Rattle.fd_prob.specs.declared.problem.Problem.{Problem}
use Rattle.fd_prob.specs.declared.slot.Slot.{Slot}
use Rattle.fd_prob.specs.declared.slot.Slot.TheVariants as slots
use Rattle.fd_prob.specs.Fitting.{IsCase, IsProblem, domain_of}
use Rattle.fd_prob.specs.Order.{allowed_ops, domain_in, draw_of, picked, pivot_of}
use Rattle.fd_prob.specs.Slots.{slot_number}
use Rattle.fd_prob.specs.Spaces.{allowed_case, if_allowed, numbers_from}
use Rattle.fd_solve.specs.Laws.{ArePivotsWords, HasWordPicks}
use Rattle.fd_solve.proofs.AllOperations.{op_or_later}
use Rattle.fd_solve.proofs.Allowed.{Ops}
use Rattle.fd_solve.proofs.Pivoting.{pivot_later}

abbrev Words : List ℕ → Type 0
Words xs = All (λ v. v < 2 ^ 32) xs

all_found : {A : Type 0} (P : A → Type 0) (test : A → Bool) (xs : List A) (c : A) → All P xs → find test xs ≡ Some c → P c
all_found P test [] c all is = absurd (cc is)
all_found {A} P test (x ∷ xs) c all is =
    elim (test x) as (λ b. cond b (Some x) (find test xs) ≡ Some c → P c) [
      | true ↦ λ e. subst P (same_Some x c e) (all 0 x (omega arith))
      | false ↦ λ e. all_found P test xs c (λ k d lt. all (suc k) d (omega (arith, lt))) e
    ] is

one_more_word : (x : ℕ) (xs : List ℕ) → x < 2 ^ 32 → Words xs → Words (x ∷ xs)
one_more_word x xs here rest zero d lt = here
one_more_word x xs here rest (suc k) d lt = rest k d (omega (arith, lt))

pick_word : (draw : ℕ) (xs : List ℕ) → Words xs → picked draw xs < 2 ^ 32
pick_word draw [] words = omega arith
pick_word draw (x ∷ xs) words = words (draw % length (x ∷ xs)) 0 (mod_below draw (length (x ∷ xs)) (omega arith))

if_small : (o : Option Case) (c : Case) → ((k : Case) → o ≡ Some k → IsCase k) → if_allowed o ≡ Some c → c.op < 2 ^ 32
if_small None c of is = absurd (cc is)
if_small (Some k) c of is =
    elim (is_in (domain_of k slots.Op) k.op) as (λ b. cond b (Some k) None ≡ Some c → c.op < 2 ^ 32) [
      | true ↦ λ e. let small = subst IsCase (same_Some k c e) (of k refl) in omega (arith, small.op)
      | false ↦ λ e. absurd (cc e)
    ] is

allowed_small : (cases : List Case) (n : ℕ) (c : Case) → All IsCase cases → allowed_case cases n ≡ Some c → c.op < 2 ^ 32
unfolding allowed_case
allowed_small cases n c all is = if_small (find (λ k. k.op == n) cases) c (λ k found. all_found IsCase (λ k. k.op == n) cases k all found) is

ops_words : (cases : List Case) (numbers : List ℕ) → All IsCase cases → Words (Ops cases numbers)
ops_words cases [] all = λ k d lt. absurd (omega (arith, lt))
ops_words cases (n ∷ ns) all = by_case (ops_words cases ns all) (allowed_case cases n) refl where
  by_case : Words (Ops cases ns) → (o : Option Case) → allowed_case cases n ≡ o → Words (Ops cases (n ∷ ns))
  by_case rest None is = rw is rest
  by_case rest (Some c) is = rw is (one_more_word c.op (Ops cases ns) (allowed_small cases n c all is) rest)

operation_word : (p : Problem) (op : ℕ) → IsProblem p → pivot_of p op slots.Op < 2 ^ 32
unfolding pivot_of
operation_word p op problem = pick_word (draw_of p slots.Op) (allowed_ops p) (ops_words p.cases (numbers_from 0 58) problem)

pick_in : (p : Problem) (s : Slot) → 0 < slot_number s → (o : Option Case) → ((c : Case) → o ≡ Some c → HasWordPicks p c) → picked (draw_of p s) (domain_in o s) < 2 ^ 32
pick_in p s later None of = omega arith
pick_in p s later (Some c) of = of c refl s later

pub pivots_words : (p : Problem) → IsProblem p → All (HasWordPicks p) p.cases → ArePivotsWords p
pivots_words p problem picks op s = ⊎_elim
    (λ is. subst (λ (t : Slot). pivot_of p op t < 2 ^ 32) (sym is) (operation_word p op problem))
    (λ later. subst (λ (n : ℕ). n < 2 ^ 32) (sym (pivot_later p op s later)) (pick_in p s later (find (λ c. c.op == op) p.cases) (λ c found. all_found (HasWordPicks p) (λ c. c.op == op) p.cases c picks found)))
    (op_or_later s)
