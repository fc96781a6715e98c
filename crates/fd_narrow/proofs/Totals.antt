-- What sums say of variables.
use Rattle.std.proofs.Common.{◌≡◌, ℕ, ◌+◌, ◌%◌, ◌^◌, List, IsTrue, sym, ap, ◌∙◌, subst, arith, eqb-true, eq-eqb}
use Rattle.dom_set.specs.Elements.{is_in}
use Rattle.fd_prob.specs.declared.problem.Assignment.{Assignment}
use Rattle.fd_prob.specs.declared.slot.Slot.{Slot}
use Rattle.fd_prob.specs.Relations.{is_sum, value_of}
use Rattle.fd_narrow.specs.Narrowing.{IsInside, domain_in}
use Rattle.set_sums.specs.Internal.Spans.{HasDifferencesWithin, HasHalves, HasSumsWithin}
use Rattle.fd_narrow.specs.Internal.Steps.{IsValueIn, Leaves}
use Rattle.fd_narrow.proofs.Compositions.{followed, weakened}

summed : (x : Assignment) (s t u : Slot) → IsTrue (is_sum x s t u) → (value_of x s + value_of x t) % 2 ^ 32 ≡ value_of x u
summed x s t u h = eqb-true ((value_of x s + value_of x t) % 2 ^ 32) (value_of x u) h

-- the value is in the domain, under its name in the code
pub there : (doms : List (List ℕ)) (s : Slot) (set : List ℕ) (x : Assignment) → set ≡ domain_in doms s → IsInside doms x → IsTrue (is_in set (value_of x s))
there doms s set x at_s inside = subst (λ (d : List ℕ). IsTrue (is_in d (value_of x s))) (sym at_s) (inside s)

-- the sum of two values is in the domain of the third
sum_there : (a : List (List ℕ)) (s t u : Slot) (whole : List ℕ) (x : Assignment) → whole ≡ domain_in a u → IsInside a x → IsTrue (is_sum x s t u) → IsTrue (is_in whole ((value_of x s + value_of x t) % 2 ^ 32))
sum_there a s t u whole x at_u inside sum = subst (λ (n : ℕ). IsTrue (is_in whole n)) (sym (summed x s t u sum)) (there a u whole x at_u inside)

pub total_narrows : (a b : List (List ℕ)) (s t u : Slot) (first second whole totals : List ℕ) → first ≡ domain_in a s → second ≡ domain_in a t → whole ≡ domain_in a u → HasSumsWithin first second whole totals → Leaves (IsValueIn u totals) a b → Leaves (λ x. IsTrue (is_sum x s t u)) a b
total_narrows a b s t u first second whole totals at_s at_t at_u sums leaves = weakened (IsValueIn u totals) (λ x. IsTrue (is_sum x s t u)) a b
    (λ x inside sum small. subst (λ (n : ℕ). IsTrue (is_in totals n)) (summed x s t u sum) (sums (value_of x s) (value_of x t) (there a s first x at_s inside) (there a t second x at_t inside) (sum_there a s t u whole x at_u inside sum))) leaves

pub part_narrows : (a b : List (List ℕ)) (s t u : Slot) (whole second domain parts : List ℕ) → whole ≡ domain_in a u → second ≡ domain_in a t → domain ≡ domain_in a s → HasDifferencesWithin whole second domain parts → Leaves (IsValueIn s parts) a b → Leaves (λ x. IsTrue (is_sum x s t u)) a b
part_narrows a b s t u whole second domain parts at_u at_t at_s differences leaves = weakened (IsValueIn s parts) (λ x. IsTrue (is_sum x s t u)) a b
    (λ x inside sum small. differences (value_of x s) (value_of x t) (there a s domain x at_s inside) (there a t second x at_t inside) (sum_there a s t u whole x at_u inside sum)) leaves

turned_sum : (x : Assignment) (s t u : Slot) → IsTrue (is_sum x s t u) → IsTrue (is_sum x t s u)
turned_sum x s t u h = eq-eqb ((value_of x t + value_of x s) % 2 ^ 32) (value_of x u) (ap (λ (n : ℕ). n % 2 ^ 32) (turned (value_of x t) (value_of x s)) ∙ summed x s t u h) where
  turned : (a b : ℕ) → a + b ≡ b + a
  turned a b = omega arith

pub sum_narrows : (a b c d : List (List ℕ)) (s t u : Slot) → Leaves (λ x. IsTrue (is_sum x s t u)) a b → Leaves (λ x. IsTrue (is_sum x s t u)) b c → Leaves (λ x. IsTrue (is_sum x t s u)) c d → Leaves (λ x. IsTrue (is_sum x s t u)) a d
sum_narrows a b c d s t u one two three =
    let P : Assignment → Type 0 = λ x. IsTrue (is_sum x s t u) in
    followed P a c d (followed P a b c one two) (weakened (λ x. IsTrue (is_sum x t s u)) P c d (λ x inside sum. turned_sum x s t u sum) three)

-- the sum is twice the variable
pub doubled_narrows : (a b c : List (List ℕ)) (s u : Slot) (whole halved : List ℕ) → whole ≡ domain_in b u → HasHalves whole halved → Leaves (λ x. IsTrue (is_sum x s s u)) a b → Leaves (IsValueIn s halved) b c → Leaves (λ x. IsTrue (is_sum x s s u)) a c
doubled_narrows a b c s u whole halved at_u halves one two =
    let P : Assignment → Type 0 = λ x. IsTrue (is_sum x s s u) in
    followed P a b c one (weakened (IsValueIn s halved) P b c
    (λ x inside sum small. halves (value_of x s) small (subst (λ (n : ℕ). IsTrue (is_in whole n)) (sym (summed x s s u sum)) (there b u whole x at_u inside))) two)
