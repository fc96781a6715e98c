-- What the targets of jumps say of variables.
use Rattle.std.proofs.Common.{◌≡◌, ℕ, ◌+◌, ◌-◌, ◌%◌, ◌<◌, ◌^◌, List, IsTrue, subst, arith}
use Rattle.dom_set.specs.Elements.{is_in}
use Rattle.fd_prob.specs.declared.problem.Assignment.{Assignment}
use Rattle.fd_prob.specs.declared.slot.Slot.TheVariants as slots
use Rattle.fd_prob.specs.Relations.{value_of}
use Rattle.fd_narrow.specs.Internal.Steps.{Leaves}
use Rattle.word_sets.specs.Internal.Targets.{HasOddToo}
use Rattle.fd_narrow.proofs.Compositions.{followed, weakened}

pub indirect_narrows : (a b c : List (List ℕ)) (set sums : List ℕ) → HasOddToo set sums → Leaves (λ x. IsTrue (is_in sums ((value_of x slots.A + value_of x slots.Imm) % 2 ^ 32))) a b → Leaves (λ x. IsTrue (is_in sums ((value_of x slots.Imm + value_of x slots.A) % 2 ^ 32))) b c → Leaves (λ x. IsTrue (is_in set ((value_of x slots.A + value_of x slots.Imm) % 2 ^ 32 - (value_of x slots.A + value_of x slots.Imm) % 2 ^ 32 % 2))) a c
indirect_narrows a b c set sums has one two =
    let P : Assignment → Type 0 = λ x. IsTrue (is_in set ((value_of x slots.A + value_of x slots.Imm) % 2 ^ 32 - (value_of x slots.A + value_of x slots.Imm) % 2 ^ 32 % 2)) in
    let in_sums : (x : Assignment) → P x → IsTrue (is_in sums ((value_of x slots.A + value_of x slots.Imm) % 2 ^ 32)) = λ x h. has ((value_of x slots.A + value_of x slots.Imm) % 2 ^ 32) (below (value_of x slots.A + value_of x slots.Imm)) h in
    followed P a b c
    (weakened (λ x. IsTrue (is_in sums ((value_of x slots.A + value_of x slots.Imm) % 2 ^ 32))) P a b (λ x inside h. in_sums x h) one)
    (weakened (λ x. IsTrue (is_in sums ((value_of x slots.Imm + value_of x slots.A) % 2 ^ 32))) P b c (λ x inside h. subst (λ (n : ℕ). IsTrue (is_in sums (n % 2 ^ 32))) (turned (value_of x slots.A) (value_of x slots.Imm)) (in_sums x h)) two) where
      below : (n : ℕ) → n % 2 ^ 32 < 2 ^ 32
      below n = omega arith

      turned : (m n : ℕ) → m + n ≡ n + m
      turned m n = omega arith
