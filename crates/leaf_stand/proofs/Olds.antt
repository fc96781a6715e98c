-- The values that untouched CSRs may be started with, as sets.
use Rattle.std.proofs.Common.{◌≡◌, ℕ, ◌<◌, ◌^◌, ◌%◌, Bool, true, ◌&&◌, List, [], ◌∷◌, ap, sym, ◌∙◌, arith}
use Rattle.std.specs.Bool.{◌==◌}
use Rattle.std.proofs.lemmas.Bool.Decides.{nat_tests}
use Rattle.dom_set.specs.Elements.{elements_of, is_within}
use Rattle.rv_csr.specs.declared.table.LazyRegister.{LazyRegister}
use Rattle.rv_csr.specs.declared.table.LazyRegister.TheVariants.{Mcause, Scause}
use Rattle.rv_hart.specs.Privileged.{lazy_address}
use Rattle.leaf_link.specs.Firsts.{is_modelled}
use Rattle.leaf_link.specs.Turns.{Turn, may_be_old}
use Rattle.data_bytes.specs.Sets.{IsSetOf}
use Rattle.leaf_stand.proofs.Sets.{elements_are}

abbrev to_supervisor : ℕ → Bool
to_supervisor x = x % 1 == 0 && is_within ((0, 9) ∷ (12, 13) ∷ (15, 15) ∷ []) x

abbrev of_causes : ℕ → Bool
of_causes x = x % 1 == 0 && is_within ((0, 9) ∷ (11, 13) ∷ (15, 15) ∷ []) x

scause_test : (t : Turn) (v : ℕ) → v < 2 ^ 32 → to_supervisor v ≡ may_be_old t (lazy_address Scause) v
scause_test t v small = grind (arith, nat_tests)

mcause_test : (t : Turn) (v : ℕ) → v < 2 ^ 32 → of_causes v ≡ may_be_old t (lazy_address Mcause) v
mcause_test t v small = grind (arith, nat_tests)

pub scause_set : (t : Turn) (set : List ℕ) → set ≡ elements_of to_supervisor → IsSetOf (may_be_old t (lazy_address Scause)) set
scause_set t set e v small = elements_are to_supervisor set e v small ∙ scause_test t v small

pub mcause_set : (t : Turn) (set : List ℕ) → set ≡ elements_of of_causes → IsSetOf (may_be_old t (lazy_address Mcause)) set
mcause_set t set e v small = elements_are of_causes set e v small ∙ mcause_test t v small

-- registers for which every word is legal
pub any_word : (t : Turn) (register : LazyRegister) (set : List ℕ) → ((v : ℕ) → may_be_old t (lazy_address register) v ≡ true) → set ≡ elements_of (λ x. true) → IsSetOf (may_be_old t (lazy_address register)) set
any_word t register set all e v small = elements_are (λ x. true) set e v small ∙ sym (all v)

-- the addresses of the modelled CSRs
multiple_of_one : (v : ℕ) (b : Bool) → (v % 1 == 0 && b) ≡ b
multiple_of_one v b = (let one : (v % 1 == 0) ≡ true = grind (arith, nat_tests) in ap (λ (c : Bool). c && b) one)

pub modelled_set : (pairs : List (ℕ × ℕ)) (set : List ℕ) → set ≡ elements_of (λ x. x % 1 == 0 && is_within pairs x) → ((v : ℕ) → is_within pairs v ≡ is_modelled v) → IsSetOf is_modelled set
modelled_set pairs set e are v small = elements_are (λ x. x % 1 == 0 && is_within pairs x) set e v small ∙ multiple_of_one v (is_within pairs v) ∙ are v
