-- The words that jump into a set.
use Rattle.std.proofs.Common.{◌≡◌, ℕ, ◌-◌, ◌%◌, Bool, List, IsTrue, sym, ap, ◌∙◌, subst}
use Rattle.dom_set.specs.Elements.{elements_of, is_in}
use Rattle.dom_set.specs.Laws.{ElementsPass, IsInTests}
use Rattle.set_sums.proofs.Members.{is_in-elements_of}
use Rattle.word_sets.specs.Internal.Targets.{HasOddToo}

module _ (pass : ElementsPass) (tests : IsInTests) where
  pub odd_has : (set made : List ℕ) → made ≡ elements_of (λ x. is_in set (x - x % 2)) → HasOddToo set made
  odd_has set made is v small h = subst (λ (b : Bool). IsTrue b) (sym (ap (λ (d : List ℕ). is_in d v) is ∙ is_in-elements_of pass tests (λ x. is_in set (x - x % 2)) v small)) h
