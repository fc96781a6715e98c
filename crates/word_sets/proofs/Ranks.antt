-- Where words stand in the order of signed ones.
use Rattle.std.proofs.Common.{◌≡◌, ℕ, ◌+◌, ◌-◌, ◌%◌, ◌<◌, ◌^◌, Bool, List, All, IsTrue, sym, ap, ◌∙◌, subst, arith}
use Rattle.dom_set.specs.Elements.{is_in}
use Rattle.set_sums.proofs.Members.{element}
use Rattle.word_sets.specs.declared.orders.Order.TheVariants.{Signed}
use Rattle.word_sets.specs.Internal.Orders.{rank}

turned_back : (v : ℕ) → v < 2 ^ 32 → ((v + 2 ^ 31) % 2 ^ 32 + (2 ^ 32 - 2 ^ 31)) % 2 ^ 32 ≡ v
turned_back v small = omega arith

below_words : (n : ℕ) → n % 2 ^ 32 < 2 ^ 32
below_words n = omega arith

pub signed_ranks : (set ranks : List ℕ) → All (λ v. v < 2 ^ 32) set → ((v : ℕ) → v < 2 ^ 32 → is_in ranks v ≡ is_in set ((v + (2 ^ 32 - 2 ^ 31)) % 2 ^ 32)) → (v : ℕ) → IsTrue (is_in set v) → IsTrue (is_in ranks (rank Signed v))
signed_ranks set ranks words is v h = subst (λ (b : Bool). IsTrue b) (sym (is ((v + 2 ^ 31) % 2 ^ 32) (below_words (v + 2 ^ 31)) ∙ ap (is_in set) (turned_back v (element (λ n. n < 2 ^ 32) set v words h)))) h
