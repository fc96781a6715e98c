-- The two orders of words.
use Rattle.std.specs.Prelude.{ℕ, ◌+◌, ◌%◌, ◌^◌, ◌<◌, ◌≤◌, List, All, IsTrue}
use Rattle.dom_set.specs.Elements.{is_in}
use Rattle.word_sets.specs.declared.orders.Order.{Order}
use Rattle.word_sets.specs.declared.orders.Order.TheVariants.{Signed, Unsigned}

-- where a word stands in an order: of the signed ones the least, 2 ^ 31, is first
abbrev pub rank : Order → ℕ → ℕ
rank Unsigned v = v
rank Signed v = (v + 2 ^ 31) % 2 ^ 32

-- a set of words whose ranks are between two numbers
pub record HasEnds (order : Order) (set : List ℕ) (ends : ℕ × ℕ) : Type 0 where
  pub words : All (λ v. v < 2 ^ 32) set
  pub between : (v : ℕ) → IsTrue (is_in set v) → (ends.0 ≤ rank order v) × (rank order v ≤ ends.1)
