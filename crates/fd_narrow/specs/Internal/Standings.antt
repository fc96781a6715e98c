-- How the values of rs1 and rs2 stand to each other.
use Rattle.std.specs.Prelude.{◌≡◌, ℕ, ◌^◌, ◌<◌, nat_lt, if◌then◌else◌, List}
use Rattle.rv_isa.specs.declared.operation.Op.{Op}
use Rattle.rv_isa.specs.declared.operation.Op.TheVariants.{Blt, Bge}
use Rattle.fd_prob.specs.declared.problem.Assignment.{Assignment}
use Rattle.fd_prob.specs.declared.relation.Rel.{Rel}
use Rattle.fd_prob.specs.declared.slot.Slot.TheVariants as slots
use Rattle.fd_prob.specs.Relations.{value_of}
use Rattle.word_sets.specs.declared.orders.Order.{Order}
use Rattle.word_sets.specs.declared.orders.Order.TheVariants.{Signed, Unsigned}
use Rattle.fd_narrow.specs.declared.standings.Standing.{Standing}
use Rattle.fd_narrow.specs.declared.standings.Standing.TheVariants.{Less, Equal, Greater}
use Rattle.fd_narrow.specs.Narrowing.{AllHold, IsInside}
use Rattle.word_sets.specs.Internal.Orders.{rank}

-- the order in which an operation compares; where it compares in none, that of unsigned words
abbrev pub order_of : Op → Order
order_of Blt = Signed
order_of Bge = Signed
order_of _ = Unsigned

-- how a word stands to another
abbrev pub standing : Order → ℕ → ℕ → Standing
standing order a b = if nat_lt (rank order a) (rank order b) then Less else (if nat_lt (rank order b) (rank order a) then Greater else Equal)

-- how the value of rs1 stands to that of rs2, both of them words
pub record Stands (op : Op) (how : Standing) (x : Assignment) : Type 0 where
  pub first : value_of x slots.A < 2 ^ 32
  pub second : value_of x slots.B < 2 ^ 32
  pub is : standing (order_of op) (value_of x slots.A) (value_of x slots.B) ≡ how

-- nothing inside that stands so meets the relations
abbrev pub IsRuledOut : List (List ℕ) → Op → List Rel → Standing → Type 0
IsRuledOut doms op rels how = (x : Assignment) → IsInside doms x → Stands op how x → AllHold op rels x → ⊥

-- nothing inside meets the relations
abbrev pub IsUnfit : List (List ℕ) → Op → List Rel → Type 0
IsUnfit doms op rels = (x : Assignment) → IsInside doms x → AllHold op rels x → ⊥
