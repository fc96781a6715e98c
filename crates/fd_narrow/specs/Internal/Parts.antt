-- The four parts of a row.
use Rattle.std.specs.Prelude.{◌≡◌, ℕ, false, List, IsTrue}
use Rattle.std.specs.List.{list_any}
use Rattle.dom_set.specs.Elements.{is_in}
use Rattle.fd_prob.specs.declared.problem.Assignment.{Assignment}
use Rattle.fd_prob.specs.declared.relation.Quad.{Quad}
use Rattle.fd_prob.specs.declared.slot.Slot.{Slot}
use Rattle.fd_prob.specs.declared.slot.Slot.TheVariants as slots
use Rattle.fd_prob.specs.Relations.{is_in_row, value_of}
use Rattle.fd_narrow.specs.Narrowing.{IsInside}
use Rattle.fd_narrow.specs.declared.rows.Part.{Part}
use Rattle.fd_narrow.specs.declared.rows.Part.TheVariants.{Address, Root, Leaf, Word}

-- the variable that is in the part's set
abbrev pub slot_of : Part → Slot
slot_of Address = slots.Ea
slot_of Root = slots.FirstPte
slot_of Leaf = slots.SecondPte
slot_of Word = slots.DataWord

-- a row's set
abbrev pub part_of : Part → Quad → List ℕ
part_of Address row = row.ea
part_of Root row = row.root
part_of Leaf row = row.leaf
part_of Word row = row.word

-- what is inside and in one of the rows has a value that is not in the set
abbrev pub IsMissed : List (List ℕ) → Part → List Quad → List ℕ → Type 0
IsMissed doms part rows set = (x : Assignment) → IsInside doms x → IsTrue (list_any (is_in_row x) rows) → is_in set (value_of x (slot_of part)) ≡ false

-- the new set has nothing that the old one lacks, and no value of what is inside and in the row
pub record IsLess (doms : List (List ℕ)) (part : Part) (row : Quad) (old new : List ℕ) : Type 0 where
  pub lacks : (v : ℕ) → is_in old v ≡ false → is_in new v ≡ false
  pub misses : (x : Assignment) → IsInside doms x → IsTrue (is_in_row x row) → is_in new (value_of x (slot_of part)) ≡ false
