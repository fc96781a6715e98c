-- The entry of a change of a place.
use Rattle.std.specs.Prelude.{◌≡◌, ℕ}
use Rattle.rv_hart.specs.declared.hart.Hart.{Hart}
use Rattle.part_machine.specs.declared.entry.Entry.{Entry}
use Rattle.part_machine.specs.declared.entry.Entry.TheVariants.{Place}
use Rattle.part_machine.specs.Whole.{bare, Whole, first_of, hart_of}

-- it holds hart k at the start and now
pub record IsPlaceEntry (k : ℕ) (w : Whole) (e : Entry) : Type 0 where
  pub first : Hart
  pub now : Hart
  pub is : e ≡ Place k first now
  pub first_is : bare first ≡ first_of k w
  pub now_is : bare now ≡ hart_of k w
