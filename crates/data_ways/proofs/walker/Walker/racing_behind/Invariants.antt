use Rattle.std.proofs.Common.{◌≡◌, ℕ, ◌<◌, ◌^◌, Bool, ◌||◌, drop}
use Rattle.dom_set.specs.Elements.{is_in}
use Rattle.row_parts.specs.declared.classes.Level.TheVariants.{Second}
use Rattle.data_ways.specs.Internal.Barring.{races}
use Rattle.data_ways.specs.Internal.Tables.{any_pointer, entry_of}
use Rattle.data_ways.proofs.walker.Walker.racing_behind.Given as goal

abbrev pub invariant-loop-pointer : goal.invariant-loop-pointer
invariant-loop-pointer g l =
    (ea : ℕ) → ea < 2 ^ 32 →
    let test : ℕ → Bool = λ frame. races (g.M.Words.at l.self.memory.now) l.self.feet.now l.self.hart (entry_of Second frame ea) in
    (is_in l.racing ea || any_pointer (drop l.pointer-index l.pointers) test ea) ≡ any_pointer l.pointers test ea
