use Rattle.std.proofs.Common.{◌≡◌, ℕ, true, ◌&&◌, not, drop, map, ◌++◌, length}
use Rattle.std.specs.Prelude.{All}
use Rattle.rv_script.specs.declared.access.Role.{Role}
use Rattle.rv_mem.specs.Part.{part_at}
use Rattle.foot_map.specs.Touches.{has}
use Rattle.part_machine.specs.Notes.{any_masked, touched, IsWordOf, IsWithinWord}
use Rattle.part_machine.proofs.notes.add_all.Given as goal

abbrev pub invariant-loop-access : goal.invariant-loop-access
invariant-loop-access l = record {
  added : (b h : ℕ) (r : Role) → touched l.hart (drop l.access-index l.accesses) (has l.feet) b h r ≡ touched l.hart l.accesses (has l.fn.feet) b h r;
  masked : (b h : ℕ) (r : Role) → any_masked l.hart l.notes b h r ≡ (has l.feet b h r && not (has l.fn.feet b h r));
  more : (b h : ℕ) (r : Role) → has l.fn.feet b h r ≡ true → has l.feet b h r ≡ true;
  places : map (λ x. x.addr) l.notes ++ map (λ x. x.addr) (drop l.access-index l.accesses) ≡ map (λ x. x.addr) l.accesses;
  count : length l.notes ≡ l.access-index;
  words : All (IsWordOf (part_at l.memory)) l.notes;
  within : All IsWithinWord l.notes;
}
