use Rattle.foot_map.specs.declared.clash.Clash.{Clash}
use Rattle.foot_map.specs.Races.{IsClash}
use Rattle.foot_map.proofs.touches.first_clash.Given as goal

abbrev pub invariant-loop-i : goal.invariant-loop-i
invariant-loop-i l = (d : Clash) → IsClash l.touches l.hart l.role l.addr l.i d → ⊥
