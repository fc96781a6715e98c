use Rattle.std.proofs.Common.{◌≡◌, ◌-◌, ◌≤◌, ◌&&◌, ltb, ℕ}
use Rattle.dom_set.specs.Elements.{is_within}
use Rattle.lane_bits.specs.Pages.{has}
use Rattle.foot_map.proofs.runs.runs.Given as goal

abbrev pub invariant-loop-first : goal.invariant-loop-first
invariant-loop-first l = record {
  within : (x : ℕ) → is_within l.runs.items x ≡ (has l.page x && ltb x l.from);
  end : l.from ≤ 4096;
}

abbrev pub decreases-loop-first : goal.decreases-loop-first
decreases-loop-first l = 4096 - l.from
