-- Relations while those of a jump's target are joined into one.
use Rattle.std.specs.Prelude.{◌≡◌, ◌==◌, ℕ, Bool, true, ◌&&◌, List, Option, Some, None, count_by}
use Rattle.std.specs.List.{list_all}
use Rattle.rv_isa.specs.declared.operation.Op.{Op}
use Rattle.fd_prob.specs.declared.problem.Assignment.{Assignment}
use Rattle.fd_prob.specs.Relations.{holds}
use Rattle.case_search.specs.declared.targets.Targets.{Targets}
use Rattle.case_search.specs.Internal.Stronger.{is_at_target, is_target}

-- the relations hold, and the target is in the set
abbrev pub all_hold : Op → Assignment → Targets → Bool
all_hold op x t = list_all (holds op x) t.rels && is_at_target op x t.target

-- the target, if there is one, is at the pc
abbrev pub is_here : ℕ → Option (ℕ × List ℕ) → Bool
is_here pc None = true
is_here pc (Some t) = t.0 == pc

-- the same, and none of the relations beside it is one of a target
abbrev pub IsGathered : ℕ → Targets → Type 0
IsGathered pc t = (is_here pc t.target ≡ true) × (count_by is_target t.rels ≡ 0)
