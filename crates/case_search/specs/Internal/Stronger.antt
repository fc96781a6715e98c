-- Cases with relations that tell more at once.
use Rattle.std.specs.Prelude.{◌≡◌, ◌==◌, ◌&&◌, ◌||◌, ◌≤◌, count_by, not, ℕ, Bool, true, false, List, Option, Some, None}
use Rattle.std.specs.List.{list_all, list_any}
use Rattle.rv_isa.specs.declared.operation.Op.{Op}
use Rattle.fd_prob.specs.declared.problem.Assignment.{Assignment}
use Rattle.fd_prob.specs.declared.problem.Case.{Case}
use Rattle.fd_prob.specs.declared.relation.Rel.{Rel}
use Rattle.fd_prob.specs.declared.relation.Rel.TheVariants.{Same, Linked, Target}
use Rattle.fd_prob.specs.declared.slot.Slot.{Slot}
use Rattle.fd_prob.specs.declared.slot.Slot.TheVariants as slots
use Rattle.fd_prob.specs.Relations.{has_target, holds}
use Rattle.fd_prob.specs.Slots.{slot_number}

-- others hold together where the relations do
abbrev pub AreAlike : List Rel → List Rel → Type 0
AreAlike rels made = (op : Op) (x : Assignment) → list_all (holds op x) made ≡ list_all (holds op x) rels

-- the same case, but that other relations hold together where those of the case do
pub record IsAlike (c made : Case) : Type 0 where
  pub op : made.op ≡ c.op
  pub doms : made.doms ≡ c.doms
  pub rels : AreAlike c.rels made.rels

-- the relation is one of a jump's target
abbrev pub is_target : Rel → Bool
is_target (Target pc set) = true
is_target _ = false

-- the relation is one of a target at another pc
abbrev pub is_elsewhere : ℕ → Rel → Bool
is_elsewhere pc (Target other set) = not (other == pc)
is_elsewhere pc _ = false

-- where all targets are at one pc, at most one of the others is one of a target
abbrev pub AreJoined : List Rel → List Rel → Type 0
AreJoined rels made = (pc : ℕ) → list_any (is_elsewhere pc) rels ≡ false → count_by is_target made ≤ 1

-- the target at a pc is in a set, unless there is none of them
abbrev pub is_at_target : Op → Assignment → Option (ℕ × List ℕ) → Bool
is_at_target op x None = true
is_at_target op x (Some t) = has_target op x t.0 t.1

-- the relation says that one register has one value
abbrev pub is_link : Rel → Bool
is_link Linked = true
is_link _ = false

-- the relation says that both variables have one value
abbrev pub equates : Slot → Slot → Rel → Bool
equates s t (Same a b) = (slot_number a == slot_number s && slot_number b == slot_number t) || (slot_number a == slot_number t && slot_number b == slot_number s)
equates s t _ = false

-- one register has one value, and both registers are the same, but no relation says that their values are
abbrev pub lacks_value : List Rel → Bool
lacks_value rels = list_any is_link rels && list_any (equates slots.Rs1 slots.Rs2) rels && not (list_any (equates slots.A slots.B) rels)
