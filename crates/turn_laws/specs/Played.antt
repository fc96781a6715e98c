-- A step of a hart that is played on what its turn knows and on what it starts.
use Rattle.std.specs.Prelude.{◌≡◌, ℕ, Bool, true, false, List, None}
use Rattle.rv_isa.specs.declared.instruction.Instr.{Instr}
use Rattle.rv_script.specs.declared.access.Access.{Access}
use Rattle.rv_script.specs.declared.place.Place.{Place}
use Rattle.rv_script.specs.Lists.{HasItem}
use Rattle.rv_script.specs.Folds.{Answer.Does, Entry, Known, by_known}
use Rattle.rv_script.specs.Logs.{answer_told, enlarged, entry_label, entry_place, started}
use Rattle.foot_map.specs.Races.{Meet, breaks}
use Rattle.rv_hart.specs.declared.record.Change.{Change}
use Rattle.rv_hart.specs.Machine.{script}
use Rattle.tpl_ast.specs.declared.template.Atom.{Atom}
use Rattle.leaf_link.specs.Turns.{Turn, is_free_entry, may_start}
use Rattle.leaf_link.specs.Candidates.{IsCandidate, accesses_in}
use Rattle.leaf_link.specs.Faults.{IsFaultCandidate}

-- the step starts just the places that it asks for and that were not known, each of which some instruction may start with this value; no access races with what was
-- touched before, and none with another one of the step
pub record IsPlayed (t : Turn) (new : Known) (log : List Entry) (change : Change) : Type 0 where
  pub plays : answer_told (by_known (enlarged t.known new)) (script t.fixed) ≡ Does log change
  pub exact : (place : Place) → new place ≡ started t.known log place
  pub may : (e : Entry) → HasItem log e → t.known (entry_place e) ≡ None → (i : Instr) × (may_start t i (entry_label e) (entry_place e) e.value ≡ true)
  pub free : (e : Entry) → HasItem log e → is_free_entry t e ≡ true
  pub apart : (x y : Access) → HasItem (accesses_in log) x → HasItem (accesses_in log) y → Meet x y → breaks true x.role y.role ≡ false

-- so is the step of a candidate
abbrev pub CandidatesArePlayed : Type 0
CandidatesArePlayed = (t : Turn) (leaf : List Atom) (new : Known) → (c : IsCandidate t leaf new) → IsPlayed t new c.log c.change

-- and a step whose fetch fails
abbrev pub FaultsArePlayed : Type 0
FaultsArePlayed = (t : Turn) (causes : ℕ → Bool) (new : Known) → (c : IsFaultCandidate t causes new) → IsPlayed t new c.log c.change
