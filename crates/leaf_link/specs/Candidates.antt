-- When a leaf's next step is a candidate.
use Rattle.std.specs.Prelude.{◌≡◌, ℕ, zero, suc, Bool, true, false, ◌&&◌, List, [], ◌∷◌, Option, Some, None}
use Rattle.rv_isa.specs.declared.instruction.Instr.{Instr}
use Rattle.rv_isa.specs.Reading.{decoded}
use Rattle.rv_script.specs.declared.access.Access.{Access}
use Rattle.rv_script.specs.declared.place.Place.{Place}
use Rattle.rv_script.specs.declared.place.Place.TheVariants.{Reg}
use Rattle.rv_script.specs.Lists.{HasItem}
use Rattle.rv_script.specs.Script.{Label.Fetched, access_of}
use Rattle.rv_script.specs.Folds.{Known, by_known, Answer.Does, Entry, notes_of}
use Rattle.foot_map.specs.Races.{breaks, Meet}
use Rattle.rv_hart.specs.declared.record.Change.{Change}
use Rattle.rv_hart.specs.Machine.{script}
use Rattle.rv_hart.specs.Whole.{record_of}
use Rattle.tpl_ast.specs.declared.template.Atom.{Atom}
use Rattle.tpl_ast.specs.declared.template.Atom.TheVariants as atoms
use Rattle.tpl_admit.specs.Variables.{Moment, value_of}
use Rattle.tpl_admit.specs.Truth.{are_same, is_among, holds}
use Rattle.rv_script.specs.Logs.{entry_place, entry_label, is_word, answer_told, labelled, enlarged, started}
use Rattle.leaf_link.specs.Turns.{Turn, may_start, is_free_entry}

-- WHAT ATOMS ARE JUDGED ON

-- the values of so many registers from a number on
abbrev pub registers_from : Known → ℕ → ℕ → List (Option ℕ)
registers_from known first zero = []
registers_from known first (suc n) = known (Reg first) ∷ registers_from known (suc first) n

-- the accesses of a step
abbrev pub accesses_in : List Entry → List Access
accesses_in log = notes_of access_of log

-- a step as admission sees it: its record, and the registers before it, those that it starts among them
abbrev pub moment_of : Turn → List Entry → Change → Moment
moment_of t log change = record {
  done = record_of t.fixed (accesses_in log) change;
  regs = registers_from (enlarged t.known (started t.known log)) 0 32;
  names = t.names;
  others = t.others;
}

-- a value is that of a bound name, or in the set of one that is not bound
abbrev pub is_named : Option ℕ → List ℕ → Option ℕ → Bool
is_named (Some n) set o = are_same o (Some n)
is_named None set o = is_among set o

-- an atom is true of a step, where the values of names that are not bound are still free
abbrev pub is_met : Turn → Moment → Atom → Bool
is_met t m (atoms.Is v name) = is_named (t.names name) (t.sets name) (value_of v m)
is_met t m (atoms.In v set) = holds (atoms.In v set) m
is_met t m (atoms.NotIn v set) = holds (atoms.NotIn v set) m
is_met t m (atoms.Same v u) = holds (atoms.Same v u) m
is_met t m (atoms.Differ v u) = holds (atoms.Differ v u) m
is_met t m atoms.Taken = holds atoms.Taken m
is_met t m atoms.NotTaken = holds atoms.NotTaken m
is_met t m atoms.Shared = holds atoms.Shared m

abbrev pub all_met : Turn → Moment → List Atom → Bool
all_met t m [] = true
all_met t m (atom ∷ leaf) = is_met t m atom && all_met t m leaf

-- CANDIDATES
-- They are judged on what is known at the turn. The step is played on that and on the new places alone: where it asks for anything else it is
-- not done, so it reads nothing that is neither started nor written.

-- all that is asked of a step but that it is made
pub record Meets (t : Turn) (leaf : List Atom) (i : Instr) (log : List Entry) (change : Change) : Type 0 where
  -- its fetch succeeds, and the instruction is that of the fetched word
  pub fetched : (e : Entry) × (labelled log Fetched ≡ Some e) × (decoded e.value ≡ Some i)
  -- what is new may be started with its value
  pub may : (e : Entry) → HasItem log e → t.known (entry_place e) ≡ None → may_start t i (entry_label e) (entry_place e) e.value ≡ true
  -- no new word serves two roles
  pub once : (e f : Entry) → HasItem log e → HasItem log f → t.known (entry_place e) ≡ None → entry_place e ≡ entry_place f → is_word (entry_place e) ≡ true → entry_label e ≡ entry_label f
  -- no access races with what was touched before, and none with another one of the step
  pub free : (e : Entry) → HasItem log e → is_free_entry t e ≡ true
  pub apart : (x y : Access) → HasItem (accesses_in log) x → HasItem (accesses_in log) y → Meet x y → breaks true x.role y.role ≡ false
  -- every atom is true of it
  pub atoms : all_met t (moment_of t log change) leaf ≡ true

-- the new places are those that the next step asks for and that were not known; the step needs no other
pub record IsStep (t : Turn) (leaf : List Atom) (new : Known) (i : Instr) (log : List Entry) (change : Change) : Type 0 where
  pub plays : answer_told (by_known (enlarged t.known new)) (script t.fixed) ≡ Does log change
  pub exact : (place : Place) → new place ≡ started t.known log place
  pub meets : Meets t leaf i log change

pub record IsCandidate (t : Turn) (leaf : List Atom) (new : Known) : Type 0 where
  pub instr : Instr
  pub log : List Entry
  pub change : Change
  pub is : IsStep t leaf new instr log change
