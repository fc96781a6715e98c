-- The problem of a leaf.
use Rattle.std.specs.Prelude.{◌≡◌, ℕ, List, slice_index}
use Rattle.rv_script.specs.Folds.{Entry}
use Rattle.addr_rows.specs.Walks.{EntryRow}
use Rattle.tpl_ast.specs.declared.template.Atom.{Atom}
use Rattle.fd_prob.specs.declared.problem.Problem.{Problem}
use Rattle.fd_prob.specs.declared.slot.Slot.{Slot}
use Rattle.fd_prob.specs.Slots.{slot_number}
use Rattle.leaf_link.specs.Turns.{Turn}
use Rattle.leaf_link.specs.Firsts.{IsPosedProblem, leaf_draw}
use Rattle.leaf_link.specs.Ways.{IsFetched}
use Rattle.leaf_stand.specs.declared.stand.Stand.{Stand}
use Rattle.leaf_stand.specs.DataRows.{AreRowsOf}
use Rattle.leaf_stand.specs.Stands.{IsStandOf}

-- the problem is that of the leaf at every turn that the stand tells, whose fetch is settled; whatever the rows of the addresses of loads and stores
abbrev pub PosesLeaf : Stand → List Atom → List ℕ → Problem → Type 0
PosesLeaf s leaf draws p =
    (t : Turn) (walk : List Entry) (pa : ℕ) (loads stores : List EntryRow) → IsStandOf s t walk pa → IsFetched t walk pa → AreRowsOf s t leaf loads stores
    → IsPosedProblem t walk pa leaf loads stores draws p

-- the draws for the variables are those of the turn without the two for its fetch
abbrev pub ArePivots : List ℕ → List ℕ → Type 0
ArePivots draws pivots = (s : Slot) → slice_index pivots (slot_number s) ≡ leaf_draw draws s
