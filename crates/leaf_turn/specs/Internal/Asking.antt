-- What biases add to the problem of a leaf.
use Rattle.std.specs.Prelude.{◌≡◌, ℕ, List, length, All}
use Rattle.rv_script.specs.Folds.{Entry}
use Rattle.addr_rows.specs.Walks.{EntryRow}
use Rattle.tpl_ast.specs.declared.template.Atom.{Atom}
use Rattle.fd_prob.specs.declared.problem.Extra.{Extra}
use Rattle.fd_prob.specs.declared.problem.Problem.{Problem}
use Rattle.leaf_link.specs.Turns.{Turn}
use Rattle.leaf_link.specs.Extras.{AllPlain, ArePosedExtras}
use Rattle.leaf_link.specs.KindLaws.{IsPosed}
use Rattle.leaf_stand.specs.declared.shape.Shape.{Shape}
use Rattle.leaf_stand.specs.declared.stand.Stand.{Stand}
use Rattle.leaf_stand.specs.DataRows.{AreRowsOf}
use Rattle.leaf_stand.specs.Stands.{IsStandOf}

-- at every turn that the stand tells, the Extras are the biases over the problem; whatever the rows of the addresses of loads and stores
abbrev pub AreExtrasOf : Stand → List Atom → List (List Atom) → Problem → List Extra → Type 0
AreExtrasOf s leaf biases p es =
    (t : Turn) (walk : List Entry) (pa : ℕ) (loads stores : List EntryRow) → IsStandOf s t walk pa → IsPosed t walk pa leaf → AreRowsOf s t leaf loads stores → AllPlain biases
    → ArePosedExtras t biases p es

-- each says of every case whether it stays
abbrev pub AreOfCases : List Shape → List Extra → Type 0
AreOfCases shapes es = All (λ e. length e.cases ≡ length shapes) es
