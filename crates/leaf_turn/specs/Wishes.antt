-- The atoms of a leaf: those that have to hold, and the biases.
use Rattle.std.specs.Prelude.{if◌then◌else◌, List, [], ◌∷◌, ◌++◌}
use Rattle.std.specs.List.{list_any}
use Rattle.tpl_ast.specs.declared.template.Atom.{Atom}
use Rattle.tpl_ast.specs.declared.template.Atom.TheVariants as atoms
use Rattle.tpl_ast.specs.declared.template.Var.TheVariants as vars
use Rattle.tpl_ast.specs.declared.template.Wish.{Wish}
use Rattle.tpl_admit.specs.Admitting.{fixes_outcome}

-- those that are no biases
abbrev pub unbiased : List Wish → List Atom
unbiased [] = []
unbiased (w ∷ ws) = if w.prefer then unbiased ws else w.atom ∷ unbiased ws

-- the step retires
abbrev pub retires : Atom
retires = atoms.In vars.Outcome (255 ∷ [])

-- a leaf that says nothing of the outcome wants its instruction to retire
abbrev pub mandatory_of : List Wish → List Atom
mandatory_of ws = unbiased ws ++ (if list_any fixes_outcome ws then [] else retires ∷ [])

-- each bias, as a list of its atom
abbrev pub biases_of : List Wish → List (List Atom)
biases_of [] = []
biases_of (w ∷ ws) = if w.prefer then (w.atom ∷ []) ∷ biases_of ws else biases_of ws
