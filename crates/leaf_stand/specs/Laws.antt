-- What holds of the leaves of templates.
use Rattle.std.specs.Prelude.{◌≡◌, true, List}
use Rattle.std.specs.List.{AllByRecursion}
use Rattle.tpl_ast.specs.declared.template.Atom.{Atom}
use Rattle.tpl_ast.specs.Leaves.{IsPlain}
use Rattle.leaf_stand.specs.Relations.{are_between}

-- they compare only variables of problems
abbrev pub LeavesAreBetween : Type 0
LeavesAreBetween = (leaf : List Atom) → AllByRecursion IsPlain leaf → are_between leaf ≡ true
