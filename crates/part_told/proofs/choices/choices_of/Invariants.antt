use Rattle.std.proofs.Common.{◌≡◌, take}
use Rattle.std.specs.List.{AllByRecursion}
use Rattle.tpl_ast.specs.States.{IsWord}
use Rattle.part_told.proofs.choices.choices_of.Given as goal

abbrev pub invariant-loop-way : goal.invariant-loop-way
invariant-loop-way l = record {
  same : l.made ≡ take l.way-index l.choices;
  words : AllByRecursion IsWord l.made;
}
