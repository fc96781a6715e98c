-- RAM as the regions of a template.
use Rattle.std.specs.Prelude.{◌≡◌, ◌%◌, List}
use Rattle.std.specs.List.{AllByRecursion}
use Rattle.tpl_ast.specs.declared.template.Region.{Region}

-- regions of whole words
abbrev pub AreAligned : List Region → Type 0
AreAligned ram = AllByRecursion (λ r. (r.low % 4 ≡ 0) × (r.high % 4 ≡ 0)) ram
