-- What is found of a declared set.
use Rattle.std.specs.Prelude.{ℕ, List, Option, Some, None}
use Rattle.tpl_lang.specs.Sets.{NamedSet}

abbrev pub elements_of_set : Option NamedSet → Option (List ℕ)
elements_of_set None = None
elements_of_set (Some s) = Some s.1
