-- Bodies that can be searched.
use Rattle.std.specs.Prelude.{◌≡◌, ℕ, true, List, [], ◌∷◌}
use Rattle.tpl_ast.specs.declared.template.HartDecl.{HartDecl}
use Rattle.tpl_ast.specs.declared.template.Item.{Item}
use Rattle.tpl_ast.specs.declared.template.Template.{Template}
use Rattle.tpl_ast.specs.Choices.{is_fit}
use Rattle.tpl_lang.specs.Parsing.{Parses}
use Rattle.gen_search.specs.Search.{all_items}

-- an alternative of each choice in these items of harts can be picked
abbrev pub AreFit : List (ℕ × Item) → Type 0
AreFit [] = Unit {0}
AreFit (x ∷ xs) = (is_fit x.1 ≡ true) × AreFit xs

-- the bodies of these harts can be searched
abbrev pub CanSearch : List HartDecl → Type 0
CanSearch harts = AreFit (all_items 0 harts)

-- those of every template can
abbrev pub TemplatesCanBeSearched : Type 0
TemplatesCanBeSearched = (text : List ℕ) (t : Template) → Parses text t → CanSearch t.harts
