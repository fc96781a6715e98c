-- The bodies of every template can be searched.
use Rattle.std.proofs.Common.{◌≡◌, ℕ, ◌+◌, true, List, [], ◌∷◌, ◌++◌, map}
use Rattle.std.specs.List.{AllByRecursion}
use Rattle.std.proofs.lemmas.Bool.{and_parts}
use Rattle.tpl_ast.specs.declared.template.HartDecl.{HartDecl}
use Rattle.tpl_ast.specs.declared.template.Item.{Item}
use Rattle.tpl_ast.specs.Choices.{all_true, is_fit}
use Rattle.tpl_ast.specs.Templates.{CanPick}
use Rattle.tpl_lang.proofs.Sound.{templates_keep_limits}
use Rattle.gen_search.specs.Fit.{AreFit, TemplatesCanBeSearched}
use Rattle.gen_search.specs.Search.{all_items, of_hart}

both_fit : (xs ys : List (ℕ × Item)) → AreFit xs → AreFit ys → AreFit (xs ++ ys)
both_fit [] ys h k = k
both_fit (x ∷ xs) ys h k = (h.0, both_fit xs ys h.1 k)

body_fits : (hart : ℕ) (items : List Item) → all_true (map is_fit items) ≡ true → AreFit (of_hart hart items)
body_fits hart [] h = tt
body_fits hart (i ∷ items) h = let a = and_parts (is_fit i) (all_true (map is_fit items)) h in (a.0, body_fits hart items a.1)

harts_fit : (hart : ℕ) (harts : List HartDecl) → AllByRecursion (λ (h : HartDecl). CanPick h.body.items) harts → AreFit (all_items hart harts)
harts_fit hart [] h = tt
harts_fit hart (d ∷ harts) h = both_fit (of_hart hart d.body.items) (all_items (hart + 1) harts) (body_fits hart d.body.items h.0) (harts_fit (hart + 1) harts h.1)

pub templates_can_be_searched : TemplatesCanBeSearched
templates_can_be_searched text t p = harts_fit 0 t.harts (templates_keep_limits text t p).picks
