use Rattle.std.proofs.Common.{◌≡◌, ℕ, ◌++◌, ◌∷◌, [], Bool, if◌then◌else◌, List, ap, ◌∙◌}
use Rattle.tpl_ast.specs.declared.template.Atom.{Atom}
use Rattle.tpl_ast.specs.declared.template.Atom.TheVariants as atoms
use Rattle.tpl_ast.specs.declared.template.Var.TheVariants as vars
use Rattle.leaf_turn.specs.Wishes.{unbiased, retires}
use Rattle.leaf_turn.proofs.Retiring.{alone}
use Rattle.leaf_turn.proofs.wishes.mandatory_of.Goals as goal

pub returns : goal.returns
returns c =
    let set : c.in_ok-retires.retires ≡ 255 ∷ [] = c.in_ok-retires.ensures ∙ alone c.set_laws.ensures.same c.set_laws.ensures.lists in
    c.in_ok-push.ensures.items
    ∙ ap (λ (xs : List Atom). xs ++ atoms.In vars.Outcome c.in_ok-retires.retires ∷ []) c.in_ok-atoms.ensures
    ∙ ap (λ (s : List ℕ). unbiased c.args.wishes.now ++ atoms.In vars.Outcome s ∷ []) set
    ∙ ap (λ (b : Bool). unbiased c.args.wishes.now ++ (if b then [] else retires ∷ [])) c.if-fix_outcome.ensures
