use Rattle.std.proofs.Common.{◌≡◌, ℕ, List, None, ◌++◌, ◌∷◌, [], ap, subst, ◌∙◌, sym}
use Rattle.tpl_lang.specs.Sets.{NamedSet, find_set}
use Rattle.tpl_state.proofs.Found.{put_set}
use Rattle.tpl_state.proofs.sets.Sets.push.Goals as goal

pub returns-clause-ok : goal.returns-clause-ok
returns-clause-ok c =
    put_set c.args.name c.args.set c.self.inside.sets.entries c.insert.new.self.entries
    (subst (λ (sets : List NamedSet). find_set sets c.args.name.items ≡ None) (sym c.self.view_is) c.requires)
    c.in_ok-insert.ensures.entries
    ∙ ap (λ (sets : List NamedSet). sets ++ (c.args.name.items, c.args.set) ∷ []) c.self.view_is
