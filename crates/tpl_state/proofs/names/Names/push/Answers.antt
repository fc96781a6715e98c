use Rattle.std.proofs.Common.{◌≡◌, List, false, ◌++◌, ◌∷◌, [], ap, subst, ◌∙◌, sym}
use Rattle.tpl_ast.specs.declared.template.NameDecl.{NameDecl}
use Rattle.tpl_lang.specs.Known.{name_among}
use Rattle.tpl_state.proofs.Found.{put_name}
use Rattle.tpl_state.proofs.names.Names.push.Goals as goal

pub returns-clause-ok : goal.returns-clause-ok
returns-clause-ok c =
    put_name c.args.name (record { set = c.args.set; label = c.args.label }) c.self.inside.names.entries c.insert.new.self.entries
    (subst (λ (names : List NameDecl). name_among names c.args.name.items ≡ false) (sym c.self.view_is) c.requires)
    c.in_ok-insert.ensures.entries
    ∙ ap (λ (names : List NameDecl). names ++ record { name = c.args.name.items; set = c.args.set; label = c.args.label } ∷ []) c.self.view_is
