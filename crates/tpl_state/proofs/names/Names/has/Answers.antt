use Rattle.std.proofs.Common.{List, ap, sym, ◌∙◌}
use Rattle.tpl_ast.specs.declared.template.NameDecl.{NameDecl}
use Rattle.tpl_lang.specs.Known.{name_among}
use Rattle.tpl_state.proofs.Found.{name_found}
use Rattle.tpl_state.proofs.names.Names.has.Goals as goal

pub returns : goal.returns
returns c =
    c.is_some.ensures ∙ c.get_index_of.ensures.found ∙ name_found c.args.name.now c.self.inside.names.entries
    ∙ ap (λ (names : List NameDecl). name_among names c.args.name.now) c.self.view_is
