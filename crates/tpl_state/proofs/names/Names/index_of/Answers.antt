use Rattle.std.proofs.Common.{List, length, ap, sym, ◌∙◌}
use Rattle.tpl_ast.specs.declared.template.NameDecl.{NameDecl}
use Rattle.tpl_lang.specs.Known.{index_among}
use Rattle.std.proofs.lemmas.List.{length-map}
use Rattle.tpl_state.proofs.Found.{declared, index_found, index_lacking}
use Rattle.tpl_state.proofs.names.Names.index_of.Goals as goal

pub returns-in-Some : goal.returns-in-Some
returns-in-Some c =
    index_found c.args.name.now c.self.inside.names.entries c.in-Some.index (sym c.get_index_of.ensures.index ∙ c.in-Some.is)
    ∙ ap (λ (names : List NameDecl). index_among names c.args.name.now) c.self.view_is

pub returns-in-None : goal.returns-in-None
returns-in-None c =
    c.len.ensures ∙ ap (λ (names : List NameDecl). length names) (sym c.self.view_is) ∙ length-map c.self.inside.names.entries declared
    ∙ index_lacking c.args.name.now c.self.inside.names.entries (sym c.get_index_of.ensures.index ∙ c.in-None.is)
    ∙ ap (λ (names : List NameDecl). index_among names c.args.name.now) c.self.view_is
