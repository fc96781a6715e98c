use Rattle.std.proofs.Common.{ℕ, ◌&&◌, Bool, true, List, refl, sym, ap, ◌∙◌}
use Rattle.std.specs.Prelude.{slice_get}
use Rattle.tpl_ast.specs.declared.template.Var.TheVariants as vars
use Rattle.dom_set.specs.Elements.{is_in}
use Rattle.dom_set.proofs.Sets.{is_in-elements}
use Rattle.leaf_link.specs.Cases.{all_tests}
use Rattle.leaf_stand.specs.declared.stand.Name.{Name}
use Rattle.leaf_stand.specs.Stands.{set_named, turn_of, value_named}
use Rattle.part_state.specs.State.{here}
use Rattle.turn_laws.specs.Given.{turn_at}
use Rattle.leaf_turn.proofs.Grounding.{tests_alike}
use Rattle.leaf_turn.proofs.stand.sources_of.Goals as goal

pub returns : goal.returns
returns c = λ s feet setting v small.
    let same = sym c.bare_stand-stand.ensures.names in
    tests_alike (turn_at s feet c.args.hart (here c.args.part.now)) (turn_of c.bare_stand-stand.result)
    (λ n. c.requires.names.values n ∙ ap (λ (ns : List Name). value_named (slice_get ns n)) same)
    (λ n. setting.sets n ∙ c.requires.names.sets n ∙ ap (λ (ns : List Name). set_named (slice_get ns n)) same) c.args.atoms.now vars.A v refl
    ∙ sym (c.in_ok-passing.ensures v small
    ∙ ap (λ (b : Bool). b && all_tests (turn_of c.bare_stand-stand.result) c.args.atoms.now vars.A v) (ap (λ (l : List ℕ). is_in l v) c.in_ok-all.ensures ∙ is_in-elements (λ x. true) v small))
