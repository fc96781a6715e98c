use Rattle.std.proofs.Common.{◌≡◌, ◌∙◌, true, All, List, Vec, Global, ap, map, refl, subst, sym}
use Rattle.std.proofs.Common.{Option}
use Rattle.std.specs.Option.{is_some}
use Rattle.std.proofs.lemmas.Result.{IfOk-weaker}
use Rattle.tpl_ast.specs.declared.template.Atom.{Atom}
use Rattle.tpl_ast.specs.declared.template.Var.TheVariants as vars
use Rattle.data_goals.specs.declared.accesses.Accesses.{Accesses}
use Rattle.dom_set.specs.Elements.{is_in}
use Rattle.sv_walk.specs.declared.entry.View.{View}
use Rattle.leaf_link.specs.Cases.{all_tests}
use Rattle.leaf_link.specs.Firsts.{pairs_at}
use Rattle.leaf_stand.specs.Posed.{are_posable}
use Rattle.leaf_stand.specs.Relations.{are_between}
use Rattle.part_state.specs.State.{here}
use Rattle.turn_laws.specs.Given.{turn_at}
use Rattle.leaf_turn.proofs.Grounding.{setting_at, setting_is}
use Rattle.leaf_turn.proofs.Plainness.{biases_between, each_plain, plain_mandatory}
use Rattle.leaf_turn.proofs.Rows.{pages_of_stand}
use Rattle.leaf_turn.proofs.Wholly.{answered, found_by, posed_at}
use Rattle.leaf_turn.proofs.answer.leaf_answer.Goals as goal

pub stand_of-stand-requires-clause-pairs : goal.stand_of-stand-requires-clause-pairs
stand_of-stand-requires-clause-pairs c = λ s feet setting.
    ap (λ (v : View). pairs_at (turn_at s feet c.args.hart (here c.args.part.now)) v) (sym c.data_view.ensures) ∙ c.in_ok-pairs.ensures s feet c.args.hart (here c.args.part.now) setting

pub answer_of-requires-clause-between : goal.answer_of-requires-clause-between
answer_of-requires-clause-between c =
    subst (λ (l : List Atom). are_between l ≡ true) (sym c.deref-7.ensures.value) (subst (λ (l : List Atom). are_between l ≡ true) (sym c.in_ok-atoms.ensures) (c.leaves_are_between.ensures _ (plain_mandatory c.args.wishes.now c.requires.plain)))

pub answer_of-requires-clause-biases : goal.answer_of-requires-clause-biases
answer_of-requires-clause-biases c =
    subst (λ (bs : List (Vec Atom Global)). All (λ b. are_between b.items ≡ true) bs) (sym c.deref-8.ensures.value) (biases_between c.leaves_are_between.ensures c.args.wishes.now c.in_ok-biases.biases.items c.requires.plain c.in_ok-biases.ensures)

pub answer_of-requires-clause-posable : goal.answer_of-requires-clause-posable
answer_of-requires-clause-posable c =
    subst (λ (l : List Atom). are_posable c.stand_of-stand.result l ≡ true) (sym (c.deref-7.ensures.value ∙ c.in_ok-atoms.ensures))
    (c.leaves_with_accesses_are_posable.ensures c.args.wishes.now c.stand_of-stand.result
    (λ lets. ap (λ (o : Option Accesses). is_some o) c.stand_of-stand.ensures.told ∙ c.in_ok-accesses.ensures.told ∙ lets))

pub returns-clause-answer : goal.returns-clause-answer
returns-clause-answer c = IfOk-weaker c.answer_of.result _ _
    (λ answer answers s feet setting has footprint.
    let leads = c.requires.leads in
    answered c.stand_of-stand.result c.args.hart (here c.args.part.now) s feet leads.0 c.args.pa c.args.wishes.now c.deref-7.result.now (map (λ b. b.items) c.deref-8.result.now) c.args.draws.now c.args.nodes answer
    (c.deref-7.ensures.value ∙ c.in_ok-atoms.ensures) (ap (λ (bs : List (Vec Atom Global)). map (λ b. b.items) bs) c.deref-8.ensures.value ∙ c.in_ok-biases.ensures)
    c.requires.plain leads.1
    (c.stand_of-stand.ensures.stand s feet leads.0 leads.1 setting (λ v small. has v ∙ ap (λ (l : List Atom). all_tests (turn_at s feet c.args.hart (here c.args.part.now)) l vars.A v) (sym (c.deref-2.ensures.value ∙ c.in_ok-atoms.ensures)) ∙ c.in_ok-sources.ensures s feet setting v small) footprint)
    (pages_of_stand c.args.t.now c.in_ok-accesses.accesses c.stand_of-stand.result.accesses c.args.hart (here c.args.part.now) c.deref-4.result.now c.deref-7.result.now c.stand_of-stand.ensures.told (c.deref-4.ensures.value ∙ sym c.deref-7.ensures.value) c.in_ok-accesses.ensures.pages s feet setting) c.known_is_words.ensures.fixed c.known_is_words.ensures.words answers)
    c.answer_of.ensures

pub returns-clause-found : goal.returns-clause-found
returns-clause-found c = IfOk-weaker c.answer_of.result _ _
    (λ answer answers x found.
    let leads = c.requires.leads in
    let s = setting_at c.args.t.now (is_in c.in_ok-sources.sources) in
    let setting = setting_is c.args.t.now (is_in c.in_ok-sources.sources) in
    let feet = c.stand_of-stand.ensures.feet in
    let w = here c.args.part.now in
    let stands = c.stand_of-stand.ensures.stand s feet.0 leads.0 leads.1 setting (λ v small. refl) feet.1 in
    found_by c.args.hart w s feet.0 leads.0 c.args.pa c.args.wishes.now c.args.draws.now c.args.nodes answer x c.answers_are_found.ensures c.requires.plain c.requires.vectors feet.1
    (posed_at c.args.hart w s feet.0 leads.0 c.args.pa _ leads.1 c.known_is_words.ensures.fixed c.known_is_words.ensures.words (each_plain _ (plain_mandatory c.args.wishes.now c.requires.plain)))
    (answered c.stand_of-stand.result c.args.hart w s feet.0 leads.0 c.args.pa c.args.wishes.now c.deref-7.result.now (map (λ b. b.items) c.deref-8.result.now) c.args.draws.now c.args.nodes answer
    (c.deref-7.ensures.value ∙ c.in_ok-atoms.ensures) (ap (λ (bs : List (Vec Atom Global)). map (λ b. b.items) bs) c.deref-8.ensures.value ∙ c.in_ok-biases.ensures)
    c.requires.plain leads.1 stands (pages_of_stand c.args.t.now c.in_ok-accesses.accesses c.stand_of-stand.result.accesses c.args.hart (here c.args.part.now) c.deref-4.result.now c.deref-7.result.now c.stand_of-stand.ensures.told (c.deref-4.ensures.value ∙ sym c.deref-7.ensures.value) c.in_ok-accesses.ensures.pages s feet.0 setting) c.known_is_words.ensures.fixed c.known_is_words.ensures.words answers)
    found)
    c.answer_of.ensures
