use Rattle.std.proofs.Common.{ℕ, List, ◌<◌, ◌^◌, length, sym, ap, subst, arith}
use Rattle.tpl_ast.specs.declared.template.HartDecl.{HartDecl}
use Rattle.tpl_ast.specs.declared.template.Template.{Template}
use Rattle.part_state.specs.State.{State, here}
use Rattle.gen_search.specs.Ready.{BodiesAreReady}
use Rattle.gen_search.specs.Answers.{CountsTurns}
use Rattle.gen_search.specs.Search.{Searches}
use Rattle.gen_turn.specs.Drafts.{drafted}
use Rattle.gen_turn.specs.Grounds.{CanTake}
use Rattle.gen_turn.specs.Rules.{draft_rules, shown}
use Rattle.gen_turn.proofs.making.search_for.Goals as goal

pub search-requires-clause-few : goal.search-requires-clause-few
search-requires-clause-few c =
    let few = (c.template_law.ensures c.args.template.now.text c.args.template.now c.requires).harts in
    subst (λ (hs : List HartDecl). length hs < 2 ^ 32) (sym c.as_slice.ensures) (omega (arith, few))

pub search-requires-clause-ready : goal.search-requires-clause-ready
search-requires-clause-ready c =
    let t = c.args.template.now in
    let ready = c.templates_are_ready.ensures t c.args.nodes (here c.in_ok-draft.draft.part) c.requires c.in_ok-draft.ensures.begun c.in_ok-draft.ensures.test in
    let own = subst (λ (u : Template). BodiesAreReady (CanTake (drafted u c.args.nodes (here c.in_ok-draft.draft.part))) t.harts) (sym c.in_ok-draft.ensures.template) ready in
    let budget = subst (λ (n : ℕ). BodiesAreReady (CanTake (drafted c.in_ok-draft.draft.template.now n (here c.in_ok-draft.draft.part))) t.harts) (sym c.in_ok-draft.ensures.nodes) own in
    subst (λ (hs : List HartDecl). BodiesAreReady (CanTake (drafted c.in_ok-draft.draft.template.now c.in_ok-draft.draft.nodes (here c.in_ok-draft.draft.part))) hs) (sym c.as_slice.ensures) budget

pub returns : goal.returns
returns c =
    let found = c.in_ok-answer.ensures.searches in
    let first = c.in_ok-draft.draft.part.now in
    let of_harts = subst (λ (hs : List HartDecl). Searches draft_rules hs c.args.seed c.args.turns (shown c.in_ok-draft.draft.template.now c.in_ok-draft.draft.nodes first) found.0) c.as_slice.ensures found.1 in
    let of_template = subst (λ (u : Template). Searches draft_rules c.args.template.now.harts c.args.seed c.args.turns (shown u c.in_ok-draft.draft.nodes first) found.0) c.in_ok-draft.ensures.template of_harts in
    let of_budget = subst (λ (n : ℕ). Searches draft_rules c.args.template.now.harts c.args.seed c.args.turns (shown c.args.template.now n first) found.0) c.in_ok-draft.ensures.nodes of_template in
    record {
      last = shown c.search.new.part.template.now c.search.new.part.nodes c.search.new.part.part.now;
      result = found.0;
      comes = record { first = first; begun = c.in_ok-draft.ensures.begun; test = c.in_ok-draft.ensures.test; told = c.in_ok-draft.ensures.told; searches = of_budget };
      answer = found.2;
      counts = subst (λ (n : ℕ). CountsTurns found.0 c.args.turns 0 n) (sym c.turns-turned.ensures) (subst (λ (n : ℕ). CountsTurns found.0 c.args.turns n c.search.new.part.turns) c.in_ok-draft.ensures.turns found.3);
      now = ap (λ (s : State). s.now) (sym c.into_part.ensures);
    }
