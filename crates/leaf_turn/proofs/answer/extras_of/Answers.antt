use Rattle.std.proofs.Common.{◌≡◌, ◌+◌, ◌∷◌, ◌++◌, [], List, Vec, Global, ap, drop, map, subst, sym, ◌∙◌, length}
use Rattle.tpl_ast.specs.declared.template.Atom.{Atom}
use Rattle.fd_prob.specs.declared.problem.Extra.{Extra}
use Rattle.leaf_turn.specs.Internal.Asking.{AreExtrasOf, AreOfCases}
use Rattle.leaf_turn.proofs.Adding.{all_more, associate, item_at, nothing_behind, nothing_left, one_more}
use Rattle.leaf_turn.proofs.answer.extras_of.Goals as goal

abbrev lists : List (Vec Atom Global) → List (List Atom)
lists bs = map (λ b. b.items) bs

pub loop-bias-preserved : goal.loop-bias-preserved
loop-bias-preserved c =
    let first : drop c.loop-bias.bias-index c.args.biases.now ≡ c.bias-item.result ∷ drop (c.loop-bias.bias-index + 1) c.args.biases.now = item_at c.args.biases.now c.loop-bias.bias-index c.bias-item.result c.loop-bias-test.true c.bias-item.is in
    let head : lists (drop c.loop-bias.bias-index c.args.biases.now) ≡ c.deref.result.now ∷ lists (drop (c.loop-bias.bias-index + 1) c.args.biases.now) =
    ap lists first ∙ ap (λ (b : List Atom). b ∷ lists (drop (c.loop-bias.bias-index + 1) c.args.biases.now)) (sym c.deref.ensures.value) in
    record {
      extras = λ leaf shaped more others.
          let with = subst (λ (bs : List (List Atom)). AreExtrasOf c.args.stand.now leaf bs c.args.posed.now.problem (c.in_ok-extra_of.field-0 ∷ more)) (sym head)
          (one_more c.args.stand.now leaf c.deref.result.now (lists (drop (c.loop-bias.bias-index + 1) c.args.biases.now)) c.args.posed.now.problem c.in_ok-extra_of.field-0 more (c.in_ok-extra_of.ensures.bias leaf shaped) others) in
          subst (λ (es : List Extra). AreExtrasOf c.args.stand.now leaf (lists c.args.biases.now) c.args.posed.now.problem es)
          (associate c.loop-bias.extras.items c.in_ok-extra_of.field-0 more ∙ ap (λ (es : List Extra). es ++ more) (sym c.in_ok-push.ensures.items))
          (c.loop-bias.invariant.extras leaf shaped (c.in_ok-extra_of.field-0 ∷ more) with);
      places = subst (λ (es : List Extra). AreOfCases c.args.posed.now.shapes es) (sym c.in_ok-push.ensures.items)
          (all_more (λ (e : Extra). length e.cases ≡ length c.args.posed.now.shapes) c.loop-bias.extras.items c.in_ok-extra_of.field-0 c.loop-bias.invariant.places c.in_ok-extra_of.ensures.places);
    }

pub returns-clause-extras : goal.returns-clause-extras
returns-clause-extras c = λ leaf shaped.
    subst (λ (es : List Extra). AreExtrasOf c.args.stand.now leaf (lists c.args.biases.now) c.args.posed.now.problem es) (nothing_behind c.loop-bias.extras.items)
    (c.loop-bias.invariant.extras leaf shaped []
    (subst (λ (bs : List (Vec Atom Global)). AreExtrasOf c.args.stand.now leaf (lists bs) c.args.posed.now.problem []) (sym (nothing_left c.args.biases.now c.loop-bias.bias-index c.loop-bias-test.false)) (λ t walk pa loads stores stands posed rows plain. tt)))
