use Rattle.std.proofs.Common.{List, ap, ◌∙◌, arith}
use Rattle.std.proofs.lemmas.List.{take_all}
use Rattle.std.specs.List.{list_all}
use Rattle.fd_prob.specs.declared.relation.Rel.{Rel}
use Rattle.fd_prob.specs.Relations.{holds}
use Rattle.fd_narrow.proofs.RowParts.{relations_more}
use Rattle.fd_narrow.proofs.domains.Domains.possible_relations.Goals as goal

pub loop-rel-preserved : goal.loop-rel-preserved
loop-rel-preserved c = λ op x inside.
    ap (λ (rs : List Rel). list_all (holds op x) rs) c.in_ok-push.ensures.items
    ∙ relations_more op x c.args.rels.now c.loop-rel.made.items c.loop-rel.rel-index c.rel-item.result c.in_ok-possible.field-0 c.loop-rel-test.true c.rel-item.is (c.in_ok-possible.ensures op x inside) (c.loop-rel.invariant op x inside)

pub returns : goal.returns
returns c = λ op x inside.
    c.loop-rel.invariant op x inside ∙ ap (list_all (holds op x)) (take_all c.loop-rel.rel-index c.args.rels.now (omega (arith, c.loop-rel-test.false)))
