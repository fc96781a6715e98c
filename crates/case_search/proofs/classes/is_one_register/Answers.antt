use Rattle.std.proofs.Common.{sym, ◌∙◌}
use Rattle.case_search.proofs.Strengthening.{linked_same}
use Rattle.case_search.proofs.classes.is_one_register.Goals as goal

pub returns-then-some_links : goal.returns-then-some_links
returns-then-some_links c one = linked_same c.args.rels.now (sym c.some_links.ensures ∙ c.if-some_links.true) (λ op x hold. c.are_one.ensures one x (c.same_classes.ensures op x hold))
