use Rattle.std.proofs.Common.{◌∙◌, ap}
use Rattle.std.specs.Prelude.{filter}
use Rattle.dom_set.specs.Elements.{is_in}
use Rattle.std.proofs.lemmas.Result.{IfOk-weaker}
use Rattle.case_search.proofs.MetRows.{met_in}
use Rattle.case_search.proofs.extended.met.Goals as goal

pub returns : goal.returns
returns c = IfOk-weaker c.and.result _ _ (λ made is x inside. met_in c.args.doms.now x c.args.slot c.args.set.now made inside (is ∙ ap (filter (is_in c.args.set.now)) c.domain.ensures)) c.and.ensures
