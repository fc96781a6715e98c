use Rattle.std.proofs.Common.{ℕ, not, List, ap, ◌∙◌}
use Rattle.std.specs.List.{filter}
use Rattle.dom_set.specs.Elements.{is_in}
use Rattle.row_parts.proofs.OnePage.{in_page}
use Rattle.row_parts.proofs.pages.is_in_page.Goals as goal

pub returns : goal.returns
returns c = λ h x there.
    in_page c.set_laws.ensures.pass c.set_laws.ensures.tests c.args.set.now c.in_ok-others.others c.args.page x
    (c.in_ok-others.ensures ∙ ap (λ (s : List ℕ). filter (λ (y : ℕ). not (is_in s y)) c.args.set.now) c.in_ok-inside.ensures) (c.is_empty.ensures h) there
