use Rattle.std.proofs.Common.{◌≡◌, ◌&&◌, ◌∙◌}
use Rattle.std.specs.Bool.{◌==◌}
use Rattle.std.specs.List.{filter}
use Rattle.std.proofs.lemmas.Result.{IfOk-weaker}
use Rattle.dom_set.specs.Elements.{is_in}
use Rattle.data_bytes.specs.Sets.{IsSetOf}
use Rattle.leaf_stand.proofs.Sets.{and_test}
use Rattle.leaf_stand.proofs.atoms.meet_one.Goals as goal

pub returns : goal.returns
returns c =
    IfOk-weaker c.and.result (λ s. s ≡ filter (is_in c.in_ok-one.one) c.args.set.now) (IsSetOf (λ v. is_in c.args.set.now v && v == c.args.value))
    (λ s h. and_test c.args.set.now c.in_ok-one.one s (λ v. v == c.args.value) (λ v small. c.in_ok-one.ensures v small ∙ c.one.ensures.test v small) h)
    c.and.ensures
