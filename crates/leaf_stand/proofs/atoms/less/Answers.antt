use Rattle.std.proofs.Common.{◌≡◌, ◌&&◌}
use Rattle.std.specs.List.{filter}
use Rattle.std.specs.Prelude.{not}
use Rattle.std.proofs.lemmas.Result.{IfOk-weaker}
use Rattle.dom_set.specs.Elements.{is_in}
use Rattle.data_bytes.specs.Sets.{IsSetOf}
use Rattle.leaf_stand.proofs.Sets.{filter_leaves}
use Rattle.leaf_stand.proofs.atoms.less.Goals as goal

pub returns : goal.returns
returns c =
    IfOk-weaker c.minus.result (λ s. s ≡ filter (λ x. not (is_in c.args.own.now x)) c.args.set.now) (IsSetOf (λ v. is_in c.args.set.now v && not (is_in c.args.own.now v)))
    (λ s h. filter_leaves (λ x. not (is_in c.args.own.now x)) c.args.set.now s h)
    c.minus.ensures
