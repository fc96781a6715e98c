use Rattle.std.proofs.Common.{◌≡◌, ℕ, ◌+◌, List, take, ap, ◌∙◌, subst, arith}
use Rattle.std.proofs.lemmas.List.{take_all}
use Rattle.rv_script.specs.declared.access.Access.{Access}
use Rattle.rv_hart.specs.declared.record.Record.{Record}
use Rattle.foot_map.specs.Races.{IsFootprint}
use Rattle.tpl_admit.specs.Races.{footprint_of}
use Rattle.replay_check.specs.Internal.Racing.{with_accesses}
use Rattle.replay_check.proofs.Behind.{next_record}
use Rattle.replay_check.proofs.collecting.add_records.Goals as goal

pub loop-record-preserved : goal.loop-record-preserved
loop-record-preserved c = λ did foot.
    let rs : List Record = c.args.records.now in
    let i : ℕ = c.loop-record.record-index in
    let hart : ℕ = c.args.hart in
    let before : ℕ → List Access = with_accesses did hart (footprint_of (take i rs)) in
    let next : with_accesses before hart c.as_slice.result.now ≡ with_accesses did hart (footprint_of (take (i + 1) rs)) =
    ap (with_accesses before hart) c.as_slice.ensures ∙ next_record did hart rs i c.record-item.result c.loop-record-test.true c.record-item.is in
    subst (IsFootprint c.add_accesses.new.feet) next (c.in_ok-add_accesses.ensures before (c.loop-record.invariant did foot))

pub returns : goal.returns
returns c = λ did foot.
    subst (λ (rs : List Record). IsFootprint c.loop-record.feet (with_accesses did c.args.hart (footprint_of rs))) (take_all c.loop-record.record-index c.args.records.now (omega (arith, c.loop-record-test.false))) (c.loop-record.invariant did foot)
