use Rattle.std.proofs.Common.{◌≡◌, ℕ, ◌+◌, ◌<◌, List, length, sym, ap, ◌∙◌, subst, arith}
use Rattle.rv_hart.specs.declared.record.Record.{Record}
use Rattle.foot_map.specs.Races.{IsRaceFree, IsFootprint}
use Rattle.tpl_admit.specs.Starts.{trace_of}
use Rattle.tpl_admit.specs.Races.{footprint_of}
use Rattle.replay_check.specs.Failures.{did_before}
use Rattle.replay_check.specs.Internal.Racing.{with_accesses}
use Rattle.replay_check.proofs.Behind.{all_before, whole_before, trace_is}
use Rattle.replay_check.proofs.collecting.has_race.Goals as goal

pub loop-k-preserved : goal.loop-k-preserved
loop-k-preserved c =
    let cert = c.args.cert.now in
    let k : ℕ = c.loop-k.k in
    let within : k < length c.as_slice.result.now = omega (arith, c.loop-k-test.true, c.len-k-end.ensures, ap length c.as_slice.ensures) in
    let records : c.as_slice-in-loop-k.result.now ≡ trace_of cert k = c.as_slice-in-loop-k.ensures ∙ trace_is cert c.as_slice.result.now k c.index-as_slice-k.result c.as_slice.ensures within c.index-as_slice-k.is in
    let next : with_accesses (did_before cert k 0) k (footprint_of c.as_slice-in-loop-k.result.now) ≡ did_before cert (k + 1) 0 =
    ap (λ (rs : List Record). with_accesses (did_before cert k 0) k (footprint_of rs)) records ∙ all_before cert k in
    subst (IsFootprint c.add_records.new.feet) next (c.in_ok-add_records.ensures (did_before cert k 0) c.loop-k.invariant)

pub returns : goal.returns
returns c = λ none.
    let cert = c.args.cert.now in
    let end : c.loop-k.k ≡ length cert.traces = omega (arith, c.loop-k-test.false, c.loop-k.auto.k-end, c.len-k-end.ensures) in
    subst IsRaceFree (ap (λ (n : ℕ). did_before cert n 0) end ∙ whole_before cert c.requires.well_formed.traces_count)
    ((c.blocking_laws.ensures.races c.loop-k.feet (did_before cert c.loop-k.k 0) c.loop-k.invariant).0 (sym c.races.ensures ∙ none))
