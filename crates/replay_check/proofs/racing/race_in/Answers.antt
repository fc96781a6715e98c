use Rattle.std.proofs.Common.{◌≡◌, ℕ, ◌+◌, List, take, sym, ap, ◌∙◌, subst, arith}
use Rattle.std.proofs.lemmas.List.{take_all}
use Rattle.rv_script.specs.declared.access.Access.{Access}
use Rattle.rv_hart.specs.declared.record.Record.{Record}
use Rattle.foot_map.specs.Races.{IsRaceFree, IsFootprint}
use Rattle.tpl_admit.specs.Races.{footprint_of}
use Rattle.replay_check.specs.Internal.Racing.{with_accesses, RacesAt}
use Rattle.replay_check.proofs.Behind.{next_record}
use Rattle.replay_check.proofs.racing.race_in.Goals as goal

pub returns-then-branch-clause-races : goal.returns-then-branch-clause-races
returns-then-branch-clause-races c = λ step told did foot free.
    let rs : List Record = c.args.records.now in
    let i : ℕ = c.loop-i.i in
    let hart : ℕ = c.args.hart in
    let before : ℕ → List Access = with_accesses did hart (footprint_of (take i rs)) in
    let next : with_accesses before hart c.as_slice.result.now ≡ with_accesses did hart (footprint_of (take (i + 1) rs)) =
    ap (with_accesses before hart) c.as_slice.ensures ∙ next_record did hart rs i c.index-records-i.result c.loop-i-test.true c.index-records-i.is in
    let same : i ≡ step = cc told in
    subst (RacesAt did hart rs) same (record {
      at = c.loop-i-test.true;
      before = c.loop-i.invariant.free did foot free;
      races = λ more. c.in_ok-races.ensures.races c.if-branch.true before (c.loop-i.invariant.footprint did foot) (subst IsRaceFree (sym next) more);
    })

pub loop-i-preserved : goal.loop-i-preserved
loop-i-preserved c =
    let rs : List Record = c.args.records.now in
    let i : ℕ = c.loop-i.i in
    let hart : ℕ = c.args.hart in
    let next : (did : ℕ → List Access) → with_accesses (with_accesses did hart (footprint_of (take i rs))) hart c.as_slice.result.now ≡ with_accesses did hart (footprint_of (take (i + 1) rs)) =
    λ did. ap (with_accesses (with_accesses did hart (footprint_of (take i rs))) hart) c.as_slice.ensures ∙ next_record did hart rs i c.index-records-i.result c.loop-i-test.true c.index-records-i.is in
    record {
      footprint = λ did foot. subst (IsFootprint c.races.new.feet) (next did) (c.in_ok-races.ensures.footprint c.if-branch.false (with_accesses did hart (footprint_of (take i rs))) (c.loop-i.invariant.footprint did foot));
      free = λ did foot free. subst IsRaceFree (next did) (c.in_ok-races.ensures.free c.if-branch.false (with_accesses did hart (footprint_of (take i rs))) (c.loop-i.invariant.footprint did foot) (c.loop-i.invariant.free did foot free));
    }

pub returns-clause-footprint : goal.returns-clause-footprint
returns-clause-footprint c = λ none did foot.
    subst (λ (rs : List Record). IsFootprint c.loop-i.feet (with_accesses did c.args.hart (footprint_of rs))) (take_all c.loop-i.i c.args.records.now (omega (arith, c.loop-i-test.false))) (c.loop-i.invariant.footprint did foot)

pub returns-clause-free : goal.returns-clause-free
returns-clause-free c = λ none did foot free.
    subst (λ (rs : List Record). IsRaceFree (with_accesses did c.args.hart (footprint_of rs))) (take_all c.loop-i.i c.args.records.now (omega (arith, c.loop-i-test.false))) (c.loop-i.invariant.free did foot free)
