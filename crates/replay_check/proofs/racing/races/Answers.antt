use Rattle.std.proofs.Common.{ℕ, ◌+◌, List, take, get_or, sym, ◌∙◌, subst, arith}
use Rattle.std.specs.Prelude.{IfSome, IfNone}
use Rattle.std.proofs.lemmas.List.{take_all}
use Rattle.rv_script.specs.declared.access.Access.{Access}
use Rattle.rv_script.specs.declared.access.Role.TheVariants.{Fetch}
use Rattle.rv_script.specs.Lists.{HasItem}
use Rattle.foot_map.specs.declared.clash.Clash.{Clash}
use Rattle.foot_map.specs.Races.{IsRaceFree, IsFootprint, IsClash, with_access}
use Rattle.replay_check.specs.Internal.Racing.{with_accesses}
use Rattle.replay_check.proofs.Behind.{one_more, front_fewer, one_there, none_there, in_word}
use Rattle.replay_check.proofs.racing.races.Goals as goal

abbrev no_access : Access
no_access = record { role = Fetch; addr = 0; size = 0; value = 0 }

pub returns-then-is_some-clause-races : goal.returns-then-is_some-clause-races
returns-then-is_some-clause-races c = λ yes did foot free.
    let xs : List Access = c.args.accesses.now in
    let i : ℕ = c.loop-x.x-index in
    let x : Access = get_or xs i no_access in
    let hart : ℕ = c.args.hart in
    let before : ℕ → List Access = with_accesses did hart (take i xs) in
    let there = one_there c.may.result (sym c.is_some.ensures ∙ c.if-is_some.true) in
    let clash : IsClash c.loop-x.feet hart x.role x.addr x.size there.0 = subst (λ o. IfSome o (IsClash c.loop-x.feet hart x.role x.addr x.size)) there.1 c.may.ensures.clash in
    let sub : (j : ℕ) (y : Access) → HasItem (with_access before hart x j) y → HasItem (with_accesses did hart xs j) y =
    subst (λ (f : ℕ → List Access). (j : ℕ) (y : Access) → HasItem (f j) y → HasItem (with_accesses did hart xs j) y) (sym (one_more did hart xs i no_access c.loop-x-test.true)) (front_fewer did hart xs (i + 1)) in
    c.footprint_laws.ensures.races c.loop-x.feet before hart x there.0 (c.loop-x.invariant.footprint did foot) (in_word xs i no_access c.loop-x-test.true c.requires) clash
    (c.race_laws.ensures.fewer (with_access before hart x) (with_accesses did hart xs) sub free)

pub loop-x-preserved : goal.loop-x-preserved
loop-x-preserved c =
    let xs : List Access = c.args.accesses.now in
    let i : ℕ = c.loop-x.x-index in
    let x : Access = get_or xs i no_access in
    let hart : ℕ = c.args.hart in
    let none : (t : Clash) → IsClash c.loop-x.feet hart x.role x.addr x.size t → ⊥ =
    subst (λ o. IfNone o ((t : Clash) → IsClash c.loop-x.feet hart x.role x.addr x.size t → ⊥)) (none_there c.may.result (sym c.is_some.ensures ∙ c.if-is_some.false)) c.may.ensures.none in
    record {
      footprint = λ did foot.
          subst (IsFootprint c.add.new.self) (one_more did hart xs i no_access c.loop-x-test.true)
          (c.footprint_laws.ensures.added c.loop-x.feet c.add.new.self (with_accesses did hart (take i xs)) hart x (c.loop-x.invariant.footprint did foot) (in_word xs i no_access c.loop-x-test.true c.requires) c.in_ok-add.ensures.added);
      free = λ did foot free.
          subst IsRaceFree (one_more did hart xs i no_access c.loop-x-test.true)
          (c.footprint_laws.ensures.joins c.loop-x.feet (with_accesses did hart (take i xs)) hart x (c.loop-x.invariant.footprint did foot) (c.loop-x.invariant.free did foot free) none);
    }

pub returns-clause-footprint : goal.returns-clause-footprint
returns-clause-footprint c = λ no did foot.
    subst (λ (xs : List Access). IsFootprint c.loop-x.feet (with_accesses did c.args.hart xs)) (take_all c.loop-x.x-index c.args.accesses.now (omega (arith, c.loop-x-test.false))) (c.loop-x.invariant.footprint did foot)

pub returns-clause-free : goal.returns-clause-free
returns-clause-free c = λ no did foot free.
    subst (λ (xs : List Access). IsRaceFree (with_accesses did c.args.hart xs)) (take_all c.loop-x.x-index c.args.accesses.now (omega (arith, c.loop-x-test.false))) (c.loop-x.invariant.free did foot free)
