use Rattle.std.proofs.Common.{ℕ, ◌+◌, List, take, get_or, subst, arith}
use Rattle.std.proofs.lemmas.List.{take_all}
use Rattle.rv_script.specs.declared.access.Access.{Access}
use Rattle.rv_script.specs.declared.access.Role.TheVariants.{Fetch}
use Rattle.foot_map.specs.Races.{IsFootprint}
use Rattle.replay_check.specs.Internal.Racing.{with_accesses}
use Rattle.replay_check.proofs.Behind.{one_more, in_word}
use Rattle.replay_check.proofs.collecting.add_accesses.Goals as goal

abbrev no_access : Access
no_access = record { role = Fetch; addr = 0; size = 0; value = 0 }

pub loop-x-preserved : goal.loop-x-preserved
loop-x-preserved c = λ did foot.
    let xs : List Access = c.args.accesses.now in
    let i : ℕ = c.loop-x.x-index in
    let x : Access = get_or xs i no_access in
    let hart : ℕ = c.args.hart in
    subst (IsFootprint c.add.new.self) (one_more did hart xs i no_access c.loop-x-test.true)
    (c.footprint_laws.ensures.added c.loop-x.feet c.add.new.self (with_accesses did hart (take i xs)) hart x (c.loop-x.invariant did foot) (in_word xs i no_access c.loop-x-test.true c.requires) c.in_ok-add.ensures.added)

pub returns : goal.returns
returns c = λ did foot.
    subst (λ (xs : List Access). IsFootprint c.loop-x.feet (with_accesses did c.args.hart xs)) (take_all c.loop-x.x-index c.args.accesses.now (omega (arith, c.loop-x-test.false))) (c.loop-x.invariant did foot)
