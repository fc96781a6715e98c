use Rattle.std.proofs.Common.{◌≡◌, ℕ, ◌<◌, length, Some, None, subst, sym}
use Rattle.std.specs.Prelude.{slice_set}
use Rattle.rv_mem.specs.Full.{full_at}
use Rattle.rv_system.specs.Runs.{moved_by, next_of, record_in}
use Rattle.rv_system.specs.Systems.{IsWholeOf}
use Rattle.rv_system.proofs.Steps.{none_missing, all_known, did_told, did_stand, outside_told, outside_stand}
use Rattle.rv_system.proofs.system.System.advance.Goals as goal

pub invariant_of-self : goal.invariant_of-self
invariant_of-self c =
    let within : c.from.result < length c.args.self.now.harts.items = subst (λ (k : ℕ). k < length c.args.self.now.harts.items) (sym c.from.ensures) c.requires in
    record {
      known = all_known c.args.self.now.harts.items c.from.result c.index_mut.result.now c.step.new.h (full_at c.args.self.now.mem) (full_at c.step.new.m) c.step.result c.args.self.now.known within c.index_mut.ensures.value c.step.ensures.after;
    }

pub unreachable-requires : goal.unreachable-requires
unreachable-requires c =
    let within : c.from.result < length c.args.self.now.harts.items = subst (λ (k : ℕ). k < length c.args.self.now.harts.items) (sym c.from.ensures) c.requires in
    none_missing c.args.self.now.harts.items c.from.result c.index_mut.result.now c.args.self.now.mem c.in-Missing.field-0 c.args.self.now.known within c.index_mut.ensures.value c.in-Missing.ensures.fit

pub returns-in-Did-clause-told : goal.returns-in-Did-clause-told
returns-in-Did-clause-told c = λ sys stand.
    let within : c.from.result < length c.args.self.now.harts.items = subst (λ (k : ℕ). k < length c.args.self.now.harts.items) (sym c.from.ensures) c.requires in
    subst (λ (k : ℕ). Some c.in-Did.record ≡ record_in (next_of k sys)) c.from.ensures
    (did_told c.args.self.now.harts.items c.from.result c.index_mut.result.now c.step.new.h (full_at c.args.self.now.mem) (full_at c.step.new.m) c.in-Did.record sys within c.index_mut.ensures.value stand c.in-Did.ensures.after)

pub returns-in-Did-clause-after : goal.returns-in-Did-clause-after
returns-in-Did-clause-after c = λ sys stand.
    let within : c.from.result < length c.args.self.now.harts.items = subst (λ (k : ℕ). k < length c.args.self.now.harts.items) (sym c.from.ensures) c.requires in
    subst (λ (k : ℕ). IsWholeOf (slice_set c.args.self.now.harts.items c.from.result c.step.new.h) (full_at c.step.new.m) (moved_by (next_of k sys) k sys)) c.from.ensures
    (did_stand c.args.self.now.harts.items c.from.result c.index_mut.result.now c.step.new.h (full_at c.args.self.now.mem) (full_at c.step.new.m) c.in-Did.record sys within c.index_mut.ensures.value stand c.in-Did.ensures.after
    c.in-Did.ensures.memory)

pub returns-in-Outside-clause-told : goal.returns-in-Outside-clause-told
returns-in-Outside-clause-told c = λ sys stand.
    let within : c.from.result < length c.args.self.now.harts.items = subst (λ (k : ℕ). k < length c.args.self.now.harts.items) (sym c.from.ensures) c.requires in
    subst (λ (k : ℕ). None ≡ record_in (next_of k sys)) c.from.ensures
    (outside_told c.args.self.now.harts.items c.from.result c.index_mut.result.now (full_at c.args.self.now.mem) sys within c.index_mut.ensures.value stand c.in-Outside.ensures.machine)

pub returns-in-Outside-clause-after : goal.returns-in-Outside-clause-after
returns-in-Outside-clause-after c = λ sys stand.
    let within : c.from.result < length c.args.self.now.harts.items = subst (λ (k : ℕ). k < length c.args.self.now.harts.items) (sym c.from.ensures) c.requires in
    subst (λ (k : ℕ). IsWholeOf (slice_set c.args.self.now.harts.items c.from.result c.step.new.h) (full_at c.step.new.m) (moved_by (next_of k sys) k sys)) c.from.ensures
    (outside_stand c.args.self.now.harts.items c.from.result c.index_mut.result.now c.step.new.h (full_at c.args.self.now.mem) (full_at c.step.new.m) sys within c.index_mut.ensures.value stand c.in-Outside.ensures.machine
    c.in-Outside.ensures.after c.in-Outside.ensures.memory)
