use Rattle.std.specs.List.{AllByRecursion}
use Rattle.std.proofs.lemmas.List.{length-append}
use Rattle.rv_hart.specs.Clauses.{IsFitRecord}
use Rattle.std.proofs.Common.{◌≡◌, ℕ, ◌<◌, ◌+◌, get_or, refl, sym, ap, ◌∙◌, subst, arith, [], ◌∷◌, length}
use Rattle.rv_mem.specs.Full.{full_at}
use Rattle.rv_system.specs.Runs.{StopsAt}
use Rattle.rv_system.proofs.Running.{none_yet, one_more, runs_with, all_more, end_stand, stops_at, stopped_stand}
use Rattle.rv_system.proofs.system.System.run.Goals as goal

pub loop-at-init : goal.loop-at-init
loop-at-init c = record {
  up_to = λ sys stand. rw c.in-Ok.ensures.items (none_yet c.args.schedule.now sys c.args.self.now.harts.items (full_at c.args.self.now.mem) stand);
  fit = subst (AllByRecursion (λ e. IsFitRecord e.1)) (sym c.in-Ok.ensures.items) tt;
  few = ap length c.in-Ok.ensures.items;
  count = refl;
  len = c.in-Ok.ensures.len;
  room = c.in-Ok.ensures.exact;
}

pub advance-requires : goal.advance-requires
advance-requires c = subst (λ (n : ℕ). get_or c.args.schedule.now c.loop-at.at 0 < n) (sym c.loop-at.invariant.count) (c.requires c.loop-at.at 0 c.loop-at-test.true)

pub push_reserved-requires : goal.push_reserved-requires
push_reserved-requires c = omega (arith, c.loop-at.invariant.len, c.loop-at.invariant.room, c.loop-at-test.true)

pub loop-at-preserved : goal.loop-at-preserved
loop-at-preserved c = record {
  up_to = λ sys stand.
      let up = c.loop-at.invariant.up_to sys stand in
      one_more c.args.schedule.now c.loop-at.at sys c.loop-at.events.items c.push_reserved.new.self.items c.loop-at.self.harts.items c.advance.new.self.harts.items (full_at c.loop-at.self.mem) (full_at c.advance.new.self.mem) c.in-Some.record
      c.loop-at-test.true up c.push_reserved.ensures.items (c.in-Some.ensures.told up.now up.stand) (c.in-Some.ensures.after up.now up.stand);
  fit = all_more c.loop-at.events.items c.push_reserved.new.self.items (get_or c.args.schedule.now c.loop-at.at 0) c.in-Some.record c.loop-at.invariant.fit c.push_reserved.ensures.items c.in-Some.ensures.fit;
  few = ap length c.push_reserved.ensures.items ∙ length-append c.loop-at.events.items ((get_or c.args.schedule.now c.loop-at.at 0, c.in-Some.record) ∷ []) ∙ ap (λ (n : ℕ). n + 1) c.loop-at.invariant.few;
  count = c.advance.ensures.count ∙ c.loop-at.invariant.count;
  len = c.push_reserved.ensures.len ∙ ap (λ (n : ℕ). n + 1) c.loop-at.invariant.len;
  room = c.push_reserved.ensures.capacity ∙ c.loop-at.invariant.room;
}

pub returns-in-None-clause-stopped : goal.returns-in-None-clause-stopped
returns-in-None-clause-stopped c = λ at is sys stand.
    let up = c.loop-at.invariant.up_to sys stand in
    let same : c.loop-at.at ≡ at = cc is in
    subst (λ (n : ℕ). StopsAt c.args.schedule.now sys n) same
    (stops_at c.args.schedule.now c.loop-at.at sys c.loop-at.events.items c.loop-at.self.harts.items (full_at c.loop-at.self.mem) c.loop-at-test.true up (c.in-None.ensures.told up.now up.stand))

pub returns-in-None-clause-after : goal.returns-in-None-clause-after
returns-in-None-clause-after c = λ some sys stand.
    let up = c.loop-at.invariant.up_to sys stand in
    stopped_stand c.args.schedule.now c.loop-at.at sys c.loop-at.events.items c.loop-at.self.harts.items c.advance.new.self.harts.items (full_at c.loop-at.self.mem) (full_at c.advance.new.self.mem) c.loop-at-test.true up
    (c.in-None.ensures.told up.now up.stand) (c.in-None.ensures.after up.now up.stand)

pub returns-in-None-clause-count : goal.returns-in-None-clause-count
returns-in-None-clause-count c = c.advance.ensures.count ∙ c.loop-at.invariant.count

pub returns-clause-done : goal.returns-clause-done
returns-clause-done c = λ sys stand.
    runs_with c.args.schedule.now c.loop-at.at sys c.loop-at.events.items c.loop-at.self.harts.items (full_at c.loop-at.self.mem) (omega (arith, c.loop-at-test.false)) (c.loop-at.invariant.up_to sys stand)

pub returns-clause-after : goal.returns-clause-after
returns-clause-after c = λ some sys stand.
    end_stand c.args.schedule.now c.loop-at.at sys c.loop-at.events.items c.loop-at.self.harts.items (full_at c.loop-at.self.mem) (omega (arith, c.loop-at-test.false)) (c.loop-at.invariant.up_to sys stand)

pub returns-clause-count : goal.returns-clause-count
returns-clause-count c = c.loop-at.invariant.count

pub returns-clause-few : goal.returns-clause-few
returns-clause-few c = omega (arith, c.loop-at.invariant.few, c.loop-at-test.false, c.loop-at.auto.at-end)
