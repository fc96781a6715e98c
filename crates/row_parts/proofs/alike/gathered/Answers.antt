use Rattle.std.proofs.Common.{◌≡◌, ℕ, List, ap, arith}
use Rattle.row_parts.specs.Forms.{times_in}
use Rattle.row_parts.proofs.Sharing.{popped}
use Rattle.row_parts.proofs.alike.gathered.Goals as goal

pub push_group-requires-clause-once : goal.push_group-requires-clause-once
push_group-requires-clause-once g c = λ w.
    let left : times_in c.deref.result.now w ≡ times_in c.pop.new.self.items w = ap (λ (vs : List ℕ). times_in vs w) c.deref.ensures.value in
    let last = popped c.loop-entry.rest.items c.pop.new.self.items c.in-Some.entry w c.in-Some.ensures.items in
    let count = c.loop-entry.invariant.count w in
    let few = c.requires w in
    omega (arith, left, last, count, few)

pub loop-entry-preserved : goal.loop-entry-preserved
loop-entry-preserved g c = record {
  count = λ w.
      let left : times_in c.deref.result.now w ≡ times_in c.pop.new.self.items w = ap (λ (vs : List ℕ). times_in vs w) c.deref.ensures.value in
      let last = popped c.loop-entry.rest.items c.pop.new.self.items c.in-Some.entry w c.in-Some.ensures.items in
      let before = c.loop-entry.invariant.count w in
      let after = c.in_ok-rest.ensures.count w in
      omega (arith, left, last, before, after);
  same = c.in_ok-rest.ensures.alike;
}
