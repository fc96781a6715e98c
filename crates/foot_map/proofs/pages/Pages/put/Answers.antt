use Rattle.std.proofs.Common.{◌≡◌, ◌%◌, ◌||◌, ℕ, List, Bool, Some, None, not, cond, eqb, false, sym, ap, ◌∙◌, arith}
use Rattle.std.specs.Option.{IsSome, is_some}
use Rattle.std.specs.BTreeMap.{BTreeMap, get, is_at}
use Rattle.foot_map.specs.declared.touch.Touch.{Touch}
use Rattle.foot_map.specs.Order.{by_place}
use Rattle.foot_map.specs.Touches.{has, is_triple}
use Rattle.foot_map.specs.Pages.{is_on, kept}
use Rattle.foot_map.proofs.Numbered.{in_order}
use Rattle.foot_map.proofs.Kept.{has_here, one_page, no_page, or_same, same_entries}
use Rattle.foot_map.proofs.pages.Pages.put.Goals as goal
use Rattle.foot_map.proofs.pages.Pages.put.Goals.{in-Ok, in-Err}

found : (c : goal.After-self-in-Some-1) → get by_place c.self.inside.pages c.place_of-place.result ≡ Some c.in-Some.page.now
found c = sym c.in-Some.ensures.value

pub returns-in-Some-clause-new : goal.returns-in-Some-clause-new
returns-in-Some-clause-new c = ap not (
    c.get-new.ensures
    ∙ (λ i. is_on (sym (found c) i) (c.offset_of-offset.ensures.offset i))
    ∙ ap (λ (p : Touch). is_on (get by_place c.self.inside.pages p) (c.args.touch.byte % 4096)) c.place_of-place.ensures.place
    ∙ sym (has_here c.self.inside.pages c.args.touch.byte c.args.touch.hart c.args.touch.role (omega (arith, c.place_of-place.ensures.byte)) c.place_of-place.ensures.hart)
    ∙ ap (λ (s : List Touch). has s c.args.touch.byte c.args.touch.hart c.args.touch.role) c.self.view_is)

pub returns-in-Some-clause-added : goal.returns-in-Some-clause-added
returns-in-Some-clause-added c b h r =
    let there : IsSome (get by_place c.self.inside.pages c.place_of-place.result) = ap is_some (found c) in
    let held = (c.get_mut.follows.holds c.set.new.self).3 there in
    one_page (λ k e. k || e) or_same c.self.inside.pages (c.get_mut.follows.lender c.set.new.self) c.args.touch c.place_of-place.result c.set.new.self c.offset_of-offset.result
    (omega (arith, c.place_of-place.ensures.byte)) c.place_of-place.ensures.hart c.place_of-place.ensures.place c.offset_of-offset.ensures.offset
    held.0
    (λ y. c.set.ensures y ∙ ap (λ o. is_on o y || eqb y c.offset_of-offset.result) (sym (found c)))
    b h r
    ∙ ap (λ (s : List Touch). has s b h r || is_triple c.args.touch b h r) c.self.view_is

pub returns-in-Some-clause-ordered : goal.returns-in-Some-clause-ordered
returns-in-Some-clause-ordered c = in_order _

absent : (c : goal.Joined-insert) → get by_place c.self.inside.pages c.place_of-place.result ≡ None
absent c = sym c.in_default.ensures.value

was_out : (c : goal.Joined-insert) → has c.args.self.now c.args.touch.byte c.args.touch.hart c.args.touch.role ≡ false
was_out c =
    ap (λ (s : List Touch). has s c.args.touch.byte c.args.touch.hart c.args.touch.role) (sym c.self.view_is)
    ∙ no_page c.self.inside.pages c.args.touch c.place_of-place.result c.place_of-place.ensures.place (absent c)

pub returns-clause-new : goal.returns-clause-new
returns-clause-new c = elim c.match-insert.branch [
  | in-Ok w ↦ rw w.result-is (ap not (sym (was_out c)))
  | in-Err w ↦ rw w.result-is tt
]

pub returns-clause-added : goal.returns-clause-added
returns-clause-added c = elim c.match-insert.branch [
  | in-Ok w ↦ rw w.result-is (λ b h r.
      one_page (λ k e. k || e) or_same c.self.inside.pages c.insert.new.self c.args.touch c.place_of-place.result c.set-2.new.self c.offset_of-offset.result
      (omega (arith, c.place_of-place.ensures.byte)) c.place_of-place.ensures.hart c.place_of-place.ensures.place c.offset_of-offset.ensures.offset
      (λ q. w.in-Ok.ensures.updates.0 q ∙ ap (λ (m : BTreeMap Touch (List ℕ)). cond (is_at (by_place c.place_of-place.result) q) (Some c.set-2.new.self) (get by_place m q)) c.get_mut.follows.holds-at-none)
      (λ y. c.set-2.ensures y ∙ ap (λ (k : Bool). k || eqb y c.offset_of-offset.result) (c.new-page.ensures y ∙ ap (λ o. is_on o y) (sym (absent c))))
      b h r
      ∙ ap (λ (s : List Touch). has s b h r || is_triple c.args.touch b h r) c.self.view_is)
  | in-Err w ↦ rw w.result-is tt
]

pub returns-clause-refused : goal.returns-clause-refused
returns-clause-refused c = elim c.match-insert.branch [
  | in-Ok w ↦ rw w.result-is tt
  | in-Err w ↦ rw w.result-is (same_entries _ _ w.in-Err.ensures.err ∙ ap kept c.get_mut.follows.holds-at-none ∙ c.self.view_is)
]

pub returns-clause-absent : goal.returns-clause-absent
returns-clause-absent c = elim c.match-insert.branch [
  | in-Ok w ↦ rw w.result-is tt
  | in-Err w ↦ rw w.result-is (was_out c)
]

pub returns-clause-ordered : goal.returns-clause-ordered
returns-clause-ordered c = in_order _
