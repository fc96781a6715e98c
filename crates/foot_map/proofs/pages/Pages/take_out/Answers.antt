use Rattle.std.proofs.Common.{◌≡◌, ◌&&◌, ℕ, List, Some, None, not, eqb, sym, ap, ◌∙◌, arith}
use Rattle.std.specs.Option.{IsSome, is_some}
use Rattle.std.specs.BTreeMap.{BTreeMap, get}
use Rattle.foot_map.specs.declared.touch.Touch.{Touch}
use Rattle.foot_map.specs.Order.{by_place}
use Rattle.foot_map.specs.Touches.{has, is_triple}
use Rattle.foot_map.specs.Pages.{is_on, kept}
use Rattle.foot_map.proofs.Numbered.{in_order}
use Rattle.foot_map.proofs.Kept.{one_page, none_taken, and_not_same}
use Rattle.foot_map.proofs.pages.Pages.take_out.Goals as goal
use Rattle.foot_map.proofs.pages.Pages.take_out.Goals.{in-Some, in_default}

pub returns-clause-removed : goal.returns-clause-removed
returns-clause-removed c b h r = elim c.match-get_mut.branch [
  | in-Some w ↦ (
      let found : get by_place c.self.inside.pages c.place_of-place.result ≡ Some w.in-Some.page.now = sym w.in-Some.ensures.value in
      let there : IsSome (get by_place c.self.inside.pages c.place_of-place.result) = ap is_some found in
      let held = (c.get_mut.follows.holds w.clear.new.self).3 there in
      ap (λ s. has (kept s.pages) b h r) w.self-inside-is
      ∙ one_page (λ k e. k && not e) and_not_same c.self.inside.pages (c.get_mut.follows.lender w.clear.new.self) c.args.touch c.place_of-place.result w.clear.new.self w.offset_of.result
      (omega (arith, c.place_of-place.ensures.byte)) c.place_of-place.ensures.hart c.place_of-place.ensures.place w.offset_of.ensures.offset
      held.0
      (λ y. w.clear.ensures y ∙ ap (λ o. is_on o y && not (eqb y w.offset_of.result)) (sym found))
      b h r
      ∙ ap (λ (s : List Touch). has s b h r && not (is_triple c.args.touch b h r)) c.self.view_is
      )
  | in_default w ↦ (
      let absent : get by_place c.self.inside.pages c.place_of-place.result ≡ None = sym w.in_default.ensures.value in
      ap (λ s. has (kept s.pages) b h r) w.self-inside-is
      ∙ ap (λ (m : BTreeMap Touch (List ℕ)). has (kept m) b h r) c.get_mut.follows.holds-at-none
      ∙ none_taken c.self.inside.pages c.args.touch c.place_of-place.result c.place_of-place.ensures.place absent b h r
      ∙ ap (λ (s : List Touch). has s b h r && not (is_triple c.args.touch b h r)) c.self.view_is
      )
]

pub returns-clause-ordered : goal.returns-clause-ordered
returns-clause-ordered c = in_order _
