use Rattle.std.proofs.Common.{List, sym, subst}
use Rattle.foot_map.specs.declared.touch.Touch.{Touch}
use Rattle.foot_map.specs.Races.{HasRoom}
use Rattle.foot_map.proofs.Room.{IsPosed, room, room_back}
use Rattle.foot_map.proofs.map.FootMap.some_free.Goals as goal

posed : (c : goal.After-any_common) → IsPosed c.self.inside.touches c.args.hart c.args.role c.args.frame c.args.len c.blocked-blocked.result c.others.result c.starts.result c.multiples_of.result
posed c = record {
  frame_is = c.requires.frame;
  len_is = c.requires.len;
  blocked_is = c.blocked-blocked.ensures;
  others_are = c.others.ensures;
  starts_are = c.starts.ensures;
  multiples_are = c.multiples_of.ensures;
}

pub returns : goal.returns
returns c = (
  λ h.
      let x = c.any_common.ensures.below h in
      subst (λ (s : List Touch). HasRoom s c.args.hart c.args.role c.args.frame c.args.len) c.self.view_is
      (room c.self.inside.touches c.args.hart c.args.role c.args.frame c.args.len c.blocked-blocked.result c.others.result c.starts.result c.multiples_of.result (posed c) x.0 x.1 x.2 x.3),
  λ h.
      c.any_common.ensures.common.1
      (room_back c.self.inside.touches c.args.hart c.args.role c.args.frame c.args.len c.blocked-blocked.result c.others.result c.starts.result c.multiples_of.result (posed c)
      (subst (λ (s : List Touch). HasRoom s c.args.hart c.args.role c.args.frame c.args.len) (sym c.self.view_is) h)),
)
