use Rattle.std.proofs.Common.{List, subst}
use Rattle.foot_map.specs.declared.touch.Touch.{Touch}
use Rattle.foot_map.specs.Order.{IsInOrder}
use Rattle.foot_map.specs.Pages.{is_kept}
use Rattle.foot_map.proofs.Numbered.{in_order}
use Rattle.foot_map.proofs.pages.Pages.tell_order.Goals as goal

pub returns : goal.returns
returns c = subst (λ (s : List Touch). IsInOrder s) c.self.view_is (in_order (is_kept c.self.inside.pages))
