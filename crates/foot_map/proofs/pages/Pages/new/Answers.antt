use Rattle.foot_map.proofs.Kept.{nothing_kept}
use Rattle.foot_map.proofs.pages.Pages.new.Goals as goal

pub returns : goal.returns
returns c = record { empty = nothing_kept c.new.result c.new.ensures.empty }
