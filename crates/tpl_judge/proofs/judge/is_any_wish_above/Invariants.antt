use Rattle.std.proofs.Common.{◌≡◌, drop}
use Rattle.std.specs.List.{list_any}
use Rattle.tpl_lang.specs.Faults.{is_wish_above}
use Rattle.tpl_token.specs.Internal.Phrases.{wishes_view}
use Rattle.tpl_judge.proofs.judge.is_any_wish_above.Given as goal

abbrev pub invariant-loop-wish : goal.invariant-loop-wish
invariant-loop-wish l = list_any is_wish_above (wishes_view (drop l.wish-index l.wishes)) ≡ list_any is_wish_above (wishes_view l.wishes)
