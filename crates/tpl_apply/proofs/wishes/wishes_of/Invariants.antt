use Rattle.std.proofs.Common.{◌≡◌, ◌++◌, drop, false, map}
use Rattle.std.specs.List.{list_any}
use Rattle.tpl_lang.specs.Faults.{is_wish_above}
use Rattle.tpl_lang.specs.Statements.{wish_of}
use Rattle.tpl_token.specs.Internal.Phrases.{wishes_view}
use Rattle.tpl_state.specs.Internal.State.{known}
use Rattle.tpl_apply.proofs.wishes.wishes_of.Given as goal

abbrev pub invariant-loop-wish : goal.invariant-loop-wish
invariant-loop-wish l = record {
  fine : list_any is_wish_above (wishes_view (drop l.wish-index l.wishes)) ≡ false;
  found : l.found.items ++ map (wish_of (known l.state)) (wishes_view (drop l.wish-index l.wishes)) ≡ map (wish_of (known l.state)) (wishes_view l.wishes);
}
