use Rattle.std.proofs.Common.{◌≡◌, drop, false}
use Rattle.std.specs.List.{list_any}
use Rattle.tpl_lang.specs.Faults.{is_wish_above, is_atom_empty}
use Rattle.tpl_token.specs.Internal.Phrases.{wishes_view}
use Rattle.tpl_state.specs.Internal.State.{known}
use Rattle.tpl_fault.proofs.sets.is_any_wish_empty.Given as goal

abbrev pub invariant-loop-wish : goal.invariant-loop-wish
invariant-loop-wish l = record {
  fine : list_any is_wish_above (wishes_view (drop l.wish-index l.wishes)) ≡ false;
  rest : list_any (λ w. is_atom_empty (known l.state) w.atom) (wishes_view (drop l.wish-index l.wishes)) ≡ list_any (λ w. is_atom_empty (known l.state) w.atom) (wishes_view l.wishes);
}
