use Rattle.std.proofs.Common.{◌≡◌, drop}
use Rattle.std.specs.List.{list_any}
use Rattle.tpl_lang.specs.Faults.{is_atom_unknown}
use Rattle.tpl_token.specs.Internal.Phrases.{wishes_view}
use Rattle.tpl_state.specs.Internal.State.{known}
use Rattle.tpl_fault.proofs.names.is_any_wish_unknown.Given as goal

abbrev pub invariant-loop-wish : goal.invariant-loop-wish
invariant-loop-wish l = list_any (λ w. is_atom_unknown (known l.state) w.atom) (wishes_view (drop l.wish-index l.wishes)) ≡ list_any (λ w. is_atom_unknown (known l.state) w.atom) (wishes_view l.wishes)
