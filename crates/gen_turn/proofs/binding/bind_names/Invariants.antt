use Rattle.tpl_admit.specs.Internal.Moments.{moment}
use Rattle.tpl_admit.specs.Variables.{value_of}
use Rattle.gen_turn.proofs.Names.{IsBinding}
use Rattle.gen_turn.proofs.binding.bind_names.Given as goal

abbrev pub invariant-loop-wish : goal.invariant-loop-wish
invariant-loop-wish l = IsBinding (λ v. value_of v (moment l.at)) l.dropped l.wishes l.wish-index l.bias l.fn.part l.part
