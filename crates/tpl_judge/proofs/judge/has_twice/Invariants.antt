use Rattle.std.proofs.Common.{◌≡◌, length}
use Rattle.tpl_lang.specs.Faults.{has_twice}
use Rattle.tpl_token.specs.Internal.Phrases.{words_view}
use Rattle.tpl_judge.proofs.judge.has_twice.Given as goal

abbrev pub invariant-loop-rest : goal.invariant-loop-rest
invariant-loop-rest l = has_twice (words_view l.rest) ≡ has_twice (words_view l.names)

abbrev pub decreases-loop-rest : goal.decreases-loop-rest
decreases-loop-rest l = length l.rest
