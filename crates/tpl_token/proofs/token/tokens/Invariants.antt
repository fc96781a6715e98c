use Rattle.std.proofs.Common.{◌≡◌, ◌++◌, List, length}
use Rattle.std.specs.Prelude.{option_map}
use Rattle.tpl_lang.specs.Tokens.{Token, tokens_among, pieces}
use Rattle.tpl_token.specs.Internal.Views.{views}
use Rattle.tpl_token.proofs.token.tokens.Given as goal

abbrev pub invariant-loop-rest : goal.invariant-loop-rest
invariant-loop-rest l = option_map (λ (ts : List Token). views l.tokens.items ++ ts) (tokens_among (pieces l.rest)) ≡ tokens_among (pieces l.line)

abbrev pub decreases-loop-rest : goal.decreases-loop-rest
decreases-loop-rest l = length l.rest
