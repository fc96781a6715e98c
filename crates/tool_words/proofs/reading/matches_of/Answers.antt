use Rattle.std.proofs.Common.{◌≡◌, true, map, refl, subst}
use Rattle.clap.specs.Words.{App, FailsBy, fault_of, is_simple_and_free}
use Rattle.tool_words.specs.App.{testgen_app}
use Rattle.tool_words.proofs.reading.matches_of.Goals as goal

is_plain : is_simple_and_free testgen_app ≡ true
is_plain = refl

pub returns-clause-kinds : goal.returns-clause-kinds
returns-clause-kinds c =
    subst (λ (a : App). is_simple_and_free a ≡ true → FailsBy (fault_of a (map (λ w. w.now) c.args.words.now)) c.try_get_matches_from.result) c.in_ok-testgen.ensures c.try_get_matches_from.ensures.kinds is_plain
