use Rattle.gen_turn.proofs.OneGenerated.{generated_is_one}
use Rattle.gen_turn.proofs.laws.generated_is_one.Goals as goal

pub returns : goal.returns
returns c = generated_is_one c.searches_have_one_result.ensures.one c.templates_are_ready.ensures
