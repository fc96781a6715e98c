use Rattle.gen_turn.proofs.SameText.{texts_tell_made}
use Rattle.gen_turn.proofs.laws.texts_tell_what_is_made.Goals as goal

pub returns : goal.returns
returns c = texts_tell_made c.searches_have_one_result.ensures.one c.templates_are_ready.ensures c.search_laws.ensures.moved
