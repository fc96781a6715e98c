use Rattle.gen_turn.proofs.laws.searches_have_one_result.Goals as goal

pub returns-clause-one : goal.returns-clause-one
returns-clause-one c = c.search_laws.ensures.one_result c.turns_have_one_answer.ensures.still c.turns_have_one_answer.ensures.one

pub returns-clause-bounded : goal.returns-clause-bounded
returns-clause-bounded c = c.search_laws.ensures.bounded
