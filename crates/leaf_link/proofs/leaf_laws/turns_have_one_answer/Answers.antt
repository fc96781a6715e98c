use Rattle.leaf_link.proofs.Agreeing.{leaf_answers_agree, turn_answers_agree}
use Rattle.leaf_link.proofs.Existing.{leaf_answers_exist, turn_answers_exist}
use Rattle.leaf_link.proofs.leaf_laws.turns_have_one_answer.Goals as goal

pub returns-clause-turns : goal.returns-clause-turns
returns-clause-turns c = turn_answers_agree

pub returns-clause-leaves : goal.returns-clause-leaves
returns-clause-leaves c = leaf_answers_agree

pub returns-clause-some_of_turns : goal.returns-clause-some_of_turns
returns-clause-some_of_turns c = turn_answers_exist

pub returns-clause-some_of_leaves : goal.returns-clause-some_of_leaves
returns-clause-some_of_leaves c = leaf_answers_exist
