-- What is found for a `fault` leaf can be taken.
use Rattle.std.proofs.Common.{ℕ, true, List, []}
use Rattle.dom_set.specs.Elements.{is_in}
use Rattle.fd_prob.specs.declared.problem.Assignment.{Assignment}
use Rattle.fd_solve.specs.declared.answers.Solved.TheVariants as answers
use Rattle.tpl_ast.specs.declared.template.Var.TheVariants as vars
use Rattle.leaf_link.specs.Answers.{values_in}
use Rattle.leaf_link.specs.Cases.{all_tests}
use Rattle.leaf_link.specs.FetchAnswers.{IsFaultAnswer}
use Rattle.leaf_turn.specs.declared.taking.Fetch.TheVariants as fetches
use Rattle.leaf_turn.specs.Answers.{IsPlayable}
use Rattle.leaf_turn.specs.Entering.{root_at}
use Rattle.leaf_turn.specs.Finding.{FaultsArePlayable}
use Rattle.gen_turn.specs.Drafts.{Drafted, setting_of, turn_of, turn_with}
use Rattle.gen_turn.specs.Grounds.{IsGround}
use Rattle.gen_turn.specs.Touches.{touches_from}
use Rattle.gen_turn.proofs.Touching.{touches_are_footprints}

pub playable : FaultsArePlayable → (d : Drafted) (k : ℕ) (g : IsGround d k) (causes draws : List ℕ) (x : Assignment) → IsFaultAnswer (turn_of d [] k) (is_in causes) draws d.nodes (answers.Found x) → IsPlayable k d.now (fetches.Fails (root_at k d.now)) (values_in x)
playable law d k g causes draws x answer =
    law k d.now (setting_of d.template (all_tests (turn_with d (λ v. true) k) [] vars.A)) (touches_from 0 d.now.traces) (is_in causes) draws d.nodes x g.vectors (touches_are_footprints d.now.traces) g.words.aligned answer
