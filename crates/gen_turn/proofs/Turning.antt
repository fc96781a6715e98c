-- The turns of leaves, made of their answers.
use Rattle.std.proofs.Common.{◌≡◌, ℕ, ◌<◌, ◌%◌, Bool, true, List, [], length, sym, refl, ap, ◌∙◌, subst}
use Rattle.rv_script.specs.Folds.{Entry}
use Rattle.foot_map.specs.declared.touch.Touch.{Touch}
use Rattle.foot_map.specs.Races.{IsFootprint}
use Rattle.sv_walk.proofs.Offsets.{offset_kept}
use Rattle.dom_set.specs.Elements.{is_in}
use Rattle.tpl_ast.specs.declared.template.Var.TheVariants as vars
use Rattle.tpl_ast.specs.declared.template.Wish.{Wish}
use Rattle.tpl_admit.specs.Races.{footprints_of}
use Rattle.part_machine.specs.Whole.{Whole, records_of}
use Rattle.part_state.specs.Meaning.{IsTest}
use Rattle.fd_solve.specs.declared.answers.LeafAnswer.{LeafAnswer}
use Rattle.fd_solve.specs.declared.answers.Solved.{Solved}
use Rattle.fd_solve.specs.declared.answers.Solved.TheVariants as answers
use Rattle.leaf_link.specs.Cases.{HasSources, all_tests}
use Rattle.leaf_link.specs.Extras.{IsTurnLeafAnswer}
use Rattle.leaf_link.specs.FetchAnswers.{IsFaultAnswer}
use Rattle.turn_laws.specs.Given.{Setting, turn_at}
use Rattle.turn_laws.proofs.Places.{beside}
use Rattle.leaf_turn.specs.declared.entering.Entered.TheVariants as entered
use Rattle.leaf_turn.specs.Entering.{IsEnteredAs, Leads}
use Rattle.leaf_turn.specs.Grounds.{IsSettingOf}
use Rattle.leaf_turn.specs.Wishes.{biases_of, mandatory_of}
use Rattle.leaf_turn.proofs.Grounding.{tests_apart}
use Rattle.gen_search.specs.Search.{Turned, Turned.NoneFits, Turned.Spent}
use Rattle.gen_turn.specs.Drafts.{Drafted, at_test, setting_of, turn_with}
use Rattle.gen_turn.specs.Grounds.{IsGround, IsOfWords, IsSameGround}
use Rattle.gen_turn.specs.Touches.{touches_from}
use Rattle.gen_turn.specs.Turns.{EndsAs, IsAnswered, IsDone, IsFailed}
use Rattle.gen_turn.proofs.Behind.{entered_ground, fetched_ground, ground_then}
use Rattle.gen_turn.proofs.Settling.{is_setting}
use Rattle.gen_turn.proofs.Touching.{touches_are_footprints}

-- where a pc leads is a multiple of 4
pub led_aligned : (k : ℕ) (w : Whole) (walk : List Entry) (pa : ℕ) → Leads k w walk pa → pa % 4 ≡ 0
led_aligned k w walk pa leads = offset_kept _ _ _ _ _ walk pa leads.translates ∙ leads.aligned

module _ (d : Drafted) (k : ℕ) (ws : List Wish) (draws : List ℕ) where
  -- what the mandatory atoms leave to a source
  abbrev sources : ℕ → Bool
  sources = all_tests (turn_with d (λ v. true) k) (mandatory_of ws) vars.A

  abbrev setting : Setting
  setting = setting_of d.template sources

  abbrev feet : List Touch
  feet = touches_from 0 d.now.traces

  -- it doesn't rest on what a source may be started with
  has_sources : HasSources (turn_at setting feet k d.now) (mandatory_of ws)
  has_sources v = tests_apart (λ u. true) setting feet k d.now (mandatory_of ws) vars.A v

  -- ---- a `do` leaf where the pc leads

  pub answered_so : (walk : List Entry) (pa : ℕ) → Leads k d.now walk pa → (answer : LeafAnswer)
      → ((s : Setting) (feet : List Touch) → IsSettingOf d.template s → HasSources (turn_at s feet k d.now) (mandatory_of ws) → IsFootprint feet (footprints_of (λ j. records_of j d.now)) → IsTurnLeafAnswer (turn_at s feet k d.now) pa (mandatory_of ws) (biases_of ws) draws d.nodes answer)
      → (r : Turned Drafted) → EndsAs d k ws answer.dropped answer.solved r → IsAnswered d k ws draws r
  answered_so walk pa leads answer is r ends = record {
    walk = walk;
    pa = pa;
    leads = record { translates = leads.translates; aligned = leads.aligned };
    answer = answer;
    is = is setting feet (is_setting d sources) has_sources (touches_are_footprints d.now.traces);
    ends = ends;
  }

  -- ---- a `do` leaf with its fetch

  pub done_none : (new : Whole) → IsEnteredAs d.template k draws d.nodes d.now new entered.NoneFits → IsDone d k ws draws NoneFits
  done_none new e = record { fetch = answers.NoneFits; is = e.0 setting feet (is_setting d sources) (touches_are_footprints d.now.traces); goes_on = refl }

  pub done_spent : (new : Whole) → IsEnteredAs d.template k draws d.nodes d.now new entered.Spent → IsDone d k ws draws Spent
  done_spent new e = record { fetch = answers.Spent; is = e.0 setting feet (is_setting d sources) (touches_are_footprints d.now.traces); goes_on = refl }

  pub done_at : (mid : Whole) (pa : ℕ) → IsEnteredAs d.template k draws d.nodes d.now mid (entered.At pa) → IsTest mid → IsOfWords k mid → (r : Turned Drafted) → IsAnswered (at_test d mid) k ws draws r → IsDone d k ws draws r
  done_at mid pa e test words r answered = record {
    fetch = answers.Found e.0;
    is = e.1 setting feet (is_setting d sources) (touches_are_footprints d.now.traces);
    goes_on = record { fetched = mid; placed = e.2.placed; test = test; words = words; answered = answered };
  }

-- ---- grounds

pub own_ground : (old new : Whole) → new ≡ old → IsSameGround old new
own_ground old new is = subst (IsSameGround old) (sym is) (record { harts = refl; names = refl; test = λ t. t; words = λ j o. o })

module _ (d : Drafted) (k : ℕ) (draws : List ℕ) (mid : Whole) (pa : ℕ) (e : IsEnteredAs d.template k draws d.nodes d.now mid (entered.At pa)) where
  pub entered_harts : k < length d.now.harts → k < length mid.harts
  entered_harts lt =
      let many : length mid.harts ≡ length d.now.harts = ap (λ (w : Whole). length w.harts) e.2.placed.is ∙ (beside k e.2.placed.places d.now).harts in
      subst (λ (n : ℕ). k < n) (sym many) lt

  pub ground_at : IsGround d k → IsTest mid → IsOfWords k mid → IsGround (at_test d mid) k
  ground_at g test words = fetched_ground d k _ mid g e.2.placed test words

  pub ground_from : IsTest mid → IsOfWords k mid → (new : Whole) → IsSameGround mid new → IsSameGround d.now new
  ground_from test words new same = ground_then d.now mid new (entered_ground k _ d.now mid e.2.placed test words) same

-- ---- a `fault` leaf

pub failed_so : (d : Drafted) (k : ℕ) (causes draws : List ℕ) (answer : Solved) → ((s : Setting) (feet : List Touch) → IsSettingOf d.template s → IsFootprint feet (footprints_of (λ j. records_of j d.now)) → IsFaultAnswer (turn_at s feet k d.now) (is_in causes) draws d.nodes answer)
    → (r : Turned Drafted) → EndsAs d k [] [] answer r → IsFailed d k causes draws r
failed_so d k causes draws answer is r ends = record {
  fetch = answer;
  is = is _ (touches_from 0 d.now.traces) (is_setting d _) (touches_are_footprints d.now.traces);
  ends = ends;
}
