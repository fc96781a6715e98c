-- What the answer of a `do` leaf rests on, and that what is found can be taken.
use Rattle.std.proofs.Common.{◌≡◌, ℕ, Bool, true, List, refl, sym, ◌∙◌}
use Rattle.rv_script.specs.Folds.{Answer.Does, Entry}
use Rattle.sv_walk.specs.Translation.{At}
use Rattle.foot_map.specs.declared.touch.Touch.{Touch}
use Rattle.foot_map.specs.Races.{IsFootprint}
use Rattle.tpl_ast.specs.declared.template.Var.TheVariants as vars
use Rattle.tpl_ast.specs.declared.template.Wish.{Wish}
use Rattle.tpl_admit.specs.Races.{footprints_of}
use Rattle.part_machine.specs.Whole.{records_of}
use Rattle.fd_prob.specs.declared.problem.Assignment.{Assignment}
use Rattle.fd_solve.specs.declared.answers.Solved.TheVariants as answers
use Rattle.leaf_link.specs.Answers.{values_in}
use Rattle.leaf_link.specs.Cases.{all_tests}
use Rattle.leaf_link.specs.Extras.{AllPlain}
use Rattle.leaf_link.specs.KindLaws.{IsPosed}
use Rattle.leaf_link.specs.Turns.{Turn}
use Rattle.leaf_link.specs.Ways.{IsFetched}
use Rattle.turn_laws.specs.Given.{Setting}
use Rattle.leaf_turn.specs.Answers.{IsFound}
use Rattle.leaf_turn.specs.Finding.{AnswersAreFound}
use Rattle.leaf_turn.specs.Grounds.{IsSettingOf}
use Rattle.leaf_turn.specs.Wishes.{biases_of, mandatory_of}
use Rattle.leaf_turn.proofs.Plainness.{each_plain, plain_biases, plain_mandatory}
use Rattle.leaf_turn.proofs.Wholly.{found_by}
use Rattle.gen_search.specs.Search.{Turned}
use Rattle.gen_turn.specs.Drafts.{Drafted, setting_of, turn_of, turn_with}
use Rattle.gen_turn.specs.Grounds.{IsGround, IsLeafOf}
use Rattle.gen_turn.specs.Touches.{touches_from}
use Rattle.gen_turn.specs.Turns.{IsAnswered}
use Rattle.gen_turn.proofs.Touching.{touches_are_footprints}

pub is_setting : (d : Drafted) (sources : ℕ → Bool) → IsSettingOf d.template (setting_of d.template sources)
is_setting d sources = record { pool = refl; tables = refl; flags = refl; vectors = refl; sets = λ n. refl }

-- a pc leads to one address, by one walk
pub record IsSameWalk (walk other : List Entry) (pa there : ℕ) : Type 0 where
  pub entries : walk ≡ other
  pub address : pa ≡ there

pub one_walk : (t : Turn) (walk other : List Entry) (pa there : ℕ) → IsFetched t walk pa → IsFetched t other there → IsSameWalk walk other pa there
one_walk t walk other pa there a b = go walk other pa there (sym a.translates ∙ b.translates)
  where
    go : (walk other : List Entry) (pa there : ℕ) → Does walk (At pa) ≡ Does other (At there) → IsSameWalk walk other pa there
    go walk other pa there e = record { entries = cc e; address = cc e }

module _ (d : Drafted) (k : ℕ) (g : IsGround d k) (ws : List Wish) (built : IsLeafOf d.template ws) where
  abbrev pub turn : Turn
  turn = turn_of d (mandatory_of ws) k

  pub posed : (walk : List Entry) (pa : ℕ) → IsFetched turn walk pa → IsPosed turn walk pa (mandatory_of ws)
  posed walk pa fetched = record {
    fetched = fetched;
    words = g.words.known;
    fixed = g.words.fixed;
    plain = each_plain (mandatory_of ws) (plain_mandatory ws built.plain);
  }

  pub biases_are_plain : AllPlain (biases_of ws)
  biases_are_plain = plain_biases ws built.plain

  -- what the mandatory atoms leave to a source
  abbrev sources : ℕ → Bool
  sources = all_tests (turn_with d (λ v. true) k) (mandatory_of ws) vars.A

  abbrev setting : Setting
  setting = setting_of d.template sources

  abbrev feet : List Touch
  feet = touches_from 0 d.now.traces

  footprint : IsFootprint feet (footprints_of (λ j. records_of j d.now))
  footprint = touches_are_footprints d.now.traces

  pub found : AnswersAreFound → (draws : List ℕ) (r : Turned Drafted) (a : IsAnswered d k ws draws r) (x : Assignment) → a.answer.solved ≡ answers.Found x → IsFound k d.now a.pa (values_in x)
  found law draws r a x = found_by k d.now setting feet a.walk a.pa ws draws d.nodes a.answer x law built.plain g.vectors footprint (posed a.walk a.pa a.leads) a.is
