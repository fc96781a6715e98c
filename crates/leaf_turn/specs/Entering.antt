-- A fetch on a test: the page table entries that it starts, and where the pc then leads.
use Rattle.std.specs.Prelude.{◌≡◌, ℕ, ◌%◌, Bool, true, List, Some}
use Rattle.std.specs.List.{list_all}
use Rattle.rv_csr.specs.Table.{register_at}
use Rattle.rv_script.specs.declared.place.Place.{Place}
use Rattle.rv_script.specs.declared.place.Place.TheVariants.{Csr}
use Rattle.rv_script.specs.Bytes.{word_address}
use Rattle.rv_script.specs.Lists.{HasItem}
use Rattle.rv_script.specs.Folds.{Answer.Does, Entry, Known, by_known}
use Rattle.rv_script.specs.Logs.{answer_told, by_answers, log_of, started}
use Rattle.sv_walk.specs.declared.entry.View.{View}
use Rattle.sv_walk.specs.Translation.{At, root_address}
use Rattle.row_parts.specs.declared.forms.Forms.{Forms}
use Rattle.fetch_ways.specs.declared.way.FetchWay.{FetchWay}
use Rattle.fetch_ways.specs.Ways.{AreFetchWays, is_free_walk}
use Rattle.foot_map.specs.declared.touch.Touch.{Touch}
use Rattle.foot_map.specs.Races.{IsFootprint}
use Rattle.rv_hart.specs.Machine.{fetch_view}
use Rattle.tpl_ast.specs.declared.template.Template.{Template}
use Rattle.tpl_admit.specs.Races.{footprints_of}
use Rattle.part_machine.specs.Whole.{Whole, fixed_in, hart_of, records_of}
use Rattle.fd_prob.specs.declared.problem.Assignment.{Assignment}
use Rattle.fd_solve.specs.declared.answers.Solved.{Solved}
use Rattle.fd_solve.specs.declared.answers.Solved.TheVariants as answers
use Rattle.leaf_link.specs.Answers.{values_in}
use Rattle.leaf_link.specs.FetchAnswers.{IsFetchAnswer, fetch_space}
use Rattle.leaf_link.specs.FetchRows.{AreFetchRows, FetchRow}
use Rattle.leaf_link.specs.Turns.{Turn, is_first_form, is_free_entry, is_second_form}
use Rattle.leaf_link.specs.Values.{Values, given_by}
use Rattle.leaf_stand.specs.declared.stand.Stand.{Stand}
use Rattle.data_bytes.specs.Sets.{IsSetOf}
use Rattle.leaf_stand.specs.Stands.{csr_held}
use Rattle.turn_laws.specs.Ahead.{AreVectors}
use Rattle.turn_laws.specs.Entered.{IsWalked, walk_script}
use Rattle.turn_laws.specs.Given.{Setting, known_at, turn_at}
use Rattle.leaf_turn.specs.declared.entering.Entered.{Entered}
use Rattle.leaf_turn.specs.declared.entering.Entered.TheVariants as entered
use Rattle.leaf_turn.specs.Answers.{ArePlaced}
use Rattle.leaf_link.specs.FetchPlacing.{entry_value}
use Rattle.leaf_turn.specs.Grounds.{IsSettingOf}

-- ---- what a template lets new entries be

pub record AreFormsOf (t : Template) (f : Forms) : Type 0 where
  pub tables : f.tables.items ≡ t.tables
  pub pool : f.pool.items ≡ t.pool
  pub flags : f.flags.items ≡ t.flags

-- ---- the fetch of a hart

-- what the translation of a hart's fetches goes by
abbrev pub view_at : ℕ → Whole → View
view_at k w = fetch_view (fixed_in (hart_of k w) w.memory)

-- the physical address of the root entry of its pc
abbrev pub root_at : ℕ → Whole → ℕ
root_at k w = word_address (root_address (view_at k w) (hart_of k w).pc)

-- the entries that the values of a fetch start
abbrev pub entries_at : ℕ → Whole → Values → Known
entries_at k w x = started (known_at k w) (log_of (answer_told (by_answers (known_at k w) (given_by x)) (walk_script (fixed_in (hart_of k w) w.memory))))

-- the pc, a multiple of 4, leads to a physical address by known entries alone, whose walk races with nothing
pub record Leads (k : ℕ) (w : Whole) (walk : List Entry) (pa : ℕ) : Type 0 where
  pub translates : answer_told (by_known (known_at k w)) (walk_script (fixed_in (hart_of k w) w.memory)) ≡ Does walk (At pa)
  pub aligned : (hart_of k w).pc % 4 ≡ 0
  pub free : (s : Setting) (feet : List Touch) → IsFootprint feet (footprints_of (λ j. records_of j w)) → (e : Entry) → HasItem walk e → is_free_entry (turn_at s feet k w) e ≡ true

-- with the entries that they start, which each have their value among them, the pc leads somewhere
pub record IsEnterable (k : ℕ) (w : Whole) (x : Values) : Type 0 where
  pub setting : Setting
  pub feet : List Touch
  pub log : List Entry
  pub pa : ℕ
  pub vectors : AreVectors setting.vectors
  pub aligned : (hart_of k w).pc % 4 ≡ 0
  pub footprint : IsFootprint feet (footprints_of (λ j. records_of j w))
  pub walked : IsWalked (turn_at setting feet k w) (entries_at k w x) log (At pa)
  pub free : (e : Entry) → HasItem log e → is_free_entry (turn_at setting feet k w) e ≡ true
  pub values : (place : Place) (v : ℕ) → entries_at k w x place ≡ Some v → v ≡ entry_value x (root_at k w) place

-- its entries were given, and then the pc leads to this address
pub record IsEnteredAt (k : ℕ) (x : Values) (pa : ℕ) (old new : Whole) : Type 0 where
  pub placed : ArePlaced k (entries_at k old x) old new
  pub walk : List Entry
  pub leads : Leads k new walk pa

-- the reading of each of these entries races with none of the touches
abbrev pub are_free_walks : List Touch → ℕ → List (ℕ × ℕ) → Bool
are_free_walks feet hart ptes = list_all (λ e. is_free_walk feet hart e.0) ptes

-- ---- the answer of a fetch

-- the stand tells what the trap of a fetch rests on
pub record TellsTraps (s : Stand) (t : Turn) : Type 0 where
  pub privilege : t.fixed.privilege ≡ s.privilege
  pub medeleg : t.fixed.medeleg ≡ s.csrs.medeleg
  pub csrs : (addr : ℕ) → t.known (Csr addr) ≡ csr_held s.csrs (register_at addr)
  pub vectors : t.vectors ≡ s.vectors.now

-- the forms of new entries, how many pairs of them a search has to look at, and where the pc leads with them
pub record AreWalksOf (first second : List ℕ) (space : ℕ) (made : List FetchWay) (t : Turn) : Type 0 where
  pub firsts : IsSetOf (is_first_form t) first
  pub seconds : IsSetOf (is_second_form t) second
  pub pairs : fetch_space t ≡ space
  pub ways : AreFetchWays t made
  pub rows : (rows : List FetchRow) × AreFetchRows t rows

-- the answer of a fetch, at each turn of the hart
abbrev pub AnswersFetch : Template → ℕ → List ℕ → ℕ → Whole → Solved → Type 0
AnswersFetch t k draws nodes w answer =
    (s : Setting) (feet : List Touch) → IsSettingOf t s → IsFootprint feet (footprints_of (λ j. records_of j w)) → IsFetchAnswer (turn_at s feet k w) draws nodes answer

-- the fetch was answered, and where something was found its entries were given; where nothing was, the test is as it was
abbrev pub IsEnteredAs : Template → ℕ → List ℕ → ℕ → Whole → Whole → Entered → Type 0
IsEnteredAs t k draws nodes old new (entered.At pa) = (x : Assignment) × AnswersFetch t k draws nodes old (answers.Found x) × IsEnteredAt k (values_in x) pa old new
IsEnteredAs t k draws nodes old new entered.NoneFits = AnswersFetch t k draws nodes old answers.NoneFits × (new ≡ old)
IsEnteredAs t k draws nodes old new entered.Spent = AnswersFetch t k draws nodes old answers.Spent × (new ≡ old)
