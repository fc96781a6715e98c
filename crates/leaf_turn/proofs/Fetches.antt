-- The fetch of a hart of a test: where its pc leads while entries may still be chosen, the answer, and the entries that are given.
use Rattle.std.proofs.Common.{◌≡◌, ℕ, ◌-◌, ◌*◌, ◌/◌, ◌%◌, ◌<◌, ◌≤◌, ◌&&◌, Bool, not, eqb, List, [], ◌∷◌, ◌++◌, map, length, ◌⊎◌, Some, refl, sym, ap, ◌∙◌, subst, inl, inr, arith}
use Rattle.std.specs.Prelude.{slice_index_or}
use Rattle.std.specs.List.{list_any}
use Rattle.std.proofs.Math.Path.{fun_ext}
use Rattle.std.proofs.lemmas.Bool.{cases_lt}
use Rattle.rv_csr.specs.State.{CsrValues, lazy_value_at}
use Rattle.rv_csr.specs.Table.{register_at}
use Rattle.rv_csr.specs.declared.cause.Cause.{Cause}
use Rattle.rv_mem.specs.declared.words.Seen.{Seen}
use Rattle.rv_mem.specs.declared.words.Seen.TheVariants as seens
use Rattle.rv_mem.specs.Seen.{is_there, known_word}
use Rattle.rv_script.specs.declared.access.Access.{Access}
use Rattle.rv_script.specs.declared.access.Role.TheVariants.{Walk}
use Rattle.rv_script.specs.declared.place.Place.{Place}
use Rattle.rv_script.specs.declared.place.Place.TheVariants.{Word}
use Rattle.rv_script.specs.Folds.{Answer.Does, Answer.Missing as Lacks, Answer.Nowhere, Known, answer_on, by_known}
use Rattle.rv_script.specs.Logs.{answer_told, enlarged}
use Rattle.sv_walk.specs.declared.entry.Kind.TheVariants.{Fetch as ForFetch}
use Rattle.sv_walk.specs.declared.entry.View.{View}
use Rattle.sv_walk.specs.declared.ending.WalkEnd.{WalkEnd}
use Rattle.sv_walk.specs.declared.ending.WalkEnd.TheVariants.{Fault, Outside}
use Rattle.sv_walk.specs.declared.ending.Walk.{Walk as AWalk}
use Rattle.sv_walk.specs.Clauses.{IsWalk, ended, entry_access}
use Rattle.sv_walk.specs.Translation.{At, Fails, translated}
use Rattle.row_parts.specs.declared.forms.Forms.{Forms}
use Rattle.addr_rows.specs.Walks.{seen_by}
use Rattle.fetch_ways.specs.Ways.{HasForms, IsFetchGround, walk_at}
use Rattle.foot_map.specs.declared.touch.Touch.{Touch}
use Rattle.foot_map.specs.Races.{IsFootprint, breaks}
use Rattle.rv_script.specs.Bytes.{covers}
use Rattle.rv_hart.specs.Fixed.{Fixed}
use Rattle.rv_hart.specs.declared.record.Record.{Record}
use Rattle.tpl_ast.specs.declared.template.Template.{Template}
use Rattle.tpl_admit.specs.Races.{footprints_of}
use Rattle.part_machine.specs.Whole.{Bare, Whole, fixed_in, hart_of, records_of}
use Rattle.part_state.specs.Meaning.{CanStart, IsTest, place_given}
use Rattle.fd_prob.specs.declared.problem.Assignment.{Assignment}
use Rattle.fd_prob.specs.declared.problem.Problem.{Problem}
use Rattle.fd_prob.specs.Spaces.{space}
use Rattle.fd_solve.specs.declared.answers.Solved.{Solved}
use Rattle.fd_solve.specs.declared.answers.Solved.TheVariants as answers
use Rattle.fd_solve.specs.Answers.{IsAnswer, IsLeast, NothingFits}
use Rattle.leaf_link.specs.Values.{Values}
use Rattle.leaf_link.specs.Ways.{AreWords}
use Rattle.leaf_stand.specs.declared.stand.Stand.{Stand}
use Rattle.leaf_stand.specs.Stands.{csr_held}
use Rattle.turn_laws.specs.Ahead.{AreAmong, OneMoreIsGiven, unknown_in}
use Rattle.turn_laws.specs.Entered.{EntriesAreNext, WalksAreShort, walk_script, walked_at}
use Rattle.turn_laws.specs.Given.{CanGive, Setting, all_given, given_to, known_at, turn_at}
use Rattle.turn_laws.specs.Laws.{FixedPartsStay, OthersStay}
use Rattle.leaf_turn.specs.Answers.{AreAsked}
use Rattle.leaf_link.specs.FetchPlacing.{entry_value}
use Rattle.leaf_turn.specs.Entering.{AreFormsOf, IsEnterable, IsEnteredAt, Leads, TellsTraps, entries_at, root_at, view_at}
use Rattle.leaf_turn.specs.Grounds.{IsSettingOf}
use Rattle.leaf_turn.proofs.Freedom.{free_alike, same_races}
use Rattle.leaf_turn.proofs.Giving.{asked_more}

-- ---- what the walk of a fetch rests on

seen_again : (x : Seen) → x ≡ seen_by (is_there x) (known_word x)
seen_again (seens.Known w) = refl
seen_again seens.Untouched = refl
seen_again seens.Vacant = refl

pub has_forms : (t : Template) (f : Forms) (s : Setting) (feet : List Touch) (k : ℕ) (w : Whole) → AreFormsOf t f → IsSettingOf t s → HasForms (turn_at s feet k w) f
has_forms t f s feet k w are setting = record {
  tables = setting.tables ∙ sym are.tables;
  pool = setting.pool ∙ sym are.pool;
  flags = setting.flags ∙ sym are.flags;
}

pub fetch_ground : (t : Template) (f : Forms) (s : Setting) (feet own : List Touch) (k : ℕ) (w : Whole) (at : ℕ → Seen) (v : View) (pc : ℕ) → AreFormsOf t f → IsSettingOf t s → IsTest w → k < length w.harts → AreWords (known_at k w)
    → ((n : ℕ) → at n ≡ w.memory n) → IsFootprint own (footprints_of (λ j. records_of j w)) → IsFootprint feet (footprints_of (λ j. records_of j w)) → v ≡ view_at k w → pc ≡ (hart_of k w).pc
    → IsFetchGround at own k v pc f (turn_at s feet k w)
fetch_ground t f s feet own k w at v pc are setting test l words memory g h view here = record {
  pc = sym here;
  view = sym view;
  ram = λ n. ap is_there (sym (memory n));
  shows = record {
    seen = λ n small.
        memory n ∙ seen_again (w.memory n)
        ∙ ap (λ (i : ℕ). seen_by (is_there (w.memory n)) (known_word (w.memory i))) (sym (numbered n));
    words = λ n u known. words (Word (n * 4)) u known;
  };
  free = λ a aligned.
      ap (λ (n : ℕ). not (list_any (hit n a) feet)) (test.number k l)
      ∙ ap (λ (b : Bool). not b) (same_races (walk_at a) feet own (footprints_of (λ j. records_of j w)) k h g);
  forms = has_forms t f s feet k w are setting;
}
  where
    numbered : (n : ℕ) → n * 4 / 4 ≡ n
    numbered n = omega arith

    hit : ℕ → ℕ → Touch → Bool
    hit hart addr touch = covers (walk_at addr) touch.byte && breaks (eqb touch.hart hart) touch.role Walk

-- ---- the traps of a stand

pub tells_traps : (t : Template) (k : ℕ) (w : Whole) (st : Stand) (s : Setting) (feet : List Touch) → record { pc = st.pc; privilege = st.privilege; regs = st.registers; csrs = st.csrs } ≡ hart_of k w → st.vectors.now ≡ t.vectors → IsSettingOf t s → TellsTraps st (turn_at s feet k w)
tells_traps t k w st s feet is vectors setting = record {
  privilege = sym (ap (λ (b : Bare). b.privilege) is);
  medeleg = sym (ap (λ (b : Bare). b.csrs.medeleg) is);
  csrs = λ addr. sym (ap (λ (b : Bare). lazy_value_at b.csrs addr) is) ∙ csr_at st.csrs addr;
  vectors = setting.vectors ∙ sym vectors;
}
  where
    csr_at : (csrs : CsrValues) (addr : ℕ) → lazy_value_at csrs addr ≡ csr_held csrs (register_at addr)
    csr_at csrs addr = refl

-- ---- what the solver says

pub is_answer : (p : Problem) (nodes : ℕ) (s : Solved) → (s ≡ answers.Spent → nodes < space p) → (nodes < space p → s ≡ answers.Spent) → ((x : Assignment) → s ≡ answers.Found x → IsLeast p x) → (s ≡ answers.NoneFits → NothingFits p) → IsAnswer p nodes s
is_answer p nodes (answers.Found x) spent many found none = (elim (cases_lt nodes (space p)) [ inl less ↦ absurd (cc (many less)) | inr few ↦ few ], found x refl)
is_answer p nodes answers.NoneFits spent many found none = (elim (cases_lt nodes (space p)) [ inl less ↦ absurd (cc (many less)) | inr few ↦ few ], none refl)
is_answer p nodes answers.Spent spent many found none = spent refl

-- ---- entries that are given one by one

-- some of the entries are given, and so many at most are left
pub record AreEntering (k : ℕ) (x : Values) (left : ℕ) (old now : Whole) : Type 0 where
  pub places : List (Place × ℕ)
  pub can : CanGive k places old
  pub among : AreAmong places (entries_at k old x)
  pub asked : AreAsked k (entries_at k old x) places old
  pub is : now ≡ all_given k places old
  pub few : (f : IsEnterable k old x) → unknown_in (enlarged (known_at k old) (given_to places)) f.log ≤ left

pub begun : (k : ℕ) (x : Values) (w : Whole) → WalksAreShort → AreEntering k x 2 w w
begun k x w short = record {
  places = [];
  can = tt;
  among = λ place v h. absurd (cc);
  asked = tt;
  is = refl;
  few = λ f. short (turn_at f.setting f.feet k w) (entries_at k w x) (enlarged (known_at k w) (given_to [])) f.log (At f.pa) f.walked;
}

-- where the walk lacks an entry, it can start with the answer's value, and then one less is left
pub record IsEnteringOn (k : ℕ) (x : Values) (left : ℕ) (old now : Whole) (place : Place) : Type 0 where
  pub some : 0 < left
  pub can : CanStart k place (entry_value x (root_at k old) place) now
  pub going : AreEntering k x (left - 1) old (place_given k place (entry_value x (root_at k old) place) now)

pub entering_on : (k : ℕ) (x : Values) (left : ℕ) (old now : Whole) (place : Place) → EntriesAreNext → OneMoreIsGiven → IsTest old → k < length old.harts → IsEnterable k old x
    → AreEntering k x left old now → walked_at k now ≡ Lacks place → IsEnteringOn k x left old now place
entering_on k x left old now place next appended test l f g lacks =
    let value : ℕ = entry_value x (root_at k old) place in
    let new : Known = entries_at k old x in
    let first : walked_at k (all_given k g.places old) ≡ Lacks place = ap (λ (w : Whole). walked_at k w) (sym g.is) ∙ lacks in
    let u = next f.setting f.feet k old new g.places f.log (At f.pa) test l f.aligned f.vectors g.can g.among f.walked in
    let n = u.lacks place first in
    let is : n.1.value ≡ value = f.values place n.1.value n.1.new_is in
    let new_is : new place ≡ Some value = n.1.new_is ∙ ap (λ (v : ℕ). Some v) is in
    let more = u.among place value first new_is in
    let fewer = u.fewer place value first new_is in
    let few = g.few f in
    let can : CanStart k place value (all_given k g.places old) = subst (λ (v : ℕ). CanStart k place v (all_given k g.places old)) is n.1.can in
    record {
      some = omega (arith, fewer, few);
      can = subst (λ (w : Whole). CanStart k place value w) (sym g.is) can;
      going = record {
        places = g.places ++ (place, value) ∷ [];
        can = more.1;
        among = more.0;
        asked = asked_more k new g.places place value old g.asked n.0 new_is;
        is = ap (λ (w : Whole). place_given k place value w) g.is ∙ sym (appended k g.places place value old);
        few = λ h.
            let one = (next h.setting h.feet k old new g.places h.log (At h.pa) test l h.aligned h.vectors g.can g.among h.walked).fewer place value first new_is in
            let all = g.few h in
            omega (arith, one, all);
      };
    }

same_address : (pa pb : ℕ) → At pa ≡ At pb → pa ≡ pb
same_address pa pb h = cc h

at_fails : (pa : ℕ) (c : Cause) → Fails c ≡ At pa → ⊥
at_fails pa c h = absurd (cc h)

-- where it is done, all are given, and the pc leads there
pub entered_at : (k : ℕ) (x : Values) (left : ℕ) (old now : Whole) (xs : List Access) (pa : ℕ) → EntriesAreNext → FixedPartsStay → OthersStay → IsTest old → k < length old.harts → IsEnterable k old x
    → AreEntering k x left old now → walked_at k now ≡ Does xs (At pa) → IsEnteredAt k x pa old now
entered_at k x left old now xs pa next fixed others test l f g ends =
    let new : Known = entries_at k old x in
    let after : Whole = all_given k g.places old in
    let u = next f.setting f.feet k old new g.places f.log (At f.pa) test l f.aligned f.vectors g.can g.among f.walked in
    let d = u.done xs (At pa) (ap (λ (w : Whole). walked_at k w) (sym g.is) ∙ ends) in
    let same : f.pa ≡ pa = same_address f.pa pa (sym d.1) in
    let b = others k g.places old in
    let told : answer_told (by_known (known_at k after)) (walk_script (fixed_in (hart_of k after) after.memory)) ≡ Does f.log (At pa) = d.2 ∙ ap (λ (n : ℕ). Does f.log (At n)) same in
    record {
      placed = record { places = g.places; can = g.can; listed = d.0; asked = g.asked; is = g.is };
      walk = f.log;
      leads = subst (λ (w : Whole). Leads k w f.log pa) (sym g.is) (record {
        translates = told;
        aligned = ap (λ (h : Fixed). h.pc % 4) (fixed k g.places old test l g.can) ∙ f.aligned;
        free = λ s feet h e i.
            free_alike (turn_at s feet k after) (turn_at f.setting f.feet k old) (footprints_of (λ j. records_of j old)) (subst (λ (ts : List (List Record)). IsFootprint feet (footprints_of (λ j. slice_index_or ts j []))) b.traces h) f.footprint
            (ap (λ (h : Fixed). h.number) (fixed k g.places old test l g.can)) e
            ∙ f.free e i;
      });
    }

-- it fails nowhere, and never is there no translation
pub never_fails : (k : ℕ) (x : Values) (left : ℕ) (old now : Whole) (xs : List Access) (c : Cause) → EntriesAreNext → IsTest old → k < length old.harts → IsEnterable k old x → AreEntering k x left old now → walked_at k now ≡ Does xs (Fails c) → ⊥
never_fails k x left old now xs c next test l f g ends =
    let u = next f.setting f.feet k old (entries_at k old x) g.places f.log (At f.pa) test l f.aligned f.vectors g.can g.among f.walked in
    at_fails f.pa c (u.done xs (Fails c) (ap (λ (w : Whole). walked_at k w) (sym g.is) ∙ ends)).1

pub never_nowhere : (k : ℕ) (x : Values) (left : ℕ) (old now : Whole) → EntriesAreNext → IsTest old → k < length old.harts → IsEnterable k old x → AreEntering k x left old now → walked_at k now ≡ Nowhere → ⊥
never_nowhere k x left old now next test l f g ends =
    let u = next f.setting f.feet k old (entries_at k old x) g.places f.log (At f.pa) test l f.aligned f.vectors g.can g.among f.walked in
    u.somewhere (ap (λ (w : Whole). walked_at k w) (sym g.is) ∙ ends)

pub harts_there : (k : ℕ) (x : Values) (left : ℕ) (old now : Whole) → OthersStay → AreEntering k x left old now → k < length old.harts → k < length now.harts
harts_there k x left old now others g l =
    let b = others k g.places old in
    subst (λ (w : Whole). k < length w.harts) (sym g.is) (omega (arith, l, b.harts))

-- ---- what the walk of the code says

pub walk_says : (k : ℕ) (w : Whole) (at : ℕ → Seen) (v : View) (pc : ℕ) (x : AWalk) → ((n : ℕ) → at n ≡ w.memory n) → v ≡ view_at k w → pc ≡ (hart_of k w).pc → IsWalk at v ForFetch pc x → ended x.ptes x.outcome ≡ walked_at k w
walk_says k w at v pc x memory view here is =
    is (known_at k w) (λ addr. ap known_word (sym (memory (addr / 4))))
    ∙ ap (λ (ram : ℕ → Bool). answer_on (known_at k w) (translated ram v ForFetch pc)) (fun_ext (λ n. ap is_there (memory n)))
    ∙ ap (λ (u : View). answer_on (known_at k w) (translated (λ n. is_there (w.memory n)) u ForFetch pc)) view
    ∙ ap (λ (n : ℕ). answer_on (known_at k w) (translated (λ i. is_there (w.memory i)) (view_at k w) ForFetch n)) here

pub no_end : (k : ℕ) (x : Values) (left : ℕ) (old now : Whole) (ptes : List (ℕ × ℕ)) (o : WalkEnd) → EntriesAreNext → IsTest old → k < length old.harts → IsEnterable k old x → AreEntering k x left old now → ended ptes o ≡ walked_at k now
    → ((c : Cause) × (o ≡ Fault c)) ⊎ (o ≡ Outside) → ⊥
no_end k x left old now ptes o next test l f g says (inl (c, is)) = never_fails k x left old now (map entry_access ptes) c next test l f g (sym says ∙ ap (ended ptes) is)
no_end k x left old now ptes o next test l f g says (inr is) = never_nowhere k x left old now next test l f g (sym says ∙ ap (ended ptes) is)
