-- Names of a template in a test, and what a stand tells of a turn.
use Rattle.std.proofs.Common.{◌≡◌, ℕ, zero, suc, if◌then◌else◌, ◌+◌, ◌≤◌, ◌<◌, ◌/◌, ◌%◌, Bool, true, false, not, ◌&&◌, ◌||◌, eqb, List, [], ◌∷◌, ◌++◌, get_or, length, take, Option, Some, None, refl, sym, ap, ◌∙◌, inl, inr, arith}
use Rattle.std.specs.Prelude.{IfSome, slice_get, slice_index_or}
use Rattle.std.specs.List.{list_all, list_any}
use Rattle.std.proofs.lemmas.Bool.{and_from, cases_lt}
use Rattle.std.proofs.lemmas.List.{get_or_past, take_more}
use Rattle.std.specs.Borrow.{Bor}
use Rattle.std.proofs.lemmas.Option.{slice_get_past}
use Rattle.tpl_ast.specs.declared.template.Atom.{Atom}
use Rattle.tpl_ast.specs.declared.template.Atom.TheVariants as atoms
use Rattle.tpl_ast.specs.declared.template.Template.{Template}
use Rattle.tpl_ast.specs.declared.template.Var.{Var}
use Rattle.tpl_ast.specs.declared.template.Var.TheVariants as vars
use Rattle.tpl_ast.specs.Leaves.{same_var}
use Rattle.part_machine.specs.Whole.{Whole}
use Rattle.leaf_stand.specs.declared.stand.Name.{Name}
use Rattle.leaf_stand.specs.Stands.{set_named, value_named}
use Rattle.rv_mem.specs.Seen.{known_word}
use Rattle.rv_script.specs.Folds.{Entry}
use Rattle.rv_script.specs.Lists.{HasItem}
use Rattle.rv_script.specs.declared.access.Role.TheVariants.{Fetch}
use Rattle.rv_script.specs.Bytes.{covers}
use Rattle.rv_csr.specs.State.{CsrValues, lazy_value_at}
use Rattle.rv_csr.specs.Table.{register_at}
use Rattle.foot_map.specs.declared.touch.Touch.{Touch}
use Rattle.foot_map.specs.Races.{IsFootprint, breaks}
use Rattle.tpl_admit.specs.Races.{footprints_of}
use Rattle.part_machine.specs.Whole.{Bare, hart_of, records_of}
use Rattle.part_state.specs.Meaning.{IsTest}
use Rattle.leaf_link.specs.Firsts.{data_pairs}
use Rattle.rv_mem.specs.Frames.{in_frames}
use Rattle.leaf_link.specs.Turns.{Turn, is_free_entry}
use Rattle.leaf_link.specs.Cases.{all_tests, is_some_word, is_value_named, tests}
use Rattle.tpl_admit.specs.Truth.{is_shared}
use Rattle.leaf_stand.specs.declared.stand.Stand.{Stand}
use Rattle.data_goals.specs.declared.accesses.Accesses.{Accesses}
use Rattle.data_goals.specs.Grounds.{HasAccesses}
use Rattle.rv_hart.specs.declared.record.Record.{Record}
use Rattle.leaf_stand.specs.Shared.{traces_of}
use Rattle.leaf_stand.specs.Stands.{IsStandOf, csr_held, held}
use Rattle.turn_laws.specs.Given.{Setting, turn_at}
use Rattle.leaf_turn.specs.Data.{IsDataAt}
use Rattle.leaf_turn.specs.Entering.{Leads}
use Rattle.leaf_turn.specs.Grounds.{AreNamesOf, HasSourceSet, IsSettingOf, declared_set, is_free_fetch}
use Rattle.leaf_turn.proofs.Freedom.{same_freedom}

pub all_names : (t : Template) (w : Whole) (names : List Name) (count : ℕ) → length w.names ≡ length t.names → length names ≡ count → length t.names ≤ count
    → ((n : ℕ) → n < count → slice_index_or w.names n None ≡ value_named (slice_get names n))
    → ((n : ℕ) → n < count → declared_set (slice_get t.names n) ≡ set_named (slice_get names n))
    → AreNamesOf t w names
all_names t w names count same length end values sets = record {
  values = λ n. elim (cases_lt n count) [
    | inl within ↦ values n within
    | inr past ↦ get_or_past w.names n None (omega (arith, same, end, past)) ∙ sym (ap value_named (slice_get_past names n (omega (arith, length, past))))
  ];
  sets = λ n. elim (cases_lt n count) [
    | inl within ↦ sets n within
    | inr past ↦ ap declared_set (slice_get_past t.names n (omega (arith, end, past))) ∙ sym (ap set_named (slice_get_past names n (omega (arith, length, past))))
  ];
}

-- ---- the records of harts with lower numbers

traces_append : (xs ys : List (Bor (List Record))) → traces_of (xs ++ ys) ≡ traces_of xs ++ traces_of ys
traces_append [] ys = refl
traces_append (x ∷ xs) ys = ap (λ (l : List (List Record)). x.now ∷ l) (traces_append xs ys)

pub next_trace : (old new : List (Bor (List Record))) (records : Bor (List Record)) (traces : List (List Record)) (k : ℕ) → traces_of old ≡ take k traces → new ≡ old ++ records ∷ [] → records.now ≡ slice_index_or traces k [] → k < length traces
    → traces_of new ≡ take (k + 1) traces
next_trace old new records traces k before pushed is lt =
    ap traces_of pushed ∙ traces_append old (records ∷ [])
    ∙ ap (λ (l : List (List Record)). l ++ records.now ∷ []) before ∙ ap (λ (r : List Record). take k traces ++ r ∷ []) (is ∙ within traces k lt)
    ∙ sym (take_more traces k [] lt)
  where
    within : (ts : List (List Record)) (k : ℕ) → k < length ts → slice_index_or ts k [] ≡ get_or ts k []
    within ts k lt = refl

-- ---- what a stand tells

held_at : (xs : List (Option ℕ)) (n : ℕ) → slice_index_or xs n None ≡ held (slice_get xs n)
held_at [] n = ap held (sym (slice_get_past [] n (omega arith)))
held_at (x ∷ xs) zero = refl
held_at (x ∷ xs) (suc n) = held_at xs n

-- the stand has the hart's parts, and what it tells of memory, of touches and of the template
pub record IsMadeOf (t : Template) (k : ℕ) (w : Whole) (own : List Touch) (pa : ℕ) (s : Stand) : Type 0 where
  pub hart : record { pc = s.pc; privilege = s.privilege; regs = s.registers; csrs = s.csrs } ≡ hart_of k w
  pub aligned : pa % 4 ≡ 0
  pub word : s.word ≡ known_word (w.memory (pa / 4))
  pub fetches : s.fetches ≡ (is_free_fetch own k pa && (is_some_word s.word || in_frames t.pool pa))
  pub pairs : (u : Setting) (feet : List Touch) → IsSettingOf t u → data_pairs (turn_at u feet k w) ≡ s.pairs
  pub vectors : s.vectors.now ≡ t.vectors
  pub names : AreNamesOf t w s.names.now
  pub footprint : IsFootprint own (footprints_of (λ j. records_of j w))
  pub others : traces_of s.others.now ≡ take k w.traces
  pub accesses : IfSome s.accesses (IsDataAt t k w pa)

all_free : (t : Turn) (log : List Entry) → ((e : Entry) → HasItem log e → is_free_entry t e ≡ true) → list_all (is_free_entry t) log ≡ true
all_free t [] h = refl
all_free t (e ∷ log) h = and_from _ _ (h e (inl refl)) (all_free t log (λ f i. h f (inr i)))

behind_true : (a b : Bool) → a ≡ true → (a && b) ≡ b
behind_true true b h = refl
behind_true false b h = absurd (cc h)

-- what the loads and stores of the hart may do is so at each of its turns
pub data_of_stand : (o : Option Accesses) (t : Template) (s : Setting) (feet : List Touch) (k : ℕ) (w : Whole) (walk : List Entry) (pa : ℕ)
    → IsSettingOf t s → IsFootprint feet (footprints_of (λ j. records_of j w)) → Leads k w walk pa → IfSome o (IsDataAt t k w pa) → IfSome o (HasAccesses (turn_at s feet k w) walk pa)
data_of_stand None t s feet k w walk pa setting f leads has = has
data_of_stand (Some a) t s feet k w walk pa setting f leads has = has s feet walk setting f leads

pub stand_tells : (t : Template) (k : ℕ) (w : Whole) (own : List Touch) (st : Stand) (pa : ℕ) (s : Setting) (feet : List Touch) (walk : List Entry) → IsTest w → k < length w.harts → Leads k w walk pa
    → IsMadeOf t k w own pa st → IsSettingOf t s → HasSourceSet s st.sources.now → IsFootprint feet (footprints_of (λ j. records_of j w)) → IsStandOf st (turn_at s feet k w) walk pa
stand_tells t k w own st pa s feet walk test l leads m setting sources footprint =
    let h : Bare = record { pc = st.pc; privilege = st.privilege; regs = st.registers; csrs = st.csrs } in
    let is : hart_of k w ≡ h = sym m.hart in
    let turn : Turn = turn_at s feet k w in
    let number : (hart_of k w).csrs.hart ≡ k = test.number k l in
    record {
      pc = ap (λ (b : Bare). b.pc) is;
      privilege = ap (λ (b : Bare). b.privilege) is;
      mstatus = ap (λ (b : Bare). b.csrs.mstatus) is;
      medeleg = ap (λ (b : Bare). b.csrs.medeleg) is;
      registers = λ n. ap (λ (b : Bare). slice_index_or b.regs n None) is ∙ held_at st.registers n;
      csrs = λ addr. ap (λ (b : Bare). lazy_value_at b.csrs addr) is ∙ csr_at st.csrs addr;
      word = sym m.word;
      vectors = setting.vectors ∙ sym m.vectors;
      names = m.names.values;
      sets = λ n. setting.sets n ∙ m.names.sets n;
      fetches =
          behind_true _ _ (all_free turn walk (leads.free s feet footprint))
          ∙ ap (λ (n : ℕ). free_at n && (is_some_word (known_word (w.memory (pa / 4))) || in_frames s.pool pa)) number
          ∙ ap (λ (b : Bool). b && (is_some_word (known_word (w.memory (pa / 4))) || in_frames s.pool pa)) (same_freedom feet own (footprints_of (λ j. records_of j w)) k pa footprint m.footprint)
          ∙ ap (λ (o : Option ℕ). is_free_fetch own k pa && (is_some_word o || in_frames s.pool pa)) (sym m.word)
          ∙ ap (λ (p : List ℕ). is_free_fetch own k pa && (is_some_word st.word || in_frames p pa)) setting.pool
          ∙ sym m.fetches;
      pairs = m.pairs s feet setting;
      satp = ap (λ (b : Bare). b.csrs.satp) is;
      number = ap (λ (b : Bare). b.csrs.hart) is;
      sources = sources;
      others = sym m.others;
      accesses = data_of_stand st.accesses t s feet k w walk pa setting footprint leads m.accesses;
    }
  where
    free_at : ℕ → Bool
    free_at n = not (list_any (λ touch. covers (record { role = Fetch; addr = pa; size = 4; value = 0 }) touch.byte && breaks (eqb touch.hart n) touch.role Fetch) feet)

    csr_at : (csrs : CsrValues) (addr : ℕ) → lazy_value_at csrs addr ≡ csr_held csrs (register_at addr)
    csr_at csrs addr = refl

-- ---- a template's setting

abbrev pub setting_at : Template → (ℕ → Bool) → Setting
setting_at t sources = record { pool = t.pool; tables = t.tables; flags = t.flags; vectors = t.vectors; sets = λ n. declared_set (slice_get t.names n); sources = sources }

pub setting_is : (t : Template) (sources : ℕ → Bool) → IsSettingOf t (setting_at t sources)
setting_is t sources = record { pool = refl; tables = refl; flags = refl; vectors = refl; sets = λ n. refl }

-- ---- the same setting with other sources

abbrev pub sourced : (ℕ → Bool) → Setting → Setting
sourced sources s = record { pool = s.pool; tables = s.tables; flags = s.flags; vectors = s.vectors; sets = s.sets; sources = sources }

pub sourced_is : (t : Template) (sources : ℕ → Bool) (s : Setting) → IsSettingOf t s → IsSettingOf t (sourced sources s)
sourced_is t sources s h = record { pool = h.pool; tables = h.tables; flags = h.flags; vectors = h.vectors; sets = h.sets }

-- what passes atoms doesn't rest on them
pub tests_apart : (sources : ℕ → Bool) (s : Setting) (feet : List Touch) (k : ℕ) (w : Whole) (leaf : List Atom) (u : Var) (v : ℕ) → all_tests (turn_at (sourced sources s) feet k w) leaf u v ≡ all_tests (turn_at s feet k w) leaf u v
tests_apart sources s feet k w [] u v = refl
tests_apart sources s feet k w (atom ∷ leaf) u v =
    ap (λ (b : Bool). b && all_tests (turn_at (sourced sources s) feet k w) leaf u v) (one atom) ∙ ap (λ (b : Bool). tests (turn_at s feet k w) atom u v && b) (tests_apart sources s feet k w leaf u v)
  where
    one : (a : Atom) → tests (turn_at (sourced sources s) feet k w) a u v ≡ tests (turn_at s feet k w) a u v
    one (atoms.In x set) = refl
    one (atoms.NotIn x set) = refl
    one (atoms.Is x name) = refl
    one (atoms.Same x y) = refl
    one (atoms.Differ x y) = refl
    one atoms.Taken = refl
    one atoms.NotTaken = refl
    one atoms.Shared = refl

-- ---- what passes atoms on a variable that no races are told of rests on names alone

pub tests_alike : (t u : Turn) → ((n : ℕ) → t.names n ≡ u.names n) → ((n : ℕ) → t.sets n ≡ u.sets n) → (leaf : List Atom) (of : Var) (v : ℕ) → same_var vars.Pa of ≡ false → all_tests t leaf of v ≡ all_tests u leaf of v
tests_alike t u names sets [] of v alone = refl
tests_alike t u names sets (atom ∷ leaf) of v alone =
    ap (λ (b : Bool). b && all_tests t leaf of v) (one atom) ∙ ap (λ (b : Bool). tests u atom of v && b) (tests_alike t u names sets leaf of v alone)
  where
    one : (a : Atom) → tests t a of v ≡ tests u a of v
    one (atoms.In x set) = refl
    one (atoms.NotIn x set) = refl
    one (atoms.Is x name) =
        ap (λ (o : Option ℕ). if same_var x of then is_value_named o (t.sets name) v else true) (names name)
        ∙ ap (λ (l : List ℕ). if same_var x of then is_value_named (u.names name) l v else true) (sets name)
    one (atoms.Same x y) = refl
    one (atoms.Differ x y) = refl
    one atoms.Taken = refl
    one atoms.NotTaken = refl
    one atoms.Shared = ap (λ (b : Bool). if b then is_shared t.others (Some v) else true) alone ∙ sym (ap (λ (b : Bool). if b then is_shared u.others (Some v) else true) alone)
