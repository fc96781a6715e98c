-- What loads and stores may do, in the turns of a test.
use Rattle.std.proofs.Common.{◌≡◌, ℕ, suc, ◌+◌, ◌*◌, ◌/◌, ◌%◌, ◌^◌, ◌<◌, ◌≤◌, Bool, true, false, not, ◌&&◌, ◌||◌, eqb, leb, List, [], ◌∷◌, ◌++◌, map, drop, length, refl, sym, ap, ◌∙◌, subst, inl, inr, arith}
use Rattle.std.specs.Prelude.{slice_get, slice_index_or}
use Rattle.std.proofs.lemmas.Bool.{and_from}
use Rattle.std.proofs.Math.Seq.{drop-cons}
use Rattle.std.proofs.lemmas.Bool.Decides.{nat_tests}
use Rattle.std.proofs.lemmas.List.{drop_all}
use Rattle.std.proofs.lemmas.List.Folds.{list_any-append}
use Rattle.dom_set.specs.Elements.{elements_of, is_in, is_within}
use Rattle.dom_set.proofs.Sets.{is_in-elements}
use Rattle.rv_script.specs.declared.access.Access.{Access}
use Rattle.rv_script.specs.declared.access.Role.{Role}
use Rattle.rv_script.specs.declared.access.Role.TheVariants.{Load, Store}
use Rattle.rv_script.specs.declared.place.Place.TheVariants.{Word}
use Rattle.rv_script.specs.Bytes.{word_address}
use Rattle.rv_script.specs.Folds.{Answer.Does, Entry, by_known, on_note}
use Rattle.rv_script.specs.Logs.{same_place}
use Rattle.rv_script.specs.Script.{Question, Question.OfRegister, Question.OfCsr, Question.OfMemory, Question.ToMemory, access_of, place_of}
use Rattle.sv_walk.specs.declared.entry.Kind.TheVariants.{Fetch as ForFetch}
use Rattle.sv_walk.specs.declared.entry.View.{View}
use Rattle.sv_walk.specs.declared.ending.WalkEnd.{WalkEnd}
use Rattle.sv_walk.specs.declared.ending.WalkEnd.TheVariants.{Pa, Fault, Outside as EndsOutside, Missing}
use Rattle.sv_walk.specs.Clauses.{AreAligned, ended, entry_access}
use Rattle.sv_walk.specs.Translation.{At, is_translated}
use Rattle.rv_hart.specs.Machine.{data_view, fetch_view}
use Rattle.row_parts.specs.declared.forms.Forms.{Forms}
use Rattle.tpl_ast.specs.declared.template.Atom.{Atom}
use Rattle.tpl_ast.specs.declared.template.Template.{Template}
use Rattle.tpl_ast.specs.declared.template.Var.TheVariants as vars
use Rattle.foot_map.specs.declared.touch.Touch.{Touch}
use Rattle.foot_map.specs.Races.{IsFootprint, is_blocked}
use Rattle.foot_map.proofs.Entries.{blocked_by, blocked_from, same_tests}
use Rattle.rv_mem.specs.declared.words.Seen.{Seen}
use Rattle.rv_mem.specs.declared.words.Seen.TheVariants as seens
use Rattle.rv_mem.specs.Seen.{is_known, is_there, is_untouched, known_word}
use Rattle.data_bytes.specs.declared.memory.DataBytes.{DataBytes}
use Rattle.data_bytes.specs.Bytes.{AreDataBytes}
use Rattle.rv_mem.specs.Frames.{in_frames}
use Rattle.data_bytes.specs.Sets.{IsSetOf}
use Rattle.data_bytes.specs.declared.starts.DataAccess.TheVariants.{Load as Reads, Store as Writes}
use Rattle.data_ways.specs.Ways.{AreDataWays, IsDataGround}
use Rattle.data_goals.specs.declared.accesses.Accesses.{Accesses}
use Rattle.data_goals.specs.Grounds.{HasAccesses, is_walked}
use Rattle.data_goals.proofs.Entries.{AreEntries, IsEntry, walk_entries}
use Rattle.leaf_link.specs.Candidates.{accesses_in}
use Rattle.leaf_link.specs.Cases.{all_tests, is_some_word, or_no}
use Rattle.leaf_link.specs.Reaching.{HasPages}
use Rattle.leaf_link.specs.Turns.{is_first_form, is_second_form}
use Rattle.leaf_link.specs.Ways.{AreWords}
use Rattle.leaf_stand.specs.declared.stand.Name.{Name}
use Rattle.leaf_stand.specs.declared.stand.Stand.{Stand}
use Rattle.leaf_stand.specs.Stands.{set_named, turn_of, value_named}
use Rattle.tpl_admit.specs.Races.{footprints_of}
use Rattle.part_machine.specs.Whole.{Whole, fixed_in, hart_of, records_of}
use Rattle.part_state.specs.Meaning.{IsTest}
use Rattle.turn_laws.specs.Entered.{walk_script, walked_at}
use Rattle.turn_laws.specs.Given.{Setting, known_at, turn_at}
use Rattle.turn_laws.proofs.Steps.{with_accesses}
use Rattle.leaf_turn.specs.Data.{is_read}
use Rattle.leaf_turn.specs.Entering.{AreFormsOf, Leads, view_at}
use Rattle.leaf_turn.specs.Grounds.{AreNamesOf, IsSettingOf}
use Rattle.leaf_turn.proofs.Fetches.{fetch_ground}
use Rattle.leaf_turn.proofs.Grounding.{tests_alike}

-- ---- footprints of the same accesses

blocked_too : (one other : List Touch) (did : ℕ → List Access) (hart : ℕ) (role : Role) (b : ℕ) → IsFootprint one did → IsFootprint other did → is_blocked one hart role b ≡ true → is_blocked other hart role b ≡ true
blocked_too one other did hart role b f g is =
    let by = blocked_by one hart role b is in
    blocked_from other hart role b by.0 by.1 ((g b by.0 by.1).1 ((f b by.0 by.1).0 by.2)) by.3

-- which bytes are blocked rests on which triples are in the set alone
pub same_blocked : (one other : List Touch) (did : ℕ → List Access) (hart : ℕ) (role : Role) (b : ℕ) → IsFootprint one did → IsFootprint other did → is_blocked one hart role b ≡ is_blocked other hart role b
same_blocked one other did hart role b f g = same_tests _ _ (blocked_too one other did hart role b f g) (blocked_too other one did hart role b g f)

-- ---- the bytes

-- the same memory and accesses have the same bytes
same_bytes : (mem other : ℕ → Seen) (own feet : List Touch) (did : ℕ → List Access) (hart : ℕ) (pool : List ℕ) (pc : ℕ) (bytes : DataBytes)
    → ((n : ℕ) → mem n ≡ other n) → IsFootprint own did → IsFootprint feet did → AreDataBytes mem own hart pool pc bytes → AreDataBytes other feet hart pool pc bytes
same_bytes mem other own feet did hart pool pc bytes same f g are = record {
  known = λ v less. are.known v less ∙ ap is_known (same (v / 4));
  fresh = λ v less. are.fresh v less ∙ ap (λ (x : Seen). is_untouched x && (in_frames pool v && not (eqb (v / 4) (pc / 4)))) (same (v / 4));
  outside = λ v less. are.outside v less ∙ ap (λ (x : Seen). not (is_there x)) (same (v / 4));
  loaded = λ v less may. are.loaded v less may ∙ same_blocked own feet did hart Load v f g;
  stored = λ v less may. are.stored v less may ∙ ap (λ (b : Bool). b || eqb (v / 4) (pc / 4)) (same_blocked own feet did hart Store v f g);
}

pub some_where_known : (x : Seen) → is_some_word (known_word x) ≡ is_known x
some_where_known (seens.Known w) = refl
some_where_known seens.Untouched = refl
some_where_known seens.Vacant = refl

pub word_at : (n : ℕ) → n * 4 / 4 ≡ n
word_at n = omega arith

-- the bytes of a test, at each turn of its hart
pub turn_bytes : (k : ℕ) (w : Whole) (s : Setting) (mem : ℕ → Seen) (own feet : List Touch) (pool : List ℕ) (pa : ℕ) (bytes : DataBytes) → IsTest w → k < length w.harts → ((n : ℕ) → mem n ≡ w.memory n) → s.pool ≡ pool
    → IsFootprint own (footprints_of (λ j. records_of j w)) → IsFootprint feet (footprints_of (λ j. records_of j w)) → AreDataBytes mem own k pool pa bytes → AreDataBytes w.memory feet (hart_of k w).csrs.hart s.pool pa bytes
turn_bytes k w s mem own feet pool pa bytes test l same pools f g are =
    let here : AreDataBytes w.memory feet k pool pa bytes = same_bytes mem w.memory own feet (footprints_of (λ j. records_of j w)) k pool pa bytes same f g are in
    let numbered : AreDataBytes w.memory feet (hart_of k w).csrs.hart pool pa bytes = subst (λ (n : ℕ). AreDataBytes w.memory feet n pool pa bytes) (sym (test.number k l)) here in
    subst (λ (p : List ℕ). AreDataBytes w.memory feet (hart_of k w).csrs.hart p pa bytes) (sym pools) numbered

-- ---- the walks

pub data_ground : (t : Template) (f : Forms) (s : Setting) (feet own : List Touch) (k : ℕ) (w : Whole) (at : ℕ → Seen) (v : View) → AreFormsOf t f → IsSettingOf t s → IsTest w → k < length w.harts → AreWords (known_at k w)
    → ((n : ℕ) → at n ≡ w.memory n) → IsFootprint own (footprints_of (λ j. records_of j w)) → IsFootprint feet (footprints_of (λ j. records_of j w)) → v ≡ data_view (fixed_in (hart_of k w) w.memory)
    → IsDataGround at own k v f (turn_at s feet k w)
data_ground t f s feet own k w at v are setting test l words memory g h view =
    let fetch = fetch_ground t f s feet own k w at (view_at k w) (hart_of k w).pc are setting test l words memory g h refl refl in
    record { view = sym view; ram = fetch.ram; shows = fetch.shows; free = fetch.free; forms = fetch.forms }

-- ---- the entries of the fetch

first_item : (x y : Access) (xs ys : List Access) → x ∷ xs ≡ y ∷ ys → (x ≡ y) × (xs ≡ ys)
first_item x y xs ys h = (cc h, cc h)

-- the entries that a walk read are those of its accesses
walked_same : (log : List Entry) (ptes : List (ℕ × ℕ)) → AreEntries log → accesses_in log ≡ map entry_access ptes → (v : ℕ) → is_walked log v ≡ is_read ptes v
walked_same [] [] are same v = refl
walked_same [] (e ∷ ptes) are same v = absurd (cc same)
walked_same (entry ∷ log) ptes are same v = go entry.question (are entry (inl refl)) ptes same (λ es e. walked_same log es (λ x i. are x (inr i)) e v)
  where
    go : (q : Question) → IsEntry q → (es : List (ℕ × ℕ)) → on_note (access_of q entry.value) (accesses_in log) ≡ map entry_access es
        → ((more : List (ℕ × ℕ)) → accesses_in log ≡ map entry_access more → is_walked log v ≡ is_read more v) → (same_place (place_of q) (Word (word_address v)) || is_walked log v) ≡ is_read es v
    go (OfMemory label addr size) is [] h later = absurd (cc h)
    go (OfMemory label addr size) is (e ∷ es) h later =
        let d = first_item _ _ _ _ h in
        let at : addr ≡ e.0 = ap (λ (a : Access). a.addr) d.0 in
        ap (λ (n : ℕ). eqb (word_address n) (word_address v) || is_walked log v) at
        ∙ ap (λ (b : Bool). eqb (word_address e.0) (word_address v) || b) (later es d.1)
    go (OfRegister label n) is es h later = absurd is
    go (OfCsr label addr) is es h later = absurd is
    go (ToMemory addr size value) is es h later = absurd is

ended_at : (ptes : List (ℕ × ℕ)) (end : WalkEnd) (xs : List Access) (pa : ℕ) → ended ptes end ≡ Does xs (At pa) → xs ≡ map entry_access ptes
ended_at ptes (Pa addr) xs pa h = cc h
ended_at ptes (Fault cause) xs pa h = absurd (cc h)
ended_at ptes EndsOutside xs pa h = absurd (cc h)
ended_at ptes (Missing addr) xs pa h = absurd (cc h)

by_one : (v : ℕ) → v % 1 ≡ 0
by_one v = omega arith

-- those of the fetch of a hart whose pc leads somewhere
pub walked_set : (k : ℕ) (w : Whole) (ptes : List (ℕ × ℕ)) (end : WalkEnd) (ranges : List (ℕ × ℕ)) (set : List ℕ) (log : List Entry) (pa : ℕ) → ended ptes end ≡ walked_at k w → ((v : ℕ) → is_within ranges v ≡ is_read ptes v)
    → set ≡ elements_of (λ x. eqb (x % 1) 0 && is_within ranges x) → Leads k w log pa → IsSetOf (is_walked log) set
walked_set k w ptes end ranges set log pa is told all leads v small =
    let plays : walked_at k w ≡ Does (accesses_in log) (At pa) = with_accesses (walk_script (fixed_in (hart_of k w) w.memory)) (by_known (known_at k w)) log (At pa) leads.translates in
    let same : accesses_in log ≡ map entry_access ptes = ended_at ptes end (accesses_in log) pa (is ∙ plays) in
    let f = fixed_in (hart_of k w) w.memory in
    let are : AreEntries log = walk_entries f.ram (fetch_view f) ForFetch f.pc (by_known (known_at k w)) log (At pa) leads.translates in
    ap (λ (l : List ℕ). is_in l v) all ∙ is_in-elements (λ x. eqb (x % 1) 0 && is_within ranges x) v small
    ∙ ap (λ (n : ℕ). eqb n 0 && is_within ranges v) (by_one v) ∙ told v ∙ sym (walked_same log ptes are same v)

-- ---- ranges

one_word : (addr v : ℕ) → addr % 4 ≡ 0 → (leb addr v && leb v (addr + 3)) ≡ eqb (word_address addr) (word_address v)
one_word addr v h = grind (arith, nat_tests, h)

-- what is told of the first entries, and of those to come
abbrev pub AreSoFar : List (ℕ × ℕ) → ℕ → List (ℕ × ℕ) → Type 0
AreSoFar ptes i ranges = (v : ℕ) → (is_within ranges v || is_read (drop i ptes) v) ≡ is_read ptes v

or_assoc : (a b c : Bool) → ((a || b) || c) ≡ (a || (b || c))
or_assoc true b c = refl
or_assoc false b c = refl

or_none : (a : Bool) → (a || false) ≡ a
or_none true = refl
or_none false = refl

aligned_at : (ptes : List (ℕ × ℕ)) (i : ℕ) (d : ℕ × ℕ) → i < length ptes → AreAligned ptes → (slice_index_or ptes i d).0 % 4 ≡ 0
aligned_at ptes i d less all = all i d less

pub next_range : (ptes : List (ℕ × ℕ)) (i : ℕ) (d : ℕ × ℕ) (old new : List (ℕ × ℕ)) → i < length ptes → AreAligned ptes → AreSoFar ptes i old → new ≡ old ++ ((slice_index_or ptes i d).0, (slice_index_or ptes i d).0 + 3) ∷ [] → AreSoFar ptes (i + 1) new
next_range ptes i d old new less all far e v =
    let n : suc i ≡ i + 1 = omega arith in
    let z : ℕ × ℕ = slice_index_or ptes i d in
    let rest : drop i ptes ≡ z ∷ drop (i + 1) ptes = drop-cons ptes i d less ∙ ap (λ (m : ℕ). z ∷ drop m ptes) n in
    ap (λ (l : List (ℕ × ℕ)). is_within l v || is_read (drop (i + 1) ptes) v) e
    ∙ ap (λ (b : Bool). b || is_read (drop (i + 1) ptes) v) (list_any-append (λ r. leb r.0 v && leb v r.1) old ((z.0, z.0 + 3) ∷ []) ∙ ap (λ (b : Bool). is_within old v || b) (or_none (leb z.0 v && leb v (z.0 + 3)) ∙ one_word z.0 v (aligned_at ptes i d less all)))
    ∙ or_assoc (is_within old v) (eqb (word_address z.0) (word_address v)) (is_read (drop (i + 1) ptes) v) ∙ ap (λ (l : List (ℕ × ℕ)). is_within old v || is_read l v) (sym rest) ∙ far v

pub all_ranges : (ptes : List (ℕ × ℕ)) (i : ℕ) (ranges : List (ℕ × ℕ)) → length ptes ≤ i → AreSoFar ptes i ranges → (v : ℕ) → is_within ranges v ≡ is_read ptes v
all_ranges ptes i ranges le far v = sym (or_none (is_within ranges v)) ∙ sym (ap (λ (l : List (ℕ × ℕ)). is_within ranges v || is_read l v) (drop_all i ptes le)) ∙ far v

-- ---- new entries

zero_set : (set : List ℕ) → set ≡ elements_of (λ x. eqb (x % 1) 0 && is_within ((0, 0) ∷ []) x) → IsSetOf (λ v. eqb v 0) set
zero_set set e v small = ap (λ (l : List ℕ). is_in l v) e ∙ is_in-elements (λ x. eqb (x % 1) 0 && is_within ((0, 0) ∷ []) x) v small ∙ ap (λ (n : ℕ). eqb n 0 && is_within ((0, 0) ∷ []) v) (by_one v) ∙ at_zero v
  where
    at_zero : (n : ℕ) → (eqb 0 0 && is_within ((0, 0) ∷ []) n) ≡ eqb n 0
    at_zero n = grind (arith, nat_tests)

pub forms_told : (translated : Bool) (form : ℕ → Bool) (set : List ℕ) → translated ≡ true → IsSetOf form set → IsSetOf (λ v. or_no translated (form v) v) set
forms_told translated form set e is v small = is v small ∙ sym (ap (λ (b : Bool). or_no b (form v) v) e)

pub zero_told : (translated : Bool) (form : ℕ → Bool) (set : List ℕ) → translated ≡ false → set ≡ elements_of (λ x. eqb (x % 1) 0 && is_within ((0, 0) ∷ []) x) → IsSetOf (λ v. or_no translated (form v) v) set
zero_told translated form set e is v small = zero_set set is v small ∙ sym (ap (λ (b : Bool). or_no b (form v) v) e)

-- ---- all of it

-- what loads and stores may do is told by its parts
pub accesses_told : (t : Template) (f : Forms) (s : Setting) (feet own : List Touch) (k : ℕ) (w : Whole) (at : ℕ → Seen) (v : View) (log : List Entry) (pa : ℕ) (pool : List ℕ) (a : Accesses) → AreFormsOf t f → IsSettingOf t s → IsTest w → k < length w.harts → AreWords (known_at k w)
    → ((n : ℕ) → at n ≡ w.memory n) → IsFootprint own (footprints_of (λ j. records_of j w)) → IsFootprint feet (footprints_of (λ j. records_of j w)) → v ≡ data_view (fixed_in (hart_of k w) w.memory) → pa % 4 ≡ 0 → pa < 2 ^ 32
    → pool ≡ t.pool → AreDataBytes at own k pool pa a.bytes → IsSetOf (is_walked log) a.walked → ((addr : ℕ) → in_frames t.tables addr ≡ true → in_frames t.pool addr ≡ false)
    → IsSetOf (λ n. or_no (is_translated v) (is_first_form (turn_at s feet k w) n) n) a.firsts → IsSetOf (λ n. or_no (is_translated v) (is_second_form (turn_at s feet k w) n) n) a.seconds
    → AreDataWays (turn_at s feet k w) Reads (is_in a.pages) a.loads.items → AreDataWays (turn_at s feet k w) Writes (is_in a.pages) a.stores.items → HasAccesses (turn_at s feet k w) log pa a
accesses_told t f s feet own k w at v log pa pool a are setting test l words memory g h view aligned small pools bytes walked apart firsts seconds loads stores = record {
  aligned = aligned;
  small = small;
  mem = w.memory;
  known = λ n. ap (λ (i : ℕ). is_some_word (known_word (w.memory i))) (word_at n) ∙ some_where_known (w.memory n);
  ram = λ n. refl;
  are = turn_bytes k w s at own feet pool pa a.bytes test l memory (setting.pool ∙ sym pools) g h bytes;
  walked = walked;
  apart = λ addr in_table. ap (λ (p : List ℕ). in_frames p addr) setting.pool ∙ apart addr (ap (λ (p : List ℕ). in_frames p addr) (sym setting.tables) ∙ in_table);
  firsts = λ n few. firsts n few ∙ ap (λ (u : View). or_no (is_translated u) (is_first_form (turn_at s feet k w) n) n) view;
  seconds = λ n few. seconds n few ∙ ap (λ (u : View). or_no (is_translated u) (is_second_form (turn_at s feet k w) n) n) view;
  loads = loads;
  stores = stores;
}

-- the pages of a leaf's atoms
pub pages_told : (t : Template) (w : Whole) (k : ℕ) (st : Stand) (names : List Name) (leaf : List Atom) (all pages : List ℕ) → AreNamesOf t w names → st.names.now ≡ names → all ≡ elements_of (λ n. true) → IsSetOf (λ n. is_in all n && all_tests (turn_of st) leaf vars.Ea n) pages
    → (s : Setting) (feet : List Touch) → IsSettingOf t s → HasPages (turn_at s feet k w) leaf (is_in pages)
pages_told t w k st names leaf all pages are same every is s feet setting ea small tested =
    is ea small
    ∙ and_from _ _ (ap (λ (l : List ℕ). is_in l ea) every ∙ is_in-elements (λ n. true) ea small)
    (sym (tests_alike (turn_at s feet k w) (turn_of st) (λ n. are.values n ∙ ap (λ (l : List Name). value_named (slice_get l n)) (sym same)) (λ n. setting.sets n ∙ are.sets n ∙ ap (λ (l : List Name). set_named (slice_get l n)) (sym same)) leaf vars.Ea ea refl) ∙ tested)
