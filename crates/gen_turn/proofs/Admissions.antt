-- A test in which a search is done is one that its template admits.
use Rattle.std.proofs.Common.{◌≡◌, ℕ, zero, suc, ◌+◌, ◌*◌, ◌/◌, ◌<◌, ◌≤◌, ◌&&◌, ◌||◌, ◌==◌, Bool, true, false, not, if◌then◌else◌, List, [], ◌∷◌, ◌++◌, length, map, Option, Some, None, refl, sym, ap, ◌∙◌, subst, arith}
use Rattle.std.specs.Prelude.{slice_index_or}
use Rattle.std.specs.List.{AllByRecursion, list_all}
use Rattle.std.proofs.lemmas.Bool.{eq-eqb, ne_eqb}
use Rattle.std.proofs.lemmas.List.{get_or-map}
use Rattle.rv_script.specs.Logs.{or_else}
use Rattle.rv_hart.specs.declared.record.Record.{Record}
use Rattle.rv_hart.specs.Fixed.{Fixed}
use Rattle.tpl_ast.specs.declared.template.HartDecl.{HartDecl}
use Rattle.tpl_ast.specs.declared.template.HartState.{HartState}
use Rattle.tpl_ast.specs.declared.template.Item.{Item}
use Rattle.tpl_ast.specs.declared.template.Template.{Template}
use Rattle.tpl_ast.specs.Expansion.{Piece, expansion_of, expansion_of_item}
use Rattle.tpl_ast.specs.States.{ArePlaces, IsState, is_in_ram}
use Rattle.tpl_ast.specs.Templates.{KeepsLimits}
use Rattle.tpl_admit.specs.Admitting.{Failure, Trace, choices_over, context_of, failures_from, failures_in, first_stand, gives, has_words, hart_failures, no_atom, start_failures, starts_as, with_given, at_hart}
use Rattle.rv_hart.specs.Registers.{no_registers}
use Rattle.tpl_admit.specs.Starts.{fixed_in as fixed_of_state, no_state, lookup}
use Rattle.part_laws.specs.Partial.{Held, Partial}
use Rattle.part_machine.specs.Whole.{Bare, Whole, first_of, given, hart_of, no_hart, records_of}
use Rattle.part_state.specs.Beginning.{IsBegun, start_in}
use Rattle.part_state.specs.Meaning.{IsTest, held_in, partial_of, value_of_key}
use Rattle.part_state.proofs.KnownPlaces.{places_known}
use Rattle.part_told.specs.Finishing.{known_from, known_one, places_in, told_state}
use Rattle.gen_search.specs.Search.{all_items, of_hart as items_of_hart}
use Rattle.turn_laws.specs.Laws.{IsStartOn}
use Rattle.gen_turn.proofs.FirstStands.{first_register, first_size, first_zero, places_given, starts_so, word_aligned, words_given}
use Rattle.gen_turn.proofs.HartRuns.{AreFrom, IsAt, IsBehind, IsFree, hart_runs, made_later}
use Rattle.gen_turn.proofs.Laying.{LaidOut, Tagged, all_tagged, followed, laid_append, laid_body, laid_out, tagged}
use Rattle.gen_turn.proofs.NamesAhead.{AreInOrder}
use Rattle.gen_turn.proofs.Paths.{Made, sets_of}

-- ---- names as a certificate lists them

found_known : (k : ℕ) (os : List (Option ℕ)) (n v : ℕ) → slice_index_or os n None ≡ Some v → lookup (known_from k os) (k + n) ≡ Some v
found_known k [] n v h = absurd (cc h)
found_known k (o ∷ os) zero v h =
    let same : k ≡ k + 0 = omega arith in
    ap (λ (p : Option ℕ). lookup (known_one k p ++ known_from (k + 1) os) (k + 0)) h ∙ ap (λ (b : Bool). if b then Some v else lookup (known_from (k + 1) os) (k + 0)) (eq-eqb k (k + 0) same)
found_known k (None ∷ os) (suc n) v h = let same : k + suc n ≡ (k + 1) + n = omega arith in ap (lookup (known_from (k + 1) os)) same ∙ found_known (k + 1) os n v h
found_known k (Some u ∷ os) (suc n) v h =
    let same : k + suc n ≡ (k + 1) + n = omega arith in
    ap (λ (b : Bool). if b then Some u else lookup (known_from (k + 1) os) (k + suc n)) (ne_eqb k (k + suc n) (λ e. absurd (omega (arith, e)))) ∙ ap (lookup (known_from (k + 1) os)) same ∙ found_known (k + 1) os n v h

pub name_found : (names : List (Option ℕ)) (n v : ℕ) → slice_index_or names n None ≡ Some v → lookup (known_from 0 names) n ≡ Some v
name_found names n v h = let same : n ≡ 0 + n = omega arith in ap (lookup (known_from 0 names)) same ∙ found_known 0 names n v h

-- ---- pieces of harts

abbrev AreItemsFrom : ℕ → List (ℕ × Item) → Type 0
AreItemsFrom j [] = Unit {0}
AreItemsFrom j (x ∷ xs) = (j ≤ x.0) × AreItemsFrom j xs

from_append : (j : ℕ) (ps qs : List Tagged) → AreFrom j ps → AreFrom j qs → AreFrom j (ps ++ qs)
from_append j [] qs a b = b
from_append j (p ∷ ps) qs a b = (a.0, from_append j ps qs a.1 b)

tagged_from : (j k : ℕ) (ps : List Piece) → j ≤ k → AreFrom j (tagged k ps)
tagged_from j k [] le = tt
tagged_from j k (p ∷ ps) le = (le, tagged_from j k ps le)

followed_from : (j : ℕ) (l : LaidOut) (f : List ℕ → LaidOut) → AreFrom j l.pieces → ((cs : List ℕ) → AreFrom j (f cs).pieces) → AreFrom j (followed l f).pieces
followed_from j l f a b = go l.pieces l.left a
  where
    go : (ps : List Tagged) (o : Option (List ℕ)) → AreFrom j ps → AreFrom j (followed (record { pieces = ps; left = o }) f).pieces
    go ps None a = a
    go ps (Some cs) a = from_append j ps (f cs).pieces a (b cs)

laid_from : (j : ℕ) (todo : List (ℕ × Item)) → AreItemsFrom j todo → (cs : List ℕ) → AreFrom j (laid_out todo cs).pieces
laid_from j [] from cs = tt
laid_from j (x ∷ todo) from cs =
    followed_from j (all_tagged x.0 (expansion_of_item x.1 cs)) (laid_out todo) (tagged_from j x.0 (expansion_of_item x.1 cs).pieces from.0) (laid_from j todo from.1)

items_append : (j : ℕ) (xs ys : List (ℕ × Item)) → AreItemsFrom j xs → AreItemsFrom j ys → AreItemsFrom j (xs ++ ys)
items_append j [] ys a b = b
items_append j (x ∷ xs) ys a b = (a.0, items_append j xs ys a.1 b)

body_from : (j k : ℕ) (items : List Item) → j ≤ k → AreItemsFrom j (items_of_hart k items)
body_from j k [] le = tt
body_from j k (i ∷ items) le = (le, body_from j k items le)

harts_from : (j k : ℕ) (hs : List HartDecl) → j ≤ k → AreItemsFrom j (all_items k hs)
harts_from j k [] le = tt
harts_from j k (h ∷ hs) le = items_append j (items_of_hart k h.body.items) (all_items (k + 1) hs) (body_from j k h.body.items le) (harts_from j (k + 1) hs (omega (arith, le)))

-- where something is left, what follows is laid out
followed_some : (l : LaidOut) (f : List ℕ → LaidOut) (cs : List ℕ) → l.left ≡ Some cs → followed l f ≡ record { pieces = l.pieces ++ (f cs).pieces; left = (f cs).left }
followed_some l f cs h = go l.pieces l.left h
  where
    go : (ps : List Tagged) (o : Option (List ℕ)) → o ≡ Some cs → followed (record { pieces = ps; left = o }) f ≡ record { pieces = ps ++ (f cs).pieces; left = (f cs).left }
    go ps None h = absurd (cc h)
    go ps (Some ds) h = let same : ds ≡ cs = cc h in ap (λ (es : List ℕ). record { pieces = ps ++ (f es).pieces; left = (f es).left }) same

followed_none : (l : LaidOut) (f : List ℕ → LaidOut) → l.left ≡ None → (followed l f).left ≡ None
followed_none l f h = go l.pieces l.left h
  where
    go : (ps : List Tagged) (o : Option (List ℕ)) → o ≡ None → (followed (record { pieces = ps; left = o }) f).left ≡ None
    go ps None h = refl
    go ps (Some ds) h = absurd (cc h)

-- ---- from the beginning to the end

module _ (t : Template) (keeps : KeepsLimits t.text t) (begun last : Whole) (is : IsBegun t begun) (tested : IsTest last) (words : List (ℕ × ℕ)) (lists : (n : ℕ) → lookup words (n * 4) ≡ given last.words n) (start : IsStartOn (partial_of begun) (partial_of last)) (count : length last.harts ≡ length t.harts) where
  abbrev pub told : Trace
  told = record {
    template = t;
    start = map told_state last.first;
    words = words;
    records = last.traces;
    choices = last.choices;
    names = known_from 0 last.names;
    dropped = last.dropped;
  }

  abbrev names : ℕ → Option ℕ
  names = lookup (known_from 0 last.names)

  abbrev end : Partial
  end = partial_of last

  first_count : (k : ℕ) → k < length t.harts → k < length last.first
  first_count k lt = let first = tested.first in omega (arith, lt, first, count)

  hart_count : (k : ℕ) → k < length t.harts → k < length last.harts
  hart_count k lt = omega (arith, lt, count)

  state_at : (k : ℕ) → k < length t.harts → slice_index_or (map told_state last.first) k no_state ≡ told_state (first_of k last)
  state_at k lt = get_or-map told_state last.first k no_hart no_state (first_count k lt)

  -- the start of the certificate as the template says

  begun_first : (k : ℕ) → first_of k begun ≡ hart_of k begun
  begun_first k = ap (λ (bs : List Bare). slice_index_or bs k no_hart) is.first

  fixed_at : (k : ℕ) → k < length t.harts → fixed_of_state t.ram k (told_state (first_of k last)) ≡ fixed_of_state t.ram k (start_in t.harts k)
  fixed_at k lt =
      let same : (end.start k).fixed ≡ fixed_of_state t.ram k (start_in t.harts k) =
      start.fixed k ∙ ap (λ (b : Bare). (held_in b begun.memory).fixed) (begun_first k) ∙ is.fixed k lt in
      ap (λ (f : Fixed). record { pc = f.pc; privilege = f.privilege; mstatus = f.mstatus; medeleg = f.medeleg; satp = f.satp; number = k; ram = λ n. is_in_ram t.ram (n * 4) }) same

  place_at : (k : ℕ) → k < length t.harts → (key v : ℕ) → lookup (start_in t.harts k).places key ≡ Some v → lookup (places_in (first_of k last)) key ≡ Some v
  place_at k lt key v h =
      places_known (first_of k last) (tested.fit_first k (hart_count k lt)) key
      ∙ start.places k key v (ap (λ (b : Bare). value_of_key b key) (begun_first k) ∙ is.places k key lt ∙ h)

  state_places : (hs : List HartDecl) (k : ℕ) → k < length hs → AllByRecursion (λ (h : HartDecl). IsState h.start) hs → ArePlaces 0 (start_in hs k).places
  state_places [] k lt all = absurd (omega (arith, lt))
  state_places (h ∷ hs) zero lt all = all.0.places
  state_places (h ∷ hs) (suc k) lt all = state_places hs k (omega (arith, lt)) all.1

  starts : (k : ℕ) → k < length t.harts → starts_as (start_in t.harts k) (told_state (first_of k last)) ≡ true
  starts k lt =
      starts_so t.ram k (start_in t.harts k) (told_state (first_of k last)) (fixed_at k lt)
      (places_given (lookup (places_in (first_of k last))) (start_in t.harts k).places (state_places t.harts k lt keeps.states) (place_at k lt))

  word_at : (key v : ℕ) → lookup t.words key ≡ Some v → lookup words key ≡ Some v
  word_at key v h =
      let aligned = word_aligned t.ram 0 t.words key v keeps.words h in
      let same : key ≡ key / 4 * 4 = omega (arith, aligned) in
      ap (lookup words) same ∙ lists (key / 4) ∙ start.words (key / 4) v (is.words (key / 4) ∙ ap (lookup t.words) (sym same) ∙ h)

  has_all_words : (k : ℕ) → has_words told k ≡ true
  has_all_words k = go (k == 0)
    where
      go : (b : Bool) → (not b || list_all (gives words) t.words) ≡ true
      go true = words_given t.ram (lookup words) t.words keeps.words word_at
      go false = refl

  no_start_failure : (k : ℕ) (s : HartState) → k < length t.harts → s ≡ start_in t.harts k → start_failures told k s ≡ []
  no_start_failure k s lt same =
      ap (λ (b : Bool). if b && has_words told k then [] else (0, no_atom) ∷ [])
      (ap (λ (x : HartState). starts_as x (slice_index_or told.start k no_state)) same ∙ ap (starts_as (start_in t.harts k)) (state_at k lt) ∙ starts k lt)
      ∙ ap (λ (b : Bool). if b then [] else (0, no_atom) ∷ []) (has_all_words k)

  -- where admission begins with a hart

  -- the hart did nothing yet
  pub record IsUnstarted (j : ℕ) (w : Whole) : Type 0 where
    pub records : records_of j w ≡ []
    pub now : (partial_of w).harts j ≡ (partial_of w).start j

  begins : (k : ℕ) (w : Whole) → k < length t.harts → IsStartOn (partial_of w) end → IsUnstarted k w → IsAt (sets_of t) last names (name_found last.names) k w (first_stand told k)
  begins k w lt on fresh =
      subst (λ (s : HartState). IsAt (sets_of t) last names (name_found last.names) k w (record { step = 0; pc = s.pc; regs = with_given s.places no_registers; records = records_of k last })) (sym (state_at k lt))
      (record {
        step = sym (ap length fresh.records);
        pc = ap (λ (f : Fixed). f.pc) (on.fixed k) ∙ sym (ap (λ (h : Held). h.fixed.pc) fresh.now);
        filled = record {
          size = first_size (first_of k last);
          zero = first_zero (first_of k last);
          each = λ n some small.
              first_register (first_of k last) (tested.fit_first k (hart_count k lt)) n some small
              ∙ sym (given_later ((partial_of w).start k) n (λ v h. on.places k n v h))
              ∙ ap (λ (h : Held). or_else (h.places n) ((end.start k).places n)) (sym fresh.now);
        };
        records = ap (λ (rs : List Record). rs ++ records_of k last) (sym fresh.records);
      })
    where
      given_later : (h : Held) (n : ℕ) → ((v : ℕ) → h.places n ≡ Some v → (end.start k).places n ≡ Some v) → or_else (h.places n) ((end.start k).places n) ≡ (end.start k).places n
      given_later h n more = go (h.places n) more
        where
          go : (o : Option ℕ) → ((v : ℕ) → o ≡ Some v → (end.start k).places n ≡ Some v) → or_else o ((end.start k).places n) ≡ (end.start k).places n
          go None more = refl
          go (Some v) more = sym (more v refl)

  -- ---- all harts

  fresh_kept : (j k : ℕ) (w : Whole) (rest : List Tagged) → (j ≡ k → ⊥) → (b : IsBehind (sets_of t) last names (name_found last.names) k rest w) → IsUnstarted j w → IsUnstarted j b.test
  fresh_kept j k w rest apart b fresh = let kept = b.kept j apart in record { records = kept.records ∙ fresh.records; now = kept.now ∙ fresh.now ∙ sym kept.first }

  pub harts_admitted : (k : ℕ) (hs : List HartDecl) (choices : List ℕ) (w : Whole) (m : ℕ) (ps : List Tagged) → k + length hs ≡ length t.harts → ((j : ℕ) → slice_index_or (map (λ (d : HartDecl). d.start) hs) j no_state ≡ start_in t.harts (k + j))
      → laid_out (all_items k hs) choices ≡ record { pieces = ps; left = Some [] } → Made (sets_of t) last ps w → AreInOrder ps m → IsFree (sets_of t) last names (name_found last.names) w m → ((j : ℕ) → k ≤ j → j < length t.harts → IsUnstarted j w)
      → failures_from told k hs (Some choices) ≡ []
  harts_admitted k [] choices w m ps size states laid made order free fresh =
      let none : Some choices ≡ Some [] = ap (λ (l : LaidOut). l.left) laid in
      let empty : choices ≡ [] = cc none in
      ap (choices_over told k) empty
  harts_admitted k (h ∷ hs) choices w m ps size states laid made order free fresh =
      go (expansion_of h.body.items choices).left refl (λ cs v n qs. harts_admitted (k + 1) hs cs v n qs (omega (arith, size)) (λ j. let s : k + suc j ≡ k + 1 + j = omega arith in states (suc j) ∙ ap (start_in t.harts) s))
    where
      lt : k < length t.harts
      lt = omega (arith, size)

      whole_laid : followed (all_tagged k (expansion_of h.body.items choices)) (laid_out (all_items (k + 1) hs)) ≡ record { pieces = ps; left = Some [] }
      whole_laid = sym (laid_append (items_of_hart k h.body.items) (all_items (k + 1) hs) choices ∙ ap (λ (l : LaidOut). followed l (laid_out (all_items (k + 1) hs))) (laid_body k h.body.items choices)) ∙ laid

      go : (left : Option (List ℕ)) → (expansion_of h.body.items choices).left ≡ left
          → ((cs : List ℕ) (v : Whole) (n : ℕ) (qs : List Tagged) → laid_out (all_items (k + 1) hs) cs ≡ record { pieces = qs; left = Some [] } → Made (sets_of t) last qs v → AreInOrder qs n → IsFree (sets_of t) last names (name_found last.names) v n
          → ((j : ℕ) → k + 1 ≤ j → j < length t.harts → IsUnstarted j v) → failures_from told (k + 1) hs (Some cs) ≡ [])
          → failures_from told k (h ∷ hs) (Some choices) ≡ []
      go None is_left later =
          let none : None ≡ Some [] = sym (followed_none (all_tagged k (expansion_of h.body.items choices)) (laid_out (all_items (k + 1) hs)) is_left) ∙ ap (λ (l : LaidOut). l.left) whole_laid in
          absurd (cc none)
      go (Some cs) is_left later =
          let split = sym (followed_some (all_tagged k (expansion_of h.body.items choices)) (laid_out (all_items (k + 1) hs)) cs is_left) ∙ whole_laid in
          let pieces_are : tagged k (expansion_of h.body.items choices).pieces ++ (laid_out (all_items (k + 1) hs) cs).pieces ≡ ps = ap (λ (l : LaidOut). l.pieces) split in
          let left_is : (laid_out (all_items (k + 1) hs) cs).left ≡ Some [] = ap (λ (l : LaidOut). l.left) split in
          let runs = hart_runs (sets_of t) last names (name_found last.names) k (expansion_of h.body.items choices).pieces (laid_out (all_items (k + 1) hs) cs).pieces w (first_stand told k) m
          (laid_from (k + 1) (all_items (k + 1) hs) (harts_from (k + 1) (k + 1) hs (omega arith)) cs)
          (subst (λ (qs : List Tagged). Made (sets_of t) last qs w) (sym pieces_are) made)
          (subst (λ (qs : List Tagged). AreInOrder qs m) (sym pieces_are) order) free
          (begins k w lt (made_later (sets_of t) last names (name_found last.names) ps w made).start (fresh k (omega arith) lt)) in
          let own : hart_failures told k h (expansion_of h.body.items choices).pieces ≡ [] =
          ap (λ (fs : List Failure). fs ++ failures_in (context_of told k) (expansion_of h.body.items choices).pieces (first_stand told k)) (no_start_failure k h.start lt (states 0 ∙ (let z : k + 0 ≡ k = omega arith in ap (start_in t.harts) z)))
          ∙ runs.0 in
          ap (λ (fs : List Failure). map (at_hart k) fs ++ failures_from told (k + 1) hs (expansion_of h.body.items choices).left) own
          ∙ ap (failures_from told (k + 1) hs) is_left
          ∙ later cs runs.1.test runs.1.known (laid_out (all_items (k + 1) hs) cs).pieces (ap (λ (o : Option (List ℕ)). record { pieces = (laid_out (all_items (k + 1) hs) cs).pieces; left = o }) left_is) runs.1.made runs.1.order runs.1.free
          (λ j le small. fresh_kept j k w (laid_out (all_items (k + 1) hs) cs).pieces (λ e. absurd (omega (arith, e, le))) runs.1 (fresh j (omega (arith, le)) small))
