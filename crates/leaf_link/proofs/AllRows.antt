-- The loads and stores of a turn have rows: one for each address with the new entries that lead it somewhere.
use Rattle.std.proofs.Common.{◌≡◌, ℕ, zero, suc, ◌*◌, ◌<◌, ◌^◌, ◌⊎◌, Bool, true, false, ◌&&◌, eqb-true, eq-eqb, List, [], ◌∷◌, ◌++◌, Option, Some, None, refl, sym, ap, ◌∙◌, subst, inl, inr, arith}
use Rattle.std.specs.Prelude.{if◌then◌else◌, nat_eq, nat_lt}
use Rattle.std.proofs.lemmas.Bool.{and_from, and_parts, ltb-true}
use Rattle.rv_isa.specs.declared.instruction.Instr.{Instr}
use Rattle.rv_mem.specs.declared.words.Seen.{Seen}
use Rattle.rv_script.specs.declared.place.Place.TheVariants.{Word}
use Rattle.rv_script.specs.Folds.{Entry}
use Rattle.rv_script.specs.Labels.{label_number}
use Rattle.rv_script.specs.Lists.{HasItem}
use Rattle.rv_script.specs.Logs.{entry_label, entry_place, labelled, new_value, where_unknown}
use Rattle.rv_script.specs.Script.{Label, Label.DataRoot, Label.DataSecond}
use Rattle.rv_script.proofs.Items.{has_either, has_first, has_second}
use Rattle.sv_walk.specs.declared.entry.Kind.{Kind}
use Rattle.sv_walk.specs.declared.entry.Kind.TheVariants.{Load as ForLoad, Store as ForStore}
use Rattle.sv_walk.specs.Translation.{Reached, At, Fails, root_label, second_label}
use Rattle.row_parts.specs.Rows.{End, Leaves, Reaches}
use Rattle.addr_rows.specs.Combinations.{Setting, ways}
use Rattle.addr_rows.specs.Laws.{Always, WalksAreWays, WaysAreWalks}
use Rattle.addr_rows.specs.Walks.{AreWordForms, EntryRow, Faults, Leads, LetsEntries, RowEnd, Shows, Walks as RowWalks, end_at, new_at, seen_by, value_of}
use Rattle.rv_hart.specs.Machine.{data_view}
use Rattle.leaf_link.specs.Turns.{Turn, is_first_form, is_second_form, may_be_for, may_start}
use Rattle.leaf_link.specs.Reaching.{Walks}
use Rattle.leaf_link.specs.RowsExist.{DataRowsExist, HasDataRows}
use Rattle.leaf_link.specs.Ways.{AreWords}
use Rattle.leaf_link.proofs.Serving.{entries_are_let, some_instr}

-- LISTS OF ROWS
-- the rows of all numbers below one
record HasAll (n : ℕ) (f : ℕ → List EntryRow) : Type 0 where
  list : List EntryRow
  into : (k : ℕ) (row : EntryRow) → k < n → HasItem (f k) row → HasItem list row
  back : (row : EntryRow) → HasItem list row → (k : ℕ) × HasItem (f k) row

top_or_below : (k n : ℕ) → k < suc n → (k ≡ n) ⊎ (k < n)
top_or_below zero zero lt = inl refl
top_or_below (suc k) zero lt = absurd (omega (arith, lt))
top_or_below zero (suc n) lt = inr (omega arith)
top_or_below (suc k) (suc n) lt = elim (top_or_below k n (omega (arith, lt))) [
  | inl e ↦ inl (ap suc e)
  | inr l ↦ inr (omega (arith, l))
]

all_below : (n : ℕ) (f : ℕ → List EntryRow) → HasAll n f
all_below zero f = record { list = []; into = λ k row lt i. absurd (omega (arith, lt)); back = λ row i. absurd i }
all_below (suc n) f =
    let g = all_below n f in
    record {
      list = f n ++ g.list;
      into = λ k row lt i. elim (top_or_below k n lt) [
        | inl e ↦ has_first (f n) g.list row (subst (λ (m : ℕ). HasItem (f m) row) e i)
        | inr less ↦ has_second (f n) g.list row (g.into k row less i)
      ];
      back = λ row i. elim (has_either (f n) g.list row i) [
        | inl j ↦ (n, j)
        | inr j ↦ g.back row j
      ];
    }

-- no value, or one below a number
abbrev IsBelow : ℕ → Option ℕ → Type 0
IsBelow n None = Unit {0}
IsBelow n (Some w) = w < n

record HasEach (n : ℕ) (f : Option ℕ → List EntryRow) : Type 0 where
  list : List EntryRow
  into : (o : Option ℕ) (row : EntryRow) → IsBelow n o → HasItem (f o) row → HasItem list row
  back : (row : EntryRow) → HasItem list row → (o : Option ℕ) × HasItem (f o) row

each_below : (n : ℕ) (f : Option ℕ → List EntryRow) → HasEach n f
each_below n f =
    let g = all_below n (λ w. f (Some w)) in
    record {
      list = f None ++ g.list;
      into = λ o row. into_list g o row;
      back = λ row i. elim (has_either (f None) g.list row i) [
        | inl j ↦ (None, j)
        | inr j ↦ let b = g.back row j in (Some b.0, b.1)
      ];
    }
  where
    into_list : (g : HasAll n (λ w. f (Some w))) (o : Option ℕ) (row : EntryRow) → IsBelow n o → HasItem (f o) row → HasItem (f None ++ g.list) row
    into_list g None row b i = has_first (f None) g.list row i
    into_list g (Some w) row b i = has_second (f None) g.list row (g.into w row b i)

-- ROWS OF ONE ADDRESS
-- where an address leads
abbrev end_of : Reached → RowEnd
end_of (At pa) = Leads (λ ea. pa)
end_of (Fails cause) = Faults cause

end_is : (end : Reached) (ea : ℕ) → end_at (end_of end) ea ≡ end
end_is (At pa) ea = refl
end_is (Fails cause) ea = refl

abbrev row_with : ℕ → Option ℕ → Option ℕ → RowEnd → EntryRow
row_with ea root leaf end = record { holds = λ x first second. nat_eq x ea && (nat_eq first (value_of root) && nat_eq second (value_of leaf)); end = end }

-- the row of the end of an address with these new entries, where it has one
abbrev rows_by : ℕ → Option ℕ → Option ℕ → List End → List EntryRow
rows_by ea root leaf [] = []
rows_by ea root leaf (Leaves ∷ ends) = []
rows_by ea root leaf (Reaches end ∷ []) = row_with ea root leaf (end_of end) ∷ []
rows_by ea root leaf (Reaches end ∷ next ∷ ends) = []

record IsRowOf (at : ℕ → Seen) (st : Setting) (row : EntryRow) : Type 0 where
  ea : ℕ
  root : Option ℕ
  leaf : Option ℕ
  end : Reached
  way : ways at st ea root leaf ≡ Reaches end ∷ []
  is : row ≡ row_with ea root leaf (end_of end)

row_of_end : (at : ℕ → Seen) (st : Setting) (ea : ℕ) (root leaf : Option ℕ) (row : EntryRow) → HasItem (rows_by ea root leaf (ways at st ea root leaf)) row → IsRowOf at st row
row_of_end at st ea root leaf row i = go (ways at st ea root leaf) refl i
  where
    go : (ends : List End) → ways at st ea root leaf ≡ ends → HasItem (rows_by ea root leaf ends) row → IsRowOf at st row
    go [] e j = absurd j
    go (Leaves ∷ ends) e j = absurd j
    go (Reaches end ∷ []) e (inl y) = record { ea = ea; root = root; leaf = leaf; end = end; way = e; is = sym y }
    go (Reaches end ∷ []) e (inr z) = absurd z
    go (Reaches end ∷ next ∷ ends) e j = absurd j

-- THE TURN
-- what its translations depend on; new entries are words
abbrev words_setting : Turn → Kind → Setting
words_setting t kind = record {
  ram = t.fixed.ram;
  view = data_view t.fixed;
  kind = kind;
  tables = t.tables;
  first = λ v. nat_lt v (2 ^ 32) && is_first_form t v;
  second = λ v. nat_lt v (2 ^ 32) && is_second_form t v;
}

abbrev memory_at : Turn → ℕ → Seen
memory_at t n = seen_by (t.fixed.ram n) (t.known (Word (n * 4)))

shown : (t : Turn) → AreWords t.known → Shows (memory_at t) t.fixed.ram t.known
shown t words = record { seen = λ n less. refl; words = λ n w h. words (Word (n * 4)) w h }

twice : (a b c : Bool) → (a && (b && c)) ≡ true → (a && (b && (a && c))) ≡ true
twice true b c h = h
twice false b c h = absurd (cc h)

once : (a b c : Bool) → (a && (b && (a && c))) ≡ true → (a && (b && c)) ≡ true
once true b c h = h
once false b c h = absurd (cc h)

lets_words : (t : Turn) (kind : Kind) → LetsEntries (words_setting t kind) (Always (may_start t))
lets_words t kind =
    let l = entries_are_let t (data_view t.fixed) kind in
    record {
      root_only = λ place v h. twice (nat_lt v (2 ^ 32)) _ (is_first_form t v) (l.root_only place v h);
      root = λ place v h. l.root place v (once (nat_lt v (2 ^ 32)) _ (is_first_form t v) h);
      second_only = λ place v h. twice (nat_lt v (2 ^ 32)) _ (is_second_form t v) (l.second_only place v h);
      second = λ place v h. l.second place v (once (nat_lt v (2 ^ 32)) _ (is_second_form t v) h);
    }

are_words : (t : Turn) (kind : Kind) → AreWordForms (words_setting t kind)
are_words t kind = record {
  first = λ w h. ltb-true w (2 ^ 32) (and_parts (nat_lt w (2 ^ 32)) (is_first_form t w) h).0;
  second = λ w h. ltb-true w (2 ^ 32) (and_parts (nat_lt w (2 ^ 32)) (is_second_form t w) h).0;
}

abbrev WordWalks : Turn → Kind → ℕ → ℕ → ℕ → List Entry → Reached → Type 0
WordWalks t kind ea first second log end = RowWalks (words_setting t kind) t.known (Always (may_start t)) ea first second log end

walks_there : (t : Turn) (kind : Kind) → root_label kind ≡ DataRoot → second_label kind ≡ DataSecond → (ea first second : ℕ) (log : List Entry) (end : Reached) → WordWalks t kind ea first second log end → Walks t kind ea first second log end
walks_there t kind root leaf ea first second log end w = record {
  plays = w.plays;
  may = λ i e j none. w.may_start e j none i;
  coherent = w.coherent;
  first_is = w.first_is ∙ ap (λ (l : Label). new_value t.known (labelled log l)) root;
  second_is = w.second_is ∙ ap (λ (l : Label). new_value t.known (labelled log l)) leaf;
}

walks_back : (t : Turn) (kind : Kind) → root_label kind ≡ DataRoot → second_label kind ≡ DataSecond → (ea first second : ℕ) (log : List Entry) (end : Reached) → Walks t kind ea first second log end → WordWalks t kind ea first second log end
walks_back t kind root leaf ea first second log end w = record {
  plays = w.plays;
  may_start = λ e j none i. w.may i e j none;
  coherent = w.coherent;
  first_is = w.first_is ∙ sym (ap (λ (l : Label). new_value t.known (labelled log l)) root);
  second_is = w.second_is ∙ sym (ap (λ (l : Label). new_value t.known (labelled log l)) leaf);
}

moved : (t : Turn) (kind : Kind) (log : List Entry) (ea x first y second z : ℕ) (end to : Reached) → ea ≡ x → first ≡ y → second ≡ z → end ≡ to → Walks t kind ea first second log end → Walks t kind x y z log to
moved t kind log ea x first y second z end to a b c d w =
    subst (λ (n : ℕ). Walks t kind n y z log to) a
    (subst (λ (n : ℕ). Walks t kind ea n z log to) b (subst (λ (n : ℕ). Walks t kind ea first n log to) c (subst (λ (r : Reached). Walks t kind ea first second log r) d w)))

-- NEW ENTRIES ARE WORDS
labelled_item : (log : List Entry) (l : Label) (e : Entry) → labelled log l ≡ Some e → HasItem log e
labelled_item [] l e h = absurd (cc h)
labelled_item (d ∷ log) l e h = go (nat_eq (label_number (entry_label d)) (label_number l)) h (labelled_item log l e)
  where
    go : (b : Bool) → (if b then Some d else labelled log l) ≡ Some e → (labelled log l ≡ Some e → HasItem log e) → HasItem (d ∷ log) e
    go true h more = inl cc
    go false h more = inr (more h)

new_below : (t : Turn) (log : List Entry) (l : Label) → ((e : Entry) → HasItem log e → t.known (entry_place e) ≡ None → e.value < 2 ^ 32) → (o : Option ℕ) → o ≡ new_at t.known (labelled log l) → IsBelow (2 ^ 32) o
new_below t log l small o is = subst (λ (p : Option ℕ). IsBelow (2 ^ 32) p) (sym is) (go (labelled log l) refl)
  where
    of_known : (e : Entry) → HasItem log e → (o : Option ℕ) → t.known (entry_place e) ≡ o → IsBelow (2 ^ 32) (where_unknown o (Some e.value))
    of_known e i None none = small e i none
    of_known e i (Some w) some = tt

    go : (o : Option Entry) → labelled log l ≡ o → IsBelow (2 ^ 32) (new_at t.known o)
    go None e = tt
    go (Some d) e = of_known d (labelled_item log l d e) (t.known (entry_place d)) refl

started_small : (t : Turn) (kind : Kind) (ea first second : ℕ) (log : List Entry) (end : Reached) → Walks t kind ea first second log end → (e : Entry) → HasItem log e → t.known (entry_place e) ≡ None → e.value < 2 ^ 32
started_small t kind ea first second log end w e i none =
    ltb-true e.value (2 ^ 32) (and_parts (nat_lt e.value (2 ^ 32)) (may_be_for t some_instr (entry_label e) (entry_place e) e.value) (w.may some_instr e i none)).0

-- THE ROWS
record AreLaws : Type 0 where
  ways : WaysAreWalks Instr
  walks : WalksAreWays Instr

rows_there : AreLaws → (t : Turn) (kind : Kind) → root_label kind ≡ DataRoot → second_label kind ≡ DataSecond → AreWords t.known → HasDataRows t kind
rows_there laws t kind root_is leaf_is words =
    let leaves = λ (ea : ℕ) (root : Option ℕ). each_below (2 ^ 32) (λ (leaf : Option ℕ). rows_by ea root leaf (ways (memory_at t) (words_setting t kind) ea root leaf)) in
    let roots = λ (ea : ℕ). each_below (2 ^ 32) (λ (root : Option ℕ). (leaves ea root).list) in
    let all = all_below (2 ^ 32) (λ (ea : ℕ). (roots ea).list) in (
      all.list,
      record {
        sound = λ row i ea first second less h.
            let a = all.back row i in
            let b = (roots a.0).back row a.1 in
            let c = (leaves a.0 b.0).back row b.1 in
            sound_at row ea first second less h (row_of_end (memory_at t) (words_setting t kind) a.0 b.0 c.0 row c.1);
        complete = λ ea first second log end less page w.
            let g = laws.walks (memory_at t) (words_setting t kind) t.known (may_start t) ea first second log end (shown t words) (lets_words t kind) less (walks_back t kind root_is leaf_is ea first second log end w) in
            let row : EntryRow = row_with ea g.0 g.1 (end_of end) in
            let small = started_small t kind ea first second log end w in
            let here : HasItem (rows_by ea g.0 g.1 (ways (memory_at t) (words_setting t kind) ea g.0 g.1)) row = subst (λ (ends : List End). HasItem (rows_by ea g.0 g.1 ends) row) (sym g.2) (inl refl) in
            let in_leaves = (leaves ea g.0).into g.1 row (new_below t log (second_label kind) small g.1 g.5.leaf_is) here in
            let in_roots = (roots ea).into g.0 row (new_below t log (root_label kind) small g.0 g.5.root_is) in_leaves in
            (row, all.into ea row less in_roots, and_from _ _ (eq-eqb ea ea refl) (and_from _ _ (eq-eqb first (value_of g.0) g.3) (eq-eqb second (value_of g.1) g.4)), end_is end ea);
      },
    )
  where
    sound_at : (row : EntryRow) (ea first second : ℕ) → ea < 2 ^ 32 → row.holds ea first second ≡ true → IsRowOf (memory_at t) (words_setting t kind) row → (log : List Entry) × Walks t kind ea first second log (end_at row.end ea)
    sound_at row ea first second less h r =
        let k : (nat_eq ea r.ea && (nat_eq first (value_of r.root) && nat_eq second (value_of r.leaf))) ≡ true = ap (λ (x : EntryRow). x.holds ea first second) (sym r.is) ∙ h in
        let p = and_parts (nat_eq ea r.ea) (nat_eq first (value_of r.root) && nat_eq second (value_of r.leaf)) k in
        let q = and_parts (nat_eq first (value_of r.root)) (nat_eq second (value_of r.leaf)) p.1 in
        let same : ea ≡ r.ea = eqb-true ea r.ea p.0 in
        let w = laws.ways (memory_at t) (words_setting t kind) t.known (may_start t) r.ea r.root r.leaf r.end (shown t words) (lets_words t kind) (are_words t kind) (subst (λ (n : ℕ). n < 2 ^ 32) same less) r.way in (
          w.0,
          moved t kind w.0 r.ea ea (value_of r.root) first (value_of r.leaf) second r.end (end_at row.end ea) (sym same) (sym (eqb-true first (value_of r.root) q.0)) (sym (eqb-true second (value_of r.leaf) q.1))
              (sym (ap (λ (x : EntryRow). end_at x.end ea) r.is ∙ end_is r.end ea)) (walks_there t kind root_is leaf_is r.ea (value_of r.root) (value_of r.leaf) w.0 r.end w.1),
        )

pub data_rows_exist : WaysAreWalks Instr → WalksAreWays Instr → DataRowsExist
data_rows_exist ways walks t words =
    let laws : AreLaws = record { ways = ways; walks = walks } in
    (rows_there laws t ForLoad refl refl words, rows_there laws t ForStore refl refl words)
