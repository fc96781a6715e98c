-- What the rows of the code say is what the script does.
use Rattle.std.proofs.Common.{◌≡◌, ℕ, ◌+◌, ◌*◌, ◌/◌, ◌%◌, ◌^◌, ◌<◌, not, ◌||◌, if◌then◌else◌, bit_and, Bool, true, false, ◌&&◌, List, [], ◌∷◌, ◌++◌, Option, Some, None, refl, sym, ap, ◌∙◌, subst, inl, inr}
use Rattle.std.proofs.lemmas.Bool.{eqb-true}
use Rattle.dom_set.specs.Elements.{is_in}
use Rattle.rv_mem.specs.declared.words.Seen.{Seen}
use Rattle.rv_script.specs.declared.place.Place.{Place}
use Rattle.rv_script.specs.Lists.{HasItem}
use Rattle.rv_script.specs.Script.{Label}
use Rattle.rv_script.specs.Folds.{Known, Entry}
use Rattle.sv_walk.specs.Translation.{Reached, At, Fails, arrived, is_translated}
use Rattle.row_parts.specs.Gaps.{counts}
use Rattle.row_parts.specs.declared.row.Row.{Row}
use Rattle.row_parts.specs.declared.row.RowEnd.{RowEnd as CodeEnd}
use Rattle.row_parts.specs.declared.row.RowEnd.TheVariants.{Pa, Fault, Outside}
use Rattle.row_parts.specs.Rows.{End, Reaches, Leaves, is_of, when, found, has, ends_in, end_at as code_end, Adds}
use Rattle.rv_mem.specs.declared.words.Seen.TheVariants.{Known as KnownWord, Untouched, Vacant}
use Rattle.sv_walk.specs.Entry.{is_closed, is_invalid, is_pointer, is_reserved, is_unaligned, page_number}
use Rattle.row_parts.specs.Classes.{entry_at}
use Rattle.addr_rows.specs.Combinations.{Setting, is_table, is_own_entry, root_frame, no, second_reaches, access_fault, page_fault, at_second, pointed, rooted, at_root, ways}
use Rattle.addr_rows.specs.Walks.{LetsEntries, AreWordForms, Shows, Walks, EntryRow, RowEnd, Leads, Faults, end_at, AreRows, value_of, has_value, row_holds, entry_row, entry_rows}
use Rattle.addr_rows.proofs.Walking.{both_true, true_both, from_script, from_ways}

-- the row and its end, as one of the code
record From (rows : List Row) (item : EntryRow) : Type 0 where
  row : Row
  is_there : HasItem rows row
  holds : (ea first second : ℕ) → item.holds ea first second ≡ row_holds row ea first second
  end : (ea : ℕ) → code_end row.end ea ≡ Reaches (end_at item.end ea)

kept : (r : Row) (rows : List Row) (item : EntryRow) → From rows item → From (r ∷ rows) item
kept r rows item f = record { row = f.row; is_there = inr f.is_there; holds = f.holds; end = f.end }

from_row : (rows : List Row) (item : EntryRow) → HasItem (entry_rows rows) item → From rows item
from_row [] item i = absurd i
from_row (r ∷ rows) item i = go r.end refl (from_row rows item) i
  where
    at_item : (e : RowEnd) → ((ea : ℕ) → code_end r.end ea ≡ Reaches (end_at e ea)) → From (r ∷ rows) (record { holds = row_holds r; end = e })
    at_item e h = record { row = r; is_there = inl refl; holds = λ ea first second. refl; end = h }

    go : (c : CodeEnd) → r.end ≡ c → (HasItem (entry_rows rows) item → From rows item) → HasItem (entry_row r c (entry_rows rows)) item → From (r ∷ rows) item
    go (Pa base mask) is rest j = elim j [
      | inl here ↦ subst (λ (z : EntryRow). From (r ∷ rows) z) here (at_item (Leads (λ ea. base + bit_and ea mask)) (λ ea. ap (λ (c : CodeEnd). code_end c ea) is))
      | inr there ↦ kept r rows item (rest there)
    ]
    go (Fault cause) is rest j = elim j [
      | inl here ↦ subst (λ (z : EntryRow). From (r ∷ rows) z) here (at_item (Faults cause) (λ ea. ap (λ (c : CodeEnd). code_end c ea) is))
      | inr there ↦ kept r rows item (rest there)
    ]
    go Outside is rest j = kept r rows item (rest j)

-- a row that has an address with two words is one of those that give its ends
in_ends : (rows : List Row) (row : Row) (x : ℕ) (root leaf : Option ℕ) (e : End) → HasItem rows row → has row x root leaf ≡ true → code_end row.end x ≡ e → HasItem (ends_in rows x root leaf) e
in_ends [] row x root leaf e i h is = absurd i
in_ends (r ∷ rows) row x root leaf e i h is = elim i [
  | inl here ↦ first (subst (λ (z : Row). has z x root leaf ≡ true) (sym here) h) (ap (λ (z : Row). code_end z.end x) here ∙ is)
  | inr there ↦ later (found (has r x root leaf) (code_end r.end x)) (in_ends rows row x root leaf e there h is)
]
  where
    first : has r x root leaf ≡ true → code_end r.end x ≡ e → HasItem (found (has r x root leaf) (code_end r.end x) ++ ends_in rows x root leaf) e
    first h is = subst (λ (b : Bool). HasItem (found b (code_end r.end x) ++ ends_in rows x root leaf) e) (sym h) (inl is)

    later : (es : List End) → HasItem (ends_in rows x root leaf) e → HasItem (es ++ ends_in rows x root leaf) e
    later [] j = j
    later (y ∷ es) j = inr (later es j)

-- the new word that a value stands for, by what a row has
as_new : Option (List ℕ) → ℕ → Option ℕ
as_new None v = None
as_new (Some words) v = Some v

new_value_is : (o : Option (List ℕ)) (v : ℕ) → has_value o v ≡ true → value_of (as_new o v) ≡ v
unfolding as_new
new_value_is None v h = sym (eqb-true v 0 h)
new_value_is (Some words) v h = refl

new_is_of : (o : Option (List ℕ)) (v : ℕ) → has_value o v ≡ true → is_of o (as_new o v) ≡ true
unfolding as_new
new_is_of None v h = refl
new_is_of (Some words) v h = h

word_holds : (o : Option (List ℕ)) (p : Option ℕ) → is_of o p ≡ true → has_value o (value_of p) ≡ true
word_holds None None h = refl
word_holds None (Some w) h = absurd (cc)
word_holds (Some words) None h = absurd (cc)
word_holds (Some words) (Some w) h = h

-- a way to the end is among the ways that there are
item_is : (b : Bool) (es : List End) (e : End) → HasItem (when b es) e → (b ≡ true) × HasItem es e
item_is true es e i = (refl, i)
item_is false es e i = absurd i

-- an end is that of a row
end_from : (rows : List Row) (x : ℕ) (root leaf : Option ℕ) (end : Reached) → HasItem (ends_in rows x root leaf) (Reaches end)
    → (item : EntryRow) × HasItem (entry_rows rows) item × (item.holds x (value_of root) (value_of leaf) ≡ true) × (end_at item.end x ≡ end)
end_from [] x root leaf end i = absurd i
end_from (r ∷ rows) x root leaf end i = go (end_from rows x root leaf end) r.end refl (has r x root leaf) refl i
  where
    holds : has r x root leaf ≡ true → row_holds r x (value_of root) (value_of leaf) ≡ true
    holds h =
        let n = both_true (counts r.apart x) (is_in r.ea x && (is_of r.root root && is_of r.leaf leaf)) h in
        let a = both_true (is_in r.ea x) (is_of r.root root && is_of r.leaf leaf) n.1 in
        let b = both_true (is_of r.root root) (is_of r.leaf leaf) a.1 in
        true_both (counts r.apart x) (is_in r.ea x && (has_value r.root (value_of root) && has_value r.leaf (value_of leaf))) n.0
        (true_both (is_in r.ea x) (has_value r.root (value_of root) && has_value r.leaf (value_of leaf)) a.0
        (true_both (has_value r.root (value_of root)) (has_value r.leaf (value_of leaf)) (word_holds r.root root b.0) (word_holds r.leaf leaf b.1)))

    reached_is : (e f : Reached) → Reaches e ≡ Reaches f → e ≡ f
    reached_is e f h = cc

    go : (HasItem (ends_in rows x root leaf) (Reaches end) → (item : EntryRow) × HasItem (entry_rows rows) item × (item.holds x (value_of root) (value_of leaf) ≡ true) × (end_at item.end x ≡ end))
        → (c : CodeEnd) → r.end ≡ c → (b : Bool) → has r x root leaf ≡ b → HasItem (found b (code_end c x) ++ ends_in rows x root leaf) (Reaches end)
        → (item : EntryRow) × HasItem (entry_row r c (entry_rows rows)) item × (item.holds x (value_of root) (value_of leaf) ≡ true) × (end_at item.end x ≡ end)
    go rest (Pa base mask) is true h j = elim j [
      | inl here ↦ (record { holds = row_holds r; end = Leads (λ ea. base + bit_and ea mask) }, inl refl, holds h, reached_is (At (base + bit_and x mask)) end here)
      | inr there ↦ let w = rest there in (w.0, inr w.1, w.2, w.3)
    ]
    go rest (Fault cause) is true h j = elim j [
      | inl here ↦ (record { holds = row_holds r; end = Faults cause }, inl refl, holds h, reached_is (Fails cause) end here)
      | inr there ↦ let w = rest there in (w.0, inr w.1, w.2, w.3)
    ]
    go rest Outside is true h j = elim j [
      | inl here ↦ absurd (let g : Leaves ≡ Reaches end = here in cc)
      | inr there ↦ rest there
    ]
    go rest (Pa base mask) is false h j = let w = rest j in (w.0, inr w.1, w.2, w.3)
    go rest (Fault cause) is false h j = let w = rest j in (w.0, inr w.1, w.2, w.3)
    go rest Outside is false h j = rest j

-- the definition has at most one end
abbrev IsOne : List End → Type 0
IsOne es = (e : End) → HasItem es e → es ≡ e ∷ []

one_found : (b : Bool) (f : End) → IsOne (found b f)
one_found true f e i = elim i [
  | inl here ↦ ap (λ (z : End). z ∷ []) here
  | inr there ↦ absurd there
]
one_found false f e i = absurd i

one_when : (b : Bool) (es : List End) → IsOne es → IsOne (when b es)
one_when true es h = h
one_when false es h = λ e i. absurd i

one_if : (b : Bool) (es fs : List End) → IsOne es → IsOne fs → IsOne (if b then es else fs)
one_if true es fs h k = h
one_if false es fs h k = k

one_second : (st : Setting) (may : Bool) (x : ℕ) (s : Seen) (leaf : Option ℕ) → IsOne (at_second st may x s leaf)
unfolding at_second
one_second st may x Vacant leaf = one_found (no leaf) (access_fault st)
one_second st may x (KnownWord w) leaf = one_found (no leaf) (second_reaches st x w)
one_second st may x Untouched None = λ e i. absurd i
one_second st may x Untouched (Some w) = one_found (may && st.second w) (second_reaches st x w)

one_rooted : (at : ℕ → Seen) (st : Setting) (own : Bool) (w x : ℕ) (leaf : Option ℕ) → IsOne (rooted at st own w x leaf)
unfolding rooted pointed
one_rooted at st own w x leaf =
    let fault : List End = found (no leaf) (page_fault st) in
    let deep : List End = pointed at st own (page_number w) x leaf in
    let there : List End = found (no leaf) (Reaches (arrived st.ram st.kind (w / 2 ^ 20 * 2 ^ 22 + x % 2 ^ 22))) in
    let inner : List End = if is_reserved w then found (no leaf) Leaves else deep in
    let shut : Bool = is_unaligned w || is_closed st.view st.kind w in
    let last : List End = if shut then fault else there in
    one_if (is_invalid w) fault (if is_pointer w then inner else last) (one_found (no leaf) (page_fault st))
    (one_if (is_pointer w) inner last
    (one_if (is_reserved w) (found (no leaf) Leaves) deep (one_found (no leaf) Leaves) (one_second st (is_table st.tables (page_number w) && not (is_own_entry st own (page_number w) x)) x (entry_at at (page_number w) (x / 2 ^ 12 % 2 ^ 10)) leaf))
    (one_if shut fault there (one_found (no leaf) (page_fault st)) (one_found (no leaf) (Reaches (arrived st.ram st.kind (w / 2 ^ 20 * 2 ^ 22 + x % 2 ^ 22))))))

one_root : (at : ℕ → Seen) (st : Setting) (x : ℕ) (s : Seen) (root leaf : Option ℕ) → IsOne (at_root at st x s root leaf)
unfolding at_root
one_root at st x Vacant root leaf = one_found (no root && no leaf) (access_fault st)
one_root at st x (KnownWord w) root leaf = one_when (no root) (rooted at st false w x leaf) (one_rooted at st false w x leaf)
one_root at st x Untouched None leaf = λ e i. absurd i
one_root at st x Untouched (Some w) leaf = one_when (is_table st.tables (root_frame st.view) && st.first w) (rooted at st true w x leaf) (one_rooted at st true w x leaf)

one_way : (at : ℕ → Seen) (st : Setting) (x : ℕ) (root leaf : Option ℕ) → IsOne (ways at st x root leaf)
unfolding ways
one_way at st x root leaf =
    one_if (is_translated st.view) (at_root at st x (entry_at at (root_frame st.view) (x / 2 ^ 22)) root leaf) (found (no root && no leaf) (Reaches (arrived st.ram st.kind x)))
    (one_root at st x (entry_at at (root_frame st.view) (x / 2 ^ 22)) root leaf) (one_found (no root && no leaf) (Reaches (arrived st.ram st.kind x)))

-- rows with the ends of the definition are rows of the script
pub are_rows : (at : ℕ → Seen) (st : Setting) (known : Known) (may : Label → Place → ℕ → Type 0) (pages : ℕ → Bool) (rows : List Row)
    → Shows at st.ram known → LetsEntries st may → AreWordForms st → Adds [] rows (λ x root leaf. when (pages x) (ways at st x root leaf))
    → AreRows st known may pages (entry_rows rows)
are_rows at st known may pages rows shows lets forms adds = record {
  sound = λ item i ea first second small h. sound item i ea first second small h;
  complete = λ ea first second log end small page walks. complete ea first second log end small page walks;
}
  where
    sound : (item : EntryRow) → HasItem (entry_rows rows) item → (ea first second : ℕ) → ea < 2 ^ 32 → item.holds ea first second ≡ true → (log : List Entry) × Walks st known may ea first second log (end_at item.end ea)
    sound item i ea first second small h =
        let f = from_row rows item i in
        let n = both_true (counts f.row.apart ea) (is_in f.row.ea ea && (has_value f.row.root first && has_value f.row.leaf second)) (sym (f.holds ea first second) ∙ h) in
        let a = both_true (is_in f.row.ea ea) (has_value f.row.root first && has_value f.row.leaf second) n.1 in
        let b = both_true (has_value f.row.root first) (has_value f.row.leaf second) a.1 in
        let root : Option ℕ = as_new f.row.root first in
        let leaf : Option ℕ = as_new f.row.leaf second in
        let has_it : has f.row ea root leaf ≡ true =
        true_both (counts f.row.apart ea) (is_in f.row.ea ea && (is_of f.row.root root && is_of f.row.leaf leaf)) n.0
        (true_both (is_in f.row.ea ea) (is_of f.row.root root && is_of f.row.leaf leaf) a.0 (true_both (is_of f.row.root root) (is_of f.row.leaf leaf) (new_is_of f.row.root first b.0) (new_is_of f.row.leaf second b.1))) in
        let e : End = Reaches (end_at item.end ea) in
        let there : HasItem (ends_in rows ea root leaf) e = in_ends rows f.row ea root leaf e f.is_there has_it (f.end ea) in
        let way = item_is (pages ea) (ways at st ea root leaf) e (subst (λ (es : List End). HasItem es e) (adds ea root leaf small) there) in
        let walk = from_ways at st known may ea root leaf (end_at item.end ea) shows lets forms small (one_way at st ea root leaf e way.1) in (
          walk.0,
          subst (λ (n : ℕ). Walks st known may ea first n walk.0 (end_at item.end ea)) (new_value_is f.row.leaf second b.1)
              (subst (λ (n : ℕ). Walks st known may ea n (value_of leaf) walk.0 (end_at item.end ea)) (new_value_is f.row.root first b.0) walk.1),
        )

    complete : (ea first second : ℕ) (log : List Entry) (end : Reached) → ea < 2 ^ 32 → pages ea ≡ true → Walks st known may ea first second log end
        → (item : EntryRow) × HasItem (entry_rows rows) item × (item.holds ea first second ≡ true) × (end_at item.end ea ≡ end)
    complete ea first second log end small page walks =
        let w = from_script at st known may ea first second log end shows lets small walks in
        let is : ends_in rows ea w.0 w.1 ≡ Reaches end ∷ [] = adds ea w.0 w.1 small ∙ ap (λ (b : Bool). when b (ways at st ea w.0 w.1)) page ∙ w.2 in
        let r = end_from rows ea w.0 w.1 end (subst (λ (es : List End). HasItem es (Reaches end)) (sym is) (inl refl)) in
        (r.0, r.1, ap (λ (n : ℕ). r.0.holds ea n second) w.3 ∙ ap (λ (n : ℕ). r.0.holds ea (value_of w.0) n) w.4 ∙ r.2, r.3)
