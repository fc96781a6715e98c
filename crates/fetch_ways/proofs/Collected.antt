-- The ways of rows are those of the fetch.
use Rattle.std.proofs.Common.{◌≡◌, ℕ, ◌+◌, ◌%◌, ◌/◌, ◌^◌, ◌<◌, ◌⊎◌, if◌then◌else◌, bit_and, Bool, true, false, ◌&&◌, ◌||◌, ◌==◌, List, [], ◌∷◌, ◌++◌, map, Option, Some, None, All, refl, sym, ap, ◌∙◌, subst, inl, inr, arith}
use Rattle.std.specs.Prelude.{filter, nat_eq, nat_lt}
use Rattle.std.proofs.lemmas.Bool.{and_from, and_parts, eq-eqb, eqb-true, le-leb, ltb-true, or_left, or_right}
use Rattle.std.proofs.lemmas.List.Folds.{list_any-append}
use Rattle.std.proofs.Math.Path.{fun_ext}
use Rattle.dom_set.specs.Elements.{elements_of, is_in, is_within}
use Rattle.dom_set.specs.Laws.{ElementsPass, IsInTests}
use Rattle.rv_isa.specs.declared.instruction.Instr.{Instr}
use Rattle.rv_mem.specs.declared.words.Seen.{Seen}
use Rattle.rv_mem.specs.Ram.{in_ram}
use Rattle.rv_mem.specs.Seen.{is_there}
use Rattle.rv_script.specs.Folds.{Entry}
use Rattle.rv_script.specs.Lists.{HasItem}
use Rattle.rv_script.proofs.Items.{has_either, has_first, has_second}
use Rattle.sv_walk.specs.declared.entry.Kind.TheVariants.{Fetch as ForFetch}
use Rattle.sv_walk.specs.declared.entry.View.{View}
use Rattle.sv_walk.specs.Translation.{At, Fails, Reached}
use Rattle.row_parts.specs.declared.forms.Forms.{Forms}
use Rattle.row_parts.specs.declared.row.Row.{Row}
use Rattle.row_parts.specs.declared.row.RowEnd.{RowEnd}
use Rattle.row_parts.specs.declared.row.RowEnd.TheVariants.{Pa, Fault, Outside}
use Rattle.row_parts.specs.Forms.{IsOnce, is_first}
use Rattle.row_parts.specs.Gaps.{counts}
use Rattle.row_parts.specs.Rows.{Adds, when}
use Rattle.row_parts.proofs.Members.{is_in-elements_of, is_in-filter}
use Rattle.addr_rows.specs.Combinations.{Setting, ways}
use Rattle.addr_rows.specs.Laws.{FormsAreWords, RowsAreWalks}
use Rattle.addr_rows.specs.Scenes.{setting_with}
use Rattle.addr_rows.specs.Walks.{AreWordForms, Shows, entry_row, entry_rows, has_value, row_holds}
use Rattle.addr_rows.proofs.Settings.{in_once}
use Rattle.foot_map.specs.declared.touch.Touch.{Touch}
use Rattle.rv_hart.specs.Machine.{fetch_view}
use Rattle.leaf_link.specs.FetchRows.{AreFetchRows, FetchRow, FetchWalks}
use Rattle.leaf_link.specs.Served.{EntriesAreLet, FetchRowsServe, row_at}
use Rattle.leaf_link.specs.Turns.{Turn, is_first_form, is_free, may_start}
use Rattle.fetch_ways.specs.declared.way.FetchEnd.{FetchEnd}
use Rattle.fetch_ways.specs.declared.way.FetchEnd.TheVariants as ends
use Rattle.fetch_ways.specs.declared.way.FetchWay.{FetchWay}
use Rattle.fetch_ways.specs.Ways.{AreFetchWays, IsFetchGround, is_free_walk, keeps, reached_by, walk_at}
use Rattle.fetch_ways.specs.Internal.Keeping.{end_for, keeps_with, passes, seconds_of, way_of, way_to, way_with, ways_of}
use Rattle.fetch_ways.proofs.Listed.{first_same, second_same}
use Rattle.fetch_ways.proofs.Walked.{IsInside, fetch_setting, keeps_is, leads_inside, root_is}

-- ROWS
-- where a row leads the pc
abbrev row_end : ℕ → RowEnd → Option Reached
row_end pc (Pa base mask) = Some (At (base + bit_and pc mask))
row_end pc (Fault cause) = Some (Fails cause)
row_end pc Outside = None

abbrev fetch_row : ℕ → Row → Reached → FetchRow
fetch_row pc row end = record { holds = row_holds row pc; end = end }

at_first : (pc : ℕ) (row : Row) (end : Reached) (rest : List Row) (c : RowEnd) → row_end pc c ≡ Some end → HasItem (map (row_at pc) (entry_row row c (entry_rows rest))) (fetch_row pc row end)
at_first pc row end rest (Pa base mask) h = let e : At (base + bit_and pc mask) ≡ end = cc in inl (ap (λ (r : Reached). fetch_row pc row r) e)
at_first pc row end rest (Fault cause) h = let e : Fails cause ≡ end = cc in inl (ap (λ (r : Reached). fetch_row pc row r) e)
at_first pc row end rest Outside h = absurd (cc)

further : (pc : ℕ) (row : Row) (item : FetchRow) (rest : List Row) (c : RowEnd) → HasItem (map (row_at pc) (entry_rows rest)) item → HasItem (map (row_at pc) (entry_row row c (entry_rows rest))) item
further pc row item rest (Pa base mask) i = inr i
further pc row item rest (Fault cause) i = inr i
further pc row item rest Outside i = i

in_rows : (pc : ℕ) (rs : List Row) (row : Row) (end : Reached) → HasItem rs row → row_end pc row.end ≡ Some end → HasItem (map (row_at pc) (entry_rows rs)) (fetch_row pc row end)
in_rows pc [] row end i h = absurd i
in_rows pc (r ∷ rs) row end i h = elim i [
  | inl here ↦ subst (λ (z : Row). HasItem (map (row_at pc) (entry_row z z.end (entry_rows rs))) (fetch_row pc row end)) (sym here) (at_first pc row end rs row.end h)
  | inr there ↦ further pc r (fetch_row pc row end) rs r.end (in_rows pc rs row end there h)
]

record From (pc : ℕ) (rs : List Row) (item : FetchRow) : Type 0 where
  row : Row
  is_there : HasItem rs row
  leads : row_end pc row.end ≡ Some item.end
  same : (first second : ℕ) → item.holds first second ≡ row_holds row pc first second

from_rows : (pc : ℕ) (rs : List Row) (item : FetchRow) → HasItem (map (row_at pc) (entry_rows rs)) item → From pc rs item
from_rows pc [] item i = absurd i
from_rows pc (r ∷ rs) item i = go r.end refl (from_rows pc rs item) i
  where
    first : (end : Reached) → row_end pc r.end ≡ Some end → fetch_row pc r end ≡ item → From pc (r ∷ rs) item
    first end h here = record { row = r; is_there = inl refl; leads = h ∙ ap (λ (z : FetchRow). Some z.end) here; same = λ one two. sym (ap (λ (z : FetchRow). z.holds one two) here) }

    later : From pc rs item → From pc (r ∷ rs) item
    later f = record { row = f.row; is_there = inr f.is_there; leads = f.leads; same = f.same }

    go : (c : RowEnd) → r.end ≡ c → (HasItem (map (row_at pc) (entry_rows rs)) item → From pc rs item) → HasItem (map (row_at pc) (entry_row r c (entry_rows rs))) item → From pc (r ∷ rs) item
    go (Pa base mask) is rest j = elim j [
      | inl here ↦ first (At (base + bit_and pc mask)) (ap (row_end pc) is) here
      | inr there ↦ later (rest there)
    ]
    go (Fault cause) is rest j = elim j [
      | inl here ↦ first (Fails cause) (ap (row_end pc) is) here
      | inr there ↦ later (rest there)
    ]
    go Outside is rest j = later (rest j)

-- ENDS
row_ends : (pc : ℕ) (c : RowEnd) (end : FetchEnd) → end_for pc c ≡ Some end → (to : Reached) × (row_end pc c ≡ Some to)
row_ends pc (Pa base mask) end h = (At (base + bit_and pc mask), refl)
row_ends pc (Fault cause) end h = (Fails cause, refl)
row_ends pc Outside end h = absurd (cc)

ends_for : (pc : ℕ) (c : RowEnd) (to : Reached) → row_end pc c ≡ Some to → (end : FetchEnd) × (end_for pc c ≡ Some end)
ends_for pc (Pa base mask) to h = (ends.At ((base + bit_and pc mask) % 2 ^ 32), refl)
ends_for pc (Fault cause) to h = (ends.Fails cause, refl)
ends_for pc Outside to h = absurd (cc)

-- what is in RAM is below 2 ^ 32
ends_same : (ram : ℕ → Bool) (pc : ℕ) (c : RowEnd) (end : FetchEnd) (to : Reached) → end_for pc c ≡ Some end → row_end pc c ≡ Some to → IsInside ram to → reached_by end ≡ to
ends_same ram pc (Pa base mask) end to h k inside =
    let n : ℕ = base + bit_and pc mask in
    let e : ends.At (n % 2 ^ 32) ≡ end = cc in
    let r : At n ≡ to = cc in
    let there : IsInside ram (At n) = subst (λ (z : Reached). IsInside ram z) (sym r) inside in
    let small : n < 2 ^ 32 = ltb-true n (2 ^ 32) (and_parts (nat_lt n (2 ^ 32)) (ram (n / 4)) there).0 in
    let m : n % 2 ^ 32 ≡ n = omega (arith, small) in
    ap reached_by (sym e) ∙ ap At m ∙ r
ends_same ram pc (Fault cause) end to h k inside =
    let e : ends.Fails cause ≡ end = cc in
    let r : Fails cause ≡ to = cc in
    ap reached_by (sym e) ∙ r
ends_same ram pc Outside end to h k inside = absurd (cc)

-- SETS
in_set : ElementsPass → IsInTests → (test : ℕ → Bool) (v : ℕ) → is_in (elements_of test) v ≡ true → test v ≡ true
in_set pass tests test v h = ((pass test v).0 ((tests (elements_of test) v).0 h)).1

seconds_have : ElementsPass → IsInTests → (leaf : Option (List ℕ)) (v : ℕ) → is_in (seconds_of leaf) v ≡ true → has_value leaf v ≡ true
seconds_have pass tests None v h = let t = in_set pass tests (is_in (0 ∷ [])) v h in go (0 == v) refl t
  where
    go : (b : Bool) → (0 == v) ≡ b → (b || false) ≡ true → nat_eq v 0 ≡ true
    go true e k = eq-eqb v 0 (sym (eqb-true 0 v e))
    go false e k = absurd (cc)
seconds_have pass tests (Some words) v h = h

have_seconds : ElementsPass → IsInTests → (leaf : Option (List ℕ)) (v : ℕ) → has_value leaf v ≡ true → is_in (seconds_of leaf) v ≡ true
have_seconds pass tests None v h = subst (λ (n : ℕ). is_in (elements_of (is_in (0 ∷ []))) n ≡ true) (sym (eqb-true v 0 h)) (is_in-elements_of pass tests (is_in (0 ∷ [])) 0 (omega arith))
have_seconds pass tests (Some words) v h = h

-- WAYS
record OfRow (at : ℕ → Seen) (feet : List Touch) (hart : ℕ) (view : View) (pc : ℕ) (listed : List ℕ) (row : Row) (way : FetchWay) : Type 0 where
  ea : (counts row.apart pc && is_in row.ea pc) ≡ true
  leads : end_for pc row.end ≡ Some way.end
  firsts : way.first ≡ elements_of (is_in (filter (passes at feet hart view pc row way.end) listed))
  seconds : way.second ≡ seconds_of row.leaf

of_row : (at : ℕ → Seen) (feet : List Touch) (hart : ℕ) (view : View) (pc : ℕ) (listed : List ℕ) (row : Row) (way : FetchWay) → HasItem (way_of at feet hart view pc listed row) way → OfRow at feet hart view pc listed row way
of_row at feet hart view pc listed row way i = go (counts row.apart pc && is_in row.ea pc) refl (end_for pc row.end) refl i
  where
    made : (end : FetchEnd) (ks : List ℕ) → HasItem (way_with ks (seconds_of row.leaf) end) way → (way.end ≡ end) × (way.first ≡ elements_of (is_in ks)) × (way.second ≡ seconds_of row.leaf)
    made end [] j = absurd j
    made end (k ∷ ks) j = elim j [
      | inl here ↦ (sym (ap (λ (z : FetchWay). z.end) here), sym (ap (λ (z : FetchWay). z.first) here), sym (ap (λ (z : FetchWay). z.second) here))
      | inr there ↦ absurd there
    ]

    go : (b : Bool) → (counts row.apart pc && is_in row.ea pc) ≡ b → (o : Option FetchEnd) → end_for pc row.end ≡ o → HasItem (if b then way_to at feet hart view pc listed row o else []) way → OfRow at feet hart view pc listed row way
    go true ea (Some end) leads j =
        let m = made end (filter (passes at feet hart view pc row end) listed) j in
        record {
          ea = ea;
          leads = leads ∙ ap (λ (e : FetchEnd). Some e) (sym m.0);
          firsts = m.1 ∙ ap (λ (e : FetchEnd). elements_of (is_in (filter (passes at feet hart view pc row e) listed))) (sym m.0);
          seconds = m.2;
        }
    go true ea None leads j = absurd j
    go false ea o leads j = absurd j

way_there : (ks second : List ℕ) (end : FetchEnd) (v : ℕ) → is_in ks v ≡ true → HasItem (way_with ks second end) (record { first = elements_of (is_in ks); second = second; end = end })
way_there [] second end v h = absurd (cc)
way_there (k ∷ ks) second end v h = inl refl

from_ways : (at : ℕ → Seen) (feet : List Touch) (hart : ℕ) (view : View) (pc : ℕ) (listed : List ℕ) (rs : List Row) (way : FetchWay) → HasItem (ways_of at feet hart view pc listed rs) way → (row : Row) × HasItem rs row × HasItem (way_of at feet hart view pc listed row) way
from_ways at feet hart view pc listed [] way i = absurd i
from_ways at feet hart view pc listed (r ∷ rs) way i = elim (has_either (way_of at feet hart view pc listed r) (ways_of at feet hart view pc listed rs) way i) [
  | inl here ↦ (r, inl refl, here)
  | inr there ↦ let f = from_ways at feet hart view pc listed rs way there in (f.0, inr f.1, f.2)
]

in_ways : (at : ℕ → Seen) (feet : List Touch) (hart : ℕ) (view : View) (pc : ℕ) (listed : List ℕ) (rs : List Row) (row : Row) (way : FetchWay) → HasItem rs row → HasItem (way_of at feet hart view pc listed row) way → HasItem (ways_of at feet hart view pc listed rs) way
in_ways at feet hart view pc listed [] row way i j = absurd i
in_ways at feet hart view pc listed (r ∷ rs) row way i j = elim i [
  | inl here ↦ has_first (way_of at feet hart view pc listed r) (ways_of at feet hart view pc listed rs) way (subst (λ (z : Row). HasItem (way_of at feet hart view pc listed z) way) (sym here) j)
  | inr there ↦ has_second (way_of at feet hart view pc listed r) (ways_of at feet hart view pc listed rs) way (in_ways at feet hart view pc listed rs row way there j)
]

-- what is known of a turn and its rows
record Ground (at : ℕ → Seen) (feet : List Touch) (hart : ℕ) (listed : List ℕ) (rs : List Row) (t : Turn) : Type 0 where
  pass : ElementsPass
  tests : IsInTests
  shows : Shows at t.fixed.ram t.known
  free : (addr : ℕ) → addr % 4 ≡ 0 → is_free t (walk_at addr) ≡ is_free_walk feet hart addr
  listed_all : (v : ℕ) → (v ≡ 0) ⊎ (is_first_form t v ≡ true) → is_in listed v ≡ true
  rows : AreFetchRows t (map (row_at t.fixed.pc) (entry_rows rs))

are_ways : (at : ℕ → Seen) (feet : List Touch) (hart : ℕ) (listed : List ℕ) (rs : List Row) (t : Turn) → Ground at feet hart listed rs t → AreFetchWays t (ways_of at feet hart (fetch_view t.fixed) t.fixed.pc listed rs)
are_ways at feet hart listed rs t g = record { sound = λ way i first second one two. sound way i first second one two; complete = λ first second log end w k. complete first second log end w k }
  where
    v : View
    v = fetch_view t.fixed

    pc : ℕ
    pc = t.fixed.pc

    sound : (way : FetchWay) → HasItem (ways_of at feet hart v pc listed rs) way → (first second : ℕ) → is_in way.first first ≡ true → is_in way.second second ≡ true
        → (log : List Entry) × FetchWalks t first second log (reached_by way.end) × (keeps t log (reached_by way.end) ≡ true)
    sound way i first second one two =
        let f = from_ways at feet hart v pc listed rs way i in
        let row : Row = f.0 in
        let o = of_row at feet hart v pc listed row way f.2 in
        let test : ℕ → Bool = passes at feet hart v pc row way.end in
        let kept : is_in (filter test listed) first ≡ true = in_set g.pass g.tests (is_in (filter test listed)) first (sym (ap (λ (xs : List ℕ). is_in xs first) o.firsts) ∙ one) in
        let p = and_parts (has_value row.root first) (keeps_with at feet hart v pc first way.end) (and_parts (test first) (is_in listed first) (sym (is_in-filter test listed first) ∙ kept)).0 in
        let leaf : has_value row.leaf second ≡ true = seconds_have g.pass g.tests row.leaf second (sym (ap (λ (xs : List ℕ). is_in xs second) o.seconds) ∙ two) in
        let to = row_ends pc row.end way.end o.leads in
        let e = and_parts (counts row.apart pc) (is_in row.ea pc) o.ea in
        let holds : row_holds row pc first second ≡ true = and_from _ _ e.0 (and_from _ _ e.1 (and_from _ _ p.0 leaf)) in
        let w = g.rows.sound (fetch_row pc row to.0) (in_rows pc rs row to.0 f.1 to.1) first second holds in
        let same : reached_by way.end ≡ to.0 = ends_same t.fixed.ram pc row.end way.end to.0 o.leads to.1 (leads_inside at t first second w.0 to.0 g.shows w.1) in
        let walk : FetchWalks t first second w.0 (reached_by way.end) = subst (λ (r : Reached). FetchWalks t first second w.0 r) (sym same) w.1 in
        (w.0, walk, keeps_is at feet hart t way.end first second w.0 g.shows g.free walk ∙ p.1)

    complete : (first second : ℕ) (log : List Entry) (end : Reached) → FetchWalks t first second log end → keeps t log end ≡ true
        → (way : FetchWay) × HasItem (ways_of at feet hart v pc listed rs) way × (is_in way.first first ≡ true) × (is_in way.second second ≡ true) × (reached_by way.end ≡ end)
    complete first second log end w k =
        let r = g.rows.complete first second log end w in
        let f = from_rows pc rs r.0 r.1 in
        let row : Row = f.row in
        let leads : row_end pc row.end ≡ Some end = f.leads ∙ ap (λ (z : Reached). Some z) r.3 in
        let to = ends_for pc row.end end leads in
        let same : reached_by to.0 ≡ end = ends_same t.fixed.ram pc row.end to.0 end to.1 leads (leads_inside at t first second log end g.shows w) in
        let walk : FetchWalks t first second log (reached_by to.0) = subst (λ (z : Reached). FetchWalks t first second log z) (sym same) w in
        let keep : keeps_with at feet hart v pc first to.0 ≡ true = sym (keeps_is at feet hart t to.0 first second log g.shows g.free walk) ∙ ap (λ (z : Reached). keeps t log z) same ∙ k in
        let n = and_parts (counts row.apart pc) (is_in row.ea pc && (has_value row.root first && has_value row.leaf second)) (sym (f.same first second) ∙ r.2) in
        let a = and_parts (is_in row.ea pc) (has_value row.root first && has_value row.leaf second) n.1 in
        let b = and_parts (has_value row.root first) (has_value row.leaf second) a.1 in
        let new = root_is at t first second log end g.shows w in
        let test : ℕ → Bool = passes at feet hart v pc row to.0 in
        let kept : is_in (filter test listed) first ≡ true = is_in-filter test listed first ∙ and_from _ _ (and_from _ _ b.0 keep) (g.listed_all first new.1) in
        let way : FetchWay = record { first = elements_of (is_in (filter test listed)); second = seconds_of row.leaf; end = to.0 } in
        let there : HasItem (way_of at feet hart v pc listed row) way =
        subst (λ (c : Bool). HasItem (if c then way_to at feet hart v pc listed row (end_for pc row.end) else []) way) (sym (and_from (counts row.apart pc) (is_in row.ea pc) n.0 a.0))
        (subst (λ (o : Option FetchEnd). HasItem (way_to at feet hart v pc listed row o) way) (sym to.1) (way_there (filter test listed) (seconds_of row.leaf) to.0 first kept)) in
        (way, in_ways at feet hart v pc listed rs row way f.is_there there, is_in-elements_of g.pass g.tests (is_in (filter test listed)) first new.0 ∙ kept, have_seconds g.pass g.tests row.leaf second b.1, same)

-- THE ROWS OF A TURN
setting_is : (at : ℕ → Seen) (ram : List (ℕ × ℕ)) (feet : List Touch) (hart : ℕ) (v : View) (pc : ℕ) (f : Forms) (t : Turn) → ((n : ℕ) → is_there (at n) ≡ in_ram ram n) → IsFetchGround at feet hart v pc f t → Path Setting (setting_with ram v ForFetch f) (fetch_setting t)
setting_is at ram feet hart v pc f t there g = λ i. record {
  ram = fun_ext (λ n. sym (g.ram n ∙ there n)) i;
  view = sym g.view i;
  kind = ForFetch;
  tables = sym g.forms.tables i;
  first = fun_ext (first_same t f g.forms) i;
  second = fun_ext (second_same t f g.forms) i;
}

on_page : (pc : ℕ) → (pc % 1 == 0 && is_within ((pc, pc) ∷ []) pc) ≡ true
on_page pc = and_from _ _ (eq-eqb (pc % 1) 0 (omega arith)) (or_left _ _ (and_from _ _ (le-leb pc pc (omega arith)) (le-leb pc pc (omega arith))))

pub record Laws : Type 1 where
  pub pass : ElementsPass
  pub tests : IsInTests
  pub rows : RowsAreWalks Instr
  pub forms : FormsAreWords
  pub entries : EntriesAreLet
  pub fetches : FetchRowsServe

pub record AreWords (f : Forms) : Type 0 where
  pub tables : All (λ t. t < 2 ^ 32) f.tables.items
  pub pool : All (λ p. p < 2 ^ 32) f.pool.items
  pub flags : All (λ b. b < 256) f.flags.items

are_fetch_rows : (at : ℕ → Seen) (ram : List (ℕ × ℕ)) (feet : List Touch) (hart : ℕ) (v : View) (pc : ℕ) (f : Forms) (t : Turn) (page : List ℕ) (rs : List Row) → Laws → AreWords f → ((n : ℕ) → is_there (at n) ≡ in_ram ram n) → pc < 2 ^ 32
    → page ≡ elements_of (λ x. x % 1 == 0 && is_within ((pc, pc) ∷ []) x) → Adds [] rs (λ x root leaf. when (is_in page x) (ways at (setting_with ram v ForFetch f) x root leaf)) → IsFetchGround at feet hart v pc f t
    → AreFetchRows t (map (row_at t.fixed.pc) (entry_rows rs))
are_fetch_rows at ram feet hart v pc f t page rs laws words there small is adds g =
    let same = setting_is at ram feet hart v pc f t there g in
    let forms : AreWordForms (fetch_setting t) = subst (λ (st : Setting). AreWordForms st) same (laws.forms ram v ForFetch f words.tables words.pool words.flags) in
    let own : Adds [] rs (λ x root leaf. when (is_in page x) (ways at (fetch_setting t) x root leaf)) = subst (λ (st : Setting). Adds [] rs (λ x root leaf. when (is_in page x) (ways at st x root leaf))) same adds in
    let on : is_in page pc ≡ true = ap (λ (xs : List ℕ). is_in xs pc) is ∙ is_in-elements_of laws.pass laws.tests (λ x. x % 1 == 0 && is_within ((pc, pc) ∷ []) x) pc small ∙ on_page pc in
    laws.fetches t (is_in page) (entry_rows rs) (subst (λ (n : ℕ). n < 2 ^ 32) (sym g.pc) small) (subst (λ (n : ℕ). is_in page n ≡ true) (sym g.pc) on)
    (laws.rows at (fetch_setting t) t.known (may_start t) (is_in page) rs g.shows (laws.entries t (fetch_view t.fixed) ForFetch) forms own)

all_listed : (f : Forms) (t : Turn) (firsts : List ℕ) → IsOnce (is_first f) firsts → ((w : ℕ) → is_first f w ≡ is_first_form t w) → (w : ℕ) → (w ≡ 0) ⊎ (is_first_form t w ≡ true) → is_in (firsts ++ 0 ∷ []) w ≡ true
all_listed f t firsts once same w h = list_any-append (λ (y : ℕ). y == w) firsts (0 ∷ []) ∙ elim h [
  | inl zero ↦ or_right _ _ (or_left _ _ (eq-eqb 0 w (sym zero)))
  | inr form ↦ or_left _ _ (in_once (is_first f) firsts once w ∙ same w ∙ form)
]

-- the ways of the rows that are found are those of the fetch
pub collected : (at : ℕ → Seen) (ram : List (ℕ × ℕ)) (feet : List Touch) (hart : ℕ) (v : View) (pc : ℕ) (f : Forms) (t : Turn) (page firsts listed : List ℕ) (rs : List Row) (items : List FetchWay) → Laws → AreWords f → ((n : ℕ) → is_there (at n) ≡ in_ram ram n) → pc < 2 ^ 32
    → page ≡ elements_of (λ x. x % 1 == 0 && is_within ((pc, pc) ∷ []) x) → Adds [] rs (λ x root leaf. when (is_in page x) (ways at (setting_with ram v ForFetch f) x root leaf)) → IsOnce (is_first f) firsts → listed ≡ firsts ++ 0 ∷ []
    → items ≡ ways_of at feet hart v pc listed rs → IsFetchGround at feet hart v pc f t → AreFetchWays t items × (rows : List FetchRow) × AreFetchRows t rows
collected at ram feet hart v pc f t page firsts listed rs items laws words there small on adds once is made g =
    let rows = are_fetch_rows at ram feet hart v pc f t page rs laws words there small on adds g in
    let all : (w : ℕ) → (w ≡ 0) ⊎ (is_first_form t w ≡ true) → is_in listed w ≡ true = λ w h. ap (λ (xs : List ℕ). is_in xs w) is ∙ all_listed f t firsts once (first_same t f g.forms) w h in
    let own = are_ways at feet hart listed rs t (record { pass = laws.pass; tests = laws.tests; shows = g.shows; free = g.free; listed_all = all; rows = rows }) in
    let named : AreFetchWays t (ways_of at feet hart v pc listed rs) =
    subst (λ (n : ℕ). AreFetchWays t (ways_of at feet hart v n listed rs)) g.pc (subst (λ (u : View). AreFetchWays t (ways_of at feet hart u t.fixed.pc listed rs)) g.view own) in
    (subst (λ (xs : List FetchWay). AreFetchWays t xs) (sym made) named, map (row_at t.fixed.pc) (entry_rows rs), rows)
