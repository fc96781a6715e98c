-- The ways of rows are those of loads and stores.
use Rattle.std.proofs.Common.{◌≡◌, ℕ, ◌+◌, ◌%◌, ◌^◌, ◌<◌, ◌⊎◌, if◌then◌else◌, bit_and, Bool, true, false, not, ◌&&◌, ◌==◌, List, [], ◌∷◌, ◌++◌, Option, Some, None, All, refl, sym, ap, ◌∙◌, subst, inl, inr, arith}
use Rattle.std.specs.List.{list_any}
use Rattle.std.proofs.lemmas.Bool.{and_from, and_parts, eq-eqb, eqb-true, or_cases, or_left, or_right}
use Rattle.std.proofs.lemmas.List.Folds.{list_any-append}
use Rattle.std.proofs.Math.Path.{fun_ext}
use Rattle.dom_set.specs.Elements.{is_in}
use Rattle.rv_isa.specs.declared.instruction.Instr.{Instr}
use Rattle.rv_csr.specs.declared.cause.Cause.{Cause}
use Rattle.rv_csr.specs.declared.cause.Cause.TheVariants.{FetchMisaligned, FetchAccess, Illegal, Breakpoint, LoadMisaligned, LoadAccess, StoreMisaligned, StoreAccess, CallFromU, CallFromS, CallFromM, FetchPage, LoadPage, StorePage}
use Rattle.rv_csr.specs.Causes.{number_of}
use Rattle.rv_mem.specs.declared.words.Seen.{Seen}
use Rattle.rv_mem.specs.Ram.{in_ram}
use Rattle.rv_mem.specs.Seen.{is_there}
use Rattle.rv_script.specs.Folds.{Entry}
use Rattle.rv_script.specs.Lists.{HasItem}
use Rattle.sv_walk.specs.declared.entry.View.{View}
use Rattle.sv_walk.specs.Translation.{At, Reached}
use Rattle.row_parts.specs.declared.forms.Forms.{Forms}
use Rattle.row_parts.specs.declared.row.Row.{Row}
use Rattle.row_parts.specs.declared.row.RowEnd.{RowEnd}
use Rattle.row_parts.specs.declared.row.RowEnd.TheVariants.{Pa, Fault, Outside}
use Rattle.row_parts.specs.Forms.{IsOnce, is_first}
use Rattle.row_parts.specs.Gaps.{counts}
use Rattle.row_parts.specs.Rows.{Adds, when}
use Rattle.addr_rows.specs.Combinations.{Setting, ways}
use Rattle.addr_rows.specs.Laws.{FormsAreWords, RowsAreWalks, WalksAreWays}
use Rattle.addr_rows.specs.Scenes.{setting_with}
use Rattle.addr_rows.specs.Walks.{AreWordForms, EntryRow, Faults, Leads, RowEnd as EntryEnd, end_at, entry_row, entry_rows, row_holds}
use Rattle.addr_rows.proofs.Settings.{in_once}
use Rattle.foot_map.specs.declared.touch.Touch.{Touch}
use Rattle.rv_hart.specs.Machine.{data_view}
use Rattle.leaf_link.specs.Reaching.{AreRows, Walks}
use Rattle.leaf_link.specs.Served.{AreRowsAt, EntriesAreLet, LoadRowsServe, StoreRowsServe}
use Rattle.leaf_link.specs.Turns.{Turn, is_first_form, may_start}
use Rattle.fetch_ways.proofs.Listed.{first_same, second_same}
use Rattle.data_bytes.specs.declared.starts.DataAccess.{DataAccess}
use Rattle.data_bytes.specs.declared.starts.DataAccess.TheVariants.{Load, Store}
use Rattle.data_ways.specs.declared.way.DataEnd.{DataEnd}
use Rattle.data_ways.specs.declared.way.DataEnd.TheVariants as ends
use Rattle.data_ways.specs.declared.way.DataWay.{DataWay}
use Rattle.data_ways.specs.Internal.Barring.{is_barred}
use Rattle.data_ways.specs.Internal.Making.{end_for, in_ways, row_has, row_has_to, rows_have, way_has}
use Rattle.data_ways.specs.Ways.{AreDataWays, IsDataGround, keeps, kind_of, reached_by}
use Rattle.data_ways.proofs.Walked.{Ground, IsSmall, data_setting, keeps_is, leads_small, root_is}

-- LISTS
any_item : {A : Type 0} (p : A → Bool) (xs : List A) (x : A) → HasItem xs x → p x ≡ true → list_any p xs ≡ true
any_item p [] x i h = absurd i
any_item p (y ∷ ys) x i h = elim i [
  | inl here ↦ or_left (p y) (list_any p ys) (ap p here ∙ h)
  | inr there ↦ or_right (p y) (list_any p ys) (any_item p ys x there h)
]

item_of : {A : Type 0} (p : A → Bool) (xs : List A) → list_any p xs ≡ true → (x : A) × HasItem xs x × (p x ≡ true)
item_of p [] h = absurd (cc)
item_of p (y ∷ ys) h = elim (or_cases (p y) (list_any p ys) h) [
  | inl here ↦ (y, inl refl, here)
  | inr there ↦ let r = item_of p ys there in (r.0, inr r.1, r.2)
]

-- ROWS
-- where a row leads addresses
abbrev entry_end : RowEnd → Option EntryEnd
entry_end (Pa base mask) = Some (Leads (λ ea. base + bit_and ea mask))
entry_end (Fault cause) = Some (Faults cause)
entry_end Outside = None

abbrev told_row : Row → EntryEnd → EntryRow
told_row row end = record { holds = row_holds row; end = end }

at_first : (row : Row) (end : EntryEnd) (rest : List Row) (c : RowEnd) → entry_end c ≡ Some end → HasItem (entry_row row c (entry_rows rest)) (told_row row end)
at_first row end rest (Pa base mask) h = let e : Leads (λ ea. base + bit_and ea mask) ≡ end = cc in inl (ap (told_row row) e)
at_first row end rest (Fault cause) h = let e : Faults cause ≡ end = cc in inl (ap (told_row row) e)
at_first row end rest Outside h = absurd (cc)

further : (row : Row) (item : EntryRow) (rest : List Row) (c : RowEnd) → HasItem (entry_rows rest) item → HasItem (entry_row row c (entry_rows rest)) item
further row item rest (Pa base mask) i = inr i
further row item rest (Fault cause) i = inr i
further row item rest Outside i = i

in_rows : (rs : List Row) (row : Row) (end : EntryEnd) → HasItem rs row → entry_end row.end ≡ Some end → HasItem (entry_rows rs) (told_row row end)
in_rows [] row end i h = absurd i
in_rows (r ∷ rs) row end i h = elim i [
  | inl here ↦ subst (λ (z : Row). HasItem (entry_row z z.end (entry_rows rs)) (told_row row end)) (sym here) (at_first row end rs row.end h)
  | inr there ↦ further r (told_row row end) rs r.end (in_rows rs row end there h)
]

record From (rs : List Row) (item : EntryRow) : Type 0 where
  row : Row
  is_there : HasItem rs row
  leads : entry_end row.end ≡ Some item.end
  same : (ea first second : ℕ) → item.holds ea first second ≡ row_holds row ea first second

from_rows : (rs : List Row) (item : EntryRow) → HasItem (entry_rows rs) item → From rs item
from_rows [] item i = absurd i
from_rows (r ∷ rs) item i = go r.end refl (from_rows rs item) i
  where
    first : (end : EntryEnd) → entry_end r.end ≡ Some end → told_row r end ≡ item → From (r ∷ rs) item
    first end h here = record { row = r; is_there = inl refl; leads = h ∙ ap (λ (z : EntryRow). Some z.end) here; same = λ ea one two. sym (ap (λ (z : EntryRow). z.holds ea one two) here) }

    later : From rs item → From (r ∷ rs) item
    later f = record { row = f.row; is_there = inr f.is_there; leads = f.leads; same = f.same }

    go : (c : RowEnd) → r.end ≡ c → (HasItem (entry_rows rs) item → From rs item) → HasItem (entry_row r c (entry_rows rs)) item → From (r ∷ rs) item
    go (Pa base mask) is rest j = elim j [
      | inl here ↦ first (Leads (λ ea. base + bit_and ea mask)) (ap entry_end is) here
      | inr there ↦ later (rest there)
    ]
    go (Fault cause) is rest j = elim j [
      | inl here ↦ first (Faults cause) (ap entry_end is) here
      | inr there ↦ later (rest there)
    ]
    go Outside is rest j = later (rest j)

-- ENDS
entry_ends : (c : RowEnd) (end : DataEnd) → end_for c ≡ Some end → (e : EntryEnd) × (entry_end c ≡ Some e)
entry_ends (Pa base mask) end h = (Leads (λ ea. base + bit_and ea mask), refl)
entry_ends (Fault cause) end h = (Faults cause, refl)
entry_ends Outside end h = absurd (cc)

data_ends : (c : RowEnd) (e : EntryEnd) → entry_end c ≡ Some e → (end : DataEnd) × (end_for c ≡ Some end)
data_ends (Pa base mask) e h = (ends.At base mask, refl)
data_ends (Fault cause) e h = (ends.Fails cause, refl)
data_ends Outside e h = absurd (cc)

ends_same : (ea : ℕ) (c : RowEnd) (end : DataEnd) (e : EntryEnd) → end_for c ≡ Some end → entry_end c ≡ Some e → IsSmall (end_at e ea) → reached_by end ea ≡ end_at e ea
ends_same ea (Pa base mask) end e h k small =
    let n : ℕ = base + bit_and ea mask in
    let d : ends.At base mask ≡ end = cc in
    let r : Leads (λ x. base + bit_and x mask) ≡ e = cc in
    let there : n < 2 ^ 32 = subst (λ (z : EntryEnd). IsSmall (end_at z ea)) (sym r) small in
    let m : n % 2 ^ 32 ≡ n = omega (arith, there) in
    ap (λ (z : DataEnd). reached_by z ea) (sym d) ∙ ap At m ∙ ap (λ (z : EntryEnd). end_at z ea) r
ends_same ea (Fault cause) end e h k small =
    let d : ends.Fails cause ≡ end = cc in
    let r : Faults cause ≡ e = cc in
    ap (λ (z : DataEnd). reached_by z ea) (sym d) ∙ ap (λ (z : EntryEnd). end_at z ea) r
ends_same ea Outside end e h k small = absurd (cc)

-- one end alone
cause_at : ℕ → Cause
cause_at n =
    if n == 0 then FetchMisaligned else if n == 1 then FetchAccess else if n == 2 then Illegal else if n == 3 then Breakpoint else if n == 4 then LoadMisaligned else if n == 5 then LoadAccess
    else if n == 6 then StoreMisaligned else if n == 7 then StoreAccess else if n == 8 then CallFromU else if n == 9 then CallFromS else if n == 11 then CallFromM else if n == 12 then FetchPage
    else if n == 13 then LoadPage else StorePage

cause_is : (c : Cause) → cause_at (number_of c) ≡ c
unfolding cause_at
cause_is FetchMisaligned = refl
cause_is FetchAccess = refl
cause_is Illegal = refl
cause_is Breakpoint = refl
cause_is LoadMisaligned = refl
cause_is LoadAccess = refl
cause_is StoreMisaligned = refl
cause_is StoreAccess = refl
cause_is CallFromU = refl
cause_is CallFromS = refl
cause_is CallFromM = refl
cause_is FetchPage = refl
cause_is LoadPage = refl
cause_is StorePage = refl

abbrev same_end : DataEnd → DataEnd → Bool
same_end (ends.At base mask) (ends.At other bits) = base == other && mask == bits
same_end (ends.At base mask) (ends.Fails cause) = false
same_end (ends.Fails cause) (ends.At base mask) = false
same_end (ends.Fails cause) (ends.Fails other) = number_of cause == number_of other

end_itself : (end : DataEnd) → same_end end end ≡ true
end_itself (ends.At base mask) = and_from (base == base) (mask == mask) (eq-eqb base base refl) (eq-eqb mask mask refl)
end_itself (ends.Fails cause) = eq-eqb (number_of cause) (number_of cause) refl

end_is : (end other : DataEnd) → same_end end other ≡ true → end ≡ other
end_is (ends.At base mask) (ends.At other bits) h =
    let p = and_parts (base == other) (mask == bits) h in
    ap (λ (n : ℕ). ends.At n mask) (eqb-true base other p.0) ∙ ap (λ (n : ℕ). ends.At other n) (eqb-true mask bits p.1)
end_is (ends.At base mask) (ends.Fails cause) h = absurd (cc)
end_is (ends.Fails cause) (ends.At base mask) h = absurd (cc)
end_is (ends.Fails cause) (ends.Fails other) h = ap ends.Fails (sym (cause_is cause) ∙ ap cause_at (eqb-true (number_of cause) (number_of other) h) ∙ cause_is other)

not_false : (b : Bool) → not b ≡ true → b ≡ false
not_false true h = absurd (cc)
not_false false h = refl

-- WAYS
-- what is known of a turn and its rows
record Known (at : ℕ → Seen) (feet : List Touch) (hart : ℕ) (access : DataAccess) (pages : ℕ → Bool) (listed : List ℕ) (rs : List Row) (items : List DataWay) (t : Turn) : Type 0 where
  on : Ground at feet hart t
  walks : WalksAreWays Instr
  listed_all : (v : ℕ) → (v ≡ 0) ⊎ (is_first_form t v ≡ true) → is_in listed v ≡ true
  rows : AreRows t pages (kind_of access) (entry_rows rs)
  held : (test : DataEnd → Bool) (ea first second : ℕ) → ea < 2 ^ 32 → in_ways test items ea first second ≡ rows_have at feet hart (data_view t.fixed) access test listed rs ea first second

are_ways : (at : ℕ → Seen) (feet : List Touch) (hart : ℕ) (access : DataAccess) (pages : ℕ → Bool) (listed : List ℕ) (rs : List Row) (items : List DataWay) (t : Turn) → Known at feet hart access pages listed rs items t → AreDataWays t access pages items
are_ways at feet hart access pages listed rs items t g =
    record { sound = λ way i ea first second small n a b c. sound way i ea first second small n a b c; complete = λ ea first second log end small page w k. complete ea first second log end small page w k }
  where
    v : View
    v = data_view t.fixed

    Sound : ℕ → ℕ → ℕ → DataEnd → Type 0
    Sound ea first second end = (log : List Entry) × Walks t (kind_of access) ea first second log (reached_by end ea) × (keeps t access log (reached_by end ea) ≡ true)

    by_row : (row : Row) → HasItem rs row → (end : DataEnd) (ea first second : ℕ) → ea < 2 ^ 32 → end_for row.end ≡ Some end → row_holds row ea first second ≡ true → is_barred at feet hart v access end ea first ≡ false → Sound ea first second end
    by_row row i end ea first second small leads holds free =
        let e = entry_ends row.end end leads in
        let w = g.rows.sound (told_row row e.0) (in_rows rs row e.0 i e.1) ea first second small holds in
        let same : reached_by end ea ≡ end_at e.0 ea = ends_same ea row.end end e.0 leads e.1 (leads_small at t access ea first second w.0 (end_at e.0 ea) g.on.shows g.on.entries w.1) in
        let walk : Walks t (kind_of access) ea first second w.0 (reached_by end ea) = subst (λ (r : Reached). Walks t (kind_of access) ea first second w.0 r) (sym same) w.1 in
        (w.0, walk, keeps_is at feet hart t access end ea first second w.0 g.on walk ∙ ap not free)

    from_row : (row : Row) → HasItem rs row → (end : DataEnd) (ea first second : ℕ) → ea < 2 ^ 32 → row_has at feet hart v access (same_end end) listed row ea first second ≡ true → Sound ea first second end
    from_row row i end ea first second small h = go (end_for row.end) refl h
      where
        go : (o : Option DataEnd) → end_for row.end ≡ o → row_has_to at feet hart v access (same_end end) listed row o ea first second ≡ true → Sound ea first second end
        go None leads k = absurd (cc)
        go (Some other) leads k =
            let free : Bool = not (is_barred at feet hart v access other ea first) in
            let a = and_parts (same_end end other) (row_holds row ea first second && (is_in listed first && free)) k in
            let b = and_parts (row_holds row ea first second) (is_in listed first && free) a.1 in
            let c = and_parts (is_in listed first) free b.1 in
            subst (λ (z : DataEnd). Sound ea first second z) (sym (end_is end other a.0)) (by_row row i other ea first second small leads b.0 (not_false (is_barred at feet hart v access other ea first) c.1))

    sound : (way : DataWay) → HasItem items way → (ea first second : ℕ) → ea < 2 ^ 32 → counts way.apart ea ≡ true → is_in way.ea ea ≡ true → is_in way.first first ≡ true → is_in way.second second ≡ true
        → (log : List Entry) × Walks t (kind_of access) ea first second log (reached_by way.end ea) × (keeps t access log (reached_by way.end ea) ≡ true)
    sound way i ea first second small n a b c =
        let test : DataEnd → Bool = same_end way.end in
        let has : (test way.end && way_has way ea first second) ≡ true = and_from (test way.end) (way_has way ea first second) (end_itself way.end) (and_from (counts way.apart ea) (is_in way.ea ea && (is_in way.first first && is_in way.second second)) n (and_from (is_in way.ea ea) (is_in way.first first && is_in way.second second) a (and_from (is_in way.first first) (is_in way.second second) b c))) in
        let found : rows_have at feet hart v access test listed rs ea first second ≡ true = sym (g.held test ea first second small) ∙ any_item (λ (w : DataWay). test w.end && way_has w ea first second) items way i has in
        let r = item_of (λ (row : Row). row_has at feet hart v access test listed row ea first second) rs found in
        from_row r.0 r.1 way.end ea first second small r.2

    complete : (ea first second : ℕ) (log : List Entry) (end : Reached) → ea < 2 ^ 32 → pages ea ≡ true → Walks t (kind_of access) ea first second log end → keeps t access log end ≡ true
        → (way : DataWay) × HasItem items way × (counts way.apart ea ≡ true) × (is_in way.ea ea ≡ true) × (is_in way.first first ≡ true) × (is_in way.second second ≡ true) × (reached_by way.end ea ≡ end)
    complete ea first second log end small page w k =
        let r = g.rows.complete ea first second log end small page w in
        let f = from_rows rs r.0 r.1 in
        let row : Row = f.row in
        let to = data_ends row.end r.0.end f.leads in
        let word : IsSmall (end_at r.0.end ea) = subst (λ (z : Reached). IsSmall z) (sym r.3) (leads_small at t access ea first second log end g.on.shows g.on.entries w) in
        let same : reached_by to.0 ea ≡ end = ends_same ea row.end to.0 r.0.end to.1 f.leads word ∙ r.3 in
        let walk : Walks t (kind_of access) ea first second log (reached_by to.0 ea) = subst (λ (z : Reached). Walks t (kind_of access) ea first second log z) (sym same) w in
        let free : not (is_barred at feet hart v access to.0 ea first) ≡ true = sym (keeps_is at feet hart t access to.0 ea first second log g.on walk) ∙ ap (λ (z : Reached). keeps t access log z) same ∙ k in
        let test : DataEnd → Bool = same_end to.0 in
        let listed_one : is_in listed first ≡ true = g.listed_all first (root_is at t access ea first second log end g.on.shows g.on.entries g.walks small w) in
        let holds : row_holds row ea first second ≡ true = sym (f.same ea first second) ∙ r.2 in
        let all : row_has_to at feet hart v access test listed row (Some to.0) ea first second ≡ true =
        and_from (test to.0) (row_holds row ea first second && (is_in listed first && not (is_barred at feet hart v access to.0 ea first))) (end_itself to.0)
        (and_from (row_holds row ea first second) (is_in listed first && not (is_barred at feet hart v access to.0 ea first)) holds (and_from (is_in listed first) (not (is_barred at feet hart v access to.0 ea first)) listed_one free)) in
        let one : row_has at feet hart v access test listed row ea first second ≡ true = ap (λ (o : Option DataEnd). row_has_to at feet hart v access test listed row o ea first second) to.1 ∙ all in
        let held : in_ways test items ea first second ≡ true = g.held test ea first second small ∙ any_item (λ (z : Row). row_has at feet hart v access test listed z ea first second) rs row f.is_there one in
        let i = item_of (λ (z : DataWay). test z.end && way_has z ea first second) items held in
        let way : DataWay = i.0 in
        let a = and_parts (test way.end) (way_has way ea first second) i.2 in
        let n = and_parts (counts way.apart ea) (is_in way.ea ea && (is_in way.first first && is_in way.second second)) a.1 in
        let b = and_parts (is_in way.ea ea) (is_in way.first first && is_in way.second second) n.1 in
        let c = and_parts (is_in way.first first) (is_in way.second second) b.1 in
        (way, i.1, n.0, b.0, c.0, c.1, ap (λ (z : DataEnd). reached_by z ea) (sym (end_is to.0 way.end a.0)) ∙ same)

-- THE ROWS OF A TURN
setting_is : (at : ℕ → Seen) (ram : List (ℕ × ℕ)) (feet : List Touch) (hart : ℕ) (v : View) (access : DataAccess) (f : Forms) (t : Turn) → ((n : ℕ) → is_there (at n) ≡ in_ram ram n) → IsDataGround at feet hart v f t
    → Path Setting (setting_with ram v (kind_of access) f) (data_setting t access)
setting_is at ram feet hart v access f t there g = λ i. record {
  ram = fun_ext (λ n. sym (g.ram n ∙ there n)) i;
  view = sym g.view i;
  kind = kind_of access;
  tables = sym g.forms.tables i;
  first = fun_ext (first_same t f g.forms) i;
  second = fun_ext (second_same t f g.forms) i;
}

pub record Laws : Type 1 where
  pub rows : RowsAreWalks Instr
  pub walks : WalksAreWays Instr
  pub forms : FormsAreWords
  pub entries : EntriesAreLet
  pub loads : LoadRowsServe
  pub stores : StoreRowsServe

pub record AreWords (f : Forms) : Type 0 where
  pub tables : All (λ t. t < 2 ^ 32) f.tables.items
  pub pool : All (λ p. p < 2 ^ 32) f.pool.items
  pub flags : All (λ b. b < 256) f.flags.items

serve : Laws → (access : DataAccess) (t : Turn) (pages : ℕ → Bool) (rows : List EntryRow) → AreRowsAt t (data_view t.fixed) (kind_of access) pages rows → AreRows t pages (kind_of access) rows
serve laws Load t pages rows h = laws.loads t pages rows h
serve laws Store t pages rows h = laws.stores t pages rows h

are_rows : (at : ℕ → Seen) (ram : List (ℕ × ℕ)) (feet : List Touch) (hart : ℕ) (v : View) (access : DataAccess) (pages : ℕ → Bool) (f : Forms) (t : Turn) (rs : List Row) → Laws → AreWords f → ((n : ℕ) → is_there (at n) ≡ in_ram ram n)
    → Adds [] rs (λ x root leaf. when (pages x) (ways at (setting_with ram v (kind_of access) f) x root leaf)) → IsDataGround at feet hart v f t → AreRows t pages (kind_of access) (entry_rows rs)
are_rows at ram feet hart v access pages f t rs laws words there adds g =
    let same = setting_is at ram feet hart v access f t there g in
    let forms : AreWordForms (data_setting t access) = subst (λ (st : Setting). AreWordForms st) same (laws.forms ram v (kind_of access) f words.tables words.pool words.flags) in
    let own : Adds [] rs (λ x root leaf. when (pages x) (ways at (data_setting t access) x root leaf)) = subst (λ (st : Setting). Adds [] rs (λ x root leaf. when (pages x) (ways at st x root leaf))) same adds in
    serve laws access t pages (entry_rows rs) (laws.rows at (data_setting t access) t.known (may_start t) pages rs g.shows (laws.entries t (data_view t.fixed) (kind_of access)) forms own)

all_listed : (f : Forms) (t : Turn) (firsts : List ℕ) → IsOnce (is_first f) firsts → ((w : ℕ) → is_first f w ≡ is_first_form t w) → (w : ℕ) → (w ≡ 0) ⊎ (is_first_form t w ≡ true) → is_in (firsts ++ 0 ∷ []) w ≡ true
all_listed f t firsts once same w h = list_any-append (λ (y : ℕ). y == w) firsts (0 ∷ []) ∙ elim h [
  | inl zero ↦ or_right _ _ (or_left _ _ (eq-eqb 0 w (sym zero)))
  | inr form ↦ or_left _ _ (in_once (is_first f) firsts once w ∙ same w ∙ form)
]

-- the ways of the rows that are found are those of the loads or stores
pub collected : (at : ℕ → Seen) (ram : List (ℕ × ℕ)) (feet : List Touch) (hart : ℕ) (v : View) (access : DataAccess) (pages : ℕ → Bool) (f : Forms) (t : Turn) (firsts listed : List ℕ) (rs : List Row) (items : List DataWay)
    → Laws → AreWords f → ((n : ℕ) → is_there (at n) ≡ in_ram ram n)
    → Adds [] rs (λ x root leaf. when (pages x) (ways at (setting_with ram v (kind_of access) f) x root leaf)) → IsOnce (is_first f) firsts → listed ≡ firsts ++ 0 ∷ []
    → ((test : DataEnd → Bool) (ea first second : ℕ) → ea < 2 ^ 32 → in_ways test items ea first second ≡ rows_have at feet hart v access test listed rs ea first second)
    → IsDataGround at feet hart v f t → AreDataWays t access pages items × (rows : List EntryRow) × AreRows t pages (kind_of access) rows
collected at ram feet hart v access pages f t firsts listed rs items laws words there adds once is held g =
    let rows = are_rows at ram feet hart v access pages f t rs laws words there adds g in
    let all : (w : ℕ) → (w ≡ 0) ⊎ (is_first_form t w ≡ true) → is_in listed w ≡ true = λ w h. ap (λ (xs : List ℕ). is_in xs w) is ∙ all_listed f t firsts once (first_same t f g.forms) w h in (
      are_ways at feet hart access pages listed rs items t (record {
        on = record { shows = g.shows; free = g.free; entries = laws.entries };
        walks = laws.walks;
        listed_all = all;
        rows = rows;
        held = λ test ea first second small. held test ea first second small ∙ ap (λ (u : View). rows_have at feet hart u access test listed rs ea first second) (sym g.view);
      }),
      entry_rows rs,
      rows,
    )
