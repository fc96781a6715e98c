-- The walk of a load or store, and whether it keeps.
use Rattle.std.proofs.Common.{◌≡◌, ℕ, ◌+◌, ◌*◌, ◌/◌, ◌%◌, ◌^◌, ◌<◌, ◌⊎◌, if◌then◌else◌, bit_and, Bool, true, false, not, ◌&&◌, ◌||◌, ◌==◌, List, [], ◌∷◌, Option, Some, None, refl, sym, ap, ◌∙◌, subst, inl, inr, arith}
use Rattle.std.specs.Prelude.{nat_eq, nat_lt}
use Rattle.std.specs.List.{list_all}
use Rattle.std.proofs.lemmas.Bool.{and_parts, eq-eqb, eqb-true, ltb-true}
use Rattle.rv_isa.specs.declared.instruction.Instr.{Instr}
use Rattle.rv_mem.specs.declared.words.Seen.{Seen}
use Rattle.rv_mem.specs.declared.words.Seen.TheVariants.{Known as KnownWord, Untouched, Vacant}
use Rattle.rv_mem.specs.Part.{valued}
use Rattle.rv_mem.specs.Seen.{is_known, is_there}
use Rattle.rv_script.specs.declared.place.Place.TheVariants.{Word}
use Rattle.rv_script.specs.Bytes.{word_address}
use Rattle.rv_script.specs.Logs.{entry_place, same_place, value_or}
use Rattle.rv_script.specs.Script.{Label, Question.OfMemory}
use Rattle.rv_script.specs.Folds.{Answer, Answer.Does, Answer.Missing, Answer.Nowhere, Entry, Known, prefixed}
use Rattle.sv_walk.specs.declared.entry.Kind.{Kind}
use Rattle.sv_walk.specs.Entry.{access_cause, is_closed, is_invalid, is_pointer, is_reserved, is_unaligned, page_cause}
use Rattle.sv_walk.specs.declared.entry.View.{View}
use Rattle.sv_walk.specs.Translation.{At, Fails, Reached, arrived, is_in_ram, is_translated, root_address, root_label, second_address, second_end, second_label}
use Rattle.row_parts.specs.Classes.{entry_at, seen_at}
use Rattle.row_parts.specs.Rows.{End, Reaches, found, when}
use Rattle.addr_rows.specs.Combinations.{Setting, at_root, is_table, no, root_frame, rooted, ways}
use Rattle.addr_rows.specs.Laws.{Always, WalksAreWays}
use Rattle.addr_rows.specs.Walks.{Shows, Walks as EntryWalks, root_place, seen_by, value_of}
use Rattle.addr_rows.proofs.Playing.{access_fails, all_played, all_plays, entry, page_fails, pointer_played, root_played, root_question, rooted_played, second_done, second_place, second_question, seen_is}
use Rattle.addr_rows.proofs.Walking.{walk_words}
use Rattle.foot_map.specs.declared.touch.Touch.{Touch}
use Rattle.rv_hart.specs.Machine.{data_view}
use Rattle.leaf_link.specs.Cases.{is_some_word}
use Rattle.leaf_link.specs.Reaching.{Walks}
use Rattle.leaf_link.specs.Served.{EntriesAreLet, setting_of}
use Rattle.leaf_link.specs.Turns.{Turn, is_first_form, is_free, is_free_entry, may_start}
use Rattle.fetch_ways.specs.Ways.{is_free_walk, walk_at}
use Rattle.data_bytes.specs.declared.starts.DataAccess.{DataAccess}
use Rattle.data_bytes.specs.declared.starts.DataAccess.TheVariants.{Load, Store}
use Rattle.data_ways.specs.declared.way.DataEnd.{DataEnd}
use Rattle.data_ways.specs.declared.way.DataEnd.TheVariants as ends
use Rattle.data_ways.specs.Internal.Barring.{bars, bars_behind, bars_by_root, is_barred}
use Rattle.data_ways.specs.Ways.{is_off, keeps, kind_of, reached_by}

-- what translations of loads, or of stores, depend on at a turn
abbrev pub data_setting : Turn → DataAccess → Setting
data_setting t access = setting_of t (data_view t.fixed) (kind_of access)

-- PLAYED
pub entry_walks : (t : Turn) (access : DataAccess) (ea first second : ℕ) (log : List Entry) (end : Reached) → Walks t (kind_of access) ea first second log end
    → EntryWalks (data_setting t access) t.known (Always (may_start t)) ea first second log end
entry_walks t Load ea first second log end w = record { plays = w.plays; may_start = λ e i none. λ instr. w.may instr e i none; coherent = w.coherent; first_is = w.first_is; second_is = w.second_is }
entry_walks t Store ea first second log end w = record { plays = w.plays; may_start = λ e i none. λ instr. w.may instr e i none; coherent = w.coherent; first_is = w.first_is; second_is = w.second_is }

played : (at : ℕ → Seen) (t : Turn) (access : DataAccess) (ea first second : ℕ) (log : List Entry) (end : Reached) → Shows at t.fixed.ram t.known → EntriesAreLet → Walks t (kind_of access) ea first second log end
    → all_played (data_setting t access) t.known ea first second ≡ Does log end
played at t access ea first second log end shows entries w =
    let walk = entry_walks t access ea first second log end w in
    let small = walk_words (data_setting t access) t.known (Always (may_start t)) ea first second log end (entries t (data_view t.fixed) (kind_of access)) walk in
    sym (all_plays at (data_setting t access) t.known ea first second shows small.0 small.1) ∙ walk.plays

-- A NEW ROOT ENTRY IS ONE OF THE FORMS
let_in : (b c : Bool) (es : List End) (e : End) → when (b && c) es ≡ e ∷ [] → c ≡ true
let_in true true es e h = refl
let_in true false es e h = absurd (cc)
let_in false c es e h = absurd (cc)

root_form : (at : ℕ → Seen) (st : Setting) (x : ℕ) (s : Seen) (w : ℕ) (leaf : Option ℕ) (e : End) → at_root at st x s (Some w) leaf ≡ e ∷ [] → st.first w ≡ true
unfolding at_root
root_form at st x Vacant w leaf e h = absurd (cc)
root_form at st x (KnownWord v) w leaf e h = absurd (cc)
root_form at st x Untouched w leaf e h = let_in (is_table st.tables (root_frame st.view)) (st.first w) (rooted at st true w x leaf) e h

form_if : (at : ℕ → Seen) (st : Setting) (x w : ℕ) (leaf : Option ℕ) (e r : End) (b : Bool) → (if b then at_root at st x (entry_at at (root_frame st.view) (x / 2 ^ 22)) (Some w) leaf else found (no (Some w) && no leaf) r) ≡ e ∷ [] → st.first w ≡ true
form_if at st x w leaf e r true h = root_form at st x (entry_at at (root_frame st.view) (x / 2 ^ 22)) w leaf e h
form_if at st x w leaf e r false h = absurd (cc)

first_form : (at : ℕ → Seen) (st : Setting) (x w : ℕ) (leaf : Option ℕ) (e : End) → ways at st x (Some w) leaf ≡ e ∷ [] → st.first w ≡ true
unfolding ways
first_form at st x w leaf e h = form_if at st x w leaf e (Reaches (arrived st.ram st.kind x)) (is_translated st.view) h

pub root_is : (at : ℕ → Seen) (t : Turn) (access : DataAccess) (ea first second : ℕ) (log : List Entry) (end : Reached) → Shows at t.fixed.ram t.known → EntriesAreLet → WalksAreWays Instr → ea < 2 ^ 32
    → Walks t (kind_of access) ea first second log end → (first ≡ 0) ⊎ (is_first_form t first ≡ true)
root_is at t access ea first second log end shows entries walks small w =
    let way = walks at (data_setting t access) t.known (may_start t) ea first second log end shows (entries t (data_view t.fixed) (kind_of access)) small (entry_walks t access ea first second log end w) in
    go way.0 way.1 way.2 way.3
  where
    go : (root leaf : Option ℕ) → ways at (data_setting t access) ea root leaf ≡ Reaches end ∷ [] → first ≡ value_of root → (first ≡ 0) ⊎ (is_first_form t first ≡ true)
    go None leaf h is = inl is
    go (Some v) leaf h is = inr (subst (λ (n : ℕ). is_first_form t n ≡ true) (sym is) (first_form at (data_setting t access) ea v leaf (Reaches end) h))

-- WHERE A WALK LEADS IS A WORD
abbrev pub IsSmall : Reached → Type 0
IsSmall (At pa) = pa < 2 ^ 32
IsSmall (Fails cause) = Unit {0}

abbrev AnswersSmall : Answer Entry Reached → Type 0
AnswersSmall (Does log end) = IsSmall end
AnswersSmall (Missing place) = Unit {0}
AnswersSmall Nowhere = Unit {0}

small_if : (b : Bool) (r u : Answer Entry Reached) → AnswersSmall r → AnswersSmall u → AnswersSmall (if b then r else u)
small_if true r u h k = h
small_if false r u h k = k

small_after : (e : Entry) (r : Answer Entry Reached) → AnswersSmall r → AnswersSmall (prefixed (e ∷ []) r)
small_after e (Does log end) h = h
small_after e (Missing place) h = tt
small_after e Nowhere h = tt

arrived_small : (ram : ℕ → Bool) (kind : Kind) (addr : ℕ) → IsSmall (arrived ram kind addr)
arrived_small ram kind addr = go (is_in_ram ram addr) refl
  where
    go : (b : Bool) → is_in_ram ram addr ≡ b → IsSmall (if b then At addr else Fails (access_cause kind))
    go true h = ltb-true addr (2 ^ 32) (and_parts (nat_lt addr (2 ^ 32)) (ram (addr / 4)) h).0
    go false h = tt

second_small : (ram : ℕ → Bool) (v : View) (kind : Kind) (x w : ℕ) → IsSmall (second_end ram v kind x w)
unfolding second_end
second_small ram v kind x w = go (is_invalid w || (is_pointer w || is_closed v kind w))
  where
    go : (b : Bool) → IsSmall (if b then Fails (page_cause kind) else arrived ram kind (w / 2 ^ 10 * 2 ^ 12 + x % 2 ^ 12))
    go true = tt
    go false = arrived_small ram kind (w / 2 ^ 10 * 2 ^ 12 + x % 2 ^ 12)

rooted_small : (st : Setting) (known : Known) (x w second : ℕ) → AnswersSmall (rooted_played st known x w second)
rooted_small st known x w second =
    let v : ℕ = value_or (known (second_place x w)) second in
    let deep : Answer Entry Reached = pointer_played st known x w second in
    let there : Answer Entry Reached = Does [] (arrived st.ram st.kind (w / 2 ^ 20 * 2 ^ 22 + x % 2 ^ 22)) in
    let inner : Answer Entry Reached = if is_reserved w then Nowhere else deep in
    let last : Answer Entry Reached = if is_unaligned w || is_closed st.view st.kind w then page_fails st else there in
    small_if (is_invalid w) (page_fails st) (if is_pointer w then inner else last) tt
    (small_if (is_pointer w) inner last
    (small_if (is_reserved w) Nowhere deep tt (small_if (is_in_ram st.ram (second_address x w)) (second_done st x w v) (access_fails st) (second_small st.ram st.view st.kind x v) tt))
    (small_if (is_unaligned w || is_closed st.view st.kind w) (page_fails st) there tt (arrived_small st.ram st.kind (w / 2 ^ 20 * 2 ^ 22 + x % 2 ^ 22))))

all_small : (st : Setting) (known : Known) (x first second : ℕ) → AnswersSmall (all_played st known x first second)
all_small st known x first second =
    let v : ℕ = value_or (known (root_place st x)) first in
    small_if (is_translated st.view) (root_played st known x first second) (Does [] (arrived st.ram st.kind x))
    (small_if (is_in_ram st.ram (root_address st.view x)) (prefixed (entry (root_question st x) v ∷ []) (rooted_played st known x v second)) (access_fails st)
    (small_after (entry (root_question st x) v) (rooted_played st known x v second) (rooted_small st known x v second)) tt)
    (arrived_small st.ram st.kind x)

pub leads_small : (at : ℕ → Seen) (t : Turn) (access : DataAccess) (ea first second : ℕ) (log : List Entry) (end : Reached) → Shows at t.fixed.ram t.known → EntriesAreLet → Walks t (kind_of access) ea first second log end → IsSmall end
leads_small at t access ea first second log end shows entries w =
    subst (λ (r : Answer Entry Reached). AnswersSmall r) (played at t access ea first second log end shows entries w) (all_small (data_setting t access) t.known ea first second)

-- WHETHER IT KEEPS, ENTRY BY ENTRY
pub record Ground (at : ℕ → Seen) (feet : List Touch) (hart : ℕ) (t : Turn) : Type 0 where
  pub shows : Shows at t.fixed.ram t.known
  pub free : (addr : ℕ) → addr % 4 ≡ 0 → is_free t (walk_at addr) ≡ is_free_walk feet hart addr
  pub entries : EntriesAreLet

abbrev off_word : Turn → ℕ → Entry → Bool
off_word t p e = not (is_some_word (t.known (entry_place e))) || not (same_place (entry_place e) (Word (word_address p)))

abbrev entry_keeps : Turn → DataAccess → Reached → Entry → Bool
entry_keeps t Store (At p) e = is_free_entry t e && off_word t p e
entry_keeps t Store (Fails cause) e = is_free_entry t e
entry_keeps t Load end e = is_free_entry t e

both : (a b c d : Bool) → ((a && b) && (c && d)) ≡ ((a && c) && (b && d))
both true true c d = refl
both true false true d = refl
both true false false d = refl
both false b c d = refl

all_both : (t : Turn) (p : ℕ) (log : List Entry) → (list_all (is_free_entry t) log && is_off t log p) ≡ list_all (entry_keeps t Store (At p)) log
all_both t p [] = refl
all_both t p (e ∷ log) = both (is_free_entry t e) (list_all (is_free_entry t) log) (off_word t p e) (is_off t log p) ∙ ap (λ (b : Bool). (is_free_entry t e && off_word t p e) && b) (all_both t p log)

keeps_each : (t : Turn) (access : DataAccess) (log : List Entry) (end : Reached) → keeps t access log end ≡ list_all (entry_keeps t access end) log
keeps_each t Load log end = refl
keeps_each t Store log (At p) = all_both t p log
keeps_each t Store log (Fails cause) = refl

-- ENTRIES THAT BAR
same_word : (a b : ℕ) → nat_eq (word_address a) (word_address b) ≡ (a / 4 == b / 4)
same_word a b = go (nat_eq (word_address a) (word_address b)) (a / 4 == b / 4)
    (λ h. let e = eqb-true (word_address a) (word_address b) h in eq-eqb (a / 4) (b / 4) (omega (arith, e)))
    (λ h. let e = eqb-true (a / 4) (b / 4) h in eq-eqb (word_address a) (word_address b) (omega (arith, e)))
  where
    go : (p q : Bool) → (p ≡ true → q ≡ true) → (q ≡ true → p ≡ true) → p ≡ q
    go true q h k = sym (h refl)
    go false true h k = k refl
    go false false h k = refl

known_as : (o : Option ℕ) → is_known (valued o) ≡ is_some_word o
known_as None = refl
known_as (Some v) = refl

there_as : (o : Option ℕ) → is_there (valued o) ≡ true
there_as None = refl
there_as (Some v) = refl

one_free : (f : Bool) → f ≡ not ((true && not f) || false)
one_free true = refl
one_free false = refl

one_off : (f k s : Bool) → (f && (not k || not s)) ≡ not ((true && not f) || (k && s))
one_off true true s = refl
one_off true false s = refl
one_off false k s = refl

-- an entry that is read keeps where its word does not bar
entry_is : (at : ℕ → Seen) (feet : List Touch) (hart : ℕ) (t : Turn) (access : DataAccess) (end : DataEnd) (ea : ℕ) (label : Label) (addr v : ℕ) → Shows at t.fixed.ram t.known
    → is_free_entry t (entry (OfMemory label addr 4) v) ≡ is_free_walk feet hart addr → is_in_ram t.fixed.ram addr ≡ true
    → entry_keeps t access (reached_by end ea) (entry (OfMemory label addr 4) v) ≡ not (bars at feet hart access end ea addr)
entry_is at feet hart t access end ea label addr v shows free inside = go access end
  where
    o : Option ℕ
    o = t.known (Word (word_address addr))

    f : Bool
    f = is_free_walk feet hart addr

    seen : seen_at at addr ≡ valued o
    seen = seen_is at t.fixed.ram t.known addr shows ∙ ap (λ (b : Bool). seen_by b o) inside

    there : is_there (seen_at at addr) ≡ true
    there = ap is_there seen ∙ there_as o

    known : is_known (seen_at at addr) ≡ is_some_word o
    known = ap is_known seen ∙ known_as o

    alone : is_free_entry t (entry (OfMemory label addr 4) v) ≡ not ((is_there (seen_at at addr) && not f) || false)
    alone = free ∙ one_free f ∙ ap (λ (b : Bool). not ((b && not f) || false)) (sym there)

    go : (access : DataAccess) (end : DataEnd) → entry_keeps t access (reached_by end ea) (entry (OfMemory label addr 4) v) ≡ not (bars at feet hart access end ea addr)
    go Load end = alone
    go Store (ends.Fails cause) = alone
    go Store (ends.At base mask) =
        let p : ℕ = (base + bit_and ea mask) % 2 ^ 32 in
        let s : Bool = addr / 4 == p / 4 in
        ap (λ (b : Bool). b && (not (is_some_word o) || not (nat_eq (word_address addr) (word_address p)))) free
        ∙ ap (λ (b : Bool). f && (not (is_some_word o) || not b)) (same_word addr p)
        ∙ one_off f (is_some_word o) s
        ∙ ap (λ (b : Bool). not ((b && not f) || (is_some_word o && s))) (sym there)
        ∙ ap (λ (b : Bool). not ((is_there (seen_at at addr) && not f) || (b && s))) (sym known)

-- what is no word bars nothing
nothing_bars : (at : ℕ → Seen) (feet : List Touch) (hart : ℕ) (access : DataAccess) (end : DataEnd) (ea addr : ℕ) → seen_at at addr ≡ Vacant → bars at feet hart access end ea addr ≡ false
nothing_bars at feet hart access end ea addr h = go access end
  where
    f : Bool
    f = is_free_walk feet hart addr

    go : (access : DataAccess) (end : DataEnd) → bars at feet hart access end ea addr ≡ false
    go Load end = ap (λ (s : Seen). (is_there s && not f) || false) h
    go Store (ends.Fails cause) = ap (λ (s : Seen). (is_there s && not f) || false) h
    go Store (ends.At base mask) = ap (λ (s : Seen). (is_there s && not f) || (is_known s && (addr / 4 == (base + bit_and ea mask) % 2 ^ 32 / 4))) h

-- THE WHOLE WALK
abbrev IsJudged : Turn → DataAccess → Reached → Bool → Answer Entry Reached → Type 0
IsJudged t access end barred (Does log reached) = list_all (entry_keeps t access end) log ≡ not barred
IsJudged t access end barred (Missing place) = Unit {0}
IsJudged t access end barred Nowhere = Unit {0}

root_aligned : (s x : ℕ) → (s % 2 ^ 22 * 2 ^ 12 + x / 2 ^ 22 * 4) % 4 ≡ 0
root_aligned s x = omega arith

second_aligned : (x w : ℕ) → second_address x w % 4 ≡ 0
second_aligned x w = omega arith

free_root : (t : Turn) (access : DataAccess) (addr v : ℕ) → is_free_entry t (entry (OfMemory (root_label (kind_of access)) addr 4) v) ≡ is_free t (walk_at addr)
free_root t Load addr v = refl
free_root t Store addr v = refl

free_second : (t : Turn) (access : DataAccess) (addr v : ℕ) → is_free_entry t (entry (OfMemory (second_label (kind_of access)) addr 4) v) ≡ is_free t (walk_at addr)
free_second t Load addr v = refl
free_second t Store addr v = refl

one_entry : (k b : Bool) → k ≡ not b → (k && true) ≡ not (b || false)
one_entry true true h = absurd (cc)
one_entry true false h = refl
one_entry false true h = refl
one_entry false false h = absurd (cc)

two_entries : (k l b c : Bool) → k ≡ not b → l ≡ not c → (k && (l && true)) ≡ not (b || c)
two_entries true l true c h i = absurd (cc)
two_entries true true false c h i = i
two_entries true false false c h i = i
two_entries false l true c h i = refl
two_entries false l false c h i = absurd (cc)

-- behind a root entry
behind_judged : (at : ℕ → Seen) (feet : List Touch) (hart : ℕ) (t : Turn) (access : DataAccess) (end : DataEnd) (ea w second : ℕ) → Ground at feet hart t → is_in_ram t.fixed.ram (root_address (data_view t.fixed) ea) ≡ true
    → IsJudged t access (reached_by end ea) (bars at feet hart access end ea (root_address (data_view t.fixed) ea) || bars_behind at feet hart access end ea w)
    (prefixed (entry (root_question (data_setting t access) ea) w ∷ []) (rooted_played (data_setting t access) t.known ea w second))
behind_judged at feet hart t access end ea w second g inside = go (is_invalid w) (is_pointer w) (is_reserved w) (is_unaligned w || is_closed st.view st.kind w)
  where
    st : Setting
    st = data_setting t access

    reached : Reached
    reached = reached_by end ea

    root : ℕ
    root = root_address (data_view t.fixed) ea

    next : ℕ
    next = second_address ea w

    e : Entry
    e = entry (root_question st ea) w

    v : ℕ
    v = value_or (t.known (second_place ea w)) second

    b : Bool
    b = bars at feet hart access end ea root

    c : Bool
    c = bars at feet hart access end ea next

    first_is : entry_keeps t access reached e ≡ not b
    first_is = entry_is at feet hart t access end ea (root_label (kind_of access)) root w g.shows (free_root t access root w ∙ g.free root (root_aligned (data_view t.fixed).satp ea)) inside

    alone : (entry_keeps t access reached e && true) ≡ not (b || false)
    alone = one_entry (entry_keeps t access reached e) b first_is

    deep : (r : Bool) → is_in_ram st.ram next ≡ r → IsJudged t access reached (b || c) (prefixed (e ∷ []) (if r then second_done st ea w v else access_fails st))
    deep true k =
        two_entries (entry_keeps t access reached e) (entry_keeps t access reached (entry (second_question st ea w) v)) b c first_is
        (entry_is at feet hart t access end ea (second_label (kind_of access)) next v g.shows (free_second t access next v ∙ g.free next (second_aligned ea w)) k)
    deep false k =
        let vacant : seen_at at next ≡ Vacant = seen_is at t.fixed.ram t.known next g.shows ∙ ap (λ (r : Bool). seen_by r (t.known (second_place ea w))) k in
        alone ∙ ap (λ (x : Bool). not (b || x)) (sym (nothing_bars at feet hart access end ea next vacant))

    there : Answer Entry Reached
    there = Does [] (arrived st.ram st.kind (w / 2 ^ 20 * 2 ^ 22 + ea % 2 ^ 22))

    go : (invalid pointer reserved shut : Bool)
        → IsJudged t access reached (b || (not invalid && (pointer && c))) (prefixed (e ∷ []) (if invalid then page_fails st else if pointer then (if reserved then Nowhere else pointer_played st t.known ea w second) else if shut then page_fails st else there))
    go true pointer reserved shut = alone
    go false true true shut = tt
    go false true false shut = deep (is_in_ram st.ram next) refl
    go false false reserved true = alone
    go false false reserved false = alone

none_keeps : (t : Turn) (access : DataAccess) (end : Reached) → list_all (entry_keeps t access end) [] ≡ not false
none_keeps t access end = refl

all_judged : (at : ℕ → Seen) (feet : List Touch) (hart : ℕ) (t : Turn) (access : DataAccess) (end : DataEnd) (ea first second : ℕ) → Ground at feet hart t
    → IsJudged t access (reached_by end ea) (is_barred at feet hart (data_view t.fixed) access end ea first) (all_played (data_setting t access) t.known ea first second)
all_judged at feet hart t access end ea first second g = translating (is_translated (data_view t.fixed))
  where
    st : Setting
    st = data_setting t access

    reached : Reached
    reached = reached_by end ea

    root : ℕ
    root = root_address (data_view t.fixed) ea

    b : Bool
    b = bars at feet hart access end ea root

    seen : seen_at at root ≡ seen_by (is_in_ram t.fixed.ram root) (t.known (root_place st ea))
    seen = seen_is at t.fixed.ram t.known root g.shows

    none : b ≡ false → (true ≡ not (b || false))
    none h = ap (λ (x : Bool). not (x || false)) (sym h)

    go : (r : Bool) → is_in_ram t.fixed.ram root ≡ r → (o : Option ℕ) → seen_at at root ≡ seen_by r o
        → IsJudged t access reached (b || bars_by_root at feet hart access end ea (seen_by r o) first)
        (if r then prefixed (entry (root_question st ea) (value_or o first) ∷ []) (rooted_played st t.known ea (value_or o first) second) else access_fails st)
    go false inside o is = none (nothing_bars at feet hart access end ea root is)
    go true inside (Some v) is = behind_judged at feet hart t access end ea v second g inside
    go true inside None is = behind_judged at feet hart t access end ea first second g inside

    translating : (r : Bool) → IsJudged t access reached (if r then b || bars_by_root at feet hart access end ea (seen_at at root) first else false) (if r then root_played st t.known ea first second else Does [] (arrived st.ram st.kind ea))
    translating true =
        subst (λ (s : Seen). IsJudged t access reached (b || bars_by_root at feet hart access end ea s first) (root_played st t.known ea first second)) (sym seen)
        (go (is_in_ram t.fixed.ram root) refl (t.known (root_place st ea)) seen)
    translating false = none_keeps t access reached

-- a walk keeps where it is not barred
pub keeps_is : (at : ℕ → Seen) (feet : List Touch) (hart : ℕ) (t : Turn) (access : DataAccess) (end : DataEnd) (ea first second : ℕ) (log : List Entry) → Ground at feet hart t
    → Walks t (kind_of access) ea first second log (reached_by end ea) → keeps t access log (reached_by end ea) ≡ not (is_barred at feet hart (data_view t.fixed) access end ea first)
keeps_is at feet hart t access end ea first second log g w =
    keeps_each t access log (reached_by end ea)
    ∙ subst (λ (r : Answer Entry Reached). IsJudged t access (reached_by end ea) (is_barred at feet hart (data_view t.fixed) access end ea first) r) (played at t access ea first second log (reached_by end ea) g.shows g.entries w)
    (all_judged at feet hart t access end ea first second g)
