-- The walk of a fetch, and whether it keeps.
use Rattle.std.proofs.Common.{◌≡◌, ℕ, ◌+◌, ◌*◌, ◌/◌, ◌%◌, ◌^◌, ◌<◌, ◌⊎◌, if◌then◌else◌, Bool, true, false, not, ◌&&◌, ◌||◌, ◌==◌, List, [], ◌∷◌, Option, Some, None, refl, sym, ap, ◌∙◌, subst, inl, inr, arith}
use Rattle.std.specs.Prelude.{nat_eq, nat_lt}
use Rattle.std.proofs.lemmas.Bool.{and_parts, eq-eqb, eqb-true, ltb-true}
use Rattle.rv_isa.specs.declared.instruction.Instr.{Instr}
use Rattle.rv_isa.specs.declared.operation.Op.TheVariants.{Lw}
use Rattle.rv_mem.specs.declared.words.Seen.{Seen}
use Rattle.rv_mem.specs.declared.words.Seen.TheVariants.{Vacant}
use Rattle.rv_mem.specs.Frames.{in_frames}
use Rattle.rv_mem.specs.Part.{valued}
use Rattle.rv_mem.specs.Seen.{is_known}
use Rattle.rv_script.specs.declared.place.Place.TheVariants.{Word}
use Rattle.rv_script.specs.Bytes.{word_address}
use Rattle.rv_script.specs.Lists.{HasItem}
use Rattle.rv_script.specs.Labels.{label_number}
use Rattle.rv_script.specs.Logs.{answer_told, by_answers, entry_label, entry_place, if_new, labelled, new_value, or_else, or_given, value_or, where_unknown}
use Rattle.rv_script.specs.Script.{Label, Label.FetchRoot, Label.FetchSecond, Label.Fetched, Label.FromRs1, Label.FromRs2, Label.FromCsr, Label.DataRoot, Label.DataSecond, Label.DataWord, Label.FromVector}
use Rattle.rv_script.specs.Folds.{Answer, Answer.Does, Answer.Missing, Answer.Nowhere, Entry, Known, Teller, prefixed}
use Rattle.rv_script.proofs.Plays.{after_done, numbers_within, play_same, told}
use Rattle.sv_walk.specs.declared.entry.Kind.{Kind}
use Rattle.sv_walk.specs.declared.entry.Kind.TheVariants.{Fetch as ForFetch}
use Rattle.sv_walk.specs.declared.entry.View.{View}
use Rattle.sv_walk.specs.Entry.{access_cause, is_closed, is_invalid, is_pointer, is_reserved, is_unaligned, page_cause}
use Rattle.sv_walk.specs.Translation.{At, Fails, Reached, arrived, is_in_ram, is_translated, root_address, second_address, second_end}
use Rattle.sv_walk.proofs.Orders.{translated_between}
use Rattle.row_parts.specs.Classes.{seen_at}
use Rattle.addr_rows.specs.Combinations.{Setting}
use Rattle.addr_rows.specs.Walks.{Shows, entry_answers, root_place, seen_by}
use Rattle.addr_rows.proofs.Playing.{access_fails, all_played, all_plays, entry, page_fails, pointer_played, root_played, root_question, rooted_played, second_done, second_place, second_question, seen_is}
use Rattle.foot_map.specs.declared.touch.Touch.{Touch}
use Rattle.rv_hart.specs.Machine.{fetch_view}
use Rattle.leaf_link.specs.Cases.{is_some_word}
use Rattle.leaf_link.specs.FetchRows.{FetchWalks, entry_values}
use Rattle.leaf_link.specs.Fetches.{fetch_script}
use Rattle.leaf_link.specs.Served.{setting_of}
use Rattle.leaf_link.specs.Turns.{Turn, is_first_form, is_free, may_start, word_address_of}
use Rattle.leaf_link.specs.Values.{given_by}
use Rattle.fetch_ways.specs.declared.way.FetchEnd.{FetchEnd}
use Rattle.fetch_ways.specs.declared.way.FetchEnd.TheVariants as ends
use Rattle.fetch_ways.specs.Ways.{is_free_walk, keeps, reached_by, walk_at}
use Rattle.fetch_ways.specs.Internal.Keeping.{is_clear, keeps_behind, keeps_with, with_root, with_second}

-- what translations of fetches depend on at a turn
abbrev pub fetch_setting : Turn → Setting
fetch_setting t = setting_of t (fetch_view t.fixed) ForFetch

-- ANSWERS OF ENTRIES
-- the two tellers tell the same of the labels of a fetch
same_answer : (first second : ℕ) (l : Label) → label_number l < 2 → given_by (entry_values first second) l ≡ entry_answers first second l
same_answer first second FetchRoot h = refl
same_answer first second FetchSecond h = refl
same_answer first second Fetched h = absurd (omega (arith, h))
same_answer first second FromRs1 h = absurd (omega (arith, h))
same_answer first second FromRs2 h = absurd (omega (arith, h))
same_answer first second FromCsr h = absurd (omega (arith, h))
same_answer first second DataRoot h = absurd (omega (arith, h))
same_answer first second DataSecond h = absurd (omega (arith, h))
same_answer first second DataWord h = absurd (omega (arith, h))
same_answer first second FromVector h = absurd (omega (arith, h))

by_entries : (t : Turn) (first second : ℕ) (log : List Entry) (end : Reached) → answer_told (by_answers t.known (given_by (entry_values first second))) (fetch_script t) ≡ Does log end
    → answer_told (by_answers t.known (entry_answers first second)) (fetch_script t) ≡ Does log end
by_entries t first second log end h =
    let tell : Teller = by_answers t.known (given_by (entry_values first second)) in
    play_same (fetch_script t) tell (by_answers t.known (entry_answers first second)) log end h (λ e i.
    let early = (numbers_within 0 2 (fetch_script t) tell log end (translated_between 0 t.fixed.ram (fetch_view t.fixed) ForFetch t.fixed.pc refl refl) h e i).1 in
    ap (λ (v : ℕ). or_given (t.known (entry_place e)) v) (sym (same_answer first second (entry_label e) early)) ∙ told (fetch_script t) tell log end h e i)

-- NEW ENTRIES ARE WORDS
has_labelled : (log : List Entry) (l : Label) (e : Entry) → labelled log l ≡ Some e → HasItem log e
has_labelled [] l e h = absurd (cc)
has_labelled (f ∷ log) l e h = go (has_labelled log l e) (nat_eq (label_number (entry_label f)) (label_number l)) h
  where
    go : (labelled log l ≡ Some e → HasItem log e) → (b : Bool) → (if b then Some f else labelled log l) ≡ Some e → HasItem (f ∷ log) e
    go rest true g = let s : f ≡ e = cc in inl s
    go rest false g = inr (rest g)

-- any instruction, since entries are the same for all
abbrev some_instr : Instr
some_instr = record { op = Lw; rd = 0; rs1 = 0; rs2 = 0; imm = 0; csr = 0 }

abbrev MayStart : Turn → List Entry → Type 0
MayStart t log = (i : Instr) (e : Entry) → HasItem log e → t.known (entry_place e) ≡ None → may_start t i (entry_label e) (entry_place e) e.value ≡ true

new_word : (t : Turn) (log : List Entry) → MayStart t log → (o : Option Entry) → ((e : Entry) → o ≡ Some e → HasItem log e) → new_value t.known o < 2 ^ 32
new_word t log may None h = omega arith
new_word t log may (Some e) h = go (t.known (entry_place e)) (λ none. may some_instr e (h e refl) none)
  where
    go : (k : Option ℕ) → (k ≡ None → may_start t some_instr (entry_label e) (entry_place e) e.value ≡ true) → if_new k e.value < 2 ^ 32
    go (Some w) g = omega arith
    go None g = ltb-true e.value (2 ^ 32) (and_parts _ _ (g refl)).0

words_are : (t : Turn) (first second : ℕ) (log : List Entry) (end : Reached) → FetchWalks t first second log end → (first < 2 ^ 32) × (second < 2 ^ 32)
words_are t first second log end w = (
  subst (λ (n : ℕ). n < 2 ^ 32) (sym w.first_is) (new_word t log w.may (labelled log FetchRoot) (has_labelled log FetchRoot)),
  subst (λ (n : ℕ). n < 2 ^ 32) (sym w.second_is) (new_word t log w.may (labelled log FetchSecond) (has_labelled log FetchSecond)),
)

-- PLAYED
played : (at : ℕ → Seen) (t : Turn) (first second : ℕ) (log : List Entry) (end : Reached) → Shows at t.fixed.ram t.known → FetchWalks t first second log end → all_played (fetch_setting t) t.known t.fixed.pc first second ≡ Does log end
played at t first second log end shows w =
    let small = words_are t first second log end w in
    sym (all_plays at (fetch_setting t) t.known t.fixed.pc first second shows small.0 small.1) ∙ by_entries t first second log end w.plays

-- a new root entry is one of the forms
pub root_is : (at : ℕ → Seen) (t : Turn) (first second : ℕ) (log : List Entry) (end : Reached) → Shows at t.fixed.ram t.known → FetchWalks t first second log end → (first < 2 ^ 32) × ((first ≡ 0) ⊎ (is_first_form t first ≡ true))
root_is at t first second log end shows w = ((words_are t first second log end w).0, translating (is_translated st.view) (played at t first second log end shows w))
  where
    st : Setting
    st = fetch_setting t

    x : ℕ
    x = t.fixed.pc

    Is : Type 0
    Is = (first ≡ 0) ⊎ (is_first_form t first ≡ true)

    nothing : (e : Reached) → Does [] e ≡ Does log end → Is
    nothing e h = let g : log ≡ [] = cc in inl (w.first_is ∙ ap (λ (z : List Entry). new_value t.known (labelled z FetchRoot)) g)

    reading : (b : Bool) (o : Option ℕ) → t.known (root_place st x) ≡ o
        → (if b then prefixed (entry (root_question st x) (value_or o first) ∷ []) (rooted_played st t.known x (value_or o first) second) else access_fails st) ≡ Does log end → Is
    reading false o k h = nothing (Fails (access_cause ForFetch)) h
    reading true (Some v) k h =
        let d = after_done (entry (root_question st x) v) (rooted_played st t.known x v second) log end h in
        inl (w.first_is ∙ ap (λ (z : List Entry). new_value t.known (labelled z FetchRoot)) d.2 ∙ ap (λ (p : Option ℕ). if_new p v) k)
    reading true None k h =
        let e : Entry = entry (root_question st x) first in
        let d = after_done e (rooted_played st t.known x first second) log end h in
        let here : HasItem log e = subst (λ (z : List Entry). HasItem z e) (sym d.2) (inl refl) in
        inr (and_parts (in_frames t.tables (word_address_of (root_place st x))) (is_first_form t first) (and_parts (nat_lt first (2 ^ 32)) (in_frames t.tables (word_address_of (root_place st x)) && is_first_form t first) (w.may some_instr e here k)).1).1

    translating : (b : Bool) → (if b then root_played st t.known x first second else Does [] (arrived st.ram st.kind x)) ≡ Does log end → Is
    translating true h = reading (is_in_ram st.ram (root_address st.view x)) (t.known (root_place st x)) refl h
    translating false h = nothing (arrived st.ram st.kind x) h

-- WHERE A WALK LEADS IS IN RAM
abbrev pub IsInside : (ℕ → Bool) → Reached → Type 0
IsInside ram (At pa) = is_in_ram ram pa ≡ true
IsInside ram (Fails cause) = Unit {0}

abbrev AnswersInside : (ℕ → Bool) → Answer Entry Reached → Type 0
AnswersInside ram (Does log end) = IsInside ram end
AnswersInside ram (Missing place) = Unit {0}
AnswersInside ram Nowhere = Unit {0}

inside_if : (ram : ℕ → Bool) (b : Bool) (r u : Answer Entry Reached) → AnswersInside ram r → AnswersInside ram u → AnswersInside ram (if b then r else u)
inside_if ram true r u h k = h
inside_if ram false r u h k = k

inside_after : (ram : ℕ → Bool) (e : Entry) (r : Answer Entry Reached) → AnswersInside ram r → AnswersInside ram (prefixed (e ∷ []) r)
inside_after ram e (Does log end) h = h
inside_after ram e (Missing place) h = tt
inside_after ram e Nowhere h = tt

pub arrived_inside : (ram : ℕ → Bool) (kind : Kind) (addr : ℕ) → IsInside ram (arrived ram kind addr)
arrived_inside ram kind addr = go (is_in_ram ram addr) refl
  where
    go : (b : Bool) → is_in_ram ram addr ≡ b → IsInside ram (if b then At addr else Fails (access_cause kind))
    go true h = h
    go false h = tt

pub second_inside : (ram : ℕ → Bool) (v : View) (kind : Kind) (x w : ℕ) → IsInside ram (second_end ram v kind x w)
unfolding second_end
second_inside ram v kind x w = go (is_invalid w || (is_pointer w || is_closed v kind w))
  where
    go : (b : Bool) → IsInside ram (if b then Fails (page_cause kind) else arrived ram kind (w / 2 ^ 10 * 2 ^ 12 + x % 2 ^ 12))
    go true = tt
    go false = arrived_inside ram kind (w / 2 ^ 10 * 2 ^ 12 + x % 2 ^ 12)

rooted_inside : (st : Setting) (known : Known) (x w second : ℕ) → AnswersInside st.ram (rooted_played st known x w second)
rooted_inside st known x w second =
    let v : ℕ = value_or (known (second_place x w)) second in
    let deep : Answer Entry Reached = pointer_played st known x w second in
    let there : Answer Entry Reached = Does [] (arrived st.ram st.kind (w / 2 ^ 20 * 2 ^ 22 + x % 2 ^ 22)) in
    let inner : Answer Entry Reached = if is_reserved w then Nowhere else deep in
    let last : Answer Entry Reached = if is_unaligned w || is_closed st.view st.kind w then page_fails st else there in
    inside_if st.ram (is_invalid w) (page_fails st) (if is_pointer w then inner else last) tt
    (inside_if st.ram (is_pointer w) inner last
    (inside_if st.ram (is_reserved w) Nowhere deep tt (inside_if st.ram (is_in_ram st.ram (second_address x w)) (second_done st x w v) (access_fails st) (second_inside st.ram st.view st.kind x v) tt))
    (inside_if st.ram (is_unaligned w || is_closed st.view st.kind w) (page_fails st) there tt (arrived_inside st.ram st.kind (w / 2 ^ 20 * 2 ^ 22 + x % 2 ^ 22))))

all_inside : (st : Setting) (known : Known) (x first second : ℕ) → AnswersInside st.ram (all_played st known x first second)
all_inside st known x first second =
    let v : ℕ = value_or (known (root_place st x)) first in
    inside_if st.ram (is_translated st.view) (root_played st known x first second) (Does [] (arrived st.ram st.kind x))
    (inside_if st.ram (is_in_ram st.ram (root_address st.view x)) (prefixed (entry (root_question st x) v ∷ []) (rooted_played st known x v second)) (access_fails st)
    (inside_after st.ram (entry (root_question st x) v) (rooted_played st known x v second) (rooted_inside st known x v second)) tt)
    (arrived_inside st.ram st.kind x)

pub leads_inside : (at : ℕ → Seen) (t : Turn) (first second : ℕ) (log : List Entry) (end : Reached) → Shows at t.fixed.ram t.known → FetchWalks t first second log end → IsInside t.fixed.ram end
leads_inside at t first second log end shows w = subst (λ (r : Answer Entry Reached). AnswersInside t.fixed.ram r) (played at t first second log end shows w) (all_inside (fetch_setting t) t.known t.fixed.pc first second)

-- THE WORD WHERE A WALK LEADS
known_as : (o : Option ℕ) → is_known (valued o) ≡ is_some_word o
known_as None = refl
known_as (Some v) = refl

known_is : (at : ℕ → Seen) (ram : ℕ → Bool) (known : Known) (pa : ℕ) → Shows at ram known → is_in_ram ram pa ≡ true → is_known (at (pa / 4)) ≡ is_some_word (known (Word (word_address pa)))
known_is at ram known pa shows inside =
    let less : nat_lt pa (2 ^ 32) ≡ true = (and_parts (nat_lt pa (2 ^ 32)) (ram (pa / 4)) inside).0 in
    let o : Option ℕ = known (Word (word_address pa)) in
    ap is_known (sym (ap (λ (b : Bool). if b then at (pa / 4) else Vacant) less) ∙ seen_is at ram known pa shows ∙ ap (λ (b : Bool). seen_by b o) inside) ∙ known_as o

same_word : (a b : ℕ) → nat_eq (word_address a) (word_address b) ≡ (a / 4 == b / 4)
same_word a b = go (nat_eq (word_address a) (word_address b)) (a / 4 == b / 4)
    (λ h. let e = eqb-true (word_address a) (word_address b) h in eq-eqb (a / 4) (b / 4) (omega (arith, e)))
    (λ h. let e = eqb-true (a / 4) (b / 4) h in eq-eqb (word_address a) (word_address b) (omega (arith, e)))
  where
    go : (p q : Bool) → (p ≡ true → q ≡ true) → (q ≡ true → p ≡ true) → p ≡ q
    go true q h k = sym (h refl)
    go false true h k = k refl
    go false false h k = refl

is_told : (k o : Option ℕ) → is_some_word (or_else k (where_unknown k o)) ≡ (is_some_word k || is_some_word o)
is_told (Some v) o = refl
is_told None o = refl

pick_one : (b : Bool) (v : ℕ) → is_some_word (if b then Some v else None) ≡ (b || false)
pick_one true v = refl
pick_one false v = refl

pick_two : (b c : Bool) (v w : ℕ) → is_some_word (if b then Some v else (if c then Some w else None)) ≡ (b || (c || false))
pick_two true c v w = refl
pick_two false true v w = refl
pick_two false false v w = refl

-- WHETHER IT KEEPS
abbrev IsJudged : Turn → FetchEnd → Bool → Answer Entry Reached → Type 0
IsJudged t end b (Does log reached) = keeps t log (reached_by end) ≡ b
IsJudged t end b (Missing place) = Unit {0}
IsJudged t end b Nowhere = Unit {0}

record Ground (at : ℕ → Seen) (feet : List Touch) (hart : ℕ) (t : Turn) (end : FetchEnd) : Type 0 where
  shows : Shows at t.fixed.ram t.known
  free : (addr : ℕ) → addr % 4 ≡ 0 → is_free t (walk_at addr) ≡ is_free_walk feet hart addr
  inside : IsInside t.fixed.ram (reached_by end)

none_keeps : (t : Turn) (end : FetchEnd) → keeps t [] (reached_by end) ≡ true
none_keeps t (ends.At pa) = refl
none_keeps t (ends.Fails cause) = refl

one_at : (f n x : Bool) → ((f && true) && ((not n || not x) && true)) ≡ (f && (not n || not x))
one_at true true true = refl
one_at true true false = refl
one_at true false x = refl
one_at false n x = refl

one_fails : (f n : Bool) → (f && true) ≡ (f && (not n || true))
one_fails true true = refl
one_fails true false = refl
one_fails false n = refl

two_at : (f g n m x : Bool) → ((f && (g && true)) && ((not n || not x) && ((not m || not x) && true))) ≡ (f && (g && (if m then not x else (not n || not x))))
two_at false g n m x = refl
two_at true false n m x = refl
two_at true true true true true = refl
two_at true true true true false = refl
two_at true true true false true = refl
two_at true true true false false = refl
two_at true true false true true = refl
two_at true true false true false = refl
two_at true true false false x = refl

two_fails : (f g n m : Bool) → (f && (g && true)) ≡ (f && (g && (if m then true else (not n || true))))
two_fails false g n m = refl
two_fails true false n m = refl
two_fails true true n true = refl
two_fails true true true false = refl
two_fails true true false false = refl

root_aligned : (s x : ℕ) → (s % 2 ^ 22 * 2 ^ 12 + x / 2 ^ 22 * 4) % 4 ≡ 0
root_aligned s x = omega arith

second_aligned : (x w : ℕ) → second_address x w % 4 ≡ 0
second_aligned x w = omega arith

-- a walk that read the root entry alone
one_keeps : (at : ℕ → Seen) (feet : List Touch) (hart : ℕ) (t : Turn) (end : FetchEnd) → Ground at feet hart t end → (v : ℕ) (new : Bool) → is_some_word (t.known (root_place (fetch_setting t) t.fixed.pc)) ≡ not new
    → keeps t (entry (root_question (fetch_setting t) t.fixed.pc) v ∷ []) (reached_by end) ≡ (is_free_walk feet hart (root_address (fetch_view t.fixed) t.fixed.pc) && (not new || is_clear at (root_address (fetch_view t.fixed) t.fixed.pc ∷ []) end))
one_keeps at feet hart t (ends.Fails cause) g v new k =
    let root : ℕ = root_address (fetch_view t.fixed) t.fixed.pc in
    ap (λ (b : Bool). b && true) (g.free root (root_aligned (fetch_view t.fixed).satp t.fixed.pc)) ∙ one_fails (is_free_walk feet hart root) new
one_keeps at feet hart t (ends.At pa) g v new k =
    let root : ℕ = root_address (fetch_view t.fixed) t.fixed.pc in
    let o : Option ℕ = t.known (Word (word_address pa)) in
    let found : Option ℕ = if nat_eq (word_address root) (word_address pa) then Some v else None in
    let there : Bool = is_some_word (t.known (Word (word_address root))) in
    let f : Bool = is_free_walk feet hart root in
    let met : is_some_word (or_else o (where_unknown o found)) ≡ (is_known (at (pa / 4)) || ((root / 4 == pa / 4) || false)) =
    is_told o found ∙ ap (λ (b : Bool). is_some_word o || b) (pick_one (nat_eq (word_address root) (word_address pa)) v ∙ ap (λ (b : Bool). b || false) (same_word root pa))
    ∙ ap (λ (b : Bool). b || ((root / 4 == pa / 4) || false)) (sym (known_is at t.fixed.ram t.known pa g.shows g.inside)) in
    ap (λ (b : Bool). (b && true) && ((there || not (is_some_word (or_else o (where_unknown o found)))) && true)) (g.free root (root_aligned (fetch_view t.fixed).satp t.fixed.pc))
    ∙ ap (λ (b : Bool). (f && true) && ((b || not (is_some_word (or_else o (where_unknown o found)))) && true)) k
    ∙ ap (λ (b : Bool). (f && true) && ((not new || not b) && true)) met
    ∙ one_at f new (is_known (at (pa / 4)) || ((root / 4 == pa / 4) || false))

-- and one that read both
two_keep : (at : ℕ → Seen) (feet : List Touch) (hart : ℕ) (t : Turn) (end : FetchEnd) → Ground at feet hart t end → (w v : ℕ) (new more : Bool) → is_some_word (t.known (root_place (fetch_setting t) t.fixed.pc)) ≡ not new → is_some_word (t.known (second_place t.fixed.pc w)) ≡ not more
    → keeps t (entry (root_question (fetch_setting t) t.fixed.pc) w ∷ entry (second_question (fetch_setting t) t.fixed.pc w) v ∷ []) (reached_by end)
    ≡ (is_free_walk feet hart (root_address (fetch_view t.fixed) t.fixed.pc)
    && (is_free_walk feet hart (second_address t.fixed.pc w)
    && (if more then is_clear at (root_address (fetch_view t.fixed) t.fixed.pc ∷ second_address t.fixed.pc w ∷ []) end else (not new || is_clear at (root_address (fetch_view t.fixed) t.fixed.pc ∷ second_address t.fixed.pc w ∷ []) end))))
two_keep at feet hart t (ends.Fails cause) g w v new more k l =
    let root : ℕ = root_address (fetch_view t.fixed) t.fixed.pc in
    let second : ℕ = second_address t.fixed.pc w in
    ap (λ (b : Bool). b && (is_free t (walk_at second) && true)) (g.free root (root_aligned (fetch_view t.fixed).satp t.fixed.pc))
    ∙ ap (λ (b : Bool). is_free_walk feet hart root && (b && true)) (g.free second (second_aligned t.fixed.pc w))
    ∙ two_fails (is_free_walk feet hart root) (is_free_walk feet hart second) new more
two_keep at feet hart t (ends.At pa) g w v new more k l =
    let root : ℕ = root_address (fetch_view t.fixed) t.fixed.pc in
    let second : ℕ = second_address t.fixed.pc w in
    let o : Option ℕ = t.known (Word (word_address pa)) in
    let found : Option ℕ = if nat_eq (word_address root) (word_address pa) then Some w else (if nat_eq (word_address second) (word_address pa) then Some v else None) in
    let met_word : Bool = is_some_word (or_else o (where_unknown o found)) in
    let one : Bool = is_some_word (t.known (Word (word_address root))) in
    let two : Bool = is_some_word (t.known (Word (word_address second))) in
    let f : Bool = is_free_walk feet hart root in
    let h : Bool = is_free_walk feet hart second in
    let words : Bool = (root / 4 == pa / 4) || ((second / 4 == pa / 4) || false) in
    let met : met_word ≡ (is_known (at (pa / 4)) || words) =
    is_told o found
    ∙ ap (λ (b : Bool). is_some_word o || b) (pick_two (nat_eq (word_address root) (word_address pa)) (nat_eq (word_address second) (word_address pa)) w v
    ∙ ap (λ (b : Bool). b || (nat_eq (word_address second) (word_address pa) || false)) (same_word root pa) ∙ ap (λ (b : Bool). (root / 4 == pa / 4) || (b || false)) (same_word second pa))
    ∙ ap (λ (b : Bool). b || words) (sym (known_is at t.fixed.ram t.known pa g.shows g.inside)) in
    ap (λ (b : Bool). (b && (is_free t (walk_at second) && true)) && ((one || not met_word) && ((two || not met_word) && true))) (g.free root (root_aligned (fetch_view t.fixed).satp t.fixed.pc))
    ∙ ap (λ (b : Bool). (f && (b && true)) && ((one || not met_word) && ((two || not met_word) && true))) (g.free second (second_aligned t.fixed.pc w))
    ∙ ap (λ (b : Bool). (f && (h && true)) && ((b || not met_word) && ((two || not met_word) && true))) k
    ∙ ap (λ (b : Bool). (f && (h && true)) && ((not new || not met_word) && ((b || not met_word) && true))) l
    ∙ ap (λ (b : Bool). (f && (h && true)) && ((not new || not b) && ((not more || not b) && true))) met
    ∙ two_at f h new more (is_known (at (pa / 4)) || words)

judged_if : (t : Turn) (end : FetchEnd) (f b p q : Bool) (e : Entry) (r u : Answer Entry Reached) → IsJudged t end (f && p) (prefixed (e ∷ []) r) → IsJudged t end (f && q) (prefixed (e ∷ []) u)
    → IsJudged t end (f && (if b then p else q)) (prefixed (e ∷ []) (if b then r else u))
judged_if t end f true p q e r u h k = h
judged_if t end f false p q e r u h k = k

judged_both : (t : Turn) (end : FetchEnd) (b p : Bool) (e : Entry) (r u : Answer Entry Reached) → IsJudged t end p (prefixed (e ∷ []) r) → IsJudged t end p (prefixed (e ∷ []) u) → IsJudged t end p (prefixed (e ∷ []) (if b then r else u))
judged_both t end true p e r u h k = h
judged_both t end false p e r u h k = k

-- behind a root entry
behind_judged : (at : ℕ → Seen) (feet : List Touch) (hart : ℕ) (t : Turn) (end : FetchEnd) → Ground at feet hart t end → (w second : ℕ) (new : Bool) → is_some_word (t.known (root_place (fetch_setting t) t.fixed.pc)) ≡ not new
    → IsJudged t end (is_free_walk feet hart (root_address (fetch_view t.fixed) t.fixed.pc) && keeps_behind at feet hart t.fixed.pc (root_address (fetch_view t.fixed) t.fixed.pc) w new end)
    (prefixed (entry (root_question (fetch_setting t) t.fixed.pc) w ∷ []) (rooted_played (fetch_setting t) t.known t.fixed.pc w second))
behind_judged at feet hart t end g w second new k =
    judged_if t end f (is_invalid w) near (if is_pointer w then deep else near) e (page_fails st) (if is_pointer w then inner else last) alone
    (judged_if t end f (is_pointer w) deep near e inner last
    (judged_both t end (is_reserved w) (f && deep) e Nowhere (pointer_played st t.known x w second) tt
    (subst (λ (s : Seen). IsJudged t end (f && with_second s new clear h far) (prefixed (e ∷ []) (pointer_played st t.known x w second))) (sym (seen_is at t.fixed.ram t.known (second_address x w) g.shows)) (go (is_in_ram t.fixed.ram (second_address x w)) (t.known (second_place x w)) refl)))
    (judged_both t end (is_unaligned w || is_closed st.view st.kind w) (f && near) e (page_fails st) (Does [] (arrived st.ram st.kind (w / 2 ^ 20 * 2 ^ 22 + x % 2 ^ 22))) alone alone))
  where
    st : Setting
    st = fetch_setting t

    x : ℕ
    x = t.fixed.pc

    root : ℕ
    root = root_address (fetch_view t.fixed) t.fixed.pc

    e : Entry
    e = entry (root_question st x) w

    f : Bool
    f = is_free_walk feet hart root

    h : Bool
    h = is_free_walk feet hart (second_address x w)

    clear : Bool
    clear = is_clear at (root ∷ []) end

    near : Bool
    near = not new || clear

    far : Bool
    far = is_clear at (root ∷ second_address x w ∷ []) end

    deep : Bool
    deep = with_second (seen_at at (second_address x w)) new clear h far

    inner : Answer Entry Reached
    inner = if is_reserved w then Nowhere else pointer_played st t.known x w second

    last : Answer Entry Reached
    last = if is_unaligned w || is_closed st.view st.kind w then page_fails st else Does [] (arrived st.ram st.kind (w / 2 ^ 20 * 2 ^ 22 + x % 2 ^ 22))

    alone : keeps t (e ∷ []) (reached_by end) ≡ (f && near)
    alone = one_keeps at feet hart t end g w new k

    go : (b : Bool) (o : Option ℕ) → t.known (second_place x w) ≡ o → IsJudged t end (f && with_second (seen_by b o) new clear h far) (prefixed (e ∷ []) (if b then second_done st x w (value_or o second) else access_fails st))
    go false o l = alone
    go true (Some v) l = two_keep at feet hart t end g w v new false k (ap is_some_word l)
    go true None l = two_keep at feet hart t end g w second new true k (ap is_some_word l)

-- the whole walk
all_judged : (at : ℕ → Seen) (feet : List Touch) (hart : ℕ) (t : Turn) (end : FetchEnd) → Ground at feet hart t end → (first second : ℕ)
    → IsJudged t end (keeps_with at feet hart (fetch_view t.fixed) t.fixed.pc first end) (all_played (fetch_setting t) t.known t.fixed.pc first second)
all_judged at feet hart t end g first second = translating (is_translated (fetch_view t.fixed))
  where
    st : Setting
    st = fetch_setting t

    x : ℕ
    x = t.fixed.pc

    root : ℕ
    root = root_address (fetch_view t.fixed) t.fixed.pc

    go : (b : Bool) (o : Option ℕ) → t.known (root_place st x) ≡ o
        → IsJudged t end (with_root at feet hart x root (seen_by b o) first end) (if b then prefixed (entry (root_question st x) (value_or o first) ∷ []) (rooted_played st t.known x (value_or o first) second) else access_fails st)
    go false o k = none_keeps t end
    go true (Some v) k = behind_judged at feet hart t end g v second false (ap is_some_word k)
    go true None k = behind_judged at feet hart t end g first second true (ap is_some_word k)

    translating : (b : Bool) → IsJudged t end (if b then with_root at feet hart x root (seen_at at root) first end else true) (if b then root_played st t.known x first second else Does [] (arrived st.ram st.kind x))
    translating true = subst (λ (s : Seen). IsJudged t end (with_root at feet hart x root s first end) (root_played st t.known x first second)) (sym (seen_is at t.fixed.ram t.known root g.shows)) (go (is_in_ram t.fixed.ram root) (t.known (root_place st x)) refl)
    translating false = none_keeps t end

-- what is tested of a walk is whether it keeps
pub keeps_is : (at : ℕ → Seen) (feet : List Touch) (hart : ℕ) (t : Turn) (end : FetchEnd) (first second : ℕ) (log : List Entry) → Shows at t.fixed.ram t.known → ((addr : ℕ) → addr % 4 ≡ 0 → is_free t (walk_at addr) ≡ is_free_walk feet hart addr)
    → FetchWalks t first second log (reached_by end) → keeps t log (reached_by end) ≡ keeps_with at feet hart (fetch_view t.fixed) t.fixed.pc first end
keeps_is at feet hart t end first second log shows free w =
    subst (λ (r : Answer Entry Reached). IsJudged t end (keeps_with at feet hart (fetch_view t.fixed) t.fixed.pc first end) r) (played at t first second log (reached_by end) shows w)
    (all_judged at feet hart t end (record { shows = shows; free = free; inside = leads_inside at t first second log (reached_by end) shows w }) first second)
