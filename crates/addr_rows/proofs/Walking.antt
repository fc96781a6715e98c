-- What the definition gives is what the script does, and nothing else is.
use Rattle.std.proofs.Common.{◌≡◌, ◌==◌, ℕ, ◌+◌, ◌*◌, ◌/◌, ◌%◌, ◌^◌, ◌<◌, if◌then◌else◌, nat_lt, nat_eq, Bool, true, false, not, ◌&&◌, ◌||◌, List, [], ◌∷◌, Option, Some, None, refl, sym, ap, ◌∙◌, subst, inl, inr, arith}
use Rattle.std.specs.List.{list_any}
use Rattle.std.proofs.lemmas.Bool.{eq-eqb, eqb-true, ltb-true, lt-ltb}
use Rattle.rv_mem.specs.declared.words.Seen.{Seen}
use Rattle.rv_script.specs.declared.place.Place.{Place}
use Rattle.rv_script.specs.declared.place.Place.TheVariants.{Word}
use Rattle.rv_script.specs.Bytes.{word_address}
use Rattle.rv_script.specs.Lists.{HasItem}
use Rattle.rv_script.specs.Script.{Label, Label.FetchRoot, Label.FetchSecond, Label.Fetched, Label.FromRs1, Label.FromRs2, Label.FromCsr, Label.DataRoot, Label.DataSecond, Label.DataWord, Label.FromVector}
use Rattle.rv_script.specs.Folds.{Known, Answer, Answer.Does, Answer.Missing, Answer.Nowhere, prefixed, Entry}
use Rattle.sv_walk.specs.declared.entry.Kind.{Kind}
use Rattle.sv_walk.specs.declared.entry.Kind.TheVariants.{Fetch, Load, Store}
use Rattle.sv_walk.specs.Entry.{access_cause, is_closed, is_invalid, is_pointer, is_reserved, is_unaligned, page_cause, page_number}
use Rattle.sv_walk.specs.Translation.{Reached, Fails, arrived, is_in_ram, is_translated, translated, root_address, root_label, second_address, second_end, second_label}
use Rattle.row_parts.specs.Classes.{seen_at}
use Rattle.row_parts.specs.Rows.{End, Reaches, Leaves, when, found}
use Rattle.addr_rows.specs.Combinations.{Setting, is_table, is_own_entry, root_frame, no, second_reaches, at_second, pointed, rooted, at_root, ways}
use Rattle.row_parts.specs.Gaps.{are_indices_equal}
use Rattle.rv_script.specs.Labels.{label_number}
use Rattle.rv_script.specs.Logs.{is_word, answer_told, by_answers, entry_place, entry_label, labelled, value_or, new_value, if_new}
use Rattle.rv_mem.specs.Frames.{in_frames}
use Rattle.addr_rows.specs.Walks.{entry_answers, may_be_root, may_be_second, LetsEntries, AreWordForms, seen_by, Shows, Walks, value_of, root_place}
use Rattle.addr_rows.proofs.Playing.{entry, root_question, second_question, second_place, access_fails, second_done, pointer_played, rooted_played, root_played, all_played, all_plays, seen_is}

-- LABELS

label_at : ℕ → Label
label_at n =
    if nat_eq n 0 then FetchRoot else if nat_eq n 1 then FetchSecond else if nat_eq n 2 then Fetched else if nat_eq n 3 then FromRs1
    else if nat_eq n 4 then FromRs2 else if nat_eq n 5 then FromCsr else if nat_eq n 6 then DataRoot else if nat_eq n 7 then DataSecond
    else if nat_eq n 8 then DataWord else FromVector

label_back : (l : Label) → label_at (label_number l) ≡ l
unfolding label_at
label_back FetchRoot = refl
label_back FetchSecond = refl
label_back Fetched = refl
label_back FromRs1 = refl
label_back FromRs2 = refl
label_back FromCsr = refl
label_back DataRoot = refl
label_back DataSecond = refl
label_back DataWord = refl
label_back FromVector = refl

label_is : (l m : Label) → nat_eq (label_number l) (label_number m) ≡ true → l ≡ m
label_is l m h = sym (label_back l) ∙ ap label_at (eqb-true (label_number l) (label_number m) h) ∙ label_back m

root_self : (k : Kind) → nat_eq (label_number (root_label k)) (label_number (root_label k)) ≡ true
root_self k = eq-eqb (label_number (root_label k)) (label_number (root_label k)) refl

second_self : (k : Kind) → nat_eq (label_number (second_label k)) (label_number (second_label k)) ≡ true
second_self k = eq-eqb (label_number (second_label k)) (label_number (second_label k)) refl

labels_apart : (k : Kind) → nat_eq (label_number (root_label k)) (label_number (second_label k)) ≡ false
labels_apart Fetch = refl
labels_apart Load = refl
labels_apart Store = refl

not_same : (k : Kind) → root_label k ≡ second_label k → ⊥
not_same k h = absurd (let g : nat_eq (label_number (root_label k)) (label_number (second_label k)) ≡ true = subst (λ (l : Label). nat_eq (label_number (root_label k)) (label_number l) ≡ true) h (root_self k) in let f : nat_eq (label_number (root_label k)) (label_number (second_label k)) ≡ false = labels_apart k in cc)

-- the answer to the question with a label stands in the log
has_labelled : (log : List Entry) (l : Label) (e : Entry) → labelled log l ≡ Some e → HasItem log e × (entry_label e ≡ l)
has_labelled [] l e h = absurd (cc)
has_labelled (f ∷ log) l e h = go (has_labelled log l e) (nat_eq (label_number (entry_label f)) (label_number l)) (label_is (entry_label f) l) h
  where
    go : (labelled log l ≡ Some e → HasItem log e × (entry_label e ≡ l)) → (b : Bool) → (b ≡ true → entry_label f ≡ l) → (if b then Some f else labelled log l) ≡ Some e → HasItem (f ∷ log) e × (entry_label e ≡ l)
    go rest true is g = let s : f ≡ e = cc in (inl s, subst (λ (z : Entry). entry_label z ≡ l) s (is refl))
    go rest false is g = let r = rest g in (inr r.0, r.1)

new_small : (known : Known) (o : Option Entry) → ((e : Entry) → o ≡ Some e → known (entry_place e) ≡ None → e.value < 2 ^ 32) → new_value known o < 2 ^ 32
new_small known None h = omega arith
new_small known (Some e) h = go (known (entry_place e)) (h e refl)
  where
    go : (k : Option ℕ) → (k ≡ None → e.value < 2 ^ 32) → if_new k e.value < 2 ^ 32
    go (Some w) g = omega arith
    go None g = g refl

pub root_labelled : (st : Setting) (x v : ℕ) (rest : List Entry) → labelled (entry (root_question st x) v ∷ rest) (root_label st.kind) ≡ Some (entry (root_question st x) v)
root_labelled st x v rest = ap (λ (b : Bool). if b then Some (entry (root_question st x) v) else labelled rest (root_label st.kind)) (root_self st.kind)

pub root_skipped : (st : Setting) (x v : ℕ) (rest : List Entry) → labelled (entry (root_question st x) v ∷ rest) (second_label st.kind) ≡ labelled rest (second_label st.kind)
root_skipped st x v rest = ap (λ (b : Bool). if b then Some (entry (root_question st x) v) else labelled rest (second_label st.kind)) (labels_apart st.kind)

pub second_labelled : (st : Setting) (x w v : ℕ) → labelled (entry (second_question st x w) v ∷ []) (second_label st.kind) ≡ Some (entry (second_question st x w) v)
second_labelled st x w v = ap (λ (b : Bool). if b then Some (entry (second_question st x w) v) else None) (second_self st.kind)

-- FRAMES AND PLACES

frame_is : (f j : ℕ) → j < 1024 → word_address (f * 4096 + j * 4) / 4096 ≡ f
frame_is f j small = omega (arith, small)

eq_turned : (a b : ℕ) → nat_eq a b ≡ (b == a)
eq_turned a b = go (nat_eq a b) (b == a) (λ h. eq-eqb b a (sym (eqb-true a b h))) (λ h. eq-eqb a b (sym (eqb-true b a h)))
  where
    go : (p q : Bool) → (p ≡ true → q ≡ true) → (q ≡ true → p ≡ true) → p ≡ q
    go true q h k = sym (h refl)
    go false true h k = k refl
    go false false h k = refl

any_turned : (ts : List ℕ) (f : ℕ) → list_any (λ t. nat_eq f (t / 4096)) ts ≡ list_any (λ t. t / 4096 == f) ts
any_turned [] f = refl
any_turned (t ∷ ts) f = ap (λ (b : Bool). b || list_any (λ u. nat_eq f (u / 4096)) ts) (eq_turned f (t / 4096)) ∙ ap (λ (b : Bool). (t / 4096 == f) || b) (any_turned ts f)

pub frames_are : (ts : List ℕ) (f j : ℕ) → j < 1024 → in_frames ts (word_address (f * 4096 + j * 4)) ≡ is_table ts f
frames_are ts f j small = ap (λ (n : ℕ). list_any (λ t. nat_eq n (t / 4096)) ts) (frame_is f j small) ∙ any_turned ts f

index_small : (x : ℕ) → x / 2 ^ 12 % 2 ^ 10 < 1024
index_small x = omega arith

pub top_small : (x : ℕ) → x < 2 ^ 32 → x / 2 ^ 22 < 1024
top_small x small = omega (arith, small)

index_is : (f g i j : ℕ) → i < 1024 → j < 1024 → word_address (f * 4096 + i * 4) ≡ word_address (g * 4096 + j * 4) → (f ≡ g) × (j ≡ i)
index_is f g i j a b h = (omega (arith, a, b, h), omega (arith, a, b, h))

word_is : (a b : ℕ) → Word a ≡ Word b → a ≡ b
word_is a b h = cc

-- two equal places are those of equal indices in one frame
own_by_place : (st : Setting) (x w : ℕ) → x < 2 ^ 32 → second_place x w ≡ root_place st x → is_own_entry st true (page_number w) x ≡ true
own_by_place st x w small h =
    let r = index_is (page_number w) (root_frame st.view) (x / 2 ^ 12 % 2 ^ 10) (x / 2 ^ 22) (index_small x) (top_small x small) (word_is (word_address (second_address x w)) (word_address (root_address st.view x)) h) in
    both (page_number w == root_frame st.view) (are_indices_equal x) (eq-eqb (page_number w) (root_frame st.view) r.0) (eq-eqb (x / 2 ^ 22) (x / 2 ^ 12 % 2 ^ 10) r.1)
  where
    both : (a b : Bool) → a ≡ true → b ≡ true → (a && b) ≡ true
    both true b h k = k
    both false b h k = absurd (cc)

place_by_own : (st : Setting) (x w : ℕ) → is_own_entry st true (page_number w) x ≡ true → second_place x w ≡ root_place st x
place_by_own st x w h =
    let p = parts (page_number w == root_frame st.view) (are_indices_equal x) h in
    let f : page_number w ≡ root_frame st.view = eqb-true (page_number w) (root_frame st.view) p.0 in
    let i : x / 2 ^ 22 ≡ x / 2 ^ 12 % 2 ^ 10 = eqb-true (x / 2 ^ 22) (x / 2 ^ 12 % 2 ^ 10) p.1 in
    ap (λ (n : ℕ). Word (word_address (n * 2 ^ 12 + x / 2 ^ 12 % 2 ^ 10 * 4))) f ∙ ap (λ (n : ℕ). Word (word_address (root_frame st.view * 2 ^ 12 + n * 4))) (sym i)
  where
    parts : (a b : Bool) → (a && b) ≡ true → (a ≡ true) × (b ≡ true)
    parts true true h = (refl, refl)
    parts true false h = absurd (cc)
    parts false b h = absurd (cc)

pub both_true : (a b : Bool) → (a && b) ≡ true → (a ≡ true) × (b ≡ true)
both_true true true h = (refl, refl)
both_true true false h = absurd (cc)
both_true false b h = absurd (cc)

pub true_both : (a b : Bool) → a ≡ true → b ≡ true → (a && b) ≡ true
true_both true b h k = k
true_both false b h k = absurd (cc)

by_not : (b : Bool) → (b ≡ true → ⊥) → not b ≡ true
by_not true h = absurd (h refl)
by_not false h = refl

not_true : (b : Bool) → not b ≡ true → b ≡ true → ⊥
not_true true h k = absurd (cc)
not_true false h k = absurd (cc)

-- ---- FROM THE SCRIPT

abbrev HasLeaf : (Option ℕ → List End) → ℕ → Reached → Type 0
HasLeaf f second end = (leaf : Option ℕ) × (f leaf ≡ Reaches end ∷ []) × (second ≡ value_of leaf)

-- nothing more was asked
nothing_asked : (known : Known) (l : Label) (e end : Reached) (rest : List Entry) (second : ℕ) → Does [] e ≡ Does rest end → second ≡ new_value known (labelled rest l) → (e ≡ end) × (second ≡ 0)
nothing_asked known l e end rest second h given = (cc, let g : rest ≡ [] = cc in given ∙ ap (λ (z : List Entry). new_value known (labelled z l)) g)

pointer_to : (at : ℕ → Seen) (st : Setting) (known : Known) (may : Label → Place → ℕ → Type 0) (x : ℕ) (own : Bool) (w second : ℕ) (rest : List Entry) (end : Reached)
    → Shows at st.ram known → LetsEntries st may
    → pointer_played st known x w second ≡ Does rest end → second ≡ new_value known (labelled rest (second_label st.kind))
    → ((e : Entry) → HasItem rest e → known (entry_place e) ≡ None → may (entry_label e) (entry_place e) e.value)
    → ((e : Entry) → HasItem rest e → known (entry_place e) ≡ None → own ≡ true → entry_label e ≡ second_label st.kind → entry_place e ≡ root_place st x → ⊥)
    → HasLeaf (λ leaf. pointed at st own (page_number w) x leaf) second end
unfolding at_second pointed
pointer_to at st known may x own w second rest end shows lets plays given mays apart =
    let r = go (is_in_ram st.ram (second_address x w)) (known (second_place x w)) refl plays in
    (r.0, ap (λ (s : Seen). at_second st m x s r.0) (seen_is at st.ram known (second_address x w) shows) ∙ r.1, r.2)
  where
    m : Bool
    m = is_table st.tables (page_number w) && not (is_own_entry st own (page_number w) x)

    go : (b : Bool) (o : Option ℕ) → known (second_place x w) ≡ o → (if b then second_done st x w (value_or o second) else access_fails st) ≡ Does rest end
        → HasLeaf (λ leaf. at_second st m x (seen_by b o) leaf) second end
    go false o k h = let n = nothing_asked known (second_label st.kind) (Fails (access_cause st.kind)) end rest second h given in (None, ap (λ (r : Reached). Reaches r ∷ []) n.0, n.1)
    go true (Some v) k h =
        let e : Entry = entry (second_question st x w) v in
        let g : e ∷ [] ≡ rest = cc in
        let n : second_end st.ram st.view st.kind x v ≡ end = cc in
        (None, ap (λ (r : Reached). Reaches r ∷ []) n, given ∙ ap (λ (z : List Entry). new_value known (labelled z (second_label st.kind))) (sym g) ∙ ap (λ (p : Option Entry). new_value known p) (second_labelled st x w v) ∙ ap (λ (p : Option ℕ). if_new p v) k)
    go true None k h =
        let e : Entry = entry (second_question st x w) second in
        let g : e ∷ [] ≡ rest = cc in
        let n : second_end st.ram st.view st.kind x second ≡ end = cc in
        let here : HasItem rest e = subst (λ (z : List Entry). HasItem z e) g (inl refl) in
        let may_be = lets.second_only (second_place x w) second (mays e here k) in
        let a = both_true (nat_lt second (2 ^ 32)) (in_frames st.tables (word_address (second_address x w)) && st.second second) may_be in
        let b = both_true (in_frames st.tables (word_address (second_address x w))) (st.second second) a.1 in
        let table : is_table st.tables (page_number w) ≡ true = sym (frames_are st.tables (page_number w) (x / 2 ^ 12 % 2 ^ 10) (index_small x)) ∙ b.0 in
        let other : not (is_own_entry st own (page_number w) x) ≡ true = by_not (is_own_entry st own (page_number w) x) (apart_own own (λ o. apart e here k o refl)) in
        (Some second, ap (λ (t : Bool). found t (second_reaches st x second)) (true_both m (st.second second) (true_both (is_table st.tables (page_number w)) (not (is_own_entry st own (page_number w) x)) table other) b.1) ∙ ap (λ (r : Reached). Reaches r ∷ []) n, refl)
      where
        apart_own : (o : Bool) → (o ≡ true → second_place x w ≡ root_place st x → ⊥) → is_own_entry st o (page_number w) x ≡ true → ⊥
        apart_own true no_place is = no_place refl (place_by_own st x w is)
        apart_own false no_place is = absurd (cc)

rooted_to : (at : ℕ → Seen) (st : Setting) (known : Known) (may : Label → Place → ℕ → Type 0) (x : ℕ) (own : Bool) (w second : ℕ) (rest : List Entry) (end : Reached)
    → Shows at st.ram known → LetsEntries st may
    → rooted_played st known x w second ≡ Does rest end → second ≡ new_value known (labelled rest (second_label st.kind))
    → ((e : Entry) → HasItem rest e → known (entry_place e) ≡ None → may (entry_label e) (entry_place e) e.value)
    → ((e : Entry) → HasItem rest e → known (entry_place e) ≡ None → own ≡ true → entry_label e ≡ second_label st.kind → entry_place e ≡ root_place st x → ⊥)
    → HasLeaf (λ leaf. rooted at st own w x leaf) second end
unfolding rooted
rooted_to at st known may x own w second rest end shows lets plays given mays apart =
    go (is_invalid w) (is_pointer w) (is_reserved w) (is_unaligned w || is_closed st.view st.kind w) plays
  where
    pf : Reached
    pf = Fails (page_cause st.kind)

    there : Reached
    there = arrived st.ram st.kind (w / 2 ^ 20 * 2 ^ 22 + x % 2 ^ 22)

    none : (e : Reached) → Does [] e ≡ Does rest end → HasLeaf (λ leaf. found (no leaf) (Reaches e)) second end
    none e h = let n = nothing_asked known (second_label st.kind) e end rest second h given in (None, ap (λ (r : Reached). Reaches r ∷ []) n.0, n.1)

    go : (a b c d : Bool) → (if a then Does [] pf else if b then (if c then Nowhere else pointer_played st known x w second) else if d then Does [] pf else Does [] there) ≡ Does rest end
        → HasLeaf (λ leaf. if a then found (no leaf) (Reaches pf) else if b then (if c then found (no leaf) Leaves else pointed at st own (page_number w) x leaf) else if d then found (no leaf) (Reaches pf) else found (no leaf) (Reaches there)) second end
    go true b c d h = none pf h
    go false true true d h = absurd (cc)
    go false true false d h = pointer_to at st known may x own w second rest end shows lets h given mays apart
    go false false c true h = none pf h
    go false false c false h = none there h

pub after_done : (e : Entry) (r : Answer Entry Reached) (log : List Entry) (a : Reached) → prefixed (e ∷ []) r ≡ Does log a → (rest : List Entry) × (r ≡ Does rest a) × (log ≡ e ∷ rest)
after_done e (Does rest b) log a h = (rest, cc, cc)
after_done e (Missing q) log a h = absurd (cc)
after_done e Nowhere log a h = absurd (cc)

-- new entries are words
pub walk_words : (st : Setting) (known : Known) (may : Label → Place → ℕ → Type 0) (x first second : ℕ) (log : List Entry) (end : Reached)
    → LetsEntries st may → Walks st known may x first second log end → (first < 2 ^ 32) × (second < 2 ^ 32)
walk_words st known may x first second log end lets walks = (first_small, second_small)
  where
    root_l : Label
    root_l = root_label st.kind

    second_l : Label
    second_l = second_label st.kind

    value_small : (e : Entry) → HasItem log e → known (entry_place e) ≡ None → (entry_label e ≡ root_l → e.value < 2 ^ 32) × (entry_label e ≡ second_l → e.value < 2 ^ 32)
    value_small e i k = (
      λ l. ltb-true e.value (2 ^ 32) (both_true (nat_lt e.value (2 ^ 32)) _ (lets.root_only (entry_place e) e.value (subst (λ (z : Label). may z (entry_place e) e.value) l (walks.may_start e i k)))).0,
      λ l. ltb-true e.value (2 ^ 32) (both_true (nat_lt e.value (2 ^ 32)) _ (lets.second_only (entry_place e) e.value (subst (λ (z : Label). may z (entry_place e) e.value) l (walks.may_start e i k)))).0,
    )

    first_small : first < 2 ^ 32
    first_small = subst (λ (n : ℕ). n < 2 ^ 32) (sym walks.first_is) (new_small known (labelled log root_l) (λ e h k. let f = has_labelled log root_l e h in (value_small e f.0 k).0 f.1))

    second_small : second < 2 ^ 32
    second_small = subst (λ (n : ℕ). n < 2 ^ 32) (sym walks.second_is) (new_small known (labelled log second_l) (λ e h k. let f = has_labelled log second_l e h in (value_small e f.0 k).1 f.1))

-- what the script does is in the definition
pub from_script : (at : ℕ → Seen) (st : Setting) (known : Known) (may : Label → Place → ℕ → Type 0) (x first second : ℕ) (log : List Entry) (end : Reached)
    → Shows at st.ram known → LetsEntries st may → x < 2 ^ 32 → Walks st known may x first second log end
    → (root : Option ℕ) × (leaf : Option ℕ) × (ways at st x root leaf ≡ Reaches end ∷ []) × (first ≡ value_of root) × (second ≡ value_of leaf)
unfolding at_root ways
from_script at st known may x first second log end shows lets small walks =
    translating (is_translated st.view) (sym (all_plays at st known x first second shows words.0 words.1) ∙ walks.plays)
  where
    root_l : Label
    root_l = root_label st.kind

    second_l : Label
    second_l = second_label st.kind

    words : (first < 2 ^ 32) × (second < 2 ^ 32)
    words = walk_words st known may x first second log end lets walks

    reading : (b : Bool) (o : Option ℕ) → known (root_place st x) ≡ o
        → (if b then prefixed (entry (root_question st x) (value_or o first) ∷ []) (rooted_played st known x (value_or o first) second) else access_fails st) ≡ Does log end
        → (root : Option ℕ) × (leaf : Option ℕ) × (at_root at st x (seen_by b o) root leaf ≡ Reaches end ∷ []) × (first ≡ value_of root) × (second ≡ value_of leaf)
    reading false o k h =
        let n = nothing_asked known root_l (Fails (access_cause st.kind)) end log first h walks.first_is in
        let s = nothing_asked known second_l (Fails (access_cause st.kind)) end log second h walks.second_is in
        (None, None, ap (λ (r : Reached). Reaches r ∷ []) n.0, n.1, s.1)
    reading true (Some v) k h =
        let d = after_done (entry (root_question st x) v) (rooted_played st known x v second) log end h in
        let given : second ≡ new_value known (labelled d.0 second_l) = walks.second_is ∙ ap (λ (z : List Entry). new_value known (labelled z second_l)) d.2 ∙ ap (λ (p : Option Entry). new_value known p) (root_skipped st x v d.0) in
        let zero_first : first ≡ 0 = walks.first_is ∙ ap (λ (z : List Entry). new_value known (labelled z root_l)) d.2 ∙ ap (λ (p : Option Entry). new_value known p) (root_labelled st x v d.0) ∙ ap (λ (p : Option ℕ). if_new p v) k in
        let r = rooted_to at st known may x false v second d.0 end shows lets d.1 given (λ e i n. walks.may_start e (subst (λ (z : List Entry). HasItem z e) (sym d.2) (inr i)) n) (λ e i n own l p. absurd (cc)) in
        (None, r.0, r.1, zero_first, r.2)
    reading true None k h =
        let e1 : Entry = entry (root_question st x) first in
        let d = after_done e1 (rooted_played st known x first second) log end h in
        let here : HasItem log e1 = subst (λ (z : List Entry). HasItem z e1) (sym d.2) (inl refl) in
        let later : (e : Entry) → HasItem d.0 e → HasItem log e = λ e i. subst (λ (z : List Entry). HasItem z e) (sym d.2) (inr i) in
        let given : second ≡ new_value known (labelled d.0 second_l) = walks.second_is ∙ ap (λ (z : List Entry). new_value known (labelled z second_l)) d.2 ∙ ap (λ (p : Option Entry). new_value known p) (root_skipped st x first d.0) in
        let may_be = lets.root_only (root_place st x) first (walks.may_start e1 here k) in
        let a = both_true (nat_lt first (2 ^ 32)) (in_frames st.tables (word_address (root_address st.view x)) && st.first first) may_be in
        let b = both_true (in_frames st.tables (word_address (root_address st.view x))) (st.first first) a.1 in
        let table : is_table st.tables (root_frame st.view) ≡ true = sym (frames_are st.tables (root_frame st.view) (x / 2 ^ 22) (top_small x small)) ∙ b.0 in
        let r = rooted_to at st known may x true first second d.0 end shows lets d.1 given (λ e i n. walks.may_start e (later e i) n) (λ e i n own l p. not_same st.kind ((walks.coherent e1 e here (later e i) k (sym p)).0 refl ∙ l)) in
        (Some first, r.0, ap (λ (t : Bool). when t (rooted at st true first x r.0)) (true_both (is_table st.tables (root_frame st.view)) (st.first first) table b.1) ∙ r.1, refl, r.2)

    translating : (t : Bool) → (if t then root_played st known x first second else Does [] (arrived st.ram st.kind x)) ≡ Does log end
        → (root : Option ℕ) × (leaf : Option ℕ) × ((if t then at_root at st x (seen_at at (root_address st.view x)) root leaf else found (no root && no leaf) (Reaches (arrived st.ram st.kind x))) ≡ Reaches end ∷ []) × (first ≡ value_of root) × (second ≡ value_of leaf)
    translating true h =
        let r = reading (is_in_ram st.ram (root_address st.view x)) (known (root_place st x)) refl h in
        (r.0, r.1, ap (λ (s : Seen). at_root at st x s r.0 r.1) (seen_is at st.ram known (root_address st.view x) shows) ∙ r.2, r.3, r.4)
    translating false h =
        let n = nothing_asked known root_l (arrived st.ram st.kind x) end log first h walks.first_is in
        let s = nothing_asked known second_l (arrived st.ram st.kind x) end log second h walks.second_is in
        (None, None, ap (λ (r : Reached). Reaches r ∷ []) n.0, n.1, s.1)

-- ---- FROM THE DEFINITION

-- what the log has behind the root entry
record Tail (st : Setting) (known : Known) (may : Label → Place → ℕ → Type 0) (x : ℕ) (own : Bool) (second : ℕ) (rest : List Entry) : Type 0 where
  given : second ≡ new_value known (labelled rest (second_label st.kind))
  small : second < 2 ^ 32
  may_start : (e : Entry) → HasItem rest e → known (entry_place e) ≡ None → may (entry_label e) (entry_place e) e.value
  apart : (e : Entry) → HasItem rest e → known (entry_place e) ≡ None → own ≡ true → entry_place e ≡ root_place st x → ⊥
  one : (e f : Entry) → HasItem rest e → HasItem rest f → e ≡ f

abbrev HasTail : Setting → Known → (Label → Place → ℕ → Type 0) → ℕ → Bool → ℕ → Reached → Answer Entry Reached → Type 0
HasTail st known may x own second end played = (rest : List Entry) × (played ≡ Does rest end) × Tail st known may x own second rest

no_tail : (st : Setting) (known : Known) (may : Label → Place → ℕ → Type 0) (x : ℕ) (own : Bool) (second : ℕ) → second ≡ 0 → Tail st known may x own second []
no_tail st known may x own second zero = record {
  given = zero;
  small = omega (arith, zero);
  may_start = λ e i k. absurd i;
  apart = λ e i k o p. absurd i;
  one = λ e f i j. absurd i;
}

pub found_none : (leaf : Option ℕ) (e r : End) → found (no leaf) e ≡ r ∷ [] → (leaf ≡ None) × (e ≡ r)
found_none None e r h = (refl, cc)
found_none (Some v) e r h = absurd (cc)

pub reached_is : (e r : Reached) → Reaches e ≡ Reaches r → e ≡ r
reached_is e r h = cc

pub found_true : (b : Bool) (e r : End) → found b e ≡ r ∷ [] → (b ≡ true) × (e ≡ r)
found_true true e r h = (refl, cc)
found_true false e r h = absurd (cc)

ended : (st : Setting) (known : Known) (may : Label → Place → ℕ → Type 0) (x : ℕ) (own : Bool) (leaf : Option ℕ) (e end : Reached) → found (no leaf) (Reaches e) ≡ Reaches end ∷ []
    → HasTail st known may x own (value_of leaf) end (Does [] e)
ended st known may x own leaf e end h =
    let n = found_none leaf (Reaches e) (Reaches end) h in
    ([], ap (λ (r : Reached). Does [] r) (reached_is e end n.1), no_tail st known may x own (value_of leaf) (ap value_of n.0))

one_only : (e f g : Entry) → HasItem (g ∷ []) e → HasItem (g ∷ []) f → e ≡ f
one_only e f g i j = elim i [
  | inl a ↦ elim j [
    | inl b ↦ sym a ∙ b
    | inr b ↦ absurd b
  ]
  | inr a ↦ absurd a
]

only : (P : Entry → Type 0) (g e : Entry) → P g → HasItem (g ∷ []) e → P e
only P g e p i = elim i [
  | inl a ↦ subst P a p
  | inr a ↦ absurd a
]

pub some_none : (o : Option ℕ) (v : ℕ) → o ≡ Some v → o ≡ None → ⊥
some_none o v h k = absurd (let g : Some v ≡ None = sym h ∙ k in cc)

pointer_from : (at : ℕ → Seen) (st : Setting) (known : Known) (may : Label → Place → ℕ → Type 0) (x : ℕ) (own : Bool) (w : ℕ) (leaf : Option ℕ) (end : Reached)
    → Shows at st.ram known → LetsEntries st may → AreWordForms st → x < 2 ^ 32
    → pointed at st own (page_number w) x leaf ≡ Reaches end ∷ []
    → HasTail st known may x own (value_of leaf) end (pointer_played st known x w (value_of leaf))
unfolding at_second pointed
pointer_from at st known may x own w leaf end shows lets forms small is =
    go (is_in_ram st.ram (second_address x w)) (known (second_place x w)) refl leaf (ap (λ (s : Seen). at_second st m x s leaf) (sym (seen_is at st.ram known (second_address x w) shows)) ∙ is)
  where
    m : Bool
    m = is_table st.tables (page_number w) && not (is_own_entry st own (page_number w) x)

    apart_own : (o : Bool) → not (is_own_entry st o (page_number w) x) ≡ true → o ≡ true → second_place x w ≡ root_place st x → ⊥
    apart_own true n t p = not_true (is_own_entry st true (page_number w) x) n (own_by_place st x w small p)
    apart_own false n t p = absurd (cc)

    go : (b : Bool) (o : Option ℕ) → known (second_place x w) ≡ o → (leaf : Option ℕ) → at_second st m x (seen_by b o) leaf ≡ Reaches end ∷ []
        → HasTail st known may x own (value_of leaf) end (if b then second_done st x w (value_or o (value_of leaf)) else access_fails st)
    go false o k leaf h = ended st known may x own leaf (Fails (access_cause st.kind)) end h
    go true (Some v) k leaf h =
        let e : Entry = entry (second_question st x w) v in
        let n = found_none leaf (second_reaches st x v) (Reaches end) h in
        let zero : value_of leaf ≡ 0 = ap value_of n.0 in (
          e ∷ [],
          ap (λ (r : Reached). Does (e ∷ []) r) (reached_is (second_end st.ram st.view st.kind x v) end n.1),
          record {
            given = zero ∙ sym (ap (λ (p : Option Entry). new_value known p) (second_labelled st x w v) ∙ ap (λ (p : Option ℕ). if_new p v) k);
            small = omega (arith, zero);
            may_start = λ f i u. absurd (only (λ (z : Entry). known (entry_place z) ≡ None → ⊥) e f (some_none (known (second_place x w)) v k) i u);
            apart = λ f i u o p. absurd (only (λ (z : Entry). known (entry_place z) ≡ None → ⊥) e f (some_none (known (second_place x w)) v k) i u);
            one = λ f g i j. one_only f g e i j;
          },
        )
    go true None k None h = absurd (cc)
    go true None k (Some v) h =
        let e : Entry = entry (second_question st x w) v in
        let n = found_true (m && st.second v) (second_reaches st x v) (Reaches end) h in
        let a = both_true m (st.second v) n.0 in
        let b = both_true (is_table st.tables (page_number w)) (not (is_own_entry st own (page_number w) x)) a.0 in
        let word : v < 2 ^ 32 = forms.second v a.1 in
        let may_be : may_be_second st (second_place x w) v ≡ true = true_both (nat_lt v (2 ^ 32)) (in_frames st.tables (word_address (second_address x w)) && st.second v) (lt-ltb v (2 ^ 32) word) (true_both (in_frames st.tables (word_address (second_address x w))) (st.second v) (frames_are st.tables (page_number w) (x / 2 ^ 12 % 2 ^ 10) (index_small x) ∙ b.0) a.1) in (
          e ∷ [],
          ap (λ (r : Reached). Does (e ∷ []) r) (reached_is (second_end st.ram st.view st.kind x v) end n.1),
          record {
            given = sym (ap (λ (p : Option Entry). new_value known p) (second_labelled st x w v) ∙ ap (λ (p : Option ℕ). if_new p v) k);
            small = word;
            may_start = λ f i u. only (λ (z : Entry). may (entry_label z) (entry_place z) z.value) e f (lets.second (second_place x w) v may_be) i;
            apart = λ f i u o p. only (λ (z : Entry). entry_place z ≡ root_place st x → ⊥) e f (apart_own own b.1 o) i p;
            one = λ f g i j. one_only f g e i j;
          },
        )

rooted_from : (at : ℕ → Seen) (st : Setting) (known : Known) (may : Label → Place → ℕ → Type 0) (x : ℕ) (own : Bool) (w : ℕ) (leaf : Option ℕ) (end : Reached)
    → Shows at st.ram known → LetsEntries st may → AreWordForms st → x < 2 ^ 32
    → rooted at st own w x leaf ≡ Reaches end ∷ []
    → HasTail st known may x own (value_of leaf) end (rooted_played st known x w (value_of leaf))
unfolding rooted
rooted_from at st known may x own w leaf end shows lets forms small is =
    go (is_invalid w) (is_pointer w) (is_reserved w) (is_unaligned w || is_closed st.view st.kind w) is
  where
    pf : Reached
    pf = Fails (page_cause st.kind)

    there : Reached
    there = arrived st.ram st.kind (w / 2 ^ 20 * 2 ^ 22 + x % 2 ^ 22)

    go : (a b c d : Bool) → (if a then found (no leaf) (Reaches pf) else if b then (if c then found (no leaf) Leaves else pointed at st own (page_number w) x leaf) else if d then found (no leaf) (Reaches pf) else found (no leaf) (Reaches there)) ≡ Reaches end ∷ []
        → HasTail st known may x own (value_of leaf) end (if a then Does [] pf else if b then (if c then Nowhere else pointer_played st known x w (value_of leaf)) else if d then Does [] pf else Does [] there)
    go true b c d h = ended st known may x own leaf pf end h
    go false true true d h = absurd (let n = found_none leaf Leaves (Reaches end) h in let g : Leaves ≡ Reaches end = n.1 in cc)
    go false true false d h = pointer_from at st known may x own w leaf end shows lets forms small h
    go false false c true h = ended st known may x own leaf pf end h
    go false false c false h = ended st known may x own leaf there end h

-- a whole log from its root entry and what comes behind
walk_from : (at : ℕ → Seen) (st : Setting) (known : Known) (may : Label → Place → ℕ → Type 0) (x first v second : ℕ) (own : Bool) (rest : List Entry) (end : Reached)
    → answer_told (by_answers known (entry_answers first second)) (translated st.ram st.view st.kind x) ≡ Does (entry (root_question st x) v ∷ rest) end
    → Tail st known may x own second rest
    → (known (root_place st x) ≡ None → (own ≡ true) × may (root_label st.kind) (root_place st x) v)
    → first ≡ if_new (known (root_place st x)) v
    → Walks st known may x first second (entry (root_question st x) v ∷ rest) end
walk_from at st known may x first v second own rest end plays tail new first_is = record {
  plays = plays;
  may_start = λ e i k. elim i [
    | inl a ↦ (subst (λ (z : Entry). known (entry_place z) ≡ None → may (entry_label z) (entry_place z) z.value) a (λ u. (new u).1)) k
    | inr a ↦ tail.may_start e a k
  ];
  coherent = λ e f i j k p. coherent e f i j k p;
  first_is = first_is ∙ sym (ap (λ (o : Option Entry). new_value known o) (root_labelled st x v rest));
  second_is = tail.given ∙ sym (ap (λ (o : Option Entry). new_value known o) (root_skipped st x v rest));
}
  where
    e1 : Entry
    e1 = entry (root_question st x) v

    alike : (e f : Entry) → e ≡ f → (is_word (entry_place e) ≡ true → entry_label e ≡ entry_label f) × (e.value ≡ f.value)
    alike e f h = (λ w. ap entry_label h, ap (λ (z : Entry). z.value) h)

    coherent : (e f : Entry) → HasItem (e1 ∷ rest) e → HasItem (e1 ∷ rest) f → known (entry_place e) ≡ None → entry_place e ≡ entry_place f → (is_word (entry_place e) ≡ true → entry_label e ≡ entry_label f) × (e.value ≡ f.value)
    coherent e f i j k p = elim i [
      | inl a ↦ elim j [
        | inl b ↦ alike e f (sym a ∙ b)
        | inr b ↦
            let place : entry_place f ≡ root_place st x = sym p ∙ sym (ap entry_place a) in
            absurd (tail.apart f b (ap known (sym p) ∙ k) (new (ap (λ (z : Entry). known (entry_place z)) a ∙ k)).0 place)
      ]
      | inr a ↦ elim j [
        | inl b ↦
            let place : entry_place e ≡ root_place st x = p ∙ sym (ap entry_place b) in
            absurd (tail.apart e a k (new (ap known (sym place) ∙ k)).0 place)
        | inr b ↦ alike e f (tail.one e f a b)
      ]
    ]

-- what is in the definition is done by the script
pub from_ways : (at : ℕ → Seen) (st : Setting) (known : Known) (may : Label → Place → ℕ → Type 0) (x : ℕ) (root leaf : Option ℕ) (end : Reached)
    → Shows at st.ram known → LetsEntries st may → AreWordForms st → x < 2 ^ 32 → ways at st x root leaf ≡ Reaches end ∷ []
    → (log : List Entry) × Walks st known may x (value_of root) (value_of leaf) log end
unfolding at_root ways
from_ways at st known may x root leaf end shows lets forms small is = translating (is_translated st.view) refl is
  where
    no_log : (log : List Entry) → (root ≡ None) × (leaf ≡ None) → all_played st known x (value_of root) (value_of leaf) ≡ Does [] end → Walks st known may x (value_of root) (value_of leaf) [] end
    no_log log none plays = record {
      plays = all_plays at st known x (value_of root) (value_of leaf) shows (ap_small root none.0) (ap_small leaf none.1) ∙ plays;
      may_start = λ e i k. absurd i;
      coherent = λ e f i j k p. absurd i;
      first_is = ap value_of none.0;
      second_is = ap value_of none.1;
    }
      where
        ap_small : (o : Option ℕ) → o ≡ None → value_of o < 2 ^ 32
        ap_small o h = let z : value_of o ≡ 0 = ap value_of h in omega (arith, z)

    two_none : (e : End) → found (no root && no leaf) e ≡ Reaches end ∷ [] → ((root ≡ None) × (leaf ≡ None)) × (e ≡ Reaches end)
    two_none e h = go root leaf h
      where
        go : (r l : Option ℕ) → found (no r && no l) e ≡ Reaches end ∷ [] → ((r ≡ None) × (l ≡ None)) × (e ≡ Reaches end)
        go None None h = ((refl, refl), cc)
        go None (Some w) h = absurd (cc)
        go (Some w) l h = absurd (cc)

    translating : (t : Bool) → is_translated st.view ≡ t
        → (if t then at_root at st x (seen_at at (root_address st.view x)) root leaf else found (no root && no leaf) (Reaches (arrived st.ram st.kind x))) ≡ Reaches end ∷ []
        → (log : List Entry) × Walks st known may x (value_of root) (value_of leaf) log end
    translating false t h =
        let n = two_none (Reaches (arrived st.ram st.kind x)) h in
        ([], no_log [] n.0 (ap (λ (b : Bool). if b then root_played st known x (value_of root) (value_of leaf) else Does [] (arrived st.ram st.kind x)) t ∙ ap (λ (r : Reached). Does [] r) (reached_is (arrived st.ram st.kind x) end n.1)))
    translating true t h = reading (is_in_ram st.ram (root_address st.view x)) (known (root_place st x)) refl refl (ap (λ (s : Seen). at_root at st x s root leaf) (sym (seen_is at st.ram known (root_address st.view x) shows)) ∙ h)
      where
        played_by : all_played st known x (value_of root) (value_of leaf) ≡ root_played st known x (value_of root) (value_of leaf)
        played_by = ap (λ (b : Bool). if b then root_played st known x (value_of root) (value_of leaf) else Does [] (arrived st.ram st.kind x)) t

        -- the root entry has the value v
        behind : (own : Bool) (v : ℕ) → is_in_ram st.ram (root_address st.view x) ≡ true → value_or (known (root_place st x)) (value_of root) ≡ v → value_of root < 2 ^ 32
            → (known (root_place st x) ≡ None → (own ≡ true) × may (root_label st.kind) (root_place st x) v)
            → value_of root ≡ if_new (known (root_place st x)) v
            → HasTail st known may x own (value_of leaf) end (rooted_played st known x v (value_of leaf))
            → (log : List Entry) × Walks st known may x (value_of root) (value_of leaf) log end
        behind own v b o word new value t = (
          entry (root_question st x) v ∷ t.0,
          walk_from at st known may x (value_of root) v (value_of leaf) own t.0 end
              (all_plays at st known x (value_of root) (value_of leaf) shows word t.2.small ∙ played_by
              ∙ ap (λ (c : Bool). if c then prefixed (entry (root_question st x) (value_or (known (root_place st x)) (value_of root)) ∷ []) (rooted_played st known x (value_or (known (root_place st x)) (value_of root)) (value_of leaf)) else access_fails st) b
              ∙ ap (λ (n : ℕ). prefixed (entry (root_question st x) n ∷ []) (rooted_played st known x n (value_of leaf))) o
              ∙ ap (λ (r : Answer Entry Reached). prefixed (entry (root_question st x) v ∷ []) r) t.1)
              t.2 new value,
        )

        reading : (b : Bool) (o : Option ℕ) → is_in_ram st.ram (root_address st.view x) ≡ b → known (root_place st x) ≡ o → at_root at st x (seen_by b o) root leaf ≡ Reaches end ∷ []
            → (log : List Entry) × Walks st known may x (value_of root) (value_of leaf) log end
        reading false o b k h =
            let n = two_none (Reaches (Fails (access_cause st.kind))) h in (
              [],
              no_log [] n.0 (played_by
                  ∙ ap (λ (c : Bool). if c then prefixed (entry (root_question st x) (value_or (known (root_place st x)) (value_of root)) ∷ []) (rooted_played st known x (value_or (known (root_place st x)) (value_of root)) (value_of leaf)) else access_fails st) b
                  ∙ ap (λ (r : Reached). Does [] r) (reached_is (Fails (access_cause st.kind)) end n.1)),
            )
        reading true (Some v) b k h =
            let n = known_root root h in
            let zero : value_of root ≡ 0 = ap value_of n.0 in
            behind false v b (ap (λ (o : Option ℕ). value_or o (value_of root)) k) (omega (arith, zero)) (λ u. absurd (some_none (known (root_place st x)) v k u))
            (zero ∙ sym (ap (λ (o : Option ℕ). if_new o v) k)) (rooted_from at st known may x false v leaf end shows lets forms small n.1)
          where
            known_root : (r : Option ℕ) → when (no r) (rooted at st false v x leaf) ≡ Reaches end ∷ [] → (r ≡ None) × (rooted at st false v x leaf ≡ Reaches end ∷ [])
            known_root None h = (refl, h)
            known_root (Some w) h = absurd (cc)
        reading true None b k h =
            let n = new_root root h in
            let a = both_true (is_table st.tables (root_frame st.view)) (st.first n.0) n.2 in
            let is_value : value_of root ≡ n.0 = ap value_of n.1 in
            let word : n.0 < 2 ^ 32 = forms.first n.0 a.1 in
            let may_be : may_be_root st (root_place st x) n.0 ≡ true = true_both (nat_lt n.0 (2 ^ 32)) (in_frames st.tables (word_address (root_address st.view x)) && st.first n.0) (lt-ltb n.0 (2 ^ 32) word) (true_both (in_frames st.tables (word_address (root_address st.view x))) (st.first n.0) (frames_are st.tables (root_frame st.view) (x / 2 ^ 22) (top_small x small) ∙ a.0) a.1) in
            behind true n.0 b (ap (λ (o : Option ℕ). value_or o (value_of root)) k ∙ is_value) (omega (arith, is_value, word)) (λ u. (refl, lets.root (root_place st x) n.0 may_be))
            (is_value ∙ sym (ap (λ (o : Option ℕ). if_new o n.0) k)) (rooted_from at st known may x true n.0 leaf end shows lets forms small n.3)
          where
            new_root : (r : Option ℕ) → at_root at st x (seen_by true None) r leaf ≡ Reaches end ∷ []
                → (w : ℕ) × (r ≡ Some w) × ((is_table st.tables (root_frame st.view) && st.first w) ≡ true) × (rooted at st true w x leaf ≡ Reaches end ∷ [])
            new_root None h = absurd (cc)
            new_root (Some w) h = let t = when_true (is_table st.tables (root_frame st.view) && st.first w) (rooted at st true w x leaf) h in (w, refl, t.0, t.1)
              where
                when_true : (b : Bool) (es : List End) → when b es ≡ Reaches end ∷ [] → (b ≡ true) × (es ≡ Reaches end ∷ [])
                when_true true es h = (refl, h)
                when_true false es h = absurd (cc)
