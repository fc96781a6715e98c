-- Which entries are new: those that the log asks for where they are not known.
use Rattle.std.proofs.Common.{◌≡◌, ℕ, ◌+◌, ◌*◌, ◌/◌, ◌%◌, ◌^◌, ◌<◌, if◌then◌else◌, Bool, true, false, not, ◌&&◌, ◌||◌, List, [], ◌∷◌, Option, Some, None, refl, sym, ap, ◌∙◌, subst}
use Rattle.rv_mem.specs.declared.words.Seen.{Seen}
use Rattle.rv_script.specs.declared.place.Place.{Place}
use Rattle.rv_script.specs.Script.{Label}
use Rattle.rv_script.specs.Folds.{Known, Answer.Does, Answer.Nowhere, prefixed, Entry}
use Rattle.sv_walk.specs.Entry.{access_cause, is_closed, is_invalid, is_pointer, is_reserved, is_unaligned, page_cause, page_number}
use Rattle.sv_walk.specs.Translation.{Reached, Fails, arrived, is_in_ram, is_translated, root_address, root_label, second_address, second_end, second_label}
use Rattle.row_parts.specs.Classes.{seen_at}
use Rattle.row_parts.specs.Rows.{End, Reaches, Leaves, when, found}
use Rattle.addr_rows.specs.Combinations.{Setting, is_table, is_own_entry, root_frame, no, second_reaches, at_second, pointed, rooted, at_root, ways}
use Rattle.rv_script.specs.Logs.{labelled, value_or, where_unknown}
use Rattle.addr_rows.specs.Walks.{LetsEntries, AreWordForms, seen_by, Shows, Walks, AreNews, new_at, value_of, root_place}
use Rattle.addr_rows.proofs.Playing.{entry, root_question, second_question, second_place, access_fails, second_done, pointer_played, rooted_played, root_played, all_plays, seen_is}
use Rattle.addr_rows.proofs.Walking.{found_none, after_done, root_labelled, root_skipped, second_labelled, walk_words, from_script, from_ways}

-- nothing was asked
not_asked : (known : Known) (l : Label) (e end : Reached) (rest : List Entry) (o : Option ℕ) → Does [] e ≡ Does rest end → o ≡ None → o ≡ new_at known (labelled rest l)
not_asked known l e end rest o h none = let g : [] ≡ rest = cc in none ∙ ap (λ (z : List Entry). new_at known (labelled z l)) g

pointer_news : (at : ℕ → Seen) (st : Setting) (known : Known) (x : ℕ) (own : Bool) (w : ℕ) (leaf : Option ℕ) (rest : List Entry) (end : Reached) → Shows at st.ram known
    → pointer_played st known x w (value_of leaf) ≡ Does rest end → pointed at st own (page_number w) x leaf ≡ Reaches end ∷ []
    → leaf ≡ new_at known (labelled rest (second_label st.kind))
unfolding at_second pointed
pointer_news at st known x own w leaf rest end shows plays is =
    go (is_in_ram st.ram (second_address x w)) (known (second_place x w)) refl leaf plays (ap (λ (s : Seen). at_second st m x s leaf) (sym (seen_is at st.ram known (second_address x w) shows)) ∙ is)
  where
    m : Bool
    m = is_table st.tables (page_number w) && not (is_own_entry st own (page_number w) x)

    asked : (o : Option ℕ) (v : ℕ) → known (second_place x w) ≡ o → Does (entry (second_question st x w) v ∷ []) (second_end st.ram st.view st.kind x v) ≡ Does rest end
        → where_unknown o (Some v) ≡ new_at known (labelled rest (second_label st.kind))
    asked o v k h =
        let g : entry (second_question st x w) v ∷ [] ≡ rest = cc in
        sym (ap (λ (z : List Entry). new_at known (labelled z (second_label st.kind))) (sym g) ∙ ap (λ (p : Option Entry). new_at known p) (second_labelled st x w v) ∙ ap (λ (p : Option ℕ). where_unknown p (Some v)) k)

    go : (b : Bool) (o : Option ℕ) → known (second_place x w) ≡ o → (leaf : Option ℕ) → (if b then second_done st x w (value_or o (value_of leaf)) else access_fails st) ≡ Does rest end
        → at_second st m x (seen_by b o) leaf ≡ Reaches end ∷ [] → leaf ≡ new_at known (labelled rest (second_label st.kind))
    go false o k leaf p h = not_asked known (second_label st.kind) (Fails (access_cause st.kind)) end rest leaf p (found_none leaf (Reaches (Fails (access_cause st.kind))) (Reaches end) h).0
    go true (Some v) k leaf p h = (found_none leaf (second_reaches st x v) (Reaches end) h).0 ∙ asked (Some v) v k p
    go true None k None p h = absurd (cc)
    go true None k (Some v) p h = asked None v k p

rooted_news : (at : ℕ → Seen) (st : Setting) (known : Known) (x : ℕ) (own : Bool) (w : ℕ) (leaf : Option ℕ) (rest : List Entry) (end : Reached) → Shows at st.ram known
    → rooted_played st known x w (value_of leaf) ≡ Does rest end → rooted at st own w x leaf ≡ Reaches end ∷ []
    → leaf ≡ new_at known (labelled rest (second_label st.kind))
unfolding rooted
rooted_news at st known x own w leaf rest end shows plays is =
    go (is_invalid w) (is_pointer w) (is_reserved w) (is_unaligned w || is_closed st.view st.kind w) plays is
  where
    pf : Reached
    pf = Fails (page_cause st.kind)

    there : Reached
    there = arrived st.ram st.kind (w / 2 ^ 20 * 2 ^ 22 + x % 2 ^ 22)

    none : (e : Reached) → Does [] e ≡ Does rest end → found (no leaf) (Reaches e) ≡ Reaches end ∷ [] → leaf ≡ new_at known (labelled rest (second_label st.kind))
    none e p h = not_asked known (second_label st.kind) e end rest leaf p (found_none leaf (Reaches e) (Reaches end) h).0

    go : (a b c d : Bool) → (if a then Does [] pf else if b then (if c then Nowhere else pointer_played st known x w (value_of leaf)) else if d then Does [] pf else Does [] there) ≡ Does rest end
        → (if a then found (no leaf) (Reaches pf) else if b then (if c then found (no leaf) Leaves else pointed at st own (page_number w) x leaf) else if d then found (no leaf) (Reaches pf) else found (no leaf) (Reaches there)) ≡ Reaches end ∷ []
        → leaf ≡ new_at known (labelled rest (second_label st.kind))
    go true b c d p h = none pf p h
    go false true true d p h = absurd (cc)
    go false true false d p h = pointer_news at st known x own w leaf rest end shows p h
    go false false c true p h = none pf p h
    go false false c false p h = none there p h

-- the new entries of a way are those of its log
pub are_news : (at : ℕ → Seen) (st : Setting) (known : Known) (may : Label → Place → ℕ → Type 0) (x : ℕ) (root leaf : Option ℕ) (log : List Entry) (end : Reached)
    → Shows at st.ram known → LetsEntries st may → Walks st known may x (value_of root) (value_of leaf) log end → ways at st x root leaf ≡ Reaches end ∷ []
    → AreNews st known log root leaf
unfolding at_root ways
are_news at st known may x root leaf log end shows lets walks is =
    let words = walk_words st known may x (value_of root) (value_of leaf) log end lets walks in
    translating (is_translated st.view) (sym (all_plays at st known x (value_of root) (value_of leaf) shows words.0 words.1) ∙ walks.plays) is
  where
    root_l : Label
    root_l = root_label st.kind

    second_l : Label
    second_l = second_label st.kind

    two_none : (e : Reached) → Does [] e ≡ Does log end → found (no root && no leaf) (Reaches e) ≡ Reaches end ∷ [] → AreNews st known log root leaf
    two_none e p h = let n = go root leaf h in record { root_is = not_asked known root_l e end log root p n.0; leaf_is = not_asked known second_l e end log leaf p n.1 }
      where
        go : (r l : Option ℕ) → found (no r && no l) (Reaches e) ≡ Reaches end ∷ [] → (r ≡ None) × (l ≡ None)
        go None None h = (refl, refl)
        go None (Some w) h = absurd (cc)
        go (Some w) l h = absurd (cc)

    -- the root entry has the value v
    behind : (own : Bool) (o : Option ℕ) (v : ℕ) → known (root_place st x) ≡ o → root ≡ where_unknown o (Some v) → prefixed (entry (root_question st x) v ∷ []) (rooted_played st known x v (value_of leaf)) ≡ Does log end
        → rooted at st own v x leaf ≡ Reaches end ∷ [] → AreNews st known log root leaf
    behind own o v k new p h =
        let d = after_done (entry (root_question st x) v) (rooted_played st known x v (value_of leaf)) log end p in
        record {
          root_is = new ∙ sym (ap (λ (z : List Entry). new_at known (labelled z root_l)) d.2 ∙ ap (λ (q : Option Entry). new_at known q) (root_labelled st x v d.0) ∙ ap (λ (q : Option ℕ). where_unknown q (Some v)) k);
          leaf_is = rooted_news at st known x own v leaf d.0 end shows d.1 h ∙ sym (ap (λ (z : List Entry). new_at known (labelled z second_l)) d.2 ∙ ap (λ (q : Option Entry). new_at known q) (root_skipped st x v d.0));
        }

    reading : (b : Bool) (o : Option ℕ) → known (root_place st x) ≡ o → (r : Option ℕ) → root ≡ r
        → (if b then prefixed (entry (root_question st x) (value_or o (value_of r)) ∷ []) (rooted_played st known x (value_or o (value_of r)) (value_of leaf)) else access_fails st) ≡ Does log end
        → at_root at st x (seen_by b o) r leaf ≡ Reaches end ∷ [] → AreNews st known log root leaf
    reading false o k r e p h = two_none (Fails (access_cause st.kind)) p (ap (λ (z : Option ℕ). found (no z && no leaf) (Reaches (Fails (access_cause st.kind)))) e ∙ h)
    reading true (Some v) k None e p h = behind false (Some v) v k e p h
    reading true (Some v) k (Some w) e p h = absurd (cc)
    reading true None k None e p h = absurd (cc)
    reading true None k (Some w) e p h = behind true None w k e p (inside (is_table st.tables (root_frame st.view) && st.first w) (rooted at st true w x leaf) h)
      where
        inside : (b : Bool) (es : List End) → when b es ≡ Reaches end ∷ [] → es ≡ Reaches end ∷ []
        inside true es h = h
        inside false es h = absurd (cc)

    translating : (t : Bool) → (if t then root_played st known x (value_of root) (value_of leaf) else Does [] (arrived st.ram st.kind x)) ≡ Does log end
        → (if t then at_root at st x (seen_at at (root_address st.view x)) root leaf else found (no root && no leaf) (Reaches (arrived st.ram st.kind x))) ≡ Reaches end ∷ [] → AreNews st known log root leaf
    translating true p h = reading (is_in_ram st.ram (root_address st.view x)) (known (root_place st x)) refl root refl p (ap (λ (s : Seen). at_root at st x s root leaf) (sym (seen_is at st.ram known (root_address st.view x) shows)) ∙ h)
    translating false p h = two_none (arrived st.ram st.kind x) p h

pub ways_are_walks : (at : ℕ → Seen) (st : Setting) (known : Known) (may : Label → Place → ℕ → Type 0) (x : ℕ) (root leaf : Option ℕ) (end : Reached)
    → Shows at st.ram known → LetsEntries st may → AreWordForms st → x < 2 ^ 32 → ways at st x root leaf ≡ Reaches end ∷ []
    → (log : List Entry) × Walks st known may x (value_of root) (value_of leaf) log end × AreNews st known log root leaf
ways_are_walks at st known may x root leaf end shows lets forms small is =
    let w = from_ways at st known may x root leaf end shows lets forms small is in
    (w.0, w.1, are_news at st known may x root leaf w.0 end shows lets w.1 is)

pub walks_are_ways : (at : ℕ → Seen) (st : Setting) (known : Known) (may : Label → Place → ℕ → Type 0) (x first second : ℕ) (log : List Entry) (end : Reached)
    → Shows at st.ram known → LetsEntries st may → x < 2 ^ 32 → Walks st known may x first second log end
    → (root : Option ℕ) × (leaf : Option ℕ) × (ways at st x root leaf ≡ Reaches end ∷ []) × (first ≡ value_of root) × (second ≡ value_of leaf) × AreNews st known log root leaf
walks_are_ways at st known may x first second log end shows lets small walks =
    let w = from_script at st known may x first second log end shows lets small walks in
    let same : Walks st known may x (value_of w.0) (value_of w.1) log end =
    subst (λ (n : ℕ). Walks st known may x (value_of w.0) n log end) w.4 (subst (λ (n : ℕ). Walks st known may x n second log end) w.3 walks) in
    (w.0, w.1, w.2, w.3, w.4, are_news at st known may x w.0 w.1 log end shows lets same w.2)
