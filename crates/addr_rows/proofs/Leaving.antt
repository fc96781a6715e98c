-- The ways that leave the machine are those on which the script has no step.
use Rattle.std.proofs.Common.{◌≡◌, ℕ, ◌+◌, ◌*◌, ◌/◌, ◌%◌, ◌^◌, ◌<◌, if◌then◌else◌, nat_lt, Bool, true, false, not, ◌&&◌, ◌||◌, List, [], ◌∷◌, Option, Some, None, refl, sym, ap, ◌∙◌, subst, arith}
use Rattle.std.proofs.lemmas.Bool.{ltb-true, lt-ltb}
use Rattle.rv_mem.specs.declared.words.Seen.{Seen}
use Rattle.rv_mem.specs.declared.words.Seen.TheVariants.{Known as KnownWord, Untouched, Vacant}
use Rattle.rv_script.specs.declared.place.Place.{Place}
use Rattle.rv_script.specs.Bytes.{word_address}
use Rattle.rv_script.specs.Script.{Label}
use Rattle.rv_script.specs.Folds.{Known, Answer, Answer.Does, Answer.Missing, Answer.Nowhere, prefixed, Entry}
use Rattle.sv_walk.specs.Entry.{access_cause, is_closed, is_invalid, is_pointer, is_reserved, is_unaligned, page_cause, page_number}
use Rattle.sv_walk.specs.Translation.{Reached, Fails, arrived, is_in_ram, is_translated, root_address, root_label, second_address, second_end}
use Rattle.row_parts.specs.Classes.{seen_at, entry_at}
use Rattle.row_parts.specs.Rows.{End, Reaches, Leaves, when, found}
use Rattle.addr_rows.specs.Combinations.{Setting, is_table, is_own_entry, root_frame, no, at_second, pointed, rooted, at_root, ways}
use Rattle.rv_script.specs.Logs.{value_or, where_unknown}
use Rattle.rv_mem.specs.Frames.{in_frames}
use Rattle.addr_rows.specs.Walks.{may_be_root, LetsEntries, AreWordForms, seen_by, Shows, WalksOut, value_of, root_place}
use Rattle.addr_rows.proofs.Playing.{entry, root_question, second_place, access_fails, second_done, pointer_played, rooted_played, root_played, all_plays, seen_is}
use Rattle.addr_rows.proofs.Walking.{found_none, both_true, true_both, some_none, frames_are, top_small}

abbrev Out : List End
Out = Leaves ∷ []

-- a way that reaches something leaves nothing
reaches_not : (b : Bool) (e : Reached) → found b (Reaches e) ≡ Out → ⊥
reaches_not true e h = absurd (cc)
reaches_not false e h = absurd (cc)

second_not : (st : Setting) (m : Bool) (x : ℕ) (s : Seen) (leaf : Option ℕ) → at_second st m x s leaf ≡ Out → ⊥
unfolding at_second
second_not st m x Vacant leaf h = reaches_not (no leaf) (Fails (access_cause st.kind)) h
second_not st m x (KnownWord v) leaf h = reaches_not (no leaf) (second_end st.ram st.view st.kind x v) h
second_not st m x Untouched None h = absurd (cc)
second_not st m x Untouched (Some v) h = reaches_not (m && st.second v) (second_end st.ram st.view st.kind x v) h

pointed_not : (at : ℕ → Seen) (st : Setting) (own : Bool) (frame x : ℕ) (leaf : Option ℕ) → pointed at st own frame x leaf ≡ Out → ⊥
unfolding pointed
pointed_not at st own frame x leaf h = second_not st (is_table st.tables frame && not (is_own_entry st own frame x)) x (entry_at at frame (x / 2 ^ 12 % 2 ^ 10)) leaf h

-- a root entry that leads out is a pointer with a reserved bit, and nothing more is asked for
rooted_out : (at : ℕ → Seen) (st : Setting) (known : Known) (own : Bool) (w x second : ℕ) (leaf : Option ℕ) → rooted at st own w x leaf ≡ Out → (rooted_played st known x w second ≡ Nowhere) × (leaf ≡ None)
unfolding rooted
rooted_out at st known own w x second leaf is = go (is_invalid w) (is_pointer w) (is_reserved w) (is_unaligned w || is_closed st.view st.kind w) is
  where
    pf : Reached
    pf = Fails (page_cause st.kind)

    there : Reached
    there = arrived st.ram st.kind (w / 2 ^ 20 * 2 ^ 22 + x % 2 ^ 22)

    go : (a b c d : Bool) → (if a then found (no leaf) (Reaches pf) else if b then (if c then found (no leaf) Leaves else pointed at st own (page_number w) x leaf) else if d then found (no leaf) (Reaches pf) else found (no leaf) (Reaches there)) ≡ Out
        → ((if a then Does [] pf else if b then (if c then Nowhere else pointer_played st known x w second) else if d then Does [] pf else Does [] there) ≡ Nowhere) × (leaf ≡ None)
    go true b c d h = absurd (reaches_not (no leaf) pf h)
    go false true true d h = (refl, (found_none leaf Leaves Leaves h).0)
    go false true false d h = absurd (pointed_not at st own (page_number w) x leaf h)
    go false false c true h = absurd (reaches_not (no leaf) pf h)
    go false false c false h = absurd (reaches_not (no leaf) there h)

pointer_does : (st : Setting) (known : Known) (x w second : ℕ) → pointer_played st known x w second ≡ Nowhere → ⊥
pointer_does st known x w second h = go (is_in_ram st.ram (second_address x w)) h
  where
    go : (b : Bool) → (if b then second_done st x w (value_or (known (second_place x w)) second) else access_fails st) ≡ Nowhere → ⊥
    go true h = absurd (cc)
    go false h = absurd (cc)

out_rooted : (at : ℕ → Seen) (st : Setting) (known : Known) (own : Bool) (w x second : ℕ) → rooted_played st known x w second ≡ Nowhere → rooted at st own w x None ≡ Out
unfolding rooted
out_rooted at st known own w x second plays = go (is_invalid w) (is_pointer w) (is_reserved w) (is_unaligned w || is_closed st.view st.kind w) plays
  where
    pf : Reached
    pf = Fails (page_cause st.kind)

    there : Reached
    there = arrived st.ram st.kind (w / 2 ^ 20 * 2 ^ 22 + x % 2 ^ 22)

    go : (a b c d : Bool) → (if a then Does [] pf else if b then (if c then Nowhere else pointer_played st known x w second) else if d then Does [] pf else Does [] there) ≡ Nowhere
        → (if a then found (no None) (Reaches pf) else if b then (if c then found (no None) Leaves else pointed at st own (page_number w) x None) else if d then found (no None) (Reaches pf) else found (no None) (Reaches there)) ≡ Out
    go true b c d h = absurd (cc)
    go false true true d h = refl
    go false true false d h = absurd (pointer_does st known x w second h)
    go false false c true h = absurd (cc)
    go false false c false h = absurd (cc)

-- a way that leaves the machine has no step
pub out_from_ways : (at : ℕ → Seen) (st : Setting) (known : Known) (may : Label → Place → ℕ → Type 0) (x : ℕ) (root leaf : Option ℕ)
    → Shows at st.ram known → LetsEntries st may → AreWordForms st → x < 2 ^ 32 → ways at st x root leaf ≡ Out → WalksOut st known may x root leaf
unfolding at_root ways
out_from_ways at st known may x root leaf shows lets forms small is = translating (is_translated st.view) refl is
  where
    translating : (t : Bool) → is_translated st.view ≡ t
        → (if t then at_root at st x (seen_at at (root_address st.view x)) root leaf else found (no root && no leaf) (Reaches (arrived st.ram st.kind x))) ≡ Out
        → WalksOut st known may x root leaf
    translating false t h = absurd (reaches_not (no root && no leaf) (arrived st.ram st.kind x) h)
    translating true t h = reading (is_in_ram st.ram (root_address st.view x)) (known (root_place st x)) refl refl root refl (ap (λ (s : Seen). at_root at st x s root leaf) (sym (seen_is at st.ram known (root_address st.view x) shows)) ∙ h)
      where
        -- the root entry has the value v
        behind : (own : Bool) (v : ℕ) → is_in_ram st.ram (root_address st.view x) ≡ true → value_or (known (root_place st x)) (value_of root) ≡ v → value_of root < 2 ^ 32
            → root ≡ where_unknown (known (root_place st x)) (Some (value_of root))
            → (known (root_place st x) ≡ None → may (root_label st.kind) (root_place st x) (value_of root))
            → rooted at st own v x leaf ≡ Out → WalksOut st known may x root leaf
        behind own v b is_value word new may_be h =
            let r = rooted_out at st known own v x (value_of leaf) leaf h in
            let zero : value_of leaf ≡ 0 = ap value_of r.1 in
            record {
              plays = all_plays at st known x (value_of root) (value_of leaf) shows word (omega (arith, zero))
                  ∙ ap (λ (c : Bool). if c then root_played st known x (value_of root) (value_of leaf) else Does [] (arrived st.ram st.kind x)) t
                  ∙ ap (λ (c : Bool). if c then prefixed (entry (root_question st x) (value_or (known (root_place st x)) (value_of root)) ∷ []) (rooted_played st known x (value_or (known (root_place st x)) (value_of root)) (value_of leaf)) else access_fails st) b
                  ∙ ap (λ (n : ℕ). prefixed (entry (root_question st x) n ∷ []) (rooted_played st known x n (value_of leaf))) is_value
                  ∙ ap (λ (a : Answer Entry Reached). prefixed (entry (root_question st x) v ∷ []) a) r.0;
              root_is = new;
              may_start = may_be;
              leaf_is = r.1;
            }

        reading : (b : Bool) (o : Option ℕ) → is_in_ram st.ram (root_address st.view x) ≡ b → known (root_place st x) ≡ o → (r : Option ℕ) → root ≡ r
            → at_root at st x (seen_by b o) r leaf ≡ Out → WalksOut st known may x root leaf
        reading false o b k r e h = absurd (reaches_not (no r && no leaf) (Fails (access_cause st.kind)) h)
        reading true (Some v) b k None e h =
            let zero : value_of root ≡ 0 = ap value_of e in
            behind false v b (ap (λ (o : Option ℕ). value_or o (value_of root)) k) (omega (arith, zero))
            (e ∙ sym (ap (λ (o : Option ℕ). where_unknown o (Some (value_of root))) k)) (λ u. absurd (some_none (known (root_place st x)) v k u)) h
        reading true (Some v) b k (Some w) e h = absurd (cc)
        reading true None b k None e h = absurd (cc)
        reading true None b k (Some w) e h =
            let n = inside (is_table st.tables (root_frame st.view) && st.first w) (rooted at st true w x leaf) h in
            let a = both_true (is_table st.tables (root_frame st.view)) (st.first w) n.0 in
            let is_value : value_of root ≡ w = ap value_of e in
            let word : w < 2 ^ 32 = forms.first w a.1 in
            let may_be : may_be_root st (root_place st x) w ≡ true = true_both (nat_lt w (2 ^ 32)) (in_frames st.tables (word_address (root_address st.view x)) && st.first w) (lt-ltb w (2 ^ 32) word) (true_both (in_frames st.tables (word_address (root_address st.view x))) (st.first w) (frames_are st.tables (root_frame st.view) (x / 2 ^ 22) (top_small x small) ∙ a.0) a.1) in
            behind true w b (ap (λ (o : Option ℕ). value_or o (value_of root)) k ∙ is_value) (omega (arith, is_value, word))
            (e ∙ ap (λ (n : ℕ). Some n) (sym is_value) ∙ sym (ap (λ (o : Option ℕ). where_unknown o (Some (value_of root))) k))
            (λ u. subst (λ (n : ℕ). may (root_label st.kind) (root_place st x) n) (sym is_value) (lets.root (root_place st x) w may_be)) n.1
          where
            inside : (b : Bool) (es : List End) → when b es ≡ Out → (b ≡ true) × (es ≡ Out)
            inside true es h = (refl, h)
            inside false es h = absurd (cc)

nowhere_after : (e : Entry) (r : Answer Entry Reached) → prefixed (e ∷ []) r ≡ Nowhere → r ≡ Nowhere
nowhere_after e (Does rest b) h = absurd (cc)
nowhere_after e (Missing q) h = absurd (cc)
nowhere_after e Nowhere h = refl

-- where the script has no step, the way leaves the machine
pub ways_from_out : (at : ℕ → Seen) (st : Setting) (known : Known) (may : Label → Place → ℕ → Type 0) (x : ℕ) (root leaf : Option ℕ)
    → Shows at st.ram known → LetsEntries st may → x < 2 ^ 32 → WalksOut st known may x root leaf → ways at st x root leaf ≡ Out
unfolding at_root ways
ways_from_out at st known may x root leaf shows lets small out =
    ap (λ (l : Option ℕ). ways at st x root l) out.leaf_is ∙ translating (is_translated st.view) (sym (all_plays at st known x (value_of root) (value_of leaf) shows (word (known (root_place st x)) refl) (omega (arith, zero))) ∙ out.plays)
  where
    zero : value_of leaf ≡ 0
    zero = ap value_of out.leaf_is

    new_is : (o : Option ℕ) → known (root_place st x) ≡ o → root ≡ where_unknown o (Some (value_of root))
    new_is o k = out.root_is ∙ ap (λ (p : Option ℕ). where_unknown p (Some (value_of root))) k

    may_be : known (root_place st x) ≡ None → may_be_root st (root_place st x) (value_of root) ≡ true
    may_be k = lets.root_only (root_place st x) (value_of root) (out.may_start k)

    word : (o : Option ℕ) → known (root_place st x) ≡ o → value_of root < 2 ^ 32
    word (Some v) k = let z : value_of root ≡ 0 = ap value_of (new_is (Some v) k) in omega (arith, z)
    word None k = ltb-true (value_of root) (2 ^ 32) (both_true (nat_lt (value_of root) (2 ^ 32)) (in_frames st.tables (word_address (root_address st.view x)) && st.first (value_of root)) (may_be k)).0

    reading : (b : Bool) (o : Option ℕ) → known (root_place st x) ≡ o
        → (if b then prefixed (entry (root_question st x) (value_or o (value_of root)) ∷ []) (rooted_played st known x (value_or o (value_of root)) (value_of leaf)) else access_fails st) ≡ Nowhere
        → at_root at st x (seen_by b o) root None ≡ Out
    reading false o k h = absurd (cc)
    reading true (Some v) k h =
        ap (λ (r : Option ℕ). at_root at st x (seen_by true (Some v)) r None) (new_is (Some v) k)
        ∙ out_rooted at st known false v x (value_of leaf) (nowhere_after (entry (root_question st x) v) (rooted_played st known x v (value_of leaf)) h)
    reading true None k h =
        let w : ℕ = value_of root in
        let a = both_true (nat_lt w (2 ^ 32)) (in_frames st.tables (word_address (root_address st.view x)) && st.first w) (may_be k) in
        let b = both_true (in_frames st.tables (word_address (root_address st.view x))) (st.first w) a.1 in
        let table : is_table st.tables (root_frame st.view) ≡ true = sym (frames_are st.tables (root_frame st.view) (x / 2 ^ 22) (top_small x small)) ∙ b.0 in
        ap (λ (r : Option ℕ). at_root at st x (seen_by true None) r None) (new_is None k)
        ∙ ap (λ (t : Bool). when t (rooted at st true w x None)) (true_both (is_table st.tables (root_frame st.view)) (st.first w) table b.1)
        ∙ out_rooted at st known true w x (value_of leaf) (nowhere_after (entry (root_question st x) w) (rooted_played st known x w (value_of leaf)) h)

    translating : (t : Bool) → (if t then root_played st known x (value_of root) (value_of leaf) else Does [] (arrived st.ram st.kind x)) ≡ Nowhere
        → (if t then at_root at st x (seen_at at (root_address st.view x)) root None else found (no root && no None) (Reaches (arrived st.ram st.kind x))) ≡ Out
    translating true h = ap (λ (s : Seen). at_root at st x s root None) (seen_is at st.ram known (root_address st.view x) shows) ∙ reading (is_in_ram st.ram (root_address st.view x)) (known (root_place st x)) refl h
    translating false h = absurd (cc)
