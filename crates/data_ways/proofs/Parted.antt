-- Sets of addresses by the tables that their walks read.
use Rattle.std.proofs.Common.{◌≡◌, ℕ, ◌+◌, ◌*◌, ◌/◌, ◌%◌, ◌^◌, ◌<◌, ◌≤◌, ◌-◌, if◌then◌else◌, bit_and, Bool, true, false, not, ◌&&◌, ◌||◌, ◌==◌, nat_eq, nat_le, nat_lt, List, [], ◌∷◌, ◌++◌, map, length, get_or, drop, take, append_assoc, refl, sym, ap, ◌∙◌, subst, inl, inr, arith}
use Rattle.std.specs.List.{filter, list_any}
use Rattle.std.proofs.lemmas.Bool.{and_from, and_parts, eq-eqb, eqb-true, leb-true, lt-ltb, ltb-true, or_cases, or_left, or_right}
use Rattle.std.proofs.lemmas.Bool.Decides.{nat_tests}
use Rattle.std.proofs.lemmas.List.{drop_more, map-append}
use Rattle.std.proofs.lemmas.List.Folds.{list_any_more}
use Rattle.dom_set.specs.Elements.{elements_of, is_in, is_matching}
use Rattle.row_parts.specs.Internal.Blocks.{is_in_block}
use Rattle.row_parts.specs.declared.classes.Level.{Level}
use Rattle.row_parts.specs.declared.classes.Level.TheVariants.{Root, Second}
use Rattle.row_parts.specs.Classes.{TableOf, any_seen, entry_at, has_class, same as seen_alike, seen_at}
use Rattle.row_parts.specs.Items.{GivesEach, by_kind}
use Rattle.row_parts.specs.Rows.{End, Leaves, when}
use Rattle.row_parts.proofs.SeenOnce.{same_is}
use Rattle.addr_rows.proofs.Fresh.{class_is}
use Rattle.row_parts.proofs.Cuts.{pattern_test}
use Rattle.row_parts.proofs.Lists.{or_false}
use Rattle.rv_mem.specs.declared.words.Seen.{Seen}
use Rattle.rv_mem.specs.declared.words.Seen.TheVariants.{Known, Untouched, Vacant}
use Rattle.rv_mem.specs.Seen.{is_known, is_there, is_untouched}
use Rattle.rv_script.specs.declared.access.Role.TheVariants.{Walk}
use Rattle.rv_script.specs.Bytes.{covers}
use Rattle.sv_walk.specs.declared.entry.View.{View}
use Rattle.sv_walk.specs.Entry.{is_invalid, is_pointer, page_number}
use Rattle.sv_walk.specs.Translation.{is_translated, root_address, second_address}
use Rattle.foot_map.specs.declared.touch.Touch.{Touch}
use Rattle.foot_map.specs.Races.{breaks, is_blocked}
use Rattle.fetch_ways.specs.Ways.{walk_at}
use Rattle.data_bytes.specs.Sets.{IsSetOf}
use Rattle.data_bytes.specs.declared.starts.DataAccess.{DataAccess}
use Rattle.data_bytes.specs.declared.starts.DataAccess.TheVariants.{Store}
use Rattle.data_bytes.proofs.Sets.{elements_are, filter_leaves}
use Rattle.data_bytes.proofs.Framing.{word_test}
use Rattle.data_ways.specs.declared.way.DataEnd.{DataEnd}
use Rattle.data_ways.specs.declared.way.DataEnd.TheVariants as ends
use Rattle.data_ways.specs.Internal.Barring.{bars, bars_behind, bars_by_root, is_barred, is_stored, races}
use Rattle.data_ways.specs.declared.barring.NewRoot.{NewRoot}
use Rattle.data_ways.specs.declared.barring.RootTable.{RootTable}
use Rattle.data_ways.specs.Internal.Tables.{IsPatternOf, IsRootTable, any_pointer, entry_of, index_at, is_always_barred, is_newly_barred, leads_on, meets, meets_behind}

-- INDICES
root_block : (ea index : ℕ) → ea < 2 ^ 32 → is_in_block (index * 4194304) 22 (ea % 2 ^ 32) ≡ (ea / 4194304 == index)
root_block ea index small = grind (arith, nat_tests)

second_block : (ea index : ℕ) → is_in_block (index * 4096) 12 (ea % 2 ^ 22) ≡ (ea / 4096 % 1024 == index)
second_block ea index = grind (arith, nat_tests)

pub root_pattern : (ea index : ℕ) → ea < 2 ^ 32 → (bit_and ea 4290772992 == index * 4194304) ≡ (ea / 4194304 == index)
root_pattern ea index small = pattern_test ea (index * 4194304) 32 22 (omega arith) (omega arith) ∙ root_block ea index small

pub second_pattern : (ea index : ℕ) → (bit_and ea 4190208 == index * 4096) ≡ (ea / 4096 % 1024 == index)
second_pattern ea index = pattern_test ea (index * 4096) 22 12 (omega arith) (omega arith) ∙ second_block ea index

pub slice_is : (level : Level) (index : ℕ) (p : ℕ × ℕ) (set : List ℕ) → IsPatternOf level index p → set ≡ elements_of (is_matching (p ∷ [])) → IsSetOf (λ ea. index_at level ea == index) set
slice_is level index p set is made ea small = elements_are (is_matching (p ∷ [])) set made ea small ∙ or_false (bit_and ea p.0 == p.1) ∙ is ea small

pub index_small : (level : Level) (ea : ℕ) → ea < 2 ^ 32 → index_at level ea < 1024
index_small Root ea small = omega (arith, small)
index_small Second ea small = omega arith

-- a loop over indices has come one further
pub index_further : (test : ℕ → Bool) (i k : ℕ) (old new : Bool) → new ≡ (old || (k == i && test i)) → old ≡ (nat_lt k i && test k) → new ≡ (nat_lt k (i + 1) && test k)
index_further test i k old new step before = step ∙ ap (λ (b : Bool). b || (k == i && test i)) before ∙ go (k == i) refl
  where
    go : (b : Bool) → (k == i) ≡ b → ((nat_lt k i && test k) || (b && test i)) ≡ (nat_lt k (i + 1) && test k)
    go true h =
        let e : k ≡ i = eqb-true k i h in
        let before : nat_lt k i ≡ false = grind (arith, nat_tests) in
        let here : nat_lt k (i + 1) ≡ true = lt-ltb k (i + 1) (omega (arith, e)) in
        ap (λ (b : Bool). (b && test k) || test i) before ∙ sym (ap (λ (b : Bool). b && test k) here ∙ ap test e)
    go false h =
        let same : nat_lt k i ≡ nat_lt k (i + 1) = grind (arith, nat_tests) in
        or_false (nat_lt k i && test k) ∙ ap (λ (b : Bool). b && test k) same

-- and is through
pub indices_through : (test : ℕ → Bool) (i k : ℕ) → k < 1024 → 1024 ≤ i → (nat_lt k i && test k) ≡ test k
indices_through test i k small end = ap (λ (b : Bool). b && test k) (lt-ltb k i (omega (arith, small, end)))

-- RACES
abbrev hits : ℕ → ℕ → Touch → Bool
hits hart addr touch = covers (walk_at addr) touch.byte && breaks (nat_eq touch.hart hart) touch.role Walk

-- what races with a walk blocks one of its bytes
blocked_byte : (ts : List Touch) (hart addr : ℕ) → list_any (hits hart addr) ts ≡ true → (b : ℕ) × (addr ≤ b) × (b < addr + 4) × (is_blocked ts hart Walk b ≡ true)
blocked_byte [] hart addr h = absurd (cc)
blocked_byte (t ∷ ts) hart addr h = elim (or_cases (hits hart addr t) (list_any (hits hart addr) ts) h) [
  | inl here ↦
      let p = and_parts (covers (walk_at addr) t.byte) (breaks (nat_eq t.hart hart) t.role Walk) here in
      let q = and_parts (nat_eq (t.byte / 4) (addr / 4)) (nat_le addr t.byte && nat_lt t.byte (addr + 4)) p.0 in
      let r = and_parts (nat_le addr t.byte) (nat_lt t.byte (addr + 4)) q.1 in
      (t.byte, leb-true addr t.byte r.0, ltb-true t.byte (addr + 4) r.1, or_left _ _ (and_from _ _ (eq-eqb t.byte t.byte refl) p.1))
  | inr there ↦ let r = blocked_byte ts hart addr there in (r.0, r.1, r.2, or_right _ _ r.3)
]

byte_near : (frame i b : ℕ) → i < 1024 → frame * 4096 + i * 4 ≤ b → b < frame * 4096 + i * 4 + 4 → (b - frame * 4096 < 4096) × (frame * 4096 + (b - frame * 4096) ≡ b)
byte_near frame i b small from below = (omega (arith, small, from, below), omega (arith, from))

-- where each byte of a frame is free no walk there races
pub frame_free : (at : ℕ → Seen) (feet : List Touch) (hart frame : ℕ) (free all : List ℕ)
    → free ≡ elements_of (λ x. nat_lt x 4096 && not (is_blocked feet hart Walk (frame * 4096 + x))) → IsSetOf (λ v. nat_le 0 v && nat_le v 4095) all → free ≡ all
    → (i : ℕ) → i < 1024 → races at feet hart (frame * 4096 + i * 4) ≡ false
frame_free at feet hart frame free all is whole same i small = go (list_any (hits hart addr) feet) refl (is_there (seen_at at addr))
  where
    addr : ℕ
    addr = frame * 4096 + i * 4

    open_byte : (x : ℕ) → x < 4096 → is_blocked feet hart Walk (frame * 4096 + x) ≡ false
    open_byte x lt =
        let word : x < 2 ^ 32 = omega (arith, lt) in
        let there : (nat_le 0 x && nat_le x 4095) ≡ true = grind (arith, nat_tests) in
        let both : (nat_lt x 4096 && not (is_blocked feet hart Walk (frame * 4096 + x))) ≡ true =
        sym (elements_are (λ y. nat_lt y 4096 && not (is_blocked feet hart Walk (frame * 4096 + y))) free is x word) ∙ ap (λ (s : List ℕ). is_in s x) same ∙ whole x word ∙ there in
        shut (is_blocked feet hart Walk (frame * 4096 + x)) (and_parts (nat_lt x 4096) (not (is_blocked feet hart Walk (frame * 4096 + x))) both).1
      where
        shut : (b : Bool) → not b ≡ true → b ≡ false
        shut true h = absurd (cc)
        shut false h = refl

    go : (b : Bool) → list_any (hits hart addr) feet ≡ b → (s : Bool) → (s && not (not b)) ≡ false
    go true h s =
        let r = blocked_byte feet hart addr h in
        let near = byte_near frame i r.0 small r.1 r.2 in
        let free_there : is_blocked feet hart Walk r.0 ≡ false = subst (λ (n : ℕ). is_blocked feet hart Walk n ≡ false) near.1 (open_byte (r.0 - frame * 4096) near.0) in
        let blocked_there : is_blocked feet hart Walk r.0 ≡ true = r.3 in
        absurd (cc)
    go false h true = refl
    go false h false = refl

-- STORES
-- the addresses with an index that lead to a known word
pub one_stored : (at : ℕ → Seen) (base mask frame index w : ℕ) (level : Level) (word leading slice own : List ℕ)
    → seen_at at (frame * 4096 + index * 4) ≡ Known w
    → IsSetOf (λ v. nat_le (frame * 4096 + index * 4) v && nat_le v (frame * 4096 + index * 4 + 3)) word
    → ((ea : ℕ) → ea < 2 ^ 32 → is_in leading ea ≡ is_in word ((base + bit_and ea mask) % 2 ^ 32))
    → IsSetOf (λ ea. index_at level ea == index) slice → own ≡ filter (is_in slice) leading
    → IsSetOf (λ ea. index_at level ea == index && is_stored at Store (ends.At base mask) ea (frame * 4096 + index * 4)) own
one_stored at base mask frame index w level word leading slice own seen bytes leads within made ea small =
    let addr : ℕ = frame * 4096 + index * 4 in
    let p : ℕ = (base + bit_and ea mask) % 2 ^ 32 in
    filter_leaves (is_in slice) leading own made ea
    ∙ ap (λ (b : Bool). b && is_in slice ea) (leads ea small ∙ bytes p (omega arith) ∙ word_test addr p (omega arith) ∙ flipped p addr)
    ∙ ap (λ (b : Bool). (addr / 4 == p / 4) && b) (within ea small)
    ∙ swapped (addr / 4 == p / 4) (index_at level ea == index)
    ∙ ap (λ (s : Seen). index_at level ea == index && (is_known s && (addr / 4 == p / 4))) (sym seen)
  where
    flipped : (a b : ℕ) → nat_eq (a / 4) (b / 4) ≡ nat_eq (b / 4) (a / 4)
    flipped a b = grind (arith, nat_tests)

    swapped : (a b : Bool) → (a && b) ≡ (b && (true && a))
    swapped true true = refl
    swapped true false = refl
    swapped false true = refl
    swapped false false = refl

-- WHAT BARS A WALK
-- a walk is barred whatever its new root entry is, or behind that
pub barred_parts : (at : ℕ → Seen) (feet : List Touch) (hart : ℕ) (v : View) (access : DataAccess) (end : DataEnd) (ea first : ℕ)
    → is_barred at feet hart v access end ea first ≡ (is_always_barred at feet hart v access end ea || is_newly_barred at feet hart v access end first ea)
barred_parts at feet hart v access end ea first = translating (is_translated v)
  where
    root : ℕ
    root = root_address v ea

    test : ℕ → Bool
    test = bars at feet hart access end ea

    behind : Bool
    behind = bars_behind at feet hart access end ea first

    rooting : (b : Bool) (s : Seen) → (b || bars_by_root at feet hart access end ea s first) ≡ ((b || leads_on s (λ frame. test (entry_of Second frame ea))) || (is_untouched s && behind))
    rooting b Vacant = sym (or_false (b || false))
    rooting b (Known w) = sym (or_false (b || bars_behind at feet hart access end ea w))
    rooting b Untouched = ap (λ (c : Bool). c || behind) (sym (or_false b))

    translating : (b : Bool) → (if b then test root || bars_by_root at feet hart access end ea (seen_at at root) first else false)
        ≡ ((if b then meets at v test ea else false) || (if b then meets_behind at v test first ea else false))
    translating true = rooting (test root) (seen_at at root)
    translating false = refl

both_or : (a b c d : Bool) → ((a || b) || (c || d)) ≡ ((b || d) || (a || c))
both_or true true c d = refl
both_or true false c true = refl
both_or true false c false = refl
both_or false true c d = refl
both_or false false true true = refl
both_or false false true false = refl
both_or false false false true = refl
both_or false false false false = refl

-- a walk that meets one of two kinds of words
pub meets_either : (at : ℕ → Seen) (v : View) (p q : ℕ → Bool) (ea : ℕ) → meets at v (λ w. p w || q w) ea ≡ (meets at v q ea || meets at v p ea)
meets_either at v p q ea = go (seen_at at root)
  where
    root : ℕ
    root = root_address v ea

    inside : (a b c d : Bool) → (not a && (b && (c || d))) ≡ ((not a && (b && c)) || (not a && (b && d)))
    inside true b c d = refl
    inside false true c d = refl
    inside false false c d = refl

    go : (s : Seen) → ((p root || q root) || leads_on s (λ frame. p (entry_of Second frame ea) || q (entry_of Second frame ea)))
        ≡ ((q root || leads_on s (λ frame. q (entry_of Second frame ea))) || (p root || leads_on s (λ frame. p (entry_of Second frame ea))))
    go Vacant = both_or (p root) (q root) false false
    go (Known w) =
        ap (λ (b : Bool). (p root || q root) || b) (inside (is_invalid w) (is_pointer w) (p (entry_of Second (page_number w) ea)) (q (entry_of Second (page_number w) ea)))
        ∙ both_or (p root) (q root) (not (is_invalid w) && (is_pointer w && p (entry_of Second (page_number w) ea))) (not (is_invalid w) && (is_pointer w && q (entry_of Second (page_number w) ea)))
    go Untouched = both_or (p root) (q root) false false

pub behind_either : (at : ℕ → Seen) (v : View) (p q : ℕ → Bool) (first ea : ℕ) → meets_behind at v (λ w. p w || q w) first ea ≡ (meets_behind at v q first ea || meets_behind at v p first ea)
behind_either at v p q first ea = go (is_untouched (seen_at at (root_address v ea))) (not (is_invalid first)) (is_pointer first) (p (second_address ea first)) (q (second_address ea first))
  where
    go : (a b c d e : Bool) → (a && (b && (c && (d || e)))) ≡ ((a && (b && (c && e))) || (a && (b && (c && d))))
    go true true true true true = refl
    go true true true true false = refl
    go true true true false true = refl
    go true true true false false = refl
    go true true false d e = refl
    go true false c d e = refl
    go false b c d e = refl

-- THE ROOT TABLE'S ENTRIES
same_untouched : (s : Seen) → seen_alike Untouched s ≡ is_untouched s
same_untouched (Known w) = refl
same_untouched Untouched = refl
same_untouched Vacant = refl

-- the addresses whose root entry is seen so
pub seen_is : (table : List Seen) (seen : Seen) (all set : List ℕ) → all ≡ elements_of (λ x. true)
    → ((x : ℕ) → x < 2 ^ 32 → is_in set x ≡ (is_in all x && has_class table seen (x % 2 ^ 32 / 2 ^ 22))) → IsSetOf (λ ea. has_class table seen (ea / 2 ^ 22)) set
seen_is table seen all set whole chosen ea small =
    let stays : ea % 2 ^ 32 ≡ ea = omega (arith, small) in
    chosen ea small
    ∙ ap (λ (b : Bool). b && has_class table seen (ea % 2 ^ 32 / 2 ^ 22)) (elements_are (λ x. true) all whole ea small)
    ∙ ap (λ (n : ℕ). has_class table seen (n / 2 ^ 22)) stays

pub untouched_is : (at : ℕ → Seen) (frame : ℕ) (table : List Seen) (set : List ℕ) → TableOf at frame table → IsSetOf (λ ea. has_class table Untouched (ea / 2 ^ 22)) set
    → IsSetOf (λ ea. is_untouched (entry_at at frame (ea / 2 ^ 22))) set
untouched_is at frame table set is seen ea small =
    seen ea small
    ∙ class_is at frame table Untouched (ea / 2 ^ 22) is (omega (arith, small))
    ∙ same_untouched (entry_at at frame (ea / 2 ^ 22))

-- POINTERS
nothing_given : (kinds : List Seen) (e : Seen) (ends : List End) → any_seen kinds e ≡ false → by_kind kinds e (λ k. ends) ≡ []
nothing_given [] e ends none = refl
nothing_given (k ∷ ks) e ends none = go (seen_alike k e) (any_seen ks e) (by_kind ks e (λ k. ends)) none (nothing_given ks e ends)
  where
    go : (here more : Bool) (rest : List End) → (here || more) ≡ false → (more ≡ false → rest ≡ []) → (when here ends ++ rest) ≡ []
    go true more rest h k = absurd (cc h)
    go false more rest h k = k h

-- what is seen in a table is one of the things that are seen in it
kind_there : (kinds : List Seen) (e : Seen) → ((f : Seen → List End) → by_kind kinds e f ≡ f e) → any_seen kinds e ≡ true
kind_there kinds e gives = go (any_seen kinds e) refl
  where
    go : (b : Bool) → any_seen kinds e ≡ b → b ≡ true
    go true h = refl
    go false h = let none : (Leaves ∷ []) ≡ [] = sym (gives (λ k. Leaves ∷ [])) ∙ nothing_given kinds e (Leaves ∷ []) h in absurd (cc none)

-- a loop over them has come one further
pub kinds_further : (leads : Seen → Bool) (kinds : List Seen) (i : ℕ) (d : Seen) (old new : Bool) → new ≡ (old || leads (get_or kinds i d)) → old ≡ list_any leads (take i kinds) → i < length kinds → new ≡ list_any leads (take (i + 1) kinds)
kinds_further leads kinds i d old new one before lt = one ∙ ap (λ (b : Bool). b || leads (get_or kinds i d)) before ∙ sym (list_any_more leads kinds i d lt)

led_more : (s a p q r : Bool) → (s ≡ true → q ≡ p) → r ≡ (a && p) → ((s && q) || r) ≡ ((s || a) && p)
led_more true a p q r one two = ap (λ (b : Bool). b || r) (one refl) ∙ ap (λ (b : Bool). p || b) two ∙ taken a p
  where
    taken : (a p : Bool) → (p || (a && p)) ≡ p
    taken true true = refl
    taken true false = refl
    taken false true = refl
    taken false false = refl
led_more false a p q r one two = two

-- a root entry leads on where one of the things that are seen in the table does which it is
pub pointed : (at : ℕ → Seen) (frame : ℕ) (table kinds : List Seen) (test : ℕ → Bool) (i : ℕ) → TableOf at frame table → GivesEach table kinds → i < 1024
    → list_any (λ k. has_class table k i && leads_on k test) kinds ≡ leads_on (entry_at at frame i) test
pointed at frame table kinds test i is gives small = led kinds ∙ ap (λ (b : Bool). b && leads_on e test) (kind_there kinds e (λ f. gives i e f (is.entries i small)))
  where
    e : Seen
    e = entry_at at frame i

    led : (ks : List Seen) → list_any (λ k. has_class table k i && leads_on k test) ks ≡ (any_seen ks e && leads_on e test)
    led [] = refl
    led (k ∷ ks) =
        ap (λ (s : Bool). (s && leads_on k test) || list_any (λ k. has_class table k i && leads_on k test) ks) (class_is at frame table k i is small)
        ∙ led_more (seen_alike k e) (any_seen ks e) (leads_on e test) (leads_on k test) (list_any (λ k. has_class table k i && leads_on k test) ks) (λ h. ap (λ (s : Seen). leads_on s test) (same_is k e h)) (led ks)

-- the loop over pointers has come one further
pub pointer_further : (old new here own t rest more all : Bool) → new ≡ (old || here) → here ≡ (t && own) → rest ≡ ((own && t) || more) → (old || rest) ≡ all → (new || more) ≡ all
pointer_further old new here own t rest more all a b c d =
    ap (λ (x : Bool). x || more) (a ∙ ap (λ (x : Bool). old || x) b) ∙ regrouped old t own more ∙ ap (λ (x : Bool). old || x) (sym c) ∙ d
  where
    regrouped : (a b c d : Bool) → ((a || (b && c)) || d) ≡ (a || ((c && b) || d))
    regrouped true b c d = refl
    regrouped false true true d = refl
    regrouped false true false d = refl
    regrouped false false true d = refl
    regrouped false false false d = refl

-- THE ROOT TABLE
pub table_is : (at : ℕ → Seen) (feet : List Touch) (hart : ℕ) (v : View) (table : RootTable) (behind : ℕ → Bool) → table.frame ≡ v.satp % 2 ^ 22
    → ((test : ℕ → Bool) (ea : ℕ) → ea < 2 ^ 32 → any_pointer table.pointers.items test ea ≡ leads_on (entry_at at table.frame (ea / 2 ^ 22)) test)
    → IsSetOf (λ ea. is_untouched (entry_at at table.frame (ea / 2 ^ 22))) table.untouched
    → IsSetOf (λ ea. races at feet hart (entry_of Root table.frame ea) || behind ea) table.racing
    → ((ea : ℕ) → ea < 2 ^ 32 → behind ea ≡ any_pointer table.pointers.items (λ frame. races at feet hart (entry_of Second frame ea)) ea)
    → IsRootTable at feet hart v table
table_is at feet hart v table behind is pointers untouched racing second = record {
  frame = is;
  pointers = λ test ea small. pointers test ea small ∙ ap (λ (n : ℕ). leads_on (entry_at at n (ea / 2 ^ 22)) test) is;
  untouched = λ ea small. untouched ea small ∙ ap (λ (n : ℕ). is_untouched (entry_at at n (ea / 2 ^ 22))) is;
  racing = λ ea small.
      let test : ℕ → Bool = λ frame. races at feet hart (entry_of Second frame ea) in
      racing ea small
      ∙ ap (λ (b : Bool). races at feet hart (entry_of Root table.frame ea) || b) (second ea small ∙ pointers test ea small)
      ∙ ap (λ (n : ℕ). races at feet hart (entry_of Root n ea) || leads_on (entry_at at n (ea / 2 ^ 22)) test) is;
}

-- what the root table bars
pub table_bars : (at : ℕ → Seen) (feet : List Touch) (hart : ℕ) (v : View) (access : DataAccess) (end : DataEnd) (table : RootTable) (first behind stored barred : List ℕ) → IsRootTable at feet hart v table
    → IsSetOf (λ ea. is_stored at access end ea (entry_of Root table.frame ea)) first
    → IsSetOf (λ ea. any_pointer table.pointers.items (λ frame. is_stored at access end ea (entry_of Second frame ea)) ea) behind
    → IsSetOf (λ ea. is_in first ea || is_in behind ea) stored → IsSetOf (λ ea. is_in stored ea || is_in table.racing ea) barred
    → IsSetOf (λ ea. meets at v (bars at feet hart access end ea) ea) barred
table_bars at feet hart v access end table first behind stored barred root one two three four ea small =
    let test : ℕ → Bool = λ frame. is_stored at access end ea (entry_of Second frame ea) in
    four ea small
    ∙ ap (λ (b : Bool). b || is_in table.racing ea) (three ea small ∙ ap (λ (b : Bool). b || is_in behind ea) (one ea small ∙ ap (λ (n : ℕ). is_stored at access end ea (entry_of Root n ea)) root.frame)
    ∙ ap (λ (b : Bool). is_stored at access end ea (root_address v ea) || b) (two ea small ∙ root.pointers test ea small))
    ∙ ap (λ (b : Bool). meets at v (is_stored at access end ea) ea || b) (root.racing ea small)
    ∙ sym (meets_either at v (races at feet hart) (is_stored at access end ea) ea)

-- an entry that is valid and a pointer
pub led_on : (w : ℕ) → is_invalid w ≡ false → is_pointer w ≡ true → (is_invalid w || not (is_pointer w)) ≡ false
led_on w h k = ap (λ (b : Bool). b || not (is_pointer w)) h ∙ ap (λ (b : Bool). not b) k

-- of the addresses whose root entry has no value yet those whose second entry passes, behind a new root entry
pub own_behind : (at : ℕ → Seen) (v : View) (test : ℕ → ℕ → Bool) (value frame : ℕ) (untouched set own : List ℕ) → IsSetOf (λ ea. is_untouched (seen_at at (root_address v ea))) untouched
    → frame ≡ page_number value → IsSetOf (λ ea. test ea (entry_of Second frame ea)) set → own ≡ filter (is_in untouched) set → (is_invalid value || not (is_pointer value)) ≡ false
    → IsSetOf (λ ea. meets_behind at v (test ea) value ea) own
own_behind at v test value frame untouched set own fresh is passes made valid ea small =
    filter_leaves (is_in untouched) set own made ea
    ∙ ap (λ (b : Bool). b && is_in untouched ea) (passes ea small ∙ ap (λ (n : ℕ). test ea (entry_of Second n ea)) is)
    ∙ ap (λ (b : Bool). test ea (second_address ea value) && b) (fresh ea small)
    ∙ go (test ea (second_address ea value)) (is_untouched (seen_at at (root_address v ea))) (is_invalid value) (is_pointer value) valid
  where
    go : (t u a b : Bool) → (a || not b) ≡ false → (t && u) ≡ (u && (not a && (b && t)))
    go t u true b h = absurd (cc)
    go t u false false h = absurd (cc)
    go true true false true h = refl
    go true false false true h = refl
    go false true false true h = refl
    go false false false true h = refl

-- what a new root entry bars
pub newly_bars : (at : ℕ → Seen) (feet : List Touch) (hart : ℕ) (v : View) (access : DataAccess) (end : DataEnd) (value : ℕ) (own racing barred : List ℕ) → is_translated v ≡ true
    → IsSetOf (λ ea. meets_behind at v (is_stored at access end ea) value ea) own → IsSetOf (λ ea. is_translated v && meets_behind at v (races at feet hart) value ea) racing
    → IsSetOf (λ ea. is_in own ea || is_in racing ea) barred → IsSetOf (is_newly_barred at feet hart v access end value) barred
newly_bars at feet hart v access end value own racing barred on one two three ea small =
    let stored : Bool = meets_behind at v (is_stored at access end ea) value ea in
    let raced : Bool = meets_behind at v (races at feet hart) value ea in
    three ea small
    ∙ ap (λ (b : Bool). b || is_in racing ea) (one ea small)
    ∙ ap (λ (b : Bool). stored || b) (two ea small ∙ ap (λ (b : Bool). b && raced) on)
    ∙ sym (behind_either at v (races at feet hart) (is_stored at access end ea) value ea)
    ∙ sym (ap (λ (b : Bool). if b then meets_behind at v (bars at feet hart access end ea) value ea else false) on)

-- the loop over values has come one further
pub values_further : (news new : List NewRoot) (n : NewRoot) (vs : List ℕ) (i : ℕ) → new ≡ news ++ n ∷ [] → n.value ≡ get_or vs i 0 → i < length vs
    → map (λ (r : NewRoot). r.value) news ++ drop i vs ≡ vs → map (λ (r : NewRoot). r.value) new ++ drop (i + 1) vs ≡ vs
values_further news new n vs i made is lt before =
    let value : NewRoot → ℕ = λ r. r.value in
    ap (λ (ns : List NewRoot). map value ns ++ drop (i + 1) vs) made
    ∙ ap (λ (ys : List ℕ). ys ++ drop (i + 1) vs) (map-append value news (n ∷ []))
    ∙ append_assoc (map value news) (n.value ∷ []) (drop (i + 1) vs)
    ∙ ap (λ (x : ℕ). map value news ++ (x ∷ drop (i + 1) vs)) is
    ∙ ap (λ (ys : List ℕ). map value news ++ ys) (sym (drop_more vs i 0 lt))
    ∙ before
