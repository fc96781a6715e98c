-- What the pages of a frame say of its bytes.
use Rattle.std.proofs.Common.{◌≡◌, ℕ, ◌+◌, ◌*◌, ◌/◌, ◌%◌, ◌<◌, ◌⊎◌, inl, inr, Bool, true, false, ◌&&◌, ◌||◌, not, cond, eqb, List, [], ◌∷◌, filter, Option, Some, None, refl, sym, ap, ◌∙◌, arith}
use Rattle.std.specs.declared.cmp.Ordering.TheVariants.{Less}
use Rattle.std.specs.declared.ops.Bound.TheVariants.{Included, Excluded}
use Rattle.std.specs.BTreeMap.{BTreeMap, get, is_at}
use Rattle.std.specs.BTreeMap.Range.{range_contains}
use Rattle.std.specs.List.{list_any, find, AllByRecursion}
use Rattle.std.specs.List.Sorted.{IsStrictlySortedBy}
use Rattle.std.specs.Map.{lookup, keys_of}
use Rattle.std.specs.Ordering.{is_gt, is_eq, is_le}
use Rattle.std.proofs.lemmas.Bool.{and_parts, and_from, or_cases, or_left, or_right, true≢false, both_ways, false_from_ne_true, eq-eqb, eqb-true, cases_lt}
use Rattle.std.proofs.lemmas.Cmp.{tied_itself}
use Rattle.rv_script.specs.declared.access.Role.{Role}
use Rattle.rv_script.specs.declared.access.Role.TheVariants.{Fetch}
use Rattle.lane_bits.specs.Pages.{has as has_offset}
use Rattle.foot_map.specs.declared.touch.Touch.{Touch}
use Rattle.foot_map.specs.declared.clash.Clash.{Clash}
use Rattle.foot_map.specs.Order.{by_place}
use Rattle.foot_map.specs.Touches.{has, is_triple}
use Rattle.foot_map.specs.Races.{breaks, is_blocked, has_race, IsClash, IsNotAfter}
use Rattle.foot_map.specs.Pages.{place_of, is_on, kept, AreWithin}
use Rattle.foot_map.proofs.Orders.{triple, triple_is, triple_refl, place_is, by_place_total, start_le, le_start, upto_parts}
use Rattle.foot_map.proofs.Kept.{has_kept, has_here}

abbrev pub Entry : Type 0
Entry = Touch × List ℕ

-- a page with the offset breaks with the hart's access in the role
abbrev pub is_clashing : ℕ → Role → ℕ → Entry → Bool
is_clashing hart role x e = breaks (eqb e.0.hart hart) e.0.role role && has_offset e.1 x

-- ---- lists of pages

abbrev pub Among : Entry → List Entry → Type 0
Among e [] = ⊥
Among e (x ∷ xs) = (x ≡ e) ⊎ Among e xs

pub any_among : (p : Entry → Bool) (es : List Entry) → list_any p es ≡ true → (e : Entry) × Among e es × (p e ≡ true)
any_among p [] h = absurd (true≢false (sym h))
any_among p (x ∷ xs) h = elim (or_cases (p x) (list_any p xs) h) [
  | inl here ↦ (x, inl refl, here)
  | inr there ↦ (let r = any_among p xs there in (r.0, inr r.1, r.2))
]

pub among_any : (p : Entry → Bool) (es : List Entry) (e : Entry) → Among e es → p e ≡ true → list_any p es ≡ true
among_any p [] e h pass = absurd h
among_any p (x ∷ xs) e (inl here) pass = or_left (p x) (list_any p xs) (ap p here ∙ pass)
among_any p (x ∷ xs) e (inr there) pass = or_right (p x) (list_any p xs) (among_any p xs e there pass)

pub among_filter : (g : Entry → Bool) (es : List Entry) (e : Entry) → Among e (filter g es) → Among e es × (g e ≡ true)
among_filter g [] e h = absurd h
among_filter g (x ∷ xs) e h = step (g x) refl h (among_filter g xs e) where
  step : (a : Bool) → g x ≡ a → Among e (cond a (x ∷ filter g xs) (filter g xs)) → (Among e (filter g xs) → Among e xs × (g e ≡ true)) → ((x ≡ e) ⊎ Among e xs) × (g e ≡ true)
  step true is (inl here) ih = (inl here, ap g (sym here) ∙ is)
  step true is (inr there) ih = let r = ih there in (inr r.0, r.1)
  step false is there ih = let r = ih there in (inr r.0, r.1)

pub filter_among : (g : Entry → Bool) (es : List Entry) (e : Entry) → Among e es → g e ≡ true → Among e (filter g es)
filter_among g [] e h pass = absurd h
filter_among g (x ∷ xs) e h pass = step (g x) refl h (filter_among g xs e) where
  step : (a : Bool) → g x ≡ a → (x ≡ e) ⊎ Among e xs → (Among e xs → g e ≡ true → Among e (filter g xs)) → Among e (cond a (x ∷ filter g xs) (filter g xs))
  step true is (inl here) ih = inl here
  step true is (inr there) ih = inr (ih there pass)
  step false is (inl here) ih = absurd (both_ways (g x) is (ap g here ∙ pass))
  step false is (inr there) ih = ih there pass

after_all : (k : Touch) (es : List Entry) (e : Entry) → AllByRecursion (λ y. by_place k y ≡ Less) (keys_of es) → Among e es → by_place k e.0 ≡ Less
after_all k [] e all h = absurd h
after_all k (x ∷ xs) e all (inl here) = ap (λ (u : Entry). by_place k u.0) (sym here) ∙ all.0
after_all k (x ∷ xs) e all (inr there) = after_all k xs e all.1 there

-- each page is found at its place
pub among_get : (es : List Entry) (e : Entry) → IsStrictlySortedBy by_place (keys_of es) → Among e es → lookup (is_at (by_place e.0)) es ≡ Some e.1
unfolding IsStrictlySortedBy
among_get [] e s h = absurd h
among_get (x ∷ xs) e s (inl here) =
    ap (λ (b : Bool). cond b (Some x.1) (lookup (is_at (by_place e.0)) xs)) (ap (λ (u : Entry). is_at (by_place e.0) u.0) here ∙ place_is e.0 e.0 ∙ triple_refl e.0)
    ∙ ap (λ (u : Entry). Some u.1) here
among_get (x ∷ xs) e s (inr there) =
    ap (λ (b : Bool). cond b (Some x.1) (lookup (is_at (by_place e.0)) xs)) (false_from_ne_true (is_at (by_place e.0) x.0) (λ is. apart (after_all x.0 xs e s.0 there) is))
    ∙ among_get xs e s.1 there where
      apart : by_place x.0 e.0 ≡ Less → is_at (by_place e.0) x.0 ≡ true → ⊥
      apart less is =
          let same : e.0 ≡ x.0 = triple_is e.0 x.0.byte x.0.hart x.0.role (sym (place_is e.0 x.0) ∙ is) in
          both_ways (is_eq (by_place x.0 e.0)) (ap is_eq less) (ap is_eq (ap (by_place x.0) same ∙ tied_itself by_place_total x.0))

pub get_among : (es : List Entry) (q : Touch) (page : List ℕ) → lookup (is_at (by_place q)) es ≡ Some page → Among (q, page) es
get_among [] q page h = absurd cc
get_among (x ∷ xs) q page h = step (is_at (by_place q) x.0) refl h (get_among xs q page) where
  same_some : (a b : List ℕ) → Some a ≡ Some b → a ≡ b
  same_some a b e = cc

  step : (a : Bool) → is_at (by_place q) x.0 ≡ a → cond a (Some x.1) (lookup (is_at (by_place q)) xs) ≡ Some page
      → (lookup (is_at (by_place q)) xs ≡ Some page → Among (q, page) xs) → (x ≡ (q, page)) ⊎ Among (q, page) xs
  step true is k ih = inl (let same : q ≡ x.0 = triple_is q x.0.byte x.0.hart x.0.role (sym (place_is q x.0) ∙ is) in λ i. (sym same i, same_some x.1 page k i))
  step false is k ih = inr (ih k)

-- ---- the first that passes

pub found_among : (p : Entry → Bool) (es : List Entry) (e : Entry) → find p es ≡ Some e → Among e es × (p e ≡ true)
found_among p [] e h = absurd cc
found_among p (x ∷ xs) e h = step (p x) refl h (found_among p xs e) where
  same_some : (a b : Entry) → Some a ≡ Some b → a ≡ b
  same_some a b is = cc

  step : (a : Bool) → p x ≡ a → cond a (Some x) (find p xs) ≡ Some e → (find p xs ≡ Some e → Among e xs × (p e ≡ true)) → ((x ≡ e) ⊎ Among e xs) × (p e ≡ true)
  step true is k ih = let here = same_some x e k in (inl here, ap p (sym here) ∙ is)
  step false is k ih = let r = ih k in (inr r.0, r.1)

pub first_among : (p : Entry → Bool) (es : List Entry) (e u : Entry) → IsStrictlySortedBy by_place (keys_of es) → find p es ≡ Some e → Among u es → p u ≡ true → is_gt (by_place e.0 u.0) ≡ false
unfolding IsStrictlySortedBy
first_among p [] e u s is h pass = absurd h
first_among p (x ∷ xs) e u s is h pass = step (p x) refl is h (λ k there. first_among p xs e u s.1 k there pass) where
  same_some : (a b : Entry) → Some a ≡ Some b → a ≡ b
  same_some a b k = cc

  step : (a : Bool) → p x ≡ a → cond a (Some x) (find p xs) ≡ Some e → (x ≡ u) ⊎ Among u xs → (find p xs ≡ Some e → Among u xs → is_gt (by_place e.0 u.0) ≡ false) → is_gt (by_place e.0 u.0) ≡ false
  step true t k (inl here) ih = ap is_gt ((λ i. by_place (sym (same_some x e k) i).0 (sym here i).0) ∙ tied_itself by_place_total x.0)
  step true t k (inr there) ih = ap is_gt (ap (λ (v : Entry). by_place v.0 u.0) (sym (same_some x e k)) ∙ after_all x.0 xs u s.0 there)
  step false t k (inl here) ih = absurd (both_ways (p x) t (ap p here ∙ pass))
  step false t k (inr there) ih = ih k there

pub none_among : (p : Entry → Bool) (es : List Entry) (u : Entry) → find p es ≡ None → Among u es → p u ≡ false
none_among p [] u is h = absurd h
none_among p (x ∷ xs) u is h = step (p x) refl is h (none_among p xs u) where
  step : (a : Bool) → p x ≡ a → cond a (Some x) (find p xs) ≡ None → (x ≡ u) ⊎ Among u xs → (find p xs ≡ None → Among u xs → p u ≡ false) → p u ≡ false
  step true t k h ih = absurd cc
  step false t k (inl here) ih = ap p (sym here) ∙ t
  step false t k (inr there) ih = ih k there

pub find_filter : {X : Type 0} (f p : X → Bool) (xs : List X) → find p (filter f xs) ≡ find (λ x. f x && p x) xs
find_filter f p [] = refl
find_filter f p (x ∷ xs) = step (f x) (find_filter f p xs) where
  step : (a : Bool) → find p (filter f xs) ≡ find (λ y. f y && p y) xs
      → find p (cond a (x ∷ filter f xs) (filter f xs)) ≡ cond (a && p x) (Some x) (find (λ y. f y && p y) xs)
  step true h = ap (cond (p x) (Some x)) h
  step false h = h

-- ---- the pages of a frame

abbrev pub is_between : Touch → Touch → Entry → Bool
is_between low high e = range_contains by_place (Included low) (Excluded high) e.0

pub between_is : (low high : Touch) (frame : ℕ) (e : Entry) → low ≡ triple frame 0 Fetch → high ≡ triple (frame + 1) 0 Fetch → is_between low high e ≡ true → e.0.byte ≡ frame
between_is low high frame e is_low is_high h =
    let p = and_parts (is_le (by_place low e.0)) (not (is_le (by_place high e.0))) h in
    let from = le_start frame e.0 (ap (λ (t : Touch). is_le (by_place t e.0)) (sym is_low) ∙ p.0) in
    elim (cases_lt e.0.byte (frame + 1)) [
      | inl below ↦ omega arith
      | inr past ↦ absurd (true≢false (sym p.1 ∙ ap not (ap (λ (t : Touch). is_le (by_place t e.0)) is_high ∙ start_le (frame + 1) e.0 past)))
    ]

pub is_between_from : (low high : Touch) (frame : ℕ) (e : Entry) → low ≡ triple frame 0 Fetch → high ≡ triple (frame + 1) 0 Fetch → e.0.byte ≡ frame → is_between low high e ≡ true
is_between_from low high frame e is_low is_high here =
    and_from (is_le (by_place low e.0)) (not (is_le (by_place high e.0)))
    (ap (λ (t : Touch). is_le (by_place t e.0)) is_low ∙ start_le frame e.0 (omega arith))
    (ap not (false_from_ne_true (is_le (by_place high e.0)) (λ past. let from = le_start (frame + 1) e.0 (ap (λ (t : Touch). is_le (by_place t e.0)) (sym is_high) ∙ past) in omega arith)))

-- ---- pages and triples

-- what a page holds is in the set
pub entry_held : (m : BTreeMap Touch (List ℕ)) → IsStrictlySortedBy by_place (keys_of m.entries) → AreWithin m → (e : Entry) (x : ℕ) → x < 4096 → Among e m.entries → has_offset e.1 x ≡ true
    → has (kept m) (e.0.byte * 4096 + x) e.0.hart e.0.role ≡ true
entry_held m sorted within e x lt h on =
    let at : get by_place m e.0 ≡ Some e.1 = among_get m.entries e sorted h in
    let low = within e.0 e.1 at in
    let byte : (e.0.byte * 4096 + x) / 4096 ≡ e.0.byte = omega arith in
    let offset : (e.0.byte * 4096 + x) % 4096 ≡ x = omega arith in
    has_here m (e.0.byte * 4096 + x) e.0.hart e.0.role (omega (arith, low.0)) low.1
    ∙ (λ i. is_on (get by_place m (triple (byte i) e.0.hart e.0.role)) (offset i))
    ∙ ap (λ (o : Option (List ℕ)). is_on o x) at
    ∙ on

-- and what is in the set stands on a page
on_page : (o : Option (List ℕ)) (x : ℕ) → is_on o x ≡ true → (page : List ℕ) × (o ≡ Some page) × (has_offset page x ≡ true)
on_page None x h = absurd (true≢false (sym h))
on_page (Some page) x h = (page, refl, h)

pub held_entry : (m : BTreeMap Touch (List ℕ)) (b h : ℕ) (r : Role) → has (kept m) b h r ≡ true
    → (page : List ℕ) × Among (triple (b / 4096) h r, page) m.entries × (has_offset page (b % 4096) ≡ true)
held_entry m b h r is =
    let parts = and_parts _ _ (sym (has_kept m b h r) ∙ is) in
    let p = on_page (get by_place m (place_of (triple b h r))) (b % 4096) parts.1 in
    (p.0, get_among m.entries (place_of (triple b h r)) p.0 p.1, p.2)

-- ---- tests of the set

pub any_has : (p : Touch → Bool) (ts : List Touch) → list_any p ts ≡ true → (t : Touch) × (has ts t.byte t.hart t.role ≡ true) × (p t ≡ true)
any_has p [] h = absurd (true≢false (sym h))
any_has p (x ∷ xs) h = elim (or_cases (p x) (list_any p xs) h) [
  | inl here ↦ (x, or_left (is_triple x x.byte x.hart x.role) (has xs x.byte x.hart x.role) (triple_refl x), here)
  | inr there ↦ (let r = any_has p xs there in (r.0, or_right (is_triple x r.0.byte r.0.hart r.0.role) (has xs r.0.byte r.0.hart r.0.role) r.1, r.2))
]

pub has_any : (p : Touch → Bool) (ts : List Touch) (b h : ℕ) (r : Role) → has ts b h r ≡ true → p (triple b h r) ≡ true → list_any p ts ≡ true
has_any p [] b h r is pass = absurd (true≢false (sym is))
has_any p (x ∷ xs) b h r is pass = elim (or_cases (is_triple x b h r) (has xs b h r) is) [
  | inl here ↦ or_left (p x) (list_any p xs) (ap p (triple_is x b h r here) ∙ pass)
  | inr there ↦ or_right (p x) (list_any p xs) (has_any p xs b h r there pass)
]

pub blocked_by : (ts : List Touch) (hart : ℕ) (role : Role) (b : ℕ) → is_blocked ts hart role b ≡ true
    → (h : ℕ) × (r : Role) × (has ts b h r ≡ true) × (breaks (eqb h hart) r role ≡ true)
blocked_by ts hart role b is =
    let t = any_has (λ t. eqb t.byte b && breaks (eqb t.hart hart) t.role role) ts is in
    let parts = and_parts (eqb t.0.byte b) (breaks (eqb t.0.hart hart) t.0.role role) t.2 in
    (t.0.hart, t.0.role, ap (λ (n : ℕ). has ts n t.0.hart t.0.role) (sym (eqb-true t.0.byte b parts.0)) ∙ t.1, parts.1)

pub blocked_from : (ts : List Touch) (hart : ℕ) (role : Role) (b h : ℕ) (r : Role) → has ts b h r ≡ true → breaks (eqb h hart) r role ≡ true → is_blocked ts hart role b ≡ true
blocked_from ts hart role b h r is broken =
    has_any (λ t. eqb t.byte b && breaks (eqb t.hart hart) t.role role) ts b h r is (and_from (eqb b b) (breaks (eqb h hart) r role) (eq-eqb b b refl) broken)

pub same_tests : (a b : Bool) → (a ≡ true → b ≡ true) → (b ≡ true → a ≡ true) → a ≡ b
same_tests true b f g = sym (f refl)
same_tests false true f g = g refl
same_tests false false f g = refl

-- ---- a byte of a frame

pub blocked_is : (m : BTreeMap Touch (List ℕ)) (low high : Touch) (frame hart x : ℕ) (role : Role) → IsStrictlySortedBy by_place (keys_of m.entries) → AreWithin m
    → low ≡ triple frame 0 Fetch → high ≡ triple (frame + 1) 0 Fetch → x < 4096
    → list_any (is_clashing hart role x) (filter (is_between low high) m.entries) ≡ is_blocked (kept m) hart role (frame * 4096 + x)
blocked_is m low high frame hart x role sorted within is_low is_high lt = same_tests _ _
    (λ h.
    let found = any_among (is_clashing hart role x) (filter (is_between low high) m.entries) h in
    let e = found.0 in
    let there = among_filter (is_between low high) m.entries e found.1 in
    let here = between_is low high frame e is_low is_high there.1 in
    let parts = and_parts (breaks (eqb e.0.hart hart) e.0.role role) (has_offset e.1 x) found.2 in
    blocked_from (kept m) hart role (frame * 4096 + x) e.0.hart e.0.role
    (ap (λ (n : ℕ). has (kept m) (n * 4096 + x) e.0.hart e.0.role) (sym here) ∙ entry_held m sorted within e x lt there.0 parts.1)
    parts.0)
    (λ h.
    let by = blocked_by (kept m) hart role (frame * 4096 + x) h in
    let page = held_entry m (frame * 4096 + x) by.0 by.1 by.2 in
    let byte : (frame * 4096 + x) / 4096 ≡ frame = omega arith in
    let offset : (frame * 4096 + x) % 4096 ≡ x = omega arith in
    let e : Entry = (triple ((frame * 4096 + x) / 4096) by.0 by.1, page.0) in
    among_any (is_clashing hart role x) (filter (is_between low high) m.entries) e
    (filter_among (is_between low high) m.entries e page.1 (is_between_from low high frame e is_low is_high byte))
    (and_from (breaks (eqb by.0 hart) by.1 role) (has_offset page.0 x) by.3 (ap (has_offset page.0) (sym offset) ∙ page.2)))

-- ---- the first clash on a byte

pub clash_found : (m : BTreeMap Touch (List ℕ)) (low high : Touch) (byte hart : ℕ) (role : Role) (e : Entry) → IsStrictlySortedBy by_place (keys_of m.entries) → AreWithin m
    → low ≡ triple (byte / 4096) 0 Fetch → high ≡ triple (byte / 4096 + 1) 0 Fetch
    → find (is_clashing hart role (byte % 4096)) (filter (is_between low high) m.entries) ≡ Some e
    → IsClash (kept m) hart role byte 1 (record { byte = byte; hart = e.0.hart; role = e.0.role })
clash_found m low high byte hart role e sorted within is_low is_high is =
    let found = found_among (is_clashing hart role (byte % 4096)) (filter (is_between low high) m.entries) e is in
    let there = among_filter (is_between low high) m.entries e found.0 in
    let here = between_is low high (byte / 4096) e is_low is_high there.1 in
    let parts = and_parts (breaks (eqb e.0.hart hart) e.0.role role) (has_offset e.1 (byte % 4096)) found.1 in
    let at : byte ≡ e.0.byte * 4096 + byte % 4096 = omega arith in
    record {
      held = ap (λ (n : ℕ). has (kept m) n e.0.hart e.0.role) at ∙ entry_held m sorted within e (byte % 4096) (omega arith) there.0 parts.1;
      from = omega arith;
      below = omega arith;
      broken = parts.0;
    }

-- a clash on the byte stands on a page of its frame
clash_entry : (m : BTreeMap Touch (List ℕ)) (low high : Touch) (byte hart : ℕ) (role : Role) (d : Clash)
    → low ≡ triple (byte / 4096) 0 Fetch → high ≡ triple (byte / 4096 + 1) 0 Fetch → IsClash (kept m) hart role byte 1 d
    → (u : Entry) × Among u m.entries × ((is_between low high u && is_clashing hart role (byte % 4096) u) ≡ true) × (u.0 ≡ triple (byte / 4096) d.hart d.role)
clash_entry m low high byte hart role d is_low is_high clash =
    let same : d.byte ≡ byte = (let from = clash.from in let below = clash.below in omega arith) in
    let page = held_entry m d.byte d.hart d.role clash.held in
    let u : Entry = (triple (d.byte / 4096) d.hart d.role, page.0) in (
      u,
      page.1,
      and_from (is_between low high u) (is_clashing hart role (byte % 4096) u)
          (is_between_from low high (byte / 4096) u is_low is_high (ap (λ (n : ℕ). n / 4096) same))
          (and_from (breaks (eqb d.hart hart) d.role role) (has_offset page.0 (byte % 4096)) clash.broken (ap (λ (n : ℕ). has_offset page.0 (n % 4096)) (sym same) ∙ page.2)),
      ap (λ (n : ℕ). triple (n / 4096) d.hart d.role) same,
    )

pub clash_least : (m : BTreeMap Touch (List ℕ)) (low high : Touch) (byte hart : ℕ) (role : Role) (e : Entry) → IsStrictlySortedBy by_place (keys_of m.entries)
    → low ≡ triple (byte / 4096) 0 Fetch → high ≡ triple (byte / 4096 + 1) 0 Fetch
    → find (is_clashing hart role (byte % 4096)) (filter (is_between low high) m.entries) ≡ Some e
    → (d : Clash) → IsClash (kept m) hart role byte 1 d → IsNotAfter (record { byte = byte; hart = e.0.hart; role = e.0.role }) d
clash_least m low high byte hart role e sorted is_low is_high is d clash =
    let p = is_clashing hart role (byte % 4096) in
    let whole = sym (find_filter (is_between low high) p m.entries) ∙ is in
    let both : Entry → Bool = λ (v : Entry). is_between low high v && is_clashing hart role (byte % 4096) v in
    let u = clash_entry m low high byte hart role d is_low is_high clash in
    let found = found_among both m.entries e whole in
    let here = between_is low high (byte / 4096) e is_low is_high (and_parts (is_between low high e) (p e) found.1).0 in
    let first = first_among both m.entries e u.0 sorted whole u.1 u.2 in
    let same : byte ≡ d.byte = (let from = clash.from in let below = clash.below in omega arith) in
    elim (upto_parts e.0 (triple (byte / 4096) d.hart d.role) (ap (λ (t : Touch). is_gt (by_place e.0 t)) (sym u.3) ∙ first)) [
      | inl less ↦ absurd (omega arith)
      | inr rest ↦ inr (same, rest.1)
    ]

pub no_clash : (m : BTreeMap Touch (List ℕ)) (low high : Touch) (byte hart : ℕ) (role : Role)
    → low ≡ triple (byte / 4096) 0 Fetch → high ≡ triple (byte / 4096 + 1) 0 Fetch
    → find (is_clashing hart role (byte % 4096)) (filter (is_between low high) m.entries) ≡ None
    → (d : Clash) → IsClash (kept m) hart role byte 1 d → ⊥
no_clash m low high byte hart role is_low is_high is d clash =
    let whole = sym (find_filter (is_between low high) (is_clashing hart role (byte % 4096)) m.entries) ∙ is in
    let u = clash_entry m low high byte hart role d is_low is_high clash in
    both_ways _ (none_among (λ (v : Entry). is_between low high v && is_clashing hart role (byte % 4096) v) m.entries u.0 whole u.1) u.2

-- ---- races

-- no byte of a page is blocked for its own hart and role
abbrev pub IsFine : BTreeMap Touch (List ℕ) → Entry → Type 0
IsFine m e = (x : ℕ) → x < 4096 → has_offset e.1 x ≡ true → is_blocked (kept m) e.0.hart e.0.role (e.0.byte * 4096 + x) ≡ false

pub race_there : (m : BTreeMap Touch (List ℕ)) → IsStrictlySortedBy by_place (keys_of m.entries) → AreWithin m → (e : Entry) (x : ℕ) → x < 4096 → Among e m.entries → has_offset e.1 x ≡ true
    → is_blocked (kept m) e.0.hart e.0.role (e.0.byte * 4096 + x) ≡ true → has_race (kept m) ≡ true
race_there m sorted within e x lt h on blocked =
    has_any (λ t. is_blocked (kept m) t.hart t.role t.byte) (kept m) (e.0.byte * 4096 + x) e.0.hart e.0.role (entry_held m sorted within e x lt h on) blocked

pub no_race : (m : BTreeMap Touch (List ℕ)) → ((e : Entry) → Among e m.entries → IsFine m e) → has_race (kept m) ≡ false
no_race m fine = false_from_ne_true (has_race (kept m)) (λ is.
    let t = any_has (λ t. is_blocked (kept m) t.hart t.role t.byte) (kept m) is in
    let page = held_entry m t.0.byte t.0.hart t.0.role t.1 in
    let at : t.0.byte / 4096 * 4096 + t.0.byte % 4096 ≡ t.0.byte = omega arith in
    both_ways _
    (sym (ap (is_blocked (kept m) t.0.hart t.0.role) at) ∙ fine (triple (t.0.byte / 4096) t.0.hart t.0.role, page.0) page.1 (t.0.byte % 4096) (omega arith) page.2)
    t.2)

-- ---- pages joined one after another

pub joined_in : (now was on broken rest : Bool) → now ≡ (was || on) → broken ≡ true → (now || rest) ≡ (was || ((broken && on) || rest))
joined_in now was on broken rest is yes_broken = rw (is, yes_broken) (assoc was on rest) where
  assoc : (a b c : Bool) → ((a || b) || c) ≡ (a || (b || c))
  assoc true b c = refl
  assoc false b c = refl

pub left_out : (was on broken rest : Bool) → broken ≡ false → (was || rest) ≡ (was || ((broken && on) || rest))
left_out was on broken rest not_broken = rw not_broken refl

pub or_nothing : (b : Bool) → b ≡ (b || false)
or_nothing true = refl
or_nothing false = refl
