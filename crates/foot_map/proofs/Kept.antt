-- What a change of one page changes.
use Rattle.std.proofs.Common.{◌≡◌, ℕ, ◌/◌, ◌%◌, ◌^◌, ◌<◌, inl, inr, Bool, true, false, ◌&&◌, ◌||◌, not, cond, eqb, List, [], ◌∷◌, Option, Some, None, refl, sym, ap, ◌∙◌, subst, arith}
use Rattle.std.specs.BTreeMap.{BTreeMap, get, is_at}
use Rattle.std.specs.Map.{lookup}
use Rattle.std.proofs.lemmas.Bool.{cases_eq, eq-eqb, ne_eqb, lt-ltb, and_from, false_from_ne_true, both_ways}
use Rattle.rv_script.specs.declared.access.Role.{Role}
use Rattle.lane_bits.specs.Pages.{has as has_offset}
use Rattle.foot_map.specs.declared.touch.Touch.{Touch}
use Rattle.foot_map.specs.Order.{by_place}
use Rattle.foot_map.specs.Touches.{has, is_triple}
use Rattle.foot_map.specs.Pages.{place_of, is_on, is_kept, touches_of, kept}
use Rattle.foot_map.proofs.Orders.{triple, triple_is, triple_refl, place_is}
use Rattle.foot_map.proofs.Numbered.{is_possible, has_touches}

pub has_kept : (pages : BTreeMap Touch (List ℕ)) (b h : ℕ) (r : Role) → has (kept pages) b h r ≡ (is_possible b h && is_on (get by_place pages (place_of (triple b h r))) (b % 4096))
unfolding is_kept
has_kept pages b h r = has_touches (is_kept pages) b h r

possible : (b h : ℕ) → b < 2 ^ 32 → h < 256 → is_possible b h ≡ true
possible b h lb lh = and_from _ _ (lt-ltb b (2 ^ 32) lb) (lt-ltb h 256 lh)

pub has_here : (pages : BTreeMap Touch (List ℕ)) (b h : ℕ) (r : Role) → b < 2 ^ 32 → h < 256 → has (kept pages) b h r ≡ is_on (get by_place pages (place_of (triple b h r))) (b % 4096)
has_here pages b h r lb lh = has_kept pages b h r ∙ ap (λ (g : Bool). g && is_on (get by_place pages (place_of (triple b h r))) (b % 4096)) (possible b h lb lh)

no_triples : (touches : List Touch) → ((t : Touch) → has touches t.byte t.hart t.role ≡ false) → touches ≡ []
no_triples [] none = refl
no_triples (t ∷ ts) none = absurd (both_ways _ (none t) (ap (λ (b : Bool). b || has ts t.byte t.hart t.role) (triple_refl t)))

-- no pages hold nothing
pub nothing_kept : (pages : BTreeMap Touch (List ℕ)) → pages.entries ≡ [] → kept pages ≡ []
nothing_kept pages none = no_triples (kept pages) (λ t.
    has_kept pages t.byte t.hart t.role
    ∙ ap (λ (es : List (Touch × List ℕ)). is_possible t.byte t.hart && is_on (lookup (is_at (by_place (place_of t))) es) (t.byte % 4096)) none
    ∙ off (is_possible t.byte t.hart)) where
      off : (g : Bool) → (g && false) ≡ false
      off true = refl
      off false = refl

-- ---- one page changes

guarded : (f : Bool → Bool → Bool) → ((k : Bool) → f k false ≡ k) → (g k e : Bool) → (e ≡ true → g ≡ true) → (g && f k e) ≡ f (g && k) e
guarded f same true k e h = refl
guarded f same false k true h = absurd (both_ways false refl (h refl))
guarded f same false k false h = sym (same false)

-- in one frame, hart and role the triples are told apart by their offsets
same_place : (t : Touch) (b h : ℕ) (r : Role) → place_of t ≡ place_of (triple b h r) → is_triple t b h r ≡ eqb (b % 4096) (t.byte % 4096)
same_place t b h r is = elim (cases_eq (b % 4096) (t.byte % 4096)) [
  | inl same ↦ (
      let frame : t.byte / 4096 ≡ b / 4096 = ap (λ (u : Touch). u.byte) is in
      let byte : t.byte ≡ b = omega arith in
      let hart : t.hart ≡ h = ap (λ (u : Touch). u.hart) is in
      let role : t.role ≡ r = ap (λ (u : Touch). u.role) is in
      (λ i. is_triple t (sym byte i) (sym hart i) (sym role i)) ∙ triple_refl t ∙ sym (eq-eqb (b % 4096) (t.byte % 4096) same)
      )
  | inr other ↦ (
      false_from_ne_true (is_triple t b h r) (λ e. other (sym (ap (λ (u : Touch). u.byte % 4096) (triple_is t b h r e))))
      ∙ sym (ne_eqb (b % 4096) (t.byte % 4096) other)
      )
]

-- a change of the page of a triple, at its offset, is a change of that triple
pub changed : (f : Bool → Bool → Bool) → ((k : Bool) → f k false ≡ k) → (old new : BTreeMap Touch (List ℕ)) (t : Touch) → t.byte < 2 ^ 32 → t.hart < 256
    → ((x : ℕ) → is_on (get by_place new (place_of t)) x ≡ f (is_on (get by_place old (place_of t)) x) (eqb x (t.byte % 4096)))
    → ((q : Touch) → is_at (by_place (place_of t)) q ≡ false → get by_place new q ≡ get by_place old q)
    → (b h : ℕ) (r : Role) → has (kept new) b h r ≡ f (has (kept old) b h r) (is_triple t b h r)
changed f same old new t lb lh here away b h r =
    has_kept new b h r
    ∙ ap (λ (k : Bool). is_possible b h && k) (go (is_at (by_place (place_of t)) (place_of (triple b h r))) refl)
    ∙ guarded f same (is_possible b h) (is_on (get by_place old (place_of (triple b h r))) (b % 4096)) (is_triple t b h r)
    (λ e. let u = triple_is t b h r e in possible b h (subst (λ (v : Touch). v.byte < 2 ^ 32) u lb) (subst (λ (v : Touch). v.hart < 256) u lh))
    ∙ ap (λ (k : Bool). f k (is_triple t b h r)) (sym (has_kept old b h r)) where
      go : (a : Bool) → is_at (by_place (place_of t)) (place_of (triple b h r)) ≡ a
          → is_on (get by_place new (place_of (triple b h r))) (b % 4096) ≡ f (is_on (get by_place old (place_of (triple b h r))) (b % 4096)) (is_triple t b h r)
      go true e =
          let p : place_of t ≡ place_of (triple b h r) = triple_is (place_of t) (b / 4096) h r (sym (place_is (place_of t) (place_of (triple b h r))) ∙ e) in
          ap (λ (q : Touch). is_on (get by_place new q) (b % 4096)) (sym p)
          ∙ here (b % 4096)
          ∙ (λ i. f (is_on (get by_place old (p i)) (b % 4096)) (sym (same_place t b h r p) i))
      go false e =
          ap (λ (o : Option (List ℕ)). is_on o (b % 4096)) (away (place_of (triple b h r)) e)
          ∙ sym (same (is_on (get by_place old (place_of (triple b h r))) (b % 4096)))
          ∙ ap (f (is_on (get by_place old (place_of (triple b h r))) (b % 4096))) (sym (false_from_ne_true (is_triple t b h r) (λ is.
          both_ways _ e (place_is (place_of t) (place_of (triple b h r)) ∙ ap (λ (u : Touch). is_triple (place_of t) (u.byte / 4096) u.hart u.role) (sym (triple_is t b h r is)) ∙ triple_refl (place_of t)))))

pub or_same : (k : Bool) → (k || false) ≡ k
or_same true = refl
or_same false = refl

pub and_not_same : (k : Bool) → (k && not false) ≡ k
and_not_same true = refl
and_not_same false = refl

-- ---- `get_mut` and `insert`

-- the page of a triple is put in, or another takes its place
pub one_page : (f : Bool → Bool → Bool) → ((k : Bool) → f k false ≡ k) → (old new : BTreeMap Touch (List ℕ)) (t p : Touch) (page : List ℕ) (x : ℕ) → t.byte < 2 ^ 32 → t.hart < 256
    → p ≡ place_of t → x ≡ t.byte % 4096
    → ((q : Touch) → get by_place new q ≡ cond (is_at (by_place p) q) (Some page) (get by_place old q))
    → ((y : ℕ) → has_offset page y ≡ f (is_on (get by_place old p) y) (eqb y x))
    → (b h : ℕ) (r : Role) → has (kept new) b h r ≡ f (has (kept old) b h r) (is_triple t b h r)
one_page f same old new t p page x lb lh place offset updates is =
    changed f same old new t lb lh
    (λ y. ap (λ (o : Option (List ℕ)). is_on o y)
    (updates (place_of t) ∙ ap (λ (a : Bool). cond a (Some page) (get by_place old (place_of t)))
    (ap (λ (u : Touch). is_at (by_place u) (place_of t)) place ∙ place_is (place_of t) (place_of t) ∙ triple_refl (place_of t)))
    ∙ is y ∙ (λ i. f (is_on (get by_place old (place i)) y) (eqb y (offset i))))
    (λ q away. updates q ∙ ap (λ (a : Bool). cond a (Some page) (get by_place old q)) (ap (λ (u : Touch). is_at (by_place u) q) place ∙ away))

-- a triple with no page is not in the set
pub no_page : (pages : BTreeMap Touch (List ℕ)) (t p : Touch) → p ≡ place_of t → get by_place pages p ≡ None → has (kept pages) t.byte t.hart t.role ≡ false
no_page pages t p place none =
    has_kept pages t.byte t.hart t.role
    ∙ ap (λ (o : Option (List ℕ)). is_possible t.byte t.hart && is_on o (t.byte % 4096)) (ap (get by_place pages) (sym place) ∙ none)
    ∙ off (is_possible t.byte t.hart) where
      off : (g : Bool) → (g && false) ≡ false
      off true = refl
      off false = refl

-- so to take it out changes nothing
pub none_taken : (pages : BTreeMap Touch (List ℕ)) (t p : Touch) → p ≡ place_of t → get by_place pages p ≡ None
    → (b h : ℕ) (r : Role) → has (kept pages) b h r ≡ (has (kept pages) b h r && not (is_triple t b h r))
none_taken pages t p place none b h r = go (is_triple t b h r) refl where
  go : (a : Bool) → is_triple t b h r ≡ a → has (kept pages) b h r ≡ (has (kept pages) b h r && not a)
  go false e = sym (and_not_same (has (kept pages) b h r))
  go true e =
      let out : has (kept pages) b h r ≡ false = ap (λ (u : Touch). has (kept pages) u.byte u.hart u.role) (sym (triple_is t b h r e)) ∙ no_page pages t p place none in
      rw out refl

pub same_entries : (m n : BTreeMap Touch (List ℕ)) → m.entries ≡ n.entries → kept m ≡ kept n
unfolding is_kept
same_entries m n e = λ i. touches_of (λ t. is_on (lookup (is_at (by_place (place_of t))) (e i)) (t.byte % 4096))
