-- Places and words that get values unless they have some.
use Rattle.std.proofs.Common.{◌≡◌, ◌≢◌, ℕ, zero, suc, ◌+◌, ◌*◌, ◌/◌, ◌%◌, ◌<◌, ◌≤◌, Bool, true, false, leb, ltb, ◌&&◌, ◌||◌, List, [], ◌∷◌, length, take, get_or, Option, Some, None, if◌then◌else◌, refl, sym, ap, ◌∙◌, subst, inl, inr, arith}
use Rattle.std.specs.Prelude.{nat_eq}
use Rattle.std.specs.List.{list_all, list_any}
use Rattle.std.specs.Option.{is_some, unwrap_or}
use Rattle.std.proofs.lemmas.Bool.{cases_Bool, cases_eq, cases_lt, eq-eqb, ne_eqb, le-leb, lt-ltb, le-ltb}
use Rattle.std.proofs.lemmas.List.Folds.{list_any_more}
use Rattle.rv_csr.specs.Table.{csr_key, lazy_csrs}
use Rattle.rv_mem.specs.declared.words.Seen.{Seen}
use Rattle.rv_mem.specs.declared.words.Seen.TheVariants.{Known as KnownWord}
use Rattle.rv_mem.specs.Seen.{is_there}
use Rattle.tpl_ast.specs.declared.template.Region.{Region}
use Rattle.tpl_ast.specs.States.{AreStartWords, is_key, is_in_ram}
use Rattle.tpl_admit.specs.Starts.{lookup}
use Rattle.given_start.proofs.Lazy.{key_positive}
use Rattle.rv_system.specs.Fills.{even_place, filled}
use Rattle.rv_system.specs.Internal.Starting.{IsFilledMemory}

-- ---- one place

-- what is known after one place got a value, unless it had one
abbrev pub with_place : ℕ → ℕ → (ℕ → Option ℕ) → ℕ → Option ℕ
with_place key value known k = if nat_eq key k then Some (unwrap_or (known key) value) else known k

pub place_given : (old new : ℕ → Option ℕ) (key value : ℕ) (o : Option ℕ) → old key ≡ o → is_some o ≡ false → ((k : ℕ) → new k ≡ (if nat_eq key k then Some value else old k)) → (k : ℕ) → new k ≡ with_place key value old k
place_given old new key value None is none after k = after k ∙ ap (λ (o : Option ℕ). if nat_eq key k then Some (unwrap_or o value) else old k) (sym is)
place_given old new key value (Some v) is none after k = absurd (cc none)

pub place_kept : (old : ℕ → Option ℕ) (key value : ℕ) (o : Option ℕ) → old key ≡ o → is_some o ≡ true → (k : ℕ) → old k ≡ with_place key value old k
place_kept old key value None is some k = absurd (cc some)
place_kept old key value (Some v) is some k = elim (cases_eq key k) [
  | inl same ↦
      let here : old k ≡ Some v = ap old (sym same) ∙ is in
      here ∙ sym (rw (eq-eqb key k same) (ap (λ (o : Option ℕ). Some (unwrap_or o value)) is))
  | inr other ↦ rw (ne_eqb key k other) refl
]

-- ---- several places

abbrev pub with_places : Bool → ℕ → Option ℕ → Option ℕ
with_places b value known = if b then Some (unwrap_or known value) else known

given_twice : (b : Bool) (value : ℕ) (o : Option ℕ) → Some (unwrap_or (with_places b value o) value) ≡ Some (unwrap_or o value)
given_twice true value o = refl
given_twice false value o = refl

-- one register more
pub next_register : (first now new : ℕ → Option ℕ) (key value : ℕ) → 1 ≤ key → ((k : ℕ) → now k ≡ with_places (leb 1 k && ltb k key) value (first k)) → ((k : ℕ) → new k ≡ with_place key value now k)
    → (k : ℕ) → new k ≡ with_places (leb 1 k && ltb k (key + 1)) value (first k)
next_register first now new key value some before after k = after k ∙ elim (cases_eq key k) [
  | inl same ↦
      let some_k : 1 ≤ k = subst (λ (n : ℕ). 1 ≤ n) same some in
      let now_is : Some (unwrap_or (now key) value) ≡ Some (unwrap_or (first key) value) = ap (λ (o : Option ℕ). Some (unwrap_or o value)) (before key) ∙ given_twice (leb 1 key && ltb key key) value (first key) in
      rw (eq-eqb key k same, le-leb 1 k some_k, lt-ltb k (key + 1) (omega (arith, same))) (now_is ∙ ap (λ (n : ℕ). Some (unwrap_or (first n) value)) same)
  | inr other ↦ rw (ne_eqb key k other) (before k ∙ ap (λ (b : Bool). with_places (leb 1 k && b) value (first k)) (below k other))
]
  where
    below : (k : ℕ) → key ≢ k → ltb k key ≡ ltb k (key + 1)
    below k other = elim (cases_lt k key) [
      | inl less ↦ lt-ltb k key less ∙ sym (lt-ltb k (key + 1) (omega (arith, less)))
      | inr more ↦
          let past : key + 1 ≤ k = omega (arith, more, other) in
          le-ltb k key more ∙ sym (le-ltb k (key + 1) past)
    ]

abbrev pub is_listed : List ℕ → ℕ → Bool
is_listed keys k = list_any (λ key. nat_eq k key) keys

-- one key of a list more
pub next_key : (first now new : ℕ → Option ℕ) (keys : List ℕ) (i value : ℕ) → i < length keys → ((k : ℕ) → now k ≡ with_places (is_listed (take i keys) k) value (first k))
    → ((k : ℕ) → new k ≡ with_place (get_or keys i 0) value now k) → (k : ℕ) → new k ≡ with_places (is_listed (take (i + 1) keys) k) value (first k)
next_key first now new keys i value within before after k =
    let key : ℕ = get_or keys i 0 in
    after k ∙ step key ∙ ap (λ (b : Bool). with_places b value (first k)) (sym (list_any_more (λ (x : ℕ). nat_eq k x) keys i 0 within))
  where
    none_more : (b : Bool) → (b || false) ≡ b
    none_more true = refl
    none_more false = refl

    one_more : (b : Bool) → (b || true) ≡ true
    one_more true = refl
    one_more false = refl

    step : (key : ℕ) → with_place key value now k ≡ with_places (is_listed (take i keys) k || nat_eq k key) value (first k)
    step key = elim (cases_eq key k) [
      | inl same ↦
          let now_is : Some (unwrap_or (now key) value) ≡ Some (unwrap_or (first key) value) = ap (λ (o : Option ℕ). Some (unwrap_or o value)) (before key) ∙ given_twice (is_listed (take i keys) key) value (first key) in
          rw (eq-eqb key k same, eq-eqb k key (sym same), one_more) (now_is ∙ ap (λ (n : ℕ). Some (unwrap_or (first n) value)) same)
      | inr other ↦
          let apart : k ≢ key = λ e. other (sym e) in
          rw (ne_eqb key k other, ne_eqb k key apart, none_more) (before k)
    ]

pub passes_at : (test : ℕ → Bool) (xs : List ℕ) (i d : ℕ) → list_all test xs ≡ true → i < length xs → test (get_or xs i d) ≡ true
passes_at test [] i d all within = absurd (omega (arith, within))
passes_at test (x ∷ xs) zero d all within = first (test x) (list_all test xs) all
  where
    first : (b c : Bool) → (b && c) ≡ true → b ≡ true
    first true c e = refl
    first false c e = absurd (cc e)
passes_at test (x ∷ xs) (suc i) d all within = passes_at test xs i d (later (test x) (list_all test xs) all) (omega (arith, within))
  where
    later : (b c : Bool) → (b && c) ≡ true → c ≡ true
    later true c e = e
    later false c e = absurd (cc e)

pub third_passes : (a b c : Bool) → (a && (b && c)) ≡ true → c ≡ true
third_passes true true c e = e
third_passes true false c e = absurd (cc e)
third_passes false b c e = absurd (cc e)

-- ---- all places

abbrev pub is_register : ℕ → Bool
is_register k = leb 1 k && ltb k 32

both : (b c : Bool) → (b && c) ≡ true → (b ≡ true) × (c ≡ true)
both true c e = (refl, e)
both false c e = absurd (cc e)

not_large : (n : ℕ) → n < 32 → leb 32 n ≡ false
not_large n less = grind arith

true≢false : true ≡ false → ⊥
true≢false e = cc

-- no CSR has the key of a register
pub none_listed : (keys : List ℕ) (k : ℕ) → k < 32 → list_all (λ key. leb 32 key) keys ≡ true → is_listed keys k ≡ false
none_listed [] k small all = refl
none_listed (key ∷ keys) k small all =
    let parts = both (leb 32 key) (list_all (λ (x : ℕ). leb 32 x) keys) all in
    let apart : k ≢ key = λ same. true≢false (sym parts.0 ∙ subst (λ (n : ℕ). leb 32 n ≡ false) same (not_large k small)) in
    rw (ne_eqb k key apart) (none_listed keys k small parts.1)

listed_csr : (k : ℕ) → 32 ≤ k → is_key k ≡ true → list_any (λ addr. nat_eq k (csr_key addr)) lazy_csrs ≡ true
listed_csr k large is = go (ltb k 32) (le-ltb k 32 large) is
  where
    none : (b : Bool) → (b && false) ≡ false
    none true = refl
    none false = refl

    go : (b : Bool) → b ≡ false → ((leb 1 k && b) || list_any (λ (addr : ℕ). nat_eq k (csr_key addr)) lazy_csrs) ≡ true → list_any (λ (addr : ℕ). nat_eq k (csr_key addr)) lazy_csrs ≡ true
    go true e all = absurd (cc e)
    go false e all = rw none at all

-- ---- the places of a hart that got all values

-- after the registers got a value, and then the lazy CSRs of these keys zero
pub record AreGiven (before after : ℕ → Option ℕ) (fill : ℕ) : Type 0 where
  pub registers : (k : ℕ) → is_register k ≡ true → after k ≡ Some (unwrap_or (before k) fill)
  pub csrs : (k : ℕ) → 32 ≤ k → is_key k ≡ true → after k ≡ Some (unwrap_or (before k) 0)
  pub others : (k : ℕ) → is_key k ≡ false → after k ≡ before k

abbrev csr_keys : List ℕ
csr_keys = 0x1105 ∷ 0x1140 ∷ 0x1141 ∷ 0x1142 ∷ 0x1143 ∷ 0x1305 ∷ 0x1340 ∷ 0x1341 ∷ 0x1342 ∷ 0x1343 ∷ []

register_key : (k : ℕ) → is_register k ≡ true → (1 ≤ k) × (k < 32)
register_key k is = let parts = both (leb 1 k) (ltb k 32) is in (leb_le k parts.0, ltb_lt k parts.1)
  where
    leb_le : (n : ℕ) → leb 1 n ≡ true → 1 ≤ n
    leb_le n e = grind arith

    ltb_lt : (n : ℕ) → ltb n 32 ≡ true → n < 32
    ltb_lt n e = grind arith

no_register : (k : ℕ) → 32 ≤ k → is_register k ≡ false
no_register k large = go (leb 1 k) (ltb k 32) (le-ltb k 32 large)
  where
    go : (a b : Bool) → b ≡ false → (a && b) ≡ false
    go true b e = e
    go false b e = refl

neither : (b c : Bool) → (b || c) ≡ false → (b ≡ false) × (c ≡ false)
neither true c e = absurd (cc e)
neither false c e = (refl, e)

pub all_given : (before now after : ℕ → Option ℕ) (fill : ℕ) → ((k : ℕ) → now k ≡ with_places (is_register k) fill (before k)) → ((k : ℕ) → after k ≡ with_places (is_listed csr_keys k) 0 (now k)) → AreGiven before after fill
all_given before now after fill first second = record {
  registers = λ k is.
      let unlisted : is_listed csr_keys k ≡ false = none_listed csr_keys k (register_key k is).1 refl in
      second k ∙ ap (λ (b : Bool). with_places b 0 (now k)) unlisted ∙ first k ∙ ap (λ (b : Bool). with_places b fill (before k)) is;
  csrs = λ k large is.
      let was : now k ≡ before k = first k ∙ ap (λ (b : Bool). with_places b fill (before k)) (no_register k large) in
      second k ∙ ap (λ (b : Bool). with_places b 0 (now k)) (listed_csr k large is) ∙ ap (λ (o : Option ℕ). Some (unwrap_or o 0)) was;
  others = λ k is.
      let parts = neither (is_register k) (is_listed csr_keys k) is in
      second k ∙ ap (λ (b : Bool). with_places b 0 (now k)) parts.1 ∙ first k ∙ ap (λ (b : Bool). with_places b fill (before k)) parts.0;
}

-- each place has the value of the start, or else the fill's
pub given_value : (before after : ℕ → Option ℕ) (fill : ℕ) → AreGiven before after fill → (key v : ℕ) → after key ≡ Some v → filled before (even_place fill) key ≡ v
given_value before after fill given key v is = elim (cases_Bool (is_key key)) [
  | inl place ↦ elim (cases_lt key 32) [
    | inl small ↦
        let register : is_register key ≡ true = rw (le-leb 1 key (key_positive key place), lt-ltb key 32 small) refl in
        let both_are : Some (unwrap_or (before key) fill) ≡ Some v = sym (given.registers key register) ∙ is in
        rw (lt-ltb key 32 small) (cc both_are)
    | inr large ↦
        let both_are : Some (unwrap_or (before key) 0) ≡ Some v = sym (given.csrs key large place) ∙ is in
        rw (le-ltb key 32 large) (cc both_are)
  ]
  | inr other ↦ (let was : before key ≡ Some v = sym (given.others key other) ∙ is in ap (λ (o : Option ℕ). unwrap_or o (even_place fill key)) was)
]

pub given_known : (before after : ℕ → Option ℕ) (fill : ℕ) → AreGiven before after fill → (key : ℕ) → is_key key ≡ true → is_some (after key) ≡ true
given_known before after fill given key place = elim (cases_lt key 32) [
  | inl small ↦
      let register : is_register key ≡ true = rw (le-leb 1 key (key_positive key place), lt-ltb key 32 small) refl in
      ap (λ (o : Option ℕ). is_some o) (given.registers key register)
  | inr large ↦ ap (λ (o : Option ℕ). is_some o) (given.csrs key large place)
]

pub given_as : (before start after : ℕ → Option ℕ) (fill : ℕ) → ((key : ℕ) → before key ≡ start key) → AreGiven before after fill → AreGiven start after fill
given_as before start after fill same given = record {
  registers = λ k is. given.registers k is ∙ ap (λ (o : Option ℕ). Some (unwrap_or o fill)) (same k);
  csrs = λ k large is. given.csrs k large is ∙ ap (λ (o : Option ℕ). Some (unwrap_or o 0)) (same k);
  others = λ k is. given.others k is ∙ same k;
}

-- ---- words, one after another

-- the words that are left, and what is seen while they are put
pub record ArePut (ram : List Region) (words left : List (ℕ × ℕ)) (fill : ℕ) (at : ℕ → Seen) : Type 0 where
  pub from : ℕ
  pub words_are : AreStartWords ram from left
  pub there : (n : ℕ) → is_there (at n) ≡ is_in_ram ram (n * 4)
  pub kept : (n v : ℕ) → lookup left (n * 4) ≡ Some v → lookup words (n * 4) ≡ Some v
  pub values : (n v : ℕ) → at n ≡ KnownWord v → lookup left (n * 4) ≡ None → unwrap_or (lookup words (n * 4)) fill ≡ v

pub put_first : (ram : List Region) (words : List (ℕ × ℕ)) (fill : ℕ) (at : ℕ → Seen) → AreStartWords ram 0 words → IsFilledMemory ram [] fill at → ArePut ram words words fill at
put_first ram words fill at are even = record {
  from = 0;
  words_are = are;
  there = even.there;
  kept = λ n v is. is;
  values = λ n v is none. ap (λ (o : Option ℕ). unwrap_or o fill) none ∙ even.values n v is;
}

found_below : (ram : List Region) (from : ℕ) (ws : List (ℕ × ℕ)) (a : ℕ) → AreStartWords ram from ws → a < from → lookup ws a ≡ None
found_below ram from [] a is below = refl
found_below ram from (w ∷ ws) a is below =
    let other : w.0 ≢ a = λ same. absurd (omega (arith, same, is.0, below)) in
    rw (ne_eqb w.0 a other) (found_below ram (w.0 + 4) ws a is.4 (omega (arith, is.0, below)))

head_of : (ram : List Region) (words left rest : List (ℕ × ℕ)) (w : ℕ × ℕ) (fill : ℕ) (at : ℕ → Seen) → left ≡ w ∷ rest → (p : ArePut ram words left fill at) → AreStartWords ram p.from (w ∷ rest)
head_of ram words left rest w fill at split p = subst (AreStartWords ram p.from) split p.words_are

pub put_aligned : (ram : List Region) (words left rest : List (ℕ × ℕ)) (w : ℕ × ℕ) (fill : ℕ) (at : ℕ → Seen) → left ≡ w ∷ rest → ArePut ram words left fill at → w.0 % 4 ≡ 0
put_aligned ram words left rest w fill at split p = (head_of ram words left rest w fill at split p).1

pub put_there : (ram : List Region) (words left rest : List (ℕ × ℕ)) (w : ℕ × ℕ) (fill : ℕ) (at : ℕ → Seen) → left ≡ w ∷ rest → ArePut ram words left fill at → is_there (at (w.0 / 4)) ≡ true
put_there ram words left rest w fill at split p =
    let head = head_of ram words left rest w fill at split p in
    let aligned : w.0 % 4 ≡ 0 = head.1 in
    let back : w.0 / 4 * 4 ≡ w.0 = omega (arith, aligned) in
    p.there (w.0 / 4) ∙ ap (λ (a : ℕ). is_in_ram ram a) back ∙ head.2

pub put_next : (ram : List Region) (words left rest : List (ℕ × ℕ)) (w : ℕ × ℕ) (fill : ℕ) (at new : ℕ → Seen) → left ≡ w ∷ rest → ArePut ram words left fill at
    → new (w.0 / 4) ≡ KnownWord w.1 → ((n : ℕ) → n ≢ w.0 / 4 → new n ≡ at n) → ArePut ram words rest fill new
put_next ram words left rest w fill at new split p here others =
    let there_now : is_there (at (w.0 / 4)) ≡ true = put_there ram words left rest w fill at split p in
    record {
      from = w.0 + 4;
      words_are = head.4;
      there = λ n. elim (cases_eq n (w.0 / 4)) [
        | inl same ↦ ap (λ (i : ℕ). is_there (new i)) same ∙ ap (λ (s : Seen). is_there s) here ∙ sym there_now ∙ ap (λ (i : ℕ). is_there (at i)) (sym same) ∙ p.there n
        | inr apart ↦ ap (λ (s : Seen). is_there s) (others n apart) ∙ p.there n
      ];
      kept = λ n v is. p.kept n v (rest_found n v is);
      values = values;
    }
  where
    head : AreStartWords ram p.from (w ∷ rest)
    head = head_of ram words left rest w fill at split p

    here_found : (n : ℕ) → w.0 ≡ n * 4 → (lookup left (n * 4) ≡ Some w.1) × (lookup rest (n * 4) ≡ None)
    here_found n address = (rw (split, eq-eqb w.0 (n * 4) address) refl, found_below ram (w.0 + 4) rest (n * 4) head.4 (omega (arith, address)))

    other_found : (n : ℕ) → w.0 ≢ n * 4 → lookup left (n * 4) ≡ lookup rest (n * 4)
    other_found n other = rw (split, ne_eqb w.0 (n * 4) other) refl

    rest_found : (n v : ℕ) → lookup rest (n * 4) ≡ Some v → lookup left (n * 4) ≡ Some v
    rest_found n v is = elim (cases_eq w.0 (n * 4)) [
      | inl address ↦ (let no : None ≡ Some v = sym (here_found n address).1 ∙ is in absurd (cc no))
      | inr other ↦ other_found n other ∙ is
    ]

    values : (n v : ℕ) → new n ≡ KnownWord v → lookup rest (n * 4) ≡ None → unwrap_or (lookup words (n * 4)) fill ≡ v
    values n v is none = elim (cases_eq n (w.0 / 4)) [
      | inl same ↦
          let aligned : w.0 % 4 ≡ 0 = head.1 in
          let address : w.0 ≡ n * 4 = omega (arith, same, aligned) in
          let told : KnownWord w.1 ≡ KnownWord v = sym here ∙ ap new (sym same) ∙ is in
          let value : w.1 ≡ v = cc told in
          ap (λ (o : Option ℕ). unwrap_or o fill) (p.kept n w.1 (here_found n address).0) ∙ value
      | inr apart ↦
          let other : w.0 ≢ n * 4 = λ e. apart (omega (arith, e)) in
          p.values n v (sym (others n apart) ∙ is) (other_found n other ∙ none)
    ]

pub put_all : (ram : List Region) (words left : List (ℕ × ℕ)) (fill : ℕ) (at : ℕ → Seen) → left ≡ [] → ArePut ram words left fill at → IsFilledMemory ram words fill at
put_all ram words left fill at end p = record {
  there = p.there;
  values = λ n v is. p.values n v is (ap (λ (ws : List (ℕ × ℕ)). lookup ws (n * 4)) end);
}
