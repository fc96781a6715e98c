-- How many words a start gives: each step starts four at most, and its fetch two.
use Rattle.std.proofs.Common.{◌≡◌, ℕ, ◌+◌, ◌*◌, ◌/◌, ◌%◌, ◌<◌, ◌≤◌, ◌⊎◌, Bool, true, false, eqb, if◌then◌else◌, List, [], ◌∷◌, ◌++◌, length, Option, Some, None, refl, sym, ap, ◌∙◌, subst, inl, inr, arith}
use Rattle.std.specs.Option.{is_some, option_or}
use Rattle.std.proofs.lemmas.Bool.{cases_Bool, cases_eq, eq-eqb, eqb-true, ne_eqb}
use Rattle.rv_script.specs.declared.place.Place.{Place}
use Rattle.rv_script.specs.declared.place.Place.TheVariants.{Reg, Csr, Word}
use Rattle.rv_script.specs.Bytes.{word_address}
use Rattle.rv_script.specs.Folds.{Known}
use Rattle.rv_script.specs.Lists.{HasItem}
use Rattle.rv_script.specs.Logs.{same_place}
use Rattle.rv_script.proofs.Plays.{same_is}
use Rattle.part_told.specs.Words.{AreListed as AreWordsListed, ListsWords}
use Rattle.tpl_admit.specs.Starts.{lookup}
use Rattle.leaf_link.specs.Placing.{AreFourWords}
use Rattle.part_machine.specs.Whole.{Whole, given}
use Rattle.part_state.specs.Meaning.{IsTest, place_given}
use Rattle.turn_laws.specs.Given.{CanGive, all_given, given_to, known_at}
use Rattle.turn_laws.proofs.Places.{beside_one, known_one, test_one}

-- ---- words among places

abbrev word_in : Place → ℕ
word_in (Reg n) = 0
word_in (Csr addr) = 0
word_in (Word addr) = 1

abbrev pub words_in : List (Place × ℕ) → ℕ
words_in [] = 0
words_in (e ∷ es) = word_in e.0 + words_in es

length_last : (xs : List (ℕ × ℕ)) (x : ℕ × ℕ) → length (xs ++ x ∷ []) ≡ length xs + 1
length_last [] x = refl
length_last (y ∷ xs) x = let h = length_last xs x in omega (arith, h)

words_one : (k : ℕ) (place : Place) (v : ℕ) (w : Whole) → length (place_given k place v w).words ≡ length w.words + word_in place
words_one k (Reg n) v w = omega arith
words_one k (Csr addr) v w = omega arith
words_one k (Word addr) v w = length_last w.words (addr / 4, v)

pub words_given : (k : ℕ) (es : List (Place × ℕ)) (w : Whole) → length (all_given k es w).words ≡ length w.words + words_in es
words_given k [] w = omega arith
words_given k (e ∷ es) w = let one = words_one k e.0 e.1 w in let rest = words_given k es (place_given k e.0 e.1 w) in omega (arith, one, rest)

pub aligned_word : (addr : ℕ) → word_address addr % 4 ≡ 0
aligned_word addr = omega arith

-- ---- a certificate lists no more words than were given

abbrev removed : ℕ → List (ℕ × ℕ) → List (ℕ × ℕ)
removed n [] = []
removed n (e ∷ es) = if eqb n e.0 then removed n es else e ∷ removed n es

no_more : (n : ℕ) (es : List (ℕ × ℕ)) → length (removed n es) ≤ length es
no_more n [] = omega arith
no_more n (e ∷ es) = go (eqb n e.0) (no_more n es)
  where
    go : (b : Bool) → length (removed n es) ≤ length es → length (if b then removed n es else e ∷ removed n es) ≤ length (e ∷ es)
    go true h = omega (arith, h)
    go false h = omega (arith, h)

one_less : (n : ℕ) (es : List (ℕ × ℕ)) → is_some (given es n) ≡ true → length (removed n es) < length es
one_less n [] h = absurd (cc h)
one_less n (e ∷ es) h = go (eqb n e.0) h (no_more n es) (one_less n es)
  where
    go : (b : Bool) → is_some (option_or (given es n) (if b then Some e.1 else None)) ≡ true → length (removed n es) ≤ length es → (is_some (given es n) ≡ true → length (removed n es) < length es)
        → length (if b then removed n es else e ∷ removed n es) < length (e ∷ es)
    go true h le rest = omega (arith, le)
    go false h le rest = let s = rest (without (given es n) h) in omega (arith, s)
      where
        without : (o : Option ℕ) → is_some (option_or o None) ≡ true → is_some o ≡ true
        without None h = absurd (cc h)
        without (Some v) h = refl

kept_given : (n m : ℕ) (es : List (ℕ × ℕ)) → (n ≡ m → ⊥) → given (removed n es) m ≡ given es m
kept_given n m [] apart = refl
kept_given n m (e ∷ es) apart = go (eqb n e.0) refl (kept_given n m es apart)
  where
    go : (b : Bool) → eqb n e.0 ≡ b → given (removed n es) m ≡ given es m → given (if b then removed n es else e ∷ removed n es) m ≡ given (e ∷ es) m
    go false is h = ap (λ (o : Option ℕ). option_or o (if eqb m e.0 then Some e.1 else None)) h
    go true is h =
        let other : eqb m e.0 ≡ false = ne_eqb m e.0 (λ same. apart (eqb-true n e.0 is ∙ sym same)) in
        h ∙ sym (ap (λ (c : Bool). option_or (given es m) (if c then Some e.1 else None)) other ∙ or_none (given es m))
      where
        or_none : (o : Option ℕ) → option_or o None ≡ o
        or_none None = refl
        or_none (Some v) = refl

few_listed : (ram : List (ℕ × ℕ)) (from : ℕ) (pairs words : List (ℕ × ℕ)) → AreWordsListed ram from pairs → ((key v : ℕ) → lookup pairs key ≡ Some v → is_some (given words (key / 4)) ≡ true) → length pairs ≤ length words
few_listed ram from [] words are has = omega arith
few_listed ram from (e ∷ es) words are has =
    let own : is_some (given words (e.0 / 4)) ≡ true = has e.0 e.1 (ap (λ (b : Bool). if b then Some e.1 else lookup es e.0) (eq-eqb e.0 e.0 refl)) in
    let less = one_less (e.0 / 4) words own in
    let rest = few_listed ram (e.0 + 4) es (removed (e.0 / 4) words) are.4 (λ key v h.
    let low = found_low (e.0 + 4) es key v are.4 h in
    ap is_some (kept_given (e.0 / 4) (key / 4) words (λ same. absurd (omega (arith, same, low))))
    ∙ has key v (ap (λ (b : Bool). if b then Some e.1 else lookup es key) (ne_eqb e.0 key (λ same. absurd (omega (arith, same, low)))) ∙ h)) in
    omega (arith, less, rest)
  where
    found_low : (from : ℕ) (es : List (ℕ × ℕ)) (key v : ℕ) → AreWordsListed ram from es → lookup es key ≡ Some v → from ≤ key
    found_low from [] key v are h = absurd (cc h)
    found_low from (f ∷ es) key v are h = go (eqb f.0 key) refl h (found_low (f.0 + 4) es key v are.4)
      where
        go : (b : Bool) → eqb f.0 key ≡ b → (if b then Some f.1 else lookup es key) ≡ Some v → (lookup es key ≡ Some v → f.0 + 4 ≤ key) → from ≤ key
        go true is h rest = let same = eqb-true f.0 key is in let low = are.0 in omega (arith, same, low)
        go false is h rest = let more = rest h in let low = are.0 in omega (arith, more, low)

aligned_key : (ram : List (ℕ × ℕ)) (from : ℕ) (es : List (ℕ × ℕ)) (key v : ℕ) → AreWordsListed ram from es → lookup es key ≡ Some v → key % 4 ≡ 0
aligned_key ram from [] key v are h = absurd (cc h)
aligned_key ram from (e ∷ es) key v are h = go (eqb e.0 key) refl h (aligned_key ram (e.0 + 4) es key v are.4)
  where
    go : (b : Bool) → eqb e.0 key ≡ b → (if b then Some e.1 else lookup es key) ≡ Some v → (lookup es key ≡ Some v → key % 4 ≡ 0) → key % 4 ≡ 0
    go true is h rest = subst (λ (n : ℕ). n % 4 ≡ 0) (eqb-true e.0 key is) are.1
    go false is h rest = rest h

-- ---- some words at most

-- what is known isn't given again
not_again : (k addr v : ℕ) (es : List (Place × ℕ)) (w : Whole) → IsTest w → k < length w.harts → addr % 4 ≡ 0 → CanGive k es w → known_at k w (Word addr) ≡ Some v → (u : ℕ) → given_to es (Word addr) ≡ Some u → ⊥
not_again k addr v [] w test l aligned can known u h = absurd (cc h)
not_again k addr v (e ∷ es) w test l aligned can known u h = go (same_place e.0 (Word addr)) refl (λ still. not_again k addr v es (place_given k e.0 e.1 w) new more aligned can.3 still u)
  where
    new : IsTest (place_given k e.0 e.1 w)
    new = test_one k e.0 e.1 w test l can.0 can.1 can.2

    more : k < length (place_given k e.0 e.1 w).harts
    more = let same = (beside_one k e.0 e.1 w).harts in omega (arith, l, same)

    go : (c : Bool) → same_place e.0 (Word addr) ≡ c → (known_at k (place_given k e.0 e.1 w) (Word addr) ≡ Some v → given_to es (Word addr) ≡ Some u → ⊥) → ⊥
    go true same rest = let none : known_at k w (Word addr) ≡ None = ap (known_at k w) (sym (same_is e.0 (Word addr) same)) ∙ can.0.unknown in absurd (cc (sym none ∙ known))
    go false same rest =
        let still : known_at k (place_given k e.0 e.1 w) (Word addr) ≡ Some v = known_one k e.0 e.1 w test l can.0 can.1 can.2 (Word addr) aligned ∙ ap (λ (c : Bool). if c then Some e.1 else known_at k w (Word addr)) same ∙ known in
        rest still (sym (ap (λ (c : Bool). if c then Some e.1 else given_to es (Word addr)) same) ∙ h)

-- the addresses without one
abbrev but : ℕ → List ℕ → List ℕ
but addr [] = []
but addr (a ∷ addrs) = if eqb addr a then but addr addrs else a ∷ but addr addrs

no_more_but : (addr : ℕ) (addrs : List ℕ) → length (but addr addrs) ≤ length addrs
no_more_but addr [] = omega arith
no_more_but addr (a ∷ addrs) = go (eqb addr a) (no_more_but addr addrs)
  where
    go : (b : Bool) → length (but addr addrs) ≤ length addrs → length (if b then but addr addrs else a ∷ but addr addrs) ≤ length (a ∷ addrs)
    go true h = omega (arith, h)
    go false h = omega (arith, h)

one_but : (addr : ℕ) (addrs : List ℕ) → HasItem addrs addr → length (but addr addrs) < length addrs
one_but addr [] i = absurd i
one_but addr (a ∷ addrs) i = elim (cases_Bool (eqb addr a)) [
  | inl same ↦ let rest = no_more_but addr addrs in let e : length (but addr (a ∷ addrs)) ≡ length (but addr addrs) = ap (λ (b : Bool). length (if b then but addr addrs else a ∷ but addr addrs)) same in omega (arith, rest, e)
  | inr apart ↦
      let e : length (but addr (a ∷ addrs)) ≡ length (a ∷ but addr addrs) = ap (λ (b : Bool). length (if b then but addr addrs else a ∷ but addr addrs)) apart in
      elim i [
        | inl is ↦ absurd (cc (sym (eq-eqb addr a (sym is)) ∙ apart))
        | inr later ↦ let rest = one_but addr addrs later in omega (arith, rest, e)
      ]
]

still_but : (addr : ℕ) (addrs : List ℕ) (a : ℕ) → HasItem addrs a → (addr ≡ a → ⊥) → HasItem (but addr addrs) a
still_but addr [] a i apart = absurd i
still_but addr (b ∷ addrs) a i apart = go (eqb addr b) refl (λ later. still_but addr addrs a later apart)
  where
    go : (c : Bool) → eqb addr b ≡ c → (HasItem addrs a → HasItem (but addr addrs) a) → HasItem (if c then but addr addrs else b ∷ but addr addrs) a
    go true same rest = elim i [
      | inl is ↦ absurd (apart (eqb-true addr b same ∙ is))
      | inr later ↦ rest later
    ]
    go false other rest = elim i [
      | inl is ↦ inl is
      | inr later ↦ inr (rest later)
    ]

of_but : (addr : ℕ) (addrs : List ℕ) (a : ℕ) → HasItem (but addr addrs) a → HasItem addrs a
of_but addr [] a i = absurd i
of_but addr (b ∷ addrs) a i = go (eqb addr b) i (λ j. of_but addr addrs a j)
  where
    go : (c : Bool) → HasItem (if c then but addr addrs else b ∷ but addr addrs) a → (HasItem (but addr addrs) a → HasItem addrs a) → HasItem (b ∷ addrs) a
    go true j rest = inr (rest j)
    go false j rest = elim j [
      | inl is ↦ inl is
      | inr later ↦ inr (rest later)
    ]

-- of words at some addresses no more are given than there are addresses
pub words_among : (k : ℕ) (addrs : List ℕ) (es : List (Place × ℕ)) (w : Whole) → IsTest w → k < length w.harts → ((a : ℕ) → HasItem addrs a → a % 4 ≡ 0) → CanGive k es w → ((a u : ℕ) → given_to es (Word a) ≡ Some u → HasItem addrs a) → words_in es ≤ length addrs
words_among k addrs [] w test l aligned can only = omega arith
words_among k addrs (e ∷ es) w test l aligned can only = go e.0 refl (λ left has all. words_among k left es (place_given k e.0 e.1 w) new more has can.3 all)
  where
    new : IsTest (place_given k e.0 e.1 w)
    new = test_one k e.0 e.1 w test l can.0 can.1 can.2

    more : k < length (place_given k e.0 e.1 w).harts
    more = let same = (beside_one k e.0 e.1 w).harts in omega (arith, l, same)

    skipped : (same : (a : ℕ) → same_place e.0 (Word a) ≡ false) (a u : ℕ) → given_to es (Word a) ≡ Some u → HasItem addrs a
    skipped same a u h = only a u (ap (λ (c : Bool). if c then Some e.1 else given_to es (Word a)) (same a) ∙ h)

    go : (place : Place) → e.0 ≡ place → ((left : List ℕ) → ((a : ℕ) → HasItem left a → a % 4 ≡ 0) → ((a u : ℕ) → given_to es (Word a) ≡ Some u → HasItem left a) → words_in es ≤ length left) → word_in e.0 + words_in es ≤ length addrs
    go (Reg n) is rest =
        let none : word_in e.0 ≡ 0 = ap word_in is in
        let h = rest addrs aligned (skipped (λ a. ap (λ (p : Place). same_place p (Word a)) is)) in
        omega (arith, none, h)
    go (Csr n) is rest =
        let none : word_in e.0 ≡ 0 = ap word_in is in
        let h = rest addrs aligned (skipped (λ a. ap (λ (p : Place). same_place p (Word a)) is)) in
        omega (arith, none, h)
    go (Word own) is rest =
        let item : HasItem addrs own = only own e.1 (ap (λ (c : Bool). if c then Some e.1 else given_to es (Word own)) (ap (λ (p : Place). same_place p (Word own)) is ∙ eq-eqb own own refl)) in
        let known : known_at k (place_given k e.0 e.1 w) (Word own) ≡ Some e.1 =
        known_one k e.0 e.1 w test l can.0 can.1 can.2 (Word own) (aligned own item) ∙ ap (λ (c : Bool). if c then Some e.1 else known_at k w (Word own)) (ap (λ (p : Place). same_place p (Word own)) is ∙ eq-eqb own own refl) in
        let h = rest (but own addrs) (λ a i. aligned a (of_but own addrs a i)) (λ a u given. elim (cases_eq own a) [
          | inl same ↦ absurd (not_again k own e.1 es (place_given k e.0 e.1 w) new more (aligned own item) can.3 known u (ap (λ (n : ℕ). given_to es (Word n)) same ∙ given))
          | inr apart ↦ still_but own addrs a (only a u (ap (λ (c : Bool). if c then Some e.1 else given_to es (Word a)) (ap (λ (p : Place). same_place p (Word a)) is ∙ ne_eqb own a apart) ∙ given)) apart
        ]) in
        let less = one_but own addrs item in
        let one : word_in e.0 ≡ 1 = ap word_in is in
        omega (arith, one, h, less)

pub two_words : (k one two : ℕ) (es : List (Place × ℕ)) (w : Whole) → IsTest w → k < length w.harts → one % 4 ≡ 0 → two % 4 ≡ 0 → CanGive k es w → ((a u : ℕ) → given_to es (Word a) ≡ Some u → (a ≡ one) ⊎ (a ≡ two)) → words_in es ≤ 2
two_words k one two es w test l first second can only =
    words_among k (one ∷ two ∷ []) es w test l (λ a i. elim i [
      | inl is ↦ subst (λ (n : ℕ). n % 4 ≡ 0) is first
      | inr j ↦ elim j [
        | inl is ↦ subst (λ (n : ℕ). n % 4 ≡ 0) is second
        | inr none ↦ absurd none
      ]
    ]) can (λ a u h. elim (only a u h) [
      | inl is ↦ inl (sym is)
      | inr is ↦ inr (inl (sym is))
    ])

pub four_words : (k pa : ℕ) (new : Known) (es : List (Place × ℕ)) (w : Whole) → IsTest w → k < length w.harts → pa % 4 ≡ 0 → AreFourWords new pa → CanGive k es w → ((a u : ℕ) → given_to es (Word a) ≡ Some u → new (Word a) ≡ Some u) → words_in es ≤ 4
four_words k pa new es w test l aligned are can only =
    words_among k (pa ∷ are.first ∷ are.second ∷ are.third ∷ []) es w test l (λ a i. elim i [
      | inl is ↦ subst (λ (n : ℕ). n % 4 ≡ 0) is aligned
      | inr j ↦ elim j [
        | inl is ↦ subst (λ (n : ℕ). n % 4 ≡ 0) is are.first_aligned
        | inr m ↦ elim m [
          | inl is ↦ subst (λ (n : ℕ). n % 4 ≡ 0) is are.second_aligned
          | inr q ↦ elim q [
            | inl is ↦ subst (λ (n : ℕ). n % 4 ≡ 0) is are.third_aligned
            | inr none ↦ absurd none
          ]
        ]
      ]
    ]) can (λ a u h. elim (are.one a u (only a u h)) [
      | inl is ↦ inl (sym is)
      | inr j ↦ elim j [
        | inl is ↦ inr (inl (sym is))
        | inr m ↦ elim m [
          | inl is ↦ inr (inr (inl (sym is)))
          | inr is ↦ inr (inr (inr (inl (sym is))))
        ]
      ]
    ])

pub few_words : (ram words pairs : List (ℕ × ℕ)) → ListsWords ram words pairs → length pairs ≤ length words
few_words ram words pairs lists = few_listed ram 0 pairs words lists.listed (λ key v h.
    let aligned = aligned_key ram 0 pairs key v lists.listed h in
    let same : key ≡ key / 4 * 4 = omega (arith, aligned) in
    ap is_some (sym (lists.values (key / 4)) ∙ ap (lookup pairs) (sym same) ∙ h))
