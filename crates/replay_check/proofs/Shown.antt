-- Memory of which the words of a start are given.
use Rattle.std.proofs.Common.{◌≡◌, ◌≢◌, ℕ, zero, suc, ◌+◌, ◌*◌, ◌/◌, ◌%◌, ◌<◌, ◌≤◌, Bool, true, false, cond, eqb, nat_eq, List, [], ◌∷◌, ◌++◌, length, get_or, map, Option, Some, None, if◌then◌else◌, refl, sym, ap, ◌∙◌, subst, inl, inr, arith}
use Rattle.std.specs.Prelude.{◌↔◌}
use Rattle.std.specs.Option.{is_some, unwrap_or}
use Rattle.std.proofs.lemmas.Bool.{cases_Bool, eqb-true, eq-eqb, ne_eqb}
use Rattle.rv_mem.specs.declared.words.Seen.{Seen}
use Rattle.rv_mem.specs.declared.words.Seen.TheVariants.{Known, Untouched, Vacant}
use Rattle.rv_mem.specs.Seen.{known_word, is_there}
use Rattle.rv_mem.specs.Part.{valued}
use Rattle.rv_script.specs.declared.access.Access.{Access}
use Rattle.rv_script.specs.Memory.{word_after, accessed, memory_after}
use Rattle.rv_hart.specs.Effects.{seen_word_after, seen_accessed, seen_after}
use Rattle.tpl_ast.specs.declared.template.Region.{Region}
use Rattle.tpl_admit.specs.Starts.{zero_elsewhere, lookup}
use Rattle.tpl_ast.specs.States.{AreStartWords, is_in_ram}
use Rattle.replay_check.specs.Internal.Memory.{given_word, seen_given, Shows}
use Rattle.given_start.proofs.Given.{or_else}
use Rattle.replay_check.proofs.Keys.{found_in}

-- ---- what is seen of a word

there_word : (b : Bool) (o : Option ℕ) (w : ℕ) → is_there (if b then seen_given o w else Vacant) ≡ b
there_word true None w = refl
there_word true (Some v) w = refl
there_word false o w = refl

pub shown_there : (ram : List Region) (given : ℕ → Option ℕ) (m : ℕ → ℕ) (at : ℕ → Seen) → Shows ram given m at → (n : ℕ) → is_there (at n) ≡ is_in_ram ram (n * 4)
shown_there ram given m at s n = ap (λ (q : Seen). is_there q) (s.words n) ∙ there_word (is_in_ram ram (n * 4)) (given n) (m n)

-- a word that is known was given, and is that of the whole memory
pub shown_known : (ram : List Region) (given : ℕ → Option ℕ) (m : ℕ → ℕ) (at : ℕ → Seen) → Shows ram given m at → (n v : ℕ) → known_word (at n) ≡ Some v → (m n ≡ v) × (is_some (given n) ≡ true)
shown_known ram given m at s n v e = go (is_in_ram ram (n * 4)) (given n) (m n) (sym (ap (λ (q : Seen). known_word q) (s.words n)) ∙ e)
  where
    go : (b : Bool) (o : Option ℕ) (w : ℕ) → known_word (if b then seen_given o w else Vacant) ≡ Some v → (w ≡ v) × (is_some o ≡ true)
    go true (Some g) w e = (let same : w ≡ v = cc e in same, refl)
    go true None w e = absurd (cc e)
    go false o w e = absurd (cc e)

-- a word that isn't known was not given
pub shown_unknown : (ram : List Region) (given : ℕ → Option ℕ) (m : ℕ → ℕ) (at : ℕ → Seen) → Shows ram given m at → (n : ℕ) → known_word (at n) ≡ None → is_some (given n) ≡ false
shown_unknown ram given m at s n e = go (is_in_ram ram (n * 4)) (given n) (m n) (s.inside n) (sym (ap (λ (q : Seen). known_word q) (s.words n)) ∙ e)
  where
    go : (b : Bool) (o : Option ℕ) (w : ℕ) → ((v : ℕ) → o ≡ Some v → b ≡ true) → known_word (if b then seen_given o w else Vacant) ≡ None → is_some o ≡ false
    go true None w inside e = refl
    go true (Some g) w inside e = absurd (cc e)
    go false None w inside e = refl
    go false (Some g) w inside e = let no : false ≡ true = inside g refl in absurd (cc no)

-- a given word is that of the whole memory
pub shown_given : (ram : List Region) (given : ℕ → Option ℕ) (m : ℕ → ℕ) (at : ℕ → Seen) → Shows ram given m at → (n v : ℕ) → given n ≡ Some v → at n ≡ Known (m n)
shown_given ram given m at s n v e = s.words n ∙ rw (s.inside n v e, e) refl

-- ---- after accesses

shown_accessed : (ram : List Region) (given : ℕ → Option ℕ) (m : ℕ → ℕ) (at : ℕ → Seen) (x : Access) → Shows ram given m at → Shows ram given (accessed x m) (seen_accessed x at)
shown_accessed ram given m at x s = record {
  words = λ n. ap (λ (q : Seen). cond (nat_eq n (x.addr / 4)) (seen_word_after x n q) q) (s.words n) ∙ go n (nat_eq n (x.addr / 4)) (is_in_ram ram (n * 4)) (given n) (m n);
  inside = s.inside;
}
  where
    go : (n : ℕ) (t b : Bool) (o : Option ℕ) (w : ℕ)
        → cond t (seen_word_after x n (if b then seen_given o w else Vacant)) (if b then seen_given o w else Vacant) ≡ (if b then seen_given o (if t then word_after x.role x n w else w) else Vacant)
    go n true true (Some g) w = refl
    go n true true None w = refl
    go n true false o w = refl
    go n false b o w = refl

pub shown_after : (ram : List Region) (given : ℕ → Option ℕ) (m : ℕ → ℕ) (at : ℕ → Seen) (xs : List Access) → Shows ram given m at → Shows ram given (memory_after xs m) (seen_after xs at)
shown_after ram given m at [] s = s
shown_after ram given m at (x ∷ xs) s = shown_after ram given (accessed x m) (seen_accessed x at) xs (shown_accessed ram given m at x s)

pub shown_same : (ram : List Region) (given : ℕ → Option ℕ) (m : ℕ → ℕ) (at new : ℕ → Seen) → ((n : ℕ) → new n ≡ at n) → Shows ram given m at → Shows ram given m new
shown_same ram given m at new same s = record { words = λ n. same n ∙ s.words n; inside = s.inside }

pub after_both : (xs ys : List Access) (m : ℕ → ℕ) → memory_after (xs ++ ys) m ≡ memory_after ys (memory_after xs m)
after_both [] ys m = refl
after_both (x ∷ xs) ys m = after_both xs ys (accessed x m)

-- ---- the words of a start, one after another

-- the words that are left
pub record AreLeft (ram : List Region) (ws : List (ℕ × ℕ)) : Type 0 where
  pub from : ℕ
  pub words : AreStartWords ram from ws

found_below : (ram : List Region) (from : ℕ) (ws : List (ℕ × ℕ)) (a : ℕ) → AreStartWords ram from ws → a < from → lookup ws a ≡ None
found_below ram from [] a is below = refl
found_below ram from (w ∷ ws) a is below =
    let other : w.0 ≢ a = λ same. absurd (omega (arith, same, is.0, below)) in
    rw (ne_eqb w.0 a other) (found_below ram (w.0 + 4) ws a is.4 (omega (arith, is.0, below)))

pub left_head : (ram : List Region) (ws : List (ℕ × ℕ)) (w : ℕ × ℕ) (rest : List (ℕ × ℕ)) → ws ≡ w ∷ rest → AreLeft ram ws → (w.0 % 4 ≡ 0) × (is_in_ram ram w.0 ≡ true)
left_head ram ws w rest split left = let are : AreStartWords ram left.from (w ∷ rest) = subst (AreStartWords ram left.from) split left.words in (are.1, are.2)

pub left_next : (ram : List Region) (ws : List (ℕ × ℕ)) (w : ℕ × ℕ) (rest : List (ℕ × ℕ)) → ws ≡ w ∷ rest → AreLeft ram ws → AreLeft ram rest
left_next ram ws w rest split left = let are : AreStartWords ram left.from (w ∷ rest) = subst (AreStartWords ram left.from) split left.words in record { from = w.0 + 4; words = are.4 }

-- the words that were put, and those that are left, are all words
pub record IsPut (ram : List Region) (words left : List (ℕ × ℕ)) (at : ℕ → Seen) : Type 0 where
  pub known : (n : ℕ) → or_else (lookup left (n * 4)) (known_word (at n)) ≡ lookup words (n * 4)
  pub seen : (n : ℕ) → at n ≡ (if is_in_ram ram (n * 4) then valued (known_word (at n)) else Vacant)

pub put_none : (ram : List Region) (words : List (ℕ × ℕ)) (at : ℕ → Seen) → ((n : ℕ) → at n ≡ (if is_in_ram ram (n * 4) then Untouched else Vacant)) → IsPut ram words words at
put_none ram words at bare = record {
  known = λ n. ap (or_else (lookup words (n * 4))) (ap (λ (q : Seen). known_word q) (bare n) ∙ none (is_in_ram ram (n * 4))) ∙ nothing (lookup words (n * 4));
  seen = λ n. bare n ∙ again (is_in_ram ram (n * 4)) (known_word (at n)) (ap (λ (q : Seen). known_word q) (bare n) ∙ none (is_in_ram ram (n * 4)));
}
  where
    none : (b : Bool) → known_word (if b then Untouched else Vacant) ≡ None
    none true = refl
    none false = refl

    nothing : (o : Option ℕ) → or_else o None ≡ o
    nothing None = refl
    nothing (Some v) = refl

    again : (b : Bool) (o : Option ℕ) → o ≡ None → (if b then Untouched else Vacant) ≡ (if b then valued o else Vacant)
    again b o e = rw e refl

-- a word of RAM can be put
pub put_there : (ram : List Region) (words left : List (ℕ × ℕ)) (at : ℕ → Seen) (a : ℕ) → IsPut ram words left at → a % 4 ≡ 0 → is_in_ram ram a ≡ true → is_there (at (a / 4)) ≡ true
put_there ram words left at a p aligned inside =
    let back : a / 4 * 4 ≡ a = omega (arith, aligned) in
    let is : is_in_ram ram (a / 4 * 4) ≡ true = subst (λ (n : ℕ). is_in_ram ram n ≡ true) (sym back) inside in
    ap (λ (q : Seen). is_there q) (p.seen (a / 4)) ∙ go (is_in_ram ram (a / 4 * 4)) (known_word (at (a / 4))) is
  where
    go : (b : Bool) (o : Option ℕ) → b ≡ true → is_there (if b then valued o else Vacant) ≡ true
    go true None e = refl
    go true (Some v) e = refl
    go false o e = absurd (cc e)

pub put_next : (ram : List Region) (words left : List (ℕ × ℕ)) (w : ℕ × ℕ) (rest : List (ℕ × ℕ)) (at new : ℕ → Seen) → left ≡ w ∷ rest → AreLeft ram left → IsPut ram words left at
    → new (w.0 / 4) ≡ Known w.1 → ((n : ℕ) → n ≢ w.0 / 4 → new n ≡ at n) → IsPut ram words rest new
put_next ram words left w rest at new split are p here others = record { known = known; seen = seen }
  where
    head : AreStartWords ram are.from (w ∷ rest)
    head = subst (AreStartWords ram are.from) split are.words

    known : (n : ℕ) → or_else (lookup rest (n * 4)) (known_word (new n)) ≡ lookup words (n * 4)
    known n = elim (cases_Bool (eqb w.0 (n * 4))) [
      | inl at_word ↦
          let same : w.0 ≡ n * 4 = eqb-true w.0 (n * 4) at_word in
          let number : n ≡ w.0 / 4 = omega (arith, same) in
          let none : lookup rest (n * 4) ≡ None = found_below ram (w.0 + 4) rest (n * 4) head.4 (omega (arith, same)) in
          let now : known_word (new n) ≡ Some w.1 = ap (λ (k : ℕ). known_word (new k)) number ∙ ap (λ (q : Seen). known_word q) here in
          let found_is : lookup left (n * 4) ≡ Some w.1 = rw (split, at_word) refl in
          let was : or_else (Some w.1) (known_word (at n)) ≡ lookup words (n * 4) = subst (λ (o : Option ℕ). or_else o (known_word (at n)) ≡ lookup words (n * 4)) found_is (p.known n) in
          rw (none, now) was
      | inr other ↦
          let apart : n ≢ w.0 / 4 = λ same. (let aligned : w.0 % 4 ≡ 0 = head.1 in let e : w.0 ≡ n * 4 = omega (arith, same, aligned) in let no : true ≡ false = sym (eq-eqb w.0 (n * 4) e) ∙ other in absurd (cc no)) in
          let now : known_word (new n) ≡ known_word (at n) = ap (λ (q : Seen). known_word q) (others n apart) in
          let found_is : lookup left (n * 4) ≡ lookup rest (n * 4) = rw (split, other) refl in
          ap (or_else (lookup rest (n * 4))) now ∙ subst (λ (o : Option ℕ). or_else o (known_word (at n)) ≡ lookup words (n * 4)) found_is (p.known n)
    ]

    seen : (n : ℕ) → new n ≡ (if is_in_ram ram (n * 4) then valued (known_word (new n)) else Vacant)
    seen n = elim (cases_Bool (eqb w.0 (n * 4))) [
      | inl at_word ↦
          let same : w.0 ≡ n * 4 = eqb-true w.0 (n * 4) at_word in
          let number : n ≡ w.0 / 4 = omega (arith, same) in
          let inside : is_in_ram ram (n * 4) ≡ true = subst (λ (a : ℕ). is_in_ram ram a ≡ true) same head.2 in
          let is : new n ≡ Known w.1 = ap new number ∙ here in
          rw (inside, is) refl
      | inr other ↦
          let apart : n ≢ w.0 / 4 = λ same. (let aligned : w.0 % 4 ≡ 0 = head.1 in let e : w.0 ≡ n * 4 = omega (arith, same, aligned) in let no : true ≡ false = sym (eq-eqb w.0 (n * 4) e) ∙ other in absurd (cc no)) in
          subst (λ (q : Seen). q ≡ (if is_in_ram ram (n * 4) then valued (known_word q) else Vacant)) (sym (others n apart)) (p.seen n)
    ]

-- when all words were put, memory shows them
pub put_all : (ram : List Region) (words left : List (ℕ × ℕ)) (at : ℕ → Seen) → AreStartWords ram 0 words → left ≡ [] → IsPut ram words left at
    → Shows ram (given_word words) (zero_elsewhere (given_word words)) at
put_all ram words left at are none p = record {
  words = λ n. p.seen n ∙ ap (λ (o : Option ℕ). if is_in_ram ram (n * 4) then valued o else Vacant) (given n) ∙ go (is_in_ram ram (n * 4)) (lookup words (n * 4));
  inside = λ n v e. found_in ram 0 words (n * 4) v are e;
}
  where
    given : (n : ℕ) → known_word (at n) ≡ lookup words (n * 4)
    given n = subst (λ (l : List (ℕ × ℕ)). or_else (lookup l (n * 4)) (known_word (at n)) ≡ lookup words (n * 4)) none (p.known n)

    go : (b : Bool) (o : Option ℕ) → (if b then valued o else Vacant) ≡ (if b then seen_given o (unwrap_or o 0) else Vacant)
    go true None = refl
    go true (Some v) = refl
    go false o = refl

-- ---- the final words

found_above : (ram : List Region) (from : ℕ) (ws : List (ℕ × ℕ)) (a v : ℕ) → AreStartWords ram from ws → lookup ws a ≡ Some v → from ≤ a
found_above ram from [] a v is e = absurd (cc e)
found_above ram from (w ∷ ws) a v is e = elim (cases_Bool (eqb w.0 a)) [
  | inl here ↦ (let same = eqb-true w.0 a here in omega (arith, same, is.0))
  | inr other ↦ (let later = found_above ram (w.0 + 4) ws a v is.4 (rw other at e) in omega (arith, later, is.0))
]

abbrev EachSeen : (ℕ → Seen) → List (ℕ × ℕ) → List ℕ → Type 0
EachSeen at ws last = (k : ℕ) → k < length ws → at ((get_or ws k (0, 0)).0 / 4) ≡ Known (get_or last k 0)

abbrev words_at : (ℕ → ℕ) → List (ℕ × ℕ) → List ℕ
words_at m ws = map (λ (w : ℕ × ℕ). m (w.0 / 4)) ws

-- one word more
more_told : (m : ℕ → ℕ) (at : ℕ → Seen) (w : ℕ × ℕ) (ws : List (ℕ × ℕ)) (v : ℕ) (last : List ℕ) → at (w.0 / 4) ≡ Known (m (w.0 / 4)) → EachSeen at ws last ↔ (words_at m ws ≡ last)
    → EachSeen at (w ∷ ws) (v ∷ last) ↔ (words_at m (w ∷ ws) ≡ v ∷ last)
more_told m at w ws v last seen rest = (all, every)
  where
    known_value : (a b : ℕ) → Known a ≡ Known b → a ≡ b
    known_value a b e = cc

    all : EachSeen at (w ∷ ws) (v ∷ last) → words_at m (w ∷ ws) ≡ v ∷ last
    all each =
        let first : at (w.0 / 4) ≡ Known v = each 0 (omega arith) in
        let head : m (w.0 / 4) ≡ v = known_value (m (w.0 / 4)) v (sym seen ∙ first) in
        let tail : words_at m ws ≡ last = rest.0 (λ k within. each (suc k) (omega (arith, within))) in
        rw (head, tail) refl

    every : words_at m (w ∷ ws) ≡ v ∷ last → EachSeen at (w ∷ ws) (v ∷ last)
    every e zero within = let head : m (w.0 / 4) ≡ v = cc e in seen ∙ ap (λ (n : ℕ). Known n) head
    every e (suc k) within = let tail : words_at m ws ≡ last = cc e in rest.1 tail k (omega (arith, within))

-- the final words are those of the whole memory just where they are seen
pub each_told : (ram : List Region) (given : ℕ → Option ℕ) (m : ℕ → ℕ) (at : ℕ → Seen) (from : ℕ) (ws : List (ℕ × ℕ)) (last : List ℕ) → Shows ram given m at → AreStartWords ram from ws
    → ((a v : ℕ) → a % 4 ≡ 0 → lookup ws a ≡ Some v → given (a / 4) ≡ Some v) → length last ≡ length ws → EachSeen at ws last ↔ (words_at m ws ≡ last)
each_told ram given m at from [] [] s is h size = ((λ each. refl), λ e k within. absurd (omega (arith, within)))
each_told ram given m at from [] (v ∷ last) s is h size = absurd (omega (arith, size))
each_told ram given m at from (w ∷ ws) [] s is h size = absurd (omega (arith, size))
each_told ram given m at from (w ∷ ws) (v ∷ last) s is h size =
    let here : given (w.0 / 4) ≡ Some w.1 = h w.0 w.1 is.1 (rw (eq-eqb w.0 w.0 refl) refl) in
    more_told m at w ws v last (shown_given ram given m at s (w.0 / 4) w.1 here)
    (each_told ram given m at (w.0 + 4) ws last s is.4 (λ a x aligned e. h a x aligned (later a x e)) (omega (arith, size)))
  where
    later : (a x : ℕ) → lookup ws a ≡ Some x → lookup (w ∷ ws) a ≡ Some x
    later a x e = let above = found_above ram (w.0 + 4) ws a x is.4 e in rw (ne_eqb w.0 a (λ same. absurd (omega (arith, same, above)))) e
