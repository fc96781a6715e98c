-- RAM, frames, flag bytes, vectors and words while a text is read.
use Rattle.std.proofs.Common.{◌≡◌, ℕ, ◌+◌, ◌-◌, ◌%◌, ◌^◌, ◌<◌, ◌≤◌, ◌&&◌, ◌||◌, Bool, true, false, not, cond, eqb, leb, ltb, List, [], ◌∷◌, ◌++◌, map, filter, length, append_assoc, Option, Some, None, refl, sym, ap, ◌∙◌, subst, inl, inr, ◌⊎◌, arith}
use Rattle.std.specs.List.{AllByRecursion, list_any}
use Rattle.std.proofs.lemmas.Bool.{eqb-true, eqb-false, leb-true, leb-false, ltb-true, ltb-false}
use Rattle.std.proofs.lemmas.Bool.Decides.{nat_tests}
use Rattle.std.proofs.lemmas.List.{length-append, length-map}
use Rattle.dom_set.specs.Elements.{is_in as holds_value, is_within}
use Rattle.dom_set.proofs.Sets.{Contains-elements, is_in_tests}
use Rattle.tpl_lang.specs.declared.phrase.Numeral.{Numeral}
use Rattle.tpl_ast.specs.declared.template.Region.{Region}
use Rattle.tpl_lang.specs.Faults.{is_above, is_large, are_bad_frames, has_key, is_bad_frame, is_bad_region, is_pointer_flag, overlaps}
use Rattle.tpl_ast.specs.Templates.{holds, is_number_among, size_of, AreApart, AreDistinct, AreFrames, IsApart, IsFlagByte, IsFrame, IsFramed}
use Rattle.tpl_lang.specs.Statements.{inserted, values_of}
use Rattle.tpl_lang.specs.Parsing.{vectors_of}
use Rattle.tpl_lang.specs.Sets.{fours, listed, number}
use Rattle.tpl_ast.specs.States.{AreStartWords, is_in_ram}
use Rattle.tpl_lang.proofs.Short.{OnSome, both_true}
use Rattle.tpl_lang.proofs.Steps.{either_false, not_false}

-- ---- lists that grow at their end

pub all_appended : {A : Type 0} (P : A → Type 0) (xs : List A) (x : A) → AllByRecursion P xs → P x → AllByRecursion P (xs ++ x ∷ [])
all_appended P [] x h is = (is, tt)
all_appended P (y ∷ xs) x h is = (h.0, all_appended P xs x h.1 is)

pub all_mapped : {A : Type 0} (P Q : A → Type 0) → ((x : A) → P x → Q x) → (xs : List A) → AllByRecursion P xs → AllByRecursion Q xs
all_mapped P Q f [] h = tt
all_mapped P Q f (x ∷ xs) h = (f x h.0, all_mapped P Q f xs h.1)

either_true : (a b : Bool) → b ≡ true → a || b ≡ true
either_true true b h = refl
either_true false b h = h

any_more : {A : Type 0} (p : A → Bool) (xs : List A) (x : A) → list_any p xs ≡ true → list_any p (xs ++ x ∷ []) ≡ true
any_more p [] x h = absurd (cc h)
any_more p (y ∷ xs) x h = go (p y) h (any_more p xs x) where
  go : (c : Bool) → c || list_any p xs ≡ true → (list_any p xs ≡ true → list_any p (xs ++ x ∷ []) ≡ true) → c || list_any p (xs ++ x ∷ []) ≡ true
  go true h rest = refl
  go false h rest = rest h

none_appended : {A : Type 0} (p : A → Bool) (xs : List A) (x : A) → list_any p xs ≡ false → p x ≡ false → list_any p (xs ++ x ∷ []) ≡ false
none_appended p [] x h is = rw is refl
none_appended p (y ∷ xs) x h is =
    let a = either_false (p y) (list_any p xs) h in
    rw a.0 (none_appended p xs x a.1 is)

none_both : {A : Type 0} (p : A → Bool) (xs ys : List A) → list_any p (xs ++ ys) ≡ false → (list_any p xs ≡ false) × (list_any p ys ≡ false)
none_both p [] ys h = (refl, h)
none_both p (x ∷ xs) ys h =
    let a = either_false (p x) (list_any p (xs ++ ys)) h in
    let b = none_both p xs ys a.1 in
    (rw a.0 b.0, b.1)

-- ---- RAM

pub record RamKept (ram : List Region) : Type 0 where
  pub framed : AllByRecursion IsFramed ram
  pub count : length ram ≤ 8
  pub apart : AreApart ram
  pub memory : size_of ram ≤ 2 ^ 26

region_framed : (ram : List Region) (lo hi : ℕ) → is_bad_region ram lo hi ≡ false → IsFramed (record { low = lo; high = hi }) × (list_any (overlaps lo hi) ram ≡ false) × (size_of ram + (hi - lo) ≤ 2 ^ 26)
region_framed ram lo hi h =
    let a = either_false (leb hi lo) _ h in
    let b = either_false (not (eqb (lo % 4096) 0)) _ a.1 in
    let c = either_false (not (eqb (hi % 4096) 0)) _ b.1 in
    let d = either_false (ltb 0xfffff000 hi) _ c.1 in
    let e = either_false (list_any (overlaps lo hi) ram) _ d.1 in (
      record {
        low = eqb-true (lo % 4096) 0 (not_false _ b.0);
        high = eqb-true (hi % 4096) 0 (not_false _ c.0);
        some = leb-false hi lo a.0;
        most = ltb-false 0xfffff000 hi d.0;
      },
      e.0,
      ltb-false (2 ^ 26) (size_of ram + (hi - lo)) e.1,
    )

apart_by : (lo hi : ℕ) (r : Region) → overlaps lo hi r ≡ false → IsApart r (record { low = lo; high = hi })
apart_by lo hi r h = go (ltb lo r.high) refl h where
  go : (c : Bool) → ltb lo r.high ≡ c → c && ltb r.low hi ≡ false → (r.high ≤ lo) ⊎ (hi ≤ r.low)
  go true is h = inr (ltb-false r.low hi h)
  go false is h = inl (ltb-false lo r.high is)

all_apart : (lo hi : ℕ) (ram : List Region) → list_any (overlaps lo hi) ram ≡ false → AllByRecursion (λ r. IsApart r (record { low = lo; high = hi })) ram
all_apart lo hi [] h = tt
all_apart lo hi (r ∷ ram) h =
    let a = either_false (overlaps lo hi r) (list_any (overlaps lo hi) ram) h in
    (apart_by lo hi r a.0, all_apart lo hi ram a.1)

apart_appended : (ram : List Region) (s : Region) → AreApart ram → AllByRecursion (λ r. IsApart r s) ram → AreApart (ram ++ s ∷ [])
apart_appended [] s h all = (tt, tt)
apart_appended (r ∷ ram) s h all = (all_appended (IsApart r) ram s h.0 all.0, apart_appended ram s h.1 all.1)

size_appended : (ram : List Region) (s : Region) → size_of (ram ++ s ∷ []) ≡ size_of ram + (s.high - s.low)
size_appended [] s = omega arith
size_appended (r ∷ ram) s = omega (arith, size_appended ram s)

pub ram_kept : (ram : List Region) (lo hi : ℕ) → RamKept ram → leb 8 (length ram) ≡ false → is_bad_region ram lo hi ≡ false → RamKept (ram ++ record { low = lo; high = hi } ∷ [])
ram_kept ram lo hi h few good =
    let new = region_framed ram lo hi good in
    record {
      framed = all_appended IsFramed ram (record { low = lo; high = hi }) h.framed new.0;
      count = omega (arith, length-append ram (record { low = lo; high = hi } ∷ []), leb-false 8 (length ram) few);
      apart = apart_appended ram (record { low = lo; high = hi }) h.apart (all_apart lo hi ram new.1);
      memory = omega (arith, size_appended ram (record { low = lo; high = hi }), new.2);
    }

-- ---- frames

-- of two lists of frames
pub record FramesKept (ram : List Region) (frames others : List ℕ) : Type 0 where
  pub these : AreFrames ram others frames
  pub those : AreFrames ram frames others

pub swapped : {ram : List Region} {frames others : List ℕ} → FramesKept ram frames others → FramesKept ram others frames
swapped h = record { these = h.those; those = h.these }

frame_more : (ram : List Region) (r : Region) (f : ℕ) → IsFrame ram f → IsFrame (ram ++ r ∷ []) f
frame_more ram r f h = record { aligned = h.aligned; held = any_more (holds f 4096) ram r h.held }

are_frames_more : (ram : List Region) (r : Region) (others frames : List ℕ) → AreFrames ram others frames → AreFrames (ram ++ r ∷ []) others frames
are_frames_more ram r others frames h = record { held = all_mapped (IsFrame ram) (IsFrame (ram ++ r ∷ [])) (frame_more ram r) frames h.held; distinct = h.distinct; apart = h.apart }

pub frames_more : (ram : List Region) (r : Region) (frames others : List ℕ) → FramesKept ram frames others → FramesKept (ram ++ r ∷ []) frames others
frames_more ram r frames others h = record { these = are_frames_more ram r others frames h.these; those = are_frames_more ram r frames others h.those }

unequal_back : (a b : ℕ) → eqb a b ≡ false → eqb b a ≡ false
unequal_back a b h = go (eqb b a) refl where
  go : (c : Bool) → eqb b a ≡ c → c ≡ false
  go true is = absurd (eqb-false a b h (sym (eqb-true b a is)))
  go false is = refl

distinct_appended : (ns : List ℕ) (n : ℕ) → AreDistinct ns → is_number_among ns n ≡ false → AreDistinct (ns ++ n ∷ [])
distinct_appended [] n h is = (refl, tt)
distinct_appended (m ∷ ns) n h is =
    let a = either_false (eqb m n) (is_number_among ns n) is in
    (none_appended (λ x. eqb x m) ns n h.0 (unequal_back m n a.0), distinct_appended ns n h.1 a.1)

-- one frame more is none of the others
others_apart : (frames : List ℕ) (n : ℕ) (os : List ℕ) → AllByRecursion (λ o. is_number_among frames o ≡ false) os → is_number_among os n ≡ false → AllByRecursion (λ o. is_number_among (frames ++ n ∷ []) o ≡ false) os
others_apart frames n [] h is = tt
others_apart frames n (o ∷ os) h is =
    let a = either_false (eqb o n) (is_number_among os n) is in
    (none_appended (λ x. eqb x o) frames n h.0 (unequal_back o n a.0), others_apart frames n os h.1 a.1)

one_frame : (ram : List Region) (frames others : List ℕ) (n : ℕ) → FramesKept ram frames others → IsFrame ram n → is_number_among frames n ≡ false → is_number_among others n ≡ false → FramesKept ram (frames ++ n ∷ []) others
one_frame ram frames others n h is own other = record {
  these = record {
    held = all_appended (IsFrame ram) frames n h.these.held is;
    distinct = distinct_appended frames n h.these.distinct own;
    apart = all_appended (λ f. is_number_among others f ≡ false) frames n h.these.apart other;
  };
  those = record { held = h.those.held; distinct = h.those.distinct; apart = others_apart frames n others h.those.apart other };
}

-- what isn't among the frames seen is in neither list
abbrev Covers : List ℕ → List ℕ → List ℕ → Type 0
Covers seen frames others = (x : ℕ) → is_number_among seen x ≡ false → (is_number_among frames x ≡ false) × (is_number_among others x ≡ false)

pub frames_added : (ram : List Region) (fs : List Numeral) (seen frames others : List ℕ) → Covers seen frames others → FramesKept ram frames others → are_bad_frames ram seen fs ≡ false → FramesKept ram (frames ++ values_of fs) others
frames_added ram [] seen frames others covers h good = subst (λ (xs : List ℕ). FramesKept ram xs others) (sym (append_empty frames)) h where
  append_empty : (xs : List ℕ) → xs ++ [] ≡ xs
  append_empty [] = refl
  append_empty (x ∷ xs) = ap (λ (ys : List ℕ). x ∷ ys) (append_empty xs)
frames_added ram (f ∷ fs) seen frames others covers h good =
    let n : ℕ = number f in
    let a = either_false (is_bad_frame ram seen n) _ good in
    let b = either_false (not (eqb (n % 4096) 0)) _ a.0 in
    let c = either_false (not (list_any (holds n 4096) ram)) _ b.1 in
    let away = covers n c.1 in
    let next = one_frame ram frames others n h (record { aligned = eqb-true (n % 4096) 0 (not_false _ b.0); held = not_false _ c.0 }) away.0 away.1 in
    subst (λ (xs : List ℕ). FramesKept ram xs others) (append_assoc frames (n ∷ []) (values_of fs)) (frames_added ram fs (n ∷ seen) (frames ++ n ∷ []) others (more n) next a.1)
  where
    more : (n : ℕ) → Covers (n ∷ seen) (frames ++ n ∷ []) others
    more n x away =
        let a = either_false (eqb n x) (is_number_among seen x) away in
        let b = covers x a.1 in
        (none_appended (λ m. eqb m x) frames n b.0 a.0, b.1)

pub covers_both : (frames others : List ℕ) → Covers (frames ++ others) frames others
covers_both frames others x h = none_both (λ m. eqb m x) frames others h

pub covers_back : (frames others : List ℕ) → Covers (frames ++ others) others frames
covers_back frames others x h = let both = none_both (λ m. eqb m x) frames others h in (both.1, both.0)

pub count_added : (frames : List ℕ) (fs : List Numeral) (most : ℕ) → ltb most (length frames + length fs) ≡ false → length (frames ++ values_of fs) ≤ most
count_added frames fs most few = omega (arith, length-append frames (values_of fs), length-map fs number, ltb-false most (length frames + length fs) few)

-- ---- flag bytes

all_both : {A : Type 0} (P : A → Type 0) (xs ys : List A) → AllByRecursion P xs → AllByRecursion P ys → AllByRecursion P (xs ++ ys)
all_both P [] ys h k = k
all_both P (x ∷ xs) ys h k = (h.0, all_both P xs ys h.1 k)

flag_bytes : (bs : List Numeral) → list_any (is_above 255) bs ≡ false → list_any is_pointer_flag bs ≡ false → AllByRecursion IsFlagByte (values_of bs)
flag_bytes [] small good = tt
flag_bytes (b ∷ bs) small good =
    let a = either_false (is_above 255 b) _ small in
    let c = either_false (is_pointer_flag b) _ good in
    let d = either_false (is_large b) (ltb 255 (number b)) a.0 in
    ((omega (arith, ltb-false 255 (number b) d.1), c.0), flag_bytes bs a.1 c.1)

pub flags_added : (flags : List ℕ) (bs : List Numeral) → AllByRecursion IsFlagByte flags → list_any (is_above 255) bs ≡ false → list_any is_pointer_flag bs ≡ false → AllByRecursion IsFlagByte (flags ++ values_of bs)
flags_added flags bs h small good = all_both IsFlagByte flags (values_of bs) h (flag_bytes bs small good)

-- ---- vectors

abbrev pub AreFours : List ℕ → Type 0
AreFours ns = (x : ℕ) → holds_value ns x ≡ true → x % 4 ≡ 0

filtered : (p : ℕ → Bool) (ns : List ℕ) (x : ℕ) → holds_value (filter p ns) x ≡ true → p x ≡ true
filtered p [] x h = absurd (cc h)
filtered p (n ∷ ns) x h = go (p n) refl h (filtered p ns x) where
  same : (c : Bool) → eqb n x ≡ c → p n ≡ true → c || holds_value (filter p ns) x ≡ true → (holds_value (filter p ns) x ≡ true → p x ≡ true) → p x ≡ true
  same true is at h rest = ap p (sym (eqb-true n x is)) ∙ at
  same false is at h rest = rest h

  go : (c : Bool) → p n ≡ c → holds_value (cond c (n ∷ filter p ns) (filter p ns)) x ≡ true → (holds_value (filter p ns) x ≡ true → p x ≡ true) → p x ≡ true
  go true at h rest = same (eqb n x) refl at h rest
  go false at h rest = rest h

pub fours_are : (ns : List ℕ) → AreFours (fours ns)
fours_are ns x h = eqb-true (x % 4) 0 (filtered (λ n. eqb (n % 4) 0) ns x h)

pub vectors_kept : (o : Option (List ℕ)) (pool : List ℕ) → OnSome AreFours o → AreFours (vectors_of o pool)
vectors_kept (Some ns) pool h x is = h x is
vectors_kept None pool h x is =
    let test : ℕ → Bool = λ y. eqb (y % 4) 0 && is_within (map (λ f. (f, f + 4095)) pool) y in
    let held = (Contains-elements test x).0 ((is_in_tests (listed (map (λ f. (f, f + 4095)) pool) 4) x).0 is) in
    eqb-true (x % 4) 0 (both_true (eqb (x % 4) 0) _ held.1).0

-- ---- words

held_in : (ram : List Region) (a : ℕ) → list_any (holds a 4) ram ≡ true → is_in_ram ram a ≡ true
held_in [] a h = absurd (cc h)
held_in (r ∷ ram) a h = go (leb r.low a) (leb (a + 4) r.high) refl refl h (held_in ram a) where
  inside : leb r.low a ≡ true → leb (a + 4) r.high ≡ true → (leb r.low a && ltb a r.high) ≡ true
  inside low high = rw low (grind (arith, nat_tests, leb-true (a + 4) r.high high))

  go : (c d : Bool) → leb r.low a ≡ c → leb (a + 4) r.high ≡ d → (c && d) || list_any (holds a 4) ram ≡ true → (list_any (holds a 4) ram ≡ true → is_in_ram ram a ≡ true) → (leb r.low a && ltb a r.high) || is_in_ram ram a ≡ true
  go true true low high h rest = rw (inside low high) refl
  go true false low high h rest = either_true _ _ (rest h)
  go false d low high h rest = either_true _ _ (rest h)

pub words_more : (ram : List Region) (r : Region) (from : ℕ) (es : List (ℕ × ℕ)) → AreStartWords ram from es → AreStartWords (ram ++ r ∷ []) from es
words_more ram r from [] h = tt
words_more ram r from (e ∷ es) h = (h.0, h.1, any_more (λ s. leb s.low e.0 && ltb e.0 s.high) ram r h.2, h.3, words_more ram r (e.0 + 4) es h.4)

word_put : (ram : List Region) (a v : ℕ) → a % 4 ≡ 0 → is_in_ram ram a ≡ true → v < 2 ^ 32 → (from : ℕ) (es : List (ℕ × ℕ)) → AreStartWords ram from es → from ≤ a → has_key es a ≡ false → AreStartWords ram from (inserted a v es)
word_put ram a v aligned there small from [] h above new = (above, aligned, there, small, tt)
word_put ram a v aligned there small from (e ∷ es) h above new = go (ltb a e.0) refl (word_put ram a v aligned there small (e.0 + 4) es) where
  free : (eqb e.0 a ≡ false) × (has_key es a ≡ false)
  free = either_false (eqb e.0 a) (has_key es a) new

  go : (c : Bool) → ltb a e.0 ≡ c → (AreStartWords ram (e.0 + 4) es → e.0 + 4 ≤ a → has_key es a ≡ false → AreStartWords ram (e.0 + 4) (inserted a v es)) → AreStartWords ram from (cond c ((a, v) ∷ e ∷ es) (e ∷ inserted a v es))
  go true is rest = (above, aligned, there, small, (omega (arith, ltb-true a e.0 is, aligned, h.1), h.1, h.2, h.3, h.4))
  go false is rest = (h.0, h.1, h.2, h.3, rest h.4 (omega (arith, ltb-false a e.0 is, eqb-false e.0 a free.0, aligned, h.1)) free.1)

pub words_added : (ram : List Region) (es : List (ℕ × ℕ)) (a v : ℕ) → AreStartWords ram 0 es → v < 2 ^ 32 → not (eqb (a % 4) 0) || (not (list_any (holds a 4) ram) || has_key es a) ≡ false → AreStartWords ram 0 (inserted a v es)
words_added ram es a v h small good =
    let x = either_false (not (eqb (a % 4) 0)) _ good in
    let y = either_false (not (list_any (holds a 4) ram)) _ x.1 in
    word_put ram a v (eqb-true (a % 4) 0 (not_false _ x.0)) (held_in ram a (not_false _ y.0)) small 0 es h (omega arith) y.1

pub one_longer : (a v : ℕ) (es : List (ℕ × ℕ)) → length (inserted a v es) ≡ length es + 1
one_longer a v [] = omega arith
one_longer a v (e ∷ es) = go (ltb a e.0) (one_longer a v es) where
  go : (c : Bool) → length (inserted a v es) ≡ length es + 1 → length (cond c ((a, v) ∷ e ∷ es) (e ∷ inserted a v es)) ≡ length (e ∷ es) + 1
  go true rest = omega arith
  go false rest = omega (arith, rest)
