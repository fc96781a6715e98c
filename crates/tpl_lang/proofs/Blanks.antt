-- Blanks in a line.
use Rattle.std.proofs.Common.{◌≡◌, ℕ, Bool, true, false, cond, ◌&&◌, ◌||◌, ◌==◌, ◌⊎◌, inl, inr, List, [], ◌∷◌, ◌++◌, Option, Some, None, option_map, slice_index, refl, sym, ap, ◌∙◌, subst}
use Rattle.std.proofs.lemmas.Bool.{eqb-true}
use Rattle.tpl_lang.specs.Tokens.{Token, is_blank, is_word_byte, joins, pieces, token_of, tokens_among, tokens_of, with_byte}

-- two lists of pieces that differ in a piece of blanks alone: in how long it is, or in whether it stands at the end or behind another piece
data Alike : List (List ℕ) → List (List ℕ) → Type 0 where
  Longer : (f ps : List (List ℕ)) (b c : ℕ) (bs cs : List ℕ) → is_blank b ≡ true → is_blank c ≡ true → Alike (f ++ (b ∷ bs) ∷ ps) (f ++ (c ∷ cs) ∷ ps)
  Behind : (f : List (List ℕ)) (b : ℕ) (bs : List ℕ) → is_blank b ≡ true → Alike (f ++ (b ∷ bs) ∷ []) f
  Apart : (f ps : List (List ℕ)) (c b : ℕ) (cs bs : List ℕ) → is_blank b ≡ true → Alike (f ++ (c ∷ cs) ∷ (b ∷ bs) ∷ ps) (f ++ (c ∷ cs) ∷ ps)

alike : (p q p' q' : List (List ℕ)) → p' ≡ p → q' ≡ q → Alike p q → Alike p' q'
alike p q p' q' is is' h = subst (λ x. Alike x q') (sym is) (subst (λ x. Alike p x) (sym is') h)

-- ---- which bytes a blank joins

pub blanks : (b : ℕ) → is_blank b ≡ true → (b ≡ 32) ⊎ (b ≡ 9)
blanks b h = here (b == 32) refl h
  where
    second : (t : Bool) → (b == 9) ≡ t → t ≡ true → (b ≡ 32) ⊎ (b ≡ 9)
    second t is h = inr (eqb-true b 9 (is ∙ h))

    here : (t : Bool) → (b == 32) ≡ t → (t || b == 9) ≡ true → (b ≡ 32) ⊎ (b ≡ 9)
    here true is h = inl (eqb-true b 32 is)
    here false is h = second (b == 9) refl h

or-false : (b : Bool) → (b || false) ≡ b
or-false true = refl
or-false false = refl

and-false : (b : Bool) → (b && false) ≡ false
and-false true = refl
and-false false = refl

and-true : (b : Bool) → (b && true) ≡ b
and-true true = refl
and-true false = refl

joins_behind : (b c : ℕ) → is_blank b ≡ true → joins b c ≡ is_blank c
joins_behind b c h = here (blanks b h)
  where
    here : (b ≡ 32) ⊎ (b ≡ 9) → joins b c ≡ is_blank c
    here (inl is) = ap (λ (x : ℕ). joins x c) is ∙ or-false (is_blank c)
    here (inr is) = ap (λ (x : ℕ). joins x c) is ∙ or-false (is_blank c)

one_left : (w p e q r : Bool) → ((w && false) || ((p && true) || ((e && false) || ((q && false) || (r && false))))) ≡ p
one_left w p e q r = rw (and-false w, and-true p, and-false e, and-false q, and-false r) (or-false p)

joins_before : (y b : ℕ) → is_blank b ≡ true → joins y b ≡ is_blank y
joins_before y b h = here (blanks b h)
  where
    here : (b ≡ 32) ⊎ (b ≡ 9) → joins y b ≡ is_blank y
    here (inl is) = ap (joins y) is ∙ one_left (is_word_byte y) (is_blank y) (y == 46) (y == 61 || y == 33) (y == 45)
    here (inr is) = ap (joins y) is ∙ one_left (is_word_byte y) (is_blank y) (y == 46) (y == 61 || y == 33) (y == 45)

-- ---- a byte before pieces

byte_before : (y c : ℕ) (cs : List ℕ) (ps : List (List ℕ)) (t : Bool) → joins y c ≡ t → with_byte y ((c ∷ cs) ∷ ps) ≡ cond t ((y ∷ c ∷ cs) ∷ ps) ((y ∷ []) ∷ (c ∷ cs) ∷ ps)
byte_before y c cs ps t is = rw is refl

longer_keep : (y : ℕ) (f ps : List (List ℕ)) (b c : ℕ) (bs cs : List ℕ) → is_blank b ≡ true → is_blank c ≡ true → Alike (with_byte y (f ++ (b ∷ bs) ∷ ps)) (with_byte y (f ++ (c ∷ cs) ∷ ps))
longer_keep y [] ps b c bs cs hb hc = here (is_blank y) refl
  where
    here : (t : Bool) → is_blank y ≡ t → Alike (with_byte y ((b ∷ bs) ∷ ps)) (with_byte y ((c ∷ cs) ∷ ps))
    here true is = alike _ _ _ _ (byte_before y b bs ps true (joins_before y b hb ∙ is)) (byte_before y c cs ps true (joins_before y c hc ∙ is)) (Longer [] ps y y (b ∷ bs) (c ∷ cs) is is)
    here false is = alike _ _ _ _ (byte_before y b bs ps false (joins_before y b hb ∙ is)) (byte_before y c cs ps false (joins_before y c hc ∙ is)) (Longer ((y ∷ []) ∷ []) ps b c bs cs hb hc)
longer_keep y ([] ∷ f) ps b c bs cs hb hc = Longer ((y ∷ []) ∷ f) ps b c bs cs hb hc
longer_keep y ((d ∷ ds) ∷ f) ps b c bs cs hb hc = here (joins y d) refl
  where
    here : (t : Bool) → joins y d ≡ t → Alike (with_byte y ((d ∷ ds) ∷ f ++ (b ∷ bs) ∷ ps)) (with_byte y ((d ∷ ds) ∷ f ++ (c ∷ cs) ∷ ps))
    here true is = alike _ _ _ _ (byte_before y d ds _ true is) (byte_before y d ds _ true is) (Longer ((y ∷ d ∷ ds) ∷ f) ps b c bs cs hb hc)
    here false is = alike _ _ _ _ (byte_before y d ds _ false is) (byte_before y d ds _ false is) (Longer ((y ∷ []) ∷ (d ∷ ds) ∷ f) ps b c bs cs hb hc)

behind_keep : (y : ℕ) (f : List (List ℕ)) (b : ℕ) (bs : List ℕ) → is_blank b ≡ true → Alike (with_byte y (f ++ (b ∷ bs) ∷ [])) (with_byte y f)
behind_keep y [] b bs hb = here (is_blank y) refl
  where
    here : (t : Bool) → is_blank y ≡ t → Alike (with_byte y ((b ∷ bs) ∷ [])) ((y ∷ []) ∷ [])
    here true is = alike _ _ _ _ (byte_before y b bs [] true (joins_before y b hb ∙ is)) refl (Longer [] [] y y (b ∷ bs) [] is is)
    here false is = alike _ _ _ _ (byte_before y b bs [] false (joins_before y b hb ∙ is)) refl (Behind ((y ∷ []) ∷ []) b bs hb)
behind_keep y ([] ∷ f) b bs hb = Behind ((y ∷ []) ∷ f) b bs hb
behind_keep y ((d ∷ ds) ∷ f) b bs hb = here (joins y d) refl
  where
    here : (t : Bool) → joins y d ≡ t → Alike (with_byte y ((d ∷ ds) ∷ f ++ (b ∷ bs) ∷ [])) (with_byte y ((d ∷ ds) ∷ f))
    here true is = alike _ _ _ _ (byte_before y d ds _ true is) (byte_before y d ds _ true is) (Behind ((y ∷ d ∷ ds) ∷ f) b bs hb)
    here false is = alike _ _ _ _ (byte_before y d ds _ false is) (byte_before y d ds _ false is) (Behind ((y ∷ []) ∷ (d ∷ ds) ∷ f) b bs hb)

apart_keep : (y : ℕ) (f ps : List (List ℕ)) (c b : ℕ) (cs bs : List ℕ) → is_blank b ≡ true → Alike (with_byte y (f ++ (c ∷ cs) ∷ (b ∷ bs) ∷ ps)) (with_byte y (f ++ (c ∷ cs) ∷ ps))
apart_keep y [] ps c b cs bs hb = here (joins y c) refl
  where
    here : (t : Bool) → joins y c ≡ t → Alike (with_byte y ((c ∷ cs) ∷ (b ∷ bs) ∷ ps)) (with_byte y ((c ∷ cs) ∷ ps))
    here true is = alike _ _ _ _ (byte_before y c cs _ true is) (byte_before y c cs _ true is) (Apart [] ps y b (c ∷ cs) bs hb)
    here false is = alike _ _ _ _ (byte_before y c cs _ false is) (byte_before y c cs _ false is) (Apart ((y ∷ []) ∷ []) ps c b cs bs hb)
apart_keep y ([] ∷ f) ps c b cs bs hb = Apart ((y ∷ []) ∷ f) ps c b cs bs hb
apart_keep y ((d ∷ ds) ∷ f) ps c b cs bs hb = here (joins y d) refl
  where
    here : (t : Bool) → joins y d ≡ t → Alike (with_byte y ((d ∷ ds) ∷ f ++ (c ∷ cs) ∷ (b ∷ bs) ∷ ps)) (with_byte y ((d ∷ ds) ∷ f ++ (c ∷ cs) ∷ ps))
    here true is = alike _ _ _ _ (byte_before y d ds _ true is) (byte_before y d ds _ true is) (Apart ((y ∷ d ∷ ds) ∷ f) ps c b cs bs hb)
    here false is = alike _ _ _ _ (byte_before y d ds _ false is) (byte_before y d ds _ false is) (Apart ((y ∷ []) ∷ (d ∷ ds) ∷ f) ps c b cs bs hb)

keep : (y : ℕ) {p q : List (List ℕ)} → Alike p q → Alike (with_byte y p) (with_byte y q)
keep y (Longer f ps b c bs cs hb hc) = longer_keep y f ps b c bs cs hb hc
keep y (Behind f b bs hb) = behind_keep y f b bs hb
keep y (Apart f ps c b cs bs hb) = apart_keep y f ps c b cs bs hb

-- ---- their tokens

blank_piece : (b : ℕ) (bs : List ℕ) (ps : List (List ℕ)) → is_blank b ≡ true → tokens_among ((b ∷ bs) ∷ ps) ≡ tokens_among ps
blank_piece b bs ps h = rw h refl

abbrev more : List ℕ → Option (List Token) → Option (List Token)
more p rest = cond (is_blank (slice_index p 0)) rest (elim (token_of p) [ None ↦ None | Some t ↦ option_map (λ (ts : List Token). t ∷ ts) rest ])

one_more : (p : List ℕ) (ps qs : List (List ℕ)) → tokens_among ps ≡ tokens_among qs → tokens_among (p ∷ ps) ≡ tokens_among (p ∷ qs)
one_more p ps qs h = ap (more p) h

longer_tokens : (f ps : List (List ℕ)) (b c : ℕ) (bs cs : List ℕ) → is_blank b ≡ true → is_blank c ≡ true → tokens_among (f ++ (b ∷ bs) ∷ ps) ≡ tokens_among (f ++ (c ∷ cs) ∷ ps)
longer_tokens [] ps b c bs cs hb hc = blank_piece b bs ps hb ∙ sym (blank_piece c cs ps hc)
longer_tokens (p ∷ f) ps b c bs cs hb hc = one_more p (f ++ (b ∷ bs) ∷ ps) (f ++ (c ∷ cs) ∷ ps) (longer_tokens f ps b c bs cs hb hc)

behind_tokens : (f : List (List ℕ)) (b : ℕ) (bs : List ℕ) → is_blank b ≡ true → tokens_among (f ++ (b ∷ bs) ∷ []) ≡ tokens_among f
behind_tokens [] b bs hb = blank_piece b bs [] hb
behind_tokens (p ∷ f) b bs hb = one_more p (f ++ (b ∷ bs) ∷ []) f (behind_tokens f b bs hb)

apart_tokens : (f ps : List (List ℕ)) (c b : ℕ) (cs bs : List ℕ) → is_blank b ≡ true → tokens_among (f ++ (c ∷ cs) ∷ (b ∷ bs) ∷ ps) ≡ tokens_among (f ++ (c ∷ cs) ∷ ps)
apart_tokens [] ps c b cs bs hb = one_more (c ∷ cs) ((b ∷ bs) ∷ ps) ps (blank_piece b bs ps hb)
apart_tokens (p ∷ f) ps c b cs bs hb = one_more p (f ++ (c ∷ cs) ∷ (b ∷ bs) ∷ ps) (f ++ (c ∷ cs) ∷ ps) (apart_tokens f ps c b cs bs hb)

same_tokens : {p q : List (List ℕ)} → Alike p q → tokens_among p ≡ tokens_among q
same_tokens (Longer f ps b c bs cs hb hc) = longer_tokens f ps b c bs cs hb hc
same_tokens (Behind f b bs hb) = behind_tokens f b bs hb
same_tokens (Apart f ps c b cs bs hb) = apart_tokens f ps c b cs bs hb

-- ---- lines

-- no pieces, or a first one that isn't empty
data Full : List (List ℕ) → Type 0 where
  Bare : Full []
  First : (c : ℕ) (cs : List ℕ) (ps : List (List ℕ)) → Full ((c ∷ cs) ∷ ps)

full_with : (b : ℕ) (ps : List (List ℕ)) → Full (with_byte b ps)
full_with b [] = First b [] []
full_with b ([] ∷ ps) = First b [] ps
full_with b ((c ∷ cs) ∷ ps) = here (joins b c) refl
  where
    here : (t : Bool) → joins b c ≡ t → Full (with_byte b ((c ∷ cs) ∷ ps))
    here true is = subst Full (sym (byte_before b c cs ps true is)) (First b (c ∷ cs) ps)
    here false is = subst Full (sym (byte_before b c cs ps false is)) (First b [] ((c ∷ cs) ∷ ps))

full : (l : List ℕ) → Full (pieces l)
full [] = Bare
full (b ∷ l) = full_with b (pieces l)

blank_before : (b : ℕ) {ps : List (List ℕ)} → is_blank b ≡ true → Full ps → tokens_among (with_byte b ps) ≡ tokens_among ps
blank_before b h Bare = blank_piece b [] [] h
blank_before b h (First c cs ps) = here (is_blank c) refl
  where
    here : (t : Bool) → is_blank c ≡ t → tokens_among (with_byte b ((c ∷ cs) ∷ ps)) ≡ tokens_among ((c ∷ cs) ∷ ps)
    here true is = ap tokens_among (byte_before b c cs ps true (joins_behind b c h ∙ is)) ∙ blank_piece b (c ∷ cs) ps h ∙ sym (blank_piece c cs ps is)
    here false is = ap tokens_among (byte_before b c cs ps false (joins_behind b c h ∙ is)) ∙ blank_piece b [] ((c ∷ cs) ∷ ps) h

pub before : (b : ℕ) (l : List ℕ) → is_blank b ≡ true → tokens_of (b ∷ l) ≡ tokens_of l
unfolding tokens_of
before b l h = blank_before b h (full l)

behind_pieces : (l : List ℕ) (b : ℕ) → is_blank b ≡ true → Alike (pieces (l ++ b ∷ [])) (pieces l)
behind_pieces [] b h = Behind [] b [] h
behind_pieces (y ∷ l) b h = keep y (behind_pieces l b h)

pub behind : (l : List ℕ) (b : ℕ) → is_blank b ≡ true → tokens_of (l ++ b ∷ []) ≡ tokens_of l
unfolding tokens_of
behind l b h = same_tokens (behind_pieces l b h)

two_before : (b c : ℕ) {ps : List (List ℕ)} → is_blank b ≡ true → is_blank c ≡ true → Full ps → Alike (with_byte b (with_byte c ps)) (with_byte b ps)
two_before b c hb hc Bare = alike _ _ _ _ (byte_before b c [] [] true (joins_behind b c hb ∙ hc)) refl (Longer [] [] b b (c ∷ []) [] hb hb)
two_before b c hb hc (First d ds ps) = here (is_blank d) refl
  where
    here : (t : Bool) → is_blank d ≡ t → Alike (with_byte b (with_byte c ((d ∷ ds) ∷ ps))) (with_byte b ((d ∷ ds) ∷ ps))
    here true is = alike _ _ _ _
        (ap (with_byte b) (byte_before c d ds ps true (joins_behind c d hc ∙ is)) ∙ byte_before b c (d ∷ ds) ps true (joins_behind b c hb ∙ hc))
        (byte_before b d ds ps true (joins_behind b d hb ∙ is))
        (Longer [] ps b b (c ∷ d ∷ ds) (d ∷ ds) hb hb)
    here false is = alike _ _ _ _
        (ap (with_byte b) (byte_before c d ds ps false (joins_behind c d hc ∙ is)) ∙ byte_before b c [] ((d ∷ ds) ∷ ps) true (joins_behind b c hb ∙ hc))
        (byte_before b d ds ps false (joins_behind b d hb ∙ is))
        (Longer [] ((d ∷ ds) ∷ ps) b b (c ∷ []) [] hb hb)

between_pieces : (l : List ℕ) (b c : ℕ) (m : List ℕ) → is_blank b ≡ true → is_blank c ≡ true → Alike (pieces (l ++ b ∷ c ∷ m)) (pieces (l ++ b ∷ m))
between_pieces [] b c m hb hc = two_before b c hb hc (full m)
between_pieces (y ∷ l) b c m hb hc = keep y (between_pieces l b c m hb hc)

pub between : (l : List ℕ) (b c : ℕ) (m : List ℕ) → is_blank b ≡ true → is_blank c ≡ true → tokens_of (l ++ b ∷ c ∷ m) ≡ tokens_of (l ++ b ∷ m)
unfolding tokens_of
between l b c m hb hc = same_tokens (between_pieces l b c m hb hc)

-- pieces of which the first begins with this byte
data From (y : ℕ) : List (List ℕ) → Type 0 where
  Begins : (cs : List ℕ) (ps : List (List ℕ)) → From y ((y ∷ cs) ∷ ps)

from_byte : (y : ℕ) {ps : List (List ℕ)} → Full ps → From y (with_byte y ps)
from_byte y Bare = Begins [] []
from_byte y (First c cs ps) = here (joins y c) refl
  where
    here : (t : Bool) → joins y c ≡ t → From y (with_byte y ((c ∷ cs) ∷ ps))
    here true is = subst (From y) (sym (byte_before y c cs ps true is)) (Begins (c ∷ cs) ps)
    here false is = subst (From y) (sym (byte_before y c cs ps false is)) (Begins [] ((c ∷ cs) ∷ ps))

blank_within : (x b y : ℕ) {ps : List (List ℕ)} → joins x y ≡ false → is_blank b ≡ true → From y ps → Alike (with_byte x (with_byte b ps)) (with_byte x ps)
blank_within x b y apart hb (Begins cs ps) = here (is_blank y) refl
  where
    alone : with_byte x ((y ∷ cs) ∷ ps) ≡ (x ∷ []) ∷ (y ∷ cs) ∷ ps
    alone = byte_before x y cs ps false apart

    first : (t : Bool) → is_blank x ≡ t → Alike (with_byte x ((b ∷ []) ∷ (y ∷ cs) ∷ ps)) (with_byte x ((y ∷ cs) ∷ ps))
    first true is = alike _ _ _ _ (byte_before x b [] _ true (joins_before x b hb ∙ is)) alone (Longer [] ((y ∷ cs) ∷ ps) x x (b ∷ []) [] is is)
    first false is = alike _ _ _ _ (byte_before x b [] _ false (joins_before x b hb ∙ is)) alone (Apart [] ((y ∷ cs) ∷ ps) x b [] [] hb)

    here : (t : Bool) → is_blank y ≡ t → Alike (with_byte x (with_byte b ((y ∷ cs) ∷ ps))) (with_byte x ((y ∷ cs) ∷ ps))
    here true is = alike _ _ _ _
        (ap (with_byte x) (byte_before b y cs ps true (joins_behind b y hb ∙ is)) ∙ byte_before x b (y ∷ cs) ps false (joins_before x b hb ∙ sym (joins_before x y is) ∙ apart))
        alone
        (Longer ((x ∷ []) ∷ []) ps b y (y ∷ cs) cs hb is)
    here false is = alike _ _ _ _
        (ap (with_byte x) (byte_before b y cs ps false (joins_behind b y hb ∙ is)))
        refl
        (first (is_blank x) refl)

beside_pieces : (l : List ℕ) (x b y : ℕ) (m : List ℕ) → joins x y ≡ false → is_blank b ≡ true → Alike (pieces (l ++ x ∷ b ∷ y ∷ m)) (pieces (l ++ x ∷ y ∷ m))
beside_pieces [] x b y m apart hb = blank_within x b y apart hb (from_byte y (full m))
beside_pieces (z ∷ l) x b y m apart hb = keep z (beside_pieces l x b y m apart hb)

pub beside : (l : List ℕ) (x b y : ℕ) (m : List ℕ) → joins x y ≡ false → is_blank b ≡ true → tokens_of (l ++ x ∷ b ∷ y ∷ m) ≡ tokens_of (l ++ x ∷ y ∷ m)
unfolding tokens_of
beside l x b y m apart hb = same_tokens (beside_pieces l x b y m apart hb)
