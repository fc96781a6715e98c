-- Lines that read alike.
use Rattle.std.proofs.Common.{◌≡◌, ℕ, suc, ◌+◌, Bool, true, false, eqb, cond, ◌||◌, ⊎_elim, List, [], ◌∷◌, ◌++◌, take, append-nil, append_assoc, refl, sym, ap, ◌∙◌, subst, arith}
use Rattle.std.specs.List.{list_any}
use Rattle.std.proofs.lemmas.List.Folds.{list_any-append}
use Rattle.tpl_lang.specs.Laws.{ReadAlike}
use Rattle.tpl_lang.specs.Lines.{is_bad_byte, length_until, uncommented}
use Rattle.tpl_lang.specs.Tokens.{is_blank, joins, tokens_of}
use Rattle.tpl_lang.proofs.Blanks as tokens
use Rattle.tpl_lang.proofs.Texts.{uncommented_before, until_is}

-- ---- bytes that aren't allowed

bad_or : (b : ℕ) (l : List ℕ) → is_bad_byte b ≡ false → list_any is_bad_byte (b ∷ l) ≡ list_any is_bad_byte l
bad_or b l good = rw good refl

blank_is_good : (b : ℕ) → is_blank b ≡ true → is_bad_byte b ≡ false
blank_is_good b h = ⊎_elim (λ is. subst (λ (x : ℕ). is_bad_byte x ≡ false) (sym is) refl) (λ is. subst (λ (x : ℕ). is_bad_byte x ≡ false) (sym is) refl) (tokens.blanks b h)

without_blank : (b : ℕ) (l : List ℕ) → is_blank b ≡ true → list_any is_bad_byte (b ∷ l) ≡ list_any is_bad_byte l
without_blank b l h = bad_or b l (blank_is_good b h)

behind_line : (l m n : List ℕ) → list_any is_bad_byte m ≡ list_any is_bad_byte n → list_any is_bad_byte (l ++ m) ≡ list_any is_bad_byte (l ++ n)
behind_line l m n same = list_any-append is_bad_byte l m ∙ ap (λ (t : Bool). list_any is_bad_byte l || t) same ∙ sym (list_any-append is_bad_byte l n)

-- ---- comments

-- a byte is kept where it begins no comment
with_first : (c : ℕ) (l : List ℕ) (t : Bool) → eqb c 35 ≡ t → uncommented (c ∷ l) ≡ cond t [] (c ∷ uncommented l)
with_first c l true is = ap (λ (n : ℕ). take n (c ∷ l)) (until_is 35 c l true is)
with_first c l false is =
    let e : length_until 35 l + 1 ≡ suc (length_until 35 l) = omega arith in
    ap (λ (n : ℕ). take n (c ∷ l)) (until_is 35 c l false is ∙ e)

-- a comment begins in the line, so that what stands behind it is no matter, or none does
data Begun (l : List ℕ) : Type 0 where
  Commented : ((m : List ℕ) → uncommented (l ++ m) ≡ uncommented l) → Begun l
  Open : ((m : List ℕ) → uncommented (l ++ m) ≡ l ++ uncommented m) → Begun l

begun_by : (c : ℕ) (l : List ℕ) (t : Bool) → eqb c 35 ≡ t → Begun l → Begun (c ∷ l)
begun_by c l true is h = Commented (λ m. with_first c (l ++ m) true is ∙ sym (with_first c l true is))
begun_by c l false is (Commented f) = Commented (λ m. with_first c (l ++ m) false is ∙ ap (λ (x : List ℕ). c ∷ x) (f m) ∙ sym (with_first c l false is))
begun_by c l false is (Open g) = Open (λ m. with_first c (l ++ m) false is ∙ ap (λ (x : List ℕ). c ∷ x) (g m))

begun : (l : List ℕ) → Begun l
begun [] = Open (λ m. refl)
begun (c ∷ l) = begun_by c l (eqb c 35) refl (begun l)

whole : (l : List ℕ) → ((m : List ℕ) → uncommented (l ++ m) ≡ l ++ uncommented m) → uncommented l ≡ l
whole l g = ap uncommented (sym (append-nil l)) ∙ g [] ∙ append-nil l

blank_is_no_sign : (b : ℕ) → is_blank b ≡ true → eqb b 35 ≡ false
blank_is_no_sign b h = ⊎_elim (λ is. subst (λ (x : ℕ). eqb x 35 ≡ false) (sym is) refl) (λ is. subst (λ (x : ℕ). eqb x 35 ≡ false) (sym is) refl) (tokens.blanks b h)

kept_blank : (b : ℕ) (l : List ℕ) → is_blank b ≡ true → uncommented (b ∷ l) ≡ b ∷ uncommented l
kept_blank b l h = with_first b l false (blank_is_no_sign b h)

good_sign : (l : List ℕ) → list_any is_bad_byte (35 ∷ l) ≡ list_any is_bad_byte l
good_sign l = bad_or 35 l refl

pub comments : (l comment : List ℕ) → list_any is_bad_byte comment ≡ false → ReadAlike (l ++ 35 ∷ comment) l
comments l comment good = (
  behind_line l (35 ∷ comment) [] (good_sign comment ∙ good) ∙ ap (list_any is_bad_byte) (append-nil l),
  ap tokens_of (uncommented_before l comment),
)

-- ---- blanks

pub before : (b : ℕ) (l : List ℕ) → is_blank b ≡ true → ReadAlike (b ∷ l) l
before b l h = (without_blank b l h, ap tokens_of (kept_blank b l h) ∙ tokens.before b (uncommented l) h)

behind_tokens : (l : List ℕ) (b : ℕ) → is_blank b ≡ true → Begun l → tokens_of (uncommented (l ++ b ∷ [])) ≡ tokens_of (uncommented l)
behind_tokens l b h (Commented f) = ap tokens_of (f (b ∷ []))
behind_tokens l b h (Open g) = ap tokens_of (g (b ∷ []) ∙ ap (λ (x : List ℕ). l ++ x) (kept_blank b [] h)) ∙ tokens.behind l b h ∙ sym (ap tokens_of (whole l g))

pub behind : (l : List ℕ) (b : ℕ) → is_blank b ≡ true → ReadAlike (l ++ b ∷ []) l
behind l b h = (behind_line l (b ∷ []) [] (without_blank b [] h) ∙ ap (list_any is_bad_byte) (append-nil l), behind_tokens l b h (begun l))

between_tokens : (l : List ℕ) (b c : ℕ) (m : List ℕ) → is_blank b ≡ true → is_blank c ≡ true → Begun l → tokens_of (uncommented (l ++ b ∷ c ∷ m)) ≡ tokens_of (uncommented (l ++ b ∷ m))
between_tokens l b c m hb hc (Commented f) = ap tokens_of (f (b ∷ c ∷ m) ∙ sym (f (b ∷ m)))
between_tokens l b c m hb hc (Open g) =
    ap tokens_of (g (b ∷ c ∷ m) ∙ ap (λ (x : List ℕ). l ++ x) (kept_blank b (c ∷ m) hb ∙ ap (λ (x : List ℕ). b ∷ x) (kept_blank c m hc)))
    ∙ tokens.between l b c (uncommented m) hb hc
    ∙ sym (ap tokens_of (g (b ∷ m) ∙ ap (λ (x : List ℕ). l ++ x) (kept_blank b m hb)))

pub between : (l : List ℕ) (b c : ℕ) (m : List ℕ) → is_blank b ≡ true → is_blank c ≡ true → ReadAlike (l ++ b ∷ c ∷ m) (l ++ b ∷ m)
between l b c m hb hc = (
  behind_line l (b ∷ c ∷ m) (b ∷ m) (without_blank b (c ∷ m) hb ∙ without_blank c m hc ∙ sym (without_blank b m hb)),
  between_tokens l b c m hb hc (begun l),
)

-- what stands behind the byte x is kept, and y begins a comment or doesn't
beside_second : (l : List ℕ) (x b y : ℕ) (m : List ℕ) (t : Bool) → eqb y 35 ≡ t → joins x y ≡ false → is_blank b ≡ true → tokens_of (l ++ x ∷ b ∷ uncommented (y ∷ m)) ≡ tokens_of (l ++ x ∷ uncommented (y ∷ m))
beside_second l x b y m true is apart h =
    ap (λ (u : List ℕ). tokens_of (l ++ x ∷ b ∷ u)) (with_first y m true is)
    ∙ ap tokens_of (sym (append_assoc l (x ∷ []) (b ∷ [])))
    ∙ tokens.behind (l ++ x ∷ []) b h
    ∙ sym (ap (λ (u : List ℕ). tokens_of (l ++ x ∷ u)) (with_first y m true is))
beside_second l x b y m false is apart h =
    ap (λ (u : List ℕ). tokens_of (l ++ x ∷ b ∷ u)) (with_first y m false is)
    ∙ tokens.beside l x b y (uncommented m) apart h
    ∙ sym (ap (λ (u : List ℕ). tokens_of (l ++ x ∷ u)) (with_first y m false is))

beside_first : (l : List ℕ) (x b y : ℕ) (m : List ℕ) (t : Bool) → eqb x 35 ≡ t → joins x y ≡ false → is_blank b ≡ true → tokens_of (l ++ uncommented (x ∷ b ∷ y ∷ m)) ≡ tokens_of (l ++ uncommented (x ∷ y ∷ m))
beside_first l x b y m true is apart h = ap (λ (u : List ℕ). tokens_of (l ++ u)) (with_first x (b ∷ y ∷ m) true is ∙ sym (with_first x (y ∷ m) true is))
beside_first l x b y m false is apart h =
    ap (λ (u : List ℕ). tokens_of (l ++ u)) (with_first x (b ∷ y ∷ m) false is ∙ ap (λ (u : List ℕ). x ∷ u) (kept_blank b (y ∷ m) h))
    ∙ beside_second l x b y m (eqb y 35) refl apart h
    ∙ sym (ap (λ (u : List ℕ). tokens_of (l ++ u)) (with_first x (y ∷ m) false is))

beside_tokens : (l : List ℕ) (x b y : ℕ) (m : List ℕ) → joins x y ≡ false → is_blank b ≡ true → Begun l → tokens_of (uncommented (l ++ x ∷ b ∷ y ∷ m)) ≡ tokens_of (uncommented (l ++ x ∷ y ∷ m))
beside_tokens l x b y m apart h (Commented f) = ap tokens_of (f (x ∷ b ∷ y ∷ m) ∙ sym (f (x ∷ y ∷ m)))
beside_tokens l x b y m apart h (Open g) = ap tokens_of (g (x ∷ b ∷ y ∷ m)) ∙ beside_first l x b y m (eqb x 35) refl apart h ∙ sym (ap tokens_of (g (x ∷ y ∷ m)))

pub beside : (l : List ℕ) (x b y : ℕ) (m : List ℕ) → joins x y ≡ false → is_blank b ≡ true → ReadAlike (l ++ x ∷ b ∷ y ∷ m) (l ++ x ∷ y ∷ m)
beside l x b y m apart h = (
  behind_line l (x ∷ b ∷ y ∷ m) (x ∷ y ∷ m) (ap (λ (t : Bool). is_bad_byte x || t) (without_blank b (y ∷ m) h)),
  beside_tokens l x b y m apart h (begun l),
)
