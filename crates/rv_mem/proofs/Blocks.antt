-- Words in a list of blocks.
use Rattle.std.proofs.Common.{◌≡◌, ◌≢◌, ℕ, zero, suc, ◌+◌, ◌-◌, ◌<◌, ◌≤◌, ◌&&◌, Bool, true, false, cond, List, [], ◌∷◌, ◌++◌, take, if◌then◌else◌, ◌||◌, Option, Some, None, length, get_or, set, slice_get, slice_set, position, nat_le, nat_lt, IsTrue, refl, sym, ap, ◌∙◌, arith}
use Rattle.std.specs.List.{find, position_or_len}
use Rattle.std.proofs.lemmas.List.{get_or-set_same, get_or-set_other, length-set}
use Rattle.std.proofs.lemmas.List.Folds.{find_at, find-set, find-append, list_any_more}
use Rattle.std.proofs.lemmas.List.Quantifiers.{position-Some}
use Rattle.std.proofs.lemmas.Bool.Decides.{nat_tests}
use Rattle.std.proofs.lemmas.Option.{slice_get-get_or, slice_get_past}
use Rattle.rv_mem.specs.declared.words.Seen.{Seen}
use Rattle.rv_mem.specs.declared.words.Seen.TheVariants.{Known, Untouched, Vacant}
use Rattle.rv_mem.specs.declared.full.Block.{Block}
use Rattle.std.specs.Option.{option_or}
use Rattle.rv_mem.specs.Ram.{in_region, in_ram}
use Rattle.rv_mem.specs.Seen.{is_there}
use Rattle.rv_mem.specs.Full.{holds, word_of, found, blocks_at}

inside_of : (f m l : ℕ) → (nat_le f m && nat_lt m (f + l)) ≡ true → (f ≤ m) × (m - f < l)
inside_of f m l h = (grind (arith, nat_tests), grind (arith, nat_tests))

some_is : (b : Bool) (m i : ℕ) → cond b (Some m) None ≡ Some i → m ≡ i
some_is true m i e = cc
some_is false m i e = absurd (cc)

none_is : (m n : ℕ) → cond (nat_lt m n) (Some m) None ≡ None → n ≤ m
none_is m n e = grind (arith, nat_tests)

first_is : (bs : List Block) (m i : ℕ) → position (λ b. holds b m) bs ≡ Some i → position_or_len (λ b. holds b m) bs ≡ i
first_is bs m i e = some_is (nat_lt (position_or_len (λ b. holds b m) bs) (length bs)) (position_or_len (λ b. holds b m) bs) i e

pub holds_there : (bs : List Block) (m i : ℕ) (b : Block) → position (λ x. holds x m) bs ≡ Some i → b ≡ get_or bs i b → holds b m ≡ true
holds_there bs m i b e is = ap (λ (x : Block). holds x m) is ∙ (position-Some (λ x. holds x m) bs i b e).1

pub at_index : (bs : List Block) (m i : ℕ) (b : Block) → position (λ x. holds x m) bs ≡ Some i → b ≡ get_or bs i b → blocks_at bs m ≡ Known (word_of b m)
at_index bs m i b e is =
    let inside : i < length bs = (position-Some (λ x. holds x m) bs i b e).0 in
    ap (λ (o : Option Block). found m o)
    (find_at (λ x. holds x m) bs ∙ ap (λ (k : ℕ). slice_get bs k) (first_is bs m i e) ∙ slice_get-get_or bs i b inside ∙ ap (λ (x : Block). Some x) (sym is))

pub nowhere : (bs : List Block) (m : ℕ) → position (λ x. holds x m) bs ≡ None → blocks_at bs m ≡ Vacant
nowhere bs m e =
    let past : length bs ≤ position_or_len (λ b. holds b m) bs = none_is (position_or_len (λ b. holds b m) bs) (length bs) e in
    ap (λ (o : Option Block). found m o) (find_at (λ x. holds x m) bs ∙ slice_get_past bs (position_or_len (λ b. holds b m) bs) past)

chosen : (t u : Bool) (rest : Option Block) (c b : Block) (n : ℕ) → t ≡ u → (t ≡ true → word_of c n ≡ word_of b n)
    → found n (cond t (Some c) rest) ≡ found n (cond u (Some b) rest)
chosen true true rest c b n e w = ap (λ (x : ℕ). Known x) (w refl)
chosen true false rest c b n e w = absurd (cc)
chosen false true rest c b n e w = absurd (cc)
chosen false false rest c b n e w = refl

passed : (t : Bool) (b : Block) (x y : Option Block) (n : ℕ) → found n x ≡ found n y → found n (cond t (Some b) x) ≡ found n (cond t (Some b) y)
passed true b x y n e = refl
passed false b x y n e = e

-- a block that shows the same of a word takes another's place
kept : (bs : List Block) (i n : ℕ) (c d : Block) → i < length bs → holds c n ≡ holds (get_or bs i d) n → (holds c n ≡ true → word_of c n ≡ word_of (get_or bs i d) n)
    → blocks_at (set bs i c) n ≡ blocks_at bs n
kept [] i n c d l h w = absurd (omega arith)
kept (b ∷ bs) zero n c d l h w = chosen (holds c n) (holds b n) (find (λ x. holds x n) bs) c b n h w
kept (b ∷ bs) (suc i) n c d l h w = passed (holds b n) b (find (λ x. holds x n) (set bs i c)) (find (λ x. holds x n) bs) n (kept bs i n c d (omega arith) h w)

-- one word of the block changes
pub record IsSet (m w : ℕ) (b c : Block) : Type 0 where
  pub first : c.first ≡ b.first
  pub words : c.words.items ≡ slice_set b.words.items (m - b.first) w

inside : (m : ℕ) (b : Block) → holds b m ≡ true → (b.first ≤ m) × (m - b.first < length b.words.items)
inside m b h = inside_of b.first m (length b.words.items) h

apart_from : (f m n : ℕ) → f ≤ m → f ≤ n → n ≢ m → n - f ≢ m - f
apart_from f m n a b d = λ e. d (omega arith)

holds_same : (m w n : ℕ) (b c : Block) → IsSet m w b c → holds c n ≡ holds b n
holds_same m w n b c s = rw (s.first, s.words, length-set) refl

pub put_known : (bs : List Block) (m i w : ℕ) (b c : Block) → position (λ x. holds x m) bs ≡ Some i → b ≡ get_or bs i b → IsSet m w b c
    → blocks_at (slice_set bs i c) m ≡ Known w
put_known bs m i w b c e is s =
    let there : holds b m ≡ true = holds_there bs m i b e is in
    let at : find (λ x. holds x m) (set bs i c) ≡ Some c =
    find-set (λ x. holds x m) bs i c (sym (first_is bs m i e)) (position-Some (λ x. holds x m) bs i b e).0 (holds_same m w m b c s ∙ there) in
    ap (λ (o : Option Block). found m o) at ∙ rw (s.first, s.words) (ap (λ (x : ℕ). Known x) (get_or-set_same b.words.items (m - b.first) w 0 (inside m b there).1))

pub put_others : (bs : List Block) (m i w : ℕ) (b c : Block) → position (λ x. holds x m) bs ≡ Some i → b ≡ get_or bs i b → IsSet m w b c
    → (n : ℕ) → n ≢ m → blocks_at (slice_set bs i c) n ≡ blocks_at bs n
put_others bs m i w b c e is s n apart =
    let there : holds b m ≡ true = holds_there bs m i b e is in
    let same : holds c n ≡ holds b n = holds_same m w n b c s in
    let word : holds c n ≡ true → word_of c n ≡ word_of b n =
    λ h. let within = inside n b (sym same ∙ h) in
    let away : n - b.first ≢ m - b.first = apart_from b.first m n (inside m b there).0 within.0 apart in
    rw (s.first, s.words) (get_or-set_other b.words.items (m - b.first) (n - b.first) w 0 away) in
    kept bs i n c b (position-Some (λ x. holds x m) bs i b e).0 (same ∙ ap (λ (x : Block). holds x n) is) (λ h. word h ∙ ap (λ (x : Block). word_of x n) is)

joined : (o q : Option Block) (t u : Bool) (fill n : ℕ) → found n o ≡ cond t (Known fill) Vacant → found n q ≡ cond u (Known fill) Vacant
    → found n (option_or o q) ≡ cond (t || u) (Known fill) Vacant
joined None q true u fill n e g = absurd (cc)
joined None q false u fill n e g = g
joined (Some b) q true u fill n e g = e
joined (Some b) q false u fill n e g = absurd (cc)

-- one more block for one more region
pub one_more : (bs : List Block) (b : Block) (xs : List (ℕ × ℕ)) (i fill n : ℕ) (r : ℕ × ℕ) → i < length xs
    → blocks_at bs n ≡ (if in_ram (take i xs) n then Known fill else Vacant)
    → blocks_at (b ∷ []) n ≡ (if in_region (get_or xs i r) n then Known fill else Vacant)
    → blocks_at (bs ++ b ∷ []) n ≡ (if in_ram (take (i + 1) xs) n then Known fill else Vacant)
one_more bs b xs i fill n r l e g =
    ap (λ (o : Option Block). found n o) (find-append (λ x. holds x n) bs (b ∷ []))
    ∙ joined (find (λ x. holds x n) bs) (find (λ x. holds x n) (b ∷ [])) (in_ram (take i xs) n) (in_region (get_or xs i r) n) fill n e g
    ∙ ap (λ (t : Bool). cond t (Known fill) Vacant) (sym (list_any_more (λ x. in_region x n) xs i r l))

-- no word of RAM is vacant
pub there_only : (s : Seen) (w : ℕ) → s ≡ Vacant → IsTrue (is_there s) → s ≡ Known w
there_only (Known v) w e h = absurd (cc)
there_only Untouched w e h = absurd (cc)
there_only Vacant w e h = absurd (cc h)
