-- What several harts do to one memory.
use Rattle.std.proofs.Common.{◌≡◌, ◌≢◌, ℕ, zero, suc, ◌+◌, ◌-◌, ◌*◌, ◌/◌, ◌%◌, ◌^◌, ◌<◌, Bool, true, false, cond, eqb, List, [], ◌∷◌, ◌++◌, Option, Some, None, refl, sym, ap, ◌∙◌, subst, inl, inr, ◌||◌, arith}
use Rattle.std.specs.Option.{is_some, unwrap_or}
use Rattle.std.proofs.Math.Path.{fun_ext}
use Rattle.std.proofs.lemmas.Bool.{cases_Bool, cases_eq, ne_eqb, false_from_ne_true}
use Rattle.rv_script.specs.declared.access.Access.{Access}
use Rattle.rv_script.specs.declared.access.Role.{Role}
use Rattle.rv_script.specs.declared.access.Role.TheVariants.{Fetch, Walk, Load, Store}
use Rattle.rv_script.specs.Lists.{HasItem}
use Rattle.rv_script.specs.Bytes.{covers, is_look, byte_at}
use Rattle.rv_script.specs.Memory.{stored_byte, stored_word, word_after, accessed, memory_after}
use Rattle.rv_hart.specs.Whole.{file_after}
use Rattle.tpl_admit.specs.Solo.{knows_also}
use Rattle.tpl_admit.specs.Validity.{in_turn}

-- byte b of memory
abbrev pub byte_of : (ℕ → ℕ) → ℕ → ℕ
byte_of words b = byte_at b (words (b / 4))

-- where both touch a byte, both only look
abbrev pub Fits : Access → Access → Type 0
Fits x y = (b : ℕ) → covers x b ≡ true → covers y b ≡ true → (is_look x.role ≡ true) × (is_look y.role ≡ true)

abbrev pub AllFit : List Access → List Access → Type 0
AllFit xs ys = (x y : Access) → HasItem xs x → HasItem ys y → Fits x y

-- each value is a word
abbrev pub HoldsWords : (ℕ → ℕ) → Type 0
HoldsWords words = (n : ℕ) → words n < 2 ^ 32

stored_byte_below : (x : Access) (n w i : ℕ) → stored_byte x n w i < 256
stored_byte_below x n w i =
    elim (covers x (n * 4 + i)) as (λ c. cond c (x.value / 256 ^ (n * 4 + i - x.addr) % 256) (w / 256 ^ i % 256) < 256) [ true ↦ omega arith | false ↦ omega arith ]

stored_below : (x : Access) (n w : ℕ) → stored_word x n w < 2 ^ 32
stored_below x n w =
    let a = stored_byte_below x n w 0 in let b = stored_byte_below x n w 1 in let c = stored_byte_below x n w 2 in let d = stored_byte_below x n w 3 in omega arith

-- the four bytes of a word made of four
bytes_back : (a b c d : ℕ) → a < 256 → b < 256 → c < 256 → d < 256 → (i : ℕ) → i < 4
    → (a + 256 * b + 65536 * c + 16777216 * d) / 256 ^ i % 256 ≡ cond (eqb i 0) a (cond (eqb i 1) b (cond (eqb i 2) c d))
bytes_back a b c d ha hb hc hd zero l = omega arith
bytes_back a b c d ha hb hc hd (suc zero) l = omega arith
bytes_back a b c d ha hb hc hd (suc (suc zero)) l = omega arith
bytes_back a b c d ha hb hc hd (suc (suc (suc zero))) l = omega arith
bytes_back a b c d ha hb hc hd (suc (suc (suc (suc i)))) l = absurd (omega arith)

byte_stored : (x : Access) (n w i : ℕ) → i < 4 → stored_word x n w / 256 ^ i % 256 ≡ stored_byte x n w i
byte_stored x n w i l =
    bytes_back _ _ _ _ (stored_byte_below x n w 0) (stored_byte_below x n w 1) (stored_byte_below x n w 2) (stored_byte_below x n w 3) i l ∙ pick i l
  where
    pick : (j : ℕ) → j < 4 → cond (eqb j 0) (stored_byte x n w 0) (cond (eqb j 1) (stored_byte x n w 1) (cond (eqb j 2) (stored_byte x n w 2) (stored_byte x n w 3))) ≡ stored_byte x n w j
    pick zero l = refl
    pick (suc zero) l = refl
    pick (suc (suc zero)) l = refl
    pick (suc (suc (suc zero))) l = refl
    pick (suc (suc (suc (suc j)))) l = absurd (omega arith)

-- two stores to one word, at different bytes
stored_byte_swap : (x y : Access) (n w i : ℕ) → i < 4 → (covers x (n * 4 + i) ≡ true → covers y (n * 4 + i) ≡ true → ⊥)
    → stored_byte x n (stored_word y n w) i ≡ stored_byte y n (stored_word x n w) i
stored_byte_swap x y n w i l apart =
    let bx = byte_stored x n w i l in
    let by = byte_stored y n w i l in
    rw (bx, by) (elim (cases_Bool (covers x (n * 4 + i))) [
      | inl t ↦ let f : covers y (n * 4 + i) ≡ false = false_from_ne_true _ (apart t) in rw (t, f) refl
      | inr f ↦ rw f refl
    ])

four_same : (a b c d e f g h : ℕ) → a ≡ e → b ≡ f → c ≡ g → d ≡ h → a + 256 * b + 65536 * c + 16777216 * d ≡ e + 256 * f + 65536 * g + 16777216 * h
four_same a b c d e f g h p q r s = omega arith

stored_swap : (x y : Access) (n w : ℕ) → ((b : ℕ) → covers x b ≡ true → covers y b ≡ true → ⊥) → stored_word x n (stored_word y n w) ≡ stored_word y n (stored_word x n w)
stored_swap x y n w apart =
    let a = stored_byte_swap x y n w 0 (omega arith) (apart (n * 4 + 0)) in
    let b = stored_byte_swap x y n w 1 (omega arith) (apart (n * 4 + 1)) in
    let c = stored_byte_swap x y n w 2 (omega arith) (apart (n * 4 + 2)) in
    let d = stored_byte_swap x y n w 3 (omega arith) (apart (n * 4 + 3)) in
    four_same _ _ _ _ _ _ _ _ a b c d

same_word : (x y : Access) (n w : ℕ) → Fits x y → word_after x.role x n (word_after y.role y n w) ≡ word_after y.role y n (word_after x.role x n w)
same_word x y n w f = go x.role y.role refl refl
  where
    apart : x.role ≡ Store → (b : ℕ) → covers x b ≡ true → covers y b ≡ true → ⊥
    apart e b t u = let looks : is_look Store ≡ true = subst (λ (r : Role). is_look r ≡ true) e (f b t u).0 in absurd (cc looks)

    go : (r s : Role) → x.role ≡ r → y.role ≡ s → word_after r x n (word_after s y n w) ≡ word_after s y n (word_after r x n w)
    go Fetch s ex ey = refl
    go Walk s ex ey = refl
    go Load s ex ey = refl
    go Store Fetch ex ey = refl
    go Store Walk ex ey = refl
    go Store Load ex ey = refl
    go Store Store ex ey = stored_swap x y n w (apart ex)

-- accesses of two harts commute
swap : (x y : Access) (m : ℕ → ℕ) → Fits x y → accessed x (accessed y m) ≡ accessed y (accessed x m)
swap x y m f = fun_ext (λ n. elim (cases_Bool (eqb n (x.addr / 4))) [
  | inl ex ↦ elim (cases_Bool (eqb n (y.addr / 4))) [
    | inl ey ↦ rw (ex, ey) (same_word x y n (m n) f)
    | inr ey ↦ rw (ex, ey) refl
  ]
  | inr ex ↦ rw ex refl
])

swap_list : (x : Access) (ys : List Access) (m : ℕ → ℕ) → ((y : Access) → HasItem ys y → Fits x y) → accessed x (memory_after ys m) ≡ memory_after ys (accessed x m)
swap_list x [] m f = refl
swap_list x (y ∷ ys) m f =
    swap_list x ys (accessed y m) (λ z h. f z (inr h)) ∙ ap (λ (n : ℕ → ℕ). memory_after ys n) (swap x y m (f y (inl refl)))

commute : (xs ys : List Access) (m : ℕ → ℕ) → AllFit xs ys → memory_after xs (memory_after ys m) ≡ memory_after ys (memory_after xs m)
commute [] ys m f = refl
commute (x ∷ xs) ys m f =
    ap (λ (n : ℕ → ℕ). memory_after xs n) (swap_list x ys m (λ y h. f x y (inl refl) h)) ∙ commute xs ys (accessed x m) (λ a y h. f a y (inr h))

pub memory_after_append : (xs ys : List Access) (m : ℕ → ℕ) → memory_after (xs ++ ys) m ≡ memory_after ys (memory_after xs m)
memory_after_append [] ys m = refl
memory_after_append (x ∷ xs) ys m = memory_after_append xs ys (accessed x m)

-- a word afterwards rests on that word
pub memory_after_at : (xs : List Access) (m m' : ℕ → ℕ) (n : ℕ) → m n ≡ m' n → memory_after xs m n ≡ memory_after xs m' n
memory_after_at [] m m' n e = e
memory_after_at (x ∷ xs) m m' n e =
    memory_after_at xs (accessed x m) (accessed x m') n (ap (λ (w : ℕ). cond (eqb n (x.addr / 4)) (word_after x.role x n w) w) e)

-- words stay words
accessed_words : (x : Access) (m : ℕ → ℕ) → HoldsWords m → HoldsWords (accessed x m)
accessed_words x m are n = elim (cases_Bool (eqb n (x.addr / 4))) [ inl e ↦ rw e (go x.role) | inr e ↦ rw e (are n) ]
  where
    go : (r : Role) → word_after r x n (m n) < 2 ^ 32
    go Fetch = are n
    go Walk = are n
    go Load = are n
    go Store = stored_below x n (m n)

pub memory_after_words : (xs : List Access) (m : ℕ → ℕ) → HoldsWords m → HoldsWords (memory_after xs m)
memory_after_words [] m are = are
memory_after_words (x ∷ xs) m are = memory_after_words xs (accessed x m) (accessed_words x m are)

-- a byte that an access only looks at stays
accessed_out : (x : Access) (m : ℕ → ℕ) (b : ℕ) → (covers x b ≡ true → is_look x.role ≡ true) → byte_of (accessed x m) b ≡ byte_of m b
accessed_out x m b h = elim (cases_Bool (eqb (b / 4) (x.addr / 4))) [ inl e ↦ rw e (go x.role refl e) | inr e ↦ rw e refl ]
  where
    go : (r : Role) → x.role ≡ r → eqb (b / 4) (x.addr / 4) ≡ true → word_after r x (b / 4) (m (b / 4)) / 256 ^ (b % 4) % 256 ≡ byte_of m b
    go Fetch er e = refl
    go Walk er e = refl
    go Load er e = refl
    go Store er e =
        let off : covers x b ≡ false = false_from_ne_true _ (λ t. let l : is_look x.role ≡ true = h t in let l' : false ≡ true = rw er at l in absurd (cc)) in
        let at : b / 4 * 4 + b % 4 ≡ b = omega arith in
        let off' : covers x (b / 4 * 4 + b % 4) ≡ false = ap (covers x) at ∙ off in
        byte_stored x (b / 4) (m (b / 4)) (b % 4) (omega arith) ∙ rw off' refl

memory_after_out : (xs : List Access) (m : ℕ → ℕ) (b : ℕ) → ((x : Access) → HasItem xs x → covers x b ≡ true → is_look x.role ≡ true) → byte_of (memory_after xs m) b ≡ byte_of m b
memory_after_out [] m b h = refl
memory_after_out (x ∷ xs) m b h = memory_after_out xs (accessed x m) b (λ y i. h y (inr i)) ∙ accessed_out x m b (h x (inl refl))

-- a word of which no access is stays
pub memory_after_apart : (xs : List Access) (m : ℕ → ℕ) (n : ℕ) → ((x : Access) → HasItem xs x → n ≢ x.addr / 4) → memory_after xs m n ≡ m n
memory_after_apart [] m n h = refl
memory_after_apart (x ∷ xs) m n h = memory_after_apart xs (accessed x m) n (λ y i. h y (inr i)) ∙ rw (ne_eqb _ _ (h x (inl refl))) refl

pub in_turn_none : (n : ℕ) (m : ℕ → ℕ) → in_turn n (λ k. []) m ≡ m
in_turn_none zero m = refl
in_turn_none (suc n) m = in_turn_none n m

pub in_turn_agree : (n : ℕ) (did did' : ℕ → List Access) (m : ℕ → ℕ) → ((j : ℕ) → j < n → did' j ≡ did j) → in_turn n did' m ≡ in_turn n did m
in_turn_agree zero did did' m h = refl
in_turn_agree (suc n) did did' m h = rw (h n (omega arith), in_turn_agree n did did' m (λ j l. h j (omega arith))) refl

pub in_turn_at : (n : ℕ) (did : ℕ → List Access) (m m' : ℕ → ℕ) (i : ℕ) → m i ≡ m' i → in_turn n did m i ≡ in_turn n did m' i
in_turn_at zero did m m' i e = e
in_turn_at (suc n) did m m' i e = memory_after_at (did n) _ _ i (in_turn_at n did m m' i e)

pub in_turn_apart : (n : ℕ) (did : ℕ → List Access) (m : ℕ → ℕ) (i : ℕ) → ((j : ℕ) → j < n → (x : Access) → HasItem (did j) x → i ≢ x.addr / 4) → in_turn n did m i ≡ m i
in_turn_apart zero did m i h = refl
in_turn_apart (suc n) did m i h = memory_after_apart (did n) _ i (h n (omega arith)) ∙ in_turn_apart n did m i (λ j l. h j (omega arith))

pub in_turn_out : (n : ℕ) (did : ℕ → List Access) (m : ℕ → ℕ) (b : ℕ)
    → ((j : ℕ) → j < n → (x : Access) → HasItem (did j) x → covers x b ≡ true → is_look x.role ≡ true) → byte_of (in_turn n did m) b ≡ byte_of m b
in_turn_out zero did m b h = refl
in_turn_out (suc n) did m b h = memory_after_out (did n) _ b (h n (omega arith)) ∙ in_turn_out n did m b (λ j l. h j (omega arith))

-- what fits all the others may as well come first
past : (n : ℕ) (did : ℕ → List Access) (m : ℕ → ℕ) (xs : List Access) → ((j : ℕ) → j < n → AllFit xs (did j)) → memory_after xs (in_turn n did m) ≡ in_turn n did (memory_after xs m)
past zero did m xs f = refl
past (suc n) did m xs f = commute xs (did n) (in_turn n did m) (f n (omega arith)) ∙ ap (λ (q : ℕ → ℕ). memory_after (did n) q) (past n did m xs (λ j l. f j (omega arith)))

-- a byte that the other harts only look at is what this hart alone makes of it
pub in_turn_one : (n : ℕ) (did : ℕ → List Access) (m : ℕ → ℕ) (k b : ℕ) → k < n
    → ((j : ℕ) → j < n → j ≢ k → AllFit (did k) (did j))
    → ((j : ℕ) → j < n → j ≢ k → (x : Access) → HasItem (did j) x → covers x b ≡ true → is_look x.role ≡ true)
    → byte_of (in_turn n did m) b ≡ byte_of (memory_after (did k) m) b
in_turn_one zero did m k b l fit out = absurd (omega arith)
in_turn_one (suc n) did m k b l fit out = elim (cases_eq k n) [
  | inl e ↦
      let first : memory_after (did k) (in_turn n did m) ≡ in_turn n did (memory_after (did k) m) = past n did m (did k) (λ j u. fit j (omega arith) (omega arith)) in
      ap (λ (i : ℕ). byte_of (memory_after (did i) (in_turn n did m)) b) (sym e)
      ∙ ap (λ (q : ℕ → ℕ). byte_of q b) first
      ∙ in_turn_out n did (memory_after (did k) m) b (λ j u. out j (omega arith) (omega arith))
  | inr ne ↦ memory_after_out (did n) _ b (out n (omega arith) (λ e. ne (sym e))) ∙ in_turn_one n did m k b (omega arith) (λ j u v. fit j (omega arith) v) (λ j u v. out j (omega arith) v)
]

-- one more step of one hart, as if it came last
pub in_turn_more : (n : ℕ) (did did' : ℕ → List Access) (m : ℕ → ℕ) (k : ℕ) (xs : List Access) → k < n
    → did' k ≡ did k ++ xs
    → ((j : ℕ) → j ≢ k → did' j ≡ did j)
    → ((j : ℕ) → j < n → j ≢ k → AllFit (did j) xs)
    → in_turn n did' m ≡ memory_after xs (in_turn n did m)
in_turn_more zero did did' m k xs l here there fit = absurd (omega arith)
in_turn_more (suc n) did did' m k xs l here there fit = elim (cases_eq k n) [
  | inl e ↦
      let same : in_turn n did' m ≡ in_turn n did m = in_turn_agree n did did' m (λ j u. there j (omega arith)) in
      let now : did' n ≡ did n ++ xs = subst (λ (i : ℕ). did' i ≡ did i ++ xs) e here in
      rw (now, same) (memory_after_append (did n) xs (in_turn n did m))
  | inr ne ↦
      let other : n ≢ k = λ e. ne (sym e) in
      let ih = in_turn_more n did did' m k xs (omega arith) here there (λ j u. fit j (omega arith)) in
      rw (there n other, ih) (commute (did n) xs (in_turn n did m) (fit n (omega arith) other))
]

-- registers and CSRs after the same writes
pub file_after_same : (writes : ℕ → Option ℕ) (knows : ℕ → Bool) (f g : ℕ → ℕ) (p : ℕ) → knows_also writes knows p ≡ true → (knows p ≡ true → f p ≡ g p) → file_after writes f p ≡ file_after writes g p
file_after_same writes knows f g p k h = go (writes p) k
  where
    go : (o : Option ℕ) → (is_some o || knows p) ≡ true → unwrap_or o (f p) ≡ unwrap_or o (g p)
    go None k = h k
    go (Some v) k = refl

pub file_after_other : (writes : ℕ → Option ℕ) (knows : ℕ → Bool) (f : ℕ → ℕ) (p : ℕ) → knows_also writes knows p ≡ false → (file_after writes f p ≡ f p) × (knows p ≡ false)
file_after_other writes knows f p k = go (writes p) k
  where
    go : (o : Option ℕ) → (is_some o || knows p) ≡ false → (unwrap_or o (f p) ≡ f p) × (knows p ≡ false)
    go None k = (refl, k)
    go (Some v) k = absurd (cc k)
