-- Notes of accesses, and what they undo.
use Rattle.std.proofs.Common.{◌≡◌, ℕ, ◌+◌, ◌-◌, ◌/◌, ◌<◌, ◌≤◌, Bool, true, false, ◌&&◌, ◌||◌, not, eqb, leb, ltb, List, [], ◌∷◌, ◌++◌, map, drop, get_or, length, refl, sym, ap, ◌∙◌, inl, inr, arith}
use Rattle.std.specs.List.{list_any}
use Rattle.std.proofs.lemmas.Bool.{cases_Bool, eqb-true, leb-true, ltb-true, lt-ltb}
use Rattle.std.proofs.lemmas.List.{drop_more}
use Rattle.std.proofs.Math.Path.{fun_ext}
use Rattle.rv_script.specs.declared.access.Access.{Access}
use Rattle.rv_script.specs.declared.access.Role.{Role}
use Rattle.rv_mem.specs.declared.words.Seen.{Seen}
use Rattle.rv_mem.specs.declared.words.Seen.TheVariants.{Known}
use Rattle.foot_map.specs.declared.touch.Touch.{Touch}
use Rattle.foot_map.proofs.Orders.{same_role_is}
use Rattle.foot_map.specs.Touches.{has, has_bit, is_part, is_masked, same_role, IsAdded, IsMaskOfNew, IsRemoved}
use Rattle.part_machine.specs.declared.notes.Note.{Note}
use Rattle.part_machine.specs.Notes.{Feet, any_masked, taken_out, touched, with_seen, put_back, IsKnownAt}

pub split_at : {A : Type 0} (xs : List A) (i : ℕ) (x : A) → i < length xs → x ≡ get_or xs i x → drop i xs ≡ x ∷ drop (i + 1) xs
split_at {A} xs i x within is = drop_more xs i x within ∙ ap (λ (y : A). y ∷ drop (i + 1) xs) (sym is)

-- ---- taking out

and_not_or : (a m r : Bool) → ((a && not m) && not r) ≡ (a && not (m || r))
and_not_or true true r = refl
and_not_or true false r = refl
and_not_or false m r = refl

pub take_step : (hart : ℕ) (x : Note) (rest : List Note) (now new : List Touch) → IsRemoved hart x.role x.addr x.mask now new
    → (b h : ℕ) (r : Role) → taken_out hart rest (has new) b h r ≡ taken_out hart (x ∷ rest) (has now) b h r
take_step hart x rest now new removed b h r =
    ap (λ (q : Bool). q && not (any_masked hart rest b h r)) (removed b h r) ∙ and_not_or (has now b h r) (is_masked hart x.role x.addr x.mask b h r) (any_masked hart rest b h r)

pub take_none : (hart : ℕ) (feet : Feet) (b h : ℕ) (r : Role) → taken_out hart [] feet b h r ≡ feet b h r
take_none hart feet b h r = go (feet b h r)
  where
    go : (a : Bool) → (a && true) ≡ a
    go true = refl
    go false = refl

-- ---- putting back

pub put_back_same : (ns : List Note) (f g : ℕ → Seen) → ((n : ℕ) → f n ≡ g n) → (n : ℕ) → put_back ns f n ≡ put_back ns g n
put_back_same ns f g same n = let e : f ≡ g = fun_ext same in ap (λ (q : ℕ → Seen). put_back ns q n) e

pub known_with : (n w : ℕ) (f : ℕ → Seen) (addr : ℕ) → IsKnownAt f addr → IsKnownAt (with_seen n (Known w) f) addr
known_with n w f addr known = elim (cases_Bool (eqb (addr / 4) n)) [
  | inl t ↦ (w, rw t refl)
  | inr e ↦ (known.0, rw e known.1)
]

-- ---- adding

or_false : (a : Bool) → (a || false) ≡ a
or_false true = refl
or_false false = refl

or_or : (a p q : Bool) → ((a || p) || q) ≡ (a || (p || q))
or_or true p q = refl
or_or false p q = refl

pub touch_step : (hart : ℕ) (x : Access) (rest : List Access) (now new : List Touch) → IsAdded hart x.role x.addr x.size now new
    → (b h : ℕ) (r : Role) → touched hart rest (has new) b h r ≡ touched hart (x ∷ rest) (has now) b h r
touch_step hart x rest now new added b h r =
    ap (λ (q : Bool). q || list_any (λ (y : Access). is_part hart y.role y.addr y.size b h r) rest) (added b h r)
    ∙ or_or (has now b h r) (is_part hart x.role x.addr x.size b h r) (list_any (λ (y : Access). is_part hart y.role y.addr y.size b h r) rest)

-- what a mask of new bytes stands for
masked_is : (hart : ℕ) (role : Role) (addr len mask : ℕ) (now : List Touch) → IsMaskOfNew hart role addr len now mask
    → (b h : ℕ) (r : Role) → is_masked hart role addr mask b h r ≡ (is_part hart role addr len b h r && not (has now b h r))
masked_is hart role addr len mask now is b h r = elim (cases_Bool (leb addr b)) [
  | inl le ↦ elim (cases_Bool (eqb hart h)) [
    | inl same ↦ elim (cases_Bool (same_role role r)) [
      | inl alike ↦
          let l : addr ≤ b = leb-true addr b le in
          let back : addr + (b - addr) ≡ b = omega (arith, l) in
          let hart_is : hart ≡ h = eqb-true hart h same in
          let role_is : role ≡ r = same_role_is role r alike in
          let here : has now (addr + (b - addr)) hart role ≡ has now b h r =
          ap (λ (n : ℕ). has now n hart role) back ∙ ap (λ (k : ℕ). has now b k role) hart_is ∙ ap (λ (s : Role). has now b h s) role_is in
          let bit : has_bit mask (b - addr) ≡ (ltb (b - addr) len && not (has now b h r)) = is (b - addr) ∙ ap (λ (q : Bool). ltb (b - addr) len && not q) here in
          let below : ltb (b - addr) len ≡ ltb b (addr + len) = ltb_shift addr b len l in
          rw (le, same, alike, bit, below) (and_true (ltb b (addr + len)) (not (has now b h r)))
      | inr other ↦ rw (le, same, other) (none (has_bit mask (b - addr)) (ltb b (addr + len)) (not (has now b h r)))
    ]
    | inr other ↦ rw (le, other) (none (has_bit mask (b - addr)) (ltb b (addr + len)) (not (has now b h r)))
  ]
  | inr gt ↦ rw gt refl
]
  where
    and_true : (p q : Bool) → ((p && q) && true) ≡ ((p && true) && q)
    and_true true true = refl
    and_true true false = refl
    and_true false q = refl

    none : (p q s : Bool) → (p && false) ≡ ((q && false) && s)
    none true true s = refl
    none true false s = refl
    none false true s = refl
    none false false s = refl

    ltb_shift : (a b len : ℕ) → a ≤ b → ltb (b - a) len ≡ ltb b (a + len)
    ltb_shift a b len l = elim (cases_Bool (ltb b (a + len))) [
      | inl t ↦ let lt : b < a + len = ltb-true b (a + len) t in lt-ltb (b - a) len (omega (arith, lt, l)) ∙ sym t
      | inr f ↦ elim (cases_Bool (ltb (b - a) len)) [
        | inl u ↦ let lt : b - a < len = ltb-true (b - a) len u in u ∙ sym (lt-ltb b (a + len) (omega (arith, lt, l)))
        | inr g ↦ g ∙ sym f
      ]
    ]

-- the notes of new bytes are what is there now and was not there at first
pub mask_step : (hart : ℕ) (x : Access) (mask word : ℕ) (notes : List Note) (first now new : List Touch)
    → IsAdded hart x.role x.addr x.size now new → IsMaskOfNew hart x.role x.addr x.size now mask
    → ((b h : ℕ) (r : Role) → any_masked hart notes b h r ≡ (has now b h r && not (has first b h r)))
    → ((b h : ℕ) (r : Role) → has first b h r ≡ true → has now b h r ≡ true)
    → (b h : ℕ) (r : Role) → any_masked hart (notes ++ record { role = x.role; addr = x.addr; mask = mask; word = word } ∷ []) b h r ≡ (has new b h r && not (has first b h r))
mask_step hart x mask word notes first now new added is masked more b h r =
    let note : Note = record { role = x.role; addr = x.addr; mask = mask; word = word } in
    any_append (λ (y : Note). is_masked hart y.role y.addr y.mask b h r) notes note
    ∙ ap (λ (q : Bool). q || is_masked hart x.role x.addr mask b h r) (masked b h r)
    ∙ ap (λ (q : Bool). (has now b h r && not (has first b h r)) || q) (masked_is hart x.role x.addr x.size mask now is b h r)
    ∙ go (has first b h r) (has now b h r) (is_part hart x.role x.addr x.size b h r) (more b h r)
    ∙ ap (λ (q : Bool). q && not (has first b h r)) (sym (added b h r))
  where
    any_append : (f : Note → Bool) (ns : List Note) (n : Note) → list_any f (ns ++ n ∷ []) ≡ (list_any f ns || f n)
    any_append f [] n = or_false (f n)
    any_append f (m ∷ ns) n = ap (λ (q : Bool). f m || q) (any_append f ns n) ∙ sym (or_or (f m) (list_any f ns) (f n))

    go : (f n p : Bool) → (f ≡ true → n ≡ true) → ((n && not f) || (p && not n)) ≡ ((n || p) && not f)
    go true true true m = refl
    go true true false m = refl
    go true false p m = let no : false ≡ true = m refl in absurd (cc no)
    go false true true m = refl
    go false true false m = refl
    go false false true m = refl
    go false false false m = refl

pub more_step : (hart : ℕ) (x : Access) (now new : List Touch) → IsAdded hart x.role x.addr x.size now new → (b h : ℕ) (r : Role) → has now b h r ≡ true → has new b h r ≡ true
more_step hart x now new added b h r t = added b h r ∙ rw t refl

-- what the notes took is taken out again
pub notes_undo : (hart : ℕ) (notes : List Note) (first now : Feet)
    → ((b h : ℕ) (r : Role) → any_masked hart notes b h r ≡ (now b h r && not (first b h r)))
    → ((b h : ℕ) (r : Role) → first b h r ≡ true → now b h r ≡ true)
    → (b h : ℕ) (r : Role) → taken_out hart notes now b h r ≡ first b h r
notes_undo hart notes first now masked more b h r =
    ap (λ (q : Bool). now b h r && not q) (masked b h r) ∙ go (first b h r) (now b h r) (more b h r)
  where
    go : (f n : Bool) → (f ≡ true → n ≡ true) → (n && not (n && not f)) ≡ f
    go true true m = refl
    go true false m = m refl
    go false true m = refl
    go false false m = refl

pub append_places : (notes : List Note) (note : Note) (rest : List Access) (x : Access) (all : List ℕ) → note.addr ≡ x.addr
    → map (λ (y : Note). y.addr) notes ++ map (λ (y : Access). y.addr) (x ∷ rest) ≡ all
    → map (λ (y : Note). y.addr) (notes ++ note ∷ []) ++ map (λ (y : Access). y.addr) rest ≡ all
append_places [] note rest x all same e = ap (λ (a : ℕ). a ∷ map (λ (y : Access). y.addr) rest) same ∙ e
append_places (n ∷ notes) note rest x all same e = ap (λ (tail : List ℕ). n.addr ∷ tail) (append_places notes note rest x _ same refl) ∙ e
