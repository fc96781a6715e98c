-- The names that the step of a leaf binds, one atom after another.
use Rattle.std.proofs.Common.{◌≡◌, ℕ, zero, suc, ◌+◌, ◌<◌, ◌≤◌, ◌&&◌, ◌||◌, Bool, true, false, if◌then◌else◌, List, [], ◌∷◌, length, length-set, get_or-set_other, get_or-set_same, Option, Some, None, ◌⊎◌, refl, sym, ap, ◌∙◌, subst, inl, inr, arith}
use Rattle.std.specs.Prelude.{is_some, slice_index_or, slice_set}
use Rattle.std.specs.List.{list_all}
use Rattle.std.proofs.lemmas.Bool.{and_parts, cases_eq, cases_lt, eq-eqb, ltb-true, ne_eqb}
use Rattle.tpl_ast.specs.declared.template.Atom.{Atom}
use Rattle.tpl_ast.specs.declared.template.Atom.TheVariants as atoms
use Rattle.tpl_ast.specs.declared.template.Var.{Var}
use Rattle.tpl_ast.specs.declared.template.Wish.{Wish}
use Rattle.tpl_ast.specs.Leaves.{NamedOnce, atoms_of, is_name_below, is_named_in, names_it, stands_alone}
use Rattle.gen_turn.specs.Turns.{bound_by_wish, bound_with, is_listed, names_bound, next_bias, with_name}
use Rattle.gen_turn.proofs.Names.{many_by_wish}

-- ---- where a wish stands in a leaf

-- a wish is one of a list whose first has the number n0 among the atoms, and b0 among the biases if it is one; its own numbers are n and b
abbrev pub IsWishAt : List Wish → ℕ → ℕ → Wish → ℕ → ℕ → Type 0
IsWishAt [] n0 b0 w n b = ⊥
IsWishAt (u ∷ us) n0 b0 w n b = ((u ≡ w) × (n0 ≡ n) × (b0 ≡ b)) ⊎ IsWishAt us (n0 + 1) (next_bias b0 u) w n b

-- ---- names keep their values

pub value_kept : (m : ℕ) (o : Option ℕ) (names : List (Option ℕ)) (n v : ℕ) → slice_index_or names n None ≡ Some v → slice_index_or (with_name m o names) n None ≡ Some v
value_kept m None names n v h = h
value_kept m (Some u) names n v h = elim (cases_eq n m) [
  | inl same ↦
      let has : is_some (slice_index_or names m None) ≡ true = ap is_some (ap (λ (i : ℕ). slice_index_or names i None) (sym same) ∙ h) in
      ap (λ (b : Bool). slice_index_or (if b then names else slice_set names m (Some u)) n None) has ∙ h
  | inr apart ↦ go (is_some (slice_index_or names m None)) apart
]
  where
    go : (b : Bool) → (n ≡ m → ⊥) → slice_index_or (if b then names else slice_set names m (Some u)) n None ≡ Some v
    go true apart = h
    go false apart = get_or-set_other names m n (Some u) None apart ∙ h

atom_kept : (values : Var → Option ℕ) (atom : Atom) (names : List (Option ℕ)) (n v : ℕ) → slice_index_or names n None ≡ Some v → slice_index_or (bound_with values atom names) n None ≡ Some v
atom_kept values (atoms.Is u m) names n v h = value_kept m (values u) names n v h
atom_kept values (atoms.In u set) names n v h = h
atom_kept values (atoms.NotIn u set) names n v h = h
atom_kept values (atoms.Same u y) names n v h = h
atom_kept values (atoms.Differ u y) names n v h = h
atom_kept values atoms.Taken names n v h = h
atom_kept values atoms.NotTaken names n v h = h
atom_kept values atoms.Shared names n v h = h

wish_kept : (values : Var → Option ℕ) (dropped : List (ℕ × Bool)) (bias : ℕ) (w : Wish) (names : List (Option ℕ)) (n v : ℕ) → slice_index_or names n None ≡ Some v → slice_index_or (bound_by_wish values dropped bias w names) n None ≡ Some v
wish_kept values dropped bias w names n v h = go (w.prefer && is_listed dropped bias)
  where
    go : (b : Bool) → slice_index_or (if b then names else bound_with values w.atom names) n None ≡ Some v
    go true = h
    go false = atom_kept values w.atom names n v h

pub names_kept : (values : Var → Option ℕ) (dropped : List (ℕ × Bool)) (bias : ℕ) (ws : List Wish) (names : List (Option ℕ)) (n v : ℕ) → slice_index_or names n None ≡ Some v → slice_index_or (names_bound values dropped bias ws names) n None ≡ Some v
names_kept values dropped bias [] names n v h = h
names_kept values dropped bias (w ∷ ws) names n v h = names_kept values dropped (next_bias bias w) ws (bound_by_wish values dropped bias w names) n v (wish_kept values dropped bias w names n v h)

-- ---- an atom that doesn't name a name doesn't bind it

value_past : (m : ℕ) (o : Option ℕ) (names : List (Option ℕ)) (n : ℕ) → (n ≡ m → ⊥) → slice_index_or (with_name m o names) n None ≡ slice_index_or names n None
value_past m None names n apart = refl
value_past m (Some u) names n apart = go (is_some (slice_index_or names m None))
  where
    go : (b : Bool) → slice_index_or (if b then names else slice_set names m (Some u)) n None ≡ slice_index_or names n None
    go true = refl
    go false = get_or-set_other names m n (Some u) None apart

atom_past : (values : Var → Option ℕ) (atom : Atom) (names : List (Option ℕ)) (n : ℕ) → names_it n atom ≡ false → slice_index_or (bound_with values atom names) n None ≡ slice_index_or names n None
atom_past values (atoms.Is u m) names n h = value_past m (values u) names n (λ e. absurd (cc (sym (eq-eqb m n (sym e)) ∙ h)))
atom_past values (atoms.In u set) names n h = refl
atom_past values (atoms.NotIn u set) names n h = refl
atom_past values (atoms.Same u y) names n h = refl
atom_past values (atoms.Differ u y) names n h = refl
atom_past values atoms.Taken names n h = refl
atom_past values atoms.NotTaken names n h = refl
atom_past values atoms.Shared names n h = refl

wish_past : (values : Var → Option ℕ) (dropped : List (ℕ × Bool)) (bias : ℕ) (w : Wish) (names : List (Option ℕ)) (n : ℕ) → names_it n w.atom ≡ false → slice_index_or (bound_by_wish values dropped bias w names) n None ≡ slice_index_or names n None
wish_past values dropped bias w names n h = go (w.prefer && is_listed dropped bias)
  where
    go : (b : Bool) → slice_index_or (if b then names else bound_with values w.atom names) n None ≡ slice_index_or names n None
    go true = refl
    go false = atom_past values w.atom names n h

-- the name of a wish stands in the leaf
or_true : (b c : Bool) → c ≡ true → (b || c) ≡ true
or_true true c h = refl
or_true false c h = h

stands : (ws : List Wish) (n0 b0 : ℕ) (w : Wish) (n b : ℕ) (v : Var) (name : ℕ) → IsWishAt ws n0 b0 w n b → w.atom ≡ atoms.Is v name → is_named_in name (atoms_of ws) ≡ true
stands [] n0 b0 w n b v name at is = absurd at
stands (u ∷ us) n0 b0 w n b v name at is = elim at [
  | inl here ↦ ap (λ (a : Atom). names_it name a || is_named_in name (atoms_of us)) (ap (λ (x : Wish). x.atom) here.0 ∙ is) ∙ ap (λ (c : Bool). c || is_named_in name (atoms_of us)) (eq-eqb name name refl)
  | inr later ↦ or_true (names_it name u.atom) _ (stands us (n0 + 1) (next_bias b0 u) w n b v name later is)
]

-- what stands alone in front of it names another name
alone_past : (atom : Atom) (leaf : List Atom) (name : ℕ) → stands_alone atom leaf → is_named_in name leaf ≡ true → names_it name atom ≡ false
alone_past (atoms.Is u m) leaf name alone h = elim (cases_eq m name) [
  | inl same ↦ absurd (cc (sym alone ∙ ap (λ (i : ℕ). is_named_in i leaf) same ∙ h))
  | inr apart ↦ ne_eqb m name apart
]
alone_past (atoms.In u set) leaf name alone h = refl
alone_past (atoms.NotIn u set) leaf name alone h = refl
alone_past (atoms.Same u y) leaf name alone h = refl
alone_past (atoms.Differ u y) leaf name alone h = refl
alone_past atoms.Taken leaf name alone h = refl
alone_past atoms.NotTaken leaf name alone h = refl
alone_past atoms.Shared leaf name alone h = refl

-- ---- the name of a wish that isn't dropped gets the value of its variable

module _ (values : Var → Option ℕ) (dropped : List (ℕ × Bool)) (w : Wish) (n b name x : ℕ) (v : Var) (is : w.atom ≡ atoms.Is v name) (kept : (w.prefer && is_listed dropped b) ≡ false) (value : values v ≡ Some x) where
  here_bound : (b0 : ℕ) (us : List Wish) (names : List (Option ℕ)) → b0 ≡ b → name < length names → slice_index_or names name None ≡ None
      → slice_index_or (names_bound values dropped b0 (w ∷ us) names) name None ≡ Some x
  here_bound b0 us names same lt none =
      let none_yet : is_some (slice_index_or names name None) ≡ false = ap is_some none in
      let bound : bound_by_wish values dropped b0 w names ≡ slice_set names name (Some x) =
      ap (λ (i : ℕ). if w.prefer && is_listed dropped i then names else bound_with values w.atom names) same
      ∙ ap (λ (c : Bool). if c then names else bound_with values w.atom names) kept
      ∙ ap (λ (a : Atom). bound_with values a names) is
      ∙ ap (λ (o : Option ℕ). with_name name o names) value
      ∙ ap (λ (c : Bool). if c then names else slice_set names name (Some x)) none_yet in
      names_kept values dropped (next_bias b0 w) us (bound_by_wish values dropped b0 w names) name x
      (ap (λ (ns : List (Option ℕ)). slice_index_or ns name None) bound ∙ get_or-set_same names name (Some x) None lt)

  pub name_bound : (ws : List Wish) (n0 b0 : ℕ) (names : List (Option ℕ)) → IsWishAt ws n0 b0 w n b → NamedOnce (atoms_of ws) → name < length names → slice_index_or names name None ≡ None
      → slice_index_or (names_bound values dropped b0 ws names) name None ≡ Some x
  name_bound [] n0 b0 names at once lt none = absurd at
  name_bound (u ∷ us) n0 b0 names at once lt none = elim at [
    | inl here ↦ subst (λ (y : Wish). slice_index_or (names_bound values dropped b0 (y ∷ us) names) name None ≡ Some x) (sym here.0) (here_bound b0 us names here.2 lt none)
    | inr later ↦
        let apart : names_it name u.atom ≡ false = alone_past u.atom (atoms_of us) name once.0 (stands us (n0 + 1) (next_bias b0 u) w n b v name later is) in
        name_bound us (n0 + 1) (next_bias b0 u) (bound_by_wish values dropped b0 u names) later once.1
        (subst (λ (m : ℕ). name < m) (sym (many_by_wish values dropped b0 u names)) lt)
        (wish_past values dropped b0 u names name apart ∙ none)
  ]

-- ---- a leaf that uses names below a number binds none from there on

below_past : (m n : ℕ) (atom : Atom) → is_name_below m atom ≡ true → m ≤ n → names_it n atom ≡ false
below_past m n (atoms.Is u name) h le = ne_eqb name n (λ e. let lt = ltb-true name m h in absurd (omega (arith, e, lt, le)))
below_past m n (atoms.In u set) h le = refl
below_past m n (atoms.NotIn u set) h le = refl
below_past m n (atoms.Same u y) h le = refl
below_past m n (atoms.Differ u y) h le = refl
below_past m n atoms.Taken h le = refl
below_past m n atoms.NotTaken h le = refl
below_past m n atoms.Shared h le = refl

pub names_above : (values : Var → Option ℕ) (dropped : List (ℕ × Bool)) (m n : ℕ) → m ≤ n → (bias : ℕ) (ws : List Wish) (names : List (Option ℕ)) → list_all (is_name_below m) (atoms_of ws) ≡ true
    → slice_index_or (names_bound values dropped bias ws names) n None ≡ slice_index_or names n None
names_above values dropped m n le bias [] names h = refl
names_above values dropped m n le bias (w ∷ ws) names h =
    let p = and_parts (is_name_below m w.atom) _ h in
    names_above values dropped m n le (next_bias bias w) ws (bound_by_wish values dropped bias w names) p.1 ∙ wish_past values dropped bias w names n (below_past m n w.atom p.0 le)

-- ---- where the value of a name comes from

past_none : (xs : List (Option ℕ)) (n : ℕ) → length xs ≤ n → slice_index_or xs n None ≡ None
past_none [] n le = refl
past_none (x ∷ xs) zero le = absurd (omega (arith, le))
past_none (x ∷ xs) (suc n) le = past_none xs n (omega (arith, le))

pub value_was : (m : ℕ) (o : Option ℕ) (names : List (Option ℕ)) (n v : ℕ) → slice_index_or (with_name m o names) n None ≡ Some v → (slice_index_or names n None ≡ Some v) ⊎ ((m ≡ n) × (o ≡ Some v))
value_was m None names n v h = inl h
value_was m (Some u) names n v h = go (is_some (slice_index_or names m None)) h
  where
    here : m ≡ n → (length names ≤ m) ⊎ (m < length names) → slice_index_or (slice_set names m (Some u)) n None ≡ Some v → (slice_index_or names n None ≡ Some v) ⊎ ((m ≡ n) × (Some u ≡ Some v))
    here same (inl past) h =
        let none : slice_index_or (slice_set names m (Some u)) n None ≡ None = past_none (slice_set names m (Some u)) n (let size = length-set names m (Some u) in omega (arith, past, same, size)) in
        absurd (cc (sym none ∙ h))
    here same (inr lt) h = inr (same, sym (ap (λ (i : ℕ). slice_index_or (slice_set names m (Some u)) i None) (sym same) ∙ get_or-set_same names m (Some u) None lt) ∙ h)

    go : (b : Bool) → slice_index_or (if b then names else slice_set names m (Some u)) n None ≡ Some v → (slice_index_or names n None ≡ Some v) ⊎ ((m ≡ n) × (Some u ≡ Some v))
    go true h = inl h
    go false h = elim (cases_eq m n) [
      | inl same ↦ here same (sized (cases_lt m (length names))) h
      | inr apart ↦ inl (sym (get_or-set_other names m n (Some u) None (λ e. apart (sym e))) ∙ h)
    ]
      where
        sized : (m < length names) ⊎ (length names ≤ m) → (length names ≤ m) ⊎ (m < length names)
        sized (inl lt) = inr lt
        sized (inr le) = inl le

-- an atom of the leaf that isn't dropped binds the name to this value
pub record IsBoundBy (values : Var → Option ℕ) (dropped : List (ℕ × Bool)) (ws : List Wish) (n0 b0 n v : ℕ) : Type 0 where
  pub wish : Wish
  pub place : ℕ
  pub bias : ℕ
  pub var : Var
  pub at : IsWishAt ws n0 b0 wish place bias
  pub names : wish.atom ≡ atoms.Is var n
  pub kept : (wish.prefer && is_listed dropped bias) ≡ false
  pub value : values var ≡ Some v

atom_was : (values : Var → Option ℕ) (atom : Atom) (names : List (Option ℕ)) (n v : ℕ) → slice_index_or (bound_with values atom names) n None ≡ Some v
    → (slice_index_or names n None ≡ Some v) ⊎ ((u : Var) × (atom ≡ atoms.Is u n) × (values u ≡ Some v))
atom_was values (atoms.Is u m) names n v h = elim (value_was m (values u) names n v h) [ inl old ↦ inl old | inr new ↦ inr (u, ap (atoms.Is u) new.0, new.1) ]
atom_was values (atoms.In u set) names n v h = inl h
atom_was values (atoms.NotIn u set) names n v h = inl h
atom_was values (atoms.Same u y) names n v h = inl h
atom_was values (atoms.Differ u y) names n v h = inl h
atom_was values atoms.Taken names n v h = inl h
atom_was values atoms.NotTaken names n v h = inl h
atom_was values atoms.Shared names n v h = inl h

pub name_was : (values : Var → Option ℕ) (dropped : List (ℕ × Bool)) (ws : List Wish) (n0 b0 : ℕ) (names : List (Option ℕ)) (n v : ℕ) → slice_index_or (names_bound values dropped b0 ws names) n None ≡ Some v
    → (slice_index_or names n None ≡ Some v) ⊎ IsBoundBy values dropped ws n0 b0 n v
name_was values dropped [] n0 b0 names n v h = inl h
name_was values dropped (w ∷ ws) n0 b0 names n v h = elim (name_was values dropped ws (n0 + 1) (next_bias b0 w) (bound_by_wish values dropped b0 w names) n v h) [
  | inl old ↦ go (w.prefer && is_listed dropped b0) refl old
  | inr later ↦ inr (record { wish = later.wish; place = later.place; bias = later.bias; var = later.var; at = inr later.at; names = later.names; kept = later.kept; value = later.value })
]
  where
    go : (b : Bool) → (w.prefer && is_listed dropped b0) ≡ b → slice_index_or (if b then names else bound_with values w.atom names) n None ≡ Some v → (slice_index_or names n None ≡ Some v) ⊎ IsBoundBy values dropped (w ∷ ws) n0 b0 n v
    go true is h = inl h
    go false is h = elim (atom_was values w.atom names n v h) [
      | inl old ↦ inl old
      | inr new ↦ inr (record { wish = w; place = n0; bias = b0; var = new.0; at = inl (refl, refl, refl); names = new.1; kept = is; value = new.2 })
    ]
