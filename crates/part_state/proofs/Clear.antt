-- When some accesses more race.
use Rattle.std.proofs.Common.{◌≡◌, ℕ, Bool, true, false, ◌&&◌, eqb, List, [], ◌∷◌, refl, sym, ap, ◌∙◌, inl, inr}
use Rattle.std.specs.List.{list_any}
use Rattle.std.proofs.lemmas.Bool.{cases_eq, eqb-true, eq-eqb, ne_eqb, and_parts, false_from_ne_true, and_from, or_cases, or_left, or_right}
use Rattle.rv_script.specs.declared.access.Access.{Access}
use Rattle.rv_script.specs.declared.access.Role.{Role}
use Rattle.rv_script.specs.declared.access.Role.TheVariants.{Fetch, Walk, Load, Store}
use Rattle.rv_script.specs.Lists.{HasItem}
use Rattle.rv_script.specs.Bytes.{covers}
use Rattle.foot_map.specs.declared.clash.Clash.{Clash}
use Rattle.foot_map.specs.Touches.{same_role}
use Rattle.foot_map.specs.Races.{breaks, IsRaceFree}
use Rattle.foot_map.specs.Laws.{NoneBreak}
use Rattle.foot_map.proofs.Orders.{same_role_is, same_role_refl}
use Rattle.foot_map.proofs.Races.{by_table}
use Rattle.part_clash.specs.Clashes.{Feet, IsStepClash, HasNoStepClash}
use Rattle.part_state.specs.Meaning.{IsFootOf}
use Rattle.part_state.proofs.Feet.{IsMore, keeps, adds, was}

breaks_back : (s : Bool) (x y : Role) → breaks s x y ≡ breaks s y x
breaks_back s Fetch Fetch = refl
breaks_back s Fetch Walk = refl
breaks_back s Fetch Load = refl
breaks_back s Fetch Store = refl
breaks_back s Walk Fetch = refl
breaks_back s Walk Walk = refl
breaks_back s Walk Load = refl
breaks_back s Walk Store = refl
breaks_back s Load Fetch = refl
breaks_back s Load Walk = refl
breaks_back s Load Load = refl
breaks_back s Load Store = refl
breaks_back s Store Fetch = refl
breaks_back s Store Walk = refl
breaks_back s Store Load = refl
breaks_back s Store Store = refl

eqb_back : (j k : ℕ) → eqb j k ≡ eqb k j
eqb_back j k = elim (cases_eq j k) [ inl e ↦ eq-eqb j k e ∙ sym (eq-eqb k j (sym e)) | inr n ↦ ne_eqb j k n ∙ sym (ne_eqb k j (λ e. n (sym e))) ]

-- an item of a list that passes, and back
any_has : {A : Type 0} (f : A → Bool) (xs : List A) → list_any f xs ≡ true → (x : A) × HasItem xs x × (f x ≡ true)
any_has f [] t = absurd (cc t)
any_has f (x ∷ xs) t = elim (or_cases (f x) (list_any f xs) t) [ inl here ↦ (x, inl refl, here) | inr later ↦ let y = any_has f xs later in (y.0, inr y.1, y.2) ]

has_any : {A : Type 0} (f : A → Bool) (xs : List A) (x : A) → HasItem xs x → f x ≡ true → list_any f xs ≡ true
has_any f [] x i t = absurd i
has_any f (y ∷ xs) x i t = elim i [
  | inl here ↦ or_left (f y) (list_any f xs) (ap f here ∙ t)
  | inr later ↦ or_right (f y) (list_any f xs) (has_any f xs x later t)
]

-- the hart's own accesses touch the byte in the role
abbrev own : ℕ → List Access → ℕ → ℕ → Role → Bool
own k xs b h r = eqb h k && list_any (λ (y : Access). same_role y.role r && covers y b) xs

-- what clashes with nothing may be done
pub clear_more : (k : ℕ) (xs : List Access) (feet : Feet) (did did' : ℕ → List Access) → IsMore k xs did did' → IsFootOf feet did → IsRaceFree did → HasNoStepClash feet k xs → IsRaceFree did'
clear_more k xs feet did did' more foot free none = (by_table did').1 go
  where
    mixed : (j : ℕ) (x y : Access) (b : ℕ) → HasItem (did j) x → HasItem xs y → covers x b ≡ true → covers y b ≡ true → breaks (eqb j k) x.role y.role ≡ false
    mixed j x y b hx hy cx cy = false_from_ne_true (breaks (eqb j k) x.role y.role) (λ t.
        none (record { byte = b; hart = j; role = x.role }) (record {
          access = y;
          among = hy;
          covered = cy;
          touched = or_left (feet b j x.role) (own k xs b j x.role) ((foot b j x.role).1 (x, hx, refl, cx));
          broken = t;
        }))

    alone : (x y : Access) (b : ℕ) → HasItem xs x → HasItem xs y → covers x b ≡ true → covers y b ≡ true → breaks true x.role y.role ≡ false
    alone x y b hx hy cx cy = false_from_ne_true (breaks true x.role y.role) (λ t.
        let among : list_any (λ (z : Access). same_role z.role x.role && covers z b) xs ≡ true = has_any (λ (z : Access). same_role z.role x.role && covers z b) xs x hx (and_from (same_role x.role x.role) (covers x b) (same_role_refl x.role) cx) in
        none (record { byte = b; hart = k; role = x.role }) (record {
          access = y;
          among = hy;
          covered = cy;
          touched = or_right (feet b k x.role) (own k xs b k x.role) (and_from (eqb k k) (list_any (λ (z : Access). same_role z.role x.role && covers z b) xs) (eq-eqb k k refl) among);
          broken = ap (λ (q : Bool). breaks q x.role y.role) (eq-eqb k k refl) ∙ t;
        }))

    go : NoneBreak did'
    go j m x y b hx hy cx cy = elim (was k xs did did' more j x hx) [
      | inl ox ↦ elim (was k xs did did' more m y hy) [
        | inl oy ↦ (by_table did).0 free j m x y b ox oy cx cy
        | inr ny ↦ ap (λ (n : ℕ). breaks (eqb j n) x.role y.role) ny.0 ∙ mixed j x y b ox ny.1 cx cy
      ]
      | inr nx ↦ elim (was k xs did did' more m y hy) [
        | inl oy ↦ (
            ap (λ (n : ℕ). breaks (eqb n m) x.role y.role) nx.0 ∙ ap (λ (q : Bool). breaks q x.role y.role) (eqb_back k m) ∙ breaks_back (eqb m k) x.role y.role
            ∙ mixed m y x b oy nx.1 cy cx
            )
        | inr ny ↦ (
            ap (λ (n : ℕ). breaks (eqb n m) x.role y.role) nx.0 ∙ ap (λ (n : ℕ). breaks (eqb k n) x.role y.role) ny.0 ∙ ap (λ (q : Bool). breaks q x.role y.role) (eq-eqb k k refl)
            ∙ alone x y b nx.1 ny.1 cx cy
            )
      ]
    ]

both_ways : (b : Bool) → b ≡ true → b ≡ false → ⊥
both_ways b t f = let e : true ≡ false = sym t ∙ f in absurd (cc e)

-- what clashes may not
pub clash_races : (k : ℕ) (xs : List Access) (feet : Feet) (did did' : ℕ → List Access) (c : Clash) → IsMore k xs did did' → IsFootOf feet did → IsStepClash feet k xs c → IsRaceFree did' → ⊥
clash_races k xs feet did did' c more foot clash free = elim (or_cases (feet c.byte c.hart c.role) (own k xs c.byte c.hart c.role) clash.touched) [
  | inl held ↦
      let y = (foot c.byte c.hart c.role).0 held in
      at c.hart y.0 (keeps k xs did did' more c.hart y.0 y.1) y.2 y.3 refl
  | inr own' ↦
      let p = and_parts (eqb c.hart k) (list_any (λ (z : Access). same_role z.role c.role && covers z c.byte) xs) own' in
      let y = any_has (λ (z : Access). same_role z.role c.role && covers z c.byte) xs p.1 in
      let q = and_parts (same_role y.0.role c.role) (covers y.0 c.byte) y.2 in
      at k y.0 (adds k xs did did' more y.0 y.1) (same_role_is y.0.role c.role q.0) q.1 (eqb-true c.hart k p.0)
]
  where
    at : (j : ℕ) (y : Access) → HasItem (did' j) y → y.role ≡ c.role → covers y c.byte ≡ true → c.hart ≡ j → ⊥
    at j y there role covered hart =
        let x : Access = clash.access in
        let none : breaks (eqb j k) y.role x.role ≡ false = (by_table did').0 free j k y x c.byte there (adds k xs did did' more x clash.among) covered clash.covered in
        both_ways (breaks (eqb c.hart k) c.role x.role) clash.broken (ap (λ (n : ℕ). breaks (eqb n k) c.role x.role) hart ∙ ap (λ (r : Role). breaks (eqb j k) r x.role) (sym role) ∙ none)
