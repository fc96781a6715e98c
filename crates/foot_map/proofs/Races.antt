-- Races, and what a footprint tells of them.
use Rattle.std.proofs.Common.{◌≡◌, ◌⊎◌, ℕ, ◌+◌, ◌/◌, ◌%◌, ◌<◌, ◌≤◌, inl, inr, Bool, true, false, ◌&&◌, cond, eqb, ltb, leb, List, [], ◌∷◌, ◌++◌, refl, sym, ap, ◌∙◌, subst, arith}
use Rattle.std.proofs.lemmas.Bool.{and_parts, and_from, or_cases, or_left, or_right, eqb-true, eq-eqb, ne_eqb, ltb-true, leb-true, lt-ltb, le-leb, true≢false, both_ways, false_from_ne_true}
use Rattle.rv_script.specs.declared.access.Access.{Access}
use Rattle.rv_script.specs.declared.access.Role.{Role}
use Rattle.rv_script.specs.declared.access.Role.TheVariants.{Fetch, Walk, Load, Store}
use Rattle.rv_script.specs.Lists.{HasItem}
use Rattle.rv_script.specs.Bytes.{covers, is_look}
use Rattle.rv_script.proofs.Items.{has_first, has_old_or_last, has_last}
use Rattle.foot_map.specs.declared.clash.Clash.{Clash}
use Rattle.foot_map.specs.declared.touch.Touch.{Touch}
use Rattle.foot_map.specs.Touches.{has, is_part, same_role, IsInWord}
use Rattle.foot_map.specs.Races.{breaks, is_code, IsRaceFree, IsFootprint, with_access, IsClash}
use Rattle.foot_map.specs.Laws.{NoneBreak, RaceFreeByTable, FewerAreRaceFree, EmptyFootprint, SameAccessesSameFootprint, AddedFootprint, NoClashRaceFree, ClashRaces}
use Rattle.foot_map.proofs.Orders.{same_role_is, same_role_refl, eqb_back}

-- ---- the table of roles
no_break : (same : Bool) (r s : Role)
    → (same ≡ false → is_look r ≡ true) → (same ≡ false → is_look s ≡ true)
    → (is_code s ≡ true → is_look r ≡ true) → (is_code r ≡ true → is_look s ≡ true)
    → breaks same r s ≡ false
no_break true Store Store f g h k = refl
no_break false Store Store f g h k = absurd (true≢false (sym (f refl)))
no_break true Store Load f g h k = refl
no_break false Store Load f g h k = absurd (true≢false (sym (f refl)))
no_break same Store Fetch f g h k = absurd (true≢false (sym (h refl)))
no_break same Store Walk f g h k = absurd (true≢false (sym (h refl)))
no_break true Load Store f g h k = refl
no_break false Load Store f g h k = absurd (true≢false (sym (g refl)))
no_break same Fetch Store f g h k = absurd (true≢false (sym (k refl)))
no_break same Walk Store f g h k = absurd (true≢false (sym (k refl)))
no_break same Fetch Fetch f g h k = refl
no_break same Fetch Walk f g h k = refl
no_break same Fetch Load f g h k = refl
no_break same Walk Fetch f g h k = refl
no_break same Walk Walk f g h k = refl
no_break same Walk Load f g h k = refl
no_break same Load Fetch f g h k = refl
no_break same Load Walk f g h k = refl
no_break same Load Load f g h k = refl

look_of_others : (r s : Role) → breaks false r s ≡ false → is_look r ≡ true
look_of_others Store Store h = absurd (true≢false h)
look_of_others Store Load h = absurd (true≢false h)
look_of_others Store Fetch h = absurd (true≢false h)
look_of_others Store Walk h = absurd (true≢false h)
look_of_others Load s h = refl
look_of_others Fetch s h = refl
look_of_others Walk s h = refl

look_of_code : (same : Bool) (r s : Role) → is_code s ≡ true → breaks same r s ≡ false → is_look r ≡ true
look_of_code same Store Store c h = absurd (true≢false (sym c))
look_of_code same Store Load c h = absurd (true≢false (sym c))
look_of_code same Store Fetch c h = absurd (true≢false h)
look_of_code same Store Walk c h = absurd (true≢false h)
look_of_code same Load s c h = refl
look_of_code same Fetch s c h = refl
look_of_code same Walk s c h = refl

breaks_back : (same : Bool) (r s : Role) → breaks same r s ≡ breaks same s r
breaks_back same Store Store = refl
breaks_back same Store Load = refl
breaks_back same Store Fetch = refl
breaks_back same Store Walk = refl
breaks_back same Load Store = refl
breaks_back same Load Load = refl
breaks_back same Load Fetch = refl
breaks_back same Load Walk = refl
breaks_back same Fetch Store = refl
breaks_back same Fetch Load = refl
breaks_back same Fetch Fetch = refl
breaks_back same Fetch Walk = refl
breaks_back same Walk Store = refl
breaks_back same Walk Load = refl
breaks_back same Walk Fetch = refl
breaks_back same Walk Walk = refl

-- an access doesn't break with itself
breaks_itself : (r : Role) → breaks true r r ≡ false
breaks_itself Fetch = refl
breaks_itself Walk = refl
breaks_itself Load = refl
breaks_itself Store = refl

-- ---- the two readings of race-freedom
none_break : (did : ℕ → List Access) → IsRaceFree did → NoneBreak did
none_break did free j k x y b hx hy cx cy = no_break (eqb j k) x.role y.role
    (λ e. free.harts j k (λ s. both_ways (eqb j k) e (eq-eqb j k s)) x y hx hy (b, cx, cy))
    (λ e. free.harts k j (λ s. both_ways (eqb j k) e (eq-eqb j k (sym s))) y x hy hx (b, cy, cx))
    (λ c. free.code j k x y hx hy c (b, cx, cy))
    (λ c. free.code k j y x hy hx c (b, cy, cx))

race_free : (did : ℕ → List Access) → NoneBreak did → IsRaceFree did
race_free did none = record {
  harts = λ j k apart x y hx hy meet.
      look_of_others x.role y.role (ap (λ (b : Bool). breaks b x.role y.role) (sym (ne_eqb j k apart)) ∙ none j k x y meet.0 hx hy meet.1 meet.2);
  code = λ j k x y hx hy c meet. look_of_code (eqb j k) x.role y.role c (none j k x y meet.0 hx hy meet.1 meet.2);
}

pub by_table : RaceFreeByTable
by_table did = (none_break did, race_free did)

pub fewer : FewerAreRaceFree
fewer did more among free = record {
  harts = λ j k apart x y hx hy meet. free.harts j k apart x y (among j x hx) (among k y hy) meet;
  code = λ j k x y hx hy c meet. free.code j k x y (among j x hx) (among k y hy) c meet;
}

-- ---- one access more
with_cases : (did : ℕ → List Access) (k : ℕ) (x : Access) (j : ℕ) (y : Access) → HasItem (with_access did k x j) y → HasItem (did j) y ⊎ ((j ≡ k) × (x ≡ y))
with_cases did k x j y h = go (eqb j k) refl h where
  go : (b : Bool) → eqb j k ≡ b → HasItem (cond b (did k ++ x ∷ []) (did j)) y → HasItem (did j) y ⊎ ((j ≡ k) × (x ≡ y))
  go true e i = let is = eqb-true j k e in elim (has_old_or_last (did k) x y i) [
    | inl old ↦ inl (subst (λ (n : ℕ). HasItem (did n) y) (sym is) old)
    | inr new ↦ inr (is, new)
  ]
  go false e i = inl i

with_old : (did : ℕ → List Access) (k : ℕ) (x : Access) (j : ℕ) (y : Access) → HasItem (did j) y → HasItem (with_access did k x j) y
with_old did k x j y h = go (eqb j k) refl where
  go : (b : Bool) → eqb j k ≡ b → HasItem (cond b (did k ++ x ∷ []) (did j)) y
  go true e = has_first (did k) (x ∷ []) y (subst (λ (n : ℕ). HasItem (did n) y) (eqb-true j k e) h)
  go false e = h

with_new : (did : ℕ → List Access) (k : ℕ) (x : Access) → HasItem (with_access did k x k) x
with_new did k x = subst (λ (b : Bool). HasItem (cond b (did k ++ x ∷ []) (did k)) x) (sym (eq-eqb k k refl)) (has_last (did k) x)

-- ---- bytes
covers_parts : (x : Access) (b : ℕ) → covers x b ≡ true → (x.addr ≤ b) × (b < x.addr + x.size)
covers_parts x b h =
    let p = and_parts (eqb (b / 4) (x.addr / 4)) (leb x.addr b && ltb b (x.addr + x.size)) h in
    let q = and_parts (leb x.addr b) (ltb b (x.addr + x.size)) p.1 in
    (leb-true x.addr b q.0, ltb-true b (x.addr + x.size) q.1)

in_word : (addr len b : ℕ) → addr % 4 + len ≤ 4 → addr ≤ b → b < addr + len → b / 4 ≡ addr / 4
in_word addr len b fits le lt = omega arith

covers_from : (x : Access) (b : ℕ) → IsInWord x.addr x.size → x.addr ≤ b → b < x.addr + x.size → covers x b ≡ true
covers_from x b word le lt =
    and_from _ _ (eq-eqb (b / 4) (x.addr / 4) (in_word x.addr x.size b word.1 le lt))
    (and_from _ _ (le-leb x.addr b le) (lt-ltb b (x.addr + x.size) lt))

-- ---- footprints
pub empty : EmptyFootprint
empty b h r = ((λ e. absurd (true≢false (sym e))), (λ e. absurd e.1))

pub same : SameAccessesSameFootprint
same s did other items foot b h r = (
  λ e. let x = (foot b h r).0 e in (x.0, (items h x.0).0 x.1, x.2, x.3),
  λ x. (foot b h r).1 (x.0, (items h x.0).1 x.1, x.2, x.3),
)

pub added : AddedFootprint
added s t did k x foot word add b h r = (
  λ e. elim (or_cases (has s b h r) (is_part k x.role x.addr x.size b h r) (sym (add b h r) ∙ e)) [
    | inl old ↦ (let y = (foot b h r).0 old in (y.0, with_old did k x h y.0 y.1, y.2, y.3))
    | inr new ↦ (
        let p = and_parts (leb x.addr b && ltb b (x.addr + x.size)) (eqb k h && same_role x.role r) new in
        let q = and_parts (leb x.addr b) (ltb b (x.addr + x.size)) p.0 in
        let o = and_parts (eqb k h) (same_role x.role r) p.1 in (
          x,
          subst (λ (n : ℕ). HasItem (with_access did k x n) x) (eqb-true k h o.0) (with_new did k x),
          same_role_is x.role r o.1,
          covers_from x b word (leb-true x.addr b q.0) (ltb-true b (x.addr + x.size) q.1),
        )
        )
  ],
  λ e. add b h r ∙ elim (with_cases did k x h e.0 e.1) [
    | inl old ↦ or_left (has s b h r) (is_part k x.role x.addr x.size b h r) ((foot b h r).1 (e.0, old, e.2, e.3))
    | inr new ↦ (
        let cover : covers x b ≡ true = ap (λ (y : Access). covers y b) new.1 ∙ e.3 in
        let role : x.role ≡ r = ap (λ (y : Access). y.role) new.1 ∙ e.2 in
        let p = covers_parts x b cover in
        or_right (has s b h r) (is_part k x.role x.addr x.size b h r)
        (and_from _ _ (and_from _ _ (le-leb x.addr b p.0) (lt-ltb b (x.addr + x.size) p.1))
        (and_from _ _ (eq-eqb k h (sym new.0)) (subst (λ (q : Role). same_role x.role q ≡ true) role (same_role_refl x.role))))
        )
  ],
)

-- an access with no clash breaks with none that was
old_new : (s : List Touch) (did : ℕ → List Access) (k : ℕ) (x : Access) → IsFootprint s did → ((c : Clash) → IsClash s k x.role x.addr x.size c → ⊥)
    → (j : ℕ) (y : Access) (b : ℕ) → HasItem (did j) y → covers y b ≡ true → covers x b ≡ true → breaks (eqb j k) y.role x.role ≡ false
old_new s did k x foot none j y b hy cy cx = false_from_ne_true (breaks (eqb j k) y.role x.role) (λ e.
    let p = covers_parts x b cx in
    none (record { byte = b; hart = j; role = y.role }) (record {
      held = (foot b j y.role).1 (y, hy, refl, cy);
      from = p.0;
      below = p.1;
      broken = e;
    }))

pub joins : NoClashRaceFree
joins s did k x foot free none = race_free (with_access did k x) (λ j m y z b hy hz cy cz.
    elim (with_cases did k x j y hy) [
      | inl oldy ↦ elim (with_cases did k x m z hz) [
        | inl oldz ↦ none_break did free j m y z b oldy oldz cy cz
        | inr newz ↦ (
            let cx : covers x b ≡ true = ap (λ (w : Access). covers w b) newz.1 ∙ cz in
            (λ i. breaks (eqb j (newz.0 i)) y.role (sym newz.1 i).role) ∙ old_new s did k x foot none j y b oldy cy cx
            )
      ]
      | inr newy ↦ elim (with_cases did k x m z hz) [
        | inl oldz ↦ (
            let cx : covers x b ≡ true = ap (λ (w : Access). covers w b) newy.1 ∙ cy in
            (λ i. breaks (eqb (newy.0 i) m) (sym newy.1 i).role z.role)
            ∙ ap (λ (q : Bool). breaks q x.role z.role) (eqb_back k m)
            ∙ breaks_back (eqb m k) x.role z.role
            ∙ old_new s did k x foot none m z b oldz cz cx
            )
        | inr newz ↦ (
            (λ i. breaks (eqb (newy.0 i) (newz.0 i)) (sym newy.1 i).role (sym newz.1 i).role)
            ∙ ap (λ (q : Bool). breaks q x.role x.role) (eq-eqb k k refl)
            ∙ breaks_itself x.role
            )
      ]
    ])

pub races : ClashRaces
races s did k x c foot word clash free =
    let y = (foot c.byte c.hart c.role).0 clash.held in
    let none = none_break (with_access did k x) free c.hart k y.0 x c.byte
    (with_old did k x c.hart y.0 y.1) (with_new did k x) y.3 (covers_from x c.byte word clash.from clash.below) in
    both_ways (breaks (eqb c.hart k) c.role x.role) (ap (λ (r : Role). breaks (eqb c.hart k) r x.role) (sym y.2) ∙ none) clash.broken
