-- Which biases of a leaf are kept: each one is listed as dropped, or stands among the atoms that are met.
use Rattle.std.proofs.Common.{◌≡◌, ℕ, zero, suc, ◌+◌, ◌||◌, ◌==◌, Bool, true, false, if◌then◌else◌, List, [], ◌∷◌, ◌++◌, drop, map, ◌⊎◌, refl, sym, ap, ◌∙◌, subst, inl, inr, arith}
use Rattle.std.specs.Prelude.{slice_index}
use Rattle.std.specs.List.{list_any}
use Rattle.std.proofs.lemmas.Bool.{eq-eqb, eqb-true}
use Rattle.rv_script.specs.Lists.{HasItem}
use Rattle.rv_script.proofs.Items.{has_first, has_second}
use Rattle.tpl_ast.specs.declared.template.Atom.{Atom}
use Rattle.tpl_ast.specs.declared.template.Wish.{Wish}
use Rattle.tpl_admit.specs.Admitting.{fixes_outcome, is_drop}
use Rattle.fd_solve.specs.declared.answers.Solved.{Solved}
use Rattle.fd_solve.specs.declared.answers.Solved.TheVariants as answers
use Rattle.leaf_link.specs.Extras.{AreJudged, Taken, kept_with}
use Rattle.leaf_link.specs.Turns.{Turn}
use Rattle.leaf_turn.specs.Wishes.{biases_of, mandatory_of, retires, unbiased}
use Rattle.gen_turn.specs.Turns.{bias_atoms, is_listed, listed_as, next_bias}
use Rattle.gen_turn.proofs.BoundNames.{IsWishAt}

-- ---- tests

either_true : (b c d : Bool) → (b || c) ≡ true → (c ≡ true → d ≡ true) → (b || d) ≡ true
either_true true c d h more = refl
either_true false c d h more = more h

second_true : (b c : Bool) → c ≡ true → (b || c) ≡ true
second_true true c h = refl
second_true false c h = h

pub any_first : {A : Type 0} (test : A → Bool) (xs ys : List A) → list_any test xs ≡ true → list_any test (xs ++ ys) ≡ true
any_first test [] ys h = absurd (cc h)
any_first test (x ∷ xs) ys h = either_true (test x) (list_any test xs) (list_any test (xs ++ ys)) h (any_first test xs ys)

pub any_second : {A : Type 0} (test : A → Bool) (xs ys : List A) → list_any test ys ≡ true → list_any test (xs ++ ys) ≡ true
any_second test [] ys h = h
any_second test (x ∷ xs) ys h = second_true (test x) (list_any test (xs ++ ys)) (any_second test xs ys h)

-- ---- what is kept stays kept

module _ (t : Turn) (pa : ℕ) (draws : List ℕ) (nodes : ℕ) where
  with_atoms : (answer : Solved) (position : ℕ) (bias : List Atom) (before : Taken) (a : Atom) → HasItem before.atoms a → HasItem (kept_with answer position bias before).atoms a
  with_atoms (answers.Found x) position bias before a i = has_first before.atoms bias a i
  with_atoms answers.NoneFits position bias before a i = i
  with_atoms answers.Spent position bias before a i = i

  with_dropped : (answer : Solved) (position : ℕ) (bias : List Atom) (before : Taken) (test : ℕ × Bool → Bool) → list_any test before.dropped ≡ true → list_any test (kept_with answer position bias before).dropped ≡ true
  with_dropped (answers.Found x) position bias before test h = h
  with_dropped answers.NoneFits position bias before test h = any_first test before.dropped _ h
  with_dropped answers.Spent position bias before test h = any_first test before.dropped _ h

  pub atoms_stay : (position : ℕ) (biases : List (List Atom)) (before after : Taken) → AreJudged t pa draws nodes position biases before after → (a : Atom) → HasItem before.atoms a → HasItem after.atoms a
  atoms_stay position [] before after judged a i = subst (λ (x : Taken). HasItem x.atoms a) (sym judged) i
  atoms_stay position (bias ∷ biases) before after judged a i =
      atoms_stay (position + 1) biases (kept_with judged.0 position bias before) after judged.2 a (with_atoms judged.0 position bias before a i)

  dropped_stay : (position : ℕ) (biases : List (List Atom)) (before after : Taken) → AreJudged t pa draws nodes position biases before after → (test : ℕ × Bool → Bool) → list_any test before.dropped ≡ true → list_any test after.dropped ≡ true
  dropped_stay position [] before after judged test h = subst (λ (x : Taken). list_any test x.dropped ≡ true) (sym judged) h
  dropped_stay position (bias ∷ biases) before after judged test h =
      dropped_stay (position + 1) biases (kept_with judged.0 position bias before) after judged.2 test (with_dropped judged.0 position bias before test h)

  -- ---- a bias is listed, or kept

  one_judged : (answer : Solved) (position : ℕ) (atom : Atom) (before : Taken)
      → (is_listed (kept_with answer position (atom ∷ []) before).dropped position ≡ true) ⊎ HasItem (kept_with answer position (atom ∷ []) before).atoms atom
  one_judged (answers.Found x) position atom before = inr (has_second before.atoms (atom ∷ []) atom (inl refl))
  one_judged answers.NoneFits position atom before = inl (any_second (λ d. d.0 == position) before.dropped ((position, false) ∷ []) (ap (λ (b : Bool). b || false) (eq-eqb position position refl)))
  one_judged answers.Spent position atom before = inl (any_second (λ d. d.0 == position) before.dropped ((position, true) ∷ []) (ap (λ (b : Bool). b || false) (eq-eqb position position refl)))

  pub wish_judged : (ws : List Wish) (n0 b0 : ℕ) (before after : Taken) → AreJudged t pa draws nodes b0 (biases_of ws) before after → (w : Wish) (n b : ℕ) → IsWishAt ws n0 b0 w n b → w.prefer ≡ true
      → (is_listed after.dropped b ≡ true) ⊎ HasItem after.atoms w.atom
  wish_judged [] n0 b0 before after judged w n b at prefer = absurd at
  wish_judged (u ∷ us) n0 b0 before after judged w n b at prefer =
      go u.prefer refl judged at (λ more j later. wish_judged us (n0 + 1) (b0 + 1) more after j w n b later prefer) (λ more j later. wish_judged us (n0 + 1) b0 more after j w n b later prefer)
    where
      go : (p : Bool) → u.prefer ≡ p → AreJudged t pa draws nodes b0 (if p then (u.atom ∷ []) ∷ biases_of us else biases_of us) before after
          → ((u ≡ w) × (n0 ≡ n) × (b0 ≡ b)) ⊎ IsWishAt us (n0 + 1) (next_bias b0 u) w n b
          → ((more : Taken) → AreJudged t pa draws nodes (b0 + 1) (biases_of us) more after → IsWishAt us (n0 + 1) (b0 + 1) w n b → (is_listed after.dropped b ≡ true) ⊎ HasItem after.atoms w.atom)
          → ((more : Taken) → AreJudged t pa draws nodes b0 (biases_of us) more after → IsWishAt us (n0 + 1) b0 w n b → (is_listed after.dropped b ≡ true) ⊎ HasItem after.atoms w.atom)
          → (is_listed after.dropped b ≡ true) ⊎ HasItem after.atoms w.atom
      go true is j (inl here) biased plain = elim (one_judged j.0 b0 u.atom before) [
        | inl listed ↦ inl (subst (λ (i : ℕ). is_listed after.dropped i ≡ true) here.2 (dropped_stay (b0 + 1) (biases_of us) (kept_with j.0 b0 (u.atom ∷ []) before) after j.2 (λ d. d.0 == b0) listed))
        | inr kept ↦ inr (subst (λ (x : Wish). HasItem after.atoms x.atom) here.0 (atoms_stay (b0 + 1) (biases_of us) (kept_with j.0 b0 (u.atom ∷ []) before) after j.2 u.atom kept))
      ]
      go true is j (inr later) biased plain = biased (kept_with j.0 b0 (u.atom ∷ []) before) j.2 (subst (λ (i : ℕ). IsWishAt us (n0 + 1) i w n b) (ap (λ (c : Bool). if c then b0 + 1 else b0) is) later)
      go false is j (inl here) biased plain = absurd (cc (sym is ∙ ap (λ (x : Wish). x.prefer) here.0 ∙ prefer))
      go false is j (inr later) biased plain = plain before j (subst (λ (i : ℕ). IsWishAt us (n0 + 1) i w n b) (ap (λ (c : Bool). if c then b0 + 1 else b0) is) later)

-- ---- atoms that have to hold

unbiased_has : (ws : List Wish) (n0 b0 : ℕ) (w : Wish) (n b : ℕ) → IsWishAt ws n0 b0 w n b → w.prefer ≡ false → HasItem (unbiased ws) w.atom
unbiased_has [] n0 b0 w n b at must = absurd at
unbiased_has (u ∷ us) n0 b0 w n b at must = go u.prefer refl at (λ later. unbiased_has us (n0 + 1) (next_bias b0 u) w n b later must)
  where
    go : (p : Bool) → u.prefer ≡ p → ((u ≡ w) × (n0 ≡ n) × (b0 ≡ b)) ⊎ IsWishAt us (n0 + 1) (next_bias b0 u) w n b → (IsWishAt us (n0 + 1) (next_bias b0 u) w n b → HasItem (unbiased us) w.atom)
        → HasItem (if p then unbiased us else u.atom ∷ unbiased us) w.atom
    go true is (inl here) rest = absurd (cc (sym is ∙ ap (λ (x : Wish). x.prefer) here.0 ∙ must))
    go true is (inr later) rest = rest later
    go false is (inl here) rest = inl (ap (λ (x : Wish). x.atom) here.0)
    go false is (inr later) rest = inr (rest later)

pub mandatory_has : (ws : List Wish) (w : Wish) (n b : ℕ) → IsWishAt ws 0 0 w n b → w.prefer ≡ false → HasItem (mandatory_of ws) w.atom
mandatory_has ws w n b at must = has_first (unbiased ws) _ w.atom (unbiased_has ws 0 0 w n b at must)

pub mandatory_retires : (ws : List Wish) → list_any fixes_outcome ws ≡ false → HasItem (mandatory_of ws) retires
mandatory_retires ws h = has_second (unbiased ws) (if list_any fixes_outcome ws then [] else retires ∷ []) retires (subst (λ (b : Bool). HasItem (if b then [] else retires ∷ []) retires) (sym h) (inl refl))

-- ---- how a dropped bias is listed

drop_next : (n x : ℕ) (all ys : List ℕ) → drop n all ≡ x ∷ ys → (slice_index all n ≡ x) × (drop (suc n) all ≡ ys)
drop_next zero x [] ys h = absurd (cc h)
drop_next zero x (a ∷ all) ys h = (cc h, cc h)
drop_next (suc n) x [] ys h = absurd (cc h)
drop_next (suc n) x (a ∷ all) ys h = drop_next n x all ys h

bias_at : (all : List ℕ) (ws : List Wish) (n0 b0 : ℕ) → drop b0 all ≡ bias_atoms n0 ws → (w : Wish) (n b : ℕ) → IsWishAt ws n0 b0 w n b → w.prefer ≡ true → slice_index all b ≡ n
bias_at all [] n0 b0 h w n b at prefer = absurd at
bias_at all (u ∷ us) n0 b0 h w n b at prefer =
    go u.prefer refl h at (λ d later. bias_at all us (n0 + 1) (b0 + 1) d w n b later prefer) (λ d later. bias_at all us (n0 + 1) b0 d w n b later prefer)
  where
    go : (p : Bool) → u.prefer ≡ p → drop b0 all ≡ (if p then n0 ∷ bias_atoms (n0 + 1) us else bias_atoms (n0 + 1) us) → ((u ≡ w) × (n0 ≡ n) × (b0 ≡ b)) ⊎ IsWishAt us (n0 + 1) (next_bias b0 u) w n b
        → (drop (b0 + 1) all ≡ bias_atoms (n0 + 1) us → IsWishAt us (n0 + 1) (b0 + 1) w n b → slice_index all b ≡ n)
        → (drop b0 all ≡ bias_atoms (n0 + 1) us → IsWishAt us (n0 + 1) b0 w n b → slice_index all b ≡ n) → slice_index all b ≡ n
    go true is d (inl here) biased plain = ap (slice_index all) (sym here.2) ∙ (drop_next b0 n0 all (bias_atoms (n0 + 1) us) d).0 ∙ here.1
    go true is d (inr later) biased plain =
        let same : b0 + 1 ≡ suc b0 = omega arith in
        biased (ap (λ (i : ℕ). drop i all) same ∙ (drop_next b0 n0 all (bias_atoms (n0 + 1) us) d).1) (subst (λ (i : ℕ). IsWishAt us (n0 + 1) i w n b) (ap (λ (c : Bool). if c then b0 + 1 else b0) is) later)
    go false is d (inl here) biased plain = absurd (cc (sym is ∙ ap (λ (x : Wish). x.prefer) here.0 ∙ prefer))
    go false is d (inr later) biased plain = plain d (subst (λ (i : ℕ). IsWishAt us (n0 + 1) i w n b) (ap (λ (c : Bool). if c then b0 + 1 else b0) is) later)

listed_one : (hart step : ℕ) (ws : List Wish) (dropped : List (ℕ × Bool)) (n b : ℕ) → slice_index (bias_atoms 0 ws) b ≡ n → is_listed dropped b ≡ true → list_any (is_drop hart step n) (map (listed_as hart step ws) dropped) ≡ true
listed_one hart step ws [] n b at h = absurd (cc h)
listed_one hart step ws (d ∷ ds) n b at h = go (d.0 == b) refl h (listed_one hart step ws ds n b at)
  where
    go : (c : Bool) → (d.0 == b) ≡ c → (c || is_listed ds b) ≡ true → (is_listed ds b ≡ true → list_any (is_drop hart step n) (map (listed_as hart step ws) ds) ≡ true)
        → (is_drop hart step n (listed_as hart step ws d) || list_any (is_drop hart step n) (map (listed_as hart step ws) ds)) ≡ true
    go true is h rest =
        let number : slice_index (bias_atoms 0 ws) d.0 ≡ n = ap (slice_index (bias_atoms 0 ws)) (eqb-true d.0 b is) ∙ at in
        rw (eq-eqb hart hart refl, eq-eqb step step refl, eq-eqb (slice_index (bias_atoms 0 ws) d.0) n number) refl
    go false is h rest = second_true (is_drop hart step n (listed_as hart step ws d)) (list_any (is_drop hart step n) (map (listed_as hart step ws) ds)) (rest h)

pub bias_listed : (hart step : ℕ) (ws : List Wish) (dropped : List (ℕ × Bool)) (w : Wish) (n b : ℕ) → IsWishAt ws 0 0 w n b → w.prefer ≡ true → is_listed dropped b ≡ true
    → list_any (is_drop hart step n) (map (listed_as hart step ws) dropped) ≡ true
bias_listed hart step ws dropped w n b at prefer listed = listed_one hart step ws dropped n b (bias_at (bias_atoms 0 ws) ws 0 0 refl w n b at prefer) listed
