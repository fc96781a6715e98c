-- Dropped biases are listed in order: by hart, step and atom.
use Rattle.std.proofs.Common.{◌≡◌, ℕ, zero, suc, ◌+◌, ◌*◌, ◌<◌, ◌≤◌, Bool, true, false, if◌then◌else◌, List, [], ◌∷◌, ◌++◌, length, map, ◌⊎◌, refl, sym, ap, subst, inl, inr, arith}
use Rattle.std.specs.Prelude.{slice_index}
use Rattle.std.proofs.lemmas.Bool.{cases_eq}
use Rattle.tpl_ast.specs.declared.template.Atom.{Atom}
use Rattle.tpl_ast.specs.declared.template.Wish.{Wish}
use Rattle.tpl_ast.specs.Limits.{file_limits}
use Rattle.tpl_admit.specs.declared.dropped.Dropped.{Dropped}
use Rattle.tpl_admit.specs.WellFormed.{AreDroppedBy, drop_place}
use Rattle.fd_solve.specs.declared.answers.Solved.{Solved}
use Rattle.fd_solve.specs.declared.answers.Solved.TheVariants as answers
use Rattle.leaf_link.specs.Extras.{AreJudged, Taken, kept_with}
use Rattle.leaf_link.specs.Turns.{Turn}
use Rattle.leaf_turn.specs.Wishes.{biases_of}
use Rattle.gen_turn.specs.Turns.{bias_atoms, listed_as}

-- ---- positions of biases that were not kept

-- their positions ascend, from a number on and below another one
abbrev pub AreUpTo : ℕ → List (ℕ × Bool) → ℕ → Type 0
AreUpTo low [] high = low ≤ high
AreUpTo low (d ∷ ds) high = (low ≤ d.0) × AreUpTo (d.0 + 1) ds high

one_up : (low : ℕ) (ds : List (ℕ × Bool)) (high : ℕ) (b : Bool) → AreUpTo low ds high → AreUpTo low (ds ++ (high, b) ∷ []) (high + 1)
one_up low [] high b up = (up, omega arith)
one_up low (d ∷ ds) high b up = (up.0, one_up (d.0 + 1) ds high b up.1)

further_up : (low : ℕ) (ds : List (ℕ × Bool)) (high more : ℕ) → high ≤ more → AreUpTo low ds high → AreUpTo low ds more
further_up low [] high more le up = omega (arith, le, up)
further_up low (d ∷ ds) high more le up = (up.0, further_up (d.0 + 1) ds high more le up.1)

module _ (t : Turn) (pa : ℕ) (draws : List ℕ) (nodes : ℕ) where
  one_judged_up : (answer : Solved) (position : ℕ) (bias : List Atom) (before : Taken) → AreUpTo 0 before.dropped position → AreUpTo 0 (kept_with answer position bias before).dropped (position + 1)
  one_judged_up (answers.Found x) position bias before up = further_up 0 before.dropped position (position + 1) (omega arith) up
  one_judged_up answers.NoneFits position bias before up = one_up 0 before.dropped position false up
  one_judged_up answers.Spent position bias before up = one_up 0 before.dropped position true up

  judged_up : (position : ℕ) (biases : List (List Atom)) (before after : Taken) → AreJudged t pa draws nodes position biases before after → AreUpTo 0 before.dropped position → AreUpTo 0 after.dropped (position + length biases)
  judged_up position [] before after judged up = subst (λ (x : Taken). AreUpTo 0 x.dropped (position + 0)) (sym judged) (further_up 0 before.dropped position (position + 0) (omega arith) up)
  judged_up position (bias ∷ biases) before after judged up =
      let same : position + 1 + length biases ≡ position + length (bias ∷ biases) = omega arith in
      subst (AreUpTo 0 after.dropped) same (judged_up (position + 1) biases (kept_with judged.0 position bias before) after judged.2 (one_judged_up judged.0 position bias before up))

-- ---- the atoms that are biases

abbrev AreAscending : ℕ → List ℕ → ℕ → Type 0
AreAscending low [] high = low ≤ high
AreAscending low (x ∷ xs) high = (low ≤ x) × AreAscending (x + 1) xs high

lower : (low more : ℕ) (xs : List ℕ) (high : ℕ) → low ≤ more → AreAscending more xs high → AreAscending low xs high
lower low more [] high le up = omega (arith, le, up)
lower low more (x ∷ xs) high le up = ((let h = up.0 in omega (arith, le, h)), up.1)

atoms_ascend : (n : ℕ) (ws : List Wish) → AreAscending n (bias_atoms n ws) (n + length ws)
atoms_ascend n [] = omega arith
atoms_ascend n (w ∷ ws) =
    let same : n + 1 + length ws ≡ n + length (w ∷ ws) = omega arith in
    go w.prefer (subst (AreAscending (n + 1) (bias_atoms (n + 1) ws)) same (atoms_ascend (n + 1) ws))
  where
    go : (b : Bool) → AreAscending (n + 1) (bias_atoms (n + 1) ws) (n + length (w ∷ ws)) → AreAscending n (if b then n ∷ bias_atoms (n + 1) ws else bias_atoms (n + 1) ws) (n + length (w ∷ ws))
    go true up = (omega arith, up)
    go false up = lower n (n + 1) (bias_atoms (n + 1) ws) (n + length (w ∷ ws)) (omega arith) up

many_biases : (n : ℕ) (ws : List Wish) → length (biases_of ws) ≡ length (bias_atoms n ws)
many_biases n [] = refl
many_biases n (w ∷ ws) = go w.prefer (many_biases (n + 1) ws)
  where
    go : (b : Bool) → length (biases_of ws) ≡ length (bias_atoms (n + 1) ws) → length (if b then (w.atom ∷ []) ∷ biases_of ws else biases_of ws) ≡ length (if b then n ∷ bias_atoms (n + 1) ws else bias_atoms (n + 1) ws)
    go true h = omega (arith, h)
    go false h = h

-- of an ascending list the first ones may be left out
ascending_past : (low : ℕ) (xs : List ℕ) (high n : ℕ) → AreAscending low xs high → n < length xs → (low ≤ slice_index xs n) × (slice_index xs n < high)
ascending_past low [] high n up lt = absurd (omega (arith, lt))
ascending_past low (x ∷ xs) high zero up lt = (up.0, ends x xs up.1)
  where
    ends : (x : ℕ) (xs : List ℕ) → AreAscending (x + 1) xs high → x < high
    ends x [] up = omega (arith, up)
    ends x (y ∷ ys) up = let low = up.0 in let e = ends y ys up.1 in omega (arith, low, e)
ascending_past low (x ∷ xs) high (suc n) up lt = let rest = ascending_past (x + 1) xs high n up.1 (omega (arith, lt)) in let first = up.0 in let a = rest.0 in (omega (arith, first, a), rest.1)

ascending_two : (low : ℕ) (xs : List ℕ) (high n m : ℕ) → AreAscending low xs high → n < m → m < length xs → slice_index xs n < slice_index xs m
ascending_two low [] high n m up lt small = absurd (omega (arith, small))
ascending_two low (x ∷ xs) high zero zero up lt small = absurd (omega (arith, lt))
ascending_two low (x ∷ xs) high zero (suc m) up lt small = let rest = (ascending_past (x + 1) xs high m up.1 (omega (arith, small))).0 in omega (arith, rest)
ascending_two low (x ∷ xs) high (suc n) zero up lt small = absurd (omega (arith, lt))
ascending_two low (x ∷ xs) high (suc n) (suc m) up lt small = ascending_two (x + 1) xs high n m up.1 (omega (arith, lt)) (omega (arith, small))

-- ---- what is listed

-- dropped biases of so many harts by ascending hart, step and atom, from a place on and before another one
abbrev pub AreDroppedTo : ℕ → ℕ → List Dropped → ℕ → Type 0
AreDroppedTo harts low [] high = low ≤ high
AreDroppedTo harts low (d ∷ ds) high = (d.hart < harts) × (d.step < file_limits.steps) × (d.atom < file_limits.atoms) × (low ≤ drop_place d) × AreDroppedTo harts (drop_place d + 1) ds high

-- the first place of a step of a hart
abbrev pub place_of_step : ℕ → ℕ → ℕ
place_of_step hart step = (hart * file_limits.steps + step) * file_limits.atoms

pub dropped_more : (harts low : ℕ) (ds es : List Dropped) (mid high : ℕ) → AreDroppedTo harts low ds mid → AreDroppedTo harts mid es high → AreDroppedTo harts low (ds ++ es) high
dropped_more harts low [] [] mid high a b = omega (arith, a, b)
dropped_more harts low [] (e ∷ es) mid high a b = (b.0, b.1, b.2, (let h = b.3 in omega (arith, a, h)), b.4)
dropped_more harts low (d ∷ ds) es mid high a b = (a.0, a.1, a.2, a.3, dropped_more harts (drop_place d + 1) ds es mid high a.4 b)

pub dropped_further : (harts low : ℕ) (ds : List Dropped) (mid high : ℕ) → mid ≤ high → AreDroppedTo harts low ds mid → AreDroppedTo harts low ds high
dropped_further harts low [] mid high le a = omega (arith, le, a)
dropped_further harts low (d ∷ ds) mid high le a = (a.0, a.1, a.2, a.3, dropped_further harts (drop_place d + 1) ds mid high le a.4)

pub are_dropped : (harts low : ℕ) (ds : List Dropped) (high : ℕ) → AreDroppedTo harts low ds high → AreDroppedBy file_limits harts low ds
are_dropped harts low [] high a = tt
are_dropped harts low (d ∷ ds) high a = (a.0, a.1, a.2, a.3, are_dropped harts (drop_place d + 1) ds high a.4)

-- how many they can be
pub dropped_few : (harts low : ℕ) (ds : List Dropped) (high : ℕ) → AreDroppedTo harts low ds high → low + length ds ≤ high
dropped_few harts low [] high a = omega (arith, a)
dropped_few harts low (d ∷ ds) high a = let h = dropped_few harts (drop_place d + 1) ds high a.4 in let le = a.3 in omega (arith, h, le)

module _ (harts hart step : ℕ) (ws : List Wish) (few : hart < harts) (small : step < file_limits.steps) (short : length ws ≤ file_limits.atoms) where
  -- the place of a bias is that of its step, and its atom's number behind it
  place_is : (d : ℕ × Bool) → drop_place (listed_as hart step ws d) ≡ place_of_step hart step + slice_index (bias_atoms 0 ws) d.0
  place_is d = refl

  listed_from : (low : ℕ) (ds : List (ℕ × Bool)) (from : ℕ) → AreUpTo low ds (length (bias_atoms 0 ws)) → (low < length (bias_atoms 0 ws) → from ≤ place_of_step hart step + slice_index (bias_atoms 0 ws) low)
      → from ≤ place_of_step hart (step + 1) → AreDroppedTo harts from (map (listed_as hart step ws) ds) (place_of_step hart (step + 1))
  listed_from low [] from up before end = end
  listed_from low (d ∷ ds) from up before end =
      let asc : AreAscending 0 (bias_atoms 0 ws) (0 + length ws) = atoms_ascend 0 ws in
      let lt : d.0 < length (bias_atoms 0 ws) = (let h = below (d.0 + 1) ds up.1 in omega (arith, h)) in
      let in_leaf = (ascending_past 0 (bias_atoms 0 ws) (0 + length ws) d.0 asc lt).1 in
      let first : place_of_step hart step + slice_index (bias_atoms 0 ws) low ≤ place_of_step hart step + slice_index (bias_atoms 0 ws) d.0 = later low d.0 up.0 lt asc in
      let own = before (let l = up.0 in omega (arith, l, lt)) in
      let last : place_of_step hart step + slice_index (bias_atoms 0 ws) d.0 + 1 ≤ place_of_step hart (step + 1) = step_end (slice_index (bias_atoms 0 ws) d.0) (omega (arith, in_leaf, short)) in (
        few,
        small,
        omega (arith, in_leaf, short),
        omega (arith, own, first),
        listed_from (d.0 + 1) ds (place_of_step hart step + slice_index (bias_atoms 0 ws) d.0 + 1) up.1
            (λ more. let two = ascending_two 0 (bias_atoms 0 ws) (0 + length ws) d.0 (d.0 + 1) asc (omega arith) more in omega (arith, two)) last,
      )
    where
      below : (low : ℕ) (ds : List (ℕ × Bool)) → AreUpTo low ds (length (bias_atoms 0 ws)) → low ≤ length (bias_atoms 0 ws)
      below low [] up = up
      below low (e ∷ es) up = let h = below (e.0 + 1) es up.1 in let l = up.0 in omega (arith, h, l)

      later : (n m : ℕ) → n ≤ m → m < length (bias_atoms 0 ws) → AreAscending 0 (bias_atoms 0 ws) (0 + length ws) → place_of_step hart step + slice_index (bias_atoms 0 ws) n ≤ place_of_step hart step + slice_index (bias_atoms 0 ws) m
      later n m le lt asc = go (cases_eq n m)
        where
          below_eq : (n m : ℕ) → n ≤ m → (n ≡ m → ⊥) → n < m
          below_eq n m le apart = omega (arith, le, apart)

          go : (n ≡ m) ⊎ (n ≡ m → ⊥) → place_of_step hart step + slice_index (bias_atoms 0 ws) n ≤ place_of_step hart step + slice_index (bias_atoms 0 ws) m
          go (inl same) = let e = ap (slice_index (bias_atoms 0 ws)) same in omega (arith, e)
          go (inr apart) = let two = ascending_two 0 (bias_atoms 0 ws) (0 + length ws) n m asc (below_eq n m le apart) lt in omega (arith, two)

      step_end : (a : ℕ) → a < 32 → place_of_step hart step + a + 1 ≤ place_of_step hart (step + 1)
      step_end a lt = omega (arith, lt)

  -- those of a leaf lie between the places of its step and of the next one
  pub listed_between : (t : Turn) (pa : ℕ) (draws : List ℕ) (nodes : ℕ) (before : List Atom) (after : Taken) → AreJudged t pa draws nodes 0 (biases_of ws) (record { atoms = before; dropped = [] }) after
      → AreDroppedTo harts (place_of_step hart step) (map (listed_as hart step ws) after.dropped) (place_of_step hart (step + 1))
  listed_between t pa draws nodes before after judged =
      let up : AreUpTo 0 after.dropped (0 + length (biases_of ws)) = judged_up t pa draws nodes 0 (biases_of ws) (record { atoms = before; dropped = [] }) after judged (omega arith) in
      let many : 0 + length (biases_of ws) ≡ length (bias_atoms 0 ws) = (let h = many_biases 0 ws in omega (arith, h)) in
      listed_from 0 after.dropped (place_of_step hart step) (subst (AreUpTo 0 after.dropped) many up) (λ some. omega arith) (omega arith)
