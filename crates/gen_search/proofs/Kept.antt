-- Wholes that are come back to.
use Rattle.std.proofs.Common.{◌≡◌, ℕ, zero, suc, ◌+◌, ◌<◌, ◌≤◌, List, [], ◌∷◌, ◌++◌, length, take, Option, Some, None, length-append, length-take, refl, sym, ap, ◌∙◌, subst, arith}
use Rattle.std.specs.Prelude.{Vec}
use Rattle.std.specs.Global.{Global}
use Rattle.std.specs.List.{slice_get}
use Rattle.tpl_ast.specs.declared.template.Item.{Item}
use Rattle.gen_search.proofs.Tries.{no_try}
use Rattle.gen_search.specs.declared.choice.Choice.{Choice}
use Rattle.gen_search.specs.declared.draws.Tally.{Tally}
use Rattle.gen_search.specs.Search.{Rules, Outcome, Dead, Finished, GaveUp, Tries, none_left, OrElse, is_dead, is_finished, is_given_up}
use Rattle.gen_search.specs.Places.{AreMarked, AreOpen, AreTried, ComesBack, Inside, IsInside, IsOpen, laid, untried}
use Rattle.gen_search.specs.Wholes.{wholes, kept}

pub get_taken : {A : Type 0} (n : ℕ) (xs : List A) (m : ℕ) → m < n → slice_get (take n xs) m ≡ slice_get xs m
get_taken zero xs m lt = absurd (omega (arith, lt))
get_taken (suc n) [] m lt = refl
get_taken (suc n) (x ∷ xs) zero lt = refl
get_taken (suc n) (x ∷ xs) (suc m) lt = get_taken n xs m (omega (arith, lt))

pub get_kept : {A : Type 0} (old new : List A) (m : ℕ) → take (length old) new ≡ old → m < length old → slice_get new m ≡ slice_get old m
get_kept old new m same lt = sym (get_taken (length old) new m lt) ∙ ap (λ (xs : List _). slice_get xs m) same

pub last_whole : {A : Type 0} (xs : List A) (x : A) → slice_get (xs ++ (x ∷ [])) (length xs) ≡ Some x
last_whole [] x = refl
last_whole (y ∷ xs) x = last_whole xs x

pub wholes_length : {A : Type 0} (xs : List A) (x : A) → length (xs ++ (x ∷ [])) ≡ length xs + 1
wholes_length xs x = length-append xs (x ∷ [])

pub kept_longer : {A : Type 0} (xs : List A) (x : A) (ys : List A) (y : A) → kept xs x ys y → length xs ≤ length ys
kept_longer xs x ys y same =
    let taken = ap length same in
    omega (arith, taken, length-take (length (wholes xs x)) (wholes ys y), wholes_length xs x, wholes_length ys y)

-- ---- marks

pub marked_last : (low : ℕ) (cs : List Choice) (c : Choice) (high : ℕ) → AreMarked low cs c.mark → c.mark ≤ high → AreMarked low (cs ++ (c ∷ [])) high
marked_last low [] c high marked le = (marked, le)
marked_last low (d ∷ cs) c high marked le = (marked.0, marked_last d.mark cs c high marked.1 le)

pub marked_before : (low : ℕ) (cs : List Choice) (c : Choice) (high : ℕ) → AreMarked low (cs ++ (c ∷ [])) high → AreMarked low cs c.mark × (c.mark ≤ high)
marked_before low [] c high marked = marked
marked_before low (d ∷ cs) c high marked = let m = marked_before d.mark cs c high marked.1 in ((marked.0, m.0), m.1)

pub marked_up : (low : ℕ) (cs : List Choice) (high higher : ℕ) → AreMarked low cs high → high ≤ higher → AreMarked low cs higher
marked_up low [] high higher marked le = omega (arith, marked, le)
marked_up low (d ∷ cs) high higher marked le = (marked.0, marked_up d.mark cs high higher marked.1 le)

pub marked_le : (low : ℕ) (cs : List Choice) (high : ℕ) → AreMarked low cs high → low ≤ high
marked_le low [] high marked = marked
marked_le low (d ∷ cs) high marked = omega (arith, marked.0, marked_le d.mark cs high marked.1)

pub open_last : (cs : List Choice) (c : Choice) → AreOpen cs → IsOpen c → AreOpen (cs ++ (c ∷ []))
open_last [] c are is = (is, tt)
open_last (d ∷ cs) c are is = (are.0, open_last cs c are.1 is)

pub open_before : (cs : List Choice) (c : Choice) → AreOpen (cs ++ (c ∷ [])) → AreOpen cs × IsOpen c
open_before [] c are = (tt, are.0)
open_before (d ∷ cs) c are = let o = open_before cs c are.1 in ((are.0, o.0), o.1)

-- ---- outcomes inside of open choices

or_more : {W : Type 0} (a b : Outcome W → Type 0) (next : Tally → Outcome W → Type 0) → ((o : Outcome W) → a o → b o) → (o : Outcome W) → OrElse a next o → OrElse b next o
or_more a b next more _ (is_finished is) = is_finished (more _ is)
or_more a b next more _ (is_given_up is) = is_given_up (more _ is)
or_more a b next more _ (is_dead is goes) = is_dead (more _ is) goes

module _ {W : Type 0} (rules : Rules W) (turns : ℕ) where
  -- where more outcomes are led to
  pub inside_more : (ws : List W) (cs : List Choice) (a b : Outcome W → Type 0) → ((o : Outcome W) → a o → b o) → (o : Outcome W) → Inside rules turns ws cs a o → Inside rules turns ws cs b o
  inside_more ws [] a b more o is = more o is
  inside_more ws (c ∷ cs) a b more o is = or_more (Inside rules turns ws cs a) (Inside rules turns ws cs b) (ComesBack rules turns (untried c) c.place (slice_get ws c.mark)) (inside_more ws cs a b more) o is

  pub inside_append : (ws : List W) (cs ds : List Choice) (a : Outcome W → Type 0) → Inside rules turns ws (cs ++ ds) a ≡ Inside rules turns ws cs (Inside rules turns ws ds a)
  inside_append ws [] ds a = refl
  inside_append ws (c ∷ cs) ds a = ap (λ (b : Outcome W → Type 0). OrElse b (ComesBack rules turns (untried c) c.place (slice_get ws c.mark))) (inside_append ws cs ds a)

  -- wholes that are kept
  pub inside_kept : (old new : List W) (low : ℕ) (cs : List Choice) (high : ℕ) (a : Outcome W → Type 0) → take (length old) new ≡ old → high < length old → AreMarked low cs high → Inside rules turns new cs a ≡ Inside rules turns old cs a
  inside_kept old new low [] high a same lt marked = refl
  inside_kept old new low (d ∷ cs) high a same lt marked =
      let m : d.mark < length old = omega (arith, lt, marked_le d.mark cs high marked.1) in
      λ i. OrElse (inside_kept old new d.mark cs high a same lt marked.1 i) (ComesBack rules turns (untried d) d.place (get_kept old new d.mark same m i))

  pub back_kept : (old new : List W) (low : ℕ) (cs : List Choice) (high : ℕ) (a : Outcome W → Type 0) (o : Outcome W) → take (length old) new ≡ old → high < length old → AreMarked low cs high → Inside rules turns new cs a o → Inside rules turns old cs a o
  back_kept old new low cs high a o same lt marked goes = subst (λ (s : Outcome W → Type 0). s o) (inside_kept old new low cs high a same lt marked) goes

  pub inside_finished : (ws : List W) (cs : List Choice) (a : Outcome W → Type 0) (whole : W) (t : Tally) → a (Finished whole t) → Inside rules turns ws cs a (Finished whole t)
  inside_finished ws [] a whole t is = is
  inside_finished ws (d ∷ cs) a whole t is = is_finished (inside_finished ws cs a whole t is)

  pub inside_gave_up : (ws : List W) (cs : List Choice) (a : Outcome W → Type 0) (t : Tally) → a (GaveUp t) → Inside rules turns ws cs a (GaveUp t)
  inside_gave_up ws [] a t is = is
  inside_gave_up ws (d ∷ cs) a t is = is_given_up (inside_gave_up ws cs a t is)

  come_tried : (c : Choice) (whole : Option W) (t : Tally) → c.picked < length c.ways.now → length c.ways.now ≤ c.tried → ComesBack rules turns (untried c) c.place whole t (Dead t)
  come_tried c None t below over = refl
  come_tried c (Some whole) t below over = subst (λ (us : List (ℕ × Vec Item Global)). Tries rules turns c.place.hart us (laid c.place) whole t (Dead t)) (sym (no_try c.picked c.ways.now c.tried below over)) none_left

  -- choices of which all alternatives were tried are dead
  pub inside_tried : (ws : List W) (cs : List Choice) (a : Outcome W → Type 0) (t : Tally) → AreOpen cs → AreTried cs → a (Dead t) → Inside rules turns ws cs a (Dead t)
  inside_tried ws [] a t are tried is = is
  inside_tried ws (c ∷ cs) a t are tried is = is_dead (inside_tried ws cs a t are.1 tried.1 is) (come_tried c (slice_get ws c.mark) t are.0.picked tried.0)

-- ---- a whole that was come back to

pub rolled_length : {A : Type 0} (xs : List A) (x : A) (ys : List A) (y : A) (m : ℕ) → ys ++ (y ∷ []) ≡ take (m + 1) (xs ++ (x ∷ [])) → m ≤ length xs → length ys ≡ m
rolled_length xs x ys y m is le =
    let taken = ap length is in
    omega (arith, taken, length-take (m + 1) (xs ++ (x ∷ [])), wholes_length xs x, wholes_length ys y)

pub rolled_kept : {A : Type 0} (xs : List A) (x : A) (ys : List A) (y : A) (m : ℕ) → ys ++ (y ∷ []) ≡ take (m + 1) (xs ++ (x ∷ [])) → m ≤ length xs → take (length (ys ++ (y ∷ []))) (xs ++ (x ∷ [])) ≡ ys ++ (y ∷ [])
rolled_kept {A = A} xs x ys y m is le =
    let long : length (ys ++ (y ∷ [])) ≡ m + 1 = omega (arith, rolled_length xs x ys y m is le, wholes_length ys y) in
    ap (λ (n : ℕ). take n (xs ++ (x ∷ []))) long ∙ sym is

pub rolled_get : {A : Type 0} (xs : List A) (x : A) (ys : List A) (y : A) (m k : ℕ) → ys ++ (y ∷ []) ≡ take (m + 1) (xs ++ (x ∷ [])) → k ≤ m → slice_get (ys ++ (y ∷ [])) k ≡ slice_get (xs ++ (x ∷ [])) k
rolled_get {A = A} xs x ys y m k is le = ap (λ (zs : List A). slice_get zs k) is ∙ get_taken (m + 1) (xs ++ (x ∷ [])) k (omega (arith, le))

pub rolled_whole : {A : Type 0} (xs : List A) (x : A) (ys : List A) (y : A) (m : ℕ) → ys ++ (y ∷ []) ≡ take (m + 1) (xs ++ (x ∷ [])) → m ≤ length xs → slice_get (xs ++ (x ∷ [])) m ≡ Some y
rolled_whole {A = A} xs x ys y m is le =
    let le2 : m ≤ m = omega arith in
    sym (rolled_get xs x ys y m m is le2) ∙ ap (λ (n : ℕ). slice_get (ys ++ (y ∷ [])) n) (sym (rolled_length xs x ys y m is le)) ∙ last_whole ys y

-- ---- the innermost choice that is open

pub open_inside : (cs : List Choice) (c : Choice) (inner : List Choice) → AreOpen (cs ++ (c ∷ inner)) → AreOpen cs × IsOpen c × AreOpen inner
open_inside [] c inner are = (tt, are.0, are.1)
open_inside (d ∷ cs) c inner are = let o = open_inside cs c inner are.1 in ((are.0, o.0), o.1, o.2)

pub marked_inside : (low : ℕ) (cs : List Choice) (c : Choice) (inner : List Choice) (high : ℕ) → AreMarked low (cs ++ (c ∷ inner)) high → AreMarked low cs c.mark × (c.mark ≤ high)
marked_inside low [] c inner high marked = (marked.0, marked_le c.mark inner high marked.1)
marked_inside low (d ∷ cs) c inner high marked = let m = marked_inside d.mark cs c inner high marked.1 in ((marked.0, m.0), m.1)

-- going back to the innermost choice that is open
module _ {W : Type 0} (rules : Rules W) (turns : ℕ) where
  pub dead_inside : (xs : List W) (x : W) (ys : List W) (y : W) (all cs : List Choice) (c : Choice) (low : ℕ) (t : Tally) (p : Outcome W) → IsInside all cs c → AreOpen all → AreMarked low all (length xs)
      → ys ++ (y ∷ []) ≡ take (c.mark + 1) (xs ++ (x ∷ []))
      → Inside rules turns (ys ++ (y ∷ [])) cs (ComesBack rules turns (untried c) c.place (Some y) t) p → Inside rules turns (xs ++ (x ∷ [])) all (λ o. o ≡ Dead t) p
  dead_inside xs x ys y all cs c low t p inside are marked is goes =
      let ws : List W = xs ++ (x ∷ []) in
      let dead : Outcome W → Type 0 = λ o. o ≡ Dead t in
      let os = open_inside cs c inside.inner (subst AreOpen inside.are are) in
      let ms = marked_inside low cs c inside.inner (length xs) (subst (λ (ds : List Choice). AreMarked low ds (length xs)) inside.are marked) in
      let long : length ys ≡ c.mark = rolled_length xs x ys y c.mark is ms.1 in
      let within : c.mark < length (ys ++ (y ∷ [])) = omega (arith, long, wholes_length ys y) in
      let back : Outcome W → Type 0 = ComesBack rules turns (untried c) c.place (Some y) t in
      let kept : Inside rules turns ws cs back p = subst (λ (s : Outcome W → Type 0). s p) (sym (inside_kept rules turns (ys ++ (y ∷ [])) ws low cs c.mark back (rolled_kept xs x ys y c.mark is ms.1) within ms.0)) goes in
      let stood : Some y ≡ slice_get ws c.mark = sym (rolled_whole xs x ys y c.mark is ms.1) in
      let inner : Inside rules turns ws inside.inner dead (Dead t) = inside_tried rules turns ws inside.inner dead t os.2 inside.tried refl in
      let more : (o : Outcome W) → back o → Inside rules turns ws (c ∷ inside.inner) dead o = λ o b. is_dead inner (subst (λ (w : Option W). ComesBack rules turns (untried c) c.place w t o) stood b) in
      let opened : Inside rules turns ws cs (Inside rules turns ws (c ∷ inside.inner) dead) p = inside_more rules turns ws cs back (Inside rules turns ws (c ∷ inside.inner) dead) more p kept in
      subst (λ (ds : List Choice). Inside rules turns ws ds dead p) (sym inside.are) (subst (λ (s : Outcome W → Type 0). s p) (sym (inside_append rules turns ws cs (c ∷ inside.inner) dead)) opened)

pub inside_open : (all cs : List Choice) (c : Choice) → IsInside all cs c → AreOpen all → AreOpen cs × IsOpen c
inside_open all cs c inside are = let o = open_inside cs c inside.inner (subst AreOpen inside.are are) in (o.0, o.1)

pub inside_marked : (all cs : List Choice) (c : Choice) (low high : ℕ) → IsInside all cs c → AreMarked low all high → AreMarked low cs c.mark × (c.mark ≤ high)
inside_marked all cs c low high inside marked = marked_inside low cs c inside.inner high (subst (λ (ds : List Choice). AreMarked low ds high) inside.are marked)
