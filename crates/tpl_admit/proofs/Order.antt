-- The order by hart, step and atom.
use Rattle.std.proofs.Common.{◌≡◌, ℕ, ◌+◌, ◌*◌, ◌<◌, ◌&&◌, ◌||◌, eqb, ltb, Bool, true, false, refl, sym, ◌∙◌, subst, inl, inr, arith}
use Rattle.std.proofs.lemmas.Bool.{cases_Bool, eqb-true, eqb-false, eq-eqb, lt-ltb, ltb-true, ltb-false, le-ltb, ne_eqb}
use Rattle.tpl_admit.specs.declared.admission.Unmet.{Unmet}
use Rattle.tpl_admit.specs.Admitting.{comes_before}

-- ---- the order, of numbers

abbrev before : ℕ → ℕ → Bool → Bool
before a b rest = ltb a b || (eqb a b && rest)

-- one of three is so
data Compared (a b : ℕ) : Type 0 where
  Less : a < b → Compared a b
  Same : a ≡ b → Compared a b
  More : b < a → Compared a b

compared : (a b : ℕ) → Compared a b
compared a b = elim (cases_Bool (ltb a b)) [
  | inl less ↦ Less (ltb-true a b less)
  | inr not_less ↦ elim (cases_Bool (eqb a b)) [
    | inl same ↦ Same (eqb-true a b same)
    | inr apart ↦ More (omega (arith, ltb-false a b not_less, eqb-false a b apart))
  ]
]

less_before : (a b : ℕ) (rest : Bool) → a < b → before a b rest ≡ true
less_before a b rest l = rw (lt-ltb a b l) refl

more_before : (a b : ℕ) (rest : Bool) → b < a → before a b rest ≡ false
more_before a b rest m = rw (le-ltb a b (omega (arith, m)), ne_eqb a b (λ e. omega (arith, e, m))) refl

same_before : (a : ℕ) (rest : Bool) → before a a rest ≡ rest
same_before a rest = rw (le-ltb a a (omega arith), eq-eqb a a refl) refl

pub never_true : (t : Bool) → t ≡ true → t ≡ false → ⊥
never_true t a b = let e : true ≡ false = sym a ∙ b in absurd (cc e)

-- what isn't before the second, which isn't before the third, isn't before the third; and so for what decides where numbers are the same
steps : (a b c : ℕ) (ab bc ac : Bool) → (ab ≡ false → bc ≡ false → ac ≡ false) → before a b ab ≡ false → before b c bc ≡ false → before a c ac ≡ false
steps a b c ab bc ac rest x y = go (compared a b) (compared b c) where
  go : Compared a b → Compared b c → before a c ac ≡ false
  go (Less l) q = absurd (never_true (before a b ab) (less_before a b ab l) x)
  go p (Less l) = absurd (never_true (before b c bc) (less_before b c bc l) y)
  go (More m) (More n) = more_before a c ac (omega (arith, m, n))
  go (More m) (Same n) = more_before a c ac (omega (arith, m, n))
  go (Same m) (More n) = more_before a c ac (omega (arith, m, n))
  go (Same m) (Same n) =
      let first : ab ≡ false = sym (same_before b ab) ∙ subst (λ (i : ℕ). before i b ab ≡ false) m x in
      let second : bc ≡ false = sym (same_before c bc) ∙ subst (λ (i : ℕ). before i c bc ≡ false) n y in
      subst (λ (i : ℕ). before i c ac ≡ false) (sym (m ∙ n)) (same_before c ac ∙ rest first second)

-- neither is before the other only where they are the same
pub ties : (a b : ℕ) (ab ba : Bool) → before a b ab ≡ false → before b a ba ≡ false → (a ≡ b) × (ab ≡ false) × (ba ≡ false)
ties a b ab ba x y = go (compared a b) where
  go : Compared a b → (a ≡ b) × (ab ≡ false) × (ba ≡ false)
  go (Less l) = absurd (never_true (before a b ab) (less_before a b ab l) x)
  go (More m) = absurd (never_true (before b a ba) (less_before b a ba m) y)
  go (Same s) = (s, sym (same_before b ab) ∙ subst (λ (i : ℕ). before i b ab ≡ false) s x, sym (same_before b ba) ∙ subst (λ (i : ℕ). before b i ba ≡ false) s y)

-- what is before another isn't behind it
turned : (a b : ℕ) (ab ba : Bool) → (ab ≡ true → ba ≡ false) → before a b ab ≡ true → before b a ba ≡ false
turned a b ab ba rest x = go (compared a b) where
  go : Compared a b → before b a ba ≡ false
  go (Less l) = more_before b a ba l
  go (More m) = absurd (never_true (before a b ab) x (more_before a b ab m))
  go (Same s) = subst (λ (i : ℕ). before b i ba ≡ false) (sym s) (same_before b ba ∙ rest (sym (same_before b ab) ∙ subst (λ (i : ℕ). before i b ab ≡ true) s x))

-- ---- the order of failures

abbrev pub last : Unmet → Unmet → Bool
last f g = ltb f.atom g.atom

abbrev pub middle : Unmet → Unmet → Bool
middle f g = before f.step g.step (last f g)

atoms_turned : (f g : Unmet) → last f g ≡ true → last g f ≡ false
atoms_turned f g h = le-ltb g.atom f.atom (omega (arith, ltb-true f.atom g.atom h))

atoms_step : (f g h : Unmet) → last f g ≡ false → last g h ≡ false → last f h ≡ false
atoms_step f g h x y = le-ltb f.atom h.atom (omega (arith, ltb-false f.atom g.atom x, ltb-false g.atom h.atom y))

pub not_before_step : (f g h : Unmet) → comes_before f g ≡ false → comes_before g h ≡ false → comes_before f h ≡ false
not_before_step f g h = steps f.hart g.hart h.hart (middle f g) (middle g h) (middle f h) (steps f.step g.step h.step (last f g) (last g h) (last f h) (atoms_step f g h))

pub before_turned : (f g : Unmet) → comes_before f g ≡ true → comes_before g f ≡ false
before_turned f g = turned f.hart g.hart (middle f g) (middle g f) (turned f.step g.step (last f g) (last g f) (atoms_turned f g))

pub never_before_itself : (f : Unmet) → comes_before f f ≡ false
never_before_itself f = same_before f.hart (middle f f) ∙ same_before f.step (last f f) ∙ le-ltb f.atom f.atom (omega arith)

-- the number of the place that an atom has among 8,192 steps a hart and 32 atoms a step
abbrev place_of : Unmet → ℕ
place_of f = (f.hart * 8192 + f.step) * 32 + f.atom

less_or_same : (a b : ℕ) (rest : Bool) → a ≡ b → rest ≡ true → before a b rest ≡ true
less_or_same a b rest same is = subst (λ (i : ℕ). before a i rest ≡ true) same (same_before a rest ∙ is)

pub placed_before : (f g : Unmet) → f.step < 8192 → g.step < 8192 → f.atom < 32 → g.atom < 32 → place_of f < place_of g → comes_before f g ≡ true
placed_before f g fs gs fa ga less = harts (compared f.hart g.hart) where
  steps_of : f.hart ≡ g.hart → Compared f.step g.step → middle f g ≡ true
  steps_of h (Less l) = less_before f.step g.step (last f g) l
  steps_of h (Same s) = less_or_same f.step g.step (last f g) s (lt-ltb f.atom g.atom (omega (arith, h, s, less)))
  steps_of h (More m) = absurd (omega (arith, h, m, less, fa, ga))

  harts : Compared f.hart g.hart → comes_before f g ≡ true
  harts (Less l) = less_before f.hart g.hart (middle f g) l
  harts (Same s) = less_or_same f.hart g.hart (middle f g) s (steps_of s (compared f.step g.step))
  harts (More m) = absurd (omega (arith, m, less, fs, gs, fa, ga))
