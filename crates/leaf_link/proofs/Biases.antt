-- A bias is its atoms.
use Rattle.std.proofs.Common.{◌≡◌, ℕ, if◌then◌else◌, ◌&&◌, Bool, true, false, List, [], ◌∷◌, ◌++◌, refl, sym, ap, ◌∙◌, inl, inr}
use Rattle.std.proofs.lemmas.Bool.{cases_Bool, and_parts, and_from}
use Rattle.rv_isa.specs.declared.operation.Op.{Op}
use Rattle.tpl_ast.specs.declared.template.Atom.{Atom}
use Rattle.tpl_ast.specs.declared.template.Atom.TheVariants as atoms
use Rattle.tpl_ast.specs.declared.template.Var.{Var}
use Rattle.tpl_ast.specs.declared.template.Var.TheVariants as vars
use Rattle.fd_prob.specs.declared.slot.Slot.{Slot}
use Rattle.fd_prob.specs.declared.slot.Slot.TheVariants as slots
use Rattle.leaf_link.specs.Turns.{Turn}
use Rattle.leaf_link.specs.Values.{Values}
use Rattle.tpl_ast.specs.Leaves.{same_var}
use Rattle.leaf_link.specs.Cases.{Shape, all_judged, all_relate, all_tests, atoms_hold, base_domain, is_judged, may_fetch, or_no, relates, shape_of, sources_hold, target_at, tests, unless, uses, value_at}
use Rattle.leaf_link.specs.Problems.{BiasesAreAtoms, bias_cut}
use Rattle.leaf_link.proofs.Truths.{same_var_is}
use Rattle.leaf_link.proofs.Both.{each_slot}

pub and_assoc : (a b c : Bool) → (a && (b && c)) ≡ ((a && b) && c)
and_assoc true b c = refl
and_assoc false b c = refl

pub tests_more : (t : Turn) (leaf bias : List Atom) (u : Var) (v : ℕ) → all_tests t (leaf ++ bias) u v ≡ (all_tests t leaf u v && all_tests t bias u v)
tests_more t [] bias u v = refl
tests_more t (atom ∷ leaf) bias u v = ap (λ (b : Bool). tests t atom u v && b) (tests_more t leaf bias u v) ∙ and_assoc (tests t atom u v) (all_tests t leaf u v) (all_tests t bias u v)

judged_more : (s : Shape) (leaf bias : List Atom) → all_judged s (leaf ++ bias) ≡ (all_judged s leaf && all_judged s bias)
judged_more s [] bias = refl
judged_more s (atom ∷ leaf) bias = ap (λ (b : Bool). is_judged s atom && b) (judged_more s leaf bias) ∙ and_assoc (is_judged s atom) (all_judged s leaf) (all_judged s bias)

relate_more : (op : Op) (value : Var → ℕ) (leaf bias : List Atom) → all_relate op value (leaf ++ bias) ≡ (all_relate op value leaf && all_relate op value bias)
relate_more op value [] bias = refl
relate_more op value (atom ∷ leaf) bias = ap (λ (b : Bool). relates op value atom && b) (relate_more op value leaf bias) ∙ and_assoc (relates op value atom) (all_relate op value leaf) (all_relate op value bias)

-- an atom on a variable that is not used is not judged
if_other : (s : Shape) (w u : Var) (b : Bool) → uses s w ≡ true → uses s u ≡ false → (if same_var w u then b else true) ≡ true
if_other s w u b h n = elim (cases_Bool (same_var w u)) [
  | inl y ↦ let z : uses s u ≡ true = ap (λ (v : Var). uses s v) (sym (same_var_is w u y)) ∙ h in absurd (cc)
  | inr m ↦ ap (λ (c : Bool). if c then b else true) m
]

untested : (t : Turn) (s : Shape) (bias : List Atom) (u : Var) (v : ℕ) → all_judged s bias ≡ true → uses s u ≡ false → all_tests t bias u v ≡ true
untested t s [] u v h n = refl
untested t s (atom ∷ bias) u v h n =
    let hs = and_parts (is_judged s atom) (all_judged s bias) h in
    and_from _ _ (one atom hs.0) (untested t s bias u v hs.1 n)
  where
    one : (atom : Atom) → is_judged s atom ≡ true → tests t atom u v ≡ true
    one (atoms.In w set) j = if_other s w u _ j n
    one (atoms.NotIn w set) j = if_other s w u _ j n
    one (atoms.Is w name) j = if_other s w u _ j n
    one (atoms.Same w y) j = refl
    one (atoms.Differ w y) j = refl
    one atoms.Taken j = refl
    one atoms.NotTaken j = refl
    one atoms.Shared j = if_other s vars.Pa u _ j n

-- a flag's test, of both and of each
unless_more : (b x y z : Bool) → z ≡ (x && y) → unless b z ≡ true → (unless b x ≡ true) × (b ≡ true → y ≡ true)
unless_more true x y z e h = let r = and_parts x y (sym e ∙ h) in (r.0, λ u. r.1)
unless_more false x y z e h = (refl, λ u. absurd (cc))

more_unless : (b x y z : Bool) → z ≡ (x && y) → unless b x ≡ true → y ≡ true → unless b z ≡ true
more_unless true x y z e h k = e ∙ and_from x y h k
more_unless false x y z e h k = refl

or_more : (b i x y z : Bool) (v : ℕ) → z ≡ (x && y) → or_no b (i && z) v ≡ true → (or_no b (i && x) v ≡ true) × (b ≡ true → y ≡ true)
or_more true i x y z v e h = let a = and_parts i z h in let r = and_parts x y (sym e ∙ a.1) in (and_from i x a.0 r.0, λ u. r.1)
or_more false i x y z v e h = (h, λ u. absurd (cc))

more_or : (b i x y z : Bool) (v : ℕ) → z ≡ (x && y) → or_no b (i && x) v ≡ true → y ≡ true → or_no b (i && z) v ≡ true
more_or true i x y z v e h k = let a = and_parts i x h in and_from i z a.0 (e ∙ and_from x y a.1 k)
more_or false i x y z v e h k = h

-- used or not, the test holds
pub either : (t : Turn) (s : Shape) (bias : List Atom) (u : Var) (v : ℕ) → all_judged s bias ≡ true → (uses s u ≡ true → all_tests t bias u v ≡ true) → all_tests t bias u v ≡ true
either t s bias u v j h = elim (cases_Bool (uses s u)) [
  | inl y ↦ h y
  | inr n ↦ untested t s bias u v j n
]

-- a field's domain with more atoms
field_less : (t : Turn) (s : Shape) (leaf bias : List Atom) (u : Var) (i : Bool) (v : ℕ) → all_judged s bias ≡ true → (i && unless (uses s u) (all_tests t (leaf ++ bias) u v)) ≡ true
    → ((i && unless (uses s u) (all_tests t leaf u v)) ≡ true) × (all_tests t bias u v ≡ true)
field_less t s leaf bias u i v j k =
    let a = and_parts i _ k in
    let r = unless_more (uses s u) (all_tests t leaf u v) (all_tests t bias u v) (all_tests t (leaf ++ bias) u v) (tests_more t leaf bias u v) a.1 in
    (and_from _ _ a.0 r.0, either t s bias u v j r.1)

field_more : (t : Turn) (s : Shape) (leaf bias : List Atom) (u : Var) (i : Bool) (v : ℕ) → (i && unless (uses s u) (all_tests t leaf u v)) ≡ true → all_tests t bias u v ≡ true
    → (i && unless (uses s u) (all_tests t (leaf ++ bias) u v)) ≡ true
field_more t s leaf bias u i v h k =
    let a = and_parts i _ h in
    and_from _ _ a.0 (more_unless (uses s u) (all_tests t leaf u v) (all_tests t bias u v) (all_tests t (leaf ++ bias) u v) (tests_more t leaf bias u v) a.1 k)

value_less : (t : Turn) (s : Shape) (leaf bias : List Atom) (u : Var) (i : Bool) (v : ℕ) → all_judged s bias ≡ true → or_no (uses s u) (i && all_tests t (leaf ++ bias) u v) v ≡ true
    → (or_no (uses s u) (i && all_tests t leaf u v) v ≡ true) × (all_tests t bias u v ≡ true)
value_less t s leaf bias u i v j k =
    let r = or_more (uses s u) i (all_tests t leaf u v) (all_tests t bias u v) (all_tests t (leaf ++ bias) u v) v (tests_more t leaf bias u v) k in
    (r.0, either t s bias u v j r.1)

value_more : (t : Turn) (s : Shape) (leaf bias : List Atom) (u : Var) (i : Bool) (v : ℕ) → or_no (uses s u) (i && all_tests t leaf u v) v ≡ true → all_tests t bias u v ≡ true → or_no (uses s u) (i && all_tests t (leaf ++ bias) u v) v ≡ true
value_more t s leaf bias u i v h k = more_or (uses s u) i (all_tests t leaf u v) (all_tests t bias u v) (all_tests t (leaf ++ bias) u v) v (tests_more t leaf bias u v) h k

abbrev pub BaseBoth : Turn → ℕ → List Atom → List Atom → Shape → Slot → ℕ → Type 0
BaseBoth t pa leaf bias s slot v = (base_domain t pa leaf s slot v ≡ true) × (bias_cut t bias slot v ≡ true)

base_less : (t : Turn) (pa : ℕ) (leaf bias : List Atom) (s : Shape) (x : Values) → all_judged s bias ≡ true → ((slot : Slot) → base_domain t pa (leaf ++ bias) s slot (x slot) ≡ true) → (slot : Slot) → BaseBoth t pa leaf bias s slot (x slot)
base_less t pa leaf bias s x j h = each_slot (λ slot. BaseBoth t pa leaf bias s slot (x slot)) (record {
  op_slot = let a = and_parts _ _ (h slots.Op) in let r = and_parts _ _ (sym (tests_more t leaf bias vars.Op (x slots.Op)) ∙ a.1) in (and_from _ _ a.0 r.0, r.1);
  rs1_slot = field_less t s leaf bias vars.Rs1 _ (x slots.Rs1) j (h slots.Rs1);
  rs2_slot = field_less t s leaf bias vars.Rs2 _ (x slots.Rs2) j (h slots.Rs2);
  imm_slot = field_less t s leaf bias vars.Imm _ (x slots.Imm) j (h slots.Imm);
  rd_slot = field_less t s leaf bias vars.Rd _ (x slots.Rd) j (h slots.Rd);
  csr_slot = field_less t s leaf bias vars.Csr _ (x slots.Csr) j (h slots.Csr);
  ea_slot = value_less t s leaf bias vars.Ea _ (x slots.Ea) j (h slots.Ea);
  a_slot = value_less t s leaf bias vars.A _ (x slots.A) j (h slots.A);
  b_slot = value_less t s leaf bias vars.B _ (x slots.B) j (h slots.B);
  first_slot = (refl, refl);
  second_slot = (refl, refl);
  data_slot = (refl, refl);
  old_slot = (refl, refl);
  vector_slot = (refl, refl);
})

base_more : (t : Turn) (pa : ℕ) (leaf bias : List Atom) (s : Shape) (x : Values) → ((slot : Slot) → base_domain t pa leaf s slot (x slot) ≡ true) → ((slot : Slot) → bias_cut t bias slot (x slot) ≡ true) → (slot : Slot) → base_domain t pa (leaf ++ bias) s slot (x slot) ≡ true
base_more t pa leaf bias s x h k = each_slot (λ slot. base_domain t pa (leaf ++ bias) s slot (x slot) ≡ true) (record {
  op_slot = let a = and_parts _ _ (h slots.Op) in and_from _ _ a.0 (tests_more t leaf bias vars.Op (x slots.Op) ∙ and_from _ _ a.1 (k slots.Op));
  rs1_slot = field_more t s leaf bias vars.Rs1 _ (x slots.Rs1) (h slots.Rs1) (k slots.Rs1);
  rs2_slot = field_more t s leaf bias vars.Rs2 _ (x slots.Rs2) (h slots.Rs2) (k slots.Rs2);
  imm_slot = field_more t s leaf bias vars.Imm _ (x slots.Imm) (h slots.Imm) (k slots.Imm);
  rd_slot = field_more t s leaf bias vars.Rd _ (x slots.Rd) (h slots.Rd) (k slots.Rd);
  csr_slot = field_more t s leaf bias vars.Csr _ (x slots.Csr) (h slots.Csr) (k slots.Csr);
  ea_slot = value_more t s leaf bias vars.Ea _ (x slots.Ea) (h slots.Ea) (k slots.Ea);
  a_slot = value_more t s leaf bias vars.A _ (x slots.A) (h slots.A) (k slots.A);
  b_slot = value_more t s leaf bias vars.B _ (x slots.B) (h slots.B) (k slots.B);
  first_slot = refl;
  second_slot = refl;
  data_slot = refl;
  old_slot = refl;
  vector_slot = refl;
})

-- what atoms say of several variables, with more atoms
hold_less : (t : Turn) (leaf bias : List Atom) (s : Shape) (x : Values) → all_judged s bias ≡ true → atoms_hold t (leaf ++ bias) s x ≡ true → (atoms_hold t leaf s x ≡ true) × (atoms_hold t bias s x ≡ true)
hold_less t leaf bias s x j h =
    let a = and_parts _ _ h in
    let r = and_parts _ _ (sym (relate_more s.op (value_at s t.fixed.pc 0 x) leaf bias) ∙ a.0) in
    let u = unless_more (uses s vars.Target) _ _ _ (tests_more t leaf bias vars.Target (target_at s.op t.fixed.pc x)) a.1 in
    (and_from _ _ r.0 u.0, and_from _ _ r.1 (unless_yes (uses s vars.Target) _ u.1))
  where
    unless_yes : (b test : Bool) → (b ≡ true → test ≡ true) → unless b test ≡ true
    unless_yes true test h = h refl
    unless_yes false test h = refl

hold_more : (t : Turn) (leaf bias : List Atom) (s : Shape) (x : Values) → atoms_hold t leaf s x ≡ true → atoms_hold t bias s x ≡ true → atoms_hold t (leaf ++ bias) s x ≡ true
hold_more t leaf bias s x h k =
    let a = and_parts _ _ h in
    let b = and_parts _ _ k in
    and_from _ _ (relate_more s.op (value_at s t.fixed.pc 0 x) leaf bias ∙ and_from _ _ a.0 b.0)
    (unless_both (uses s vars.Target) _ _ _ (tests_more t leaf bias vars.Target (target_at s.op t.fixed.pc x)) a.1 b.1)
  where
    unless_both : (b x y z : Bool) → z ≡ (x && y) → unless b x ≡ true → unless b y ≡ true → unless b z ≡ true
    unless_both true x y z e h k = e ∙ and_from x y h k
    unless_both false x y z e h k = refl

pub biases_are_atoms : BiasesAreAtoms
biases_are_atoms t walk pa leaf bias op way x = (
  λ f.
      let s : Shape = shape_of op way in
      let p = and_parts (may_fetch t walk pa) (all_judged s (leaf ++ bias) && all_tests t (leaf ++ bias) vars.Outcome way.outcome) f.posed in
      let q = and_parts (all_judged s (leaf ++ bias)) (all_tests t (leaf ++ bias) vars.Outcome way.outcome) p.1 in
      let j = and_parts _ _ (sym (judged_more s leaf bias) ∙ q.0) in
      let o = and_parts _ _ (sym (tests_more t leaf bias vars.Outcome way.outcome) ∙ q.1) in
      let h = and_parts (sources_hold t s x) (atoms_hold t (leaf ++ bias) s x && way.holds x) f.fits.holds in
      let h1 = and_parts (atoms_hold t (leaf ++ bias) s x) (way.holds x) h.1 in
      let a = hold_less t leaf bias s x j.1 h1.0 in
      let base = base_less t pa leaf bias s x j.1 (λ slot. (and_parts (base_domain t pa (leaf ++ bias) s slot (x slot)) (way.also slot (x slot)) (f.fits.each slot)).0) in (
        record {
          posed = and_from _ _ p.0 (and_from _ _ j.0 o.0);
          fits = record {
            op = f.fits.op;
            each = λ slot. and_from _ _ (base slot).0 (and_parts (base_domain t pa (leaf ++ bias) s slot (x slot)) (way.also slot (x slot)) (f.fits.each slot)).1;
            holds = and_from _ _ h.0 (and_from _ _ a.0 h1.1);
          };
        },
        record { stays = and_from _ _ j.1 o.1; cuts = λ slot. (base slot).1; holds = a.1 },
      ),
  λ both.
      let s : Shape = shape_of op way in
      let f = both.0 in
      let b = both.1 in
      let p = and_parts (may_fetch t walk pa) (all_judged s leaf && all_tests t leaf vars.Outcome way.outcome) f.posed in
      let q = and_parts (all_judged s leaf) (all_tests t leaf vars.Outcome way.outcome) p.1 in
      let st = and_parts (all_judged s bias) (all_tests t bias vars.Outcome way.outcome) b.stays in
      let h = and_parts (sources_hold t s x) (atoms_hold t leaf s x && way.holds x) f.fits.holds in
      let h1 = and_parts (atoms_hold t leaf s x) (way.holds x) h.1 in
      let base = base_more t pa leaf bias s x (λ slot. (and_parts (base_domain t pa leaf s slot (x slot)) (way.also slot (x slot)) (f.fits.each slot)).0) b.cuts in
      record {
        posed = and_from _ _ p.0 (and_from _ _ (judged_more s leaf bias ∙ and_from _ _ q.0 st.0) (tests_more t leaf bias vars.Outcome way.outcome ∙ and_from _ _ q.1 st.1));
        fits = record {
          op = f.fits.op;
          each = λ slot. and_from _ _ (base slot) (and_parts (base_domain t pa leaf s slot (x slot)) (way.also slot (x slot)) (f.fits.each slot)).1;
          holds = and_from _ _ h.0 (and_from _ _ (hold_more t leaf bias s x h1.0 b.holds) h1.1);
        };
      },
)
