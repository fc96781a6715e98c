-- The names of a whole leaf.
use Rattle.std.proofs.Common.{◌≡◌, ℕ, if◌then◌else◌, ◌||◌, Bool, true, false, eqb, List, [], ◌∷◌, Option, Some, None, refl, sym, ap, ◌∙◌, subst, inl, inr}
use Rattle.std.proofs.lemmas.Bool.{cases_Bool, and_parts, eq-eqb, eqb-true}
use Rattle.rv_script.specs.Lists.{HasItem}
use Rattle.tpl_ast.specs.declared.template.Atom.{Atom}
use Rattle.tpl_ast.specs.declared.template.Atom.TheVariants as atoms
use Rattle.tpl_ast.specs.declared.template.Var.{Var}
use Rattle.tpl_admit.specs.Variables.{Moment, value_of}
use Rattle.rv_script.specs.Logs.{or_else}
use Rattle.leaf_link.specs.Turns.{Turn}
use Rattle.leaf_link.specs.Candidates.{all_met, is_met, moment_of}
use Rattle.leaf_link.specs.Admitted.{BindsName}
use Rattle.tpl_ast.specs.Leaves.{NamedOnce, is_named_in, names_it, stands_alone}
use Rattle.leaf_link.specs.Naming.{LeavesAreTrue, bound_by}
use Rattle.leaf_link.proofs.Admitting.{met_are_true}

met_one : (t : Turn) (m : Moment) (leaf : List Atom) (atom : Atom) → all_met t m leaf ≡ true → HasItem leaf atom → is_met t m atom ≡ true
met_one t m [] atom h i = absurd i
met_one t m (x ∷ leaf) atom h i = let a = and_parts (is_met t m x) (all_met t m leaf) h in elim i [ inl q ↦ ap (is_met t m) (sym q) ∙ a.0 | inr j ↦ met_one t m leaf atom a.1 j ]

-- a bound name keeps its value
keeps : (names : ℕ → Option ℕ) (m : Moment) (leaf : List Atom) (name v : ℕ) → names name ≡ Some v → bound_by names m leaf name ≡ Some v
keeps names m [] name v h = h
keeps names m (atoms.Is u other ∷ leaf) name v h = elim (cases_Bool (eqb other name)) [
  | inl same ↦ ap (λ (b : Bool). if b then or_else (names other) (value_of u m) else bound_by names m leaf name) same ∙ ap (λ (o : Option ℕ). or_else o (value_of u m)) (ap names (eqb-true other name same) ∙ h)
  | inr apart ↦ ap (λ (b : Bool). if b then or_else (names other) (value_of u m) else bound_by names m leaf name) apart ∙ keeps names m leaf name v h
]
keeps names m (atoms.In u set ∷ leaf) name v h = keeps names m leaf name v h
keeps names m (atoms.NotIn u set ∷ leaf) name v h = keeps names m leaf name v h
keeps names m (atoms.Same u w ∷ leaf) name v h = keeps names m leaf name v h
keeps names m (atoms.Differ u w ∷ leaf) name v h = keeps names m leaf name v h
keeps names m (atoms.Taken ∷ leaf) name v h = keeps names m leaf name v h
keeps names m (atoms.NotTaken ∷ leaf) name v h = keeps names m leaf name v h
keeps names m (atoms.Shared ∷ leaf) name v h = keeps names m leaf name v h

stands_in : (leaf : List Atom) (u : Var) (name : ℕ) → HasItem leaf (atoms.Is u name) → is_named_in name leaf ≡ true
stands_in [] u name i = absurd i
stands_in (x ∷ leaf) u name i = elim i [
  | inl q ↦ ap (λ (b : Bool). b || is_named_in name leaf) (ap (names_it name) q ∙ eq-eqb name name refl)
  | inr j ↦ ap (λ (b : Bool). names_it name x || b) (stands_in leaf u name j) ∙ last (names_it name x)
]
  where
    last : (b : Bool) → (b || true) ≡ true
    last true = refl
    last false = refl

-- the name of an atom of the leaf that was not bound has the value of the atom's variable
binds : (names : ℕ → Option ℕ) (m : Moment) (leaf : List Atom) (u : Var) (name : ℕ) → NamedOnce leaf → HasItem leaf (atoms.Is u name) → names name ≡ None → bound_by names m leaf name ≡ value_of u m
binds names m [] u name once i none = absurd i
binds names m (x ∷ leaf) u name once i none = elim i [
  | inl q ↦ subst (λ (a : Atom). bound_by names m (a ∷ leaf) name ≡ value_of u m) (sym q)
      (ap (λ (b : Bool). if b then or_else (names name) (value_of u m) else bound_by names m leaf name) (eq-eqb name name refl) ∙ ap (λ (o : Option ℕ). or_else o (value_of u m)) none)
  | inr j ↦ past x once.0 (stands_in leaf u name j) ∙ binds names m leaf u name once.1 j none
]
  where
    past : (x : Atom) → stands_alone x leaf → is_named_in name leaf ≡ true → bound_by names m (x ∷ leaf) name ≡ bound_by names m leaf name
    past (atoms.Is w other) alone here = elim (cases_Bool (eqb other name)) [
      | inl same ↦ let z : is_named_in name leaf ≡ false = subst (λ (n : ℕ). is_named_in n leaf ≡ false) (eqb-true other name same) alone in absurd (cc)
      | inr apart ↦ ap (λ (b : Bool). if b then or_else (names other) (value_of w m) else bound_by names m leaf name) apart
    ]
    past (atoms.In w set) alone here = refl
    past (atoms.NotIn w set) alone here = refl
    past (atoms.Same w y) alone here = refl
    past (atoms.Differ w y) alone here = refl
    past atoms.Taken alone here = refl
    past atoms.NotTaken alone here = refl
    past atoms.Shared alone here = refl

pub leaves_are_true : LeavesAreTrue
leaves_are_true t leaf new once w atom i =
    let m : Moment = moment_of t w.log w.change in
    met_are_true t m (bound_by t.names m leaf) (keeps t.names m leaf) atom (own atom i) (met_one t m leaf atom w.is.meets.atoms i)
  where
    own : (atom : Atom) → HasItem leaf atom → BindsName t (bound_by t.names (moment_of t w.log w.change) leaf) (moment_of t w.log w.change) atom
    own (atoms.Is u name) i = λ none. binds t.names (moment_of t w.log w.change) leaf u name once i none
    own (atoms.In u set) i = tt
    own (atoms.NotIn u set) i = tt
    own (atoms.Same u y) i = tt
    own (atoms.Differ u y) i = tt
    own atoms.Taken i = tt
    own atoms.NotTaken i = tt
    own atoms.Shared i = tt
