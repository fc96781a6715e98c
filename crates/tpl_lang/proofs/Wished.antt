-- The atoms of a leaf, from the statement that says them.
use Rattle.std.proofs.Common.{◌≡◌, ℕ, ◌+◌, ◌%◌, ◌<◌, ◌≤◌, ◌&&◌, ◌||◌, Bool, true, false, cond, eqb, leb, ltb, List, [], ◌∷◌, map, length, refl, subst, arith}
use Rattle.std.specs.List.{AllByRecursion, list_all, list_any}
use Rattle.std.specs.Str.{bytes_eq}
use Rattle.std.proofs.lemmas.Bool.{eqb-true, leb-true, ltb-false, ltb-true}
use Rattle.std.proofs.lemmas.Bool.Decides.{nat_tests}
use Rattle.std.proofs.lemmas.List.{length-map}
use Rattle.std.proofs.lemmas.Slice.Eq.{bytes_eq-Decides}
use Rattle.dom_set.specs.Elements.{is_in, is_within}
use Rattle.dom_set.proofs.Sets.{Contains-elements, is_in_tests}
use Rattle.tpl_lang.specs.declared.phrase.OutcomeElement.{OutcomeElement}
use Rattle.tpl_lang.specs.declared.phrase.OutcomeElement.TheVariants.{Retire, Cause}
use Rattle.tpl_ast.specs.declared.template.Atom.{Atom}
use Rattle.tpl_ast.specs.declared.template.Atom.TheVariants as atoms
use Rattle.tpl_ast.specs.declared.template.NameDecl.{NameDecl}
use Rattle.tpl_ast.specs.declared.template.Var.{Var}
use Rattle.tpl_ast.specs.declared.template.Wish.{Wish}
use Rattle.tpl_lang.specs.Faults.{has_twice, is_large, is_name_among, is_no_fetch_cause, names_in, is_atom_unknown}
use Rattle.tpl_ast.specs.Leaves.{are_comparable, IsLeaf, IsNameBelow, IsPlain, NamedOnce, atoms_of, is_alone, is_leaf, is_name_below, is_named_in, is_named_once, is_plain, stands_alone}
use Rattle.tpl_lang.specs.Known.{Known, index_among, name_among}
use Rattle.tpl_lang.specs.Statements.{atom_of, wish_of}
use Rattle.tpl_lang.specs.Phrases.{AtomPhrase, Among, NotAmong, IsName, Same, Differ, Taken, NotTaken, Shared, WishPhrase}
use Rattle.tpl_lang.specs.Sets.{listed, number, outcome_number, points}
use Rattle.tpl_lang.specs.Grammar.{AreComparable, Rs1Rs2, Rs1Rd, Rs2Rs1, Rs2Rd, RdRs1, RdRs2, AB, IsAtom}
use Rattle.tpl_ast.specs.Templates.{is_fetch_outcome}
use Rattle.tpl_lang.proofs.Short.{both_true}
use Rattle.tpl_lang.proofs.Stacks.{and_true}
use Rattle.tpl_lang.proofs.Steps.{either_false, not_false, not_true}

-- ---- plain atoms

comparable_plain : {v u : Var} → AreComparable v u → are_comparable v u ≡ true
comparable_plain Rs1Rs2 = refl
comparable_plain Rs1Rd = refl
comparable_plain Rs2Rs1 = refl
comparable_plain Rs2Rd = refl
comparable_plain RdRs1 = refl
comparable_plain RdRs2 = refl
comparable_plain AB = refl

plain_atom : (k : Known) (a : AtomPhrase) → IsAtom a → is_plain (atom_of k a) ≡ true
plain_atom k (Same v u) is = comparable_plain is
plain_atom k (Differ v u) is = comparable_plain is
plain_atom k (Among v d) is = refl
plain_atom k (NotAmong v d) is = refl
plain_atom k (IsName v name) is = refl
plain_atom k Taken is = refl
plain_atom k NotTaken is = refl
plain_atom k Shared is = refl

all_plain : (k : Known) (ws : List WishPhrase) → AllByRecursion (λ w. IsAtom w.atom) ws → list_all is_plain (atoms_of (map (wish_of k) ws)) ≡ true
all_plain k [] h = refl
all_plain k (w ∷ ws) h = and_true _ _ (plain_atom k w.atom h.0) (all_plain k ws h.1)

-- ---- names

index_below : (ds : List NameDecl) (name : List ℕ) → name_among ds name ≡ true → index_among ds name < length ds
index_below [] name h = absurd (cc h)
index_below (d ∷ ds) name h = go (bytes_eq d.name name) h (index_below ds name) where
  go : (c : Bool) → c || name_among ds name ≡ true → (name_among ds name ≡ true → index_among ds name < length ds) → cond c 0 (index_among ds name + 1) < length (d ∷ ds)
  go true h rest = omega arith
  go false h rest = omega (arith, rest h)

-- names that are declared at one index are the same
index_apart : (ds : List NameDecl) (a b : List ℕ) → name_among ds a ≡ true → name_among ds b ≡ true → index_among ds a ≡ index_among ds b → bytes_eq a b ≡ true
index_apart [] a b h k same = absurd (cc h)
index_apart (d ∷ ds) a b h k same = go (bytes_eq d.name a) (bytes_eq d.name b) refl refl h k same (index_apart ds a b) where
  go : (c e : Bool) → bytes_eq d.name a ≡ c → bytes_eq d.name b ≡ e → c || name_among ds a ≡ true → e || name_among ds b ≡ true
      → cond c 0 (index_among ds a + 1) ≡ cond e 0 (index_among ds b + 1) → (name_among ds a ≡ true → name_among ds b ≡ true → index_among ds a ≡ index_among ds b → bytes_eq a b ≡ true) → bytes_eq a b ≡ true
  go true true one other h k same rest = subst (λ (x : List ℕ). bytes_eq x b ≡ true) ((bytes_eq-Decides d.name a).0 one) other
  go true false one other h k same rest = absurd (omega (arith, same))
  go false true one other h k same rest = absurd (omega (arith, same))
  go false false one other h k same rest = rest h k (omega (arith, same))

abbrev are_known : Known → List WishPhrase → Type 0
are_known k ws = list_any (λ w. is_atom_unknown k w.atom) ws ≡ false

below_atom : (k : Known) (a : AtomPhrase) → is_atom_unknown k a ≡ false → is_name_below (length k.names) (atom_of k a) ≡ true
below_atom k (IsName v name) h =
    let below : index_among k.names name < length k.names = index_below k.names name (not_false _ h) in
    grind (arith, nat_tests, below)
below_atom k (Same v u) h = refl
below_atom k (Differ v u) h = refl
below_atom k (Among v d) h = refl
below_atom k (NotAmong v d) h = refl
below_atom k Taken h = refl
below_atom k NotTaken h = refl
below_atom k Shared h = refl

pub all_below : (k : Known) (ws : List WishPhrase) → are_known k ws → list_all (is_name_below (length k.names)) (atoms_of (map (wish_of k) ws)) ≡ true
all_below k [] h = refl
all_below k (w ∷ ws) h =
    let a = either_false (is_atom_unknown k w.atom) _ h in
    and_true _ _ (below_atom k w.atom a.0) (all_below k ws a.1)

head_apart : (k : Known) (other name : List ℕ) → name_among k.names other ≡ true → name_among k.names name ≡ true → bytes_eq other name ≡ false → eqb (index_among k.names other) (index_among k.names name) ≡ false
head_apart k other name h there differ = go (eqb (index_among k.names other) (index_among k.names name)) refl where
  go : (c : Bool) → eqb (index_among k.names other) (index_among k.names name) ≡ c → c ≡ false
  go true e = absurd (let same = index_apart k.names other name h there (eqb-true _ _ e) in cc (same, differ))
  go false e = refl

-- a name that no other atom has is at no other atom's index
not_named : (k : Known) (name : List ℕ) → name_among k.names name ≡ true → (ws : List WishPhrase) → are_known k ws → is_name_among (names_in ws) name ≡ false
    → is_named_in (index_among k.names name) (atoms_of (map (wish_of k) ws)) ≡ false
not_named k name there [] h once = refl
not_named k name there (w ∷ ws) h once = go (w.atom) refl (not_named k name there ws) where
  known : (is_atom_unknown k w.atom ≡ false) × are_known k ws
  known = either_false (is_atom_unknown k w.atom) _ h

  go : (a : AtomPhrase) → w.atom ≡ a → (are_known k ws → is_name_among (names_in ws) name ≡ false → is_named_in (index_among k.names name) (atoms_of (map (wish_of k) ws)) ≡ false)
      → is_named_in (index_among k.names name) (atom_of k w.atom ∷ atoms_of (map (wish_of k) ws)) ≡ false
  go (IsName v other) is rest =
      let b = either_false (bytes_eq other name) _ (rw is at once) in
      let told : name_among k.names other ≡ true = not_false _ (rw is at known.0) in
      rw (is, head_apart k other name told there b.0) (rest known.1 b.1)
  go (Same v u) is rest = rw is (rest known.1 (rw is at once))
  go (Differ v u) is rest = rw is (rest known.1 (rw is at once))
  go (Among v d) is rest = rw is (rest known.1 (rw is at once))
  go (NotAmong v d) is rest = rw is (rest known.1 (rw is at once))
  go Taken is rest = rw is (rest known.1 (rw is at once))
  go NotTaken is rest = rw is (rest known.1 (rw is at once))
  go Shared is rest = rw is (rest known.1 (rw is at once))

all_once : (k : Known) (ws : List WishPhrase) → are_known k ws → has_twice (names_in ws) ≡ false → is_named_once (atoms_of (map (wish_of k) ws)) ≡ true
all_once k [] h once = refl
all_once k (w ∷ ws) h once = go (w.atom) refl (all_once k ws) where
  known : (is_atom_unknown k w.atom ≡ false) × are_known k ws
  known = either_false (is_atom_unknown k w.atom) _ h

  go : (a : AtomPhrase) → w.atom ≡ a → (are_known k ws → has_twice (names_in ws) ≡ false → is_named_once (atoms_of (map (wish_of k) ws)) ≡ true)
      → is_alone (atom_of k w.atom) (atoms_of (map (wish_of k) ws)) && is_named_once (atoms_of (map (wish_of k) ws)) ≡ true
  go (IsName v name) is rest =
      let b = either_false (is_name_among (names_in ws) name) _ (rw is at once) in
      let there : name_among k.names name ≡ true = not_false _ (rw is at known.0) in
      rw (is, not_named k name there ws known.1 b.0) (rest known.1 b.1)
  go (Same v u) is rest = rw is (rest known.1 (rw is at once))
  go (Differ v u) is rest = rw is (rest known.1 (rw is at once))
  go (Among v d) is rest = rw is (rest known.1 (rw is at once))
  go (NotAmong v d) is rest = rw is (rest known.1 (rw is at once))
  go Taken is rest = rw is (rest known.1 (rw is at once))
  go NotTaken is rest = rw is (rest known.1 (rw is at once))
  go Shared is rest = rw is (rest known.1 (rw is at once))

pub leaf_fits : (k : Known) (ws : List WishPhrase) → AllByRecursion (λ w. IsAtom w.atom) ws → are_known k ws → has_twice (names_in ws) ≡ false → ltb 32 (length ws) ≡ false → is_leaf (length k.names) (map (wish_of k) ws) ≡ true
leaf_fits k ws atoms known once few =
    let size : length (map (wish_of k) ws) ≡ length ws = length-map ws (wish_of k) in
    let most : length (map (wish_of k) ws) ≤ 32 = omega (arith, size, ltb-false 32 (length ws) few) in
    let short : leb (length (map (wish_of k) ws)) 32 ≡ true = grind (arith, nat_tests, most) in
    rw (short, all_plain k ws atoms, all_below k ws known) (all_once k ws known once)

-- ---- with more names

below_more : (n m : ℕ) → n ≤ m → (a : Atom) → is_name_below n a ≡ true → is_name_below m a ≡ true
below_more n m le (atoms.Is v name) h = let low : name < m = omega (arith, le, ltb-true name n h) in grind (arith, nat_tests, low)
below_more n m le (atoms.Same v u) h = refl
below_more n m le (atoms.Differ v u) h = refl
below_more n m le (atoms.In v s) h = refl
below_more n m le (atoms.NotIn v s) h = refl
below_more n m le atoms.Taken h = refl
below_more n m le atoms.NotTaken h = refl
below_more n m le atoms.Shared h = refl

all_below_more : (n m : ℕ) → n ≤ m → (leaf : List Atom) → list_all (is_name_below n) leaf ≡ true → list_all (is_name_below m) leaf ≡ true
all_below_more n m le [] h = refl
all_below_more n m le (a ∷ leaf) h = let x = both_true (is_name_below n a) _ h in and_true _ _ (below_more n m le a x.0) (all_below_more n m le leaf x.1)

pub leaf_more : (n m : ℕ) → n ≤ m → (ws : List Wish) → is_leaf n ws ≡ true → is_leaf m ws ≡ true
leaf_more n m le ws h =
    let a = both_true (leb (length ws) 32) _ h in
    let b = both_true (list_all is_plain (atoms_of ws)) _ a.1 in
    let c = both_true (list_all (is_name_below n) (atoms_of ws)) _ b.1 in
    rw (a.0, b.0, all_below_more n m le (atoms_of ws) c.0) c.1

-- ---- outcomes of fetches

all_by : (p : ℕ → Bool) (xs : List ℕ) → ((x : ℕ) → is_in xs x ≡ true → p x ≡ true) → list_all p xs ≡ true
all_by p [] h = refl
all_by p (x ∷ xs) h =
    let itself : eqb x x ≡ true = grind (arith, nat_tests) in
    and_true _ _ (h x (rw itself refl)) (all_by p xs (λ y is. h y (either (eqb x y) (is_in xs y) is)))
  where
    either : (a b : Bool) → b ≡ true → a || b ≡ true
    either true b is = refl
    either false b is = is

cause_known : (o : OutcomeElement) → is_no_fetch_cause o ≡ false → is_fetch_outcome (outcome_number o) ≡ true
cause_known Retire h = refl
cause_known (Cause n) h = go (eqb (number n) 1) (eqb (number n) 12) (not_false _ (either_false (is_large n) _ h).1) where
  go : (c d : Bool) → c || d ≡ true → c || (d || eqb (number n) 255) ≡ true
  go true d e = refl
  go false true e = refl
  go false false e = absurd (cc e)

point_known : (os : List OutcomeElement) (x : ℕ) → list_any is_no_fetch_cause os ≡ false → is_within (points (map outcome_number os)) x ≡ true → is_fetch_outcome x ≡ true
point_known [] x h is = absurd (cc is)
point_known (o ∷ os) x h is = go (leb (outcome_number o) x) (leb x (outcome_number o)) refl refl is (point_known os x) where
  known : (is_no_fetch_cause o ≡ false) × (list_any is_no_fetch_cause os ≡ false)
  known = either_false (is_no_fetch_cause o) _ h

  go : (c d : Bool) → leb (outcome_number o) x ≡ c → leb x (outcome_number o) ≡ d → (c && d) || is_within (points (map outcome_number os)) x ≡ true → (list_any is_no_fetch_cause os ≡ false → is_within (points (map outcome_number os)) x ≡ true → is_fetch_outcome x ≡ true) → is_fetch_outcome x ≡ true
  go true true low high e rest = let same : outcome_number o ≡ x = omega (arith, leb-true (outcome_number o) x low, leb-true x (outcome_number o) high) in subst (λ (y : ℕ). is_fetch_outcome y ≡ true) same (cause_known o known.0)
  go true false low high e rest = rest known.1 e
  go false d low high e rest = rest known.1 e

pub causes_fit : (os : List OutcomeElement) → list_any is_no_fetch_cause os ≡ false → list_all is_fetch_outcome (listed (points (map outcome_number os)) 1) ≡ true
causes_fit os h = all_by is_fetch_outcome (listed (points (map outcome_number os)) 1) (λ x is.
    let test : ℕ → Bool = λ y. eqb (y % 1) 0 && is_within (points (map outcome_number os)) y in
    point_known os x h (both_true (eqb (x % 1) 0) _ ((Contains-elements test x).0 ((is_in_tests (listed (points (map outcome_number os)) 1) x).0 is)).1).1)

-- ---- what the test of a leaf says

plain_told : (a : Atom) → is_plain a ≡ true → IsPlain a
plain_told (atoms.Same v u) h = h
plain_told (atoms.Differ v u) h = h
plain_told (atoms.In v s) h = tt
plain_told (atoms.NotIn v s) h = tt
plain_told (atoms.Is v name) h = tt
plain_told atoms.Taken h = tt
plain_told atoms.NotTaken h = tt
plain_told atoms.Shared h = tt

below_told : (n : ℕ) (a : Atom) → is_name_below n a ≡ true → IsNameBelow n a
below_told n (atoms.Is v name) h = ltb-true name n h
below_told n (atoms.Same v u) h = tt
below_told n (atoms.Differ v u) h = tt
below_told n (atoms.In v s) h = tt
below_told n (atoms.NotIn v s) h = tt
below_told n atoms.Taken h = tt
below_told n atoms.NotTaken h = tt
below_told n atoms.Shared h = tt

alone_told : (a : Atom) (leaf : List Atom) → is_alone a leaf ≡ true → stands_alone a leaf
alone_told (atoms.Is v name) leaf h = not_true _ h
alone_told (atoms.Same v u) leaf h = tt
alone_told (atoms.Differ v u) leaf h = tt
alone_told (atoms.In v s) leaf h = tt
alone_told (atoms.NotIn v s) leaf h = tt
alone_told atoms.Taken leaf h = tt
alone_told atoms.NotTaken leaf h = tt
alone_told atoms.Shared leaf h = tt

once_told : (leaf : List Atom) → is_named_once leaf ≡ true → NamedOnce leaf
once_told [] h = tt
once_told (a ∷ leaf) h = let x = both_true (is_alone a leaf) _ h in (alone_told a leaf x.0, once_told leaf x.1)

all_told : {A : Type 0} (p : A → Bool) (P : A → Type 0) → ((x : A) → p x ≡ true → P x) → (xs : List A) → list_all p xs ≡ true → AllByRecursion P xs
all_told p P f [] h = tt
all_told p P f (x ∷ xs) h = let a = both_true (p x) _ h in (f x a.0, all_told p P f xs a.1)

pub leaf_told : (n : ℕ) (ws : List Wish) → is_leaf n ws ≡ true → IsLeaf n (atoms_of ws)
leaf_told n ws h =
    let a = both_true (leb (length ws) 32) _ h in
    let b = both_true (list_all is_plain (atoms_of ws)) _ a.1 in
    let c = both_true (list_all (is_name_below n) (atoms_of ws)) _ b.1 in
    record {
      most = omega (arith, length-map ws (λ (w : Wish). w.atom), leb-true (length ws) 32 a.0);
      plain = all_told is_plain IsPlain plain_told (atoms_of ws) b.0;
      names = all_told (is_name_below n) (IsNameBelow n) (below_told n) (atoms_of ws) c.0;
      once = once_told (atoms_of ws) c.1;
    }
