-- Cases that come to others, in step with those of the definition.
use Rattle.std.proofs.Common.{◌≡◌, ℕ, ◌+◌, ◌<◌, ◌≤◌, Bool, true, false, ◌&&◌, ◌||◌, List, [], ◌∷◌, ◌++◌, refl, sym, ap, ◌∙◌, subst, arith, inl, inr, append_assoc, drop, get_or, length, suc}
use Rattle.std.specs.Prelude.{if◌then◌else◌}
use Rattle.std.specs.List.{list_all, list_any}
use Rattle.rv_script.specs.Lists.{HasItem}
use Rattle.std.proofs.Math.Seq.{drop-cons}
use Rattle.std.proofs.lemmas.Bool.{and_from, and_parts}
use Rattle.std.proofs.lemmas.List.{append-nil, drop_all}
use Rattle.rv_isa.specs.declared.operation.Op.{Op}
use Rattle.tpl_ast.specs.declared.template.Atom.{Atom}
use Rattle.fd_prob.specs.declared.problem.Assignment.{Assignment}
use Rattle.fd_prob.specs.declared.problem.Case.{Case as ACase}
use Rattle.fd_prob.specs.declared.relation.Rel.{Rel}
use Rattle.fd_prob.specs.declared.relation.Rel.TheVariants.{Rows}
use Rattle.fd_prob.specs.declared.slot.Slot.{Slot}
use Rattle.fd_prob.specs.Fitting.{IsCase, fits_case}
use Rattle.fd_prob.specs.Relations.{holds}
use Rattle.rv_isa.specs.Numbers.{op_numbered, op_number}
use Rattle.leaf_link.specs.Values.{Values}
use Rattle.leaf_link.specs.Cases.{Case, Fits, FitsCase, Shape as AShape, Way as AWay, atoms_hold, base_domain, case_at, case_if, shape_of, sources_hold}
use Rattle.leaf_link.specs.Answers.{values_in}
use Rattle.leaf_stand.specs.declared.shape.Shape.{Shape}
use Rattle.leaf_pose.specs.declared.shaped.Shaped.{Shaped}
use Rattle.leaf_stand.specs.declared.stand.Stand.{Stand}
use Rattle.leaf_stand.specs.declared.way.Way.{Way}
use Rattle.leaf_pose.specs.Posed.{Adds, AreShaped, FitsMore, HasFitted, IsAllowedCase, IsShaped}
use Rattle.leaf_stand.specs.Posed.{FitsSame, IsPartOf, all_cases, allows, data_ways, is_data, is_posed_at, stand_cases, stand_ways, ways_at}
use Rattle.leaf_stand.specs.Kinds.{kind_of}
use Rattle.leaf_stand.specs.Relations.{way_at}
use Rattle.leaf_stand.specs.Stands.{shape_at, turn_of}
use Rattle.leaf_stand.specs.Internal.Ways.{AreWaysOf, IsWayOf, shape_with, way_case, way_cases}
use Rattle.leaf_pose.proofs.Shapes.{pushed}
use Rattle.leaf_link.proofs.Numbers.{same_op}
use Rattle.leaf_stand.proofs.Single.{relations_of}
use Rattle.leaf_stand.proofs.Fits.{both_lists, fits_either, fits_left, fits_right, none_yet}

-- MORE CASES
-- one more case
pub one_more : (old new : List ACase) (c : ACase) (ds : List Case) → new ≡ old ++ c ∷ [] → FitsSame (c ∷ []) ds → FitsMore old new ds
one_more old new c ds e h es k = subst (λ (l : List ACase). FitsSame l (es ++ ds)) (sym e) (both_lists old (c ∷ []) es ds k h)

-- nothing more
pub no_more : (old : List ACase) (ds : List Case) → FitsSame [] ds → FitsMore old old ds
no_more old ds h es k = subst (λ (l : List ACase). FitsSame l (es ++ ds)) (append-nil old) (both_lists old [] es ds k h)

pub then_more : (a b c : List ACase) (ds es : List Case) → FitsMore a b ds → FitsMore b c es → FitsMore a c (ds ++ es)
then_more a b c ds es h k gs j = subst (λ (l : List Case). FitsSame c l) (append_assoc gs ds es) (k (gs ++ ds) (h gs j))

-- the same assignments fit other cases of the definition
pub same_more : (old new : List ACase) (ds es : List Case) → ((x : Values) → Fits ds x → Fits es x) → ((x : Values) → Fits es x → Fits ds x) → FitsMore old new ds → FitsMore old new es
same_more old new ds es there back h gs k x hx =
    (λ y. over ds es there gs (values_in x) ((h gs k x hx).0 y), λ f. (h gs k x hx).1 (over es ds back gs (values_in x) f))
  where
    over : (ps qs : List Case) → ((y : Values) → Fits ps y → Fits qs y) → (bs : List Case) (z : Values) → Fits (bs ++ ps) z → Fits (bs ++ qs) z
    over ps qs go bs z f = elim (fits_either bs ps z f) [
      | inl g ↦ fits_left bs qs z g
      | inr g ↦ fits_right bs qs z (go z g)
    ]

-- WHAT COMES TO CASES
pub nothing_added : (s : Stand) (leaf : List Atom) (old : Shaped) (ds : List Case) → FitsSame [] ds → Adds s leaf old old ds
nothing_added s leaf old ds h = record {
  shape = λ all. all;
  shaped = λ all. all;
  allowed = λ all. all;
  fits = no_more old.cases ds h;
  rest = [];
  behind = sym (append-nil old.cases);
}

pub then_adds : (s : Stand) (leaf : List Atom) (a b c : Shaped) (ds es : List Case) → Adds s leaf a b ds → Adds s leaf b c es → Adds s leaf a c (ds ++ es)
then_adds s leaf a b c ds es h k = record {
  shape = λ all. k.shape (h.shape all);
  shaped = λ all. k.shaped (h.shaped all);
  allowed = λ all. k.allowed (h.allowed all);
  fits = then_more a.cases b.cases c.cases ds es h.fits k.fits;
  rest = h.rest ++ k.rest;
  behind = k.behind ∙ ap (λ (l : List ACase). l ++ k.rest) h.behind ∙ append_assoc a.cases h.rest k.rest;
}

pub same_adds : (s : Stand) (leaf : List Atom) (a b : Shaped) (ds es : List Case) → ((x : Values) → Fits ds x → Fits es x) → ((x : Values) → Fits es x → Fits ds x) → Adds s leaf a b ds → Adds s leaf a b es
same_adds s leaf a b ds es there back h = record {
  shape = h.shape;
  shaped = h.shaped;
  allowed = h.allowed;
  fits = same_more a.cases b.cases ds es there back h.fits;
  rest = h.rest;
  behind = h.behind;
}

more_shaped : (s : Stand) (leaf : List Atom) (shapes : List Shape) (cs : List ACase) (shape : Shape) (c : ACase) → IsShaped s leaf shape c → AreShaped s leaf shapes cs → AreShaped s leaf (shapes ++ shape ∷ []) (cs ++ c ∷ [])
more_shaped s leaf [] [] shape c h a = (h, record {})
more_shaped s leaf (y ∷ shapes) (d ∷ cs) shape c h a = (a.0, more_shaped s leaf shapes cs shape c h a.1)
more_shaped s leaf [] (d ∷ cs) shape c h a = absurd a
more_shaped s leaf (y ∷ shapes) [] shape c h a = absurd a

pub one_added : (s : Stand) (leaf : List Atom) (old new : Shaped) (c : ACase) (shape : Shape) (ds : List Case) → new.cases ≡ old.cases ++ c ∷ [] → new.shapes ≡ old.shapes ++ shape ∷ []
    → IsCase c → IsShaped s leaf shape c → IsAllowedCase s leaf c → FitsSame (c ∷ []) ds → Adds s leaf old new ds
one_added s leaf old new c shape ds e r is shaped allowed fits = record {
  shape = pushed IsCase old.cases new.cases c e is;
  shaped = λ all. subst (λ (l : List Shape). AreShaped s leaf l new.cases) (sym r) (subst (λ (l : List ACase). AreShaped s leaf (old.shapes ++ shape ∷ []) l) (sym e) (more_shaped s leaf old.shapes old.cases shape c shaped all));
  allowed = pushed (IsAllowedCase s leaf) old.cases new.cases c e allowed;
  fits = one_more old.cases new.cases c ds e fits;
  rest = c ∷ [];
  behind = e;
}

-- A CASE OF A WAY
abbrev shape_at_with : Op → ℕ → Bool → AShape
shape_at_with op outcome reaches = record { op = op; outcome = outcome; reaches = reaches }

or_none : (a : Bool) → (a || false) ≡ true → a ≡ true
or_none true h = refl
or_none false h = h

fits_one : (x : Assignment) (c : ACase) → fits_case x c ≡ true → list_any (fits_case x) (c ∷ []) ≡ true
fits_one x c h = ap (λ (b : Bool). b || false) h

part_fits : (s : Stand) (leaf : List Atom) (op : Op) (way : Way) (x : Values) (h : IsPartOf s op way) → FitsCase (case_at (turn_of s) 0 leaf op (way_at s op way)) x → FitsCase (case_at (turn_of s) 0 leaf op h.whole) x
part_fits s leaf op way x h f =
    let t = turn_of s in
    let sh : AShape = shape_of op (way_at s op way) in
    let e : shape_of op h.whole ≡ sh = shapes_same op h.whole.outcome (way_at s op way).outcome h.whole.reaches false h.outcome h.reaches in
    let parts = and_parts (sources_hold t sh x) (atoms_hold t leaf sh x && (way_at s op way).holds x) f.holds in
    let more = and_parts (atoms_hold t leaf sh x) ((way_at s op way).holds x) parts.1 in
    record {
      op = f.op;
      each = λ slot. and_from _ _ (ap (λ (a : AShape). base_domain t 0 leaf a slot (x slot)) e ∙ (domain_parts slot).0) (h.also slot (x slot) (domain_parts slot).1);
      holds = and_from _ _ (ap (λ (a : AShape). sources_hold t a x) e ∙ parts.0) (and_from _ _ (ap (λ (a : AShape). atoms_hold t leaf a x) e ∙ more.0) (h.holds x (λ slot. (domain_parts slot).1) more.1));
    }
  where
    shapes_same : (o : Op) (m n : ℕ) (b d : Bool) → m ≡ n → b ≡ d → shape_at_with o m b ≡ shape_at_with o n d
    shapes_same o m n b d p q = ap (λ (k : ℕ). shape_at_with o k b) p ∙ ap (λ (k : Bool). shape_at_with o n k) q

    domain_parts : (slot : Slot) → (base_domain (turn_of s) 0 leaf (shape_of op (way_at s op way)) slot (x slot) ≡ true) × ((way_at s op way).also slot (x slot) ≡ true)
    domain_parts slot = and_parts (base_domain (turn_of s) 0 leaf (shape_of op (way_at s op way)) slot (x slot)) ((way_at s op way).also slot (x slot)) (f.each slot)

pub plain_ways : (s : Stand) (leaf : List Atom) (op : Op) → is_data (kind_of op) ≡ false → ways_at s leaf op ≡ stand_ways s op
plain_ways s leaf op n = ap (λ (b : Bool). if b then data_ways s leaf op s.accesses else stand_ways s op) n

pub way_shaped : (s : Stand) (leaf : List Atom) (op : Op) (way : Way) (c : ACase) → is_data (kind_of op) ≡ false → IsPartOf s op way → is_posed_at s leaf (shape_at (shape_with op way.end)) ≡ true
    → FitsSame (c ∷ []) (case_at (turn_of s) 0 leaf op (way_at s op way) ∷ []) → IsShaped s leaf (shape_with op way.end) c
way_shaped s leaf op way c built h posed same x hx k = go ((same x hx).0 (fits_one x c k))
  where
    go : Fits (case_at (turn_of s) 0 leaf op (way_at s op way) ∷ []) (values_in x) → HasFitted s leaf (shape_with op way.end) (values_in x)
    go (inl f) = record { whole = h.whole; is = subst (λ (l : List AWay). HasItem l h.whole) (sym (plain_ways s leaf op built)) h.is; outcome = h.outcome; reaches = h.reaches; inner = λ n. refl; posed = posed; fits = part_fits s leaf op way (values_in x) h f }
    go (inr f) = absurd f

pub allowed_case : (s : Stand) (leaf : List Atom) (op : Op) (c : ACase) → c.op ≡ op_number op → allows s leaf op ≡ true → IsAllowedCase s leaf c
allowed_case s leaf op c e h other k = ap (λ (o : Op). allows s leaf o) (same_op other op (k ∙ e)) ∙ h

pub posed_fits : (s : Stand) (leaf : List Atom) (op : Op) (way : Way) (c : ACase) → is_posed_at s leaf (shape_at (shape_with op way.end)) ≡ true
    → FitsSame (c ∷ []) (case_at (turn_of s) 0 leaf op (way_at s op way) ∷ []) → FitsSame (c ∷ []) (way_case s leaf op way)
posed_fits s leaf op way c p h = subst (λ (b : Bool). FitsSame (c ∷ []) (case_if b (case_at (turn_of s) 0 leaf op (way_at s op way)) [])) (sym p) h

pub unposed_fits : (s : Stand) (leaf : List Atom) (op : Op) (way : Way) → is_posed_at s leaf (shape_at (shape_with op way.end)) ≡ false → FitsSame [] (way_case s leaf op way)
unposed_fits s leaf op way p = subst (λ (b : Bool). FitsSame [] (case_if b (case_at (turn_of s) 0 leaf op (way_at s op way)) [])) (sym p) none_yet

-- ALL WAYS OF AN OPERATION
pub next_way : (s : Stand) (leaf : List Atom) (op : Op) (ways : List Way) (i : ℕ) (d : Way) (a b end : Shaped) → i < length ways → Adds s leaf a b (way_case s leaf op (get_or ways i d))
    → Adds s leaf b end (way_cases s leaf op (drop (i + 1) ways)) → Adds s leaf a end (way_cases s leaf op (drop i ways))
next_way s leaf op ways i d a b end lt step rest =
    let n : i + 1 ≡ suc i = omega arith in
    let e : drop i ways ≡ get_or ways i d ∷ drop (i + 1) ways = drop-cons ways i d lt ∙ ap (λ (m : ℕ). get_or ways i d ∷ drop m ways) (sym n) in
    subst (λ (l : List Way). Adds s leaf a end (way_cases s leaf op l)) (sym e) (then_adds s leaf a b end (way_case s leaf op (get_or ways i d)) (way_cases s leaf op (drop (i + 1) ways)) step rest)

pub no_ways : (s : Stand) (leaf : List Atom) (op : Op) (ways : List Way) (i : ℕ) (a : Shaped) → length ways ≤ i → Adds s leaf a a (way_cases s leaf op (drop i ways))
no_ways s leaf op ways i a le = subst (λ (l : List Way). Adds s leaf a a (way_cases s leaf op l)) (sym (drop_all i ways le)) (nothing_added s leaf a [] none_yet)

pub way_here : (s : Stand) (op : Op) (ways : List Way) (i : ℕ) (d : Way) → i < length ways → AreWaysOf s op ways → IsWayOf s op (get_or ways i d)
way_here s op [] i d lt h = absurd (omega (arith, lt))
way_here s op (way ∷ ways) Rattle.std.proofs.Common.zero d lt h = h.0
way_here s op (way ∷ ways) (suc i) d lt h = way_here s op ways i d (omega (arith, lt)) h.1

-- ALL OPERATIONS
pub next_operation : (s : Stand) (leaf : List Atom) (ops : List Op) (i : ℕ) (d : Op) (a b end : Shaped) → i < length ops → Adds s leaf a b (stand_cases s leaf (get_or ops i d) (ways_at s leaf (get_or ops i d)))
    → Adds s leaf b end (all_cases s leaf (drop (i + 1) ops)) → Adds s leaf a end (all_cases s leaf (drop i ops))
next_operation s leaf ops i d a b end lt step rest =
    let n : i + 1 ≡ suc i = omega arith in
    let e : drop i ops ≡ get_or ops i d ∷ drop (i + 1) ops = drop-cons ops i d lt ∙ ap (λ (m : ℕ). get_or ops i d ∷ drop m ops) (sym n) in
    subst (λ (l : List Op). Adds s leaf a end (all_cases s leaf l)) (sym e) (then_adds s leaf a b end (stand_cases s leaf (get_or ops i d) (ways_at s leaf (get_or ops i d))) (all_cases s leaf (drop (i + 1) ops)) step rest)

pub no_operations : (s : Stand) (leaf : List Atom) (ops : List Op) (i : ℕ) (a : Shaped) → length ops ≤ i → Adds s leaf a a (all_cases s leaf (drop i ops))
no_operations s leaf ops i a le = subst (λ (l : List Op). Adds s leaf a a (all_cases s leaf l)) (sym (drop_all i ops le)) (nothing_added s leaf a [] none_yet)

-- A CASE THAT NOTHING FITS
pub nothing_fits : (c : ACase) → c.rels ≡ Rows [] ∷ [] → (x : Assignment) → fits_case x c ≡ true → ⊥
nothing_fits c e x h = let r : list_all (holds (op_numbered c.op) x) (Rows [] ∷ []) ≡ true = ap (λ (l : List Rel). list_all (holds (op_numbered c.op) x) l) (sym e) ∙ relations_of x c h in absurd (cc r)

pub none_fits : (c : ACase) → ((x : Assignment) → fits_case x c ≡ true → ⊥) → FitsSame (c ∷ []) []
none_fits c n x hx = (λ h. n x (or_none (fits_case x c) h), λ f. absurd f)

-- a test that passes on a list passes at each place
pub test_here : {A : Type 0} (test : A → Bool) (xs : List A) (i : ℕ) (d : A) → i < length xs → list_all test xs ≡ true → test (get_or xs i d) ≡ true
test_here test [] i d lt h = absurd (omega (arith, lt))
test_here test (x ∷ xs) Rattle.std.proofs.Common.zero d lt h = (and_parts (test x) (list_all test xs) h).0
test_here test (x ∷ xs) (suc i) d lt h = test_here test xs i d (omega (arith, lt)) (and_parts (test x) (list_all test xs) h).1
