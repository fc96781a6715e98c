-- What a bias adds to a problem is the bias.
use Rattle.std.specs.Prelude.{IfSome, bit_and, if◌then◌else◌, not}
use Rattle.std.proofs.lemmas.Bool.Decides.{nat_tests}
use Rattle.dom_set.specs.Elements.{is_in}
use Rattle.fd_prob.specs.declared.relation.Rel.TheVariants.{Rows}
use Rattle.rv_isa.specs.Table.{row_of}
use Rattle.rv_isa.specs.Fields.{is_load, has_address}
use Rattle.rv_script.specs.Folds.{Answer.Does, Entry}
use Rattle.rv_script.specs.Logs.{answer_told, by_answers}
use Rattle.sv_walk.specs.declared.entry.Kind.{Kind}
use Rattle.sv_walk.specs.declared.entry.Kind.TheVariants.{Load as ForLoad, Store as ForStore}
use Rattle.sv_walk.specs.Translation.{At, translated}
use Rattle.row_parts.specs.Gaps.{counts}
use Rattle.addr_rows.specs.Walks.{EntryRow, entry_answers}
use Rattle.rv_hart.specs.Machine.{data_view, size_of}
use Rattle.fd_prob.specs.declared.relation.Quad.{Quad}
use Rattle.data_bytes.specs.Starts.{barred_of, is_open}
use Rattle.data_ways.specs.declared.way.DataEnd.{DataEnd}
use Rattle.data_ways.specs.declared.way.DataEnd.TheVariants as ends
use Rattle.data_ways.specs.declared.way.DataWay.{DataWay}
use Rattle.data_ways.specs.Ways.{reached_by}
use Rattle.data_goals.specs.declared.accesses.Accesses.{Accesses}
use Rattle.data_goals.specs.declared.goal.Goal.{Goal}
use Rattle.data_goals.specs.declared.goal.Goal.TheVariants.{Fails, Fresh, Known, Misaligned}
use Rattle.data_goals.specs.Goals.{access_of, address_test, cause_of, end_test, entry_test, goal_test, goal_way, goal_ways, goals_by, is_aligned_to, leads_to, misses, place_at, retires as goal_retires, target_test as is_target, way_in, ways_for, IsCut}
use Rattle.data_goals.specs.Grounds.{HasAccesses}
use Rattle.data_goals.specs.Laws.{AreSmall, GoalsAreWays, WaysAreGoals}
use Rattle.data_goals.proofs.Through.{in_through, through_has}
use Rattle.std.proofs.Common.{◌≡◌, ℕ, suc, ◌+◌, ◌%◌, ◌<◌, ◌^◌, ◌⊎◌, Bool, true, false, ◌&&◌, ◌||◌, List, [], ◌∷◌, ◌++◌, Option, None, Some, arith, refl, sym, ap, ◌∙◌, eqb-true, subst, inl, inr, get_or, length, ◌↔◌}
use Rattle.std.specs.List.{list_all, list_any}
use Rattle.std.proofs.lemmas.Bool.{and_from, and_parts}
use Rattle.std.proofs.lemmas.List.Folds.{list_all-append}
use Rattle.rv_isa.specs.declared.operation.Op.{Op}
use Rattle.rv_script.specs.Lists.{HasItem}
use Rattle.rv_script.proofs.Items.{has_either, has_first, has_second}
use Rattle.tpl_ast.specs.Leaves.{IsPlain, same_var, var_number}
use Rattle.tpl_ast.specs.declared.template.Atom.{Atom}
use Rattle.tpl_ast.specs.declared.template.Atom.TheVariants as atoms
use Rattle.tpl_ast.specs.declared.template.Var.{Var}
use Rattle.tpl_ast.specs.declared.template.Var.TheVariants as vars
use Rattle.fd_prob.specs.declared.problem.Assignment.{Assignment}
use Rattle.fd_prob.specs.declared.problem.Case.{Case as ACase}
use Rattle.fd_prob.specs.declared.problem.Extra.{Extra}
use Rattle.fd_prob.specs.declared.problem.Problem.{Problem}
use Rattle.fd_prob.specs.declared.relation.Rel.{Rel}
use Rattle.fd_prob.specs.declared.slot.Slot.{Slot}
use Rattle.fd_prob.specs.declared.slot.Slot.TheVariants as slots
use Rattle.fd_prob.specs.Fitting.{fits_case}
use Rattle.fd_prob.specs.Order.{IsAssignment}
use Rattle.fd_prob.specs.Relations.{holds, value_of}
use Rattle.rv_isa.proofs.Numbers.{read}
use Rattle.rv_isa.specs.Numbers.{op_numbered, op_number}
use Rattle.leaf_link.specs.Turns.{Turn}
use Rattle.leaf_link.specs.Cases.{FitsCase, Shape as AShape, Way as AWay, all_judged, all_tests, atoms_hold, base_domain, case_at, is_judged, is_posed, may_fetch, shape_of, target_at, unless, uses}
use Rattle.leaf_link.specs.Values.{Values}
use Rattle.leaf_link.specs.Ways.{IsFetched, IsWays}
use Rattle.leaf_link.specs.Answers.{values_in}
use Rattle.leaf_link.specs.AllWays.{AllWaysAreBuilt, WaysAreBuilt, ways_of}
use Rattle.leaf_link.specs.KindLaws.{IsPosed}
use Rattle.leaf_link.specs.Problems.{FitsPosed, bias_cut, bias_stays}
use Rattle.leaf_link.specs.Extras.{AddressesAreWanted, ArePlain, AreAdded, BiasesInCases, MeetsInCase, PassesExtra, address_by, met_by}
use Rattle.leaf_stand.specs.declared.shape.Shape.{Shape}
use Rattle.leaf_stand.specs.declared.stand.Stand.{Stand}
use Rattle.leaf_stand.specs.declared.way.Aim.TheVariants.{Anywhere}
use Rattle.leaf_pose.specs.Extras.{AddsAddress, AddsBias, AreAddressRows, AreBiasRelations, AreRowsFor, address_rel, in_rows, lead_so, leads_so, stays_at, stays_of}
use Rattle.leaf_stand.specs.Internal.Cuts.{AreCuts}
use Rattle.leaf_pose.specs.Posed.{AreShaped, HasFitted, IsShaped}
use Rattle.leaf_stand.specs.Kinds.{kind_of}
use Rattle.leaf_stand.specs.Posed.{data_ways, is_data, is_posed_at, stand_ways}
use Rattle.leaf_stand.specs.Relations.{are_between, atom_rels, speak_of, speaks_of, target_rel, target_test}
use Rattle.leaf_stand.specs.Stands.{IsStandOf, outcome_at, shape_at, turn_of}
use Rattle.leaf_stand.proofs.Rows.{built_address, data_address}
use Rattle.leaf_stand.proofs.Single.{atoms_same, both_same, number_of, targets_same, word_at}
use Rattle.leaf_stand.proofs.Silent.{silent}
use Rattle.leaf_stand.specs.DataRows.{AreRowsOf, AreRowsOfPages}
use Rattle.leaf_stand.proofs.Turning.{AreGoals, AreSameWays, IsSameWay, all_same, atoms_agree, case_there, data_step, goal_same, posed_agrees, way_moved, ways_same}
use Rattle.leaf_pose.proofs.OneAddress.{one_address}
use Rattle.leaf_pose.proofs.Steps.{plain_ways}

-- RELATIONS
-- variables with one number are one
numbered : List Var
numbered = vars.Op ∷ vars.Rs1 ∷ vars.Rs2 ∷ vars.Rd ∷ vars.Imm ∷ vars.Csr ∷ vars.Ea ∷ vars.A ∷ vars.B ∷ vars.Pa ∷ vars.Target ∷ vars.Outcome ∷ []

own_place : (w : Var) → get_or numbered (var_number w) vars.Op ≡ w
unfolding numbered
own_place vars.Op = refl
own_place vars.Rs1 = refl
own_place vars.Rs2 = refl
own_place vars.Rd = refl
own_place vars.Imm = refl
own_place vars.Csr = refl
own_place vars.Ea = refl
own_place vars.A = refl
own_place vars.B = refl
own_place vars.Pa = refl
own_place vars.Target = refl
own_place vars.Outcome = refl

same_variable : (w u : Var) → same_var w u ≡ true → w ≡ u
same_variable w u h = let e : var_number w ≡ var_number u = eqb-true (var_number w) (var_number u) h in sym (own_place w) ∙ ap (λ (n : ℕ). get_or numbered n vars.Op) e ∙ own_place u

-- atoms that are judged and about the target use it
atom_uses : (sh : AShape) (atom : Atom) (u : Var) → is_judged sh atom ≡ true → speaks_of atom u ≡ true → uses sh u ≡ true
atom_uses sh (atoms.In w set) u j h = let e : w ≡ u = same_variable w u h in subst (λ (y : Var). uses sh y ≡ true) e j
atom_uses sh (atoms.NotIn w set) u j h = let e : w ≡ u = same_variable w u h in subst (λ (y : Var). uses sh y ≡ true) e j
atom_uses sh (atoms.Is w name) u j h = let e : w ≡ u = same_variable w u h in subst (λ (y : Var). uses sh y ≡ true) e j
atom_uses sh (atoms.Same w y) u j h = absurd (cc h)
atom_uses sh (atoms.Differ w y) u j h = absurd (cc h)
atom_uses sh atoms.Taken u j h = absurd (cc h)
atom_uses sh atoms.NotTaken u j h = absurd (cc h)
atom_uses sh atoms.Shared u j h = let e : vars.Pa ≡ u = same_variable vars.Pa u h in subst (λ (y : Var). uses sh y ≡ true) e j

either : (a b : Bool) → (a || b) ≡ true → (a ≡ true) ⊎ (b ≡ true)
either true b h = inl refl
either false b h = inr h

all_use : (sh : AShape) (bias : List Atom) (u : Var) → all_judged sh bias ≡ true → speak_of bias u ≡ true → uses sh u ≡ true
all_use sh [] u j h = absurd (cc h)
all_use sh (atom ∷ bias) u j h =
    let k = and_parts (is_judged sh atom) (all_judged sh bias) j in
    elim (either (speaks_of atom u) (speak_of bias u) h) [
      | inl y ↦ atom_uses sh atom u k.0 y
      | inr y ↦ all_use sh bias u k.1 y
    ]

unless_true : (used b : Bool) → b ≡ true → unless used b ≡ true
unless_true true b h = h
unless_true false b h = refl

target_meets : (s : Stand) (bias : List Atom) (shape : Shape) (speaks : Bool) (set : Option (List ℕ)) (x : Assignment) → all_judged (shape_at shape) bias ≡ true → speak_of bias vars.Target ≡ speaks
    → IsCut (target_test s bias speaks Anywhere) set → (speaks ≡ false → set ≡ None)
    → list_all (holds shape.op x) (target_rel s.pc set) ≡ unless (uses (shape_at shape) vars.Target) (all_tests (turn_of s) bias vars.Target (target_at shape.op s.pc (values_in x)))
target_meets s bias shape true set x j h is none =
    let u : uses (shape_at shape) vars.Target ≡ true = all_use (shape_at shape) bias vars.Target j h in
    targets_same s bias shape.op shape.end true Anywhere set x (sym u) is none
    ∙ sym (ap (λ (b : Bool). unless b (all_tests (turn_of s) bias vars.Target (target_at shape.op s.pc (values_in x)))) u)
target_meets s bias shape false set x j h is none =
    ap (λ (o : Option (List ℕ)). list_all (holds shape.op x) (target_rel s.pc o)) (none refl)
    ∙ sym (unless_true (uses (shape_at shape) vars.Target) _ (silent (turn_of s) bias vars.Target (target_at shape.op s.pc (values_in x)) h))

-- the rows of a bias
pub said_rows : (s : Stand) (bias : List Atom) (old new : List Rel) (rows : List Quad) → IfSome s.accesses (AreAddressRows s bias rows) → speak_of bias vars.Pa ≡ true → new ≡ old ++ Rows rows ∷ [] → AddsAddress s bias old new
said_rows s bias old new rows are said added = record {
  rows = Some rows;
  are = are;
  none = λ e. absurd (cc e);
  unsaid = λ e. absurd (cc (said, e));
  added = added;
}

-- in a case with a data access the rows say what the atoms say of its physical address
abbrev SaysPlace : Stand → List Atom → Shape → Assignment → ℕ → Type 0
SaysPlace s bias shape x place = (rows : List Quad) → IfSome s.accesses (AreAddressRows s bias rows) → shape.reaches ≡ true → in_rows x rows ≡ all_tests (turn_of s) bias vars.Pa place

address_meets : (s : Stand) (bias : List Atom) (shape : Shape) (o : Option (List Quad)) (x : Assignment) (place : ℕ) → SaysPlace s bias shape x place → all_judged (shape_at shape) bias ≡ true → AreRowsFor s bias o → (o ≡ None → speak_of bias vars.Pa ≡ false)
    → (speak_of bias vars.Pa ≡ false → o ≡ None) → list_all (holds shape.op x) (address_rel o) ≡ unless shape.reaches (all_tests (turn_of s) bias vars.Pa place)
address_meets s bias shape None x place says j are none unsaid = sym (unless_true shape.reaches _ (silent (turn_of s) bias vars.Pa place (none refl)))
address_meets s bias shape (Some rows) x place says j are none unsaid =
    let said : speak_of bias vars.Pa ≡ true = spoken (speak_of bias vars.Pa) unsaid in
    let u : shape.reaches ≡ true = all_use (shape_at shape) bias vars.Pa j said in
    last (in_rows x rows) ∙ says rows are u ∙ sym (ap (λ (b : Bool). unless b (all_tests (turn_of s) bias vars.Pa place)) u)
  where
    last : (b : Bool) → (b && true) ≡ b
    last true = refl
    last false = refl

    spoken : (b : Bool) → (b ≡ false → Some rows ≡ None) → b ≡ true
    spoken true h = refl
    spoken false h = let e : Some rows ≡ None = h refl in absurd (cc)

relations_meet : (s : Stand) (bias : List Atom) (shape : Shape) (rels : List Rel) (x : Assignment) (place : ℕ) → SaysPlace s bias shape x place → are_between bias ≡ true → all_judged (shape_at shape) bias ≡ true → value_of x slots.Op ≡ op_number shape.op
    → AreBiasRelations s bias rels → list_all (holds shape.op x) rels ≡ (atoms_hold (turn_of s) bias (shape_at shape) (values_in x) && unless shape.reaches (all_tests (turn_of s) bias vars.Pa place))
relations_meet s bias shape rels x place says b j e r =
    ap (λ (l : List Rel). list_all (holds shape.op x) l) r.address.added ∙ list_all-append (holds shape.op x) r.first (address_rel r.address.rows)
    ∙ both_same _ _ _ _
    (ap (λ (l : List Rel). list_all (holds shape.op x) l) r.targets.added ∙ list_all-append (holds shape.op x) (atom_rels bias) (target_rel s.pc r.targets.set)
    ∙ both_same _ _ _ _ (atoms_same x s.pc (shape_at shape) e bias j b) (target_meets s bias shape (speak_of bias vars.Target) r.targets.set x j refl r.targets.is r.targets.none))
    (address_meets s bias shape r.address.rows x place says j r.address.are r.address.none r.address.unsaid)

-- WHAT AN EXTRA LETS THROUGH
cut_same : (s : Stand) (t : Turn) (walk : List Entry) (pa : ℕ) → IsStandOf s t walk pa → (bias : List Atom) (slot : Slot) (v : ℕ) → bias_cut t bias slot v ≡ bias_cut (turn_of s) bias slot v
cut_same s t walk pa h bias slots.Op v = all_same s t walk pa h bias vars.Op v
cut_same s t walk pa h bias slots.Rs1 v = all_same s t walk pa h bias vars.Rs1 v
cut_same s t walk pa h bias slots.Rs2 v = all_same s t walk pa h bias vars.Rs2 v
cut_same s t walk pa h bias slots.Imm v = all_same s t walk pa h bias vars.Imm v
cut_same s t walk pa h bias slots.Rd v = all_same s t walk pa h bias vars.Rd v
cut_same s t walk pa h bias slots.Csr v = all_same s t walk pa h bias vars.Csr v
cut_same s t walk pa h bias slots.Ea v = all_same s t walk pa h bias vars.Ea v
cut_same s t walk pa h bias slots.A v = all_same s t walk pa h bias vars.A v
cut_same s t walk pa h bias slots.B v = all_same s t walk pa h bias vars.B v
cut_same s t walk pa h bias slots.FirstPte v = refl
cut_same s t walk pa h bias slots.SecondPte v = refl
cut_same s t walk pa h bias slots.DataWord v = refl
cut_same s t walk pa h bias slots.OldCsr v = refl
cut_same s t walk pa h bias slots.Vector v = refl

-- the way of the turn for one of the stand
record HasTurnWay (a : AWay) (ways : List AWay) : Type 0 where
  way : AWay
  is : HasItem ways way
  same : IsSameWay a way

turn_way : (a : AWay) (ps qs : List AWay) → AreSameWays ps qs → HasItem ps a → HasTurnWay a qs
turn_way a [] qs w i = absurd i
turn_way a (p ∷ ps) [] w i = absurd w
turn_way a (p ∷ ps) (q ∷ qs) w i = elim i [
  | inl y ↦ record { way = q; is = inl refl; same = subst (λ (b : AWay). IsSameWay b q) y w.0 }
  | inr j ↦ let r = turn_way a ps qs w.1 j in record { way = r.way; is = inr r.is; same = r.same }
]

shape_is : (op : Op) (m : ℕ) (r : Bool) (a : AWay) → a.outcome ≡ m → a.reaches ≡ r → shape_of op a ≡ record { op = op; outcome = m; reaches = r }
shape_is op m r a e k = ap (λ (n : ℕ). shape_made op n a.reaches) e ∙ ap (λ (b : Bool). shape_made op m b) k
  where
    shape_made : Op → ℕ → Bool → AShape
    shape_made o n b = record { op = o; outcome = n; reaches = b }

-- THE TURN'S OWN WAY
-- a way of the turn that the values fit, among ways that are what the rest does; where it makes a data access, this is its place
record IsTurned (s : Stand) (t : Turn) (walk : List Entry) (pa : ℕ) (leaf bias : List Atom) (shape : Shape) (x : Assignment) : Type 0 where
  ways : List AWay
  owed : IsWays t walk pa leaf shape.op ways
  way : AWay
  is : HasItem ways way
  same_shape : shape_of shape.op way ≡ shape_at shape
  fits : FitsPosed t walk pa leaf shape.op way (values_in x)
  place : ℕ
  address : shape.reaches ≡ true → all_tests t bias vars.Pa (address_by t (values_in x)) ≡ all_tests (turn_of s) bias vars.Pa place
  says : SaysPlace s bias shape x place

plain_turned : (s : Stand) (t : Turn) (walk : List Entry) (pa : ℕ) → IsStandOf s t walk pa → (leaf bias : List Atom) → IsPosed t walk pa leaf → WaysAreBuilt → (shape : Shape) (x : Assignment) → is_data (kind_of shape.op) ≡ false → HasFitted s leaf shape (values_in x)
    → IsTurned s t walk pa leaf bias shape x
plain_turned s t walk pa h leaf bias posed built shape x n f =
    let item : HasItem (stand_ways s shape.op) f.whole = subst (λ (l : List AWay). HasItem l f.whole) (plain_ways s leaf shape.op n) f.is in
    let w = turn_way f.whole (stand_ways s shape.op) (ways_of t walk pa leaf [] [] shape.op) (ways_same s t walk pa h leaf [] [] shape.op n) item in
    record {
      ways = ways_of t walk pa leaf [] [] shape.op;
      owed = built t walk pa leaf posed.fetched shape.op (built_address shape.op n);
      way = w.way;
      is = w.is;
      same_shape = shape_is shape.op (outcome_at shape.end) shape.reaches w.way (sym w.same.outcome ∙ f.outcome) (sym w.same.reaches ∙ f.reaches);
      fits = record {
        posed = sym (posed_agrees s t walk pa h leaf shape.op f.whole w.way w.same) ∙ ap (λ (sh : AShape). is_posed_at s leaf sh) (shape_is shape.op (outcome_at shape.end) shape.reaches f.whole f.outcome f.reaches) ∙ f.posed;
        fits = case_there s t walk pa h leaf shape.op f.whole w.way w.same (values_in x) f.fits;
      };
      place = 0;
      address = λ r. absurd (cc (r, f.inner n));
      says = λ rows are r. absurd (cc (r, f.inner n));
    }

-- LOADS AND STORES
-- what the laws say of ways
record AreLaws : Type 0 where
  goals : AreGoals
  all : AllWaysAreBuilt
  wanted : AddressesAreWanted

-- the goal that a way is of; only a way that leads somewhere has one with a data access
record IsGoal (t : Turn) (a : Accesses) (leaf : List Atom) (op : Op) (way : AWay) : Type 0 where
  lead : DataWay
  goal : Goal
  is : goal_way t a leaf op lead goal ≡ way
  stands : (u : Turn) (more : List Atom) → HasItem (goal_ways u a more op) (goal_way u a more op lead goal)
  leads : goal_retires (cause_of op lead.end goal) ≡ true → HasItem (ways_for a op) lead
  listed : goal_retires (cause_of op lead.end goal) ≡ true → HasItem (goals_by lead.end) goal

goal_of : (t : Turn) (a : Accesses) (leaf : List Atom) (op : Op) (way : AWay) → HasItem (goal_ways t a leaf op) way → IsGoal t a leaf op way
goal_of t a leaf op way i = elim i [
  | inl e ↦ record { lead = misses; goal = Misaligned; is = e; stands = λ u more. inl refl; leads = λ r. absurd (cc); listed = λ r. absurd (cc) }
  | inr j ↦ let r = through_has t a leaf op (ways_for a op) way j in
      record { lead = r.0; goal = r.2; is = r.4; stands = λ u more. inr (in_through u a more op (ways_for a op) r.0 r.2 r.1 r.3); leads = λ y. r.1; listed = λ y. r.3 }
]

-- the physical address is a value
abbrev pinned : ℕ → List Atom → List Atom
pinned v leaf = atoms.In vars.Pa (v ∷ []) ∷ leaf

one_in : (v : ℕ) → is_in (v ∷ []) v ≡ true
one_in v = grind (arith, nat_tests)

in_one : (v n : ℕ) → is_in (v ∷ []) n ≡ true → n ≡ v
in_one v n h = grind (arith, nat_tests)

pinned_base : (t : Turn) (pa v : ℕ) (leaf : List Atom) (sh : AShape) (slot : Slot) (n : ℕ) → base_domain t pa (pinned v leaf) sh slot n ≡ base_domain t pa leaf sh slot n
pinned_base t pa v leaf sh slots.Op n = refl
pinned_base t pa v leaf sh slots.Rs1 n = refl
pinned_base t pa v leaf sh slots.Rs2 n = refl
pinned_base t pa v leaf sh slots.Imm n = refl
pinned_base t pa v leaf sh slots.Rd n = refl
pinned_base t pa v leaf sh slots.Csr n = refl
pinned_base t pa v leaf sh slots.Ea n = refl
pinned_base t pa v leaf sh slots.A n = refl
pinned_base t pa v leaf sh slots.B n = refl
pinned_base t pa v leaf sh slots.FirstPte n = refl
pinned_base t pa v leaf sh slots.SecondPte n = refl
pinned_base t pa v leaf sh slots.DataWord n = refl
pinned_base t pa v leaf sh slots.OldCsr n = refl
pinned_base t pa v leaf sh slots.Vector n = refl

-- a target stays one where the place itself is wanted
pinned_target : (a : Accesses) (op : Op) (words wanted : ℕ → Bool) (p : ℕ) → is_target a op words wanted p ≡ true → is_target a op words (λ n. is_in (p ∷ []) n && wanted n) p ≡ true
pinned_target a op words wanted p h =
    let k = and_parts ((words p && is_open (barred_of a.bytes (access_of op)) (size_of op) p) && wanted p) (is_load (row_of op) || not (is_in a.walked p)) h in
    let m = and_parts (words p && is_open (barred_of a.bytes (access_of op)) (size_of op) p) (wanted p) k.0 in
    and_from _ _ (and_from _ _ m.0 (and_from _ _ (one_in p) m.1)) k.1

pinned_leads : (a : Accesses) (op : Op) (words wanted : ℕ → Bool) (end : DataEnd) (v : ℕ) → leads_to end (is_target a op words wanted) v ≡ true → leads_to end (is_target a op words (λ n. is_in (place_at end v ∷ []) n && wanted n)) v ≡ true
pinned_leads a op words wanted (ends.At base mask) v h = pinned_target a op words wanted ((base + bit_and v mask) % 2 ^ 32) h
pinned_leads a op words wanted (ends.Fails cause) v h = absurd (cc)

pinned_address : (a : Accesses) (op : Op) (way : DataWay) (wanted : ℕ → Bool) (goal : Goal) (v : ℕ) → address_test a op way wanted goal v ≡ true → address_test a op way (λ n. is_in (place_at way.end v ∷ []) n && wanted n) goal v ≡ true
pinned_address a op way wanted Misaligned v h = h
pinned_address a op way wanted Fails v h = h
pinned_address a op way wanted Known v h =
    let k = and_parts (way_in way v && is_aligned_to op v) (leads_to way.end (is_target a op (is_in a.bytes.known) wanted) v) h in
    and_from _ _ k.0 (pinned_leads a op (is_in a.bytes.known) wanted way.end v k.1)
pinned_address a op way wanted Fresh v h =
    let k = and_parts (way_in way v && is_aligned_to op v) (leads_to way.end (is_target a op (is_in a.bytes.fresh) wanted) v) h in
    and_from _ _ k.0 (pinned_leads a op (is_in a.bytes.fresh) wanted way.end v k.1)

pinned_goal : (a : Accesses) (op : Op) (way : DataWay) (wanted : ℕ → Bool) (goal : Goal) (x : Values) (slot : Slot) → goal_test a op way wanted goal slot (x slot) ≡ true → goal_test a op way (λ n. is_in (place_at way.end (x slots.Ea) ∷ []) n && wanted n) goal slot (x slot) ≡ true
pinned_goal a op way wanted goal x slots.Ea h = pinned_address a op way wanted goal (x slots.Ea) h
pinned_goal a op way wanted goal x slots.FirstPte h = h
pinned_goal a op way wanted goal x slots.SecondPte h = h
pinned_goal a op way wanted goal x slots.DataWord h = h
pinned_goal a op way wanted goal x slots.Op h = h
pinned_goal a op way wanted goal x _ h = h

pinned_fits : (t : Turn) (pa : ℕ) (a : Accesses) (leaf : List Atom) (op : Op) (way : DataWay) (goal : Goal) (x : Values) → FitsCase (case_at t pa leaf op (goal_way t a leaf op way goal)) x
    → FitsCase (case_at t pa (pinned (place_at way.end (x slots.Ea)) leaf) op (goal_way t a (pinned (place_at way.end (x slots.Ea)) leaf) op way goal)) x
pinned_fits t pa a leaf op way goal x f = record {
  op = f.op;
  each = λ slot.
      let k = and_parts (base_domain t pa leaf (shape_of op (goal_way t a leaf op way goal)) slot (x slot)) ((goal_way t a leaf op way goal).also slot (x slot)) (f.each slot) in
      let m = and_parts (end_test t (cause_of op way.end goal) slot (x slot)) (goal_test a op way (all_tests t leaf vars.Pa) goal slot (x slot)) k.1 in
      and_from _ _ (pinned_base t pa (place_at way.end (x slots.Ea)) leaf (shape_of op (goal_way t a leaf op way goal)) slot (x slot) ∙ k.0) (and_from _ _ m.0 (pinned_goal a op way (all_tests t leaf vars.Pa) goal x slot m.1));
  holds = f.holds;
}

-- the place of the data access is where the way leads
place_is : AreLaws → (t : Turn) (walk : List Entry) (pa : ℕ) (a : Accesses) (leaf : List Atom) (loads stores : List EntryRow) → HasAccesses t walk pa a → IsFetched t walk pa → AreRowsOfPages t leaf loads stores a → ArePlain leaf → (op : Op) (way : DataWay) (goal : Goal) (x : Values)
    → ((more : List Atom) → HasItem (goal_ways t a more op) (goal_way t a more op way goal)) → has_address (row_of op) ≡ true → AreSmall x → is_posed t walk pa leaf (shape_of op (goal_way t a leaf op way goal)) ≡ true → FitsCase (case_at t pa leaf op (goal_way t a leaf op way goal)) x
    → (goal_way t a leaf op way goal).reaches ≡ true → address_by t x ≡ place_at way.end (x slots.Ea)
place_is laws t walk pa a leaf loads stores has fetched rows plain op way goal x stands address small posed fits reaches =
    let place = place_at way.end (x slots.Ea) in
    let more = pinned place leaf in
    let here = goal_way t a more op way goal in
    let p = and_parts (may_fetch t walk pa) (all_judged (shape_of op here) leaf && all_tests t leaf vars.Outcome here.outcome) posed in
    let q = and_parts (all_judged (shape_of op here) leaf) (all_tests t leaf vars.Outcome here.outcome) p.1 in
    let posed_more : is_posed t walk pa more (shape_of op here) ≡ true = and_from _ _ p.0 (and_from _ _ (and_from _ _ reaches q.0) q.1) in
    let rows_more : AreRowsOfPages t more loads stores a = record { pages = λ ea less tests. rows.pages ea less tests; loads = rows.loads; stores = rows.stores } in
    let fits_more = pinned_fits t pa a leaf op way goal x fits in
    let m = way_moved t walk pa more op (goal_ways t a more op) (ways_of t walk pa more loads stores op) x here
    (laws.goals.there t walk pa a loads stores more op x here.outcome here.reaches (data_step t walk pa more a loads stores has fetched rows_more op x small address here posed_more fits_more)) (stands more) posed_more fits_more in
    let plain_more : ArePlain more = λ atom item. elim item [
      | inl e ↦ subst (λ (y : Atom). IsPlain y) e (record {})
      | inr i ↦ plain atom i
    ] in
    let owed = laws.all t walk pa more (is_in a.pages) loads stores fetched rows_more.pages rows.loads rows.stores op in
    let w = laws.wanted t walk pa more op (ways_of t walk pa more loads stores op) x fetched plain_more owed m.way m.is (record { posed = m.posed; fits = m.fits }) (ap (λ (sh : AShape). sh.reaches) m.shape_is ∙ reaches) in
    in_one place (address_by t x) (and_parts (is_in (place ∷ []) (address_by t x)) (all_tests t leaf vars.Pa (address_by t x)) w).0

-- WHERE THE WAYS OF BOTH KINDS LEAD
abbrev IsLed : Turn → Values → ℕ → Kind → Type 0
IsLed t x p kind = (log : List Entry) × (answer_told (by_answers t.known (entry_answers (x slots.FirstPte) (x slots.SecondPte))) (translated t.fixed.ram (data_view t.fixed) kind (x slots.Ea)) ≡ Does log (At p))

led_either : (t : Turn) (a : Accesses) (walk : List Entry) (pa : ℕ) → HasAccesses t walk pa a → (way : DataWay) (base mask : ℕ) (x : Values) → AreSmall x → HasItem (a.loads.items ++ a.stores.items) way → way.end ≡ ends.At base mask
    → way_in way (x slots.Ea) ≡ true → is_in way.first (x slots.FirstPte) ≡ true → is_in way.second (x slots.SecondPte) ≡ true → IsLed t x ((base + bit_and (x slots.Ea) mask) % 2 ^ 32) ForLoad ⊎ IsLed t x ((base + bit_and (x slots.Ea) mask) % 2 ^ 32) ForStore
led_either t a walk pa has way base mask x small item end ea first second = elim (has_either a.loads.items a.stores.items way item) [
  | inl i ↦ let e = and_parts (counts way.apart (x slots.Ea)) (is_in way.ea (x slots.Ea)) ea in let r = has.loads.sound way i (x slots.Ea) (x slots.FirstPte) (x slots.SecondPte) (small slots.Ea) e.0 e.1 first second in inl (r.0, subst (λ (d : DataEnd). led_by ForLoad r.0 d) end r.1.plays)
  | inr i ↦ let e = and_parts (counts way.apart (x slots.Ea)) (is_in way.ea (x slots.Ea)) ea in let r = has.stores.sound way i (x slots.Ea) (x slots.FirstPte) (x slots.SecondPte) (small slots.Ea) e.0 e.1 first second in inr (r.0, subst (λ (d : DataEnd). led_by ForStore r.0 d) end r.1.plays)
]
  where
    led_by : Kind → List Entry → DataEnd → Type 0
    led_by kind log d = answer_told (by_answers t.known (entry_answers (x slots.FirstPte) (x slots.SecondPte))) (translated t.fixed.ram (data_view t.fixed) kind (x slots.Ea)) ≡ Does log (reached_by d (x slots.Ea))

led_same : (t : Turn) (x : Values) (p q : ℕ) → IsLed t x p ForLoad ⊎ IsLed t x p ForStore → IsLed t x q ForLoad ⊎ IsLed t x q ForStore → p ≡ q
led_same t x p q h k = elim h [
  | inl one ↦ elim k [
    | inl two ↦ let e : Does one.0 (At p) ≡ Does two.0 (At q) = sym one.1 ∙ two.1 in cc
    | inr two ↦ one_address _ t.fixed.ram (data_view t.fixed) (x slots.Ea) one.0 two.0 p q one.1 two.1
  ]
  | inr one ↦ elim k [
    | inl two ↦ sym (one_address _ t.fixed.ram (data_view t.fixed) (x slots.Ea) two.0 one.0 q p two.1 one.1)
    | inr two ↦ let e : Does one.0 (At p) ≡ Does two.0 (At q) = sym one.1 ∙ two.1 in cc
  ]
]

any_item : {A : Type 0} (test : A → Bool) (xs : List A) → list_any test xs ≡ true → (y : A) × HasItem xs y × (test y ≡ true)
any_item test [] h = absurd (cc h)
any_item test (x ∷ xs) h = elim (either (test x) (list_any test xs) h) [
  | inl here ↦ (x, inl refl, here)
  | inr later ↦ let r = any_item test xs later in (r.0, inr r.1, r.2)
]

item_any : {A : Type 0} (test : A → Bool) (xs : List A) (y : A) → HasItem xs y → test y ≡ true → list_any test xs ≡ true
item_any test [] y i h = absurd i
item_any test (x ∷ xs) y i h = elim i [
  | inl here ↦ ap (λ (b : Bool). b || list_any test xs) (ap test here ∙ h)
  | inr later ↦ right_true (test x) (list_any test xs) (item_any test xs y later h)
]
  where
    right_true : (b c : Bool) → c ≡ true → (b || c) ≡ true
    right_true true c k = refl
    right_true false c k = k

both_or_neither : (b c : Bool) → (b ≡ true → c ≡ true) → (c ≡ true → b ≡ true) → b ≡ c
both_or_neither true c h k = sym (h refl)
both_or_neither false true h k = k refl
both_or_neither false false h k = refl

leads_at : (end : DataEnd) (test : ℕ → Bool) (v : ℕ) → leads_to end test v ≡ true → (base : ℕ) × (mask : ℕ) × (end ≡ ends.At base mask) × (test ((base + bit_and v mask) % 2 ^ 32) ≡ true)
leads_at (ends.At base mask) test v h = (base, mask, refl, h)
leads_at (ends.Fails cause) test v h = absurd (cc)

-- of the ways that the values are in, the rows have what leads where the bias wants it
lead_there : (t : Turn) (a : Accesses) (walk : List Entry) (pa : ℕ) → HasAccesses t walk pa a → (test : ℕ → Bool) (way : DataWay) (base mask : ℕ) (x : Assignment) → AreSmall (values_in x) → HasItem (a.loads.items ++ a.stores.items) way → way.end ≡ ends.At base mask
    → way_in way (value_of x slots.Ea) ≡ true → is_in way.first (value_of x slots.FirstPte) ≡ true → is_in way.second (value_of x slots.SecondPte) ≡ true
    → lead_so test x (a.loads.items ++ a.stores.items) ≡ test ((base + bit_and (value_of x slots.Ea) mask) % 2 ^ 32)
lead_there t a walk pa has test way base mask x small item end ea first second = both_or_neither _ _ there back
  where
    place : ℕ
    place = (base + bit_and (value_of x slots.Ea) mask) % 2 ^ 32

    tells : DataWay → Bool
    tells = leads_so test (value_of x slots.Ea) (value_of x slots.FirstPte) (value_of x slots.SecondPte)

    there : lead_so test x (a.loads.items ++ a.stores.items) ≡ true → test place ≡ true
    there h =
        let r = any_item tells (a.loads.items ++ a.stores.items) h in
        let k = and_parts (way_in r.0 (value_of x slots.Ea) && leads_to r.0.end test (value_of x slots.Ea)) (is_in r.0.first (value_of x slots.FirstPte) && is_in r.0.second (value_of x slots.SecondPte)) r.2 in
        let m = and_parts (way_in r.0 (value_of x slots.Ea)) (leads_to r.0.end test (value_of x slots.Ea)) k.0 in
        let n = and_parts (is_in r.0.first (value_of x slots.FirstPte)) (is_in r.0.second (value_of x slots.SecondPte)) k.1 in
        let d = leads_at r.0.end test (value_of x slots.Ea) m.1 in
        let e = led_same t (values_in x) ((d.0 + bit_and (value_of x slots.Ea) d.1) % 2 ^ 32) place (led_either t a walk pa has r.0 d.0 d.1 (values_in x) small r.1 d.2 m.0 n.0 n.1) (led_either t a walk pa has way base mask (values_in x) small item end ea first second) in
        subst (λ (p : ℕ). test p ≡ true) e d.3

    back : test place ≡ true → lead_so test x (a.loads.items ++ a.stores.items) ≡ true
    back h = item_any tells (a.loads.items ++ a.stores.items) way item (and_from _ _ (and_from _ _ ea (subst (λ (d : DataEnd). leads_to d test (value_of x slots.Ea) ≡ true) (sym end) h)) (and_from _ _ first second))

for_item : (a : Accesses) (op : Op) (way : DataWay) → HasItem (ways_for a op) way → HasItem (a.loads.items ++ a.stores.items) way
for_item a op way i = go (is_load (row_of op)) i
  where
    go : (b : Bool) → HasItem (if b then a.loads.items else a.stores.items) way → HasItem (a.loads.items ++ a.stores.items) way
    go true j = has_first a.loads.items a.stores.items way j
    go false j = has_second a.loads.items a.stores.items way j

-- a goal with a data access leads somewhere, and its values are in its way
record IsReached (way : DataWay) (x : Values) : Type 0 where
  base : ℕ
  mask : ℕ
  end : way.end ≡ ends.At base mask
  ea : way_in way (x slots.Ea) ≡ true
  first : is_in way.first (x slots.FirstPte) ≡ true
  second : is_in way.second (x slots.SecondPte) ≡ true

reached_of : (t : Turn) (pa : ℕ) (a : Accesses) (leaf : List Atom) (op : Op) (way : DataWay) (goal : Goal) (x : Values) → FitsCase (case_at t pa leaf op (goal_way t a leaf op way goal)) x → HasItem (goals_by way.end) goal → goal_retires (cause_of op way.end goal) ≡ true → IsReached way x
reached_of t pa a leaf op way goal x f listed retires = go way.end refl goal listed retires (tested slots.Ea) (tested slots.FirstPte) (tested slots.SecondPte)
  where
    tested : (slot : Slot) → goal_test a op way (all_tests t leaf vars.Pa) goal slot (x slot) ≡ true
    tested slot =
        let k = and_parts (base_domain t pa leaf (shape_of op (goal_way t a leaf op way goal)) slot (x slot)) ((goal_way t a leaf op way goal).also slot (x slot)) (f.each slot) in
        (and_parts (end_test t (cause_of op way.end goal) slot (x slot)) (goal_test a op way (all_tests t leaf vars.Pa) goal slot (x slot)) k.1).1

    first_of : (b c d : Bool) → ((b && c) && d) ≡ true → b ≡ true
    first_of b c d h = (and_parts b c (and_parts (b && c) d h).0).0

    go : (end : DataEnd) → way.end ≡ end → (g : Goal) → HasItem (goals_by end) g → goal_retires (cause_of op end g) ≡ true → address_test a op way (all_tests t leaf vars.Pa) g (x slots.Ea) ≡ true → entry_test g way.first (x slots.FirstPte) ≡ true → entry_test g way.second (x slots.SecondPte) ≡ true → IsReached way x
    go (ends.At base mask) e Known i r h k m = record { base = base; mask = mask; end = e; ea = first_of _ _ _ h; first = k; second = m }
    go (ends.At base mask) e Fresh i r h k m = record { base = base; mask = mask; end = e; ea = first_of _ _ _ h; first = k; second = m }
    go (ends.At base mask) e Misaligned i r h k m = absurd (cc)
    go (ends.At base mask) e Fails i r h k m = absurd (not_listed i)
      where
        not_listed : HasItem (Known ∷ Fresh ∷ []) Fails → ⊥
        not_listed (inl y) = absurd (cc)
        not_listed (inr (inl y)) = absurd (cc)
        not_listed (inr (inr y)) = absurd y
    go (ends.Fails cause) e Known i r h k m = absurd (only i)
      where
        only : HasItem (Fails ∷ []) Known → ⊥
        only (inl y) = absurd (cc)
        only (inr y) = absurd y
    go (ends.Fails cause) e Fresh i r h k m = absurd (only i)
      where
        only : HasItem (Fails ∷ []) Fresh → ⊥
        only (inl y) = absurd (cc)
        only (inr y) = absurd y
    go (ends.Fails cause) e Misaligned i r h k m = absurd (cc)
    go (ends.Fails cause) e Fails i r h k m = absurd (cc)

data_turned : AreLaws → (s : Stand) (t : Turn) (walk : List Entry) (pa : ℕ) (loads stores : List EntryRow) → IsStandOf s t walk pa → (leaf bias : List Atom) → IsPosed t walk pa leaf → AreRowsOf s t leaf loads stores → (shape : Shape) (x : Assignment) → IsAssignment x
    → is_data (kind_of shape.op) ≡ true → HasFitted s leaf shape (values_in x) → IsTurned s t walk pa leaf bias shape x
data_turned laws s t walk pa loads stores h leaf bias posed rows shape x hx n f = of_accesses s.accesses refl h.accesses rows (subst (λ (b : Bool). HasItem (if b then data_ways s leaf shape.op s.accesses else stand_ways s shape.op) f.whole) n f.is)
  where
    small : AreSmall (values_in x)
    small slot = word_at x hx slot

    of_accesses : (o : Option Accesses) → s.accesses ≡ o → IfSome o (HasAccesses t walk pa) → IfSome o (AreRowsOfPages t leaf loads stores) → HasItem (data_ways s leaf shape.op o) f.whole → IsTurned s t walk pa leaf bias shape x
    of_accesses None told is are item = absurd item
    of_accesses (Some a) told is are item =
        let op = shape.op in
        let g = goal_of (turn_of s) a leaf op f.whole item in
        let same = goal_same s t walk pa h a leaf op g.lead g.goal in
        let way = goal_way t a leaf op g.lead g.goal in
        let outcome_is : way.outcome ≡ outcome_at shape.end = sym same.outcome ∙ ap (λ (w : AWay). w.outcome) g.is ∙ f.outcome in
        let reaches_is : way.reaches ≡ shape.reaches = sym same.reaches ∙ ap (λ (w : AWay). w.reaches) g.is ∙ f.reaches in
        let shape_same : shape_of op way ≡ shape_at shape = shape_is op (outcome_at shape.end) shape.reaches way outcome_is reaches_is in
        let here : FitsCase (case_at t pa leaf op way) (values_in x) = case_there s t walk pa h leaf op (goal_way (turn_of s) a leaf op g.lead g.goal) way same (values_in x) (subst (λ (w : AWay). FitsCase (case_at (turn_of s) 0 leaf op w) (values_in x)) (sym g.is) f.fits) in
        let posed_here : is_posed t walk pa leaf (shape_of op way) ≡ true =
        sym (posed_agrees s t walk pa h leaf op (goal_way (turn_of s) a leaf op g.lead g.goal) way same)
        ∙ ap (λ (sh : AShape). is_posed_at s leaf sh) (shape_is op (outcome_at shape.end) shape.reaches (goal_way (turn_of s) a leaf op g.lead g.goal) (ap (λ (w : AWay). w.outcome) g.is ∙ f.outcome) (ap (λ (w : AWay). w.reaches) g.is ∙ f.reaches)) ∙ f.posed in
        let address = data_address op n in
        let m = way_moved t walk pa leaf op (goal_ways t a leaf op) (ways_of t walk pa leaf loads stores op) (values_in x) way
        (laws.goals.there t walk pa a loads stores leaf op (values_in x) way.outcome way.reaches (data_step t walk pa leaf a loads stores is posed.fetched are op (values_in x) small address way posed_here here)) (g.stands t leaf) posed_here here in
        record {
          ways = ways_of t walk pa leaf loads stores op;
          owed = laws.all t walk pa leaf (is_in a.pages) loads stores posed.fetched are.pages are.loads are.stores op;
          way = m.way;
          is = m.is;
          same_shape = m.shape_is ∙ shape_same;
          fits = record { posed = m.posed; fits = m.fits };
          place = place_at g.lead.end (value_of x slots.Ea);
          address = λ r.
              all_same s t walk pa h bias vars.Pa (address_by t (values_in x))
              ∙ ap (λ (v : ℕ). all_tests (turn_of s) bias vars.Pa v) (place_is laws t walk pa a leaf loads stores is posed.fetched are posed.plain op g.lead g.goal (values_in x) (g.stands t) address small posed_here here (reaches_is ∙ r));
          says = λ quads told_rows r.
              let led = reached_of t pa a leaf op g.lead g.goal (values_in x) here (g.listed (reaches_is ∙ r)) (reaches_is ∙ r) in
              let rows_are : AreAddressRows s bias quads a = subst (λ (o : Option Accesses). IfSome o (AreAddressRows s bias quads)) told told_rows in
              rows_are x hx ∙ lead_there t a walk pa is (all_tests (turn_of s) bias vars.Pa) g.lead led.base led.mask x small (for_item a op g.lead (g.leads (reaches_is ∙ r))) led.end led.ea led.first led.second
              ∙ ap (λ (d : DataEnd). all_tests (turn_of s) bias vars.Pa (place_at d (value_of x slots.Ea))) (sym led.end);
        }

turned : AreLaws → WaysAreBuilt → (s : Stand) (t : Turn) (walk : List Entry) (pa : ℕ) (loads stores : List EntryRow) → IsStandOf s t walk pa → (leaf bias : List Atom) → IsPosed t walk pa leaf → AreRowsOf s t leaf loads stores → (shape : Shape) (x : Assignment) → IsAssignment x → HasFitted s leaf shape (values_in x)
    → IsTurned s t walk pa leaf bias shape x
turned laws built s t walk pa loads stores h leaf bias posed rows shape x hx f = of_kind (is_data (kind_of shape.op)) refl
  where
    of_kind : (b : Bool) → is_data (kind_of shape.op) ≡ b → IsTurned s t walk pa leaf bias shape x
    of_kind true n = data_turned laws s t walk pa loads stores h leaf bias posed rows shape x hx n f
    of_kind false n = plain_turned s t walk pa h leaf bias posed built shape x n f

-- ONE CASE
one_added : AreLaws → (s : Stand) (t : Turn) (walk : List Entry) (pa : ℕ) (loads stores : List EntryRow) → IsStandOf s t walk pa → (leaf bias : List Atom) → BiasesInCases → IsPosed t walk pa leaf → AreRowsOf s t leaf loads stores → ArePlain bias → WaysAreBuilt → are_between bias ≡ true
    → (shape : Shape) (c : ACase) (e : Extra) → AreCuts s bias e.cuts → AreBiasRelations s bias e.rels → IsShaped s leaf shape c
    → (x : Assignment) → IsAssignment x → fits_case x c ≡ true → PassesExtra e (stays_at s bias shape) (op_numbered c.op) x ↔ (met_by t bias (values_in x) ≡ true)
one_added laws s t walk pa loads stores h leaf bias law posed rows plain built between shape c e cuts rels shaped x hx fit = (there, back)
  where
    f : HasFitted s leaf shape (values_in x)
    f = shaped x hx fit

    small : (slot : Slot) → value_of x slot < 2 ^ 32
    small slot = word_at x hx slot

    w : IsTurned s t walk pa leaf bias shape x
    w = turned laws built s t walk pa loads stores h leaf bias posed rows shape x hx f

    meets : (met_by t bias (values_in x) ≡ true) ↔ MeetsInCase t bias shape.op w.way (values_in x)
    meets = law t walk pa leaf bias shape.op w.ways (values_in x) posed.fetched posed.plain plain w.owed w.way w.is w.fits

    op_is : op_numbered c.op ≡ shape.op
    op_is = ap op_numbered (sym (number_of x c fit) ∙ f.fits.op) ∙ read shape.op

    stays_same : bias_stays t bias shape.op w.way ≡ stays_at s bias shape
    stays_same =
        both_same _ _ _ _ (ap (λ (sh : AShape). all_judged sh bias) w.same_shape)
        (all_same s t walk pa h bias vars.Outcome w.way.outcome ∙ ap (λ (sh : AShape). all_tests (turn_of s) bias vars.Outcome sh.outcome) w.same_shape)

    related : all_judged (shape_at shape) bias ≡ true
        → list_all (holds (op_numbered c.op) x) e.rels ≡ (atoms_hold t bias (shape_of shape.op w.way) (values_in x) && unless shape.reaches (all_tests (turn_of s) bias vars.Pa w.place))
    related j =
        ap (λ (o : Op). list_all (holds o x) e.rels) op_is ∙ relations_meet s bias shape e.rels x w.place w.says between j f.fits.op rels
        ∙ ap (λ (b : Bool). b && unless shape.reaches (all_tests (turn_of s) bias vars.Pa w.place)) (sym (atoms_agree s t walk pa h bias (shape_at shape) (values_in x)) ∙ ap (λ (sh : AShape). atoms_hold t bias sh (values_in x)) (sym w.same_shape))

    judged : stays_at s bias shape ≡ true → all_judged (shape_at shape) bias ≡ true
    judged y = (and_parts (all_judged (shape_at shape) bias) (all_tests (turn_of s) bias vars.Outcome (outcome_at shape.end)) y).0

    reached : w.way.reaches ≡ true → shape.reaches ≡ true
    reached r = sym (ap (λ (sh : AShape). sh.reaches) w.same_shape) ∙ r

    used : (b v : Bool) → unless b v ≡ true → b ≡ true → v ≡ true
    used true v k r = k
    used false v k r = absurd (cc r)

    there : PassesExtra e (stays_at s bias shape) (op_numbered c.op) x → met_by t bias (values_in x) ≡ true
    there p =
        let both = and_parts (atoms_hold t bias (shape_of shape.op w.way) (values_in x)) (unless shape.reaches (all_tests (turn_of s) bias vars.Pa w.place)) (sym (related (judged p.stays_is)) ∙ p.rels) in
        meets.1 (record {
          bias_met = record {
            stays = stays_same ∙ p.stays_is;
            cuts = λ slot. cut_same s t walk pa h bias slot (value_of x slot) ∙ sym (cuts slot (value_of x slot) (small slot)) ∙ p.cuts slot;
            holds = both.0;
          };
          address = λ r. w.address (reached r) ∙ used shape.reaches _ both.1 (reached r);
        })

    back : met_by t bias (values_in x) ≡ true → PassesExtra e (stays_at s bias shape) (op_numbered c.op) x
    back m = from_met (meets.0 m)
      where
        addressed : MeetsInCase t bias shape.op w.way (values_in x) → (b : Bool) → shape.reaches ≡ b → unless b (all_tests (turn_of s) bias vars.Pa w.place) ≡ true
        addressed y true r = sym (w.address r) ∙ y.address (ap (λ (sh : AShape). sh.reaches) w.same_shape ∙ r)
        addressed y false r = refl

        from_met : MeetsInCase t bias shape.op w.way (values_in x) → PassesExtra e (stays_at s bias shape) (op_numbered c.op) x
        from_met y = let stays : stays_at s bias shape ≡ true = sym stays_same ∙ y.bias_met.stays in record {
          stays_is = stays;
          cuts = λ slot. cuts slot (value_of x slot) (small slot) ∙ sym (cut_same s t walk pa h bias slot (value_of x slot)) ∙ y.bias_met.cuts slot;
          rels = related (judged stays) ∙ and_from _ _ y.bias_met.holds (addressed y shape.reaches refl);
        }

all_added : AreLaws → (s : Stand) (t : Turn) (walk : List Entry) (pa : ℕ) (loads stores : List EntryRow) → IsStandOf s t walk pa → (leaf bias : List Atom) → BiasesInCases → IsPosed t walk pa leaf → AreRowsOf s t leaf loads stores → ArePlain bias → WaysAreBuilt → are_between bias ≡ true
    → (e : Extra) → AreCuts s bias e.cuts → AreBiasRelations s bias e.rels → (shapes : List Shape) (cs : List ACase) → AreShaped s leaf shapes cs → AreAdded t bias e (stays_of s bias shapes) cs
all_added laws s t walk pa loads stores h leaf bias law posed rows plain built between e cuts rels [] [] a = record {}
all_added laws s t walk pa loads stores h leaf bias law posed rows plain built between e cuts rels (shape ∷ shapes) (c ∷ cs) a =
    (one_added laws s t walk pa loads stores h leaf bias law posed rows plain built between shape c e cuts rels a.0, all_added laws s t walk pa loads stores h leaf bias law posed rows plain built between e cuts rels shapes cs a.1)
all_added laws s t walk pa loads stores h leaf bias law posed rows plain built between e cuts rels (shape ∷ shapes) [] a = absurd a
all_added laws s t walk pa loads stores h leaf bias law posed rows plain built between e cuts rels [] (c ∷ cs) a = absurd a

pub extra_is : WaysAreGoals → GoalsAreWays → AllWaysAreBuilt → AddressesAreWanted → (s : Stand) (bias : List Atom) (p : Problem) (shapes : List Shape) (e : Extra) → BiasesInCases → WaysAreBuilt → are_between bias ≡ true → e.cases ≡ stays_of s bias shapes
    → AreCuts s bias e.cuts → AreBiasRelations s bias e.rels → (leaf : List Atom) → AreShaped s leaf shapes p.cases → AddsBias s leaf bias p e
extra_is goals ways all wanted s bias p shapes e law built between stays cuts rels leaf shaped t walk pa loads stores h posed rows plain =
    let laws : AreLaws = record { goals = record { there = ways; back = goals }; all = all; wanted = wanted } in
    record {
      added = subst (λ (l : List Bool). AreAdded t bias e l p.cases) (sym stays) (all_added laws s t walk pa loads stores h leaf bias law posed rows plain built between e cuts rels shapes p.cases shaped);
      cuts = λ slot v small. cuts slot v small ∙ sym (cut_same s t walk pa h bias slot v);
    }

-- LENGTHS
pub stays_length : (s : Stand) (bias : List Atom) (shapes : List Shape) → length (stays_of s bias shapes) ≡ length shapes
stays_length s bias [] = refl
stays_length s bias (shape ∷ shapes) = ap suc (stays_length s bias shapes)
