-- The cases of loads and stores, as they are posed and as they are defined.
use Rattle.std.proofs.Common.{◌≡◌, ℕ, zero, suc, ◌+◌, ◌%◌, ◌^◌, ◌<◌, ◌≤◌, ◌⊎◌, Bool, true, false, ◌&&◌, ◌||◌, List, [], ◌∷◌, ◌++◌, Option, Some, None, refl, sym, ap, ◌∙◌, subst, inl, inr, arith, drop, get_or, length}
use Rattle.std.specs.Prelude.{nat_eq, not}
use Rattle.std.specs.List.{list_all, list_any}
use Rattle.std.proofs.Math.Seq.{drop-cons}
use Rattle.std.proofs.lemmas.List.{drop_all}
use Rattle.std.proofs.lemmas.Bool.{and_from, and_parts}
use Rattle.std.proofs.lemmas.List.Folds.{list_all-append}
use Rattle.dom_set.specs.Elements.{elements_of, is_in}
use Rattle.dom_set.proofs.Sets.{is_in-elements}
use Rattle.rv_isa.specs.declared.operation.Op.{Op}
use Rattle.rv_isa.specs.declared.operation.Op.TheVariants as ops
use Rattle.rv_isa.specs.Numbers.{op_numbered, op_number}
use Rattle.rv_isa.specs.Table.{row_of}
use Rattle.rv_isa.proofs.Numbers.{read}
use Rattle.rv_csr.specs.declared.cause.Cause.{Cause}
use Rattle.rv_script.specs.declared.place.Place.TheVariants.{Reg}
use Rattle.rv_script.specs.Lists.{HasItem}
use Rattle.tpl_ast.specs.declared.template.Atom.{Atom}
use Rattle.tpl_ast.specs.declared.template.Var.TheVariants as vars
use Rattle.fd_prob.specs.declared.problem.Assignment.{Assignment}
use Rattle.fd_prob.specs.declared.problem.Case.{Case as ACase}
use Rattle.fd_prob.specs.declared.relation.Rel.{Rel}
use Rattle.fd_prob.specs.declared.slot.Slot.{Slot}
use Rattle.fd_prob.specs.declared.slot.Slot.TheVariants as slots
use Rattle.fd_prob.specs.declared.slot.TheConstants.{SLOTS}
use Rattle.fd_prob.specs.Fitting.{domain_of, fits_case}
use Rattle.fd_prob.specs.Order.{IsAssignment}
use Rattle.fd_prob.specs.Relations.{holds, is_sum, value_of}
use Rattle.fd_prob.proofs.Fitted.{all_within, each_within}
use Rattle.row_parts.specs.Gaps.{counts}
use Rattle.data_ways.specs.declared.way.DataWay.{DataWay}
use Rattle.data_goals.specs.declared.accesses.Accesses.{Accesses}
use Rattle.data_goals.specs.declared.cuts.AddressCuts.{AddressCuts}
use Rattle.data_goals.specs.declared.goal.Goal.{Goal}
use Rattle.data_goals.specs.declared.goal.Goal.TheVariants.{Misaligned, Fails, Known, Fresh}
use Rattle.data_goals.specs.Goals.{IsCut, AreAddressCuts, address_test, apart_test, cause_of, end_test, goal_way, goal_ways, goals_by, is_aligned_to, misses, near_test, near_way, outcome_of, own_test, retires, there_test, ways_by, ways_for, ways_through}
use Rattle.data_goals.proofs.Through.{in_through}
use Rattle.leaf_link.specs.Turns.{is_narrow, is_small, may_be_source}
use Rattle.leaf_link.specs.Values.{instr_in}
use Rattle.leaf_link.specs.Cases.{Case, Fits, Shape as AShape, Way as AWay, all_judged, all_relate, atoms_hold, all_tests, base_domain, case_at, case_if, domain, is_held, is_linked, is_some_word, shape_of, sources_hold, unless, uses, uses_address, uses_rs1, uses_rs2, value_at}
use Rattle.leaf_link.specs.Answers.{values_in}
use Rattle.leaf_stand.specs.declared.shape.Shape.{Shape}
use Rattle.leaf_stand.specs.declared.stand.Stand.{Stand}
use Rattle.leaf_stand.specs.Kinds.{kind_of}
use Rattle.leaf_stand.specs.Posed.{FitsSame, data_ways, is_data, is_posed_at, stand_cases, stand_ways, ways_at}
use Rattle.leaf_stand.specs.Relations.{are_between, atom_rels, source_rels}
use Rattle.data_bytes.specs.Sets.{IsSetOf}
use Rattle.leaf_stand.specs.Sets.{AreDomains}
use Rattle.leaf_stand.specs.Stands.{outcome_at, shape_at, turn_of}
use Rattle.leaf_stand.proofs.Fits.{none_yet}
use Rattle.leaf_stand.proofs.Lists.{each_domain}
use Rattle.leaf_stand.proofs.Rows.{data_narrow}
use Rattle.leaf_stand.proofs.Single.{and_true, atoms_same, both_same, domain_in_case, fits_from, number_of, or_true, relations_of, within_of, word_at}
use Rattle.leaf_pose.specs.Goals.{AreGoalsOf, IsGoalOf, end_by, entered_at, goal_rels, goal_shape, near_domain, place_rel, place_rels, shape_by, sum_rel}
use Rattle.leaf_pose.specs.Posed.{Adds, HasFitted, IsShaped}
use Rattle.leaf_pose.specs.declared.shaped.Shaped.{Shaped}
use Rattle.leaf_pose.proofs.Accesses.{known_same, known_sources}
use Rattle.leaf_pose.proofs.Steps.{nothing_added, then_adds}

-- SHAPES
by_cause : (op : Op) (cause : Option Cause) → record { op = op; outcome = outcome_of cause; reaches = retires cause } ≡ shape_at (shape_by op cause)
by_cause op None = refl
by_cause op (Some cause) = refl

pub same_shape : (s : Stand) (a : Accesses) (leaf : List Atom) (op : Op) (way : DataWay) (goal : Goal) → shape_of op (goal_way (turn_of s) a leaf op way goal) ≡ shape_at (goal_shape op way.end goal)
same_shape s a leaf op way goal = by_cause op (cause_of op way.end goal)

-- DOMAINS
entered : (s : Stand) (leaf : List Atom) (op : Op) (cause : Option Cause) (slot : Slot) (v : ℕ) → entered_at (turn_of s) leaf (shape_by op cause) slot v ≡ (base_domain (turn_of s) 0 leaf (shape_at (shape_by op cause)) slot v && end_test (turn_of s) cause slot v)
entered s leaf op cause slots.Op v = sym (and_true _)
entered s leaf op cause slots.Rs1 v = sym (and_true _)
entered s leaf op cause slots.Rs2 v = sym (and_true _)
entered s leaf op cause slots.Imm v = sym (and_true _)
entered s leaf op cause slots.Rd v = sym (and_true _)
entered s leaf op cause slots.Csr v = sym (and_true _)
entered s leaf op cause slots.Ea v = sym (and_true _)
entered s leaf op cause slots.A v = sym (and_true _)
entered s leaf op cause slots.B v = sym (and_true _)
entered s leaf op cause slots.FirstPte v = refl
entered s leaf op cause slots.SecondPte v = refl
entered s leaf op cause slots.DataWord v = refl
entered s leaf op None slots.OldCsr v = refl
entered s leaf op (Some cause) slots.OldCsr v = refl
entered s leaf op None slots.Vector v = refl
entered s leaf op (Some cause) slots.Vector v = refl

and_assoc : (a b c : Bool) → ((a && b) && c) ≡ (a && (b && c))
and_assoc true b c = refl
and_assoc false b c = refl

near_shape : (s : Stand) (op : Op) (way : DataWay) (goal : Goal) → shape_of op (near_way (turn_of s) op way goal) ≡ shape_at (goal_shape op way.end goal)
near_shape s op way goal = by_cause op (cause_of op way.end goal)

pub goal_set : (s : Stand) (leaf : List Atom) (op : Op) (way : DataWay) (goal : Goal) (slot : Slot) (shape : Shape) (all : List ℕ) (cut : Option (List ℕ)) (left : List ℕ) → shape ≡ goal_shape op way.end goal → IsSetOf (entered_at (turn_of s) leaf shape slot) all
    → IsCut (near_test op way goal slot) cut → ((test own : ℕ → Bool) → IsSetOf test all → IsCut own cut → IsSetOf (λ v. test v && own v) left)
    → IsSetOf (near_domain s leaf op way goal slot) left
goal_set s leaf op way goal slot shape all cut left e is cut_is left_is v small =
    let own : ℕ → Bool = near_test op way goal slot in
    left_is (entered_at (turn_of s) leaf shape slot) own is cut_is v small
    ∙ ap (λ (sh : Shape). entered_at (turn_of s) leaf sh slot v && own v) e
    ∙ ap (λ (b : Bool). b && own v) (entered s leaf op (cause_of op way.end goal) slot v)
    ∙ and_assoc (base_domain (turn_of s) 0 leaf (shape_at (goal_shape op way.end goal)) slot v) (end_test (turn_of s) (cause_of op way.end goal) slot v) (own v)
    ∙ ap (λ (sh : AShape). base_domain (turn_of s) 0 leaf sh slot v && (near_way (turn_of s) op way goal).also slot v) (sym (near_shape s op way goal))

-- what a goal says of an address is what it says but for where it leads, and where it leads
moved : (c e o : Bool) → ((c && e) && o) ≡ ((e && o) && (c && true))
moved true e o = sym (and_true (e && o))
moved false true true = refl
moved false true false = refl
moved false false o = refl

moved_by : (c e o t : Bool) → (((c && e) && o) && t) ≡ ((e && o) && (c && t))
moved_by true e o t = refl
moved_by false true true t = refl
moved_by false true false t = refl
moved_by false false o t = refl

address_parts : (a : Accesses) (op : Op) (way : DataWay) (wanted : ℕ → Bool) (goal : Goal) (v : ℕ) → address_test a op way wanted goal v ≡ (own_test op way goal v && (apart_test way goal v && there_test a op way wanted goal v))
address_parts a op way wanted Misaligned v = sym (and_true (own_test op way Misaligned v))
address_parts a op way wanted Fails v = moved (counts way.apart v) (is_in way.ea v) (is_aligned_to op v)
address_parts a op way wanted Known v = moved_by (counts way.apart v) (is_in way.ea v) (is_aligned_to op v) (there_test a op way wanted Known v)
address_parts a op way wanted Fresh v = moved_by (counts way.apart v) (is_in way.ea v) (is_aligned_to op v) (there_test a op way wanted Fresh v)

three : (b e o t : Bool) → (b && (e && (o && t))) ≡ ((b && (e && o)) && t)
three true true o t = refl
three true false o t = refl
three false e o t = refl

abbrev leads : Stand → Accesses → List Atom → Op → DataWay → Goal → ℕ → Bool
leads s a leaf op way goal v = apart_test way goal v && there_test a op way (all_tests (turn_of s) leaf vars.Pa) goal v

ea_parts : (s : Stand) (a : Accesses) (leaf : List Atom) (op : Op) (way : DataWay) (goal : Goal) (v : ℕ)
    → domain (turn_of s) 0 leaf op (goal_way (turn_of s) a leaf op way goal) slots.Ea v ≡ (near_domain s leaf op way goal slots.Ea v && leads s a leaf op way goal v)
ea_parts s a leaf op way goal v =
    let base : Bool = base_domain (turn_of s) 0 leaf (shape_of op (goal_way (turn_of s) a leaf op way goal)) slots.Ea v in
    let end : Bool = end_test (turn_of s) (cause_of op way.end goal) slots.Ea v in
    ap (λ (b : Bool). base && (end && b)) (address_parts a op way (all_tests (turn_of s) leaf vars.Pa) goal v) ∙ three base end (own_test op way goal v) (leads s a leaf op way goal v)

-- so a variable has a value of the goal's domain exactly where it has one of the near domain, and the address leads there
whole_domain : (s : Stand) (a : Accesses) (leaf : List Atom) (op : Op) (way : DataWay) (goal : Goal) (n : ℕ) → leads s a leaf op way goal n ≡ true → (slot : Slot) (v : ℕ) → (slot ≡ slots.Ea → v ≡ n)
    → near_domain s leaf op way goal slot v ≡ domain (turn_of s) 0 leaf op (goal_way (turn_of s) a leaf op way goal) slot v
whole_domain s a leaf op way goal n h slots.Ea v e =
    sym (ea_parts s a leaf op way goal v ∙ ap (λ (b : Bool). near_domain s leaf op way goal slots.Ea v && b) (ap (leads s a leaf op way goal) (e refl) ∙ h) ∙ and_true _)
whole_domain s a leaf op way goal n h slots.Op v e = refl
whole_domain s a leaf op way goal n h slots.Rs1 v e = refl
whole_domain s a leaf op way goal n h slots.Rs2 v e = refl
whole_domain s a leaf op way goal n h slots.Imm v e = refl
whole_domain s a leaf op way goal n h slots.Rd v e = refl
whole_domain s a leaf op way goal n h slots.Csr v e = refl
whole_domain s a leaf op way goal n h slots.A v e = refl
whole_domain s a leaf op way goal n h slots.B v e = refl
whole_domain s a leaf op way goal n h slots.FirstPte v e = refl
whole_domain s a leaf op way goal n h slots.SecondPte v e = refl
whole_domain s a leaf op way goal n h slots.DataWord v e = refl
whole_domain s a leaf op way goal n h slots.OldCsr v e = refl
whole_domain s a leaf op way goal n h slots.Vector v e = refl

-- all words, where new entries and words may be
pub all_entered : (s : Stand) (leaf : List Atom) (shape : Shape) (slot : Slot) (set : List ℕ) → (slot ≡ slots.FirstPte) ⊎ ((slot ≡ slots.SecondPte) ⊎ (slot ≡ slots.DataWord)) → set ≡ elements_of (λ v. true) → IsSetOf (entered_at (turn_of s) leaf shape slot) set
all_entered s leaf shape slot set h e v small = ap (λ (l : List ℕ). is_in l v) e ∙ is_in-elements (λ n. true) v small ∙ sym (elim h [
  | inl k ↦ ap (λ (r : Slot). entered_at (turn_of s) leaf shape r v) k
  | inr k ↦ elim k [
    | inl m ↦ ap (λ (r : Slot). entered_at (turn_of s) leaf shape r v) m
    | inr m ↦ ap (λ (r : Slot). entered_at (turn_of s) leaf shape r v) m
  ]
])

-- RELATIONS
no_target : (op : Op) → is_data (kind_of op) ≡ true → (outcome : ℕ) (reaches : Bool) → uses (record { op = op; outcome = outcome; reaches = reaches }) vars.Target ≡ false
no_target ops.Lb h outcome reaches = refl
no_target ops.Lh h outcome reaches = refl
no_target ops.Lw h outcome reaches = refl
no_target ops.Lbu h outcome reaches = refl
no_target ops.Lhu h outcome reaches = refl
no_target ops.Sb h outcome reaches = refl
no_target ops.Sh h outcome reaches = refl
no_target ops.Sw h outcome reaches = refl
no_target ops.Lui h outcome reaches = absurd (cc h)
no_target _ h outcome reaches = absurd (cc h)

data_source : (s : Stand) (op : Op) (x : Assignment) → is_data (kind_of op) ≡ true → value_of x slots.Op ≡ op_number op → may_be_source (turn_of s) (instr_in (values_in x)) ≡ true
data_source s op x p e =
    let o : (instr_in (values_in x)).op ≡ op = ap op_numbered e ∙ read op in
    let n : is_narrow (row_of (instr_in (values_in x)).op) (instr_in (values_in x)).csr ≡ false = ap (λ (q : Op). is_narrow (row_of q) (instr_in (values_in x)).csr) o ∙ data_narrow op (instr_in (values_in x)).csr p in
    ap (λ (b : Bool). not b || is_small (turn_of s).sources) n

tail : (p q r e : Bool) → ((p && (q && (r && true))) && e) ≡ (p && (q && (r && e)))
tail true true true e = refl
tail true true false e = refl
tail true false r e = refl
tail false q r e = refl

with_sum : (u h w q r e : Bool) → w ≡ true → ((unless u (h && true) && (q && (r && true))) && e) ≡ (unless u (h && w) && (q && (r && e)))
with_sum u h w q r e a = rw (a) (tail (unless u (h && true)) q r e)

abbrev sum_of : Assignment → Bool
sum_of x = nat_eq ((value_of x slots.A + value_of x slots.Imm) % 2 ^ 32) (value_of x slots.Ea)

sum_same : (op : Op) (x : Assignment) (used : Bool) → list_all (holds op x) (sum_rel used) ≡ unless used (sum_of x)
sum_same op x true = and_true (is_sum x slots.A slots.Imm slots.Ea)
sum_same op x false = refl

sources_same : (s : Stand) (op : Op) (sh : AShape) (x : Assignment) → is_data (kind_of op) ≡ true → value_of x slots.Op ≡ op_number op → (known_sources s sh (values_in x) && unless (uses_address sh) (sum_of x)) ≡ sources_hold (turn_of s) sh (values_in x)
sources_same s op sh x p e =
    with_sum (uses_rs1 sh) (is_held ((turn_of s).known (Reg (value_of x slots.Rs1))) (value_of x slots.A)) (is_some_word ((turn_of s).known (Reg (value_of x slots.Rs1))) || may_be_source (turn_of s) (instr_in (values_in x)))
    (unless (uses_rs2 sh) (is_held ((turn_of s).known (Reg (value_of x slots.Rs2))) (value_of x slots.B))) (unless (uses_rs1 sh && uses_rs2 sh) (is_linked (values_in x))) (unless (uses_address sh) (sum_of x))
    (or_true (is_some_word ((turn_of s).known (Reg (value_of x slots.Rs1)))) (may_be_source (turn_of s) (instr_in (values_in x))) (data_source s op x p e))

-- THE CASE
or_none : (a : Bool) → (a || false) ≡ a
or_none true = refl
or_none false = refl

swap : (k a m : Bool) → ((k && a) && m) ≡ ((k && m) && a)
swap true true m = sym (and_true m)
swap true false true = refl
swap true false false = refl
swap false a m = refl

-- the relation of a place holds where the address leads there
place_same : (op : Op) (x : Assignment) (place : Option (List ℕ)) (test : ℕ → Bool) → IsAssignment x → IsCut test place → list_all (holds op x) (place_rel place) ≡ test (value_of x slots.Ea)
place_same op x None test hx cut = sym (cut (value_of x slots.Ea) (word_at x hx slots.Ea))
place_same op x (Some set) test hx cut = and_true (is_in set (value_of x slots.Ea)) ∙ cut (value_of x slots.Ea) (word_at x hx slots.Ea)

-- the two relations of a place hold where the address counts and leads there
places_same : (s : Stand) (a : Accesses) (leaf : List Atom) (op : Op) (lead : DataWay) (goal : Goal) (x : Assignment) (place : AddressCuts) → IsAssignment x → AreAddressCuts a op lead (all_tests (turn_of s) leaf vars.Pa) goal place
    → list_all (holds op x) (place_rels place) ≡ leads s a leaf op lead goal (value_of x slots.Ea)
places_same s a leaf op lead goal x place hx is =
    list_all-append (holds op x) (place_rel place.apart) (place_rel place.leads)
    ∙ both_same _ _ _ _ (place_same op x place.apart (apart_test lead goal) hx is.apart) (place_same op x place.leads (there_test a op lead (all_tests (turn_of s) leaf vars.Pa) goal) hx is.leads)

pub goal_case_same : (s : Stand) (a : Accesses) (leaf : List Atom) (op : Op) (lead : DataWay) (goal : Goal) (c : ACase) (place : AddressCuts) → is_data (kind_of op) ≡ true → all_judged (shape_at (goal_shape op lead.end goal)) leaf ≡ true → are_between leaf ≡ true → c.op ≡ op_number op
    → AreDomains (near_domain s leaf op lead goal) SLOTS c.doms → c.rels ≡ goal_rels s leaf (goal_shape op lead.end goal) ++ place_rels place → AreAddressCuts a op lead (all_tests (turn_of s) leaf vars.Pa) goal place → FitsSame (c ∷ []) (case_at (turn_of s) 0 leaf op (goal_way (turn_of s) a leaf op lead goal) ∷ [])
goal_case_same s a leaf op lead goal c place kind j b n d r cut x hx = (there, back)
  where
    sh : AShape
    sh = shape_at (goal_shape op lead.end goal)

    way : AWay
    way = goal_way (turn_of s) a leaf op lead goal

    led : Bool
    led = leads s a leaf op lead goal (value_of x slots.Ea)

    near : (slot : Slot) → is_in (domain_of c slot) (value_of x slot) ≡ near_domain s leaf op lead goal slot (value_of x slot)
    near slot =
        ap (λ (set : List ℕ). is_in set (value_of x slot)) (domain_in_case c slot)
        ∙ each_domain (λ q set. IsSetOf (near_domain s leaf op lead goal q) set) c.doms d slot (value_of x slot) (word_at x hx slot)

    inside : led ≡ true → (slot : Slot) → is_in (domain_of c slot) (value_of x slot) ≡ domain (turn_of s) 0 leaf op way slot (value_of x slot)
    inside h slot = near slot ∙ whole_domain s a leaf op lead goal (value_of x slots.Ea) h slot (value_of x slot) (λ e. ap (value_of x) e)

    split : value_of x slots.Op ≡ c.op → list_all (holds (op_numbered c.op) x) c.rels ≡ ((sources_hold (turn_of s) sh (values_in x) && all_relate op (value_at sh s.pc 0 (values_in x)) leaf) && led)
    split e =
        ap (λ (o : Op). list_all (holds o x) c.rels) (ap op_numbered n ∙ read op) ∙ ap (λ (l : List Rel). list_all (holds op x) l) r
        ∙ list_all-append (holds op x) (goal_rels s leaf (goal_shape op lead.end goal)) (place_rels place)
        ∙ both_same _ _ _ _ (own e) (places_same s a leaf op lead goal x place hx cut)
      where
        own : value_of x slots.Op ≡ c.op → list_all (holds op x) (goal_rels s leaf (goal_shape op lead.end goal)) ≡ (sources_hold (turn_of s) sh (values_in x) && all_relate op (value_at sh s.pc 0 (values_in x)) leaf)
        own e =
            list_all-append (holds op x) (source_rels sh s.registers ++ atom_rels leaf) (sum_rel (uses_address sh))
            ∙ both_same _ _ _ _ (list_all-append (holds op x) (source_rels sh s.registers) (atom_rels leaf) ∙ both_same _ _ _ _ (known_same s op sh x) (atoms_same x s.pc sh (e ∙ n) leaf j b)) (sum_same op x (uses_address sh))
            ∙ swap (known_sources s sh (values_in x)) (all_relate op (value_at sh s.pc 0 (values_in x)) leaf) (unless (uses_address sh) (sum_of x))
            ∙ ap (λ (y : Bool). y && all_relate op (value_at sh s.pc 0 (values_in x)) leaf) (sources_same s op sh x kind (e ∙ n))

    no_aim : (y : Bool) → unless (uses sh vars.Target) y ≡ true
    no_aim y = ap (λ (u : Bool). unless u y) (no_target op kind sh.outcome sh.reaches)

    there : list_any (fits_case x) (c ∷ []) ≡ true → Fits (case_at (turn_of s) 0 leaf op way ∷ []) (values_in x)
    there h =
        let k : fits_case x c ≡ true = sym (or_none (fits_case x c)) ∙ h in
        let e = number_of x c k in
        let q = and_parts (sources_hold (turn_of s) sh (values_in x) && all_relate op (value_at sh s.pc 0 (values_in x)) leaf) led (sym (split e) ∙ relations_of x c k) in
        let p = and_parts (sources_hold (turn_of s) sh (values_in x)) (all_relate op (value_at sh s.pc 0 (values_in x)) leaf) q.0 in
        inl (record {
          op = e ∙ n;
          each = λ slot. sym (inside q.1 slot) ∙ each_within c x (within_of x c k) slot;
          holds = subst (λ (w : AShape). (sources_hold (turn_of s) w (values_in x) && (atoms_hold (turn_of s) leaf w (values_in x) && true)) ≡ true) (sym (same_shape s a leaf op lead goal))
              (and_from _ _ p.0 (and_from _ _ (and_from _ _ p.1 (no_aim _)) refl));
        })

    back : Fits (case_at (turn_of s) 0 leaf op way ∷ []) (values_in x) → list_any (fits_case x) (c ∷ []) ≡ true
    back (inl f) =
        let e : value_of x slots.Op ≡ c.op = f.op ∙ sym n in
        let here = and_parts (near_domain s leaf op lead goal slots.Ea (value_of x slots.Ea)) led (sym (ea_parts s a leaf op lead goal (value_of x slots.Ea)) ∙ f.each slots.Ea) in
        let all = subst (λ (q : AShape). (sources_hold (turn_of s) q (values_in x) && (atoms_hold (turn_of s) leaf q (values_in x) && true)) ≡ true) (same_shape s a leaf op lead goal) f.holds in
        let one = and_parts (sources_hold (turn_of s) sh (values_in x)) (atoms_hold (turn_of s) leaf sh (values_in x) && true) all in
        let two = and_parts (atoms_hold (turn_of s) leaf sh (values_in x)) true one.1 in
        let atoms = and_parts (all_relate op (value_at sh s.pc 0 (values_in x)) leaf) _ two.0 in
        or_none (fits_case x c) ∙ fits_from x c e (all_within c x (λ slot. inside here.1 slot ∙ f.each slot)) (split e ∙ and_from _ _ (and_from _ _ one.0 atoms.0) here.1)
    back (inr f) = absurd f

-- where no address fits, nothing does
none_fits : (s : Stand) (a : Accesses) (leaf : List Atom) (op : Op) (way : DataWay) (goal : Goal) → ((v : ℕ) → v < 2 ^ 32 → domain (turn_of s) 0 leaf op (goal_way (turn_of s) a leaf op way goal) slots.Ea v ≡ true → ⊥)
    → FitsSame [] (stand_cases s leaf op (goal_way (turn_of s) a leaf op way goal ∷ []))
none_fits s a leaf op way goal none x hx = (λ h. absurd (cc h), λ f. absurd (nothing (is_posed_at s leaf (shape_of op (goal_way (turn_of s) a leaf op way goal))) f))
  where
    nothing : (b : Bool) → Fits (case_if b (case_at (turn_of s) 0 leaf op (goal_way (turn_of s) a leaf op way goal)) []) (values_in x) → ⊥
    nothing true (inl f) = none (value_of x slots.Ea) (word_at x hx slots.Ea) (f.each slots.Ea)
    nothing true (inr f) = absurd f
    nothing false f = absurd f

in_none : (set : List ℕ) (v : ℕ) → set ≡ [] → is_in set v ≡ true → ⊥
in_none set v e h = let z : is_in [] v ≡ true = subst (λ (l : List ℕ). is_in l v ≡ true) e h in absurd (cc z)

pub goal_empty : (s : Stand) (a : Accesses) (leaf : List Atom) (op : Op) (way : DataWay) (goal : Goal) (ea : List ℕ) → IsSetOf (near_domain s leaf op way goal slots.Ea) ea → ea ≡ []
    → FitsSame [] (stand_cases s leaf op (goal_way (turn_of s) a leaf op way goal ∷ []))
goal_empty s a leaf op way goal ea is none =
    none_fits s a leaf op way goal (λ v small h. in_none ea v none (is v small ∙ (and_parts (near_domain s leaf op way goal slots.Ea v) (leads s a leaf op way goal v) (sym (ea_parts s a leaf op way goal v) ∙ h)).0))

-- and where no address leads there
pub goal_nowhere : (s : Stand) (a : Accesses) (leaf : List Atom) (op : Op) (way : DataWay) (goal : Goal) (set : Option (List ℕ)) → IsCut (there_test a op way (all_tests (turn_of s) leaf vars.Pa) goal) set → set ≡ Some []
    → FitsSame [] (stand_cases s leaf op (goal_way (turn_of s) a leaf op way goal ∷ []))
goal_nowhere s a leaf op way goal set cut e =
    let there : ℕ → Bool = there_test a op way (all_tests (turn_of s) leaf vars.Pa) goal in
    let is : IsSetOf there [] = subst (λ (o : Option (List ℕ)). IsCut there o) e cut in
    none_fits s a leaf op way goal (λ v small h.
    let led = and_parts (near_domain s leaf op way goal slots.Ea v) (leads s a leaf op way goal v) (sym (ea_parts s a leaf op way goal v) ∙ h) in
    in_none [] v refl (is v small ∙ (and_parts (apart_test way goal v) (there v) led.1).1))

-- APPENDING
ways_of_data : (s : Stand) (leaf : List Atom) (op : Op) (a : Accesses) → is_data (kind_of op) ≡ true → s.accesses ≡ Some a → ways_at s leaf op ≡ goal_ways (turn_of s) a leaf op
ways_of_data s leaf op a n e =
    ap (λ (b : Bool). Rattle.std.specs.Prelude.if◌then◌else◌ b (data_ways s leaf op s.accesses) (stand_ways s op)) n ∙ ap (λ (o : Option Accesses). data_ways s leaf op o) e

outcome_by : (cause : Option Cause) → outcome_of cause ≡ outcome_at (end_by cause)
outcome_by None = refl
outcome_by (Some cause) = refl

pub goal_shaped : (s : Stand) (a : Accesses) (leaf : List Atom) (op : Op) (way : DataWay) (goal : Goal) (shape : Shape) (c : ACase) → is_data (kind_of op) ≡ true → s.accesses ≡ Some a → IsGoalOf s leaf op a way goal → shape ≡ goal_shape op way.end goal
    → is_posed_at s leaf (shape_at (goal_shape op way.end goal)) ≡ true → FitsSame (c ∷ []) (case_at (turn_of s) 0 leaf op (goal_way (turn_of s) a leaf op way goal) ∷ []) → IsShaped s leaf shape c
goal_shaped s a leaf op way goal shape c n e item is posed same = subst (λ (sh : Shape). IsShaped s leaf sh c) (sym is) of_goal
  where
    of_goal : IsShaped s leaf (goal_shape op way.end goal) c
    of_goal x hx k = go ((same x hx).0 (ap (λ (b : Bool). b || false) k))
      where
        go : Fits (case_at (turn_of s) 0 leaf op (goal_way (turn_of s) a leaf op way goal) ∷ []) (values_in x) → HasFitted s leaf (goal_shape op way.end goal) (values_in x)
        go (inl f) = record {
          whole = goal_way (turn_of s) a leaf op way goal;
          is = subst (λ (l : List AWay). HasItem l (goal_way (turn_of s) a leaf op way goal)) (sym (ways_of_data s leaf op a n e)) item;
          outcome = outcome_by (cause_of op way.end goal);
          reaches = refl;
          inner = λ plain. absurd (cc (n, plain));
          posed = posed;
          fits = f;
        }
        go (inr f) = absurd f

posed_same : (s : Stand) (a : Accesses) (leaf : List Atom) (op : Op) (way : DataWay) (goal : Goal) → is_posed_at s leaf (shape_of op (goal_way (turn_of s) a leaf op way goal)) ≡ is_posed_at s leaf (shape_at (goal_shape op way.end goal))
posed_same s a leaf op way goal = ap (λ (sh : AShape). is_posed_at s leaf sh) (same_shape s a leaf op way goal)

pub goal_posed : (s : Stand) (a : Accesses) (leaf : List Atom) (op : Op) (way : DataWay) (goal : Goal) (c : ACase) → is_posed_at s leaf (shape_at (goal_shape op way.end goal)) ≡ true
    → FitsSame (c ∷ []) (case_at (turn_of s) 0 leaf op (goal_way (turn_of s) a leaf op way goal) ∷ []) → FitsSame (c ∷ []) (stand_cases s leaf op (goal_way (turn_of s) a leaf op way goal ∷ []))
goal_posed s a leaf op way goal c p h = subst (λ (b : Bool). FitsSame (c ∷ []) (case_if b (case_at (turn_of s) 0 leaf op (goal_way (turn_of s) a leaf op way goal)) [])) (sym (posed_same s a leaf op way goal ∙ p)) h

pub goal_unposed : (s : Stand) (a : Accesses) (leaf : List Atom) (op : Op) (way : DataWay) (goal : Goal) → is_posed_at s leaf (shape_at (goal_shape op way.end goal)) ≡ false → FitsSame [] (stand_cases s leaf op (goal_way (turn_of s) a leaf op way goal ∷ []))
goal_unposed s a leaf op way goal p = subst (λ (b : Bool). FitsSame [] (case_if b (case_at (turn_of s) 0 leaf op (goal_way (turn_of s) a leaf op way goal)) [])) (sym (posed_same s a leaf op way goal ∙ p)) none_yet

-- ALL GOALS
merge : (b : Bool) (c : Case) (cs : List Case) → case_if b c [] ++ cs ≡ case_if b c cs
merge true c cs = refl
merge false c cs = refl

before : (b : Bool) (c : Case) (cs ds : List Case) → case_if b c cs ++ ds ≡ case_if b c (cs ++ ds)
before true c cs ds = refl
before false c cs ds = refl

pub either_cases : (s : Stand) (leaf : List Atom) (op : Op) (ps qs : List AWay) → stand_cases s leaf op ps ++ stand_cases s leaf op qs ≡ stand_cases s leaf op (ps ++ qs)
either_cases s leaf op [] qs = refl
either_cases s leaf op (p ∷ ps) qs =
    before (is_posed_at s leaf (shape_of op p)) (case_at (turn_of s) 0 leaf op p) (stand_cases s leaf op ps) (stand_cases s leaf op qs)
    ∙ ap (λ (l : List Case). case_if (is_posed_at s leaf (shape_of op p)) (case_at (turn_of s) 0 leaf op p) l) (either_cases s leaf op ps qs)

pub adds_either : (s : Stand) (leaf : List Atom) (op : Op) (ps qs : List AWay) (a b c : Shaped) → Adds s leaf a b (stand_cases s leaf op ps) → Adds s leaf b c (stand_cases s leaf op qs) → Adds s leaf a c (stand_cases s leaf op (ps ++ qs))
adds_either s leaf op ps qs a b c h k = subst (λ (l : List Case). Adds s leaf a c l) (either_cases s leaf op ps qs) (then_adds s leaf a b c (stand_cases s leaf op ps) (stand_cases s leaf op qs) h k)

-- the cases of the ways of a list that are yet to come
pub next_data_way : (s : Stand) (leaf : List Atom) (op : Op) (of : Accesses) (ways : List DataWay) (i : ℕ) (d : DataWay) (a b end : Shaped) → i < length ways → Adds s leaf a b (stand_cases s leaf op (ways_by (turn_of s) of leaf op (get_or ways i d) (goals_by (get_or ways i d).end)))
    → Adds s leaf b end (stand_cases s leaf op (ways_through (turn_of s) of leaf op (drop (i + 1) ways))) → Adds s leaf a end (stand_cases s leaf op (ways_through (turn_of s) of leaf op (drop i ways)))
next_data_way s leaf op of ways i d a b end lt step rest =
    let n : i + 1 ≡ suc i = omega arith in
    let e : drop i ways ≡ get_or ways i d ∷ drop (i + 1) ways = drop-cons ways i d lt ∙ ap (λ (m : ℕ). get_or ways i d ∷ drop m ways) (sym n) in
    subst (λ (l : List DataWay). Adds s leaf a end (stand_cases s leaf op (ways_through (turn_of s) of leaf op l))) (sym e)
    (adds_either s leaf op (ways_by (turn_of s) of leaf op (get_or ways i d) (goals_by (get_or ways i d).end)) (ways_through (turn_of s) of leaf op (drop (i + 1) ways)) a b end step rest)

pub no_data_ways : (s : Stand) (leaf : List Atom) (op : Op) (of : Accesses) (ways : List DataWay) (i : ℕ) (a : Shaped) → length ways ≤ i → Adds s leaf a a (stand_cases s leaf op (ways_through (turn_of s) of leaf op (drop i ways)))
no_data_ways s leaf op of ways i a le = subst (λ (l : List DataWay). Adds s leaf a a (stand_cases s leaf op (ways_through (turn_of s) of leaf op l))) (sym (drop_all i ways le)) (nothing_added s leaf a [] none_yet)

item_at : {A : Type 0} (xs : List A) (i : ℕ) (d : A) → i < length xs → HasItem xs (get_or xs i d)
item_at [] i d lt = absurd (omega (arith, lt))
item_at (x ∷ xs) zero d lt = inl refl
item_at (x ∷ xs) (suc i) d lt = inr (item_at xs i d (omega (arith, lt)))

-- the goals of a way of the operation are the operation's
pub way_goals : (s : Stand) (leaf : List Atom) (op : Op) (a : Accesses) (ways : List DataWay) (i : ℕ) (d : DataWay) → ways ≡ ways_for a op → i < length ways → AreGoalsOf s leaf op a (get_or ways i d)
way_goals s leaf op a ways i d e lt goal g =
    inr (in_through (turn_of s) a leaf op (ways_for a op) (get_or ways i d) goal (subst (λ (l : List DataWay). HasItem l (get_or ways i d)) e (item_at ways i d lt)) g)

-- and so is the misaligned address
pub missed_goal : (s : Stand) (leaf : List Atom) (op : Op) (a : Accesses) → IsGoalOf s leaf op a misses Misaligned
missed_goal s leaf op a = inl refl

pub goals_added : (s : Stand) (leaf : List Atom) (op : Op) (a : Accesses) (start first end : Shaped) → is_data (kind_of op) ≡ true → s.accesses ≡ Some a → Adds s leaf start first (stand_cases s leaf op (goal_way (turn_of s) a leaf op misses Misaligned ∷ []))
    → Adds s leaf first end (stand_cases s leaf op (ways_through (turn_of s) a leaf op (ways_for a op))) → Adds s leaf start end (stand_cases s leaf op (ways_at s leaf op))
goals_added s leaf op a start first end n is here rest =
    subst (λ (l : List AWay). Adds s leaf start end (stand_cases s leaf op l)) (sym (ways_of_data s leaf op a n is))
    (adds_either s leaf op (goal_way (turn_of s) a leaf op misses Misaligned ∷ []) (ways_through (turn_of s) a leaf op (ways_for a op)) start first end here rest)

-- nothing where it isn't told what loads and stores may do
pub no_goals : (s : Stand) (leaf : List Atom) (op : Op) → is_data (kind_of op) ≡ true → s.accesses ≡ None → FitsSame [] (stand_cases s leaf op (ways_at s leaf op))
no_goals s leaf op n e =
    subst (λ (l : List AWay). FitsSame [] (stand_cases s leaf op l))
    (sym (ap (λ (b : Bool). Rattle.std.specs.Prelude.if◌then◌else◌ b (data_ways s leaf op s.accesses) (stand_ways s op)) n ∙ ap (λ (o : Option Accesses). data_ways s leaf op o) e)) none_yet
