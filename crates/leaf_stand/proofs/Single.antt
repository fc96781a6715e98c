-- The case of a way, as it is posed and as it is defined.
use Rattle.std.proofs.Common.{◌≡◌, ℕ, ◌+◌, ◌-◌, ◌%◌, ◌<◌, ◌^◌, Bool, true, false, ◌&&◌, ◌||◌, List, [], ◌∷◌, ◌++◌, Option, Some, None, refl, sym, ap, ◌∙◌, arith, inl, inr}
use Rattle.std.specs.Prelude.{not, if◌then◌else◌, nat_eq, slice_get, slice_index_or}
use Rattle.std.specs.Bool.{◌==◌}
use Rattle.std.specs.List.{list_all, list_any}
use Rattle.std.proofs.lemmas.Bool.{and_from, and_parts}
use Rattle.std.proofs.lemmas.Bool.Decides.{nat_tests}
use Rattle.std.proofs.lemmas.List.Folds.{list_all-append}
use Rattle.dom_set.specs.Elements.{is_in}
use Rattle.rv_isa.specs.declared.operation.Op.{Op}
use Rattle.rv_isa.specs.declared.operation.Op.TheVariants as ops
use Rattle.rv_isa.specs.Arithmetic.{is_branch, is_taken}
use Rattle.rv_isa.specs.Table.{row_of}
use Rattle.rv_csr.specs.declared.table.LazyRegister.{LazyRegister}
use Rattle.tpl_ast.specs.declared.template.Atom.{Atom}
use Rattle.tpl_ast.specs.declared.template.Atom.TheVariants as atoms
use Rattle.tpl_ast.specs.declared.template.Var.{Var}
use Rattle.tpl_ast.specs.declared.template.Var.TheVariants as vars
use Rattle.fd_prob.specs.declared.problem.Assignment.{Assignment}
use Rattle.fd_prob.specs.declared.problem.Case.{Case as ACase}
use Rattle.fd_prob.specs.declared.relation.Rel.{Rel}
use Rattle.fd_prob.specs.declared.slot.Slot.{Slot}
use Rattle.fd_prob.specs.declared.slot.Slot.TheVariants as slots
use Rattle.fd_prob.specs.declared.slot.TheConstants.{SLOTS}
use Rattle.fd_prob.specs.Fitting.{domain_of, fits_case, is_within}
use Rattle.fd_prob.specs.Order.{IsAssignment}
use Rattle.fd_prob.specs.Relations.{agrees, has_condition, holds, target_of, value_of, is_held as is_held_by, is_some_in, is_linked as is_linked_by}
use Rattle.rv_isa.proofs.Numbers.{read}
use Rattle.rv_isa.specs.Numbers.{op_numbered, op_number}
use Rattle.fd_prob.specs.Slots.{slot_number}
use Rattle.fd_prob.proofs.Fitted.{all_within, each_within}
use Rattle.fd_prob.proofs.Places.{place_below}
use Rattle.leaf_link.specs.Turns.{is_narrow, is_small, may_be_source}
use Rattle.leaf_link.specs.Values.{instr_in}
use Rattle.leaf_link.specs.Cases.{Fits, Shape as AShape, all_judged, all_relate, all_tests, base_domain, case_at, domain, is_held, is_judged, is_relative, is_some_word, relates, sources_hold, target_at, unless, uses, uses_address, uses_rs1, uses_rs2, value_at}
use Rattle.leaf_link.specs.Answers.{values_in}
use Rattle.leaf_stand.specs.declared.shape.End.{End}
use Rattle.leaf_stand.specs.declared.shape.End.TheVariants.{Retires, Traps}
use Rattle.leaf_stand.specs.declared.stand.Stand.{Stand}
use Rattle.leaf_stand.specs.declared.way.Aim.{Aim}
use Rattle.leaf_stand.specs.declared.way.Aim.TheVariants.{Anywhere, Aligned, Misaligned}
use Rattle.leaf_stand.specs.declared.way.Way.{Way}
use Rattle.leaf_stand.specs.Kinds.{kind_of}
use Rattle.leaf_stand.specs.Posed.{FitsSame, is_listed}
use Rattle.data_goals.specs.Goals.{IsCut}
use Rattle.leaf_stand.specs.Relations.{AreRelations, are_between, atom_rel, atom_rels, differ_rel, has_slot, held_rel, is_aimed, is_between, is_steered, linked_rel, may_aim, may_steer, same_rel, slot_of, source_rels, taken_rel, target_rel, target_test, way_at}
use Rattle.data_bytes.specs.Sets.{IsSetOf}
use Rattle.leaf_stand.specs.Sets.{AreDomains}
use Rattle.leaf_stand.specs.Stands.{also_at, also_by, domain_at, held, shape_at, turn_of}
use Rattle.leaf_stand.specs.Internal.Ways.{shape_with}
use Rattle.leaf_stand.proofs.Lists.{each_domain}
use Rattle.leaf_stand.proofs.Rows.{built_address, built_narrow, listed_built}

pub and_true : (a : Bool) → (a && true) ≡ a
and_true true = refl
and_true false = refl

pub or_true : (a b : Bool) → b ≡ true → (a || b) ≡ true
or_true true b h = refl
or_true false b h = h

-- DOMAINS
pub own_domain : (s : Stand) (leaf : List Atom) (op : Op) (end : End) (slot : Slot) (v : ℕ) → (base_domain (turn_of s) 0 leaf (shape_at (shape_with op end)) slot v && also_at (turn_of s) end slot v) ≡ domain_at (turn_of s) leaf (shape_with op end) None slot v
own_domain s leaf op Retires slots.Op v = and_true _
own_domain s leaf op Retires slots.Rs1 v = and_true _
own_domain s leaf op Retires slots.Rs2 v = and_true _
own_domain s leaf op Retires slots.Imm v = and_true _
own_domain s leaf op Retires slots.Rd v = and_true _
own_domain s leaf op Retires slots.Csr v = and_true _
own_domain s leaf op Retires slots.Ea v = and_true _
own_domain s leaf op Retires slots.A v = and_true _
own_domain s leaf op Retires slots.B v = and_true _
own_domain s leaf op Retires slots.FirstPte v = refl
own_domain s leaf op Retires slots.SecondPte v = refl
own_domain s leaf op Retires slots.DataWord v = refl
own_domain s leaf op Retires slots.OldCsr v = refl
own_domain s leaf op Retires slots.Vector v = refl
own_domain s leaf op (Traps cause) slots.Op v = and_true _
own_domain s leaf op (Traps cause) slots.Rs1 v = and_true _
own_domain s leaf op (Traps cause) slots.Rs2 v = and_true _
own_domain s leaf op (Traps cause) slots.Imm v = and_true _
own_domain s leaf op (Traps cause) slots.Rd v = and_true _
own_domain s leaf op (Traps cause) slots.Csr v = and_true _
own_domain s leaf op (Traps cause) slots.Ea v = and_true _
own_domain s leaf op (Traps cause) slots.A v = and_true _
own_domain s leaf op (Traps cause) slots.B v = and_true _
own_domain s leaf op (Traps cause) slots.FirstPte v = refl
own_domain s leaf op (Traps cause) slots.SecondPte v = refl
own_domain s leaf op (Traps cause) slots.DataWord v = refl
own_domain s leaf op (Traps cause) slots.OldCsr v = refl
own_domain s leaf op (Traps cause) slots.Vector v = refl

domain_with : (s : Stand) (leaf : List Atom) (op : Op) (end : End) (reads : Option LazyRegister) (slot : Slot) (v : ℕ) → (base_domain (turn_of s) 0 leaf (shape_at (shape_with op end)) slot v && also_by (turn_of s) end reads slot v) ≡ domain_at (turn_of s) leaf (shape_with op end) reads slot v
domain_with s leaf op end None slot v = own_domain s leaf op end slot v
domain_with s leaf op end (Some register) slots.OldCsr v = refl
domain_with s leaf op end (Some register) slots.Op v = own_domain s leaf op end slots.Op v
domain_with s leaf op end (Some register) slot v = own_domain s leaf op end slot v

pub domain_in_case : (c : ACase) (s : Slot) → domain_of c s ≡ slice_index_or c.doms (slot_number s) []
unfolding domain_of
domain_in_case c s = refl

pub word_at : (x : Assignment) → IsAssignment x → (s : Slot) → value_of x s < 2 ^ 32
word_at x h s = h.words (slot_number s) 0 (omega (arith, h.length, place_below s))

-- FITTING A CASE
pub relations_of : (x : Assignment) (c : ACase) → fits_case x c ≡ true → list_all (holds (op_numbered c.op) x) c.rels ≡ true
unfolding fits_case
relations_of x c h = (and_parts (c.op == value_of x slots.Op && is_within c x) (list_all (holds (op_numbered c.op) x) c.rels) h).1

pub within_of : (x : Assignment) (c : ACase) → fits_case x c ≡ true → is_within c x ≡ true
unfolding fits_case
within_of x c h = (and_parts (c.op == value_of x slots.Op) (is_within c x) (and_parts (c.op == value_of x slots.Op && is_within c x) (list_all (holds (op_numbered c.op) x) c.rels) h).0).1

pub number_of : (x : Assignment) (c : ACase) → fits_case x c ≡ true → value_of x slots.Op ≡ c.op
unfolding fits_case
number_of x c h = let e : (c.op == value_of x slots.Op) ≡ true = (and_parts (c.op == value_of x slots.Op) (is_within c x) (and_parts (c.op == value_of x slots.Op && is_within c x) (list_all (holds (op_numbered c.op) x) c.rels) h).0).0 in grind (arith, nat_tests)

pub fits_from : (x : Assignment) (c : ACase) → value_of x slots.Op ≡ c.op → is_within c x ≡ true → list_all (holds (op_numbered c.op) x) c.rels ≡ true → fits_case x c ≡ true
unfolding fits_case
fits_from x c e w r = let n : (c.op == value_of x slots.Op) ≡ true = grind (arith, nat_tests) in and_from _ _ (and_from _ _ n w) r

-- RELATIONS OF ATOMS
-- the value of a variable that has a place in problems
abbrev IsValue : Assignment → Option Slot → ℕ → Type 0
IsValue x None v = Unit {0}
IsValue x (Some s) v = value_of x s ≡ v

value_is : (x : Assignment) (pc : ℕ) (sh : AShape) → value_of x slots.Op ≡ op_number sh.op → (w : Var) → IsValue x (slot_of w) (value_at sh pc 0 (values_in x) w)
value_is x pc sh e vars.Op = e
value_is x pc sh e vars.Rs1 = refl
value_is x pc sh e vars.Rs2 = refl
value_is x pc sh e vars.Rd = refl
value_is x pc sh e vars.Imm = refl
value_is x pc sh e vars.Csr = refl
value_is x pc sh e vars.Ea = refl
value_is x pc sh e vars.A = refl
value_is x pc sh e vars.B = refl
value_is x pc sh e vars.Pa = record {}
value_is x pc sh e vars.Target = record {}
value_is x pc sh e vars.Outcome = record {}

same_holds : (o : Op) (x : Assignment) (os ot : Option Slot) (a b : ℕ) → (has_slot os && has_slot ot) ≡ true → IsValue x os a → IsValue x ot b → list_all (holds o x) (same_rel os ot) ≡ (a == b)
same_holds o x None ot a b h p q = absurd (cc h)
same_holds o x (Some s) None a b h p q = absurd (cc h)
same_holds o x (Some s) (Some t) a b h p q = and_true _ ∙ rw (p, q) refl

differ_holds : (o : Op) (x : Assignment) (os ot : Option Slot) (a b : ℕ) → (has_slot os && has_slot ot) ≡ true → IsValue x os a → IsValue x ot b → list_all (holds o x) (differ_rel os ot) ≡ not (a == b)
differ_holds o x None ot a b h p q = absurd (cc h)
differ_holds o x (Some s) None a b h p q = absurd (cc h)
differ_holds o x (Some s) (Some t) a b h p q = and_true _ ∙ rw (p, q) refl

steered_same : (op : Op) (x : Assignment) (taken : Bool) → is_branch op ≡ true → has_condition op x taken ≡ is_steered op (Some taken) (values_in x)
steered_same op x true h = ap (λ (b : Bool). b && is_taken op (value_of x slots.A) (value_of x slots.B)) h
steered_same op x false h = ap (λ (b : Bool). b && not (is_taken op (value_of x slots.A) (value_of x slots.B))) h

atom_holds : (x : Assignment) (pc : ℕ) (sh : AShape) → value_of x slots.Op ≡ op_number sh.op → (atom : Atom) → is_judged sh atom ≡ true → is_between atom ≡ true
    → list_all (holds sh.op x) (atom_rel atom) ≡ relates sh.op (value_at sh pc 0 (values_in x)) atom
atom_holds x pc sh e (atoms.In w set) j b = refl
atom_holds x pc sh e (atoms.NotIn w set) j b = refl
atom_holds x pc sh e (atoms.Is w name) j b = refl
atom_holds x pc sh e (atoms.Same w u) j b = same_holds sh.op x (slot_of w) (slot_of u) _ _ b (value_is x pc sh e w) (value_is x pc sh e u)
atom_holds x pc sh e (atoms.Differ w u) j b = differ_holds sh.op x (slot_of w) (slot_of u) _ _ b (value_is x pc sh e w) (value_is x pc sh e u)
atom_holds x pc sh e atoms.Taken j b = and_true _ ∙ steered_same sh.op x true (and_parts (is_branch sh.op) (uses_rs1 sh && uses_rs2 sh) j).0
atom_holds x pc sh e atoms.NotTaken j b = and_true _ ∙ steered_same sh.op x false (and_parts (is_branch sh.op) (uses_rs1 sh && uses_rs2 sh) j).0
atom_holds x pc sh e atoms.Shared j b = refl

pub both_same : (a b c d : Bool) → a ≡ c → b ≡ d → (a && b) ≡ (c && d)
both_same a b c d e f = ap (λ (y : Bool). y && b) e ∙ ap (λ (y : Bool). c && y) f

pub atoms_same : (x : Assignment) (pc : ℕ) (sh : AShape) → value_of x slots.Op ≡ op_number sh.op → (leaf : List Atom) → all_judged sh leaf ≡ true → are_between leaf ≡ true
    → list_all (holds sh.op x) (atom_rels leaf) ≡ all_relate sh.op (value_at sh pc 0 (values_in x)) leaf
atoms_same x pc sh e [] j b = refl
atoms_same x pc sh e (atom ∷ leaf) j b =
    let js = and_parts (is_judged sh atom) (all_judged sh leaf) j in
    let bs = and_parts (is_between atom) (are_between leaf) b in
    list_all-append (holds sh.op x) (atom_rel atom) (atom_rels leaf) ∙ both_same _ _ _ _ (atom_holds x pc sh e atom js.0 bs.0) (atoms_same x pc sh e leaf js.1 bs.1)

-- RELATIONS OF SOURCES
pub held_same : (o : Option (Option ℕ)) (v : ℕ) → agrees o v ≡ is_held (held o) v
held_same None v = refl
held_same (Some None) v = refl
held_same (Some (Some w)) v = refl

pub link_same : (p q : Bool) → (not p || q) ≡ (if p then q else true)
link_same true q = refl
link_same false q = refl

three : (a b c : Bool) → (a && (b && (c && true))) ≡ ((a && true) && (b && (c && true)))
three true b c = refl
three false b c = refl

pub sources_same : (o : Op) (x : Assignment) (regs : List (Option ℕ)) (u1 u2 a b c w e : Bool) → is_held_by x slots.Rs1 slots.A regs ≡ a → is_held_by x slots.Rs2 slots.B regs ≡ b → is_linked_by x ≡ c → w ≡ true → e ≡ true
    → list_all (holds o x) (held_rel u1 slots.Rs1 slots.A regs ++ (held_rel u2 slots.Rs2 slots.B regs ++ linked_rel (u1 && u2))) ≡ (unless u1 (a && w) && (unless u2 b && (unless (u1 && u2) c && e)))
sources_same o x regs true true a b c w e ha hb hc hw he = rw (ha, hb, hc, hw, he) (three a b c)
sources_same o x regs true false a b c w e ha hb hc hw he = rw (ha, hw, he) (ap (λ (y : Bool). y && true) (sym (and_true a)))
sources_same o x regs false true a b c w e ha hb hc hw he = rw (hb, he) refl
sources_same o x regs false false a b c w e ha hb hc hw he = sym he

-- a register that is not known may be started
open_source : (s : Stand) (op : Op) (x : Assignment) → is_listed (kind_of op) ≡ true → value_of x slots.Op ≡ op_number op → may_be_source (turn_of s) (instr_in (values_in x)) ≡ true
open_source s op x p e =
    let o : (instr_in (values_in x)).op ≡ op = ap op_numbered e ∙ read op in
    let n : is_narrow (row_of (instr_in (values_in x)).op) (instr_in (values_in x)).csr ≡ false = ap (λ (q : Op). is_narrow (row_of q) (instr_in (values_in x)).csr) o ∙ built_narrow op (instr_in (values_in x)).csr p in
    ap (λ (b : Bool). not b || is_small (turn_of s).sources) n

no_address : (op : Op) (end : End) (b : Bool) → is_listed (kind_of op) ≡ true → unless (uses_address (shape_at (shape_with op end))) b ≡ true
no_address op end b p = ap (λ (y : Bool). unless (y && uses_rs1 (shape_at (shape_with op end))) b) (built_address op (listed_built op p))

-- RELATIONS OF WAYS
taken_same : (op : Op) (x : Assignment) (taken : Option Bool) → may_steer op taken ≡ true → list_all (holds op x) (taken_rel taken) ≡ is_steered op taken (values_in x)
taken_same op x None h = refl
taken_same op x (Some taken) h = and_true _ ∙ steered_same op x taken h

either_small : (b : Bool) (m n : ℕ) → m < 2 ^ 32 → n < 2 ^ 32 → (if b then m else n) < 2 ^ 32
either_small true m n h k = h
either_small false m n h k = k

target_small : (op : Op) (pc : ℕ) (x : Assignment) → target_at op pc (values_in x) < 2 ^ 32
target_small op pc x =
    let near : (pc + value_of x slots.Imm) % 2 ^ 32 < 2 ^ 32 = omega arith in
    let sum = (value_of x slots.A + value_of x slots.Imm) % 2 ^ 32 in
    let far : sum - sum % 2 < 2 ^ 32 = omega arith in
    either_small (is_relative op) _ _ near far

has_its_target : (op : Op) (end : End) (pc : ℕ) (x : Assignment) → uses (shape_at (shape_with op end)) vars.Target ≡ true → target_of op pc x ≡ Some (target_at op pc (values_in x))
has_its_target ops.Jal end pc x h = refl
has_its_target ops.Jalr end pc x h = refl
has_its_target ops.Beq end pc x h = refl
has_its_target ops.Bne end pc x h = refl
has_its_target ops.Blt end pc x h = refl
has_its_target ops.Bge end pc x h = refl
has_its_target ops.Bltu end pc x h = refl
has_its_target ops.Bgeu end pc x h = refl
has_its_target _ end pc x h = absurd (cc h)

in_targets : (op : Op) (x : Assignment) (pc target : ℕ) (set : List ℕ) → target_of op pc x ≡ Some target → list_all (holds op x) (target_rel pc (Some set)) ≡ is_in set target
in_targets op x pc target set h = and_true _ ∙ ap (λ (o : Option ℕ). is_some_in set o) h

pub targets_same : (s : Stand) (leaf : List Atom) (op : Op) (end : End) (used : Bool) (aim : Aim) (set : Option (List ℕ)) (x : Assignment) → used ≡ uses (shape_at (shape_with op end)) vars.Target
    → IsCut (target_test s leaf used aim) set → (used ≡ false → set ≡ None)
    → list_all (holds op x) (target_rel s.pc set) ≡ target_test s leaf used aim (target_at op s.pc (values_in x))
targets_same s leaf op end used aim None x u is none = sym (is (target_at op s.pc (values_in x)) (target_small op s.pc x))
targets_same s leaf op end true aim (Some set) x u is none = in_targets op x s.pc _ set (has_its_target op end s.pc x (sym u)) ∙ is (target_at op s.pc (values_in x)) (target_small op s.pc x)
targets_same s leaf op end false aim (Some set) x u is none = let e : Some set ≡ None = none refl in absurd (cc)

target_parts : (used : Bool) (aim : Aim) (v : ℕ) (b : Bool) → may_aim used aim ≡ true → unless used (is_aimed aim v && b) ≡ (is_aimed aim v && unless used b)
target_parts true aim v b h = refl
target_parts false Anywhere v b h = refl
target_parts false Aligned v b h = absurd (cc h)
target_parts false Misaligned v b h = absurd (cc h)

and_flip : (a b : Bool) → (a && b) ≡ (b && a)
and_flip true b = sym (and_true b)
and_flip false true = refl
and_flip false false = refl

in_order : (p r k a t : Bool) → (((p && r) && k) && (a && t)) ≡ (p && ((r && t) && (k && a)))
in_order false r k a t = refl
in_order true false k a t = refl
in_order true true false a true = refl
in_order true true false a false = refl
in_order true true true a t = and_flip a t

-- ALL RELATIONS
sources_hold_same : (s : Stand) (op : Op) (end : End) (x : Assignment) → is_listed (kind_of op) ≡ true → value_of x slots.Op ≡ op_number op
    → list_all (holds op x) (source_rels (shape_at (shape_with op end)) s.registers) ≡ sources_hold (turn_of s) (shape_at (shape_with op end)) (values_in x)
sources_hold_same s op end x p e =
    let sh = shape_at (shape_with op end) in
    sources_same op x s.registers (uses_rs1 sh) (uses_rs2 sh) _ _ _ _ (unless (uses_address sh) (nat_eq ((value_of x slots.A + value_of x slots.Imm) % 2 ^ 32) (value_of x slots.Ea)))
    (held_same (slice_get s.registers (value_of x slots.Rs1)) (value_of x slots.A)) (held_same (slice_get s.registers (value_of x slots.Rs2)) (value_of x slots.B)) (link_same (value_of x slots.Rs1 == value_of x slots.Rs2) (value_of x slots.A == value_of x slots.B))
    (or_true (is_some_word (held (slice_get s.registers (value_of x slots.Rs1)))) _ (open_source s op x p e)) (no_address op end (nat_eq ((value_of x slots.A + value_of x slots.Imm) % 2 ^ 32) (value_of x slots.Ea)) p)

relations_same : (s : Stand) (leaf : List Atom) (op : Op) (way : Way) (rels : List Rel) (x : Assignment) → is_listed (kind_of op) ≡ true → may_steer op way.taken ≡ true
    → may_aim (uses (shape_at (shape_with op way.end)) vars.Target) way.aim ≡ true → all_judged (shape_at (shape_with op way.end)) leaf ≡ true → are_between leaf ≡ true
    → AreRelations s leaf (shape_with op way.end) way rels → value_of x slots.Op ≡ op_number op
    → list_all (holds op x) rels ≡ (case_at (turn_of s) 0 leaf op (way_at s op way)).holds (values_in x)
relations_same s leaf op way rels x p st am j b r e =
    let sh = shape_at (shape_with op way.end) in
    let used = uses sh vars.Target in
    let target = target_at op s.pc (values_in x) in
    let base = (source_rels sh s.registers ++ atom_rels leaf) ++ taken_rel way.taken in
    let k1 : list_all (holds op x) (source_rels sh s.registers) ≡ sources_hold (turn_of s) sh (values_in x) = sources_hold_same s op way.end x p e in
    let k2 : list_all (holds op x) (atom_rels leaf) ≡ all_relate op (value_at sh s.pc 0 (values_in x)) leaf = atoms_same x s.pc sh e leaf j b in
    let k3 : list_all (holds op x) (taken_rel way.taken) ≡ is_steered op way.taken (values_in x) = taken_same op x way.taken st in
    let k4 : list_all (holds op x) (target_rel s.pc r.set) ≡ (is_aimed way.aim target && unless used (all_tests (turn_of s) leaf vars.Target target)) =
    targets_same s leaf op way.end used way.aim r.set x refl r.is r.none ∙ target_parts used way.aim target (all_tests (turn_of s) leaf vars.Target target) am in
    ap (λ (l : List Rel). list_all (holds op x) l) r.added
    ∙ list_all-append (holds op x) base (target_rel s.pc r.set)
    ∙ both_same _ _ _ _
    (list_all-append (holds op x) (source_rels sh s.registers ++ atom_rels leaf) (taken_rel way.taken)
    ∙ both_same _ _ _ _ (list_all-append (holds op x) (source_rels sh s.registers) (atom_rels leaf) ∙ both_same _ _ _ _ k1 k2) k3)
    k4
    ∙ in_order (sources_hold (turn_of s) sh (values_in x)) (all_relate op (value_at sh s.pc 0 (values_in x)) leaf) (is_steered op way.taken (values_in x)) (is_aimed way.aim target) (unless used (all_tests (turn_of s) leaf vars.Target target))

-- THE CASE
or_none : (a : Bool) → (a || false) ≡ true → a ≡ true
or_none true h = refl
or_none false h = h

pub case_same : (s : Stand) (leaf : List Atom) (op : Op) (way : Way) (c : ACase) → is_listed (kind_of op) ≡ true → may_steer op way.taken ≡ true
    → may_aim (uses (shape_at (shape_with op way.end)) vars.Target) way.aim ≡ true → all_judged (shape_at (shape_with op way.end)) leaf ≡ true → are_between leaf ≡ true
    → c.op ≡ op_number op → AreDomains (domain_at (turn_of s) leaf (shape_with op way.end) way.reads) SLOTS c.doms → AreRelations s leaf (shape_with op way.end) way c.rels
    → FitsSame (c ∷ []) (case_at (turn_of s) 0 leaf op (way_at s op way) ∷ [])
case_same s leaf op way c p st am j b n d r x hx = (there, back)
  where
    inside : (slot : Slot) → is_in (domain_of c slot) (value_of x slot) ≡ domain (turn_of s) 0 leaf op (way_at s op way) slot (value_of x slot)
    inside slot =
        ap (λ (set : List ℕ). is_in set (value_of x slot)) (domain_in_case c slot)
        ∙ each_domain (λ r set. IsSetOf (domain_at (turn_of s) leaf (shape_with op way.end) way.reads r) set) c.doms d slot (value_of x slot) (word_at x hx slot)
        ∙ sym (domain_with s leaf op way.end way.reads slot (value_of x slot))

    related : value_of x slots.Op ≡ c.op → list_all (holds (op_numbered c.op) x) c.rels ≡ (case_at (turn_of s) 0 leaf op (way_at s op way)).holds (values_in x)
    related e =
        ap (λ (o : Op). list_all (holds o x) c.rels) (ap op_numbered n ∙ read op)
        ∙ relations_same s leaf op way c.rels x p st am j b r (e ∙ n)

    there : list_any (fits_case x) (c ∷ []) ≡ true → Fits (case_at (turn_of s) 0 leaf op (way_at s op way) ∷ []) (values_in x)
    there h =
        let k = or_none (fits_case x c) h in
        let e = number_of x c k in
        inl (record {
          op = e ∙ n;
          each = λ slot. sym (inside slot) ∙ each_within c x (within_of x c k) slot;
          holds = sym (related e) ∙ relations_of x c k;
        })

    back : Fits (case_at (turn_of s) 0 leaf op (way_at s op way) ∷ []) (values_in x) → list_any (fits_case x) (c ∷ []) ≡ true
    back (inl f) =
        let e : value_of x slots.Op ≡ c.op = f.op ∙ sym n in
        ap (λ (y : Bool). y || false) (fits_from x c e (all_within c x (λ slot. inside slot ∙ f.each slot)) (related e ∙ f.holds))
    back (inr f) = absurd f
