-- The cases of accesses to CSRs, as they are posed and as they are defined.
use Rattle.std.proofs.Common.{◌≡◌, ℕ, ◌+◌, ◌%◌, ◌^◌, ◌<◌, Bool, true, false, ◌&&◌, ◌||◌, List, [], ◌∷◌, ◌++◌, Option, Some, None, refl, sym, ap, ◌∙◌, subst, inl, inr, length, All}
use Rattle.std.specs.Prelude.{nat_eq, nat_le, slice_get}
use Rattle.std.specs.Bool.{◌==◌}
use Rattle.std.specs.List.{filter, list_all, list_any}
use Rattle.std.specs.List.Sorted.{IsStrictlyIncreasing}
use Rattle.std.proofs.lemmas.Bool.{and_from, and_parts}
use Rattle.std.proofs.lemmas.List.Folds.{list_all-append}
use Rattle.dom_set.specs.Elements.{is_in}
use Rattle.rv_isa.specs.declared.operation.Op.{Op}
use Rattle.rv_isa.specs.declared.operation.Op.TheVariants as ops
use Rattle.rv_isa.specs.declared.table.Row.{Row}
use Rattle.rv_isa.specs.declared.table.Row.TheVariants.{R, I, Shift, S, B, U, J, Csr as CsrRow, CsrImmediate, FenceSets, AddressFence, Fixed as Whole, DefinedIllegal}
use Rattle.rv_isa.specs.Fields.{has_rs1, reads_rs1, has_address}
use Rattle.rv_isa.specs.Numbers.{op_numbered, op_number}
use Rattle.rv_isa.specs.Table.{row_of}
use Rattle.rv_isa.proofs.Numbers.{read}
use Rattle.rv_csr.specs.declared.cause.Cause.TheVariants.{Illegal}
use Rattle.rv_script.specs.declared.place.Place.TheVariants.{Reg}
use Rattle.tpl_ast.specs.declared.template.Atom.{Atom}
use Rattle.tpl_ast.specs.declared.template.Var.TheVariants as vars
use Rattle.fd_prob.specs.declared.problem.Assignment.{Assignment}
use Rattle.fd_prob.specs.declared.problem.Case.{Case as ACase}
use Rattle.fd_prob.specs.declared.relation.Rel.{Rel}
use Rattle.fd_prob.specs.declared.slot.Slot.{Slot}
use Rattle.fd_prob.specs.declared.slot.Slot.TheVariants as slots
use Rattle.fd_prob.specs.declared.slot.TheConstants.{SLOTS}
use Rattle.fd_prob.specs.Fitting.{domain_of, fits_case}
use Rattle.fd_prob.specs.Relations.{holds, is_none_or_legal, value_of, written_by}
use Rattle.fd_prob.proofs.Fitted.{all_within, each_within}
use Rattle.leaf_link.specs.Turns.{is_small, may_be_source}
use Rattle.leaf_link.specs.Values.{Values, has_csr_operand, instr_in}
use Rattle.leaf_link.specs.Cases.{Fits, Shape as AShape, all_judged, all_relate, atoms_hold, base_domain, case_at, domain, is_held, is_linked, is_some_word, shape_of, sources_hold, unless, uses, uses_address, uses_rs1, uses_rs2, value_at}
use Rattle.leaf_link.specs.Kinds.{vector_alone}
use Rattle.leaf_link.specs.Controls.{old_new}
use Rattle.leaf_link.specs.Answers.{values_in}
use Rattle.leaf_link.specs.Ways.{DomainsAreOfOperations}
use Rattle.leaf_stand.specs.declared.shape.End.{End}
use Rattle.leaf_stand.specs.declared.shape.End.TheVariants.{Retires, Traps}
use Rattle.leaf_stand.specs.declared.stand.Stand.{Stand}
use Rattle.leaf_stand.specs.Posed.{FitsSame}
use Rattle.data_goals.specs.Goals.{IsCut}
use Rattle.leaf_stand.specs.Relations.{are_between, atom_rels, source_rels}
use Rattle.data_bytes.specs.Sets.{IsSetOf}
use Rattle.leaf_stand.specs.Sets.{AreDomains}
use Rattle.leaf_stand.specs.Stands.{open_at, shape_at, turn_of}
use Rattle.leaf_stand.specs.Internal.Ways.{shape_with}
use Rattle.leaf_stand.proofs.Lists.{each_domain}
use Rattle.leaf_stand.proofs.Single.{atoms_same, both_same, domain_in_case, fits_from, held_same, link_same, number_of, own_domain, relations_of, sources_same, within_of, word_at}
use Rattle.dom_set.proofs.Sets.{own_elements}
use Rattle.leaf_csrs.proofs.Counted.{in_both}
use Rattle.leaf_csrs.specs.Laws.{UsagesAreGranted}
use Rattle.leaf_csrs.specs.Usages.{usage_way, written_in}
use Rattle.leaf_pose.specs.declared.csrs.Access.{Access}
use Rattle.leaf_pose.specs.declared.csrs.Access.TheVariants.{Granted, Refused}
use Rattle.leaf_pose.specs.Internal.Csrs.{IsListed, access_rels, access_test, access_way, end_of, writes_rel}

-- DOMAINS
and_assoc : (a b c : Bool) → ((a && b) && c) ≡ (a && (b && c))
and_assoc true b c = refl
and_assoc false b c = refl

-- what an end says of variables where any old value may be read
abbrev pub open_by : Stand → End → Slot → ℕ → Bool
open_by s Retires = old_new
open_by s (Traps cause) = vector_alone (turn_of s) cause

pub open_same : (s : Stand) (leaf : List Atom) (op : Op) (end : End) (slot : Slot) (v : ℕ) → open_at (turn_of s) leaf (shape_with op end) slot v ≡ (base_domain (turn_of s) 0 leaf (shape_at (shape_with op end)) slot v && open_by s end slot v)
open_same s leaf op Retires slots.OldCsr v = refl
open_same s leaf op (Traps cause) slots.OldCsr v = refl
open_same s leaf op Retires slots.Op v = sym (own_domain s leaf op Retires slots.Op v)
open_same s leaf op Retires slot v = sym (own_domain s leaf op Retires slot v)
open_same s leaf op (Traps cause) slots.Op v = sym (own_domain s leaf op (Traps cause) slots.Op v)
open_same s leaf op (Traps cause) slot v = sym (own_domain s leaf op (Traps cause) slot v)

pub access_domain_is : (s : Stand) (leaf : List Atom) (op : Op) (access : Access) (slot : Slot) (v : ℕ)
    → (open_at (turn_of s) leaf (shape_with op (end_of access)) slot v && access_test s op access slot v) ≡ domain (turn_of s) 0 leaf op (access_way s op access) slot v
access_domain_is s leaf op (Granted register usage) slot v =
    ap (λ (b : Bool). b && access_test s op (Granted register usage) slot v) (open_same s leaf op Retires slot v) ∙ and_assoc (base_domain (turn_of s) 0 leaf (shape_at (shape_with op Retires)) slot v) (old_new slot v) (access_test s op (Granted register usage) slot v)
access_domain_is s leaf op (Refused written) slot v =
    ap (λ (b : Bool). b && access_test s op (Refused written) slot v) (open_same s leaf op (Traps Illegal) slot v) ∙ and_assoc (base_domain (turn_of s) 0 leaf (shape_at (shape_with op (Traps Illegal))) slot v) (vector_alone (turn_of s) Illegal slot v) (access_test s op (Refused written) slot v)

-- with what the access says of the variable, where it says anything
pub cut_domain : (s : Stand) (leaf : List Atom) (op : Op) (access : Access) (end : End) (slot : Slot) (found : List ℕ) (o : Option (List ℕ)) (cut both : List ℕ) → end ≡ end_of access → o ≡ Some cut
    → IsSetOf (open_at (turn_of s) leaf (shape_with op end) slot) found → IsCut (access_test s op access slot) o → both ≡ filter (is_in cut) found → IsSetOf (domain (turn_of s) 0 leaf op (access_way s op access) slot) both
cut_domain s leaf op access end slot found o cut both e is h k b v small =
    in_both (open_at (turn_of s) leaf (shape_with op (end_of access)) slot) (access_test s op access slot) found cut both
    (subst (λ (d : End). IsSetOf (open_at (turn_of s) leaf (shape_with op d) slot) found) e h) (subst (λ (q : Option (List ℕ)). IsCut (access_test s op access slot) q) is k) b v small
    ∙ access_domain_is s leaf op access slot v

pub uncut_domain : (s : Stand) (leaf : List Atom) (op : Op) (access : Access) (end : End) (slot : Slot) (found : List ℕ) (o : Option (List ℕ)) → end ≡ end_of access → o ≡ None
    → IsSetOf (open_at (turn_of s) leaf (shape_with op end) slot) found → IsCut (access_test s op access slot) o → IsSetOf (domain (turn_of s) 0 leaf op (access_way s op access) slot) found
uncut_domain s leaf op access end slot found o e is h k v small =
    let all : IsCut (access_test s op access slot) None = subst (λ (q : Option (List ℕ)). IsCut (access_test s op access slot) q) is k in
    (subst (λ (d : End). IsSetOf (open_at (turn_of s) leaf (shape_with op d) slot) found) e h) v small
    ∙ sym (and_last (open_at (turn_of s) leaf (shape_with op (end_of access)) slot v) (access_test s op access slot v) (all v small)) ∙ access_domain_is s leaf op access slot v
  where
    and_last : (a b : Bool) → b ≡ true → (a && b) ≡ a
    and_last true b h = h
    and_last false b h = refl

-- how many source values the atoms leave
pub small_sources : (xs : List ℕ) (n : ℕ) → IsStrictlyIncreasing xs → All (λ x. x < 2 ^ 32) xs → n ≡ length xs → nat_le n 4096 ≡ is_small (λ v. is_in xs v)
unfolding is_small
small_sources xs n increasing words e = ap (λ (m : ℕ). nat_le m 4096) (e ∙ ap (λ (l : List ℕ). length l) (own_elements xs increasing words))

-- RELATIONS
row_without : (row : Row) → has_csr_operand row ≡ true → has_address row ≡ false
row_without (CsrRow opcode funct3) h = refl
row_without (CsrImmediate opcode funct3) h = refl
row_without (R opcode funct3 funct7) h = absurd (cc h)
row_without (I opcode funct3) h = absurd (cc h)
row_without (Shift opcode funct3 funct7) h = absurd (cc h)
row_without (S opcode funct3) h = absurd (cc h)
row_without (B opcode funct3) h = absurd (cc h)
row_without (U opcode) h = absurd (cc h)
row_without (J opcode) h = absurd (cc h)
row_without (FenceSets opcode funct3) h = absurd (cc h)
row_without (AddressFence opcode funct3 funct7) h = absurd (cc h)
row_without (Whole bits) h = absurd (cc h)
row_without DefinedIllegal h = absurd (cc h)

-- a source that is read is named
pub row_source : (row : Row) → has_csr_operand row ≡ true → reads_rs1 row ≡ has_rs1 row
row_source (CsrRow opcode funct3) h = refl
row_source (CsrImmediate opcode funct3) h = refl
row_source (R opcode funct3 funct7) h = refl
row_source (I opcode funct3) h = refl
row_source (Shift opcode funct3 funct7) h = refl
row_source (S opcode funct3) h = refl
row_source (B opcode funct3) h = refl
row_source (U opcode) h = absurd (cc h)
row_source (J opcode) h = absurd (cc h)
row_source (FenceSets opcode funct3) h = absurd (cc h)
row_source (AddressFence opcode funct3 funct7) h = absurd (cc h)
row_source (Whole bits) h = absurd (cc h)
row_source DefinedIllegal h = absurd (cc h)

no_target : (op : Op) (end : End) → has_csr_operand (row_of op) ≡ true → uses (shape_at (shape_with op end)) vars.Target ≡ false
no_target ops.Csrrw end h = refl
no_target ops.Csrrs end h = refl
no_target ops.Csrrc end h = refl
no_target ops.Csrrwi end h = refl
no_target ops.Csrrsi end h = refl
no_target ops.Csrrci end h = refl
no_target ops.Lui end h = absurd (cc h)
no_target _ end h = absurd (cc h)

written_same : (op : Op) (x : Assignment) → written_by op x ≡ written_in op (values_in x)
written_same ops.Csrrw x = refl
written_same ops.Csrrs x = refl
written_same ops.Csrrc x = refl
written_same ops.Csrrwi x = refl
written_same ops.Csrrsi x = refl
written_same ops.Csrrci x = refl
written_same ops.Lui x = refl
written_same _ x = refl

and_true : (a : Bool) → (a && true) ≡ a
and_true true = refl
and_true false = refl

writes_same : (s : Stand) (op : Op) (access : Access) (x : Assignment) → list_all (holds op x) (writes_rel access) ≡ (access_way s op access).holds (values_in x)
writes_same s op (Granted register usage) x = and_true _ ∙ ap (λ (o : Option ℕ). is_none_or_legal (value_of x slots.Csr) o) (written_same op x)
writes_same s op (Refused written) x = refl

-- the sources, but for whether an untouched one may be started
abbrev pub known_sources : Stand → AShape → Values → Bool
known_sources s sh x =
    unless (uses_rs1 sh) (is_held ((turn_of s).known (Reg (x slots.Rs1))) (x slots.A) && true)
    && (unless (uses_rs2 sh) (is_held ((turn_of s).known (Reg (x slots.Rs2))) (x slots.B)) && (unless (uses_rs1 sh && uses_rs2 sh) (is_linked x) && true))

source_there : (u a w r : Bool) → (u ≡ true → w ≡ true) → (unless u (a && true) && r) ≡ true → (unless u (a && w) && r) ≡ true
source_there true a w r k h = ap (λ (b : Bool). (a && b) && r) (k refl) ∙ h
source_there false a w r k h = h

source_back : (u a w r : Bool) → (unless u (a && w) && r) ≡ true → (unless u (a && true) && r) ≡ true
source_back true true true r h = h
source_back true true false r h = absurd (cc h)
source_back true false w r h = absurd (cc h)
source_back false a w r h = h

-- no address is used
no_address : (op : Op) (end : End) (b : Bool) → has_csr_operand (row_of op) ≡ true → unless (uses_address (shape_at (shape_with op end))) b ≡ true
no_address op end b h = ap (λ (y : Bool). unless (y && uses_rs1 (shape_at (shape_with op end))) b) (row_without (row_of op) h)

pub known_same : (s : Stand) (op : Op) (sh : AShape) (x : Assignment) → list_all (holds op x) (source_rels sh s.registers) ≡ known_sources s sh (values_in x)
known_same s op sh x =
    sources_same op x s.registers (uses_rs1 sh) (uses_rs2 sh) _ _ _ true true
    (held_same (slice_get s.registers (value_of x slots.Rs1)) (value_of x slots.A)) (held_same (slice_get s.registers (value_of x slots.Rs2)) (value_of x slots.B)) (link_same (value_of x slots.Rs1 == value_of x slots.Rs2) (value_of x slots.A == value_of x slots.B))
    refl refl

abbrev rest_of_sources : Stand → AShape → Values → Bool → Bool
rest_of_sources s sh x e = unless (uses_rs2 sh) (is_held ((turn_of s).known (Reg (x slots.Rs2))) (x slots.B)) && (unless (uses_rs1 sh && uses_rs2 sh) (is_linked x) && e)

abbrev pub may_source : Stand → Values → Bool
may_source s x = is_some_word ((turn_of s).known (Reg (x slots.Rs1))) || may_be_source (turn_of s) (instr_in x)

sources_there : (s : Stand) (op : Op) (end : End) (x : Values) → has_csr_operand (row_of op) ≡ true → (uses_rs1 (shape_at (shape_with op end)) ≡ true → may_source s x ≡ true) → known_sources s (shape_at (shape_with op end)) x ≡ true → sources_hold (turn_of s) (shape_at (shape_with op end)) x ≡ true
sources_there s op end x h k y =
    let sh = shape_at (shape_with op end) in
    let held_one = is_held ((turn_of s).known (Reg (x slots.Rs1))) (x slots.A) in
    ap (λ (e : Bool). unless (uses_rs1 sh) (held_one && may_source s x) && rest_of_sources s sh x e) (no_address op end (nat_eq ((x slots.A + x slots.Imm) % 2 ^ 32) (x slots.Ea)) h)
    ∙ source_there (uses_rs1 sh) held_one (may_source s x) (rest_of_sources s sh x true) k y

sources_back : (s : Stand) (op : Op) (end : End) (x : Values) → has_csr_operand (row_of op) ≡ true → sources_hold (turn_of s) (shape_at (shape_with op end)) x ≡ true → known_sources s (shape_at (shape_with op end)) x ≡ true
sources_back s op end x h y =
    let sh = shape_at (shape_with op end) in
    let held_one = is_held ((turn_of s).known (Reg (x slots.Rs1))) (x slots.A) in
    source_back (uses_rs1 sh) held_one (may_source s x) (rest_of_sources s sh x true)
    (sym (ap (λ (e : Bool). unless (uses_rs1 sh) (held_one && may_source s x) && rest_of_sources s sh x e) (no_address op end (nat_eq ((x slots.A + x slots.Imm) % 2 ^ 32) (x slots.Ea)) h)) ∙ y)

-- an untouched source may be started, where a usage fits
source_may : (row : Row) (w b : Bool) → has_csr_operand row ≡ true → unless (has_rs1 row) w ≡ true → (reads_rs1 row && b) ≡ true → w ≡ true
source_may row w b h u r = let reads = (and_parts (reads_rs1 row) b r).0 in sym (ap (λ (y : Bool). unless y w) (sym (row_source row h) ∙ reads)) ∙ u

-- THE CASE
or_none : (a : Bool) → (a || false) ≡ a
or_none true = refl
or_none false = refl

three : (a b c : Bool) → ((a && b) && c) ≡ true → (a ≡ true) × (b ≡ true) × (c ≡ true)
three a b c h = let p = and_parts (a && b) c h in let q = and_parts a b p.0 in (q.0, q.1, p.1)

same_shape : (s : Stand) (op : Op) (access : Access) → shape_of op (access_way s op access) ≡ shape_at (shape_with op (end_of access))
same_shape s op (Granted register usage) = refl
same_shape s op (Refused written) = refl

-- where the domains hold the values and what is written is legal, an untouched source may be started
may_start_source : DomainsAreOfOperations → UsagesAreGranted → (s : Stand) (leaf : List Atom) (op : Op) (access : Access) (x : Values) → has_csr_operand (row_of op) ≡ true → IsListed s op access → x slots.Op ≡ op_number op
    → ((slot : Slot) → domain (turn_of s) 0 leaf op (access_way s op access) slot (x slot) ≡ true) → (access_way s op access).holds x ≡ true → uses_rs1 (shape_at (shape_with op (end_of access))) ≡ true → may_source s x ≡ true
may_start_source of_operations granted s leaf op (Granted register usage) x h listed number each legal used =
    let parts : (slot : Slot) → (base_domain (turn_of s) 0 leaf (shape_at (shape_with op Retires)) slot (x slot) ≡ true) × ((usage_way s op register usage).also slot (x slot) ≡ true) =
    λ slot. and_parts (base_domain (turn_of s) 0 leaf (shape_at (shape_with op Retires)) slot (x slot)) ((usage_way s op register usage).also slot (x slot)) (each slot) in
    let is = of_operations (turn_of s) 0 leaf (shape_at (shape_with op Retires)) x number (λ slot. (parts slot).0) in
    let has = (granted s op h register usage listed.0 listed.1 x is (record { each = λ slot. (parts slot).1; holds = legal })).1 in
    source_may (row_of op) (may_source s x) true h has used
may_start_source of_operations granted s leaf op (Refused written) x h listed number each legal used = absurd (cc (and_parts (reads_rs1 (row_of op)) false used).1)

pub access_case_same : DomainsAreOfOperations → UsagesAreGranted → (s : Stand) (leaf : List Atom) (op : Op) (access : Access) (c : ACase) → has_csr_operand (row_of op) ≡ true → IsListed s op access
    → all_judged (shape_at (shape_with op (end_of access))) leaf ≡ true → are_between leaf ≡ true → c.op ≡ op_number op → AreDomains (domain (turn_of s) 0 leaf op (access_way s op access)) SLOTS c.doms → c.rels ≡ access_rels s leaf op access
    → FitsSame (c ∷ []) (case_at (turn_of s) 0 leaf op (access_way s op access) ∷ [])
access_case_same of_operations granted s leaf op access c csr listed j b n d r x hx = (there, back)
  where
    sh : AShape
    sh = shape_at (shape_with op (end_of access))

    inside : (slot : Slot) → is_in (domain_of c slot) (value_of x slot) ≡ domain (turn_of s) 0 leaf op (access_way s op access) slot (value_of x slot)
    inside slot =
        ap (λ (set : List ℕ). is_in set (value_of x slot)) (domain_in_case c slot)
        ∙ each_domain (λ q set. IsSetOf (domain (turn_of s) 0 leaf op (access_way s op access) q) set) c.doms d slot (value_of x slot) (word_at x hx slot)

    split : value_of x slots.Op ≡ c.op → list_all (holds (op_numbered c.op) x) c.rels ≡ ((known_sources s sh (values_in x) && all_relate op (value_at sh s.pc 0 (values_in x)) leaf) && (access_way s op access).holds (values_in x))
    split e =
        ap (λ (o : Op). list_all (holds o x) c.rels) (ap op_numbered n ∙ read op) ∙ ap (λ (l : List Rel). list_all (holds op x) l) r
        ∙ list_all-append (holds op x) (source_rels sh s.registers ++ atom_rels leaf) (writes_rel access)
        ∙ both_same _ _ _ _ (list_all-append (holds op x) (source_rels sh s.registers) (atom_rels leaf) ∙ both_same _ _ _ _ (known_same s op sh x) (atoms_same x s.pc sh (e ∙ n) leaf j b)) (writes_same s op access x)

    no_goal : (y : Bool) → unless (uses sh vars.Target) y ≡ true
    no_goal y = ap (λ (u : Bool). unless u y) (no_target op (end_of access) csr)

    there : list_any (fits_case x) (c ∷ []) ≡ true → Fits (case_at (turn_of s) 0 leaf op (access_way s op access) ∷ []) (values_in x)
    there h =
        let k : fits_case x c ≡ true = sym (or_none (fits_case x c)) ∙ h in
        let e = number_of x c k in
        let p = three _ _ _ (sym (split e) ∙ relations_of x c k) in
        let each : (slot : Slot) → domain (turn_of s) 0 leaf op (access_way s op access) slot (value_of x slot) ≡ true = λ slot. sym (inside slot) ∙ each_within c x (within_of x c k) slot in
        let sources = sources_there s op (end_of access) (values_in x) csr (may_start_source of_operations granted s leaf op access (values_in x) csr listed (e ∙ n) each p.2) p.0 in
        inl (record {
          op = e ∙ n;
          each = each;
          holds = subst (λ (q : AShape). (sources_hold (turn_of s) q (values_in x) && (atoms_hold (turn_of s) leaf q (values_in x) && (access_way s op access).holds (values_in x))) ≡ true) (sym (same_shape s op access))
              (and_from _ _ sources (and_from _ _ (and_from _ _ p.1 (no_goal _)) p.2));
        })

    back : Fits (case_at (turn_of s) 0 leaf op (access_way s op access) ∷ []) (values_in x) → list_any (fits_case x) (c ∷ []) ≡ true
    back (inl f) =
        let e : value_of x slots.Op ≡ c.op = f.op ∙ sym n in
        let all = subst (λ (q : AShape). (sources_hold (turn_of s) q (values_in x) && (atoms_hold (turn_of s) leaf q (values_in x) && (access_way s op access).holds (values_in x))) ≡ true) (same_shape s op access) f.holds in
        let one = and_parts (sources_hold (turn_of s) sh (values_in x)) _ all in
        let two = and_parts (atoms_hold (turn_of s) leaf sh (values_in x)) _ one.1 in
        let atoms = and_parts (all_relate op (value_at sh s.pc 0 (values_in x)) leaf) _ two.0 in
        or_none (fits_case x c) ∙ fits_from x c e (all_within c x (λ slot. inside slot ∙ f.each slot)) (split e ∙ and_from _ _ (and_from _ _ (sources_back s op (end_of access) (values_in x) csr one.0) atoms.0) two.1)
    back (inr f) = absurd f
