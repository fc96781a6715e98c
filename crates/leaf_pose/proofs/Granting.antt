-- The cases of registers and usages, and of refusals, are together those of the definition.
use Rattle.std.proofs.Common.{◌≡◌, ℕ, ◌+◌, ◌<◌, ◌≤◌, arith, drop, get_or, length, suc, ◌⊎◌, Bool, true, false, ◌&&◌, ◌||◌, List, [], ◌∷◌, ◌++◌, refl, sym, ap, ◌∙◌, subst, inl, inr}
use Rattle.std.proofs.Math.Seq.{drop-cons}
use Rattle.std.proofs.lemmas.List.{drop_all}
use Rattle.std.proofs.lemmas.Bool.{and_from, and_parts}
use Rattle.rv_isa.specs.declared.operation.Op.{Op}
use Rattle.rv_isa.specs.declared.operation.Op.TheVariants as ops
use Rattle.rv_isa.specs.declared.table.Row.{Row}
use Rattle.rv_isa.specs.declared.table.Row.TheVariants.{R, I, Shift, S, B, U, J, Csr as CsrRow, CsrImmediate, FenceSets, AddressFence, Fixed as Whole, DefinedIllegal}
use Rattle.rv_isa.specs.Fields.{has_csr, has_rs1, reads_rs1}
use Rattle.rv_isa.specs.Numbers.{op_number}
use Rattle.rv_isa.specs.Table.{row_of}
use Rattle.rv_csr.specs.declared.cause.Cause.TheVariants.{Illegal}
use Rattle.rv_csr.specs.declared.table.Register.{Register}
use Rattle.rv_csr.specs.Table.{registers}
use Rattle.rv_script.specs.Lists.{HasItem}
use Rattle.tpl_ast.specs.declared.template.Atom.{Atom}
use Rattle.fd_prob.specs.declared.problem.Case.{Case as ACase}
use Rattle.fd_prob.specs.declared.slot.Slot.{Slot}
use Rattle.fd_prob.specs.declared.slot.Slot.TheVariants as slots
use Rattle.leaf_link.specs.Values.{Values, has_csr_operand}
use Rattle.leaf_link.specs.Cases.{Case, Fits, FitsCase, Shape as AShape, Way as AWay, atoms_hold, base_domain, case_at, case_if, shape_of, sources_hold, unless}
use Rattle.leaf_link.specs.Answers.{values_in}
use Rattle.leaf_link.specs.Ways.{DomainsAreOfOperations, FitsWay, IsOf}
use Rattle.leaf_stand.specs.declared.shape.End.{End}
use Rattle.leaf_stand.specs.declared.shape.End.TheVariants.{Retires, Traps}
use Rattle.leaf_stand.specs.declared.stand.Stand.{Stand}
use Rattle.leaf_stand.specs.Kinds.{kind_of}
use Rattle.leaf_stand.specs.Posed.{FitsSame, is_listed, is_data, is_posed_at, stand_cases, stand_ways}
use Rattle.leaf_stand.specs.Stands.{shape_at, turn_of}
use Rattle.leaf_stand.specs.Internal.Ways.{shape_with}
use Rattle.leaf_stand.proofs.Fits.{fits_either, fits_left, fits_right, none_yet}
use Rattle.leaf_csrs.specs.declared.usage.Usage.{Usage}
use Rattle.leaf_csrs.specs.Laws.{DeniedAreRefused, GrantedAreUsages, RefusedAreDenied, UsagesAreGranted}
use Rattle.leaf_csrs.specs.Usages.{denied_way, granted_way, refused_way, usage_way, usages_of}
use Rattle.leaf_pose.specs.declared.shaped.Shaped.{Shaped}
use Rattle.leaf_pose.proofs.Steps.{plain_ways, nothing_added, then_adds}
use Rattle.leaf_pose.specs.declared.csrs.Access.{Access}
use Rattle.leaf_pose.specs.declared.csrs.Access.TheVariants.{Granted, Refused}
use Rattle.leaf_pose.specs.Internal.Csrs.{IsListed, access_case, access_way, csr_cases, end_of, register_cases, usage_cases}
use Rattle.leaf_pose.specs.Posed.{Adds, HasFitted, IsShaped}
use Rattle.leaf_pose.proofs.Accesses.{may_source}

-- the operations with a CSR operand
pub csr_built : (op : Op) → has_csr_operand (row_of op) ≡ true → is_data (kind_of op) ≡ false
csr_built ops.Csrrw h = refl
csr_built ops.Csrrs h = refl
csr_built ops.Csrrc h = refl
csr_built ops.Csrrwi h = refl
csr_built ops.Csrrsi h = refl
csr_built ops.Csrrci h = refl
csr_built ops.Lui h = absurd (cc h)
csr_built _ h = absurd (cc h)

pub stand_csr : (s : Stand) (op : Op) → has_csr_operand (row_of op) ≡ true → stand_ways s op ≡ denied_way s ∷ granted_way s op ∷ []
stand_csr s ops.Csrrw h = refl
stand_csr s ops.Csrrs h = refl
stand_csr s ops.Csrrc h = refl
stand_csr s ops.Csrrwi h = refl
stand_csr s ops.Csrrsi h = refl
stand_csr s ops.Csrrci h = refl
stand_csr s ops.Lui h = absurd (cc h)
stand_csr s _ h = absurd (cc h)

-- ONE CASE FOR ANOTHER, with the same outcome
abbrev case_with : Stand → List Atom → Op → AWay → Case
case_with s leaf op way = case_at (turn_of s) 0 leaf op way

abbrev shaped : Op → ℕ → AShape
shaped op outcome = record { op = op; outcome = outcome; reaches = false }

-- what a case says, in parts
record FitsParts (s : Stand) (leaf : List Atom) (op : Op) (outcome : ℕ) (way : AWay) (x : Values) : Type 0 where
  number : x slots.Op ≡ op_number op
  base : (slot : Slot) → base_domain (turn_of s) 0 leaf (shaped op outcome) slot (x slot) ≡ true
  sources : sources_hold (turn_of s) (shaped op outcome) x ≡ true
  atoms : atoms_hold (turn_of s) leaf (shaped op outcome) x ≡ true
  fits : FitsWay way x

in_parts : (s : Stand) (leaf : List Atom) (op : Op) (outcome : ℕ) (way : AWay) (x : Values) → shape_of op way ≡ shaped op outcome → FitsCase (case_with s leaf op way) x → FitsParts s leaf op outcome way x
in_parts s leaf op outcome way x same f =
    let all = subst (λ (q : AShape). (sources_hold (turn_of s) q x && (atoms_hold (turn_of s) leaf q x && way.holds x)) ≡ true) same f.holds in
    let one = and_parts (sources_hold (turn_of s) (shaped op outcome) x) _ all in
    let two = and_parts (atoms_hold (turn_of s) leaf (shaped op outcome) x) (way.holds x) one.1 in
    record {
      number = f.op;
      base = λ slot. (split slot).0;
      sources = one.0;
      atoms = two.0;
      fits = record { each = λ slot. (split slot).1; holds = two.1 };
    }
  where
    split : (slot : Slot) → (base_domain (turn_of s) 0 leaf (shaped op outcome) slot (x slot) ≡ true) × (way.also slot (x slot) ≡ true)
    split slot = and_parts (base_domain (turn_of s) 0 leaf (shaped op outcome) slot (x slot)) (way.also slot (x slot)) (subst (λ (q : AShape). (base_domain (turn_of s) 0 leaf q slot (x slot) && way.also slot (x slot)) ≡ true) same (f.each slot))

from_parts : (s : Stand) (leaf : List Atom) (op : Op) (outcome : ℕ) (old way : AWay) (x : Values) → shape_of op way ≡ shaped op outcome → FitsParts s leaf op outcome old x → FitsWay way x → FitsCase (case_with s leaf op way) x
from_parts s leaf op outcome old way x same p w = record {
  op = p.number;
  each = λ slot. subst (λ (q : AShape). (base_domain (turn_of s) 0 leaf q slot (x slot) && way.also slot (x slot)) ≡ true) (sym same) (and_from _ _ (p.base slot) (w.each slot));
  holds = subst (λ (q : AShape). (sources_hold (turn_of s) q x && (atoms_hold (turn_of s) leaf q x && way.holds x)) ≡ true) (sym same) (and_from _ _ p.sources (and_from _ _ p.atoms w.holds));
}

is_of : DomainsAreOfOperations → (s : Stand) (leaf : List Atom) (op : Op) (outcome : ℕ) (way : AWay) (x : Values) → FitsParts s leaf op outcome way x → IsOf op x
is_of of_operations s leaf op outcome way x p = of_operations (turn_of s) 0 leaf (shaped op outcome) x p.number p.base

usage_granted : DomainsAreOfOperations → UsagesAreGranted → (s : Stand) (leaf : List Atom) (op : Op) (register : Register) (usage : Usage) (x : Values) → has_csr_operand (row_of op) ≡ true → HasItem registers register → HasItem (usages_of s op register) usage
    → FitsCase (case_with s leaf op (usage_way s op register usage)) x → FitsCase (case_with s leaf op (granted_way s op)) x
usage_granted of_operations granted s leaf op register usage x h i j f =
    let p = in_parts s leaf op 255 (usage_way s op register usage) x refl f in
    from_parts s leaf op 255 (usage_way s op register usage) (granted_way s op) x refl p (granted s op h register usage i j x (is_of of_operations s leaf op 255 (usage_way s op register usage) x p) p.fits).0

refused_denied : DomainsAreOfOperations → RefusedAreDenied → (s : Stand) (leaf : List Atom) (op : Op) (written : Bool) (x : Values) → has_csr_operand (row_of op) ≡ true → FitsCase (case_with s leaf op (refused_way s op written)) x → FitsCase (case_with s leaf op (denied_way s)) x
refused_denied of_operations denied s leaf op written x h f =
    let p = in_parts s leaf op 2 (refused_way s op written) x refl f in
    from_parts s leaf op 2 (refused_way s op written) (denied_way s) x refl p (denied s op h written x (is_of of_operations s leaf op 2 (refused_way s op written) x p) p.fits)

-- what fits a case is of its shape
pub access_shaped : DomainsAreOfOperations → UsagesAreGranted → RefusedAreDenied → (s : Stand) (leaf : List Atom) (op : Op) (access : Access) (c : ACase) → has_csr_operand (row_of op) ≡ true → IsListed s op access
    → is_posed_at s leaf (shape_at (shape_with op (end_of access))) ≡ true → FitsSame (c ∷ []) (case_at (turn_of s) 0 leaf op (access_way s op access) ∷ []) → IsShaped s leaf (shape_with op (end_of access)) c
access_shaped of_operations granted denied s leaf op (Granted register usage) c h listed posed same x hx k = go ((same x hx).0 (ap (λ (b : Bool). b || false) k))
  where
    go : Fits (case_with s leaf op (usage_way s op register usage) ∷ []) (values_in x) → HasFitted s leaf (shape_with op Retires) (values_in x)
    go (inl f) = record {
      whole = granted_way s op;
      is = subst (λ (l : List AWay). HasItem l (granted_way s op)) (sym (plain_ways s leaf op (csr_built op h) ∙ stand_csr s op h)) (inr (inl refl));
      outcome = refl;
      reaches = refl;
      inner = λ n. refl;
      posed = posed;
      fits = usage_granted of_operations granted s leaf op register usage (values_in x) h listed.0 listed.1 f;
    }
    go (inr f) = absurd f
access_shaped of_operations granted denied s leaf op (Refused written) c h listed posed same x hx k = go ((same x hx).0 (ap (λ (b : Bool). b || false) k))
  where
    go : Fits (case_with s leaf op (refused_way s op written) ∷ []) (values_in x) → HasFitted s leaf (shape_with op (Traps Illegal)) (values_in x)
    go (inl f) = record {
      whole = denied_way s;
      is = subst (λ (l : List AWay). HasItem l (denied_way s)) (sym (plain_ways s leaf op (csr_built op h) ∙ stand_csr s op h)) (inl refl);
      outcome = refl;
      reaches = refl;
      inner = λ n. refl;
      posed = posed;
      fits = refused_denied of_operations denied s leaf op written (values_in x) h f;
    }
    go (inr f) = absurd f

-- ALL CASES
abbrev retires_posed : Stand → List Atom → Op → Bool
retires_posed s leaf op = is_posed_at s leaf (shape_at (shape_with op Retires))

abbrev traps_posed : Stand → List Atom → Op → Bool
traps_posed s leaf op = is_posed_at s leaf (shape_at (shape_with op (Traps Illegal)))

abbrev two_cases : Stand → List Atom → Op → List Case
two_cases s leaf op = case_if (traps_posed s leaf op) (case_with s leaf op (denied_way s)) (case_if (retires_posed s leaf op) (case_with s leaf op (granted_way s op)) [])

only : (b : Bool) (c : Case) (x : Values) → Fits (case_if b c []) x → (b ≡ true) × FitsCase c x
only true c x (inl f) = (refl, f)
only true c x (inr f) = absurd f
only false c x f = absurd f

put : (b : Bool) (c : Case) (cs : List Case) (x : Values) → b ≡ true → FitsCase c x → Fits (case_if b c cs) x
put true c cs x e f = inl f
put false c cs x e f = absurd (cc e)

behind : (b : Bool) (c : Case) (cs : List Case) (x : Values) → Fits cs x → Fits (case_if b c cs) x
behind true c cs x f = inr f
behind false c cs x f = f

first_or_second : (b d : Bool) (c e : Case) (x : Values) → Fits (case_if b c (case_if d e [])) x → ((b ≡ true) × FitsCase c x) ⊎ ((d ≡ true) × FitsCase e x)
first_or_second true d c e x (inl f) = inl (refl, f)
first_or_second true d c e x (inr f) = inr (only d e x f)
first_or_second false d c e x f = inr (only d e x f)

usages_there : DomainsAreOfOperations → UsagesAreGranted → (s : Stand) (leaf : List Atom) (op : Op) (register : Register) (usages : List Usage) (x : Values) → has_csr_operand (row_of op) ≡ true → HasItem registers register
    → ((usage : Usage) → HasItem usages usage → HasItem (usages_of s op register) usage) → Fits (usage_cases s leaf op register usages) x → Fits (two_cases s leaf op) x
usages_there of_operations granted s leaf op register [] x h i all f = absurd f
usages_there of_operations granted s leaf op register (usage ∷ usages) x h i all f = elim (fits_either (access_case s leaf op (Granted register usage)) (usage_cases s leaf op register usages) x f) [
  | inl g ↦ (
      let k = only (retires_posed s leaf op) (case_with s leaf op (usage_way s op register usage)) x g in
      behind (traps_posed s leaf op) (case_with s leaf op (denied_way s)) (case_if (retires_posed s leaf op) (case_with s leaf op (granted_way s op)) []) x
      (put (retires_posed s leaf op) (case_with s leaf op (granted_way s op)) [] x k.0 (usage_granted of_operations granted s leaf op register usage x h i (all usage (inl refl)) k.1))
      )
  | inr g ↦ usages_there of_operations granted s leaf op register usages x h i (λ u k. all u (inr k)) g
]

registers_there : DomainsAreOfOperations → UsagesAreGranted → (s : Stand) (leaf : List Atom) (op : Op) (list : List Register) (x : Values) → has_csr_operand (row_of op) ≡ true → ((register : Register) → HasItem list register → HasItem registers register)
    → Fits (register_cases s leaf op list) x → Fits (two_cases s leaf op) x
registers_there of_operations granted s leaf op [] x h all f = absurd f
registers_there of_operations granted s leaf op (register ∷ list) x h all f = elim (fits_either (usage_cases s leaf op register (usages_of s op register)) (register_cases s leaf op list) x f) [
  | inl g ↦ usages_there of_operations granted s leaf op register (usages_of s op register) x h (all register (inl refl)) (λ u k. k) g
  | inr g ↦ registers_there of_operations granted s leaf op list x h (λ r k. all r (inr k)) g
]

refused_there : DomainsAreOfOperations → RefusedAreDenied → (s : Stand) (leaf : List Atom) (op : Op) (written : Bool) (x : Values) → has_csr_operand (row_of op) ≡ true → Fits (access_case s leaf op (Refused written)) x → Fits (two_cases s leaf op) x
refused_there of_operations denied s leaf op written x h f =
    let k = only (traps_posed s leaf op) (case_with s leaf op (refused_way s op written)) x f in
    put (traps_posed s leaf op) (case_with s leaf op (denied_way s)) (case_if (retires_posed s leaf op) (case_with s leaf op (granted_way s op)) []) x k.0 (refused_denied of_operations denied s leaf op written x h k.1)

-- what fits the cases of accesses fits those of the definition
pub accesses_there : DomainsAreOfOperations → UsagesAreGranted → RefusedAreDenied → (s : Stand) (leaf : List Atom) (op : Op) → has_csr_operand (row_of op) ≡ true → (x : Values) → Fits (csr_cases s leaf op) x → Fits (stand_cases s leaf op (stand_ways s op)) x
accesses_there of_operations granted denied s leaf op h x f = subst (λ (l : List AWay). Fits (stand_cases s leaf op l) x) (sym (stand_csr s op h)) (of_all f)
  where
    of_rest : Fits (access_case s leaf op (Refused true) ++ register_cases s leaf op registers) x → Fits (two_cases s leaf op) x
    of_rest g = elim (fits_either (access_case s leaf op (Refused true)) (register_cases s leaf op registers) x g) [
      | inl k ↦ refused_there of_operations denied s leaf op true x h k
      | inr k ↦ registers_there of_operations granted s leaf op registers x h (λ r i. i) k
    ]

    of_all : Fits (csr_cases s leaf op) x → Fits (two_cases s leaf op) x
    of_all g = elim (fits_either (access_case s leaf op (Refused false)) (access_case s leaf op (Refused true) ++ register_cases s leaf op registers) x g) [
      | inl k ↦ refused_there of_operations denied s leaf op false x h k
      | inr k ↦ of_rest k
    ]

-- a usage has its case among those of its register, and a register among all
usage_here : (s : Stand) (leaf : List Atom) (op : Op) (register : Register) (usages : List Usage) (usage : Usage) (x : Values) → HasItem usages usage → Fits (access_case s leaf op (Granted register usage)) x → Fits (usage_cases s leaf op register usages) x
usage_here s leaf op register [] usage x i f = absurd i
usage_here s leaf op register (u ∷ usages) usage x i f = elim i [
  | inl e ↦ fits_left (access_case s leaf op (Granted register u)) (usage_cases s leaf op register usages) x (subst (λ (q : Usage). Fits (access_case s leaf op (Granted register q)) x) (sym e) f)
  | inr j ↦ fits_right (access_case s leaf op (Granted register u)) (usage_cases s leaf op register usages) x (usage_here s leaf op register usages usage x j f)
]

register_here : (s : Stand) (leaf : List Atom) (op : Op) (list : List Register) (register : Register) (x : Values) → HasItem list register → Fits (usage_cases s leaf op register (usages_of s op register)) x → Fits (register_cases s leaf op list) x
register_here s leaf op [] register x i f = absurd i
register_here s leaf op (r ∷ list) register x i f = elim i [
  | inl e ↦ fits_left (usage_cases s leaf op r (usages_of s op r)) (register_cases s leaf op list) x (subst (λ (q : Register). Fits (usage_cases s leaf op q (usages_of s op q)) x) (sym e) f)
  | inr j ↦ fits_right (usage_cases s leaf op r (usages_of s op r)) (register_cases s leaf op list) x (register_here s leaf op list register x j f)
]

-- an untouched source that is read may be started
source_of : (row : Row) (a w r : Bool) → has_csr_operand row ≡ true → (unless (reads_rs1 row && true) (a && w) && r) ≡ true → unless (has_rs1 row) w ≡ true
source_of (CsrRow opcode funct3) a w r h k = (and_parts a w (and_parts (a && w) r k).0).1
source_of (CsrImmediate opcode funct3) a w r h k = refl
source_of (R opcode funct3 funct7) a w r h k = absurd (cc h)
source_of (I opcode funct3) a w r h k = absurd (cc h)
source_of (Shift opcode funct3 funct7) a w r h k = absurd (cc h)
source_of (S opcode funct3) a w r h k = absurd (cc h)
source_of (B opcode funct3) a w r h k = absurd (cc h)
source_of (U opcode) a w r h k = absurd (cc h)
source_of (J opcode) a w r h k = absurd (cc h)
source_of (FenceSets opcode funct3) a w r h k = absurd (cc h)
source_of (AddressFence opcode funct3 funct7) a w r h k = absurd (cc h)
source_of (Whole bits) a w r h k = absurd (cc h)
source_of DefinedIllegal a w r h k = absurd (cc h)

-- and what fits those of the definition fits one of them
pub accesses_back : DomainsAreOfOperations → GrantedAreUsages → DeniedAreRefused → (s : Stand) (leaf : List Atom) (op : Op) → has_csr_operand (row_of op) ≡ true → (x : Values) → Fits (stand_cases s leaf op (stand_ways s op)) x → Fits (csr_cases s leaf op) x
accesses_back of_operations usages refused s leaf op h x f = elim (first_or_second (traps_posed s leaf op) (retires_posed s leaf op) (case_with s leaf op (denied_way s)) (case_with s leaf op (granted_way s op)) x (subst (λ (l : List AWay). Fits (stand_cases s leaf op l) x) (stand_csr s op h) f)) [
  | inl g ↦ of_denied g.0 g.1
  | inr g ↦ of_granted g.0 g.1
]
  where
    placed : (written : Bool) → Fits (access_case s leaf op (Refused written)) x → Fits (csr_cases s leaf op) x
    placed false g = fits_left (access_case s leaf op (Refused false)) (access_case s leaf op (Refused true) ++ register_cases s leaf op registers) x g
    placed true g = fits_right (access_case s leaf op (Refused false)) (access_case s leaf op (Refused true) ++ register_cases s leaf op registers) x (fits_left (access_case s leaf op (Refused true)) (register_cases s leaf op registers) x g)

    of_denied : traps_posed s leaf op ≡ true → FitsCase (case_with s leaf op (denied_way s)) x → Fits (csr_cases s leaf op) x
    of_denied posed g =
        let p = in_parts s leaf op 2 (denied_way s) x refl g in
        let r = refused s op h x (is_of of_operations s leaf op 2 (denied_way s) x p) p.fits in
        placed r.written (put (traps_posed s leaf op) (case_with s leaf op (refused_way s op r.written)) [] x posed (from_parts s leaf op 2 (denied_way s) (refused_way s op r.written) x refl p r.fits))

    of_granted : retires_posed s leaf op ≡ true → FitsCase (case_with s leaf op (granted_way s op)) x → Fits (csr_cases s leaf op) x
    of_granted posed g =
        let p = in_parts s leaf op 255 (granted_way s op) x refl g in
        let u = usages s op h x (is_of of_operations s leaf op 255 (granted_way s op) x p) p.fits (source_of (row_of op) _ (may_source s x) _ h p.sources) in
        fits_right (access_case s leaf op (Refused false)) (access_case s leaf op (Refused true) ++ register_cases s leaf op registers) x
        (fits_right (access_case s leaf op (Refused true)) (register_cases s leaf op registers) x
        (register_here s leaf op registers u.register x u.register_is
        (usage_here s leaf op u.register (usages_of s op u.register) u.usage x u.usage_is
        (put (retires_posed s leaf op) (case_with s leaf op (usage_way s op u.register u.usage)) [] x posed (from_parts s leaf op 255 (granted_way s op) (usage_way s op u.register u.usage) x refl p u.fits)))))

-- what has no CSR operand and is built stands in a list
pub listed_where : (op : Op) → has_csr (row_of op) ≡ false → is_data (kind_of op) ≡ false → is_listed (kind_of op) ≡ true
listed_where ops.Csrrw n h = absurd (cc n)
listed_where ops.Csrrs n h = absurd (cc n)
listed_where ops.Csrrc n h = absurd (cc n)
listed_where ops.Csrrwi n h = absurd (cc n)
listed_where ops.Csrrsi n h = absurd (cc n)
listed_where ops.Csrrci n h = absurd (cc n)
listed_where ops.Lb n h = absurd (cc h)
listed_where ops.Lh n h = absurd (cc h)
listed_where ops.Lw n h = absurd (cc h)
listed_where ops.Lbu n h = absurd (cc h)
listed_where ops.Lhu n h = absurd (cc h)
listed_where ops.Sb n h = absurd (cc h)
listed_where ops.Sh n h = absurd (cc h)
listed_where ops.Sw n h = absurd (cc h)
listed_where _ n h = refl

-- an operation whose words have the address of a CSR has a CSR operand
pub operand_where : (op : Op) → has_csr (row_of op) ≡ true → has_csr_operand (row_of op) ≡ true
operand_where ops.Csrrw h = refl
operand_where ops.Csrrs h = refl
operand_where ops.Csrrc h = refl
operand_where ops.Csrrwi h = refl
operand_where ops.Csrrsi h = refl
operand_where ops.Csrrci h = refl
operand_where ops.Lui h = absurd (cc h)
operand_where _ h = absurd (cc h)

-- APPENDING
pub access_shaped_at : DomainsAreOfOperations → UsagesAreGranted → RefusedAreDenied → (s : Stand) (leaf : List Atom) (op : Op) (access : Access) (end : End) (c : ACase) → end ≡ end_of access → has_csr_operand (row_of op) ≡ true → IsListed s op access
    → is_posed_at s leaf (shape_at (shape_with op (end_of access))) ≡ true → FitsSame (c ∷ []) (case_at (turn_of s) 0 leaf op (access_way s op access) ∷ []) → IsShaped s leaf (shape_with op end) c
access_shaped_at of_operations granted denied s leaf op access end c e h listed posed same = subst (λ (d : End). IsShaped s leaf (shape_with op d) c) (sym e) (access_shaped of_operations granted denied s leaf op access c h listed posed same)

pub access_posed : (s : Stand) (leaf : List Atom) (op : Op) (access : Access) (c : ACase) → is_posed_at s leaf (shape_at (shape_with op (end_of access))) ≡ true
    → FitsSame (c ∷ []) (case_at (turn_of s) 0 leaf op (access_way s op access) ∷ []) → FitsSame (c ∷ []) (access_case s leaf op access)
access_posed s leaf op access c p h = subst (λ (b : Bool). FitsSame (c ∷ []) (case_if b (case_at (turn_of s) 0 leaf op (access_way s op access)) [])) (sym p) h

pub access_unposed : (s : Stand) (leaf : List Atom) (op : Op) (access : Access) → is_posed_at s leaf (shape_at (shape_with op (end_of access))) ≡ false → FitsSame [] (access_case s leaf op access)
access_unposed s leaf op access p = subst (λ (b : Bool). FitsSame [] (case_if b (case_at (turn_of s) 0 leaf op (access_way s op access)) [])) (sym p) none_yet

has_at : {A : Type 0} (xs : List A) (i : ℕ) (d : A) → i < length xs → HasItem xs (get_or xs i d)
has_at [] i d lt = absurd (omega (arith, lt))
has_at (x ∷ xs) Rattle.std.proofs.Common.zero d lt = inl refl
has_at (x ∷ xs) (suc i) d lt = inr (has_at xs i d (omega (arith, lt)))

pub listed_usage : (s : Stand) (op : Op) (register : Register) (usages : List Usage) (i : ℕ) (d : Usage) → i < length usages → HasItem registers register → usages ≡ usages_of s op register → IsListed s op (Granted register (get_or usages i d))
listed_usage s op register usages i d lt h e = (h, subst (λ (l : List Usage). HasItem l (get_or usages i d)) e (has_at usages i d lt))

pub register_at : (list : List Register) (i : ℕ) (d : Register) → i < length list → HasItem list (get_or list i d)
register_at list i d lt = has_at list i d lt

pub next_usage : (s : Stand) (leaf : List Atom) (op : Op) (register : Register) (usages : List Usage) (i : ℕ) (d : Usage) (a b end : Shaped) → i < length usages → Adds s leaf a b (access_case s leaf op (Granted register (get_or usages i d)))
    → Adds s leaf b end (usage_cases s leaf op register (drop (i + 1) usages)) → Adds s leaf a end (usage_cases s leaf op register (drop i usages))
next_usage s leaf op register usages i d a b end lt step rest =
    let n : i + 1 ≡ suc i = omega arith in
    let e : drop i usages ≡ get_or usages i d ∷ drop (i + 1) usages = drop-cons usages i d lt ∙ ap (λ (m : ℕ). get_or usages i d ∷ drop m usages) (sym n) in
    subst (λ (l : List Usage). Adds s leaf a end (usage_cases s leaf op register l)) (sym e) (then_adds s leaf a b end (access_case s leaf op (Granted register (get_or usages i d))) (usage_cases s leaf op register (drop (i + 1) usages)) step rest)

pub no_usages : (s : Stand) (leaf : List Atom) (op : Op) (register : Register) (usages : List Usage) (i : ℕ) (a : Shaped) → length usages ≤ i → Adds s leaf a a (usage_cases s leaf op register (drop i usages))
no_usages s leaf op register usages i a le = subst (λ (l : List Usage). Adds s leaf a a (usage_cases s leaf op register l)) (sym (drop_all i usages le)) (nothing_added s leaf a [] none_yet)

pub next_register : (s : Stand) (leaf : List Atom) (op : Op) (list : List Register) (i : ℕ) (d : Register) (usages : List Usage) (a b end : Shaped) → i < length list → usages ≡ usages_of s op (get_or list i d)
    → Adds s leaf a b (usage_cases s leaf op (get_or list i d) usages) → Adds s leaf b end (register_cases s leaf op (drop (i + 1) list)) → Adds s leaf a end (register_cases s leaf op (drop i list))
next_register s leaf op list i d usages a b end lt u step rest =
    let n : i + 1 ≡ suc i = omega arith in
    let e : drop i list ≡ get_or list i d ∷ drop (i + 1) list = drop-cons list i d lt ∙ ap (λ (m : ℕ). get_or list i d ∷ drop m list) (sym n) in
    subst (λ (l : List Register). Adds s leaf a end (register_cases s leaf op l)) (sym e)
    (then_adds s leaf a b end (usage_cases s leaf op (get_or list i d) (usages_of s op (get_or list i d))) (register_cases s leaf op (drop (i + 1) list)) (subst (λ (l : List Usage). Adds s leaf a b (usage_cases s leaf op (get_or list i d) l)) u step) rest)

pub no_registers : (s : Stand) (leaf : List Atom) (op : Op) (list : List Register) (i : ℕ) (a : Shaped) → length list ≤ i → Adds s leaf a a (register_cases s leaf op (drop i list))
no_registers s leaf op list i a le = subst (λ (l : List Register). Adds s leaf a a (register_cases s leaf op l)) (sym (drop_all i list le)) (nothing_added s leaf a [] none_yet)
