-- The values of a candidate are in their domains.
use Rattle.std.proofs.Common.{◌≡◌, ℕ, ◌<◌, ◌^◌, ◌&&◌, ◌||◌, ◌==◌, not, Bool, true, false, eqb, if◌then◌else◌, cond, List, [], ◌∷◌, find, Option, Some, None, refl, sym, ap, ◌∙◌, subst, inl, inr}
use Rattle.std.specs.List.{list_any}
use Rattle.std.proofs.Math.Path.{fun_ext}
use Rattle.std.proofs.lemmas.Bool.{and_from, and_parts, cases_Bool, eqb-true}
use Rattle.rv_isa.specs.declared.operation.Op.{Op}
use Rattle.rv_isa.specs.declared.operation.Op.TheVariants.{Csrrw, Csrrs, Csrrc, Csrrwi, Csrrsi, Csrrci, Jal, Jalr, Beq, Bne, Blt, Bge, Bltu, Bgeu, Lb, Lh, Lw, Lbu, Lhu, Sb, Sh, Sw, Ecall, Ebreak, Mret, Sret, SfenceVma, Illegal}
use Rattle.rv_isa.specs.declared.operation.TheConstants.{OPS}
use Rattle.rv_isa.specs.Fields.{has_csr, reads_rs1, reads_rs2, has_address}
use Rattle.rv_isa.specs.Table.{row_of}
use Rattle.rv_csr.specs.declared.access.CsrAccess.{CsrAccess}
use Rattle.rv_csr.specs.declared.access.CsrAccess.TheVariants.{Outside as NotModelled}
use Rattle.rv_csr.specs.declared.privilege.Priv.{Priv}
use Rattle.rv_csr.specs.declared.table.Register.{Register}
use Rattle.rv_csr.specs.Access.{access_of, access_to}
use Rattle.rv_csr.specs.Table.{address_of, is_legal_at, register_at, registers}
use Rattle.rv_script.specs.Lists.{HasItem}
use Rattle.rv_script.specs.Script.{Label.FromRs1, Label, Label.FromCsr, Label.DataRoot, Label.DataSecond, Label.FromVector, Question, Question.OfMemory, Script, Script.Ask, Script.Done}
use Rattle.rv_script.specs.Folds.{Known, by_known, Entry, Answer.Does}
use Rattle.rv_script.specs.Labels.{label_number, question_number}
use Rattle.rv_script.specs.Logs.{value_in, enlarged, entry_label, entry_place, if_new, or_else, labelled, new_value, answer_told, by_answers}
use Rattle.sv_walk.specs.declared.entry.Kind.TheVariants.{Load as ForLoad, Store as ForStore}
use Rattle.tpl_ast.specs.declared.template.Atom.{Atom}
use Rattle.tpl_ast.specs.declared.template.Atom.TheVariants as atoms
use Rattle.tpl_ast.specs.declared.template.Var.{Var}
use Rattle.tpl_ast.specs.declared.template.Var.TheVariants as vars
use Rattle.tpl_ast.specs.Leaves.{same_var}
use Rattle.fd_prob.specs.declared.slot.Slot.{Slot}
use Rattle.fd_prob.specs.declared.slot.Slot.TheVariants as slots
use Rattle.leaf_link.specs.Turns.{Turn, csr_of, holds_address, is_first_form, is_second_form, may_be_old, may_start}
use Rattle.leaf_link.specs.Values.{Values, instr_in, old_csr}
use Rattle.leaf_link.specs.Candidates.{IsCandidate}
use Rattle.leaf_link.specs.Cases.{Fits, FitsCase, Shape, Way, all_judged, all_tests, code_at, in_word, is_judged, is_some_word, or_no, shape_of, tests, unless, uses, base_domain, case_at}
use Rattle.leaf_link.specs.KindLaws.{IsPosed}
use Rattle.leaf_link.specs.Problems.{key_of}
use Rattle.leaf_link.specs.Reaching.{AreRows, HasPages, Walks, data_ways, in_row, is_aligned, load_question, store_apart, store_question, way_of, way_to}
use Rattle.leaf_link.specs.Controls.{access_in, csr_ways, return_ways, grants, is_denied, operand_in}
use Rattle.leaf_link.specs.AllWays.{leaf_cases, ways_of}
use Rattle.leaf_link.specs.Kinds.{retires, traps}
use Rattle.leaf_link.specs.Firsts.{first_domain, has_old, in_first_word, is_modelled, has_walk}
use Rattle.leaf_link.specs.Domains.{CandidatesAreInDomains, CandidatesAreWords, OldDomainsAreLet, OldValuesAreInDomains, holds_cause, in_old_domain, is_bounded, is_new}
use Rattle.leaf_link.proofs.Numbers.{same_op}
use Rattle.leaf_link.proofs.Truths.{same_var_is}
use Rattle.leaf_link.proofs.Law.{fits_way, or_from, or_unused, or_used, used}
use Rattle.leaf_link.proofs.Whole.{below_58, one_of}
use Rattle.leaf_link.proofs.Small.{good_small, label_has}
use Rattle.dom_set.specs.Elements.{is_in}
use Rattle.rv_isa.specs.declared.instruction.Instr.{Instr}
use Rattle.rv_csr.specs.declared.cause.Cause.{Cause}
use Rattle.rv_csr.specs.declared.cause.Cause.TheVariants.{Illegal as IllegalCause, LoadMisaligned, StoreMisaligned}
use Rattle.rv_csr.specs.declared.table.LazyRegister.TheVariants.{Mepc, Sepc}
use Rattle.rv_csr.specs.declared.status.Flag.TheVariants.{Tsr, Tvm}
use Rattle.rv_csr.specs.Privilege.{is_machine}
use Rattle.rv_script.specs.declared.place.Place.{Place}
use Rattle.sv_walk.specs.declared.entry.Kind.{Kind}
use Rattle.sv_walk.specs.Entry.{access_cause}
use Rattle.sv_walk.specs.Translation.{Reached, Fails, arrived, from_root, is_in_ram, is_translated, root_address, root_label, translated}
use Rattle.addr_rows.specs.Walks.{EntryRow, Faults, Leads, RowEnd, end_at, entry_answers}
use Rattle.rv_hart.specs.Machine.{data_view, script}
use Rattle.rv_hart.specs.Privileged.{is_withheld, lazy_address}
use Rattle.fd_prob.specs.Slots.{slot_number}
use Rattle.leaf_link.proofs.Front.{same_done, settled}
use Rattle.leaf_link.proofs.Links.{candidate_good}
use Rattle.rv_script.proofs.Plays.{told}
use Rattle.leaf_link.proofs.Both.{each_slot}
use Rattle.leaf_link.proofs.Back.{address_small}
use Rattle.leaf_link.proofs.Reaching.{in_map}
use Rattle.leaf_link.proofs.Every.{leaf_problems_are_exact}

-- ATOMS ON WHAT IS NOT USED
-- what no atom that is judged speaks of is not tested
off : (s : Shape) (w v : Var) (test : Bool) → uses s w ≡ true → uses s v ≡ false → (if same_var w v then test else true) ≡ true
off s w v test h n = elim (cases_Bool (same_var w v)) [
  | inl same ↦ absurd (let z = ap (λ (u : Var). uses s u) (same_var_is w v same) in cc)
  | inr other ↦ ap (λ (b : Bool). if b then test else true) other
]

not_tested : (t : Turn) (s : Shape) (atom : Atom) (v : Var) (n : ℕ) → is_judged s atom ≡ true → uses s v ≡ false → tests t atom v n ≡ true
not_tested t s (atoms.In w set) v n h isnt = off s w v _ h isnt
not_tested t s (atoms.NotIn w set) v n h isnt = off s w v _ h isnt
not_tested t s (atoms.Is w name) v n h isnt = off s w v _ h isnt
not_tested t s (atoms.Same w y) v n h isnt = refl
not_tested t s (atoms.Differ w y) v n h isnt = refl
not_tested t s atoms.Taken v n h isnt = refl
not_tested t s atoms.NotTaken v n h isnt = refl
not_tested t s atoms.Shared v n h isnt = off s vars.Pa v _ h isnt

none_tested : (t : Turn) (s : Shape) (leaf : List Atom) (v : Var) (n : ℕ) → all_judged s leaf ≡ true → uses s v ≡ false → all_tests t leaf v n ≡ true
none_tested t s [] v n h isnt = refl
none_tested t s (atom ∷ leaf) v n h isnt = let a = and_parts (is_judged s atom) (all_judged s leaf) h in and_from _ _ (not_tested t s atom v n a.0 isnt) (none_tested t s leaf v n a.1 isnt)

field_tested : (t : Turn) (s : Shape) (leaf : List Atom) (v : Var) (n : ℕ) → all_judged s leaf ≡ true → unless (uses s v) (all_tests t leaf v n) ≡ true → all_tests t leaf v n ≡ true
field_tested t s leaf v n judged h = elim (cases_Bool (uses s v)) [
  | inl y ↦ used (uses s v) (all_tests t leaf v n) h y
  | inr isnt ↦ none_tested t s leaf v n judged isnt
]

-- a variable that is 0 where it is not used
source_in : (t : Turn) (s : Shape) (leaf : List Atom) (v : Var) (has small : Bool) (n : ℕ) → (uses s v ≡ true → has ≡ true) → all_judged s leaf ≡ true → or_no (uses s v) (small && all_tests t leaf v n) n ≡ true
    → (or_no has true n && all_tests t leaf v n) ≡ true
source_in t s leaf v has small n owns judged h = elim (cases_Bool (uses s v)) [
  | inl y ↦ and_from _ _ (or_from has true n (λ b. refl) (λ isnt. absurd (let z = owns y in cc))) (and_parts small (all_tests t leaf v n) (or_used (uses s v) _ n h y)).1
  | inr isnt ↦ and_from _ _ (or_from has true n (λ b. refl) (λ b. or_unused (uses s v) _ n h isnt)) (none_tested t s leaf v n judged isnt)
]

-- THE CSR
found_any : (v : ℕ) (rs : List Register) (r : Register) → find (λ register. address_of register == v) rs ≡ Some r → list_any (λ register. eqb (address_of register) v) rs ≡ true
found_any v [] r h = absurd (cc)
found_any v (q ∷ rs) r h = go (address_of q == v) h (found_any v rs r)
  where
    go : (b : Bool) → cond b (Some q) (find (λ register. address_of register == v) rs) ≡ Some r → (find (λ register. address_of register == v) rs ≡ Some r → list_any (λ register. eqb (address_of register) v) rs ≡ true)
        → (b || list_any (λ register. eqb (address_of register) v) rs) ≡ true
    go true h more = refl
    go false h more = more h

modelled : (status : ℕ) (p : Priv) (writes : Bool) (v : ℕ) → (access_of status v p writes ≡ NotModelled → ⊥) → is_modelled v ≡ true
modelled status p writes v h = go (register_at v) refl
  where
    go : (o : Option Register) → register_at v ≡ o → is_modelled v ≡ true
    go None e = absurd (h (ap (λ (o : Option Register). access_to status p writes o) e))
    go (Some r) e = found_any v registers r e

csr_is_modelled : (t : Turn) (op : Op) (way : Way) (x : Values) → HasItem (csr_ways t op) way → way.holds x ≡ true → access_in t.fixed (instr_in x) ≡ NotModelled → ⊥
csr_is_modelled t op way x i h none = elim i [
  | inl q ↦
      let z : is_denied (access_in t.fixed (instr_in x)) ≡ true = ap (λ (w : Way). w.holds x) q ∙ h in
      let y : is_denied (access_in t.fixed (instr_in x)) ≡ false = ap is_denied none in absurd (cc)
  | inr i ↦ elim i [
    | inl q ↦
        let z : grants t (access_in t.fixed (instr_in x)) (instr_in x) (x slots.OldCsr) (operand_in (row_of op) x) ≡ true = ap (λ (w : Way). w.holds x) q ∙ h in
        let y : grants t (access_in t.fixed (instr_in x)) (instr_in x) (x slots.OldCsr) (operand_in (row_of op) x) ≡ false = ap (λ (a : CsrAccess). grants t a (instr_in x) (x slots.OldCsr) (operand_in (row_of op) x)) none in absurd (cc)
    | inr i ↦ absurd i
  ]
]

csr_in : (t : Turn) (walk : List Entry) (pa : ℕ) (leaf : List Atom) (loads stores : List EntryRow) (op : Op) (way : Way) (x : Values) → HasItem (ways_of t walk pa leaf loads stores op) way → way.holds x ≡ true
    → has_csr (row_of op) ≡ true → is_modelled (x slots.Csr) ≡ true
csr_in t walk pa leaf loads stores Csrrw way x i h has = modelled t.fixed.mstatus t.fixed.privilege _ (x slots.Csr) (csr_is_modelled t Csrrw way x i h)
csr_in t walk pa leaf loads stores Csrrs way x i h has = modelled t.fixed.mstatus t.fixed.privilege _ (x slots.Csr) (csr_is_modelled t Csrrs way x i h)
csr_in t walk pa leaf loads stores Csrrc way x i h has = modelled t.fixed.mstatus t.fixed.privilege _ (x slots.Csr) (csr_is_modelled t Csrrc way x i h)
csr_in t walk pa leaf loads stores Csrrwi way x i h has = modelled t.fixed.mstatus t.fixed.privilege _ (x slots.Csr) (csr_is_modelled t Csrrwi way x i h)
csr_in t walk pa leaf loads stores Csrrsi way x i h has = modelled t.fixed.mstatus t.fixed.privilege _ (x slots.Csr) (csr_is_modelled t Csrrsi way x i h)
csr_in t walk pa leaf loads stores Csrrci way x i h has = modelled t.fixed.mstatus t.fixed.privilege _ (x slots.Csr) (csr_is_modelled t Csrrci way x i h)
csr_in t walk pa leaf loads stores _ way x i h has = absurd (cc)

first_csr : (o : Option ℕ) (op : Op) (v : ℕ) → (has_csr (row_of op) ≡ true → is_modelled v ≡ true) → in_word o op slots.Csr v ≡ true → in_first_word o op slots.Csr v ≡ true
first_csr None op v known h = or_from (has_csr (row_of op)) (is_modelled v) v known (λ isnt. or_unused (has_csr (row_of op)) _ v h isnt)
first_csr (Some w) op v known h = h

-- PLACES THAT ARE STARTED
label_is : (log : List Entry) (l : Label) (e : Entry) → labelled log l ≡ Some e → eqb (question_number e.question) (label_number l) ≡ true
label_is [] l e h = absurd (cc)
label_is (d ∷ log) l e h = go (eqb (question_number d.question) (label_number l)) refl h (label_is log l e)
  where
    go : (b : Bool) → eqb (question_number d.question) (label_number l) ≡ b → (if b then Some d else labelled log l) ≡ Some e → (labelled log l ≡ Some e → eqb (question_number e.question) (label_number l) ≡ true)
        → eqb (question_number e.question) (label_number l) ≡ true
    go true q h more = let z : d ≡ e = cc in subst (λ (f : Entry). eqb (question_number f.question) (label_number l) ≡ true) z q
    go false q h more = more h

-- what was started could be
started_in : (t : Turn) (i : Instr) (log : List Entry) (l : Label) (test : ℕ → Bool) → ((e : Entry) → HasItem log e → t.known (entry_place e) ≡ None → may_start t i (entry_label e) (entry_place e) e.value ≡ true)
    → ((m : Label) (place : Place) (v : ℕ) → eqb (label_number m) (label_number l) ≡ true → may_start t i m place v ≡ true → test v ≡ true)
    → is_new t.known (labelled log l) ≡ true → test (new_value t.known (labelled log l)) ≡ true
started_in t i log l test may tests h = go (labelled log l) refl h
  where
    pick : (d : Entry) (o : Option ℕ) → t.known (entry_place d) ≡ o → labelled log l ≡ Some d → not (is_some_word o) ≡ true → test (if_new o d.value) ≡ true
    pick d (Some w) q e h = absurd (cc)
    pick d None q e h = tests (entry_label d) (entry_place d) d.value (label_is log l d e) (may d (label_has log l d e) q)

    go : (o : Option Entry) → labelled log l ≡ o → is_new t.known o ≡ true → test (new_value t.known o) ≡ true
    go None e h = absurd (cc)
    go (Some d) e h = pick d (t.known (entry_place d)) refl e h

first_may : (t : Turn) (i : Instr) (m : Label) (place : Place) (v : ℕ) → eqb (label_number m) 6 ≡ true → may_start t i m place v ≡ true → is_first_form t v ≡ true
first_may t i DataRoot place v n h = (and_parts _ _ (and_parts _ _ h).1).1
first_may t i _ place v n h = absurd (cc)

second_may : (t : Turn) (i : Instr) (m : Label) (place : Place) (v : ℕ) → eqb (label_number m) 7 ≡ true → may_start t i m place v ≡ true → is_second_form t v ≡ true
second_may t i DataSecond place v n h = (and_parts _ _ (and_parts _ _ h).1).1
second_may t i _ place v n h = absurd (cc)

vector_may : (t : Turn) (i : Instr) (m : Label) (place : Place) (v : ℕ) → eqb (label_number m) 9 ≡ true → may_start t i m place v ≡ true → is_in t.vectors v ≡ true
vector_may t i FromVector place v n h = (and_parts _ _ h).1
vector_may t i _ place v n h = absurd (cc)

-- WAYS WITHOUT A WALK
-- no new entry, and no data word
abbrev IsQuiet : Way → Type 0
IsQuiet way = (v : ℕ) → (way.also slots.FirstPte v ≡ eqb v 0) × (way.also slots.SecondPte v ≡ eqb v 0) × (way.also slots.DataWord v ≡ eqb v 0)

abbrev AreQuiet : List Way → Type 0
AreQuiet ways = (way : Way) → HasItem ways way → IsQuiet way

one_quiet : (first : Way) → IsQuiet first → AreQuiet (first ∷ [])
one_quiet first h way i = elim i [ inl q ↦ subst IsQuiet q h | inr i ↦ absurd i ]

two_quiet : (first second : Way) → IsQuiet first → IsQuiet second → AreQuiet (first ∷ second ∷ [])
two_quiet first second h k way i = elim i [ inl q ↦ subst IsQuiet q h | inr i ↦ one_quiet second k way i ]

if_quiet : (b : Bool) (xs ys : List Way) → AreQuiet xs → AreQuiet ys → AreQuiet (if b then xs else ys)
if_quiet true xs ys h k = h
if_quiet false xs ys h k = k

ways_quiet : (t : Turn) (walk : List Entry) (pa : ℕ) (leaf : List Atom) (loads stores : List EntryRow) (op : Op) → has_address (row_of op) ≡ false → AreQuiet (ways_of t walk pa leaf loads stores op)
ways_quiet t walk pa leaf loads stores Jal h = two_quiet _ _ (λ v. (refl, refl, refl)) (λ v. (refl, refl, refl))
ways_quiet t walk pa leaf loads stores Jalr h = two_quiet _ _ (λ v. (refl, refl, refl)) (λ v. (refl, refl, refl))
ways_quiet t walk pa leaf loads stores Beq h = two_quiet _ _ (λ v. (refl, refl, refl)) (λ v. (refl, refl, refl))
ways_quiet t walk pa leaf loads stores Bne h = two_quiet _ _ (λ v. (refl, refl, refl)) (λ v. (refl, refl, refl))
ways_quiet t walk pa leaf loads stores Blt h = two_quiet _ _ (λ v. (refl, refl, refl)) (λ v. (refl, refl, refl))
ways_quiet t walk pa leaf loads stores Bge h = two_quiet _ _ (λ v. (refl, refl, refl)) (λ v. (refl, refl, refl))
ways_quiet t walk pa leaf loads stores Bltu h = two_quiet _ _ (λ v. (refl, refl, refl)) (λ v. (refl, refl, refl))
ways_quiet t walk pa leaf loads stores Bgeu h = two_quiet _ _ (λ v. (refl, refl, refl)) (λ v. (refl, refl, refl))
ways_quiet t walk pa leaf loads stores Lb h = absurd (cc)
ways_quiet t walk pa leaf loads stores Lh h = absurd (cc)
ways_quiet t walk pa leaf loads stores Lw h = absurd (cc)
ways_quiet t walk pa leaf loads stores Lbu h = absurd (cc)
ways_quiet t walk pa leaf loads stores Lhu h = absurd (cc)
ways_quiet t walk pa leaf loads stores Sb h = absurd (cc)
ways_quiet t walk pa leaf loads stores Sh h = absurd (cc)
ways_quiet t walk pa leaf loads stores Sw h = absurd (cc)
ways_quiet t walk pa leaf loads stores Ecall h = one_quiet _ (λ v. (refl, refl, refl))
ways_quiet t walk pa leaf loads stores Ebreak h = one_quiet _ (λ v. (refl, refl, refl))
ways_quiet t walk pa leaf loads stores Csrrw h = two_quiet _ _ (λ v. (refl, refl, refl)) (λ v. (refl, refl, refl))
ways_quiet t walk pa leaf loads stores Csrrs h = two_quiet _ _ (λ v. (refl, refl, refl)) (λ v. (refl, refl, refl))
ways_quiet t walk pa leaf loads stores Csrrc h = two_quiet _ _ (λ v. (refl, refl, refl)) (λ v. (refl, refl, refl))
ways_quiet t walk pa leaf loads stores Csrrwi h = two_quiet _ _ (λ v. (refl, refl, refl)) (λ v. (refl, refl, refl))
ways_quiet t walk pa leaf loads stores Csrrsi h = two_quiet _ _ (λ v. (refl, refl, refl)) (λ v. (refl, refl, refl))
ways_quiet t walk pa leaf loads stores Csrrci h = two_quiet _ _ (λ v. (refl, refl, refl)) (λ v. (refl, refl, refl))
ways_quiet t walk pa leaf loads stores Mret h = if_quiet (is_machine t.fixed.privilege) (return_ways t (lazy_address Mepc)) (traps t IllegalCause) (one_quiet _ (λ v. (refl, refl, refl))) (one_quiet _ (λ v. (refl, refl, refl)))
ways_quiet t walk pa leaf loads stores Sret h = if_quiet (is_withheld Tsr t.fixed) (traps t IllegalCause) (return_ways t (lazy_address Sepc)) (one_quiet _ (λ v. (refl, refl, refl))) (one_quiet _ (λ v. (refl, refl, refl)))
ways_quiet t walk pa leaf loads stores SfenceVma h = if_quiet (is_withheld Tvm t.fixed) (traps t IllegalCause) retires (one_quiet _ (λ v. (refl, refl, refl))) (one_quiet _ (λ v. (refl, refl, refl)))
ways_quiet t walk pa leaf loads stores Illegal h = one_quiet _ (λ v. (refl, refl, refl))
ways_quiet t walk pa leaf loads stores _ h = one_quiet _ (λ v. (refl, refl, refl))

-- WAYS WITHOUT AN OLD VALUE
abbrev IsUnread : Way → Type 0
IsUnread way = (v : ℕ) → way.also slots.OldCsr v ≡ eqb v 0

abbrev AreUnread : List Way → Type 0
AreUnread ways = (way : Way) → HasItem ways way → IsUnread way

one_unread : (first : Way) → IsUnread first → AreUnread (first ∷ [])
one_unread first h way i = elim i [ inl q ↦ subst IsUnread q h | inr i ↦ absurd i ]

two_unread : (first second : Way) → IsUnread first → IsUnread second → AreUnread (first ∷ second ∷ [])
two_unread first second h k way i = elim i [ inl q ↦ subst IsUnread q h | inr i ↦ one_unread second k way i ]

if_unread : (b : Bool) (xs ys : List Way) → AreUnread xs → AreUnread ys → AreUnread (if b then xs else ys)
if_unread true xs ys h k = h
if_unread false xs ys h k = k

row_unread : (t : Turn) (pa : ℕ) (leaf : List Atom) (op : Op) (kind : Kind) (question : Values → ℕ → Question) (apart : Values → ℕ → Bool) (row : EntryRow) (end : RowEnd) → IsUnread (way_to t pa leaf op kind question apart row end)
row_unread t pa leaf op kind question apart row (Leads to) v = refl
row_unread t pa leaf op kind question apart row (Faults cause) v = refl

data_unread : (t : Turn) (pa : ℕ) (leaf : List Atom) (op : Op) (kind : Kind) (misaligned : Cause) (question : Values → ℕ → Question) (apart : Values → ℕ → Bool) (rows : List EntryRow) → AreUnread (data_ways t pa leaf op kind misaligned question apart rows)
data_unread t pa leaf op kind misaligned question apart rows way i = elim i [
  | inl q ↦ subst IsUnread q (λ v. refl)
  | inr j ↦ let m = in_map (way_of t pa leaf op kind question apart) rows way j in subst IsUnread m.2 (row_unread t pa leaf op kind question apart m.0 m.0.end)
]

ways_unread : (t : Turn) (walk : List Entry) (pa : ℕ) (leaf : List Atom) (loads stores : List EntryRow) (op : Op) → has_old op ≡ false → AreUnread (ways_of t walk pa leaf loads stores op)
ways_unread t walk pa leaf loads stores Jal h = two_unread _ _ (λ v. refl) (λ v. refl)
ways_unread t walk pa leaf loads stores Jalr h = two_unread _ _ (λ v. refl) (λ v. refl)
ways_unread t walk pa leaf loads stores Beq h = two_unread _ _ (λ v. refl) (λ v. refl)
ways_unread t walk pa leaf loads stores Bne h = two_unread _ _ (λ v. refl) (λ v. refl)
ways_unread t walk pa leaf loads stores Blt h = two_unread _ _ (λ v. refl) (λ v. refl)
ways_unread t walk pa leaf loads stores Bge h = two_unread _ _ (λ v. refl) (λ v. refl)
ways_unread t walk pa leaf loads stores Bltu h = two_unread _ _ (λ v. refl) (λ v. refl)
ways_unread t walk pa leaf loads stores Bgeu h = two_unread _ _ (λ v. refl) (λ v. refl)
ways_unread t walk pa leaf loads stores Lb h = data_unread t pa leaf Lb ForLoad LoadMisaligned (load_question Lb) (λ x p. true) loads
ways_unread t walk pa leaf loads stores Lh h = data_unread t pa leaf Lh ForLoad LoadMisaligned (load_question Lh) (λ x p. true) loads
ways_unread t walk pa leaf loads stores Lw h = data_unread t pa leaf Lw ForLoad LoadMisaligned (load_question Lw) (λ x p. true) loads
ways_unread t walk pa leaf loads stores Lbu h = data_unread t pa leaf Lbu ForLoad LoadMisaligned (load_question Lbu) (λ x p. true) loads
ways_unread t walk pa leaf loads stores Lhu h = data_unread t pa leaf Lhu ForLoad LoadMisaligned (load_question Lhu) (λ x p. true) loads
ways_unread t walk pa leaf loads stores Sb h = data_unread t pa leaf Sb ForStore StoreMisaligned (store_question Sb) (store_apart t walk pa Sb) stores
ways_unread t walk pa leaf loads stores Sh h = data_unread t pa leaf Sh ForStore StoreMisaligned (store_question Sh) (store_apart t walk pa Sh) stores
ways_unread t walk pa leaf loads stores Sw h = data_unread t pa leaf Sw ForStore StoreMisaligned (store_question Sw) (store_apart t walk pa Sw) stores
ways_unread t walk pa leaf loads stores Csrrw h = absurd (cc)
ways_unread t walk pa leaf loads stores Csrrs h = absurd (cc)
ways_unread t walk pa leaf loads stores Csrrc h = absurd (cc)
ways_unread t walk pa leaf loads stores Csrrwi h = absurd (cc)
ways_unread t walk pa leaf loads stores Csrrsi h = absurd (cc)
ways_unread t walk pa leaf loads stores Csrrci h = absurd (cc)
ways_unread t walk pa leaf loads stores Mret h = absurd (cc)
ways_unread t walk pa leaf loads stores Sret h = absurd (cc)
ways_unread t walk pa leaf loads stores SfenceVma h = if_unread (is_withheld Tvm t.fixed) (traps t IllegalCause) retires (one_unread _ (λ v. refl)) (one_unread _ (λ v. refl))
ways_unread t walk pa leaf loads stores Ecall h = one_unread _ (λ v. refl)
ways_unread t walk pa leaf loads stores Ebreak h = one_unread _ (λ v. refl)
ways_unread t walk pa leaf loads stores Illegal h = one_unread _ (λ v. refl)
ways_unread t walk pa leaf loads stores _ h = one_unread _ (λ v. refl)

-- without translation no entry is asked for
abbrev walk_script : Turn → Kind → ℕ → Script Reached
walk_script t kind ea =
    if is_in_ram t.fixed.ram (root_address (data_view t.fixed) ea)
    then Ask (OfMemory (root_label kind) (root_address (data_view t.fixed) ea) 4) (λ root. from_root t.fixed.ram (data_view t.fixed) kind ea root)
    else Done (Fails (access_cause kind))

unwalked : (t : Turn) (kind : Kind) (ea first second : ℕ) (log : List Entry) (end : Reached) → is_translated (data_view t.fixed) ≡ false → Walks t kind ea first second log end → (first ≡ 0) × (second ≡ 0)
unfolding translated
unwalked t kind ea first second log end isnt w =
    let bare : answer_told (by_answers t.known (entry_answers first second)) (translated t.fixed.ram (data_view t.fixed) kind ea) ≡ Does [] (arrived t.fixed.ram kind ea) =
    ap (λ (b : Bool). answer_told (by_answers t.known (entry_answers first second)) (if b then walk_script t kind ea else Done (arrived t.fixed.ram kind ea))) isnt in
    let same = same_done [] log (arrived t.fixed.ram kind ea) end (sym bare ∙ w.plays) in (
      w.first_is ∙ ap (λ (l : List Entry). new_value t.known (labelled l DataRoot)) (sym same.0),
      w.second_is ∙ ap (λ (l : List Entry). new_value t.known (labelled l DataSecond)) (sym same.0),
    )

row_holds : (t : Turn) (pa : ℕ) (leaf : List Atom) (op : Op) (kind : Kind) (question : Values → ℕ → Question) (apart : Values → ℕ → Bool) (row : EntryRow) (end : RowEnd) (x : Values)
    → (way_to t pa leaf op kind question apart row end).holds x ≡ true → row.holds (x slots.Ea) (x slots.FirstPte) (x slots.SecondPte) ≡ true
row_holds t pa leaf op kind question apart row (Leads to) x h = (and_parts (is_aligned op x) _ (and_parts (in_row op row x) _ h).0).1
row_holds t pa leaf op kind question apart row (Faults cause) x h = (and_parts (is_aligned op x) _ (and_parts (in_row op row x) _ h).0).1

data_unwalked : (t : Turn) (pa : ℕ) (leaf : List Atom) (op : Op) (kind : Kind) (misaligned : Cause) (question : Values → ℕ → Question) (apart : Values → ℕ → Bool) {pages : ℕ → Bool} (rows : List EntryRow) → AreRows t pages kind rows
    → is_translated (data_view t.fixed) ≡ false → (way : Way) → HasItem (data_ways t pa leaf op kind misaligned question apart rows) way → (x : Values) → x slots.Ea < 2 ^ 32
    → ((s : Slot) → way.also s (x s) ≡ true) → way.holds x ≡ true → (x slots.FirstPte ≡ 0) × (x slots.SecondPte ≡ 0)
data_unwalked t pa leaf op kind misaligned question apart rows are isnt way i x small also holds = elim i [
  | inl q ↦ (
    eqb-true (x slots.FirstPte) 0 (subst (λ (w : Way). w.also slots.FirstPte (x slots.FirstPte) ≡ true) (sym q) (also slots.FirstPte)),
    eqb-true (x slots.SecondPte) 0 (subst (λ (w : Way). w.also slots.SecondPte (x slots.SecondPte) ≡ true) (sym q) (also slots.SecondPte)),
  )
  | inr j ↦
      let m = in_map (way_of t pa leaf op kind question apart) rows way j in
      let h = row_holds t pa leaf op kind question apart m.0 m.0.end x (ap (λ (w : Way). w.holds x) m.2 ∙ holds) in
      let w = are.sound m.0 m.1 (x slots.Ea) (x slots.FirstPte) (x slots.SecondPte) small h in
      unwalked t kind (x slots.Ea) (x slots.FirstPte) (x slots.SecondPte) w.0 (end_at m.0.end (x slots.Ea)) isnt w.1
]

access_unwalked : (t : Turn) (walk : List Entry) (pa : ℕ) (leaf : List Atom) {pages : ℕ → Bool} (loads stores : List EntryRow) → AreRows t pages ForLoad loads → AreRows t pages ForStore stores → is_translated (data_view t.fixed) ≡ false
    → (op : Op) → has_address (row_of op) ≡ true → (way : Way) → HasItem (ways_of t walk pa leaf loads stores op) way → (x : Values) → x slots.Ea < 2 ^ 32
    → ((s : Slot) → way.also s (x s) ≡ true) → way.holds x ≡ true → (x slots.FirstPte ≡ 0) × (x slots.SecondPte ≡ 0)
access_unwalked t walk pa leaf loads stores l s isnt Lb h way i x = data_unwalked t pa leaf Lb ForLoad LoadMisaligned (load_question Lb) (λ x p. true) loads l isnt way i x
access_unwalked t walk pa leaf loads stores l s isnt Lh h way i x = data_unwalked t pa leaf Lh ForLoad LoadMisaligned (load_question Lh) (λ x p. true) loads l isnt way i x
access_unwalked t walk pa leaf loads stores l s isnt Lw h way i x = data_unwalked t pa leaf Lw ForLoad LoadMisaligned (load_question Lw) (λ x p. true) loads l isnt way i x
access_unwalked t walk pa leaf loads stores l s isnt Lbu h way i x = data_unwalked t pa leaf Lbu ForLoad LoadMisaligned (load_question Lbu) (λ x p. true) loads l isnt way i x
access_unwalked t walk pa leaf loads stores l s isnt Lhu h way i x = data_unwalked t pa leaf Lhu ForLoad LoadMisaligned (load_question Lhu) (λ x p. true) loads l isnt way i x
access_unwalked t walk pa leaf loads stores l s isnt Sb h way i x = data_unwalked t pa leaf Sb ForStore StoreMisaligned (store_question Sb) (store_apart t walk pa Sb) stores s isnt way i x
access_unwalked t walk pa leaf loads stores l s isnt Sh h way i x = data_unwalked t pa leaf Sh ForStore StoreMisaligned (store_question Sh) (store_apart t walk pa Sh) stores s isnt way i x
access_unwalked t walk pa leaf loads stores l s isnt Sw h way i x = data_unwalked t pa leaf Sw ForStore StoreMisaligned (store_question Sw) (store_apart t walk pa Sw) stores s isnt way i x
access_unwalked t walk pa leaf loads stores l s isnt _ h way i x = absurd (cc)

-- where an operation has no walk, no entry is new
no_entries : (t : Turn) (walk : List Entry) (pa : ℕ) (leaf : List Atom) {pages : ℕ → Bool} (loads stores : List EntryRow) → AreRows t pages ForLoad loads → AreRows t pages ForStore stores
    → (op : Op) (way : Way) → HasItem (ways_of t walk pa leaf loads stores op) way → (x : Values) → x slots.Ea < 2 ^ 32 → ((s : Slot) → way.also s (x s) ≡ true) → way.holds x ≡ true
    → has_walk t op ≡ false → (x slots.FirstPte ≡ 0) × (x slots.SecondPte ≡ 0)
no_entries t walk pa leaf loads stores l s op way i x small also holds isnt = elim (cases_Bool (has_address (row_of op))) [
  | inl y ↦ access_unwalked t walk pa leaf loads stores l s (sym (ap (λ (b : Bool). b && is_translated (data_view t.fixed)) y) ∙ isnt) op y way i x small also holds
  | inr n ↦
      let quiet = ways_quiet t walk pa leaf loads stores op n way i in (
        eqb-true (x slots.FirstPte) 0 (sym (quiet (x slots.FirstPte)).0 ∙ also slots.FirstPte),
        eqb-true (x slots.SecondPte) 0 (sym (quiet (x slots.SecondPte)).1 ∙ also slots.SecondPte),
      )
]

-- ALL VARIABLES
-- what a case says of a candidate's values
record Kept (t : Turn) (walk : List Entry) (pa : ℕ) (leaf : List Atom) (loads stores : List EntryRow) (op : Op) (x : Values) : Type 0 where
  way : Way
  item : HasItem (ways_of t walk pa leaf loads stores op) way
  judged : all_judged (shape_of op way) leaf ≡ true
  fits : FitsCase (case_at t pa leaf op way) x

kept_by : (t : Turn) (walk : List Entry) (pa : ℕ) (leaf : List Atom) (pages : ℕ → Bool) (loads stores : List EntryRow) → IsPosed t walk pa leaf → HasPages t leaf pages → AreRows t pages ForLoad loads → AreRows t pages ForStore stores
    → (new : Known) (w : IsCandidate t leaf new) → Kept t walk pa leaf loads stores w.instr.op (key_of t leaf new w)
kept_by t walk pa leaf pages loads stores posed h l s new w =
    let x : Values = key_of t leaf new w in
    let o = (leaf_problems_are_exact t walk pa leaf pages loads stores posed h l s).onto new w in
    let fit : Fits (leaf_cases t walk pa leaf loads stores) x = subst (λ (z : Values). Fits (leaf_cases t walk pa leaf loads stores) z) (fun_ext o.3) o.1 in
    let c = one_of t walk pa leaf (ways_of t walk pa leaf loads stores) OPS x fit in
    let f = fits_way t walk pa leaf c.0 (ways_of t walk pa leaf loads stores c.0) x c.1 in
    let same : c.0 ≡ w.instr.op = sym (same_op w.instr.op c.0 f.3.op) in
    subst (λ (q : Op). Kept t walk pa leaf loads stores q x) same (record { way = f.0; item = f.1; judged = (and_parts _ _ (and_parts _ _ f.2).1).0; fits = f.3 })

first_field : (o : Option ℕ) (op : Op) (s : Slot) (v : ℕ) → (slot_number s == 5) ≡ false → in_word o op s v ≡ true → in_first_word o op s v ≡ true
first_field (Some w) op s v n h = h
first_field None op slots.Csr v n h = absurd (cc)
first_field None op _ v n h = h

pub candidates_are_in_domains : CandidatesAreInDomains
candidates_are_in_domains t walk pa leaf pages loads stores posed has_pages l s new w =
    let op : Op = w.instr.op in
    let x : Values = key_of t leaf new w in
    let k = kept_by t walk pa leaf pages loads stores posed has_pages l s new w in
    let shape : Shape = shape_of op k.way in
    let also : (r : Slot) → k.way.also r (x r) ≡ true = λ r. (and_parts (base_domain t pa leaf shape r (x r)) _ (k.fits.each r)).1 in
    let base : (r : Slot) → base_domain t pa leaf shape r (x r) ≡ true = λ r. (and_parts (base_domain t pa leaf shape r (x r)) _ (k.fits.each r)).0 in
    let holds : k.way.holds x ≡ true = (and_parts _ _ (and_parts _ _ k.fits.holds).1).1 in
    let small : x slots.Ea < 2 ^ 32 = address_small (has_address (row_of op)) (value_in (labelled w.log FromRs1)) w.instr.imm (x slots.Ea) refl in
    let unwalked = no_entries t walk pa leaf loads stores l s op k.way k.item x small also holds in
    let field : (r : Slot) (v : Var) → (slot_number r == 5) ≡ false → (in_word (code_at t pa) op r (x r) && unless (uses shape v) (all_tests t leaf v (x r))) ≡ true → (in_first_word (code_at t pa) op r (x r) && all_tests t leaf v (x r)) ≡ true =
    λ r v n h. let a = and_parts (in_word (code_at t pa) op r (x r)) _ h in and_from _ _ (first_field (code_at t pa) op r (x r) n a.0) (field_tested t shape leaf v (x r) k.judged a.1) in
    let csr = and_parts (in_word (code_at t pa) op slots.Csr (x slots.Csr)) _ (base slots.Csr) in
    each_slot (λ r. is_bounded t w.log r ≡ true → first_domain t pa leaf op r (x r) ≡ true) (record {
      op_slot = λ h. let a = and_parts (in_word (code_at t pa) op slots.Op (x slots.Op)) _ (base slots.Op) in and_from _ _ (first_field (code_at t pa) op slots.Op (x slots.Op) refl a.0) a.1;
      rs1_slot = λ h. field slots.Rs1 vars.Rs1 refl (base slots.Rs1);
      rs2_slot = λ h. field slots.Rs2 vars.Rs2 refl (base slots.Rs2);
      imm_slot = λ h. field slots.Imm vars.Imm refl (base slots.Imm);
      rd_slot = λ h. field slots.Rd vars.Rd refl (base slots.Rd);
      csr_slot = λ h. and_from _ _ (first_csr (code_at t pa) op (x slots.Csr) (λ has. csr_in t walk pa leaf loads stores op k.way x k.item holds has) csr.0) (field_tested t shape leaf vars.Csr (x slots.Csr) k.judged csr.1);
      ea_slot = λ h. source_in t shape leaf vars.Ea (has_address (row_of op)) _ (x slots.Ea) (λ u. (and_parts (has_address (row_of op)) _ u).0) k.judged (base slots.Ea);
      a_slot = λ h. source_in t shape leaf vars.A (reads_rs1 (row_of op)) _ (x slots.A) (λ u. (and_parts (reads_rs1 (row_of op)) _ u).0) k.judged (base slots.A);
      b_slot = λ h. source_in t shape leaf vars.B (reads_rs2 (row_of op)) _ (x slots.B) (λ u. (and_parts (reads_rs2 (row_of op)) _ u).0) k.judged (base slots.B);
      first_slot = λ h. or_from (has_walk t op) _ (x slots.FirstPte) (λ y. started_in t w.instr w.log DataRoot (is_first_form t) w.is.meets.may (first_may t w.instr) h) (λ n. (unwalked n).0);
      second_slot = λ h. or_from (has_walk t op) _ (x slots.SecondPte) (λ y. started_in t w.instr w.log DataSecond (is_second_form t) w.is.meets.may (second_may t w.instr) h) (λ n. (unwalked n).1);
      data_slot = λ h. or_from (has_address (row_of op)) true (x slots.DataWord) (λ y. refl) (λ n. eqb-true (x slots.DataWord) 0 (sym (ways_quiet t walk pa leaf loads stores op n k.way k.item (x slots.DataWord)).2 ∙ also slots.DataWord));
      old_slot = λ h. or_from (has_old op) true (x slots.OldCsr) (λ y. refl) (λ n. eqb-true (x slots.OldCsr) 0 (sym (ways_unread t walk pa leaf loads stores op n k.way k.item (x slots.OldCsr)) ∙ also slots.OldCsr));
      vector_slot = λ h. started_in t w.instr w.log FromVector (is_in t.vectors) w.is.meets.may (vector_may t w.instr) h;
    })

pub candidates_are_words : CandidatesAreWords
candidates_are_words t walk pa leaf p new w = good_small t leaf (key_of t leaf new w) p.words p.fixed below_58 (candidate_good t leaf new w (settled t walk pa p.fetched))

-- OLD VALUES
old_may : (t : Turn) (i : Instr) (m : Label) (place : Place) (v : ℕ) → eqb (label_number m) 5 ≡ true → may_start t i m place v ≡ true → may_be_old t (csr_of place) v ≡ true
old_may t i FromCsr place v n h = (and_parts _ _ h).1
old_may t i _ place v n h = absurd (cc)

old_inside : (t : Turn) (addr v : ℕ) → may_be_old t addr v ≡ true → in_old_domain t addr v ≡ true
old_inside t addr v h = go (holds_address addr) (holds_cause addr) h
  where
    go : (b c : Bool) → (if b then is_in t.vectors v else is_legal_at addr v) ≡ true → (if b then is_in t.vectors v else (if c then is_legal_at addr v else true)) ≡ true
    go true c h = h
    go false true h = h
    go false false h = refl

pub old_values_are_in_domains : OldValuesAreInDomains
old_values_are_in_domains t leaf new w e is unknown =
    let item : HasItem w.log e = label_has w.log FromCsr e is in
    let value : key_of t leaf new w slots.OldCsr ≡ e.value = ap (λ (o : Option Entry). old_csr t.fixed w.instr o) is in
    let told_here : enlarged t.known new (entry_place e) ≡ Some e.value = told (script t.fixed) (by_known (enlarged t.known new)) w.log w.change w.is.plays e item in
    let here : new (entry_place e) ≡ Some e.value = ap (λ (o : Option ℕ). or_else o (new (entry_place e))) (sym unknown) ∙ told_here in
    let may : may_be_old t (csr_of (entry_place e)) e.value ≡ true = old_may t w.instr (entry_label e) (entry_place e) e.value (label_is w.log FromCsr e is) (w.is.meets.may e item unknown) in
    (here ∙ ap (λ (v : ℕ). Some v) (sym value), subst (λ (v : ℕ). in_old_domain t (csr_of (entry_place e)) v ≡ true) (sym value) (old_inside t (csr_of (entry_place e)) e.value may))

pub old_domains_are_let : OldDomainsAreLet
old_domains_are_let t Mepc v = refl
old_domains_are_let t _ v = refl
