-- The cases of a stand are those of every turn that it tells.
use Rattle.std.proofs.Common.{◌≡◌, ℕ, ◌⊎◌, Bool, true, false, ◌&&◌, ◌||◌, List, [], ◌∷◌, ◌++◌, ◌==◌, Option, Some, None, refl, sym, ap, ◌∙◌, subst, inl, inr, ◌^◌}
use Rattle.std.specs.Prelude.{not, if◌then◌else◌, length, nat_eq, nat_le, nat_lt, IfSome}
use Rattle.std.specs.List.{list_all}
use Rattle.std.proofs.lemmas.Bool.{and_from, and_parts}
use Rattle.std.proofs.Math.Path.{fun_ext}
use Rattle.std.specs.Option.{is_some, unwrap_or}
use Rattle.dom_set.specs.Elements.{is_in}
use Rattle.dom_set.proofs.Sets.{elements_same}
use Rattle.rv_isa.specs.declared.operation.Op.{Op}
use Rattle.rv_isa.specs.declared.operation.Op.TheVariants as ops
use Rattle.rv_isa.specs.Fields.{reads_rs1, has_address}
use Rattle.rv_isa.specs.Table.{row_of}
use Rattle.rv_csr.specs.declared.cause.Cause.{Cause}
use Rattle.rv_csr.specs.declared.cause.Cause.TheVariants as causes
use Rattle.rv_csr.specs.declared.privilege.Priv.{Priv}
use Rattle.rv_csr.specs.declared.status.Flag.{Flag}
use Rattle.rv_csr.specs.declared.status.Flag.TheVariants.{Tsr, Tvm}
use Rattle.rv_csr.specs.declared.table.LazyRegister.TheVariants.{Mepc, Sepc}
use Rattle.rv_csr.specs.Table.{is_legal_at}
use Rattle.rv_csr.specs.declared.access.CsrAccess.{CsrAccess}
use Rattle.rv_csr.specs.declared.access.CsrAccess.TheVariants.{Granted, Denied, Outside as NotModelled}
use Rattle.rv_csr.specs.declared.table.Register.{Register}
use Rattle.rv_csr.specs.declared.table.Register.TheVariants.{Lazy, Medeleg, Mhartid, Mstatus, Satp, Sstatus}
use Rattle.rv_csr.specs.Access.{access_of}
use Rattle.rv_csr.specs.State.{CsrValues, first_values, value_of}
use Rattle.rv_isa.specs.declared.instruction.Instr.{Instr}
use Rattle.rv_csr.specs.Privilege.{is_machine, is_supervisor}
use Rattle.rv_csr.specs.Status.{is_set}
use Rattle.rv_csr.specs.Causes.{number_of}
use Rattle.rv_csr.specs.Traps.{takes_trap, vector_register}
use Rattle.rv_script.specs.declared.place.Place.TheVariants.{Csr, Reg, Word}
use Rattle.rv_script.specs.Folds.{Entry}
use Rattle.rv_hart.specs.Fixed.{fixed_csrs}
use Rattle.rv_hart.specs.Privileged.{call_cause, is_withheld, lazy_address, reads_csr}
use Rattle.addr_rows.specs.Walks.{EntryRow}
use Rattle.tpl_ast.specs.Leaves.{same_var}
use Rattle.tpl_ast.specs.declared.template.Atom.{Atom}
use Rattle.tpl_ast.specs.declared.template.Atom.TheVariants as atoms
use Rattle.tpl_ast.specs.declared.template.Var.{Var}
use Rattle.tpl_ast.specs.declared.template.Var.TheVariants as vars
use Rattle.tpl_admit.specs.Truth.{is_shared}
use Rattle.fd_prob.specs.declared.problem.Case.{Case as ACase}
use Rattle.fd_prob.specs.declared.slot.Slot.{Slot}
use Rattle.fd_prob.specs.declared.slot.Slot.TheVariants as slots
use Rattle.rv_isa.specs.Numbers.{op_number}
use Rattle.leaf_link.specs.Turns.{Turn, holds_address, is_free_entry, is_narrow, is_small, may_be_old, may_be_source}
use Rattle.leaf_link.specs.Values.{Values, instr_in}
use Rattle.leaf_link.specs.Cases.{Case, Fits, FitsCase, Shape as AShape, Way as AWay, all_judged, all_relate, all_tests, atoms_hold, base_domain, case_at, case_if, cases_of, domain, fetch_entry, in_word, is_held, is_posed, is_some_word, is_value_named, may_fetch, or_no, shape_of, sources_hold, target_at, tests, unless, uses, uses_address, uses_rs1, uses_rs2, value_at}
use Rattle.leaf_link.specs.Kinds.{always, branch_goes, far_is_target, forks, is_vector, near_is_target, retires, retires_when, traps, traps_when, vector_alone, vector_at}
use Rattle.leaf_link.specs.Controls.{access_in, csr_ways, grants, is_denied, is_legal_write, is_old, is_old_value, is_read_old, operand_in, return_ways, writes_in}
use Rattle.leaf_link.specs.Answers.{values_in}
use Rattle.leaf_link.specs.AllWays.{ways_of}
use Rattle.leaf_link.specs.Problems.{cases_over}
use Rattle.leaf_stand.specs.declared.stand.Stand.{Stand}
use Rattle.leaf_stand.specs.Kinds.{kind_of}
use Rattle.leaf_stand.specs.Posed.{FitsSame, all_cases, allows, data_ways, has_accesses, is_data, is_posable, is_posed_at, stand_cases, stand_ways, ways_at}
use Rattle.leaf_stand.specs.DataRows.{AreRowsOf, AreRowsOfPages}
use Rattle.leaf_stand.specs.Stands.{IsStandOf, turn_of}
use Rattle.data_goals.specs.declared.accesses.Accesses.{Accesses}
use Rattle.data_goals.specs.declared.goal.Goal.{Goal}
use Rattle.data_goals.specs.declared.goal.Goal.TheVariants.{Misaligned}
use Rattle.data_ways.specs.declared.way.DataWay.{DataWay}
use Rattle.data_goals.specs.Goals.{cause_of, end_test, goal_test, goal_way, goal_ways, goals_by, misses, ways_by, ways_for, ways_through}
use Rattle.data_goals.specs.Grounds.{HasAccesses}
use Rattle.data_goals.specs.Laws.{AreSmall, GoalsAreWays, IsDataStep, WaysAreGoals, has_code}
use Rattle.rv_hart.specs.declared.record.Record.{Record}
use Rattle.rv_script.specs.Lists.{HasItem}
use Rattle.leaf_link.specs.Ways.{FitsWay, HasWay, IsFetched}
use Rattle.leaf_stand.proofs.Rows.{data_address}
use Rattle.leaf_stand.proofs.Single.{both_same, word_at}
use Rattle.leaf_stand.proofs.Fits.{fits_either, fits_left, fits_right, in_word_reads, posable_where}

-- ATOMS
tests_same : (s : Stand) (t : Turn) (walk : List Entry) (pa : ℕ) → IsStandOf s t walk pa → (atom : Atom) (u : Var) (v : ℕ) → tests t atom u v ≡ tests (turn_of s) atom u v
tests_same s t walk pa h (atoms.In w set) u v = refl
tests_same s t walk pa h (atoms.NotIn w set) u v = refl
tests_same s t walk pa h (atoms.Is w name) u v =
    ap (λ (o : Option ℕ). if same_var w u then is_value_named o (t.sets name) v else true) (h.names name)
    ∙ ap (λ (l : List ℕ). if same_var w u then is_value_named ((turn_of s).names name) l v else true) (h.sets name)
tests_same s t walk pa h (atoms.Same w y) u v = refl
tests_same s t walk pa h (atoms.Differ w y) u v = refl
tests_same s t walk pa h atoms.Taken u v = refl
tests_same s t walk pa h atoms.NotTaken u v = refl
tests_same s t walk pa h atoms.Shared u v = ap (λ (o : List (List Record)). if same_var vars.Pa u then is_shared o (Some v) else true) h.others

pub all_same : (s : Stand) (t : Turn) (walk : List Entry) (pa : ℕ) → IsStandOf s t walk pa → (leaf : List Atom) (u : Var) (v : ℕ) → all_tests t leaf u v ≡ all_tests (turn_of s) leaf u v
all_same s t walk pa h [] u v = refl
all_same s t walk pa h (atom ∷ leaf) u v = both_same _ _ _ _ (tests_same s t walk pa h atom u v) (all_same s t walk pa h leaf u v)

-- DOMAINS
field_same : (s : Stand) (t : Turn) (walk : List Entry) (pa : ℕ) → IsStandOf s t walk pa → (leaf : List Atom) (op : Op) (slot : Slot) (u : Var) (used : Bool) (v : ℕ)
    → (in_word (t.known (Word pa)) op slot v && unless used (all_tests t leaf u v)) ≡ (in_word s.word op slot v && unless used (all_tests (turn_of s) leaf u v))
field_same s t walk pa h leaf op slot u used v = both_same _ _ _ _ (ap (λ (o : Option ℕ). in_word o op slot v) h.word) (ap (λ (b : Bool). unless used b) (all_same s t walk pa h leaf u v))

value_same : (s : Stand) (t : Turn) (walk : List Entry) (pa : ℕ) → IsStandOf s t walk pa → (leaf : List Atom) (u : Var) (used : Bool) (v : ℕ)
    → or_no used (nat_lt v (2 ^ 32) && all_tests t leaf u v) v ≡ or_no used (nat_lt v (2 ^ 32) && all_tests (turn_of s) leaf u v) v
value_same s t walk pa h leaf u used v = ap (λ (b : Bool). or_no used (nat_lt v (2 ^ 32) && b) v) (all_same s t walk pa h leaf u v)

base_same : (s : Stand) (t : Turn) (walk : List Entry) (pa : ℕ) → IsStandOf s t walk pa → (leaf : List Atom) (sh : AShape) (slot : Slot) (v : ℕ) → base_domain t pa leaf sh slot v ≡ base_domain (turn_of s) 0 leaf sh slot v
base_same s t walk pa h leaf sh slots.Op v = field_same s t walk pa h leaf sh.op slots.Op vars.Op true v
base_same s t walk pa h leaf sh slots.Rs1 v = field_same s t walk pa h leaf sh.op slots.Rs1 vars.Rs1 (uses sh vars.Rs1) v
base_same s t walk pa h leaf sh slots.Rs2 v = field_same s t walk pa h leaf sh.op slots.Rs2 vars.Rs2 (uses sh vars.Rs2) v
base_same s t walk pa h leaf sh slots.Imm v = field_same s t walk pa h leaf sh.op slots.Imm vars.Imm (uses sh vars.Imm) v
base_same s t walk pa h leaf sh slots.Rd v = field_same s t walk pa h leaf sh.op slots.Rd vars.Rd (uses sh vars.Rd) v
base_same s t walk pa h leaf sh slots.Csr v = field_same s t walk pa h leaf sh.op slots.Csr vars.Csr (uses sh vars.Csr) v
base_same s t walk pa h leaf sh slots.Ea v = value_same s t walk pa h leaf vars.Ea (uses_address sh) v
base_same s t walk pa h leaf sh slots.A v = value_same s t walk pa h leaf vars.A (uses_rs1 sh) v
base_same s t walk pa h leaf sh slots.B v = value_same s t walk pa h leaf vars.B (uses_rs2 sh) v
base_same s t walk pa h leaf sh slots.FirstPte v = refl
base_same s t walk pa h leaf sh slots.SecondPte v = refl
base_same s t walk pa h leaf sh slots.DataWord v = refl
base_same s t walk pa h leaf sh slots.OldCsr v = refl
base_same s t walk pa h leaf sh slots.Vector v = refl

-- RELATIONS
small_same : (s : Stand) (t : Turn) (walk : List Entry) (pa : ℕ) → IsStandOf s t walk pa → is_small t.sources ≡ is_small (turn_of s).sources
unfolding is_small
small_same s t walk pa h = ap (λ (l : List ℕ). nat_le (length l) 4096) (elements_same t.sources (turn_of s).sources h.sources)

source_same : (s : Stand) (t : Turn) (walk : List Entry) (pa : ℕ) → IsStandOf s t walk pa → (x : Values) → may_be_source t (instr_in x) ≡ may_be_source (turn_of s) (instr_in x)
source_same s t walk pa h x = ap (λ (b : Bool). not (is_narrow (row_of (instr_in x).op) (instr_in x).csr) || b) (small_same s t walk pa h)

sources_agree : (s : Stand) (t : Turn) (walk : List Entry) (pa : ℕ) → IsStandOf s t walk pa → (sh : AShape) (x : Values) → sources_hold t sh x ≡ sources_hold (turn_of s) sh x
sources_agree s t walk pa h sh x =
    both_same _ _ _ _
    (ap (λ (b : Bool). unless (uses_rs1 sh) b) (both_same _ _ _ _ (ap (λ (o : Option ℕ). is_held o (x slots.A)) (h.registers (x slots.Rs1)))
    (ap (λ (o : Option ℕ). is_some_word o || may_be_source t (instr_in x)) (h.registers (x slots.Rs1)) ∙ ap (λ (b : Bool). is_some_word ((turn_of s).known (Reg (x slots.Rs1))) || b) (source_same s t walk pa h x))))
    (both_same _ _ _ _ (ap (λ (o : Option ℕ). unless (uses_rs2 sh) (is_held o (x slots.B))) (h.registers (x slots.Rs2))) refl)

pub atoms_agree : (s : Stand) (t : Turn) (walk : List Entry) (pa : ℕ) → IsStandOf s t walk pa → (leaf : List Atom) (sh : AShape) (x : Values) → atoms_hold t leaf sh x ≡ atoms_hold (turn_of s) leaf sh x
atoms_agree s t walk pa h leaf sh x =
    both_same _ _ _ _ (ap (λ (pc : ℕ). all_relate sh.op (value_at sh pc 0 x) leaf) h.pc)
    (ap (λ (pc : ℕ). unless (uses sh vars.Target) (all_tests t leaf vars.Target (target_at sh.op pc x))) h.pc ∙ ap (λ (b : Bool). unless (uses sh vars.Target) b) (all_same s t walk pa h leaf vars.Target (target_at sh.op s.pc x)))

-- WAYS
-- two ways say the same
pub record IsSameWay (a b : AWay) : Type 0 where
  pub outcome : a.outcome ≡ b.outcome
  pub reaches : a.reaches ≡ b.reaches
  pub also : (slot : Slot) (v : ℕ) → a.also slot v ≡ b.also slot v
  pub holds : (x : Values) → a.holds x ≡ b.holds x

abbrev pub AreSameWays : List AWay → List AWay → Type 0
AreSameWays [] [] = Unit {0}
AreSameWays (a ∷ ps) (b ∷ qs) = IsSameWay a b × AreSameWays ps qs
AreSameWays (a ∷ ps) [] = ⊥
AreSameWays [] (b ∷ qs) = ⊥

vector_same : (s : Stand) (t : Turn) (walk : List Entry) (pa : ℕ) → IsStandOf s t walk pa → (cause : Cause) (v : ℕ) → is_vector (turn_of s) cause v ≡ is_vector t cause v
vector_same s t walk pa h cause v =
    let place : vector_at t.fixed cause ≡ vector_at (turn_of s).fixed cause =
    ap (λ (m : ℕ). lazy_address (vector_register (takes_trap m t.fixed.privilege (number_of cause)))) h.medeleg
    ∙ ap (λ (p : Priv). lazy_address (vector_register (takes_trap s.csrs.medeleg p (number_of cause)))) h.privilege in
    sym (ap (λ (a : ℕ). if is_some_word (t.known (Csr a)) then nat_eq v 0 else (nat_lt v (2 ^ 32) && is_in t.vectors v)) place
    ∙ ap (λ (o : Option ℕ). if is_some_word o then nat_eq v 0 else (nat_lt v (2 ^ 32) && is_in t.vectors v)) (h.csrs (vector_at (turn_of s).fixed cause))
    ∙ ap (λ (l : List ℕ). if is_some_word ((turn_of s).known (Csr (vector_at (turn_of s).fixed cause))) then nat_eq v 0 else (nat_lt v (2 ^ 32) && is_in l v)) h.vectors)

retires_same : (f g : Values → Bool) → ((x : Values) → f x ≡ g x) → IsSameWay (retires_when f) (retires_when g)
retires_same f g e = record { outcome = refl; reaches = refl; also = λ slot v. refl; holds = e }

traps_same : (s : Stand) (t : Turn) (walk : List Entry) (pa : ℕ) → IsStandOf s t walk pa → (cause : Cause) (f g : Values → Bool) → ((x : Values) → f x ≡ g x) → IsSameWay (traps_when (turn_of s) cause f) (traps_when t cause g)
traps_same s t walk pa h cause f g e = record { outcome = refl; reaches = refl; also = by_slot; holds = e }
  where
    by_slot : (slot : Slot) (v : ℕ) → vector_alone (turn_of s) cause slot v ≡ vector_alone t cause slot v
    by_slot slots.Vector v = vector_same s t walk pa h cause v
    by_slot slots.Op v = refl
    by_slot _ v = refl

forks_same : (s : Stand) (t : Turn) (walk : List Entry) (pa : ℕ) → IsStandOf s t walk pa → (f g : Values → Bool) → ((x : Values) → f x ≡ g x) → AreSameWays (forks (turn_of s) causes.FetchMisaligned f) (forks t causes.FetchMisaligned g)
forks_same s t walk pa h f g e = (retires_same f g e, (traps_same s t walk pa h causes.FetchMisaligned (λ x. not (f x)) (λ x. not (g x)) (λ x. ap not (e x)), record {}))

trap_same : (s : Stand) (t : Turn) (walk : List Entry) (pa : ℕ) → IsStandOf s t walk pa → (cause : Cause) → AreSameWays (traps (turn_of s) cause) (traps t cause)
trap_same s t walk pa h cause = (traps_same s t walk pa h cause always always (λ x. refl), record {})

plain_same : AreSameWays retires retires
plain_same = (retires_same always always (λ x. refl), record {})

near_same : (s : Stand) (t : Turn) (walk : List Entry) (pa : ℕ) → IsStandOf s t walk pa → (x : Values) → near_is_target s.pc x ≡ near_is_target t.fixed.pc x
near_same s t walk pa h x = ap (λ (pc : ℕ). near_is_target pc x) (sym h.pc)

goes_same : (s : Stand) (t : Turn) (walk : List Entry) (pa : ℕ) → IsStandOf s t walk pa → (op : Op) (x : Values) → branch_goes op s.pc x ≡ branch_goes op t.fixed.pc x
goes_same s t walk pa h op x = ap (λ (pc : ℕ). branch_goes op pc x) (sym h.pc)

withheld_same : (s : Stand) (t : Turn) (walk : List Entry) (pa : ℕ) → IsStandOf s t walk pa → (flag : Flag) → is_withheld flag (turn_of s).fixed ≡ is_withheld flag t.fixed
withheld_same s t walk pa h flag =
    sym (ap (λ (p : Priv). not (is_machine p) && (not (is_supervisor p) || is_set flag t.fixed.mstatus)) h.privilege
    ∙ ap (λ (m : ℕ). not (is_machine s.privilege) && (not (is_supervisor s.privilege) || is_set flag m)) h.mstatus)

fence_same : (s : Stand) (t : Turn) (walk : List Entry) (pa : ℕ) → IsStandOf s t walk pa → (p q : Bool) → p ≡ q
    → AreSameWays (if p then traps (turn_of s) causes.Illegal else retires) (if q then traps t causes.Illegal else retires)
fence_same s t walk pa h true true e = trap_same s t walk pa h causes.Illegal
fence_same s t walk pa h false false e = plain_same
fence_same s t walk pa h true false e = absurd (cc e)
fence_same s t walk pa h false true e = absurd (cc e)

may_same : (s : Stand) (t : Turn) (walk : List Entry) (pa : ℕ) → IsStandOf s t walk pa → (addr v : ℕ) → may_be_old (turn_of s) addr v ≡ may_be_old t addr v
may_same s t walk pa h addr v = ap (λ (l : List ℕ). if holds_address addr then is_in l v else is_legal_at addr v) (sym h.vectors)

old_value_same : (s : Stand) (t : Turn) (walk : List Entry) (pa : ℕ) → IsStandOf s t walk pa → (o : Option ℕ) (addr v : ℕ) → is_old_value (turn_of s) o addr v ≡ is_old_value t o addr v
old_value_same s t walk pa h None addr v = ap (λ (b : Bool). nat_lt v (2 ^ 32) && b) (may_same s t walk pa h addr v)
old_value_same s t walk pa h (Some w) addr v = refl

old_same : (s : Stand) (t : Turn) (walk : List Entry) (pa : ℕ) → IsStandOf s t walk pa → (addr v : ℕ) → is_old (turn_of s) addr v ≡ is_old t addr v
old_same s t walk pa h addr v = old_value_same s t walk pa h ((turn_of s).known (Csr addr)) addr v ∙ ap (λ (o : Option ℕ). is_old_value t o addr v) (sym (h.csrs addr))

granted_same : (s : Stand) (t : Turn) (walk : List Entry) (pa : ℕ) → IsStandOf s t walk pa → (addr : ℕ) → AreSameWays (return_ways (turn_of s) addr) (return_ways t addr)
granted_same s t walk pa h addr = (record { outcome = refl; reaches = refl; also = λ slot v. refl; holds = λ x. old_same s t walk pa h addr (x slots.OldCsr) }, record {})

-- a return is refused where the flag says so, or else granted
return_same : (s : Stand) (t : Turn) (walk : List Entry) (pa : ℕ) → IsStandOf s t walk pa → (addr : ℕ) (p q : Bool) → p ≡ q
    → AreSameWays (if p then return_ways (turn_of s) addr else traps (turn_of s) causes.Illegal) (if q then return_ways t addr else traps t causes.Illegal)
return_same s t walk pa h addr true true e = granted_same s t walk pa h addr
return_same s t walk pa h addr false false e = trap_same s t walk pa h causes.Illegal
return_same s t walk pa h addr true false e = absurd (cc e)
return_same s t walk pa h addr false true e = absurd (cc e)

refusal_same : (s : Stand) (t : Turn) (walk : List Entry) (pa : ℕ) → IsStandOf s t walk pa → (addr : ℕ) (p q : Bool) → p ≡ q
    → AreSameWays (if p then traps (turn_of s) causes.Illegal else return_ways (turn_of s) addr) (if q then traps t causes.Illegal else return_ways t addr)
refusal_same s t walk pa h addr true true e = trap_same s t walk pa h causes.Illegal
refusal_same s t walk pa h addr false false e = granted_same s t walk pa h addr
refusal_same s t walk pa h addr true false e = absurd (cc e)
refusal_same s t walk pa h addr false true e = absurd (cc e)

-- CSR INSTRUCTIONS
access_same : (s : Stand) (t : Turn) (walk : List Entry) (pa : ℕ) → IsStandOf s t walk pa → (i : Instr) → access_in (turn_of s).fixed i ≡ access_in t.fixed i
access_same s t walk pa h i = sym (ap (λ (m : ℕ). access_of m i.csr t.fixed.privilege (writes_in i)) h.mstatus ∙ ap (λ (p : Priv). access_of s.csrs.mstatus i.csr p (writes_in i)) h.privilege)

fixed_same : (s : Stand) (t : Turn) (walk : List Entry) (pa : ℕ) → IsStandOf s t walk pa → fixed_csrs (turn_of s).fixed ≡ fixed_csrs t.fixed
fixed_same s t walk pa h =
    sym (ap (λ (n : ℕ). first_values t.fixed.number n t.fixed.medeleg t.fixed.satp) h.mstatus ∙ ap (λ (n : ℕ). first_values t.fixed.number s.csrs.mstatus n t.fixed.satp) h.medeleg
    ∙ ap (λ (n : ℕ). first_values t.fixed.number s.csrs.mstatus s.csrs.medeleg n) h.satp ∙ ap (λ (n : ℕ). first_values n s.csrs.mstatus s.csrs.medeleg s.csrs.satp) h.number)

read_old_same : (s : Stand) (t : Turn) (walk : List Entry) (pa : ℕ) → IsStandOf s t walk pa → (register : Register) (v : ℕ) → is_read_old (turn_of s) register v ≡ is_read_old t register v
read_old_same s t walk pa h (Lazy lazy) v = old_same s t walk pa h (lazy_address lazy) v
read_old_same s t walk pa h Mstatus v = ap (λ (c : CsrValues). nat_eq v (unwrap_or (value_of c Mstatus) 0)) (fixed_same s t walk pa h)
read_old_same s t walk pa h Sstatus v = ap (λ (c : CsrValues). nat_eq v (unwrap_or (value_of c Sstatus) 0)) (fixed_same s t walk pa h)
read_old_same s t walk pa h Medeleg v = ap (λ (c : CsrValues). nat_eq v (unwrap_or (value_of c Medeleg) 0)) (fixed_same s t walk pa h)
read_old_same s t walk pa h Satp v = ap (λ (c : CsrValues). nat_eq v (unwrap_or (value_of c Satp) 0)) (fixed_same s t walk pa h)
read_old_same s t walk pa h Mhartid v = ap (λ (c : CsrValues). nat_eq v (unwrap_or (value_of c Mhartid) 0)) (fixed_same s t walk pa h)

grants_same : (s : Stand) (t : Turn) (walk : List Entry) (pa : ℕ) → IsStandOf s t walk pa → (access : CsrAccess) (i : Instr) (old operand : ℕ) → grants (turn_of s) access i old operand ≡ grants t access i old operand
grants_same s t walk pa h (Granted register) i old operand = ap (λ (b : Bool). (if reads_csr i then b else nat_eq old 0) && is_legal_write i register old operand) (read_old_same s t walk pa h register old)
grants_same s t walk pa h Denied i old operand = refl
grants_same s t walk pa h NotModelled i old operand = refl

csr_same : (s : Stand) (t : Turn) (walk : List Entry) (pa : ℕ) → IsStandOf s t walk pa → (op : Op) → AreSameWays (csr_ways (turn_of s) op) (csr_ways t op)
csr_same s t walk pa h op = (
  traps_same s t walk pa h causes.Illegal (λ x. is_denied (access_in (turn_of s).fixed (instr_in x))) (λ x. is_denied (access_in t.fixed (instr_in x))) (λ x. ap is_denied (access_same s t walk pa h (instr_in x))),
  (
    record {
      outcome = refl;
      reaches = refl;
      also = λ slot v. refl;
      holds = λ x. ap (λ (a : CsrAccess). grants (turn_of s) a (instr_in x) (x slots.OldCsr) (operand_in (row_of op) x)) (access_same s t walk pa h (instr_in x)) ∙ grants_same s t walk pa h (access_in t.fixed (instr_in x)) (instr_in x) (x slots.OldCsr) (operand_in (row_of op) x);
    },
    record {},
  ),
)

pub ways_same : (s : Stand) (t : Turn) (walk : List Entry) (pa : ℕ) → IsStandOf s t walk pa → (leaf : List Atom) (loads stores : List EntryRow) (op : Op) → is_data (kind_of op) ≡ false → AreSameWays (stand_ways s op) (ways_of t walk pa leaf loads stores op)
ways_same s t walk pa h leaf loads stores ops.Jal n = forks_same s t walk pa h (near_is_target s.pc) (near_is_target t.fixed.pc) (near_same s t walk pa h)
ways_same s t walk pa h leaf loads stores ops.Jalr n = forks_same s t walk pa h far_is_target far_is_target (λ x. refl)
ways_same s t walk pa h leaf loads stores ops.Beq n = forks_same s t walk pa h (branch_goes ops.Beq s.pc) (branch_goes ops.Beq t.fixed.pc) (goes_same s t walk pa h ops.Beq)
ways_same s t walk pa h leaf loads stores ops.Bne n = forks_same s t walk pa h (branch_goes ops.Bne s.pc) (branch_goes ops.Bne t.fixed.pc) (goes_same s t walk pa h ops.Bne)
ways_same s t walk pa h leaf loads stores ops.Blt n = forks_same s t walk pa h (branch_goes ops.Blt s.pc) (branch_goes ops.Blt t.fixed.pc) (goes_same s t walk pa h ops.Blt)
ways_same s t walk pa h leaf loads stores ops.Bge n = forks_same s t walk pa h (branch_goes ops.Bge s.pc) (branch_goes ops.Bge t.fixed.pc) (goes_same s t walk pa h ops.Bge)
ways_same s t walk pa h leaf loads stores ops.Bltu n = forks_same s t walk pa h (branch_goes ops.Bltu s.pc) (branch_goes ops.Bltu t.fixed.pc) (goes_same s t walk pa h ops.Bltu)
ways_same s t walk pa h leaf loads stores ops.Bgeu n = forks_same s t walk pa h (branch_goes ops.Bgeu s.pc) (branch_goes ops.Bgeu t.fixed.pc) (goes_same s t walk pa h ops.Bgeu)
ways_same s t walk pa h leaf loads stores ops.Ecall n = subst (λ (p : Priv). AreSameWays (traps (turn_of s) (call_cause s.privilege)) (traps t (call_cause p))) (sym h.privilege) (trap_same s t walk pa h (call_cause s.privilege))
ways_same s t walk pa h leaf loads stores ops.Ebreak n = trap_same s t walk pa h causes.Breakpoint
ways_same s t walk pa h leaf loads stores ops.Illegal n = trap_same s t walk pa h causes.Illegal
ways_same s t walk pa h leaf loads stores ops.Lb n = absurd (cc n)
ways_same s t walk pa h leaf loads stores ops.Lh n = absurd (cc n)
ways_same s t walk pa h leaf loads stores ops.Lw n = absurd (cc n)
ways_same s t walk pa h leaf loads stores ops.Lbu n = absurd (cc n)
ways_same s t walk pa h leaf loads stores ops.Lhu n = absurd (cc n)
ways_same s t walk pa h leaf loads stores ops.Sb n = absurd (cc n)
ways_same s t walk pa h leaf loads stores ops.Sh n = absurd (cc n)
ways_same s t walk pa h leaf loads stores ops.Sw n = absurd (cc n)
ways_same s t walk pa h leaf loads stores ops.Csrrw n = csr_same s t walk pa h ops.Csrrw
ways_same s t walk pa h leaf loads stores ops.Csrrs n = csr_same s t walk pa h ops.Csrrs
ways_same s t walk pa h leaf loads stores ops.Csrrc n = csr_same s t walk pa h ops.Csrrc
ways_same s t walk pa h leaf loads stores ops.Csrrwi n = csr_same s t walk pa h ops.Csrrwi
ways_same s t walk pa h leaf loads stores ops.Csrrsi n = csr_same s t walk pa h ops.Csrrsi
ways_same s t walk pa h leaf loads stores ops.Csrrci n = csr_same s t walk pa h ops.Csrrci
ways_same s t walk pa h leaf loads stores ops.Mret n = return_same s t walk pa h (lazy_address Mepc) (is_machine s.privilege) (is_machine t.fixed.privilege) (ap is_machine (sym h.privilege))
ways_same s t walk pa h leaf loads stores ops.Sret n = refusal_same s t walk pa h (lazy_address Sepc) (is_withheld Tsr (turn_of s).fixed) (is_withheld Tsr t.fixed) (withheld_same s t walk pa h Tsr)
ways_same s t walk pa h leaf loads stores ops.SfenceVma n = fence_same s t walk pa h (is_withheld Tvm (turn_of s).fixed) (is_withheld Tvm t.fixed) (withheld_same s t walk pa h Tvm)
ways_same s t walk pa h leaf loads stores ops.Lui n = plain_same
ways_same s t walk pa h leaf loads stores op n = plain_same

-- CASES
shapes_same : (op : Op) (a b : AWay) → IsSameWay a b → shape_of op a ≡ shape_of op b
shapes_same op a b w = ap (λ (m : ℕ). shape_made op m a.reaches) w.outcome ∙ ap (λ (r : Bool). shape_made op b.outcome r) w.reaches
  where
    shape_made : Op → ℕ → Bool → AShape
    shape_made o m r = record { op = o; outcome = m; reaches = r }

domain_agrees : (s : Stand) (t : Turn) (walk : List Entry) (pa : ℕ) → IsStandOf s t walk pa → (leaf : List Atom) (op : Op) (a b : AWay) → IsSameWay a b → (slot : Slot) (v : ℕ) → domain (turn_of s) 0 leaf op a slot v ≡ domain t pa leaf op b slot v
domain_agrees s t walk pa h leaf op a b w slot v =
    both_same _ _ _ _ (ap (λ (sh : AShape). base_domain (turn_of s) 0 leaf sh slot v) (shapes_same op a b w) ∙ sym (base_same s t walk pa h leaf (shape_of op b) slot v)) (w.also slot v)

holds_agree : (s : Stand) (t : Turn) (walk : List Entry) (pa : ℕ) → IsStandOf s t walk pa → (leaf : List Atom) (op : Op) (a b : AWay) → IsSameWay a b → (x : Values) → x slots.Op ≡ op_number op
    → (case_at (turn_of s) 0 leaf op a).holds x ≡ (case_at t pa leaf op b).holds x
holds_agree s t walk pa h leaf op a b w x e =
    both_same _ _ _ _ (ap (λ (sh : AShape). sources_hold (turn_of s) sh x) (shapes_same op a b w) ∙ sym (sources_agree s t walk pa h (shape_of op b) x))
    (both_same _ _ _ _ (ap (λ (sh : AShape). atoms_hold (turn_of s) leaf sh x) (shapes_same op a b w) ∙ sym (atoms_agree s t walk pa h leaf (shape_of op b) x)) (w.holds x))

pub posed_agrees : (s : Stand) (t : Turn) (walk : List Entry) (pa : ℕ) → IsStandOf s t walk pa → (leaf : List Atom) (op : Op) (a b : AWay) → IsSameWay a b → is_posed_at s leaf (shape_of op a) ≡ is_posed t walk pa leaf (shape_of op b)
posed_agrees s t walk pa h leaf op a b w =
    ap (λ (sh : AShape). is_posed_at s leaf sh) (shapes_same op a b w) ∙ both_same _ _ _ _ (sym h.fetches) (both_same _ _ _ _ refl (sym (all_same s t walk pa h leaf vars.Outcome b.outcome)))

pub case_there : (s : Stand) (t : Turn) (walk : List Entry) (pa : ℕ) → IsStandOf s t walk pa → (leaf : List Atom) (op : Op) (a b : AWay) → IsSameWay a b → (x : Values) → FitsCase (case_at (turn_of s) 0 leaf op a) x → FitsCase (case_at t pa leaf op b) x
case_there s t walk pa h leaf op a b w x f = record {
  op = f.op;
  each = λ slot. sym (domain_agrees s t walk pa h leaf op a b w slot (x slot)) ∙ f.each slot;
  holds = sym (holds_agree s t walk pa h leaf op a b w x f.op) ∙ f.holds;
}

case_back : (s : Stand) (t : Turn) (walk : List Entry) (pa : ℕ) → IsStandOf s t walk pa → (leaf : List Atom) (op : Op) (a b : AWay) → IsSameWay a b → (x : Values) → FitsCase (case_at t pa leaf op b) x → FitsCase (case_at (turn_of s) 0 leaf op a) x
case_back s t walk pa h leaf op a b w x f = record {
  op = f.op;
  each = λ slot. domain_agrees s t walk pa h leaf op a b w slot (x slot) ∙ f.each slot;
  holds = holds_agree s t walk pa h leaf op a b w x f.op ∙ f.holds;
}

both_if : (p q : Bool) (c d : Case) (cs ds : List Case) (x : Values) → p ≡ q → (FitsCase c x → FitsCase d x) → (Fits cs x → Fits ds x) → Fits (case_if p c cs) x → Fits (case_if q d ds) x
both_if true true c d cs ds x e here later (inl f) = inl (here f)
both_if true true c d cs ds x e here later (inr f) = inr (later f)
both_if false false c d cs ds x e here later f = later f
both_if true false c d cs ds x e here later f = absurd (cc e)
both_if false true c d cs ds x e here later f = absurd (cc e)

ways_there : (s : Stand) (t : Turn) (walk : List Entry) (pa : ℕ) → IsStandOf s t walk pa → (leaf : List Atom) (op : Op) (ps qs : List AWay) → AreSameWays ps qs → (x : Values) → Fits (stand_cases s leaf op ps) x → Fits (cases_of t walk pa leaf op qs) x
ways_there s t walk pa h leaf op [] [] w x f = f
ways_there s t walk pa h leaf op (a ∷ ps) (b ∷ qs) w x f =
    both_if (is_posed_at s leaf (shape_of op a)) (is_posed t walk pa leaf (shape_of op b)) (case_at (turn_of s) 0 leaf op a) (case_at t pa leaf op b) (stand_cases s leaf op ps) (cases_of t walk pa leaf op qs) x
    (posed_agrees s t walk pa h leaf op a b w.0) (case_there s t walk pa h leaf op a b w.0 x) (ways_there s t walk pa h leaf op ps qs w.1 x) f
ways_there s t walk pa h leaf op (a ∷ ps) [] w x f = absurd w
ways_there s t walk pa h leaf op [] (b ∷ qs) w x f = absurd w

ways_back : (s : Stand) (t : Turn) (walk : List Entry) (pa : ℕ) → IsStandOf s t walk pa → (leaf : List Atom) (op : Op) (ps qs : List AWay) → AreSameWays ps qs → (x : Values) → Fits (cases_of t walk pa leaf op qs) x → Fits (stand_cases s leaf op ps) x
ways_back s t walk pa h leaf op [] [] w x f = f
ways_back s t walk pa h leaf op (a ∷ ps) (b ∷ qs) w x f =
    both_if (is_posed t walk pa leaf (shape_of op b)) (is_posed_at s leaf (shape_of op a)) (case_at t pa leaf op b) (case_at (turn_of s) 0 leaf op a) (cases_of t walk pa leaf op qs) (stand_cases s leaf op ps) x
    (sym (posed_agrees s t walk pa h leaf op a b w.0)) (case_back s t walk pa h leaf op a b w.0 x) (ways_back s t walk pa h leaf op ps qs w.1 x) f
ways_back s t walk pa h leaf op (a ∷ ps) [] w x f = absurd w
ways_back s t walk pa h leaf op [] (b ∷ qs) w x f = absurd w

-- OPERATIONS
turn_allowed : (s : Stand) (t : Turn) (walk : List Entry) (pa : ℕ) → IsStandOf s t walk pa → (leaf : List Atom) (op : Op) (way : AWay) (x : Values) → FitsCase (case_at t pa leaf op way) x → allows s leaf op ≡ true
turn_allowed s t walk pa h leaf op way x f =
    let d : domain t pa leaf op way slots.Op (op_number op) ≡ true = subst (λ (v : ℕ). domain t pa leaf op way slots.Op v ≡ true) f.op (f.each slots.Op) in
    let a = (and_parts (base_domain t pa leaf (shape_of op way) slots.Op (op_number op)) (way.also slots.Op (op_number op)) d).0 in
    let b = sym (base_same s t walk pa h leaf (shape_of op way) slots.Op (op_number op)) ∙ a in
    let e = and_parts (in_word s.word op slots.Op (op_number op)) (all_tests (turn_of s) leaf vars.Op (op_number op)) b in
    and_from _ _ (in_word_reads s.word op e.0) e.1

head_or_later : (p : Bool) (c : Case) (cs : List Case) (x : Values) → Fits (case_if p c cs) x → FitsCase c x ⊎ Fits cs x
head_or_later true c cs x f = f
head_or_later false c cs x f = inr f

turn_ways_allowed : (s : Stand) (t : Turn) (walk : List Entry) (pa : ℕ) → IsStandOf s t walk pa → (leaf : List Atom) (op : Op) (ways : List AWay) (x : Values) → Fits (cases_of t walk pa leaf op ways) x → allows s leaf op ≡ true
turn_ways_allowed s t walk pa h leaf op [] x f = absurd f
turn_ways_allowed s t walk pa h leaf op (way ∷ ways) x f = elim (head_or_later (is_posed t walk pa leaf (shape_of op way)) (case_at t pa leaf op way) (cases_of t walk pa leaf op ways) x f) [
  | inl g ↦ turn_allowed s t walk pa h leaf op way x g
  | inr g ↦ turn_ways_allowed s t walk pa h leaf op ways x g
]

-- LOADS AND STORES
pub goal_same : (s : Stand) (t : Turn) (walk : List Entry) (pa : ℕ) → IsStandOf s t walk pa → (a : Accesses) (leaf : List Atom) (op : Op) (way : DataWay) (goal : Goal) → IsSameWay (goal_way (turn_of s) a leaf op way goal) (goal_way t a leaf op way goal)
goal_same s t walk pa h a leaf op way goal = record {
  outcome = refl;
  reaches = refl;
  also = λ slot v. both_same _ _ _ _ (end_same (cause_of op way.end goal) slot v) (ap (λ (wanted : ℕ → Bool). goal_test a op way wanted goal slot v) wanted_same);
  holds = λ x. refl;
}
  where
    end_same : (o : Option Cause) (slot : Slot) (v : ℕ) → end_test (turn_of s) o slot v ≡ end_test t o slot v
    end_same (Some cause) slots.Vector v = vector_same s t walk pa h cause v
    end_same None slots.Vector v = refl
    end_same o slots.OldCsr v = refl
    end_same o _ v = refl

    wanted_same : all_tests (turn_of s) leaf vars.Pa ≡ all_tests t leaf vars.Pa
    wanted_same = fun_ext (λ v. sym (all_same s t walk pa h leaf vars.Pa v))

same_either : (ps qs rs us : List AWay) → AreSameWays ps qs → AreSameWays rs us → AreSameWays (ps ++ rs) (qs ++ us)
same_either [] [] rs us f g = g
same_either (p ∷ ps) (q ∷ qs) rs us f g = (f.0, same_either ps qs rs us f.1 g)
same_either (p ∷ ps) [] rs us f g = absurd f
same_either [] (q ∷ qs) rs us f g = absurd f

goals_same : (s : Stand) (t : Turn) (walk : List Entry) (pa : ℕ) → IsStandOf s t walk pa → (a : Accesses) (leaf : List Atom) (op : Op) → AreSameWays (goal_ways (turn_of s) a leaf op) (goal_ways t a leaf op)
goals_same s t walk pa h a leaf op = (goal_same s t walk pa h a leaf op misses Misaligned, through_same (ways_for a op))
  where
    by_same : (way : DataWay) (goals : List Goal) → AreSameWays (ways_by (turn_of s) a leaf op way goals) (ways_by t a leaf op way goals)
    by_same way [] = record {}
    by_same way (goal ∷ goals) = (goal_same s t walk pa h a leaf op way goal, by_same way goals)

    through_same : (ways : List DataWay) → AreSameWays (ways_through (turn_of s) a leaf op ways) (ways_through t a leaf op ways)
    through_same [] = record {}
    through_same (way ∷ ways) = same_either _ _ _ _ (by_same way (goals_by way.end)) (through_same ways)

-- the cases of ways are those of others that the same values fit, with the same end
abbrev shape_made : Op → ℕ → Bool → AShape
shape_made op outcome reaches = record { op = op; outcome = outcome; reaches = reaches }

put_posed : (p : Bool) (c : Case) (cs : List Case) (x : Values) → p ≡ true → FitsCase c x → Fits (case_if p c cs) x
put_posed true c cs x e f = inl f
put_posed false c cs x e f = absurd (cc e)

pass_by : (p : Bool) (c : Case) (cs : List Case) (x : Values) → Fits cs x → Fits (case_if p c cs) x
pass_by true c cs x f = inr f
pass_by false c cs x f = f

fits_item : (t : Turn) (walk : List Entry) (pa : ℕ) (leaf : List Atom) (op : Op) (ways : List AWay) (way : AWay) (x : Values) → HasItem ways way → is_posed t walk pa leaf (shape_of op way) ≡ true → FitsCase (case_at t pa leaf op way) x
    → Fits (cases_of t walk pa leaf op ways) x
fits_item t walk pa leaf op [] way x i p f = absurd i
fits_item t walk pa leaf op (head ∷ ways) way x i p f = elim i [
  | inl y ↦
      put_posed (is_posed t walk pa leaf (shape_of op head)) (case_at t pa leaf op head) (cases_of t walk pa leaf op ways) x
      (subst (λ (w : AWay). is_posed t walk pa leaf (shape_of op w) ≡ true) (sym y) p) (subst (λ (w : AWay). FitsCase (case_at t pa leaf op w) x) (sym y) f)
  | inr j ↦ pass_by (is_posed t walk pa leaf (shape_of op head)) (case_at t pa leaf op head) (cases_of t walk pa leaf op ways) x (fits_item t walk pa leaf op ways way x j p f)
]

record HasPosed (t : Turn) (walk : List Entry) (pa : ℕ) (leaf : List Atom) (op : Op) (ways : List AWay) (x : Values) : Type 0 where
  way : AWay
  is : HasItem ways way
  posed : is_posed t walk pa leaf (shape_of op way) ≡ true
  fits : FitsCase (case_at t pa leaf op way) x

posed_or_later : (p : Bool) (c : Case) (cs : List Case) (x : Values) → Fits (case_if p c cs) x → ((p ≡ true) × FitsCase c x) ⊎ Fits cs x
posed_or_later true c cs x (inl f) = inl (refl, f)
posed_or_later true c cs x (inr f) = inr f
posed_or_later false c cs x f = inr f

has_posed : (t : Turn) (walk : List Entry) (pa : ℕ) (leaf : List Atom) (op : Op) (ways : List AWay) (x : Values) → Fits (cases_of t walk pa leaf op ways) x → HasPosed t walk pa leaf op ways x
has_posed t walk pa leaf op [] x f = absurd f
has_posed t walk pa leaf op (head ∷ ways) x f = elim (posed_or_later (is_posed t walk pa leaf (shape_of op head)) (case_at t pa leaf op head) (cases_of t walk pa leaf op ways) x f) [
  | inl y ↦ record { way = head; is = inl refl; posed = y.0; fits = y.1 }
  | inr g ↦ let k = has_posed t walk pa leaf op ways x g in record { way = k.way; is = inr k.is; posed = k.posed; fits = k.fits }
]

-- of two ways with one end, what fits the case of the one and the other's tests fits the other's case
case_moved : (t : Turn) (pa : ℕ) (leaf : List Atom) (op : Op) (a b : AWay) (x : Values) → shape_of op a ≡ shape_of op b → FitsCase (case_at t pa leaf op a) x → FitsWay b x → FitsCase (case_at t pa leaf op b) x
case_moved t pa leaf op a b x e f w = record {
  op = f.op;
  each = λ slot. and_from _ _ (subst (λ (sh : AShape). base_domain t pa leaf sh slot (x slot) ≡ true) e (and_parts (base_domain t pa leaf (shape_of op a) slot (x slot)) (a.also slot (x slot)) (f.each slot)).0) (w.each slot);
  holds =
      let k = and_parts (sources_hold t (shape_of op a) x) (atoms_hold t leaf (shape_of op a) x && a.holds x) f.holds in
      let m = and_parts (atoms_hold t leaf (shape_of op a) x) (a.holds x) k.1 in
      and_from _ _ (subst (λ (sh : AShape). sources_hold t sh x ≡ true) e k.0) (and_from _ _ (subst (λ (sh : AShape). atoms_hold t leaf sh x ≡ true) e m.0) w.holds);
}

way_fitted : (t : Turn) (pa : ℕ) (leaf : List Atom) (op : Op) (way : AWay) (x : Values) → FitsCase (case_at t pa leaf op way) x → FitsWay way x
way_fitted t pa leaf op way x f = record {
  each = λ slot. (and_parts (base_domain t pa leaf (shape_of op way) slot (x slot)) (way.also slot (x slot)) (f.each slot)).1;
  holds = (and_parts (atoms_hold t leaf (shape_of op way) x) (way.holds x) (and_parts (sources_hold t (shape_of op way) x) (atoms_hold t leaf (shape_of op way) x && way.holds x) f.holds).1).1;
}

-- a way that values fit, with this end, and its case
pub record HasFittedWay (t : Turn) (walk : List Entry) (pa : ℕ) (leaf : List Atom) (op : Op) (ways : List AWay) (x : Values) (shape : AShape) : Type 0 where
  pub way : AWay
  pub is : HasItem ways way
  pub shape_is : shape_of op way ≡ shape
  pub posed : is_posed t walk pa leaf (shape_of op way) ≡ true
  pub fits : FitsCase (case_at t pa leaf op way) x

pub way_moved : (t : Turn) (walk : List Entry) (pa : ℕ) (leaf : List Atom) (op : Op) (ps qs : List AWay) (x : Values) (way : AWay) → (HasWay op ps x way.outcome way.reaches → HasWay op qs x way.outcome way.reaches)
    → HasItem ps way → is_posed t walk pa leaf (shape_of op way) ≡ true → FitsCase (case_at t pa leaf op way) x → HasFittedWay t walk pa leaf op qs x (shape_of op way)
way_moved t walk pa leaf op ps qs x way move item posed fits =
    let m = move (record { way = way; is = item; fits = way_fitted t pa leaf op way x fits; outcome_is = refl; reaches_is = refl }) in
    let e : shape_of op way ≡ shape_of op m.way = sym (ap (λ (n : ℕ). shape_made op n m.way.reaches) m.outcome_is ∙ ap (λ (r : Bool). shape_made op way.outcome r) m.reaches_is) in
    record { way = m.way; is = m.is; shape_is = sym e; posed = subst (λ (sh : AShape). is_posed t walk pa leaf sh ≡ true) e posed; fits = case_moved t pa leaf op way m.way x e fits m.fits }

-- what is moved is posed and fits its case
ways_moved : (t : Turn) (walk : List Entry) (pa : ℕ) (leaf : List Atom) (op : Op) (ps qs : List AWay) (x : Values)
    → ((way : AWay) → is_posed t walk pa leaf (shape_of op way) ≡ true → FitsCase (case_at t pa leaf op way) x → HasWay op ps x way.outcome way.reaches → HasWay op qs x way.outcome way.reaches)
    → Fits (cases_of t walk pa leaf op ps) x → Fits (cases_of t walk pa leaf op qs) x
ways_moved t walk pa leaf op ps qs x move f =
    let k = has_posed t walk pa leaf op ps x f in
    let m = way_moved t walk pa leaf op ps qs x k.way (move k.way k.posed k.fits) k.is k.posed k.fits in
    fits_item t walk pa leaf op qs m.way x m.is m.posed m.fits

-- WHERE A LOAD OR STORE IS POSED
fetch_code : (t : Turn) (walk : List Entry) (pa : ℕ) (leaf : List Atom) (sh : AShape) → is_posed t walk pa leaf sh ≡ true → has_code t pa ≡ true
fetch_code t walk pa leaf sh p =
    let a = (and_parts (may_fetch t walk pa) (all_judged sh leaf && all_tests t leaf vars.Outcome sh.outcome) p).0 in
    (and_parts (is_free_entry t (fetch_entry t pa 0)) (has_code t pa) (and_parts (list_all (is_free_entry t) walk) (is_free_entry t (fetch_entry t pa 0) && has_code t pa) a).1).1

address_reads : (op : Op) → has_address (row_of op) ≡ true → reads_rs1 (row_of op) ≡ true
address_reads ops.Lb h = refl
address_reads ops.Lh h = refl
address_reads ops.Lw h = refl
address_reads ops.Lbu h = refl
address_reads ops.Lhu h = refl
address_reads ops.Sb h = refl
address_reads ops.Sh h = refl
address_reads ops.Sw h = refl
address_reads _ h = absurd (cc h)

not_refused : (b : Bool) → b ≡ false → not b ≡ true
not_refused true e = absurd (cc e)
not_refused false e = refl

inside_where : (b inside : Bool) (v : ℕ) → or_no b inside v ≡ true → b ≡ true → inside ≡ true
inside_where true inside v h e = h
inside_where false inside v h e = absurd (cc e)

-- an address that fits a case passes the leaf's tests, where the instruction is not refused
pub address_tested : (t : Turn) (pa : ℕ) (leaf : List Atom) (op : Op) (way : AWay) (x : Values) → has_address (row_of op) ≡ true → FitsCase (case_at t pa leaf op way) x → (way.outcome == 2) ≡ false → all_tests t leaf vars.Ea (x slots.Ea) ≡ true
address_tested t pa leaf op way x address f n =
    let d = (and_parts (base_domain t pa leaf (shape_of op way) slots.Ea (x slots.Ea)) (way.also slots.Ea (x slots.Ea)) (f.each slots.Ea)).0 in
    (and_parts (nat_lt (x slots.Ea) (2 ^ 32)) (all_tests t leaf vars.Ea (x slots.Ea))
    (inside_where (uses_address (shape_of op way)) (nat_lt (x slots.Ea) (2 ^ 32) && all_tests t leaf vars.Ea (x slots.Ea)) (x slots.Ea) d (and_from _ _ address (and_from _ _ (address_reads op address) (not_refused (way.outcome == 2) n))))).1

-- where a case of a load or store is posed and fits, it is a step over the rows
pub data_step : (t : Turn) (walk : List Entry) (pa : ℕ) (leaf : List Atom) (a : Accesses) (loads stores : List EntryRow) → HasAccesses t walk pa a → IsFetched t walk pa → AreRowsOfPages t leaf loads stores a
    → (op : Op) (x : Values) → AreSmall x → has_address (row_of op) ≡ true → (way : AWay) → is_posed t walk pa leaf (shape_of op way) ≡ true → FitsCase (case_at t pa leaf op way) x → IsDataStep t walk pa a loads stores op x way.outcome
data_step t walk pa leaf a loads stores has fetched rows op x small address way posed fits = record {
  accesses = has;
  fetched = fetched;
  code = fetch_code t walk pa leaf (shape_of op way) posed;
  load_rows = rows.loads;
  store_rows = rows.stores;
  addressed = address;
  small = small;
  page = λ n. rows.pages (x slots.Ea) (small slots.Ea) (address_tested t pa leaf op way x address fits n);
}

-- OPERATIONS
pub record AreGoals : Type 0 where
  pub there : GoalsAreWays
  pub back : WaysAreGoals

-- the turn's fetch is settled, and its rows are those of the stand's pages
pub record IsPosedOver (s : Stand) (t : Turn) (walk : List Entry) (pa : ℕ) (leaf : List Atom) (loads stores : List EntryRow) : Type 0 where
  pub stand : IsStandOf s t walk pa
  pub fetched : IsFetched t walk pa
  pub rows : AreRowsOf s t leaf loads stores

module _ (laws : AreGoals) (s : Stand) (t : Turn) (walk : List Entry) (pa : ℕ) (leaf : List Atom) (loads stores : List EntryRow) (h : IsPosedOver s t walk pa leaf loads stores) where
  data_there : (op : Op) (x : Values) → AreSmall x → is_data (kind_of op) ≡ true → (o : Option Accesses) → IfSome o (HasAccesses t walk pa) → IfSome o (AreRowsOfPages t leaf loads stores)
      → Fits (stand_cases s leaf op (data_ways s leaf op o)) x → Fits (cases_of t walk pa leaf op (ways_of t walk pa leaf loads stores op)) x
  data_there op x small n None is rows f = absurd f
  data_there op x small n (Some a) is rows f =
      let g = ways_there s t walk pa h.stand leaf op (goal_ways (turn_of s) a leaf op) (goal_ways t a leaf op) (goals_same s t walk pa h.stand a leaf op) x f in
      ways_moved t walk pa leaf op (goal_ways t a leaf op) (ways_of t walk pa leaf loads stores op) x
      (λ way posed fits. laws.there t walk pa a loads stores leaf op x way.outcome way.reaches (data_step t walk pa leaf a loads stores is h.fetched rows op x small (data_address op n) way posed fits)) g

  data_back : (op : Op) (x : Values) → AreSmall x → is_data (kind_of op) ≡ true → (o : Option Accesses) → IfSome o (HasAccesses t walk pa) → IfSome o (AreRowsOfPages t leaf loads stores)
      → is_some o ≡ true → Fits (cases_of t walk pa leaf op (ways_of t walk pa leaf loads stores op)) x → Fits (stand_cases s leaf op (data_ways s leaf op o)) x
  data_back op x small n None is rows some f = absurd (cc some)
  data_back op x small n (Some a) is rows some f =
      ways_back s t walk pa h.stand leaf op (goal_ways (turn_of s) a leaf op) (goal_ways t a leaf op) (goals_same s t walk pa h.stand a leaf op) x
      (ways_moved t walk pa leaf op (ways_of t walk pa leaf loads stores op) (goal_ways t a leaf op) x
      (λ way posed fits. laws.back t walk pa a loads stores leaf op x way.outcome way.reaches (data_step t walk pa leaf a loads stores is h.fetched rows op x small (data_address op n) way posed fits)) f)

  operation_there : (op : Op) (x : Values) → AreSmall x → Fits (stand_cases s leaf op (ways_at s leaf op)) x → Fits (cases_of t walk pa leaf op (ways_of t walk pa leaf loads stores op)) x
  operation_there op x small f = of_kind (is_data (kind_of op)) refl f
    where
      of_kind : (b : Bool) → is_data (kind_of op) ≡ b → Fits (stand_cases s leaf op (if b then data_ways s leaf op s.accesses else stand_ways s op)) x → Fits (cases_of t walk pa leaf op (ways_of t walk pa leaf loads stores op)) x
      of_kind true n g = data_there op x small n s.accesses h.stand.accesses h.rows g
      of_kind false n g = ways_there s t walk pa h.stand leaf op (stand_ways s op) (ways_of t walk pa leaf loads stores op) (ways_same s t walk pa h.stand leaf loads stores op n) x g

  operation_back : (op : Op) (x : Values) → AreSmall x → is_posable s leaf op ≡ true → Fits (cases_of t walk pa leaf op (ways_of t walk pa leaf loads stores op)) x → Fits (stand_cases s leaf op (ways_at s leaf op)) x
  operation_back op x small p f = of_kind (is_data (kind_of op)) refl (posable_where s leaf op p (turn_ways_allowed s t walk pa h.stand leaf op (ways_of t walk pa leaf loads stores op) x f))
    where
      of_kind : (b : Bool) → is_data (kind_of op) ≡ b → (not (is_data (kind_of op)) || has_accesses s) ≡ true → Fits (stand_cases s leaf op (if b then data_ways s leaf op s.accesses else stand_ways s op)) x
      of_kind true n k = data_back op x small n s.accesses h.stand.accesses h.rows (subst (λ (b : Bool). (not b || has_accesses s) ≡ true) n k) f
      of_kind false n k = ways_back s t walk pa h.stand leaf op (stand_ways s op) (ways_of t walk pa leaf loads stores op) (ways_same s t walk pa h.stand leaf loads stores op n) x f

  all_there : (list : List Op) (x : Values) → AreSmall x → Fits (all_cases s leaf list) x → Fits (cases_over t walk pa leaf (ways_of t walk pa leaf loads stores) list) x
  all_there [] x small f = f
  all_there (op ∷ list) x small f = elim (fits_either (stand_cases s leaf op (ways_at s leaf op)) (all_cases s leaf list) x f) [
    | inl g ↦ fits_left (cases_of t walk pa leaf op (ways_of t walk pa leaf loads stores op)) (cases_over t walk pa leaf (ways_of t walk pa leaf loads stores) list) x (operation_there op x small g)
    | inr g ↦ fits_right (cases_of t walk pa leaf op (ways_of t walk pa leaf loads stores op)) (cases_over t walk pa leaf (ways_of t walk pa leaf loads stores) list) x (all_there list x small g)
  ]

  all_back : (list : List Op) (x : Values) → AreSmall x → list_all (is_posable s leaf) list ≡ true → Fits (cases_over t walk pa leaf (ways_of t walk pa leaf loads stores) list) x → Fits (all_cases s leaf list) x
  all_back [] x small p f = f
  all_back (op ∷ list) x small p f =
      let b = and_parts (is_posable s leaf op) (list_all (is_posable s leaf) list) p in
      elim (fits_either (cases_of t walk pa leaf op (ways_of t walk pa leaf loads stores op)) (cases_over t walk pa leaf (ways_of t walk pa leaf loads stores) list) x f) [
        | inl g ↦ fits_left (stand_cases s leaf op (ways_at s leaf op)) (all_cases s leaf list) x (operation_back op x small b.0 g)
        | inr g ↦ fits_right (stand_cases s leaf op (ways_at s leaf op)) (all_cases s leaf list) x (all_back list x small b.1 g)
      ]

  pub every_turn : (list : List Op) (cs : List ACase) → list_all (is_posable s leaf) list ≡ true → FitsSame cs (all_cases s leaf list) → FitsSame cs (cases_over t walk pa leaf (ways_of t walk pa leaf loads stores) list)
  every_turn list cs p k x hx =
      let small : AreSmall (values_in x) = λ slot. word_at x hx slot in
      (λ y. all_there list (values_in x) small ((k x hx).0 y), λ f. (k x hx).1 (all_back list (values_in x) small p f))
