-- The witnesses have candidates.
use Rattle.std.proofs.Common.{◌≡◌, ℕ, ◌+◌, ◌/◌, ◌<◌, ◌^◌, ◌&&◌, not, Bool, true, false, eqb, if◌then◌else◌, List, [], ◌∷◌, Some, None, refl, sym, ap, ◌∙◌, subst, inl, inr, arith}
use Rattle.std.proofs.lemmas.Bool.{and_from, and_parts, cases_Bool, eq-eqb, eqb-true, lt-ltb}
use Rattle.rv_isa.specs.declared.operation.Op.{Op}
use Rattle.rv_isa.specs.declared.operation.Op.TheVariants.{Addi, Beq, Csrrw, Ebreak, Ecall, Illegal, Jal, Jalr, Lw, Mret, SfenceVma, Sret, Sw}
use Rattle.rv_isa.specs.declared.operation.TheConstants.{OPS}
use Rattle.rv_csr.specs.declared.access.CsrAccess.{CsrAccess}
use Rattle.rv_csr.specs.declared.access.CsrAccess.TheVariants.{Granted, Denied, Outside as NotModelled}
use Rattle.rv_csr.specs.declared.table.Register.TheVariants.{Sstatus, Satp, Mstatus, Medeleg, Mhartid, Lazy}
use Rattle.rv_script.specs.declared.place.Place.{Place}
use Rattle.rv_script.specs.declared.place.Place.TheVariants.{Reg, Csr, Word}
use Rattle.rv_script.specs.Lists.{HasItem}
use Rattle.rv_script.specs.Folds.{Answer.Does, Entry}
use Rattle.sv_walk.specs.declared.entry.Kind.{Kind}
use Rattle.sv_walk.specs.declared.entry.Kind.TheVariants.{Load as ForLoad, Store as ForStore}
use Rattle.sv_walk.specs.Translation.{Reached, At, Fails, translated}
use Rattle.sv_walk.specs.Entry.{access_cause}
use Rattle.rv_isa.specs.Reading.{decoded}
use Rattle.addr_rows.specs.Walks.{EntryRow, end_at, entry_answers}
use Rattle.rv_hart.specs.Machine.{at_address, branch_row, data_view, fetched_at, immediate_row, instruction, jump_register_row, jump_row, load_at, load_row, script, store_at, store_row}
use Rattle.rv_hart.specs.Privileged.{address_fence_row, csr_granted, csr_row, mret_row, sret_row, trap}
use Rattle.tpl_ast.specs.declared.template.Atom.{Atom}
use Rattle.tpl_ast.specs.declared.template.Atom.TheVariants as atoms
use Rattle.std.specs.List.{list_all}
use Rattle.fd_prob.specs.declared.slot.Slot.{Slot}
use Rattle.fd_prob.specs.declared.slot.Slot.TheVariants as slots
use Rattle.fd_prob.specs.declared.slot.TheConstants.{SLOTS}
use Rattle.rv_isa.specs.Numbers.{op_numbered, op_number}
use Rattle.rv_script.specs.Script.{Label.DataRoot, Label.DataSecond}
use Rattle.rv_script.specs.Logs.{answer_told, by_answers, labelled, new_value}
use Rattle.leaf_link.specs.Values.{Values, fixed_value, new_places}
use Rattle.leaf_link.specs.Turns.{Turn}
use Rattle.leaf_link.specs.Candidates.{IsCandidate}
use Rattle.leaf_link.specs.Cases.{Case, Fits, FitsCase, HasSources, cases_of}
use Rattle.tpl_ast.specs.Leaves.{IsPlain}
use Rattle.leaf_link.specs.KindLaws.{IsPosed}
use Rattle.leaf_link.specs.Reaching.{AreRows, HasPages, Walks}
use Rattle.leaf_link.specs.AllWays.{ways_of}
use Rattle.leaf_link.specs.Witnesses.{HavePossible, IsBarePossible, bare_rows, branch_leaf, busy_turn, cause_leaf, csr_leaf, denied_leaf, failing_load_leaf, failing_store_leaf, fence_leaf, illegal_leaf, is_bare_ram, jump_leaf, jump_register_leaf, load_leaf, no_entry, one_known, plain_leaf, return_leaf, store_leaf, supervisor_return_leaf}
use Rattle.leaf_link.proofs.Both.{each_slot}
use Rattle.leaf_link.proofs.Front.{same_done}
use Rattle.leaf_link.proofs.Whole.{of_one, every_op}
use Rattle.leaf_link.proofs.Every.{leaf_problems_are_exact}

words : (place : Place) (v : ℕ) → one_known place ≡ Some v → v < 2 ^ 32
words (Reg n) v h = go (eqb n 0) (eqb n 1) h
  where
    small : (m : ℕ) → m < 2 ^ 32 → Some m ≡ Some v → v < 2 ^ 32
    small m less h = let z : m ≡ v = cc in subst (λ (n : ℕ). n < 2 ^ 32) z less

    go : (b c : Bool) → (if b then Some 0 else (if c then Some 0x8000_0100 else None)) ≡ Some v → v < 2 ^ 32
    go true c h = small 0 (omega arith) h
    go false true h = small 0x8000_0100 (omega arith) h
    go false false h = absurd (cc)
words (Csr addr) v h = absurd (cc)
words (Word addr) v h = absurd (cc)

fixed : (access : CsrAccess) → fixed_value busy_turn.fixed access < 2 ^ 32
fixed (Granted Sstatus) = omega arith
fixed (Granted Satp) = omega arith
fixed (Granted Mstatus) = omega arith
fixed (Granted Medeleg) = omega arith
fixed (Granted Mhartid) = omega arith
fixed (Granted (Lazy register)) = omega arith
fixed Denied = omega arith
fixed NotModelled = omega arith

unfoldable pub is_in_atom : Atom → Bool
is_in_atom (atoms.In v set) = true
is_in_atom _ = false

unfoldable pub all_in : List Atom → Bool
all_in [] = true
all_in (atom ∷ leaf) = is_in_atom atom && all_in leaf

pub plain_in : (leaf : List Atom) → all_in leaf ≡ true → (atom : Atom) → HasItem leaf atom → IsPlain atom
unfolding all_in is_in_atom
plain_in [] h atom i = absurd i
plain_in (x ∷ leaf) h atom i = let a = and_parts (is_in_atom x) (all_in leaf) h in elim i [ inl q ↦ subst IsPlain q (one x a.0) | inr j ↦ plain_in leaf a.1 atom j ]
  where
    one : (x : Atom) → is_in_atom x ≡ true → IsPlain x
    one (atoms.In v set) h = tt
    one (atoms.NotIn v set) h = absurd (cc)
    one (atoms.Is v name) h = absurd (cc)
    one (atoms.Same v u) h = absurd (cc)
    one (atoms.Differ v u) h = absurd (cc)
    one atoms.Taken h = absurd (cc)
    one atoms.NotTaken h = absurd (cc)
    one atoms.Shared h = absurd (cc)

pub bare_posed : (leaf : List Atom) → all_in leaf ≡ true → IsPosed busy_turn [] 0x8000_0000 leaf
unfolding translated
bare_posed leaf h = record { fetched = record { translates = refl; aligned = refl }; words = words; fixed = fixed; plain = plain_in leaf h }

-- ROWS
abbrev bare_end : Kind → ℕ → Bool → Reached
bare_end kind ea there = if there then At ea else Fails (access_cause kind)

bare_walk : (kind : Kind) (ea first second : ℕ) → ea < 2 ^ 32 → answer_told (by_answers busy_turn.known (entry_answers first second)) (translated busy_turn.fixed.ram (data_view busy_turn.fixed) kind ea) ≡ Does [] (bare_end kind ea (is_bare_ram (ea / 4)))
unfolding translated
bare_walk kind ea first second less = ap (λ (b : Bool). Does [] (bare_end kind ea (b && is_bare_ram (ea / 4)))) (lt-ltb ea (2 ^ 32) less)

-- whatever its end, the walk of an address asks for nothing
bare : (kind : Kind) (ea first second : ℕ) (there : Bool) → ea < 2 ^ 32 → is_bare_ram (ea / 4) ≡ there → no_entry first second ≡ true → Walks busy_turn kind ea first second [] (bare_end kind ea there)
bare kind ea first second there less is none =
    let z = and_parts (eqb first 0) (eqb second 0) none in
    record {
      plays = bare_walk kind ea first second less ∙ ap (λ (b : Bool). Does [] (bare_end kind ea b)) is;
      may = λ i e j. absurd j;
      coherent = λ e f j. absurd j;
      first_is = eqb-true first 0 z.0;
      second_is = eqb-true second 0 z.1;
    }

opposite : (b : Bool) → not b ≡ true → b ≡ false
opposite true h = absurd (cc h)
opposite false h = refl

pub bare_are_rows : (kind : Kind) → AreRows busy_turn (λ ea. true) kind (bare_rows kind)
bare_are_rows kind = record {
  sound = λ row i ea first second less h. elim i [
    | inl q ↦
        let a = and_parts (is_bare_ram (ea / 4)) (no_entry first second) (ap (λ (r : EntryRow). r.holds ea first second) q ∙ h) in
        ([], subst (λ (r : EntryRow). Walks busy_turn kind ea first second [] (end_at r.end ea)) q (bare kind ea first second true less a.0 a.1))
    | inr i ↦ elim i [
      | inl q ↦
          let a = and_parts (not (is_bare_ram (ea / 4))) (no_entry first second) (ap (λ (r : EntryRow). r.holds ea first second) q ∙ h) in
          ([], subst (λ (r : EntryRow). Walks busy_turn kind ea first second [] (end_at r.end ea)) q (bare kind ea first second false less (opposite _ a.0) a.1))
      | inr j ↦ absurd j
    ]
  ];
  complete = λ ea first second log end less page w.
      let same = same_done [] log (bare_end kind ea (is_bare_ram (ea / 4))) end (sym (bare_walk kind ea first second less) ∙ w.plays) in
      let f : first ≡ 0 = w.first_is ∙ ap (λ (l : List Entry). new_value busy_turn.known (labelled l DataRoot)) (sym same.0) in
      let s : second ≡ 0 = w.second_is ∙ ap (λ (l : List Entry). new_value busy_turn.known (labelled l DataSecond)) (sym same.0) in
      let none : no_entry first second ≡ true = and_from _ _ (eq-eqb first 0 f) (eq-eqb second 0 s) in
      elim (cases_Bool (is_bare_ram (ea / 4))) [
        | inl there ↦ (_, inl refl, and_from _ _ there none, sym (ap (λ (b : Bool). bare_end kind ea b) there) ∙ same.1)
        | inr out ↦ (_, inr (inl refl), and_from _ _ (ap not out) none, sym (ap (λ (b : Bool). bare_end kind ea b) out) ∙ same.1)
      ];
}

-- CANDIDATES
pub every_slot : (test : Slot → Bool) → list_all test SLOTS ≡ true → (s : Slot) → test s ≡ true
every_slot test h =
    let op = and_parts (test slots.Op) _ h in
    let rs1 = and_parts (test slots.Rs1) _ op.1 in
    let rs2 = and_parts (test slots.Rs2) _ rs1.1 in
    let imm = and_parts (test slots.Imm) _ rs2.1 in
    let rd = and_parts (test slots.Rd) _ imm.1 in
    let csr = and_parts (test slots.Csr) _ rd.1 in
    let ea = and_parts (test slots.Ea) _ csr.1 in
    let a = and_parts (test slots.A) _ ea.1 in
    let b = and_parts (test slots.B) _ a.1 in
    let first = and_parts (test slots.FirstPte) _ b.1 in
    let second = and_parts (test slots.SecondPte) _ first.1 in
    let word = and_parts (test slots.DataWord) _ second.1 in
    let old = and_parts (test slots.OldCsr) _ word.1 in
    let vector = and_parts (test slots.Vector) _ old.1 in
    each_slot (λ s. test s ≡ true) (record {
      op_slot = op.0;
      rs1_slot = rs1.0;
      rs2_slot = rs2.0;
      imm_slot = imm.0;
      rd_slot = rd.0;
      csr_slot = csr.0;
      ea_slot = ea.0;
      a_slot = a.0;
      b_slot = b.0;
      first_slot = first.0;
      second_slot = second.0;
      data_slot = word.0;
      old_slot = old.0;
      vector_slot = vector.0;
    })

-- values fit a case whose tests they pass
pub fits_by : (c : Case) (x : Values) → x slots.Op ≡ c.op → list_all (λ s. c.doms s (x s)) SLOTS ≡ true → c.holds x ≡ true → FitsCase c x
fits_by c x op each holds = record { op = op; each = every_slot (λ s. c.doms s (x s)) each; holds = holds }

-- what fits the cases of one operation is the values of a candidate
pub candidate_of : (t : Turn) (walk : List Entry) (pa : ℕ) (leaf : List Atom) (pages : ℕ → Bool) (loads stores : List EntryRow) → IsPosed t walk pa leaf → HasPages t leaf pages → AreRows t pages ForLoad loads → AreRows t pages ForStore stores
    → (op : Op) (x : Values) → Fits (cases_of t walk pa leaf op (ways_of t walk pa leaf loads stores op)) x → IsCandidate t leaf (new_places t.fixed t.known x)
candidate_of t walk pa leaf pages loads stores posed h l s op x f =
    (leaf_problems_are_exact t walk pa leaf pages loads stores posed h l s).into x (of_one t walk pa leaf (ways_of t walk pa leaf loads stores) OPS x op (every_op op) f)

bare_possible : (leaf : List Atom) (op : Op) (x : Values) (place : Place) (v : ℕ) → all_in leaf ≡ true → HasSources busy_turn leaf
    → Fits (cases_of busy_turn [] 0x8000_0000 leaf op (ways_of busy_turn [] 0x8000_0000 leaf (bare_rows ForLoad) (bare_rows ForStore) op)) x
    → busy_turn.known place ≡ None → new_places busy_turn.fixed busy_turn.known x place ≡ Some v → IsBarePossible leaf place v
bare_possible leaf op x place v h sources f untouched starts =
    let posed : IsPosed busy_turn [] 0x8000_0000 leaf = bare_posed leaf h in
    record {
      posed = posed;
      sources = sources;
      new = new_places busy_turn.fixed busy_turn.known x;
      candidate = candidate_of busy_turn [] 0x8000_0000 leaf (λ ea. true) (bare_rows ForLoad) (bare_rows ForStore) posed (λ ea less tested. refl) (bare_are_rows ForLoad) (bare_are_rows ForStore) op x f;
      untouched = untouched;
      starts = starts;
    }

abbrev plain_values : Values
plain_values slots.Op = op_number Addi
plain_values slots.Rd = 5
plain_values slots.Imm = 7
plain_values _ = 0

abbrev load_values : ℕ → Values
load_values base slots.Op = op_number Lw
load_values base slots.Rd = 5
load_values base slots.Rs1 = base
load_values base slots.Ea = 0x8000_0100
load_values base slots.A = 0x8000_0100
load_values base slots.DataWord = 7
load_values base _ = 0

abbrev store_values : Values
store_values slots.Op = op_number Sw
store_values slots.Rs1 = 1
store_values slots.Ea = 0x8000_0100
store_values slots.A = 0x8000_0100
store_values slots.DataWord = 7
store_values _ = 0

abbrev csr_values : Values
csr_values slots.Op = op_number Csrrw
csr_values slots.Rd = 5
csr_values slots.Rs1 = 1
csr_values slots.Csr = 0x340
csr_values slots.A = 0x8000_0100
csr_values slots.OldCsr = 9
csr_values _ = 0

abbrev return_values : Values
return_values slots.Op = op_number Mret
return_values slots.OldCsr = 0x8000_0200
return_values _ = 0

abbrev supervisor_return_values : Values
supervisor_return_values slots.Op = op_number Sret
supervisor_return_values slots.OldCsr = 0x8000_0200
supervisor_return_values _ = 0

-- the vector is 0 where the step retires
abbrev branch_values : ℕ → ℕ → Values
branch_values imm vector slots.Op = op_number Beq
branch_values imm vector slots.Imm = imm
branch_values imm vector slots.Vector = vector
branch_values imm vector _ = 0

abbrev jump_values : ℕ → ℕ → Values
jump_values imm vector slots.Op = op_number Jal
jump_values imm vector slots.Rd = 1
jump_values imm vector slots.Imm = imm
jump_values imm vector slots.Vector = vector
jump_values imm vector _ = 0

abbrev jump_register_values : ℕ → ℕ → Values
jump_register_values imm vector slots.Op = op_number Jalr
jump_register_values imm vector slots.Rd = 5
jump_register_values imm vector slots.Rs1 = 1
jump_register_values imm vector slots.Imm = imm
jump_register_values imm vector slots.A = 0x8000_0100
jump_register_values imm vector slots.Vector = vector
jump_register_values imm vector _ = 0

abbrev fence_values : Values
fence_values slots.Op = op_number SfenceVma
fence_values _ = 0

abbrev trap_values : Op → Values
trap_values op slots.Op = op_number op
trap_values op slots.Vector = 0x8000_0200
trap_values op _ = 0

abbrev denied_values : Values
denied_values slots.Op = op_number Csrrw
denied_values slots.Rd = 5
denied_values slots.Rs1 = 1
denied_values slots.Csr = 0xf14
denied_values slots.Vector = 0x8000_0200
denied_values _ = 0

abbrev failing_load_values : ℕ → ℕ → ℕ → Values
failing_load_values base imm a slots.Op = op_number Lw
failing_load_values base imm a slots.Rd = 5
failing_load_values base imm a slots.Rs1 = base
failing_load_values base imm a slots.Imm = imm
failing_load_values base imm a slots.Ea = a + imm
failing_load_values base imm a slots.A = a
failing_load_values base imm a slots.Vector = 0x8000_0200
failing_load_values base imm a _ = 0

abbrev failing_store_values : ℕ → ℕ → ℕ → Values
failing_store_values base imm a slots.Op = op_number Sw
failing_store_values base imm a slots.Rs1 = base
failing_store_values base imm a slots.Imm = imm
failing_store_values base imm a slots.Ea = a + imm
failing_store_values base imm a slots.A = a
failing_store_values base imm a slots.Vector = 0x8000_0200
failing_store_values base imm a _ = 0

-- each by computing its step
plain : IsBarePossible plain_leaf (Word 0x8000_0000) 0x0070_0293
unfolding script at_address translated fetched_at instruction decoded immediate_row op_number op_numbered all_in is_in_atom
plain = bare_possible plain_leaf Addi plain_values (Word 0x8000_0000) 0x0070_0293 refl (λ v. refl) (inl (fits_by _ _ refl refl refl)) refl refl

from_known : IsBarePossible (load_leaf 1) (Word 0x8000_0100) 7
unfolding script at_address translated fetched_at instruction decoded load_row load_at op_number op_numbered all_in is_in_atom
from_known = bare_possible (load_leaf 1) Lw (load_values 1) (Word 0x8000_0100) 7 refl (λ v. refl) (inl (fits_by _ _ refl refl refl)) refl refl

from_untouched : IsBarePossible (load_leaf 2) (Reg 2) 0x8000_0100
unfolding script at_address translated fetched_at instruction decoded load_row load_at op_number op_numbered all_in is_in_atom
from_untouched = bare_possible (load_leaf 2) Lw (load_values 2) (Reg 2) 0x8000_0100 refl (λ v. refl) (inl (fits_by _ _ refl refl refl)) refl refl

store : IsBarePossible store_leaf (Word 0x8000_0100) 7
unfolding script at_address translated fetched_at instruction decoded store_row store_at op_number op_numbered all_in is_in_atom
store = bare_possible store_leaf Sw store_values (Word 0x8000_0100) 7 refl (λ v. refl) (inl (fits_by _ _ refl refl refl)) refl refl

csr : IsBarePossible csr_leaf (Csr 0x340) 9
unfolding script at_address translated fetched_at instruction decoded csr_row csr_granted op_number op_numbered all_in is_in_atom
csr = bare_possible csr_leaf Csrrw csr_values (Csr 0x340) 9 refl (λ v. refl) (inl (fits_by _ _ refl refl refl)) refl refl

returned : IsBarePossible return_leaf (Csr 0x341) 0x8000_0200
unfolding script at_address translated fetched_at instruction decoded mret_row op_number op_numbered all_in is_in_atom
returned = bare_possible return_leaf Mret return_values (Csr 0x341) 0x8000_0200 refl (λ v. refl) (inl (fits_by _ _ refl refl refl)) refl refl

returned_to_s : IsBarePossible supervisor_return_leaf (Csr 0x141) 0x8000_0200
unfolding script at_address translated fetched_at instruction decoded op_number op_numbered all_in is_in_atom sret_row
returned_to_s = bare_possible supervisor_return_leaf Sret supervisor_return_values (Csr 0x141) 0x8000_0200 refl (λ v. refl) (inl (fits_by _ _ refl refl refl)) refl refl

branch : IsBarePossible (branch_leaf 8 255) (Word 0x8000_0000) 0x463
unfolding script at_address translated fetched_at instruction decoded op_number op_numbered all_in is_in_atom branch_row
branch = bare_possible (branch_leaf 8 255) Beq (branch_values 8 0) (Word 0x8000_0000) 0x463 refl (λ v. refl) (inl (fits_by _ _ refl refl refl)) refl refl

jump : IsBarePossible (jump_leaf 8 255) (Word 0x8000_0000) 0x0080_00ef
unfolding script at_address translated fetched_at instruction decoded op_number op_numbered all_in is_in_atom jump_row
jump = bare_possible (jump_leaf 8 255) Jal (jump_values 8 0) (Word 0x8000_0000) 0x0080_00ef refl (λ v. refl) (inl (fits_by _ _ refl refl refl)) refl refl

jump_register : IsBarePossible (jump_register_leaf 0 255) (Word 0x8000_0000) 0x82e7
unfolding script at_address translated fetched_at instruction decoded op_number op_numbered all_in is_in_atom jump_register_row
jump_register = bare_possible (jump_register_leaf 0 255) Jalr (jump_register_values 0 0) (Word 0x8000_0000) 0x82e7 refl (λ v. refl) (inl (fits_by _ _ refl refl refl)) refl refl

fence : IsBarePossible fence_leaf (Word 0x8000_0000) 0x1200_0073
unfolding script at_address translated fetched_at instruction decoded op_number op_numbered all_in is_in_atom address_fence_row
fence = bare_possible fence_leaf SfenceVma fence_values (Word 0x8000_0000) 0x1200_0073 refl (λ v. refl) (inl (fits_by _ _ refl refl refl)) refl refl

call : IsBarePossible (cause_leaf Ecall 11) (Csr 0x305) 0x8000_0200
unfolding script at_address translated fetched_at instruction decoded op_number op_numbered all_in is_in_atom trap
call = bare_possible (cause_leaf Ecall 11) Ecall (trap_values Ecall) (Csr 0x305) 0x8000_0200 refl (λ v. refl) (inl (fits_by _ _ refl refl refl)) refl refl

breakpoint : IsBarePossible (cause_leaf Ebreak 3) (Csr 0x305) 0x8000_0200
unfolding script at_address translated fetched_at instruction decoded op_number op_numbered all_in is_in_atom trap
breakpoint = bare_possible (cause_leaf Ebreak 3) Ebreak (trap_values Ebreak) (Csr 0x305) 0x8000_0200 refl (λ v. refl) (inl (fits_by _ _ refl refl refl)) refl refl

illegal : IsBarePossible illegal_leaf (Csr 0x305) 0x8000_0200
unfolding script at_address translated fetched_at instruction decoded op_number op_numbered all_in is_in_atom trap
illegal = bare_possible illegal_leaf Illegal (trap_values Illegal) (Csr 0x305) 0x8000_0200 refl (λ v. refl) (inl (fits_by _ _ refl refl refl)) refl refl

denied : IsBarePossible denied_leaf (Csr 0x305) 0x8000_0200
unfolding script at_address translated fetched_at instruction decoded op_number op_numbered all_in is_in_atom csr_row csr_granted trap
denied = bare_possible denied_leaf Csrrw denied_values (Csr 0x305) 0x8000_0200 refl (λ v. refl) (inl (fits_by _ _ refl refl refl)) refl refl

branch_misaligned : IsBarePossible (branch_leaf 2 0) (Csr 0x305) 0x8000_0200
unfolding script at_address translated fetched_at instruction decoded op_number op_numbered all_in is_in_atom branch_row trap
branch_misaligned = bare_possible (branch_leaf 2 0) Beq (branch_values 2 0x8000_0200) (Csr 0x305) 0x8000_0200 refl (λ v. refl) (inl (fits_by _ _ refl refl refl)) refl refl

jump_misaligned : IsBarePossible (jump_leaf 2 0) (Csr 0x305) 0x8000_0200
unfolding script at_address translated fetched_at instruction decoded op_number op_numbered all_in is_in_atom jump_row trap
jump_misaligned = bare_possible (jump_leaf 2 0) Jal (jump_values 2 0x8000_0200) (Csr 0x305) 0x8000_0200 refl (λ v. refl) (inl (fits_by _ _ refl refl refl)) refl refl

jump_register_misaligned : IsBarePossible (jump_register_leaf 2 0) (Csr 0x305) 0x8000_0200
unfolding script at_address translated fetched_at instruction decoded op_number op_numbered all_in is_in_atom jump_register_row trap
jump_register_misaligned = bare_possible (jump_register_leaf 2 0) Jalr (jump_register_values 2 0x8000_0200) (Csr 0x305) 0x8000_0200 refl (λ v. refl) (inl (fits_by _ _ refl refl refl)) refl refl

load_misaligned : IsBarePossible (failing_load_leaf 1 1 4) (Csr 0x305) 0x8000_0200
unfolding script at_address translated fetched_at instruction decoded op_number op_numbered all_in is_in_atom load_row load_at trap
load_misaligned = bare_possible (failing_load_leaf 1 1 4) Lw (failing_load_values 1 1 0x8000_0100) (Csr 0x305) 0x8000_0200 refl (λ v. refl) (inl (fits_by _ _ refl refl refl)) refl refl

store_misaligned : IsBarePossible (failing_store_leaf 1 1 6) (Csr 0x305) 0x8000_0200
unfolding script at_address translated fetched_at instruction decoded op_number op_numbered all_in is_in_atom store_row store_at trap
store_misaligned = bare_possible (failing_store_leaf 1 1 6) Sw (failing_store_values 1 1 0x8000_0100) (Csr 0x305) 0x8000_0200 refl (λ v. refl) (inl (fits_by _ _ refl refl refl)) refl refl

load_fault : IsBarePossible (failing_load_leaf 0 0 5) (Csr 0x305) 0x8000_0200
unfolding script at_address translated fetched_at instruction decoded op_number op_numbered all_in is_in_atom load_row load_at trap
load_fault = bare_possible (failing_load_leaf 0 0 5) Lw (failing_load_values 0 0 0) (Csr 0x305) 0x8000_0200 refl (λ v. refl) (inl (fits_by _ _ refl refl refl)) refl refl

store_fault : IsBarePossible (failing_store_leaf 0 0 7) (Csr 0x305) 0x8000_0200
unfolding script at_address translated fetched_at instruction decoded op_number op_numbered all_in is_in_atom store_row store_at trap
store_fault = bare_possible (failing_store_leaf 0 0 7) Sw (failing_store_values 0 0 0) (Csr 0x305) 0x8000_0200 refl (λ v. refl) (inl (fits_by _ _ refl refl refl)) refl refl

pub have_possible : HavePossible
have_possible = record {
  loads = bare_are_rows ForLoad;
  stores = bare_are_rows ForStore;
  plain = plain;
  from_known = from_known;
  from_untouched = from_untouched;
  store = store;
  csr = csr;
  returned = returned;
  returned_to_s = returned_to_s;
  branch = branch;
  jump = jump;
  jump_register = jump_register;
  fence = fence;
  call = call;
  breakpoint = breakpoint;
  illegal = illegal;
  denied = denied;
  branch_misaligned = branch_misaligned;
  jump_misaligned = jump_misaligned;
  jump_register_misaligned = jump_register_misaligned;
  load_misaligned = load_misaligned;
  store_misaligned = store_misaligned;
  load_fault = load_fault;
  store_fault = store_fault;
}
