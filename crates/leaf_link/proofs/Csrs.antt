-- The law of CSR instructions.
use Rattle.std.proofs.Common.{◌≡◌, ℕ, if◌then◌else◌, ◌&&◌, ◌||◌, ◌==◌, not, Bool, true, false, eqb, List, Option, None, refl, sym, ap, ◌∙◌, subst, inl, inr}
use Rattle.std.proofs.lemmas.Bool.{eqb-true, cases_Bool, and_parts, and_from}
use Rattle.std.specs.Option.{unwrap_or}
use Rattle.rv_isa.specs.declared.instruction.Instr.{Instr}
use Rattle.rv_isa.specs.declared.operation.Op.{Op}
use Rattle.rv_isa.specs.declared.operation.Op.TheVariants.{Csrrw, Csrrs, Csrrc, Csrrwi, Csrrsi, Csrrci}
use Rattle.rv_isa.specs.Encoding.{word_of}
use Rattle.rv_isa.specs.Fields.{reads_rs1, reads_rs2}
use Rattle.rv_isa.specs.Table.{row_of}
use Rattle.rv_csr.specs.Access.{access_of}
use Rattle.rv_csr.specs.declared.access.CsrAccess.{CsrAccess}
use Rattle.rv_csr.specs.declared.access.CsrAccess.TheVariants.{Granted, Denied, Outside as NotModelled}
use Rattle.rv_csr.specs.declared.cause.Cause.TheVariants.{Illegal}
use Rattle.rv_csr.specs.declared.table.Register.{Register}
use Rattle.rv_csr.specs.declared.table.Register.TheVariants.{Sstatus, Satp, Mstatus, Medeleg, Mhartid, Lazy}
use Rattle.rv_csr.specs.State.{value_of}
use Rattle.rv_csr.specs.Table.{is_legal}
use Rattle.rv_script.specs.declared.place.Place.TheVariants.{Csr}
use Rattle.rv_script.specs.Script.{Label.FromCsr, Question.OfCsr, Script, Script.Done, Script.Outside, ◌>>=◌}
use Rattle.rv_script.specs.Folds.{Answer.Does, Entry}
use Rattle.rv_hart.specs.declared.record.Change.{Change}
use Rattle.rv_hart.specs.declared.record.Control.{Control}
use Rattle.rv_hart.specs.declared.record.Control.TheVariants.{Stay, Write}
use Rattle.rv_hart.specs.Changes.{outcome_of}
use Rattle.rv_hart.specs.Fixed.{Fixed, fixed_csrs}
use Rattle.rv_hart.specs.Privileged.{csr_accessed, csr_exchanged, csr_granted, csr_immediate_row, csr_result, following, is_swap, lazy_address, old_value, rd_told, reads_csr, refused, went, write_csr, writes_csr}
use Rattle.tpl_ast.specs.declared.template.Atom.{Atom}
use Rattle.tpl_admit.specs.Variables.{outcome_in}
use Rattle.fd_prob.specs.declared.slot.Slot.{Slot}
use Rattle.fd_prob.specs.declared.slot.Slot.TheVariants as slots
use Rattle.rv_script.specs.Logs.{answer_told, by_answers}
use Rattle.leaf_link.specs.Turns.{Turn}
use Rattle.leaf_link.specs.Values.{Values, field_of_operand, fixed_value, given_by, has_csr_operand, instr_in, old_csr}
use Rattle.leaf_link.specs.Cases.{Way}
use Rattle.leaf_link.specs.Ways.{AsksUsed, DoesRest, FitsWay, HasWay, IsFetched, IsOf, IsWays, shape_with}
use Rattle.rv_hart.specs.Rests.{after_access, asks_rs1, csr_access, is_granted, rest}
use Rattle.leaf_link.specs.Kinds.{traps_when}
use Rattle.leaf_link.specs.Controls.{CsrsAreExact, access_in, csr_ways, ends_when, grants, is_denied, is_legal_write, is_old, is_read_old, operand_in, writes_in}
use Rattle.rv_script.proofs.Plays.{asks}
use Rattle.leaf_link.proofs.Front.{rest_of}
use Rattle.leaf_link.proofs.Resting.{Traps, does_trap_with, in_one, traps_does_with}
use Rattle.leaf_link.proofs.Operations.{exact, if_no, if_yes}
use Rattle.leaf_link.proofs.Returning.{AsksOld, Retiring, OldDone, zero_slots, old_entry, old_does, does_old, quiet_does, does_quiet, old_to}

-- THE FORM OF A CSR INSTRUCTION
abbrev pub csr_form : Fixed → ℕ → Instr → Bool → CsrAccess → ℕ → Script Change
csr_form f word i writes (Granted register) operand = csr_granted f word i writes register operand
csr_form f word i writes Denied operand = refused f word
csr_form f word i writes NotModelled operand = Outside

form_register : (f : Fixed) (word : ℕ) (i : Instr) (access : CsrAccess) (a : ℕ) → after_access f word i access a ≡ csr_form f word i (writes_csr i.op i.rs1) access a
form_register f word i (Granted register) a = refl
form_register f word i Denied a = refl
form_register f word i NotModelled a = refl

form_immediate : (f : Fixed) (word : ℕ) (i : Instr) (writes : Bool) (access : CsrAccess) → csr_accessed f word i writes access (Done i.imm) ≡ csr_form f word i writes access i.imm
form_immediate f word i writes (Granted register) = refl
form_immediate f word i writes Denied = refl
form_immediate f word i writes NotModelled = refl

-- with the writes of its own row
of_row : (f : Fixed) (word : ℕ) (i : Instr) (op : Op) (operand : ℕ) → i.op ≡ op → (s : Script Change)
    → s ≡ csr_form f word i (writes_csr i.op (field_of_operand (row_of op) i)) (access_of f.mstatus i.csr f.privilege (writes_csr i.op (field_of_operand (row_of op) i))) operand
    → s ≡ csr_form f word i (writes_in i) (access_in f i) operand
of_row f word i op operand e s h = h ∙ ap (λ (o : Op). csr_form f word i (writes_csr i.op (field_of_operand (row_of o) i)) (access_of f.mstatus i.csr f.privilege (writes_csr i.op (field_of_operand (row_of o) i))) operand) (sym e)

csr_rest : (op : Op) → has_csr_operand (row_of op) ≡ true → (f : Fixed) (word : ℕ) (x : Values) (i : Instr) → i.op ≡ op → x slots.Imm ≡ i.imm
    → rest (row_of op) f word i (x slots.A) (x slots.B) ≡ csr_form f word i (writes_in i) (access_in f i) (operand_in (row_of op) x)
unfolding csr_immediate_row
csr_rest Csrrw h f word x i e m = of_row f word i Csrrw (x slots.A) e _ (form_register f word i (csr_access f i) (x slots.A))
csr_rest Csrrs h f word x i e m = of_row f word i Csrrs (x slots.A) e _ (form_register f word i (csr_access f i) (x slots.A))
csr_rest Csrrc h f word x i e m = of_row f word i Csrrc (x slots.A) e _ (form_register f word i (csr_access f i) (x slots.A))
csr_rest Csrrwi h f word x i e m = of_row f word i Csrrwi (x slots.Imm) e _ (form_immediate f word i (writes_csr i.op i.imm) (access_of f.mstatus i.csr f.privilege (writes_csr i.op i.imm)) ∙ ap (λ (n : ℕ). csr_form f word i (writes_csr i.op i.imm) (access_of f.mstatus i.csr f.privilege (writes_csr i.op i.imm)) n) (sym m))
csr_rest Csrrsi h f word x i e m = of_row f word i Csrrsi (x slots.Imm) e _ (form_immediate f word i (writes_csr i.op i.imm) (access_of f.mstatus i.csr f.privilege (writes_csr i.op i.imm)) ∙ ap (λ (n : ℕ). csr_form f word i (writes_csr i.op i.imm) (access_of f.mstatus i.csr f.privilege (writes_csr i.op i.imm)) n) (sym m))
csr_rest Csrrci h f word x i e m = of_row f word i Csrrci (x slots.Imm) e _ (form_immediate f word i (writes_csr i.op i.imm) (access_of f.mstatus i.csr f.privilege (writes_csr i.op i.imm)) ∙ ap (λ (n : ℕ). csr_form f word i (writes_csr i.op i.imm) (access_of f.mstatus i.csr f.privilege (writes_csr i.op i.imm)) n) (sym m))
csr_rest _ h f word x i e m = absurd (cc)

abbrev pub operand_of : Op → Values → ℕ
operand_of op x = operand_in (row_of op) x

csr_script : (t : Turn) (op : Op) (x : Values) → has_csr_operand (row_of op) ≡ true → IsOf op x
    → rest_of t op x (x slots.A) (x slots.B) ≡ csr_form t.fixed (word_of (instr_in x)) (instr_in x) (writes_in (instr_in x)) (access_in t.fixed (instr_in x)) (operand_of op x)
csr_script t op x h is = csr_rest op h t.fixed (word_of (instr_in x)) x (instr_in x) is.op_is refl

-- what is asked for
csr_asked : (op : Op) → has_csr_operand (row_of op) ≡ true → (f : Fixed) (i : Instr) → i.op ≡ op → asks_rs1 (row_of op) f i ≡ (reads_rs1 (row_of op) && is_granted (access_in f i))
csr_asked Csrrw h f i e = ap (λ (o : Op). is_granted (access_of f.mstatus i.csr f.privilege (writes_csr i.op (field_of_operand (row_of o) i)))) (sym e)
csr_asked Csrrs h f i e = ap (λ (o : Op). is_granted (access_of f.mstatus i.csr f.privilege (writes_csr i.op (field_of_operand (row_of o) i)))) (sym e)
csr_asked Csrrc h f i e = ap (λ (o : Op). is_granted (access_of f.mstatus i.csr f.privilege (writes_csr i.op (field_of_operand (row_of o) i)))) (sym e)
csr_asked Csrrwi h f i e = refl
csr_asked Csrrsi h f i e = refl
csr_asked Csrrci h f i e = refl
csr_asked _ h f i e = absurd (cc)

csr_second : (op : Op) → has_csr_operand (row_of op) ≡ true → reads_rs2 (row_of op) ≡ false
csr_second Csrrw h = refl
csr_second Csrrs h = refl
csr_second Csrrc h = refl
csr_second Csrrwi h = refl
csr_second Csrrsi h = refl
csr_second Csrrci h = refl
csr_second _ h = absurd (cc)

asks_by : (t : Turn) (op : Op) (x : Values) (outcome : ℕ) → has_csr_operand (row_of op) ≡ true → IsOf op x → is_granted (access_in t.fixed (instr_in x)) ≡ not (outcome == 2) → AsksUsed t (shape_with op outcome false) x
asks_by t op x outcome h is g = record {
  first = csr_asked op h t.fixed (instr_in x) is.op_is ∙ ap (λ (b : Bool). reads_rs1 (row_of op) && b) g;
  second = csr_second op h ∙ ap (λ (b : Bool). b && not (outcome == 2)) (sym (csr_second op h));
}

-- THE END
swap_result : (op : Op) (old operand : ℕ) → is_swap op ≡ true → csr_result op old operand ≡ operand
swap_result Csrrw old operand h = refl
swap_result Csrrwi old operand h = refl
swap_result _ old operand h = absurd (cc)

retiring : (t : Turn) (x : Values) (rd : Option (ℕ × ℕ)) (control : Control) (target : ℕ) (s : Script Change) → outcome_in (outcome_of t.fixed control) ≡ 255 → s ≡ Done (went (word_of (instr_in x)) rd control target) → Retiring t x s
retiring t x rd control target s o h = record { change = went (word_of (instr_in x)) rd control target; ends = h; word = refl; outcome = o }

writes_end : (t : Turn) (x : Values) (rd : Option (ℕ × ℕ)) (register : Register) (value : ℕ) → is_legal register value ≡ true → Retiring t x (write_csr t.fixed (word_of (instr_in x)) rd register value)
writes_end t x rd register value h = retiring t x rd (Write register value) (following t.fixed.pc) _ refl (if_yes (is_legal register value) _ _ h)

writes_out : (f : Fixed) (word : ℕ) (rd : Option (ℕ × ℕ)) (register : Register) (value : ℕ) → is_legal register value ≡ false → write_csr f word rd register value ≡ Outside
writes_out f word rd register value h = if_no (is_legal register value) _ _ h

exchange_ends : (t : Turn) (x : Values) (writes : Bool) (register : Register) (operand old : ℕ) → (if writes then is_legal register (csr_result (instr_in x).op old operand) else true) ≡ true
    → Retiring t x (csr_exchanged t.fixed (word_of (instr_in x)) (instr_in x) writes register operand old)
exchange_ends t x true register operand old h = writes_end t x _ register _ h
exchange_ends t x false register operand old h = retiring t x (rd_told (x slots.Rd) old) Stay (following t.fixed.pc) _ refl refl

exchange_out : (t : Turn) (x : Values) (writes : Bool) (register : Register) (operand old : ℕ) → (if writes then is_legal register (csr_result (instr_in x).op old operand) else true) ≡ false
    → csr_exchanged t.fixed (word_of (instr_in x)) (instr_in x) writes register operand old ≡ Outside
exchange_out t x true register operand old h = writes_out t.fixed (word_of (instr_in x)) _ register _ h
exchange_out t x false register operand old h = absurd (cc)

unless_if : (b c : Bool) → Rattle.leaf_link.specs.Cases.unless b c ≡ (if b then c else true)
unless_if true c = refl
unless_if false c = refl

no_play : (t : Turn) (op : Op) (x : Values) (log : List Entry) (change : Change) → rest_of t op x (x slots.A) (x slots.B) ≡ Outside → answer_told (by_answers t.known (given_by x)) (rest_of t op x (x slots.A) (x slots.B)) ≡ Does log change → ⊥
no_play t op x log change h p =
    let z : answer_told (by_answers t.known (given_by x)) Outside ≡ Does log change = ap (λ (s : Script Change). answer_told (by_answers t.known (given_by x)) s) (sym h) ∙ p in cc

-- what a CSR is known to hold that is not asked for
unasked_is : (f : Fixed) (i : Instr) (access : CsrAccess) (r : Bool) → has_csr_operand (row_of i.op) ≡ true → reads_csr i ≡ r → access_in f i ≡ access → old_csr f i None ≡ (if r then fixed_value f access else 0)
unasked_is f i access r h k e =
    ap (λ (b : Bool). if b then (if reads_csr i then fixed_value f (access_in f i) else 0) else 0) h
    ∙ ap (λ (b : Bool). if b then fixed_value f (access_in f i) else 0) k ∙ ap (λ (a : CsrAccess). if r then fixed_value f a else 0) e

-- a register that is read: it is asked for, or known
pub data Reading (t : Turn) (op : Op) (x : Values) (register : Register) : Type 0 where
  Asked : (addr : ℕ) → (a : AsksOld t op x addr) → ((v : ℕ) → a.next v ≡ csr_exchanged t.fixed (word_of (instr_in x)) (instr_in x) (writes_in (instr_in x)) register (operand_of op x) v) → ((v : ℕ) → is_read_old t register v ≡ is_old t addr v) → Reading t op x register
  Told : (old : ℕ) → rest_of t op x (x slots.A) (x slots.B) ≡ csr_exchanged t.fixed (word_of (instr_in x)) (instr_in x) (writes_in (instr_in x)) register (operand_of op x) old → ((v : ℕ) → is_read_old t register v ≡ eqb v old)
      → fixed_value t.fixed (Granted register) ≡ old → Reading t op x register

reading : (t : Turn) (op : Op) (x : Values) (register : Register)
    → rest_of t op x (x slots.A) (x slots.B) ≡ (old_value t.fixed register >>= csr_exchanged t.fixed (word_of (instr_in x)) (instr_in x) (writes_in (instr_in x)) register (operand_of op x)) → Reading t op x register
reading t op x (Lazy r) h = Asked (lazy_address r) (record { next = csr_exchanged t.fixed (word_of (instr_in x)) (instr_in x) (writes_in (instr_in x)) (Lazy r) (operand_of op x); ends = h }) (λ v. refl) (λ v. refl)
reading t op x Sstatus h = Told (unwrap_or (value_of (fixed_csrs t.fixed) Sstatus) 0) h (λ v. refl) refl
reading t op x Satp h = Told (unwrap_or (value_of (fixed_csrs t.fixed) Satp) 0) h (λ v. refl) refl
reading t op x Mstatus h = Told (unwrap_or (value_of (fixed_csrs t.fixed) Mstatus) 0) h (λ v. refl) refl
reading t op x Medeleg h = Told (unwrap_or (value_of (fixed_csrs t.fixed) Medeleg) 0) h (λ v. refl) refl
reading t op x Mhartid h = Told (unwrap_or (value_of (fixed_csrs t.fixed) Mhartid) 0) h (λ v. refl) refl

-- a granted access
granted_script : (t : Turn) (op : Op) (x : Values) (register : Register) → has_csr_operand (row_of op) ≡ true → IsOf op x → access_in t.fixed (instr_in x) ≡ Granted register
    → rest_of t op x (x slots.A) (x slots.B) ≡ csr_granted t.fixed (word_of (instr_in x)) (instr_in x) (writes_in (instr_in x)) register (operand_of op x)
granted_script t op x register h is e = csr_script t op x h is ∙ ap (λ (a : CsrAccess). csr_form t.fixed (word_of (instr_in x)) (instr_in x) (writes_in (instr_in x)) a (operand_of op x)) e

granted_reads : (t : Turn) (op : Op) (x : Values) (register : Register) → has_csr_operand (row_of op) ≡ true → IsOf op x → access_in t.fixed (instr_in x) ≡ Granted register → reads_csr (instr_in x) ≡ true → Reading t op x register
unfolding csr_granted
granted_reads t op x register h is e r = reading t op x register (granted_script t op x register h is e ∙ if_yes (reads_csr (instr_in x)) _ _ r)

granted_writes : (t : Turn) (op : Op) (x : Values) (register : Register) → has_csr_operand (row_of op) ≡ true → IsOf op x → access_in t.fixed (instr_in x) ≡ Granted register → reads_csr (instr_in x) ≡ false
    → rest_of t op x (x slots.A) (x slots.B) ≡ write_csr t.fixed (word_of (instr_in x)) None register (operand_of op x)
unfolding csr_granted
granted_writes t op x register h is e r = granted_script t op x register h is e ∙ if_no (reads_csr (instr_in x)) _ _ r

operand_row : (op : Op) (x : Values) → has_csr_operand (row_of op) ≡ true → IsOf op x → has_csr_operand (row_of (instr_in x).op) ≡ true
operand_row op x h is = ap (λ (o : Op). has_csr_operand (row_of o)) is.op_is ∙ h

-- what does not read is a swap, and writes its operand
not_false : (b : Bool) → not b ≡ false → b ≡ true
not_false true h = refl
not_false false h = absurd (cc)

or_left : (a b : Bool) → a ≡ true → (a || b) ≡ true
or_left true b h = refl
or_left false b h = absurd (cc)

swap_legal : (i : Instr) (register : Register) (operand old : ℕ) → reads_csr i ≡ false → is_legal_write i register old operand ≡ is_legal register operand
swap_legal i register operand old h =
    let s : is_swap i.op ≡ true = (and_parts (is_swap i.op) (eqb i.rd 0) (not_false _ h)).0 in
    ap (λ (b : Bool). Rattle.leaf_link.specs.Cases.unless b (is_legal register (csr_result i.op old operand))) (or_left (is_swap i.op) _ s) ∙ ap (λ (n : ℕ). is_legal register n) (swap_result i.op old operand s)

granted_does : (t : Turn) (walk : List Entry) (pa : ℕ) (leaf : List Atom) (op : Op) (x : Values) (register : Register) → IsFetched t walk pa → has_csr_operand (row_of op) ≡ true → IsOf op x → access_in t.fixed (instr_in x) ≡ Granted register
    → ((s : Slot) → zero_slots x s) → grants t (Granted register) (instr_in x) (x slots.OldCsr) (operand_of op x) ≡ true → DoesRest t walk pa leaf (shape_with op 255 false) x
granted_does t walk pa leaf op x register f h is e z g =
    let parts = and_parts _ _ g in
    let legal : (v : ℕ) → x slots.OldCsr ≡ v → (if writes_in (instr_in x) then is_legal register (csr_result (instr_in x).op v (operand_of op x)) else true) ≡ true =
    λ v q. subst (λ (n : ℕ). (if writes_in (instr_in x) then is_legal register (csr_result (instr_in x).op n (operand_of op x)) else true) ≡ true) q (sym (unless_if (writes_in (instr_in x)) _) ∙ parts.1) in
    go (reads_csr (instr_in x)) refl parts.0 legal parts.1
  where
    read : (r : Reading t op x register) → reads_csr (instr_in x) ≡ true → is_read_old t register (x slots.OldCsr) ≡ true
        → ((v : ℕ) → x slots.OldCsr ≡ v → (if writes_in (instr_in x) then is_legal register (csr_result (instr_in x).op v (operand_of op x)) else true) ≡ true) → DoesRest t walk pa leaf (shape_with op 255 false) x
    read (Asked addr a next test) k old legal =
        let o : is_old t addr (x slots.OldCsr) ≡ true = sym (test (x slots.OldCsr)) ∙ old in
        let v = (old_entry t x addr).value in
        old_does t walk pa leaf op x addr f a (subst (λ (s : Script Change). Retiring t x s) (sym (next v)) (exchange_ends t x (writes_in (instr_in x)) register (operand_of op x) v (legal v (old_to t (t.known (Csr addr)) addr (x slots.OldCsr) o).1))) z o
    read (Told v ends test fixed) k old legal =
        let same : x slots.OldCsr ≡ v = eqb-true _ _ (sym (test (x slots.OldCsr)) ∙ old) in
        quiet_does t walk pa leaf op x f (subst (λ (s : Script Change). Retiring t x s) (sym ends) (exchange_ends t x (writes_in (instr_in x)) register (operand_of op x) v (legal v same))) z
        (same ∙ sym fixed ∙ sym (unasked_is t.fixed (instr_in x) (Granted register) true (operand_row op x h is) k e))

    go : (b : Bool) → reads_csr (instr_in x) ≡ b → (if b then is_read_old t register (x slots.OldCsr) else eqb (x slots.OldCsr) 0) ≡ true
        → ((v : ℕ) → x slots.OldCsr ≡ v → (if writes_in (instr_in x) then is_legal register (csr_result (instr_in x).op v (operand_of op x)) else true) ≡ true)
        → is_legal_write (instr_in x) register (x slots.OldCsr) (operand_of op x) ≡ true → DoesRest t walk pa leaf (shape_with op 255 false) x
    go true k old legal raw = read (granted_reads t op x register h is e k) k old legal
    go false k old legal raw =
        quiet_does t walk pa leaf op x f (subst (λ (s : Script Change). Retiring t x s) (sym (granted_writes t op x register h is e k)) (writes_end t x None register (operand_of op x) (sym (swap_legal (instr_in x) register (operand_of op x) (x slots.OldCsr) k) ∙ raw))) z
        (eqb-true _ _ old ∙ sym (unasked_is t.fixed (instr_in x) (Granted register) false (operand_row op x h is) k e))

does_granted : (t : Turn) (walk : List Entry) (pa : ℕ) (leaf : List Atom) (op : Op) (x : Values) (register : Register) (outcome : ℕ) (reaches : Bool) → has_csr_operand (row_of op) ≡ true → IsOf op x → access_in t.fixed (instr_in x) ≡ Granted register
    → DoesRest t walk pa leaf (shape_with op outcome reaches) x → OldDone t x outcome reaches (grants t (Granted register) (instr_in x) (x slots.OldCsr) (operand_of op x))
does_granted t walk pa leaf op x register outcome reaches h is e d = go (reads_csr (instr_in x)) refl
  where
    i : Instr
    i = instr_in x

    read : (r : Reading t op x register) → reads_csr (instr_in x) ≡ true → OldDone t x outcome reaches (is_read_old t register (x slots.OldCsr) && is_legal_write (instr_in x) register (x slots.OldCsr) (operand_of op x))
    read (Asked addr a next test) k =
        let v = (old_entry t x addr).value in
        elim (cases_Bool (if writes_in (instr_in x) then is_legal register (csr_result (instr_in x).op v (operand_of op x)) else true)) [
          | inl y ↦
              let r = does_old t walk pa leaf op x addr outcome reaches a (subst (λ (s : Script Change). Retiring t x s) (sym (next v)) (exchange_ends t x (writes_in (instr_in x)) register (operand_of op x) v y)) d in
              let same : x slots.OldCsr ≡ v = (old_to t (t.known (Csr addr)) addr (x slots.OldCsr) r.old_is).1 in
              record {
                each = r.each;
                outcome_is = r.outcome_is;
                reaches_is = r.reaches_is;
                old_is = and_from _ _ (test (x slots.OldCsr) ∙ r.old_is)
                    (unless_if (writes_in (instr_in x)) _ ∙ subst (λ (n : ℕ). (if writes_in (instr_in x) then is_legal register (csr_result (instr_in x).op n (operand_of op x)) else true) ≡ true) (sym same) y);
              }
          | inr n ↦
              let out : answer_told (by_answers t.known (given_by x)) (rest_of t op x (x slots.A) (x slots.B)) ≡ Rattle.rv_script.proofs.Plays.after (old_entry t x addr) (answer_told (by_answers t.known (given_by x)) Outside) =
              ap (λ (s : Script Change). answer_told (by_answers t.known (given_by x)) s) a.ends ∙ asks t.known (given_by x) (OfCsr FromCsr addr) a.next
              ∙ ap (λ (s : Script Change). Rattle.rv_script.proofs.Plays.after (old_entry t x addr) (answer_told (by_answers t.known (given_by x)) s)) (next v ∙ exchange_out t x (writes_in (instr_in x)) register (operand_of op x) v n) in
              let z = sym out ∙ d.plays in absurd (cc)
        ]
    read (Told v ends test fixed) k =
        elim (cases_Bool (if writes_in (instr_in x) then is_legal register (csr_result (instr_in x).op v (operand_of op x)) else true)) [
          | inl y ↦
              let r = does_quiet t walk pa leaf op x outcome reaches v (unasked_is t.fixed (instr_in x) (Granted register) true (operand_row op x h is) k e ∙ fixed)
              (subst (λ (s : Script Change). Retiring t x s) (sym ends) (exchange_ends t x (writes_in (instr_in x)) register (operand_of op x) v y)) d in
              let same : x slots.OldCsr ≡ v = eqb-true _ _ r.old_is in
              record {
                each = r.each;
                outcome_is = r.outcome_is;
                reaches_is = r.reaches_is;
                old_is = and_from _ _ (test (x slots.OldCsr) ∙ r.old_is)
                    (unless_if (writes_in (instr_in x)) _ ∙ subst (λ (n : ℕ). (if writes_in (instr_in x) then is_legal register (csr_result (instr_in x).op n (operand_of op x)) else true) ≡ true) (sym same) y);
              }
          | inr n ↦ absurd (no_play t op x d.log d.change (ends ∙ exchange_out t x (writes_in (instr_in x)) register (operand_of op x) v n) d.plays)
        ]

    go : (b : Bool) → reads_csr (instr_in x) ≡ b → OldDone t x outcome reaches ((if b then is_read_old t register (x slots.OldCsr) else eqb (x slots.OldCsr) 0) && is_legal_write (instr_in x) register (x slots.OldCsr) (operand_of op x))
    go true k = read (granted_reads t op x register h is e k) k
    go false k =
        let ends = granted_writes t op x register h is e k in
        elim (cases_Bool (is_legal register (operand_of op x))) [
          | inl y ↦
              let r = does_quiet t walk pa leaf op x outcome reaches 0 (unasked_is t.fixed (instr_in x) (Granted register) false (operand_row op x h is) k e)
              (subst (λ (s : Script Change). Retiring t x s) (sym ends) (writes_end t x None register (operand_of op x) y)) d in
              record { each = r.each; outcome_is = r.outcome_is; reaches_is = r.reaches_is; old_is = and_from _ _ r.old_is (swap_legal (instr_in x) register (operand_of op x) (x slots.OldCsr) k ∙ y) }
          | inr n ↦ absurd (no_play t op x d.log d.change (ends ∙ writes_out t.fixed (word_of (instr_in x)) None register (operand_of op x) n) d.plays)
        ]

-- THE WAYS
denied_is : (a : CsrAccess) → is_denied a ≡ true → a ≡ Denied
denied_is Denied h = refl
denied_is (Granted register) h = absurd (cc)
denied_is NotModelled h = absurd (cc)

denied_zero : (f : Fixed) (r : Bool) → (if r then fixed_value f Denied else 0) ≡ 0
denied_zero f true = refl
denied_zero f false = refl

denied_old : (t : Turn) (op : Op) (x : Values) → has_csr_operand (row_of op) ≡ true → IsOf op x → access_in t.fixed (instr_in x) ≡ Denied → old_csr t.fixed (instr_in x) None ≡ 0
denied_old t op x h is e = unasked_is t.fixed (instr_in x) Denied (reads_csr (instr_in x)) (operand_row op x h is) refl e ∙ denied_zero t.fixed (reads_csr (instr_in x))

denied_traps : (t : Turn) (op : Op) (x : Values) → has_csr_operand (row_of op) ≡ true → IsOf op x → access_in t.fixed (instr_in x) ≡ Denied → Traps t op x Illegal
denied_traps t op x h is e = record { value = word_of (instr_in x); ends = csr_script t op x h is ∙ ap (λ (a : CsrAccess). csr_form t.fixed (word_of (instr_in x)) (instr_in x) (writes_in (instr_in x)) a (operand_of op x)) e }

grants_granted : (t : Turn) (a : CsrAccess) (i : Instr) (old operand : ℕ) → grants t a i old operand ≡ true → is_granted a ≡ true
grants_granted t (Granted register) i old operand h = refl
grants_granted t Denied i old operand h = absurd (cc)
grants_granted t NotModelled i old operand h = absurd (cc)

abbrev pub denied_test : Turn → Values → Bool
denied_test t x = is_denied (access_in t.fixed (instr_in x))

abbrev pub granted_test : Turn → Op → Values → Bool
granted_test t op x = grants t (access_in t.fixed (instr_in x)) (instr_in x) (x slots.OldCsr) (operand_in (row_of op) x)

pub csr_is_ways : (t : Turn) (walk : List Entry) (pa : ℕ) (leaf : List Atom) (op : Op) → IsFetched t walk pa → has_csr_operand (row_of op) ≡ true → IsWays t walk pa leaf op (csr_ways t op)
csr_is_ways t walk pa leaf op f h = record {
  does = λ x is ea way i w. elim i [
    | inl e ↦ let v : FitsWay (traps_when t Illegal (denied_test t)) x = subst (λ (z : Way). FitsWay z x) (sym e) w in
        let a = denied_is (access_in t.fixed (instr_in x)) v.holds in
        subst (λ (z : Way). DoesRest t walk pa leaf (shape_with op z.outcome z.reaches) x) e (traps_does_with t walk pa leaf op x Illegal f is (denied_old t op x h is a) (denied_traps t op x h is a) (denied_test t) v)
    | inr j ↦ let e : ends_when (granted_test t op) ≡ way = in_one _ way j in
        let v : FitsWay (ends_when (granted_test t op)) x = subst (λ (z : Way). FitsWay z x) (sym e) w in
        subst (λ (z : Way). DoesRest t walk pa leaf (shape_with op z.outcome z.reaches) x) e (granted x is v.each (access_in t.fixed (instr_in x)) refl v.holds)
  ];
  fits = λ x is ea outcome reaches d inside. done x is outcome reaches d (access_in t.fixed (instr_in x)) refl;
  asks = λ x is way i w. elim i [
    | inl e ↦ let v : FitsWay (traps_when t Illegal (denied_test t)) x = subst (λ (z : Way). FitsWay z x) (sym e) w in
        subst (λ (z : Way). AsksUsed t (shape_with op z.outcome z.reaches) x) e (asks_by t op x 2 h is (ap is_granted (denied_is (access_in t.fixed (instr_in x)) v.holds)))
    | inr j ↦ let e : ends_when (granted_test t op) ≡ way = in_one _ way j in
        let v : FitsWay (ends_when (granted_test t op)) x = subst (λ (z : Way). FitsWay z x) (sym e) w in
        subst (λ (z : Way). AsksUsed t (shape_with op z.outcome z.reaches) x) e (asks_by t op x 255 h is (grants_granted t (access_in t.fixed (instr_in x)) (instr_in x) (x slots.OldCsr) (operand_in (row_of op) x) v.holds))
  ];
}
  where
    granted : (x : Values) → IsOf op x → ((s : Slot) → zero_slots x s) → (a : CsrAccess) → access_in t.fixed (instr_in x) ≡ a → grants t a (instr_in x) (x slots.OldCsr) (operand_in (row_of op) x) ≡ true → DoesRest t walk pa leaf (shape_with op 255 false) x
    granted x is z (Granted register) e g = granted_does t walk pa leaf op x register f h is e z g
    granted x is z Denied e g = absurd (cc)
    granted x is z NotModelled e g = absurd (cc)

    done : (x : Values) → IsOf op x → (outcome : ℕ) (reaches : Bool) → DoesRest t walk pa leaf (shape_with op outcome reaches) x → (a : CsrAccess) → access_in t.fixed (instr_in x) ≡ a → HasWay op (csr_ways t op) x outcome reaches
    done x is outcome reaches d (Granted register) e =
        let r = does_granted t walk pa leaf op x register outcome reaches h is e d in
        record {
          way = ends_when (granted_test t op);
          is = inr (inl refl);
          outcome_is = r.outcome_is;
          reaches_is = r.reaches_is;
          fits = record { each = r.each; holds = ap (λ (a : CsrAccess). grants t a (instr_in x) (x slots.OldCsr) (operand_in (row_of op) x)) e ∙ r.old_is };
        }
    done x is outcome reaches d Denied e =
        let r = does_trap_with t walk pa leaf op x Illegal outcome reaches is (denied_old t op x h is e) (denied_traps t op x h is e) d in
        record { way = traps_when t Illegal (denied_test t); is = inl refl; fits = record { each = r.each; holds = ap is_denied e }; outcome_is = r.outcome_is; reaches_is = r.reaches_is }
    done x is outcome reaches d NotModelled e =
        absurd (no_play t op x d.log d.change (csr_script t op x h is ∙ ap (λ (a : CsrAccess). csr_form t.fixed (word_of (instr_in x)) (instr_in x) (writes_in (instr_in x)) a (operand_of op x)) e) d.plays)

pub csrs_are_exact : CsrsAreExact
csrs_are_exact t walk pa leaf p op h = exact t walk pa leaf op (csr_ways t op) p (csr_is_ways t walk pa leaf op p.fetched h)
