-- CSR instructions do what reads and writes of registers do.
use Rattle.std.proofs.Common.{◌≡◌, ℕ, Bool, true, false, not, ◌&&◌, ◌||◌, List, Option, Some, None, if◌then◌else◌, refl, sym, ap, ◌∙◌, subst}
use Rattle.rv_isa.specs.declared.instruction.Instr.{Instr}
use Rattle.rv_isa.specs.declared.operation.Op.{Op}
use Rattle.rv_isa.specs.declared.operation.Op.TheVariants.{Csrrw, Csrrwi}
use Rattle.rv_csr.specs.declared.access.CsrAccess.{CsrAccess}
use Rattle.rv_csr.specs.declared.access.CsrAccess.TheVariants.{Granted, Denied, Outside as NotModelled}
use Rattle.rv_csr.specs.declared.access.Wrote.TheVariants.{Done as Written, Outside as WriteOutside}
use Rattle.rv_csr.specs.declared.table.Register.{Register}
use Rattle.rv_csr.specs.declared.table.Register.TheVariants.{Sstatus, Satp, Mstatus, Medeleg, Mhartid, Lazy}
use Rattle.rv_csr.specs.Access.{access_to, got, is_denied, is_read_only, read_by, write_by}
use Rattle.rv_csr.specs.State.{CsrValues, value_of, with_value}
use Rattle.rv_csr.specs.Table.{is_legal, register_at}
use Rattle.rv_script.specs.Folds.{Sight, result_of}
use Rattle.rv_script.specs.Script.{Script, Script.Done, Script.Outside, ◌>>=◌}
use Rattle.rv_hart.specs.declared.record.Change.{Change}
use Rattle.rv_hart.specs.declared.record.Control.TheVariants.{Write}
use Rattle.rv_hart.specs.CsrRows.{AreSeen, CsrRowsAgree, EndsByRead, EndsByWrite, csrs_with, value_read}
use Rattle.rv_hart.specs.Fixed.{Fixed}
use Rattle.rv_hart.specs.Privileged.{csr_accessed, csr_exchanged, csr_granted, csr_result, following, is_swap, old_value, rd_told, reads_csr, went, write_csr}

-- the old value is what is seen of it
old_seen : (f : Fixed) (see : Sight) (lazy : List (Option ℕ)) → AreSeen see (csrs_with f lazy) → (register : Register) (next : ℕ → Script Change)
    → result_of (old_value f register >>= next) see ≡ result_of (next (value_read (got (value_of (csrs_with f lazy) register)))) see
old_seen f see lazy seen Sstatus next = refl
old_seen f see lazy seen Satp next = refl
old_seen f see lazy seen Mstatus next = refl
old_seen f see lazy seen Medeleg next = refl
old_seen f see lazy seen Mhartid next = refl
old_seen f see lazy seen (Lazy r) next = sym (ap (λ (o : Option ℕ). result_of (next (value_read (got o))) see) (seen r))

-- an instruction that reads, where its first question is the old value
reading : (f : Fixed) (see : Sight) (word : ℕ) (i : Instr) (writes : Bool) (register : Register) (operand : ℕ) → reads_csr i ≡ true
    → result_of (csr_granted f word i writes register operand) see ≡ result_of (old_value f register >>= csr_exchanged f word i writes register operand) see
unfolding csr_granted
reading f see word i writes register operand reads =
    ap (λ (b : Bool). result_of (if b then old_value f register >>= csr_exchanged f word i writes register operand else write_csr f word None register operand) see) reads

writing : (f : Fixed) (see : Sight) (word : ℕ) (i : Instr) (writes : Bool) (register : Register) (operand : ℕ) → reads_csr i ≡ false
    → result_of (csr_granted f word i writes register operand) see ≡ result_of (write_csr f word None register operand) see
unfolding csr_granted
writing f see word i writes register operand reads =
    ap (λ (b : Bool). result_of (if b then old_value f register >>= csr_exchanged f word i writes register operand else write_csr f word None register operand) see) reads

-- ---- reads

granted_read : (f : Fixed) (see : Sight) (lazy : List (Option ℕ)) (word : ℕ) (i : Instr) (operand : ℕ) → AreSeen see (csrs_with f lazy) → reads_csr i ≡ true
    → (register : Register) → EndsByRead f word i see (got (value_of (csrs_with f lazy) register)) (result_of (csr_granted f word i false register operand) see)
granted_read f see lazy word i operand seen reads Sstatus = reading f see word i false Sstatus operand reads
granted_read f see lazy word i operand seen reads Satp = reading f see word i false Satp operand reads
granted_read f see lazy word i operand seen reads Mstatus = reading f see word i false Mstatus operand reads
granted_read f see lazy word i operand seen reads Medeleg = reading f see word i false Medeleg operand reads
granted_read f see lazy word i operand seen reads Mhartid = reading f see word i false Mhartid operand reads
granted_read f see lazy word i operand seen reads (Lazy r) =
    subst (λ (o : Option ℕ). EndsByRead f word i see (got o) (result_of (csr_granted f word i false (Lazy r) operand) see)) (sym (seen r)) (reading f see word i false (Lazy r) operand reads)

read_ends : (f : Fixed) (see : Sight) (lazy : List (Option ℕ)) (word : ℕ) (i : Instr) (operand : ℕ) → AreSeen see (csrs_with f lazy) → reads_csr i ≡ true
    → (a : CsrAccess) → EndsByRead f word i see (read_by a (csrs_with f lazy)) (result_of (csr_accessed f word i false a (Done operand)) see)
read_ends f see lazy word i operand seen reads NotModelled = refl
read_ends f see lazy word i operand seen reads Denied = refl
read_ends f see lazy word i operand seen reads (Granted register) = granted_read f see lazy word i operand seen reads register

-- ---- writes

-- CSRRW and CSRRWI write their operand, whatever the old value is
swapped : (op : Op) (old operand : ℕ) → is_swap op ≡ true → csr_result op old operand ≡ operand
swapped Csrrw old operand swap = refl
swapped Csrrwi old operand swap = refl
swapped _ old operand swap = absurd (cc swap)

swaps : (i : Instr) → reads_csr i ≡ false → is_swap i.op ≡ true
swaps i reads = both (is_swap i.op) _ reads where
  both : (a b : Bool) → not (a && b) ≡ false → a ≡ true
  both true b h = refl
  both false b h = absurd (cc h)

-- a write ends as its answer says, where rd is told so
written_end : (f : Fixed) (see : Sight) (csrs : CsrValues) (word : ℕ) (i : Instr) (old : ℕ) (register : Register) (value : ℕ) (rd : Option (ℕ × ℕ)) → rd ≡ (if reads_csr i then rd_told i.rd old else None)
    → (legal : Bool)
    → EndsByWrite f word i see csrs old (if legal then (Written, with_value register value csrs) else (WriteOutside, csrs))
    (result_of (if legal then Done (went word rd (Write register value) (following f.pc)) else Outside) see)
written_end f see csrs word i old register value rd told true = (went word rd (Write register value) (following f.pc), refl, refl, refl, told, refl)
written_end f see csrs word i old register value rd told false = refl

granted_write : (f : Fixed) (see : Sight) (lazy : List (Option ℕ)) (word : ℕ) (i : Instr) (operand : ℕ) → AreSeen see (csrs_with f lazy) → (register : Register) (reads : Bool) → reads_csr i ≡ reads
    → EndsByWrite f word i see (csrs_with f lazy) (value_read (got (value_of (csrs_with f lazy) register)))
    (write_by (Granted register) (csr_result i.op (value_read (got (value_of (csrs_with f lazy) register))) operand) (csrs_with f lazy))
    (result_of (csr_granted f word i true register operand) see)
granted_write f see lazy word i operand seen register true reads =
    let csrs = csrs_with f lazy in
    let old : ℕ = value_read (got (value_of csrs register)) in
    let value : ℕ = csr_result i.op old operand in
    let end : result_of (csr_granted f word i true register operand) see ≡ result_of (write_csr f word (rd_told i.rd old) register value) see =
    reading f see word i true register operand reads ∙ old_seen f see lazy seen register (csr_exchanged f word i true register operand) in
    subst (λ (o : Option Change). EndsByWrite f word i see csrs old (write_by (Granted register) value csrs) o) (sym end)
    (written_end f see csrs word i old register value (rd_told i.rd old) (sym (ap (λ (b : Bool). let r : Option (ℕ × ℕ) = if b then rd_told i.rd old else None in r) reads)) (is_legal register value))
granted_write f see lazy word i operand seen register false reads =
    let csrs = csrs_with f lazy in
    let old : ℕ = value_read (got (value_of csrs register)) in
    let same : csr_result i.op old operand ≡ operand = swapped i.op old operand (swaps i reads) in
    let by_operand : EndsByWrite f word i see csrs old (write_by (Granted register) operand csrs) (result_of (csr_granted f word i true register operand) see) =
    subst (λ (o : Option Change). EndsByWrite f word i see csrs old (write_by (Granted register) operand csrs) o) (sym (writing f see word i true register operand reads))
    (written_end f see csrs word i old register operand None (sym (ap (λ (b : Bool). let r : Option (ℕ × ℕ) = if b then rd_told i.rd old else None in r) reads)) (is_legal register operand)) in
    subst (λ (n : ℕ). EndsByWrite f word i see csrs old (write_by (Granted register) n csrs) (result_of (csr_granted f word i true register operand) see)) (sym same) by_operand

-- where a read or a write is refused, the other values don't matter
by_denial : (f : Fixed) (see : Sight) (lazy : List (Option ℕ)) (word : ℕ) (i : Instr) (operand : ℕ) → AreSeen see (csrs_with f lazy) → (register : Register) (denied read_only : Bool)
    → EndsByWrite f word i see (csrs_with f lazy) (value_read (read_by (if denied || (false && read_only) then Denied else Granted register) (csrs_with f lazy)))
    (write_by (if denied || (true && read_only) then Denied else Granted register)
    (csr_result i.op (value_read (read_by (if denied || (false && read_only) then Denied else Granted register) (csrs_with f lazy))) operand) (csrs_with f lazy))
    (result_of (csr_accessed f word i true (if denied || (true && read_only) then Denied else Granted register) (Done operand)) see)
by_denial f see lazy word i operand seen register true read_only = refl
by_denial f see lazy word i operand seen register false true = refl
by_denial f see lazy word i operand seen register false false = granted_write f see lazy word i operand seen register (reads_csr i) refl

write_ends : (f : Fixed) (see : Sight) (lazy : List (Option ℕ)) (word : ℕ) (i : Instr) (operand : ℕ) → AreSeen see (csrs_with f lazy) → (o : Option Register)
    → EndsByWrite f word i see (csrs_with f lazy) (value_read (read_by (access_to f.mstatus f.privilege false o) (csrs_with f lazy)))
    (write_by (access_to f.mstatus f.privilege true o) (csr_result i.op (value_read (read_by (access_to f.mstatus f.privilege false o) (csrs_with f lazy))) operand) (csrs_with f lazy))
    (result_of (csr_accessed f word i true (access_to f.mstatus f.privilege true o) (Done operand)) see)
write_ends f see lazy word i operand seen None = refl
write_ends f see lazy word i operand seen (Some register) = by_denial f see lazy word i operand seen register (is_denied f.mstatus register f.privilege) (is_read_only register)

pub csr_rows_agree : CsrRowsAgree
csr_rows_agree = record {
  read = λ f see lazy word i operand seen reads. read_ends f see lazy word i operand seen reads (access_to f.mstatus f.privilege false (register_at i.csr));
  write = λ f see lazy word i operand seen. write_ends f see lazy word i operand seen (register_at i.csr);
}
