-- Each register that a step asks for is one of 32.
use Rattle.std.proofs.Common.{◌≡◌, ℕ, suc, ◌<◌, ◌≤◌, Bool, true, false, Option, Some, None, refl, sym, subst, arith}
use Rattle.std.specs.Prelude.{IfSome}
use Rattle.std.proofs.lemmas.Bool.{ltb-true}
use Rattle.rv_isa.specs.declared.instruction.Instr.{Instr}
use Rattle.rv_isa.specs.declared.table.Row.{Row}
use Rattle.rv_isa.specs.Encoding.{IsInRange}
use Rattle.rv_isa.specs.Reading.{decoded}
use Rattle.rv_isa.specs.Table.{row_of}
use Rattle.rv_isa.specs.Fields.{reads_rs2}
use Rattle.rv_isa.proofs.Codec.{IfSome-in_range}
use Rattle.rv_script.specs.Labels.{Asks, Between, is_apt, label_number, question_number}
use Rattle.rv_script.specs.Logs.{is_word}
use Rattle.rv_script.specs.Script.{Label.FromRs1, Label.FromRs2, Question, Question.OfRegister, Question.OfCsr, Question.OfMemory, Question.ToMemory, place_of, Script, Script.Ask, Script.Outside, Script.Done}
use Rattle.rv_script.proofs.Results.{asks_then}
use Rattle.sv_walk.specs.declared.entry.Kind.TheVariants.{Fetch as ForFetch}
use Rattle.sv_walk.specs.Translation.{Reached, At, Fails, translated}
use Rattle.sv_walk.proofs.Plain.{Plain, translated_plain}
use Rattle.rv_hart.specs.declared.record.Change.{Change}
use Rattle.rv_hart.specs.Asked.{AsksRegisters, IsInFile}
use Rattle.rv_hart.specs.Fixed.{Fixed}
use Rattle.rv_hart.specs.Machine.{arriving, at_address, fetch_view, fetched_at, instruction, script}
use Rattle.rv_hart.specs.Rests.{ask_if, asks_rs1, in_parts, rest}
use Rattle.rv_hart.proofs.Forms.{effect_in_parts, rest_between, trap_between}

late_question : (q : Question) → is_apt q ≡ true → 5 ≤ question_number q → IsInFile q
late_question (OfRegister label n) h late = let k = ltb-true (label_number label) 5 h in absurd (omega (arith, k, late))
late_question (OfCsr label addr) h late = tt
late_question (OfMemory label addr size) h late = tt
late_question (ToMemory addr size value) h late = tt

-- behind the source registers no register is asked for
late_asks : {A : Type 0} (n m : ℕ) (s : Script A) → 5 ≤ n → Between n m s → Asks IsInFile s
late_asks n m (Ask q next) h up =
    let late : 5 ≤ question_number q = omega (arith, h, up.0) in
    (late_question q up.2 late, λ v. late_asks (suc (question_number q)) m (next v) (omega (arith, late)) (up.3 v))
late_asks n m Outside h up = tt
late_asks n m (Done a) h up = tt

word_question : (q : Question) → is_word (place_of q) ≡ true → IsInFile q
word_question (OfRegister label n) h = absurd (cc)
word_question (OfCsr label addr) h = tt
word_question (OfMemory label addr size) h = tt
word_question (ToMemory addr size value) h = tt

-- a translation asks for words alone
plain_asks : (s : Script Reached) → Plain s → Asks IsInFile s
plain_asks (Ask q next) h = (word_question q h.0, λ v. plain_asks (next v) (h.1 v))
plain_asks Outside h = tt
plain_asks (Done r) h = tt

asked_if : (b : Bool) (q : Question) (next : ℕ → Script Change) → IsInFile q → ((v : ℕ) → Asks IsInFile (next v)) → Asks IsInFile (ask_if b q next)
asked_if true q next h k = (h, k)
asked_if false q next h k = k 0

parts_asks : (row : Row) (f : Fixed) (word : ℕ) (i : Instr) → i.rs1 < 32 → i.rs2 < 32 → Asks IsInFile (in_parts row f word i)
parts_asks row f word i first second =
    asked_if (asks_rs1 row f i) (OfRegister FromRs1 i.rs1) _ first
    (λ a. asked_if (reads_rs2 row) (OfRegister FromRs2 i.rs2) _ second
    (λ b. late_asks 5 10 (rest row f word i a b) (omega arith) (rest_between row f word i a b)))

instruction_asks : (f : Fixed) (word : ℕ) (o : Option Instr) → IfSome o IsInRange → Asks IsInFile (instruction f word o)
unfolding instruction
instruction_asks f word None h = tt
instruction_asks f word (Some i) h = subst (λ (s : Script Change). Asks IsInFile s) (sym (effect_in_parts i.op f word i)) (parts_asks (row_of i.op) f word i h.rs1 h.rs2)

fetched_asks : (f : Fixed) (pa : ℕ) → Asks IsInFile (fetched_at f pa)
unfolding fetched_at
fetched_asks f pa = (tt, λ word. instruction_asks f word (decoded word) (IfSome-in_range word (decoded word) refl))

arriving_asks : (f : Fixed) (r : Reached) → Asks IsInFile (arriving f 0 f.pc (fetched_at f) r)
arriving_asks f (At pa) = fetched_asks f pa
arriving_asks f (Fails cause) = late_asks 9 10 _ (omega arith) (trap_between 9 f 0 cause f.pc (omega arith))

pub asks_registers : AsksRegisters
unfolding script at_address
asks_registers f =
    asks_then IsInFile (translated f.ram (fetch_view f) ForFetch f.pc) (arriving f 0 f.pc (fetched_at f)) (plain_asks _ (translated_plain f.ram (fetch_view f) ForFetch f.pc)) (λ r. arriving_asks f r)
