-- The log of a candidate in parts, and the places that it starts.
use Rattle.std.proofs.Common.{◌≡◌, ℕ, if◌then◌else◌, ◌%◌, arith, Bool, true, false, List, [], ◌∷◌, Option, Some, None, refl, sym, ap, ◌∙◌, subst, inl, inr}
use Rattle.rv_isa.specs.declared.instruction.Instr.{Instr}
use Rattle.rv_isa.specs.declared.table.Row.{Row}
use Rattle.rv_isa.specs.declared.table.Row.TheVariants.{R, I, Shift, S, B, U, J, Csr as CsrRow, CsrImmediate, FenceSets, AddressFence, Fixed as Whole, DefinedIllegal}
use Rattle.rv_isa.specs.Encoding.{Fits}
use Rattle.rv_isa.specs.Fields.{reads_rs2}
use Rattle.rv_isa.proofs.Codec.{encoded_read}
use Rattle.rv_isa.proofs.Numbers.{small}
use Rattle.rv_script.specs.declared.place.Place.{Place}
use Rattle.rv_script.specs.declared.place.Place.TheVariants.{Reg, Csr, Word}
use Rattle.rv_script.specs.Bytes.{word_address}
use Rattle.rv_script.specs.Labels.{Asks}
use Rattle.rv_script.specs.Lists.{HasItem}
use Rattle.rv_script.specs.Logs.{by_answers, entry_place, found, or_given, same_place, started, value_or, where_unknown, answer_told}
use Rattle.rv_script.specs.Script.{Question, Question.OfRegister, Question.OfCsr, Question.OfMemory, Question.ToMemory, told as told_of, Script, Script.Ask, Script.Outside, Script.Done}
use Rattle.rv_script.specs.Folds.{Entry, Known, Teller, Answer.Does}
use Rattle.rv_script.proofs.Plays.{first_asked, same_is, told}
use Rattle.rv_hart.specs.Fixed.{Fixed}
use Rattle.rv_hart.specs.Machine.{script}
use Rattle.rv_hart.specs.Rests.{asks_rs1}
use Rattle.tpl_ast.specs.declared.template.Atom.{Atom}
use Rattle.fd_prob.specs.declared.slot.Slot.TheVariants as slots
use Rattle.leaf_link.specs.Turns.{Turn}
use Rattle.leaf_link.specs.Values.{Values, given_by, instr_in}
use Rattle.leaf_link.specs.Candidates.{IsCandidate}
use Rattle.leaf_link.specs.Ways.{IsFetched}
use Rattle.leaf_link.specs.Problems.{key_of}
use Rattle.leaf_link.specs.Placing.{ValuesAreInstructions}
use Rattle.leaf_link.proofs.Links.{Good, candidate_good, instr_assigned}
use Rattle.leaf_link.proofs.Front.{front_back, front_log, rest_of, settled, told_a, told_b}
use Rattle.leaf_link.proofs.Law.{is_later}
use Rattle.leaf_link.proofs.Back.{good_reads, told_source}

-- ENTRIES
pub asked_by : {A : Type 0} (P : Question → Type 0) (s : Script A) (t : Teller) (log : List Entry) (a : A) → Asks P s → answer_told t s ≡ Does log a → (e : Entry) → HasItem log e → P e.question
asked_by P (Ask q next) t log a up h e i =
    let d = first_asked q next t log a h in
    elim (subst (λ (z : List Entry). HasItem z e) d.4 i) [
      | inl here ↦ subst (λ (z : Entry). P z.question) here up.0
      | inr there ↦ asked_by P (next (told_of q d.0)) t d.1 a (up.1 (told_of q d.0)) d.3 e there
    ]
asked_by P Outside t log a up h e i = absurd (cc)
asked_by P (Done b) t log a up h e i = go log h i
  where
    go : (l : List Entry) → Does [] b ≡ Does l a → HasItem l e → P e.question
    go [] h i = absurd i
    go (f ∷ l) h i = absurd (cc)

-- what is found of a place stands in the log
pub record HasFound (log : List Entry) (place : Place) (v : ℕ) : Type 0 where
  pub entry : Entry
  pub among : HasItem log entry
  pub at : entry_place entry ≡ place
  pub is : entry.value ≡ v

pub found_in : (log : List Entry) (place : Place) (v : ℕ) → found log place ≡ Some v → HasFound log place v
found_in [] place v h = absurd (cc)
found_in (e ∷ log) place v h = go (same_place (entry_place e) place) refl h (found_in log place v)
  where
    go : (b : Bool) → same_place (entry_place e) place ≡ b → (if b then Some e.value else found log place) ≡ Some v → (found log place ≡ Some v → HasFound log place v) → HasFound (e ∷ log) place v
    go true same h rec = record { entry = e; among = inl refl; at = same_is (entry_place e) place same; is = cc }
    go false other h rec = let r = rec h in record { entry = r.entry; among = inr r.among; at = r.at; is = r.is }

pub new_found : (known new : Known) (log : List Entry) (place : Place) (v : ℕ) → new place ≡ started known log place → new place ≡ Some v → (known place ≡ None) × (found log place ≡ Some v)
new_found known new log place v is h = go (known place) refl (sym is ∙ h)
  where
    go : (o : Option ℕ) → known place ≡ o → where_unknown o (found log place) ≡ Some v → (known place ≡ None) × (found log place ≡ Some v)
    go (Some u) e h = absurd (cc)
    go None e h = (e, h)

-- the answer to a question whose place was not known is that of the values
pub given_here : (o : Option ℕ) (g v : ℕ) → o ≡ None → or_given o g ≡ Some v → v ≡ g
given_here (Some u) g v none h = absurd (cc)
given_here None g v none h = cc

-- rs2 is read where rs1 is asked for
pub both_asked : (row : Row) (f : Fixed) (i : Instr) → reads_rs2 row ≡ true → asks_rs1 row f i ≡ true
both_asked (R opcode funct3 funct7) f i h = refl
both_asked (I opcode funct3) f i h = refl
both_asked (Shift opcode funct3 funct7) f i h = refl
both_asked (S opcode funct3) f i h = refl
both_asked (B opcode funct3) f i h = refl
both_asked (CsrRow opcode funct3) f i h = absurd (cc)
both_asked (U opcode) f i h = absurd (cc)
both_asked (J opcode) f i h = absurd (cc)
both_asked (CsrImmediate opcode funct3) f i h = absurd (cc)
both_asked (FenceSets opcode funct3) f i h = absurd (cc)
both_asked (AddressFence opcode funct3 funct7) f i h = absurd (cc)
both_asked (Whole bits) f i h = absurd (cc)
both_asked DefinedIllegal f i h = absurd (cc)

-- WORDS
-- the address of what a label asks of memory
abbrev pub address_in : Question → ℕ
address_in (OfMemory label addr size) = addr
address_in (OfRegister label n) = 0
address_in (OfCsr label addr) = 0
address_in (ToMemory addr size value) = addr

abbrev pub address_of : Option Entry → ℕ
address_of None = 0
address_of (Some e) = address_in e.question

pub same_word : {n m : ℕ} → Word n ≡ Word m → n ≡ m
same_word {n} {m} h = ap (λ (q : Place). elim q [ Word a ↦ a | Reg r ↦ n | Csr c ↦ n ]) h

pub word_aligned : (n : ℕ) → word_address n % 4 ≡ 0
word_aligned n = omega arith

-- THE LOG OF A CANDIDATE, IN PARTS
pub record InParts (t : Turn) (walk : List Entry) (pa : ℕ) (leaf : List Atom) (new : Known) (w : IsCandidate t leaf new) : Type 0 where
  pub tells : (e : Entry) → HasItem w.log e → by_answers t.known (given_by (key_of t leaf new w)) e.question ≡ Some e.value
  pub agree : (e f : Entry) → HasItem w.log e → HasItem w.log f → t.known (entry_place e) ≡ None → entry_place e ≡ entry_place f → e.value ≡ f.value
  pub rest : List Entry
  pub plays : answer_told (by_answers t.known (given_by (key_of t leaf new w))) (rest_of t w.instr.op (key_of t leaf new w) (told_a t w.instr.op (key_of t leaf new w)) (told_b t w.instr.op (key_of t leaf new w))) ≡ Does rest w.change
  pub log : w.log ≡ front_log t walk pa w.instr.op (key_of t leaf new w) rest
  pub source : told_a t w.instr.op (key_of t leaf new w) ≡ key_of t leaf new w slots.A

pub in_parts_of : (t : Turn) (walk : List Entry) (pa : ℕ) (leaf : List Atom) (new : Known) → IsFetched t walk pa → (w : IsCandidate t leaf new) → InParts t walk pa leaf new w
unfolding candidate_good
in_parts_of t walk pa leaf new f w =
    let x : Values = key_of t leaf new w in
    let g : Good t leaf x = candidate_good t leaf new w (settled t walk pa f) in
    let op_is : (instr_in x).op ≡ w.instr.op = ap (λ (i : Instr). i.op) (instr_assigned t.fixed t.known w.log w.instr) in
    let back = front_back t walk pa w.instr.op x w.log w.change f op_is (good_reads t walk pa leaf x f g) g.plays in
    record {
      tells = told (script t.fixed) (by_answers t.known (given_by x)) w.log w.change g.plays;
      agree = g.agree;
      rest = back.0;
      plays = back.1;
      log = back.2;
      source = told_source t walk pa leaf w.instr.op x f g back.0 (is_later t w.instr.op x (told_a t w.instr.op x) (told_b t w.instr.op x) (by_answers t.known (given_by x)) back.0 w.change back.1) back.2;
    }

pub unknown_value : (o : Option ℕ) (v : ℕ) → o ≡ None → value_or o v ≡ v
unknown_value (Some u) v h = absurd (cc)
unknown_value None v h = refl

pub values_are_instructions : ValuesAreInstructions
values_are_instructions t leaf new w =
    let same : instr_in (key_of t leaf new w) ≡ w.instr = instr_assigned t.fixed t.known w.log w.instr in
    let fetched = w.is.meets.fetched in
    let fits : Fits w.instr = (encoded_read fetched.0.value w.instr fetched.2).fits in
    (record { number = small w.instr.op; fits = subst Fits (sym same) fits }, same)
