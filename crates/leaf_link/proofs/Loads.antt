-- The law of loads.
use Rattle.std.proofs.Common.{◌≡◌, ℕ, if◌then◌else◌, ◌+◌, ◌%◌, ◌^◌, ◌<◌, Bool, true, false, eqb, List, [], ◌∷◌, ◌++◌, refl, sym, ap, ◌∙◌, subst, inl, inr, arith}
use Rattle.std.proofs.lemmas.Bool.{eqb-true}
use Rattle.rv_isa.specs.declared.instruction.Instr.{Instr}
use Rattle.rv_isa.specs.declared.operation.Op.{Op}
use Rattle.rv_isa.specs.declared.table.Row.{Row}
use Rattle.rv_isa.specs.declared.table.Row.TheVariants.{R, I, Shift, S, B, U, J, Csr as CsrRow, CsrImmediate, FenceSets, AddressFence, Fixed as Whole, DefinedIllegal}
use Rattle.rv_isa.specs.Encoding.{word_of}
use Rattle.rv_isa.specs.Fields.{is_load, has_address}
use Rattle.rv_isa.specs.Table.{row_of}
use Rattle.rv_csr.specs.declared.cause.Cause.TheVariants.{LoadMisaligned}
use Rattle.rv_script.specs.Script.{Script}
use Rattle.rv_script.specs.Folds.{Entry}
use Rattle.rv_script.proofs.Items.{has_either}
use Rattle.sv_walk.specs.declared.entry.Kind.TheVariants.{Load as ForLoad}
use Rattle.rv_hart.specs.declared.record.Change.{Change}
use Rattle.rv_hart.specs.Fixed.{Fixed}
use Rattle.rv_hart.specs.Machine.{at_address, data_view, load_at, load_from, loaded, size_of}
use Rattle.rv_hart.specs.Privileged.{rd_told, retired, trap}
use Rattle.fd_prob.specs.declared.slot.Slot.TheVariants as slots
use Rattle.leaf_link.specs.Turns.{Turn}
use Rattle.leaf_link.specs.Values.{Values, address_if, has_csr_operand, instr_in}
use Rattle.leaf_link.specs.Ways.{HasAddress, IsFetched, IsOf}
use Rattle.rv_hart.specs.Rests.{rest}
use Rattle.leaf_link.specs.Reaching.{LoadsAreExact, load_question, load_ways}
use Rattle.leaf_link.proofs.Accessing.{IsData, data_is_ways}
use Rattle.leaf_link.proofs.Reaching.{data_script, early_write, walk_numbers}
use Rattle.leaf_link.proofs.Resting.{in_one, is_write, quiet_apart}
use Rattle.leaf_link.proofs.Front.{rest_of}
use Rattle.leaf_link.proofs.Operations.{all_asked, exact, if_no, if_yes}

pub load_rest : (row : Row) → is_load row ≡ true → (f : Fixed) (word : ℕ) (i : Instr) (a b : ℕ) → rest row f word i a b ≡ load_from f word i ((a + i.imm) % 2 ^ 32)
load_rest (I opcode funct3) h f word i a b = subst (λ (n : ℕ). rest (I n funct3) f word i a b ≡ load_from f word i ((a + i.imm) % 2 ^ 32)) (sym (eqb-true opcode 0x03 h)) refl
load_rest (R opcode funct3 funct7) h f word i a b = absurd (cc)
load_rest (Shift opcode funct3 funct7) h f word i a b = absurd (cc)
load_rest (S opcode funct3) h f word i a b = absurd (cc)
load_rest (B opcode funct3) h f word i a b = absurd (cc)
load_rest (U opcode) h f word i a b = absurd (cc)
load_rest (J opcode) h f word i a b = absurd (cc)
load_rest (CsrRow opcode funct3) h f word i a b = absurd (cc)
load_rest (CsrImmediate opcode funct3) h f word i a b = absurd (cc)
load_rest (FenceSets opcode funct3) h f word i a b = absurd (cc)
load_rest (AddressFence opcode funct3 funct7) h f word i a b = absurd (cc)
load_rest (Whole bits) h f word i a b = absurd (cc)
load_rest DefinedIllegal h f word i a b = absurd (cc)

load_has : (row : Row) → is_load row ≡ true → (has_address row ≡ true) × (has_csr_operand row ≡ false)
load_has (I opcode funct3) h = (ap (λ (b : Bool). Rattle.std.specs.Prelude.◌||◌ b false) h, refl)
load_has (R opcode funct3 funct7) h = absurd (cc)
load_has (Shift opcode funct3 funct7) h = absurd (cc)
load_has (S opcode funct3) h = absurd (cc)
load_has (B opcode funct3) h = absurd (cc)
load_has (U opcode) h = absurd (cc)
load_has (J opcode) h = absurd (cc)
load_has (CsrRow opcode funct3) h = absurd (cc)
load_has (CsrImmediate opcode funct3) h = absurd (cc)
load_has (FenceSets opcode funct3) h = absurd (cc)
load_has (AddressFence opcode funct3 funct7) h = absurd (cc)
load_has (Whole bits) h = absurd (cc)
load_has DefinedIllegal h = absurd (cc)

address_of : (op : Op) (x : Values) → is_load (row_of op) ≡ true → HasAddress op x → x slots.Ea ≡ (x slots.A + x slots.Imm) % 2 ^ 32
address_of op x h ea = ea ∙ ap (λ (b : Bool). address_if b (x slots.A) (x slots.Imm)) (load_has (row_of op) h).0

-- the script of a load, with the address in the open
load_script : (t : Turn) (op : Op) (x : Values) → is_load (row_of op) ≡ true → IsOf op x → HasAddress op x
    → rest_of t op x (x slots.A) (x slots.B) ≡ (if eqb (x slots.Ea % size_of op) 0 then at_address t.fixed (word_of (instr_in x)) (data_view t.fixed) ForLoad (x slots.Ea) (load_at t.fixed (word_of (instr_in x)) (instr_in x)) else trap t.fixed (word_of (instr_in x)) LoadMisaligned (x slots.Ea))
load_script t op x h is ea =
    let w : ℕ = word_of (instr_in x) in
    load_rest (row_of op) h t.fixed w (instr_in x) (x slots.A) (x slots.B)
    ∙ ap (λ (n : ℕ). load_from t.fixed w (instr_in x) n) (sym (address_of op x h ea))
    ∙ ap (λ (o : Op). if eqb (x slots.Ea % size_of o) 0 then at_address t.fixed w (data_view t.fixed) ForLoad (x slots.Ea) (load_at t.fixed w (instr_in x)) else trap t.fixed w LoadMisaligned (x slots.Ea)) is.op_is

abbrev pub load_change : Turn → Values → ℕ → ℕ → Change
load_change t x p v = retired t.fixed.pc (word_of (instr_in x)) (rd_told (x slots.Rd) (loaded (instr_in x).op v))

pub load_is_data : (t : Turn) (walk : List Entry) (pa : ℕ) (op : Op) → IsFetched t walk pa → is_load (row_of op) ≡ true → IsData t walk pa op ForLoad LoadMisaligned (load_question op) (λ x p. true)
unfolding at_address load_at
load_is_data t walk pa op f h = record {
  labels = record { root = refl; second = refl };
  change = load_change t;
  reached = λ x is ea al. load_script t op x h is ea ∙ if_yes (eqb (x slots.Ea % size_of op) 0) _ _ al
      ∙ ap (λ (o : Op). Rattle.rv_script.specs.Script.◌>>=◌ (data_script t ForLoad x) (Rattle.rv_hart.specs.Machine.arriving t.fixed (word_of (instr_in x)) (x slots.Ea) (λ p. Rattle.rv_script.specs.Script.Script.Ask (Rattle.rv_script.specs.Script.Question.OfMemory Rattle.rv_script.specs.Script.Label.DataWord p (size_of o)) (λ v. Rattle.rv_script.specs.Script.Script.Done (load_change t x p v))))) is.op_is;
  misses = λ x is ea al. load_script t op x h is ea ∙ if_no (eqb (x slots.Ea % size_of op) 0) _ _ al;
  small = λ x ea. subst (λ (n : ℕ). n < 2 ^ 32) (sym (address_of op x h ea)) (omega arith);
  word = λ x p v. refl;
  outcome = λ x p v. refl;
  label = λ x p. refl;
  place = λ x p. refl;
  free = λ x p v. refl;
  access = λ x p v. (_, refl, refl, refl);
  addressed = (load_has (row_of op) h).0;
  no_operand = (load_has (row_of op) h).1;
  asks = all_asked t op (load_has (row_of op) h).1;
  cause = refl;
  apart_does = λ x p v log al plays ok. quiet_apart t walk pa (word_of (instr_in x)) (log ++ _ ∷ []) f (λ g i. elim (has_either log (_ ∷ []) g i) [
    | inl j ↦ early_write g.question (walk_numbers t ForLoad x _ log _ (record { root = refl; second = refl }) plays g j).1
    | inr j ↦ subst (λ (z : Entry). is_write z.question ≡ false) (in_one _ g j) refl
  ]);
  apart_fits = λ x p v log al plays ok. refl;
}

pub loads_are_exact : LoadsAreExact
loads_are_exact t walk pa leaf pages rows p has_pages are op h =
    exact t walk pa leaf op (load_ways t pa leaf op rows) p (data_is_ways t walk pa leaf op ForLoad LoadMisaligned (load_question op) (λ x p. true) p.fetched (load_is_data t walk pa op p.fetched h) pages rows has_pages are)
