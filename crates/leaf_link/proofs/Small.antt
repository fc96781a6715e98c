-- The values of what is good are words.
use Rattle.std.proofs.Common.{◌≡◌, ℕ, if◌then◌else◌, ◌^◌, ◌<◌, ◌⊎◌, Bool, true, false, eqb, List, [], ◌∷◌, Option, Some, None, refl, sym, subst, inl, inr, arith}
use Rattle.rv_isa.specs.declared.instruction.Instr.{Instr}
use Rattle.rv_isa.specs.declared.operation.Op.{Op}
use Rattle.rv_isa.specs.Table.{row_of}
use Rattle.rv_isa.proofs.Codec.{encoded_read, fitting_in_range}
use Rattle.rv_csr.specs.declared.access.CsrAccess.{CsrAccess}
use Rattle.rv_script.specs.Lists.{HasItem}
use Rattle.rv_script.specs.Script.{Label, Label.FromRs1, Label.FromRs2, Label.FromCsr, Label.DataRoot, Label.DataSecond, Label.DataWord, Label.FromVector}
use Rattle.rv_script.specs.Folds.{Known, Entry}
use Rattle.rv_hart.specs.Fixed.{Fixed}
use Rattle.rv_hart.specs.Machine.{script}
use Rattle.rv_hart.specs.Privileged.{reads_csr}
use Rattle.tpl_ast.specs.declared.template.Atom.{Atom}
use Rattle.fd_prob.specs.declared.slot.Slot.{Slot}
use Rattle.fd_prob.specs.declared.slot.Slot.TheVariants as slots
use Rattle.rv_script.specs.Labels.{label_number, question_number}
use Rattle.rv_script.specs.Logs.{entry_place, by_answers, if_new, labelled, new_value, or_given, value_in}
use Rattle.leaf_link.specs.Turns.{Turn}
use Rattle.rv_isa.specs.Fields.{has_address}
use Rattle.leaf_link.specs.Values.{Values, fixed_value, given_by, has_csr_operand, instr_in, old_csr, unasked_csr}
use Rattle.rv_isa.specs.Numbers.{op_number}
use Rattle.leaf_link.specs.Ways.{AreWords}
use Rattle.rv_script.proofs.Plays.{told}
use Rattle.leaf_link.proofs.Links.{Good}
use Rattle.leaf_link.proofs.Both.{each_slot}
use Rattle.leaf_link.proofs.Back.{address_small, told_small}

pub label_has : (log : List Entry) (l : Label) (e : Entry) → labelled log l ≡ Some e → HasItem log e
label_has [] l e h = absurd (cc)
label_has (d ∷ log) l e h = go (eqb (question_number d.question) (label_number l)) h (label_has log l e)
  where
    go : (b : Bool) → (if b then Some d else labelled log l) ≡ Some e → (labelled log l ≡ Some e → HasItem log e) → HasItem (d ∷ log) e
    go true h rec = inl (let z : d ≡ e = cc in z)
    go false h rec = inr (rec h)

given_known : (o : Option ℕ) (w v : ℕ) → or_given o w ≡ Some v → (o ≡ Some v) ⊎ (o ≡ None)
given_known (Some u) w v h = inl h
given_known None w v h = inr refl

abbrev pub AllSmall : List Entry → Type 0
AllSmall log = (e : Entry) → HasItem log e → e.value < 2 ^ 32

zero_small : (v : ℕ) → v ≡ 0 → v < 2 ^ 32
zero_small v h = subst (λ (n : ℕ). n < 2 ^ 32) (sym h) (omega arith)

label_small : (log : List Entry) (l : Label) → AllSmall log → value_in (labelled log l) < 2 ^ 32
label_small log l h = go (labelled log l) refl
  where
    go : (o : Option Entry) → labelled log l ≡ o → value_in o < 2 ^ 32
    go None e = omega arith
    go (Some d) e = h d (label_has log l d e)

-- a new value is a word, where what is new is
pub new_small : (k : Known) (log : List Entry) (l : Label) → ((e : Entry) → HasItem log e → k (entry_place e) ≡ None → e.value < 2 ^ 32) → new_value k (labelled log l) < 2 ^ 32
new_small k log l h = go (labelled log l) refl
  where
    pick : (o : Option ℕ) (v : ℕ) → (o ≡ None → v < 2 ^ 32) → if_new o v < 2 ^ 32
    pick (Some w) v s = omega arith
    pick None v s = s refl

    go : (o : Option Entry) → labelled log l ≡ o → new_value k o < 2 ^ 32
    go None e = omega arith
    go (Some d) e = pick (k (entry_place d)) d.value (h d (label_has log l d e))

if_small : (b : Bool) (m n : ℕ) → m < 2 ^ 32 → n < 2 ^ 32 → (if b then m else n) < 2 ^ 32
if_small true m n h k = h
if_small false m n h k = k

old_small : (f : Fixed) (i : Instr) (log : List Entry) → AllSmall log → ((access : CsrAccess) → fixed_value f access < 2 ^ 32) → old_csr f i (labelled log FromCsr) < 2 ^ 32
old_small f i log h fixed = go (labelled log FromCsr) refl
  where
    none : unasked_csr f i < 2 ^ 32
    none = if_small (has_csr_operand (row_of i.op)) _ 0 (if_small (reads_csr i) _ 0 (fixed _) (omega arith)) (omega arith)

    go : (o : Option Entry) → labelled log FromCsr ≡ o → old_csr f i o < 2 ^ 32
    go None e = none
    go (Some d) e = h d (label_has log FromCsr d e)

pub good_small : (t : Turn) (leaf : List Atom) (x : Values) → AreWords t.known → ((access : CsrAccess) → fixed_value t.fixed access < 2 ^ 32) → ((op : Op) → op_number op < 58) → Good t leaf x → (s : Slot) → x s < 2 ^ 32
good_small t leaf x words fixed numbers g =
    let i : Instr = instr_in x in
    let range = fitting_in_range i (encoded_read g.meets.fetched.0.value i g.meets.fetched.2).fits in
    let all : AllSmall g.log = λ e j. told_small t i e words (g.meets.may e j) (given_known (t.known (entry_place e)) _ e.value (told (script t.fixed) (by_answers t.known (given_by x)) g.log g.change g.plays e j)) in
    let by : (s : Slot) (v : ℕ) → x s ≡ v → v < 2 ^ 32 → x s < 2 ^ 32 = λ s v e h. subst (λ (n : ℕ). n < 2 ^ 32) (sym e) h in
    let number = numbers i.op in
    let rd = range.rd in
    let rs1 = range.rs1 in
    let rs2 = range.rs2 in
    let csr = range.csr in
    each_slot (λ s. x s < 2 ^ 32) (record {
      op_slot = by slots.Op (op_number i.op) (g.is slots.Op) (omega (arith, number));
      rs1_slot = omega (arith, rs1);
      rs2_slot = omega (arith, rs2);
      imm_slot = range.imm;
      rd_slot = omega (arith, rd);
      csr_slot = omega (arith, csr);
      ea_slot = address_small (has_address (row_of i.op)) (value_in (labelled g.log FromRs1)) (x slots.Imm) (x slots.Ea) (g.is slots.Ea);
      a_slot = by slots.A _ (g.is slots.A) (label_small g.log FromRs1 all);
      b_slot = by slots.B _ (g.is slots.B) (label_small g.log FromRs2 all);
      first_slot = by slots.FirstPte _ (g.is slots.FirstPte) (new_small t.known g.log DataRoot (λ e j n. all e j));
      second_slot = by slots.SecondPte _ (g.is slots.SecondPte) (new_small t.known g.log DataSecond (λ e j n. all e j));
      data_slot = by slots.DataWord _ (g.is slots.DataWord) (new_small t.known g.log DataWord (λ e j n. all e j));
      old_slot = by slots.OldCsr _ (g.is slots.OldCsr) (old_small t.fixed i g.log all fixed);
      vector_slot = by slots.Vector _ (g.is slots.Vector) (new_small t.known g.log FromVector (λ e j n. all e j));
    })
