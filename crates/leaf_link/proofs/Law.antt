-- The law of an operation, whatever its ways are.
use Rattle.std.proofs.Common.{◌≡◌, ℕ, if◌then◌else◌, ◌+◌, ◌%◌, ◌^◌, ◌<◌, ◌≤◌, ◌&&◌, ◌==◌, not, Bool, true, false, eqb, List, [], ◌∷◌, ◌++◌, Option, Some, None, refl, sym, ap, ◌∙◌, subst, inl, inr, arith}
use Rattle.std.proofs.lemmas.Bool.{eq-eqb, eqb-true, cases_Bool, ne_eqb, and_parts}
use Rattle.rv_isa.specs.declared.instruction.Instr.{Instr}
use Rattle.rv_isa.specs.declared.operation.Op.{Op}
use Rattle.rv_isa.specs.declared.table.Row.{Row}
use Rattle.rv_isa.specs.declared.table.Row.TheVariants.{R, I, Shift, S, B, U, J, Csr as CsrRow, CsrImmediate, FenceSets, AddressFence, Fixed as Whole, DefinedIllegal}
use Rattle.rv_isa.specs.Encoding.{word_of}
use Rattle.rv_isa.specs.Reading.{decoded}
use Rattle.rv_isa.specs.Table.{row_of}
use Rattle.rv_script.specs.declared.access.Access.{Access}
use Rattle.rv_script.specs.declared.place.Place.{Place}
use Rattle.rv_script.specs.declared.place.Place.TheVariants.{Reg, Word}
use Rattle.rv_script.specs.Lists.{HasItem}
use Rattle.rv_script.specs.Script.{Label, Label.FetchRoot, Label.FetchSecond, Label.Fetched, Label.FromRs1, Label.FromRs2, Label.FromCsr, Label.DataRoot, Label.DataSecond, Label.DataWord, Label.FromVector, Question, Question.OfRegister, Question.OfCsr, Question.OfMemory, Question.ToMemory, access_of}
use Rattle.rv_script.specs.Folds.{Known, Teller, Answer.Does, Entry}
use Rattle.rv_hart.specs.declared.record.Change.{Change}
use Rattle.rv_hart.specs.Fixed.{Fixed}
use Rattle.rv_hart.specs.Changes.{outcome_of}
use Rattle.rv_hart.specs.Machine.{script}
use Rattle.tpl_ast.specs.declared.template.Atom.{Atom}
use Rattle.tpl_ast.specs.declared.template.Atom.TheVariants as atoms
use Rattle.tpl_ast.specs.declared.template.Var.{Var}
use Rattle.tpl_ast.specs.declared.template.Var.TheVariants as vars
use Rattle.tpl_admit.specs.Variables.{data_address, outcome_in}
use Rattle.fd_prob.specs.declared.slot.Slot.TheVariants as slots
use Rattle.rv_script.specs.Labels.{label_number, question_number}
use Rattle.rv_script.specs.Logs.{is_register, is_word, entry_place, entry_label, answer_told, labelled, value_or, by_answers, enlarged, started, Coherent}
use Rattle.leaf_link.specs.Turns.{Turn}
use Rattle.rv_isa.specs.Fields.{has_address}
use Rattle.leaf_link.specs.Values.{Values, instr_in, address_if, given_by}
use Rattle.leaf_link.specs.Candidates.{accesses_in, moment_of}
use Rattle.tpl_ast.specs.Leaves.{are_comparable, same_var, IsPlain}
use Rattle.leaf_link.specs.Cases.{Shape, Way, Fits, FitsCase, all_relate, case_at, case_if, cases_of, fetch_entry, is_held, is_posed, or_no, relates, shape_of, unless, uses_rs1, value_at}
use Rattle.leaf_link.specs.Ways.{HasAddress, IsFetched, IsOf, step_accesses}
use Rattle.rv_hart.specs.Rests.{asks_rs1}
use Rattle.rv_script.proofs.Plays.{told, no_label, no_register, numbers_within}
use Rattle.rv_script.proofs.Items.{has_either, has_first, has_second}
use Rattle.rv_hart.proofs.Forms.{rest_between}
use Rattle.leaf_link.proofs.Links.{enlarged_has}
use Rattle.leaf_link.proofs.Truths.{Shows, register_at, when}
use Rattle.leaf_link.proofs.Unrefused.{is_never_refused}
use Rattle.leaf_link.proofs.Front.{pa_aligned, a_entry, accesses_only, accesses_then, asks_a, asks_b, b_entry, chosen, front_log, has_only, label_here, label_past, label_skip, later_has, only, only_has, rest_of, walk_first, walk_known, word_place}

-- COHERENCE
pub coherent_cons : (k : Known) (e : Entry) (log : List Entry) → Coherent k log
    → ((f : Entry) → HasItem log f → k (entry_place e) ≡ None → entry_place e ≡ entry_place f → (is_word (entry_place e) ≡ true → entry_label e ≡ entry_label f) × (e.value ≡ f.value)) → Coherent k (e ∷ log)
coherent_cons k g log d h e f i j none q = elim i [
  | inl a ↦ elim j [
    | inl b ↦ let s : e ≡ f = sym a ∙ b in (λ w. ap (λ (z : Entry). entry_label z) s, ap (λ (z : Entry). z.value) s)
    | inr b ↦ subst (λ (z : Entry). (is_word (entry_place z) ≡ true → entry_label z ≡ entry_label f) × (z.value ≡ f.value)) a (h f b (ap (λ (z : Entry). k (entry_place z)) a ∙ none) (ap (λ (z : Entry). entry_place z) a ∙ q))
  ]
  | inr a ↦ elim j [
    | inl b ↦
        let p : entry_place g ≡ entry_place e = ap (λ (z : Entry). entry_place z) b ∙ sym q in
        let n : k (entry_place g) ≡ None = ap k p ∙ none in
        let r = h e a n p in
        (λ w. let v : is_word (entry_place g) ≡ true = ap is_word p ∙ w in sym (r.0 v) ∙ ap (λ (z : Entry). entry_label z) b, sym (r.1) ∙ ap (λ (z : Entry). z.value) b)
    | inr b ↦ d e f a b none q
  ]
]

pub coherent_only : (k : Known) (b : Bool) (e : Entry) (log : List Entry) → Coherent k log
    → (b ≡ true → (f : Entry) → HasItem log f → k (entry_place e) ≡ None → entry_place e ≡ entry_place f → (is_word (entry_place e) ≡ true → entry_label e ≡ entry_label f) × (e.value ≡ f.value)) → Coherent k (only b e log)
coherent_only k true e log d h = coherent_cons k e log d (h refl)
coherent_only k false e log d h = d

pub coherent_known : (k : Known) (xs log : List Entry) → ((e : Entry) → HasItem xs e → k (entry_place e) ≡ Some e.value) → Coherent k log → Coherent k (xs ++ log)
coherent_known k xs log h d e f i j none q = elim (has_either xs log e i) [
  | inl a ↦ let z = h e a in absurd (cc)
  | inr a ↦ elim (has_either xs log f j) [
    | inl b ↦ let z : k (entry_place e) ≡ Some f.value = ap k q ∙ h f b in absurd (cc)
    | inr b ↦ d e f a b none q
  ]
]

pub no_clash : (r n : ℕ) (q : Place) → Reg r ≡ q → Word n ≡ q → ⊥
no_clash r n q a b = cc

pub not_register : (r : ℕ) (q : Place) → Reg r ≡ q → is_register q ≡ false → ⊥
not_register r q a b = let h : is_register q ≡ true = subst (λ (z : Place). is_register z ≡ true) a refl in cc

pub same_register : (n m : ℕ) → Reg n ≡ Reg m → n ≡ m
same_register n m h = cc

abbrev pub IsLater : List Entry → Type 0
IsLater log = (e : Entry) → HasItem log e → (is_register (entry_place e) ≡ false) × (5 ≤ question_number e.question)

pub is_later : (t : Turn) (op : Op) (x : Values) (a b : ℕ) (tell : Teller) (log : List Entry) (change : Change) → answer_told tell (rest_of t op x a b) ≡ Does log change → IsLater log
is_later t op x a b tell log change h e i =
    let s = rest_between (row_of op) t.fixed (word_of (instr_in x)) (instr_in x) a b in
    (no_register 10 (rest_of t op x a b) tell log change s h e i, (numbers_within 5 10 (rest_of t op x a b) tell log change s h e i).0)

abbrev pub code_entry : Turn → ℕ → Values → Entry
code_entry t pa x = fetch_entry t pa (word_of (instr_in x))

pub front_coherent : (t : Turn) (walk : List Entry) (pa : ℕ) (op : Op) (x : Values) (log : List Entry) → IsFetched t walk pa → IsLater log → Coherent t.known log
    → ((e : Entry) → HasItem log e → t.known (Word pa) ≡ None → Word pa ≡ entry_place e → ⊥)
    → (asks_a t op x ≡ true → asks_b op ≡ true → x slots.Rs1 ≡ x slots.Rs2 → (a_entry t x).value ≡ (b_entry t x).value)
    → Coherent t.known (front_log t walk pa op x log)
front_coherent t walk pa op x log f later co apart link =
    let place = word_place pa (pa_aligned t walk pa f) in
    coherent_known t.known walk (code_entry t pa x ∷ only (asks_a t op x) (a_entry t x) (only (asks_b op) (b_entry t x) log)) (walk_known t walk pa f)
    (coherent_cons t.known (code_entry t pa x) (only (asks_a t op x) (a_entry t x) (only (asks_b op) (b_entry t x) log))
    (coherent_only t.known (asks_a t op x) (a_entry t x) (only (asks_b op) (b_entry t x) log)
    (coherent_only t.known (asks_b op) (b_entry t x) log co
    (λ two g i none q. absurd (not_register (x slots.Rs2) (entry_place g) q (later g i).0)))
    (λ one g i none q. elim (has_only (asks_b op) (b_entry t x) log g i) [
      | inl r ↦ (λ w. absurd (cc), link one r.0 (same_register (x slots.Rs1) (x slots.Rs2) (q ∙ sym (ap (λ (y : Entry). entry_place y) r.1))) ∙ ap (λ (y : Entry). y.value) r.1)
      | inr i ↦ absurd (not_register (x slots.Rs1) (entry_place g) q (later g i).0)
    ]))
    (λ g i none q. elim (has_only (asks_a t op x) (a_entry t x) (only (asks_b op) (b_entry t x) log) g i) [
      | inl r ↦ absurd (no_clash (x slots.Rs1) pa (entry_place g) (ap (λ (y : Entry). entry_place y) r.1) (sym place ∙ q))
      | inr i ↦ elim (has_only (asks_b op) (b_entry t x) log g i) [
        | inl r ↦ absurd (no_clash (x slots.Rs2) pa (entry_place g) (ap (λ (y : Entry). entry_place y) r.1) (sym place ∙ q))
        | inr i ↦ absurd (apart g i (ap t.known (sym place) ∙ none) (sym place ∙ q))
      ]
    ]))

pub by_entries : (P : Entry → Type 0) (t : Turn) (walk : List Entry) (pa : ℕ) (op : Op) (x : Values) (log : List Entry) → ((e : Entry) → HasItem walk e → P e) → P (code_entry t pa x)
    → (asks_a t op x ≡ true → P (a_entry t x)) → (asks_b op ≡ true → P (b_entry t x)) → ((e : Entry) → HasItem log e → P e) → (e : Entry) → HasItem (front_log t walk pa op x log) e → P e
by_entries P t walk pa op x log w f a b d e i = elim (has_either walk (code_entry t pa x ∷ only (asks_a t op x) (a_entry t x) (only (asks_b op) (b_entry t x) log)) e i) [
  | inl r ↦ w e r
  | inr i ↦ elim i [
    | inl r ↦ subst P r f
    | inr i ↦ elim (has_only (asks_a t op x) (a_entry t x) (only (asks_b op) (b_entry t x) log) e i) [
      | inl r ↦ subst P r.1 (a r.0)
      | inr i ↦ elim (has_only (asks_b op) (b_entry t x) log e i) [
        | inl r ↦ subst P r.1 (b r.0)
        | inr i ↦ d e i
      ]
    ]
  ]
]

pub in_walk : (t : Turn) (walk : List Entry) (pa : ℕ) (op : Op) (x : Values) (log : List Entry) (e : Entry) → HasItem walk e → HasItem (front_log t walk pa op x log) e
in_walk t walk pa op x log e i = has_first walk (code_entry t pa x ∷ only (asks_a t op x) (a_entry t x) (only (asks_b op) (b_entry t x) log)) e i

pub in_code : (t : Turn) (walk : List Entry) (pa : ℕ) (op : Op) (x : Values) (log : List Entry) → HasItem (front_log t walk pa op x log) (code_entry t pa x)
in_code t walk pa op x log = has_second walk (code_entry t pa x ∷ only (asks_a t op x) (a_entry t x) (only (asks_b op) (b_entry t x) log)) (code_entry t pa x) (inl refl)

pub in_a : (t : Turn) (walk : List Entry) (pa : ℕ) (op : Op) (x : Values) (log : List Entry) → asks_a t op x ≡ true → HasItem (front_log t walk pa op x log) (a_entry t x)
in_a t walk pa op x log h = has_second walk (code_entry t pa x ∷ only (asks_a t op x) (a_entry t x) (only (asks_b op) (b_entry t x) log)) (a_entry t x) (inr (only_has (asks_a t op x) (a_entry t x) (only (asks_b op) (b_entry t x) log) h))

pub in_b : (t : Turn) (walk : List Entry) (pa : ℕ) (op : Op) (x : Values) (log : List Entry) → asks_b op ≡ true → HasItem (front_log t walk pa op x log) (b_entry t x)
in_b t walk pa op x log h = has_second walk (code_entry t pa x ∷ only (asks_a t op x) (a_entry t x) (only (asks_b op) (b_entry t x) log)) (b_entry t x)
    (inr (later_has (asks_a t op x) (a_entry t x) (only (asks_b op) (b_entry t x) log) (b_entry t x) (only_has (asks_b op) (b_entry t x) log h)))

pub in_rest : (t : Turn) (walk : List Entry) (pa : ℕ) (op : Op) (x : Values) (log : List Entry) (e : Entry) → HasItem log e → HasItem (front_log t walk pa op x log) e
in_rest t walk pa op x log e i = has_second walk (code_entry t pa x ∷ only (asks_a t op x) (a_entry t x) (only (asks_b op) (b_entry t x) log)) e
    (inr (later_has (asks_a t op x) (a_entry t x) (only (asks_b op) (b_entry t x) log) e (later_has (asks_b op) (b_entry t x) log e i)))

-- LABELS
pub code_label : (t : Turn) (walk : List Entry) (pa : ℕ) (op : Op) (x : Values) (log : List Entry) → IsFetched t walk pa → labelled (front_log t walk pa op x log) Fetched ≡ Some (code_entry t pa x)
code_label t walk pa op x log f = label_past walk (code_entry t pa x ∷ only (asks_a t op x) (a_entry t x) (only (asks_b op) (b_entry t x) log)) Fetched (walk_first t walk pa f)

pub past_walk : (t : Turn) (walk : List Entry) (pa : ℕ) → IsFetched t walk pa → (ys : List Entry) (l : Label) → 2 ≤ label_number l → labelled (walk ++ ys) l ≡ labelled ys l
past_walk t walk pa f ys l h = label_past walk ys l (λ e i. let k = walk_first t walk pa f e i in omega (arith, k, h))

pub a_label : (t : Turn) (walk : List Entry) (pa : ℕ) (op : Op) (x : Values) (log : List Entry) → IsFetched t walk pa → IsLater log → labelled (front_log t walk pa op x log) FromRs1 ≡ chosen (asks_a t op x) (a_entry t x)
a_label t walk pa op x log f later =
    past_walk t walk pa f (code_entry t pa x ∷ only (asks_a t op x) (a_entry t x) (only (asks_b op) (b_entry t x) log)) FromRs1 (omega arith)
    ∙ label_here (asks_a t op x) (a_entry t x) (only (asks_b op) (b_entry t x) log) FromRs1 refl
    (label_skip (asks_b op) (b_entry t x) log FromRs1 refl ∙ no_label log FromRs1 5 (λ e i. (later e i).1) (omega arith))

pub b_label : (t : Turn) (walk : List Entry) (pa : ℕ) (op : Op) (x : Values) (log : List Entry) → IsFetched t walk pa → IsLater log → labelled (front_log t walk pa op x log) FromRs2 ≡ chosen (asks_b op) (b_entry t x)
b_label t walk pa op x log f later =
    past_walk t walk pa f (code_entry t pa x ∷ only (asks_a t op x) (a_entry t x) (only (asks_b op) (b_entry t x) log)) FromRs2 (omega arith)
    ∙ label_skip (asks_a t op x) (a_entry t x) (only (asks_b op) (b_entry t x) log) FromRs2 refl
    ∙ label_here (asks_b op) (b_entry t x) log FromRs2 refl (no_label log FromRs2 5 (λ e i. (later e i).1) (omega arith))

pub rest_label : (t : Turn) (walk : List Entry) (pa : ℕ) (op : Op) (x : Values) (log : List Entry) → IsFetched t walk pa → (l : Label) → 5 ≤ label_number l → labelled (front_log t walk pa op x log) l ≡ labelled log l
rest_label t walk pa op x log f l late =
    let no : (n : ℕ) → n < 5 → eqb n (label_number l) ≡ false = λ n h. ne_eqb n (label_number l) (λ same. omega (arith, h, same, late)) in
    past_walk t walk pa f (code_entry t pa x ∷ only (asks_a t op x) (a_entry t x) (only (asks_b op) (b_entry t x) log)) l (omega (arith, late))
    ∙ ap (λ (b : Bool). if b then Some (code_entry t pa x) else labelled (only (asks_a t op x) (a_entry t x) (only (asks_b op) (b_entry t x) log)) l) (no 2 (omega arith))
    ∙ label_skip (asks_a t op x) (a_entry t x) (only (asks_b op) (b_entry t x) log) l (no 3 (omega arith))
    ∙ label_skip (asks_b op) (b_entry t x) log l (no 4 (omega arith))

-- ACCESSES
pub front_accesses : (t : Turn) (walk : List Entry) (pa : ℕ) (op : Op) (x : Values) (log : List Entry) → accesses_in (front_log t walk pa op x log) ≡ step_accesses t walk pa (word_of (instr_in x)) log
front_accesses t walk pa op x log =
    let own : accesses_in (only (asks_a t op x) (a_entry t x) (only (asks_b op) (b_entry t x) log)) ≡ accesses_in log =
    accesses_only (asks_a t op x) FromRs1 (x slots.Rs1) _ (only (asks_b op) (b_entry t x) log) ∙ accesses_only (asks_b op) FromRs2 (x slots.Rs2) _ log in
    let one : accesses_in (code_entry t pa x ∷ only (asks_a t op x) (a_entry t x) (only (asks_b op) (b_entry t x) log)) ≡ accesses_in (code_entry t pa x ∷ log) =
    accesses_then (code_entry t pa x ∷ []) (only (asks_a t op x) (a_entry t x) (only (asks_b op) (b_entry t x) log)) ∙ ap (λ (l : List Access). accesses_in (code_entry t pa x ∷ []) ++ l) own ∙ sym (accesses_then (code_entry t pa x ∷ []) log) in
    accesses_then walk (code_entry t pa x ∷ only (asks_a t op x) (a_entry t x) (only (asks_b op) (b_entry t x) log))
    ∙ ap (λ (l : List Access). accesses_in walk ++ l) one ∙ sym (accesses_then walk (code_entry t pa x ∷ log))

-- the walk of the fetch makes no data access
pub early_note : (q : Question) (v : ℕ) (ys : List Access) → question_number q < 2 → data_address (Rattle.rv_script.specs.Folds.on_note (access_of q v) ys) ≡ data_address ys
early_note (OfRegister label n) v ys h = refl
early_note (OfCsr label addr) v ys h = refl
early_note (OfMemory FetchRoot addr size) v ys h = refl
early_note (OfMemory FetchSecond addr size) v ys h = refl
early_note (OfMemory Fetched addr size) v ys h = absurd (omega (arith, h))
early_note (OfMemory FromRs1 addr size) v ys h = absurd (omega (arith, h))
early_note (OfMemory FromRs2 addr size) v ys h = absurd (omega (arith, h))
early_note (OfMemory FromCsr addr size) v ys h = absurd (omega (arith, h))
early_note (OfMemory DataRoot addr size) v ys h = absurd (omega (arith, h))
early_note (OfMemory DataSecond addr size) v ys h = absurd (omega (arith, h))
early_note (OfMemory DataWord addr size) v ys h = absurd (omega (arith, h))
early_note (OfMemory FromVector addr size) v ys h = absurd (omega (arith, h))
early_note (ToMemory addr size value) v ys h = absurd (omega (arith, h))

pub early_address : (xs ys : List Entry) → ((e : Entry) → HasItem xs e → question_number e.question < 2) → data_address (accesses_in (xs ++ ys)) ≡ data_address (accesses_in ys)
early_address [] ys h = refl
early_address (e ∷ xs) ys h = early_note e.question e.value (accesses_in (xs ++ ys)) (h e (inl refl)) ∙ early_address xs ys (λ g i. h g (inr i))

pub front_address : (t : Turn) (walk : List Entry) (pa : ℕ) (op : Op) (x : Values) (log : List Entry) → IsFetched t walk pa → data_address (accesses_in (front_log t walk pa op x log)) ≡ data_address (accesses_in log)
front_address t walk pa op x log f =
    ap (λ (l : List Access). data_address l) (front_accesses t walk pa op x log) ∙ early_address walk (code_entry t pa x ∷ log) (walk_first t walk pa f)

-- WHAT ATOMS ARE JUDGED ON
pub register_told : (t : Turn) (walk : List Entry) (pa : ℕ) (op : Op) (x : Values) (log : List Entry) (change : Change) → Coherent t.known (front_log t walk pa op x log)
    → answer_told (by_answers t.known (given_by x)) (script t.fixed) ≡ Does (front_log t walk pa op x log) change
    → (e : Entry) → HasItem (front_log t walk pa op x log) e → enlarged t.known (started t.known (front_log t walk pa op x log)) (entry_place e) ≡ Some e.value
register_told t walk pa op x log change co plays e i =
    enlarged_has t.known (front_log t walk pa op x log) (given_by x) (started t.known (front_log t walk pa op x log)) (λ q. refl) (λ g h j k none q. (co g h j k none q).1) e i
    (told (script t.fixed) (by_answers t.known (given_by x)) (front_log t walk pa op x log) change plays e i)

pub shows : (t : Turn) (walk : List Entry) (pa : ℕ) (s : Shape) (p : ℕ) (x : Values) (log : List Entry) (change : Change) → IsFetched t walk pa → IsOf s.op x → HasAddress s.op x
    → decoded (word_of (instr_in x)) ≡ Some (instr_in x) → Coherent t.known (front_log t walk pa s.op x log)
    → answer_told (by_answers t.known (given_by x)) (script t.fixed) ≡ Does (front_log t walk pa s.op x log) change
    → change.word ≡ word_of (instr_in x) → outcome_in (outcome_of t.fixed change.control) ≡ s.outcome → data_address (accesses_in log) ≡ when s.reaches p
    → (uses_rs1 s ≡ true → asks_a t s.op x ≡ true) → (asks_a t s.op x ≡ true → (a_entry t x).value ≡ x slots.A) → (asks_b s.op ≡ true → (b_entry t x).value ≡ x slots.B)
    → (is_never_refused (row_of s.op) ≡ true → (s.outcome == 2) ≡ false)
    → Shows t s p x (moment_of t (front_log t walk pa s.op x log) change)
shows t walk pa s p x log change f is ea d co plays word outcome reach asked a b never =
    let l : List Entry = front_log t walk pa s.op x log in
    let known : Known = enlarged t.known (started t.known l) in
    let range = Rattle.rv_isa.proofs.Codec.fitting_in_range (instr_in x) is.fits in
    record {
      op_is = is.op_is;
      read = ap decoded word ∙ d;
      pc = refl;
      outcome = outcome;
      rs1 = λ u. register_at known 32 0 (x slots.Rs1) range.rs1 ∙ ap (λ (n : ℕ). known (Reg n)) (omega arith)
          ∙ register_told t walk pa s.op x log change co plays (a_entry t x) (in_a t walk pa s.op x log (asked u)) ∙ ap (λ (n : ℕ). Some n) (a (asked u));
      rs2 = λ u. let both = and_parts (asks_b s.op) (not (s.outcome == 2)) u in
          register_at known 32 0 (x slots.Rs2) range.rs2 ∙ ap (λ (n : ℕ). known (Reg n)) (omega arith)
          ∙ register_told t walk pa s.op x log change co plays (b_entry t x) (in_b t walk pa s.op x log both.0) ∙ ap (λ (n : ℕ). Some n) (b both.0);
      unrefused = never;
      ea = ea;
      reach = front_address t walk pa s.op x log f ∙ reach;
      names = refl;
      others = refl;
    }

-- CASES
pub fits_way : (t : Turn) (walk : List Entry) (pa : ℕ) (leaf : List Atom) (op : Op) (ways : List Way) (x : Values) → Fits (cases_of t walk pa leaf op ways) x
    → (way : Way) × HasItem ways way × (is_posed t walk pa leaf (shape_of op way) ≡ true) × FitsCase (case_at t pa leaf op way) x
fits_way t walk pa leaf op [] x f = absurd f
fits_way t walk pa leaf op (way ∷ ways) x f = elim (cases_Bool (is_posed t walk pa leaf (shape_of op way))) [
  | inl y ↦ elim (subst (λ (b : Bool). Fits (case_if b (case_at t pa leaf op way) (cases_of t walk pa leaf op ways)) x) y f) [
    | inl h ↦ (way, inl refl, y, h)
    | inr h ↦ let r = fits_way t walk pa leaf op ways x h in (r.0, inr r.1, r.2, r.3)
  ]
  | inr n ↦ let r = fits_way t walk pa leaf op ways x (subst (λ (b : Bool). Fits (case_if b (case_at t pa leaf op way) (cases_of t walk pa leaf op ways)) x) n f) in (r.0, inr r.1, r.2, r.3)
]

pub way_fits : (t : Turn) (walk : List Entry) (pa : ℕ) (leaf : List Atom) (op : Op) (ways : List Way) (x : Values) (way : Way) → HasItem ways way → is_posed t walk pa leaf (shape_of op way) ≡ true → FitsCase (case_at t pa leaf op way) x
    → Fits (cases_of t walk pa leaf op ways) x
way_fits t walk pa leaf op [] x way i p f = absurd i
way_fits t walk pa leaf op (w ∷ ways) x way i p f = elim i [
  | inl h ↦ subst (λ (b : Bool). Fits (case_if b (case_at t pa leaf op w) (cases_of t walk pa leaf op ways)) x) (sym (ap (λ (z : Way). is_posed t walk pa leaf (shape_of op z)) h ∙ p))
      (inl (subst (λ (z : Way). FitsCase (case_at t pa leaf op z) x) (sym h) f))
  | inr j ↦ let r = way_fits t walk pa leaf op ways x way j p f in elim (cases_Bool (is_posed t walk pa leaf (shape_of op w))) [
    | inl y ↦ subst (λ (b : Bool). Fits (case_if b (case_at t pa leaf op w) (cases_of t walk pa leaf op ways)) x) (sym y) (inr r)
    | inr n ↦ subst (λ (b : Bool). Fits (case_if b (case_at t pa leaf op w) (cases_of t walk pa leaf op ways)) x) (sym n) r
  ]
]

-- SMALL FACTS ON FLAGS
pub used : (b test : Bool) → unless b test ≡ true → b ≡ true → test ≡ true
used true test h e = h
used false test h e = absurd (cc)

pub unless_from : (b test : Bool) → (b ≡ true → test ≡ true) → unless b test ≡ true
unless_from true test h = h refl
unless_from false test h = refl

pub or_used : (b inside : Bool) (v : ℕ) → or_no b inside v ≡ true → b ≡ true → inside ≡ true
or_used true inside v h e = h
or_used false inside v h e = absurd (cc)

pub or_unused : (b inside : Bool) (v : ℕ) → or_no b inside v ≡ true → b ≡ false → v ≡ 0
or_unused true inside v h e = absurd (cc)
or_unused false inside v h e = eqb-true _ _ h

pub or_from : (b inside : Bool) (v : ℕ) → (b ≡ true → inside ≡ true) → (b ≡ false → v ≡ 0) → or_no b inside v ≡ true
or_from true inside v y n = y refl
or_from false inside v y n = eq-eqb _ _ (n refl)

pub held : (o : Option ℕ) (v : ℕ) → is_held o v ≡ true → value_or o v ≡ v
held (Some w) v h = eqb-true _ _ h
held None v h = refl

pub holding : (o : Option ℕ) (v : ℕ) → value_or o v ≡ v → is_held o v ≡ true
holding (Some w) v h = eq-eqb _ _ h
holding None v h = refl

-- an operation with an address asks for rs1
pub address_asks : (row : Row) (f : Fixed) (i : Instr) → has_address row ≡ true → asks_rs1 row f i ≡ true
address_asks (R opcode funct3 funct7) f i h = refl
address_asks (I opcode funct3) f i h = refl
address_asks (Shift opcode funct3 funct7) f i h = refl
address_asks (S opcode funct3) f i h = refl
address_asks (B opcode funct3) f i h = refl
address_asks (U opcode) f i h = absurd (cc)
address_asks (J opcode) f i h = absurd (cc)
address_asks (CsrRow opcode funct3) f i h = absurd (cc)
address_asks (CsrImmediate opcode funct3) f i h = absurd (cc)
address_asks (FenceSets opcode funct3) f i h = absurd (cc)
address_asks (AddressFence opcode funct3 funct7) f i h = absurd (cc)
address_asks (Whole bits) f i h = absurd (cc)
address_asks DefinedIllegal f i h = absurd (cc)

pub ea_from : (h u : Bool) (a imm v : ℕ) (inside : Bool) → (h ≡ true → u ≡ true) → or_no (h && u) inside v ≡ true → unless (h && u) (eqb ((a + imm) % 2 ^ 32) v) ≡ true → v ≡ address_if h a imm
ea_from true true a imm v inside k d s = sym (eqb-true _ _ s)
ea_from true false a imm v inside k d s = let z = k refl in absurd (cc)
ea_from false u a imm v inside k d s = eqb-true _ _ d

-- A SHAPE'S ATOMS
pub value_without : (s : Shape) (pc pa : ℕ) (x : Values) (v : Var) → same_var v vars.Pa ≡ false → value_at s pc pa x v ≡ value_at s pc 0 x v
value_without s pc pa x vars.Pa h = absurd (cc)
value_without s pc pa x vars.Op h = refl
value_without s pc pa x _ h = refl

-- variables that are compared are not the physical address
first_apart : (v u : Var) → are_comparable v u ≡ true → same_var v vars.Pa ≡ false
first_apart vars.Pa u h = absurd (cc h)
first_apart vars.Op u h = refl
first_apart _ u h = refl

second_apart : (v u : Var) → are_comparable v u ≡ true → same_var u vars.Pa ≡ false
second_apart vars.Op vars.Pa h = absurd (cc h)
second_apart _ vars.Pa h = absurd (cc h)
second_apart v vars.Op h = refl
second_apart v _ h = refl

pub relates_without : (s : Shape) (pc pa : ℕ) (x : Values) (atom : Atom) → IsPlain atom → relates s.op (value_at s pc pa x) atom ≡ relates s.op (value_at s pc 0 x) atom
relates_without s pc pa x (atoms.Same v u) p = ap (λ (n : ℕ). n == value_at s pc pa x u) (value_without s pc pa x v (first_apart v u p)) ∙ ap (λ (n : ℕ). value_at s pc 0 x v == n) (value_without s pc pa x u (second_apart v u p))
relates_without s pc pa x (atoms.Differ v u) p = ap (λ (n : ℕ). not (n == value_at s pc pa x u)) (value_without s pc pa x v (first_apart v u p)) ∙ ap (λ (n : ℕ). not (value_at s pc 0 x v == n)) (value_without s pc pa x u (second_apart v u p))
relates_without s pc pa x atoms.Taken p = refl
relates_without s pc pa x _ p = refl

pub all_without : (s : Shape) (pc pa : ℕ) (x : Values) (leaf : List Atom) → ((atom : Atom) → HasItem leaf atom → IsPlain atom) → all_relate s.op (value_at s pc pa x) leaf ≡ all_relate s.op (value_at s pc 0 x) leaf
all_without s pc pa x [] p = refl
all_without s pc pa x (atom ∷ leaf) p =
    ap (λ (b : Bool). b && all_relate s.op (value_at s pc pa x) leaf) (relates_without s pc pa x atom (p atom (inl refl)))
    ∙ ap (λ (b : Bool). relates s.op (value_at s pc 0 x) atom && b) (all_without s pc pa x leaf (λ a i. p a (inr i)))
