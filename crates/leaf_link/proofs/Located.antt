-- The values of a candidate's new places, for all operations.
use Rattle.std.proofs.Common.{◌≡◌, ℕ, if◌then◌else◌, ◌+◌, ◌%◌, ◌^◌, ◌≤◌, ◌⊎◌, Bool, true, false, eqb, List, [], ◌∷◌, Option, Some, None, refl, sym, ap, ◌∙◌, subst, inl, inr, arith}
use Rattle.std.proofs.lemmas.Bool.{cases_Bool, eqb-true, eq-eqb}
use Rattle.rv_isa.specs.declared.instruction.Instr.{Instr}
use Rattle.rv_isa.specs.declared.operation.Op.{Op}
use Rattle.rv_isa.specs.Encoding.{word_of}
use Rattle.rv_isa.specs.Table.{row_of}
use Rattle.rv_script.specs.declared.place.Place.{Place}
use Rattle.rv_script.specs.declared.place.Place.TheVariants.{Reg, Csr, Word}
use Rattle.rv_script.specs.Labels.{label_number, label_of}
use Rattle.rv_script.specs.Lists.{HasItem}
use Rattle.rv_script.specs.Logs.{by_answers, entry_place, entry_label, is_word, labelled, new_value, or_given}
use Rattle.rv_script.specs.Script.{Label, Label.FetchRoot, Label.FetchSecond, Label.Fetched, Label.FromRs1, Label.FromRs2, Label.FromCsr, Label.DataRoot, Label.DataSecond, Label.DataWord, Label.FromVector, Question, Question.OfRegister, Question.OfCsr, Question.OfMemory, Question.ToMemory, place_of}
use Rattle.rv_script.specs.Folds.{Entry, Known}
use Rattle.rv_script.specs.Bytes.{word_address}
use Rattle.rv_script.proofs.Items.{has_either, has_second}
use Rattle.tpl_ast.specs.declared.template.Atom.{Atom}
use Rattle.fd_prob.specs.declared.slot.Slot.TheVariants as slots
use Rattle.leaf_link.specs.Turns.{Turn}
use Rattle.leaf_link.specs.Values.{Values, address_if, given_by, instr_in, old_csr, unasked_csr}
use Rattle.leaf_link.specs.Candidates.{IsCandidate}
use Rattle.leaf_link.specs.Cases.{fetch_entry}
use Rattle.leaf_link.specs.Ways.{AreWords, IsFetched}
use Rattle.leaf_link.specs.Problems.{key_of}
use Rattle.leaf_link.specs.Placing.{PlacesHaveValues, data_value, place_value}
use Rattle.leaf_link.proofs.Links.{instr_assigned}
use Rattle.leaf_link.proofs.Front.{a_entry, asks_a, asks_b, b_entry, front_log, has_only, later_has, only, only_has, pa_aligned, rest_of, told_a, told_b, walk_known, word_place}
use Rattle.leaf_link.proofs.Law.{rest_label}
use Rattle.leaf_link.proofs.Back.{told_small}
use Rattle.leaf_link.proofs.Placing.{InParts, asked_by, both_asked, found_in, given_here, in_parts_of, new_found, unknown_value}
use Rattle.leaf_link.proofs.DataPlaces.{IsByPlace, IsLog, rest_here}
use Rattle.leaf_link.proofs.Alone.{IsForLater, IsForOld, is_data, is_old, is_trap, rest_alone}

-- ---- labels that do not stand in a log

pub none_labelled : (log : List Entry) (l : Label) → ((e : Entry) → HasItem log e → eqb (label_number (entry_label e)) (label_number l) ≡ false) → labelled log l ≡ None
none_labelled [] l h = refl
none_labelled (e ∷ log) l h = rw (h e (inl refl)) (none_labelled log l (λ d i. h d (inr i)))

pub old_number : (q : Question) → IsForOld q → label_number (entry_label (record { question = q; value = 0 })) ≡ 5
old_number (OfCsr FromCsr addr) h = refl
old_number (OfCsr FetchRoot addr) h = absurd h
old_number (OfCsr FetchSecond addr) h = absurd h
old_number (OfCsr Fetched addr) h = absurd h
old_number (OfCsr FromRs1 addr) h = absurd h
old_number (OfCsr FromRs2 addr) h = absurd h
old_number (OfCsr DataRoot addr) h = absurd h
old_number (OfCsr DataSecond addr) h = absurd h
old_number (OfCsr DataWord addr) h = absurd h
old_number (OfCsr FromVector addr) h = absurd h
old_number (OfRegister l n) h = absurd h
old_number (OfMemory l addr size) h = absurd h
old_number (ToMemory addr size value) h = absurd h

-- what is asked for later is not the old value
pub later_number : (q : Question) → IsForLater q → eqb (label_number (entry_label (record { question = q; value = 0 }))) 5 ≡ false
later_number (OfCsr FromVector addr) h = refl
later_number (OfCsr FetchRoot addr) h = absurd h
later_number (OfCsr FetchSecond addr) h = absurd h
later_number (OfCsr Fetched addr) h = absurd h
later_number (OfCsr FromRs1 addr) h = absurd h
later_number (OfCsr FromRs2 addr) h = absurd h
later_number (OfCsr FromCsr addr) h = absurd h
later_number (OfCsr DataRoot addr) h = absurd h
later_number (OfCsr DataSecond addr) h = absurd h
later_number (OfCsr DataWord addr) h = absurd h
later_number (OfRegister l n) h = absurd h
later_number (OfMemory DataWord addr size) h = refl
later_number (OfMemory FetchRoot addr size) h = absurd h
later_number (OfMemory FetchSecond addr size) h = absurd h
later_number (OfMemory Fetched addr size) h = absurd h
later_number (OfMemory FromRs1 addr size) h = absurd h
later_number (OfMemory FromRs2 addr size) h = absurd h
later_number (OfMemory FromCsr addr size) h = absurd h
later_number (OfMemory DataRoot addr size) h = refl
later_number (OfMemory DataSecond addr size) h = refl
later_number (OfMemory FromVector addr size) h = absurd h
later_number (ToMemory addr size value) h = refl

-- ---- the value of a CSR

pub csr_old : (x : Values) (v addr : ℕ) → x slots.Vector ≡ 0 → v ≡ x slots.OldCsr → v ≡ (if eqb (x slots.Vector) 0 then x slots.OldCsr else x slots.Vector)
csr_old x v addr none is = is ∙ sym (ap (λ (b : Bool). if b then x slots.OldCsr else x slots.Vector) (ap (λ (n : ℕ). eqb n 0) none))

pub csr_vector : (x : Values) (v addr : ℕ) → x slots.OldCsr ≡ 0 → v ≡ x slots.Vector → v ≡ (if eqb (x slots.Vector) 0 then x slots.OldCsr else x slots.Vector)
csr_vector x v addr none is = elim (cases_Bool (eqb (x slots.Vector) 0)) [
  | inl y ↦ is ∙ eqb-true (x slots.Vector) 0 y ∙ sym none ∙ sym (ap (λ (b : Bool). if b then x slots.OldCsr else x slots.Vector) y)
  | inr n ↦ is ∙ sym (ap (λ (b : Bool). if b then x slots.OldCsr else x slots.Vector) n)
]

-- ---- what is asked for behind the sources

old_value_at : (t : Turn) (x : Values) (pa : ℕ) (q : Question) (v : ℕ) → IsForOld q → t.known (place_of q) ≡ None → by_answers t.known (given_by x) q ≡ Some v → x slots.Vector ≡ 0 → v ≡ place_value t x pa (place_of q)
old_value_at t x pa (OfCsr l addr) v h none told zero = label l h (t.known (Csr addr)) none told
  where
    label : (k : Label) → is_old k → (o : Option ℕ) → o ≡ None → or_given o (given_by x k) ≡ Some v → v ≡ place_value t x pa (Csr addr)
    label FromCsr h o none told = csr_old x v addr zero (given_here o (x slots.OldCsr) v none told)
    label FetchRoot h o none told = absurd h
    label FetchSecond h o none told = absurd h
    label Fetched h o none told = absurd h
    label FromRs1 h o none told = absurd h
    label FromRs2 h o none told = absurd h
    label DataRoot h o none told = absurd h
    label DataSecond h o none told = absurd h
    label DataWord h o none told = absurd h
    label FromVector h o none told = absurd h
old_value_at t x pa (OfRegister l n) v h none told zero = absurd h
old_value_at t x pa (OfMemory l addr size) v h none told zero = absurd h
old_value_at t x pa (ToMemory addr size value) v h none told zero = absurd h

word_value_at : (t : Turn) (x : Values) (pa addr v : ℕ) → v ≡ data_value t x addr → (addr ≡ pa → ⊥) → v ≡ place_value t x pa (Word addr)
word_value_at t x pa addr v is apart = elim (cases_Bool (eqb addr pa)) [
  | inl y ↦ absurd (apart (eqb-true addr pa y))
  | inr n ↦ is ∙ sym (ap (λ (b : Bool). if b then word_of (instr_in x) else data_value t x addr) n)
]

later_value_at : (t : Turn) (x : Values) (pa : ℕ) (q : Question) (v : ℕ) → IsForLater q → IsByPlace t x q → t.known (place_of q) ≡ None → by_answers t.known (given_by x) q ≡ Some v → x slots.OldCsr ≡ 0 → (place_of q ≡ Word pa → label_of q ≡ Fetched) → v ≡ place_value t x pa (place_of q)
later_value_at t x pa (OfCsr l addr) v h by none told zero apart = label l h (t.known (Csr addr)) none told
  where
    label : (k : Label) → is_trap k → (o : Option ℕ) → o ≡ None → or_given o (given_by x k) ≡ Some v → v ≡ place_value t x pa (Csr addr)
    label FromVector h o none told = csr_vector x v addr zero (given_here o (x slots.Vector) v none told)
    label FetchRoot h o none told = absurd h
    label FetchSecond h o none told = absurd h
    label Fetched h o none told = absurd h
    label FromRs1 h o none told = absurd h
    label FromRs2 h o none told = absurd h
    label FromCsr h o none told = absurd h
    label DataRoot h o none told = absurd h
    label DataSecond h o none told = absurd h
    label DataWord h o none told = absurd h
later_value_at t x pa (OfMemory l addr size) v h by none told zero apart =
    word_value_at t x pa (word_address addr) v (given_here (t.known (Word (word_address addr))) (given_by x l) v none told ∙ sym by) (λ same. absurd (subst (λ (k : Label). is_data k) (apart (ap (λ (n : ℕ). Word n) same)) h))
later_value_at t x pa (ToMemory addr size value) v h by none told zero apart =
    word_value_at t x pa (word_address addr) v (given_here (t.known (Word (word_address addr))) (x slots.DataWord) v none told ∙ sym by) (λ same. absurd (cc (apart (ap (λ (n : ℕ). Word n) same))))
later_value_at t x pa (OfRegister l n) v h by none told zero apart = absurd h

-- ---- entries

told_or_new : (o : Option ℕ) (g v : ℕ) → or_given o g ≡ Some v → (o ≡ Some v) ⊎ (o ≡ None)
told_or_new (Some w) g v h = inl h
told_or_new None g v h = inr refl

located_entry : (t : Turn) (walk : List Entry) (pa : ℕ) (leaf : List Atom) (new : Known) → IsFetched t walk pa → AreWords t.known → (w : IsCandidate t leaf new)
    → (e : Entry) → HasItem w.log e → t.known (entry_place e) ≡ None → e.value ≡ place_value t (key_of t leaf new w) pa (entry_place e)
located_entry t walk pa leaf new f words w e i none =
    let x : Values = key_of t leaf new w in
    let op : Op = w.instr.op in
    let p = in_parts_of t walk pa leaf new f w in
    let a : Entry = a_entry t x in
    let b : Entry = b_entry t x in
    let behind : List Entry = only (asks_a t op x) a (only (asks_b op) b p.rest) in
    let code : Entry = fetch_entry t pa (word_of (instr_in x)) in
    let in_log : ((d : Entry) → HasItem (front_log t walk pa op x p.rest) d → HasItem w.log d) = λ d j. subst (λ (l : List Entry). HasItem l d) (sym p.log) j in
    let among : HasItem (front_log t walk pa op x p.rest) e = subst (λ (l : List Entry). HasItem l e) p.log i in
    elim (has_either walk (code ∷ behind) e among) [
      | inl j ↦ let z : t.known (entry_place e) ≡ Some e.value = walk_known t walk pa f e j in absurd (cc)
      | inr j ↦ elim j [
        | inl same ↦ subst (λ (d : Entry). d.value ≡ place_value t x pa (entry_place d)) same (code_value x)
        | inr k ↦ elim (has_only (asks_a t op x) a (only (asks_b op) b p.rest) e k) [
          | inl first ↦ of_a x e first.1 (ap (λ (d : Entry). t.known (entry_place d)) first.1 ∙ none)
          | inr m ↦ elim (has_only (asks_b op) b p.rest e m) [
            | inl second ↦ of_b x e second.0 second.1 (ap (λ (d : Entry). t.known (entry_place d)) second.1 ∙ none)
                (λ asked one. p.agree a b
                (in_log a (has_second walk (code ∷ behind) a (inr (only_has (asks_a t op x) a (only (asks_b op) b p.rest) asked))))
                (in_log b (has_second walk (code ∷ behind) b (inr (later_has (asks_a t op x) a (only (asks_b op) b p.rest) b (only_has (asks_b op) b p.rest second.0)))))
                one.0 one.1)
            | inr last ↦ of_rest x p last (in_log code (has_second walk (code ∷ behind) code (inl refl)))
          ]
        ]
      ]
    ]
  where
    at_pa : (x : Values) → place_value t x pa (Word pa) ≡ word_of (instr_in x)
    at_pa x = ap (λ (b : Bool). if b then word_of (instr_in x) else data_value t x pa) (eq-eqb pa pa refl)

    code_place : place_of (OfMemory Fetched pa 4) ≡ Word pa
    code_place = word_place pa (pa_aligned t walk pa f)

    code_value : (x : Values) → word_of (instr_in x) ≡ place_value t x pa (place_of (OfMemory Fetched pa 4))
    code_value x = sym (ap (λ (q : Place). place_value t x pa q) code_place ∙ at_pa x)

    of_a : (x : Values) (d : Entry) → a_entry t x ≡ d → t.known (Reg (x slots.Rs1)) ≡ None → d.value ≡ place_value t x pa (entry_place d)
    of_a x d same none =
        subst (λ (d : Entry). d.value ≡ place_value t x pa (entry_place d)) same
        (unknown_value (t.known (Reg (x slots.Rs1))) (x slots.A) none ∙ sym (ap (λ (z : Bool). if z then x slots.A else x slots.B) (eq-eqb (x slots.Rs1) (x slots.Rs1) refl)))

    of_b : (x : Values) (d : Entry) → asks_b w.instr.op ≡ true → b_entry t x ≡ d → t.known (Reg (x slots.Rs2)) ≡ None
        → (asks_a t w.instr.op x ≡ true → (t.known (Reg (x slots.Rs1)) ≡ None) × (Reg (x slots.Rs1) ≡ Reg (x slots.Rs2)) → (a_entry t x).value ≡ (b_entry t x).value)
        → d.value ≡ place_value t x pa (entry_place d)
    of_b x d asked same none agree = subst (λ (d : Entry). d.value ≡ place_value t x pa (entry_place d)) same (elim (cases_Bool (eqb (x slots.Rs2) (x slots.Rs1))) [
      | inl y ↦
          let one : x slots.Rs2 ≡ x slots.Rs1 = eqb-true (x slots.Rs2) (x slots.Rs1) y in
          let free : t.known (Reg (x slots.Rs1)) ≡ None = ap (λ (n : ℕ). t.known (Reg n)) (sym one) ∙ none in
          let both = agree (both_asked (row_of w.instr.op) t.fixed (instr_in x) asked) (free, ap (λ (n : ℕ). Reg n) (sym one)) in
          sym both ∙ unknown_value (t.known (Reg (x slots.Rs1))) (x slots.A) free ∙ sym (ap (λ (z : Bool). if z then x slots.A else x slots.B) y)
      | inr n ↦ unknown_value (t.known (Reg (x slots.Rs2))) (x slots.B) none ∙ sym (ap (λ (z : Bool). if z then x slots.A else x slots.B) n)
    ])

    of_rest : (x : Values) (p : InParts t walk pa leaf new w) → HasItem p.rest e → HasItem w.log (fetch_entry t pa (word_of (instr_in (key_of t leaf new w)))) → e.value ≡ place_value t (key_of t leaf new w) pa (entry_place e)
    of_rest x0 p last code_in =
        let x : Values = key_of t leaf new w in
        let op : Op = w.instr.op in
        let own : instr_in x ≡ w.instr = instr_assigned t.fixed t.known w.log w.instr in
        let alone = (rest_alone (row_of op) t.fixed (word_of (instr_in x)) (instr_in x) (told_a t op x) (told_b t op x) (ap (λ (j : Instr). row_of j.op) own)).is in
        let same_label : (l : Label) → 5 ≤ label_number l → labelled w.log l ≡ labelled p.rest l = λ l late. ap (λ (log : List Entry). labelled log l) p.log ∙ rest_label t walk pa op x p.rest f l late in
        let told = p.tells e i in
        let rest_in : (d : Entry) → HasItem p.rest d → HasItem w.log d = λ d j. subst (λ (l : List Entry). HasItem l d) (sym p.log)
        (has_second walk (fetch_entry t pa (word_of (instr_in x)) ∷ only (asks_a t op x) (a_entry t x) (only (asks_b op) (b_entry t x) p.rest)) d
        (inr (later_has (asks_a t op x) (a_entry t x) (only (asks_b op) (b_entry t x) p.rest) d (later_has (asks_b op) (b_entry t x) p.rest d j)))) in
        let log : IsLog t x w.log = record {
          tells = p.tells;
          once = w.is.meets.once;
          small = λ d j. told_small t w.instr d words (w.is.meets.may d j) (told_or_new (t.known (entry_place d)) (given_by x (entry_label d)) d.value (p.tells d j));
        } in
        let by : IsByPlace t x e.question = rest_here t x w.log log (row_of op) (word_of (instr_in x)) (instr_in x) (told_a t op x) (told_b t op x) (by_answers t.known (given_by x)) p.rest w.change (ap (λ (j : Instr). row_of j.op) own)
        (λ h. ap (λ (b : Bool). address_if b (x slots.A) w.instr.imm) h ∙ ap (λ (n : ℕ). (n + w.instr.imm) % 2 ^ 32) (sym p.source) ∙ ap (λ (j : Instr). (told_a t op x + j.imm) % 2 ^ 32) (sym own))
        p.plays rest_in e last none in
        elim alone [
          | inl old ↦ (
              let each : (d : Entry) → HasItem p.rest d → IsForOld d.question = λ d j. asked_by IsForOld (rest_of t op x (told_a t op x) (told_b t op x)) (by_answers t.known (given_by x)) p.rest w.change old p.plays d j in
              let none_there : labelled w.log FromVector ≡ None = same_label FromVector (omega arith) ∙ none_labelled p.rest FromVector (λ d j. ap (λ (n : ℕ). eqb n 9) (old_number d.question (each d j))) in
              let zero : x slots.Vector ≡ 0 = ap (λ (o : Option Entry). new_value t.known o) none_there in
              old_value_at t x pa e.question e.value (each e last) none told zero
              )
          | inr later ↦ (
              let each : (d : Entry) → HasItem p.rest d → IsForLater d.question = λ d j. asked_by IsForLater (rest_of t op x (told_a t op x) (told_b t op x)) (by_answers t.known (given_by x)) p.rest w.change later.0 p.plays d j in
              let none_there : labelled w.log FromCsr ≡ None = same_label FromCsr (omega arith) ∙ none_labelled p.rest FromCsr (λ d j. later_number d.question (each d j)) in
              let zero : x slots.OldCsr ≡ 0 = ap (λ (o : Option Entry). old_csr t.fixed w.instr o) none_there ∙ ap (λ (j : Instr). unasked_csr t.fixed j) (sym own) ∙ later.1 in
              later_value_at t x pa e.question e.value (each e last) by none told zero
              (λ at. w.is.meets.once e (fetch_entry t pa (word_of (instr_in x))) i code_in none (at ∙ sym code_place) (ap (λ (q : Place). is_word q) at))
              )
        ]

pub places_have_values : PlacesHaveValues
places_have_values t walk pa leaf new f words w place v h =
    let n = new_found t.known new w.log place v (w.is.exact place) h in
    let e = found_in w.log place v n.1 in
    sym e.is ∙ located_entry t walk pa leaf new f words w e.entry e.among (ap t.known e.at ∙ n.0) ∙ ap (λ (q : Place). place_value t (key_of t leaf new w) pa q) e.at
