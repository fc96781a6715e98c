-- The new words of a step: the fetched one, and those of a data access.
use Rattle.std.proofs.Common.{◌≡◌, ℕ, ◌⊎◌, List, ◌∷◌, Option, Some, None, refl, sym, ap, ◌∙◌, subst, inl, inr}
use Rattle.rv_isa.specs.declared.instruction.Instr.{Instr}
use Rattle.rv_isa.specs.declared.operation.Op.{Op}
use Rattle.rv_isa.specs.Encoding.{word_of}
use Rattle.rv_isa.specs.Table.{row_of}
use Rattle.rv_script.specs.declared.place.Place.TheVariants.{Reg, Word}
use Rattle.rv_script.specs.Bytes.{word_address}
use Rattle.rv_script.specs.Lists.{HasItem}
use Rattle.rv_script.specs.Logs.{by_answers, enlarged, entry_label, entry_place, labelled}
use Rattle.rv_script.specs.Script.{Label, Label.DataRoot, Label.DataSecond, Label.DataWord, Label.FetchRoot, Label.FetchSecond, Label.Fetched, Label.FromCsr, Label.FromRs1, Label.FromRs2, Label.FromVector, Question, Question.OfRegister, Question.OfCsr, Question.OfMemory, Question.ToMemory, place_of}
use Rattle.rv_script.specs.Labels.{label_of}
use Rattle.rv_script.specs.Folds.{Entry, Known, by_known}
use Rattle.rv_script.proofs.Plays.{labelled_one}
use Rattle.rv_script.proofs.Items.{has_either}
use Rattle.rv_hart.specs.Machine.{script}
use Rattle.rv_hart.proofs.Forms.{script_between}
use Rattle.tpl_ast.specs.declared.template.Atom.{Atom}
use Rattle.fd_prob.specs.declared.slot.Slot.TheVariants as slots
use Rattle.leaf_link.specs.Turns.{Turn}
use Rattle.leaf_link.specs.Values.{Values, given_by, instr_in}
use Rattle.leaf_link.specs.Candidates.{IsCandidate}
use Rattle.leaf_link.specs.Cases.{fetch_entry}
use Rattle.leaf_link.specs.Ways.{IsFetched}
use Rattle.leaf_link.specs.Problems.{key_of}
use Rattle.leaf_link.specs.Placing.{NewWordsAreFour}
use Rattle.leaf_link.proofs.Alone.{IsForLater, IsForOld, is_data, rest_alone}
use Rattle.leaf_link.proofs.Front.{a_entry, asks_a, asks_b, b_entry, front_log, has_only, only, pa_aligned, rest_of, told_a, told_b, walk_known, word_place}
use Rattle.leaf_link.proofs.Links.{instr_assigned}
use Rattle.leaf_link.proofs.Placing.{address_in, address_of, asked_by, found_in, in_parts_of, new_found, same_word, word_aligned}

-- the word that is asked for with a label
abbrev word_with : List Entry → Label → ℕ
word_with log label = word_address (address_of (labelled log label))

abbrev IsOneOf : List Entry → ℕ → Type 0
IsOneOf log addr = (addr ≡ word_with log DataRoot) ⊎ ((addr ≡ word_with log DataSecond) ⊎ (addr ≡ word_with log DataWord))

no_register : (n addr : ℕ) → Reg n ≡ Word addr → ⊥
no_register n addr h = absurd (cc h)

by_label : (log : List Entry) (label : Label) (addr : ℕ) → is_data label → addr ≡ word_with log label → IsOneOf log addr
by_label log DataRoot addr h is = inl is
by_label log DataSecond addr h is = inr (inl is)
by_label log DataWord addr h is = inr (inr is)
by_label log FetchRoot addr h is = absurd h
by_label log FetchSecond addr h is = absurd h
by_label log Fetched addr h is = absurd h
by_label log FromRs1 addr h is = absurd h
by_label log FromRs2 addr h is = absurd h
by_label log FromCsr addr h is = absurd h
by_label log FromVector addr h is = absurd h

later_word : (log : List Entry) (e : Entry) → labelled log (entry_label e) ≡ Some e → IsForLater e.question → (addr : ℕ) → entry_place e ≡ Word addr → IsOneOf log addr
later_word log e one later addr at = go e.question refl later
  where
    is_here : addr ≡ word_address (address_in e.question) → addr ≡ word_with log (entry_label e)
    is_here h = h ∙ ap (λ (o : Option Entry). word_address (address_of o)) (sym one)

    go : (q : Question) → e.question ≡ q → IsForLater q → IsOneOf log addr
    go (OfMemory label a size) same h =
        by_label log label addr h (is_here (same_word (sym at ∙ ap place_of same) ∙ ap (λ (r : Question). word_address (address_in r)) (sym same)) ∙ ap (λ (r : Question). word_with log (label_of r)) same)
    go (ToMemory a size value) same h =
        inr (inr (is_here (same_word (sym at ∙ ap place_of same) ∙ ap (λ (r : Question). word_address (address_in r)) (sym same)) ∙ ap (λ (r : Question). word_with log (label_of r)) same))
    go (OfRegister l n) same h = absurd h
    go (OfCsr l c) same h = absurd (cc (sym at ∙ ap place_of same))

old_word : (q : Question) → IsForOld q → (addr : ℕ) → place_of q ≡ Word addr → ⊥
old_word (OfCsr l c) h addr at = absurd (cc at)
old_word (OfRegister l n) h addr at = absurd h
old_word (OfMemory l a size) h addr at = absurd h
old_word (ToMemory a size value) h addr at = absurd h

word_of_entry : (t : Turn) (walk : List Entry) (pa : ℕ) (leaf : List Atom) (new : Known) → IsFetched t walk pa → (w : IsCandidate t leaf new)
    → (e : Entry) → HasItem w.log e → t.known (entry_place e) ≡ None → (addr : ℕ) → entry_place e ≡ Word addr → (addr ≡ pa) ⊎ IsOneOf w.log addr
word_of_entry t walk pa leaf new f w e i none addr at =
    let x : Values = key_of t leaf new w in
    let op : Op = w.instr.op in
    let p = in_parts_of t walk pa leaf new f w in
    let own : instr_in x ≡ w.instr = instr_assigned t.fixed t.known w.log w.instr in
    let a : Entry = a_entry t x in
    let b : Entry = b_entry t x in
    let behind : List Entry = only (asks_a t op x) a (only (asks_b op) b p.rest) in
    let among : HasItem (front_log t walk pa op x p.rest) e = subst (λ (l : List Entry). HasItem l e) p.log i in
    elim (has_either walk (fetch_entry t pa (word_of (instr_in x)) ∷ behind) e among) [
      | inl j ↦ let z : t.known (entry_place e) ≡ Some e.value = walk_known t walk pa f e j in absurd (cc)
      | inr j ↦ elim j [
        | inl same ↦ inl (same_word (sym at ∙ sym (ap entry_place same) ∙ word_place pa (pa_aligned t walk pa f)))
        | inr k ↦ elim (has_only (asks_a t op x) a (only (asks_b op) b p.rest) e k) [
          | inl first ↦ absurd (no_register (x slots.Rs1) addr (ap entry_place first.1 ∙ at))
          | inr m ↦ elim (has_only (asks_b op) b p.rest e m) [
            | inl second ↦ absurd (no_register (x slots.Rs2) addr (ap entry_place second.1 ∙ at))
            | inr last ↦
                elim (rest_alone (row_of op) t.fixed (word_of (instr_in x)) (instr_in x) (told_a t op x) (told_b t op x) (ap (λ (j : Instr). row_of j.op) own)).is [
                  | inl old ↦ absurd (old_word e.question (asked_by IsForOld (rest_of t op x (told_a t op x) (told_b t op x)) (by_answers t.known (given_by x)) p.rest w.change old p.plays e last) addr at)
                  | inr later ↦ inr (later_word w.log e (labelled_one 0 10 (script t.fixed) (by_known (enlarged t.known new)) w.log w.change (script_between t.fixed) w.is.plays e i)
                      (asked_by IsForLater (rest_of t op x (told_a t op x) (told_b t op x)) (by_answers t.known (given_by x)) p.rest w.change later.0 p.plays e last) addr at)
                ]
          ]
        ]
      ]
    ]

pub new_words_are_four : NewWordsAreFour
new_words_are_four t walk pa leaf new f w = record {
  first = word_with w.log DataRoot;
  second = word_with w.log DataSecond;
  third = word_with w.log DataWord;
  first_aligned = word_aligned (address_of (labelled w.log DataRoot));
  second_aligned = word_aligned (address_of (labelled w.log DataSecond));
  third_aligned = word_aligned (address_of (labelled w.log DataWord));
  one = λ addr v h.
      let n = new_found t.known new w.log (Word addr) v (w.is.exact (Word addr)) h in
      let e = found_in w.log (Word addr) v n.1 in
      word_of_entry t walk pa leaf new f w e.entry e.among (ap t.known e.at ∙ n.0) addr e.at;
}
