-- From what is good to what fits.
use Rattle.std.proofs.Common.{◌≡◌, ℕ, if◌then◌else◌, ◌+◌, ◌%◌, ◌^◌, ◌<◌, ◌≤◌, ◌⊎◌, ◌&&◌, ◌==◌, not, Bool, true, false, ltb, List, ◌∷◌, ◌++◌, Option, Some, None, refl, sym, ap, ◌∙◌, subst, inl, inr, arith}
use Rattle.std.proofs.lemmas.Bool.{eq-eqb, and_parts, and_from, lt-ltb, ltb-true}
use Rattle.rv_isa.specs.declared.instruction.Instr.{Instr}
use Rattle.rv_isa.specs.declared.operation.Op.{Op}
use Rattle.rv_isa.specs.declared.table.Row.{Row}
use Rattle.rv_isa.specs.declared.table.Row.TheVariants.{R, I, Shift, S, B, U, J, Csr as CsrRow, CsrImmediate, FenceSets, AddressFence, Fixed as Whole, DefinedIllegal}
use Rattle.rv_isa.specs.Encoding.{word_of}
use Rattle.rv_isa.specs.Fields.{reads_rs1, has_address}
use Rattle.rv_isa.specs.Reading.{decoded}
use Rattle.rv_isa.specs.Table.{row_of}
use Rattle.rv_isa.proofs.Codec.{encoded_read}
use Rattle.rv_csr.specs.declared.access.CsrAccess.{CsrAccess}
use Rattle.rv_csr.specs.declared.access.CsrAccess.TheVariants.{Granted, Denied, Outside as NotModelled}
use Rattle.rv_script.specs.declared.access.Access.{Access}
use Rattle.rv_script.specs.declared.place.Place.{Place}
use Rattle.rv_script.specs.declared.place.Place.TheVariants.{Reg}
use Rattle.rv_script.specs.Lists.{HasItem}
use Rattle.rv_script.specs.Script.{Label, Label.Fetched, Label.FromRs1, Label.FromRs2, Label.FromCsr, Label.DataRoot, Label.DataSecond, Label.DataWord, Label.FromVector, Question, Question.OfMemory, place_of}
use Rattle.rv_script.specs.Folds.{Known, Teller, Answer.Does, Entry}
use Rattle.foot_map.specs.Races.{breaks, Meet}
use Rattle.rv_hart.specs.declared.record.Change.{Change}
use Rattle.rv_hart.specs.Fixed.{Fixed}
use Rattle.rv_hart.specs.Changes.{outcome_of}
use Rattle.rv_hart.specs.Machine.{fetched_at, instruction, script}
use Rattle.rv_hart.specs.Privileged.{refused, trap}
use Rattle.tpl_ast.specs.declared.template.Atom.{Atom}
use Rattle.tpl_ast.specs.declared.template.Var.TheVariants as vars
use Rattle.tpl_admit.specs.Variables.{data_address, outcome_in}
use Rattle.fd_prob.specs.declared.slot.Slot.{Slot}
use Rattle.fd_prob.specs.declared.slot.Slot.TheVariants as slots
use Rattle.rv_script.specs.Labels.{label_number, question_number}
use Rattle.rv_script.specs.Logs.{entry_place, entry_label, answer_told, labelled, value_or, or_given, by_answers, new_value, value_in, Coherent}
use Rattle.leaf_link.specs.Turns.{Turn, is_free_entry, may_be_source, may_start}
use Rattle.leaf_link.specs.Values.{Values, instr_in, address_if, given_by, assigned, old_csr, new_places}
use Rattle.rv_isa.specs.Numbers.{op_number}
use Rattle.leaf_link.specs.Candidates.{accesses_in, all_met, moment_of, IsCandidate}
use Rattle.leaf_link.specs.Cases.{Shape, Way, Fits, all_tests, atoms_hold, base_domain, cases_of, code_at, is_posed, shape_of, sources_hold, uses, uses_address, uses_rs1, uses_rs2}
use Rattle.leaf_link.specs.Ways.{AreWords, AsksUsed, DoesRest, HasAddress, IsFetched, IsOf, IsWays, shape_with}
use Rattle.rv_hart.specs.Rests.{after_access, asks_rs1, csr_access, is_granted, rest}
use Rattle.tpl_ast.specs.Leaves.{IsPlain}
use Rattle.leaf_link.specs.Laws.{OneToOne}
use Rattle.rv_script.proofs.Plays.{entry, first_asked, given_is}
use Rattle.rv_script.proofs.Results.{Ends, ended}
use Rattle.rv_hart.proofs.Fetched.{rest_has}
use Rattle.leaf_link.proofs.Links.{Good, law_from}
use Rattle.leaf_link.proofs.Formats.{read_fields}
use Rattle.leaf_link.proofs.Truths.{by_all_met}
use Rattle.leaf_link.proofs.Unrefused.{Unrefused, is_never_refused, never_ends}
use Rattle.leaf_link.proofs.Front.{hold_all, pa_aligned, a_entry, asks_a, asks_b, b_entry, chosen, front_back, front_log, label_past, prefixed_done, rest_of, script_told, settled, told_a, told_b, walk_first, word_place}
use Rattle.leaf_link.proofs.Law.{IsLater, a_label, address_asks, all_without, b_label, code_entry, front_accesses, holding, in_a, in_b, in_code, in_rest, in_walk, is_later, or_from, rest_label, shows, unless_from, way_fits}
use Rattle.leaf_link.proofs.Both.{each_slot, fits_good, is_reached, link, may_code, or_some, pa_of, reaches, reaching}

-- SOURCES
tie_value : (b : Bool) (e : Entry) (v : ℕ) → v ≡ value_in (chosen b e) → b ≡ true → e.value ≡ v
tie_value true e v h t = sym h
tie_value false e v h t = absurd (cc)

unused_value : (b : Bool) (e : Entry) (v : ℕ) → v ≡ value_in (chosen b e) → b ≡ false → v ≡ 0
unused_value true e v h t = absurd (cc)
unused_value false e v h t = h

-- what the rest was given is the value
value_given : (b : Bool) (o : Option ℕ) (v : ℕ) → (b ≡ true → value_or o v ≡ v) → (b ≡ false → v ≡ 0) → (if b then value_or o v else 0) ≡ v
value_given true o v one two = one refl
value_given false o v one two = sym (two refl)

known_same : (k : Known) (q r : Place) (a b : ℕ) → q ≡ r → (k q ≡ None → value_or (k q) a ≡ value_or (k r) b) → value_or (k q) a ≡ value_or (k r) b
known_same k q r a b e h = go (k q) refl (ap k e) h
  where
    go : (o : Option ℕ) → k q ≡ o → o ≡ k r → (o ≡ None → value_or o a ≡ value_or (k r) b) → value_or o a ≡ value_or (k r) b
    go None g t h = h refl
    go (Some v) g t h = ap (λ (z : Option ℕ). value_or z b) t

-- a refused instruction has the cause 2, so one that uses rs1 asks for it
refused_outcome : (f : Fixed) (word : ℕ) → Ends (λ (c : Change). outcome_in (outcome_of f c.control) ≡ 2) (refused f word)
unfolding trap
refused_outcome f word v = refl

access_asked : (f : Fixed) (word : ℕ) (i : Instr) (access : CsrAccess) (a : ℕ) (tell : Teller) (log : List Entry) (change : Change)
    → answer_told tell (after_access f word i access a) ≡ Does log change → not (outcome_in (outcome_of f change.control) == 2) ≡ true → is_granted access ≡ true
access_asked f word i (Granted register) a tell log change h n = refl
access_asked f word i Denied a tell log change h n =
    let e : outcome_in (outcome_of f change.control) ≡ 2 = ended (λ (c : Change). outcome_in (outcome_of f c.control) ≡ 2) (refused f word) tell log change (refused_outcome f word) h in
    let z : not (2 == 2) ≡ true = subst (λ (n : ℕ). not (n == 2) ≡ true) e n in
    absurd (cc)
access_asked f word i NotModelled a tell log change h n = absurd (cc)

used_asked : (row : Row) (f : Fixed) (word : ℕ) (i : Instr) (a b : ℕ) (tell : Teller) (log : List Entry) (change : Change)
    → answer_told tell (rest row f word i a b) ≡ Does log change → (reads_rs1 row && not (outcome_in (outcome_of f change.control) == 2)) ≡ true → asks_rs1 row f i ≡ true
used_asked (CsrRow opcode funct3) f word i a b tell log change h u = access_asked f word i (csr_access f i) a tell log change h u
used_asked (R opcode funct3 funct7) f word i a b tell log change h u = refl
used_asked (I opcode funct3) f word i a b tell log change h u = refl
used_asked (Shift opcode funct3 funct7) f word i a b tell log change h u = refl
used_asked (S opcode funct3) f word i a b tell log change h u = refl
used_asked (B opcode funct3) f word i a b tell log change h u = refl
used_asked (U opcode) f word i a b tell log change h u = absurd (cc)
used_asked (J opcode) f word i a b tell log change h u = absurd (cc)
used_asked (CsrImmediate opcode funct3) f word i a b tell log change h u = absurd (cc)
used_asked (FenceSets opcode funct3) f word i a b tell log change h u = absurd (cc)
used_asked (AddressFence opcode funct3 funct7) f word i a b tell log change h u = absurd (cc)
used_asked (Whole bits) f word i a b tell log change h u = absurd (cc)
used_asked DefinedIllegal f word i a b tell log change h u = absurd (cc)

-- THE ADDRESS
ea_unused : (h u : Bool) (a imm v : ℕ) → (h ≡ true → u ≡ true) → (h && u) ≡ false → v ≡ address_if h a imm → v ≡ 0
ea_unused true true a imm v k n e = absurd (cc)
ea_unused true false a imm v k n e = let z = k refl in absurd (cc)
ea_unused false u a imm v k n e = e

ea_sum : (h u : Bool) (a imm v : ℕ) → (h && u) ≡ true → v ≡ address_if h a imm → v ≡ (a + imm) % 2 ^ 32
ea_sum true u a imm v n e = e
ea_sum false u a imm v n e = absurd (cc)

pub address_small : (h : Bool) (a imm v : ℕ) → v ≡ address_if h a imm → v < 2 ^ 32
address_small true a imm v e = subst (λ (n : ℕ). n < 2 ^ 32) (sym e) (omega arith)
address_small false a imm v e = subst (λ (n : ℕ). n < 2 ^ 32) (sym e) (omega arith)

-- THE WORD THAT IS READ
pub good_reads : (t : Turn) (walk : List Entry) (pa : ℕ) (leaf : List Atom) (x : Values) → IsFetched t walk pa → Good t leaf x → decoded (value_or (code_at t pa) (word_of (instr_in x))) ≡ Some (instr_in x)
unfolding fetched_at
good_reads t walk pa leaf x f g =
    let tell : Teller = by_answers t.known (given_by x) in
    let q : Question = OfMemory Fetched pa 4 in
    let i : Instr = instr_in x in
    let r = prefixed_done walk (answer_told tell (fetched_at t.fixed pa)) g.log g.change
    (sym (script_told t walk pa f tell (λ q v h. ap (λ (o : Option ℕ). or_given o (given_by x (Rattle.rv_script.specs.Labels.label_of q))) h)) ∙ g.plays) in
    let a = first_asked q (λ v. instruction t.fixed v (decoded v)) tell r.0 g.change r.1 in
    let l : labelled g.log Fetched ≡ Some (entry q a.0) =
    ap (λ (z : List Entry). labelled z Fetched) (r.2 ∙ ap (λ (z : List Entry). walk ++ z) a.4) ∙ label_past walk (entry q a.0 ∷ a.1) Fetched (walk_first t walk pa f) in
    let m = g.meets.fetched in
    let same : Some (entry q a.0) ≡ Some m.0 = sym l ∙ m.1 in
    let e : entry q a.0 ≡ m.0 = cc in
    let v : Some (value_or (t.known (place_of q)) (word_of i)) ≡ Some a.0 = sym (given_is (t.known (place_of q)) (word_of i)) ∙ a.2 in
    let w : value_or (t.known (place_of q)) (word_of i) ≡ a.0 = cc in
    ap (λ (p : Place). decoded (value_or (t.known p) (word_of i))) (sym (word_place pa (pa_aligned t walk pa f))) ∙ ap decoded w ∙ ap (λ (z : Entry). decoded z.value) e ∙ m.2

-- a told value is a word
pub told_small : (t : Turn) (i : Instr) (e : Entry) → AreWords t.known → (t.known (entry_place e) ≡ None → may_start t i (entry_label e) (entry_place e) e.value ≡ true) → (t.known (entry_place e) ≡ Some e.value ⊎ (t.known (entry_place e) ≡ None)) → e.value < 2 ^ 32
told_small t i e words may h = elim h [
  | inl k ↦ words (entry_place e) e.value k
  | inr n ↦ ltb-true _ _ (and_parts _ _ (may n)).0
]

known_or_new : (o : Option ℕ) (v : ℕ) → (o ≡ Some (value_or o v)) ⊎ (o ≡ None)
known_or_new (Some w) v = inl refl
known_or_new None v = inr refl

-- the value of rs1 is the one that is asked for
first_source : (t : Turn) (walk : List Entry) (pa : ℕ) (leaf : List Atom) (op : Op) (x : Values) → IsFetched t walk pa → (g : Good t leaf x) → (rest : List Entry) → IsLater rest → g.log ≡ front_log t walk pa op x rest
    → x slots.A ≡ value_in (chosen (asks_a t op x) (a_entry t x))
first_source t walk pa leaf op x f g rest later l = g.is slots.A ∙ ap (λ (z : List Entry). value_in (labelled z FromRs1)) l ∙ ap (λ (o : Option Entry). value_in o) (a_label t walk pa op x rest f later)

-- and so it is where its address is made of it
pub told_source : (t : Turn) (walk : List Entry) (pa : ℕ) (leaf : List Atom) (op : Op) (x : Values) → IsFetched t walk pa → (g : Good t leaf x) → (rest : List Entry) → IsLater rest → g.log ≡ front_log t walk pa op x rest
    → told_a t op x ≡ x slots.A
told_source t walk pa leaf op x f g rest later l =
    let is_a = first_source t walk pa leaf op x f g rest later l in
    value_given (asks_a t op x) (t.known (Reg (x slots.Rs1))) (x slots.A) (tie_value (asks_a t op x) (a_entry t x) (x slots.A) is_a) (unused_value (asks_a t op x) (a_entry t x) (x slots.A) is_a)

-- FROM WHAT IS GOOD TO WHAT FITS
pub good_fits : (t : Turn) (walk : List Entry) (pa : ℕ) (leaf : List Atom) (op : Op) (ways : List Way) → IsFetched t walk pa → AreWords t.known → ((atom : Atom) → HasItem leaf atom → IsPlain atom) → IsWays t walk pa leaf op ways
    → (x : Values) → Good t leaf x → (instr_in x).op ≡ op → Fits (cases_of t walk pa leaf op ways) x
good_fits t walk pa leaf op ways f words plain owed x g op_is =
    let k : Known = t.known in
    let i : Instr = instr_in x in
    let tell : Teller = by_answers k (given_by x) in
    let number : x slots.Op ≡ op_number op = g.is slots.Op ∙ ap op_number op_is in
    let d : decoded (value_or (code_at t pa) (word_of i)) ≡ Some i = good_reads t walk pa leaf x f g in
    let read = encoded_read (value_or (code_at t pa) (word_of i)) i d in
    let own : decoded (word_of i) ≡ Some i = ap decoded (sym read.word) ∙ d in
    let is : IsOf op x = record { op_is = op_is; fits = read.fits; small = address_small (has_address (row_of i.op)) (value_in (labelled g.log FromRs1)) (x slots.Imm) (x slots.Ea) (g.is slots.Ea) } in
    let back = front_back t walk pa op x g.log g.change f op_is d g.plays in
    let rest : List Entry = back.0 in
    let log : List Entry = front_log t walk pa op x rest in
    let l : g.log ≡ log = back.2 in
    let later : IsLater rest = is_later t op x (told_a t op x) (told_b t op x) tell rest g.change back.1 in
    let is_a : x slots.A ≡ value_in (chosen (asks_a t op x) (a_entry t x)) = first_source t walk pa leaf op x f g rest later l in
    let is_b : x slots.B ≡ value_in (chosen (asks_b op) (b_entry t x)) = g.is slots.B ∙ ap (λ (z : List Entry). value_in (labelled z FromRs2)) l ∙ ap (λ (o : Option Entry). value_in o) (b_label t walk pa op x rest f later) in
    let a0 : asks_a t op x ≡ true → (a_entry t x).value ≡ x slots.A = tie_value (asks_a t op x) (a_entry t x) (x slots.A) is_a in
    let a1 : asks_a t op x ≡ false → x slots.A ≡ 0 = unused_value (asks_a t op x) (a_entry t x) (x slots.A) is_a in
    let b0 : asks_b op ≡ true → (b_entry t x).value ≡ x slots.B = tie_value (asks_b op) (b_entry t x) (x slots.B) is_b in
    let b1 : asks_b op ≡ false → x slots.B ≡ 0 = unused_value (asks_b op) (b_entry t x) (x slots.B) is_b in
    let ta : told_a t op x ≡ x slots.A = told_source t walk pa leaf op x f g rest later l in
    let tb : told_b t op x ≡ x slots.B = value_given (asks_b op) (k (Reg (x slots.Rs2))) (x slots.B) b0 b1 in
    let plays : answer_told tell (rest_of t op x (x slots.A) (x slots.B)) ≡ Does rest g.change =
    ap (λ (n : ℕ). answer_told tell (rest_of t op x n (x slots.B))) (sym ta) ∙ ap (λ (n : ℕ). answer_told tell (rest_of t op x (told_a t op x) n)) (sym tb) ∙ back.1 in
    let word : g.change.word ≡ word_of i = ended (λ (c : Change). c.word ≡ word_of i) (rest_of t op x (x slots.A) (x slots.B)) tell rest g.change (rest_has (row_of op) t.fixed (word_of i) i (x slots.A) (x slots.B)) plays in
    let outcome : ℕ = outcome_in (outcome_of t.fixed g.change.control) in
    let o : Option ℕ = data_address (accesses_in rest) in
    let p : ℕ = pa_of o in
    let s : Shape = shape_with op outcome (is_reached o) in
    let ea : HasAddress op x = g.is slots.Ea ∙ ap (λ (q : Op). address_if (has_address (row_of q)) (value_in (labelled g.log FromRs1)) (x slots.Imm)) op_is ∙ ap (λ (n : ℕ). address_if (has_address (row_of op)) n (x slots.Imm)) (sym (g.is slots.A)) in
    let in_log : (e : Entry) → HasItem log e → HasItem g.log e = λ e j. subst (λ (z : List Entry). HasItem z e) (sym l) j in
    let co : Coherent k log = λ e h m n none q. (λ w. g.meets.once e h (in_log e m) (in_log h n) none q w, g.agree e h (in_log e m) (in_log h n) none q) in
    let whole : answer_told tell (script t.fixed) ≡ Does log g.change = g.plays ∙ ap (λ (z : List Entry). Does z g.change) l in
    let asked : uses_rs1 s ≡ true → asks_a t op x ≡ true = λ u. used_asked (row_of op) t.fixed (word_of i) i (x slots.A) (x slots.B) tell rest g.change plays u in
    let never : is_never_refused (row_of op) ≡ true → (outcome == 2) ≡ false = λ n. ended (Unrefused t.fixed) (rest_of t op x (x slots.A) (x slots.B)) tell rest g.change (never_ends (row_of op) t.fixed (word_of i) i (x slots.A) (x slots.B) n) plays in
    let sh = shows t walk pa s p x rest g.change f is ea own co whole word refl (reaching o) asked a0 b0 never in
    let j = by_all_met t s p x (moment_of t log g.change) sh leaf (ap (λ (z : List Entry). all_met t (moment_of t z g.change) leaf) (sym l) ∙ g.meets.atoms) in
    let rest_in : (e : Entry) → HasItem rest e → HasItem g.log e = λ e m. in_log e (in_rest t walk pa op x rest e m) in
    let code_in : HasItem g.log (code_entry t pa x) = in_log (code_entry t pa x) (in_code t walk pa op x rest) in
    let shown_label : (q : Label) → 5 ≤ label_number q → labelled g.log q ≡ labelled rest q = λ q n. ap (λ (z : List Entry). labelled z q) l ∙ rest_label t walk pa op x rest f q n in
    let does : DoesRest t walk pa leaf s x = record {
      log = rest;
      change = g.change;
      plays = plays;
      word = word;
      outcome = refl;
      reach = reaches (all_tests t leaf vars.Pa) o (λ u. j.tested vars.Pa u);
      may = λ e m. g.meets.may e (rest_in e m);
      free = λ e m. g.meets.free e (rest_in e m);
      coherent = λ e h m n none q. (λ w. g.meets.once e h (rest_in e m) (rest_in h n) none q w, g.agree e h (rest_in e m) (rest_in h n) none q);
      one_role = λ e m none q.
          let place = word_place pa (pa_aligned t walk pa f) in
          let same : Fetched ≡ entry_label e = g.meets.once (code_entry t pa x) e code_in (rest_in e m) (ap k place ∙ none) (place ∙ q) refl in
          let n : 2 ≡ question_number e.question = ap label_number same in
          let late = (later e m).1 in absurd (omega (arith, n, late));
      apart = subst (λ (z : List Access). (y w : Access) → HasItem z y → HasItem z w → Meet y w → breaks true y.role w.role ≡ false) (ap (λ (z : List Entry). accesses_in z) l ∙ front_accesses t walk pa op x rest) g.meets.apart;
      first = g.is slots.FirstPte ∙ ap (λ (o : Option Entry). new_value k o) (shown_label DataRoot (omega arith));
      second = g.is slots.SecondPte ∙ ap (λ (o : Option Entry). new_value k o) (shown_label DataSecond (omega arith));
      data_word = g.is slots.DataWord ∙ ap (λ (o : Option Entry). new_value k o) (shown_label DataWord (omega arith));
      old = g.is slots.OldCsr ∙ ap (λ (o : Option Entry). old_csr t.fixed i o) (shown_label FromCsr (omega arith));
      vector = g.is slots.Vector ∙ ap (λ (o : Option Entry). new_value k o) (shown_label FromVector (omega arith));
    } in
    let has = owed.fits x is ea outcome (is_reached o) does (j.tested vars.Ea) in
    let way : Way = has.way in
    let e : shape_of op way ≡ s = ap (λ (n : ℕ). shape_with op n way.reaches) has.outcome_is ∙ ap (λ (b : Bool). shape_with op outcome b) has.reaches_is in
    let asks : AsksUsed t s x = subst (λ (z : Shape). AsksUsed t z x) e (owed.asks x is way has.is has.fits) in
    let aks : asks_a t op x ≡ uses_rs1 s = asks.first in
    let bks : asks_b op ≡ uses_rs2 s = asks.second in
    let has_uses : has_address (row_of op) ≡ true → uses_rs1 s ≡ true = λ h. sym aks ∙ address_asks (row_of op) t.fixed i h in
    let fields = read_fields (code_at t pa) op x op_is number d in
    let a_small : uses_rs1 s ≡ true → ltb (x slots.A) (2 ^ 32) ≡ true = λ u.
    lt-ltb _ _ (subst (λ (n : ℕ). n < 2 ^ 32) (a0 (aks ∙ u)) (told_small t i (a_entry t x) words (g.meets.may (a_entry t x) (in_log (a_entry t x) (in_a t walk pa op x rest (aks ∙ u)))) (known_or_new (k (Reg (x slots.Rs1))) (x slots.A)))) in
    let b_small : uses_rs2 s ≡ true → ltb (x slots.B) (2 ^ 32) ≡ true = λ u.
    lt-ltb _ _ (subst (λ (n : ℕ). n < 2 ^ 32) (b0 (bks ∙ u)) (told_small t i (b_entry t x) words (g.meets.may (b_entry t x) (in_log (b_entry t x) (in_b t walk pa op x rest (bks ∙ u)))) (known_or_new (k (Reg (x slots.Rs2))) (x slots.B)))) in
    let ea_small : uses_address s ≡ true → ltb (x slots.Ea) (2 ^ 32) ≡ true = λ u.
    lt-ltb _ _ (let z = ea_sum (has_address (row_of op)) (uses_rs1 s) (x slots.A) (x slots.Imm) (x slots.Ea) u ea in subst (λ (n : ℕ). n < 2 ^ 32) (sym z) (omega arith)) in
    let base : (slot : Slot) → base_domain t pa leaf s slot (x slot) ≡ true = each_slot (λ slot. base_domain t pa leaf s slot (x slot) ≡ true) (record {
      op_slot = and_from _ _ fields.op_in (ap (λ (n : ℕ). all_tests t leaf vars.Op n) number ∙ j.tested vars.Op refl);
      rs1_slot = and_from _ _ fields.rs1_in (unless_from (uses s vars.Rs1) _ (j.tested vars.Rs1));
      rs2_slot = and_from _ _ fields.rs2_in (unless_from (uses s vars.Rs2) _ (j.tested vars.Rs2));
      imm_slot = and_from _ _ fields.imm_in (unless_from (uses s vars.Imm) _ (j.tested vars.Imm));
      rd_slot = and_from _ _ fields.rd_in (unless_from (uses s vars.Rd) _ (j.tested vars.Rd));
      csr_slot = and_from _ _ fields.csr_in (unless_from (uses s vars.Csr) _ (j.tested vars.Csr));
      ea_slot = or_from (uses_address s) _ (x slots.Ea) (λ u. and_from _ _ (ea_small u) (j.tested vars.Ea u)) (λ n. ea_unused (has_address (row_of op)) (uses_rs1 s) (x slots.A) (x slots.Imm) (x slots.Ea) has_uses n ea);
      a_slot = or_from (uses_rs1 s) _ (x slots.A) (λ u. and_from _ _ (a_small u) (j.tested vars.A u)) (λ n. a1 (aks ∙ n));
      b_slot = or_from (uses_rs2 s) _ (x slots.B) (λ u. and_from _ _ (b_small u) (j.tested vars.B u)) (λ n. b1 (bks ∙ n));
      first_slot = refl;
      second_slot = refl;
      data_slot = refl;
      old_slot = refl;
      vector_slot = refl;
    }) in
    let sources : sources_hold t s x ≡ true =
    and_from _ _ (unless_from (uses_rs1 s) _ (λ u. and_from _ _ (holding (k (Reg (x slots.Rs1))) (x slots.A) (a0 (aks ∙ u)))
    (or_some (k (Reg (x slots.Rs1))) (may_be_source t i) (λ none. (and_parts _ _ (g.meets.may (a_entry t x) (in_log (a_entry t x) (in_a t walk pa op x rest (aks ∙ u))) none)).1))))
    (and_from _ _ (unless_from (uses_rs2 s) _ (λ u. holding (k (Reg (x slots.Rs2))) (x slots.B) (b0 (bks ∙ u))))
    (and_from _ _ (unless_from (uses_rs1 s && uses_rs2 s) _ (λ u.
    let us = and_parts (uses_rs1 s) (uses_rs2 s) u in
    link (x slots.A) (x slots.B) (x slots.Rs1) (x slots.Rs2) (λ q.
    sym (a0 (aks ∙ us.0)) ∙ known_same k (Reg (x slots.Rs1)) (Reg (x slots.Rs2)) (x slots.A) (x slots.B) (ap (λ (m : ℕ). Reg m) q) (λ none.
    g.agree (a_entry t x) (b_entry t x) (in_log (a_entry t x) (in_a t walk pa op x rest (aks ∙ us.0))) (in_log (b_entry t x) (in_b t walk pa op x rest (bks ∙ us.1))) none (ap (λ (m : ℕ). Reg m) q)) ∙ b0 (bks ∙ us.1))))
    (unless_from (uses_address s) _ (λ u. eq-eqb _ _ (sym (ea_sum (has_address (row_of op)) (uses_rs1 s) (x slots.A) (x slots.Imm) (x slots.Ea) u ea)))))) in
    let hold : atoms_hold t leaf s x ≡ true = and_from _ _ (sym (all_without s t.fixed.pc p x leaf plain) ∙ j.relates) (unless_from (uses s vars.Target) _ (j.tested vars.Target)) in
    let posed : is_posed t walk pa leaf s ≡ true =
    and_from _ _ (and_from _ _ (hold_all (is_free_entry t) walk (λ e m. g.meets.free e (in_log e (in_walk t walk pa op x rest e m))))
    (and_from _ _ (g.meets.free (code_entry t pa x) code_in) (may_code t pa x (pa_aligned t walk pa f) (g.meets.may (code_entry t pa x) code_in))))
    (and_from _ _ j.judged (j.tested vars.Outcome refl)) in
    way_fits t walk pa leaf op ways x way has.is (subst (λ (z : Shape). is_posed t walk pa leaf z ≡ true) (sym e) posed) (record {
      op = number;
      each = λ slot. and_from _ _ (subst (λ (z : Shape). base_domain t pa leaf z slot (x slot) ≡ true) (sym e) (base slot)) (has.fits.each slot);
      holds = and_from _ _ (subst (λ (z : Shape). sources_hold t z x ≡ true) (sym e) sources) (and_from _ _ (subst (λ (z : Shape). atoms_hold t leaf z x ≡ true) (sym e) hold) has.fits.holds);
    })

-- THE LAW OF AN OPERATION
pub law : (t : Turn) (walk : List Entry) (pa : ℕ) (leaf : List Atom) (op : Op) (ways : List Way) → IsFetched t walk pa → AreWords t.known → ((atom : Atom) → HasItem leaf atom → IsPlain atom) → IsWays t walk pa leaf op ways
    → OneToOne (Fits (cases_of t walk pa leaf op ways)) (λ new. (w : IsCandidate t leaf new) × (w.instr.op ≡ op)) (new_places t.fixed t.known) (λ new w. assigned t.fixed t.known w.0.instr w.0.log)
law t walk pa leaf op ways f words plain owed =
    law_from t leaf (Fits (cases_of t walk pa leaf op ways)) (λ i. i.op ≡ op) (settled t walk pa f)
    (fits_good t walk pa leaf op ways f plain owed) (good_fits t walk pa leaf op ways f words plain owed)
