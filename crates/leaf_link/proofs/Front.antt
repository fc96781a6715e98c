-- A step is its fetch, its source registers and the rest.
use Rattle.std.proofs.Common.{◌≡◌, ℕ, if◌then◌else◌, ◌-◌, ◌/◌, ◌%◌, ◌^◌, ◌<◌, ◌⊎◌, Bool, true, false, eqb, List, [], ◌∷◌, ◌++◌, Option, Some, None, refl, sym, ap, ◌∙◌, subst, inl, inr, arith}
use Rattle.std.specs.List.{list_all}
use Rattle.std.proofs.lemmas.Bool.{and_from, and_parts, ne_eqb}
use Rattle.rv_isa.specs.declared.instruction.Instr.{Instr}
use Rattle.rv_isa.specs.declared.operation.Op.{Op}
use Rattle.rv_isa.specs.Encoding.{word_of}
use Rattle.rv_isa.specs.Fields.{reads_rs2}
use Rattle.rv_isa.specs.Reading.{decoded}
use Rattle.rv_isa.specs.Table.{row_of}
use Rattle.rv_isa.proofs.Codec.{encoded_read, encoded_below}
use Rattle.rv_script.specs.declared.access.Access.{Access}
use Rattle.rv_script.specs.declared.place.Place.{Place}
use Rattle.rv_script.specs.declared.place.Place.TheVariants.{Reg, Word}
use Rattle.rv_script.specs.Lists.{HasItem}
use Rattle.rv_script.specs.Script.{Label, Label.Fetched, Label.FromRs1, Label.FromRs2, Question, Question.OfMemory, Question.OfRegister, place_of, told as told_of, access_of, Script}
use Rattle.rv_script.specs.Folds.{Known, Teller, by_known, Answer, Answer.Does, Answer.Missing, Answer.Nowhere, prefixed, Entry, on_note}
use Rattle.sv_walk.specs.declared.entry.Kind.TheVariants.{Fetch as ForFetch}
use Rattle.sv_walk.specs.Translation.{At, translated}
use Rattle.rv_hart.specs.declared.record.Change.{Change}
use Rattle.rv_hart.specs.Fixed.{Fixed}
use Rattle.rv_hart.specs.Machine.{arriving, at_address, effect, fetch_view, fetched_at, instruction, script}
use Rattle.fd_prob.specs.declared.slot.Slot.TheVariants as slots
use Rattle.rv_script.specs.Labels.{label_number, question_number}
use Rattle.rv_script.specs.Logs.{entry_place, answer_told, labelled, value_or, or_given, by_answers, answer, or_else, enlarged}
use Rattle.leaf_link.specs.Turns.{Turn}
use Rattle.leaf_link.specs.Values.{Values, instr_in, given_by}
use Rattle.leaf_link.specs.Candidates.{accesses_in}
use Rattle.leaf_link.specs.Cases.{fetch_entry}
use Rattle.leaf_link.specs.Ways.{IsFetched}
use Rattle.rv_hart.specs.Rests.{ask_if, asks_rs1, rest, in_parts}
use Rattle.rv_script.proofs.Plays.{entry, after, after_done, told, play_same, asks, goes_on, numbers_within}
use Rattle.rv_script.proofs.Items.{has_either}
use Rattle.sv_walk.proofs.Offsets.{offset_kept}
use Rattle.sv_walk.proofs.Orders.{translated_between}
use Rattle.rv_hart.proofs.Forms.{effect_in_parts, fetched_between, script_between}
use Rattle.leaf_link.proofs.Links.{IsSettled}

-- LISTS
pub all_hold : {A : Type 0} (test : A → Bool) (xs : List A) → list_all test xs ≡ true → (x : A) → HasItem xs x → test x ≡ true
all_hold test [] h x i = absurd i
all_hold test (y ∷ xs) h x i =
    let hs = and_parts (test y) (list_all test xs) h in
    elim i [ inl a ↦ subst (λ z. test z ≡ true) a hs.0 | inr j ↦ all_hold test xs hs.1 x j ]

pub hold_all : {A : Type 0} (test : A → Bool) (xs : List A) → ((x : A) → HasItem xs x → test x ≡ true) → list_all test xs ≡ true
hold_all test [] h = refl
hold_all test (y ∷ xs) h = and_from _ _ (h y (inl refl)) (hold_all test xs (λ x i. h x (inr i)))

pub prefixed_done : {L A : Type 0} (xs : List L) (r : Answer L A) (log : List L) (a : A) → prefixed xs r ≡ Does log a → (rest : List L) × (r ≡ Does rest a) × (log ≡ xs ++ rest)
prefixed_done xs (Does ys b) log a h = (ys, cc, cc)
prefixed_done xs (Missing q) log a h = absurd (cc)
prefixed_done xs Nowhere log a h = absurd (cc)

pub same_done : {L A : Type 0} (l l' : List L) (a a' : A) → Does l a ≡ Does l' a' → (l ≡ l') × (a ≡ a')
same_done l l' a a' h = (cc, cc)

-- ENTRIES that stand only where they are asked for
abbrev pub only : Bool → Entry → List Entry → List Entry
only true e log = e ∷ log
only false e log = log

abbrev pub chosen : Bool → Entry → Option Entry
chosen true e = Some e
chosen false e = None

pub has_only : (b : Bool) (e : Entry) (log : List Entry) (f : Entry) → HasItem (only b e log) f → ((b ≡ true) × (e ≡ f)) ⊎ HasItem log f
has_only true e log f i = elim i [ inl h ↦ inl (refl, h) | inr h ↦ inr h ]
has_only false e log f i = inr i

pub only_has : (b : Bool) (e : Entry) (log : List Entry) → b ≡ true → HasItem (only b e log) e
only_has true e log h = inl refl
only_has false e log h = absurd (cc)

pub later_has : (b : Bool) (e : Entry) (log : List Entry) (f : Entry) → HasItem log f → HasItem (only b e log) f
later_has true e log f i = inr i
later_has false e log f i = i

pub label_skip : (b : Bool) (e : Entry) (log : List Entry) (l : Label) → eqb (question_number e.question) (label_number l) ≡ false → labelled (only b e log) l ≡ labelled log l
label_skip true e log l h = rw h refl
label_skip false e log l h = refl

pub label_here : (b : Bool) (e : Entry) (log : List Entry) (l : Label) → eqb (question_number e.question) (label_number l) ≡ true → labelled log l ≡ None → labelled (only b e log) l ≡ chosen b e
label_here true e log l h n = rw h refl
label_here false e log l h n = n

pub label_past : (xs ys : List Entry) (l : Label) → ((e : Entry) → HasItem xs e → question_number e.question < label_number l) → labelled (xs ++ ys) l ≡ labelled ys l
label_past [] ys l h = refl
label_past (x ∷ xs) ys l h =
    let no : eqb (question_number x.question) (label_number l) ≡ false = ne_eqb (question_number x.question) (label_number l) (λ same. let k = h x (inl refl) in omega (arith, k, same)) in
    rw no (label_past xs ys l (λ e i. h e (inr i)))

-- ACCESSES
note_then : (o : Option Access) (xs ys zs : List Access) → zs ≡ xs ++ ys → on_note o zs ≡ on_note o xs ++ ys
note_then None xs ys zs h = h
note_then (Some a) xs ys zs h = ap (λ (l : List Access). a ∷ l) h

pub accesses_then : (xs ys : List Entry) → accesses_in (xs ++ ys) ≡ accesses_in xs ++ accesses_in ys
accesses_then [] ys = refl
accesses_then (x ∷ xs) ys = note_then (access_of x.question x.value) (accesses_in xs) (accesses_in ys) (accesses_in (xs ++ ys)) (accesses_then xs ys)

pub accesses_only : (b : Bool) (label : Label) (n v : ℕ) (log : List Entry) → accesses_in (only b (entry (OfRegister label n) v) log) ≡ accesses_in log
accesses_only true label n v log = refl
accesses_only false label n v log = refl

-- THE FETCH
pub pa_aligned : (t : Turn) (walk : List Entry) (pa : ℕ) → IsFetched t walk pa → pa % 4 ≡ 0
pa_aligned t walk pa f = offset_kept t.fixed.ram (fetch_view t.fixed) ForFetch t.fixed.pc (by_known t.known) walk pa f.translates ∙ f.aligned

pub word_place : (pa : ℕ) → pa % 4 ≡ 0 → place_of (OfMemory Fetched pa 4) ≡ Word pa
word_place pa h = ap (λ (n : ℕ). Word (pa - n)) h ∙ ap (λ (n : ℕ). Word n) (omega arith)

told_word : (pa w : ℕ) → pa % 4 ≡ 0 → w < 2 ^ 32 → told_of (OfMemory Fetched pa 4) w ≡ w
told_word pa w h small = ap (λ (n : ℕ). w / 256 ^ n % 256 ^ 4) h ∙ omega (arith, small)

-- who tells what is known gets the same translation
pub walk_told : (t : Turn) (walk : List Entry) (pa : ℕ) → IsFetched t walk pa → (tell : Teller) → ((q : Question) (v : ℕ) → t.known (place_of q) ≡ Some v → tell q ≡ Some v)
    → answer_told tell (translated t.fixed.ram (fetch_view t.fixed) ForFetch t.fixed.pc) ≡ Does walk (At pa)
walk_told t walk pa f tell tells =
    let s = translated t.fixed.ram (fetch_view t.fixed) ForFetch t.fixed.pc in
    play_same s (by_known t.known) tell walk (At pa) f.translates (λ e i. tells e.question e.value (told s (by_known t.known) walk (At pa) f.translates e i))

pub walk_known : (t : Turn) (walk : List Entry) (pa : ℕ) → IsFetched t walk pa → (e : Entry) → HasItem walk e → t.known (entry_place e) ≡ Some e.value
walk_known t walk pa f e i = told (translated t.fixed.ram (fetch_view t.fixed) ForFetch t.fixed.pc) (by_known t.known) walk (At pa) f.translates e i

pub walk_first : (t : Turn) (walk : List Entry) (pa : ℕ) → IsFetched t walk pa → (e : Entry) → HasItem walk e → question_number e.question < 2
walk_first t walk pa f e i =
    (numbers_within 0 2 (translated t.fixed.ram (fetch_view t.fixed) ForFetch t.fixed.pc) (by_known t.known) walk (At pa) (translated_between 0 t.fixed.ram (fetch_view t.fixed) ForFetch t.fixed.pc refl refl) f.translates e i).1

pub script_told : (t : Turn) (walk : List Entry) (pa : ℕ) → IsFetched t walk pa → (tell : Teller) → ((q : Question) (v : ℕ) → t.known (place_of q) ≡ Some v → tell q ≡ Some v)
    → answer_told tell (script t.fixed) ≡ prefixed walk (answer_told tell (fetched_at t.fixed pa))
unfolding script at_address
script_told t walk pa f tell tells =
    goes_on (translated t.fixed.ram (fetch_view t.fixed) ForFetch t.fixed.pc) (arriving t.fixed 0 t.fixed.pc (fetched_at t.fixed)) tell walk (At pa) (walk_told t walk pa f tell tells)

-- the machine's questions come in order, and none of the translation is new
pub settled : (t : Turn) (walk : List Entry) (pa : ℕ) → IsFetched t walk pa → IsSettled t
settled t walk pa f = record {
  ascends = script_between t.fixed;
  walked = λ new log change plays e i none.
      let tell : Teller = by_known (enlarged t.known new) in
      let r = prefixed_done walk (answer_told tell (fetched_at t.fixed pa)) log change
      (sym (script_told t walk pa f tell (λ q v h. ap (λ (o : Option ℕ). or_else o (new (place_of q))) h)) ∙ plays) in
      elim (has_either walk r.0 e (subst (λ (l : List Entry). HasItem l e) r.2 i)) [
        | inl j ↦ let z : t.known (entry_place e) ≡ Some e.value = walk_known t walk pa f e j in absurd (cc)
        | inr j ↦ (numbers_within 2 10 (fetched_at t.fixed pa) tell r.0 change (fetched_between t.fixed pa) r.1 e j).0
      ];
}

-- THE INSTRUCTION
instruction_in_parts : (f : Fixed) (op : Op) (word : ℕ) (i : Instr) → i.op ≡ op → instruction f word (Some i) ≡ in_parts (row_of op) f word i
unfolding instruction
instruction_in_parts f op word i e = ap (λ (o : Op). effect (row_of o) f word i) e ∙ effect_in_parts op f word i

-- the entry of the fetch where its word is that of the instruction
pub fetch_answer : (t : Turn) (pa : ℕ) (x : Values) → pa % 4 ≡ 0 → value_or (t.known (Word pa)) (word_of (instr_in x)) ≡ word_of (instr_in x)
    → answer t.known (given_by x) (OfMemory Fetched pa 4) ≡ fetch_entry t pa (word_of (instr_in x))
fetch_answer t pa x h w = ap (λ (v : ℕ). entry (OfMemory Fetched pa 4) v) (ap (λ (p : Place). value_or (t.known p) (word_of (instr_in x))) (word_place pa h) ∙ w)

pub fetch_plays : (t : Turn) (walk : List Entry) (pa : ℕ) (op : Op) (x : Values) → IsFetched t walk pa → (instr_in x).op ≡ op → decoded (value_or (t.known (Word pa)) (word_of (instr_in x))) ≡ Some (instr_in x)
    → answer_told (by_answers t.known (given_by x)) (script t.fixed)
    ≡ prefixed walk (after (fetch_entry t pa (word_of (instr_in x))) (answer_told (by_answers t.known (given_by x)) (in_parts (row_of op) t.fixed (word_of (instr_in x)) (instr_in x))))
unfolding fetched_at
fetch_plays t walk pa op x f e d =
    let tell : Teller = by_answers t.known (given_by x) in
    let i : Instr = instr_in x in
    let w : ℕ = value_or (t.known (Word pa)) (word_of i) in
    let read = encoded_read w i d in
    let word : w ≡ word_of i = read.word in
    let told : told_of (OfMemory Fetched pa 4) (value_or (t.known (place_of (OfMemory Fetched pa 4))) (word_of i)) ≡ word_of i =
    ap (λ (p : Place). told_of (OfMemory Fetched pa 4) (value_or (t.known p) (word_of i))) (word_place pa (pa_aligned t walk pa f)) ∙ told_word pa w (pa_aligned t walk pa f) (encoded_below w i read) ∙ word in
    let is : decoded (word_of i) ≡ Some i = ap decoded (sym word) ∙ d in
    script_told t walk pa f tell (λ q v h. ap (λ (o : Option ℕ). or_given o (given_by x (Rattle.rv_script.specs.Labels.label_of q))) h)
    ∙ ap (λ (r : Answer Entry Change). prefixed walk r)
    (asks t.known (given_by x) (OfMemory Fetched pa 4) (λ v. instruction t.fixed v (decoded v))
    ∙ ap (λ (n : ℕ). after (answer t.known (given_by x) (OfMemory Fetched pa 4)) (answer_told tell (instruction t.fixed n (decoded n)))) told
    ∙ ap (λ (o : Option Instr). after (answer t.known (given_by x) (OfMemory Fetched pa 4)) (answer_told tell (instruction t.fixed (word_of i) o))) is
    ∙ ap (λ (s : Script Change). after (answer t.known (given_by x) (OfMemory Fetched pa 4)) (answer_told tell s)) (instruction_in_parts t.fixed op (word_of i) i e)
    ∙ ap (λ (z : Entry). after z (answer_told tell (in_parts (row_of op) t.fixed (word_of i) i))) (fetch_answer t pa x (pa_aligned t walk pa f) word))

-- THE SOURCES
pub source_plays : (b : Bool) (k : Known) (given : Label → ℕ) (q : Question) (next : ℕ → Script Change) (x : ℕ) (log : List Entry) (change : Change)
    → ((v : ℕ) → told_of q v ≡ v) → (b ≡ true → value_or (k (place_of q)) (given (Rattle.rv_script.specs.Labels.label_of q)) ≡ x) → (b ≡ false → x ≡ 0) → answer_told (by_answers k given) (next x) ≡ Does log change
    → answer_told (by_answers k given) (ask_if b q next) ≡ Does (only b (answer k given q) log) change
source_plays true k given q next x log change plain one two h =
    asks k given q next ∙ ap (λ (z : ℕ). after (answer k given q) (answer_told (by_answers k given) (next z))) (plain _ ∙ one refl) ∙ ap (λ (z : Answer Entry Change). after (answer k given q) z) h
source_plays false k given q next x log change plain one two h = ap (λ (z : ℕ). answer_told (by_answers k given) (next z)) (sym (two refl)) ∙ h

pub source_back : (b : Bool) (k : Known) (given : Label → ℕ) (q : Question) (next : ℕ → Script Change) (log : List Entry) (change : Change) → ((v : ℕ) → told_of q v ≡ v)
    → answer_told (by_answers k given) (ask_if b q next) ≡ Does log change
    → (rest : List Entry) × (answer_told (by_answers k given) (next (if b then value_or (k (place_of q)) (given (Rattle.rv_script.specs.Labels.label_of q)) else 0)) ≡ Does rest change) × (log ≡ only b (answer k given q) rest)
source_back true k given q next log change plain h =
    let v : ℕ = value_or (k (place_of q)) (given (Rattle.rv_script.specs.Labels.label_of q)) in
    let d = after_done (answer k given q) (answer_told (by_answers k given) (next (told_of q v))) log change (sym (asks k given q next) ∙ h) in
    (d.0, ap (λ (z : ℕ). answer_told (by_answers k given) (next z)) (sym (plain v)) ∙ d.1, d.2)
source_back false k given q next log change plain h = (log, h, refl)

-- THE LOG
abbrev pub a_entry : Turn → Values → Entry
a_entry t x = entry (OfRegister FromRs1 (x slots.Rs1)) (value_or (t.known (Reg (x slots.Rs1))) (x slots.A))

abbrev pub b_entry : Turn → Values → Entry
b_entry t x = entry (OfRegister FromRs2 (x slots.Rs2)) (value_or (t.known (Reg (x slots.Rs2))) (x slots.B))

abbrev pub asks_a : Turn → Op → Values → Bool
asks_a t op x = asks_rs1 (row_of op) t.fixed (instr_in x)

abbrev pub asks_b : Op → Bool
asks_b op = reads_rs2 (row_of op)

abbrev pub front_log : Turn → List Entry → ℕ → Op → Values → List Entry → List Entry
front_log t walk pa op x rest = walk ++ fetch_entry t pa (word_of (instr_in x)) ∷ only (asks_a t op x) (a_entry t x) (only (asks_b op) (b_entry t x) rest)

abbrev pub rest_of : Turn → Op → Values → ℕ → ℕ → Script Change
rest_of t op x a b = rest (row_of op) t.fixed (word_of (instr_in x)) (instr_in x) a b

pub front_plays : (t : Turn) (walk : List Entry) (pa : ℕ) (op : Op) (x : Values) (log : List Entry) (change : Change) → IsFetched t walk pa → (instr_in x).op ≡ op → decoded (value_or (t.known (Word pa)) (word_of (instr_in x))) ≡ Some (instr_in x)
    → (asks_a t op x ≡ true → (a_entry t x).value ≡ x slots.A) → (asks_a t op x ≡ false → x slots.A ≡ 0) → (asks_b op ≡ true → (b_entry t x).value ≡ x slots.B) → (asks_b op ≡ false → x slots.B ≡ 0)
    → answer_told (by_answers t.known (given_by x)) (rest_of t op x (x slots.A) (x slots.B)) ≡ Does log change
    → answer_told (by_answers t.known (given_by x)) (script t.fixed) ≡ Does (front_log t walk pa op x log) change
front_plays t walk pa op x log change f e d a0 a1 b0 b1 h =
    fetch_plays t walk pa op x f e d
    ∙ ap (λ (r : Answer Entry Change). prefixed walk (after (fetch_entry t pa (word_of (instr_in x))) r))
    (source_plays (asks_a t op x) t.known (given_by x) (OfRegister FromRs1 (x slots.Rs1)) (λ a. ask_if (asks_b op) (OfRegister FromRs2 (x slots.Rs2)) (λ b. rest_of t op x a b)) (x slots.A) (only (asks_b op) (b_entry t x) log) change (λ v. refl) a0 a1
    (source_plays (asks_b op) t.known (given_by x) (OfRegister FromRs2 (x slots.Rs2)) (λ b. rest_of t op x (x slots.A) b) (x slots.B) log change (λ v. refl) b0 b1 h))

abbrev pub told_a : Turn → Op → Values → ℕ
told_a t op x = if asks_a t op x then value_or (t.known (Reg (x slots.Rs1))) (x slots.A) else 0

abbrev pub told_b : Turn → Op → Values → ℕ
told_b t op x = if asks_b op then value_or (t.known (Reg (x slots.Rs2))) (x slots.B) else 0

pub front_back : (t : Turn) (walk : List Entry) (pa : ℕ) (op : Op) (x : Values) (log : List Entry) (change : Change) → IsFetched t walk pa → (instr_in x).op ≡ op → decoded (value_or (t.known (Word pa)) (word_of (instr_in x))) ≡ Some (instr_in x)
    → answer_told (by_answers t.known (given_by x)) (script t.fixed) ≡ Does log change
    → (rest : List Entry) × (answer_told (by_answers t.known (given_by x)) (rest_of t op x (told_a t op x) (told_b t op x)) ≡ Does rest change) × (log ≡ front_log t walk pa op x rest)
front_back t walk pa op x log change f e d h =
    let w = fetch_entry t pa (word_of (instr_in x)) in
    let tell : Teller = by_answers t.known (given_by x) in
    let s0 = prefixed_done walk (after w (answer_told tell (in_parts (row_of op) t.fixed (word_of (instr_in x)) (instr_in x)))) log change (sym (fetch_plays t walk pa op x f e d) ∙ h) in
    let s1 = after_done w (answer_told tell (in_parts (row_of op) t.fixed (word_of (instr_in x)) (instr_in x))) s0.0 change s0.1 in
    let s2 = source_back (asks_a t op x) t.known (given_by x) (OfRegister FromRs1 (x slots.Rs1)) (λ a. ask_if (asks_b op) (OfRegister FromRs2 (x slots.Rs2)) (λ b. rest_of t op x a b)) s1.0 change (λ v. refl) s1.1 in
    let s3 = source_back (asks_b op) t.known (given_by x) (OfRegister FromRs2 (x slots.Rs2)) (λ b. rest_of t op x (told_a t op x) b) s2.0 change (λ v. refl) s2.1 in
    (s3.0, s3.1, s0.2 ∙ ap (λ (l : List Entry). walk ++ l) (s1.2 ∙ ap (λ (l : List Entry). w ∷ l) (s2.2 ∙ ap (λ (l : List Entry). only (asks_a t op x) (a_entry t x) l) s3.2)))
