-- The law of stores.
use Rattle.std.proofs.Common.{◌≡◌, ℕ, zero, suc, ◌/◌, ◌≤◌, ◌⊎◌, ◌||◌, not, append_assoc, if◌then◌else◌, ◌+◌, ◌%◌, ◌^◌, ◌<◌, Bool, true, false, eqb, List, [], ◌∷◌, ◌++◌, Option, Some, None, refl, sym, ap, ◌∙◌, subst, inl, inr, arith}
use Rattle.std.proofs.lemmas.Bool.{eq-eqb, eqb-true, eqb-false, cases_Bool, and_parts, and_from, lt-ltb, ltb-true, le-leb, leb-true}
use Rattle.std.specs.List.{list_all}
use Rattle.rv_isa.specs.declared.instruction.Instr.{Instr}
use Rattle.rv_isa.specs.declared.operation.Op.{Op}
use Rattle.rv_isa.specs.declared.operation.Op.TheVariants.{Lb, Lbu, Lh, Lhu, Sb, Sh}
use Rattle.rv_isa.specs.declared.table.Row.{Row}
use Rattle.rv_isa.specs.declared.table.Row.TheVariants.{R, I, Shift, S, B, U, J, Csr as CsrRow, CsrImmediate, FenceSets, AddressFence, Fixed as Whole, DefinedIllegal}
use Rattle.rv_isa.specs.Encoding.{word_of}
use Rattle.rv_isa.specs.Fields.{is_store, has_address}
use Rattle.rv_isa.specs.Table.{row_of}
use Rattle.rv_csr.specs.declared.cause.Cause.TheVariants.{StoreMisaligned}
use Rattle.rv_script.specs.declared.access.Access.{Access}
use Rattle.rv_script.specs.declared.access.Role.{Role}
use Rattle.rv_script.specs.declared.access.Role.TheVariants.{Fetch, Walk, Load, Store}
use Rattle.rv_script.specs.Bytes.{covers, is_look, any_byte}
use Rattle.rv_script.specs.Script.{Label, Label.FetchRoot, Label.FetchSecond, Label.Fetched, Label.FromRs1, Label.FromRs2, Label.FromCsr, Label.DataRoot, Label.DataSecond, Label.DataWord, Label.FromVector, Question, Question.OfRegister, Question.OfCsr, Question.OfMemory, Question.ToMemory, access_of, role_of, Script}
use Rattle.foot_map.specs.Races.{breaks, is_code}
use Rattle.sv_walk.specs.Translation.{Reached, At}
use Rattle.rv_script.specs.Folds.{Answer, Answer.Does, Entry}
use Rattle.rv_script.specs.Lists.{HasItem}
use Rattle.sv_walk.specs.declared.entry.Kind.TheVariants.{Store as ForStore}
use Rattle.rv_hart.specs.declared.record.Change.{Change}
use Rattle.rv_hart.specs.Fixed.{Fixed}
use Rattle.rv_hart.specs.Machine.{at_address, data_view, size_of, store_at, store_to}
use Rattle.rv_hart.specs.Privileged.{retired, trap}
use Rattle.fd_prob.specs.declared.slot.Slot.TheVariants as slots
use Rattle.leaf_link.specs.Turns.{Turn}
use Rattle.leaf_link.specs.Values.{Values, address_if, given_by, has_csr_operand, instr_in}
use Rattle.rv_script.specs.Labels.{label_number, question_number}
use Rattle.rv_script.specs.Logs.{answer_told, log_of, by_answers}
use Rattle.leaf_link.specs.Candidates.{accesses_in}
use Rattle.leaf_link.specs.Cases.{fetch_entry}
use Rattle.leaf_link.specs.Ways.{HasAddress, IsFetched, IsOf, step_accesses}
use Rattle.rv_hart.specs.Rests.{rest}
use Rattle.leaf_link.specs.Reaching.{StoresAreExact, data_walk, store_apart, store_question, store_ways}
use Rattle.leaf_link.proofs.Accessing.{IsData, data_is_ways}
use Rattle.leaf_link.proofs.Reaching.{data_script, walk_numbers}
use Rattle.leaf_link.proofs.Resting.{accessed, in_one, looks_apart}
use Rattle.sv_walk.proofs.Offsets.{offset_kept}
use Rattle.rv_script.proofs.Plays.{entry}
use Rattle.rv_script.proofs.Items.{has_either, has_first, has_second}
use Rattle.leaf_link.proofs.Front.{all_hold, hold_all, accesses_then, rest_of, walk_first}
use Rattle.leaf_link.proofs.Operations.{all_asked, exact, if_no, if_yes}

pub store_rest : (row : Row) → is_store row ≡ true → (f : Fixed) (word : ℕ) (i : Instr) (a b : ℕ) → rest row f word i a b ≡ store_to f word i ((a + i.imm) % 2 ^ 32) b
store_rest (S opcode funct3) h f word i a b = refl
store_rest (I opcode funct3) h f word i a b = absurd (cc)
store_rest (R opcode funct3 funct7) h f word i a b = absurd (cc)
store_rest (Shift opcode funct3 funct7) h f word i a b = absurd (cc)
store_rest (B opcode funct3) h f word i a b = absurd (cc)
store_rest (U opcode) h f word i a b = absurd (cc)
store_rest (J opcode) h f word i a b = absurd (cc)
store_rest (CsrRow opcode funct3) h f word i a b = absurd (cc)
store_rest (CsrImmediate opcode funct3) h f word i a b = absurd (cc)
store_rest (FenceSets opcode funct3) h f word i a b = absurd (cc)
store_rest (AddressFence opcode funct3 funct7) h f word i a b = absurd (cc)
store_rest (Whole bits) h f word i a b = absurd (cc)
store_rest DefinedIllegal h f word i a b = absurd (cc)

store_has : (row : Row) → is_store row ≡ true → (has_address row ≡ true) × (has_csr_operand row ≡ false)
store_has (S opcode funct3) h = (h, refl)
store_has (I opcode funct3) h = absurd (cc)
store_has (R opcode funct3 funct7) h = absurd (cc)
store_has (Shift opcode funct3 funct7) h = absurd (cc)
store_has (B opcode funct3) h = absurd (cc)
store_has (U opcode) h = absurd (cc)
store_has (J opcode) h = absurd (cc)
store_has (CsrRow opcode funct3) h = absurd (cc)
store_has (CsrImmediate opcode funct3) h = absurd (cc)
store_has (FenceSets opcode funct3) h = absurd (cc)
store_has (AddressFence opcode funct3 funct7) h = absurd (cc)
store_has (Whole bits) h = absurd (cc)
store_has DefinedIllegal h = absurd (cc)

address_of : (op : Op) (x : Values) → is_store (row_of op) ≡ true → HasAddress op x → x slots.Ea ≡ (x slots.A + x slots.Imm) % 2 ^ 32
address_of op x h ea = ea ∙ ap (λ (b : Bool). address_if b (x slots.A) (x slots.Imm)) (store_has (row_of op) h).0

-- the script of a store, with the address in the open
store_script : (t : Turn) (op : Op) (x : Values) → is_store (row_of op) ≡ true → IsOf op x → HasAddress op x
    → rest_of t op x (x slots.A) (x slots.B) ≡ (if eqb (x slots.Ea % size_of op) 0 then at_address t.fixed (word_of (instr_in x)) (data_view t.fixed) ForStore (x slots.Ea) (store_at t.fixed (word_of (instr_in x)) (instr_in x) (x slots.B)) else trap t.fixed (word_of (instr_in x)) StoreMisaligned (x slots.Ea))
store_script t op x h is ea =
    let w : ℕ = word_of (instr_in x) in
    store_rest (row_of op) h t.fixed w (instr_in x) (x slots.A) (x slots.B)
    ∙ ap (λ (n : ℕ). store_to t.fixed w (instr_in x) n (x slots.B)) (sym (address_of op x h ea))
    ∙ ap (λ (o : Op). if eqb (x slots.Ea % size_of o) 0 then at_address t.fixed w (data_view t.fixed) ForStore (x slots.Ea) (store_at t.fixed w (instr_in x) (x slots.B)) else trap t.fixed w StoreMisaligned (x slots.Ea)) is.op_is

abbrev pub store_change : Turn → Values → ℕ → ℕ → Change
store_change t x p v = retired t.fixed.pc (word_of (instr_in x)) None

-- BYTES
not_yes : (b : Bool) → not b ≡ true → b ≡ true → ⊥
not_yes true h k = cc
not_yes false h k = cc

or_first : (a b : Bool) → a ≡ true → (a || b) ≡ true
or_first true b h = refl
or_first false b h = absurd (cc)

or_second : (a b : Bool) → b ≡ true → (a || b) ≡ true
or_second true b h = refl
or_second false b h = h

-- some byte of so many passes where one of them does, and only then
byte_any : (n addr b : ℕ) (test : ℕ → Bool) → addr ≤ b → b < addr + n → test b ≡ true → any_byte n addr test ≡ true
byte_any zero addr b test low high h = absurd (omega (arith, low, high))
byte_any (suc n) addr b test low high h = elim (cases_Bool (eqb addr b)) [
  | inl y ↦ or_first (test addr) (any_byte n (addr + 1) test) (ap test (eqb-true addr b y) ∙ h)
  | inr none ↦ or_second (test addr) (any_byte n (addr + 1) test) (byte_any n (addr + 1) b test (omega (arith, low, eqb-false addr b none)) (omega (arith, high)) h)
]

any_has : (n addr : ℕ) (test : ℕ → Bool) → any_byte n addr test ≡ true → (b : ℕ) × (addr ≤ b) × (b < addr + n) × (test b ≡ true)
any_has zero addr test h = absurd (cc)
any_has (suc n) addr test h = elim (cases_Bool (test addr)) [
  | inl y ↦ (addr, omega arith, omega arith, y)
  | inr none ↦
      let r = any_has n (addr + 1) test (subst (λ (b : Bool). (b || any_byte n (addr + 1) test) ≡ true) none h) in
      (r.0, omega (arith, r.1), omega (arith, r.2), r.3)
]

-- a byte of an aligned access is in its word
sizes : (op : Op) → (size_of op ≡ 1) ⊎ ((size_of op ≡ 2) ⊎ (size_of op ≡ 4))
sizes Lb = inl refl
sizes Lbu = inl refl
sizes Sb = inl refl
sizes Lh = inr (inl refl)
sizes Lhu = inr (inl refl)
sizes Sh = inr (inl refl)
sizes _ = inr (inr refl)

in_word_1 : (p b : ℕ) → p ≤ b → b < p + 1 → b / 4 ≡ p / 4
in_word_1 p b l h = let e : b ≡ p = omega (arith, l, h) in ap (λ n. n / 4) e

in_word_2 : (p ea b : ℕ) → p % 4 ≡ ea % 4 → ea % 2 ≡ 0 → p ≤ b → b < p + 2 → b / 4 ≡ p / 4
in_word_2 p ea b k a l h = omega (arith, k, a, l, h)

in_word_4 : (p ea b : ℕ) → p % 4 ≡ ea % 4 → ea % 4 ≡ 0 → p ≤ b → b < p + 4 → b / 4 ≡ p / 4
in_word_4 p ea b k a l h = omega (arith, k, a, l, h)

in_word_of : (op : Op) (p ea b : ℕ) → p % 4 ≡ ea % 4 → eqb (ea % size_of op) 0 ≡ true → p ≤ b → b < p + size_of op → b / 4 ≡ p / 4
in_word_of op p ea b k a l h = elim (sizes op) [
  | inl e ↦ in_word_1 p b l (subst (λ (n : ℕ). b < p + n) e h)
  | inr r ↦ elim r [
    | inl e ↦ in_word_2 p ea b k (eqb-true _ _ (subst (λ (n : ℕ). eqb (ea % n) 0 ≡ true) e a)) l (subst (λ (n : ℕ). b < p + n) e h)
    | inr e ↦ in_word_4 p ea b k (eqb-true _ _ (subst (λ (n : ℕ). eqb (ea % n) 0 ≡ true) e a)) l (subst (λ (n : ℕ). b < p + n) e h)
  ]
]

-- THE ACCESSES BEFORE THE STORE
-- what a step fetches and walks has such a role
code_access : (q : Question) (v : ℕ) (y : Access) → question_number q < 8 → (question_number q < 3) ⊎ (6 ≤ question_number q) → access_of q v ≡ Some y → is_code y.role ≡ true
code_access (OfRegister label n) v y h k a = absurd (cc)
code_access (OfCsr label addr) v y h k a = absurd (cc)
code_access (ToMemory addr size value) v y h k a = absurd (omega (arith, h))
code_access (OfMemory label addr size) v y h k a =
    let e : role_of label ≡ y.role = ap (λ (o : Option Access). elim o [ None ↦ role_of label | Some z ↦ z.role ]) a in
    subst (λ (r : Role). is_code r ≡ true) e (code_label label h k)
  where
    code_label : (l : Label) → label_number l < 8 → (label_number l < 3) ⊎ (6 ≤ label_number l) → is_code (role_of l) ≡ true
    code_label FetchRoot h k = refl
    code_label FetchSecond h k = refl
    code_label Fetched h k = refl
    code_label DataRoot h k = refl
    code_label DataSecond h k = refl
    code_label FromRs1 h k = absurd (elim k [ inl a ↦ omega (arith, a) | inr a ↦ omega (arith, a) ])
    code_label FromRs2 h k = absurd (elim k [ inl a ↦ omega (arith, a) | inr a ↦ omega (arith, a) ])
    code_label FromCsr h k = absurd (elim k [ inl a ↦ omega (arith, a) | inr a ↦ omega (arith, a) ])
    code_label DataWord h k = absurd (omega (arith, h))
    code_label FromVector h k = absurd (omega (arith, h))

code_store : (r : Role) → is_code r ≡ true → breaks true r Store ≡ true
code_store Fetch h = refl
code_store Walk h = refl
code_store Load h = absurd (cc)
code_store Store h = absurd (cc)

store_code : (r : Role) → is_code r ≡ true → breaks true Store r ≡ true
store_code Fetch h = refl
store_code Walk h = refl
store_code Load h = absurd (cc)
store_code Store h = absurd (cc)

code_looks : (r : Role) → is_code r ≡ true → is_look r ≡ true
code_looks Fetch h = refl
code_looks Walk h = refl
code_looks Load h = absurd (cc)
code_looks Store h = absurd (cc)

abbrev pub the_store : Op → Values → ℕ → Access
the_store op x p = record { role = Store; addr = p; size = size_of op; value = x slots.B % 256 ^ size_of op }

-- the accesses of the step: those before the store, and the store
store_split : (t : Turn) (walk : List Entry) (pa w : ℕ) (op : Op) (x : Values) (p v : ℕ) (log : List Entry)
    → step_accesses t walk pa w (log ++ entry (store_question op x p) v ∷ []) ≡ step_accesses t walk pa w log ++ the_store op x p ∷ []
store_split t walk pa w op x p v log =
    let e : Entry = entry (store_question op x p) v in
    ap (λ (l : List Entry). accesses_in l) (sym (append_assoc walk (fetch_entry t pa w ∷ log) (e ∷ []))) ∙ accesses_then (walk ++ fetch_entry t pa w ∷ log) (e ∷ [])

before_code : (t : Turn) (walk : List Entry) (pa w : ℕ) (x : Values) (log : List Entry) (end : Reached) → IsFetched t walk pa → answer_told (by_answers t.known (given_by x)) (data_script t ForStore x) ≡ Does log end
    → (y : Access) → HasItem (step_accesses t walk pa w log) y → is_code y.role ≡ true
before_code t walk pa w x log end f h y i =
    let a = accessed (walk ++ fetch_entry t pa w ∷ log) y i in
    elim (has_either walk (fetch_entry t pa w ∷ log) a.0 a.1) [
      | inl j ↦ let n = walk_first t walk pa f a.0 j in code_access a.0.question a.0.value y (omega (arith, n)) (inl (omega (arith, n))) a.2
      | inr j ↦ elim j [
        | inl same ↦ subst (λ (e : Entry). access_of e.question e.value ≡ Some y → is_code y.role ≡ true) same (λ k. code_access (OfMemory Fetched pa 4) w y (omega arith) (inl (omega arith)) k) a.2
        | inr k ↦ let n = walk_numbers t ForStore x (by_answers t.known (given_by x)) log end (record { root = refl; second = refl }) h a.0 k in code_access a.0.question a.0.value y n.1 (inr n.0) a.2
      ]
    ]

-- what a byte of the store is
store_covers : (op : Op) (x : Values) (p b : ℕ) → covers (the_store op x p) b ≡ true → (p ≤ b) × (b < p + size_of op)
store_covers op x p b h =
    let a = and_parts _ _ h in
    let c = and_parts _ _ a.1 in
    (leb-true _ _ c.0, ltb-true _ _ c.1)

covers_store : (op : Op) (x : Values) (p b : ℕ) → b / 4 ≡ p / 4 → p ≤ b → b < p + size_of op → covers (the_store op x p) b ≡ true
covers_store op x p b w l h = and_from _ _ (eq-eqb _ _ w) (and_from _ _ (le-leb _ _ l) (lt-ltb _ _ h))

store_keeps : (t : Turn) (walk : List Entry) (pa : ℕ) (op : Op) (x : Values) (p : ℕ) (log : List Entry) → data_walk t ForStore x ≡ log → store_apart t walk pa op x p ≡ true
    → (y : Access) → HasItem (step_accesses t walk pa (word_of (instr_in x)) log) y → (b : ℕ) → covers y b ≡ true → covers (the_store op x p) b ≡ true → ⊥
store_keeps t walk pa op x p log same ok y i b cy cs =
    let test : not (any_byte (size_of op) p (covers y)) ≡ true =
    all_hold (λ z. not (any_byte (size_of op) p (covers z))) (step_accesses t walk pa (word_of (instr_in x)) log)
    (subst (λ (l : List Entry). list_all (λ z. not (any_byte (size_of op) p (covers z))) (accesses_in (walk ++ fetch_entry t pa (word_of (instr_in x)) ∷ l)) ≡ true) same ok) y i in
    let r = store_covers op x p b cs in
    not_yes _ test (byte_any (size_of op) p b (covers y) r.0 r.1 cy)

pub store_is_data : (t : Turn) (walk : List Entry) (pa : ℕ) (op : Op) → IsFetched t walk pa → is_store (row_of op) ≡ true → IsData t walk pa op ForStore StoreMisaligned (store_question op) (store_apart t walk pa op)
unfolding at_address store_at
store_is_data t walk pa op f h = record {
  labels = record { root = refl; second = refl };
  change = store_change t;
  reached = λ x is ea al. store_script t op x h is ea ∙ if_yes (eqb (x slots.Ea % size_of op) 0) _ _ al
      ∙ ap (λ (o : Op). Rattle.rv_script.specs.Script.◌>>=◌ (data_script t ForStore x) (Rattle.rv_hart.specs.Machine.arriving t.fixed (word_of (instr_in x)) (x slots.Ea) (λ p. Rattle.rv_script.specs.Script.Script.Ask (ToMemory p (size_of o) (x slots.B % 256 ^ size_of o)) (λ v. Rattle.rv_script.specs.Script.Script.Done (store_change t x p v))))) is.op_is;
  misses = λ x is ea al. store_script t op x h is ea ∙ if_no (eqb (x slots.Ea % size_of op) 0) _ _ al;
  small = λ x ea. subst (λ (n : ℕ). n < 2 ^ 32) (sym (address_of op x h ea)) (omega arith);
  word = λ x p v. refl;
  outcome = λ x p v. refl;
  label = λ x p. refl;
  place = λ x p. refl;
  free = λ x p v. refl;
  access = λ x p v. (_, refl, refl, refl);
  addressed = (store_has (row_of op) h).0;
  no_operand = (store_has (row_of op) h).1;
  asks = all_asked t op (store_has (row_of op) h).1;
  cause = refl;
  apart_does = λ x p v log al plays ok y z i j m.
      let same : data_walk t ForStore x ≡ log = ap (λ (a : Answer Entry Reached). log_of a) plays in
      let w : ℕ = word_of (instr_in x) in
      let st : Access = the_store op x p in
      let code = before_code t walk pa w x log (At p) f plays in
      let keeps = store_keeps t walk pa op x p log same ok in
      elim (has_either (step_accesses t walk pa w log) (st ∷ []) y (subst (λ (l : List Access). HasItem l y) (store_split t walk pa w op x p v log) i)) [
        | inl a ↦ elim (has_either (step_accesses t walk pa w log) (st ∷ []) z (subst (λ (l : List Access). HasItem l z) (store_split t walk pa w op x p v log) j)) [
          | inl b ↦ looks_apart y.role z.role (code_looks y.role (code y a)) (code_looks z.role (code z b))
          | inr b ↦ absurd (keeps y a m.0 m.1 (ap (λ (q : Access). covers q m.0) (in_one st z b) ∙ m.2))
        ]
        | inr a ↦ elim (has_either (step_accesses t walk pa w log) (st ∷ []) z (subst (λ (l : List Access). HasItem l z) (store_split t walk pa w op x p v log) j)) [
          | inl b ↦ absurd (keeps z b m.0 m.2 (ap (λ (q : Access). covers q m.0) (in_one st y a) ∙ m.1))
          | inr b ↦ ap (λ (q : Access). breaks true q.role z.role) (sym (in_one st y a)) ∙ ap (λ (q : Access). breaks true Store q.role) (sym (in_one st z b))
        ]
      ];
  apart_fits = λ x p v log al plays all.
      let same : data_walk t ForStore x ≡ log = ap (λ (a : Answer Entry Reached). log_of a) plays in
      let w : ℕ = word_of (instr_in x) in
      let st : Access = the_store op x p in
      let code = before_code t walk pa w x log (At p) f plays in
      let offset : p % 4 ≡ x slots.Ea % 4 = offset_kept t.fixed.ram (data_view t.fixed) ForStore (x slots.Ea) (by_answers t.known (given_by x)) log p plays in
      subst (λ (l : List Entry). list_all (λ z. not (any_byte (size_of op) p (covers z))) (accesses_in (walk ++ fetch_entry t pa w ∷ l)) ≡ true) (sym same)
      (hold_all (λ z. not (any_byte (size_of op) p (covers z))) (step_accesses t walk pa w log) (λ y i. elim (cases_Bool (any_byte (size_of op) p (covers y))) [
        | inl some ↦
            let b = any_has (size_of op) p (covers y) some in
            let c : covers st b.0 ≡ true = covers_store op x p b.0 (in_word_of op p (x slots.Ea) b.0 offset al b.1 b.2) b.1 b.2 in
            let iy = subst (λ (l : List Access). HasItem l y) (sym (store_split t walk pa w op x p v log)) (has_first (step_accesses t walk pa w log) (st ∷ []) y i) in
            let is = subst (λ (l : List Access). HasItem l st) (sym (store_split t walk pa w op x p v log)) (has_second (step_accesses t walk pa w log) (st ∷ []) st (inl refl)) in
            let apart : breaks true y.role Store ≡ false = all y st iy is (b.0, b.3, c) in
            let both : breaks true y.role Store ≡ true = code_store y.role (code y i) in absurd (cc)
        | inr none ↦ ap not none
      ]));
}

pub stores_are_exact : StoresAreExact
stores_are_exact t walk pa leaf pages rows p has_pages are op h =
    exact t walk pa leaf op (store_ways t walk pa leaf op rows) p (data_is_ways t walk pa leaf op ForStore StoreMisaligned (store_question op) (store_apart t walk pa op) p.fetched (store_is_data t walk pa op p.fetched h) pages rows has_pages are)
