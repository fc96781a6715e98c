-- The law of an operation, in both directions.
use Rattle.std.proofs.Common.{◌≡◌, ℕ, if◌then◌else◌, ◌+◌, ◌%◌, ◌^◌, ◌<◌, ◌&&◌, ◌==◌, ◌||◌, Bool, true, false, eqb, ltb, List, Option, Some, None, refl, sym, ap, ◌∙◌, subst, inl, inr, arith}
use Rattle.std.proofs.lemmas.Bool.{eq-eqb, eqb-true, cases_Bool, and_parts, and_from, lt-ltb, ltb-true}
use Rattle.std.specs.List.{list_all}
use Rattle.rv_isa.specs.declared.instruction.Instr.{Instr}
use Rattle.rv_isa.specs.declared.operation.Op.{Op}
use Rattle.rv_isa.specs.Encoding.{word_of}
use Rattle.rv_isa.specs.Reading.{decoded}
use Rattle.rv_isa.specs.Fields.{reads_rs1, has_address}
use Rattle.rv_isa.specs.Table.{row_of}
use Rattle.rv_isa.proofs.Codec.{encoded_read, encoded_below}
use Rattle.rv_script.specs.declared.access.Access.{Access}
use Rattle.rv_script.specs.declared.place.Place.{Place}
use Rattle.rv_script.specs.declared.place.Place.TheVariants.{Reg, Word}
use Rattle.rv_script.specs.Lists.{HasItem}
use Rattle.rv_script.specs.Script.{Label.Fetched, Label.FromRs1, Label.FromCsr, Label.DataRoot, Label.DataSecond, Label.DataWord, Label.FromVector}
use Rattle.rv_script.specs.Folds.{Known, Answer.Does, Entry}
use Rattle.foot_map.specs.Races.{breaks, Meet}
use Rattle.rv_hart.specs.declared.record.Change.{Change}
use Rattle.rv_hart.specs.Machine.{script}
use Rattle.tpl_ast.specs.declared.template.Atom.{Atom}
use Rattle.tpl_ast.specs.declared.template.Var.{Var}
use Rattle.tpl_ast.specs.declared.template.Var.TheVariants as vars
use Rattle.tpl_admit.specs.Variables.{data_address}
use Rattle.fd_prob.specs.declared.slot.Slot.{Slot}
use Rattle.fd_prob.specs.declared.slot.Slot.TheVariants as slots
use Rattle.rv_isa.specs.Numbers.{op_numbered, op_number}
use Rattle.rv_script.specs.Logs.{entry_place, entry_label, answer_told, labelled, value_or, by_answers, new_value, value_in, Coherent}
use Rattle.rv_mem.specs.Frames.{in_frames}
use Rattle.leaf_link.specs.Turns.{Turn, is_free_entry, may_be_source, may_start, word_address_of}
use Rattle.leaf_link.specs.Values.{Values, instr_in, address_if, given_by, assigned, old_csr}
use Rattle.leaf_link.specs.Candidates.{accesses_in, moment_of}
use Rattle.leaf_link.specs.Cases.{Shape, Way, Fits, FitsCase, is_posed, case_at, all_judged, all_tests, atoms_hold, base_domain, cases_of, code_at, fetch_entry, is_held, is_linked, is_some_word, may_fetch, or_no, shape_of, sources_hold, unless, uses, uses_address, uses_rs1, uses_rs2, value_at}
use Rattle.leaf_link.specs.Ways.{AsksUsed, DoesRest, FitsWay, HasAddress, IsFetched, IsOf, IsReach, IsWays}
use Rattle.tpl_ast.specs.Leaves.{IsPlain}
use Rattle.leaf_link.proofs.Numbers.{op_back}
use Rattle.leaf_link.proofs.Links.{Good}
use Rattle.leaf_link.proofs.Formats.{fields_read}
use Rattle.leaf_link.proofs.Truths.{JudgesAll, Shows, all_met_by, when}
use Rattle.leaf_link.proofs.Unrefused.{never_asks, not_two}
use Rattle.leaf_link.proofs.Front.{all_hold, pa_aligned, a_entry, asks_a, asks_b, b_entry, chosen, front_log, front_plays, walk_known, word_place}
use Rattle.leaf_link.proofs.Law.{IsLater, a_label, address_asks, all_without, b_label, by_entries, code_entry, code_label, ea_from, fits_way, front_accesses, front_coherent, held, is_later, or_unused, or_used, rest_label, shows, used}

-- THE DATA ACCESS
pub pa_of : Option ℕ → ℕ
pa_of None = 0
pa_of (Some p) = p

pub reached : (wanted : ℕ → Bool) (r : Bool) (o : Option ℕ) → IsReach wanted r o → (o ≡ when r (pa_of o)) × (r ≡ true → wanted (pa_of o) ≡ true)
unfolding pa_of
reached wanted true (Some p) h = (refl, λ e. h)
reached wanted false None h = (refl, λ e. absurd (cc))
reached wanted true None h = absurd h
reached wanted false (Some p) h = absurd h

pub is_reached : Option ℕ → Bool
is_reached None = false
is_reached (Some p) = true

pub reaching : (o : Option ℕ) → o ≡ when (is_reached o) (pa_of o)
unfolding pa_of is_reached
reaching None = refl
reaching (Some p) = refl

pub reaches : (wanted : ℕ → Bool) (o : Option ℕ) → (is_reached o ≡ true → wanted (pa_of o) ≡ true) → IsReach wanted (is_reached o) o
unfolding pa_of is_reached
reaches wanted None h = tt
reaches wanted (Some p) h = h refl

-- FROM WHAT FITS TO WHAT IS GOOD
-- the new word is one of the pool
pub code_may : (t : Turn) (pa : ℕ) (x : Values) → pa % 4 ≡ 0 → (is_some_word (code_at t pa) || in_frames t.pool pa) ≡ true → word_of (instr_in x) < 2 ^ 32
    → t.known (entry_place (code_entry t pa x)) ≡ None → may_start t (instr_in x) Fetched (entry_place (code_entry t pa x)) (word_of (instr_in x)) ≡ true
code_may t pa x aligned h small none =
    let place = word_place pa aligned in
    let n : t.known (Word pa) ≡ None = ap t.known (sym place) ∙ none in
    let pool : in_frames t.pool pa ≡ true = subst (λ (o : Option ℕ). (is_some_word o || in_frames t.pool pa) ≡ true) n h in
    and_from _ _ (lt-ltb _ _ small) (ap (λ (p : Place). in_frames t.pool (word_address_of p)) place ∙ pool)

pub may_code : (t : Turn) (pa : ℕ) (x : Values) → pa % 4 ≡ 0 → (t.known (entry_place (code_entry t pa x)) ≡ None → may_start t (instr_in x) Fetched (entry_place (code_entry t pa x)) (word_of (instr_in x)) ≡ true)
    → (is_some_word (code_at t pa) || in_frames t.pool pa) ≡ true
may_code t pa x aligned h = go (t.known (Word pa)) refl
  where
    go : (o : Option ℕ) → t.known (Word pa) ≡ o → (is_some_word o || in_frames t.pool pa) ≡ true
    go (Some w) e = refl
    go None e =
        let place = word_place pa aligned in
        ap (λ (p : Place). in_frames t.pool (word_address_of p)) (sym place) ∙ (and_parts _ _ (h (ap t.known place ∙ e))).1

pub small_from : (b test : Bool) (v : ℕ) → or_no b (ltb v (2 ^ 32) && test) v ≡ true → v < 2 ^ 32
small_from true test v h = ltb-true _ _ (and_parts _ _ h).0
small_from false test v h = let e = eqb-true _ _ h in subst (λ (n : ℕ). n < 2 ^ 32) (sym e) (omega arith)

-- the value of a source that may be new
pub source_value : (o : Option ℕ) (v : ℕ) → o ≡ None → v < 2 ^ 32 → value_or o v < 2 ^ 32
source_value (Some w) v e h = absurd (cc)
source_value None v e h = h

pub some_or : (o : Option ℕ) (test : Bool) → o ≡ None → (is_some_word o || test) ≡ true → test ≡ true
some_or (Some w) test e h = absurd (cc)
some_or None test e h = h

pub or_some : (o : Option ℕ) (test : Bool) → (o ≡ None → test ≡ true) → (is_some_word o || test) ≡ true
or_some (Some w) test h = refl
or_some None test h = h refl

-- the value of a source in the log
pub chosen_value : (b : Bool) (e : Entry) (v : ℕ) → (b ≡ true → e.value ≡ v) → (b ≡ false → v ≡ 0) → v ≡ value_in (chosen b e)
chosen_value true e v h n = sym (h refl)
chosen_value false e v h n = n refl

pub linked : (a b r s : ℕ) → r ≡ s → (if eqb r s then eqb a b else true) ≡ true → a ≡ b
linked a b r s e h = eqb-true a b (subst (λ (z : Bool). (if z then eqb a b else true) ≡ true) (eq-eqb r s e) h)

pub link : (a b r s : ℕ) → (r ≡ s → a ≡ b) → (if eqb r s then eqb a b else true) ≡ true
link a b r s h = elim (cases_Bool (eqb r s)) [
  | inl y ↦ rw y (eq-eqb a b (h (eqb-true r s y)))
  | inr n ↦ rw n refl
]

-- a fact of each variable, by names
pub record EachSlot (P : Slot → Type 0) : Type 0 where
  pub op_slot : P slots.Op
  pub rs1_slot : P slots.Rs1
  pub rs2_slot : P slots.Rs2
  pub imm_slot : P slots.Imm
  pub rd_slot : P slots.Rd
  pub csr_slot : P slots.Csr
  pub ea_slot : P slots.Ea
  pub a_slot : P slots.A
  pub b_slot : P slots.B
  pub first_slot : P slots.FirstPte
  pub second_slot : P slots.SecondPte
  pub data_slot : P slots.DataWord
  pub old_slot : P slots.OldCsr
  pub vector_slot : P slots.Vector

pub each_slot : (P : Slot → Type 0) → EachSlot P → (s : Slot) → P s
each_slot P r slots.Op = r.op_slot
each_slot P r slots.Rs1 = r.rs1_slot
each_slot P r slots.Rs2 = r.rs2_slot
each_slot P r slots.Imm = r.imm_slot
each_slot P r slots.Rd = r.rd_slot
each_slot P r slots.Csr = r.csr_slot
each_slot P r slots.Ea = r.ea_slot
each_slot P r slots.A = r.a_slot
each_slot P r slots.B = r.b_slot
each_slot P r slots.FirstPte = r.first_slot
each_slot P r slots.SecondPte = r.second_slot
each_slot P r slots.DataWord = r.data_slot
each_slot P r slots.OldCsr = r.old_slot
each_slot P r slots.Vector = r.vector_slot

-- what domains, relations and what is posed say of atoms
pub judged_by : (t : Turn) (walk : List Entry) (pa : ℕ) (leaf : List Atom) (s : Shape) (p : ℕ) (x : Values) → ((atom : Atom) → HasItem leaf atom → IsPlain atom) → x slots.Op ≡ op_number s.op
    → (all_judged s leaf && all_tests t leaf vars.Outcome s.outcome) ≡ true → ((slot : Slot) → base_domain t pa leaf s slot (x slot) ≡ true) → atoms_hold t leaf s x ≡ true → (s.reaches ≡ true → all_tests t leaf vars.Pa p ≡ true)
    → JudgesAll t s (value_at s t.fixed.pc p x) leaf
judged_by t walk pa leaf s p x plain number posed base hold reach = record {
  judged = (and_parts _ _ posed).0;
  tested = by_var;
  relates = all_without s t.fixed.pc p x leaf plain ∙ (and_parts _ _ hold).0;
}
  where
    by_var : (u : Var) → uses s u ≡ true → all_tests t leaf u (value_at s t.fixed.pc p x u) ≡ true
    by_var vars.Op h = ap (λ (n : ℕ). all_tests t leaf vars.Op n) (sym number) ∙ (and_parts _ _ (base slots.Op)).1
    by_var vars.Rs1 h = used _ _ (and_parts _ _ (base slots.Rs1)).1 h
    by_var vars.Rs2 h = used _ _ (and_parts _ _ (base slots.Rs2)).1 h
    by_var vars.Rd h = used _ _ (and_parts _ _ (base slots.Rd)).1 h
    by_var vars.Imm h = used _ _ (and_parts _ _ (base slots.Imm)).1 h
    by_var vars.Csr h = used _ _ (and_parts _ _ (base slots.Csr)).1 h
    by_var vars.Ea h = (and_parts _ _ (or_used (uses_address s) _ _ (base slots.Ea) h)).1
    by_var vars.A h = (and_parts _ _ (or_used (uses_rs1 s) _ _ (base slots.A) h)).1
    by_var vars.B h = (and_parts _ _ (or_used (uses_rs2 s) _ _ (base slots.B) h)).1
    by_var vars.Pa h = reach h
    by_var vars.Target h = used (uses s vars.Target) _ (and_parts _ _ hold).1 h
    by_var vars.Outcome h = (and_parts _ _ posed).1

-- what a case with the fetch says of values
pub record Posed (t : Turn) (walk : List Entry) (pa : ℕ) (leaf : List Atom) (op : Op) (ways : List Way) (x : Values) : Type 0 where
  pub way : Way
  pub item : HasItem ways way
  pub walked : list_all (is_free_entry t) walk ≡ true
  pub code_free : is_free_entry t (fetch_entry t pa 0) ≡ true
  pub code_pool : (is_some_word (code_at t pa) || in_frames t.pool pa) ≡ true
  pub posed : (all_judged (shape_of op way) leaf && all_tests t leaf vars.Outcome way.outcome) ≡ true
  pub number : x slots.Op ≡ op_number op
  pub base : (s : Slot) → base_domain t pa leaf (shape_of op way) s (x s) ≡ true
  pub fits : FitsWay way x
  pub first : unless (uses_rs1 (shape_of op way)) (is_held (t.known (Reg (x slots.Rs1))) (x slots.A) && (is_some_word (t.known (Reg (x slots.Rs1))) || may_be_source t (instr_in x))) ≡ true
  pub second : unless (uses_rs2 (shape_of op way)) (is_held (t.known (Reg (x slots.Rs2))) (x slots.B)) ≡ true
  pub link : unless (uses_rs1 (shape_of op way) && uses_rs2 (shape_of op way)) (is_linked x) ≡ true
  pub address : unless (uses_address (shape_of op way)) (eqb ((x slots.A + x slots.Imm) % 2 ^ 32) (x slots.Ea)) ≡ true
  pub atoms : atoms_hold t leaf (shape_of op way) x ≡ true

unfoldable pub posed_from : (t : Turn) (walk : List Entry) (pa : ℕ) (leaf : List Atom) (op : Op) (ways : List Way) (x : Values) (way : Way) → HasItem ways way → is_posed t walk pa leaf (shape_of op way) ≡ true → FitsCase (case_at t pa leaf op way) x → Posed t walk pa leaf op ways x
posed_from t walk pa leaf op ways x way item is_it fc =
    let m = and_parts (may_fetch t walk pa) (all_judged (shape_of op way) leaf && all_tests t leaf vars.Outcome way.outcome) is_it in
    let m1 = and_parts _ _ m.0 in
    let m2 = and_parts _ _ m1.1 in
    let h = and_parts (sources_hold t (shape_of op way) x) (atoms_hold t leaf (shape_of op way) x && way.holds x) fc.holds in
    let h1 = and_parts (atoms_hold t leaf (shape_of op way) x) (way.holds x) h.1 in
    let s1 = and_parts _ _ h.0 in
    let s2 = and_parts _ _ s1.1 in
    let s3 = and_parts _ _ s2.1 in
    record {
      way = way;
      item = item;
      walked = m1.0;
      code_free = m2.0;
      code_pool = m2.1;
      posed = m.1;
      number = fc.op;
      base = λ s. (and_parts (base_domain t pa leaf (shape_of op way) s (x s)) (way.also s (x s)) (fc.each s)).0;
      fits = record { each = λ s. (and_parts (base_domain t pa leaf (shape_of op way) s (x s)) (way.also s (x s)) (fc.each s)).1; holds = h1.1 };
      first = s1.0;
      second = s2.0;
      link = s3.0;
      address = s3.1;
      atoms = h1.0;
    }

pub posed_of : (t : Turn) (walk : List Entry) (pa : ℕ) (leaf : List Atom) (op : Op) (ways : List Way) (x : Values) → Fits (cases_of t walk pa leaf op ways) x → Posed t walk pa leaf op ways x
posed_of t walk pa leaf op ways x f = let one = fits_way t walk pa leaf op ways x f in posed_from t walk pa leaf op ways x one.0 one.1 one.2 one.3

-- a step that the answers of values make, and what its moment shows
pub record Played (t : Turn) (s : Shape) (x : Values) : Type 0 where
  pub log : List Entry
  pub change : Change
  pub plays : answer_told (by_answers t.known (given_by x)) (script t.fixed) ≡ Does log change
  pub at : ℕ
  pub shows : Shows t s at x (moment_of t log change)

pub posed_good : (t : Turn) (walk : List Entry) (pa : ℕ) (leaf : List Atom) (op : Op) (ways : List Way) → IsFetched t walk pa → ((atom : Atom) → HasItem leaf atom → IsPlain atom) → IsWays t walk pa leaf op ways
    → (x : Values) → (c : Posed t walk pa leaf op ways x) → Good t leaf x × ((instr_in x).op ≡ op) × Played t (shape_of op c.way) x
unfolding pa_of
posed_good t walk pa leaf op ways f plain owed x c =
    let way : Way = c.way in
    let s : Shape = shape_of op way in
    let k : Known = t.known in
    let i : Instr = instr_in x in
    let op_is : i.op ≡ op = ap op_numbered c.number ∙ op_back op in
    let d : decoded (value_or (code_at t pa) (word_of i)) ≡ Some i = fields_read (code_at t pa) op x op_is c.number (record {
      op_in = (and_parts _ _ (c.base slots.Op)).0;
      rs1_in = (and_parts _ _ (c.base slots.Rs1)).0;
      rs2_in = (and_parts _ _ (c.base slots.Rs2)).0;
      imm_in = (and_parts _ _ (c.base slots.Imm)).0;
      rd_in = (and_parts _ _ (c.base slots.Rd)).0;
      csr_in = (and_parts _ _ (c.base slots.Csr)).0;
    }) in
    let read = encoded_read (value_or (code_at t pa) (word_of i)) i d in
    let own : decoded (word_of i) ≡ Some i = ap decoded (sym read.word) ∙ d in
    let small : word_of i < 2 ^ 32 = encoded_below (word_of i) i (encoded_read (word_of i) i own) in
    let is : IsOf op x = record { op_is = op_is; fits = read.fits; small = small_from (uses_address s) _ (x slots.Ea) (c.base slots.Ea) } in
    let asks : AsksUsed t s x = owed.asks x is way c.item c.fits in
    let aks : asks_a t op x ≡ uses_rs1 s = asks.first in
    let bks : asks_b op ≡ uses_rs2 s = asks.second in
    let ea : HasAddress op x = ea_from (has_address (row_of op)) (uses_rs1 s) (x slots.A) (x slots.Imm) (x slots.Ea) _ (λ h. sym aks ∙ address_asks (row_of op) t.fixed i h) (c.base slots.Ea) c.address in
    let done : DoesRest t walk pa leaf s x = owed.does x is ea way c.item c.fits in
    let a0 : asks_a t op x ≡ true → (a_entry t x).value ≡ x slots.A = λ h. held (k (Reg (x slots.Rs1))) (x slots.A) (and_parts _ _ (used (uses_rs1 s) _ c.first (sym aks ∙ h))).0 in
    let a1 : asks_a t op x ≡ false → x slots.A ≡ 0 = λ h. or_unused (uses_rs1 s) _ (x slots.A) (c.base slots.A) (sym aks ∙ h) in
    let b0 : asks_b op ≡ true → (b_entry t x).value ≡ x slots.B = λ h. held (k (Reg (x slots.Rs2))) (x slots.B) (used (uses_rs2 s) _ c.second (sym bks ∙ h)) in
    let b1 : asks_b op ≡ false → x slots.B ≡ 0 = λ h. or_unused (uses_rs2 s) _ (x slots.B) (c.base slots.B) (sym bks ∙ h) in
    let log : List Entry = front_log t walk pa op x done.log in
    let plays : answer_told (by_answers k (given_by x)) (script t.fixed) ≡ Does log done.change = front_plays t walk pa op x done.log done.change f op_is d a0 a1 b0 b1 done.plays in
    let later : IsLater done.log = is_later t op x (x slots.A) (x slots.B) (by_answers k (given_by x)) done.log done.change done.plays in
    let co : Coherent k log = front_coherent t walk pa op x done.log f later done.coherent done.one_role
    (λ h j q. a0 h ∙ linked (x slots.A) (x slots.B) (x slots.Rs1) (x slots.Rs2) q (used _ _ c.link (and_from _ _ (sym aks ∙ h) (sym bks ∙ j))) ∙ sym (b0 j)) in
    let reach = reached (all_tests t leaf vars.Pa) way.reaches (data_address (accesses_in done.log)) done.reach in
    let p : ℕ = pa_of (data_address (accesses_in done.log)) in
    let sh = shows t walk pa s p x done.log done.change f is ea own co plays done.word done.outcome reach.0 (λ u. aks ∙ u) a0 b0 (λ n. not_two (reads_rs1 (row_of op)) (way.outcome == 2) (sym aks ∙ never_asks (row_of op) t.fixed i n)) in (
      record {
        log = log;
        change = done.change;
        plays = plays;
        agree = λ e g j l none q. (co e g j l none q).1;
        meets = record {
          fetched = (code_entry t pa x, code_label t walk pa op x done.log f, own);
          may = by_entries (λ e. k (entry_place e) ≡ None → may_start t i (entry_label e) (entry_place e) e.value ≡ true) t walk pa op x done.log
              (λ e j none. let z = walk_known t walk pa f e j in absurd (cc))
              (λ none. code_may t pa x (pa_aligned t walk pa f) c.code_pool small none)
              (λ h none.
              let u = used (uses_rs1 s) _ c.first (sym aks ∙ h) in
              and_from _ _ (lt-ltb _ _ (source_value (k (Reg (x slots.Rs1))) (x slots.A) none (ltb-true _ _ (and_parts _ _ (or_used (uses_rs1 s) _ _ (c.base slots.A) (sym aks ∙ h))).0)))
              (some_or (k (Reg (x slots.Rs1))) (may_be_source t i) none (and_parts _ _ u).1))
              (λ h none. and_from _ _ (lt-ltb _ _ (source_value (k (Reg (x slots.Rs2))) (x slots.B) none (ltb-true _ _ (and_parts _ _ (or_used (uses_rs2 s) _ _ (c.base slots.B) (sym bks ∙ h))).0))) refl)
              done.may;
          once = λ e g j l none q w. (co e g j l none q).0 w;
          free = by_entries (λ e. is_free_entry t e ≡ true) t walk pa op x done.log (all_hold (is_free_entry t) walk c.walked) c.code_free (λ h. refl) (λ h. refl) done.free;
          apart = subst (λ (l : List Access). (y z : Access) → HasItem l y → HasItem l z → Meet y z → breaks true y.role z.role ≡ false) (sym (front_accesses t walk pa op x done.log)) done.apart;
          atoms = all_met_by t s p x (moment_of t log done.change) sh leaf (judged_by t walk pa leaf s p x plain c.number c.posed c.base c.atoms reach.1);
        };
        is =
            let a_is : x slots.A ≡ value_in (labelled log FromRs1) = chosen_value (asks_a t op x) (a_entry t x) (x slots.A) a0 a1 ∙ ap (λ (o : Option Entry). value_in o) (sym (a_label t walk pa op x done.log f later)) in
            each_slot (λ z. x z ≡ assigned t.fixed k i log z) (record {
              op_slot = c.number ∙ ap op_number (sym op_is);
              rs1_slot = refl;
              rs2_slot = refl;
              imm_slot = refl;
              rd_slot = refl;
              csr_slot = refl;
              ea_slot = ea ∙ ap (λ (n : ℕ). address_if (has_address (row_of op)) n (x slots.Imm)) a_is ∙ ap (λ (o : Op). address_if (has_address (row_of o)) (value_in (labelled log FromRs1)) (x slots.Imm)) (sym op_is);
              a_slot = a_is;
              b_slot = chosen_value (asks_b op) (b_entry t x) (x slots.B) b0 b1 ∙ ap (λ (o : Option Entry). value_in o) (sym (b_label t walk pa op x done.log f later));
              first_slot = done.first ∙ ap (λ (o : Option Entry). new_value k o) (sym (rest_label t walk pa op x done.log f DataRoot (omega arith)));
              second_slot = done.second ∙ ap (λ (o : Option Entry). new_value k o) (sym (rest_label t walk pa op x done.log f DataSecond (omega arith)));
              data_slot = done.data_word ∙ ap (λ (o : Option Entry). new_value k o) (sym (rest_label t walk pa op x done.log f DataWord (omega arith)));
              old_slot = done.old ∙ ap (λ (o : Option Entry). old_csr t.fixed i o) (sym (rest_label t walk pa op x done.log f FromCsr (omega arith)));
              vector_slot = done.vector ∙ ap (λ (o : Option Entry). new_value k o) (sym (rest_label t walk pa op x done.log f FromVector (omega arith)));
            });
      },
      op_is,
      record { log = log; change = done.change; plays = plays; at = p; shows = sh },
    )

pub fits_good : (t : Turn) (walk : List Entry) (pa : ℕ) (leaf : List Atom) (op : Op) (ways : List Way) → IsFetched t walk pa → ((atom : Atom) → HasItem leaf atom → IsPlain atom) → IsWays t walk pa leaf op ways
    → (x : Values) → Fits (cases_of t walk pa leaf op ways) x → Good t leaf x × ((instr_in x).op ≡ op)
fits_good t walk pa leaf op ways f plain owed x fit = let r = posed_good t walk pa leaf op ways f plain owed x (posed_of t walk pa leaf op ways x fit) in (r.0, r.1)
