-- The laws of states, records and dropped biases.
use Rattle.std.proofs.Common.{◌≡◌, ℕ, ◌+◌, ◌*◌, ◌%◌, ◌^◌, ◌<◌, ◌≤◌, Bool, true, false, cond, ltb, eqb, List, [], ◌∷◌, ◌++◌, length, Some, refl, sym, ap, subst, arith, inl, inr}
use Rattle.std.specs.declared.option.Option.{Option}
use Rattle.std.specs.Prelude.{◌||◌}
use Rattle.std.specs.List.{AllByRecursion}
use Rattle.std.proofs.lemmas.Bool.{eqb-true, ltb-true, ltb-false, lt-ltb, le-ltb}
use Rattle.std.proofs.lemmas.Option.{same_Some}
use Rattle.rv_csr.specs.Table.{is_legal_at}
use Rattle.rv_script.specs.declared.access.Access.{Access}
use Rattle.rv_csr.specs.declared.privilege.Priv.{Priv}
use Rattle.rv_hart.specs.declared.record.Record.{Record}
use Rattle.rv_hart.specs.declared.record.Outcome.{Outcome}
use Rattle.tpl_ast.specs.declared.template.HartState.{HartState}
use Rattle.tpl_admit.specs.declared.dropped.Dropped.{Dropped}
use Rattle.tpl_ast.specs.States.{is_key, ArePlaces, is_legal_place, IsState}
use Rattle.tpl_admit.specs.WellFormed.{IsRecord}
use Rattle.rv_hart.specs.Effects.{IsAccess}
use Rattle.byte_format.specs.Numbers.{byte, half, word}
use Rattle.byte_format.specs.Internal.Readers.{◌>>=◌}
use Rattle.byte_format.proofs.Bytes.{bind_some}
use Rattle.byte_format.proofs.Laws.{Reads, reads_byte, reads_word, reads_both, reads_ahead, reads_as, reads_where, reads_fits}
use Rattle.byte_format.proofs.Groups.{AreCountable, reads_counted, reads_few}
use Rattle.note_items.specs.Spelling.{level, role_number, outcome_number, taker_number, trap_value, rd_number, rd_value, pair_spelling, fixed_spelling, state_spelling, access_spelling, record_place, record_marks, record_values, record_spelling, trace_spelling, why_number, drop_spelling}
use Rattle.note_items.specs.Internal.Checks.{is_state, is_fixed, is_place, are_places, is_access}
use Rattle.note_items.specs.Internal.Readers.{priv_of, role_of, outcome_of, rd_of, priv_at, pair_at, state_of, state_at, access_of, access_at, place_at, marks_at, values_at, record_of, record_at, trace_at, why_of, dropped_of, drop_at}
use Rattle.note_items.proofs.Booleans.{equal, and_true, both_true, or_true, no_then, yes_then}
use Rattle.note_items.proofs.Keys.{key_small}
use Rattle.note_items.proofs.Cases.{priv_from, priv_back, level_fits, role_from, role_back, role_fits, outcome_from, outcome_back, outcome_fits, rd_from, rd_back, rd_fits, why_from, why_back, why_fits}

-- two words
pub record FitsPair (p : ℕ × ℕ) : Type 0 where
  pub first : p.0 < 2 ^ 32
  pub second : p.1 < 2 ^ 32

pub reads_priv : Reads Priv priv_at (λ p. word (level p)) (λ p. Unit {0})
unfolding priv_at
reads_priv = reads_as priv_of level (λ p. Unit {0}) (λ n p f e. (priv_from n p e, tt)) (λ p f. (priv_back p, omega (arith, level_fits p))) reads_word

pub reads_pair : Reads (ℕ × ℕ) pair_at pair_spelling FitsPair
unfolding pair_at pair_spelling
reads_pair = reads_fits FitsPair (λ p f. record { first = f.0; second = f.1 }) (λ p f. (f.first, f.second)) (reads_both reads_word reads_word)

-- ---- places

place_back : (p : ℕ × ℕ) → is_key p.0 ≡ true → is_legal_place p ≡ true → is_place p ≡ true
unfolding is_place
place_back p key legal = both_true (is_key p.0) (is_legal_place p) key legal

places_take : (low : ℕ) (ps : List (ℕ × ℕ)) → AllByRecursion FitsPair ps → are_places low ps ≡ true → ArePlaces low ps × AllByRecursion (λ e. is_legal_place e ≡ true) ps
unfolding is_place
places_take low [] fits e = (tt, tt)
places_take low (p ∷ ps) fits e =
    let a = no_then (ltb p.0 low) (cond (is_place p) (are_places (p.0 + 1) ps) false) e in
    let b = yes_then (is_place p) (are_places (p.0 + 1) ps) a.1 in
    let c = and_true (is_key p.0) (is_legal_place p) b.0 in
    let k = places_take (p.0 + 1) ps fits.1 b.1 in
    ((ltb-false p.0 low a.0, c.0, fits.0.second, k.0), (c.1, k.1))

places_back : (low : ℕ) (ps : List (ℕ × ℕ)) → ArePlaces low ps → AllByRecursion (λ e. is_legal_place e ≡ true) ps → are_places low ps ≡ true
places_back low [] fits legal = refl
places_back low (p ∷ ps) fits legal =
    let above : ltb p.0 low ≡ false = le-ltb _ _ fits.0 in
    let place : is_place p ≡ true = place_back p fits.1 legal.0 in
    tests (ltb p.0 low) (is_place p) (are_places (p.0 + 1) ps) above place (places_back (p.0 + 1) ps fits.3 legal.1)
  where
    tests : (a b x : Bool) → a ≡ false → b ≡ true → x ≡ true → cond a false (cond b x false) ≡ true
    tests a b x p q r = rw (p, q, r) refl

places_few : (low : ℕ) (ps : List (ℕ × ℕ)) → low ≤ 0x1344 → ArePlaces low ps → length ps + low ≤ 0x1344
places_few low [] le fits = omega arith
places_few low (p ∷ ps) le fits =
    let small = key_small p.0 fits.1 in
    let k = places_few (p.0 + 1) ps (omega arith) fits.3 in
    omega (arith, fits.0, k)

pairs_fit : (low : ℕ) (ps : List (ℕ × ℕ)) → ArePlaces low ps → AllByRecursion FitsPair ps
pairs_fit low [] fits = tt
pairs_fit low (p ∷ ps) fits =
    let small = key_small p.0 fits.1 in
    (record { first = omega arith; second = fits.2 }, pairs_fit (p.0 + 1) ps fits.3)

-- ---- states

abbrev FitsFixed : HartState → Type 0
FitsFixed s = (s.pc < 2 ^ 32) × (s.mstatus < 2 ^ 32) × (s.medeleg < 2 ^ 32) × (s.satp < 2 ^ 32) × AreCountable (ℕ × ℕ) FitsPair s.places

state_take : (s : HartState) → FitsFixed s → is_state s ≡ true → IsState s
unfolding is_state is_fixed
state_take s f e =
    let a = yes_then (is_fixed s) (are_places 0 s.places) e in
    let p = places_take 0 s.places f.4.each a.1 in
    let x = yes_then (eqb (s.pc % 4) 0) (cond (is_legal_at 0x300 s.mstatus) (cond (is_legal_at 0x302 s.medeleg) (is_legal_at 0x180 s.satp) false) false) a.0 in
    let y = yes_then (is_legal_at 0x300 s.mstatus) (cond (is_legal_at 0x302 s.medeleg) (is_legal_at 0x180 s.satp) false) x.1 in
    let z = yes_then (is_legal_at 0x302 s.medeleg) (is_legal_at 0x180 s.satp) y.1 in
    record { pc = f.0; aligned = eqb-true _ _ x.0; mstatus = f.1; medeleg = f.2; satp = f.3; legal_mstatus = y.0; legal_medeleg = z.0; legal_satp = z.1; places = p.0; legal_places = p.1 }

state_back : (s : HartState) → IsState s → is_state s ≡ true
unfolding is_state is_fixed
state_back s f =
    five (eqb (s.pc % 4) 0) (is_legal_at 0x300 s.mstatus) (is_legal_at 0x302 s.medeleg) (is_legal_at 0x180 s.satp) (are_places 0 s.places)
    (equal (s.pc % 4) 0 f.aligned) f.legal_mstatus f.legal_medeleg f.legal_satp (places_back 0 s.places f.places f.legal_places)
  where
    five : (a b c d e : Bool) → a ≡ true → b ≡ true → c ≡ true → d ≡ true → e ≡ true → cond (cond a (cond b (cond c d false) false) false) e false ≡ true
    five a b c d e p q r s t = rw (p, q, r, s, t) refl

pub reads_state : Reads HartState state_at state_spelling IsState
unfolding state_at state_spelling fixed_spelling
reads_state = reads_fits IsState
    (λ s f. state_take s f.0 f.1)
    (λ s f. ((f.pc, f.mstatus, f.medeleg, f.satp, record { count = (let k = places_few 0 s.places (omega arith) f.places in omega arith); each = pairs_fit 0 s.places f.places }), state_back s f))
    (reads_where is_state
    (reads_as state_of (λ s. ((s.pc, (s.privilege, (s.mstatus, (s.medeleg, s.satp)))), s.places)) FitsFixed
    (λ t s f e. subst (λ (z : HartState). (((z.pc, (z.privilege, (z.mstatus, (z.medeleg, z.satp)))), z.places) ≡ t) × FitsFixed z) (same_Some _ _ e) (refl, (f.0.0, f.0.1.1.0, f.0.1.1.1.0, f.0.1.1.1.1, f.1)))
    (λ s f. (refl, ((f.0, (tt, (f.1, (f.2, f.3)))), f.4)))
    (reads_both (reads_both reads_word (reads_both reads_priv (reads_both reads_word (reads_both reads_word reads_word)))) (reads_counted reads_pair))))

-- ---- accesses

-- a size is 1, 2 or 4
by_size : (P : ℕ → Type 0) → P 1 → P 2 → P 4 → (size : ℕ) → (eqb size 1 || (eqb size 2 || eqb size 4)) ≡ true → P size
by_size P one two four size ok =
    elim (or_true (eqb size 1) (eqb size 2 || eqb size 4) ok) [
      | inl e ↦ subst P (sym (eqb-true size 1 e)) one
      | inr o ↦ elim (or_true (eqb size 2) (eqb size 4) o) [
        | inl e ↦ subst P (sym (eqb-true size 2 e)) two
        | inr e ↦ subst P (sym (eqb-true size 4 e)) four
      ]
    ]

some_size : (a b c x y : Bool) → cond a x (cond b y c) ≡ true → (a || (b || c)) ≡ true
some_size true b c x y e = refl
some_size false true c x y e = refl
some_size false false c x y e = e

access_take : (a : Access) → a.addr < 2 ^ 32 → a.value < 2 ^ 32 → is_access a ≡ true → IsAccess a
unfolding is_access
access_take a addr value e =
    let ok = some_size (eqb a.size 1) (eqb a.size 2) (eqb a.size 4) (ltb a.value 256) (ltb a.value 65536) e in
    record {
      addr = addr;
      size = ok;
      value = by_size (λ n. cond (eqb n 1) (ltb a.value 256) (cond (eqb n 2) (ltb a.value 65536) (eqb n 4)) ≡ true → a.value < 2 ^ (8 * n))
          (λ t. ltb-true a.value 256 t) (λ t. ltb-true a.value 65536 t) (λ t. value) a.size ok e;
    }

record Holds (size value : ℕ) : Type 0 where
  test : cond (eqb size 1) (ltb value 256) (cond (eqb size 2) (ltb value 65536) (eqb size 4)) ≡ true
  word : value < 2 ^ 32
  byte : size < 256

holds : (size value : ℕ) → (eqb size 1 || (eqb size 2 || eqb size 4)) ≡ true → value < 2 ^ (8 * size) → Holds size value
holds size value ok = by_size (λ n. value < 2 ^ (8 * n) → Holds n value)
    (λ lt. record { test = lt-ltb value 256 lt; word = omega (arith, lt); byte = omega arith })
    (λ lt. record { test = lt-ltb value 65536 lt; word = omega (arith, lt); byte = omega arith })
    (λ lt. record { test = refl; word = lt; byte = omega arith })
    size ok

access_back : (a : Access) → IsAccess a → is_access a ≡ true
unfolding is_access
access_back a f = (holds a.size a.value f.size f.value).test

access_parts : Access → ℕ × (ℕ × (ℕ × ℕ))
access_parts a = (a.addr, (a.value, (role_number a.role, a.size)))

pub reads_access : Reads Access access_at access_spelling IsAccess
unfolding access_at access_spelling access_parts
reads_access = reads_fits IsAccess
    (λ a f. access_take a f.0.0 f.0.1 f.1)
    (λ a f. ((f.addr, (holds a.size a.value f.size f.value).word, (holds a.size a.value f.size f.value).byte), access_back a f))
    (reads_where is_access
    (reads_as access_of access_parts (λ a. (a.addr < 2 ^ 32) × (a.value < 2 ^ 32) × (a.size < 256))
    (λ t a f e.
    let r = bind_some (role_of t.1.1.0) (λ role. Some (record { role = role; addr = t.0; size = t.1.1.1; value = t.1.0 })) a e in
    subst (λ (z : Access). (access_parts z ≡ t) × ((z.addr < 2 ^ 32) × (z.value < 2 ^ 32) × (z.size < 256))) (same_Some _ _ r.2)
    (ap (λ (n : ℕ). (t.0, (t.1.0, (n, t.1.1.1)))) (role_from t.1.1.0 r.0 r.1), (f.0, f.1.0, f.1.1.1)))
    (λ a f. (rw (role_back a.role) refl, (f.0, (f.1, (role_fits a.role, f.2)))))
    (reads_both reads_word (reads_both reads_word (reads_both reads_byte (reads_ahead (λ n. half 0) reads_byte))))))

-- ---- records

reads_place : Reads (ℕ × (ℕ × ℕ)) place_at (λ t. word t.0 ++ (word t.1.0 ++ word t.1.1)) (λ t. (t.0 < 2 ^ 32) × ((t.1.0 < 2 ^ 32) × (t.1.1 < 2 ^ 32)))
unfolding place_at
reads_place = reads_both reads_word (reads_both reads_word reads_word)

reads_marks : Reads (Priv × (ℕ × (ℕ × ℕ))) marks_at (λ t. byte (level t.0) ++ (byte t.1.0 ++ (byte t.1.1.0 ++ byte t.1.1.1))) (λ t. Unit {0} × ((t.1.0 < 256) × ((t.1.1.0 < 256) × (t.1.1.1 < 256))))
unfolding marks_at
reads_marks = reads_both (reads_as priv_of level (λ p. Unit {0}) (λ n p f e. (priv_from n p e, tt)) (λ p f. (priv_back p, level_fits p)) reads_byte) (reads_both reads_byte (reads_both reads_byte reads_byte))

reads_values : Reads (ℕ × ℕ) values_at (λ t. word t.0 ++ word t.1) (λ t. (t.0 < 2 ^ 32) × (t.1 < 2 ^ 32))
unfolding values_at
reads_values = reads_both reads_word reads_word

record_parts : Record → (ℕ × (ℕ × ℕ)) × ((Priv × (ℕ × (ℕ × ℕ))) × ((ℕ × ℕ) × List Access))
record_parts r = ((r.pc, (r.word, r.next_pc)), ((r.privilege, (outcome_number r.outcome, (taker_number r.outcome, rd_number r.rd))), ((rd_value r.rd, trap_value r.outcome), r.accesses)))

pub reads_record : Reads Record record_at record_spelling IsRecord
unfolding record_at record_spelling record_place record_marks record_values record_parts
reads_record = reads_as record_of record_parts IsRecord
    (λ t r f e.
    let o = bind_some (outcome_of t.1.0.1.0 t.1.0.1.1.0 t.1.1.0.1) (λ outcome. rd_of t.1.0.1.1.1 t.1.1.0.0 >>= λ rd. Some (record { pc = t.0.0; privilege = t.1.0.0; word = t.0.1.0; outcome = outcome; rd = rd; accesses = t.1.1.1; next_pc = t.0.1.1 })) r e in
    let d = bind_some (rd_of t.1.0.1.1.1 t.1.1.0.0) (λ rd. Some (record { pc = t.0.0; privilege = t.1.0.0; word = t.0.1.0; outcome = o.0; rd = rd; accesses = t.1.1.1; next_pc = t.0.1.1 })) r o.2 in
    let is_o = outcome_from t.1.0.1.0 t.1.0.1.1.0 t.1.1.0.1 o.0 f.1.1.0.1 o.1 in
    let is_d = rd_from t.1.0.1.1.1 t.1.1.0.0 d.0 f.1.1.0.0 d.1 in
    subst (λ (z : Record). (record_parts z ≡ t) × IsRecord z) (same_Some _ _ d.2) (
      same_parts t o.0 d.0 is_o.cause_is is_o.taker_is is_o.value_is is_d.number_is is_d.value_is,
      record { pc = f.0.0; word = f.0.1.0; next_pc = f.0.1.1; outcome = is_o.fits; rd = is_d.fits; accesses = f.1.1.1.1; count = f.1.1.1.0 },
    ))
    (λ r f.
    let o = outcome_fits r.outcome f.outcome in
    let d = rd_fits r.rd f.rd in
    (rw (outcome_back r.outcome f.outcome, rd_back r.rd f.rd) refl, ((f.pc, (f.word, f.next_pc)), ((tt, (o.cause, (o.taker, d.number))), ((d.value, o.value), (f.count, f.accesses))))))
    (reads_both reads_place (reads_both reads_marks (reads_both reads_values (reads_few 8 (omega arith) reads_access))))
  where
    same_parts : (t : (ℕ × (ℕ × ℕ)) × ((Priv × (ℕ × (ℕ × ℕ))) × ((ℕ × ℕ) × List Access))) (o : Outcome) (d : Option (ℕ × ℕ))
        → outcome_number o ≡ t.1.0.1.0 → taker_number o ≡ t.1.0.1.1.0 → trap_value o ≡ t.1.1.0.1 → rd_number d ≡ t.1.0.1.1.1 → rd_value d ≡ t.1.1.0.0
        → (t.0, ((t.1.0.0, (outcome_number o, (taker_number o, rd_number d))), ((rd_value d, trap_value o), t.1.1.1))) ≡ t
    same_parts t o d a b c x y = rw (a, b, c, x, y) refl

pub reads_trace : Reads (List Record) trace_at trace_spelling (AreCountable Record IsRecord)
unfolding trace_at trace_spelling
reads_trace = reads_counted reads_record

-- ---- dropped biases

pub record FitsDrop (d : Dropped) : Type 0 where
  pub hart_fits : d.hart < 2 ^ 32
  pub step_fits : d.step < 2 ^ 32
  pub atom_fits : d.atom < 2 ^ 32

drop_parts : Dropped → ℕ × (ℕ × (ℕ × ℕ))
drop_parts d = (d.hart, (d.step, (d.atom, why_number d.why)))

pub reads_drop : Reads Dropped drop_at drop_spelling FitsDrop
unfolding drop_at drop_spelling drop_parts
reads_drop = reads_as dropped_of drop_parts FitsDrop
    (λ t d f e.
    let r = bind_some (why_of t.1.1.1) (λ why. Some (record { hart = t.0; step = t.1.0; atom = t.1.1.0; why = why })) d e in
    subst (λ (z : Dropped). (drop_parts z ≡ t) × FitsDrop z) (same_Some _ _ r.2)
    (ap (λ (n : ℕ). (t.0, (t.1.0, (t.1.1.0, n)))) (why_from t.1.1.1 r.0 r.1), record { hart_fits = f.0; step_fits = f.1.0; atom_fits = f.1.1.0 }))
    (λ d f. (rw (why_back d.why) refl, (f.hart_fits, (f.step_fits, (f.atom_fits, why_fits d.why)))))
    (reads_both reads_word (reads_both reads_word (reads_both reads_word reads_word)))
