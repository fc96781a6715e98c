-- How harts and memory end.
use Rattle.std.proofs.Common.{◌≡◌, ℕ, zero, suc, ◌*◌, ◌/◌, ◌%◌, ◌<◌, ◌≤◌, Bool, List, [], ◌∷◌, length, get_or, Option, Some, None, if◌then◌else◌, refl, sym, ap, ◌∙◌, subst, inl, inr, arith}
use Rattle.std.specs.Prelude.{◌↔◌, slice_index_or}
use Rattle.std.specs.Option.{unwrap_or, is_some}
use Rattle.std.specs.List.{AllByRecursion}
use Rattle.std.proofs.Math.Path.{fun_ext}
use Rattle.std.proofs.lemmas.Bool.{cases_lt}
use Rattle.rv_mem.specs.declared.words.Seen.{Seen}
use Rattle.rv_mem.specs.declared.words.Seen.TheVariants.{Known}
use Rattle.rv_csr.specs.declared.privilege.Priv.{Priv}
use Rattle.rv_hart.specs.declared.hart.Hart.{Hart}
use Rattle.rv_hart.specs.Fixed.{Fixed}
use Rattle.rv_csr.specs.declared.table.LazyRegister.{LazyRegister}
use Rattle.rv_csr.specs.declared.table.LazyRegister.TheVariants.{Stvec, Sscratch, Sepc, Scause, Stval, Mtvec, Mscratch, Mepc, Mcause, Mtval}
use Rattle.rv_csr.specs.declared.table.Register.{Register}
use Rattle.rv_csr.specs.declared.table.Register.TheVariants.{Sstatus, Satp, Mstatus, Medeleg, Mhartid, Lazy}
use Rattle.rv_csr.specs.State.{CsrValues, known_in, lazy_value_at}
use Rattle.rv_csr.specs.Table.{address_of, csr_key, register_at, registers, csr_address}
use Rattle.rv_hart.specs.Whole.{WholeHart}
use Rattle.tpl_ast.specs.declared.template.Region.{Region}
use Rattle.tpl_admit.specs.declared.certificate.Cert.{Cert}
use Rattle.tpl_ast.specs.declared.template.HartState.{HartState}
use Rattle.tpl_lang.specs.Laws.{TemplatesKeepLimits}
use Rattle.tpl_admit.specs.Starts.{no_state, start_of, final_of, trace_of, word_of, fixed_in, first_hart, first_memory, is_given, zero_elsewhere, lookup}
use Rattle.tpl_ast.specs.States.{ArePlaces, IsState, is_in_ram}
use Rattle.tpl_admit.specs.Races.{footprints_of}
use Rattle.tpl_admit.specs.Solo.{Solo, solo, solo_run, knows_after, AreRight}
use Rattle.tpl_admit.specs.Validity.{in_turn, EndsAsPrinted, MemoryEndsAsPrinted}
use Rattle.tpl_admit.specs.WellFormed.{IsWellFormed}
use Rattle.replay_check.specs.Failures.{GoesWrong, HartIsRight, HartGoesWrong}
use Rattle.given_start.specs.Knowledge.{known_at, known_of, knows_of, fixed_now, whole_of}
use Rattle.given_start.proofs.Aligned.{frames_aligned}
use Rattle.replay_check.specs.Internal.Memory.{IsStart, ShowsOf}
use Rattle.replay_check.specs.Internal.Replay.{TakesAll, StraysAt, EndsAs, IsFixedTold}
use Rattle.replay_check.proofs.Keys.{found_no_key}
use Rattle.given_start.proofs.Lazy.{NamesCsr, has_address, address_positive, lazy_of}
use Rattle.given_start.proofs.Knowledge.{wholes, known_zero, known_small, known_large, known_csr}
use Rattle.replay_check.proofs.Shown.{each_told}

-- ---- the lists of a well-formed certificate

pub states_places : (ss : List HartState) (k : ℕ) → AllByRecursion IsState ss → ArePlaces 0 (slice_index_or ss k no_state).places
states_places [] k are = tt
states_places (s ∷ ss) zero are = are.0.places
states_places (s ∷ ss) (suc k) are = states_places ss k are.1

pub start_is : TemplatesKeepLimits → (c : Cert) → IsWellFormed c → IsStart c.template.ram c.words
start_is sound c w = record { ram_is = frames_aligned c.template.ram (sound c.template.text c.template w.template).ram; words_are = w.words }

-- ---- a hart's start and its end

start_whole : (c : Cert) (k : ℕ) (h : Hart) → ((key : ℕ) → known_of h key ≡ lookup (start_of c k).places key) → fixed_now c.template.ram h ≡ fixed_in c.template.ram k (start_of c k)
    → whole_of c.template.ram h ≡ first_hart c k
start_whole c k h known fixed =
    wholes (fixed_now c.template.ram h) (fixed_in c.template.ram k (start_of c k)) (zero_elsewhere (known_of h)) (zero_elsewhere (lookup (start_of c k).places)) fixed
    (fun_ext (λ key. ap (λ (o : Option ℕ). unwrap_or o 0) (known key)))

start_knows : (c : Cert) (k : ℕ) (h : Hart) → ((key : ℕ) → known_of h key ≡ lookup (start_of c k).places key) → knows_of h ≡ is_given (start_of c k)
start_knows c k h known = fun_ext (λ key. ap (λ (o : Option ℕ). is_some o) (known key))

pub replayed_right : (c : Cert) (k : ℕ) (h new : Hart) → ((key : ℕ) → known_of h key ≡ lookup (start_of c k).places key) → fixed_now c.template.ram h ≡ fixed_in c.template.ram k (start_of c k)
    → TakesAll c.template.ram (word_of c) (first_memory c) h new (trace_of c k) → HartIsRight c k
replayed_right c k h new known fixed t =
    subst (λ (g : WholeHart). AreRight (word_of c) (is_given (start_of c k)) g (first_memory c) (trace_of c k)) (start_whole c k h known fixed)
    (subst (λ (s : ℕ → Bool). AreRight (word_of c) s (whole_of c.template.ram h) (first_memory c) (trace_of c k)) (start_knows c k h known) t.right)

pub replayed_wrong : (c : Cert) (k : ℕ) (h : Hart) (kind step : ℕ) → ((key : ℕ) → known_of h key ≡ lookup (start_of c k).places key) → fixed_now c.template.ram h ≡ fixed_in c.template.ram k (start_of c k)
    → StraysAt c.template.ram (word_of c) (first_memory c) h (trace_of c k) kind step → HartGoesWrong c k kind step
replayed_wrong c k h kind step known fixed wrong =
    subst (λ (g : WholeHart). GoesWrong (word_of c) (is_given (start_of c k)) g (first_memory c) (trace_of c k) 0 kind step) (start_whole c k h known fixed)
    (subst (λ (s : ℕ → Bool). GoesWrong (word_of c) s (whole_of c.template.ram h) (first_memory c) (trace_of c k) 0 kind step) (start_knows c k h known) wrong)

pub replayed_end : (c : Cert) (k : ℕ) (h new : Hart) → ((key : ℕ) → known_of h key ≡ lookup (start_of c k).places key) → fixed_now c.template.ram h ≡ fixed_in c.template.ram k (start_of c k)
    → TakesAll c.template.ram (word_of c) (first_memory c) h new (trace_of c k) → EndsAs c k new
replayed_end c k h new known fixed t =
    let run : WholeHart → Solo = λ g. solo (length (trace_of c k)) g (first_memory c) in
    let whole = start_whole c k h known fixed in
    record {
      hart = ap (λ (g : WholeHart). (run g).hart) (sym whole) ∙ t.hart;
      knows = ap (λ (g : WholeHart). knows_after (is_given (start_of c k)) (run g).steps) (sym whole)
          ∙ ap (λ (s : ℕ → Bool). knows_after s (run (whole_of c.template.ram h)).steps) (sym (start_knows c k h known)) ∙ t.knows;
    }

-- what is known is what is told of a known place
shown : (o : Option ℕ) → o ≡ (if is_some o then Some (unwrap_or o 0) else None)
shown None = refl
shown (Some v) = refl

ends_shown : (c : Cert) (k : ℕ) (h : Hart) → EndsAs c k h → (key : ℕ) → (if knows_after (is_given (start_of c k)) (solo_run c k).steps key then Some ((solo_run c k).hart.file key) else None) ≡ known_of h key
ends_shown c k h ends key =
    ap (λ (s : ℕ → Bool). if s key then Some ((solo_run c k).hart.file key) else None) ends.knows
    ∙ ap (λ (g : WholeHart). if knows_of h key then Some (g.file key) else None) ends.hart
    ∙ sym (shown (known_of h key))

abbrev all_fixed : List Region → ℕ → Priv → ℕ → ℕ → ℕ → ℕ → Fixed
all_fixed ram pc privilege mstatus medeleg satp number = record { pc = pc; privilege = privilege; mstatus = mstatus; medeleg = medeleg; satp = satp; number = number; ram = λ n. is_in_ram ram (n * 4) }

fixed_told : (ram : List Region) (k : ℕ) (s : HartState) (h : Hart) → IsFixedTold s k h → fixed_in ram k s ≡ fixed_now ram h
fixed_told ram k s h t =
    ap (λ (n : ℕ). all_fixed ram n s.privilege s.mstatus s.medeleg s.satp k) t.pc
    ∙ ap (λ (p : Priv). all_fixed ram h.pc p s.mstatus s.medeleg s.satp k) t.privilege
    ∙ ap (λ (n : ℕ). all_fixed ram h.pc h.privilege n s.medeleg s.satp k) t.mstatus
    ∙ ap (λ (n : ℕ). all_fixed ram h.pc h.privilege h.csrs.mstatus n s.satp k) t.medeleg
    ∙ ap (λ (n : ℕ). all_fixed ram h.pc h.privilege h.csrs.mstatus h.csrs.medeleg n k) t.satp
    ∙ ap (λ (n : ℕ). all_fixed ram h.pc h.privilege h.csrs.mstatus h.csrs.medeleg h.csrs.satp n) (sym t.number)

pub told_ends : (c : Cert) (k : ℕ) (h : Hart) → EndsAs c k h → IsFixedTold (final_of c k) k h → ((key : ℕ) → lookup (final_of c k).places key ≡ known_of h key) → EndsAsPrinted c k
told_ends c k h ends fixed places = record {
  fixed = fixed_told c.template.ram k (final_of c k) h fixed ∙ ap (λ (g : WholeHart). g.fixed) (sym ends.hart);
  places = λ key. places key ∙ sym (ends_shown c k h ends key);
}

pub ends_fixed : (c : Cert) (k : ℕ) (h : Hart) → EndsAs c k h → EndsAsPrinted c k → IsFixedTold (final_of c k) k h
ends_fixed c k h ends told =
    let same : fixed_in c.template.ram k (final_of c k) ≡ fixed_now c.template.ram h = told.fixed ∙ ap (λ (g : WholeHart). g.fixed) ends.hart in
    record {
      pc = ap (λ (f : Fixed). f.pc) same;
      privilege = ap (λ (f : Fixed). f.privilege) same;
      mstatus = ap (λ (f : Fixed). f.mstatus) same;
      medeleg = ap (λ (f : Fixed). f.medeleg) same;
      satp = ap (λ (f : Fixed). f.satp) same;
      number = sym (ap (λ (f : Fixed). f.number) same);
    }

pub ends_places : (c : Cert) (k : ℕ) (h : Hart) → EndsAs c k h → EndsAsPrinted c k → (key : ℕ) → lookup (final_of c k).places key ≡ known_of h key
ends_places c k h ends told key = told.places key ∙ ends_shown c k h ends key

-- ---- all keys by registers and CSRs

abbrev CsrsTold : CsrValues → List (ℕ × ℕ) → Type 0
CsrsTold csrs told = (register : Register) → lookup told (csr_key (address_of register)) ≡ lazy_value_at csrs (address_of register)

csrs_told : (csrs : CsrValues) (told : List (ℕ × ℕ)) → ArePlaces 0 told → CsrsTold csrs told → (key : ℕ) → 32 ≤ key → lookup told key ≡ lazy_value_at csrs (csr_address key)
csrs_told csrs told are registers key large = go (register_at (csr_address key)) refl
  where
    none : (o : Option Register) → register_at (csr_address key) ≡ o → ((lazy : LazyRegister) → o ≡ Some (Lazy lazy) → ⊥) → lookup told key ≡ None
    none o e other = found_no_key 0 told key are (λ is. let n : NamesCsr key = lazy_of key large is in other n.lazy (sym e ∙ n.at))

    go : (o : Option Register) → register_at (csr_address key) ≡ o → lookup told key ≡ known_in csrs (register_at (csr_address key))
    go None e = rw e (none None e (λ lazy f. absurd (cc f)))
    go (Some Sstatus) e = rw e (none (Some Sstatus) e (λ lazy f. absurd (cc f)))
    go (Some Satp) e = rw e (none (Some Satp) e (λ lazy f. absurd (cc f)))
    go (Some Mstatus) e = rw e (none (Some Mstatus) e (λ lazy f. absurd (cc f)))
    go (Some Medeleg) e = rw e (none (Some Medeleg) e (λ lazy f. absurd (cc f)))
    go (Some Mhartid) e = rw e (none (Some Mhartid) e (λ lazy f. absurd (cc f)))
    go (Some (Lazy lazy)) e =
        let address : address_of (Lazy lazy) ≡ csr_address key = has_address (csr_address key) (Lazy lazy) e in
        let is : csr_key (address_of (Lazy lazy)) ≡ key = omega (arith, address, address_positive lazy) in
        ap (lookup told) (sym is) ∙ registers (Lazy lazy) ∙ ap (λ (a : ℕ). lazy_value_at csrs a) address

pub all_told : (regs : List (Option ℕ)) (csrs : CsrValues) (told : List (ℕ × ℕ)) → ArePlaces 0 told
    → ((key : ℕ) → 1 ≤ key → key < 32 → lookup told key ≡ slice_index_or regs key None) → CsrsTold csrs told → (key : ℕ) → lookup told key ≡ known_at regs csrs key
all_told regs csrs told are registers of_csrs key = elim (cases_lt key 32) [
  | inl small ↦ of_register key small
  | inr large ↦ csrs_told csrs told are of_csrs key large ∙ sym (known_large regs csrs key large)
]
  where
    of_register : (n : ℕ) → n < 32 → lookup told n ≡ known_at regs csrs n
    of_register zero small = found_no_key 0 told 0 are (λ is. absurd (cc is)) ∙ sym (known_zero regs csrs)
    of_register (suc n) small = registers (suc n) (omega arith) small ∙ sym (known_small regs csrs (suc n) small (λ e. absurd (omega (arith, e))))

pub register_told : (regs : List (Option ℕ)) (csrs : CsrValues) (told : List (ℕ × ℕ)) → ((key : ℕ) → lookup told key ≡ known_at regs csrs key)
    → (key : ℕ) → 1 ≤ key → key < 32 → lookup told key ≡ slice_index_or regs key None
register_told regs csrs told all key some small = all key ∙ known_small regs csrs key small (λ e. absurd (omega (arith, e, some)))

pub csr_told : (regs : List (Option ℕ)) (csrs : CsrValues) (told : List (ℕ × ℕ)) → ((key : ℕ) → lookup told key ≡ known_at regs csrs key) → CsrsTold csrs told
csr_told regs csrs told all register = all (csr_key (address_of register)) ∙ known_csr regs csrs (address_of register)

-- what holds of each of the table holds of each
pub each_register : (P : Register → Type 0) → ((k : ℕ) → k < 15 → P (get_or registers k Sstatus)) → (register : Register) → P register
each_register P all Sstatus = all 0 (omega arith)
each_register P all (Lazy Stvec) = all 1 (omega arith)
each_register P all (Lazy Sscratch) = all 2 (omega arith)
each_register P all (Lazy Sepc) = all 3 (omega arith)
each_register P all (Lazy Scause) = all 4 (omega arith)
each_register P all (Lazy Stval) = all 5 (omega arith)
each_register P all Satp = all 6 (omega arith)
each_register P all Mstatus = all 7 (omega arith)
each_register P all Medeleg = all 8 (omega arith)
each_register P all (Lazy Mtvec) = all 9 (omega arith)
each_register P all (Lazy Mscratch) = all 10 (omega arith)
each_register P all (Lazy Mepc) = all 11 (omega arith)
each_register P all (Lazy Mcause) = all 12 (omega arith)
each_register P all (Lazy Mtval) = all 13 (omega arith)
each_register P all Mhartid = all 14 (omega arith)

-- ---- memory

-- the given words end as is printed just where they are seen so
pub memory_told : (c : Cert) (at : ℕ → Seen) → IsWellFormed c → ShowsOf c (in_turn (length c.start) (footprints_of (trace_of c)) (first_memory c)) at
    → ((k : ℕ) → k < length c.words → at ((get_or c.words k (0, 0)).0 / 4) ≡ Known (get_or c.last k 0)) ↔ MemoryEndsAsPrinted c
memory_told c at w s =
    each_told c.template.ram (word_of c) (in_turn (length c.start) (footprints_of (trace_of c)) (first_memory c)) at 0 c.words c.last s w.words
    (λ a v aligned e. ap (lookup c.words) (back a aligned) ∙ e) w.last_count
  where
    back : (a : ℕ) → a % 4 ≡ 0 → a / 4 * 4 ≡ a
    back a aligned = omega (arith, aligned)
