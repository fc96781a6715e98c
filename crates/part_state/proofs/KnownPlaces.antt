-- The known places of a hart, as a list.
use Rattle.std.proofs.Common.{◌≡◌, ℕ, zero, suc, ◌+◌, ◌*◌, ◌<◌, ◌≤◌, Bool, true, false, eqb, ltb, if◌then◌else◌, List, [], ◌∷◌, ◌++◌, length, drop, get_or, Option, Some, None, refl, sym, ap, ◌∙◌, subst, inl, inr, arith}
use Rattle.std.specs.List.{list_any}
use Rattle.std.specs.Option.{option_or}
use Rattle.std.proofs.lemmas.Bool.{cases_Bool, cases_lt, eqb-true, eq-eqb, ne_eqb, ltb-true, lt-ltb, false_from_ne_true}
use Rattle.rv_csr.specs.declared.table.LazyRegister.{LazyRegister}
use Rattle.rv_csr.specs.declared.table.LazyRegister.TheVariants.{Stvec, Sscratch, Sepc, Scause, Stval, Mtvec, Mscratch, Mepc, Mcause, Mtval}
use Rattle.rv_csr.specs.declared.table.Register.{Register}
use Rattle.rv_csr.specs.declared.table.Register.TheVariants.{Sstatus, Satp, Mstatus, Medeleg, Mhartid, Lazy}
use Rattle.rv_csr.specs.Table.{csr_key, csr_address, address_of, register_at}
use Rattle.rv_csr.specs.State.{CsrValues, lazy_value_at, known_in as known_register}
use Rattle.std.proofs.Math.Path.{fun_ext}
use Rattle.rv_mem.specs.declared.words.Seen.{Seen}
use Rattle.rv_mem.specs.Seen.{is_there}
use Rattle.tpl_admit.specs.declared.certificate.Cert.{Cert}
use Rattle.tpl_admit.specs.Starts.{lookup}
use Rattle.tpl_ast.specs.States.{is_in_ram}
use Rattle.part_laws.specs.Laws.{IsStateOf}
use Rattle.part_machine.specs.Whole.{Bare}
use Rattle.part_state.specs.Meaning.{value_of_key, held_in, IsFit}
use Rattle.part_told.specs.Finishing.{known_one, known_from, known_csrs, csr_addresses, places_in, told_state}
use Rattle.part_state.proofs.Keys.{none_low}
use Rattle.given_start.proofs.Lazy.{has_address}

found_append : (xs ys : List (ℕ × ℕ)) (key : ℕ) → lookup (xs ++ ys) key ≡ option_or (lookup xs key) (lookup ys key)
found_append [] ys key = refl
found_append (x ∷ xs) ys key = elim (cases_Bool (eqb x.0 key)) [ inl t ↦ rw t refl | inr f ↦ rw f (found_append xs ys key) ]

found_one : (k : ℕ) (o : Option ℕ) (key : ℕ) → lookup (known_one k o) key ≡ (if eqb k key then o else None)
found_one k None key = elim (cases_Bool (eqb k key)) [ inl t ↦ rw t refl | inr f ↦ rw f refl ]
found_one k (Some v) key = refl

or_none : (o : Option ℕ) → option_or o None ≡ o
or_none None = refl
or_none (Some v) = refl

or_same : (o : Option ℕ) → option_or o o ≡ o
or_same None = refl
or_same (Some v) = refl

-- ---- registers

found_more : (n : ℕ) (o : Option ℕ) (os : List (Option ℕ)) (key : ℕ) → lookup (known_from n (o ∷ os)) key ≡ option_or (if eqb n key then o else None) (lookup (known_from (n + 1) os) key)
found_more n o os key =
    found_append (known_one n o) (known_from (n + 1) os) key ∙ ap (λ (q : Option ℕ). option_or q (lookup (known_from (n + 1) os) key)) (found_one n o key)

below : (n : ℕ) (os : List (Option ℕ)) (key : ℕ) → key < n → lookup (known_from n os) key ≡ None
below n [] key l = refl
below n (o ∷ os) key l = found_more n o os key ∙ rw (ne_eqb n key (λ e. absurd (omega (arith, e, l)))) (below (n + 1) os key (omega (arith, l)))

register_at_key : (n : ℕ) (os : List (Option ℕ)) (i : ℕ) → lookup (known_from n os) (n + i) ≡ get_or os i None
register_at_key n [] i = refl
register_at_key n (o ∷ os) zero =
    let same : n ≡ n + 0 = omega arith in
    found_more n o os (n + 0) ∙ rw (eq-eqb n (n + 0) same) (ap (λ (q : Option ℕ). option_or o q) (below (n + 1) os (n + 0) (omega arith)) ∙ or_none o)
register_at_key n (o ∷ os) (suc i) =
    let same : n + suc i ≡ n + 1 + i = omega arith in
    found_more n o os (n + suc i)
    ∙ rw (ne_eqb n (n + suc i) (λ e. absurd (omega (arith, e)))) (ap (λ (k : ℕ). lookup (known_from (n + 1) os) k) same ∙ register_at_key (n + 1) os i)

above : (n : ℕ) (os : List (Option ℕ)) (key : ℕ) → n + length os ≤ key → lookup (known_from n os) key ≡ None
above n [] key l = refl
above n (o ∷ os) key l = found_more n o os key ∙ rw (ne_eqb n key (λ e. absurd (omega (arith, e, l)))) (above (n + 1) os key (omega (arith, l)))

-- ---- CSRs

abbrev is_one : ℕ → List ℕ → Bool
is_one key addrs = list_any (λ a. eqb (csr_key a) key) addrs

csr_at_key : (addrs : List ℕ) (csrs : CsrValues) (key : ℕ) → lookup (known_csrs addrs csrs) key ≡ (if is_one key addrs then lazy_value_at csrs (csr_address key) else None)
csr_at_key [] csrs key = refl
csr_at_key (a ∷ addrs) csrs key =
    found_append (known_one (csr_key a) (lazy_value_at csrs a)) (known_csrs addrs csrs) key
    ∙ ap (λ (q : Option ℕ). option_or q (lookup (known_csrs addrs csrs) key)) (found_one (csr_key a) (lazy_value_at csrs a) key)
    ∙ ap (λ (q : Option ℕ). option_or (if eqb (csr_key a) key then lazy_value_at csrs a else None) q) (csr_at_key addrs csrs key)
    ∙ elim (cases_Bool (eqb (csr_key a) key)) [
      | inl t ↦
          let is : csr_key a ≡ key = eqb-true (csr_key a) key t in
          let same : a ≡ csr_address key = omega (arith, is) in
          rw t (ap (λ (i : ℕ). option_or (lazy_value_at csrs i) (if is_one key addrs then lazy_value_at csrs (csr_address key) else None)) same ∙ either (is_one key addrs))
      | inr f ↦ rw f refl
    ]
  where
    either : (b : Bool) → option_or (lazy_value_at csrs (csr_address key)) (if b then lazy_value_at csrs (csr_address key) else None) ≡ lazy_value_at csrs (csr_address key)
    either true = or_same (lazy_value_at csrs (csr_address key))
    either false = or_none (lazy_value_at csrs (csr_address key))

listed : (r : LazyRegister) → is_one (csr_key (address_of (Lazy r))) csr_addresses ≡ true
listed Stvec = refl
listed Sscratch = refl
listed Sepc = refl
listed Scause = refl
listed Stval = refl
listed Mtvec = refl
listed Mscratch = refl
listed Mepc = refl
listed Mcause = refl
listed Mtval = refl

csrs_known : (csrs : CsrValues) (key : ℕ) → lookup (known_csrs csr_addresses csrs) key ≡ (if ltb key 4097 then None else lazy_value_at csrs (csr_address key))
csrs_known csrs key = csr_at_key csr_addresses csrs key ∙ elim (cases_lt key 4097) [
  | inl l ↦ rw (lt-ltb key 4097 l) (low (is_one key csr_addresses) l)
  | inr g ↦ rw (false_from_ne_true (ltb key 4097) (λ t. let l : key < 4097 = ltb-true key 4097 t in absurd (omega (arith, l, g)))) (high g (register_at (csr_address key)) refl)
]
  where
    low : (b : Bool) → key < 4097 → (if b then lazy_value_at csrs (csr_address key) else None) ≡ None
    low true l = none_low csrs key l
    low false l = refl

    nothing : (b : Bool) (o : Option ℕ) → (if b then o else o) ≡ o
    nothing true o = refl
    nothing false o = refl

    none : (o : Option Register) → register_at (csr_address key) ≡ o → known_register csrs o ≡ None → (if is_one key csr_addresses then lazy_value_at csrs (csr_address key) else None) ≡ lazy_value_at csrs (csr_address key)
    none o e n =
        let is : lazy_value_at csrs (csr_address key) ≡ None = ap (known_register csrs) e ∙ n in
        ap (λ (q : Option ℕ). if is_one key csr_addresses then q else None) is ∙ nothing (is_one key csr_addresses) None ∙ sym is

    high : 4097 ≤ key → (o : Option Register) → register_at (csr_address key) ≡ o → (if is_one key csr_addresses then lazy_value_at csrs (csr_address key) else None) ≡ lazy_value_at csrs (csr_address key)
    high g None e = none None e refl
    high g (Some Sstatus) e = none (Some Sstatus) e refl
    high g (Some Satp) e = none (Some Satp) e refl
    high g (Some Mstatus) e = none (Some Mstatus) e refl
    high g (Some Medeleg) e = none (Some Medeleg) e refl
    high g (Some Mhartid) e = none (Some Mhartid) e refl
    high g (Some (Lazy r)) e =
        let own : address_of (Lazy r) ≡ csr_address key = has_address (csr_address key) (Lazy r) e in
        let same : csr_key (address_of (Lazy r)) ≡ key = ap csr_key own ∙ omega (arith, g) in
        let here : is_one key csr_addresses ≡ true = subst (λ (k : ℕ). is_one k csr_addresses ≡ true) same (listed r) in
        rw here refl

-- ---- both

dropped_at : (os : List (Option ℕ)) (i : ℕ) → get_or (drop 1 os) i None ≡ get_or os (suc i) None
dropped_at [] i = refl
dropped_at (o ∷ os) i = refl

pub places_known : (b : Bare) → IsFit b → (key : ℕ) → lookup (places_in b) key ≡ value_of_key b key
places_known b fit key = found_append (known_from 1 (drop 1 b.regs)) (known_csrs csr_addresses b.csrs) key ∙ go key
  where
    size : (os : List (Option ℕ)) → length os ≡ 32 → length (drop 1 os) ≡ 31
    size [] e = absurd (omega (arith, e))
    size (o ∷ os) e = omega (arith, e)

    csrs_low : (k : ℕ) → k < 32 → lookup (known_csrs csr_addresses b.csrs) k ≡ None
    csrs_low k l = csrs_known b.csrs k ∙ rw (lt-ltb k 4097 (omega (arith, l))) refl

    go : (k : ℕ) → option_or (lookup (known_from 1 (drop 1 b.regs)) k) (lookup (known_csrs csr_addresses b.csrs) k) ≡ value_of_key b k
    go zero = rw (below 1 (drop 1 b.regs) 0 (omega arith)) (csrs_low 0 (omega arith))
    go (suc i) = elim (cases_lt (suc i) 32) [
      | inl l ↦
          let one : 1 + i ≡ suc i = omega arith in
          let reg : lookup (known_from 1 (drop 1 b.regs)) (suc i) ≡ get_or b.regs (suc i) None =
          ap (λ (k : ℕ). lookup (known_from 1 (drop 1 b.regs)) k) (sym one) ∙ register_at_key 1 (drop 1 b.regs) i ∙ dropped_at b.regs i in
          rw (lt-ltb (suc i) 32 l, ne_eqb (suc i) 0 (λ e. absurd (omega (arith, e))), reg, csrs_low (suc i) l) (or_none (get_or b.regs (suc i) None))
      | inr g ↦
          let high : ltb (suc i) 32 ≡ false = false_from_ne_true (ltb (suc i) 32) (λ t. let l : suc i < 32 = ltb-true (suc i) 32 t in absurd (omega (arith, l, g))) in
          let past : lookup (known_from 1 (drop 1 b.regs)) (suc i) ≡ None = above 1 (drop 1 b.regs) (suc i) (omega (arith, size b.regs fit.size, g)) in
          rw (high, past) (csrs_known b.csrs (suc i) ∙ elim (cases_lt (suc i) 4097) [
            | inl l ↦ rw (lt-ltb (suc i) 4097 l) (sym (none_low b.csrs (suc i) l))
            | inr h ↦ rw (false_from_ne_true (ltb (suc i) 4097) (λ t. let l : suc i < 4097 = ltb-true (suc i) 4097 t in absurd (omega (arith, l, h)))) refl
          ])
    ]

-- a hart as a certificate tells it is a state of what is held of it
pub told_state_is : (c : Cert) (k : ℕ) (b : Bare) (at : ℕ → Seen) → IsFit b → b.csrs.hart ≡ k → ((n : ℕ) → is_in_ram c.template.ram (n * 4) ≡ is_there (at n)) → IsStateOf c k (told_state b) (held_in b at)
told_state_is c k b at fit number there =
    let ram : (λ n. is_in_ram c.template.ram (n * 4)) ≡ (λ n. is_there (at n)) = fun_ext there in
    record {
      fixed = λ i. record { pc = b.pc; privilege = b.privilege; mstatus = b.csrs.mstatus; medeleg = b.csrs.medeleg; satp = b.csrs.satp; number = sym number i; ram = ram i };
      places = places_known b fit;
    }
