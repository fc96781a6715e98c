-- The values that are put into lazy registers keep them legal.
use Rattle.std.proofs.Common.{◌≡◌, ℕ, ◌/◌, ◌%◌, ◌^◌, ◌<◌, Bool, true, false, not, ◌&&◌, eqb, arith, cond, refl, sym, ap, ◌∙◌, subst, inl, inr, bit_and, List, length, get_or, get_or-set_same, get_or-set_other, Option, Some, None}
use Rattle.std.specs.Prelude.{slice_set, replicate, IfSome, IsTrue}
use Rattle.std.proofs.lemmas.Bool.{cases_eq, eqb-true}
use Rattle.std.proofs.lemmas.List.{length-set}
use Rattle.std.proofs.lemmas.Nat.{and_comm, and_shr, and_mod}
use Rattle.std.proofs.lemmas.Bool.Decides.{nat_tests}
use Rattle.rv_csr.specs.declared.privilege.Priv.{Priv}
use Rattle.rv_csr.specs.declared.privilege.Priv.TheVariants.{U, S, M}
use Rattle.rv_csr.specs.declared.table.LazyRegister.{LazyRegister}
use Rattle.rv_csr.specs.declared.table.LazyRegister.TheVariants.{Stvec, Scause}
use Rattle.rv_csr.specs.declared.table.Register.TheVariants.{Lazy, Medeleg}
use Rattle.rv_csr.specs.Causes.{is_cause}
use Rattle.rv_csr.specs.Table.{is_legal, lazy_registers}
use Rattle.rv_csr.specs.State.{AreLegalLazy, slot_of}
use Rattle.rv_csr.specs.Traps.{takes_trap}

pub cause_narrow : (n : ℕ) → IsTrue (is_cause n) → n < 16
cause_narrow n h = grind (arith, nat_tests)

none_at : (register : LazyRegister) → get_or (replicate 10 (let o : Option ℕ = None in o)) (slot_of register) None ≡ None
none_at Stvec = refl
none_at _ = refl

pub none_legal : AreLegalLazy (replicate 10 None)
none_legal = record { size = refl; words = λ register. rw none_at tt; legal = λ register. rw none_at tt }

-- the register at a place
at_slot : (register : LazyRegister) → get_or lazy_registers (slot_of register) Stvec ≡ register
at_slot Stvec = refl
at_slot _ = refl

pub slots_apart : (a b : LazyRegister) → slot_of a ≡ slot_of b → a ≡ b
slots_apart a b h = sym (at_slot a) ∙ ap (λ (i : ℕ). get_or lazy_registers i Stvec) h ∙ at_slot b

pub slot_below : (register : LazyRegister) → slot_of register < 10
slot_below Stvec = omega arith
slot_below _ = omega arith

-- what holds of each value and of the new one holds of each after it
each_put : (P : LazyRegister → ℕ → Type 0) (values : List (Option ℕ)) (register : LazyRegister) (n : ℕ) → length values ≡ 10 → ((r : LazyRegister) → IfSome (get_or values (slot_of r) None) (P r)) → P register n → (r : LazyRegister) → IfSome (get_or (slice_set values (slot_of register) (Some n)) (slot_of r) None) (P r)
each_put P values register n size each new r =
    elim (cases_eq (slot_of r) (slot_of register)) [
      | inl e ↦
          let at : get_or (slice_set values (slot_of register) (Some n)) (slot_of r) None ≡ Some n =
          ap (λ (i : ℕ). get_or (slice_set values (slot_of register) (Some n)) i None) e ∙ get_or-set_same values (slot_of register) (Some n) None (rw size (slot_below register)) in
          let here : P r n = subst (λ (a : LazyRegister). P a n) (sym (slots_apart r register e)) new in
          subst (λ (o : Option ℕ). IfSome o (P r)) (sym at) here
      | inr d ↦
          let at : get_or (slice_set values (slot_of register) (Some n)) (slot_of r) None ≡ get_or values (slot_of r) None = get_or-set_other values (slot_of register) (slot_of r) (Some n) None d in
          subst (λ (o : Option ℕ). IfSome o (P r)) (sym at) (each r)
    ]

pub put_legal : (values : List (Option ℕ)) (register : LazyRegister) (n : ℕ) → AreLegalLazy values → n < 2 ^ 32 → is_legal (Lazy register) n ≡ true → AreLegalLazy (slice_set values (slot_of register) (Some n))
put_legal values register n h word legal = record {
  size = length-set values (slot_of register) (Some n) ∙ h.size;
  words = each_put (λ _ m. m < 2 ^ 32) values register n h.size h.words word;
  legal = each_put (λ r m. is_legal (Lazy r) m ≡ true) values register n h.size h.legal legal;
}

if_some : (o : Option ℕ) (n : ℕ) (P : ℕ → Type 0) → o ≡ Some n → IfSome o P → P n
if_some o n P is h = subst (λ (x : Option ℕ). IfSome x P) is h

pub known_legal : (values : List (Option ℕ)) (register : LazyRegister) (n : ℕ) → AreLegalLazy values → get_or values (slot_of register) None ≡ Some n → is_legal (Lazy register) n ≡ true
known_legal values register n h is = if_some _ n (λ m. is_legal (Lazy register) m ≡ true) is (h.legal register)

-- bit 11 of a legal medeleg is 0
no_call_from_machine : (medeleg : ℕ) → is_legal Medeleg medeleg ≡ true → medeleg / 2 ^ 11 % 2 ^ 1 ≡ 0
no_call_from_machine medeleg h =
    let within : bit_and medeleg 0x0000_b3ff ≡ medeleg = eqb-true _ _ h in
    let field : bit_and medeleg 0x0000_b3ff / 2 ^ 11 % 2 ^ 1 ≡ bit_and (medeleg / 2 ^ 11 % 2 ^ 1) 0 =
    ap (λ (n : ℕ). n % 2 ^ 1) (and_shr medeleg 0x0000_b3ff 11) ∙ and_mod (medeleg / 2 ^ 11) (0x0000_b3ff / 2 ^ 11) 1 in
    ap (λ (n : ℕ). n / 2 ^ 11 % 2 ^ 1) (sym within) ∙ field ∙ and_comm _ 0

eqb_not : (a b : ℕ) → (a ≡ b → ⊥) → not (eqb a b) ≡ true
eqb_not a b k = grind (arith, nat_tests)

both : (a b : Bool) → IsTrue a → b ≡ true → (a && b) ≡ true
both true b h k = k
both false b h k = h

delegated_bit : (b : Bool) → cond b S M ≡ S → b ≡ true
delegated_bit true h = refl
delegated_bit false h = cc

taken : (medeleg cause : ℕ) → is_legal Medeleg medeleg ≡ true → IsTrue (is_cause cause) → takes_trap medeleg U cause ≡ S → is_legal (Lazy Scause) cause ≡ true
taken medeleg cause h is to =
    let bit : medeleg / 2 ^ cause % 2 ≡ 1 = eqb-true _ _ (delegated_bit _ to) in
    let other : cause ≡ 11 → ⊥ = λ e. (let same : medeleg / 2 ^ 11 % 2 ^ 1 ≡ 1 = ap (λ (i : ℕ). medeleg / 2 ^ i % 2) (sym e) ∙ bit in let none = no_call_from_machine medeleg h in omega arith) in
    both (is_cause cause) _ is (eqb_not cause 11 other)

pub delegated_legal : (medeleg : ℕ) (from : Priv) (cause : ℕ) → is_legal Medeleg medeleg ≡ true → IsTrue (is_cause cause) → takes_trap medeleg from cause ≡ S → is_legal (Lazy Scause) cause ≡ true
delegated_legal medeleg U cause h is to = taken medeleg cause h is to
delegated_legal medeleg S cause h is to = taken medeleg cause h is to
delegated_legal medeleg M cause h is to = cc
