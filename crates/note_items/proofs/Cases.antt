-- Numbers that stand for a privilege, a role, an outcome, a register or a reason.
use Rattle.std.proofs.Common.{◌≡◌, ℕ, ◌^◌, ◌<◌, ◌≤◌, ◌⊎◌, Bool, true, false, cond, ltb, eqb, Some, None, refl, sym, ap, subst, ◌∙◌, arith, inl, inr}
use Rattle.std.specs.declared.option.Option.{Option}
use Rattle.std.proofs.lemmas.Bool.{eqb-true, ltb-true, lt-ltb}
use Rattle.std.proofs.lemmas.Bool.Decides.{nat_tests}
use Rattle.std.proofs.lemmas.Option.{cond_some, same_Some}
use Rattle.rv_csr.specs.Causes.{is_cause}
use Rattle.rv_script.specs.declared.access.Role.{Role}
use Rattle.rv_script.specs.declared.access.Role.TheVariants.{Fetch, Walk, Load, Store}
use Rattle.rv_csr.specs.declared.privilege.Priv.{Priv}
use Rattle.rv_csr.specs.declared.privilege.Priv.TheVariants.{U, S, M}
use Rattle.rv_hart.specs.declared.record.Outcome.{Outcome}
use Rattle.rv_hart.specs.declared.record.Outcome.TheVariants.{Retired, Trap}
use Rattle.tpl_admit.specs.declared.dropped.Why.{Why}
use Rattle.tpl_admit.specs.declared.dropped.Why.TheVariants.{NoneFits, Spent}
use Rattle.tpl_admit.specs.WellFormed.{IsOutcome, IsWritten}
use Rattle.byte_format.specs.Internal.Readers.{◌>>=◌}
use Rattle.byte_format.proofs.Bytes.{bind_some, where_true}
use Rattle.note_items.specs.Spelling.{level, role_number, outcome_number, taker_number, trap_value, rd_number, rd_value, why_number}
use Rattle.note_items.specs.Internal.Readers.{priv_of, role_of, outcome_of, rd_of, why_of}
use Rattle.note_items.proofs.Booleans.{apart}
use Rattle.note_items.proofs.Keys.{cause_small}

chosen : {A : Type 0} (b : Bool) (x y z : A) → cond b x y ≡ z → ((b ≡ true) × (x ≡ z)) ⊎ ((b ≡ false) × (y ≡ z))
chosen true x y z e = inl (refl, e)
chosen false x y z e = inr (refl, e)

pub priv_from : (n : ℕ) (p : Priv) → priv_of n ≡ Some p → level p ≡ n
priv_from n p e =
    elim (chosen (eqb n 0) (Some U) (cond (eqb n 1) (Some S) (cond (eqb n 3) (Some M) None)) (Some p) e) [
      | inl h ↦ ap level (sym (same_Some _ _ h.1)) ∙ sym (eqb-true n 0 h.0)
      | inr g ↦ elim (chosen (eqb n 1) (Some S) (cond (eqb n 3) (Some M) None) (Some p) g.1) [
        | inl h ↦ ap level (sym (same_Some _ _ h.1)) ∙ sym (eqb-true n 1 h.0)
        | inr g ↦ let h = cond_some (eqb n 3) M p g.1 in ap level (sym h.1) ∙ sym (eqb-true n 3 h.0)
      ]
    ]

pub priv_back : (p : Priv) → priv_of (level p) ≡ Some p
priv_back U = refl
priv_back S = refl
priv_back M = refl

pub level_fits : (p : Priv) → level p < 256
level_fits U = omega arith
level_fits S = omega arith
level_fits M = omega arith

pub role_from : (n : ℕ) (r : Role) → role_of n ≡ Some r → role_number r ≡ n
role_from n r e =
    elim (chosen (eqb n 0) (Some Fetch) (cond (eqb n 1) (Some Walk) (cond (eqb n 2) (Some Load) (cond (eqb n 3) (Some Store) None))) (Some r) e) [
      | inl h ↦ ap role_number (sym (same_Some _ _ h.1)) ∙ sym (eqb-true n 0 h.0)
      | inr g ↦ elim (chosen (eqb n 1) (Some Walk) (cond (eqb n 2) (Some Load) (cond (eqb n 3) (Some Store) None)) (Some r) g.1) [
        | inl h ↦ ap role_number (sym (same_Some _ _ h.1)) ∙ sym (eqb-true n 1 h.0)
        | inr g ↦ elim (chosen (eqb n 2) (Some Load) (cond (eqb n 3) (Some Store) None) (Some r) g.1) [
          | inl h ↦ ap role_number (sym (same_Some _ _ h.1)) ∙ sym (eqb-true n 2 h.0)
          | inr g ↦ let h = cond_some (eqb n 3) Store r g.1 in ap role_number (sym h.1) ∙ sym (eqb-true n 3 h.0)
        ]
      ]
    ]

pub role_back : (r : Role) → role_of (role_number r) ≡ Some r
role_back Fetch = refl
role_back Walk = refl
role_back Load = refl
role_back Store = refl

pub role_fits : (r : Role) → role_number r < 256
role_fits Fetch = omega arith
role_fits Walk = omega arith
role_fits Load = omega arith
role_fits Store = omega arith

pub why_from : (n : ℕ) (w : Why) → why_of n ≡ Some w → why_number w ≡ n
why_from n w e =
    elim (chosen (eqb n 0) (Some NoneFits) (cond (eqb n 1) (Some Spent) None) (Some w) e) [
      | inl h ↦ ap why_number (sym (same_Some _ _ h.1)) ∙ sym (eqb-true n 0 h.0)
      | inr g ↦ let h = cond_some (eqb n 1) Spent w g.1 in ap why_number (sym h.1) ∙ sym (eqb-true n 1 h.0)
    ]

pub why_back : (w : Why) → why_of (why_number w) ≡ Some w
why_back NoneFits = refl
why_back Spent = refl

pub why_fits : (w : Why) → why_number w < 2 ^ 32
why_fits NoneFits = omega arith
why_fits Spent = omega arith

cause_not : (n : ℕ) → is_cause n ≡ true → eqb n 255 ≡ false
cause_not n h = let small = cause_small n h in apart n 255 (λ e. absurd (omega arith))

pub record TellsOutcome (o : Outcome) (cause taker value : ℕ) : Type 0 where
  pub cause_is : outcome_number o ≡ cause
  pub taker_is : taker_number o ≡ taker
  pub value_is : trap_value o ≡ value
  pub fits : IsOutcome o

pub outcome_from : (cause taker value : ℕ) (o : Outcome) → value < 2 ^ 32 → outcome_of cause taker value ≡ Some o → TellsOutcome o cause taker value
unfolding outcome_of
outcome_from cause taker value o below e =
    elim (chosen (eqb cause 255) (cond (eqb taker 255) (cond (eqb value 0) (Some Retired) None) None) (cond (is_cause cause) (priv_of taker >>= λ to. Some (Trap cause value to)) None) (Some o) e) [
      | inl h ↦
          let a = where_true (eqb taker 255) (cond (eqb value 0) (Some Retired) None) o h.1 in
          let b = cond_some (eqb value 0) Retired o a.1 in
          subst (λ (z : Outcome). TellsOutcome z cause taker value) b.1 (record { cause_is = sym (eqb-true cause 255 h.0); taker_is = sym (eqb-true taker 255 a.0); value_is = sym (eqb-true value 0 b.0); fits = tt })
      | inr h ↦
          let a = where_true (is_cause cause) (priv_of taker >>= λ to. Some (Trap cause value to)) o h.1 in
          let b = bind_some (priv_of taker) (λ to. Some (Trap cause value to)) o a.1 in
          subst (λ (z : Outcome). TellsOutcome z cause taker value) (same_Some _ _ b.2) (record { cause_is = refl; taker_is = priv_from taker b.0 b.1; value_is = refl; fits = (a.0, below) })
    ]

pub outcome_back : (o : Outcome) → IsOutcome o → outcome_of (outcome_number o) (taker_number o) (trap_value o) ≡ Some o
unfolding outcome_of
outcome_back Retired fits = refl
outcome_back (Trap cause value to) fits = rw (cause_not cause fits.0, fits.0, priv_back to) refl

pub record AreBytes (o : Outcome) : Type 0 where
  pub cause : outcome_number o < 256
  pub taker : taker_number o < 256
  pub value : trap_value o < 2 ^ 32

pub outcome_fits : (o : Outcome) → IsOutcome o → AreBytes o
outcome_fits Retired fits = record { cause = omega arith; taker = omega arith; value = omega arith }
outcome_fits (Trap cause value to) fits = record { cause = (let small = cause_small cause fits.0 in omega arith); taker = level_fits to; value = fits.1 }

pub record TellsWrite (rd : Option (ℕ × ℕ)) (n value : ℕ) : Type 0 where
  pub number_is : rd_number rd ≡ n
  pub value_is : rd_value rd ≡ value
  pub fits : IsWritten rd

pub rd_from : (n value : ℕ) (rd : Option (ℕ × ℕ)) → value < 2 ^ 32 → rd_of n value ≡ Some rd → TellsWrite rd n value
rd_from n value rd below e =
    elim (chosen (eqb n 0) (cond (eqb value 0) (Some None) None) (cond (ltb n 32) (Some (Some (n, value))) None) (Some rd) e) [
      | inl h ↦
          let a = cond_some (eqb value 0) None rd h.1 in
          subst (λ (z : Option (ℕ × ℕ)). TellsWrite z n value) a.1 (record { number_is = sym (eqb-true n 0 h.0); value_is = sym (eqb-true value 0 a.0); fits = tt })
      | inr h ↦
          let a = cond_some (ltb n 32) (Some (n, value)) rd h.1 in
          let some : 1 ≤ n = grind (arith, nat_tests) in
          subst (λ (z : Option (ℕ × ℕ)). TellsWrite z n value) a.1 (record { number_is = refl; value_is = refl; fits = (some, ltb-true n 32 a.0, below) })
    ]

not_zero : (n : ℕ) → 1 ≤ n → eqb n 0 ≡ false
not_zero n h = grind (arith, nat_tests)

pub rd_back : (rd : Option (ℕ × ℕ)) → IsWritten rd → rd_of (rd_number rd) (rd_value rd) ≡ Some rd
rd_back None fits = refl
rd_back (Some rd) fits = rw (not_zero rd.0 fits.0, lt-ltb rd.0 32 fits.1) refl

pub record AreParts (rd : Option (ℕ × ℕ)) : Type 0 where
  pub number : rd_number rd < 256
  pub value : rd_value rd < 2 ^ 32

pub rd_fits : (rd : Option (ℕ × ℕ)) → IsWritten rd → AreParts rd
rd_fits None fits = record { number = omega arith; value = omega arith }
rd_fits (Some rd) fits = record { number = omega (arith, fits.1); value = fits.2 }
