-- A system for each fill of what a start leaves open.
use Rattle.std.proofs.Common.{◌≡◌, ℕ, zero, suc, ◌+◌, ◌*◌, ◌^◌, ◌<◌, true, false, eqb, leb, ltb, ◌&&◌, List, [], ◌∷◌, length, Option, Some, None, refl, sym, ap, ◌∙◌, subst, inl, inr, arith}
use Rattle.std.specs.Prelude.{nat_eq, slice_index_or}
use Rattle.std.specs.List.{AllByRecursion, list_any}
use Rattle.std.specs.Option.{unwrap_or}
use Rattle.std.proofs.lemmas.Bool.{cases_Bool, eqb-true, and_right, or_cases}
use Rattle.rv_csr.specs.Table.{csr_key, lazy_csrs}
use Rattle.tpl_ast.specs.declared.template.HartState.{HartState}
use Rattle.tpl_ast.specs.States.{ArePlaces, AreStartWords, IsState, IsWord, is_key, is_legal_place}
use Rattle.tpl_admit.specs.declared.certificate.Cert.{Cert}
use Rattle.tpl_admit.specs.System.{System}
use Rattle.tpl_admit.specs.Starts.{no_state, start_of, word_of, first_system, AgreesWith, lookup}
use Rattle.tpl_admit.specs.WellFormed.{IsWellFormed}
use Rattle.rv_system.specs.Fills.{Fill, even_place, evenly, filled, filled_system, no_fill, fill_of, IsFilledBy, IsSameFor, AreLegalPlaces, IsLegalFill, IsLegalHart, IsLegalSystem}
use Rattle.rv_system.proofs.Law.{start_word}

-- ---- values that are given, and others

given_at : (given : ℕ → Option ℕ) (fill : ℕ → ℕ) (x v : ℕ) → given x ≡ Some v → filled given fill x ≡ v
given_at given fill x v is = ap (λ (o : Option ℕ). unwrap_or o (fill x)) is

open_at : (given : ℕ → Option ℕ) (fill : ℕ → ℕ) (x : ℕ) → given x ≡ None → filled given fill x ≡ fill x
open_at given fill x is = ap (λ (o : Option ℕ). unwrap_or o (fill x)) is

-- what has the given values is filled with its own
own_fill : (given : ℕ → Option ℕ) (f : ℕ → ℕ) → ((x v : ℕ) → given x ≡ Some v → f x ≡ v) → (x : ℕ) → f x ≡ filled given f x
own_fill given f has x = go (given x) refl
  where
    go : (o : Option ℕ) → given x ≡ o → f x ≡ unwrap_or o (f x)
    go None is = refl
    go (Some v) is = has x v is

-- a property of the values that are given and of the fill
filled_has : (P : ℕ → ℕ → Type 0) (given : ℕ → Option ℕ) (fill : ℕ → ℕ) → ((x v : ℕ) → given x ≡ Some v → P x v) → (x : ℕ) → P x (fill x) → P x (filled given fill x)
filled_has P given fill all x other = go (given x) refl
  where
    go : (o : Option ℕ) → given x ≡ o → P x (unwrap_or o (fill x))
    go None is = other
    go (Some v) is = all x v is

-- ---- systems

memory_words : (c : Cert) (fill : Fill) → AreStartWords c.template.ram 0 c.words → ((n : ℕ) → IsWord (fill.words n)) → (n : ℕ) → IsWord (filled (word_of c) fill.words n)
memory_words c fill words small n =
    filled_has (λ n v. IsWord v) (word_of c) fill.words (λ m v is. (start_word c.template.ram 0 c.words words (m * 4) v is).1) n (small n)

-- what is given of memory are words
pub fills_agree : (c : Cert) (fill : Fill) → AreStartWords c.template.ram 0 c.words → ((n : ℕ) → IsWord (fill.words n)) → AgreesWith c (filled_system c fill)
fills_agree c fill words small = record {
  harts = λ k l. record { fixed = refl; places = λ key v is. given_at (lookup (start_of c k).places) (fill.places k) key v is };
  words = λ n v is. given_at (word_of c) fill.words n v is;
  memory = λ n. memory_words c fill words small n;
}

pub fills_are_kept : (c : Cert) (fill : Fill) → IsFilledBy c fill (filled_system c fill)
fills_are_kept c fill = record {
  places = λ k key none. open_at (lookup (start_of c k).places) (fill.places k) key none;
  words = λ n none. open_at (word_of c) fill.words n none;
}

pub fills_are_all : (c : Cert) (sys : System) → AgreesWith c sys → IsSameFor c sys (filled_system c (fill_of sys))
fills_are_all c sys agrees = record {
  fixed = λ k l. (agrees.harts k l).fixed;
  places = λ k key l. own_fill (lookup (start_of c k).places) (sys.harts k).file (agrees.harts k l).places key;
  words = λ n. own_fill (word_of c) sys.memory agrees.words n;
}

-- ---- legal values

-- a place that is given has a word, and a legal value
given_legal : (from : ℕ) (es : List (ℕ × ℕ)) → ArePlaces from es → AllByRecursion (λ e. is_legal_place e ≡ true) es → (key v : ℕ) → lookup es key ≡ Some v → IsWord v × (is_legal_place (key, v) ≡ true)
given_legal from [] are legal key v is = absurd cc
given_legal from (e ∷ es) are legal key v is = elim (cases_Bool (eqb e.0 key)) [
  | inl here ↦
      let place : e.0 ≡ key = eqb-true e.0 key here in
      let value : e.1 ≡ v = (let both : Some e.1 ≡ Some v = rw here at is in cc both) in
      (subst (λ (n : ℕ). n < 2 ^ 32) value are.2, ap (λ (n : ℕ). is_legal_place (n, v)) (sym place) ∙ ap (λ (n : ℕ). is_legal_place (e.0, n)) (sym value) ∙ legal.0)
  | inr other ↦ given_legal (e.0 + 1) es are.3 legal.1 key v (rw other at is)
]

pub state_at : (ss : List HartState) (k : ℕ) → AllByRecursion IsState ss → k < length ss → IsState (slice_index_or ss k no_state)
state_at [] k are within = absurd (omega (arith, within))
state_at (s ∷ ss) zero are within = are.0
state_at (s ∷ ss) (suc k) are within = state_at ss k are.1 (omega (arith, within))

legal_hart : (c : Cert) (fill : Fill) (k : ℕ) → IsState (start_of c k) → AreLegalPlaces (fill.places k) → IsLegalHart ((filled_system c fill).harts k)
legal_hart c fill k is legal = record {
  pc = is.pc;
  aligned = is.aligned;
  mstatus = (is.mstatus, is.legal_mstatus);
  medeleg = (is.medeleg, is.legal_medeleg);
  satp = (is.satp, is.legal_satp);
  places = λ key place. filled_has (λ key v. IsWord v × (is_legal_place (key, v) ≡ true)) (lookup (start_of c k).places) (fill.places k)
      (λ key v given. given_legal 0 (start_of c k).places is.places is.legal_places key v given) key (legal key place);
}

pub fills_are_legal : (c : Cert) (fill : Fill) → IsWellFormed c → IsLegalFill (length c.start) fill → IsLegalSystem (length c.start) (filled_system c fill)
fills_are_legal c fill formed legal = record {
  harts = λ k within. legal_hart c fill k (state_at c.start k formed.start within) (legal.places k within);
  words = memory_words c fill formed.words legal.words;
}

pub machines_fill : (count : ℕ) (sys : System) → IsLegalSystem count sys → IsLegalFill count (fill_of sys)
machines_fill count sys legal = record { places = λ k within. (legal.harts k within).places; words = legal.words }

-- ---- zero

listed_legal : (addrs : List ℕ) (key : ℕ) → AllByRecursion (λ addr. is_legal_place (csr_key addr, 0) ≡ true) addrs → list_any (λ addr. nat_eq key (csr_key addr)) addrs ≡ true → is_legal_place (key, 0) ≡ true
listed_legal [] key are is = absurd (cc is)
listed_legal (addr ∷ addrs) key are is = elim (or_cases (nat_eq key (csr_key addr)) (list_any (λ (a : ℕ). nat_eq key (csr_key a)) addrs) is) [
  | inl here ↦ subst (λ (n : ℕ). is_legal_place (n, 0) ≡ true) (sym (eqb-true key (csr_key addr) here)) are.0
  | inr later ↦ listed_legal addrs key are.1 later
]

pub zero_legal : (key : ℕ) → is_key key ≡ true → is_legal_place (key, 0) ≡ true
zero_legal key place = elim (or_cases (leb 1 key && ltb key 32) (list_any (λ (a : ℕ). nat_eq key (csr_key a)) lazy_csrs) place) [
  | inl register ↦ elim (cases_Bool (ltb key 32)) [
    | inl below ↦ rw below refl
    | inr past ↦ absurd (differ (sym register ∙ and_right (leb 1 key) (ltb key 32) past))
  ]
  | inr csr ↦ listed_legal lazy_csrs key (refl, (refl, (refl, (refl, (refl, (refl, (refl, (refl, (refl, (refl, tt)))))))))) csr
]
  where
    differ : true ≡ false → ⊥
    differ e = cc

pub zero_is_a_fill : ((count : ℕ) → IsLegalFill count no_fill) × ((c : Cert) → first_system c ≡ filled_system c no_fill)
zero_is_a_fill = (λ count. record { places = λ k within key place. (omega arith, zero_legal key place); words = λ n. omega arith }, λ c. refl)

-- ---- an even fill

even_legal : (fill : ℕ) → IsWord fill → AreLegalPlaces (even_place fill)
even_legal fill small key place = elim (cases_Bool (ltb key 32)) [
  | inl below ↦ rw below (small, refl)
  | inr past ↦ even_zero key past (zero_legal key place)
]
  where
    even_zero : (key : ℕ) → ltb key 32 ≡ false → is_legal_place (key, 0) ≡ true → IsWord (even_place fill key) × (is_legal_place (key, even_place fill key) ≡ true)
    even_zero key past legal = let none : even_place fill key ≡ 0 = rw past refl in rw none (omega arith, legal)

pub evenly_legal : (count fill : ℕ) → IsWord fill → IsLegalFill count (evenly fill)
evenly_legal count fill small = record { places = λ k within. even_legal fill small; words = λ n. small }
