-- Harts one after another, as they are declared.
use Rattle.std.proofs.Common.{◌≡◌, ℕ, zero, suc, ◌+◌, ◌<◌, eqb, ltb, if◌then◌else◌, List, [], ◌∷◌, ◌++◌, length, map, get_or, Option, None, refl, sym, ap, ◌∙◌, subst, inl, inr, arith}
use Rattle.std.specs.List.{AllByRecursion}
use Rattle.std.proofs.lemmas.Bool.{cases_lt}
use Rattle.std.proofs.lemmas.List.{map-append, get_or_append_left, get_or_push, get_or-map, length-map}
use Rattle.rv_csr.specs.Table.{csr_address}
use Rattle.rv_csr.specs.State.{CsrValues, lazy_value_at}
use Rattle.rv_hart.specs.declared.hart.Hart.{Hart}
use Rattle.tpl_ast.specs.declared.template.HartDecl.{HartDecl}
use Rattle.tpl_admit.specs.Starts.{no_state}
use Rattle.tpl_ast.specs.States.{IsState}
use Rattle.given_start.specs.Knowledge.{known_at}
use Rattle.part_machine.specs.Whole.{Bare, bare, no_hart}
use Rattle.part_state.specs.Beginning.{IsHartOf, AreHartsOf, start_in}

pub known_at_is : (regs : List (Option ℕ)) (csrs : CsrValues) (key : ℕ) → known_at regs csrs key ≡ (if ltb key 32 then (if eqb key 0 then None else get_or regs key None) else lazy_value_at csrs (csr_address key))
unfolding known_at
known_at_is regs csrs key = refl

-- the first k harts are as they are declared
pub record AreBegun (decls : List HartDecl) (harts : List Hart) (k : ℕ) : Type 0 where
  pub count : length harts ≡ k
  pub each : (j : ℕ) → j < k → IsHartOf j (start_in decls j) (get_or (map bare harts) j no_hart)

pub begun_more : (decls : List HartDecl) (harts new : List Hart) (h : Hart) (k : ℕ) → new ≡ harts ++ h ∷ [] → IsHartOf k (start_in decls k) (bare h) → AreBegun decls harts k → AreBegun decls new (k + 1)
begun_more decls harts new h k is one are = record {
  count = ap (λ (hs : List Hart). length hs) is ∙ longer harts ∙ ap (λ (n : ℕ). n + 1) are.count;
  each = λ j l. subst (λ (bs : List Bare). IsHartOf j (start_in decls j) (get_or bs j no_hart)) (sym (ap (map bare) is ∙ map-append bare harts (h ∷ []))) (at j l);
}
  where
    longer : (hs : List Hart) → length (hs ++ h ∷ []) ≡ length hs + 1
    longer [] = refl
    longer (x ∷ hs) = omega (arith, longer hs)

    size : length (map bare harts) ≡ k
    size = length-map harts bare ∙ are.count

    at : (j : ℕ) → j < k + 1 → IsHartOf j (start_in decls j) (get_or (map bare harts ++ bare h ∷ []) j no_hart)
    at j l = elim (cases_lt j k) [
      | inl below ↦ subst (λ (b : Bare). IsHartOf j (start_in decls j) b) (sym (get_or_append_left (map bare harts) (bare h ∷ []) no_hart j (omega (arith, below, size)))) (are.each j below)
      | inr above ↦
          let same : k ≡ j = omega (arith, l, above) in
          subst (λ (i : ℕ). IsHartOf i (start_in decls i) (get_or (map bare harts ++ bare h ∷ []) i no_hart)) same
          (subst (λ (b : Bare). IsHartOf k (start_in decls k) b) (sym (get_or_push (map bare harts) (bare h) no_hart k size)) one)
    ]

pub begun_all : (decls : List HartDecl) (harts : List Hart) (k : ℕ) → k ≡ length decls → AreBegun decls harts k → AreHartsOf decls (map bare harts)
begun_all decls harts k end are = record {
  count = length-map harts bare ∙ are.count ∙ end;
  each = λ j l. are.each j (omega (arith, l, end));
}

-- the state of a declaration
pub declared_at : (decls : List HartDecl) (k : ℕ) (d : HartDecl) → k < length decls → start_in decls k ≡ (get_or decls k d).start
declared_at decls k d l = get_or-map (λ (x : HartDecl). x.start) decls k d no_state l

pub state_at : (decls : List HartDecl) (k : ℕ) (d : HartDecl) → k < length decls → AllByRecursion (λ x. IsState x.start) decls → IsState (get_or decls k d).start
state_at [] k d l are = absurd (omega (arith, l))
state_at (x ∷ decls) zero d l are = are.0
state_at (x ∷ decls) (suc k) d l are = state_at decls k d (omega (arith, l)) are.1
