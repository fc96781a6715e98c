use Rattle.std.proofs.Common.{◌≡◌, ◌<◌, ◌^◌, ◌%◌, ◌==◌, ◌&&◌, ℕ, Bool, true, List, [], ◌∷◌, sym, subst, arith}
use Rattle.dom_set.specs.Elements.{elements_of, is_in, is_within}
use Rattle.case_search.proofs.Cuts.{only_has, only_is}
use Rattle.case_search.proofs.search.only.Goals as goal

pub returns : goal.returns
returns c =
    let v = c.args.value in
    let test : ℕ → Bool = λ x. x % 1 == 0 && is_within ((v, v) ∷ []) x in
    let same : c.in_ok-set.set ≡ elements_of test = c.in_ok-set.ensures in
    let tests = c.set_laws.ensures.tests (elements_of test) in
    let pass = c.set_laws.ensures.pass test in
    λ w. (
      (λ inside. only_is v w ((pass w).0 ((tests w).0 (subst (λ (xs : List ℕ). is_in xs w ≡ true) same inside))).1),
      (λ e. let word : w < 2 ^ 32 = omega arith in subst (λ (xs : List ℕ). is_in xs w ≡ true) (sym same) ((tests w).1 ((pass w).1 (word, subst (λ (u : ℕ). test u ≡ true) (sym e) (only_has v))))),
    )
