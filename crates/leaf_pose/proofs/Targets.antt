-- Targets, and what is asked of them.
use Rattle.std.proofs.Common.{◌≡◌, ℕ, ◌%◌, Bool, true, false, ◌&&◌, ◌||◌, List, [], ◌∷◌, ◌++◌, Some, None, refl, sym, ap, ◌∙◌, arith}
use Rattle.std.specs.Prelude.{not, bit_and}
use Rattle.std.proofs.lemmas.Bool.Decides.{nat_tests}
use Rattle.std.proofs.lemmas.Nat.{and_mask}
use Rattle.std.proofs.lemmas.Bool.{and_from}
use Rattle.std.proofs.lemmas.List.{append-nil}
use Rattle.tpl_ast.specs.declared.template.Atom.{Atom}
use Rattle.tpl_ast.specs.declared.template.Var.TheVariants as vars
use Rattle.fd_prob.specs.declared.relation.Rel.{Rel}
use Rattle.fd_prob.specs.declared.relation.Rel.TheVariants as rels
use Rattle.leaf_link.specs.Cases.{all_tests, unless}
use Rattle.dom_set.specs.Elements.{elements_of, is_in, is_matching}
use Rattle.leaf_stand.specs.declared.way.Aim.{Aim}
use Rattle.leaf_stand.specs.declared.way.Aim.TheVariants.{Anywhere, Aligned, Misaligned}
use Rattle.leaf_stand.specs.declared.stand.Stand.{Stand}
use Rattle.leaf_stand.specs.Relations.{AddsTargets, is_aimed, is_anywhere, speak_of}
use Rattle.data_bytes.specs.Sets.{IsSetOf}
use Rattle.leaf_stand.specs.Stands.{turn_of}
use Rattle.leaf_stand.proofs.Sets.{elements_are}
use Rattle.leaf_stand.proofs.Silent.{neither, silent}

twos_and_odd : (v : ℕ) → is_matching ((1, 1) ∷ (3, 2) ∷ []) v ≡ is_aimed Misaligned v
twos_and_odd v =
    let one : bit_and v 1 ≡ v % 2 = and_mask v 1 in
    let three : bit_and v 3 ≡ v % 4 = and_mask v 2 in
    rw (one, three) (grind (arith, nat_tests))

pub misaligned_set : (set : List ℕ) → set ≡ elements_of (is_matching ((1, 1) ∷ (3, 2) ∷ [])) → IsSetOf (is_aimed Misaligned) set
misaligned_set set e v small = elements_are (is_matching ((1, 1) ∷ (3, 2) ∷ [])) set e v small ∙ twos_and_odd v

-- WHAT IS ASKED OF TARGETS
pub unused_target : (s : Stand) (leaf : List Atom) (used : Bool) (aim : Aim) (old : List Rel) → used ≡ false → AddsTargets s leaf used aim old old
unused_target s leaf used aim old h = record {
  set = None;
  is = λ v small. ap (λ (b : Bool). unless b (is_aimed aim v && all_tests (turn_of s) leaf vars.Target v)) h;
  none = λ n. refl;
  added = sym (append-nil old);
}

anywhere_aimed : (aim : Aim) (v : ℕ) → not (is_anywhere aim) ≡ false → is_aimed aim v ≡ true
anywhere_aimed Anywhere v h = refl
anywhere_aimed Aligned v h = absurd (cc h)
anywhere_aimed Misaligned v h = absurd (cc h)

unless_true : (used b : Bool) → b ≡ true → unless used b ≡ true
unless_true true b h = h
unless_true false b h = refl

pub unasked_target : (s : Stand) (leaf : List Atom) (used : Bool) (aim : Aim) (old : List Rel) → (not (is_anywhere aim) || speak_of leaf vars.Target) ≡ false → AddsTargets s leaf used aim old old
unasked_target s leaf used aim old h =
    let b = neither (not (is_anywhere aim)) (speak_of leaf vars.Target) h in
    record {
      set = None;
      is = λ v small. unless_true used _ (and_from _ _ (anywhere_aimed aim v b.0) (silent (turn_of s) leaf vars.Target v b.1));
      none = λ n. refl;
      added = sym (append-nil old);
    }

pub asked_target : (s : Stand) (leaf : List Atom) (used : Bool) (aim : Aim) (old new : List Rel) (all set : List ℕ) → used ≡ true → IsSetOf (is_aimed aim) all
    → IsSetOf (λ v. is_in all v && all_tests (turn_of s) leaf vars.Target v) set → new ≡ old ++ rels.Target s.pc set ∷ [] → AddsTargets s leaf used aim old new
asked_target s leaf used aim old new all set h a k e = record {
  set = Some set;
  is = λ v small.
      k v small ∙ ap (λ (b : Bool). b && all_tests (turn_of s) leaf vars.Target v) (a v small)
      ∙ sym (ap (λ (b : Bool). unless b (is_aimed aim v && all_tests (turn_of s) leaf vars.Target v)) h);
  none = λ n. absurd (cc);
  added = e;
}
