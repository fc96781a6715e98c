-- Sets by their tests.
use Rattle.std.proofs.Common.{◌≡◌, ℕ, ◌+◌, ◌%◌, ◌<◌, ◌^◌, Bool, true, false, ◌&&◌, eqb, ltb, List, [], ◌∷◌, Option, Some, None, refl, sym, ap, ◌∙◌, arith}
use Rattle.std.specs.List.{filter}
use Rattle.std.specs.List.Sorted.{IsStrictlyIncreasing}
use Rattle.std.specs.Prelude.{All, not, if◌then◌else◌}
use Rattle.leaf_link.specs.Firsts.{IsDomain}
use Rattle.std.specs.Bool.{◌==◌}
use Rattle.std.proofs.lemmas.Bool.Decides.{nat_tests}
use Rattle.dom_set.specs.Elements.{elements_of, is_in, is_within}
use Rattle.dom_set.proofs.Sets.{is_in-elements, own_elements}
use Rattle.set_sums.proofs.Members.{is_in-filter}
use Rattle.data_bytes.specs.Sets.{IsSetOf}
use Rattle.std.specs.Int.{IsPowerOfTwo}
use Rattle.rv_isa.specs.Encoding.{sign_extended}
use Rattle.tpl_ast.specs.declared.template.Atom.{Atom}
use Rattle.tpl_ast.specs.declared.template.Atom.TheVariants as atoms
use Rattle.tpl_ast.specs.declared.template.Var.{Var}
use Rattle.leaf_link.specs.Turns.{Turn}
use Rattle.tpl_ast.specs.Leaves.{same_var}
use Rattle.leaf_link.specs.Cases.{is_value_named, tests}

pub and_flip : (a b : Bool) → (a && b) ≡ (b && a)
and_flip true true = refl
and_flip true false = refl
and_flip false true = refl
and_flip false false = refl

-- the set of a test's elements
pub elements_are : (test : ℕ → Bool) (set : List ℕ) → set ≡ elements_of test → IsSetOf test set
elements_are test set e v small = ap (λ (s : List ℕ). is_in s v) e ∙ is_in-elements test v small

-- what a filter leaves
pub filter_leaves : (p : ℕ → Bool) (xs set : List ℕ) → set ≡ filter p xs → IsSetOf (λ v. is_in xs v && p v) set
filter_leaves p xs set e v small = ap (λ (s : List ℕ). is_in s v) e ∙ is_in-filter p xs v ∙ and_flip (p v) (is_in xs v)

-- a set in whose place stands its test
pub and_test : (xs ys set : List ℕ) (test : ℕ → Bool) → IsSetOf test ys → set ≡ filter (is_in ys) xs → IsSetOf (λ v. is_in xs v && test v) set
and_test xs ys set test h e v small = filter_leaves (is_in ys) xs set e v small ∙ ap (λ (b : Bool). is_in xs v && b) (h v small)

pub one_test : (value v : ℕ) → v < 2 ^ 32 → (v % 1 == 0 && is_within ((value, value) ∷ (1, 0) ∷ []) v) ≡ (v == value)
one_test value v small = grind (arith, nat_tests)

pub up_to_test : (high v : ℕ) → v < 2 ^ 32 → (v % 1 == 0 && is_within ((0, high) ∷ (1, 0) ∷ []) v) ≡ ltb v (high + 1)
up_to_test high v small = grind (arith, nat_tests)

pub power_4096 : IsPowerOfTwo 4096
power_4096 = (12, refl)

pub power_4 : IsPowerOfTwo 4
power_4 = (2, refl)

pub signed_13 : (v : ℕ) → v < 2 ^ 32 → (v % 2 == 0 && is_within ((0, 4094) ∷ (4294963200, 4294967294) ∷ []) v) ≡ (eqb v (sign_extended 13 (v % 2 ^ 13)) && eqb (v % 2) 0)
signed_13 v small = grind (arith, nat_tests)

-- what is left for a bound name, and for one that is not bound
pub bound_is : (o : Option ℕ) (value : ℕ) (own xs ys set : List ℕ) (test : ℕ → Bool) → o ≡ Some value → IsSetOf test ys → ((v : ℕ) → v < 2 ^ 32 → test v ≡ (v == value)) → set ≡ filter (is_in ys) xs
    → IsSetOf (λ v. is_in xs v && is_value_named o own v) set
bound_is o value own xs ys set test h k one e v small = and_test xs ys set test k e v small ∙ ap (λ (b : Bool). is_in xs v && b) (one v small ∙ ap (λ (q : Option ℕ). is_value_named q own v) (sym h))

pub open_is : (o : Option ℕ) (own xs set : List ℕ) → o ≡ None → IsSetOf (λ v. is_in xs v && is_in own v) set → IsSetOf (λ v. is_in xs v && is_value_named o own v) set
open_is o own xs set h k v small = k v small ∙ ap (λ (b : Bool). is_in xs v && b) (ap (λ (q : Option ℕ). is_value_named q own v) (sym h))

-- an atom on the variable
pub in_test : (t : Turn) (atom : Atom) (w u : Var) (own xs set : List ℕ) → atom ≡ atoms.In w own → same_var w u ≡ true → set ≡ filter (is_in own) xs → IsSetOf (λ v. is_in xs v && tests t atom u v) set
in_test t atom w u own xs set h k e v small =
    filter_leaves (is_in own) xs set e v small ∙ ap (λ (b : Bool). is_in xs v && b) (sym (ap (λ (a : Atom). tests t a u v) h ∙ ap (λ (c : Bool). if c then is_in own v else true) k))

pub not_in_test : (t : Turn) (atom : Atom) (w u : Var) (own xs set : List ℕ) → atom ≡ atoms.NotIn w own → same_var w u ≡ true → set ≡ filter (λ v. not (is_in own v)) xs → IsSetOf (λ v. is_in xs v && tests t atom u v) set
not_in_test t atom w u own xs set h k e v small =
    filter_leaves (λ v. not (is_in own v)) xs set e v small ∙ ap (λ (b : Bool). is_in xs v && b) (sym (ap (λ (a : Atom). tests t a u v) h ∙ ap (λ (c : Bool). if c then not (is_in own v) else true) k))

pub and_false : (a : Bool) → false ≡ (a && false)
and_false true = refl
and_false false = refl

-- of all words those that pass a test
pub all_words : (words set : List ℕ) (test : ℕ → Bool) → IsSetOf (λ v. ltb v (4294967295 + 1)) words → IsSetOf (λ v. is_in words v && test v) set → IsSetOf test set
all_words words set test w h v small = h v small ∙ ap (λ (b : Bool). b && test v) (w v small ∙ (let y : ltb v (4294967295 + 1) ≡ true = grind (arith, nat_tests) in y))

-- a set of words, as the definition has domains
pub word_domain : (xs : List ℕ) (test : ℕ → Bool) → IsStrictlyIncreasing xs → All (λ x. x < 2 ^ 32) xs → IsSetOf test xs → IsDomain xs test
word_domain xs test up words is = record { members = is_in xs; is_set = own_elements xs up words; same = is }
