-- The numbers of the allowed operations, one after another.
use Rattle.std.proofs.Common.{◌≡◌, ℕ, zero, suc, ◌+◌, List, [], ◌∷◌, ◌++◌, map, Option, Some, None, refl, sym, ap, ◌∙◌, arith, option_map}
use Rattle.std.specs.List.{filter_map}
use Rattle.std.proofs.lemmas.List.{map-append}
use Rattle.std.proofs.lemmas.List.Elements.{filter_map-append}
use Rattle.fd_prob.specs.declared.problem.Case.{Case}
use Rattle.fd_prob.specs.Spaces.{allowed_case, numbers_from}

abbrev pub Ops : List Case → List ℕ → List ℕ
Ops cases numbers = map (λ c. c.op) (filter_map (allowed_case cases) numbers)

pub none_yet : (cases : List Case) → [] ≡ Ops cases (numbers_from 0 0)
unfolding numbers_from
none_yet cases = refl

abbrev pub listed : Option ℕ → List ℕ
listed None = []
listed (Some n) = n ∷ []

next_number : (first n : ℕ) → numbers_from first (n + 1) ≡ numbers_from first n ++ (first + n) ∷ []
unfolding numbers_from
next_number first zero = ap (λ (m : ℕ). m ∷ []) (omega arith)
next_number first (suc n) =
    let e : suc n + 1 ≡ suc (n + 1) = omega arith in
    let f : first + 1 + n ≡ first + suc n = omega arith in
    ap (numbers_from first) e ∙ ap (λ (ns : List ℕ). first ∷ ns) (next_number (first + 1) n ∙ ap (λ (m : ℕ). numbers_from (first + 1) n ++ m ∷ []) f)

one_op : (cases : List Case) (n : ℕ) (o : Option Case) → allowed_case cases n ≡ o → Ops cases (n ∷ []) ≡ listed (option_map (λ c. c.op) o)
one_op cases n None is = rw is refl
one_op cases n (Some c) is = rw is refl

pub appended : (cases : List Case) (n : ℕ) → Ops cases (numbers_from 0 (n + 1)) ≡ Ops cases (numbers_from 0 n) ++ listed (option_map (λ c. c.op) (allowed_case cases n))
appended cases n =
    let e : 0 + n ≡ n = omega arith in
    ap (Ops cases) (next_number 0 n ∙ ap (λ (m : ℕ). numbers_from 0 n ++ m ∷ []) e)
    ∙ ap (map (λ (c : Case). c.op)) (filter_map-append (allowed_case cases) (numbers_from 0 n) (n ∷ []))
    ∙ map-append (λ (c : Case). c.op) (filter_map (allowed_case cases) (numbers_from 0 n)) (filter_map (allowed_case cases) (n ∷ []))
    ∙ ap (λ (ns : List ℕ). Ops cases (numbers_from 0 n) ++ ns) (one_op cases n (allowed_case cases n) refl)

pub one_more : (cases : List Case) (n : ℕ) (r : Option ℕ) (before after : List ℕ) → before ≡ Ops cases (numbers_from 0 n) → r ≡ option_map (λ c. c.op) (allowed_case cases n) → after ≡ before ++ listed r → after ≡ Ops cases (numbers_from 0 (n + 1))
one_more cases n r before after so_far is added =
    added ∙ ap (λ (ns : List ℕ). ns ++ listed r) so_far ∙ ap (λ (o : Option ℕ). Ops cases (numbers_from 0 n) ++ listed o) is ∙ sym (appended cases n)
