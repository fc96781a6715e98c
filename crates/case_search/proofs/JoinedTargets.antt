-- Relations of a jump's target joined into one.
use Rattle.std.proofs.Common.{◌≡◌, ◌==◌, ℕ, ◌+◌, ◌≤◌, Bool, true, false, cond, ◌&&◌, ◌||◌, count_by, arith, List, [], ◌∷◌, ◌++◌, Option, Some, None, refl, sym, ap, ◌∙◌, eqb-true}
use Rattle.std.specs.List.{filter, list_all}
use Rattle.std.proofs.lemmas.List.Folds.{list_all-append}
use Rattle.std.proofs.lemmas.List.Sums.{sum_by-append}
use Rattle.std.proofs.lemmas.Map.Views.{any-filter_same}
use Rattle.dom_set.specs.Elements.{is_in}
use Rattle.rv_isa.specs.declared.operation.Op.{Op}
use Rattle.fd_prob.specs.declared.problem.Assignment.{Assignment}
use Rattle.fd_prob.specs.declared.relation.Rel.{Rel}
use Rattle.fd_prob.specs.Relations.{has_target, holds, is_some_in, target_of}
use Rattle.case_search.specs.Internal.Stronger.{is_at_target, is_target}

and_comm : (a b : Bool) → (a && b) ≡ (b && a)
and_comm true true = refl
and_comm true false = refl
and_comm false true = refl
and_comm false false = refl

and_assoc : (a b c : Bool) → ((a && b) && c) ≡ (a && (b && c))
and_assoc true b c = refl
and_assoc false b c = refl

and_true : (a : Bool) → (a && true) ≡ a
and_true true = refl
and_true false = refl

pub neither : (a b : Bool) → (a || b) ≡ false → (a ≡ false) × (b ≡ false)
neither true b h = absurd (cc h)
neither false b h = (refl, h)

common_is : (a b s : List ℕ) → s ≡ filter (is_in b) a → (v : ℕ) → is_in s v ≡ (is_in a v && is_in b v)
common_is a b s is v =
    ap (λ (xs : List ℕ). is_in xs v) is
    ∙ any-filter_same (λ y. y == v) (is_in b) (is_in b v) (λ k h. ap (is_in b) (eqb-true k v h)) a
    ∙ and_comm (is_in b v) (is_in a v)

some_common : (a b s : List ℕ) → s ≡ filter (is_in b) a → (o : Option ℕ) → is_some_in s o ≡ (is_some_in a o && is_some_in b o)
some_common a b s is None = refl
some_common a b s is (Some n) = common_is a b s is n

-- relations to which one is added hold where they do and it does
pub all_with : (op : Op) (x : Assignment) (rels made : List Rel) (rel : Rel) → made ≡ rels ++ rel ∷ [] → list_all (holds op x) made ≡ (list_all (holds op x) rels && holds op x rel)
all_with op x rels made rel is =
    ap (list_all (holds op x)) is
    ∙ list_all-append (holds op x) rels (rel ∷ [])
    ∙ ap (λ (p : Bool). list_all (holds op x) rels && p) (and_true (holds op x rel))

-- the same beside a target
pub with_beside : (rels target rel made : Bool) → made ≡ (rels && rel) → (made && target) ≡ ((rels && target) && rel)
with_beside rels target rel made is = ap (λ (p : Bool). p && target) is ∙ and_assoc rels rel target ∙ ap (λ (p : Bool). rels && p) (and_comm rel target) ∙ sym (and_assoc rels target rel)

-- a target is in what two sets have in common where it is in both
pub with_common : (op : Op) (x : Assignment) (rels : Bool) (target : Option (ℕ × List ℕ)) (first pc : ℕ) (before set common : List ℕ) → target ≡ Some (first, before) → first ≡ pc → common ≡ filter (is_in set) before → (rels && has_target op x pc common) ≡ ((rels && is_at_target op x target) && has_target op x pc set)
with_common op x rels target first pc before set common some same is =
    let old : is_at_target op x target ≡ has_target op x pc before = ap (is_at_target op x) some ∙ ap (λ (n : ℕ). has_target op x n before) same in
    ap (λ (p : Bool). rels && p) (some_common before set common is (target_of op pc x))
    ∙ sym (and_assoc rels (has_target op x pc before) (has_target op x pc set))
    ∙ ap (λ (p : Bool). (rels && p) && has_target op x pc set) (sym old)

-- ---- how many relations are of a target

-- one that is added counts by itself
count_with : (rels made : List Rel) (rel : Rel) → made ≡ rels ++ rel ∷ [] → count_by is_target made ≡ count_by is_target rels + cond (is_target rel) 1 0
count_with rels made rel is =
    let all : count_by is_target (rels ++ rel ∷ []) ≡ count_by is_target rels + (0 + cond (is_target rel) 1 0) = sum_by-append (λ (r : Rel). cond (is_target r) 1 0) rels (rel ∷ []) in
    let same : count_by is_target made ≡ count_by is_target (rels ++ rel ∷ []) = ap (λ (l : List Rel). count_by is_target l) is in
    omega (arith, all, same)

none_by : (b : Bool) → b ≡ false → cond b 1 0 ≤ 0
none_by true h = absurd (cc h)
none_by false h = omega arith

pub same_count : (rels made : List Rel) (rel : Rel) → made ≡ rels ++ rel ∷ [] → is_target rel ≡ false → count_by is_target made ≡ count_by is_target rels
same_count rels made rel is not =
    let none : cond (is_target rel) 1 0 ≤ 0 = none_by (is_target rel) not in
    omega (arith, count_with rels made rel is, none)
