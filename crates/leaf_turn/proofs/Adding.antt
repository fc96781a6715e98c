-- Extras that are added one by one.
use Rattle.std.proofs.Common.{◌≡◌, ℕ, zero, suc, ◌+◌, ◌≤◌, ◌<◌, List, [], ◌∷◌, ◌++◌, length, drop, refl, sym, ap, ◌∙◌, arith}
use Rattle.std.specs.Prelude.{All, slice_index_or}
use Rattle.std.proofs.Math.Seq.{drop-cons}
use Rattle.tpl_ast.specs.declared.template.Atom.{Atom}
use Rattle.fd_prob.specs.declared.problem.Extra.{Extra}
use Rattle.fd_prob.specs.declared.problem.Problem.{Problem}
use Rattle.leaf_stand.specs.declared.stand.Stand.{Stand}
use Rattle.leaf_pose.specs.Extras.{AddsBias}
use Rattle.leaf_turn.specs.Internal.Asking.{AreExtrasOf}

pub item_at : {A : Type 0} (xs : List A) (i : ℕ) (x : A) → i < length xs → x ≡ slice_index_or xs i x → drop i xs ≡ x ∷ drop (i + 1) xs
item_at {A} xs i x h is =
    let next : suc i ≡ i + 1 = omega arith in
    drop-cons xs i x h ∙ ap (λ (z : A). z ∷ drop (suc i) xs) (sym is) ∙ ap (λ (n : ℕ). x ∷ drop n xs) next

pub nothing_left : {A : Type 0} (xs : List A) (i : ℕ) → length xs ≤ i → drop i xs ≡ []
nothing_left [] zero h = refl
nothing_left [] (suc i) h = refl
nothing_left (x ∷ xs) zero h = absurd (omega (arith, h))
nothing_left (x ∷ xs) (suc i) h = nothing_left xs i (omega (arith, h))

pub all_more : {A : Type 0} (P : A → Type 0) (xs : List A) (x : A) → All P xs → P x → All P (xs ++ x ∷ [])
all_more P [] x all one zero d h = one
all_more P [] x all one (suc k) d h = absurd (omega (arith, h))
all_more P (y ∷ xs) x all one zero d h = all zero d (omega arith)
all_more P (y ∷ xs) x all one (suc k) d h = all_more P xs x (λ j e less. all (suc j) e (omega (arith, less))) one k d (omega (arith, h))

pub one_more : (s : Stand) (leaf bias : List Atom) (rest : List (List Atom)) (p : Problem) (e : Extra) (more : List Extra)
    → AddsBias s leaf bias p e
    → AreExtrasOf s leaf rest p more → AreExtrasOf s leaf (bias ∷ rest) p (e ∷ more)
one_more s leaf bias rest p e more one others t walk pa loads stores stands posed rows plain = (one t walk pa loads stores stands posed rows plain.0, others t walk pa loads stores stands posed rows plain.1)

pub associate : {A : Type 0} (xs : List A) (x : A) (ys : List A) → xs ++ x ∷ ys ≡ (xs ++ x ∷ []) ++ ys
associate [] x ys = refl
associate {A} (y ∷ xs) x ys = ap (λ (l : List A). y ∷ l) (associate xs x ys)

pub nothing_behind : {A : Type 0} (xs : List A) → xs ++ [] ≡ xs
nothing_behind [] = refl
nothing_behind {A} (x ∷ xs) = ap (λ (l : List A). x ∷ l) (nothing_behind xs)
