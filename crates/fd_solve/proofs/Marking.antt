-- Problems with those of their biases that are marked.
use Rattle.std.proofs.Common.{◌≡◌, ℕ, zero, suc, ◌+◌, ◌<◌, Bool, true, false, List, [], ◌∷◌, ◌++◌, length, drop, get_or, All, refl, sym, ap, ◌∙◌, subst, arith}
use Rattle.std.specs.Prelude.{if◌then◌else◌}
use Rattle.std.proofs.lemmas.List.Elements.{All-head, All-tail}
use Rattle.fd_prob.specs.declared.problem.Case.{Case}
use Rattle.fd_prob.specs.declared.problem.Extra.{Extra}
use Rattle.fd_prob.specs.declared.problem.Problem.{Problem}
use Rattle.fd_prob.specs.Extras.{extended, extended_case, extended_cases}
use Rattle.fd_prob.specs.Fitting.{IsCase, IsProblem}
use Rattle.fd_solve.specs.Internal.Marks.{marked_case, with_marked}
use Rattle.case_search.proofs.Extensions.{as_many, case_whole, whole}
use Rattle.case_search.proofs.Lists.{drop_here}

pub marked_true : (marks : List Bool) (es : List Extra) (p : Problem) (e : Extra) → length marks < length es → e ≡ get_or es (length marks) e → with_marked (marks ++ true ∷ []) es p ≡ extended e (with_marked marks es p)
marked_true [] [] p e lt here = absurd (omega (arith, lt))
marked_true [] (f ∷ es) p e lt here = ap (λ (g : Extra). extended g p) (sym here)
marked_true (m ∷ marks) [] p e lt here = absurd (omega (arith, lt))
marked_true (m ∷ marks) (f ∷ es) p e lt here = marked_true marks es (if m then extended f p else p) e (omega (arith, lt)) here

pub marked_false : (marks : List Bool) (es : List Extra) (p : Problem) → with_marked (marks ++ false ∷ []) es p ≡ with_marked marks es p
marked_false [] [] p = refl
marked_false [] (f ∷ es) p = refl
marked_false (m ∷ marks) [] p = refl
marked_false (m ∷ marks) (f ∷ es) p = marked_false marks es (if m then extended f p else p)

abbrev Entries : ℕ → List Extra → Type 0
Entries n es = All (λ e. length e.cases ≡ n) es

many_once : (m : Bool) (e : Extra) (p : Problem) (n : ℕ) → length e.cases ≡ n → length p.cases ≡ n → length (if m then extended e p else p).cases ≡ n
many_once true e p n entries is = as_many e p (entries ∙ sym is) ∙ is
many_once false e p n entries is = is

pub many_marked : (marks : List Bool) (es : List Extra) (p : Problem) (n : ℕ) → Entries n es → length p.cases ≡ n → length (with_marked marks es p).cases ≡ n
many_marked [] es p n entries is = is
many_marked (m ∷ marks) [] p n entries is = is
many_marked (m ∷ marks) (e ∷ es) p n entries is = many_marked marks es (if m then extended e p else p) n (All-tail (λ f. length f.cases ≡ n) e es entries) (many_once m e p n (All-head (λ f. length f.cases ≡ n) e es entries) is)

whole_once : (m : Bool) (e : Extra) (p : Problem) → IsProblem p → IsProblem (if m then extended e p else p)
whole_once true e p is = whole e p is
whole_once false e p is = is

pub whole_marked : (marks : List Bool) (es : List Extra) (p : Problem) → IsProblem p → IsProblem (with_marked marks es p)
whole_marked [] es p is = is
whole_marked (m ∷ marks) [] p is = is
whole_marked (m ∷ marks) (e ∷ es) p is = whole_marked marks es (if m then extended e p else p) (whole_once m e p is)

case_at : (e : Extra) (stays : List Bool) (cases : List Case) (k : ℕ) (c d : Case) → k < length stays → k < length cases → c ≡ get_or cases k c → get_or (extended_cases e stays cases) k d ≡ extended_case e (get_or stays k false) c
case_at e [] cases k c d lt less here = absurd (omega (arith, lt))
case_at e (s ∷ stays) [] k c d lt less here = absurd (omega (arith, less))
case_at e (s ∷ stays) (b ∷ cases) zero c d lt less here = ap (extended_case e s) (sym here)
case_at e (s ∷ stays) (b ∷ cases) (suc k) c d lt less here = case_at e stays cases k c d (omega (arith, lt)) (omega (arith, less)) here

case_once : (m : Bool) (e : Extra) (p : Problem) (k : ℕ) (c d : Case) → k < length e.cases → k < length p.cases → c ≡ get_or p.cases k c → get_or (if m then extended e p else p).cases k (if m then extended_case e (get_or e.cases k false) c else c) ≡ (if m then extended_case e (get_or e.cases k false) c else c)
case_once true e p k c d lt less here = case_at e e.cases p.cases k c (extended_case e (get_or e.cases k false) c) lt less here
case_once false e p k c d lt less here = sym here

-- the case at a place of the whole is the case there with its marked biases
pub marked_at : (marks : List Bool) (es : List Extra) (p : Problem) (n k : ℕ) (c : Case) → Entries n es → length p.cases ≡ n → k < n → c ≡ get_or p.cases k c → marked_case marks es k c ≡ get_or (with_marked marks es p).cases k (marked_case marks es k c)
marked_at [] es p n k c entries is lt here = here
marked_at (m ∷ marks) [] p n k c entries is lt here = here
marked_at (m ∷ marks) (e ∷ es) p n k c entries is lt here =
    let entry : length e.cases ≡ n = All-head (λ f. length f.cases ≡ n) e es entries in
    marked_at marks es (if m then extended e p else p) n k (if m then extended_case e (get_or e.cases k false) c else c) (All-tail (λ f. length f.cases ≡ n) e es entries) (many_once m e p n entry is) lt
    (sym (case_once m e p k c c (omega (arith, entry, lt)) (omega (arith, is, lt)) here))

-- there is an entry for the case at each place
pub entry_at : (es : List Extra) (n k : ℕ) → Entries n es → k < n → All (λ e. k < length e.cases) es
entry_at es n k entries lt i d within = let is : length (get_or es i d).cases ≡ n = entries i d within in omega (arith, is, lt)

pub with_bias_whole : (m : Bool) (e : Extra) (place : ℕ) (c made : Case) → made ≡ (if m then extended_case e (get_or e.cases place false) c else c) → IsCase c → IsCase made
with_bias_whole true e place c made is whole_c = subst IsCase (sym is) (case_whole e (get_or e.cases place false) c whole_c)
with_bias_whole false e place c made is whole_c = subst IsCase (sym is) whole_c

pub marked_case_whole : (marks : List Bool) (es : List Extra) (place : ℕ) (c : Case) → IsCase c → IsCase (marked_case marks es place c)
marked_case_whole [] es place c is = is
marked_case_whole (m ∷ marks) [] place c is = is
marked_case_whole (m ∷ marks) (e ∷ es) place c is = marked_case_whole marks es place (if m then extended_case e (get_or e.cases place false) c else c) (with_bias_whole m e place c (if m then extended_case e (get_or e.cases place false) c else c) refl is)

-- the next mark, and then the rest
pub next_mark : (marks : List Bool) (es : List Extra) (i : ℕ) (m : Bool) (e : Extra) (place : ℕ) (c made : Case) → i < length marks → i < length es → m ≡ get_or marks i m → e ≡ get_or es i e → made ≡ (if m then extended_case e (get_or e.cases place false) c else c) → marked_case (drop (i + 1) marks) (drop (i + 1) es) place made ≡ marked_case (drop i marks) (drop i es) place c
next_mark marks es i m e place c made lt less here there is =
    ap (λ (k : Case). marked_case (drop (i + 1) marks) (drop (i + 1) es) place k) is
    ∙ ap (λ (fs : List Extra). marked_case (m ∷ drop (i + 1) marks) fs place c) (sym (drop_here es i e less there))
    ∙ ap (λ (ms : List Bool). marked_case ms (drop i es) place c) (sym (drop_here marks i m lt here))

op_once : (m : Bool) (e : Extra) (stays : Bool) (c : Case) → (if m then extended_case e stays c else c).op ≡ c.op
op_once true e stays c = refl
op_once false e stays c = refl

pub marked_op : (marks : List Bool) (es : List Extra) (place : ℕ) (c : Case) → (marked_case marks es place c).op ≡ c.op
marked_op [] es place c = refl
marked_op (m ∷ marks) [] place c = refl
marked_op (m ∷ marks) (e ∷ es) place c = marked_op marks es place (if m then extended_case e (get_or e.cases place false) c else c) ∙ op_once m e (get_or e.cases place false) c
