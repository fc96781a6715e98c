-- First cases of operations, without their relations.
use Rattle.std.proofs.Common.{◌≡◌, ℕ, ◌+◌, ◌*◌, ◌==◌, Bool, true, false, cond, List, [], ◌∷◌, length, map, find, Option, Some, None, option_map, is_some, ◌++◌, ◌<◌, take, get_or, ⊎_elim, refl, sym, ap, ◌∙◌, subst, arith}
use Rattle.std.specs.Prelude.{if◌then◌else◌, MatchOption}
use Rattle.std.specs.Option.{option_or}
use Rattle.std.specs.List.{cons_option, filter_map}
use Rattle.std.proofs.lemmas.Option.{same_Some}
use Rattle.std.proofs.lemmas.Bool.Decides.{nat_tests}
use Rattle.std.proofs.lemmas.List.{take_more}
use Rattle.std.proofs.lemmas.List.Folds.{find-append}
use Rattle.fd_solve.specs.Internal.Operations.{ArePivots}
use Rattle.dom_set.specs.Elements.{is_in}
use Rattle.fd_prob.specs.declared.problem.Case.{Case}
use Rattle.fd_prob.specs.declared.problem.Extra.{Extra}
use Rattle.fd_prob.specs.declared.problem.Problem.{Problem}
use Rattle.fd_prob.specs.declared.slot.Slot.{Slot}
use Rattle.fd_prob.specs.declared.slot.Slot.TheVariants as slots
use Rattle.fd_prob.specs.Extras.{extended, extended_case, extended_cases}
use Rattle.fd_prob.specs.Fitting.{IsCase, domain_of}
use Rattle.fd_prob.specs.Order.{allowed_ops, domain_in, draw_of, picked, pivot_of}
use Rattle.fd_prob.specs.Spaces.{access_space, allowed_case, allowed_cases, if_allowed, is_access, numbers_from, operation_space, pages_in, saturated, space, sum_of}
use Rattle.fd_solve.specs.Internal.Marks.{HasFirstsOf, bare, cut_case, first_of}
use Rattle.fd_solve.proofs.AllOperations.{op_or_later}
use Rattle.fd_solve.proofs.Pivoting.{pivot_later}
use Rattle.case_search.proofs.Extensions.{length_cuts}

pub own_firsts : (p : Problem) → HasFirstsOf p p
own_firsts p = record { cases = λ op. refl; pivots = refl; pairs = refl; fetch = refl }

bare_cut : (e : Extra) (o : Option Case) → option_map bare (option_map (cut_case e) o) ≡ option_map (cut_case e) (option_map bare o)
bare_cut e None = refl
bare_cut e (Some c) = refl

-- the first case of an operation among the extended ones is the first one, cut
pub first_extended : (e : Extra) (stays : List Bool) (cases : List Case) (op : ℕ) → length stays ≡ length cases → option_map bare (first_of (extended_cases e stays cases) op) ≡ option_map (cut_case e) (option_map bare (first_of cases op))
first_extended e [] [] op same = refl
first_extended e [] (c ∷ cases) op same = absurd (omega (arith, same))
first_extended e (s ∷ stays) [] op same = absurd (omega (arith, same))
first_extended e (s ∷ stays) (c ∷ cases) op same =
    elim (c.op == op) as (λ b. option_map bare (cond b (Some (extended_case e s c)) (first_of (extended_cases e stays cases) op)) ≡ option_map (cut_case e) (option_map bare (cond b (Some c) (first_of cases op)))) [
      | true ↦ refl
      | false ↦ first_extended e stays cases op (omega (arith, same))
    ]

-- first cases that are cut stand for those of the extended problem
pub cut_firsts_of : (e : Extra) (whole p made : Problem) → HasFirstsOf whole p → length e.cases ≡ length whole.cases → ((op : ℕ) → first_of made.cases op ≡ option_map (cut_case e) (first_of p.cases op)) → made.pivots ≡ p.pivots → made.pairs ≡ p.pairs → made.fetch ≡ p.fetch → HasFirstsOf (extended e whole) made
cut_firsts_of e whole p made firsts entries cut pivots pairs fetch = record {
  cases = λ op. ap (option_map bare) (cut op) ∙ bare_cut e (first_of p.cases op) ∙ ap (option_map (cut_case e)) (firsts.cases op) ∙ sym (first_extended e e.cases whole.cases op entries);
  pivots = pivots ∙ firsts.pivots;
  pairs = pairs ∙ firsts.pairs;
  fetch = fetch ∙ firsts.fetch;
}

pub allowed_bare : (o : Option Case) → option_map bare (if_allowed o) ≡ if_allowed (option_map bare o)
unfolding domain_of
allowed_bare None = refl
allowed_bare (Some c) = elim (is_in (domain_of c slots.Op) c.op) as (λ b. option_map bare (if b then Some c else None) ≡ (if b then Some (bare c) else None)) [ true ↦ refl | false ↦ refl ]

same_allowed : (p firsts : Problem) → HasFirstsOf p firsts → (op : ℕ) → option_map bare (allowed_case firsts.cases op) ≡ option_map bare (allowed_case p.cases op)
unfolding allowed_case
same_allowed p firsts is op = allowed_bare (first_of firsts.cases op) ∙ ap if_allowed (is.cases op) ∙ sym (allowed_bare (first_of p.cases op))

chosen_more : (a b : Option Case) (xs ys : List Case) → option_map bare a ≡ option_map bare b → map bare xs ≡ map bare ys → map bare (cons_option a xs) ≡ map bare (cons_option b ys)
chosen_more None None xs ys e rest = rest
chosen_more None (Some c) xs ys e rest = absurd (cc e)
chosen_more (Some c) None xs ys e rest = absurd (cc e)
chosen_more (Some c) (Some d) xs ys e rest = ap (λ (k : Case). k ∷ map bare xs) (same_Some (bare c) (bare d) e) ∙ ap (λ (cs : List Case). bare d ∷ cs) rest

-- two choices from numbers that agree but for relations
same_chosen : (f g : ℕ → Option Case) → ((n : ℕ) → option_map bare (f n) ≡ option_map bare (g n)) → (ns : List ℕ) → map bare (filter_map f ns) ≡ map bare (filter_map g ns)
same_chosen f g same [] = refl
same_chosen f g same (n ∷ ns) = chosen_more (f n) (g n) (filter_map f ns) (filter_map g ns) (same n) (same_chosen f g same ns)

pub bare_map : {X : Type 0} (h : Case → X) → ((c : Case) → h (bare c) ≡ h c) → (cs : List Case) → map h (map bare cs) ≡ map h cs
bare_map h same [] = refl
bare_map {X} h same (c ∷ cs) = ap (λ (x : X). x ∷ map h (map bare cs)) (same c) ∙ ap (λ (xs : List X). h c ∷ xs) (bare_map h same cs)

pub bare_find : (cs : List Case) → find is_access (map bare cs) ≡ option_map bare (find is_access cs)
bare_find [] = refl
bare_find (c ∷ cs) =
    elim (is_access c) as (λ b. cond b (Some (bare c)) (find is_access (map bare cs)) ≡ option_map bare (cond b (Some c) (find is_access cs))) [
      | true ↦ refl
      | false ↦ bare_find cs
    ]

pub bare_pages : (o : Option Case) → pages_in (option_map bare o) ≡ pages_in o
unfolding domain_of
bare_pages None = refl
bare_pages (Some c) = refl

pub bare_space : (c : Case) → operation_space (bare c) ≡ operation_space c
unfolding operation_space domain_of
bare_space c = refl

bare_domain : (o : Option Case) (s : Slot) → domain_in (option_map bare o) s ≡ domain_in o s
unfolding domain_of
bare_domain None s = refl
bare_domain (Some c) s = refl

none_bare : (o : Option Case) → option_map bare o ≡ None → o ≡ None
none_bare None e = refl
none_bare (Some c) e = absurd (cc e)

module _ (p firsts : Problem) (is : HasFirstsOf p firsts) where
  same_cases : map bare (allowed_cases firsts) ≡ map bare (allowed_cases p)
  same_cases = same_chosen (allowed_case firsts.cases) (allowed_case p.cases) (same_allowed p firsts is) (numbers_from 0 58)

  by_cases : {X : Type 0} (h : Case → X) → ((c : Case) → h (bare c) ≡ h c) → map h (allowed_cases firsts) ≡ map h (allowed_cases p)
  by_cases h same = sym (bare_map h same (allowed_cases firsts)) ∙ ap (map h) same_cases ∙ bare_map h same (allowed_cases p)

  same_access : pages_in (find is_access (allowed_cases firsts)) ≡ pages_in (find is_access (allowed_cases p))
  same_access =
      sym (bare_pages (find is_access (allowed_cases firsts))) ∙ ap pages_in (sym (bare_find (allowed_cases firsts)))
      ∙ ap (λ (cs : List Case). pages_in (find is_access cs)) same_cases
      ∙ ap pages_in (bare_find (allowed_cases p)) ∙ bare_pages (find is_access (allowed_cases p))

  -- the space is that of the first cases
  pub same_space : space firsts ≡ space p
  same_space =
      ap (λ (b : Bool). if b then firsts.pairs else saturated (sum_of (map operation_space (allowed_cases firsts)) + access_space firsts)) is.fetch
      ∙ ap (λ (n : ℕ). if p.fetch then n else saturated (sum_of (map operation_space (allowed_cases firsts)) + pages_in (find is_access (allowed_cases firsts)) * n)) is.pairs
      ∙ ap (λ (n : ℕ). if p.fetch then p.pairs else saturated (sum_of (map operation_space (allowed_cases firsts)) + n * p.pairs)) same_access
      ∙ ap (λ (ns : List ℕ). if p.fetch then p.pairs else saturated (sum_of ns + access_space p)) (by_cases operation_space bare_space)

  same_draw : (s : Slot) → draw_of firsts s ≡ draw_of p s
  same_draw s = rw is.pivots refl

  pivot_of_op : (op : ℕ) → pivot_of firsts op slots.Op ≡ pivot_of p op slots.Op
  unfolding pivot_of
  pivot_of_op op = ap (λ (n : ℕ). picked n (allowed_ops firsts)) (same_draw slots.Op) ∙ ap (picked (draw_of p slots.Op)) (by_cases (λ c. c.op) (λ c. refl))

  same_domain : (op : ℕ) (s : Slot) → domain_in (first_of firsts.cases op) s ≡ domain_in (first_of p.cases op) s
  same_domain op s = sym (bare_domain (first_of firsts.cases op) s) ∙ ap (λ (o : Option Case). domain_in o s) (is.cases op) ∙ bare_domain (first_of p.cases op) s

  -- so are the pivots
  pub same_pivot : (op : ℕ) (s : Slot) → pivot_of firsts op s ≡ pivot_of p op s
  same_pivot op s =
      let P : Slot → Type 0 = λ t. pivot_of firsts op t ≡ pivot_of p op t in
      ⊎_elim (λ here. subst P (sym here) (pivot_of_op op))
      (λ later. pivot_later firsts op s later ∙ ap (λ (n : ℕ). picked n (domain_in (first_of firsts.cases op) s)) (same_draw s) ∙ ap (picked (draw_of p s)) (same_domain op s) ∙ sym (pivot_later p op s later))
      (op_or_later s)

  -- and the operations that have a case
  pub same_none : (op : ℕ) → first_of firsts.cases op ≡ None → first_of p.cases op ≡ None
  same_none op none = none_bare (first_of p.cases op) (sym (is.cases op) ∙ ap (option_map bare) none)

  -- pivots in the first cases are those of the problem
  pub moved_pivots : (op : ℕ) (o : Option (List ℕ)) → MatchOption o (first_of firsts.cases op ≡ None) (ArePivots firsts op) → MatchOption o (first_of p.cases op ≡ None) (ArePivots p op)
  moved_pivots op None none = same_none op none
  moved_pivots op (Some pivots) are = λ s. are s ∙ same_pivot op s

option_or_None : (o : Option Case) → o ≡ option_or o None
option_or_None None = refl
option_or_None (Some c) = refl

or_some : (o rest : Option Case) → is_some o ≡ true → o ≡ option_or o rest
or_some None rest some = absurd (cc some)
or_some (Some c) rest some = refl

same_op : (a b : ℕ) → (a == b) ≡ true → a ≡ b
same_op a b is = grind (arith, nat_tests)

-- a case of an operation that has one already
pub had_first : (e : Extra) (made : List Case) (c : Case) → is_some (first_of made c.op) ≡ true → (op : ℕ) → first_of made op ≡ option_or (first_of made op) (option_map (cut_case e) (first_of (c ∷ []) op))
had_first e made c some op =
    elim (c.op == op) as (λ b. (c.op == op) ≡ b → first_of made op ≡ option_or (first_of made op) (option_map (cut_case e) (cond b (Some c) None))) [
      | true ↦ λ is. or_some (first_of made op) (Some (cut_case e c)) (ap (λ (n : ℕ). is_some (first_of made n)) (sym (same_op c.op op is)) ∙ some)
      | false ↦ λ is. option_or_None (first_of made op)
    ] refl

one_cut : (e : Extra) (c : Case) (op : ℕ) → first_of (cut_case e c ∷ []) op ≡ option_map (cut_case e) (first_of (c ∷ []) op)
one_cut e c op = elim (c.op == op) as (λ b. cond b (Some (cut_case e c)) None ≡ option_map (cut_case e) (cond b (Some c) None)) [ true ↦ refl | false ↦ refl ]

-- a case of an operation that has none yet
pub new_first : (e : Extra) (made after : List Case) (c cut : Case) → cut ≡ cut_case e c → after ≡ made ++ cut ∷ [] → (op : ℕ) → first_of after op ≡ option_or (first_of made op) (option_map (cut_case e) (first_of (c ∷ []) op))
new_first e made after c cut cut_is is op =
    ap (λ (cs : List Case). first_of cs op) (is ∙ ap (λ (k : Case). made ++ k ∷ []) cut_is)
    ∙ find-append (λ k. k.op == op) made (cut_case e c ∷ [])
    ∙ ap (option_or (first_of made op)) (one_cut e c op)

or_map : (e : Extra) (a b : Option Case) → option_or (option_map (cut_case e) a) (option_map (cut_case e) b) ≡ option_map (cut_case e) (option_or a b)
or_map e None b = refl
or_map e (Some c) b = refl

-- one case more
pub next_first : (e : Extra) (cases made after : List Case) (i : ℕ) (c : Case) → i < length cases → c ≡ get_or cases i c → ((op : ℕ) → first_of made op ≡ option_map (cut_case e) (first_of (take i cases) op)) → ((op : ℕ) → first_of after op ≡ option_or (first_of made op) (option_map (cut_case e) (first_of (c ∷ []) op))) → (op : ℕ) → first_of after op ≡ option_map (cut_case e) (first_of (take (i + 1) cases) op)
next_first e cases made after i c lt here before added op =
    added op
    ∙ ap (λ (o : Option Case). option_or o (option_map (cut_case e) (first_of (c ∷ []) op))) (before op)
    ∙ or_map e (first_of (take i cases) op) (first_of (c ∷ []) op)
    ∙ ap (option_map (cut_case e)) (sym (find-append (λ k. k.op == op) (take i cases) (c ∷ [])) ∙ ap (λ (k : Case). first_of (take i cases ++ k ∷ []) op) here ∙ ap (λ (cs : List Case). first_of cs op) (sym (take_more cases i c lt)))

pub cut_whole : (e : Extra) (c : Case) → IsCase c → IsCase (cut_case e c)
cut_whole e c is = record { op = is.op; domains = length_cuts e.cuts c.doms ∙ is.domains }

pub some_mapped : {A : Type 0} (f : A → Case) (o : Option A) (found : Option Case) → option_map f o ≡ found → is_some o ≡ true → is_some found ≡ true
some_mapped f None found is some = absurd (cc some)
some_mapped f (Some x) found is some = ap is_some (sym is)
