-- Problems with what a bias adds to them.
use Rattle.std.proofs.Common.{◌≡◌, ℕ, suc, Bool, List, [], ◌∷◌, length, length-set, All, refl, ap, ◌∙◌, arith}
use Rattle.std.specs.Prelude.{filter, slice_index_or}
use Rattle.std.proofs.lemmas.List.Elements.{All-cons, All-head, All-nil, All-tail}
use Rattle.dom_set.specs.Elements.{is_in}
use Rattle.fd_prob.specs.declared.problem.Case.{Case}
use Rattle.fd_prob.specs.declared.problem.Extra.{Extra}
use Rattle.fd_prob.specs.declared.problem.Problem.{Problem}
use Rattle.fd_prob.specs.declared.slot.Slot.{Slot}
use Rattle.fd_prob.specs.Extras.{cut_by, cut_by_all, extended, extended_case, extended_cases}
use Rattle.fd_prob.specs.Fitting.{IsCase, IsProblem}
use Rattle.fd_prob.specs.Slots.{slot_number}

pub length_cut : (cut : Slot × List ℕ) (doms : List (List ℕ)) → length (cut_by cut doms) ≡ length doms
length_cut cut doms = length-set doms (slot_number cut.0) (filter (is_in cut.1) (slice_index_or doms (slot_number cut.0) []))

pub length_cuts : (cuts : List (Slot × List ℕ)) (doms : List (List ℕ)) → length (cut_by_all cuts doms) ≡ length doms
length_cuts [] doms = refl
length_cuts (cut ∷ cuts) doms = length_cuts cuts (cut_by cut doms) ∙ length_cut cut doms

pub case_whole : (e : Extra) (stays : Bool) (c : Case) → IsCase c → IsCase (extended_case e stays c)
case_whole e stays c is = record { op = is.op; domains = length_cuts e.cuts c.doms ∙ is.domains }

cases_whole : (e : Extra) (stays : List Bool) (cases : List Case) → All IsCase cases → All IsCase (extended_cases e stays cases)
cases_whole e [] cases is = All-nil IsCase
cases_whole e (b ∷ bs) [] is = All-nil IsCase
cases_whole e (b ∷ bs) (c ∷ cs) is = All-cons IsCase (extended_case e b c) (extended_cases e bs cs) (case_whole e b c (All-head IsCase c cs is)) (cases_whole e bs cs (All-tail IsCase c cs is))

pub whole : (e : Extra) (p : Problem) → IsProblem p → IsProblem (extended e p)
whole e p is = cases_whole e e.cases p.cases is

cases_as_many : (e : Extra) (stays : List Bool) (cases : List Case) → length stays ≡ length cases → length (extended_cases e stays cases) ≡ length cases
cases_as_many e [] [] same = refl
cases_as_many e [] (c ∷ cs) same = absurd (omega (arith, same))
cases_as_many e (b ∷ bs) [] same = refl
cases_as_many e (b ∷ bs) (c ∷ cs) same = ap suc (cases_as_many e bs cs (omega (arith, same)))

pub as_many : (e : Extra) (p : Problem) → length e.cases ≡ length p.cases → length (extended e p).cases ≡ length p.cases
as_many e p same = cases_as_many e e.cases p.cases same
