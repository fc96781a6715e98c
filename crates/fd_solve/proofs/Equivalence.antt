-- Cases that the same assignments fit, one by one and with what marked biases add to them.
use Rattle.std.proofs.Common.{◌≡◌, ℕ, zero, suc, ◌+◌, ◌<◌, ◌≤◌, Bool, ◌&&◌, List, [], ◌∷◌, ◌++◌, Option, Some, None, length, drop, get_or, All, inl, inr, refl, sym, ap, ◌∙◌, subst, arith}
use Rattle.std.specs.Prelude.{IfSome, slice_set, take, true, false}
use Rattle.std.specs.Option.{is_some}
use Rattle.std.proofs.Math.Seq.{get_or-append_seam}
use Rattle.std.proofs.lemmas.Bool.{and_parts, cases_lt}
use Rattle.std.proofs.lemmas.List.{append_assoc, append-nil, get_or_append_left}
use Rattle.std.proofs.lemmas.List.Elements.{All-cons, All-head, All-nil, All-push, All-tail}
use Rattle.rv_isa.specs.Numbers.{op_numbered}
use Rattle.fd_prob.specs.declared.problem.Assignment.{Assignment}
use Rattle.fd_prob.specs.declared.problem.Case.{Case}
use Rattle.fd_prob.specs.declared.problem.Extra.{Extra}
use Rattle.fd_prob.specs.declared.problem.Problem.{Problem}
use Rattle.fd_prob.specs.Fitting.{IsCase, IsProblem, fits_case}
use Rattle.fd_prob.proofs.Fitted.{fits_its_case, of_case}
use Rattle.fd_prob.specs.Order.{IsAssignment}
use Rattle.case_search.specs.Equivalent.{IsEquivalent}
use Rattle.fd_solve.specs.Internal.Equivalent.{AreBrought, AreEquivalent, AreMarked, AreTried, IsTried, StandFor, StandsIn}
use Rattle.fd_solve.specs.Internal.Marks.{marked_case, with_marked}
use Rattle.fd_solve.specs.Internal.Meeting.{meets_marked}
use Rattle.case_search.specs.Search.{IsMadeOf, LeastOrNone}
use Rattle.fd_solve.proofs.FirstMarks.{all_begun}
use Rattle.fd_solve.proofs.FittingMarks.{all_marks}
use Rattle.case_search.proofs.Lists.{any_default, drop_here, drop_past}
use Rattle.fd_solve.proofs.Marking.{many_marked, marked_at, marked_case_whole, marked_op}
use Rattle.case_search.proofs.Orders.{as_well}

-- where the same assignments fit both, those that are words do
pub stands_in : (c d : Case) → IsEquivalent c d → StandsIn c d
stands_in c d is = record { whole = is.whole; op = is.op; same = λ x words. is.same x }

-- what is added by marked biases is the same of both
module _ (marks : List Bool) (es : List Extra) (place : ℕ) (c d : Case) (whole : IsCase c) (is : StandsIn c d) where
  pub same_marked : (x : Assignment) → IsAssignment x → fits_case x (marked_case marks es place d) ≡ fits_case x (marked_case marks es place c)
  same_marked x words =
      all_marks marks es place d x is.whole
      ∙ ap (λ (n : ℕ). fits_case x d && meets_marked (op_numbered n) x place marks es) is.op
      ∙ ap (λ (b : Bool). b && meets_marked (op_numbered c.op) x place marks es) (is.same x words)
      ∙ sym (all_marks marks es place c x whole)

  pub least_marked : (ps : List ℕ) (o : Option Assignment) → LeastOrNone ps (IsMadeOf (marked_case marks es place d)) o → LeastOrNone ps (IsMadeOf (marked_case marks es place c)) o
  least_marked ps o least = as_well ps (IsMadeOf (marked_case marks es place d)) (IsMadeOf (marked_case marks es place c))
      (λ x made. (made.0, of_case x (marked_case marks es place c) (sym (same_marked x made.0) ∙ fits_its_case x (marked_case marks es place d) made.1)))
      (λ x made. (made.0, of_case x (marked_case marks es place d) (same_marked x made.0 ∙ fits_its_case x (marked_case marks es place c) made.1)))
      o least

  -- what fits with what is added fits without
  pub unmarked : (x : Assignment) → IsMadeOf (marked_case marks es place c) x → IsMadeOf d x
  unmarked x made = (made.0, of_case x d (is.same x made.0 ∙ (and_parts _ _ (sym (all_marks marks es place c x whole) ∙ fits_its_case x (marked_case marks es place c) made.1)).0))

  pub marked_equivalent : StandsIn (marked_case marks es place c) (marked_case marks es place d)
  marked_equivalent = record {
    whole = marked_case_whole marks es place d is.whole;
    op = marked_op marks es place d ∙ is.op ∙ sym (marked_op marks es place c);
    same = same_marked;
  }

-- the same for all assignments
module _ (marks : List Bool) (es : List Extra) (place : ℕ) (c d : Case) (whole : IsCase c) (is : IsEquivalent c d) where
  pub equivalent_marked : IsEquivalent (marked_case marks es place c) (marked_case marks es place d)
  equivalent_marked = record {
    whole = marked_case_whole marks es place d is.whole;
    op = marked_op marks es place d ∙ is.op ∙ sym (marked_op marks es place c);
    same = λ x.
        all_marks marks es place d x is.whole
        ∙ ap (λ (n : ℕ). fits_case x d && meets_marked (op_numbered n) x place marks es) is.op
        ∙ ap (λ (b : Bool). b && meets_marked (op_numbered c.op) x place marks es) (is.same x)
        ∙ sym (all_marks marks es place c x whole);
  }

pub equivalent_to_itself : (c : Case) → IsCase c → IsEquivalent c c
equivalent_to_itself c whole = record { whole = whole; op = refl; same = λ x. refl }

pub equivalent_after : (c d e : Case) → IsEquivalent c d → IsEquivalent d e → IsEquivalent c e
equivalent_after c d e one two = record { whole = two.whole; op = two.op ∙ one.op; same = λ x. two.same x ∙ one.same x }

-- what is found of the one is found of the other
pub least_of_equivalent : (c d : Case) → IsCase c → IsEquivalent c d → (ps : List ℕ) (o : Option Assignment) → LeastOrNone ps (IsMadeOf d) o → LeastOrNone ps (IsMadeOf c) o
least_of_equivalent c d whole is ps o least = least_marked [] [] 0 c d whole (stands_in c d is) ps o least

-- a case stands for itself
pub itself : (c d : Case) → IsCase c → d ≡ c → StandsIn c d
itself c d whole is = subst (StandsIn c) (sym is) (record { whole = whole; op = refl; same = λ x words. refl })

-- and what stands for one that stands for a case, for the case
after : (c d e : Case) → StandsIn c d → StandsIn d e → StandsIn c e
after c d e one two = record { whole = two.whole; op = two.op ∙ one.op; same = λ x words. two.same x words ∙ one.same x words }

-- case by case
pub all_itself : (cases : List Case) → All IsCase cases → AreEquivalent cases cases
all_itself [] are = tt
all_itself (c ∷ cases) are = (record { whole = All-head IsCase c cases are; op = refl; same = λ x words. refl }, all_itself cases (All-tail IsCase c cases are))

pub equivalent_count : (cases made : List Case) → AreEquivalent cases made → length made ≡ length cases
equivalent_count [] [] are = refl
equivalent_count [] (d ∷ made) are = absurd are
equivalent_count (c ∷ cases) [] are = absurd are
equivalent_count (c ∷ cases) (d ∷ made) are = ap suc (equivalent_count cases made are.1)

pub equivalent_at : (cases made : List Case) (n : ℕ) (d : Case) → AreEquivalent cases made → n < length made → d ≡ get_or made n d → (c : Case) × (c ≡ get_or cases n c) × StandsIn c d
equivalent_at [] [] n d are less here = absurd (omega (arith, less))
equivalent_at [] (e ∷ made) n d are less here = absurd are
equivalent_at (c ∷ cases) [] n d are less here = absurd are
equivalent_at (c ∷ cases) (e ∷ made) zero d are less here = (c, refl, subst (StandsIn c) (sym here) are.0)
equivalent_at (c ∷ cases) (e ∷ made) (suc n) d are less here = equivalent_at cases made n d are.1 (omega (arith, less)) here

-- one more, before those that are to come
pub one_more : (cases made : List Case) (i : ℕ) (c d : Case) → i < length cases → c ≡ get_or cases i c → StandsIn c d → ((rest : List Case) → AreEquivalent (drop i cases) rest → AreEquivalent cases (made ++ rest)) → (rest : List Case) → AreEquivalent (drop (i + 1) cases) rest → AreEquivalent cases ((made ++ d ∷ []) ++ rest)
one_more cases made i c d less here is so_far rest are =
    subst (AreEquivalent cases) (sym (append_assoc made (d ∷ []) rest)) (so_far (d ∷ rest) (subst (λ (cs : List Case). AreEquivalent cs (d ∷ rest)) (sym (drop_here cases i c less here)) (is, are)))

pub all_made : (cases made : List Case) (i : ℕ) → length cases ≤ i → ((rest : List Case) → AreEquivalent (drop i cases) rest → AreEquivalent cases (made ++ rest)) → AreEquivalent cases made
all_made cases made i end so_far = subst (AreEquivalent cases) (append-nil made) (so_far [] (subst (λ (cs : List Case). AreEquivalent cs []) (sym (drop_past cases i end)) tt))

pub equivalent_each : (cases made : List Case) → AreEquivalent cases made → (n : ℕ) (c d : Case) → n < length cases → StandsIn (get_or cases n c) (get_or made n d)
equivalent_each [] [] are n c d less = absurd (omega (arith, less))
equivalent_each [] (e ∷ made) are n c d less = absurd are
equivalent_each (b ∷ cases) [] are n c d less = absurd are
equivalent_each (b ∷ cases) (e ∷ made) are zero c d less = are.0
equivalent_each (b ∷ cases) (e ∷ made) are (suc n) c d less = equivalent_each cases made are.1 n c d (omega (arith, less))

from_each : (cases made : List Case) → length made ≡ length cases → ((n : ℕ) (c d : Case) → n < length cases → StandsIn (get_or cases n c) (get_or made n d)) → AreEquivalent cases made
from_each [] [] count each = tt
from_each [] (e ∷ made) count each = absurd (omega (arith, count))
from_each (b ∷ cases) [] count each = absurd (omega (arith, count))
from_each (b ∷ cases) (e ∷ made) count each = (each zero b e (omega arith), from_each cases made (omega (arith, count)) (λ n c d less. each (suc n) c d (omega (arith, less))))

pub all_whole : (cases made : List Case) → AreEquivalent cases made → All IsCase made
all_whole [] [] are = All-nil IsCase
all_whole [] (e ∷ made) are = absurd are
all_whole (b ∷ cases) [] are = absurd are
all_whole (b ∷ cases) (e ∷ made) are = All-cons IsCase e made are.0.whole (all_whole cases made are.1)

-- one more with its marked biases
pub one_more_marked : (marks : List Bool) (es : List Extra) (cases made new : List Case) (i : ℕ) (c d : Case) → i < length cases → c ≡ get_or cases i c → StandsIn (marked_case marks es i c) d → new ≡ made ++ d ∷ [] → length made ≡ i → ((n : ℕ) (a b : Case) → n < i → StandsIn (marked_case marks es n (get_or cases n a)) (get_or made n b)) → (n : ℕ) (a b : Case) → n < i + 1 → StandsIn (marked_case marks es n (get_or cases n a)) (get_or new n b)
one_more_marked marks es cases made new i c d less here is new_is long so_far n a b below = elim (cases_lt n i) [
  | inl before ↦ subst (StandsIn (marked_case marks es n (get_or cases n a))) (sym (ap (λ (ds : List Case). get_or ds n b) new_is ∙ get_or_append_left made (d ∷ []) b n (omega (arith, long, before)))) (so_far n a b before)
  | inr from ↦
      let at : n ≡ i = omega (arith, from, below) in
      let last : get_or new n b ≡ d = ap (λ (k : ℕ). get_or new k b) (at ∙ sym long) ∙ ap (λ (ds : List Case). get_or ds (length made) b) new_is ∙ get_or-append_seam made d [] b in
      let own : get_or cases n a ≡ c = ap (λ (k : ℕ). get_or cases k a) at ∙ any_default cases i a c less ∙ sym here in
      subst (StandsIn (marked_case marks es n (get_or cases n a))) (sym last) (subst (λ (e : Case). StandsIn (marked_case marks es n e) d) (sym own) (subst (λ (k : ℕ). StandsIn (marked_case marks es k c) d) (sym at) is))
]

-- what stands for the cases of a problem, brought up to marked biases
pub still_stand : (marks : List Bool) (es : List Extra) (p : Problem) (cases made : List Case) → IsProblem p → All (λ e. length e.cases ≡ length p.cases) es → AreEquivalent p.cases cases → AreMarked marks es cases made → AreEquivalent (with_marked marks es p).cases made
still_stand marks es p cases made problem entries are new =
    let many : length (with_marked marks es p).cases ≡ length p.cases = many_marked marks es p (length p.cases) entries refl in
    let count : length cases ≡ length p.cases = equivalent_count p.cases cases are in
    from_each (with_marked marks es p).cases made (omega (arith, many, count, new.count)) (λ n c d less.
    let below : n < length p.cases = omega (arith, less, many) in
    let own : Case = get_or p.cases n c in
    let at : marked_case marks es n own ≡ get_or (with_marked marks es p).cases n (marked_case marks es n own) = marked_at marks es p (length p.cases) n own entries refl below (any_default p.cases n c own below) in
    let here : get_or (with_marked marks es p).cases n c ≡ marked_case marks es n own = any_default (with_marked marks es p).cases n c (marked_case marks es n own) less ∙ sym at in
    let one : StandsIn (marked_case marks es n own) (marked_case marks es n (get_or cases n own)) = marked_equivalent marks es n own (get_or cases n own) (problem n c below) (equivalent_each p.cases cases are n c own below) in
    let two : StandsIn (marked_case marks es n (get_or cases n own)) (get_or made n d) = new.each n own d (omega (arith, below, count)) in
    subst (λ (e : Case). StandsIn e (get_or made n d)) (sym here) (record { whole = two.whole; op = two.op ∙ one.op; same = λ x words. two.same x words ∙ one.same x words }))

-- one is replaced by what stands for it
pub replaced : (cases made : List Case) (n : ℕ) (e d : Case) → n < length made → e ≡ get_or made n e → StandsIn e d → AreEquivalent cases made → AreEquivalent cases (slice_set made n d)
replaced cases [] n e d less here is are = absurd (omega (arith, less))
replaced [] (m ∷ made) n e d less here is are = absurd are
replaced (c ∷ cases) (m ∷ made) zero e d less here is are = (after c m d are.0 (subst (λ (k : Case). StandsIn k d) here is), are.1)
replaced (c ∷ cases) (m ∷ made) (suc n) e d less here is are = (are.0, replaced cases made n e d (omega (arith, less)) here is are.1)

-- a case with what marked biases add to it stands for the one of the whole
pub tried_at : (marks : List Bool) (es : List Extra) (p : Problem) (n : ℕ) (own plain : Case) → IsProblem p → All (λ e. length e.cases ≡ length p.cases) es → n < length p.cases → own ≡ get_or p.cases n own → StandsIn own plain → IsTried (with_marked marks es p).cases (n, marked_case marks es n plain)
tried_at marks es p n own plain problem entries less here is =
    let whole : List Case = (with_marked marks es p).cases in
    let case : Case = marked_case marks es n own in
    let many : length whole ≡ length p.cases = many_marked marks es p (length p.cases) entries refl in
    let lt : n < length whole = omega (arith, less, many) in
    let at : case ≡ get_or whole n case = marked_at marks es p (length p.cases) n own entries refl less here in
    let made : StandsIn case (marked_case marks es n plain) = marked_equivalent marks es n own plain (subst IsCase (sym here) (problem n own less)) is in
    (lt, λ c. subst (λ (e : Case). StandsIn e (marked_case marks es n plain)) (at ∙ any_default whole n case c lt) made)

-- one more that was made
pub tried_more : (cases : List Case) (old new : List (ℕ × Case)) (n : ℕ) (c d : Case) → IsTried cases (n, c) → StandsIn c d → new ≡ old ++ (n, d) ∷ [] → AreTried cases old → AreTried cases new
tried_more cases old new n c d at is new_is are = subst (AreTried cases) (sym new_is) (All-push (IsTried cases) old (n, d) are (at.0, λ e. after (get_or cases n e) c d (at.1 e) is))

-- it takes the place of another that stands for the same
pub put_at : (cases made : List Case) (n : ℕ) (d : Case) → IsTried cases (n, d) → AreEquivalent cases made → AreEquivalent cases (slice_set made n d)
put_at [] made n d at are = absurd (omega (arith, at.0))
put_at (c ∷ cases) [] n d at are = absurd are
put_at (c ∷ cases) (m ∷ made) zero d at are = (at.1 c, are.1)
put_at (c ∷ cases) (m ∷ made) (suc n) d at are = (are.0, put_at cases made n d (omega (arith, at.0), at.1) are.1)

-- ---- where there are cases

pub all_stand : (cases : List Case) (narrow : Option (List Case)) → StandFor cases narrow → IfSome narrow (All IsCase)
all_stand cases None are = tt
all_stand cases (Some made) are = all_whole cases made are

pub entries_stand : (cases : List Case) (narrow : Option (List Case)) (es : List Extra) → All (λ e. length e.cases ≡ length cases) es → StandFor cases narrow → IfSome narrow (λ made. All (λ e. length e.cases ≡ length made) es)
entries_stand cases None es entries are = tt
entries_stand cases (Some made) es entries are = subst (λ (n : ℕ). All (λ e. length e.cases ≡ n) es) (sym (equivalent_count cases made are)) entries

-- brought up to marked biases they stand for those of the problem with them
pub brought_stand : (marks : List Bool) (es : List Extra) (p : Problem) (narrow made : Option (List Case)) → IsProblem p → All (λ e. length e.cases ≡ length p.cases) es → StandFor p.cases narrow → AreBrought marks es narrow made → StandFor (with_marked marks es p).cases made
brought_stand marks es p None made problem entries are new = subst (StandFor (with_marked marks es p).cases) (sym new) tt
brought_stand marks es p (Some cases) None problem entries are new = absurd new
brought_stand marks es p (Some cases) (Some made) problem entries are new = still_stand marks es p cases made problem entries are new

-- and are none only where there were none
pub brought_none : (marks : List Bool) (es : List Extra) (narrow made : Option (List Case)) → AreBrought marks es narrow made → made ≡ None → narrow ≡ None
brought_none marks es None made new none = refl
brought_none marks es (Some cases) None new none = absurd new
brought_none marks es (Some cases) (Some made) new none = absurd (cc none)

pub some_cases : (narrow : Option (List Case)) → is_some narrow ≡ true → narrow ≡ None → ⊥
some_cases None is none = cc is
some_cases (Some cases) is none = cc none

pub none_cases : (narrow : Option (List Case)) → is_some narrow ≡ false → narrow ≡ None
none_cases None is = refl
none_cases (Some cases) is = absurd (cc is)

-- what stands for the cases brought up to all marks, where there are some
pub all_brought : (p : Problem) (es : List Extra) (marks : List Bool) (n : ℕ) (old new : Option (List Case)) → ((old ≡ None → ⊥) → n ≡ length marks) → (old ≡ None → new ≡ None) → StandFor (with_marked marks es p).cases new → StandFor (with_marked (take n marks) es p).cases new
all_brought p es marks n None new from none stand = subst (StandFor (with_marked (take n marks) es p).cases) (sym (none refl)) tt
all_brought p es marks n (Some cases) new from none stand =
    let is : n ≡ length marks = from (some_cases (Some cases) refl) in
    subst (λ (q : Problem). StandFor q.cases new) (sym (ap (λ (k : ℕ). with_marked (take k marks) es p) is ∙ all_begun p es marks)) stand
