-- What fits a problem with its marked biases.
use Rattle.std.proofs.Common.{◌≡◌, ℕ, ◌+◌, ◌<◌, ◌≤◌, Bool, true, false, not, ◌&&◌, ◌||◌, ◌==◌, List, [], ◌∷◌, ◌++◌, All, length, drop, get_or, refl, sym, ap, ◌∙◌, subst, arith}
use Rattle.std.specs.Prelude.{if◌then◌else◌, filter, slice_set}
use Rattle.std.specs.List.{list_any, list_all}
use Rattle.std.proofs.lemmas.List.Elements.{All-head, All-tail}
use Rattle.std.proofs.lemmas.List.Folds.{list_all-append}
use Rattle.set_sums.proofs.Members.{is_in-filter, joined, left, right, same}
use Rattle.dom_set.specs.Elements.{is_in}
use Rattle.rv_isa.specs.declared.operation.Op.{Op}
use Rattle.rv_isa.specs.Numbers.{op_numbered}
use Rattle.fd_narrow.specs.Narrowing.{domain_in}
use Rattle.fd_prob.specs.declared.problem.Assignment.{Assignment}
use Rattle.fd_prob.specs.declared.problem.Case.{Case}
use Rattle.fd_prob.specs.declared.problem.Extra.{Extra}
use Rattle.fd_prob.specs.declared.problem.Problem.{Problem}
use Rattle.fd_prob.specs.declared.relation.Rel.{Rel}
use Rattle.fd_prob.specs.declared.slot.Slot.{Slot}
use Rattle.fd_prob.specs.declared.slot.Slot.TheVariants as slots
use Rattle.fd_prob.specs.Extras.{closed_by, cut_by, cut_by_all, extended, extended_case, extended_cases}
use Rattle.fd_prob.specs.Fitting.{IsCase, IsProblem, fits_case, is_within}
use Rattle.fd_prob.specs.Relations.{holds, value_of}
use Rattle.fd_prob.specs.Slots.{slot_number}
use Rattle.fd_prob.proofs.Fitted.{all_within, each_within}
use Rattle.fd_solve.specs.Answers.{NothingFits}
use Rattle.fd_solve.specs.Internal.Marks.{marked_case, with_marked}
use Rattle.fd_solve.specs.Internal.Meeting.{is_in_cut, meets_bias, meets_marked}
use Rattle.fd_solve.specs.Internal.Asking.{with_doms}
use Rattle.case_search.proofs.Inside.{each_of, inside_of, within_same}
use Rattle.case_search.proofs.Putting.{put_in, put_out, value_in}
use Rattle.case_search.proofs.Extensions.{case_whole, length_cut}
use Rattle.case_search.proofs.Lists.{drop_here, drop_past}
use Rattle.fd_solve.proofs.Marking.{many_marked, marked_at}

-- one domain less what a test leaves out
pub one_less : (c : Case) (x : Assignment) (s : Slot) (test : ℕ → Bool) → length c.doms ≡ 14 → is_within (with_doms c (slice_set c.doms (slot_number s) (filter test (domain_in c.doms s)))) x ≡ (test (value_of x s) && is_within c x)
one_less c x s test long =
    let old : List ℕ = domain_in c.doms s in
    let v : ℕ = value_of x s in
    let d : List ℕ = filter test old in
    let made : Case = with_doms c (slice_set c.doms (slot_number s) d) in
    same (is_within made x) (test v && is_within c x)
    (λ h.
    let inside = inside_of made x (each_within made x h) in
    let both : (test v && is_in old v) ≡ true = sym (is_in-filter test old v) ∙ value_in c.doms s d long x inside in
    joined (test v) (is_within c x) (left (test v) (is_in old v) both)
    (all_within c x (each_of c x (put_out c.doms s d long x inside (right (test v) (is_in old v) both)))))
    (λ h.
    let inside = inside_of c x (each_within c x (right (test v) (is_within c x) h)) in
    all_within made x (each_of made x (put_in c.doms s d long x inside (is_in-filter test old v ∙ joined (test v) (is_in old v) (left (test v) (is_within c x) h) (inside s)))))

-- one cut
one_cut : (c : Case) (x : Assignment) (cut : Slot × List ℕ) → length c.doms ≡ 14 → is_within (with_doms c (cut_by cut c.doms)) x ≡ (is_in_cut x cut && is_within c x)
one_cut c x cut long = one_less c x cut.0 (is_in cut.1) long

turned : (a b c : Bool) → ((a && b) && c) ≡ (b && (a && c))
turned true b c = refl
turned false true c = refl
turned false false c = refl

all_cuts : (c : Case) (x : Assignment) (cuts : List (Slot × List ℕ)) → length c.doms ≡ 14 → is_within (with_doms c (cut_by_all cuts c.doms)) x ≡ (list_all (is_in_cut x) cuts && is_within c x)
all_cuts c x [] long = refl
all_cuts c x (cut ∷ cuts) long =
    all_cuts (with_doms c (cut_by cut c.doms)) x cuts (length_cut cut c.doms ∙ long)
    ∙ ap (λ (b : Bool). list_all (is_in_cut x) cuts && b) (one_cut c x cut long)
    ∙ sym (turned (is_in_cut x cut) (list_all (is_in_cut x) cuts) (is_within c x))

closed : (op : Op) (x : Assignment) (stays : Bool) → list_all (holds op x) (closed_by stays) ≡ stays
closed op x true = refl
closed op x false = refl

grouped : (f b m : Bool) → ((f && b) && m) ≡ (f && (b && m))
grouped true b m = refl
grouped false b m = refl

sorted : (a w k r q s : Bool) → ((a && (k && w)) && (r && (q && s))) ≡ (((a && w) && r) && ((s && k) && q))
sorted false w k r q s = refl
sorted true false false r q s = refl
sorted true false true r q s = refl
sorted true true false false q s = refl
sorted true true false true q false = refl
sorted true true false true q true = refl
sorted true true true false q s = refl
sorted true true true true false false = refl
sorted true true true true false true = refl
sorted true true true true true false = refl
sorted true true true true true true = refl

-- what fits a case with a bias fits the case and meets the bias
pub one_bias : (e : Extra) (place : ℕ) (c : Case) (x : Assignment) → IsCase c → fits_case x (extended_case e (get_or e.cases place false) c) ≡ (fits_case x c && meets_bias (op_numbered c.op) x place e)
unfolding fits_case
one_bias e place c x is =
    let op : Op = op_numbered c.op in
    let stays : Bool = get_or e.cases place false in
    let a : Bool = c.op == value_of x slots.Op in
    let h : List Rel → Bool = list_all (holds op x) in
    let k : Bool = list_all (is_in_cut x) e.cuts in
    let within : is_within (extended_case e stays c) x ≡ (k && is_within c x) = within_same (extended_case e stays c) (with_doms c (cut_by_all e.cuts c.doms)) x refl ∙ all_cuts c x e.cuts is.domains in
    let rels : h (c.rels ++ e.rels ++ closed_by stays) ≡ (h c.rels && (h e.rels && stays)) =
    list_all-append (holds op x) (c.rels ++ e.rels) (closed_by stays)
    ∙ ap (λ (b : Bool). b && h (closed_by stays)) (list_all-append (holds op x) c.rels e.rels)
    ∙ ap (λ (b : Bool). (h c.rels && h e.rels) && b) (closed op x stays)
    ∙ grouped (h c.rels) (h e.rels) stays in
    ap (λ (b : Bool). (a && b) && h (c.rels ++ e.rels ++ closed_by stays)) within
    ∙ ap (λ (b : Bool). (a && (k && is_within c x)) && b) rels
    ∙ sorted a (is_within c x) k (h c.rels) (h e.rels) stays

and_true : (b : Bool) → b ≡ (b && true)
and_true true = refl
and_true false = refl

one_mark : (mark : Bool) (e : Extra) (place : ℕ) (c : Case) (x : Assignment) → IsCase c → fits_case x (if mark then extended_case e (get_or e.cases place false) c else c) ≡ (fits_case x c && (not mark || meets_bias (op_numbered c.op) x place e))
one_mark true e place c x is = one_bias e place c x is
one_mark false e place c x is = and_true (fits_case x c)

mark_whole : (mark : Bool) (e : Extra) (place : ℕ) (c : Case) → IsCase c → IsCase (if mark then extended_case e (get_or e.cases place false) c else c)
mark_whole true e place c is = case_whole e (get_or e.cases place false) c is
mark_whole false e place c is = is

mark_op : (mark : Bool) (e : Extra) (place : ℕ) (c : Case) → (if mark then extended_case e (get_or e.cases place false) c else c).op ≡ c.op
mark_op true e place c = refl
mark_op false e place c = refl

-- what fits the case with its marked biases fits the case and meets what they add
pub all_marks : (marks : List Bool) (es : List Extra) (place : ℕ) (c : Case) (x : Assignment) → IsCase c → fits_case x (marked_case marks es place c) ≡ (fits_case x c && meets_marked (op_numbered c.op) x place marks es)
all_marks [] es place c x is = and_true (fits_case x c)
all_marks (mark ∷ marks) [] place c x is = and_true (fits_case x c)
all_marks (mark ∷ marks) (e ∷ es) place c x is =
    let made : Case = if mark then extended_case e (get_or e.cases place false) c else c in
    let here : Bool = not mark || meets_bias (op_numbered c.op) x place e in
    all_marks marks es place made x (mark_whole mark e place c is)
    ∙ ap (λ (n : ℕ). fits_case x made && meets_marked (op_numbered n) x place marks es) (mark_op mark e place c)
    ∙ ap (λ (b : Bool). b && meets_marked (op_numbered c.op) x place marks es) (one_mark mark e place c x is)
    ∙ grouped (fits_case x c) here (meets_marked (op_numbered c.op) x place marks es)

-- a mark that is met leaves what the rest says
pub one_met : (op : Op) (x : Assignment) (place : ℕ) (marks : List Bool) (es : List Extra) (i : ℕ) (m : Bool) (e : Extra) → i < length marks → i < length es → m ≡ get_or marks i m → e ≡ get_or es i e → true ≡ (not m || meets_bias op x place e)
    → meets_marked op x place (drop (i + 1) marks) (drop (i + 1) es) ≡ meets_marked op x place (drop i marks) (drop i es)
one_met op x place marks es i m e lt less here there met =
    let rest : Bool = meets_marked op x place (drop (i + 1) marks) (drop (i + 1) es) in
    let whole : meets_marked op x place (drop i marks) (drop i es) ≡ ((not m || meets_bias op x place e) && rest) =
    ap (λ (ms : List Bool). meets_marked op x place ms (drop i es)) (drop_here marks i m lt here)
    ∙ ap (λ (fs : List Extra). meets_marked op x place (m ∷ drop (i + 1) marks) fs) (drop_here es i e less there) in
    sym (whole ∙ ap (λ (b : Bool). b && rest) (sym met))

-- what fits a case with a bias fits the case
less_case : (e : Extra) (stays : Bool) (c : Case) (x : Assignment) → IsCase c → fits_case x (extended_case e stays c) ≡ true → fits_case x c ≡ true
less_case e stays c x is h =
    let single : Extra = record { cases = stays ∷ []; cuts = e.cuts; rels = e.rels } in
    left (fits_case x c) (meets_bias (op_numbered c.op) x 0 single) (sym (one_bias single 0 c x is) ∙ h)

either : (a b c d : Bool) → (a ≡ true → c ≡ true) → (b ≡ true → d ≡ true) → (a || b) ≡ true → (c || d) ≡ true
either true b c d first second h = rw (first refl) refl
either false b true d first second h = refl
either false b false d first second h = second h

less_cases : (e : Extra) (stays : List Bool) (cases : List Case) (x : Assignment) → All IsCase cases → list_any (fits_case x) (extended_cases e stays cases) ≡ true → list_any (fits_case x) cases ≡ true
less_cases e [] cases x is h = absurd (cc h)
less_cases e (s ∷ stays) [] x is h = absurd (cc h)
less_cases e (s ∷ stays) (c ∷ cases) x is h =
    either (fits_case x (extended_case e s c)) (list_any (fits_case x) (extended_cases e stays cases)) (fits_case x c) (list_any (fits_case x) cases)
    (less_case e s c x (All-head IsCase c cases is)) (less_cases e stays cases x (All-tail IsCase c cases is)) h

-- where nothing fits a problem, nothing fits it with a bias
pub nothing_more : (e : Extra) (p : Problem) → IsProblem p → NothingFits p → NothingFits (extended e p)
nothing_more e p is none y words h = none y words (less_cases e e.cases p.cases y is h)

-- the case at a place, and those after it
pub case_and_rest : (marks : List Bool) (es : List Extra) (p : Problem) (x : Assignment) (cases : List Case) (i : ℕ) (c : Case) → All (λ e. length e.cases ≡ length p.cases) es → cases ≡ p.cases → i < length cases → c ≡ get_or cases i c
    → list_any (fits_case x) (drop i (with_marked marks es p).cases) ≡ (fits_case x (marked_case marks es i c) || list_any (fits_case x) (drop (i + 1) (with_marked marks es p).cases))
case_and_rest marks es p x cases i c entries own less here =
    let many : length (with_marked marks es p).cases ≡ length p.cases = many_marked marks es p (length p.cases) entries refl in
    let within : i < length p.cases = subst (λ (cs : List Case). i < length cs) own less in
    let is : c ≡ get_or p.cases i c = here ∙ ap (λ (cs : List Case). get_or cs i c) own in
    ap (list_any (fits_case x)) (drop_here (with_marked marks es p).cases i (marked_case marks es i c) (omega (arith, within, many)) (marked_at marks es p (length p.cases) i c entries refl within is))

pub none_after : (marks : List Bool) (es : List Extra) (p : Problem) (x : Assignment) (i : ℕ) → All (λ e. length e.cases ≡ length p.cases) es → length p.cases ≤ i → list_any (fits_case x) (drop i (with_marked marks es p).cases) ≡ false
none_after marks es p x i entries end =
    let many : length (with_marked marks es p).cases ≡ length p.cases = many_marked marks es p (length p.cases) entries refl in
    ap (list_any (fits_case x)) (drop_past (with_marked marks es p).cases i (omega (arith, end, many)))

pub first_is : (b here rest whole : Bool) → b ≡ (here || rest) → b ≡ whole → true ≡ here → true ≡ whole
first_is b true rest whole is all h = sym is ∙ all
first_is b false rest whole is all h = absurd (cc h)

pub first_is_not : (b here rest whole : Bool) → b ≡ (here || rest) → b ≡ whole → false ≡ here → rest ≡ whole
first_is_not b true rest whole is all h = absurd (cc h)
first_is_not b false rest whole is all h = sym is ∙ all
