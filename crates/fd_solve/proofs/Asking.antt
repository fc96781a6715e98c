-- What a bias that nothing fits tells of cases.
use Rattle.std.proofs.Common.{◌≡◌, ℕ, zero, suc, ◌<◌, Bool, true, false, not, ◌&&◌, ◌||◌, ◌==◌, ◌^◌, List, [], ◌∷◌, Option, None, length, get_or, Some, eqb-true, refl, sym, ap, ◌∙◌, subst, arith, length-set}
use Rattle.std.specs.Prelude.{IfSome, filter, slice_set}
use Rattle.std.specs.List.{list_any, list_all}
use Rattle.std.proofs.lemmas.List.{nil_from_length}
use Rattle.set_sums.proofs.Members.{is_in-elements_of, is_in-filter, joined}
use Rattle.dom_set.specs.Elements.{elements_of, is_in}
use Rattle.dom_set.specs.Laws.{ElementsPass, IsInTests}
use Rattle.rv_isa.specs.declared.operation.Op.{Op}
use Rattle.rv_isa.specs.Numbers.{op_numbered}
use Rattle.fd_narrow.specs.Narrowing.{domain_in}
use Rattle.fd_prob.specs.declared.problem.Assignment.{Assignment}
use Rattle.fd_prob.specs.declared.problem.Case.{Case}
use Rattle.fd_prob.specs.declared.problem.Extra.{Extra}
use Rattle.fd_prob.specs.declared.problem.Problem.{Problem}
use Rattle.fd_prob.specs.declared.relation.Rel.{Rel}
use Rattle.fd_prob.specs.declared.slot.Slot.{Slot}
use Rattle.fd_prob.specs.declared.slot.Slot.TheVariants as slots
use Rattle.fd_prob.specs.Extras.{extended, extended_case, extended_cases}
use Rattle.fd_prob.specs.Fitting.{IsCase, IsProblem, domain_of, fits_case, is_within}
use Rattle.fd_prob.specs.Order.{IsAssignment}
use Rattle.fd_prob.specs.Relations.{holds, value_of}
use Rattle.fd_prob.specs.Slots.{slot_number}
use Rattle.fd_solve.specs.Answers.{NothingFits}
use Rattle.fd_solve.specs.declared.answers.Solved.TheVariants as answers
use Rattle.fd_solve.specs.declared.known.Known.{Known}
use Rattle.fd_solve.specs.declared.known.Known.TheVariants.{Answer, Fits}
use Rattle.fd_solve.specs.Internal.Equivalent.{AreEquivalent, StandsIn}
use Rattle.fd_solve.specs.Internal.Known.{IsKnown, dropping}
use Rattle.fd_solve.specs.Internal.Meeting.{is_in_cut, meets_bias}
use Rattle.fd_solve.specs.Internal.Asking.{AsksFor, HasNone, with_doms}
use Rattle.case_search.proofs.Inside.{domain_is}
use Rattle.fd_solve.proofs.Equivalence.{equivalent_each}
use Rattle.fd_solve.proofs.FittingMarks.{one_bias, one_less}

held : (a b : Bool) → b ≡ true → (not a && b) ≡ false → a ≡ true
held true b h k = refl
held false true h k = absurd (cc k)
held false false h k = absurd (cc h)

-- a set has each word where it leaves none of them
pub has_each : ElementsPass → IsInTests → (set words rest : List ℕ) → words ≡ elements_of (λ x. true) → rest ≡ filter (λ x. not (is_in set x)) words → rest ≡ [] → (v : ℕ) → v < 2 ^ 32 → is_in set v ≡ true
has_each pass tests set words rest words_is rest_is none v small =
    let test : ℕ → Bool = λ x. not (is_in set x) in
    let in_words : is_in words v ≡ true = ap (λ (xs : List ℕ). is_in xs v) words_is ∙ is_in-elements_of pass tests (λ x. true) v small in
    held (is_in set v) (is_in words v) in_words (sym (is_in-filter test words v) ∙ ap (λ (xs : List ℕ). is_in xs v) (sym rest_is ∙ none))

pub nothing : {A : Type 0} (xs : List A) → (length xs == 0) ≡ true → xs ≡ []
nothing xs h = nil_from_length xs (eqb-true (length xs) 0 h)

-- a bias that has no cut asks for what its relations do
pub asks_by_rels : (e : Extra) (rels : List Rel) (asked : Option (Slot × List ℕ)) → e.cuts ≡ [] → rels ≡ e.rels → IfSome asked (λ told. (op : Op) (x : Assignment) → IsAssignment x → is_in told.1 (value_of x told.0) ≡ true → list_all (holds op x) rels ≡ true) → IfSome asked (λ told. AsksFor e told.0 told.1)
asks_by_rels e rels None none same is = is
asks_by_rels e rels (Some told) none same is = λ op x place words stays asked.
    let s : Bool = get_or e.cases place false in
    let k : Bool = list_all (is_in_cut x) e.cuts in
    joined (s && k) (list_all (holds op x) e.rels) (joined s k stays (ap (list_all (is_in_cut x)) none)) (ap (list_all (holds op x)) (sym same) ∙ is op x words asked)

or_first : (a b : Bool) → a ≡ true → (a || b) ≡ true
or_first true b h = refl
or_first false b h = absurd (cc h)

or_second : (a b : Bool) → b ≡ true → (a || b) ≡ true
or_second true b h = refl
or_second false b h = h

-- what fits the case at a place with the bias fits one of the cases with it
fits_one : (e : Extra) (stays : List Bool) (cases : List Case) (x : Assignment) (n : ℕ) (c : Case) → length stays ≡ length cases → n < length cases
    → fits_case x (extended_case e (get_or stays n false) (get_or cases n c)) ≡ true → list_any (fits_case x) (extended_cases e stays cases) ≡ true
fits_one e [] [] x n c many less h = absurd (omega (arith, less))
fits_one e [] (d ∷ cases) x n c many less h = absurd (omega (arith, many))
fits_one e (s ∷ stays) [] x n c many less h = absurd (omega (arith, many))
fits_one e (s ∷ stays) (d ∷ cases) x zero c many less h = or_first (fits_case x (extended_case e s d)) (list_any (fits_case x) (extended_cases e stays cases)) h
fits_one e (s ∷ stays) (d ∷ cases) x (suc n) c many less h = or_second (fits_case x (extended_case e s d)) (list_any (fits_case x) (extended_cases e stays cases)) (fits_one e stays cases x n c (omega (arith, many)) (omega (arith, less)) h)

none_true : (b : Bool) → (b ≡ true → ⊥) → b ≡ false
none_true true never = absurd (never refl)
none_true false never = refl

-- what stands for a case that stays has no value that the bias asks for
pub none_asked : (e : Extra) (p : Problem) (cases : List Case) (n : ℕ) (s : Slot) (set : List ℕ) (d : Case) → IsProblem p → length e.cases ≡ length p.cases → NothingFits (extended e p) → AreEquivalent p.cases cases → AsksFor e s set → n < length p.cases
    → get_or e.cases n false ≡ true → d ≡ get_or cases n d → HasNone s set d
none_asked e p cases n s set d problem entry none are asks less stays here x words fitting =
    let own : Case = get_or p.cases n d in
    let is : StandsIn own d = subst (StandsIn own) (sym here) (equivalent_each p.cases cases are n d d less) in
    none_true (is_in set (value_of x s)) (λ asked.
    none x words (fits_one e e.cases p.cases x n d entry less
    (one_bias e n own x (problem n d less) ∙ joined (fits_case x own) (meets_bias (op_numbered own.op) x n e) (sym (is.same x words) ∙ fitting) (asks (op_numbered own.op) x n words stays asked))))

and_one : (a b c d : Bool) → (((a && b) && c) ≡ true → d ≡ false) → ((a && (not d && b)) && c) ≡ ((a && b) && c)
and_one false b c d never = refl
and_one true false c true never = refl
and_one true false c false never = refl
and_one true true false true never = refl
and_one true true false false never = refl
and_one true true true d never = ap (λ (k : Bool). (not k && true) && true) (never refl)

-- a case without values that nothing has that fits it
pub without_none : (c made : Case) (s : Slot) (set old left : List ℕ) → IsCase c → HasNone s set c → old ≡ domain_of c s → left ≡ filter (λ v. not (is_in set v)) old → made ≡ with_doms c (slice_set c.doms (slot_number s) left) → StandsIn c made
unfolding fits_case
without_none c made s set old left is none old_is left_is made_is =
    let test : ℕ → Bool = λ v. not (is_in set v) in
    let doms : List (List ℕ) = slice_set c.doms (slot_number s) (filter test (domain_in c.doms s)) in
    let same_made : made ≡ with_doms c doms = made_is ∙ ap (λ (d : List ℕ). with_doms c (slice_set c.doms (slot_number s) d)) (left_is ∙ ap (filter test) (old_is ∙ domain_is c s)) in
    subst (StandsIn c) (sym same_made) (record {
      whole = record { op = is.op; domains = length-set c.doms (slot_number s) (filter test (domain_in c.doms s)) ∙ is.domains };
      op = refl;
      same = λ x words.
          let a : Bool = c.op == value_of x slots.Op in
          let rels : Bool = list_all (holds (op_numbered c.op) x) c.rels in
          ap (λ (b : Bool). (a && b) && rels) (one_less c x s test is.domains)
          ∙ and_one a (is_within c x) rels (is_in set (value_of x s)) (none x words);
    })

-- a bias is dropped without the budget being spent where nothing fits with it
pub none_dropped : (p : Problem) (nodes : ℕ) (known : Known) → dropping known ≡ Some false → IsKnown p nodes known → NothingFits p
none_dropped p nodes (Answer (answers.Found x)) dropped is = absurd (cc dropped)
none_dropped p nodes (Answer answers.NoneFits) dropped is = is.1
none_dropped p nodes (Answer answers.Spent) dropped is = absurd (cc dropped)
none_dropped p nodes (Fits x) dropped is = absurd (cc dropped)
