-- Cases of which nothing meets a marked bias.
use Rattle.std.proofs.Common.{◌≡◌, ℕ, zero, suc, ◌+◌, ◌<◌, ◌≤◌, ◌==◌, ◌&&◌, ◌||◌, Bool, true, false, not, List, [], ◌∷◌, length, drop, get_or, refl, sym, ap, ◌∙◌, arith}
use Rattle.std.specs.List.{filter, list_all, list_any}
use Rattle.dom_set.specs.Elements.{is_in}
use Rattle.rv_isa.specs.declared.operation.Op.{Op}
use Rattle.rv_isa.specs.Numbers.{op_numbered}
use Rattle.fd_prob.specs.declared.problem.Assignment.{Assignment}
use Rattle.fd_prob.specs.declared.problem.Case.{Case}
use Rattle.fd_prob.specs.declared.problem.Extra.{Extra}
use Rattle.fd_prob.specs.declared.relation.Quad.{Quad}
use Rattle.fd_prob.specs.declared.slot.Slot.{Slot}
use Rattle.fd_prob.specs.declared.slot.Slot.TheVariants as slots
use Rattle.fd_prob.specs.Fitting.{IsCase, domain_of, fits_case, is_within}
use Rattle.fd_prob.specs.Relations.{holds, value_of}
use Rattle.case_search.specs.Search.{IsMadeOf}
use Rattle.case_search.proofs.Lists.{drop_here, drop_past}
use Rattle.fd_prob.proofs.Fitted.{each_within, fits_its_case}
use Rattle.set_sums.proofs.Members.{is_in-filter}
use Rattle.fd_solve.specs.Internal.Marks.{marked_case}
use Rattle.fd_solve.specs.Internal.Meeting.{meets_bias, meets_marked}
use Rattle.fd_solve.proofs.FittingMarks.{all_marks}

pub and_none : (b c : Bool) → c ≡ false → (b && c) ≡ false
and_none true c h = h
and_none false c h = refl

none_and : (b c : Bool) → b ≡ false → (b && c) ≡ false
none_and true c h = absurd (cc h)
none_and false c h = refl

-- a marked bias that isn't met
pub not_met : (op : Op) (x : Assignment) (place : ℕ) (marks : List Bool) (es : List Extra) (i : ℕ) (m : Bool) (e : Extra) → i < length marks → i < length es → m ≡ get_or marks i m → e ≡ get_or es i e → m ≡ true
    → meets_bias op x place e ≡ false → meets_marked op x place marks es ≡ false
not_met op x place [] es i m e lt less here there marked unmet = absurd (omega (arith, lt))
not_met op x place (mark ∷ marks) [] i m e lt less here there marked unmet = absurd (omega (arith, less))
not_met op x place (mark ∷ marks) (f ∷ es) zero m e lt less here there marked unmet =
    let on : mark ≡ true = sym here ∙ marked in
    let out : meets_bias op x place f ≡ false = ap (meets_bias op x place) (sym there) ∙ unmet in
    none_and (not mark || meets_bias op x place f) (meets_marked op x place marks es) (ap (λ (b : Bool). not b || meets_bias op x place f) on ∙ out)
not_met op x place (mark ∷ marks) (f ∷ es) (suc i) m e lt less here there marked unmet =
    and_none (not mark || meets_bias op x place f) (meets_marked op x place marks es) (not_met op x place marks es i m e (omega (arith, lt)) (omega (arith, less)) here there marked unmet)

within_of : (a w h : Bool) → (a && w && h) ≡ true → w ≡ true
within_of true true h is = refl
within_of true false h is = absurd (cc is)
within_of false true h is = refl
within_of false false h is = absurd (cc is)

fits_within : (x : Assignment) (c : Case) → fits_case x c ≡ true → is_within c x ≡ true
unfolding fits_case
fits_within x c is = within_of (c.op == value_of x slots.Op) (is_within c x) (list_all (holds (op_numbered c.op) x) c.rels) is

-- so nothing fits the case with the marked biases
pub marked_out : (marks : List Bool) (es : List Extra) (place : ℕ) (c : Case) (x : Assignment) (i : ℕ) (m : Bool) (e : Extra) → IsCase c → i < length marks → i < length es → m ≡ get_or marks i m → e ≡ get_or es i e → m ≡ true
    → ((op : Op) (y : Assignment) → is_within c y ≡ true → meets_bias op y place e ≡ false) → fits_case x (marked_case marks es place c) ≡ false
marked_out marks es place c x i m e is lt less here there marked barred =
    all_marks marks es place c x is ∙ go (fits_case x c) refl where
      go : (b : Bool) → fits_case x c ≡ b → (b && meets_marked (op_numbered c.op) x place marks es) ≡ false
      go false fits = refl
      go true fits = not_met (op_numbered c.op) x place marks es i m e lt less here there marked (barred (op_numbered c.op) x (fits_within x c fits))

only : (a b : Bool) → (a && b) ≡ false → b ≡ true → a ≡ false
only true true h q = absurd (cc h)
only true false h q = absurd (cc q)
only false b h q = refl

-- a domain that has nothing of a set
pub missed : (c : Case) (x : Assignment) (slot : Slot) (set domain both : List ℕ) → domain ≡ domain_of c slot → both ≡ filter (is_in set) domain → both ≡ [] → is_within c x ≡ true → is_in set (value_of x slot) ≡ false
missed c x slot set domain both is filtered empty within = only (is_in set (value_of x slot)) (is_in domain (value_of x slot)) (sym (is_in-filter (is_in set) domain (value_of x slot)) ∙ gone) inside where
  inside : is_in domain (value_of x slot) ≡ true
  inside = ap (λ (d : List ℕ). is_in d (value_of x slot)) is ∙ each_within c x within slot

  gone : is_in (filter (is_in set) domain) (value_of x slot) ≡ false
  gone = ap (λ (d : List ℕ). is_in d (value_of x slot)) (sym filtered ∙ empty)

-- where one item fails, not all pass
pub not_all : {A : Type 0} (p : A → Bool) (xs : List A) (i : ℕ) (x : A) → i < length xs → x ≡ get_or xs i x → p x ≡ false → list_all p xs ≡ false
not_all p [] i x lt here fails = absurd (omega (arith, lt))
not_all p (y ∷ xs) zero x lt here fails = none_and (p y) (list_all p xs) (ap p (sym here) ∙ fails)
not_all p (y ∷ xs) (suc i) x lt here fails = and_none (p y) (list_all p xs) (not_all p xs i x (omega (arith, lt)) here fails)

-- rows that are off, one after another
pub next_off : (p : Quad → Bool) (rows : List Quad) (i : ℕ) (row : Quad) → i < length rows → row ≡ get_or rows i row → p row ≡ false → list_any p (drop i rows) ≡ list_any p rows → list_any p (drop (i + 1) rows) ≡ list_any p rows
next_off p rows i row lt here off so_far =
    sym (ap (list_any p) (drop_here rows i row lt here) ∙ ap (λ (b : Bool). b || list_any p (drop (i + 1) rows)) off) ∙ so_far

pub all_off : (p : Quad → Bool) (rows : List Quad) (i : ℕ) → length rows ≤ i → list_any p (drop i rows) ≡ list_any p rows → list_any p rows ≡ false
all_off p rows i past so_far = sym so_far ∙ ap (list_any p) (drop_past rows i past)

-- a case that nothing fits is of no assignment
pub never_made : (c : Case) → ((x : Assignment) → fits_case x c ≡ false) → (x : Assignment) → IsMadeOf c x → ⊥
never_made c none x of = cc (sym (none x) ∙ fits_its_case x c of.1)
