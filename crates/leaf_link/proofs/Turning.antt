-- First cases hold nothing, and the answer of a problem is the answer of the turn.
use Rattle.std.proofs.Common.{◌≡◌, ℕ, ◌<◌, ◌&&◌, ◌||◌, ◌==◌, Bool, true, false, List, [], ◌∷◌, Option, Some, None, refl, sym, ap, ◌∙◌, subst, inl, inr}
use Rattle.std.specs.List.{list_any, list_all}
use Rattle.std.proofs.lemmas.Bool.{and_parts}
use Rattle.std.proofs.lemmas.List.Folds.{list_any-append}
use Rattle.std.proofs.Math.Path.{fun_ext}
use Rattle.rv_isa.specs.declared.operation.Op.{Op}
use Rattle.rv_isa.specs.declared.operation.TheConstants.{OPS}
use Rattle.rv_script.specs.Folds.{Entry}
use Rattle.rv_script.specs.Lists.{HasItem}
use Rattle.addr_rows.specs.Walks.{EntryRow}
use Rattle.tpl_ast.specs.declared.template.Atom.{Atom}
use Rattle.tpl_ast.specs.declared.template.Var.TheVariants as vars
use Rattle.fd_prob.specs.declared.problem.Assignment.{Assignment}
use Rattle.fd_prob.specs.declared.problem.Case.{Case}
use Rattle.fd_prob.specs.declared.problem.Problem.{Problem}
use Rattle.fd_prob.specs.declared.relation.Rel.{Rel}
use Rattle.fd_prob.specs.declared.relation.Rel.TheVariants.{Rows}
use Rattle.fd_prob.specs.declared.slot.Slot.{Slot}
use Rattle.fd_prob.specs.declared.slot.Slot.TheVariants as slots
use Rattle.fd_prob.specs.Fitting.{fits, fits_case, is_within}
use Rattle.fd_prob.specs.Order.{pivot_of, rank}
use Rattle.fd_prob.specs.Relations.{holds, value_of}
use Rattle.rv_isa.specs.Numbers.{op_numbered, op_number}
use Rattle.fd_prob.specs.Spaces.{space}
use Rattle.leaf_link.specs.Turns.{Turn}
use Rattle.leaf_link.specs.Values.{Values, new_places}
use Rattle.leaf_link.specs.Candidates.{IsCandidate}
use Rattle.leaf_link.specs.Cases.{Fits, all_tests, code_at, in_word}
use Rattle.leaf_link.specs.Answers.{ComesBeforeIn}
use Rattle.leaf_link.specs.Problems.{key_of}
use Rattle.leaf_link.specs.AllWays.{leaf_cases, ways_of}
use Rattle.leaf_link.specs.Firsts.{AreFirsts, FirstsHoldNothing, HasDraws, HoldNothing, Precedes, TurnAnswersAreExact, first_domain, in_first_word, is_allowed, leaf_pivot, leaf_space, with_cases}
use Rattle.leaf_link.proofs.Numbers.{op_back}
use Rattle.leaf_link.proofs.Law.{fits_way}
use Rattle.leaf_link.proofs.Spacing.{pivots_are_exact, space_is_exact}
use Rattle.leaf_link.proofs.Answering.{answers_moved, before_by}
use Rattle.leaf_link.proofs.Whole.{one_of}
use Rattle.leaf_link.proofs.Every.{leaf_answers_are_exact, leaf_problems_are_exact}

-- WHAT HOLDS NOTHING
not_all : (test : Rel → Bool) (rs : List Rel) (r : Rel) → HasItem rs r → test r ≡ false → list_all test rs ≡ false
not_all test [] r i h = absurd i
not_all test (q ∷ rs) r i h = elim i [
  | inl e ↦ ap (λ (b : Bool). b && list_all test rs) (ap test e ∙ h)
  | inr j ↦ ap (λ (b : Bool). test q && b) (not_all test rs r j h) ∙ last (test q)
]
  where
    last : (b : Bool) → (b && false) ≡ false
    last true = refl
    last false = refl

pub fits_not : (c : Case) (x : Assignment) → HasItem c.rels (Rows []) → fits_case x c ≡ false
unfolding fits_case
fits_not c x i = ap (λ (b : Bool). (c.op == value_of x slots.Op && is_within c x) && b) (not_all (holds (op_numbered c.op) x) c.rels (Rows []) i refl) ∙ last (c.op == value_of x slots.Op && is_within c x)
  where
    last : (b : Bool) → (b && false) ≡ false
    last true = refl
    last false = refl

none_fits : (cs : List Case) (x : Assignment) → HoldNothing cs → list_any (fits_case x) cs ≡ false
none_fits [] x h = refl
none_fits (c ∷ cs) x h = ap (λ (b : Bool). b || list_any (fits_case x) cs) (fits_not c x (h c (inl refl))) ∙ none_fits cs x (λ d i. h d (inr i))

same_fits : (firsts : List Case) (p : Problem) (x : Assignment) → HoldNothing firsts → fits (with_cases firsts p) x ≡ fits p x
same_fits firsts p x h = list_any-append (fits_case x) firsts p.cases ∙ ap (λ (b : Bool). b || fits p x) (none_fits firsts x h)

pub firsts_hold_nothing : FirstsHoldNothing
firsts_hold_nothing firsts p cs h = (
  λ is. record { same = λ x words. (λ f. (is.same x words).0 (sym (same_fits firsts p x h) ∙ f), λ f. same_fits firsts p x h ∙ (is.same x words).1 f) },
  λ is. record { same = λ x words. (λ f. (is.same x words).0 (same_fits firsts p x h ∙ f), λ f. sym (same_fits firsts p x h) ∙ (is.same x words).1 f) },
)

-- A CANDIDATE'S OPERATION IS ALLOWED
in_first : (o : Option ℕ) (op : Op) (v : ℕ) → in_word o op slots.Op v ≡ in_first_word o op slots.Op v
in_first None op v = refl
in_first (Some w) op v = refl

pub fitting_allowed : (t : Turn) (walk : List Entry) (pa : ℕ) (leaf : List Atom) (loads stores : List EntryRow) (x : Values) → Fits (leaf_cases t walk pa leaf loads stores) x → is_allowed t pa leaf (op_numbered (x slots.Op)) ≡ true
fitting_allowed t walk pa leaf loads stores x f =
    let o = one_of t walk pa leaf (ways_of t walk pa leaf loads stores) OPS x f in
    let w = fits_way t walk pa leaf o.0 (ways_of t walk pa leaf loads stores o.0) x o.1 in
    let number : x slots.Op ≡ op_number o.0 = w.3.op in
    let base = (and_parts (in_word (code_at t pa) o.0 slots.Op (x slots.Op) && all_tests t leaf vars.Op (x slots.Op)) _ (w.3.each slots.Op)).0 in
    let here : first_domain t pa leaf o.0 slots.Op (x slots.Op) ≡ true = ap (λ (b : Bool). b && all_tests t leaf vars.Op (x slots.Op)) (sym (in_first (code_at t pa) o.0 (x slots.Op))) ∙ base in
    let there : is_allowed t pa leaf o.0 ≡ true = subst (λ (n : ℕ). first_domain t pa leaf o.0 slots.Op n ≡ true) number here in
    let op_is : o.0 ≡ op_numbered (x slots.Op) = sym (ap op_numbered number ∙ op_back o.0) in
    subst (λ (q : Op). is_allowed t pa leaf q ≡ true) op_is there

-- ORDER
number_back : (t : Turn) (walk : List Entry) (pa : ℕ) (leaf : List Atom) (loads stores : List EntryRow) (x : Values) → Fits (leaf_cases t walk pa leaf loads stores) x → x slots.Op ≡ op_number (op_numbered (x slots.Op))
number_back t walk pa leaf loads stores x f =
    let o = one_of t walk pa leaf (ways_of t walk pa leaf loads stores) OPS x f in
    let w = fits_way t walk pa leaf o.0 (ways_of t walk pa leaf loads stores o.0) x o.1 in
    w.3.op ∙ ap op_number (sym (ap op_numbered w.3.op ∙ op_back o.0))

before_from : (t : Turn) (pa : ℕ) (leaf : List Atom) (draws : List ℕ) (p : Problem) (x y : Values) → HasDraws draws p → AreFirsts t pa leaf p → is_allowed t pa leaf (op_numbered (x slots.Op)) ≡ true → x slots.Op ≡ op_number (op_numbered (x slots.Op))
    → Precedes t pa leaf draws x y → ComesBeforeIn p x y
before_from t pa leaf draws p x y has firsts allowed number b =
    let s : Slot = b.0 in
    let pivot : pivot_of p (x slots.Op) s ≡ leaf_pivot t pa leaf draws (op_numbered (x slots.Op)) s =
    ap (λ (n : ℕ). pivot_of p n s) number ∙ pivots_are_exact t pa leaf draws p has firsts (op_numbered (x slots.Op)) allowed s in
    before_by p x y s b.1 (subst (λ (n : ℕ). rank n (x s) < rank n (y s)) (sym pivot) b.2)

pub turn_answers_are_exact : TurnAnswersAreExact
turn_answers_are_exact t walk pa leaf pages loads stores draws p nodes answer posed h l s is a =
    let law = leaf_problems_are_exact t walk pa leaf pages loads stores posed h l s in
    answers_moved (space p) (leaf_space t pa leaf) nodes (ComesBeforeIn p) (Precedes t pa leaf draws) (IsCandidate t leaf) (key_of t leaf) (new_places t.fixed t.known) answer
    (space_is_exact t pa leaf p is.no_fetch is.pairs is.firsts)
    (λ one v two w before.
    let o = law.onto one v in
    let fit : Fits (leaf_cases t walk pa leaf loads stores) (key_of t leaf one v) = subst (λ (z : Values). Fits (leaf_cases t walk pa leaf loads stores) z) (fun_ext o.3) o.1 in
    before_from t pa leaf draws p (key_of t leaf one v) (key_of t leaf two w) is.draws_are is.firsts (fitting_allowed t walk pa leaf loads stores (key_of t leaf one v) fit)
    (number_back t walk pa leaf loads stores (key_of t leaf one v) fit) before)
    (leaf_answers_are_exact t walk pa leaf pages loads stores p nodes answer posed h l s is.cases a)
