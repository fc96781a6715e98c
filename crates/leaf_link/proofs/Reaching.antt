-- Loads and stores: what their rests do, by the rows of their addresses.
use Rattle.std.proofs.Common.{◌≡◌, ℕ, if◌then◌else◌, ◌<◌, ◌≤◌, ◌||◌, not, Bool, true, false, eqb, List, [], ◌∷◌, ◌++◌, map, Option, Some, None, refl, sym, ap, ◌∙◌, subst, inl, inr, arith}
use Rattle.std.proofs.lemmas.Bool.{cases_Bool}
use Rattle.rv_script.specs.declared.place.Place.{Place}
use Rattle.rv_script.specs.Lists.{HasItem}
use Rattle.rv_script.specs.Script.{Label, Label.FetchRoot, Label.FetchSecond, Label.Fetched, Label.FromRs1, Label.FromRs2, Label.FromCsr, Label.DataRoot, Label.DataSecond, Label.DataWord, Label.FromVector, Question, Question.OfRegister, Question.OfCsr, Question.OfMemory, Question.ToMemory, Script, ◌>>=◌}
use Rattle.rv_script.specs.Folds.{Known, Teller, Answer, Answer.Does, Answer.Missing, Answer.Nowhere, and_then, Entry, entry_of}
use Rattle.rv_script.proofs.Binds.{bound}
use Rattle.sv_walk.specs.declared.entry.Kind.{Kind}
use Rattle.sv_walk.specs.Translation.{Reached, translated, root_label, second_label}
use Rattle.addr_rows.specs.Walks.{entry_answers}
use Rattle.rv_hart.specs.Machine.{data_view}
use Rattle.fd_prob.specs.declared.slot.Slot.TheVariants as slots
use Rattle.rv_script.specs.Labels.{label_number, question_number}
use Rattle.rv_script.specs.Logs.{same_place, entry_place, entry_label, answer_told, labelled, or_given, by_answers, Coherent}
use Rattle.leaf_link.specs.Turns.{Turn}
use Rattle.leaf_link.specs.Values.{Values, given_by}
use Rattle.leaf_link.specs.Cases.{is_some_word}
use Rattle.rv_script.proofs.Plays.{no_label, numbers_within, play_same, same_is, same_refl, told}
use Rattle.rv_script.proofs.Items.{has_either}
use Rattle.sv_walk.proofs.Orders.{translated_between}
use Rattle.leaf_link.proofs.Front.{label_past, prefixed_done}
use Rattle.leaf_link.proofs.Resting.{in_one, is_write}

-- SCRIPTS ONE AFTER ANOTHER
pub then_done : {A B : Type 0} (s : Script A) (f : A → Script B) (t : Teller) (log : List Entry) (b : B) → answer_told t (s >>= f) ≡ Does log b
    → (first : List Entry) × (a : A) × (second : List Entry) × (answer_told t s ≡ Does first a) × (answer_told t (f a) ≡ Does second b) × (log ≡ first ++ second)
then_done {A} {B} s f t log b h = go (answer_told t s) refl (sym (bound entry_of s f t) ∙ h)
  where
    go : (r : Answer Entry A) → answer_told t s ≡ r → and_then r (λ a. answer_told t (f a)) ≡ Does log b
        → (first : List Entry) × (a : A) × (second : List Entry) × (answer_told t s ≡ Does first a) × (answer_told t (f a) ≡ Does second b) × (log ≡ first ++ second)
    go (Does first a) e k = let d = prefixed_done first (answer_told t (f a)) log b k in (first, a, d.0, e, d.1, d.2)
    go (Missing q) e k = absurd (cc)
    go Nowhere e k = absurd (cc)

-- THE WALK OF THE DATA
pub record HasLabels (kind : Kind) : Type 0 where
  pub root : label_number (root_label kind) ≡ 6
  pub second : label_number (second_label kind) ≡ 7

pub same_given : (x : Values) (l : Label) → 6 ≤ label_number l → label_number l < 8 → given_by x l ≡ entry_answers (x slots.FirstPte) (x slots.SecondPte) l
same_given x DataRoot h k = refl
same_given x DataSecond h k = refl
same_given x FetchRoot h k = absurd (omega (arith, h))
same_given x FetchSecond h k = absurd (omega (arith, h))
same_given x Fetched h k = absurd (omega (arith, h))
same_given x FromRs1 h k = absurd (omega (arith, h))
same_given x FromRs2 h k = absurd (omega (arith, h))
same_given x FromCsr h k = absurd (omega (arith, h))
same_given x DataWord h k = absurd (omega (arith, k))
same_given x FromVector h k = absurd (omega (arith, k))

abbrev pub data_script : Turn → Kind → Values → Script Reached
data_script t kind x = translated t.fixed.ram (data_view t.fixed) kind (x slots.Ea)

pub walk_numbers : (t : Turn) (kind : Kind) (x : Values) (tell : Teller) (log : List Entry) (end : Reached) → HasLabels kind → answer_told tell (data_script t kind x) ≡ Does log end
    → (e : Entry) → HasItem log e → (6 ≤ question_number e.question) × (question_number e.question < 8)
walk_numbers t kind x tell log end l h e i = numbers_within 6 8 (data_script t kind x) tell log end (translated_between 6 t.fixed.ram (data_view t.fixed) kind (x slots.Ea) l.root l.second) h e i

-- the two tellers give the same walk
pub by_values : (t : Turn) (kind : Kind) (x : Values) (log : List Entry) (end : Reached) → HasLabels kind
    → answer_told (by_answers t.known (entry_answers (x slots.FirstPte) (x slots.SecondPte))) (data_script t kind x) ≡ Does log end → answer_told (by_answers t.known (given_by x)) (data_script t kind x) ≡ Does log end
by_values t kind x log end l h =
    let other : Teller = by_answers t.known (entry_answers (x slots.FirstPte) (x slots.SecondPte)) in
    play_same (data_script t kind x) other (by_answers t.known (given_by x)) log end h (λ e i.
    let n = walk_numbers t kind x other log end l h e i in
    ap (λ (v : ℕ). or_given (t.known (entry_place e)) v) (same_given x (entry_label e) n.0 n.1) ∙ told (data_script t kind x) other log end h e i)

pub by_entries : (t : Turn) (kind : Kind) (x : Values) (log : List Entry) (end : Reached) → HasLabels kind
    → answer_told (by_answers t.known (given_by x)) (data_script t kind x) ≡ Does log end → answer_told (by_answers t.known (entry_answers (x slots.FirstPte) (x slots.SecondPte))) (data_script t kind x) ≡ Does log end
by_entries t kind x log end l h =
    let tell : Teller = by_answers t.known (given_by x) in
    play_same (data_script t kind x) tell (by_answers t.known (entry_answers (x slots.FirstPte) (x slots.SecondPte))) log end h (λ e i.
    let n = walk_numbers t kind x tell log end l h e i in
    ap (λ (v : ℕ). or_given (t.known (entry_place e)) v) (sym (same_given x (entry_label e) n.0 n.1)) ∙ told (data_script t kind x) tell log end h e i)

pub early_write : (q : Question) → question_number q < 8 → is_write q ≡ false
early_write (OfRegister label n) h = refl
early_write (OfCsr label addr) h = refl
early_write (OfMemory label addr size) h = refl
early_write (ToMemory addr size value) h = absurd (omega (arith, h))

-- LISTS
pub in_map : {A B : Type 0} (f : A → B) (xs : List A) (y : B) → HasItem (map f xs) y → (x : A) × HasItem xs x × (f x ≡ y)
in_map f [] y i = absurd i
in_map f (x ∷ xs) y i = elim i [
  | inl h ↦ (x, inl refl, h)
  | inr j ↦ let r = in_map f xs y j in (r.0, inr r.1, r.2)
]

pub map_in : {A B : Type 0} (f : A → B) (xs : List A) (x : A) → HasItem xs x → HasItem (map f xs) (f x)
map_in f [] x i = absurd i
map_in f (y ∷ xs) x i = elim i [ inl h ↦ inl (ap f h) | inr j ↦ inr (map_in f xs x j) ]

-- a label that the last entry has not
pub label_before : (xs : List Entry) (e : Entry) (l : Label) → eqb (question_number e.question) (label_number l) ≡ false → labelled (xs ++ e ∷ []) l ≡ labelled xs l
label_before [] e l h = ap (λ (b : Bool). if b then Some e else None) h
label_before (x ∷ xs) e l h = elim (cases_Bool (eqb (question_number x.question) (label_number l))) [
  | inl y ↦ rw y refl
  | inr n ↦ rw n (label_before xs e l h)
]

pub label_last : (xs : List Entry) (e : Entry) (l : Label) → ((d : Entry) → HasItem xs d → question_number d.question < 8) → 8 ≤ label_number l → eqb (question_number e.question) (label_number l) ≡ true → labelled (xs ++ e ∷ []) l ≡ Some e
label_last xs e l h k y = label_past xs (e ∷ []) l (λ d i. let n = h d i in omega (arith, n, k)) ∙ ap (λ (b : Bool). if b then Some e else None) y

pub label_none : (xs : List Entry) (e : Entry) (l : Label) → ((d : Entry) → HasItem xs d → 6 ≤ question_number d.question) → 6 ≤ question_number e.question → label_number l < 6 → labelled (xs ++ e ∷ []) l ≡ None
label_none xs e l h k less = no_label (xs ++ e ∷ []) l 6 (λ d i. elim (has_either xs (e ∷ []) d i) [
  | inl j ↦ h d j
  | inr j ↦ subst (λ (z : Entry). 6 ≤ question_number z.question) (in_one e d j) k
]) less

pub label_neither : (xs : List Entry) (e : Entry) (l : Label) → ((d : Entry) → HasItem xs d → question_number d.question < 8) → 8 ≤ label_number l → eqb (question_number e.question) (label_number l) ≡ false → labelled (xs ++ e ∷ []) l ≡ None
label_neither xs e l h k n = label_past xs (e ∷ []) l (λ d i. let m = h d i in omega (arith, m, k)) ∙ ap (λ (b : Bool). if b then Some e else None) n

-- one more entry behind
pub coherent_behind : (k : Known) (xs : List Entry) (e : Entry) → Coherent k xs → ((d : Entry) → HasItem xs d → k (entry_place d) ≡ None → entry_place d ≡ entry_place e → ⊥) → Coherent k (xs ++ e ∷ [])
coherent_behind k xs e co apart c d i j none q = elim (has_either xs (e ∷ []) c i) [
  | inl a ↦ elim (has_either xs (e ∷ []) d j) [
    | inl b ↦ co c d a b none q
    | inr b ↦ absurd (apart c a none (q ∙ sym (ap (λ (z : Entry). entry_place z) (in_one e d b))))
  ]
  | inr a ↦ elim (has_either xs (e ∷ []) d j) [
    | inl b ↦ let p : entry_place d ≡ entry_place e = sym q ∙ sym (ap (λ (z : Entry). entry_place z) (in_one e c a)) in absurd (apart d b (ap k (sym q) ∙ none) p)
    | inr b ↦ let s : c ≡ d = sym (in_one e c a) ∙ in_one e d b in (λ w. ap (λ (z : Entry). entry_label z) s, ap (λ (z : Entry). z.value) s)
  ]
]

-- the test that a place is another one than a new one
pub not_same : (o : Option ℕ) (q r : Place) → (is_some_word o || not (same_place q r)) ≡ true → o ≡ None → q ≡ r → ⊥
not_same (Some v) q r h n e = cc
not_same None q r h n e = let y : same_place q r ≡ true = subst (λ (z : Place). same_place q z ≡ true) e (same_refl q) in let z : not true ≡ true = subst (λ (b : Bool). not b ≡ true) y h in cc

pub same_not : (o : Option ℕ) (q r : Place) → (o ≡ None → q ≡ r → ⊥) → (is_some_word o || not (same_place q r)) ≡ true
same_not (Some v) q r h = refl
same_not None q r h = elim (cases_Bool (same_place q r)) [
  | inl y ↦ absurd (h refl (same_is q r y))
  | inr n ↦ ap not n
]
