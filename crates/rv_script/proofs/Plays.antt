-- A step does the same where it is told the same.
use Rattle.std.proofs.Common.{◌≡◌, ℕ, suc, ◌<◌, ◌≤◌, true, false, eqb, List, [], ◌∷◌, Option, Some, None, refl, sym, ap, ◌∙◌, subst, inl, inr, arith}
use Rattle.std.proofs.lemmas.Bool.{eq-eqb, eqb-true, cases_Bool, ne_eqb, ltb-true}
use Rattle.rv_script.specs.declared.place.Place.{Place}
use Rattle.rv_script.specs.declared.place.Place.TheVariants.{Reg, Csr, Word}
use Rattle.rv_script.specs.Lists.{HasItem}
use Rattle.rv_script.specs.Script.{Label, Question, Question.OfRegister, Question.OfCsr, Question.OfMemory, Question.ToMemory, place_of, told as told_of, Script, Script.Ask, Script.Outside, Script.Done, ◌>>=◌}
use Rattle.rv_script.specs.Folds.{Known, Teller, Answer, Answer.Does, Answer.Missing, Answer.Nowhere, prefixed, and_then, on_told, Entry, entry_of}
use Rattle.rv_script.proofs.Binds.{bound}
use Rattle.rv_script.specs.Labels.{label_of, label_number, question_number, Between, is_apt}
use Rattle.rv_script.specs.Logs.{is_register, same_place, entry_place, entry_label, answer_told, found, labelled, value_or, or_given, by_answers, answer}

abbrev pub entry : Question → ℕ → Entry
entry q v = record { question = q; value = v }

-- a question before an answer
abbrev pub after : {A : Type 0} → Entry → Answer Entry A → Answer Entry A
after e r = prefixed (e ∷ []) r

-- an answer that is done was noted from one that is done
pub after_done : {A : Type 0} (e : Entry) (r : Answer Entry A) (log : List Entry) (a : A) → after e r ≡ Does log a → (rest : List Entry) × (r ≡ Does rest a) × (log ≡ e ∷ rest)
after_done e (Does rest b) log a h = (rest, cc, cc)
after_done e (Missing q) log a h = absurd (cc)
after_done e Nowhere log a h = absurd (cc)

-- what is told at a question that was answered
pub asked_done : {A : Type 0} (o : Option ℕ) (q : Question) (next : ℕ → Answer Entry A) (log : List Entry) (a : A)
    → on_told o (place_of q) (λ v. after (entry q v) (next v)) ≡ Does log a → (v : ℕ) × (rest : List Entry) × (o ≡ Some v) × (next v ≡ Does rest a) × (log ≡ entry q v ∷ rest)
asked_done None q next log a h = absurd (cc)
asked_done (Some v) q next log a h = let d = after_done (entry q v) (next v) log a h in (v, d.0, refl, d.1, d.2)

-- what was asked first, and what is done after it
pub first_asked : {A : Type 0} (q : Question) (next : ℕ → Script A) (t : Teller) (log : List Entry) (a : A) → answer_told t (Ask q next) ≡ Does log a
    → (v : ℕ) × (rest : List Entry) × (t q ≡ Some v) × (answer_told t (next (told_of q v)) ≡ Does rest a) × (log ≡ entry q v ∷ rest)
first_asked q next t log a h = asked_done (t q) q (λ v. answer_told t (next (told_of q v))) log a h

-- every answer in the log was told
pub told : {A : Type 0} (s : Script A) (t : Teller) (log : List Entry) (a : A) → answer_told t s ≡ Does log a → (e : Entry) → HasItem log e → t e.question ≡ Some e.value
told (Ask q next) t log a h e i =
    let d = first_asked q next t log a h in
    elim (subst (λ (z : List Entry). HasItem z e) d.4 i) [
      | inl here ↦ subst (λ (z : Entry). t z.question ≡ Some z.value) here d.2
      | inr there ↦ told (next (told_of q d.0)) t d.1 a d.3 e there
    ]
told Outside t log a h e i = absurd (cc)
told (Done b) t log a h e i = let g : log ≡ [] = cc in absurd (subst (λ (z : List Entry). HasItem z e) g i)

-- who tells the same at the questions of the log gets the same step
pub play_same : {A : Type 0} (s : Script A) (t t' : Teller) (log : List Entry) (a : A) → answer_told t s ≡ Does log a
    → ((e : Entry) → HasItem log e → t' e.question ≡ Some e.value) → answer_told t' s ≡ Does log a
play_same {A} (Ask q next) t t' log a h same =
    let d = first_asked q next t log a h in
    let here : t' q ≡ Some d.0 = same (entry q d.0) (subst (λ (z : List Entry). HasItem z (entry q d.0)) (sym d.4) (inl refl)) in
    let ih : answer_told t' (next (told_of q d.0)) ≡ Does d.1 a = play_same (next (told_of q d.0)) t t' d.1 a d.3 (λ e i. same e (subst (λ (z : List Entry). HasItem z e) (sym d.4) (inr i))) in
    ap (λ (o : Option ℕ). on_told o (place_of q) (λ v. after (entry q v) (answer_told t' (next (told_of q v))))) here
    ∙ ap (λ (r : Answer Entry A). after (entry q d.0) r) ih ∙ ap (λ (z : List Entry). Does z a) (sym d.4)
play_same Outside t t' log a h same = absurd (cc)
play_same (Done b) t t' log a h same = h

-- PLACES
pub same_refl : (q : Place) → same_place q q ≡ true
same_refl (Reg r) = eq-eqb r r refl
same_refl (Csr r) = eq-eqb r r refl
same_refl (Word r) = eq-eqb r r refl

pub same_is : (q r : Place) → same_place q r ≡ true → q ≡ r
same_is (Reg r) (Reg s) h = ap (λ (n : ℕ). Reg n) (eqb-true r s h)
same_is (Csr r) (Csr s) h = ap (λ (n : ℕ). Csr n) (eqb-true r s h)
same_is (Word r) (Word s) h = ap (λ (n : ℕ). Word n) (eqb-true r s h)
same_is (Reg r) (Csr s) h = absurd (cc)
same_is (Reg r) (Word s) h = absurd (cc)
same_is (Csr r) (Reg s) h = absurd (cc)
same_is (Csr r) (Word s) h = absurd (cc)
same_is (Word r) (Reg s) h = absurd (cc)
same_is (Word r) (Csr s) h = absurd (cc)

-- what a log says of a place of its own
pub found_one : (log : List Entry) (e : Entry) → HasItem log e → (f : Entry) × HasItem log f × (entry_place f ≡ entry_place e) × (found log (entry_place e) ≡ Some f.value)
found_one [] e i = absurd i
found_one (g ∷ log) e i = elim (cases_Bool (same_place (entry_place g) (entry_place e))) [
  | inl y ↦ (g, inl refl, same_is (entry_place g) (entry_place e) y, rw y refl)
  | inr n ↦ elim i [
    | inl here ↦ absurd (let h : same_place (entry_place g) (entry_place e) ≡ true = subst (λ (z : Entry). same_place (entry_place g) (entry_place z) ≡ true) here (same_refl (entry_place g)) in cc)
    | inr there ↦ let r = found_one log e there in (r.0, inr r.1, r.2, rw n r.3)
  ]
]

-- LABELS
pub numbers_within : {A : Type 0} (n m : ℕ) (s : Script A) (t : Teller) (log : List Entry) (a : A) → Between n m s → answer_told t s ≡ Does log a → (e : Entry) → HasItem log e → (n ≤ question_number e.question) × (question_number e.question < m)
numbers_within n m (Ask q next) t log a up h e i =
    let d = first_asked q next t log a h in
    elim (subst (λ (z : List Entry). HasItem z e) d.4 i) [
      | inl here ↦ subst (λ (z : Entry). (n ≤ question_number z.question) × (question_number z.question < m)) here (up.0, up.1)
      | inr there ↦ let k = numbers_within (suc (question_number q)) m (next (told_of q d.0)) t d.1 a (up.3 (told_of q d.0)) d.3 e there in (omega (arith, up.0, k.0), k.1)
    ]
numbers_within n m Outside t log a up h e i = absurd (cc)
numbers_within n m (Done b) t log a up h e i = let g : log ≡ [] = cc in absurd (subst (λ (z : List Entry). HasItem z e) g i)

pub apt_within : {A : Type 0} (n m : ℕ) (s : Script A) (t : Teller) (log : List Entry) (a : A) → Between n m s → answer_told t s ≡ Does log a → (e : Entry) → HasItem log e → is_apt e.question ≡ true
apt_within n m (Ask q next) t log a up h e i =
    let d = first_asked q next t log a h in
    elim (subst (λ (z : List Entry). HasItem z e) d.4 i) [
      | inl here ↦ subst (λ (z : Entry). is_apt z.question ≡ true) here up.2
      | inr there ↦ apt_within (suc (question_number q)) m (next (told_of q d.0)) t d.1 a (up.3 (told_of q d.0)) d.3 e there
    ]
apt_within n m Outside t log a up h e i = absurd (cc)
apt_within n m (Done b) t log a up h e i = let g : log ≡ [] = cc in absurd (subst (λ (z : List Entry). HasItem z e) g i)

late_question : (q : Question) → is_apt q ≡ true → 5 ≤ question_number q → is_register (place_of q) ≡ false
late_question (OfRegister label n) h late = let k = ltb-true (label_number label) 5 h in absurd (omega (arith, k, late))
late_question (OfCsr label addr) h late = refl
late_question (OfMemory label addr size) h late = refl
late_question (ToMemory addr size value) h late = refl

-- what is asked from the CSR on is no register
pub no_register : {A : Type 0} (m : ℕ) (s : Script A) (t : Teller) (log : List Entry) (a : A) → Between 5 m s → answer_told t s ≡ Does log a → (e : Entry) → HasItem log e → is_register (entry_place e) ≡ false
no_register m s t log a up h e i = late_question e.question (apt_within 5 m s t log a up h e i) (numbers_within 5 m s t log a up h e i).0

-- each question has one answer
pub labelled_one : {A : Type 0} (n m : ℕ) (s : Script A) (t : Teller) (log : List Entry) (a : A) → Between n m s → answer_told t s ≡ Does log a → (e : Entry) → HasItem log e → labelled log (entry_label e) ≡ Some e
labelled_one n m (Ask q next) t log a up h e i =
    let d = first_asked q next t log a h in
    rw d.4 (elim (subst (λ (z : List Entry). HasItem z e) d.4 i) [
      | inl here ↦ rw (eq-eqb (question_number q) (question_number e.question) (ap (λ (z : Entry). question_number z.question) here)) (ap (λ (z : Entry). Some z) here)
      | inr there ↦
          let k = numbers_within (suc (question_number q)) m (next (told_of q d.0)) t d.1 a (up.3 (told_of q d.0)) d.3 e there in
          let no : eqb (question_number q) (question_number e.question) ≡ false = ne_eqb (question_number q) (question_number e.question) (λ same. omega (arith, same, k.0)) in
          rw no (labelled_one (suc (question_number q)) m (next (told_of q d.0)) t d.1 a (up.3 (told_of q d.0)) d.3 e there)
    ])
labelled_one n m Outside t log a up h e i = absurd (cc)
labelled_one n m (Done b) t log a up h e i = let g : log ≡ [] = cc in absurd (subst (λ (z : List Entry). HasItem z e) g i)

pub no_label : (log : List Entry) (label : Label) (n : ℕ) → ((e : Entry) → HasItem log e → n ≤ question_number e.question) → label_number label < n → labelled log label ≡ None
no_label [] label n h less = refl
no_label (e ∷ log) label n h less =
    let no : eqb (question_number e.question) (label_number label) ≡ false = ne_eqb (question_number e.question) (label_number label) (λ same. let k = h e (inl refl) in omega (arith, k, less, same)) in
    rw no (no_label log label n (λ f i. h f (inr i)) less)

pub lower : {A : Type 0} (n k m : ℕ) (s : Script A) → k ≤ n → Between n m s → Between k m s
lower n k m (Ask q next) h a = (omega (arith, h, a.0), a.1, a.2, a.3)
lower n k m Outside h a = tt
lower n k m (Done b) h a = tt

pub higher : {A : Type 0} (n m l : ℕ) (s : Script A) → m ≤ l → Between n m s → Between n l s
higher n m l (Ask q next) h a = (a.0, omega (arith, h, a.1), a.2, λ v. higher (suc (question_number q)) m l (next v) h (a.3 v))
higher n m l Outside h a = tt
higher n m l (Done b) h a = tt

-- one script and then another
pub between_then : {A B : Type 0} (n m l : ℕ) (s : Script A) (f : A → Script B) → Between n m s → m ≤ l → n ≤ m → ((a : A) → Between m l (f a)) → Between n l (s >>= f)
between_then n m l (Ask q next) f a h k b = (a.0, omega (arith, h, a.1), a.2, λ v. between_then (suc (question_number q)) m l (next v) f (a.3 v) h (omega (arith, a.1)) b)
between_then n m l Outside f a h k b = tt
between_then n m l (Done c) f a h k b = lower m n l (f c) k (b c)

-- ANSWERS
pub given_is : (o : Option ℕ) (v : ℕ) → or_given o v ≡ Some (value_or o v)
given_is (Some w) v = refl
given_is None v = refl

-- a question is answered
pub asks : {A : Type 0} (known : Known) (given : Label → ℕ) (q : Question) (next : ℕ → Script A)
    → answer_told (by_answers known given) (Ask q next) ≡ after (answer known given q) (answer_told (by_answers known given) (next (told_of q (value_or (known (place_of q)) (given (label_of q))))))
asks known given q next = ap (λ (o : Option ℕ). on_told o (place_of q) (λ v. after (entry q v) (answer_told (by_answers known given) (next (told_of q v))))) (given_is (known (place_of q)) (given (label_of q)))

-- what one script gives goes on in another
pub goes_on : {A B : Type 0} (s : Script A) (f : A → Script B) (t : Teller) (log : List Entry) (a : A) → answer_told t s ≡ Does log a → answer_told t (s >>= f) ≡ prefixed log (answer_told t (f a))
goes_on {A} {B} s f t log a h = bound entry_of s f t ∙ ap (λ (r : Answer Entry A). and_then r (λ b. answer_told t (f b))) h
