-- What holds of each question and of each result of a script.
use Rattle.std.proofs.Common.{◌≡◌, ℕ, List, [], ◌∷◌, Option, Some, None, refl, ap, subst, inl, inr}
use Rattle.std.specs.List.{AllByRecursion}
use Rattle.rv_script.specs.declared.place.Place.{Place}
use Rattle.rv_script.specs.Lists.{HasItem}
use Rattle.rv_script.specs.Script.{Question, place_of, told as told_of, Script, Script.Ask, Script.Outside, Script.Done, ◌>>=◌}
use Rattle.rv_script.specs.Folds.{Teller, Answer, Answer.Does, Answer.Missing, Answer.Nowhere, Entry, Sight, asked_of, noted, on_told, play}
use Rattle.rv_script.specs.Labels.{Asks}
use Rattle.rv_script.specs.Logs.{answer_told}
use Rattle.rv_script.proofs.Plays.{first_asked}

-- each result has the property
abbrev pub Ends : {A : Type 0} → (A → Type 0) → Script A → Type 0
Ends P (Ask q next) = (v : ℕ) → Ends P (next v)
Ends P Outside = Unit {0}
Ends P (Done a) = P a

pub ended : {A : Type 0} (P : A → Type 0) (s : Script A) (t : Teller) (log : List Entry) (a : A) → Ends P s → answer_told t s ≡ Does log a → P a
ended P (Ask q next) t log a up h = let d = first_asked q next t log a h in ended P (next (told_of q d.0)) t d.1 a (up (told_of q d.0)) d.3
ended P Outside t log a up h = absurd (cc)
ended P (Done b) t log a up h = let z : b ≡ a = cc in subst P z up

pub ends_then : {A B : Type 0} (P : B → Type 0) (s : Script A) (f : A → Script B) → ((a : A) → Ends P (f a)) → Ends P (s >>= f)
ends_then P (Ask q next) f h = λ v. ends_then P (next v) f h
ends_then P Outside f h = tt
ends_then P (Done a) f h = h a

pub asks_then : {A B : Type 0} (P : Question → Type 0) (s : Script A) (f : A → Script B) → Asks P s → ((a : A) → Asks P (f a)) → Asks P (s >>= f)
asks_then P (Ask q next) f h k = (h.0, λ v. asks_then P (next v) f (h.1 v) k)
asks_then P Outside f h k = tt
asks_then P (Done a) f h k = k a

-- so it is of all that is asked of a whole state
pub asks_of : {A : Type 0} (P : Question → Type 0) (s : Script A) (see : Sight) → Asks P s → (e : Entry) → HasItem (asked_of s see) e → P e.question
asks_of P (Ask q next) see h e i = elim i [
  | inl here ↦ subst (λ (z : Entry). P z.question) here h.0
  | inr there ↦ asks_of P (next (told_of q (see q))) see (h.1 (told_of q (see q))) e there
]
asks_of P Outside see h e i = absurd i
asks_of P (Done a) see h e i = absurd i

-- what follows a script may rest on what its results have
pub asks_then_ends : {A B : Type 0} (P : Question → Type 0) (Q : A → Type 0) (s : Script A) (f : A → Script B) → Asks P s → Ends Q s → ((a : A) → Q a → Asks P (f a)) → Asks P (s >>= f)
asks_then_ends P Q (Ask q next) f h up k = (h.0, λ v. asks_then_ends P Q (next v) f (h.1 v) (up v) k)
asks_then_ends P Q Outside f h up k = tt
asks_then_ends P Q (Done a) f h up k = k a up

-- ---- what is told, and what is missing

-- what is noted of each question that has the property
pub noted_all : {L A : Type 0} (P : Question → Type 0) (Q : L → Type 0) (note : Question → ℕ → Option L) (tell : Teller) → ((q : Question) (v : ℕ) (x : L) → P q → note q v ≡ Some x → Q x)
    → (s : Script A) → Asks P s → (xs : List L) (a : A) → play note tell s ≡ Does xs a → AllByRecursion Q xs
noted_all {L} {A} P Q note tell each (Ask q next) h xs a is = go (tell q) is (λ v ys e. noted_all P Q note tell each (next (told_of q v)) (h.1 (told_of q v)) ys a e) where
  one : (v : ℕ) (o : Option L) → note q v ≡ o → (r : Answer L A) → ((ys : List L) → r ≡ Does ys a → AllByRecursion Q ys) → noted o r ≡ Does xs a → AllByRecursion Q xs
  one v None e r rest is = rest xs is
  one v (Some x) e (Does ys b) rest is =
      let same : Does (x ∷ ys) b ≡ Does xs a = is in
      let list : x ∷ ys ≡ xs = cc same in
      let end : b ≡ a = cc same in
      subst (AllByRecursion Q) list (each q v x h.0 e, rest ys (ap (Does ys) end))
  one v (Some x) e (Missing place) rest is = absurd (cc is)
  one v (Some x) e Nowhere rest is = absurd (cc is)

  go : (o : Option ℕ) → on_told o (place_of q) (λ v. noted (note q v) (play note tell (next (told_of q v)))) ≡ Does xs a
      → ((v : ℕ) (ys : List L) → play note tell (next (told_of q v)) ≡ Does ys a → AllByRecursion Q ys) → AllByRecursion Q xs
  go None is rest = absurd (cc is)
  go (Some v) is rest = one v (note q v) refl (play note tell (next (told_of q v))) (rest v) is
noted_all P Q note tell each Outside h xs a is = absurd (cc is)
noted_all {L} P Q note tell each (Done b) h xs a is = let e : ◌≡◌ {A = List L} [] xs = cc is in subst (AllByRecursion Q) e tt

-- the place that is missing is that of a question that can't be told
pub record IsLacked (P : Question → Type 0) (tell : Teller) (place : Place) : Type 0 where
  pub question : Question
  pub asked : P question
  pub untold : tell question ≡ None
  pub at : place_of question ≡ place

pub lacked : {L A : Type 0} (P : Question → Type 0) (note : Question → ℕ → Option L) (tell : Teller) (s : Script A) → Asks P s → (place : Place) → play note tell s ≡ Missing place → IsLacked P tell place
lacked {L} {A} P note tell (Ask q next) h place is = go (tell q) refl is (λ v. lacked P note tell (next (told_of q v)) (h.1 (told_of q v)) place) where
  one : (o : Option L) (r : Answer L A) → (r ≡ Missing place → IsLacked P tell place) → noted o r ≡ Missing place → IsLacked P tell place
  one None r rest is = rest is
  one (Some x) (Does ys b) rest is = absurd (cc is)
  one (Some x) (Missing other) rest is = rest (let e : other ≡ place = cc is in ap (λ (p : Place). Missing p) e)
  one (Some x) Nowhere rest is = absurd (cc is)

  go : (o : Option ℕ) → tell q ≡ o → on_told o (place_of q) (λ v. noted (note q v) (play note tell (next (told_of q v)))) ≡ Missing place
      → ((v : ℕ) → play note tell (next (told_of q v)) ≡ Missing place → IsLacked P tell place) → IsLacked P tell place
  go None e is rest = record { question = q; asked = h.0; untold = e; at = cc is }
  go (Some v) e is rest = one (note q v) (play note tell (next (told_of q v))) (rest v) is
lacked P note tell Outside h place is = absurd (cc is)
lacked P note tell (Done b) h place is = absurd (cc is)
