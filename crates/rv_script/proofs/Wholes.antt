-- From what is known to whole states, and to more.
use Rattle.std.proofs.Common.{◌≡◌, ℕ, List, Option, Some, None, refl, ap, ◌∙◌}
use Rattle.rv_script.specs.declared.place.Place.{Place}
use Rattle.rv_script.specs.Script.{Question, place_of, told, Script, Script.Ask, Script.Outside, Script.Done}
use Rattle.rv_script.specs.Folds.{Answer, Answer.Does, Answer.Missing, Answer.Nowhere, noted, on_told, play, asked_of, result_of, on_note, notes_of, or_next, first_missing, answer_by}
use Rattle.rv_script.specs.Laws.{WholeLaw, MoreLaw}

noted_by : {L A : Type 0} (note : Option L) (missing : Option Place) (notes : List L) (result : Option A) → noted note (answer_by missing notes result) ≡ answer_by missing (on_note note notes) result
noted_by None missing notes result = refl
noted_by (Some x) (Some place) notes result = refl
noted_by (Some x) None notes None = refl
noted_by (Some x) None notes (Some a) = refl

asked : {L A : Type 0} (o : Option ℕ) (place : Place) (next : ℕ → Answer L A) (missing : Option Place) (notes : List L) (result : Option A)
    → ((v : ℕ) → o ≡ Some v → next v ≡ answer_by missing notes result) → on_told o place next ≡ answer_by (or_next o place missing) notes result
asked None place next missing notes result h = refl
asked (Some v) place next missing notes result h = h v refl

pub whole : {L A : Type 0} (note : Question → ℕ → Option L) (s : Script A) → WholeLaw note s
whole note (Ask q next) tell see extends =
    asked (tell q) (place_of q) (λ v. noted (note q v) (play note tell (next (told q v)))) (first_missing tell (asked_of (next (told q (see q))) see))
    (on_note (note q (see q)) (notes_of note (asked_of (next (told q (see q))) see))) (result_of (next (told q (see q))) see)
    (λ v e. rw (extends q v e) (ap (λ y. noted (note q v) y) (whole note (next (told q v)) tell see extends)
    ∙ noted_by (note q v) (first_missing tell (asked_of (next (told q v)) see)) (notes_of note (asked_of (next (told q v)) see)) (result_of (next (told q v)) see)))
whole note Outside tell see extends = refl
whole note (Done a) tell see extends = refl

later : {L A : Type 0} (note : Option L) (y z : Answer L A) → ((notes : List L) (a : A) → y ≡ Does notes a → z ≡ Does notes a) → (notes : List L) (a : A) → noted note y ≡ Does notes a → noted note z ≡ Does notes a
later None y z h notes a e = h notes a e
later (Some x) (Does ys b) z h notes a e = rw (h ys b refl) e
later (Some x) (Missing place) z h notes a e = absurd cc
later (Some x) Nowhere z h notes a e = absurd cc

asked_more : {L A : Type 0} (o p : Option ℕ) (place : Place) (next more : ℕ → Answer L A) → ((v : ℕ) → o ≡ Some v → p ≡ Some v)
    → ((v : ℕ) (notes : List L) (a : A) → next v ≡ Does notes a → more v ≡ Does notes a) → (notes : List L) (a : A) → on_told o place next ≡ Does notes a → on_told p place more ≡ Does notes a
asked_more None p place next more told h notes a e = absurd cc
asked_more (Some v) p place next more told h notes a e = rw (told v refl) (h v notes a e)

pub more_known : {L A : Type 0} (note : Question → ℕ → Option L) (s : Script A) → MoreLaw note s
more_known note (Ask q next) tell more tells notes a e =
    asked_more (tell q) (more q) (place_of q) (λ v. noted (note q v) (play note tell (next (told q v)))) (λ v. noted (note q v) (play note more (next (told q v)))) (tells q)
    (λ v. later (note q v) (play note tell (next (told q v))) (play note more (next (told q v))) (more_known note (next (told q v)) tell more tells)) notes a e
more_known note Outside tell more tells notes a e = absurd cc
more_known note (Done b) tell more tells notes a e = e
