-- One script and then another.
use Rattle.std.proofs.Common.{◌≡◌, ℕ, List, [], ◌∷◌, ◌++◌, Option, Some, None, append_assoc, refl, sym, ap, ◌∙◌}
use Rattle.rv_script.specs.Script.{Question, place_of, told, Script, Script.Ask, Script.Outside, Script.Done, ◌>>=◌}
use Rattle.rv_script.specs.Folds.{Teller, Answer, Answer.Does, Answer.Missing, Answer.Nowhere, and_then, noted, on_told, play, prefixed}

pub prefixed_twice : {L A : Type 0} (xs ys : List L) (a : Answer L A) → prefixed xs (prefixed ys a) ≡ prefixed (xs ++ ys) a
prefixed_twice xs ys (Does zs a) = ap (λ ws. Does ws a) (sym (append_assoc xs ys zs))
prefixed_twice xs ys (Missing place) = refl
prefixed_twice xs ys Nowhere = refl

pub prefixed_then : {L A B : Type 0} (xs : List L) (a : Answer L A) (f : A → Answer L B) → prefixed xs (and_then a f) ≡ and_then (prefixed xs a) f
prefixed_then xs (Does ys a) f = prefixed_twice xs ys (f a)
prefixed_then xs (Missing place) f = refl
prefixed_then xs Nowhere f = refl

noted_then : {L A B : Type 0} (x : Option L) (a : Answer L A) (f : A → Answer L B) → noted x (and_then a f) ≡ and_then (noted x a) f
noted_then None a f = refl
noted_then (Some x) a f = prefixed_then (x ∷ []) a f

none_before : {L B : Type 0} (a : Answer L B) → prefixed [] a ≡ a
none_before (Does ys b) = refl
none_before (Missing place) = refl
none_before Nowhere = refl

pub bound : {L A B : Type 0} (note : Question → ℕ → Option L) (s : Script A) (next : A → Script B) (tell : Teller) → play note tell (s >>= next) ≡ and_then (play note tell s) (λ a. play note tell (next a))
bound note Outside next tell = refl
bound note (Done a) next tell = sym (none_before (play note tell (next a)))
bound {L} {A} {B} note (Ask q more) next tell = here (tell q) (λ v. bound note (more (told q v)) next tell)
  where
    here : (t : Option ℕ) → ((v : ℕ) → play note tell (more (told q v) >>= next) ≡ and_then (play note tell (more (told q v))) (λ a. play note tell (next a)))
        → on_told t (place_of q) (λ v. noted (note q v) (play note tell (more (told q v) >>= next))) ≡ and_then (on_told t (place_of q) (λ v. noted (note q v) (play note tell (more (told q v))))) (λ a. play note tell (next a))
    here None rest = refl
    here (Some v) rest = ap (noted (note q v)) (rest v) ∙ noted_then (note q v) (play note tell (more (told q v))) (λ a. play note tell (next a))
