-- What a script does rests on what it is told alone.
use Rattle.std.proofs.Common.{◌≡◌, ℕ, List, ◌∷◌, Option, Some, refl, sym, ap, ◌∙◌, inl, inr}
use Rattle.rv_script.specs.declared.access.Access.{Access}
use Rattle.rv_script.specs.declared.place.Place.{Place}
use Rattle.rv_script.specs.Lists.{HasItem}
use Rattle.rv_script.specs.Script.{Question, Question.OfRegister, Question.OfCsr, Question.OfMemory, Question.ToMemory, role_of, place_of, told, access_of, Script, Script.Ask, Script.Outside, Script.Done}
use Rattle.rv_script.specs.Folds.{Entry, Sight, asked_of, result_of, on_note, accesses_of, needs_of}
use Rattle.rv_script.specs.Laws.{IsSeenAlike, IsSame, LocalLaw}
use Rattle.rv_script.proofs.Parts.{part_same}

-- an access rests on what is told alone
access_told : (q : Question) (v w : ℕ) → told q w ≡ told q v → access_of q w ≡ access_of q v
access_told (OfRegister label n) v w e = refl
access_told (OfCsr label addr) v w e = refl
access_told (OfMemory label addr size) v w e = ap (λ (n : ℕ). Some (record { role = role_of label; addr = addr; size = size; value = n })) e
access_told (ToMemory addr size value) v w e = refl

-- the same is told at each question, so the same is done
pub told_same : {A : Type 0} (s : Script A) (see other : Sight)
    → ((e : Entry) → HasItem (asked_of s see) e → told e.question (other e.question) ≡ told e.question e.value)
    → IsSame s see other
told_same (Ask q next) see other same =
    let e : told q (other q) ≡ told q (see q) = same (record { question = q; value = see q }) (inl refl) in
    let ih = told_same (next (told q (see q))) see other (λ f h. same f (inr h)) in
    record {
      result = ap (λ (v : ℕ). result_of (next v) other) e ∙ ih.result;
      accesses = ap (λ (v : ℕ). on_note (access_of q (other q)) (accesses_of (next v) other)) e
          ∙ ap (λ (o : Option Access). on_note o (accesses_of (next (told q (see q))) other)) (access_told q (see q) (other q) e)
          ∙ ap (λ (xs : List Access). on_note (access_of q (see q)) xs) ih.accesses;
      needs = ap (λ (v : ℕ). place_of q ∷ needs_of (next v) other) e ∙ ap (λ (ps : List Place). place_of q ∷ ps) ih.needs;
    }
told_same Outside see other same = record { result = refl; accesses = refl; needs = refl }
told_same (Done a) see other same = record { result = refl; accesses = refl; needs = refl }

-- bytes that are the same tell the same
alike_told : (q : Question) (v w : ℕ) → IsSeenAlike q v w → told q w ≡ told q v
alike_told (OfRegister label n) v w alike = alike
alike_told (OfCsr label addr) v w alike = alike
alike_told (OfMemory label addr size) v w alike = part_same (record { role = role_of label; addr = addr; size = size; value = 0 }) size w v refl alike.1 alike.0 alike.2
alike_told (ToMemory addr size value) v w alike = refl

-- each entry has the value that is seen
pub seen_value : {A : Type 0} (s : Script A) (see : Sight) (e : Entry) → HasItem (asked_of s see) e → e.value ≡ see e.question
seen_value (Ask q next) see e h = elim h [
  | inl here ↦ ap (λ (f : Entry). f.value) (sym here) ∙ ap (λ (f : Entry). see f.question) here
  | inr there ↦ seen_value (next (told q (see q))) see e there
]
seen_value Outside see e h = absurd h
seen_value (Done a) see e h = absurd h

pub local : {A : Type 0} (s : Script A) → LocalLaw s
local s see other alike = told_same s see other (λ e h. alike_told e.question e.value (other e.question) (alike e h))
