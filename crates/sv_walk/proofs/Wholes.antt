-- A translation asks for words of memory alone.
use Rattle.std.proofs.Common.{◌≡◌, ℕ, ◌/◌, Bool, true, false, ◌||◌, Option, if◌then◌else◌, refl, sym, ap, ◌∙◌}
use Rattle.std.proofs.Math.Path.{fun_ext}
use Rattle.rv_mem.specs.declared.words.Seen.{Seen}
use Rattle.rv_script.specs.declared.access.Access.{Access}
use Rattle.rv_script.specs.declared.place.Place.{Place}
use Rattle.rv_script.specs.declared.place.Place.TheVariants.{Word}
use Rattle.rv_script.specs.Bytes.{word_address}
use Rattle.rv_script.specs.Script.{Question, Question.OfRegister, Question.OfCsr, Question.OfMemory, Question.ToMemory, told, access_of, Script, Script.Ask, Script.Outside, Script.Done}
use Rattle.rv_script.specs.Folds.{Known, by_known, Answer, answer_on, noted, on_told}
use Rattle.rv_script.specs.Laws.{Extends}
use Rattle.sv_walk.specs.declared.entry.Kind.{Kind}
use Rattle.sv_walk.specs.declared.entry.View.{View}
use Rattle.sv_walk.specs.Entry.{is_invalid, is_pointer, is_reserved, is_unaligned, is_closed}
use Rattle.sv_walk.specs.Translation.{is_in_ram, is_translated, root_address, second_address, from_pointer, from_root, translated}
use Rattle.sv_walk.specs.Clauses.{KnowsWords, HasWords, known_words, sight_of}

-- all that a script asks for is words of memory
abbrev IsOfMemory : {A : Type 0} → Script A → Type 0
IsOfMemory (Ask (OfMemory label addr size) next) = (v : ℕ) → IsOfMemory (next v)
IsOfMemory (Ask (OfRegister label n) next) = ⊥
IsOfMemory (Ask (OfCsr label addr) next) = ⊥
IsOfMemory (Ask (ToMemory addr size value) next) = ⊥
IsOfMemory Outside = Unit {0}
IsOfMemory (Done a) = Unit {0}

-- such a script answers alike wherever the same words are known
same_words : {A : Type 0} (s : Script A) (known other : Known) → IsOfMemory s → ((addr : ℕ) → known (Word addr) ≡ other (Word addr)) → answer_on known s ≡ answer_on other s
same_words {A} (Ask (OfMemory label addr size) next) known other is same =
    let place : Place = Word (word_address addr) in
    let q : Question = OfMemory label addr size in
    ap (λ (f : ℕ → Answer Access A). on_told (known place) place f) (fun_ext (λ v. ap (λ (a : Answer Access A). noted (access_of q v) a) (same_words (next (told q v)) known other (is (told q v)) same)))
    ∙ ap (λ (o : Option ℕ). on_told o place (λ v. noted (access_of q v) (answer_on other (next (told q v))))) (same (word_address addr))
same_words (Ask (OfRegister label n) next) known other is same = absurd is
same_words (Ask (OfCsr label addr) next) known other is same = absurd is
same_words (Ask (ToMemory addr size value) next) known other is same = absurd is
same_words Outside known other is same = refl
same_words (Done a) known other is same = refl

chosen : {A : Type 0} (b : Bool) (s t : Script A) → IsOfMemory s → IsOfMemory t → IsOfMemory (if b then s else t)
chosen true s t one two = one
chosen false s t one two = two

pointer_of_memory : (ram : ℕ → Bool) (v : View) (kind : Kind) (va entry : ℕ) → IsOfMemory (from_pointer ram v kind va entry)
unfolding from_pointer
pointer_of_memory ram v kind va entry = chosen (is_in_ram ram (second_address va entry)) _ _ (λ n. tt) tt

root_of_memory : (ram : ℕ → Bool) (v : View) (kind : Kind) (va entry : ℕ) → IsOfMemory (from_root ram v kind va entry)
unfolding from_root
root_of_memory ram v kind va entry =
    chosen (is_invalid entry) _ _ tt
    (chosen (is_pointer entry) _ _ (chosen (is_reserved entry) _ _ tt (pointer_of_memory ram v kind va entry)) (chosen (is_unaligned entry || is_closed v kind entry) _ _ tt tt))

translated_of_memory : (ram : ℕ → Bool) (v : View) (kind : Kind) (va : ℕ) → IsOfMemory (translated ram v kind va)
unfolding translated
translated_of_memory ram v kind va =
    chosen (is_translated v) _ _ (chosen (is_in_ram ram (root_address v va)) _ _ (λ root. root_of_memory ram v kind va root) tt) tt

pub answered : (at : ℕ → Seen) (ram : ℕ → Bool) (v : View) (kind : Kind) (va : ℕ) (known : Known) → KnowsWords known at
    → answer_on (known_words at) (translated ram v kind va) ≡ answer_on known (translated ram v kind va)
answered at ram v kind va known knows = same_words (translated ram v kind va) (known_words at) known (translated_of_memory ram v kind va) (λ addr. sym (knows addr))

-- a whole memory has what is known
pub extends : (at : ℕ → Seen) (words : ℕ → ℕ) → HasWords at words → Extends (by_known (known_words at)) (sight_of words)
extends at words has (OfRegister label n) v e = absurd (cc e)
extends at words has (OfCsr label addr) v e = absurd (cc e)
extends at words has (OfMemory label addr size) v e = has (word_address addr / 4) v e
extends at words has (ToMemory addr size value) v e = has (word_address addr / 4) v e
