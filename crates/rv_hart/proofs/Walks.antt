-- Walks that see the words of sights.
use Rattle.std.proofs.Common.{◌≡◌, ℕ, ◌*◌, ◌/◌, ◌^◌, Bool, true, false, ◌&&◌, ◌||◌, nat_lt, Option, Some, None, if◌then◌else◌, refl, sym, ap, ◌∙◌, arith}
use Rattle.std.specs.Option.{option_or}
use Rattle.std.proofs.Math.Path.{fun_ext}
use Rattle.rv_mem.specs.declared.words.Seen.{Seen}
use Rattle.rv_mem.specs.declared.words.Seen.TheVariants.{Known as KnownWord, Untouched, Vacant}
use Rattle.rv_mem.specs.Seen.{known_word, is_there}
use Rattle.rv_script.specs.declared.access.Access.{Access}
use Rattle.rv_script.specs.Bytes.{word_address}
use Rattle.rv_script.specs.Script.{Label, Question, Question.OfMemory, place_of, told, access_of, Script, Script.Ask, Script.Done}
use Rattle.rv_script.specs.Folds.{Known, Teller, Answer, answer_on, by_known, noted, on_told, play}
use Rattle.sv_walk.specs.declared.entry.Kind.{Kind}
use Rattle.sv_walk.specs.declared.entry.Kind.TheVariants.{Fetch, Load, Store}
use Rattle.sv_walk.specs.declared.entry.View.{View}
use Rattle.sv_walk.specs.declared.ending.Walk.{Walk}
use Rattle.sv_walk.specs.declared.ending.WalkEnd.{WalkEnd}
use Rattle.sv_walk.specs.declared.ending.WalkEnd.TheVariants.{Pa, Fault, Outside, Missing}
use Rattle.sv_walk.specs.Clauses.{IsEnd, IsWalk, KnowsWords, ended, known_words, ram_of}
use Rattle.sv_walk.specs.Entry.{is_invalid, is_pointer, is_reserved, is_unaligned, is_closed}
use Rattle.sv_walk.specs.Translation.{is_in_ram, is_translated, root_address, root_label, second_address, second_end, second_label, from_pointer, from_root, translated}
use Rattle.rv_hart.specs.Sighted.{answer_seen, at_role, seen_or, sighted, sighted_for, told_with, walk_role}

-- ---- a translation asks for entries in RAM alone

chosen : {A : Type 0} (b : Bool) (s t : Script A) (tell other : Teller) → (b ≡ true → play access_of tell s ≡ play access_of other s) → (b ≡ false → play access_of tell t ≡ play access_of other t)
    → play access_of tell (if b then s else t) ≡ play access_of other (if b then s else t)
chosen true s t tell other f g = f refl
chosen false s t tell other f g = g refl

asked : {A : Type 0} (q : Question) (next : ℕ → Script A) (tell other : Teller) → tell q ≡ other q → ((v : ℕ) → play access_of tell (next v) ≡ play access_of other (next v))
    → play access_of tell (Ask q next) ≡ play access_of other (Ask q next)
asked {A} q next tell other same rest =
    ap (λ (f : ℕ → Answer Access A). on_told (tell q) (place_of q) f) (fun_ext (λ v. ap (λ (a : Answer Access A). noted (access_of q v) a) (rest (told q v))))
    ∙ ap (λ (o : Option ℕ). on_told o (place_of q) (λ v. noted (access_of q v) (play access_of other (next (told q v))))) same

-- the same is told of each entry with this label that lies in RAM
abbrev TellAlike : (ℕ → Bool) → Label → Teller → Teller → Type 0
TellAlike ram label tell other = (addr : ℕ) → is_in_ram ram addr ≡ true → tell (OfMemory label addr 4) ≡ other (OfMemory label addr 4)

pointer_alike : (ram : ℕ → Bool) (v : View) (kind : Kind) (va entry : ℕ) (tell other : Teller) → TellAlike ram (second_label kind) tell other
    → play access_of tell (from_pointer ram v kind va entry) ≡ play access_of other (from_pointer ram v kind va entry)
unfolding from_pointer
pointer_alike ram v kind va entry tell other second =
    let addr = second_address va entry in
    chosen (is_in_ram ram addr) _ _ tell other (λ there. asked (OfMemory (second_label kind) addr 4) (λ n. Done (second_end ram v kind va n)) tell other (second addr there) (λ n. refl)) (λ none. refl)

root_alike : (ram : ℕ → Bool) (v : View) (kind : Kind) (va entry : ℕ) (tell other : Teller) → TellAlike ram (second_label kind) tell other
    → play access_of tell (from_root ram v kind va entry) ≡ play access_of other (from_root ram v kind va entry)
unfolding from_root
root_alike ram v kind va entry tell other second =
    chosen (is_invalid entry) _ _ tell other (λ e. refl)
    (λ e. chosen (is_pointer entry) _ _ tell other (λ e. chosen (is_reserved entry) _ _ tell other (λ e. refl) (λ e. pointer_alike ram v kind va entry tell other second))
    (λ e. chosen (is_unaligned entry || is_closed v kind entry) _ _ tell other (λ e. refl) (λ e. refl)))

translated_alike : (ram : ℕ → Bool) (v : View) (kind : Kind) (va : ℕ) (tell other : Teller) → TellAlike ram (root_label kind) tell other → TellAlike ram (second_label kind) tell other
    → play access_of tell (translated ram v kind va) ≡ play access_of other (translated ram v kind va)
unfolding translated
translated_alike ram v kind va tell other root second =
    let addr = root_address v va in
    chosen (is_translated v) _ _ tell other
    (λ e. chosen (is_in_ram ram addr) _ _ tell other (λ there. asked (OfMemory (root_label kind) addr 4) (λ n. from_root ram v kind va n) tell other (root addr there) (λ n. root_alike ram v kind va n tell other second)) (λ none. refl))
    (λ e. refl)

-- ---- memory as a role sees it

there_or : (o : Option ℕ) (s : Seen) → is_there (seen_or o s) ≡ is_there s
there_or None (KnownWord w) = refl
there_or None Untouched = refl
there_or None Vacant = refl
there_or (Some v) (KnownWord w) = refl
there_or (Some v) Untouched = refl
there_or (Some v) Vacant = refl

known_or : (o : Option ℕ) (s : Seen) → is_there s ≡ true → known_word (seen_or o s) ≡ option_or o (known_word s)
known_or None (KnownWord w) there = refl
known_or None Untouched there = refl
known_or (Some v) (KnownWord w) there = refl
known_or (Some v) Untouched there = refl
known_or o Vacant there = absurd (cc there)

untouched_or : (o : Option ℕ) (s : Seen) → seen_or o s ≡ Untouched → s ≡ Untouched
untouched_or None (KnownWord w) e = absurd (cc e)
untouched_or None Untouched e = refl
untouched_or None Vacant e = absurd (cc e)
untouched_or (Some v) (KnownWord w) e = absurd (cc e)
untouched_or (Some v) Untouched e = refl
untouched_or (Some v) Vacant e = absurd (cc e)

second_true : (a b : Bool) → (a && b) ≡ true → b ≡ true
second_true true b e = e
second_true false b e = absurd (cc e)

-- what is told of an entry of this label is what the role sees
entry_alike : (words : ℕ → ℕ → Option ℕ) (role : ℕ) (at : ℕ → Seen) (k : Known) (label : Label) → ((addr : ℕ) → sighted_for label words addr ≡ words role addr) → KnowsWords k at
    → TellAlike (ram_of at) label (by_known (known_words (at_role words role at))) (told_with (sighted words) k)
entry_alike words role at k label is knows addr ram =
    let a : ℕ = word_address addr in
    let number : a / 4 * 4 ≡ a = omega arith in
    let same : a / 4 ≡ addr / 4 = omega arith in
    let there : is_there (at (a / 4)) ≡ true = ap (λ (n : ℕ). is_there (at n)) same ∙ second_true (nat_lt addr (2 ^ 32)) (is_there (at (addr / 4))) ram in
    ap (λ (n : ℕ). known_word (seen_or (words role n) (at (a / 4)))) number
    ∙ known_or (words role a) (at (a / 4)) there
    ∙ ap (λ (o : Option ℕ). option_or o (known_word (at (a / 4)))) (sym (is a))
    ∙ ap (λ (o : Option ℕ). option_or (sighted_for label words a) o) (sym (knows a))

root_role : (words : ℕ → ℕ → Option ℕ) (kind : Kind) (addr : ℕ) → sighted_for (root_label kind) words addr ≡ words (walk_role kind) addr
root_role words Fetch addr = refl
root_role words Load addr = refl
root_role words Store addr = refl

second_role : (words : ℕ → ℕ → Option ℕ) (kind : Kind) (addr : ℕ) → sighted_for (second_label kind) words addr ≡ words (walk_role kind) addr
second_role words Fetch addr = refl
second_role words Load addr = refl
second_role words Store addr = refl

-- ---- the walk

-- a walk over memory as its role sees it is the translation with sights
pub walk_seen : (words : ℕ → ℕ → Option ℕ) (at : ℕ → Seen) (v : View) (kind : Kind) (va : ℕ) (w : Walk) → IsWalk (at_role words (walk_role kind) at) v kind va w → (k : Known) → KnowsWords k at
    → ended w.ptes w.outcome ≡ answer_seen (sighted words) k (translated (ram_of at) v kind va)
walk_seen words at v kind va w is k knows =
    let seen : ℕ → Seen = at_role words (walk_role kind) at in
    is (known_words seen) (λ addr. refl)
    ∙ ap (λ (ram : ℕ → Bool). answer_on (known_words seen) (translated ram v kind va)) (fun_ext (λ n. there_or (words (walk_role kind) (n * 4)) (at n)))
    ∙ translated_alike (ram_of at) v kind va (by_known (known_words seen)) (told_with (sighted words) k)
    (entry_alike words (walk_role kind) at k (root_label kind) (root_role words kind) knows)
    (entry_alike words (walk_role kind) at k (second_label kind) (second_role words kind) knows)

pub end_seen : (words : ℕ → ℕ → Option ℕ) (role : ℕ) (at : ℕ → Seen) (end : WalkEnd) → IsEnd (at_role words role at) end → IsEnd at end
end_seen words role at (Pa addr) there = sym (there_or (words role (addr / 4 * 4)) (at (addr / 4))) ∙ there
end_seen words role at (Missing addr) e = (e.0, untouched_or (words role (addr / 4 * 4)) (at (addr / 4)) e.1)
end_seen words role at (Fault cause) e = tt
end_seen words role at Outside e = tt
