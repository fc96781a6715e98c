-- From what is known to whole harts.
use Rattle.std.proofs.Common.{◌≡◌, ℕ, List, [], ◌∷◌, map, Option, Some, None, refl, sym, ap, ◌∙◌, subst, inl, inr}
use Rattle.std.specs.Option.{IsSome, option_or, unwrap_or}
use Rattle.std.proofs.Math.Path.{fun_ext}
use Rattle.rv_script.specs.declared.access.Access.{Access}
use Rattle.rv_script.specs.declared.place.Place.{Place}
use Rattle.rv_script.specs.Script.{Label, Label.FetchRoot, Question, Question.OfRegister, Question.OfCsr, Question.OfMemory, Question.ToMemory, place_of, told, access_of, Script.Ask, Script.Done}
use Rattle.rv_script.specs.Bytes.{word_address}
use Rattle.rv_script.specs.Lists.{HasItem}
use Rattle.rv_script.specs.Folds.{Known, Teller, by_known, Answer, Answer.Does, Entry, Sight, asked_of, result_of, accesses_of, or_next, first_missing, answer_by}
use Rattle.rv_script.specs.Laws.{Extends, IsSeenAlike}
use Rattle.rv_script.proofs.Wholes.{whole}
use Rattle.rv_script.proofs.Local.{local, seen_value, told_same}
use Rattle.rv_hart.specs.declared.record.Change.{Change}
use Rattle.rv_hart.specs.declared.record.Record.{Record}
use Rattle.rv_hart.specs.declared.record.Stepped.{Stepped}
use Rattle.rv_hart.specs.declared.record.Stepped.TheVariants.{Did, Missing, Outside}
use Rattle.rv_hart.specs.Fixed.{Fixed}
use Rattle.rv_hart.specs.Machine.{script}
use Rattle.rv_hart.specs.Sighted.{no_sights, sighted, sighted_for, told_with, seen_with, answer_seen, step_seen_of}
use Rattle.rv_hart.specs.Whole.{WholeHart, sight_of, record_of, Step, planned, sighted_step_of, step_by}
use Rattle.rv_hart.specs.View.{shown}
use Rattle.rv_hart.specs.Clauses.{Has, stepped_by, IsMachineStepWith, zero_filled, IsAlike, IsLocalStepWith, IsSightless, ToldAreTaken, TrueSightsShowTheStep}

shown_by : (f : Fixed) (missing : Option Place) (xs : List Access) (o : Option Change) → shown f (answer_by missing xs o) ≡ stepped_by missing (planned f xs o)
shown_by f (Some place) xs o = refl
shown_by f None xs None = refl
shown_by f None xs (Some c) = refl

-- what is told with sights is what is seen with them
extends_with : (sights : Teller) (known : Known) (see : Sight) → Extends (by_known known) see → Extends (told_with sights known) (seen_with sights see)
extends_with sights known see extends q v e = go (sights q) (known (place_of q)) (see q) (extends q v) e
  where
    go : (o p : Option ℕ) (w : ℕ) → (p ≡ Some v → w ≡ v) → option_or o p ≡ Some v → unwrap_or o w ≡ v
    go None p w h e = h e
    go (Some u) p w h e = cc e

-- the answer on what is known is that of a whole hart and memory that have it
on_whole : (sights : Teller) (f : Fixed) (known : Known) (h : WholeHart) (words : ℕ → ℕ) → Has f known h words
    → answer_seen sights known (script f)
    ≡ answer_by (first_missing (told_with sights known) (asked_of (script f) (seen_with sights (sight_of h.file words)))) (accesses_of (script f) (seen_with sights (sight_of h.file words))) (result_of (script f) (seen_with sights (sight_of h.file words)))
on_whole sights f known h words has =
    whole access_of (script f) (told_with sights known) (seen_with sights (sight_of h.file words)) (extends_with sights known (sight_of h.file words) (λ q v t. has.values (place_of q) v t))

pub machine_step : (sights : Teller) (f : Fixed) (known : Known) (result : Stepped) → result ≡ shown f (answer_seen sights known (script f)) → IsMachineStepWith sights f known result
machine_step sights f known result e h words has =
    let see : Sight = seen_with sights (sight_of h.file words) in
    let tell : Teller = told_with sights known in
    let on_f : result ≡ stepped_by (first_missing tell (asked_of (script f) see)) (sighted_step_of f see) =
    e ∙ ap (λ (a : Answer Access Change). shown f a) (on_whole sights f known h words has) ∙ shown_by f (first_missing tell (asked_of (script f) see)) (accesses_of (script f) see) (result_of (script f) see) in
    subst (λ (g : Fixed). result ≡ stepped_by (first_missing tell (asked_of (script g) see)) (sighted_step_of g see)) (sym has.fixed) on_f

filled_extends : (tell : Teller) → Extends tell (zero_filled tell)
filled_extends tell q v e = rw e refl

-- the same is told of a question that sees the same
alike_told : (q : Question) (v w : ℕ) → IsSeenAlike q v w → told q w ≡ told q v
alike_told q v w alike = some_same (local (Ask q (λ n. Done n)) (λ r. v) (λ r. w) (λ e h. elim h [ inl here ↦ from_entry e here | inr none ↦ absurd none ])).result
  where
    some_same : {a b : ℕ} → Some a ≡ Some b → a ≡ b
    some_same e = cc

    from_entry : (e : Entry) → record { question = q; value = v } ≡ e → IsSeenAlike e.question e.value w
    from_entry e here = subst (λ (d : Entry). IsSeenAlike d.question d.value w) here alike

-- the same is told with sights
alike_with : (sights : Teller) (known : Known) (see : Sight) (e : Entry) → e.value ≡ zero_filled (told_with sights known) e.question → IsAlike (sights e.question) e.question e.value (see e.question)
    → told e.question (seen_with sights see e.question) ≡ told e.question e.value
alike_with sights known see e is alike = go (sights e.question) (known (place_of e.question)) is alike
  where
    go : (o p : Option ℕ) → e.value ≡ unwrap_or (option_or o p) 0 → IsAlike o e.question e.value (see e.question) → told e.question (unwrap_or o (see e.question)) ≡ told e.question e.value
    go (Some w) p is alike = ap (told e.question) (sym is)
    go None p is alike = alike_told e.question e.value (see e.question) alike

-- what was done shows that nothing was missing
did : (f : Fixed) (missing : Option Place) (xs : List Access) (o : Option Change) (r : Record) → Did r ≡ shown f (answer_by missing xs o) → (c : Change) × (o ≡ Some c) × (record_of f xs c ≡ r)
did f (Some place) xs o r e = absurd cc
did f None xs None r e = absurd cc
did f None xs (Some c) r e = (c, refl, cc)

pub local_step : (sights : Teller) (f : Fixed) (known : Known) (result : Stepped) → result ≡ shown f (answer_seen sights known (script f)) → IsLocalStepWith sights f known result
local_step sights f known (Did r) e =
    let tell : Teller = told_with sights known in
    let zero : Sight = zero_filled tell in
    let w = whole access_of (script f) tell zero (filled_extends tell) in
    let d = did f (first_missing tell (asked_of (script f) zero)) (accesses_of (script f) zero) (result_of (script f) zero) r (e ∙ ap (λ (a : Answer Access Change). shown f a) w) in
    let s : Step = step_by f (accesses_of (script f) zero) d.0 in (
      s,
      d.2,
      λ h words fixed alike.
          let see : Sight = seen_with sights (sight_of h.file words) in
          let same = told_same (script f) zero see (λ x item. alike_with sights known (sight_of h.file words) x (seen_value (script f) zero x item) (alike x item)) in
          let on_f : sighted_step_of f see ≡ Some s =
          ap (λ (xs : List Access). planned f xs (result_of (script f) see)) same.accesses ∙ ap (λ (o : Option Change). planned f (accesses_of (script f) zero) o) (same.result ∙ d.1) in
          subst (λ (g : Fixed). sighted_step_of g see ≡ Some s) (sym fixed) on_f,
    )
local_step sights f known (Missing place) e = tt
local_step sights f known Outside e = tt

-- ---- a step of which the answer is known

does : {A : Type 0} (missing : Option Place) (xs ys : List Access) (o : Option A) (a : A) → Does xs a ≡ answer_by missing ys o → (missing ≡ None) × (ys ≡ xs) × (o ≡ Some a)
does (Some place) xs ys o a e = absurd cc
does None xs ys None a e = absurd cc
does None xs ys (Some b) a e = (refl, cc, cc)

none_missing : (tell : Teller) (log : List Entry) → first_missing tell log ≡ None → (place : Place) → HasItem (map (λ (e : Entry). place_of e.question) log) place
    → (e : Entry) × (place_of e.question ≡ place) × IsSome (tell e.question)
none_missing tell [] none place h = absurd h
none_missing tell (e ∷ log) none place h = go (tell e.question) refl (none_missing tell log) none
  where
    go : (o : Option ℕ) → tell e.question ≡ o
        → (first_missing tell log ≡ None → (p : Place) → HasItem (map (λ (d : Entry). place_of d.question) log) p → (f : Entry) × (place_of f.question ≡ p) × IsSome (tell f.question))
        → or_next o (place_of e.question) (first_missing tell log) ≡ None → (f : Entry) × (place_of f.question ≡ place) × IsSome (tell f.question)
    go None is later none = absurd cc
    go (Some v) is later none = elim h [
      | inl here ↦ (e, here, subst IsSome (sym is) refl)
      | inr there ↦ later none place there
    ]

-- what is told is what each whole hart and memory that have what is known do, and nothing is missing
pub record Told (sights : Teller) (f : Fixed) (known : Known) (h : WholeHart) (words : ℕ → ℕ) (xs : List Access) (c : Change) : Type 0 where
  pub step : step_seen_of sights h words ≡ Some (step_by f xs c)
  pub missing : first_missing (told_with sights known) (asked_of (script f) (seen_with sights (sight_of h.file words))) ≡ None

pub told_by : (sights : Teller) (f : Fixed) (known : Known) (h : WholeHart) (words : ℕ → ℕ) (xs : List Access) (c : Change) → Has f known h words → answer_seen sights known (script f) ≡ Does xs c
    → Told sights f known h words xs c
told_by sights f known h words xs c has answered =
    let see : Sight = seen_with sights (sight_of h.file words) in
    let d = does (first_missing (told_with sights known) (asked_of (script f) see)) xs (accesses_of (script f) see) (result_of (script f) see) c (sym answered ∙ on_whole sights f known h words has) in
    let on_f : sighted_step_of f see ≡ Some (step_by f xs c) = ap (λ (ys : List Access). planned f ys (result_of (script f) see)) d.1 ∙ ap (λ (o : Option Change). planned f xs o) d.2 in
    record { step = subst (λ (g : Fixed). sighted_step_of g see ≡ Some (step_by f xs c)) (sym has.fixed) on_f; missing = d.0 }

pub takes : ToldAreTaken
takes f known h words xs c has answered =
    let see : Sight = sight_of h.file words in
    let t = told_by no_sights f known h words xs c has answered in
    record {
      step = t.step;
      needs = λ place asks.
          let on : HasItem (map (λ (e : Entry). place_of e.question) (asked_of (script f) see)) place = subst (λ (g : Fixed). HasItem (map (λ (e : Entry). place_of e.question) (asked_of (script g) see)) place) has.fixed asks in
          let n = none_missing (by_known known) (asked_of (script f) see) t.missing place on in
          subst (λ (p : Place). IsSome (known p)) n.1 n.2;
    }

-- ---- no sights

no_word : (label : Label) (addr : ℕ) → sighted_for label (λ role a. None) addr ≡ None
no_word FetchRoot addr = refl
no_word _ addr = refl

pub none_sighted : sighted (λ role addr. None) ≡ no_sights
none_sighted = fun_ext each
  where
    each : (q : Question) → sighted (λ role addr. None) q ≡ no_sights q
    each (OfMemory label addr size) = no_word label (word_address addr)
    each (OfRegister label n) = refl
    each (OfCsr label addr) = refl
    each (ToMemory addr size value) = refl

pub sightless : IsSightless
sightless h words = ap (λ (sights : Teller). step_seen_of sights h words) none_sighted

-- a sight that is what is seen anyway
true_sight : (o : Option ℕ) (w : ℕ) → ((v : ℕ) → o ≡ Some v → w ≡ v) → unwrap_or o w ≡ w
true_sight None w h = refl
true_sight (Some v) w h = sym (h v refl)

pub true_sights : TrueSightsShowTheStep
true_sights sights h words shows = ap (λ (see : Sight). sighted_step_of h.fixed see) (fun_ext (λ q. true_sight (sights q) (sight_of h.file words q) (shows q)))
