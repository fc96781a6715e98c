-- A step on a test to which places were given, played on what was known before and on what it starts.
use Rattle.std.specs.Option.{unwrap_or}
use Rattle.std.proofs.Common.{◌≡◌, ℕ, ◌<◌, List, length, Option, Some, None, refl, sym, ap, ◌∙◌, arith}
use Rattle.rv_script.specs.declared.access.Access.{Access}
use Rattle.rv_script.specs.declared.place.Place.{Place}
use Rattle.rv_script.specs.Script.{access_of, Script}
use Rattle.rv_script.specs.Folds.{Known, Teller, Answer.Does, Entry, Sight, answer_by, asked_of, by_known, entry_of, first_missing, notes_of, play, result_of}
use Rattle.rv_script.specs.Laws.{Extends}
use Rattle.rv_script.specs.Logs.{answer_told, enlarged, entry_place, found, or_else, started, where_unknown}
use Rattle.rv_script.proofs.Plays.{found_one, play_same, told}
use Rattle.rv_script.proofs.Wholes.{whole}
use Rattle.rv_hart.specs.declared.record.Change.{Change}
use Rattle.rv_hart.specs.Clauses.{zero_filled}
use Rattle.rv_hart.specs.Fixed.{Fixed}
use Rattle.rv_hart.specs.Machine.{script}
use Rattle.foot_map.specs.declared.touch.Touch.{Touch}
use Rattle.part_machine.specs.Whole.{Whole, fixed_in, hart_of, next_of}
use Rattle.part_state.specs.Meaning.{IsTest}
use Rattle.leaf_link.specs.Candidates.{accesses_in}
use Rattle.turn_laws.specs.Given.{CanGive, Setting, all_given, given_to, known_at}
use Rattle.turn_laws.specs.Back.{IsOfCandidate}
use Rattle.turn_laws.proofs.Places.{beside, fixed_parts, known, tests}
use Rattle.turn_laws.proofs.Steps.{register_known, tells, with_accesses}
use Rattle.turn_laws.proofs.Lacking.{AreTold, found_at}

-- ---- the log of a step that is done

done_by : {L A : Type 0} (missing : Option Place) (notes xs : List L) (result : Option A) (a : A) → answer_by missing notes result ≡ Does xs a → (missing ≡ None) × (result ≡ Some a)
done_by (Some place) notes xs result a h = absurd (cc)
done_by None notes xs None a h = absurd (cc)
done_by None notes xs (Some b) a h = (refl, cc)

same_notes : {L A : Type 0} (xs ys : List L) (a : A) → Does xs a ≡ Does ys a → xs ≡ ys
same_notes xs ys a h = cc

-- the converse of `with_accesses`
with_log : {A : Type 0} (s : Script A) (t : Teller) (xs : List Access) (a : A) → play access_of t s ≡ Does xs a → (log : List Entry) × (answer_told t s ≡ Does log a) × (xs ≡ accesses_in log)
with_log {A} s t xs a h =
    let see : Sight = zero_filled t in
    let extends : Extends t see = λ q v e. ap (λ (o : Option ℕ). unwrap_or o 0) e in
    let log : List Entry = notes_of entry_of (asked_of s see) in
    let d = done_by (first_missing t (asked_of s see)) (notes_of access_of (asked_of s see)) xs (result_of s see) a (sym (whole access_of s t see extends) ∙ h) in
    let plays : answer_told t s ≡ Does log a =
    whole entry_of s t see extends ∙ ap (λ (o : Option Place). answer_by o log (result_of s see)) d.0 ∙ ap (λ (o : Option A). answer_by None log o) d.1 in
    (log, plays, same_notes xs (accesses_in log) a (sym h ∙ with_accesses s t log a plays))

-- ---- what it is told, and what it starts

-- the value that a log says of a place was told there
first_told : (what : Known) (log : List Entry) → AreTold (by_known what) log → (place : Place) (v : ℕ) → found log place ≡ Some v → what place ≡ Some v
first_told what log are place v says =
    let e = found_at log place v says in
    let f = found_one log e.0 e.1 in
    ap what (sym (f.2 ∙ e.2)) ∙ are f.0 f.1 ∙ sym f.3 ∙ ap (found log) e.2 ∙ says

-- where a log is told on what is known and on given places, it is told on what is known and on what it starts
starts_enough : (old given : Known) (log : List Entry) → AreTold (by_known (enlarged old given)) log → AreTold (by_known (enlarged old (started old log))) log
starts_enough old given log are e i =
    let f = found_one log e i in
    go (old (entry_place e)) f.0.value (found log (entry_place e)) f.3 (are e i) (first_told (enlarged old given) log are (entry_place e) f.0.value f.3)
  where
    go : (o : Option ℕ) (v : ℕ) (says : Option ℕ) → says ≡ Some v → or_else o (given (entry_place e)) ≡ Some e.value → or_else o (given (entry_place e)) ≡ Some v → or_else o (where_unknown o says) ≡ Some e.value
    go (Some u) v says is told first = told
    go None v says is told first = is ∙ sym first ∙ told

-- and what it starts was given
starts_given : (old given : Known) (log : List Entry) → AreTold (by_known (enlarged old given)) log → (place : Place) (v : ℕ) → started old log place ≡ Some v → given place ≡ Some v
starts_given old given log are place v h = go (old place) h (first_told (enlarged old given) log are place v)
  where
    go : (o : Option ℕ) → where_unknown o (found log place) ≡ Some v → (found log place ≡ Some v → or_else o (given place) ≡ Some v) → given place ≡ Some v
    go (Some u) h first = absurd (cc)
    go None h first = first h

-- ---- the step

pub of_candidate : (s : Setting) (feet : List Touch) (k : ℕ) (w : Whole) (es : List (Place × ℕ)) (xs : List Access) (change : Change)
    → IsTest w → k < length w.harts → CanGive k es w → next_of k (all_given k es w) ≡ Does xs change → IsOfCandidate s feet k w es xs change
of_candidate s feet k w es xs change test l can next =
    let after : Whole = all_given k es w in
    let b = beside k es w in
    let fixed : Fixed = fixed_in (hart_of k w) w.memory in
    let old : Known = known_at k w in
    let now : Known = known_at k after in
    let some : Known = enlarged old (given_to es) in
    let same_script = ap (λ (f : Fixed). play access_of (by_known now) (script f)) (fixed_parts k es w test l can) in
    let d = with_log (script fixed) (by_known now) xs change (sym same_script ∙ next) in
    let log : List Entry = d.0 in
    let after_has : k < length after.harts = omega (arith, l, b.harts) in
    let more = tells now some (λ place named. sym (known k es w test l can place named)) (λ n v e. register_known k n v after ((tests k es w test l can).fit k after_has) e) in
    let are : AreTold (by_known some) log = λ e i. more e.question e.value (told (script fixed) (by_known now) log change d.1 e i) in
    let plays : answer_told (by_known (enlarged old (started old log))) (script fixed) ≡ Does log change = play_same (script fixed) (by_known now) (by_known (enlarged old (started old log))) log change d.1 (starts_enough old (given_to es) log are) in
    record {
      log = log;
      accesses = d.2;
      told = d.1;
      plays = plays;
      given = starts_given old (given_to es) log are;
      candidate = λ leaf i meets. record { instr = i; log = log; change = change; is = record { plays = plays; exact = λ place. refl; meets = meets } };
      fault = λ causes meets. record { log = log; change = change; plays = plays; exact = λ place. refl; meets = meets };
    }
