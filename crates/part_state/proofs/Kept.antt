-- What a part keeps, change by change.
use Rattle.std.proofs.Common.{◌≡◌, ℕ, List, [], ◌∷◌, ◌++◌, reverse, sym, ap, ◌∙◌, subst, ◌/◌, false, Option, Some, None, refl}
use Rattle.std.specs.Option.{is_some}
use Rattle.rv_mem.specs.declared.words.Seen.{Seen}
use Rattle.rv_mem.specs.declared.words.Seen.TheVariants.{Untouched}
use Rattle.rv_mem.specs.Seen.{known_word}
use Rattle.std.proofs.lemmas.List.{reverse-append}
use Rattle.tpl_admit.specs.declared.dropped.Dropped.{Dropped}
use Rattle.part_machine.specs.declared.entry.Entry.{Entry}
use Rattle.part_machine.specs.declared.entry.Entry.TheVariants.{Choice, Wish}
use Rattle.part_machine.specs.Whole.{Whole, given, named, chosen, with_dropped}
use Rattle.part_machine.specs.Undo.{undone}
use Rattle.part_state.specs.Meaning.{IsTest}
use Rattle.part_state.specs.Internal.Parts.{AreTests}
use Rattle.part_machine.proofs.ButLast.{but_last_append}

reversed : (log : List Entry) (e : Entry) → reverse (log ++ e ∷ []) ≡ e ∷ reverse log
reversed log e = reverse-append log (e ∷ [])

pub tests_on : (log log' : List Entry) (e : Entry) (old new : Whole) → log' ≡ log ++ e ∷ [] → undone e new ≡ old → IsTest new → AreTests (reverse log) old → AreTests (reverse log') new
tests_on log log' e old new is back here rest =
    subst (λ (es : List Entry). AreTests es new) (sym (ap reverse is ∙ reversed log e)) (here, subst (λ (w : Whole). AreTests (reverse log) w) (sym back) rest)

pub tests_popped : (log es : List Entry) (e : Entry) (w w' : Whole) → log ≡ es ++ e ∷ [] → w' ≡ undone e w → AreTests (reverse log) w → AreTests (reverse es) w'
tests_popped log es e w w' same back tests =
    subst (λ (v : Whole). AreTests (reverse es) v) (sym back) (subst (λ (l : List Entry). AreTests l w) (ap reverse same ∙ reversed es e) tests).1

pub now_test : (log : List Entry) (w : Whole) → AreTests log w → IsTest w
now_test [] w t = t
now_test (e ∷ es) w t = t.0

-- names, choices and dropped biases are no matter
pub test_named : (name value : ℕ) (w : Whole) → IsTest w → IsTest (named name value w)
test_named name value w test = record { first = test.first; traces = test.traces; fit_first = test.fit_first; fit = test.fit; number_first = test.number_first; number = test.number; there = test.there; small = test.small; test = test.test; foot = test.foot }

pub test_chosen : (way : ℕ) (w : Whole) → IsTest w → IsTest (chosen way w)
test_chosen way w test = record { first = test.first; traces = test.traces; fit_first = test.fit_first; fit = test.fit; number_first = test.number_first; number = test.number; there = test.there; small = test.small; test = test.test; foot = test.foot }

pub test_dropped : (d : Dropped) (w : Whole) → IsTest w → IsTest (with_dropped d w)
test_dropped d w test = record { first = test.first; traces = test.traces; fit_first = test.fit_first; fit = test.fit; number_first = test.number_first; number = test.number; there = test.there; small = test.small; test = test.test; foot = test.foot }

pub choice_back : (way : ℕ) (w : Whole) → undone Choice (chosen way w) ≡ w
choice_back way w = ap (λ (ns : List ℕ). let v : Whole = record w { choices = ns } in v) (but_last_append w.choices way)

pub wish_back : (d : Dropped) (w : Whole) → undone Wish (with_dropped d w) ≡ w
wish_back d w = ap (λ (ds : List Dropped). let v : Whole = record w { dropped = ds } in v) (but_last_append w.dropped d)

-- an untouched word was not given
pub word_fresh : (addr : ℕ) (w : Whole) → IsTest w → w.memory (addr / 4) ≡ Untouched → given w.words (addr / 4) ≡ None
word_fresh addr w test untouched = go (given w.words (addr / 4)) (sym (test.test.known (addr / 4)) ∙ ap (λ (s : Seen). is_some (known_word s)) untouched)
  where
    go : (o : Option ℕ) → is_some o ≡ false → o ≡ None
    go None e = refl
    go (Some v) e = absurd (cc e)

pub fresh_now : (log : List Entry) (addr : ℕ) (w : Whole) → AreTests log w → w.memory (addr / 4) ≡ Untouched → given w.words (addr / 4) ≡ None
fresh_now log addr w tests untouched = word_fresh addr w (now_test log w tests) untouched
