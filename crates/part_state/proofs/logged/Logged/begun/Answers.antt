use Rattle.std.proofs.Common.{◌≡◌, ℕ, ◌+◌, ◌<◌, List, ◌∷◌, [], length, map, get_or, drop, reverse, refl, sym, ap, ◌∙◌, subst}
use Rattle.std.proofs.lemmas.List.{drop_more, drop_all}
use Rattle.part_machine.specs.declared.entry.Entry.{Entry}
use Rattle.part_machine.specs.Whole.{Whole, bare}
use Rattle.part_machine.specs.Undo.{whole_of, before, AreWithin}
use Rattle.part_state.specs.Beginning.{words_given, CanGive}
use Rattle.part_state.specs.Internal.Parts.{now_of, AreTests}
use Rattle.part_state.proofs.Begins.{can_give, fresh_new}
use Rattle.part_state.proofs.Kept.{now_test}
use Rattle.part_state.proofs.logged.Logged.begun.Goals as goal

-- the word of a turn, and those after it
split : (words : List (ℕ × ℕ)) (i : ℕ) → i < length words → drop i words ≡ get_or words i (0, 0) ∷ drop (i + 1) words
split words i within = drop_more words i (0, 0) within

turn : (words : List (ℕ × ℕ)) (i : ℕ) (w : Whole) → i < length words → CanGive (drop i words) w → CanGive (get_or words i (0, 0) ∷ drop (i + 1) words) w
turn words i w within can = subst (λ (es : List (ℕ × ℕ)). CanGive es w) (split words i within) can

pub loop-word-init : goal.loop-word-init
loop-word-init c = record {
  kept = c.in_ok-test.ensures.kept;
  rest = refl;
  can = can_give c.args.ram.now 0 c.args.words.now (now_of c.in_ok-test.test) c.requires.words (fresh_new (map bare c.args.harts.items) c.args.ram.now c.args.names (now_of c.in_ok-test.test) c.in_ok-test.ensures.now);
}

pub start_word-requires-clause-kept : goal.start_word-requires-clause-kept
start_word-requires-clause-kept c = c.loop-word.invariant.kept

pub start_word-requires-clause-aligned : goal.start_word-requires-clause-aligned
start_word-requires-clause-aligned c = (turn c.args.words.now c.loop-word.word-index (now_of c.loop-word.test) c.loop-word-test.true c.loop-word.invariant.can).0

pub start_word-requires-clause-untouched : goal.start_word-requires-clause-untouched
start_word-requires-clause-untouched c = (turn c.args.words.now c.loop-word.word-index (now_of c.loop-word.test) c.loop-word-test.true c.loop-word.invariant.can).1

pub loop-word-preserved : goal.loop-word-preserved
loop-word-preserved c =
    let words : List (ℕ × ℕ) = c.args.words.now in
    let i : ℕ = c.loop-word.word-index in
    let e : ℕ × ℕ = get_or words i (0, 0) in
    let old : Whole = now_of c.loop-word.test in
    let new : Whole = now_of c.start_word.new.self in
    record {
      kept = c.start_word.ensures.kept;
      rest = ap (words_given (drop (i + 1) words)) c.in_ok-start_word.ensures.now ∙ ap (λ (es : List (ℕ × ℕ)). words_given es old) (sym (split words i c.loop-word-test.true)) ∙ c.loop-word.invariant.rest;
      can = subst (CanGive (drop (i + 1) words)) (sym c.in_ok-start_word.ensures.now) (turn words i old c.loop-word-test.true c.loop-word.invariant.can).2;
    }

pub returns-clause-kept : goal.returns-clause-kept
returns-clause-kept c =
    let w : Whole = whole_of c.loop-word.test.machine in
    let none : reverse c.new-2.result ≡ [] = ap (λ (l : List Entry). reverse l) c.new-2.ensures in
    record {
      within = subst (λ (l : List Entry). AreWithin l w) (sym none) tt;
      tests = subst (λ (l : List Entry). AreTests l w) (sym none) (now_test (reverse c.loop-word.test.log) w c.loop-word.invariant.kept.tests);
    }

pub returns-clause-now : goal.returns-clause-now
returns-clause-now c =
    let words : List (ℕ × ℕ) = c.args.words.now in
    let w : Whole = whole_of c.loop-word.test.machine in
    record {
      first = now_of c.in_ok-test.test;
      new = c.in_ok-test.ensures.now;
      is = ap (λ (es : List (ℕ × ℕ)). words_given es w) (sym (drop_all c.loop-word.word-index words c.loop-word-test.false)) ∙ c.loop-word.invariant.rest;
    }

pub returns-clause-earlier : goal.returns-clause-earlier
returns-clause-earlier c = ap (λ (l : List Entry). before l (whole_of c.loop-word.test.machine)) (ap (λ (l : List Entry). reverse l) c.new-2.ensures)
