use Rattle.std.proofs.Common.{◌≡◌, ℕ, ◌+◌, ◌<◌, List, ◌∷◌, length, get_or, drop}
use Rattle.std.proofs.lemmas.List.{drop_more, drop_all}
use Rattle.rv_mem.specs.Part.{part_at}
use Rattle.replay_check.proofs.Shown.{left_head, left_next, put_none, put_there, put_next, put_all}
use Rattle.replay_check.proofs.memory.memory_of.Goals as goal

-- the word of a turn, and those after it
split : (words : List (ℕ × ℕ)) (i : ℕ) → i < length words → drop i words ≡ get_or words i (0, 0) ∷ drop (i + 1) words
split words i within = drop_more words i (0, 0) within

pub loop-word-init : goal.loop-word-init
loop-word-init c = record {
  left = record { from = 0; words = c.requires.words_are };
  put = put_none c.args.ram.now c.args.words.now (part_at c.in_ok-memory.memory) c.in_ok-memory.ensures;
}

pub put-requires-clause-aligned : goal.put-requires-clause-aligned
put-requires-clause-aligned c =
    let words = c.args.words.now in
    let i = c.loop-word.word-index in
    (left_head c.args.ram.now (drop i words) (get_or words i (0, 0)) (drop (i + 1) words) (split words i c.loop-word-test.true) c.loop-word.invariant.left).0

pub put-requires-clause-ram : goal.put-requires-clause-ram
put-requires-clause-ram c =
    let words = c.args.words.now in
    let i = c.loop-word.word-index in
    let head = left_head c.args.ram.now (drop i words) (get_or words i (0, 0)) (drop (i + 1) words) (split words i c.loop-word-test.true) c.loop-word.invariant.left in
    put_there c.args.ram.now words (drop i words) (part_at c.loop-word.memory) (get_or words i (0, 0)).0 c.loop-word.invariant.put head.0 head.1

pub loop-word-preserved : goal.loop-word-preserved
loop-word-preserved c =
    let words = c.args.words.now in
    let i = c.loop-word.word-index in
    let now = c.loop-word.invariant in
    let at = split words i c.loop-word-test.true in
    record {
      left = left_next c.args.ram.now (drop i words) (get_or words i (0, 0)) (drop (i + 1) words) at now.left;
      put = put_next c.args.ram.now words (drop i words) (get_or words i (0, 0)) (drop (i + 1) words) (part_at c.loop-word.memory) (part_at c.put.new.self) at now.left now.put
          c.in_ok-put.ensures.known c.put.ensures.others;
    }

pub returns : goal.returns
returns c =
    let words = c.args.words.now in
    put_all c.args.ram.now words (drop c.loop-word.word-index words) (part_at c.loop-word.memory) c.requires.words_are (drop_all c.loop-word.word-index words c.loop-word-test.false) c.loop-word.invariant.put
