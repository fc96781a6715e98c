use Rattle.std.proofs.Common.{◌≡◌, ℕ, ◌+◌, ◌<◌, List, ◌∷◌, length, get_or, drop}
use Rattle.std.proofs.lemmas.List.{drop_more, drop_all}
use Rattle.rv_mem.specs.Full.{full_at}
use Rattle.rv_system.proofs.Filled.{put_aligned, put_all, put_first, put_next, put_there}
use Rattle.rv_system.proofs.starting.filled_memory.Goals as goal

-- the word of a turn, and those after it
split : (words : List (ℕ × ℕ)) (i : ℕ) → i < length words → drop i words ≡ get_or words i (0, 0) ∷ drop (i + 1) words
split words i within = drop_more words i (0, 0) within

pub loop-word-init : goal.loop-word-init
loop-word-init c = put_first c.args.ram.now c.args.words.now c.args.fill (full_at c.in_ok-memory.memory) c.requires.words c.in_ok-memory.ensures

pub put-requires-clause-aligned : goal.put-requires-clause-aligned
put-requires-clause-aligned c =
    let words = c.args.words.now in
    let i = c.loop-word.word-index in
    put_aligned c.args.ram.now words (drop i words) (drop (i + 1) words) (get_or words i (0, 0)) c.args.fill (full_at c.loop-word.memory) (split words i c.loop-word-test.true) c.loop-word.invariant

pub put-requires-clause-ram : goal.put-requires-clause-ram
put-requires-clause-ram c =
    let words = c.args.words.now in
    let i = c.loop-word.word-index in
    put_there c.args.ram.now words (drop i words) (drop (i + 1) words) (get_or words i (0, 0)) c.args.fill (full_at c.loop-word.memory) (split words i c.loop-word-test.true) c.loop-word.invariant

pub loop-word-preserved : goal.loop-word-preserved
loop-word-preserved c =
    let words = c.args.words.now in
    let i = c.loop-word.word-index in
    put_next c.args.ram.now words (drop i words) (drop (i + 1) words) (get_or words i (0, 0)) c.args.fill (full_at c.loop-word.memory) (full_at c.put.new.self) (split words i c.loop-word-test.true) c.loop-word.invariant c.put.ensures.known
    c.put.ensures.others

pub returns : goal.returns
returns c =
    let words = c.args.words.now in
    put_all c.args.ram.now words (drop c.loop-word.word-index words) c.args.fill (full_at c.loop-word.memory) (drop_all c.loop-word.word-index words c.loop-word-test.false) c.loop-word.invariant
