use Rattle.std.proofs.Common.{◌≡◌, ◌++◌, drop, map}
use Rattle.tpl_lang.specs.Sets.{points, word_number}
use Rattle.tpl_token.specs.Internal.Phrases.{words_view}
use Rattle.tpl_judge.proofs.sets.word_points.Given as goal

abbrev pub invariant-loop-word : goal.invariant-loop-word
invariant-loop-word l = l.points.items ++ points (map (word_number l.var) (words_view (drop l.word-index l.words))) ≡ points (map (word_number l.var) (words_view l.words))
