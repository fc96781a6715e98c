use Rattle.std.proofs.Common.{◌≡◌, drop}
use Rattle.std.specs.List.{list_any}
use Rattle.tpl_lang.specs.Faults.{is_word_unknown}
use Rattle.tpl_token.specs.Internal.Phrases.{words_view}
use Rattle.tpl_judge.proofs.names.is_any_word_unknown.Given as goal

abbrev pub invariant-loop-word : goal.invariant-loop-word
invariant-loop-word l = list_any (is_word_unknown l.var) (words_view (drop l.word-index l.words)) ≡ list_any (is_word_unknown l.var) (words_view l.words)
