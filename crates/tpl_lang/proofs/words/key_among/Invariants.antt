use Rattle.std.proofs.Common.{◌≡◌, drop}
use Rattle.tpl_lang.specs.Words.{key_among}
use Rattle.tpl_lang.proofs.words.key_among.Given as goal

abbrev pub invariant-loop-key : goal.invariant-loop-key
invariant-loop-key l = key_among l.word (drop l.key-index l.keys) ≡ key_among l.word l.keys
