use Rattle.std.proofs.Common.{◌≡◌, drop}
use Rattle.tpl_lang.specs.Faults.{is_name_among}
use Rattle.tpl_token.specs.Internal.Phrases.{words_view}
use Rattle.tpl_judge.proofs.judge.is_name_among.Given as goal

abbrev pub invariant-loop-other : goal.invariant-loop-other
invariant-loop-other l = is_name_among (words_view (drop l.other-index l.names)) l.name ≡ is_name_among (words_view l.names) l.name
