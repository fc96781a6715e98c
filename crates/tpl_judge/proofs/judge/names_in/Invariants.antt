use Rattle.std.proofs.Common.{◌≡◌, ◌++◌, drop}
use Rattle.tpl_lang.specs.Faults.{names_in}
use Rattle.tpl_token.specs.Internal.Phrases.{wishes_view, words_view}
use Rattle.tpl_judge.proofs.judge.names_in.Given as goal

abbrev pub invariant-loop-wish : goal.invariant-loop-wish
invariant-loop-wish l = words_view l.names.items ++ names_in (wishes_view (drop l.wish-index l.wishes)) ≡ names_in (wishes_view l.wishes)
