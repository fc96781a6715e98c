use Rattle.std.proofs.Common.{◌≡◌, ◌/◌, take, map, Some}
use Rattle.std.specs.List.{AllByRecursion}
use Rattle.rv_mem.specs.Part.{part_at}
use Rattle.rv_mem.specs.Seen.{known_word}
use Rattle.tpl_ast.specs.States.{IsWord}
use Rattle.part_told.proofs.words.last_of.Given as goal

abbrev pub invariant-loop-word : goal.invariant-loop-word
invariant-loop-word l = record {
  values : map (λ v. Some v) l.last ≡ map (λ w. known_word (part_at l.memory (w.0 / 4))) (take l.word-index l.words);
  words : AllByRecursion IsWord l.last;
}
