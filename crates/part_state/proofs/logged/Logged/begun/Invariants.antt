use Rattle.std.proofs.Common.{◌≡◌, drop}
use Rattle.part_state.specs.Beginning.{words_given, CanGive}
use Rattle.part_state.specs.Internal.Parts.{now_of, IsKept}
use Rattle.part_state.proofs.logged.Logged.begun.Given as goal

abbrev pub invariant-loop-word : goal.invariant-loop-word
invariant-loop-word l = record {
  kept : IsKept l.test;
  rest : words_given (drop l.word-index l.words) (now_of l.test) ≡ words_given l.words (now_of l.initial.test);
  can : CanGive (drop l.word-index l.words) (now_of l.test);
}
