use Rattle.std.proofs.Common.{◌≡◌, ◌+◌, drop}
use Rattle.rv_isa.specs.Numbers.{op_number_among}
use Rattle.tpl_lang.proofs.words.number_among.Given as goal

abbrev pub invariant-loop-one : goal.invariant-loop-one
invariant-loop-one l = record {
  here : l.n ≡ l.one-index;
  rest : l.n + op_number_among l.word (drop l.one-index l.ops) ≡ op_number_among l.word l.ops;
}
