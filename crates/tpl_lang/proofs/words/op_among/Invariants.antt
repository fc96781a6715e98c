use Rattle.std.proofs.Common.{◌≡◌, drop}
use Rattle.tpl_lang.specs.Words.{op_among}
use Rattle.tpl_lang.proofs.words.op_among.Given as goal

abbrev pub invariant-loop-op : goal.invariant-loop-op
invariant-loop-op l = op_among l.word (drop l.op-index l.ops) ≡ op_among l.word l.ops
