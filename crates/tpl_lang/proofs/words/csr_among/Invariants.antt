use Rattle.std.proofs.Common.{◌≡◌, drop}
use Rattle.tpl_lang.specs.Words.{csr_among}
use Rattle.tpl_lang.proofs.words.csr_among.Given as goal

abbrev pub invariant-loop-register : goal.invariant-loop-register
invariant-loop-register l = csr_among l.word (drop l.register-index l.registers) ≡ csr_among l.word l.registers
