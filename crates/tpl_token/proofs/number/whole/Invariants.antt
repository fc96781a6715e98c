use Rattle.std.proofs.Common.{◌≡◌, ◌<◌, ◌^◌, drop}
use Rattle.tpl_lang.specs.Numbers.{value_of}
use Rattle.tpl_token.proofs.number.whole.Given as goal

abbrev pub invariant-loop-d : goal.invariant-loop-d
invariant-loop-d l = record {
  read : value_of l.base l.value (drop l.d-index l.digits) ≡ value_of l.base 0 l.digits;
  below : l.value < 2 ^ 32;
}
