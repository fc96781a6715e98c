use Rattle.std.proofs.Common.{◌≡◌, ◌++◌, drop, false}
use Rattle.std.specs.List.{list_any}
use Rattle.tpl_lang.specs.Faults.{is_above}
use Rattle.tpl_lang.specs.Statements.{values_of}
use Rattle.tpl_judge.proofs.values.push_bytes.Given as goal

abbrev pub invariant-loop-n : goal.invariant-loop-n
invariant-loop-n l = record {
  fine : list_any (is_above 255) (drop l.n-index l.ns) ≡ false;
  bytes : l.bytes.items ++ values_of (drop l.n-index l.ns) ≡ l.fn.bytes.items ++ values_of l.ns;
}
