use Rattle.std.proofs.Common.{◌≡◌, ◌≤◌, ◌+◌, length}
use Rattle.tpl_lang.specs.Lines.{lines}
use Rattle.tpl_lang.specs.Known.{nothing}
use Rattle.tpl_lang.specs.Parsing.{lines_parsed}
use Rattle.tpl_state.specs.Internal.State.{known}
use Rattle.tpl_parse.proofs.read.read_lines.Given as goal

abbrev pub invariant-loop-state : goal.invariant-loop-state
invariant-loop-state l = record {
  read : lines_parsed (known l.state) l.line (lines l.rest) ≡ lines_parsed nothing 1 (lines l.text);
  room : l.line + length l.rest ≤ 65537;
}

abbrev pub decreases-loop-state : goal.decreases-loop-state
decreases-loop-state l = length l.rest
