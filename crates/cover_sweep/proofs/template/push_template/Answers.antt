use Rattle.std.proofs.Common.{◌++◌, string_bytes, codes}
use Rattle.std.specs.Fmt.{decimal}
use Rattle.cover_sweep.specs.Template.{demo_template, ended, first_lines, last_lines}
use Rattle.cover_sweep.proofs.Written.{template_written, three_written}
use Rattle.cover_sweep.proofs.template.push_template.Goals as goal

pub returns : goal.returns
returns c =
    three_written (string_bytes c.args.text.now) (string_bytes c.push_str.new.self) (string_bytes c.writeln.new.self) (string_bytes c.push_str-2.new.self)
    (ended first_lines) (codes "repeat " ++ (decimal c.args.n ++ codes " {\n")) (ended last_lines) (demo_template c.args.n)
    c.in_ok-push_str.ensures.bytes c.in_ok-writeln.ensures.bytes c.in_ok-push_str-2.ensures.bytes (template_written c.args.n)
