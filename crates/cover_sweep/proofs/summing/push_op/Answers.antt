use Rattle.std.proofs.Common.{◌++◌, string_bytes, codes}
use Rattle.std.specs.Prelude.{encode_utf8}
use Rattle.std.specs.List.{flat_map}
use Rattle.std.specs.Fmt.{decimal}
use Rattle.cover_sweep.specs.Summary.{op_line}
use Rattle.cover_sweep.proofs.Names.{op_written}
use Rattle.cover_sweep.proofs.Written.{three_written}
use Rattle.cover_sweep.proofs.summing.push_op.Goals as goal

pub returns : goal.returns
returns c =
    three_written (string_bytes c.args.text.now) (string_bytes c.write.new.self) (string_bytes c.push_name.new.text) (string_bytes c.writeln.new.self)
    (codes "op ") (flat_map encode_utf8 c.name_of.result.now) (codes " " ++ (decimal c.args.count ++ codes "\n")) (op_line (c.args.op, c.args.count))
    c.in_ok-write.ensures.bytes c.in_ok-push_name.ensures c.in_ok-writeln.ensures.bytes (op_written c.args.op c.args.count c.name_of.result.now c.name_of.ensures)
