-- What the code reads is `decoded`, so it has the laws of the codec.
use Rattle.std.proofs.Common.{◌≡◌, ◌<◌, ◌^◌, ap, ◌∙◌, arith}
use Rattle.rv_isa.specs.declared.operation.TheConstants.{OPS}
use Rattle.rv_isa.specs.Reading.{decoded, read_from}
use Rattle.rv_isa.proofs.Codec.{IfSome-decoded, IfSome-in_range, read_encoded, word_read}
use Rattle.rv_isa.proofs.decoding.decode.Goals as goal

value_is : (c : goal.After-read_from) → c.read_from.result ≡ decoded c.args.word
value_is c =
    let below : c.args.word < 2 ^ 32 = omega arith in
    c.read_from.ensures ∙ ap (read_from OPS) c.of.ensures.value ∙ word_read c.args.word below

pub returns-clause-value : goal.returns-clause-value
returns-clause-value c = value_is c

pub returns-clause-found : goal.returns-clause-found
returns-clause-found c = IfSome-decoded c.args.word c.read_from.result (value_is c)

pub returns-clause-ranges : goal.returns-clause-ranges
returns-clause-ranges c = IfSome-in_range c.args.word c.read_from.result (value_is c)

pub returns-clause-only : goal.returns-clause-only
returns-clause-only c i h = value_is c ∙ read_encoded c.args.word i h
