use Rattle.std.proofs.Common.{◌≡◌, ◌*◌, ◌==◌, bit_and, sym, subst}
use Rattle.row_parts.specs.declared.classes.Level.{Level}
use Rattle.data_ways.specs.Internal.Tables.{index_at}
use Rattle.data_ways.proofs.Parted.{root_pattern, second_pattern}
use Rattle.data_ways.proofs.walker.pattern.Goals as goal

pub returns-in-Root : goal.returns-in-Root
returns-in-Root c = λ ea small.
    subst (λ (l : Level). (bit_and ea 4290772992 == c.args.index * 4194304) ≡ (index_at l ea == c.args.index)) (sym c.in-Root.is) (root_pattern ea c.args.index small)

pub returns-in-Second : goal.returns-in-Second
returns-in-Second c = λ ea small.
    subst (λ (l : Level). (bit_and ea 4190208 == c.args.index * 4096) ≡ (index_at l ea == c.args.index)) (sym c.in-Second.is) (second_pattern ea c.args.index)
