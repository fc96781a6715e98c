use Rattle.std.proofs.Common.{◌%◌, nat_eq}
use Rattle.data_bytes.proofs.Sets.{and_test}
use Rattle.data_bytes.proofs.memory.DataBytes.outside_starts.Goals as goal

pub returns : goal.returns
returns c =
    and_test c.args.self.now.outside c.in_ok-multiples.field-0 c.in_ok-and.field-0 (λ v. nat_eq (v % c.args.size) 0) c.in_ok-multiples.ensures c.in_ok-and.ensures
