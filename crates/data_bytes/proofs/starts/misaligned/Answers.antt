use Rattle.std.proofs.Common.{◌%◌, true, nat_eq}
use Rattle.data_bytes.proofs.Sets.{elements_are, minus_test}
use Rattle.data_bytes.proofs.starts.misaligned.Goals as goal

pub returns : goal.returns
returns c =
    minus_test c.in_ok-all.all c.in_ok-multiples.field-0 c.in_ok-minus.field-0 (λ x. true) (λ x. nat_eq (x % c.args.size) 0)
    (elements_are (λ x. true) c.in_ok-all.all c.in_ok-all.ensures) c.in_ok-multiples.ensures c.in_ok-minus.ensures
