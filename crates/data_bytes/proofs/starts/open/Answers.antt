use Rattle.data_bytes.proofs.Starting.{open_are}
use Rattle.data_bytes.proofs.starts.open.Goals as goal

pub returns : goal.returns
returns c =
    open_are c.args.words.now c.in_ok-multiples.field-0 c.in_ok-starts.starts c.args.barred.now c.in_ok-barred.barred c.in_ok-minus.field-0 c.args.size
    c.requires c.in_ok-multiples.ensures c.in_ok-starts.ensures c.in_ok-barred.ensures c.in_ok-minus.ensures
