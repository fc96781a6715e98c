use Rattle.std.proofs.Common.{◌/◌, ◌&&◌, not, nat_eq}
use Rattle.rv_mem.specs.Frames.{in_frames}
use Rattle.data_bytes.proofs.Sets.{left_of, minus_test}
use Rattle.data_bytes.proofs.memory.fresh.Goals as goal

pub returns : goal.returns
returns c =
    left_of c.args.ram.now c.args.known.now c.in_ok-untouched.untouched c.in_ok-bytes.bytes c.in_ok-and.field-0
    (λ v. in_frames c.args.pool.now v && not (nat_eq (v / 4) (c.args.pc / 4)))
    c.in_ok-untouched.ensures
    (minus_test c.in_ok-frame_bytes.field-0 c.in_ok-word_bytes.field-0 c.in_ok-bytes.bytes (in_frames c.args.pool.now) (λ v. nat_eq (v / 4) (c.args.pc / 4))
    c.in_ok-frame_bytes.ensures c.in_ok-word_bytes.ensures c.in_ok-bytes.ensures)
    c.in_ok-and.ensures
