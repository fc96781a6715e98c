use Rattle.std.proofs.Common.{◌/◌, ◌&&◌, Bool, not, eqb, ap, ◌∙◌, arith}
use Rattle.foot_map.specs.Touches.{has, is_masked, same_role}
use Rattle.foot_map.proofs.Masks.{half_within, masked_more, masked_one}
use Rattle.foot_map.proofs.touches.+remove_bytes.Goals as goal

pub remove_bytes-requires : goal.remove_bytes-requires
remove_bytes-requires t c = (omega arith, rw c.next.ensures.byte (half_within c.args.touch.byte c.args.mask c.if-mask-gt1.true c.requires))

pub returns-then-mask-gt1-clause-removed : goal.returns-then-mask-gt1-clause-removed
returns-then-mask-gt1-clause-removed t c b h r =
    c.remove_bytes.ensures.removed b h r
    ∙ ap (λ (o : Bool). o && not (is_masked c.next.result.hart c.next.result.role c.next.result.byte (c.args.mask / 2) b h r)) (c.take_out_if.ensures.removed b h r)
    ∙ rw (c.next.ensures.byte, c.next.ensures.hart, c.next.ensures.role)
    (masked_more (has c.args.touches.now b h r) (eqb c.args.touch.hart h && same_role c.args.touch.role r) c.args.touch.byte b c.args.mask)

pub returns-else-mask-gt1-clause-removed : goal.returns-else-mask-gt1-clause-removed
returns-else-mask-gt1-clause-removed t c b h r =
    c.take_out_if.ensures.removed b h r
    ∙ masked_one (has c.args.touches.now b h r) (eqb c.args.touch.hart h && same_role c.args.touch.role r) c.args.touch.byte b c.args.mask c.if-mask-gt1.false
