use Rattle.std.proofs.Common.{ℕ, List, length, ap, ◌∙◌}
use Rattle.fd_prob.specs.declared.slot.Slot.TheVariants as slots
use Rattle.fd_prob.proofs.Products.{field}
use Rattle.fd_prob.proofs.spaces.product_of.Goals as goal

pub loop-field-preserved : goal.loop-field-preserved
loop-field-preserved c = record {
  value = field c.args.case.now c.args.fields.now c.loop-field.field-index c.loop-field.product c.size.result c.saturating_mul-product.result slots.Op c.loop-field-test.true (c.size.ensures.size ∙ ap (λ (xs : List ℕ). length xs) c.domain.ensures) c.saturating_mul-product.ensures c.loop-field.invariant.value;
  below = c.saturating_mul-product.type_inv;
}
