use Rattle.std.proofs.Common.{◌≡◌, ℕ, sym, subst, arith}
use Rattle.dom_set.specs.Elements.{is_in}
use Rattle.rv_script.specs.Bytes.{any_byte}
use Rattle.data_bytes.proofs.Starting.{pair, four, is_four}
use Rattle.data_bytes.proofs.starts.starts_on.Goals as goal

pub returns-then-size-eq2 : goal.returns-then-size-eq2
returns-then-size-eq2 c v within =
    subst (λ (n : ℕ). is_in c.in_ok-pairs.pairs v ≡ any_byte n v (is_in c.args.bytes.now)) (sym c.if-size-eq2.true)
    (pair c.args.bytes.now c.in_ok-shift.field-0 c.in_ok-pairs.pairs c.in_ok-shift.ensures c.in_ok-pairs.ensures v (omega arith))

pub returns : goal.returns
returns c v within =
    let size : c.args.size ≡ 4 = is_four c.args.size c.requires c.if-size-eq1.false c.if-size-eq2.false in
    subst (λ (n : ℕ). is_in c.in_ok-or.field-0 v ≡ any_byte n v (is_in c.args.bytes.now)) (sym size)
    (four c.args.bytes.now c.in_ok-pairs.pairs c.in_ok-shift-2.field-0 c.in_ok-or.field-0
    (pair c.args.bytes.now c.in_ok-shift.field-0 c.in_ok-pairs.pairs c.in_ok-shift.ensures c.in_ok-pairs.ensures)
    c.in_ok-shift-2.ensures c.in_ok-or.ensures v (omega arith))
