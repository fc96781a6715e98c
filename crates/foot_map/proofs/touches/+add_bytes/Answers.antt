use Rattle.std.proofs.Common.{◌≡◌, ℕ, ◌+◌, ◌-◌, ◌&&◌, ◌||◌, Bool, false, not, sym, ap, ◌∙◌, arith, eqb, List}
use Rattle.std.proofs.lemmas.Bool.{or_parts}
use Rattle.foot_map.specs.declared.touch.Touch.{Touch}
use Rattle.foot_map.specs.Touches.{has, is_triple, is_part, same_role}
use Rattle.foot_map.proofs.Masks.{mask_one, mask_more, mid_is, within_one, within_more, part_more, taken_back, digit_from}
use Rattle.foot_map.proofs.touches.+add_bytes.Goals as goal

pub returns-then-len-eq1-clause-mask : goal.returns-then-len-eq1-clause-mask
returns-then-len-eq1-clause-mask t c i =
    rw c.if-len-eq1.true
    (mask_one (λ (n : ℕ). has c.args.touches.now (c.args.touch.byte + n) c.args.touch.hart c.args.touch.role)
    c.in-Ok.new c.from.result (digit_from c.in-Ok.new c.from.result c.from.ensures)
    (c.in-Ok.ensures.new ∙ ap (λ (n : ℕ). not (has c.args.touches.now n c.args.touch.hart c.args.touch.role)) (let z : c.args.touch.byte ≡ c.args.touch.byte + 0 = omega arith in z))
    i)

pub returns-then-len-eq1-clause-within : goal.returns-then-len-eq1-clause-within
returns-then-len-eq1-clause-within t c = within_one c.args.touch.byte c.in-Ok.new c.from.result (digit_from c.in-Ok.new c.from.result c.from.ensures)

pub returns-in-Ok-add_bytes-clause-added : goal.returns-in-Ok-add_bytes-clause-added
returns-in-Ok-add_bytes-clause-added t c b h r =
    c.in-Ok-add_bytes.ensures.added b h r
    ∙ ap (λ (o : Bool). o || is_part c.next.result.hart c.next.result.role c.next.result.byte (c.args.len - 1) b h r) (c.in-Ok.ensures.added b h r)
    ∙ rw (c.next.ensures.byte, c.next.ensures.hart, c.next.ensures.role)
    (part_more (has c.args.touches.now b h r) (eqb c.args.touch.hart h && same_role c.args.touch.role r) c.args.touch.byte b c.args.len (omega arith))

pub returns-in-Ok-add_bytes-clause-mask : goal.returns-in-Ok-add_bytes-clause-mask
returns-in-Ok-add_bytes-clause-mask t c i = mask_more
    (λ (n : ℕ). has c.args.touches.now (c.args.touch.byte + n) c.args.touch.hart c.args.touch.role)
    (λ (n : ℕ). has c.put.new.self (c.next.result.byte + n) c.next.result.hart c.next.result.role)
    c.in-Ok.new c.from-in-Ok-add_bytes.result c.in-Ok-add_bytes.rest c.args.len
    (digit_from c.in-Ok.new c.from-in-Ok-add_bytes.result c.from-in-Ok-add_bytes.ensures)
    (c.in-Ok.ensures.new ∙ ap (λ (n : ℕ). not (has c.args.touches.now n c.args.touch.hart c.args.touch.role)) (let z : c.args.touch.byte ≡ c.args.touch.byte + 0 = omega arith in z))
    (omega arith)
    (λ n. rw (c.next.ensures.byte, c.next.ensures.hart, c.next.ensures.role)
    (mid_is c.args.touches.now c.put.new.self c.args.touch n c.in-Ok.ensures.added))
    c.in-Ok-add_bytes.ensures.mask
    i

pub returns-in-Ok-add_bytes-clause-within : goal.returns-in-Ok-add_bytes-clause-within
returns-in-Ok-add_bytes-clause-within t c = within_more c.args.touch.byte c.args.len c.in-Ok-add_bytes.rest c.in-Ok.new c.from-in-Ok-add_bytes.result
    (digit_from c.in-Ok.new c.from-in-Ok-add_bytes.result c.from-in-Ok-add_bytes.ensures) (omega arith) c.requires.1
    (rw c.next.ensures.byte at c.in-Ok-add_bytes.ensures.within)

pub returns-in-Err-add_bytes-clause-refused : goal.returns-in-Err-add_bytes-clause-refused
returns-in-Err-add_bytes-clause-refused t c = taken_back c.args.touches.now c.put.new.self c.take_out_if.new.touches c.args.touch c.in-Ok.new
    c.tell_order.ensures c.take_out_if.ensures.ordered c.in-Ok.ensures.new c.in-Ok.ensures.added
    (λ b h r. c.take_out_if.ensures.removed b h r ∙ ap (λ (xs : List Touch). has xs b h r && not (c.in-Ok.new && is_triple c.args.touch b h r)) c.in-Err-add_bytes.ensures.refused)

pub returns-in-Err-add_bytes-clause-wanted : goal.returns-in-Err-add_bytes-clause-wanted
returns-in-Err-add_bytes-clause-wanted t c =
    let later = c.in-Err-add_bytes.ensures.wanted in
    let i : ℕ = later.0 in
    let byte : c.args.touch.byte + (i + 1) ≡ c.next.result.byte + i = omega (arith, c.next.ensures.byte) in
    let now : has c.put.new.self (c.next.result.byte + i) c.args.touch.hart c.args.touch.role ≡ false =
    rw (c.next.ensures.hart, c.next.ensures.role) at later.2 in (
      i + 1,
      omega (arith, later.1),
      ap (λ (n : ℕ). has c.args.touches.now n c.args.touch.hart c.args.touch.role) byte
          ∙ before (has c.args.touches.now (c.next.result.byte + i) c.args.touch.hart c.args.touch.role) _ (sym (c.in-Ok.ensures.added (c.next.result.byte + i) c.args.touch.hart c.args.touch.role) ∙ now),
    )
  where
    before : (a b : Bool) → (a || b) ≡ false → a ≡ false
    before a b e = (or_parts a b e).0
