use Rattle.std.proofs.Common.{◌≡◌, ℕ, zero, suc, refl, ◌∙◌, ◌+◌, ◌≤◌, ◌++◌, arith, length, length-append, take, None, Some}
use Rattle.std.specs.declared.option.Option.{Option}
use Rattle.std.proofs.lemmas.List.{length-take}
use Rattle.std.proofs.lemmas.Option.{same_Some}
use Rattle.std.proofs.KnownBytes.{Consumes-trans}
use Rattle.streams.specs.Source.{AsksOnce, CountsNoByte, AsksAtMost}
use Rattle.streams.proofs.source.read_up_to.Goals as goal

-- one read more
AsksAtMost-once : (a b c : Option ℕ) (m n : ℕ) → AsksAtMost a b m → AsksOnce b c → m + 1 ≤ n → AsksAtMost a c n
AsksAtMost-once None b c m n p q le = tt
AsksAtMost-once (Some x) None c m n p q le = absurd p
AsksAtMost-once (Some x) (Some y) None m n p q le = absurd q
AsksAtMost-once (Some x) (Some y) (Some z) m n p q le = omega arith

-- a read that took some bytes is not counted as one that took none
AsksAtMost-none : (a b c : Option ℕ) (n : ℕ) → b ≡ a → CountsNoByte b c n → (n ≡ 0 → ⊥) → AsksAtMost a c 1
AsksAtMost-none a b c zero is counts some = absurd (some refl)
AsksAtMost-none None b c (suc n) is counts some = tt
AsksAtMost-none (Some x) b None (suc n) is counts some = absurd (cc (counts ∙ is))
AsksAtMost-none (Some x) b (Some z) (suc n) is counts some = omega (arith, same_Some z x (counts ∙ is))

pub returns-in_err-extend_from_slice-clause-taken_at_most : goal.returns-in_err-extend_from_slice-clause-taken_at_most
returns-in_err-extend_from_slice-clause-taken_at_most g c =
    let piece = take c.in_ok-count.count c.read.new.buf in
    let size : length (c.loop-buf.bytes.items ++ piece) ≡ length c.loop-buf.bytes.items + length piece = length-append c.loop-buf.bytes.items piece in
    record {
      bytes = c.loop-buf.bytes.items ++ piece;
      within = omega (arith, size, c.in_ok-count.ensures.bound, c.read.auto.buf, length-take c.min-want.result c.loop-buf.buf);
      consumed = Consumes-trans _ _ _ _ _ c.loop-buf.invariant.taken c.in_ok-count.ensures.bytes.0;
      asked = AsksAtMost-once _ _ _ _ _ c.loop-buf.invariant.asked c.read.ensures.reads (omega (arith, size, c.in_ok-count.ensures.bound, c.if-count-eq0.false));
      empty = AsksAtMost-none _ _ _ _ c.loop-buf.invariant.none_empty c.in_ok-count.ensures.empty c.if-count-eq0.false;
    }
