use Rattle.std.proofs.Common.{◌≡◌, ◌==◌, ℕ, ◌+◌, List, ap, ◌∙◌, arith}
use Rattle.dom_set.specs.Counting.{one}
use Rattle.row_parts.specs.Forms.{times_in}
use Rattle.row_parts.proofs.Lists.{times_append}
use Rattle.row_parts.proofs.alike.sort_value.Goals as goal

pub returns-then-are_alike-clause-count : goal.returns-then-are_alike-clause-count
returns-then-are_alike-clause-count g c = λ w.
    let more : times_in c.push.new.self.items w ≡ times_in c.args.alike.now.items w + one (c.args.value == w) =
    ap (λ (vs : List ℕ). times_in vs w) c.in_ok-push.ensures.items ∙ times_append (λ (y : ℕ). y == w) c.args.alike.now.items c.args.value in
    omega (arith, more)

pub returns-clause-count : goal.returns-clause-count
returns-clause-count g c = λ w.
    let more : times_in c.push-2.new.self.items w ≡ times_in c.args.others.now.items w + one (c.args.value == w) =
    ap (λ (vs : List ℕ). times_in vs w) c.in_ok-push-2.ensures.items ∙ times_append (λ (y : ℕ). y == w) c.args.others.now.items c.args.value in
    omega (arith, more)
