use Rattle.dom_set.proofs.Spans.{covered_elements, all_ends_in}
use Rattle.dom_set.proofs.set.Set.spans.Goals as goal

pub returns-clause-covered : goal.returns-clause-covered
returns-clause-covered c = rw (← c.self.view_is)
    (covered_elements c.self.inside.pieces.items c.in_ok-spans.spans.items (rw c.deref.ensures.value at c.in_ok-spans.ensures.covered))

pub returns-clause-ends : goal.returns-clause-ends
returns-clause-ends c = rw (← c.self.view_is)
    (all_ends_in c.self.inside.pieces.items c.in_ok-spans.spans.items (rw c.deref.ensures.value at c.in_ok-spans.ensures.ends))
