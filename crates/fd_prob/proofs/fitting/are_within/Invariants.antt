use Rattle.std.proofs.Common.{◌≡◌, drop}
use Rattle.std.specs.List.{list_all}
use Rattle.dom_set.specs.Elements.{is_in}
use Rattle.fd_prob.specs.Fitting.{domain_of}
use Rattle.fd_prob.specs.Relations.{value_of}
use Rattle.fd_prob.proofs.fitting.are_within.Given as goal

abbrev pub invariant-loop-slot : goal.invariant-loop-slot
invariant-loop-slot l = list_all (λ s. is_in (domain_of l.case s) (value_of l.x s)) (drop l.slot-index l.slots) ≡ list_all (λ s. is_in (domain_of l.case s) (value_of l.x s)) l.slots
