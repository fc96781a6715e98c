use Rattle.std.proofs.Common.{◌≡◌, take}
use Rattle.std.specs.List.{list_all}
use Rattle.rv_isa.specs.declared.operation.Op.{Op}
use Rattle.fd_prob.specs.declared.problem.Assignment.{Assignment}
use Rattle.fd_prob.specs.Relations.{holds}
use Rattle.fd_narrow.specs.Narrowing.{IsInside}
use Rattle.fd_narrow.proofs.domains.Domains.possible_relations.Given as goal

abbrev pub invariant-loop-rel : goal.invariant-loop-rel
invariant-loop-rel l = (op : Op) (x : Assignment) → IsInside l.self x → list_all (holds op x) l.made.items ≡ list_all (holds op x) (take l.rel-index l.rels)
