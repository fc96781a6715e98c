use Rattle.std.proofs.Common.{◌≡◌, ℕ, All, take, option_map}
use Rattle.fd_prob.specs.Fitting.{IsCase}
use Rattle.fd_solve.specs.Internal.Marks.{cut_case, first_of}
use Rattle.fd_solve.proofs.firsts.cut_firsts.Given as goal

abbrev pub invariant-loop-case : goal.invariant-loop-case
invariant-loop-case l = record {
  cases : All IsCase l.made.items;
  firsts : (op : ℕ) → first_of l.made.items op ≡ option_map (cut_case l.bias) (first_of (take l.case-index l.cases) op);
}
