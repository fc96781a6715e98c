use Rattle.std.proofs.Common.{List, ap, refl, ◌∙◌, option_map}
use Rattle.fd_prob.specs.declared.problem.Case.{Case}
use Rattle.fd_solve.specs.Internal.Marks.{cut_case, first_of}
use Rattle.fd_solve.proofs.FirstCases.{cut_firsts_of}
use Rattle.fd_solve.proofs.firsts.cut_problem.Goals as goal

pub returns-clause-firsts : goal.returns-clause-firsts
returns-clause-firsts c whole firsts entries =
    cut_firsts_of c.args.bias.now whole c.args.p.now _ firsts entries
    (λ op. ap (λ (cs : List Case). first_of cs op) c.from_vec.ensures ∙ c.in_ok-cases.ensures.firsts op ∙ ap (λ (cs : List Case). option_map (cut_case c.args.bias.now) (first_of cs op)) c.as_slice.ensures)
    refl refl refl
