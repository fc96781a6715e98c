use Rattle.std.proofs.Common.{◌≡◌, true, List, All, is_some, ap, sym, ◌∙◌, subst}
use Rattle.std.proofs.lemmas.List.Elements.{All-push}
use Rattle.fd_prob.specs.declared.problem.Case.{Case}
use Rattle.fd_prob.specs.Fitting.{IsCase}
use Rattle.fd_solve.proofs.FirstCases.{cut_whole, had_first, new_first, some_mapped}
use Rattle.fd_solve.specs.Internal.Marks.{first_of}
use Rattle.fd_solve.proofs.firsts.push_first.Goals as goal

pub returns-then-is_some-clause-first : goal.returns-then-is_some-clause-first
returns-then-is_some-clause-first c =
    let found : is_some (first_of c.deref.result.now c.args.case.now.op) ≡ true = some_mapped (λ k. k.now) c.first_case.result (first_of c.deref.result.now c.args.case.now.op) c.first_case.ensures.first (sym c.is_some.ensures ∙ c.if-is_some.true) in
    had_first c.args.bias.now c.args.made.now.items c.args.case.now (ap (λ (cs : List Case). is_some (first_of cs c.args.case.now.op)) (sym c.deref.ensures.value) ∙ found)

pub returns-clause-cases : goal.returns-clause-cases
returns-clause-cases c =
    let whole : IsCase c.in_ok-cut_case.field-0 = subst IsCase (sym c.in_ok-cut_case.ensures) (cut_whole c.args.bias.now c.args.case.now c.requires.case) in
    subst (λ (cs : List Case). All IsCase cs) (sym c.in_ok-push.ensures.items) (All-push IsCase c.args.made.now.items c.in_ok-cut_case.field-0 c.requires.cases whole)

pub returns-clause-first : goal.returns-clause-first
returns-clause-first c = new_first c.args.bias.now c.args.made.now.items c.push.new.self.items c.args.case.now c.in_ok-cut_case.field-0 c.in_ok-cut_case.ensures c.in_ok-push.ensures.items
