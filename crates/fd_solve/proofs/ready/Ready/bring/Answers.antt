use Rattle.std.proofs.Common.{◌≡◌, ℕ, ◌-◌, Bool, List, Option, None, ap, drop, take, subst, sym, arith, ◌∙◌}
use Rattle.fd_prob.specs.declared.problem.Case.{Case}
use Rattle.fd_prob.specs.declared.problem.Extra.{Extra}
use Rattle.fd_prob.specs.declared.problem.Problem.{Problem}
use Rattle.fd_solve.specs.Internal.Equivalent.{StandFor}
use Rattle.fd_solve.specs.declared.ready.Ready.{Ready}
use Rattle.fd_solve.specs.Internal.Marks.{with_marked}
use Rattle.fd_solve.proofs.Equivalence.{all_stand, brought_none, brought_stand, entries_stand, none_cases, some_cases}
use Rattle.fd_solve.proofs.FirstMarks.{as_it_was, begun, begun_whole, brought, from_on, left_entries}
use Rattle.fd_solve.proofs.ready.Ready.bring.Goals.{then-not-are_unmarked+in_ok-narrow+in-Some-1, then-not-are_unmarked+in_ok-narrow+in-None-1, else-not-are_unmarked}
use Rattle.fd_solve.proofs.ready.Ready.bring.Goals as goal

pub brought-requires-clause-cases : goal.brought-requires-clause-cases
brought-requires-clause-cases c =
    let m = c.args.marked.now in
    all_stand (begun m.problem.now m.biases.now m.marks.now c.args.self.now.from).cases c.args.self.now.narrow c.requires.ready.narrow

pub brought-requires-clause-entries : goal.brought-requires-clause-entries
brought-requires-clause-entries c =
    let m = c.args.marked.now in
    let n : ℕ = c.args.self.now.from in
    entries_stand (begun m.problem.now m.biases.now m.marks.now n).cases c.args.self.now.narrow (from_on n m.biases.now) (left_entries m.problem.now m.biases.now m.marks.now n c.requires.sound.entries) c.requires.ready.narrow

-- with the biases that were marked since
more : (p : Problem) (es : List Extra) (marks : List Bool) (old : Ready) (to : ℕ) (made : Option (List Case)) → Rattle.fd_prob.specs.Fitting.IsProblem p → Rattle.std.proofs.Common.All (λ e. Rattle.std.proofs.Common.length e.cases ≡ Rattle.std.proofs.Common.length p.cases) es
    → Rattle.std.proofs.Common.◌≤◌ old.from to → StandFor (with_marked (take old.from marks) es p).cases old.narrow → Rattle.fd_solve.specs.Internal.Equivalent.AreBrought (take (to - old.from) (drop old.from marks)) (from_on old.from es) old.narrow made
    → StandFor (with_marked (take to marks) es p).cases made
more p es marks old to made problem entries le narrow new =
    subst (λ (q : Problem). StandFor q.cases made) (brought p es marks old.from to le)
    (brought_stand (take (to - old.from) (drop old.from marks)) (from_on old.from es) (begun p es marks old.from) old.narrow made (begun_whole p es marks old.from problem) (left_entries p es marks old.from entries) narrow new)

pub returns-clause-brought : goal.returns-clause-brought
returns-clause-brought c =
    let m = c.args.marked.now in
    let old : Ready = c.args.self.now in
    let P : Option (List Case) → Type 0 = StandFor (with_marked (take c.args.to m.marks.now) m.biases.now m.problem.now).cases in
    elim c.if-not-are_unmarked.branch [
      | then-not-are_unmarked+in_ok-narrow+in-Some-1 w ↦ subst P (sym (ap (λ (r : Ready). r.narrow) w.self-is)) (more m.problem.now m.biases.now m.marks.now old c.args.to w.in_ok-narrow.narrow c.requires.sound.problem c.requires.sound.entries c.requires.ready.within c.requires.ready.narrow w.in_ok-narrow.ensures)
      | then-not-are_unmarked+in_ok-narrow+in-None-1 w ↦ subst P (sym (ap (λ (r : Ready). r.narrow) w.self-is)) (more m.problem.now m.biases.now m.marks.now old c.args.to w.in_ok-narrow.narrow c.requires.sound.problem c.requires.sound.entries c.requires.ready.within c.requires.ready.narrow w.in_ok-narrow.ensures)
      | else-not-are_unmarked w ↦ subst P (sym (ap (λ (r : Ready). r.narrow) w.self-is)) (subst (λ (q : Problem). StandFor q.cases old.narrow) (as_it_was m.problem.now m.biases.now m.marks.now old.from c.args.to c.requires.ready.within (sym w.if-not-are_unmarked.ensures)) c.requires.ready.narrow)
    ]

pub returns-clause-ready : goal.returns-clause-ready
returns-clause-ready c =
    let m = c.args.marked.now in
    let old : Ready = c.args.self.now in
    let mid : Ready = c.if-not-are_unmarked.self in
    let some : old.narrow ≡ None → ⊥ = some_cases old.narrow c.if-is_none.ensures in
    record {
      within = omega arith;
      narrow = returns-clause-brought c;
      idle = λ none. absurd (some (elim c.if-not-are_unmarked.branch [
        | then-not-are_unmarked+in_ok-narrow+in-Some-1 w ↦ brought_none (take (c.args.to - old.from) (drop old.from m.marks.now)) (from_on old.from m.biases.now) old.narrow w.in_ok-narrow.narrow w.in_ok-narrow.ensures (sym (ap (λ (r : Ready). r.narrow) w.self-is) ∙ none)
        | then-not-are_unmarked+in_ok-narrow+in-None-1 w ↦ brought_none (take (c.args.to - old.from) (drop old.from m.marks.now)) (from_on old.from m.biases.now) old.narrow w.in_ok-narrow.narrow w.in_ok-narrow.ensures (sym (ap (λ (r : Ready). r.narrow) w.self-is) ∙ none)
        | else-not-are_unmarked w ↦ sym (ap (λ (r : Ready). r.narrow) w.self-is) ∙ none
      ]));
    }

pub returns-then-is_none-clause-from : goal.returns-then-is_none-clause-from
returns-then-is_none-clause-from c some = absurd (some (none_cases c.args.self.now.narrow c.if-is_none.ensures))
