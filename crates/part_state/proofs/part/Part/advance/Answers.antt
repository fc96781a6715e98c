use Rattle.std.proofs.Common.{◌≡◌, List, ◌∙◌, ap, sym}
use Rattle.rv_script.specs.declared.access.Access.{Access}
use Rattle.rv_script.specs.Folds.{Answer.Does}
use Rattle.rv_hart.specs.declared.record.Change.{Change}
use Rattle.rv_hart.specs.declared.record.Record.{Record}
use Rattle.std.proofs.lemmas.Result.{on_ok_weaker, IfOk-weaker}
use Rattle.part_machine.specs.Whole.{Whole, IsReady, stepped, next_of, hart_of, record_in}
use Rattle.part_state.specs.Meaning.{IsClear}
use Rattle.part_state.proofs.States.{changed_here, has_hart, here_for, told_here, told_there}
use Rattle.part_state.proofs.part.Part.advance.Goals as goal

pub advance-requires-clause-hart : goal.advance-requires-clause-hart
advance-requires-clause-hart c = has_hart c.args.self.now c.self.inside.inner c.self.view_is c.self.invariant c.args.hart c.requires.hart

pub advance-requires-clause-ready : goal.advance-requires-clause-ready
advance-requires-clause-ready c = told_there (λ (w : Whole). IsReady c.args.hart w) c.args.self.now c.self.inside.inner c.self.view_is c.self.invariant c.requires.ready

pub advance-requires-clause-clear : goal.advance-requires-clause-clear
advance-requires-clause-clear c = told_there (λ (w : Whole). IsClear c.args.hart w) c.args.self.now c.self.inside.inner c.self.view_is c.self.invariant c.requires.clear

pub returns-clause-now : goal.returns-clause-now
returns-clause-now c = on_ok_weaker c.advance.result
    (λ told. λ xs d next. changed_here (stepped c.args.hart xs d) c.args.self.now c.self.inside.inner c.advance.new.self c.self.view_is c.self.invariant c.advance.ensures.kept
    (told xs d (ap (λ (w : Whole). next_of c.args.hart w) (sym (here_for c.args.self.now c.self.inside.inner c.self.view_is c.self.invariant)) ∙ next)))
    c.advance.ensures.now

pub returns-clause-record : goal.returns-clause-record
returns-clause-record c =
    let Tells : Record → Whole → Type 0 = λ r w. (xs : List Access) (d : Change) → next_of c.args.hart w ≡ Does xs d → r ≡ record_in (hart_of c.args.hart w) w.memory xs d in
    IfOk-weaker c.advance.result _ _ (λ r told. told_here (Tells r) c.args.self.now c.self.inside.inner c.self.view_is c.self.invariant told) c.advance.ensures.record
