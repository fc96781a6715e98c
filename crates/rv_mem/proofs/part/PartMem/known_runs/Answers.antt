use Rattle.std.proofs.Common.{◌/◌, ◌||◌, ◌&&◌, ℕ, List, nat_eq, sym, ap, ◌∙◌}
use Rattle.std.specs.List.{list_any}
use Rattle.rv_mem.specs.Ram.{in_ram}
use Rattle.rv_mem.specs.Runs.{in_runs}
use Rattle.rv_mem.proofs.Runs.{is_of, entries_know, goes_over, or_none}
use Rattle.rv_mem.proofs.part.PartMem.known_runs.Goals as goal

pub loop-number-preserved : goal.loop-number-preserved
loop-number-preserved c x small =
    let test = is_of c.args.self.now.ram (x / 4) in
    goes_over (in_runs c.push_numbered.new.runs.items x) (in_runs c.loop-number.runs.items x) (nat_eq c.in-Some.number.now (x / 4) && in_ram c.args.self.now.ram (x / 4)) (list_any test c.next.new.self)
    (c.in_ok-push_numbered.ensures x small)
    ∙ ap (λ (es : List (ℕ × ℕ)). in_runs c.loop-number.runs.items x || list_any test es) (sym c.in-Some.ensures.steps)
    ∙ c.loop-number.invariant x small

pub returns : goal.returns
returns c x small =
    let test = is_of c.args.self.now.ram (x / 4) in
    sym (or_none (in_runs c.loop-number.runs.items x))
    ∙ ap (λ (es : List (ℕ × ℕ)). in_runs c.loop-number.runs.items x || list_any test es) (sym c.in-None.ensures.steps.0)
    ∙ c.loop-number.invariant x small
    ∙ ap (list_any test) c.into_iter-number-iterator.ensures.into_iter_gives.0
    ∙ entries_know c.args.self.now (x / 4)
