use Rattle.std.proofs.Common.{ap, ◌∙◌, if◌then◌else◌}
use Rattle.std.specs.Prelude.{Bool}
use Rattle.rv_mem.specs.declared.words.Seen.TheVariants.{Untouched, Vacant}
use Rattle.replay_check.proofs.memory.bare_memory.Goals as goal

pub returns : goal.returns
returns c = λ n. c.in_ok-new.ensures n ∙ ap (λ (b : Bool). if b then Untouched else Vacant) (c.in_ok-ram.ensures n)
