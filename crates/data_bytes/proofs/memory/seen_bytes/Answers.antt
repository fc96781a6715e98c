use Rattle.std.proofs.Common.{◌/◌, ◌&&◌, Bool, not, nat_eq, ap, ◌∙◌}
use Rattle.dom_set.specs.Elements.{is_in}
use Rattle.rv_mem.specs.Part.{part_at}
use Rattle.rv_mem.specs.Frames.{in_frames}
use Rattle.data_bytes.proofs.Sets.{runs_are}
use Rattle.data_bytes.proofs.Seeing.{untouched_is}
use Rattle.data_bytes.proofs.memory.seen_bytes.Goals as goal

pub returns-clause-known : goal.returns-clause-known
returns-clause-known c v small = runs_are c.args.runs.now c.in_ok-known.known c.in_ok-known.ensures v small ∙ c.requires.runs v small

pub returns-clause-fresh : goal.returns-clause-fresh
returns-clause-fresh c v small =
    c.in_ok-fresh.ensures v small
    ∙ ap (λ (b : Bool). b && (in_frames c.args.pool.now v && not (nat_eq (v / 4) (c.args.pc / 4))))
    (untouched_is (part_at c.args.mem.now (v / 4)) (is_in c.in_ok-ram.ram v) (is_in c.in_ok-known.known v) (c.in_ok-ram.ensures v small)
    (runs_are c.args.runs.now c.in_ok-known.known c.in_ok-known.ensures v small ∙ c.requires.runs v small))

pub returns-clause-outside : goal.returns-clause-outside
returns-clause-outside c v small = c.in_ok-outside.ensures v small ∙ ap not (c.in_ok-ram.ensures v small)
