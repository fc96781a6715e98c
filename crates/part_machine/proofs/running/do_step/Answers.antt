use Rattle.std.proofs.Common.{◌≡◌, List, map, set, get_or, sym, ap, ◌∙◌}
use Rattle.std.proofs.lemmas.List.{map-set}
use Rattle.rv_mem.specs.Part.{part_at}
use Rattle.rv_script.specs.declared.access.Access.{Access}
use Rattle.rv_hart.specs.declared.record.Stepped.TheVariants.{Did}
use Rattle.rv_hart.specs.Effects.{seen_after}
use Rattle.part_machine.specs.Whole.{Bare, bare, no_hart, record_in}
use Rattle.part_machine.proofs.Changes.{map_at}
use Rattle.part_machine.proofs.Stepping.{stepped_bare, stepped_accesses, stepped_record}
use Rattle.part_machine.proofs.running.do_step.Goals as goal

pub returns-clause-hart : goal.returns-clause-hart
returns-clause-hart c = λ xs d next.
    let is = map_at bare c.args.harts.now.items c.args.k c.index_mut.result.now no_hart c.requires.hart c.index_mut.ensures.value in
    map-set bare c.args.harts.now.items c.args.k c.step.new.h
    ∙ ap (λ (b : Bare). set (map bare c.args.harts.now.items) c.args.k b)
    (stepped_bare c.index_mut.result.now c.step.new.h (part_at c.args.memory.now) c.step.result (get_or (map bare c.args.harts.now.items) c.args.k no_hart) xs d
    (record { answer = c.step.ensures.answer; pc = c.step.ensures.pc; regs = c.step.ensures.regs; privilege = c.step.ensures.privilege; csrs = c.step.ensures.csrs }) is next)

pub returns-clause-memory : goal.returns-clause-memory
returns-clause-memory c = λ xs d next n.
    let is = map_at bare c.args.harts.now.items c.args.k c.index_mut.result.now no_hart c.requires.hart c.index_mut.ensures.value in
    c.step.ensures.memory n
    ∙ ap (λ (ys : List Access). seen_after ys (part_at c.args.memory.now) n)
    (stepped_accesses c.index_mut.result.now (part_at c.args.memory.now) c.step.result (get_or (map bare c.args.harts.now.items) c.args.k no_hart) xs d c.step.ensures.answer is next)

pub returns-clause-record : goal.returns-clause-record
returns-clause-record c = λ xs d next.
    let b : Bare = get_or (map bare c.args.harts.now.items) c.args.k no_hart in
    let at = part_at c.args.memory.now in
    let is = map_at bare c.args.harts.now.items c.args.k c.index_mut.result.now no_hart c.requires.hart c.index_mut.ensures.value in
    let told = stepped_record c.index_mut.result.now at c.step.result b xs d c.step.ensures.answer is next in
    let same : Did c.in-Did.done ≡ Did (record_in (bare c.index_mut.result.now) at xs d) = sym c.in-Did.is ∙ told in
    let done : c.in-Did.done ≡ record_in (bare c.index_mut.result.now) at xs d = cc same in
    done ∙ ap (λ (q : Bare). record_in q at xs d) is
