use Rattle.std.proofs.Common.{ℕ, ◌+◌, Bool, ◌&&◌, drop, ap, ◌∙◌}
use Rattle.dom_set.specs.Elements.{is_in}
use Rattle.row_parts.specs.declared.classes.Level.TheVariants.{Second}
use Rattle.row_parts.proofs.Lists.{any_rest}
use Rattle.data_bytes.proofs.Sets.{filter_leaves}
use Rattle.data_ways.specs.Internal.Barring.{is_stored}
use Rattle.data_ways.specs.Internal.Tables.{any_pointer, entry_of}
use Rattle.data_ways.proofs.Parted.{pointer_further}
use Rattle.data_ways.proofs.walker.Walker.stored_behind.Goals as goal

pub loop-pointer-preserved : goal.loop-pointer-preserved
loop-pointer-preserved g c = λ ea small.
    let test : ℕ → Bool = λ frame. is_stored (g.M.Words.at c.args.self.now.memory.now) c.args.self.now.access c.args.end ea (entry_of Second frame ea) in
    let all = c.args.pointers.now in
    let i = c.loop-pointer.pointer-index in
    let p = c.pointer-item.result in
    pointer_further (is_in c.loop-pointer.stored ea) (is_in c.in_ok-stored.stored ea) (is_in c.in_ok-here.here ea) (is_in p.ea ea) (test p.frame) (any_pointer (drop i all) test ea) (any_pointer (drop (i + 1) all) test ea) (any_pointer all test ea)
    (c.in_ok-stored.ensures ea small)
    (filter_leaves (is_in p.ea) c.in_ok-table.table c.in_ok-here.here c.in_ok-here.ensures ea ∙ ap (λ (b : Bool). b && is_in p.ea ea) (c.in_ok-table.ensures ea small))
    (any_rest (λ q. is_in q.ea ea && test q.frame) all i p c.loop-pointer-test.true c.pointer-item.is)
    (c.loop-pointer.invariant ea small)
