use Rattle.std.proofs.Common.{Bool, ◌||◌, Option, map, ap, ◌∙◌}
use Rattle.data_ways.specs.declared.barring.NewRoot.{NewRoot}
use Rattle.data_ways.specs.declared.way.DataEnd.{DataEnd}
use Rattle.data_ways.specs.Internal.Making.{in_ways, row_has_to}
use Rattle.data_ways.proofs.Told.{row_is}
use Rattle.data_ways.proofs.walker.Walker.push_row.Goals as goal

pub returns : goal.returns
returns g c = λ test x first second small.
    let self = c.args.self.now in
    let at = g.M.Words.at self.memory.now in
    let row = c.args.row.now in
    c.in_ok-push_part.ensures test x first second small
    ∙ ap (λ (b : Bool). in_ways test c.args.ways.now.items x first second || b)
    (row_is at self.feet.now self.hart self.view self.access c.in-Some.end row c.args.news.now c.in_ok-barred.barred c.in_ok-ea.ea (test c.in-Some.end) x first second small c.in_ok-barred.ensures (c.in_ok-ea.ensures ∙ c.in_ok-left.ensures)
    ∙ ap (λ (o : Option DataEnd). row_has_to at self.feet.now self.hart self.view self.access test (map (λ (new : NewRoot). new.value) c.args.news.now) row o x first second) c.in-Some.ensures)
