use Rattle.std.proofs.Common.{ℕ, ◌≡◌, ◌/◌, ◌^◌, ◌∙◌, ◌&&◌, List, ap, sym, subst, arith}
use Rattle.std.specs.List.{list_any}
use Rattle.rv_mem.specs.declared.words.Seen.{Seen}
use Rattle.row_parts.specs.Classes.{TableOf, has_class}
use Rattle.row_parts.specs.Items.{GivesEach}
use Rattle.data_ways.specs.Internal.Tables.{leads_on}
use Rattle.data_ways.proofs.Parted.{pointed}
use Rattle.data_ways.proofs.pointers.pointers.Goals as goal

pub returns : goal.returns
returns g c = λ test ea small.
    c.in_ok-pointers.ensures test ea small
    ∙ pointed (g.M.Words.at c.args.m.now) c.args.root c.deref-2.result.now c.deref-3.result.now test (ea / 2 ^ 22)
    (subst (λ (t : List Seen). TableOf (g.M.Words.at c.args.m.now) c.args.root t) (sym c.deref-2.ensures.value) c.in_ok-table.ensures)
    (subst (λ (ks : List Seen). GivesEach c.deref-2.result.now ks) (sym c.deref-3.ensures.value) (subst (λ (t : List Seen). GivesEach t c.in_ok-kinds.kinds.items) (c.deref.ensures.value ∙ sym c.deref-2.ensures.value) c.in_ok-kinds.ensures))
    (omega (arith, small))
