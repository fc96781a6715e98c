use Rattle.std.proofs.Common.{◌∙◌}
use Rattle.row_parts.specs.Forms.{is_first, is_second}
use Rattle.fetch_ways.proofs.Listed.{first_same, listed_set, second_same}
use Rattle.fetch_ways.proofs.forms.entry_forms.Goals as goal

pub returns-clause-first : goal.returns-clause-first
returns-clause-first c = λ t has v small.
    listed_set c.set_laws.ensures.pass c.set_laws.ensures.tests (is_first c.args.forms.now) c.in_ok-first.first c.deref.result.now c.in_ok-firsts.firsts.items c.in_ok-first.ensures.elements c.deref.ensures.value c.in_ok-firsts.ensures v small
    ∙ first_same t c.args.forms.now has v

pub returns-clause-second : goal.returns-clause-second
returns-clause-second c = λ t has v small.
    listed_set c.set_laws.ensures.pass c.set_laws.ensures.tests (is_second c.args.forms.now) c.in_ok-second.second c.deref-2.result.now c.in_ok-seconds.seconds.items c.in_ok-second.ensures.elements c.deref-2.ensures.value c.in_ok-seconds.ensures v small
    ∙ second_same t c.args.forms.now has v
