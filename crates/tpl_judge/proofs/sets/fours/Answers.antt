use Rattle.std.proofs.Common.{◌≡◌, ◌∙◌, ap, List, ℕ, filter}
use Rattle.std.proofs.lemmas.Result.{IfOk-weaker}
use Rattle.dom_set.specs.Elements.{is_in}
use Rattle.tpl_lang.specs.Sets.{fours}
use Rattle.tpl_judge.proofs.Multiples.{power_four, fours_are}
use Rattle.tpl_judge.proofs.sets.fours.Goals as goal

pub from_ranges-requires : goal.from_ranges-requires
from_ranges-requires c = power_four

pub returns : goal.returns
returns c =
    let xs = c.args.set.now in
    let same = ap (λ (ms : List ℕ). filter (is_in ms) xs) c.in_ok-multiples.ensures ∙ fours_are c.set_laws.ensures.pass c.set_laws.ensures.tests xs c.size.ensures.words in
    IfOk-weaker c.and.result (λ s. s ≡ filter (is_in c.in_ok-multiples.multiples) xs) (λ s. s ≡ fours xs) (λ s h. h ∙ same) c.and.ensures
