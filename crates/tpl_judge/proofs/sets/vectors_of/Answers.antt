use Rattle.std.proofs.Common.{◌≡◌, ◌∙◌, ap, List, ℕ, sym}
use Rattle.std.proofs.lemmas.Result.{IfOk-weaker}
use Rattle.tpl_lang.specs.Parsing.{vectors_of}
use Rattle.tpl_lang.specs.Sets.{listed}
use Rattle.tpl_judge.proofs.Multiples.{power_four, vectors_are}
use Rattle.tpl_judge.proofs.sets.vectors_of.Goals as goal

pub from_ranges-requires : goal.from_ranges-requires
from_ranges-requires c = power_four

pub returns-in_ok-ranges-in-None : goal.returns-in_ok-ranges-in-None
returns-in_ok-ranges-in-None c =
    let pool = c.args.pool.now in
    let ranges = c.deref.ensures.value ∙ c.in_ok-ranges-in-None.ensures in
    let same = ap (λ (rs : List (ℕ × ℕ)). listed rs 4) ranges ∙ vectors_are c.set_laws.ensures.same pool ∙ ap (λ vectors. vectors_of vectors pool) (sym c.in-None.is) in
    IfOk-weaker c.from_ranges.result (λ s. s ≡ listed c.deref.result.now 4) (λ s. s ≡ vectors_of c.args.vectors pool) (λ s h. h ∙ same) c.from_ranges.ensures
