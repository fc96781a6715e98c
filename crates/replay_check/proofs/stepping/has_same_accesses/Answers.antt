use Rattle.std.proofs.Common.{sym, ◌∙◌, rules}
use Rattle.std.proofs.lemmas.Slice.Eq.{slice_eq-Decides}
use Rattle.replay_check.proofs.stepping.has_same_accesses.Goals as goal

pub returns : goal.returns
returns c =
    let same = slice_eq-Decides (λ a b. search rules) c.as_slice.result.now c.as_slice-2.result.now c.eq.result c.eq.ensures in
    ((λ is. sym c.as_slice.ensures ∙ same.0 is ∙ c.as_slice-2.ensures), λ e. same.1 (c.as_slice.ensures ∙ e ∙ sym c.as_slice-2.ensures))
