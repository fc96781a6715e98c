use Rattle.std.proofs.Common.{ℕ, sym, ap, ◌∙◌}
use Rattle.rv_csr.specs.Rows.{TableRow}
use Rattle.rv_csr.specs.State.{lazy_value_at}
use Rattle.rv_csr.specs.Table.{csr_key}
use Rattle.tpl_admit.specs.Starts.{lookup}
use Rattle.replay_check.proofs.Keys.{same_values}
use Rattle.replay_check.proofs.places.is_csr_told.Goals as goal

pub returns : goal.returns
returns c =
    let told = c.value_of.ensures ∙ ap (λ (k : ℕ). lookup c.args.told.now k) (c.key.ensures ∙ ap (λ (r : TableRow). csr_key r.address) c.row_of-row.ensures) in
    let known = c.lazy_at.ensures ∙ ap (λ (a : ℕ). lazy_value_at c.args.hart.now.csrs a) (c.address.ensures ∙ ap (λ (r : TableRow). r.address) c.row_of-row.ensures) in
    let same = same_values c.value_of.result c.lazy_at.result in
    ((λ is. sym told ∙ same.0 (sym c.eq.ensures ∙ is) ∙ known), λ e. c.eq.ensures ∙ same.1 (told ∙ e ∙ sym known))
