use Rattle.std.proofs.Common.{ℕ, ◌≡◌, ◌<◌, ◌^◌, List, [], All, ap, ◌∙◌, subst, map}
use Rattle.dom_set.specs.Elements.{is_in}
use Rattle.sv_walk.specs.declared.entry.Kind.{Kind}
use Rattle.row_parts.specs.declared.row.Row.{Row}
use Rattle.row_parts.specs.Rows.{Adds, when}
use Rattle.addr_rows.specs.Combinations.{ways}
use Rattle.addr_rows.specs.Scenes.{setting_with}
use Rattle.data_ways.specs.declared.barring.NewRoot.{NewRoot}
use Rattle.data_ways.specs.Internal.Making.{rows_have}
use Rattle.data_ways.proofs.Collected.{collected}
use Rattle.data_ways.proofs.making.data_ways.Goals as goal

pub returns : goal.returns
returns g c = λ t ground.
    let at = g.M.Words.at c.args.m.now in
    let listed : List ℕ = map (λ (new : NewRoot). new.value) c.deref-5.result.now in
    let listed_is : listed ≡ c.deref-4.result.now = ap (λ (ns : List NewRoot). map (λ new. new.value) ns) c.deref-5.ensures.value ∙ c.in_ok-news.ensures.values in
    collected at c.args.ram.now c.args.feet.now c.args.hart c.args.view c.args.access (is_in c.args.pages.now) c.args.forms.now t
    c.in_ok-firsts.firsts.items listed c.in_ok-found.found.items c.in_ok-ways.ways.items
    (record {
      rows = c.rows_are_walks.ensures.rows;
      walks = c.rows_are_walks.ensures.walks;
      forms = c.rows_are_walks.ensures.forms;
      entries = c.rows_serve_leaves.ensures.entries;
      loads = c.rows_serve_leaves.ensures.loads;
      stores = c.rows_serve_leaves.ensures.stores;
    })
    (record {
      tables = subst (λ (xs : List ℕ). All (λ t. t < 2 ^ 32) xs) c.deref.ensures.value c.form_law.ensures.tables;
      pool = subst (λ (xs : List ℕ). All (λ p. p < 2 ^ 32) xs) c.deref-2.ensures.value c.form_law.ensures.pool;
      flags = subst (λ (xs : List ℕ). All (λ b. b < 256) xs) c.deref-3.ensures.value c.form_law.ensures.flags;
    })
    c.requires
    (subst (λ (k : Kind). Adds [] c.in_ok-found.found.items (λ x root leaf. when (is_in c.args.pages.now x) (ways at (setting_with c.args.ram.now c.args.view k c.args.forms.now) x root leaf))) c.kind_of.ensures c.in_ok-found.ensures)
    c.in_ok-firsts.ensures
    (listed_is ∙ c.deref-4.ensures.value ∙ c.in_ok-push.ensures.items)
    (λ test ea first second small.
    c.in_ok-ways.ensures test ea first second small
    ∙ ap (λ (rs : List Row). rows_have at c.args.feet.now c.args.hart c.args.view c.args.access test listed rs ea first second) c.deref-6.ensures.value)
    ground
