use Rattle.std.proofs.Common.{ℕ, ◌<◌, ◌^◌, List, All, ap, ◌∙◌, subst}
use Rattle.row_parts.specs.declared.row.Row.{Row}
use Rattle.fetch_ways.specs.Internal.Keeping.{ways_of}
use Rattle.fetch_ways.proofs.Collected.{collected}
use Rattle.fetch_ways.proofs.making.fetch_ways.Goals as goal

pub returns : goal.returns
returns g c = λ t ground.
    collected (g.M.Words.at c.args.m.now) c.args.ram.now c.args.feet.now c.args.hart c.args.view c.args.pc c.args.forms.now t
    c.in_ok-page.page c.in_ok-firsts.firsts.items c.deref-5.result.now c.in_ok-found.found.items c.in_ok-ways.ways.items
    (record {
      pass = c.set_laws.ensures.pass;
      tests = c.set_laws.ensures.tests;
      rows = c.rows_are_walks.ensures.rows;
      forms = c.rows_are_walks.ensures.forms;
      entries = c.rows_serve_leaves.ensures.entries;
      fetches = c.rows_serve_leaves.ensures.fetches;
    })
    (record {
      tables = subst (λ (xs : List ℕ). All (λ t. t < 2 ^ 32) xs) c.deref.ensures.value c.form_law.ensures.tables;
      pool = subst (λ (xs : List ℕ). All (λ p. p < 2 ^ 32) xs) c.deref-2.ensures.value c.form_law.ensures.pool;
      flags = subst (λ (xs : List ℕ). All (λ b. b < 256) xs) c.deref-3.ensures.value c.form_law.ensures.flags;
    })
    c.requires c.ranges.pc.fits c.in_ok-page.ensures c.in_ok-found.ensures c.in_ok-firsts.ensures
    (c.deref-5.ensures.value ∙ c.in_ok-push.ensures.items)
    (c.in_ok-ways.ensures ∙ ap (λ (rs : List Row). ways_of (g.M.Words.at c.args.m.now) c.args.feet.now c.args.hart c.args.view c.args.pc c.deref-5.result.now rs) c.deref-4.ensures.value)
    ground
