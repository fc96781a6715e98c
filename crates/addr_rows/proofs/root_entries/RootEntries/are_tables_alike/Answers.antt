use Rattle.std.proofs.Common.{◌≡◌, ◌==◌, false, ◌/◌, ◌%◌, ◌^◌, arith}
use Rattle.addr_rows.specs.Combinations.{is_table, root_frame}
use Rattle.addr_rows.specs.Scenes.{setting_of}
use Rattle.addr_rows.proofs.Leading.{tables_alike}
use Rattle.addr_rows.proofs.OnePage.{index_within}
use Rattle.addr_rows.proofs.root_entries.RootEntries.are_tables_alike.Goals as goal

pub returns : goal.returns
returns g c = λ h x leaf inside.
    let within = index_within c.args.self.now.indices.first c.args.self.now.indices.end x inside in
    let first : (c.args.f == root_frame c.args.self.now.scene.now.view) ≡ false = grind (arith, c.if-f-root.false, c.root_frame-root.ensures) in
    let second : (c.args.g == root_frame c.args.self.now.scene.now.view) ≡ false = grind (arith, c.if-g-root.false, c.root_frame-root.ensures) in
    let tables : is_table c.args.self.now.scene.now.tables.items c.args.f ≡ is_table c.args.self.now.scene.now.tables.items c.args.g = grind (arith, c.if-is_table.false, c.is_table.ensures, c.is_table-2.ensures) in
    tables_alike (g.M.Words.at c.args.self.now.memory.now) (setting_of c.args.self.now.scene.now) c.args.f c.args.g x leaf first second tables
    (c.are_entries_same.ensures h (x / 2 ^ 12 % 2 ^ 10) within.0 within.1)
