use Rattle.std.proofs.Common.{true, List, sym, ap, ◌∙◌}
use Rattle.row_parts.specs.Classes.{has_index}
use Rattle.addr_rows.specs.Combinations.{rooted}
use Rattle.row_parts.specs.Rows.{End, when}
use Rattle.addr_rows.specs.Scenes.{setting_of}
use Rattle.addr_rows.proofs.Leading.{roots_alike, pointers_alike, when_alike}
use Rattle.addr_rows.proofs.root_entries.RootEntriesEntries.are_alike.Goals as goal

pub returns-then-is_same_target : goal.returns-then-is_same_target
returns-then-is_same_target g c = λ h x leaf.
    ap (λ (es : List End). when (has_index c.args.self.now.indices.first c.args.self.now.indices.end x) es)
    (roots_alike (g.M.Words.at c.args.self.now.memory.now) (setting_of c.args.self.now.scene.now) c.args.a c.args.b x leaf
    (sym c.root_target-first.ensures ∙ c.is_same_target.ensures c.if-is_same_target.true ∙ c.root_target-second.ensures))

pub returns-in-Table-Table : goal.returns-in-Table-Table
returns-in-Table-Table g c = λ h x leaf.
    when_alike (has_index c.args.self.now.indices.first c.args.self.now.indices.end x)
    (rooted (g.M.Words.at c.args.self.now.memory.now) (setting_of c.args.self.now.scene.now) true c.args.a x leaf)
    (rooted (g.M.Words.at c.args.self.now.memory.now) (setting_of c.args.self.now.scene.now) true c.args.b x leaf)
    (λ t. pointers_alike (g.M.Words.at c.args.self.now.memory.now) (setting_of c.args.self.now.scene.now) c.args.a c.args.b c.in-Table-Table.f c.in-Table-Table.g x leaf
    (sym c.root_target-first.ensures ∙ c.in-Table-Table.is-0) (sym c.root_target-second.ensures ∙ c.in-Table-Table.is-1) (c.are_tables_alike.ensures h x leaf t))
