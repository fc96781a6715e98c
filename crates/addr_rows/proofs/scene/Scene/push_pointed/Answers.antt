use Rattle.std.proofs.Common.{◌≡◌, ℕ, ◌+◌, ◌*◌, ◌/◌, ◌%◌, ◌^◌, true, not, ◌&&◌, List, ◌++◌, Option, subst, ap, ◌∙◌}
use Rattle.std.specs.Prelude.{IfSome}
use Rattle.dom_set.specs.Elements.{is_in}
use Rattle.rv_mem.specs.declared.words.Seen.{Seen}
use Rattle.row_parts.specs.Classes.{seen_at, entry_at}
use Rattle.row_parts.specs.Rows.{End, is_of, ends_in}
use Rattle.addr_rows.specs.Combinations.{at_second, is_own_entry, is_table, pointed}
use Rattle.addr_rows.specs.Scenes.{setting_of, is_some}
use Rattle.addr_rows.proofs.OnePage.{on_page, second_of, and_left}
use Rattle.addr_rows.proofs.scene.Scene.push_pointed.Goals as goal

pub returns-in_ok-push_seen_second-in-Some : goal.returns-in_ok-push_seen_second-in-Some
unfolding pointed
returns-in_ok-push_seen_second-in-Some g c = λ x root leaf small.
    let at : ℕ → Seen = g.M.Words.at c.args.m.now in
    let clause = subst (λ (o : Option ℕ). IfSome o (λ (p : ℕ). (y : ℕ) → is_in c.args.set.now y ≡ true → y / 2 ^ 12 ≡ p)) c.in-Some.is c.in_ok-page.ensures in
    let seen : c.word_at-seen.result ≡ entry_at at c.args.frame (c.in-Some.page % 1024) =
    c.word_at-seen.ensures ∙ ap (λ (n : ℕ). seen_at at (n * 4096 + c.from-in-Some.result * 4)) c.from.ensures ∙ ap (λ (n : ℕ). seen_at at (c.args.frame * 4096 + n * 4)) c.from-in-Some.ensures in
    c.in_ok-push_seen_second-in-Some.ensures x root leaf small
    ∙ ap (λ (es : List End). ends_in c.args.rows.now.items x root leaf ++ es)
    (on_page at c.args.frame (c.in-Some.page % 1024) (x / 2 ^ 12 % 2 ^ 10)
    (λ (s : Seen). at_second (setting_of c.args.self.now) (is_table c.args.self.now.tables.items c.args.frame && not (is_own_entry (setting_of c.args.self.now) (is_some c.args.own.now) c.args.frame x)) x s leaf)
    (is_in c.args.set.now x && is_of c.args.own.now root) c.word_at-seen.result seen
    (λ t. second_of c.in-Some.page x (clause x (and_left (is_in c.args.set.now x) (is_of c.args.own.now root) t))))
