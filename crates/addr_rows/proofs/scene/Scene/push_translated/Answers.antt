use Rattle.std.proofs.Common.{◌≡◌, ℕ, ◌+◌, ◌*◌, ◌/◌, ◌^◌, true, List, ◌++◌, Option, subst, ap, ◌∙◌}
use Rattle.std.specs.Prelude.{IfSome}
use Rattle.dom_set.specs.Elements.{is_in}
use Rattle.rv_mem.specs.declared.words.Seen.{Seen}
use Rattle.row_parts.specs.Classes.{seen_at, entry_at}
use Rattle.row_parts.specs.Rows.{End, ends_in}
use Rattle.addr_rows.specs.Combinations.{at_root, root_frame}
use Rattle.addr_rows.specs.Scenes.{setting_of}
use Rattle.addr_rows.proofs.OnePage.{on_page, root_of}
use Rattle.addr_rows.proofs.scene.Scene.push_translated.Goals as goal

pub returns-in_ok-push_seen_root-in-Some : goal.returns-in_ok-push_seen_root-in-Some
returns-in_ok-push_seen_root-in-Some g c = λ x root leaf small.
    let at : ℕ → Seen = g.M.Words.at c.args.m.now in
    let frame : ℕ = root_frame c.args.self.now.view in
    let clause = subst (λ (o : Option ℕ). IfSome o (λ (p : ℕ). (y : ℕ) → is_in c.args.set.now y ≡ true → y / 2 ^ 12 ≡ p)) c.in-Some.is c.in_ok-page.ensures in
    let seen : c.word_at-seen.result ≡ entry_at at frame (c.in-Some.page / 1024) =
    c.word_at-seen.ensures ∙ ap (λ (n : ℕ). seen_at at (n * 4096 + c.from-in-Some.result * 4)) (c.from.ensures ∙ c.root_frame.ensures) ∙ ap (λ (n : ℕ). seen_at at (frame * 4096 + n * 4)) c.from-in-Some.ensures in
    c.in_ok-push_seen_root-in-Some.ensures x root leaf small
    ∙ ap (λ (es : List End). ends_in c.args.rows.now.items x root leaf ++ es)
    (on_page at frame (c.in-Some.page / 1024) (x / 2 ^ 22) (λ (s : Seen). at_root at (setting_of c.args.self.now) x s root leaf) (is_in c.args.set.now x) c.word_at-seen.result seen
    (λ t. root_of c.in-Some.page x (clause x t)))
