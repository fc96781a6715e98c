use Rattle.std.proofs.Common.{Bool, true, ◌&&◌, List, ◌++◌, sym, ap, ◌∙◌}
use Rattle.std.proofs.lemmas.List.{append-nil}
use Rattle.dom_set.specs.Elements.{is_in}
use Rattle.rv_mem.specs.declared.words.Seen.TheVariants.{Untouched}
use Rattle.row_parts.specs.Gaps.{are_indices_equal}
use Rattle.row_parts.specs.Rows.{End, when, is_of, ends_in}
use Rattle.addr_rows.specs.Combinations.{at_second}
use Rattle.addr_rows.specs.Scenes.{setting_of}
use Rattle.addr_rows.proofs.Groups.{is_in_none}
use Rattle.addr_rows.proofs.Fresh.{apart_second, counted_second}
use Rattle.addr_rows.proofs.scene.Scene.push_apart.Goals as goal

pub returns-then-is_empty : goal.returns-then-is_empty
returns-then-is_empty c = λ x root leaf small.
    let left : Bool = is_in c.in_ok-left-in-Some.left x in
    let word : Bool = is_of c.args.own.now root in
    sym (append-nil (ends_in c.args.rows.now.items x root leaf))
    ∙ ap (λ (es : List End). ends_in c.args.rows.now.items x root leaf ++ es)
    (ap (λ (b : Bool). when (b && word) (at_second (setting_of c.args.self.now) true x Untouched leaf)) (sym (is_in_none c.in_ok-left-in-Some.left x (c.is_empty.ensures c.if-is_empty.true)))
    ∙ apart_second (setting_of c.args.self.now) x leaf left (is_in c.args.set.now x) word (are_indices_equal x) (c.in_ok-left-in-Some.ensures x small))

pub returns-in_ok-push_new_seconds-in-Some : goal.returns-in_ok-push_new_seconds-in-Some
returns-in_ok-push_new_seconds-in-Some c = λ x root leaf small.
    c.in_ok-push_new_seconds-in-Some.ensures x root leaf small
    ∙ ap (λ (es : List End). ends_in c.args.rows.now.items x root leaf ++ es)
    (apart_second (setting_of c.args.self.now) x leaf (is_in c.in_ok-left-in-Some.left x) (is_in c.args.set.now x) (is_of c.args.own.now root) (are_indices_equal x) (c.in_ok-left-in-Some.ensures x small))

pub returns-in_ok-push_new_seconds-in-None : goal.returns-in_ok-push_new_seconds-in-None
returns-in_ok-push_new_seconds-in-None c = λ x root leaf small.
    c.in_ok-push_new_seconds-in-None.ensures x root leaf small
    ∙ ap (λ (es : List End). ends_in c.args.rows.now.items x root leaf ++ es)
    (counted_second (setting_of c.args.self.now) x leaf (is_in c.args.set.now x && is_of c.args.own.now root) (are_indices_equal x))
