use Rattle.std.proofs.Common.{Bool, ◌&&◌, ◌++◌, ap, ◌∙◌}
use Rattle.row_parts.specs.Gaps.{counts}
use Rattle.row_parts.specs.Rows.{end_at, ends_in, found, is_of}
use Rattle.row_parts.proofs.splitting.push_chosen.Goals as goal

pub returns : goal.returns
returns c = λ x root leaf small.
    c.in_ok-push_part.ensures x root leaf small
    ∙ ap (λ (b : Bool). ends_in c.args.rows.now.items x root leaf ++ found (counts c.args.news.now.apart x && (b && (is_of c.args.news.now.root root && is_of c.args.news.now.leaf leaf))) (end_at c.args.end x)) (c.in_ok-ea.ensures x small)
