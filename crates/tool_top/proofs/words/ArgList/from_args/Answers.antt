use Rattle.std.proofs.Common.{◌≡◌, ◌∙◌, ap, List, length, map, drop, string_bytes, Vec, String, Global, rules}
use Rattle.std.specs.Vec.Iter.{into_iter_items}
use Rattle.std.proofs.IntoIterSteps.{All-taken}
use Rattle.tool_top.proofs.WordLemmas.{first_dropped, none_dropped}
use Rattle.tool_top.proofs.words.ArgList.from_args.Goals.{then-not-is_empty, else-not-is_empty}
use Rattle.tool_top.proofs.words.ArgList.from_args.Goals as goal

pub returns : goal.returns
returns c =
    let ran = c.in_ok-texts.ensures.ran in
    let end = ran.1.2 tt in
    let all : c.in_ok-texts.texts.items ≡ into_iter_items c.args.args = ran.2.0 ∙ All-taken c.args.args ran.0 (end.0, (ran.1.0, ran.1.1, end.1)) in
    elim c.if-not-is_empty.branch [
      | then-not-is_empty w ↦
          ap (λ (v : Vec (String Global) Global). map (λ s. string_bytes s) v.items) w.texts-is ∙ ap (map (λ s. string_bytes s)) w.remove.ensures.items
          ∙ first_dropped (λ s. string_bytes s) c.in_ok-texts.texts.items ∙ ap (λ (l : List (String Global)). drop 1 (map (λ s. string_bytes s) l)) all
      | else-not-is_empty w ↦
          let empty : length c.in_ok-texts.texts.items ≡ 0 = search rules in
          ap (λ (v : Vec (String Global) Global). map (λ s. string_bytes s) v.items) w.texts-is
          ∙ none_dropped (λ s. string_bytes s) c.in_ok-texts.texts.items empty ∙ ap (λ (l : List (String Global)). drop 1 (map (λ s. string_bytes s) l)) all
    ]
