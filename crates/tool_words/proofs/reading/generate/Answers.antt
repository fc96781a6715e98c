use Rattle.std.proofs.Common.{rules, ap₂, ◌≡◌, ◌∙◌}
use Rattle.clap.specs.Words.{rule_of, with_rule}
use Rattle.tool_words.specs.App.{nodes_rule, seed_rule, turns_rule}
use Rattle.tool_words.proofs.reading.generate.Goals as goal

pub returns-clause-app : goal.returns-clause-app
returns-clause-app c =
    let seed : rule_of c.required-seed.result ≡ seed_rule = search rules in
    let nodes : rule_of c.default_value-nodes.result ≡ nodes_rule = search rules in
    let turns : rule_of c.default_value-turns.result ≡ turns_rule = search rules in
    c.in_ok-command.ensures.shape (search rules)
    ∙ ap₂ with_rule (c.in_ok-arg-2.ensures.shape (search rules) ∙ ap₂ with_rule (c.in_ok-arg.ensures.shape (search rules) ∙ ap₂ with_rule c.new.ensures.app seed) nodes) turns
