use Rattle.std.proofs.Common.{rules, ap, ap₂, ◌≡◌, ◌∙◌}
use Rattle.clap.specs.Words.{App, app_of, with_subcommand}
use Rattle.tool_words.specs.App.{name_app}
use Rattle.tool_words.proofs.reading.testgen.Goals as goal

pub returns : goal.returns
returns c =
    let name : app_of c.subcommand_required.result ≡ name_app = search rules in
    c.in_ok-whole.ensures.shape c.in_ok-demonstrate.ensures.local
    ∙ ap₂ with_subcommand (c.in_ok-subcommand-4.ensures.shape c.new-3.ensures.local
    ∙ ap₂ with_subcommand (c.in_ok-subcommand-3.ensures.shape c.in_ok-execute.ensures.local
    ∙ ap₂ with_subcommand (c.in_ok-subcommand-2.ensures.shape c.new-2.ensures.local
    ∙ ap₂ with_subcommand (c.in_ok-subcommand.ensures.shape c.in_ok-generate.ensures.local
    ∙ ap₂ with_subcommand name (ap (λ (a : App). a.top) c.in_ok-generate.ensures.app))
    (ap (λ (a : App). a.top) c.new-2.ensures.app))
    (ap (λ (a : App). a.top) c.in_ok-execute.ensures.app))
    (ap (λ (a : App). a.top) c.new-3.ensures.app))
    (ap (λ (a : App). a.top) c.in_ok-demonstrate.ensures.app)
