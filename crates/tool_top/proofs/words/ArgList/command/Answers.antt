use Rattle.std.proofs.Common.{◌≡◌, ◌∙◌, ℕ, List, ap, subst, map, string_bytes}
use Rattle.std.specs.Prelude.{IfErr, IfOk}
use Rattle.tool_words.specs.declared.command.Command.{Command}
use Rattle.tool_words.specs.declared.error.NoCommand.TheVariants as why
use Rattle.tool_words.specs.Commands.{IsCommand}
use Rattle.tool_top.proofs.words.ArgList.command.Goals as goal

pub returns-clause-found : goal.returns-clause-found
returns-clause-found c =
    subst (λ (words : List (List ℕ)). IfOk c.asked.result (λ command. IsCommand words command)) (ap (map (λ s. string_bytes s)) c.as_slice.ensures.value ∙ c.self.view_is) c.asked.ensures.found

pub returns-clause-only : goal.returns-clause-only
returns-clause-only c =
    subst (λ (words : List (List ℕ)). IfOk c.asked.result (λ command. (other : Command) → IsCommand words other → command ≡ other)) (ap (map (λ s. string_bytes s)) c.as_slice.ensures.value ∙ c.self.view_is) c.asked.ensures.only

pub returns-clause-usage : goal.returns-clause-usage
returns-clause-usage c =
    subst (λ (words : List (List ℕ)). IfErr c.asked.result (λ e. e ≡ why.Usage → (command : Command) → IsCommand words command → ⊥)) (ap (map (λ s. string_bytes s)) c.as_slice.ensures.value ∙ c.self.view_is) c.asked.ensures.usage
