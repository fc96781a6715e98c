use Rattle.std.proofs.Common.{◌≡◌, ◌∙◌, ◌∷◌, List, ℕ, map, codes, string_bytes, sym, IfOk, IfErr, rules, subst}
use Rattle.std.proofs.lemmas.Option.{same_Some}
use Rattle.std.proofs.lemmas.Result.{IfOk-weaker}
use Rattle.tool_words.specs.Commands.{IsAsked}
use Rattle.tool_words.specs.declared.command.Command.{Command}
use Rattle.tool_words.specs.declared.error.NoCommand.TheVariants.{Usage}
use Rattle.tool_words.proofs.command.Command.asked.Goals as goal

pub returns-clause-only : goal.returns-clause-only
returns-clause-only c =
    let words : map (λ w. w.now) c.as_slice.result.now ≡ codes "testgen" ∷ map (λ s. string_bytes s) c.args.words.now = search rules in
    subst (λ (ws : List (List ℕ)). IfOk c.command_in.result (λ x. (other : Command) → IsAsked ws other → x ≡ other)) words
    (IfOk-weaker c.command_in.result _ _ (λ x found other also. same_Some _ _ (sym found.asked ∙ also.asked)) c.command_in.ensures.found)

pub returns-clause-usage : goal.returns-clause-usage
returns-clause-usage c =
    let words : map (λ w. w.now) c.as_slice.result.now ≡ codes "testgen" ∷ map (λ s. string_bytes s) c.args.words.now = search rules in
    subst (λ (ws : List (List ℕ)). IfErr c.command_in.result (λ e. e ≡ Usage → (command : Command) → IsAsked ws command → ⊥)) words c.command_in.ensures.usage
