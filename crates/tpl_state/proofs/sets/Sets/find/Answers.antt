use Rattle.std.proofs.Common.{◌≡◌, ℕ, List, Option, Some, None, is_some, option_map, Bor, refl, ap, sym, ◌∙◌}
use Rattle.tpl_lang.specs.Sets.{NamedSet, find_set}
use Rattle.tpl_state.specs.Internal.Finding.{elements_of_set}
use Rattle.tpl_state.proofs.Found.{set_found}
use Rattle.tpl_state.proofs.sets.Sets.find.Goals as goal

value : goal.returns-clause-value
value c = c.get.ensures.value ∙ set_found c.args.name.now c.self.inside.sets.entries ∙ ap (λ (sets : List NamedSet). elements_of_set (find_set sets c.args.name.now)) c.self.view_is

pub returns-clause-value : goal.returns-clause-value
returns-clause-value c = value c

lent : {T : Type 0} (o : Option (Bor T)) → is_some (option_map (λ s. s.now) o) ≡ is_some o
lent None = refl
lent (Some s) = refl

kept : (o : Option NamedSet) → is_some (elements_of_set o) ≡ is_some o
kept None = refl
kept (Some s) = refl

pub returns-clause-found : goal.returns-clause-found
returns-clause-found c = sym (lent c.get.result) ∙ ap (λ (o : Option (List ℕ)). is_some o) (value c) ∙ kept (find_set c.args.self.now c.args.name.now)
