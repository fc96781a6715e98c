-- Values of a variable that are in the sets that relations have for it.
use Rattle.std.specs.Prelude.{ℕ, Bool, true, not, ◌||◌, List}
use Rattle.std.specs.List.{list_all}
use Rattle.dom_set.specs.Elements.{is_in}
use Rattle.fd_prob.specs.declared.relation.Rel.{Rel}
use Rattle.fd_prob.specs.declared.relation.Rel.TheVariants.{In}
use Rattle.fd_prob.specs.declared.slot.Slot.{Slot}
use Rattle.fd_prob.specs.Mentions.{is_slot}

-- a relation that has a set for the variable has the value in it
abbrev pub lets : Rel → Slot → ℕ → Bool
lets (In t set) s v = not (is_slot t s) || is_in set v
lets _ s v = true

abbrev pub all_let : List Rel → Slot → ℕ → Bool
all_let rels s v = list_all (λ r. lets r s v) rels
