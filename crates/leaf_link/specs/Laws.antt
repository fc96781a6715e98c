-- That what fits stands one to one for what is wanted.
use Rattle.std.specs.Prelude.{◌≡◌}
use Rattle.rv_script.specs.declared.place.Place.{Place}
use Rattle.rv_script.specs.Folds.{Known}
use Rattle.fd_prob.specs.declared.slot.Slot.{Slot}
use Rattle.leaf_link.specs.Values.{Values}

-- f takes the values that fit onto the wanted places, no two to one, and each is the values of its places
pub record OneToOne (Fitting : Values → Type 0) (Wanted : Known → Type 0) (f : Values → Known) (values : (new : Known) → Wanted new → Values) : Type 0 where
  pub into : (x : Values) → Fitting x → Wanted (f x)
  pub apart : (x y : Values) → Fitting x → Fitting y → ((place : Place) → f x place ≡ f y place) → (s : Slot) → x s ≡ y s
  pub are_values : (x : Values) (fits : Fitting x) (s : Slot) → x s ≡ values (f x) (into x fits) s
  pub onto : (new : Known) (wanted : Wanted new) → (x : Values) × Fitting x × ((place : Place) → f x place ≡ new place) × ((s : Slot) → x s ≡ values new wanted s)
