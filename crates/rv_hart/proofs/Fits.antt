-- What a step records can stand in a file, and what it lacks can be given.
use Rattle.std.proofs.Common.{◌≡◌, ℕ, ◌%◌, zero, suc, Bool, List, Option, Some, None, sym, subst, arith}
use Rattle.std.specs.List.{AllByRecursion}
use Rattle.std.specs.Option.{option_or}
use Rattle.rv_script.specs.declared.access.Access.{Access}
use Rattle.rv_script.specs.declared.place.Place.{Place}
use Rattle.rv_script.specs.declared.place.Place.TheVariants.{Reg, Csr, Word}
use Rattle.rv_script.specs.Folds.{Answer.Does, Answer.Missing as Lacks, Known, Teller}
use Rattle.rv_script.specs.Script.{access_of, place_of}
use Rattle.rv_script.proofs.Results.{lacked, noted_all}
use Rattle.rv_hart.specs.declared.record.Change.{Change}
use Rattle.rv_hart.specs.Asked.{IsAskable, IsNeedable}
use Rattle.rv_hart.specs.Clauses.{CanBeGiven}
use Rattle.rv_hart.specs.Effects.{IsAccess}
use Rattle.rv_hart.specs.Fixed.{Fixed}
use Rattle.rv_hart.specs.Machine.{script}
use Rattle.rv_hart.specs.Sighted.{answer_seen, told_with}
use Rattle.rv_hart.proofs.Askable.{access_fits, asks_places, needable}

-- x0 is known
given_place : (ram : ℕ → Bool) (known : Known) (place : Place) → known (Reg 0) ≡ Some 0 → IsNeedable ram place → known place ≡ None → CanBeGiven ram place
given_place ram known (Reg zero) first h none = absurd (cc (first, none))
given_place ram known (Reg (suc n)) first h none = (omega arith, h)
given_place ram known (Csr addr) first h none = h
given_place ram known (Word addr) first h none = h

-- what has neither a sight nor a value
none_known : (sight value : Option ℕ) → option_or sight value ≡ None → value ≡ None
none_known None value h = h
none_known (Some v) value h = absurd (cc h)

-- the accesses of what was done
pub fit_accesses : (sights : Teller) (f : Fixed) (known : Known) (accesses : List Access) (c : Change) → f.pc % 4 ≡ 0 → Does accesses c ≡ answer_seen sights known (script f) → AllByRecursion IsAccess accesses
fit_accesses sights f known accesses c aligned does = noted_all (IsAskable f.ram) IsAccess access_of (told_with sights known) (access_fits f.ram) (script f) (asks_places f aligned) accesses c (sym does)

-- a place that is missing
pub fit_lacked : (sights : Teller) (f : Fixed) (known : Known) (place : Place) → f.pc % 4 ≡ 0 → known (Reg 0) ≡ Some 0 → Lacks place ≡ answer_seen sights known (script f) → CanBeGiven f.ram place × (known place ≡ None)
fit_lacked sights f known place aligned first lacks =
    let at = lacked (IsAskable f.ram) access_of (told_with sights known) (script f) (asks_places f aligned) place (sym lacks) in
    let none : known place ≡ None = subst (λ (p : Place). known p ≡ None) at.at (none_known (sights at.question) (known (place_of at.question)) at.untold) in
    (given_place f.ram known place first (subst (IsNeedable f.ram) at.at (needable f.ram at.question at.asked)) none, none)
