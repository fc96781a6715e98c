-- What a statement without a fault has not.
use Rattle.std.proofs.Common.{◌≡◌, Bool, true, false, not, ◌&&◌, ◌||◌, Option, Some, None, if◌then◌else◌, refl}
use Rattle.std.proofs.lemmas.Bool.{not-false, or_parts}
use Rattle.tpl_lang.specs.declared.fault.Kind.{Kind}
use Rattle.tpl_lang.specs.declared.fault.Kind.TheVariants as kinds
use Rattle.tpl_lang.specs.Faults.{is_name_twice, is_phrase_above, is_phrase_long, allows, is_last, is_unknown, is_double, is_empty, is_deep, is_long, passes_count}
use Rattle.tpl_lang.specs.Kinds.{fault_of}
use Rattle.tpl_lang.specs.Known.{Known}
use Rattle.tpl_lang.specs.Phrases.{Phrase}

-- no fault is found by a list of questions where the first finds one
unfold_if : (b : Bool) (k : Kind) (rest : Option Kind) → (if b then Some k else rest) ≡ None → (b ≡ false) × (rest ≡ None)
unfold_if true k rest h = absurd cc
unfold_if false k rest h = (refl, h)

pub faultless : (k : Known) (last : Bool) (p : Phrase) → fault_of k last p ≡ None → (allows k p ≡ true) × (is_phrase_above p ≡ false) × (is_double k p ≡ false) × (passes_count k p ≡ false)
unfolding fault_of
faultless k last p fine =
    let place = unfold_if (not (allows k p)) kinds.Unexpected _ fine in
    let end = unfold_if (last && not (is_last k p)) kinds.Unexpected _ place.1 in
    let above = unfold_if (is_phrase_above p) kinds.NumberTooLarge _ end.1 in
    let unknown = unfold_if (is_unknown k p) kinds.UnknownName _ above.1 in
    let double = unfold_if (is_double k p) kinds.DoubleName _ unknown.1 in
    let twice = unfold_if (is_name_twice p) kinds.NameTwiceInLeaf _ double.1 in
    let empty = unfold_if (is_empty k p) kinds.EmptyDomain _ twice.1 in
    let deep = unfold_if (is_deep k p) kinds.TooDeep _ empty.1 in
    let long = unfold_if (is_long k p) kinds.TooLong _ deep.1 in
    let many = unfold_if (is_phrase_long p || passes_count k p) kinds.TooMany _ long.1 in
    (not-false (allows k p) place.0, above.0, double.0, (or_parts (is_phrase_long p) (passes_count k p) many.0).1)
