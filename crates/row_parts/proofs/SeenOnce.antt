-- What is seen, each once.
use Rattle.std.proofs.Common.{◌≡◌, Bool, true, false, ◌||◌, List, [], ◌∷◌, ◌++◌, refl, ap, eqb-true}
use Rattle.std.proofs.lemmas.Bool.{eq-eqb}
use Rattle.rv_mem.specs.declared.words.Seen.{Seen}
use Rattle.rv_mem.specs.declared.words.Seen.TheVariants.{Known, Untouched, Vacant}
use Rattle.dom_set.specs.Counting.{one}
use Rattle.row_parts.specs.Classes.{same, any_seen, times_seen}
use Rattle.row_parts.proofs.Lists.{Equals, once_pushed, rest_kept}

pub same_is : (a b : Seen) → same a b ≡ true → a ≡ b
same_is (Known v) (Known w) h = ap Known (eqb-true v w h)
same_is (Known v) Untouched h = absurd (cc h)
same_is (Known v) Vacant h = absurd (cc h)
same_is Untouched (Known w) h = absurd (cc h)
same_is Untouched Untouched h = refl
same_is Untouched Vacant h = absurd (cc h)
same_is Vacant (Known w) h = absurd (cc h)
same_is Vacant Untouched h = absurd (cc h)
same_is Vacant Vacant h = refl

seen_equals : Equals same
seen_equals = record { is = same_is }

pub seen_kept : (ks : List Seen) (k s : Seen) (rest : Bool) → any_seen ks k ≡ true → (any_seen ks s || rest) ≡ (any_seen ks s || (same k s || rest))
seen_kept ks k s rest there = rest_kept same seen_equals ks k s rest there

pub seen_once : (ks : List Seen) (k : Seen) → any_seen ks k ≡ false → ((s : Seen) → times_seen ks s ≡ one (any_seen ks s)) → (s : Seen) → times_seen (ks ++ k ∷ []) s ≡ one (any_seen (ks ++ k ∷ []) s)
seen_once ks k new once = once_pushed same seen_equals ks k new once

pub same_self : (a : Seen) → same a a ≡ true
same_self (Known v) = eq-eqb v v refl
same_self Untouched = refl
same_self Vacant = refl
