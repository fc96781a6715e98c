-- Sets by their tests.
use Rattle.std.specs.Prelude.{ℕ, ◌%◌, Bool, ◌&&◌, ◌==◌, List, [], ◌∷◌}
use Rattle.data_bytes.specs.Sets.{IsSetOf}
use Rattle.fd_prob.specs.declared.slot.Slot.{Slot}
use Rattle.dom_set.specs.Elements.{is_within}
use Rattle.leaf_stand.specs.declared.formats.Spans.{Spans}

-- a multiple of the spans' step in one of their ranges
abbrev pub in_spans : Spans → ℕ → Bool
in_spans spans v = v % spans.align == 0 && is_within spans.ranges v

-- each set is what it has to be for its variable
abbrev pub AreEach : (Slot → List ℕ → Type 0) → List Slot → List (List ℕ) → Type 0
AreEach Is [] [] = Unit {0}
AreEach Is (s ∷ ss) (set ∷ sets) = Is s set × AreEach Is ss sets
AreEach Is (s ∷ ss) [] = ⊥
AreEach Is [] (set ∷ sets) = ⊥

-- each set is that of its variable's test
abbrev pub AreDomains : (Slot → ℕ → Bool) → List Slot → List (List ℕ) → Type 0
AreDomains test = AreEach (λ s set. IsSetOf (test s) set)
