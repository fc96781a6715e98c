-- Lists whose items are bytes, and steps of readers.
use Rattle.std.proofs.Common.{◌≡◌, ℕ, ◌+◌, ◌<◌, Bool, true, false, cond, List, ◌++◌, length, get_or, Some, None, refl, ap, subst, ◌∙◌, arith, inl, inr}
use Rattle.std.specs.declared.option.Option.{Option}
use Rattle.std.proofs.lemmas.Bool.{cases_lt}
use Rattle.std.proofs.lemmas.List.{get_or-append-add, get_or_append_left, get_or_past}
use Rattle.byte_format.specs.Internal.Readers.{◌>>=◌}

-- each item is a byte
abbrev pub IsBytes : List ℕ → Type 0
IsBytes bytes = (i : ℕ) → get_or bytes i 0 < 256

pub bytes_rest : (bytes front rest : List ℕ) → IsBytes bytes → bytes ≡ front ++ rest → IsBytes rest
bytes_rest bytes front rest h e i = subst (λ (k : ℕ). k < 256) (ap (λ (b : List ℕ). get_or b (length front + i) 0) e ∙ get_or-append-add front rest i 0) (h (length front + i))

pub bytes_front : (bytes front rest : List ℕ) → IsBytes bytes → bytes ≡ front ++ rest → IsBytes front
bytes_front bytes front rest h e i =
    elim (cases_lt i (length front)) [
      | inl lt ↦ subst (λ (k : ℕ). k < 256) (ap (λ (b : List ℕ). get_or b i 0) e ∙ get_or_append_left front rest 0 i lt) (h i)
      | inr le ↦ rw (get_or_past front i 0 le) (omega arith)
    ]

-- both steps of a reader gave something
pub bind_some : {A B : Type 0} (r : Option A) (f : A → Option B) (y : B) → (r >>= f) ≡ Some y → (x : A) × (r ≡ Some x) × (f x ≡ Some y)
bind_some (Some x) f y e = (x, refl, e)
bind_some None f y e = absurd cc

-- a test that refuses did not hold
pub unless_true : {A : Type 0} (b : Bool) (r : Option A) (y : A) → cond b None r ≡ Some y → (b ≡ false) × (r ≡ Some y)
unless_true true r y e = absurd cc
unless_true false r y e = (refl, e)

-- a test that is asked for held
pub where_true : {A : Type 0} (b : Bool) (r : Option A) (y : A) → cond b r None ≡ Some y → (b ≡ true) × (r ≡ Some y)
where_true true r y e = (refl, e)
where_true false r y e = absurd cc
