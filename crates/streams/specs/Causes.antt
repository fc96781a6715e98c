-- When a read or a write may fail.
use Rattle.std.specs.Prelude.{◌≡◌, ℕ, ◌+◌, ◌-◌, ◌^◌, ◌≤◌, List, length, min, Result, OnErr, MatchResult, ⊤, Some, None}
use Rattle.std.specs.declared.option.Option.{Option}

-- one more, up to the largest u64
abbrev pub one_more : ℕ → ℕ
one_more n = min (n + 1) (2 ^ 64 - 1)

-- the count of faults has risen, or stands at its end
abbrev pub Rose : ℕ → ℕ → Type 0
Rose before now = one_more before ≤ now

-- the count of faults has not fallen, and an error comes only where it has risen
pub record HasCause {T E : Type 0} (before now : ℕ) (result : Result T E) : Type 0 where
  pub later : before ≤ now
  pub failed : OnErr result (Rose before now)

-- the count of faults goes up by one at an error, and stays otherwise
abbrev pub CountsErrors : {T E : Type 0} → ℕ → ℕ → Result T E → Type 0
CountsErrors before now result = MatchResult result (λ _. now ≡ before) (λ _. now ≡ one_more before)

-- as many bytes are held, or left, as when a call last failed, where both are told
abbrev pub IsAtFault : Option (List ℕ) → Option ℕ → Type 0
IsAtFault None fault_at = ⊤
IsAtFault (Some bytes) None = ⊤
IsAtFault (Some bytes) (Some n) = n ≡ length bytes

-- a call that fails tells how many bytes are held, or left, and another one leaves what was told
abbrev pub MarksFault : {E : Type 0} → Option (List ℕ) → Option ℕ → Option ℕ → Result ℕ E → Type 0
MarksFault bytes old new r = MatchResult r (λ _. new ≡ old) (λ _. IsAtFault bytes new)

-- one call failed, and no byte was moved after it
pub record EndsAtFault (bytes : Option (List ℕ)) (fault_at : Option ℕ) (before now : ℕ) : Type 0 where
  pub once : now ≡ one_more before
  pub last : IsAtFault bytes fault_at
