-- How often a source is asked, and what is taken from it.
use Rattle.std.specs.Prelude.{◌≡◌, ℕ, zero, suc, ◌+◌, ◌≤◌, List, length, Result, MatchResult, ⊤, Some, None}
use Rattle.std.specs.declared.option.Option.{Option}
use Rattle.std.specs.Io.KnownBytes.{Consumes}
use Rattle.streams.specs.Causes.{one_more}

-- a number of reads that is told has gone up by one, up to the largest u64
abbrev pub AsksOnce : Option ℕ → Option ℕ → Type 0
AsksOnce None after = ⊤
AsksOnce (Some before) None = ⊥
AsksOnce (Some before) (Some after) = after ≡ one_more before

-- a read that took no byte is counted, where that is told, and another one is not
abbrev pub CountsNoByte : Option ℕ → Option ℕ → ℕ → Type 0
CountsNoByte before after zero = AsksOnce before after
CountsNoByte before after (suc n) = after ≡ before

abbrev pub CountsEmpty : {E : Type 0} → Option ℕ → Option ℕ → Result ℕ E → Type 0
CountsEmpty before after r = MatchResult r (λ n. CountsNoByte before after n) (λ _. after ≡ before)

-- a number of reads that is told has gone up by n at most
abbrev pub AsksAtMost : Option ℕ → Option ℕ → ℕ → Type 0
AsksAtMost None after n = ⊤
AsksAtMost (Some before) None n = ⊥
AsksAtMost (Some before) (Some after) n = after ≤ before + n

-- some bytes, at most limit of them, were taken, by at most one read more than there are bytes, of which at most one took none
pub record TakesAtMost (old new : Option (List ℕ)) (before after empty_before empty_after : Option ℕ) (limit : ℕ) : Type 0 where
  pub bytes : List ℕ
  pub within : length bytes ≤ limit
  pub consumed : Consumes old new bytes
  pub asked : AsksAtMost before after (length bytes + 1)
  pub empty : AsksAtMost empty_before empty_after 1
