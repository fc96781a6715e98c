use Rattle.std.proofs.Common.{◌≡◌, ◌≢◌, ◌<◌, ◌^◌, ◌/◌, ℕ}
use Rattle.rv_mem.specs.declared.words.Seen.TheVariants.{Known}
use Rattle.rv_mem.specs.declared.words.Seen.{Seen}
use Rattle.rv_script.specs.declared.access.Access.{Access}
use Rattle.rv_hart.proofs.Stores.{stored_so_far}
use Rattle.rv_hart.proofs.storing.store.Given as goal

pub record IsStored (at old : ℕ → Seen) (x : Access) (i : ℕ) : Type 0 where
  pub word : (w : ℕ) → w < 2 ^ 32 → old (x.addr / 4) ≡ Known w → at (x.addr / 4) ≡ Known (stored_so_far x i w)
  pub others : (n : ℕ) → n ≢ x.addr / 4 → at n ≡ old n

abbrev pub invariant-loop-i : goal.invariant-loop-i
invariant-loop-i g l = IsStored (g.M.Words.at l.m) (g.M.Words.at l.fn.m) l.x l.i
