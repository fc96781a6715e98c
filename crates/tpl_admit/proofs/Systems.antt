-- Functions of harts' numbers with another value at one of them.
use Rattle.std.proofs.Common.{◌≡◌, ◌≢◌, ℕ, refl}
use Rattle.std.proofs.lemmas.Bool.{eq-eqb, ne_eqb}
use Rattle.tpl_admit.specs.System.{replaced}

-- at one number, or at another
pub at_same : {X : Type 0} (k : ℕ) (x : X) (f : ℕ → X) → replaced k x f k ≡ x
at_same k x f = rw (eq-eqb k k refl) refl

pub at_other : {X : Type 0} (k : ℕ) (x : X) (f : ℕ → X) (j : ℕ) → j ≢ k → replaced k x f j ≡ f j
at_other k x f j ne = rw (ne_eqb j k ne) refl
