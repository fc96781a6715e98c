-- Variables that relations make equal, also through others.
use Rattle.std.specs.Prelude.{◌≡◌, ◌<◌, ℕ, List, slice_index}
use Rattle.fd_prob.specs.declared.problem.Assignment.{Assignment}

-- each variable has the value of the one that stands for its class, by their places in the order
abbrev pub AreClasses : List ℕ → Assignment → Type 0
AreClasses classes x = (place : ℕ) → place < 14 → slice_index x.values (slice_index classes place) ≡ slice_index x.values place
