use Rattle.std.proofs.Common.{ℕ, drop}
use Rattle.gen_search.specs.Search.{all_items}
use Rattle.gen_search.specs.Fit.{AreFit}
use Rattle.search_tests.proofs.fits.can_search.Given as goal

abbrev pub invariant-loop-hart : goal.invariant-loop-hart
invariant-loop-hart l = ((k : ℕ) → AreFit (all_items k (drop l.hart-index l.harts))) → (k : ℕ) → AreFit (all_items k l.harts)
