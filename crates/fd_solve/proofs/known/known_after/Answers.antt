use Rattle.std.proofs.Common.{◌≡◌, ℕ, ◌<◌, ◌≤◌, true, false, sym, rules, arith}
use Rattle.std.specs.Prelude.{nat_lt}
use Rattle.std.proofs.lemmas.Bool.Decides.{nat_tests}
use Rattle.fd_solve.proofs.known.known_after.Goals as goal

within : (nodes n : ℕ) → nat_lt nodes n ≡ false → n ≤ nodes
within nodes n h = grind (arith, nat_tests)

above : (nodes n : ℕ) → nat_lt nodes n ≡ true → nodes < n
above nodes n h = grind (arith, nat_tests)

pub returns-then-is_spent-clause-known : goal.returns-then-is_spent-clause-known
returns-then-is_spent-clause-known c = above _ _ (sym c.if-is_spent.ensures)

pub returns-then-has_none-clause-known : goal.returns-then-has_none-clause-known
returns-then-has_none-clause-known c = (within _ _ (sym c.if-is_spent.ensures), c.requires.none (sym c.if-has_none.ensures))

pub returns-then-fits_marked-clause-known : goal.returns-then-fits_marked-clause-known
returns-then-fits_marked-clause-known c = (within _ _ (sym c.if-is_spent.ensures), (record { length = search (rules); words = c.words.ensures }, sym c.if-fits_marked.ensures))

pub returns-clause-known : goal.returns-clause-known
returns-clause-known c = c.in_ok-done.ensures.solved c.args.nodes (within _ _ (sym c.if-is_spent.ensures))
