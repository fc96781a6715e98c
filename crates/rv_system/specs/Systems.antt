-- Harts of which every place is known over a memory, and the whole systems for which they stand.
use Rattle.std.specs.Prelude.{◌≡◌, ℕ, ◌<◌, true, List, length, slice_index_or}
use Rattle.rv_mem.specs.declared.words.Seen.{Seen}
use Rattle.rv_mem.specs.declared.words.Seen.TheVariants.{Known as KnownWord}
use Rattle.rv_hart.specs.declared.hart.Hart.{Hart}
use Rattle.rv_hart.specs.Clauses.{Has}
use Rattle.rv_hart.specs.View.{known, fixed_of}
use Rattle.tpl_ast.specs.States.{is_key}
use Rattle.tpl_admit.specs.System.{System}
use Rattle.given_start.specs.Knowledge.{knows_of}

-- each register and lazy CSR of each hart has a value
abbrev pub AreAllKnown : List Hart → Type 0
AreAllKnown harts = (k key : ℕ) (d : Hart) → k < length harts → is_key key ≡ true → knows_of (slice_index_or harts k d) key ≡ true

-- a whole system has the fixed parts and the values of these harts, and the words of this memory
pub record IsWholeOf (harts : List Hart) (at : ℕ → Seen) (sys : System) : Type 0 where
  pub each : (k : ℕ) (d : Hart) → k < length harts → Has (fixed_of (slice_index_or harts k d) at) (known (slice_index_or harts k d) at) (sys.harts k) sys.memory
  pub words : (n v : ℕ) → at n ≡ KnownWord v → sys.memory n ≡ v
