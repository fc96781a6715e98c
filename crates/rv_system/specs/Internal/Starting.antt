-- The harts and the memory of a start, filled.
use Rattle.std.specs.Prelude.{◌≡◌, ℕ, ◌*◌, ◌<◌, true, List, length, Some, slice_index_or}
use Rattle.rv_mem.specs.declared.words.Seen.{Seen}
use Rattle.rv_mem.specs.declared.words.Seen.TheVariants.{Known as KnownWord}
use Rattle.rv_mem.specs.Seen.{is_there}
use Rattle.rv_hart.specs.declared.hart.Hart.{Hart}
use Rattle.tpl_ast.specs.declared.template.HartState.{HartState}
use Rattle.tpl_ast.specs.declared.template.Region.{Region}
use Rattle.tpl_ast.specs.States.{is_key, is_in_ram}
use Rattle.tpl_admit.specs.declared.certificate.Cert.{Cert}
use Rattle.tpl_admit.specs.Starts.{fixed_in, start_of, lookup}
use Rattle.given_start.specs.Knowledge.{known_of, knows_of, fixed_now}
use Rattle.rv_system.specs.Fills.{even_place, filled}

-- a hart with this number has the fixed parts and the places of a state, and the fill in all others
pub record IsFilledHart (s : HartState) (k fill : ℕ) (h : Hart) : Type 0 where
  pub fixed : (ram : List Region) → fixed_now ram h ≡ fixed_in ram k s
  pub values : (key v : ℕ) → known_of h key ≡ Some v → filled (lookup s.places) (even_place fill) key ≡ v
  pub known : (key : ℕ) → is_key key ≡ true → knows_of h key ≡ true
  pub registers : length h.regs ≡ 32

-- a hart for each state of a certificate's start
pub record AreFilledHarts (c : Cert) (fill : ℕ) (harts : List Hart) : Type 0 where
  pub count : length harts ≡ length c.start
  pub each : (k : ℕ) (d : Hart) → k < length harts → IsFilledHart (start_of c k) k fill (slice_index_or harts k d)

-- a memory has this RAM, the words of a start, and the fill in all others
pub record IsFilledMemory (ram : List Region) (words : List (ℕ × ℕ)) (fill : ℕ) (at : ℕ → Seen) : Type 0 where
  pub there : (n : ℕ) → is_there (at n) ≡ is_in_ram ram (n * 4)
  pub values : (n v : ℕ) → at n ≡ KnownWord v → filled (λ m. lookup words (m * 4)) (λ m. fill) n ≡ v
