-- Entries of known words, and the bytes of these words.
use Rattle.std.proofs.Common.{◌≡◌, ℕ, ◌&&◌, ◌||◌, Bool, true, false, cond, nat_eq, List, [], ◌∷◌, Option, Some, None, refl, ap, arith}
use Rattle.std.specs.List.{list_any}
use Rattle.std.specs.Map.{lookup}
use Rattle.std.specs.BTreeMap.{is_at}
use Rattle.std.specs.Ordering.{nat_cmp}
use Rattle.std.proofs.lemmas.Bool.Decides.{nat_tests}
use Rattle.rv_mem.specs.declared.words.Seen.TheVariants.{Vacant}
use Rattle.rv_mem.specs.declared.part.PartMem.{PartMem}
use Rattle.rv_mem.specs.Ram.{in_ram}
use Rattle.rv_mem.specs.Seen.{is_known, is_there}
use Rattle.rv_mem.specs.Part.{valued, part_at}

-- the entry is of the word with this number, which is one of RAM
abbrev pub is_of : List (ℕ × ℕ) → ℕ → ℕ × ℕ → Bool
is_of ram n e = nat_eq e.0 n && in_ram ram n

key_is : (n k : ℕ) → is_at (nat_cmp n) k ≡ nat_eq k n
key_is n k = grind (arith, nat_tests)

among : (es : List (ℕ × ℕ)) (n : ℕ) → list_any (λ e. nat_eq e.0 n && true) es ≡ is_known (valued (lookup (is_at (nat_cmp n)) es))
among [] n = refl
among (e ∷ es) n = step (nat_eq e.0 n) (is_at (nat_cmp n) e.0) (key_is n e.0) (among es n) where
  step : (a b : Bool) → b ≡ a → list_any (λ e. nat_eq e.0 n && true) es ≡ is_known (valued (lookup (is_at (nat_cmp n)) es))
      → ((a && true) || list_any (λ e. nat_eq e.0 n && true) es) ≡ is_known (valued (cond b (Some e.1) (lookup (is_at (nat_cmp n)) es)))
  step true true is ih = refl
  step false false is ih = ih
  step true false is ih = absurd (cc)
  step false true is ih = absurd (cc)

none_of : (es : List (ℕ × ℕ)) (n : ℕ) → list_any (λ e. nat_eq e.0 n && false) es ≡ false
none_of [] n = refl
none_of (e ∷ es) n = step (nat_eq e.0 n) (none_of es n) where
  step : (a : Bool) → list_any (λ e. nat_eq e.0 n && false) es ≡ false → ((a && false) || list_any (λ e. nat_eq e.0 n && false) es) ≡ false
  step true ih = ih
  step false ih = ih

-- an entry of the word says that it is known
pub entries_know : (m : PartMem) (n : ℕ) → list_any (is_of m.ram n) m.words.entries ≡ is_known (part_at m n)
entries_know m n = step (in_ram m.ram n) where
  step : (b : Bool) → list_any (λ e. nat_eq e.0 n && b) m.words.entries ≡ is_known (cond b (valued (lookup (is_at (nat_cmp n)) m.words.entries)) Vacant)
  step true = among m.words.entries n
  step false = none_of m.words.entries n

pub ram_is_there : (m : PartMem) (n : ℕ) → in_ram m.ram n ≡ is_there (part_at m n)
ram_is_there m n = step (in_ram m.ram n) (lookup (is_at (nat_cmp n)) m.words.entries) where
  step : (b : Bool) (o : Option ℕ) → b ≡ is_there (cond b (valued o) Vacant)
  step true (Some w) = refl
  step true None = refl
  step false o = refl

-- one entry goes over
pub goes_over : (a b c d : Bool) → a ≡ (b || c) → (a || d) ≡ (b || (c || d))
goes_over a true true d e = ap (λ (x : Bool). x || d) e
goes_over a true false d e = ap (λ (x : Bool). x || d) e
goes_over a false true d e = ap (λ (x : Bool). x || d) e
goes_over a false false d e = ap (λ (x : Bool). x || d) e

pub or_none : (a : Bool) → (a || false) ≡ a
or_none true = refl
or_none false = refl
