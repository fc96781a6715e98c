-- RAM as the regions of a template and as pairs of ends.
use Rattle.std.proofs.Common.{◌≡◌, ℕ, zero, suc, ◌%◌, ◌*◌, ◌<◌, ◌||◌, leb, ltb, ◌&&◌, List, [], ◌∷◌, length, map, refl, ap, arith}
use Rattle.std.specs.Prelude.{slice_index_or}
use Rattle.std.specs.List.{AllByRecursion}
use Rattle.rv_mem.specs.Ram.{AreWhole, IsWhole, in_ram}
use Rattle.tpl_ast.specs.declared.template.Region.{Region}
use Rattle.tpl_ast.specs.Templates.{IsFramed}
use Rattle.tpl_ast.specs.States.{is_in_ram}
use Rattle.given_start.specs.Internal.Regions.{AreAligned}

pub same_ram : (ram : List Region) (n : ℕ) → in_ram (map (λ r. (r.low, r.high)) ram) n ≡ is_in_ram ram (n * 4)
same_ram [] n = refl
same_ram (r ∷ rs) n = ap (λ b. (leb r.low (n * 4) && ltb (n * 4) r.high) || b) (same_ram rs n)

-- the ends of regions
abbrev ends_in : List Region → List (ℕ × ℕ)
ends_in ram = map (λ r. (r.low, r.high)) ram

whole_at : (ram : List Region) → AreAligned ram → (k : ℕ) (d : ℕ × ℕ) → k < length (ends_in ram) → IsWhole (slice_index_or (ends_in ram) k d)
whole_at [] are k d short = absurd (omega (arith, short))
whole_at (r ∷ rs) are zero d short = are.0
whole_at (r ∷ rs) are (suc k) d short = whole_at rs are.1 k d (omega (arith, short))

pub are_whole : (ram : List Region) → AreAligned ram → AreWhole (map (λ r. (r.low, r.high)) ram)
are_whole ram are k d short = whole_at ram are k d short

-- regions of whole frames are regions of whole words
pub frames_aligned : (ram : List Region) → AllByRecursion IsFramed ram → AreAligned ram
frames_aligned [] are = tt
frames_aligned (r ∷ rs) are =
    let low : r.low % 4096 ≡ 0 = are.0.low in
    let high : r.high % 4096 ≡ 0 = are.0.high in
    ((omega (arith, low), omega (arith, high)), frames_aligned rs are.1)
