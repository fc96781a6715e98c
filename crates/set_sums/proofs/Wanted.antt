-- What ranges and classes tell of what is looked for.
use Rattle.std.proofs.Common.{◌≡◌, ℕ, ◌+◌, ◌*◌, ◌%◌, ◌^◌, ◌<◌, List, IsTrue, All, refl, sym, ◌∙◌, subst, arith}
use Rattle.std.specs.List.{filter}
use Rattle.dom_set.specs.Elements.{is_in}
use Rattle.set_sums.specs.declared.sums.Wanted.{Wanted}
use Rattle.set_sums.specs.declared.sums.Wanted.TheVariants.{Sums, Differences}
use Rattle.set_sums.specs.Internal.Remainders.{HasClassSums}
use Rattle.set_sums.specs.Internal.Spans.{HasDifferencesWithin, HasSumsWithin}
use Rattle.set_sums.specs.Internal.Wanted.{Holds, HoldsAny}
use Rattle.set_sums.proofs.Members.{element, in_both}

word : (n : ℕ) → n % 2 ^ 32 < 2 ^ 32
word n = omega arith

once : (v w : ℕ) → (v + 1 * w) % 2 ^ 32 ≡ (v + w) % 2 ^ 32
once v w = omega arith

pub wanted_class_sums : (first second set : List ℕ) → HasClassSums first second 1 set → HoldsAny Sums first second set
wanted_class_sums first second set sums v w n small h k leads = subst (λ (m : ℕ). IsTrue (is_in set m)) (once v w ∙ sym leads) (sums v w h k)

pub sums_wanted : (first second domain set : List ℕ) → Holds Sums first second domain set → HasSumsWithin first second domain set
sums_wanted first second domain set holds v w h k d = holds v w ((v + w) % 2 ^ 32) (word (v + w)) h k refl d

pub differences_wanted : (first second domain set : List ℕ) → All (λ v. v < 2 ^ 32) domain → Holds Differences first second domain set → HasDifferencesWithin first second domain set
differences_wanted first second domain set words holds v w d k h = holds ((v + w) % 2 ^ 32) w v (element (λ n. n < 2 ^ 32) domain v words d) h k refl d

-- what ranges and classes both tell
pub both_wanted : (wanted : Wanted) (first second domain around classes made : List ℕ) → Holds wanted first second domain around → HoldsAny wanted first second classes → made ≡ filter (is_in classes) around → Holds wanted first second domain made
both_wanted wanted first second domain around classes made holds any is v w n small h k leads d = in_both around classes made is n (holds v w n small h k leads d) (any v w n small h k leads)
