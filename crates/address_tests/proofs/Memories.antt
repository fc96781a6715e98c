-- Memories whose words of RAM stay the same.
use Rattle.std.proofs.Common.{◌≡◌, ◌≢◌, ℕ, Bool, true, false, List, if◌then◌else◌, inl, inr, refl, sym, ap, ◌∙◌}
use Rattle.std.proofs.lemmas.Bool.{cases_eq}
use Rattle.rv_mem.specs.declared.part.PartMem.{PartMem}
use Rattle.rv_mem.specs.declared.words.Seen.TheVariants.{Known, Untouched, Vacant}
use Rattle.rv_mem.specs.Part.{part_at}
use Rattle.rv_mem.specs.Ram.{in_ram}
use Rattle.rv_mem.specs.Seen.{is_there}

-- a word of RAM was given a value
pub kept : (old new : PartMem) (k w : ℕ) → is_there (part_at old k) ≡ true → part_at new k ≡ Known w → ((n : ℕ) → n ≢ k → part_at new n ≡ part_at old n) → (n : ℕ) → is_there (part_at new n) ≡ is_there (part_at old n)
kept old new k w there known others n = elim (cases_eq n k) [
  | inl here ↦ ap (λ (i : ℕ). is_there (part_at new i)) here ∙ (ap is_there known ∙ (sym there ∙ ap (λ (i : ℕ). is_there (part_at old i)) (sym here)))
  | inr other ↦ ap is_there (others n other)
]

there_if : (b : Bool) → is_there (if b then Untouched else Vacant) ≡ b
there_if true = refl
there_if false = refl

-- nothing is known
pub made : (ram : List (ℕ × ℕ)) (m : PartMem) → ((n : ℕ) → part_at m n ≡ (if in_ram ram n then Untouched else Vacant)) → (n : ℕ) → is_there (part_at m n) ≡ in_ram ram n
made ram m h n = ap is_there (h n) ∙ there_if (in_ram ram n)

pub still_made : (ram : List (ℕ × ℕ)) (old new : PartMem) → ((n : ℕ) → is_there (part_at old n) ≡ in_ram ram n) → ((n : ℕ) → is_there (part_at new n) ≡ is_there (part_at old n)) → (n : ℕ) → is_there (part_at new n) ≡ in_ram ram n
still_made ram old new h same n = same n ∙ h n
