-- The laws of the codec.
use Rattle.std.specs.Prelude.{◌≡◌, ℕ, ◌<◌, ◌^◌, Some}
use Rattle.rv_isa.specs.declared.instruction.Instr.{Instr}
use Rattle.rv_isa.specs.Encoding.{Fits, IsEncoded, IsInRange, word_of}
use Rattle.rv_isa.specs.Reading.{decoded}

-- the instruction that is read from a word has this word
abbrev pub ReadsOnlyEncoded : Type 0
ReadsOnlyEncoded = (w : ℕ) (i : Instr) → decoded w ≡ Some i → IsEncoded i w

-- an instruction that has a word is read from it
abbrev pub ReadsAllEncoded : Type 0
ReadsAllEncoded = (w : ℕ) (i : Instr) → IsEncoded i w → decoded w ≡ Some i

-- an instruction whose fields fit has a word
abbrev pub EncodesAllFitting : Type 0
EncodesAllFitting = (i : Instr) → Fits i → IsEncoded i (word_of i)

-- that is a word of 32 bits
abbrev pub EncodesInWords : Type 0
EncodesInWords = (w : ℕ) (i : Instr) → IsEncoded i w → w < 2 ^ 32

-- whatever the format, fields that fit it are in these ranges
abbrev pub FitsInRange : Type 0
FitsInRange = (i : Instr) → Fits i → IsInRange i
