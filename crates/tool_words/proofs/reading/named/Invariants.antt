use Rattle.std.proofs.Common.{◌≡◌, ◌∷◌, map, codes, string_bytes}
use Rattle.std.specs.Prelude.{take}
use Rattle.tool_words.proofs.reading.named.Given as goal

abbrev pub invariant-loop-word : goal.invariant-loop-word
invariant-loop-word l = map (λ w. w.now) l.texts.items ≡ codes "testgen" ∷ map (λ s. string_bytes s) (take l.word-index l.words)
