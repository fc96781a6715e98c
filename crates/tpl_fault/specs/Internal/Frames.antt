-- Frames that are given one after another.
use Rattle.std.specs.Prelude.{ℕ, List, [], ◌∷◌}
use Rattle.tpl_lang.specs.declared.phrase.Numeral.{Numeral}
use Rattle.tpl_lang.specs.Sets.{number}

-- the frames that are given once these are too, the last first
abbrev pub others_after : List Numeral → List ℕ → List ℕ
others_after [] others = others
others_after (f ∷ fs) others = others_after fs (number f ∷ others)
