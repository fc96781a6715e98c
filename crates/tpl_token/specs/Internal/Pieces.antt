-- The length of the first piece of a line.
use Rattle.std.specs.Prelude.{ℕ, ◌+◌, List, [], ◌∷◌, if◌then◌else◌}
use Rattle.tpl_lang.specs.Tokens.{joins}

-- how many bytes after b are of its piece
abbrev pub joined : ℕ → List ℕ → ℕ
joined b [] = 0
joined b (c ∷ cs) = if joins b c then joined c cs + 1 else 0

abbrev pub piece_len : List ℕ → ℕ
piece_len [] = 0
piece_len (b ∷ bs) = joined b bs + 1
