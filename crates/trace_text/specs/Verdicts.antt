-- What is said of a file, its first wrong part or what a check finds, and of a search that gave up.
use Rattle.std.specs.Prelude.{ℕ, List, ◌++◌, codes}
use Rattle.std.specs.Fmt.{decimal}
use Rattle.replay_check.specs.declared.verdict.Verdict.{Verdict}
use Rattle.replay_check.specs.declared.verdict.Verdict.TheVariants.{Yes, No}

-- `no KIND hart H step S`
unfoldable pub no_text : ℕ → ℕ → ℕ → List ℕ
no_text kind hart step = codes "no " ++ decimal kind ++ codes " hart " ++ decimal hart ++ codes " step " ++ decimal step ++ codes "\n"

abbrev pub verdict_text : Verdict → List ℕ
verdict_text Yes = codes "yes\n"
verdict_text (No kind hart step) = no_text kind hart step

-- `malformed part N`
unfoldable pub malformed_text : ℕ → List ℕ
malformed_text part = codes "malformed part " ++ decimal part ++ codes "\n"

-- `gave up: none fits N, spent N, last line L`: the leaf turns that nothing fitted, those of which a problem was too large, and the line of the last dead leaf
unfoldable pub gave_up_text : ℕ → ℕ → ℕ → List ℕ
gave_up_text none_fits spent last_line = codes "gave up: none fits " ++ (decimal none_fits ++ (codes ", spent " ++ (decimal spent ++ (codes ", last line " ++ (decimal last_line ++ codes "\n")))))
