-- What an answer tells of a search.
use Rattle.std.specs.Prelude.{◌≡◌, ℕ, ◌+◌, ◌≤◌}
use Rattle.gen_search.specs.declared.searching.Answer.{Answer}
use Rattle.gen_search.specs.declared.searching.Answer.TheVariants as answers
use Rattle.gen_search.specs.Search.{SearchResult, Done, NoTest}

-- an answer tells a result, with the whole that stands
abbrev pub AnswerIs : {W : Type 0} → SearchResult W → W → Answer → Type 0
AnswerIs (Done whole t) stands answers.Done = whole ≡ stands
AnswerIs (Done whole t) stands (answers.GaveUp none_fits spent last_line) = ⊥
AnswerIs (NoTest t) stands answers.Done = ⊥
AnswerIs (NoTest t) stands (answers.GaveUp none_fits spent last_line) = (t.none_fits ≡ none_fits) × (t.spent ≡ spent) × (t.last_line ≡ last_line)

-- between the beginning and the end of a search the leaf turns of its result were made, at most so many, and just as many where it gave up
abbrev pub CountsTurns : {W : Type 0} → SearchResult W → ℕ → ℕ → ℕ → Type 0
CountsTurns (Done whole t) turns before after = (after ≡ before + t.turns) × (t.turns ≤ turns)
CountsTurns (NoTest t) turns before after = (after ≡ before + t.turns) × (t.turns ≡ turns)
