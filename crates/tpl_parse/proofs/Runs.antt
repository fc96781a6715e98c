-- The lines of a text, one after another.
use Rattle.std.proofs.Common.{◌≡◌, ℕ, ◌+◌, Bool, true, false, List, [], ◌∷◌, Result, Ok, Err, refl, sym, ap, ◌∙◌, eqb}
use Rattle.tpl_lang.specs.declared.fault.Fault.{Fault}
use Rattle.tpl_lang.specs.Lines.{lines, to_first, stripped}
use Rattle.tpl_lang.specs.Known.{Known}
use Rattle.tpl_lang.specs.Parsing.{Said, fault, said, line_parsed, lines_parsed}
use Rattle.tpl_parse.specs.declared.error.Trouble.{Trouble}
use Rattle.tpl_parse.specs.declared.error.Trouble.TheVariants as troubles
use Rattle.tpl_parse.specs.Answers.{Denies, Refuses, at_line}

-- a text has a first line
lines_cons : (bs : List ℕ) → (l : List ℕ) × (ls : List (List ℕ)) × (lines bs ≡ l ∷ ls)
lines_cons [] = ([], [], refl)
lines_cons (b ∷ bs) =
    let rest = lines_cons bs in
    let here : (t : Bool) → eqb b 10 ≡ t → (l : List ℕ) × (ls : List (List ℕ)) × (lines (b ∷ bs) ≡ l ∷ ls) = λ t. elim t as (λ t. eqb b 10 ≡ t → (l : List ℕ) × (ls : List (List ℕ)) × (lines (b ∷ bs) ≡ l ∷ ls)) [
      | true ↦ λ is. ([], lines bs, rw is refl)
      | false ↦ λ is. (b ∷ rest.0, rest.1, rw is (ap (to_first b) rest.2))
    ] in here (eqb b 10) refl

module _ (k : Known) (n : ℕ) (text bytes : List ℕ) (total : Result Said Fault) (so_far : lines_parsed k n (lines text) ≡ total) where
  -- the line is not the last
  module _ (after : List ℕ) (split : lines text ≡ bytes ∷ lines after) where
    next_line : lines_parsed k n (lines text) ≡ elim (line_parsed k n (stripped bytes) false) [ Err kind ↦ Err (fault n kind) | Ok next ↦ lines_parsed next (n + 1) (lines after) ]
    next_line = let rest = lines_cons after in ap (lines_parsed k n) split ∙ ap (λ (ls : List (List ℕ)). lines_parsed k n (bytes ∷ ls)) rest.2 ∙ sym (ap (λ (ls : List (List ℕ)). elim (line_parsed k n (stripped bytes) false) [ Err kind ↦ Err (fault n kind) | Ok next ↦ lines_parsed next (n + 1) ls ]) rest.2)

    pub goes_on : (next : Known) → line_parsed k n (stripped bytes) false ≡ Ok next → lines_parsed next (n + 1) (lines after) ≡ total
    goes_on next h = let one : lines_parsed k n (lines text) ≡ lines_parsed next (n + 1) (lines after) = rw (next_line, h) refl in sym one ∙ so_far

    pub stops_here : (t : Trouble) → Refuses t (line_parsed k n (stripped bytes) false) → Denies (at_line n t) total
    stops_here troubles.Memory h = tt
    stops_here (troubles.Fault kind) h = let one : lines_parsed k n (lines text) ≡ Err (fault n kind) = rw (next_line, h) refl in sym so_far ∙ one

  -- the line is the last
  module _ (split : lines text ≡ bytes ∷ []) where
    last_line : lines_parsed k n (lines text) ≡ elim (line_parsed k n bytes true) [ Err kind ↦ Err (fault n kind) | Ok next ↦ Ok (said next) ]
    last_line = ap (lines_parsed k n) split

    pub ends : (next : Known) → line_parsed k n bytes true ≡ Ok next → total ≡ Ok (said next)
    ends next h = let one : lines_parsed k n (lines text) ≡ Ok (said next) = rw (last_line, h) refl in sym so_far ∙ one

    pub stops_last : (t : Trouble) → Refuses t (line_parsed k n bytes true) → Denies (at_line n t) total
    stops_last troubles.Memory h = tt
    stops_last (troubles.Fault kind) h = let one : lines_parsed k n (lines text) ≡ Err (fault n kind) = rw (last_line, h) refl in sym so_far ∙ one
