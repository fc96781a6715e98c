-- The demo template in the pieces in which it is written.
use Rattle.std.proofs.Common.{◌≡◌, ℕ, List, ◌∷◌, ◌++◌, append_assoc, ap, sym, ◌∙◌, codes}
use Rattle.std.specs.Fmt.{decimal}
use Rattle.cover_sweep.specs.Template.{demo_template, ended, first_lines, last_lines}

pub template_written : (n : ℕ) → demo_template n ≡ ended first_lines ++ ((codes "repeat " ++ (decimal n ++ codes " {\n")) ++ ended last_lines)
unfolding demo_template
template_written n =
    let behind : (decimal n ++ codes " {") ++ 10 ∷ ended last_lines ≡ (decimal n ++ codes " {\n") ++ ended last_lines = simp append_assoc in
    ap (λ (ds : List ℕ). ended first_lines ++ (codes "repeat " ++ ds)) behind

-- three pieces behind a text
pub three_written : (old one two three a b c whole : List ℕ) → one ≡ old ++ a → two ≡ one ++ b → three ≡ two ++ c → whole ≡ a ++ (b ++ c) → three ≡ old ++ whole
three_written old one two three a b c whole first second third all =
    let end : ((old ++ a) ++ b) ++ c ≡ old ++ (a ++ (b ++ c)) = simp append_assoc in
    third ∙ ap (λ (t : List ℕ). t ++ c) second ∙ ap (λ (t : List ℕ). (t ++ b) ++ c) first ∙ end ∙ ap (λ (t : List ℕ). old ++ t) (sym all)
