use Rattle.std.proofs.Common.{◌≡◌, ℕ, ◌/◌, ◌<◌, List, length, get_or, subst}
use Rattle.std.specs.Prelude.{◌↔◌, IsTrue}
use Rattle.rv_mem.specs.declared.words.Seen.TheVariants.{Known}
use Rattle.rv_mem.specs.Part.{part_at}
use Rattle.replay_check.proofs.Ends.{memory_told}
use Rattle.replay_check.proofs.checking.memory_ends_as_told.Goals as goal

pub returns : goal.returns
returns c =
    let at = part_at c.args.memory.now in
    let told = memory_told c.args.cert.now at c.requires.well_formed c.requires.end in
    let is =
    subst (λ (ws : List (ℕ × ℕ)). IsTrue c.are_last.result ↔ ((k : ℕ) → k < length ws → at ((get_or ws k (0, 0)).0 / 4) ≡ Known (get_or c.args.cert.now.last k 0))) c.as_slice.ensures
    (subst (λ (vs : List ℕ). IsTrue c.are_last.result ↔ ((k : ℕ) → k < length c.as_slice.result.now → at ((get_or c.as_slice.result.now k (0, 0)).0 / 4) ≡ Known (get_or vs k 0))) c.as_slice-2.ensures c.are_last.ensures) in
    ((λ yes. told.0 (is.0 yes)), λ ends. is.1 (told.1 ends))
