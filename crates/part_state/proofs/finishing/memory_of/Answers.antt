use Rattle.std.proofs.Common.{◌/◌, ℕ, List, map, sym, ap, ◌∙◌, subst}
use Rattle.rv_mem.specs.Part.{part_at}
use Rattle.rv_mem.specs.Seen.{known_word}
use Rattle.part_told.specs.Words.{IsWithinRam, ListsWords}
use Rattle.part_state.proofs.Certificates.{listed_known}
use Rattle.part_state.proofs.finishing.memory_of.Goals as goal

pub last_of-requires : goal.last_of-requires
last_of-requires c =
    let m = c.args.machine.now in
    let lists : ListsWords m.ram m.words.items c.in_ok-words.words =
    subst (λ (ws : List (ℕ × ℕ)). IsWithinRam m.ram ws → ListsWords m.ram ws c.in_ok-words.words) c.deref.ensures.value (c.in_ok-words.ensures m.ram) c.requires.inside in
    listed_known m.ram m.words.items c.as_slice.result.now (part_at m.memory) (subst (ListsWords m.ram m.words.items) (sym c.as_slice.ensures) lists) c.requires.known

pub returns-clause-words : goal.returns-clause-words
returns-clause-words c =
    let m = c.args.machine.now in
    subst (λ (ws : List (ℕ × ℕ)). IsWithinRam m.ram ws → ListsWords m.ram ws c.in_ok-words.words) c.deref.ensures.value (c.in_ok-words.ensures m.ram) c.requires.inside

pub returns-clause-last : goal.returns-clause-last
returns-clause-last c =
    let m = c.args.machine.now in
    c.in_ok-last.ensures.values ∙ ap (map (λ (e : ℕ × ℕ). known_word (part_at m.memory (e.0 / 4)))) c.as_slice.ensures
