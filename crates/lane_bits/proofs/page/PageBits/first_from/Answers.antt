use Rattle.std.proofs.Common.{◌≡◌, ◌+◌, ◌*◌, ◌/◌, ◌%◌, ◌<◌, ◌≤◌, ℕ, List, inl, inr, get_or, refl, sym, ap, ◌∙◌, arith}
use Rattle.std.proofs.lemmas.Bool.{cases_lt}
use Rattle.lane_bits.specs.Pages.{has}
use Rattle.lane_bits.proofs.Words.{set_at, clear_at, none_past, masked, masked_below}
use Rattle.lane_bits.proofs.page.PageBits.first_from.Goals as goal

pub returns-then-i-ge4096-clause-none : goal.returns-then-i-ge4096-clause-none
returns-then-i-ge4096-clause-none c x le = ap (λ (page : List ℕ). has page x) (sym c.self.view_is) ∙ none_past c.self.inside.words x (omega arith)

-- the place is not below that of i
from_place : (c : goal.In-Some) → c.args.i % 64 ≤ c.in-Some.place
from_place c = elim (cases_lt c.in-Some.place (c.args.i % 64)) [
  | inl before ↦ absurd (let set = c.in-Some.ensures.set in
      let none = masked_below (get_or c.self.inside.words c.from.result 0) (c.args.i % 64) c.in-Some.place (omega arith) before in
      omega arith)
  | inr at ↦ at
]

pub returns-in-Some-clause-found : goal.returns-in-Some-clause-found
returns-in-Some-clause-found c =
    let words = c.self.inside.words in
    let within : c.in-Some.place < 64 = c.in-Some.ensures.within in
    ap (λ (page : List ℕ). has page (c.args.i / 64 * 64 + c.in-Some.place)) (sym c.self.view_is)
    ∙ set_at words (c.args.i / 64 * 64 + c.in-Some.place) c.from.result c.in-Some.place (omega (arith, c.from.ensures)) (omega arith) (omega arith)
    (sym (masked (get_or words c.from.result 0) (c.args.i % 64) c.in-Some.place (omega arith) within (from_place c)) ∙ c.in-Some.ensures.set)

pub returns-in-Some-clause-from : goal.returns-in-Some-clause-from
returns-in-Some-clause-from c = let le = from_place c in omega arith

pub returns-in-Some-clause-least : goal.returns-in-Some-clause-least
returns-in-Some-clause-least c x le lt =
    let words = c.self.inside.words in
    let within : c.in-Some.place < 64 = c.in-Some.ensures.within in
    let word : x / 64 ≡ c.from.result = omega (arith, c.from.ensures) in
    let before : x % 64 < c.in-Some.place = omega arith in
    let after : c.args.i % 64 ≤ x % 64 = omega arith in
    ap (λ (page : List ℕ). has page x) (sym c.self.view_is)
    ∙ clear_at words x c.from.result (x % 64) word refl
    (sym (masked (get_or words c.from.result 0) (c.args.i % 64) (x % 64) (omega arith) (omega arith) after) ∙ c.in-Some.ensures.clear (x % 64) before)

pub loop-k-init : goal.loop-k-init
loop-k-init c x le lt =
    let words = c.self.inside.words in
    let word : x / 64 ≡ c.from.result = omega (arith, c.from.ensures) in
    let after : c.args.i % 64 ≤ x % 64 = omega arith in
    ap (λ (page : List ℕ). has page x) (sym c.self.view_is)
    ∙ clear_at words x c.from.result (x % 64) word refl
    (sym (masked (get_or words c.from.result 0) (c.args.i % 64) (x % 64) (omega arith) (omega arith) after) ∙ c.in_default.ensures.none (x % 64))

pub returns-in-Some-lowest-clause-found : goal.returns-in-Some-lowest-clause-found
returns-in-Some-lowest-clause-found c =
    let words = c.self.inside.words in
    let within : c.in-Some-lowest.place < 64 = c.in-Some-lowest.ensures.within in
    ap (λ (page : List ℕ). has page (c.loop-k.k * 64 + c.in-Some-lowest.place)) (sym c.self.view_is)
    ∙ set_at words (c.loop-k.k * 64 + c.in-Some-lowest.place) c.from-in-loop-k.result c.in-Some-lowest.place (omega (arith, c.from-in-loop-k.ensures)) (omega arith) (omega arith)
    c.in-Some-lowest.ensures.set

pub returns-in-Some-lowest-clause-least : goal.returns-in-Some-lowest-clause-least
returns-in-Some-lowest-clause-least c x le lt =
    let words = c.self.inside.words in
    let within : c.in-Some-lowest.place < 64 = c.in-Some-lowest.ensures.within in
    elim (cases_lt x (c.loop-k.k * 64)) [
      | inl before ↦ c.loop-k.invariant x le before
      | inr here ↦ (
          ap (λ (page : List ℕ). has page x) (sym c.self.view_is)
          ∙ clear_at words x c.from-in-loop-k.result (x % 64) (omega (arith, c.from-in-loop-k.ensures)) refl (c.in-Some-lowest.ensures.clear (x % 64) (omega arith))
          )
    ]

pub loop-k-preserved : goal.loop-k-preserved
loop-k-preserved c x le lt =
    let words = c.self.inside.words in
    elim (cases_lt x (c.loop-k.k * 64)) [
      | inl before ↦ c.loop-k.invariant x le before
      | inr here ↦ (
          ap (λ (page : List ℕ). has page x) (sym c.self.view_is)
          ∙ clear_at words x c.from-in-loop-k.result (x % 64) (omega (arith, c.from-in-loop-k.ensures)) refl (c.in_default-lowest.ensures.none (x % 64))
          )
    ]

pub returns-clause-none : goal.returns-clause-none
returns-clause-none c x le = elim (cases_lt x 4096) [
  | inl lt ↦ c.loop-k.invariant x le (omega arith)
  | inr past ↦ ap (λ (page : List ℕ). has page x) (sym c.self.view_is) ∙ none_past c.self.inside.words x past
]
