use Rattle.std.proofs.Common.{◌≡◌, ℕ, Bool, true, false, ◌&&◌, ◌||◌, not, List, refl, sym, ap, ◌∙◌}
use Rattle.std.specs.List.{filter}
use Rattle.dom_set.specs.Elements.{is_in}
use Rattle.data_bytes.proofs.Sets.{filter_leaves}
use Rattle.data_goals.proofs.targets.left_of.Goals as goal

and_true : (b : Bool) → b ≡ (b && true)
and_true true = refl
and_true false = refl

load_left : (starts wanted walked left : List ℕ) (load : Bool) → load ≡ true → left ≡ filter (is_in wanted) starts → (v : ℕ) → is_in left v ≡ ((is_in starts v && is_in wanted v) && (load || not (is_in walked v)))
load_left starts wanted walked left load h is v =
    filter_leaves (is_in wanted) starts left is v ∙ and_true _ ∙ sym (ap (λ (b : Bool). (is_in starts v && is_in wanted v) && (b || not (is_in walked v))) h)

store_left : (starts wanted walked first left : List ℕ) (load : Bool) → load ≡ false → first ≡ filter (is_in wanted) starts → left ≡ filter (λ x. not (is_in walked x)) first
    → (v : ℕ) → is_in left v ≡ ((is_in starts v && is_in wanted v) && (load || not (is_in walked v)))
store_left starts wanted walked first left load h is last v =
    filter_leaves (λ x. not (is_in walked x)) first left last v ∙ ap (λ (b : Bool). b && not (is_in walked v)) (filter_leaves (is_in wanted) starts first is v)
    ∙ sym (ap (λ (b : Bool). (is_in starts v && is_in wanted v) && (b || not (is_in walked v))) h)

pub returns-then-is_load : goal.returns-then-is_load
returns-then-is_load c v small = load_left c.args.starts c.args.wanted.now c.args.accesses.now.walked c.in_ok-left.left _ (sym c.is_load.ensures ∙ c.if-is_load.true) c.in_ok-left.ensures v

pub returns : goal.returns
returns c v small = store_left c.args.starts c.args.wanted.now c.args.accesses.now.walked c.in_ok-left.left c.in_ok-left-2.left _ (sym c.is_load.ensures ∙ c.if-is_load.false) c.in_ok-left.ensures c.in_ok-left-2.ensures v
