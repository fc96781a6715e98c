use Rattle.std.proofs.Common.{◌≡◌, ◌%◌, ◌<◌, ◌≤◌, ℕ, List, length, ap, ◌∙◌, sym, subst}
use Rattle.std.specs.Prelude.{slice_index}
use Rattle.rand_pcg.specs.Lcg.{Lcg}
use Rattle.rand_pcg.specs.Pcg.{pcg32}
use Rattle.run_order.specs.Orders.{one_less, picked, with_turns}
use Rattle.run_order.proofs.Turns.{picked_some, picked_within, some_ready}
use Rattle.run_order.proofs.drawing.pick.Goals as goal

-- what is picked of these harts by this word
is_picked : (left harts : List ℕ) (g : Lcg) (word k : ℕ) → harts ≡ with_turns 0 left → word ≡ (pcg32 g).0 → k ≡ slice_index harts (word % length harts) → k ≡ picked (pcg32 g).0 left
is_picked left harts g word k are drew is =
    is ∙ ap (λ (hs : List ℕ). slice_index hs (word % length hs)) are ∙ ap (λ (w : ℕ). picked w left) drew

pub pick_from-k-requires : goal.pick_from-k-requires
pick_from-k-requires c = subst (λ (hs : List ℕ). 0 < length hs) (sym (c.as_slice-2.ensures.value ∙ c.in_ok-harts.ensures ∙ ap (λ (ns : List ℕ). with_turns 0 ns) c.as_slice.ensures.value)) (some_ready 0 c.args.left.now.items c.requires.some)

pub take_turn-requires-clause-there : goal.take_turn-requires-clause-there
take_turn-requires-clause-there c =
    subst (λ (k : ℕ). k < length c.args.left.now.items) (sym (is_picked c.args.left.now.items c.as_slice-2.result.now c.args.draws.now c.draw.result c.pick_from-k.result (c.as_slice-2.ensures.value ∙ c.in_ok-harts.ensures ∙ ap (λ (ns : List ℕ). with_turns 0 ns) c.as_slice.ensures.value) c.draw.ensures.word c.pick_from-k.ensures))
    (picked_within (pcg32 c.args.draws.now).0 c.args.left.now.items c.requires.some)

pub take_turn-requires-clause-some : goal.take_turn-requires-clause-some
take_turn-requires-clause-some c =
    subst (λ (k : ℕ). 1 ≤ slice_index c.args.left.now.items k) (sym (is_picked c.args.left.now.items c.as_slice-2.result.now c.args.draws.now c.draw.result c.pick_from-k.result (c.as_slice-2.ensures.value ∙ c.in_ok-harts.ensures ∙ ap (λ (ns : List ℕ). with_turns 0 ns) c.as_slice.ensures.value) c.draw.ensures.word c.pick_from-k.ensures))
    (picked_some (pcg32 c.args.draws.now).0 c.args.left.now.items c.requires.some)

pub returns-clause-hart : goal.returns-clause-hart
returns-clause-hart c = is_picked c.args.left.now.items c.as_slice-2.result.now c.args.draws.now c.draw.result c.pick_from-k.result (c.as_slice-2.ensures.value ∙ c.in_ok-harts.ensures ∙ ap (λ (ns : List ℕ). with_turns 0 ns) c.as_slice.ensures.value) c.draw.ensures.word c.pick_from-k.ensures

pub returns-clause-left : goal.returns-clause-left
returns-clause-left c =
    c.take_turn.ensures
    ∙ ap (λ (k : ℕ). one_less k c.args.left.now.items) (is_picked c.args.left.now.items c.as_slice-2.result.now c.args.draws.now c.draw.result c.pick_from-k.result (c.as_slice-2.ensures.value ∙ c.in_ok-harts.ensures ∙ ap (λ (ns : List ℕ). with_turns 0 ns) c.as_slice.ensures.value) c.draw.ensures.word c.pick_from-k.ensures)
