use Rattle.std.proofs.Common.{◌≡◌, ℕ, ◌+◌, ◌<◌, ◌≤◌, ◌∷◌, inl, inr, List, Bool, ◌||◌, suc, length, get_or, drop, sym, ap, ◌∙◌, subst, arith}
use Rattle.std.proofs.lemmas.Bool.{cases_lt, false≢true}
use Rattle.std.proofs.lemmas.List.{drop_all, get_or-drop, get_or_read, length-drop}
use Rattle.set_pieces.specs.declared.piece.Piece.{Piece}
use Rattle.set_pieces.specs.Counting.{one}
use Rattle.set_pieces.specs.Internal.Pieces.{in_piece, times, holds, IsMultiples}
use Rattle.set_pieces.proofs.Times.{rest_is, times_push}
use Rattle.dom_set.proofs.Merging.{apart_from_rest, or_regroup, no_more}
use Rattle.dom_set.proofs.pairs.merged_from.Goals as goal
use Rattle.dom_set.proofs.pairs.merged_from.Goals.{then-touches, else-touches+in_ok-push}

pub loop-p-init : goal.loop-p-init
loop-p-init c = record {
  multiples = c.requires.first;
  ordered = λ k d from lt. c.requires.sorted 0 (suc k) d (omega arith) (omega arith);
  held = λ x. rw c.new-out.ensures.items (omega arith);
}

pub loop-p-preserved : goal.loop-p-preserved
loop-p-preserved c =
    let i = c.loop-p.p-index in
    let rest = c.args.rest.now in
    let p = c.p-item.result in
    let lt : i < length rest = c.loop-p-test.true in
    let opened : drop i rest ≡ p ∷ drop (i + 1) rest = rest_is rest i p lt c.p-item.is in
    let first_is : (d : Piece) → p.run.low ≡ (get_or rest i d).run.low = λ d. ap (λ (q : Piece). q.run.low) (get_or_read rest i p lt c.p-item.is d) in
    let later : (k : ℕ) (d : Piece) → i ≤ k → k < length rest → p.run.low ≤ (get_or rest k d).run.low =
    λ k d from within. omega (arith, first_is d, c.requires.sorted (suc i) (suc k) d (omega arith) (omega arith)) in
    elim c.if-touches.branch [
      | then-touches w ↦ rw (w.open-is, w.out-is) (record {
        multiples = w.joined-open.ensures.multiples;
        ordered = λ k d from within. omega (arith, w.joined-open.ensures.first, c.loop-p.invariant.ordered k d (omega arith) within);
        held = λ x.
            ap (λ (b : Bool). times c.loop-p.out.items x + one b)
            (ap (λ (b : Bool). b || holds (drop (i + 1) rest) x) (w.joined-open.ensures.held x)
            ∙ or_regroup (in_piece c.loop-p.open x) (in_piece p x) (holds (drop (i + 1) rest) x)
            ∙ ap (λ (qs : List Piece). in_piece c.loop-p.open x || holds qs x) (sym opened))
            ∙ c.loop-p.invariant.held x;
      })
      | else-touches+in_ok-push w ↦ rw (w.open-is, w.out-is) (record {
        multiples = subst (IsMultiples c.args.shift) (sym c.p-item.is) (c.requires.rest i p lt);
        ordered = λ k d from within. later k d (omega arith) within;
        held = λ x.
            let before : c.loop-p.open.run.high < p.run.low = elim (cases_lt c.loop-p.open.run.high p.run.low) [
              | inl apart ↦ apart
              | inr over ↦ absurd (false≢true (sym w.if-touches.false ∙ c.touches.ensures.1 (omega arith)))
            ] in
            let follows : (k : ℕ) (d : Piece) → k < length (drop (i + 1) rest) → p.run.low ≤ (get_or (drop (i + 1) rest) k d).run.low =
            λ k d within. omega (arith, ap (λ (q : Piece). q.run.low) (get_or-drop (i + 1) rest k d), later (i + 1 + k) d (omega arith) (omega (arith, length-drop (i + 1) rest))) in
            omega (
              arith,
              ap (λ (qs : List Piece). times qs x) w.in_ok-push.ensures.items,
              times_push c.loop-p.out.items c.loop-p.open x,
              apart_from_rest c.loop-p.open p (drop (i + 1) rest) x before follows,
              ap (λ (qs : List Piece). one (in_piece c.loop-p.open x || holds qs x)) opened,
              c.loop-p.invariant.held x,
            );
      })
    ]

pub returns : goal.returns
returns c = λ x. rw c.in_ok-push-2.ensures.items (times_push c.loop-p.out.items c.loop-p.open x
    ∙ ap (λ (b : Bool). times c.loop-p.out.items x + one b)
    (sym (no_more (in_piece c.loop-p.open x))
    ∙ ap (λ (qs : List Piece). in_piece c.loop-p.open x || holds qs x) (sym (drop_all c.loop-p.p-index c.args.rest.now c.loop-p-test.false)))
    ∙ c.loop-p.invariant.held x)
