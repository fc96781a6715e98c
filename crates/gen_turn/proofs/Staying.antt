-- What can be taken on a test can be taken on those that a leaf turn, a label and a choice make of it.
use Rattle.std.proofs.Common.{◌≡◌, ℕ, Bool, List, [], length, Option, Some, refl, sym, subst}
use Rattle.tpl_ast.specs.declared.template.Item.{Item}
use Rattle.tpl_ast.specs.declared.template.Item.TheVariants as items
use Rattle.tpl_ast.specs.declared.template.Wish.{Wish}
use Rattle.part_machine.specs.Whole.{Whole, chosen, hart_of, records_of}
use Rattle.part_state.specs.State.{data_of, whole}
use Rattle.part_state.proofs.States.{whole_again}
use Rattle.fd_solve.specs.declared.answers.Solved.{Solved}
use Rattle.fd_solve.specs.declared.answers.Solved.TheVariants as answers
use Rattle.leaf_link.specs.Answers.{values_in}
use Rattle.leaf_link.specs.Values.{Values}
use Rattle.turn_laws.specs.Laws.{OthersStay}
use Rattle.leaf_turn.proofs.Giving.{still}
use Rattle.gen_search.specs.Laws.{StillAllows}
use Rattle.gen_search.specs.Ready.{AllowsAll}
use Rattle.gen_search.specs.Search.{IsLeaf, IsLeaf.leaf, IsLeaf.fault, Turned, Turned.Taken, Turned.NoneFits, Turned.Spent}
use Rattle.gen_turn.specs.Drafts.{Drafted, at_test}
use Rattle.gen_turn.specs.Grounds.{IsSameGround}
use Rattle.gen_turn.specs.Rules.{Shown, can_be_taken, draft_of, draft_rules, shown, turn_shown}
use Rattle.gen_turn.specs.Turns.{EndsAs, GoesOn, IsLeafTaken, moment_at, with_names}
use Rattle.gen_turn.proofs.Behind.{entered_ground, ground_then}
use Rattle.gen_turn.proofs.Drafting.{still_allowed}
use Rattle.gen_turn.proofs.Elsewhere.{hart_stays}
use Rattle.gen_turn.proofs.Names.{many_with_name}
use Rattle.gen_turn.proofs.Takes.{same_ground}

-- ---- names and choices

-- as many names
pub named_ground : (names : List (Option ℕ)) (w : Whole) → length names ≡ length w.names → IsSameGround w (with_names names w)
named_ground names w many = record {
  harts = refl;
  names = many;
  test = λ t. record { first = t.first; traces = t.traces; fit_first = t.fit_first; fit = t.fit; number_first = t.number_first; number = t.number; there = t.there; small = t.small; test = t.test; foot = t.foot };
  words = λ k o. record { aligned = o.aligned; known = o.known; fixed = o.fixed };
}

pub chosen_ground : (way : ℕ) (w : Whole) → IsSameGround w (chosen way w)
chosen_ground way w = record {
  harts = refl;
  names = refl;
  test = λ t. record { first = t.first; traces = t.traces; fit_first = t.fit_first; fit = t.fit; number_first = t.number_first; number = t.number; there = t.there; small = t.small; test = t.test; foot = t.foot };
  words = λ k o. record { aligned = o.aligned; known = o.known; fixed = o.fixed };
}

-- ---- a leaf turn

leaf_ground : OthersStay → (k : ℕ) (ws : List Wish) (dropped : List (ℕ × Bool)) (x : Values) (old after : Whole) → IsLeafTaken k ws dropped x old after → IsSameGround old after
leaf_ground others k ws dropped x old after l =
    same_ground k ws dropped old l.stepped _ after (moment_at k x l.done old) (length (records_of k old)) refl l.is
    (still k x l.done old l.stepped others l.taken) (λ j other. hart_stays k j other x l.done old l.stepped l.taken) l.test l.words

-- what can be taken on a test can be taken on one with the same ground
allowed : (s : Shown) (w : Whole) → IsSameGround (whole s.now) w → AllowsAll can_be_taken s (shown s.template s.nodes (data_of w))
allowed s w same k (items.Leaf line ws) can = still_allowed s.template s.nodes s.now (data_of w) (subst (IsSameGround (whole s.now)) (sym (whole_again w (same.test can.0.test))) same) k (items.Leaf line ws) can
allowed s w same k (items.FetchFault line causes) can = still_allowed s.template s.nodes s.now (data_of w) (subst (IsSameGround (whole s.now)) (sym (whole_again w (same.test can.test))) same) k (items.FetchFault line causes) can
allowed s w same k (items.Label name) can = still_allowed s.template s.nodes s.now (data_of w) (subst (IsSameGround (whole s.now)) (sym (whole_again w (same.test can.0.test))) same) k (items.Label name) can
allowed s w same k _ can = absurd can

abbrev Allows : Shown → Turned Shown → Type 0
Allows s (Taken next) = AllowsAll can_be_taken s next
Allows s NoneFits = Unit {0}
Allows s Spent = Unit {0}

-- a turn that is taken has the same ground
abbrev KeepsGround : Drafted → Turned Drafted → Type 0
KeepsGround d (Taken e) = (after : Whole) × (e ≡ at_test d after) × IsSameGround d.now after
KeepsGround d NoneFits = Unit {0}
KeepsGround d Spent = Unit {0}

allows_by : (s : Shown) (r : Turned Drafted) → KeepsGround (draft_of s) r → Allows s (turn_shown r)
allows_by s (Taken e) keeps = subst (λ (f : Drafted). AllowsAll can_be_taken s (shown f.template f.nodes (data_of f.now))) (sym keeps.1) (allowed s keeps.0 keeps.2)
allows_by s NoneFits keeps = tt
allows_by s Spent keeps = tt

-- so it is behind the entries of a fetch
ground_behind : (d : Drafted) (fetched : Whole) (r : Turned Drafted) → IsSameGround d.now fetched → KeepsGround (at_test d fetched) r → KeepsGround d r
ground_behind d fetched (Taken e) same keeps = (keeps.0, keeps.1, ground_then d.now fetched keeps.0 same keeps.2)
ground_behind d fetched NoneFits same keeps = tt
ground_behind d fetched Spent same keeps = tt

module _ (others : OthersStay) where
  ends_keep : (d : Drafted) (k : ℕ) (ws : List Wish) (dropped : List (ℕ × Bool)) (solved : Solved) (r : Turned Drafted) → EndsAs d k ws dropped solved r → KeepsGround d r
  ends_keep d k ws dropped (answers.Found x) r ends = subst (KeepsGround d) (sym ends.2) (ends.0, refl, leaf_ground others k ws dropped (values_in x) d.now ends.0 ends.1)
  ends_keep d k ws dropped answers.NoneFits r ends = subst (KeepsGround d) (sym ends) tt
  ends_keep d k ws dropped answers.Spent r ends = subst (KeepsGround d) (sym ends) tt

  goes_keep : (d : Drafted) (k : ℕ) (ws : List Wish) (draws : List ℕ) (r : Turned Drafted) (fetch : Solved) → GoesOn d k ws draws fetch r → KeepsGround d r
  goes_keep d k ws draws r (answers.Found x) a =
      ground_behind d a.fetched r (entered_ground k _ d.now a.fetched a.placed a.test a.words) (ends_keep (at_test d a.fetched) k ws a.answered.answer.dropped a.answered.answer.solved r a.answered.ends)
  goes_keep d k ws draws r answers.NoneFits is = subst (KeepsGround d) (sym is) tt
  goes_keep d k ws draws r answers.Spent is = subst (KeepsGround d) (sym is) tt

  turn_allows : (s next : Shown) (k line : ℕ) (i : Item) (draws : List ℕ) → IsLeaf i line → can_be_taken s k i → draft_rules.turn k i draws s (Taken next) → AllowsAll can_be_taken s next
  turn_allows s next k line i draws (leaf _ wishes) can gives = subst (Allows s) (sym gives.2) (allows_by s gives.0 (goes_keep (draft_of s) k wishes.items draws gives.0 gives.1.fetch gives.1.goes_on))
  turn_allows s next k line i draws (fault _ causes) can gives = subst (Allows s) (sym gives.2) (allows_by s gives.0 (ends_keep (draft_of s) k [] [] gives.1.fetch gives.0 gives.1.ends))

  pub still_allows : StillAllows can_be_taken draft_rules
  still_allows = record {
    turn = λ hart line i g s next is_leaf can gives. turn_allows s next hart line i _ is_leaf can gives;
    label = λ hart name s can. allowed s _ (named_ground _ (whole s.now) (many_with_name name (Some (hart_of hart (whole s.now)).pc) s.now.names));
    way = λ n s. allowed s _ (chosen_ground n (whole s.now));
  }
