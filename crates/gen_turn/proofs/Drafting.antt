-- A draft, seen as its wholes.
use Rattle.std.proofs.Common.{◌≡◌, ℕ, zero, suc, ◌+◌, ◌<◌, List, [], ◌∷◌, ◌++◌, length, map, take, refl, sym, ap, ◌∙◌, subst}
use Rattle.tpl_ast.specs.declared.template.Item.{Item}
use Rattle.tpl_ast.specs.declared.template.Item.TheVariants as items
use Rattle.tpl_ast.specs.declared.template.Template.{Template}
use Rattle.part_machine.specs.Whole.{Whole}
use Rattle.part_state.specs.State.{State, Test, data_of, here, tests, whole as whole_of}
use Rattle.gen_search.specs.declared.partial.Turn.{Turn}
use Rattle.gen_search.specs.declared.partial.Turn.TheVariants as turns
use Rattle.gen_search.specs.Ready.{AllowsAll}
use Rattle.gen_search.specs.Search.{IsLeaf, IsLeaf.leaf, IsLeaf.fault, Turned.Taken}
use Rattle.gen_search.specs.Wholes.{answered, kept}
use Rattle.leaf_turn.specs.Answers.{AreKept}
use Rattle.gen_turn.specs.Drafts.{drafted}
use Rattle.gen_turn.specs.Grounds.{IsGround, IsSameGround}
use Rattle.gen_turn.specs.Rules.{Shown, can_be_taken, shown, turn_shown}

module _ (t : Template) (nodes : ℕ) where
  abbrev pub as_draft : Test → Shown
  as_draft test = shown t nodes test

  map_last : (xs : List Test) (x : Test) → map as_draft (xs ++ x ∷ []) ≡ map as_draft xs ++ as_draft x ∷ []
  map_last [] x = refl
  map_last (y ∷ xs) x = ap (λ (l : List Shown). as_draft y ∷ l) (map_last xs x)

  map_append : (xs ys : List Test) → map as_draft (xs ++ ys) ≡ map as_draft xs ++ map as_draft ys
  map_append [] ys = refl
  map_append (x ∷ xs) ys = ap (λ (l : List Shown). as_draft x ∷ l) (map_append xs ys)

  map_take : (n : ℕ) (xs : List Test) → map as_draft (take n xs) ≡ take n (map as_draft xs)
  map_take zero xs = refl
  map_take (suc n) [] = refl
  map_take (suc n) (x ∷ xs) = ap (λ (l : List Shown). as_draft x ∷ l) (map_take n xs)

  take_front : (xs ys : List Shown) → take (length xs) (xs ++ ys) ≡ xs
  take_front [] ys = refl
  take_front (x ∷ xs) ys = ap (λ (l : List Shown). x ∷ l) (take_front xs ys)

  pub many : (xs : List Test) → length (map as_draft xs) ≡ length xs
  many [] = refl
  many (x ∷ xs) = ap suc (many xs)

  -- going back
  pub went_back : (mark : ℕ) (old new : State) → tests new ≡ take (mark + 1) (tests old)
      → map as_draft new.earlier ++ shown t nodes new.now ∷ [] ≡ take (mark + 1) (map as_draft old.earlier ++ shown t nodes old.now ∷ [])
  went_back mark old new is =
      sym (map_last new.earlier new.now) ∙ ap (map as_draft) is ∙ map_take (mark + 1) (tests old) ∙ ap (take (mark + 1)) (map_last old.earlier old.now)

  -- what stood still stands
  pub still_there : (old new : State) → AreKept old new → kept (map as_draft old.earlier) (shown t nodes old.now) (map as_draft new.earlier) (shown t nodes new.now)
  still_there old new k =
      let own : map as_draft (tests old) ≡ map as_draft old.earlier ++ shown t nodes old.now ∷ [] = map_last old.earlier old.now in
      ap (λ (n : ℕ). take n (map as_draft new.earlier ++ shown t nodes new.now ∷ [])) (ap length (sym own))
      ∙ ap (take (length (map as_draft (tests old)))) (sym (map_last new.earlier new.now) ∙ ap (map as_draft) k.behind ∙ map_append (tests old) k.more)
      ∙ take_front (map as_draft (tests old)) (map as_draft k.more)
      ∙ own

  -- what could be taken still can
  pub ground_stays : (old new : Whole) → IsSameGround old new → (k : ℕ) → IsGround (drafted t nodes old) k → IsGround (drafted t nodes new) k
  ground_stays old new same k g = record {
    hart = subst (λ (n : ℕ). k < n) (sym same.harts) g.hart;
    few = g.few;
    names = same.names ∙ g.names;
    few_names = g.few_names;
    frames = g.frames;
    forms = g.forms;
    vectors = g.vectors;
    apart = g.apart;
    test = same.test g.test;
    words = same.words k g.words;
  }

  pub still_allowed : (old new : Test) → IsSameGround (whole_of old) (whole_of new) → AllowsAll can_be_taken (shown t nodes old) (shown t nodes new)
  still_allowed old new same k (items.Leaf line ws) can = (ground_stays (whole_of old) (whole_of new) same k can.0, can.1)
  still_allowed old new same k (items.FetchFault line causes) can = ground_stays (whole_of old) (whole_of new) same k can
  still_allowed old new same k (items.Label name) can = (ground_stays (whole_of old) (whole_of new) same k can.0, can.1)
  still_allowed old new same k _ can = absurd can

  -- the answer of a leaf turn, as it is shown
  pub answer_shown : (turn : Turn) (new : State) → new.now ≡ data_of (here new) → answered turn (shown t nodes new.now) ≡ turn_shown (answered turn (drafted t nodes (here new)))
  answer_shown turns.Taken new told = ap (λ (test : Test). Taken (shown t nodes test)) told
  answer_shown turns.NoneFits new told = refl
  answer_shown turns.Spent new told = refl

-- ---- what is no leaf

pub no_label : (i : Item) (line name : ℕ) → IsLeaf i line → i ≡ items.Label name → ⊥
no_label i line name (leaf _ _) is = absurd (cc is)
no_label i line name (fault _ _) is = absurd (cc is)
