-- The biases of a leaf that were not kept, listed one after another.
use Rattle.std.proofs.Common.{◌≡◌, ℕ, zero, suc, ◌+◌, ◌-◌, ◌<◌, ◌≤◌, ◌&&◌, ◌==◌, Bool, true, false, if◌then◌else◌, List, [], ◌∷◌, ◌++◌, length, map, drop, get_or, refl, sym, ap, ◌∙◌, arith}
use Rattle.std.specs.Prelude.{slice_index}
use Rattle.std.proofs.lemmas.Bool.{and_parts, eqb-true}
use Rattle.case_search.proofs.Lists.{drop_here, drop_past}
use Rattle.tpl_ast.specs.declared.template.Wish.{Wish}
use Rattle.tpl_admit.specs.declared.dropped.Dropped.{Dropped}
use Rattle.part_machine.specs.Whole.{Whole, with_dropped}
use Rattle.part_state.specs.State.{State, here}
use Rattle.leaf_turn.specs.Answers.{AreKept}
use Rattle.leaf_turn.proofs.Keeping.{kept_same, kept_then}
use Rattle.gen_turn.specs.Turns.{bias_atoms, with_all_dropped}

-- ---- the atom of a bias

pub record IsCounting (ws : List Wish) (bias i atom left : ℕ) : Type 0 where
  pub same : slice_index (bias_atoms atom (drop i ws)) left ≡ slice_index (bias_atoms 0 ws) bias
  pub at : atom ≡ i

module _ (ws : List Wish) (bias i atom left : ℕ) (counting : IsCounting ws bias i atom left) where
  module _ (w : Wish) (lt : i < length ws) (is : w ≡ get_or ws i w) where
    front : slice_index (bias_atoms atom (w ∷ drop (i + 1) ws)) left ≡ slice_index (bias_atoms 0 ws) bias
    front = ap (λ (vs : List Wish). slice_index (bias_atoms atom vs) left) (sym (drop_here ws i w lt is)) ∙ counting.same

    pub found : (w.prefer && (left == 0)) ≡ true → atom ≡ slice_index (bias_atoms 0 ws) bias
    found h =
        let parts = and_parts _ _ h in
        let zero_left : left ≡ 0 = eqb-true left 0 parts.1 in
        sym (ap (λ (n : ℕ). slice_index (atom ∷ bias_atoms (atom + 1) (drop (i + 1) ws)) n) zero_left)
        ∙ sym (ap (λ (b : Bool). slice_index (if b then atom ∷ bias_atoms (atom + 1) (drop (i + 1) ws) else bias_atoms (atom + 1) (drop (i + 1) ws)) left) parts.0)
        ∙ front

    past : (n : ℕ) (rest : List ℕ) → (n == 0) ≡ false → slice_index rest (n - 1) ≡ slice_index (atom ∷ rest) n
    past zero rest h = absurd (cc h)
    past (suc n) rest h = ap (slice_index rest) (omega arith)

    behind : (b : Bool) → (b && (left == 0)) ≡ false → slice_index (bias_atoms (atom + 1) (drop (i + 1) ws)) (if b then left - 1 else left) ≡ slice_index (if b then atom ∷ bias_atoms (atom + 1) (drop (i + 1) ws) else bias_atoms (atom + 1) (drop (i + 1) ws)) left
    behind true h = past left (bias_atoms (atom + 1) (drop (i + 1) ws)) h
    behind false h = refl

    pub counted : (left_now : ℕ) → (w.prefer && (left == 0)) ≡ false → left_now ≡ (if w.prefer then left - 1 else left) → IsCounting ws bias (i + 1) (atom + 1) left_now
    counted left_now h next = record {
      same = ap (slice_index (bias_atoms (atom + 1) (drop (i + 1) ws))) next ∙ behind w.prefer h ∙ front;
      at = ap (λ (n : ℕ). n + 1) counting.at;
    }

  pub none_left : length ws ≤ i → 0 ≡ slice_index (bias_atoms 0 ws) bias
  none_left end = sym (ap (λ (vs : List Wish). slice_index (bias_atoms atom vs) left) (drop_past ws i end)) ∙ counting.same

-- ---- the loop over the biases that were not kept

associate : {A : Type 0} (xs ys zs : List A) → (xs ++ ys) ++ zs ≡ xs ++ (ys ++ zs)
associate [] ys zs = refl
associate {A} (x ∷ xs) ys zs = ap (λ (l : List A). x ∷ l) (associate xs ys zs)

nothing_behind : {A : Type 0} (xs : List A) → xs ++ [] ≡ xs
nothing_behind [] = refl
nothing_behind {A} (x ∷ xs) = ap (λ (l : List A). x ∷ l) (nothing_behind xs)

any_default : {A : Type 0} (xs : List A) (i : ℕ) (d e : A) → i < length xs → get_or xs i d ≡ get_or xs i e
any_default [] i d e lt = absurd (omega (arith, lt))
any_default (x ∷ xs) zero d e lt = refl
any_default (x ∷ xs) (suc i) d e lt = any_default xs i d e (omega (arith, lt))

abbrev with_dropped_list : Whole → List Dropped → Whole
with_dropped_list w ds = record w { dropped = ds }

pub record IsListing (f : ℕ × Bool → Dropped) (ds : List (ℕ × Bool)) (i : ℕ) (old now : State) : Type 0 where
  pub left : with_all_dropped (map f (drop i ds)) (here now) ≡ with_all_dropped (map f ds) (here old)
  pub kept : AreKept old now

module _ (f : ℕ × Bool → Dropped) (ds : List (ℕ × Bool)) (old : State) where
  pub begun : IsListing f ds 0 old old
  begun = record { left = refl; kept = kept_same old }

  module _ (i : ℕ) (now : State) (at : IsListing f ds i old now) where
    pub one_listed : (e : ℕ × Bool) (new : State) → i < length ds → here new ≡ with_dropped (f (get_or ds i e)) (here now) → AreKept now new → IsListing f ds (i + 1) old new
    one_listed e new lt made kept = let d : ℕ × Bool = get_or ds i e in let is : d ≡ get_or ds i d = any_default ds i e d lt in record {
      left =
          ap (with_all_dropped (map f (drop (i + 1) ds))) made
          ∙ ap (with_dropped_list (here now)) (associate (here now).dropped (f d ∷ []) (map f (drop (i + 1) ds)))
          ∙ ap (λ (es : List (ℕ × Bool)). with_all_dropped (map f es) (here now)) (sym (drop_here ds i d lt is))
          ∙ at.left;
      kept = kept_then old now new at.kept kept;
    }

    pub all_listed : length ds ≤ i → here now ≡ with_all_dropped (map f ds) (here old)
    all_listed end =
        sym (ap (with_dropped_list (here now)) (nothing_behind (here now).dropped))
        ∙ ap (λ (es : List (ℕ × Bool)). with_all_dropped (map f es) (here now)) (sym (drop_past ds i end))
        ∙ at.left
