-- The names of a leaf, bound one after another.
use Rattle.std.proofs.Common.{◌≡◌, ℕ, zero, suc, ◌+◌, ◌<◌, ◌≤◌, ◌&&◌, Bool, true, false, if◌then◌else◌, List, [], ◌∷◌, length, length-set, drop, get_or, Option, Some, None, refl, sym, ap, ◌∙◌, subst, arith}
use Rattle.std.specs.Prelude.{is_some, slice_index_or, slice_set}
use Rattle.std.specs.List.{list_all}
use Rattle.std.proofs.lemmas.Bool.{and_parts}
use Rattle.case_search.proofs.Lists.{drop_here, drop_past}
use Rattle.tpl_ast.specs.declared.template.Atom.{Atom}
use Rattle.tpl_ast.specs.declared.template.Atom.TheVariants as atoms
use Rattle.tpl_ast.specs.declared.template.Var.{Var}
use Rattle.tpl_ast.specs.declared.template.Wish.{Wish}
use Rattle.tpl_ast.specs.Leaves.{atoms_of, is_name_below}
use Rattle.part_state.specs.State.{State, here}
use Rattle.leaf_turn.specs.Answers.{AreKept}
use Rattle.leaf_turn.proofs.Keeping.{kept_same, kept_then}
use Rattle.gen_turn.specs.Turns.{bound_by_wish, bound_with, is_listed, names_bound, next_bias, with_name, with_names}

-- ---- as many names

pub many_with_name : (n : ℕ) (o : Option ℕ) (names : List (Option ℕ)) → length (with_name n o names) ≡ length names
many_with_name n None names = refl
many_with_name n (Some v) names = elim (is_some (slice_index_or names n None)) as (λ b. length (if b then names else slice_set names n (Some v)) ≡ length names) [
  | true ↦ refl
  | false ↦ length-set names n (Some v)
]

many_with_atom : (values : Var → Option ℕ) (atom : Atom) (names : List (Option ℕ)) → length (bound_with values atom names) ≡ length names
many_with_atom values (atoms.Is v n) names = many_with_name n (values v) names
many_with_atom values (atoms.In v set) names = refl
many_with_atom values (atoms.NotIn v set) names = refl
many_with_atom values (atoms.Same v u) names = refl
many_with_atom values (atoms.Differ v u) names = refl
many_with_atom values atoms.Taken names = refl
many_with_atom values atoms.NotTaken names = refl
many_with_atom values atoms.Shared names = refl

pub many_by_wish : (values : Var → Option ℕ) (dropped : List (ℕ × Bool)) (bias : ℕ) (w : Wish) (names : List (Option ℕ)) → length (bound_by_wish values dropped bias w names) ≡ length names
many_by_wish values dropped bias w names = elim (w.prefer && is_listed dropped bias) as (λ b. length (if b then names else bound_with values w.atom names) ≡ length names) [
  | true ↦ refl
  | false ↦ many_with_atom values w.atom names
]

pub many_bound : (values : Var → Option ℕ) (dropped : List (ℕ × Bool)) (bias : ℕ) (ws : List Wish) (names : List (Option ℕ)) → length (names_bound values dropped bias ws names) ≡ length names
many_bound values dropped bias [] names = refl
many_bound values dropped bias (w ∷ ws) names = many_bound values dropped (next_bias bias w) ws (bound_by_wish values dropped bias w names) ∙ many_by_wish values dropped bias w names

-- ---- the loop over the atoms of a leaf

below_at : (p : Atom → Bool) (ws : List Wish) (i : ℕ) (w : Wish) → list_all p (atoms_of ws) ≡ true → i < length ws → w ≡ get_or ws i w → p w.atom ≡ true
below_at p [] i w all lt is = absurd (omega (arith, lt))
below_at p (v ∷ ws) zero w all lt is = subst (λ (u : Wish). p u.atom ≡ true) (sym is) (and_parts _ _ all).0
below_at p (v ∷ ws) (suc i) w all lt is = below_at p ws i w (and_parts _ _ all).1 (omega (arith, lt)) is

pub record IsBinding (values : Var → Option ℕ) (dropped : List (ℕ × Bool)) (ws : List Wish) (i bias : ℕ) (old now : State) : Type 0 where
  pub left : names_bound values dropped bias (drop i ws) now.now.names ≡ names_bound values dropped 0 ws old.now.names
  pub same : here now ≡ with_names now.now.names (here old)
  pub kept : AreKept old now
  pub many : length now.now.names ≡ length old.now.names
  pub few : bias ≤ i

module _ (values : Var → Option ℕ) (dropped : List (ℕ × Bool)) (ws : List Wish) (old : State) where
  pub begun : IsBinding values dropped ws 0 0 old old
  begun = record { left = refl; same = refl; kept = kept_same old; many = refl; few = omega arith }

  module _ (i bias : ℕ) (w : Wish) (now : State) (at : IsBinding values dropped ws i bias old now) (lt : i < length ws) (is : w ≡ get_or ws i w) where
    pub below : list_all (is_name_below (length old.now.names)) (atoms_of ws) ≡ true → is_name_below (length now.now.names) w.atom ≡ true
    below all = subst (λ (n : ℕ). is_name_below n w.atom ≡ true) (sym at.many) (below_at (is_name_below (length old.now.names)) ws i w all lt is)

    few_more : (b : Bool) → (if b then bias + 1 else bias) ≤ i + 1
    few_more true = let h = at.few in omega (arith, h)
    few_more false = let h = at.few in omega (arith, h)

    pub going_on : (new : State) (bias_now : ℕ) → here new ≡ with_names (bound_by_wish values dropped bias w now.now.names) (here now) → AreKept now new → bias_now ≡ next_bias bias w → IsBinding values dropped ws (i + 1) bias_now old new
    going_on new bias_now made kept next =
        let names : new.now.names ≡ bound_by_wish values dropped bias w now.now.names = ap (λ x. x.names) made in
        record {
          left =
              ap (λ (ns : List (Option ℕ)). names_bound values dropped bias_now (drop (i + 1) ws) ns) names
              ∙ ap (λ (b : ℕ). names_bound values dropped b (drop (i + 1) ws) (bound_by_wish values dropped bias w now.now.names)) next
              ∙ ap (λ (vs : List Wish). names_bound values dropped bias vs now.now.names) (sym (drop_here ws i w lt is))
              ∙ at.left;
          same =
              made ∙ ap (with_names (bound_by_wish values dropped bias w now.now.names)) at.same
              ∙ ap (λ (ns : List (Option ℕ)). with_names ns (here old)) (sym names);
          kept = kept_then old now new at.kept kept;
          many = ap length names ∙ many_by_wish values dropped bias w now.now.names ∙ at.many;
          few = subst (λ (b : ℕ). b ≤ i + 1) (sym next) (few_more w.prefer);
        }

pub all_bound : (values : Var → Option ℕ) (dropped : List (ℕ × Bool)) (ws : List Wish) (i bias : ℕ) (old now : State) → IsBinding values dropped ws i bias old now → length ws ≤ i
    → here now ≡ with_names (names_bound values dropped 0 ws old.now.names) (here old)
all_bound values dropped ws i bias old now at end =
    let past : drop i ws ≡ [] = drop_past ws i end in
    at.same ∙ ap (λ (ns : List (Option ℕ)). with_names ns (here old)) (ap (λ (vs : List Wish). names_bound values dropped bias vs now.now.names) (sym past) ∙ at.left)
