-- What the atoms of a leaf let through and bar.
use Rattle.std.proofs.Common.{◌≡◌, ℕ, Bool, true, false, not, ◌&&◌, ◌||◌, ◌++◌, if◌then◌else◌, List, [], ◌∷◌, refl, sym, subst, inl, inr}
use Rattle.std.specs.List.{list_all, list_any}
use Rattle.std.proofs.lemmas.Bool.{and_from, and_parts, or_left, or_right}
use Rattle.rv_script.specs.Lists.{HasItem}
use Rattle.rv_isa.specs.declared.operation.Op.{Op}
use Rattle.rv_isa.specs.declared.operation.TheConstants.{OPS}
use Rattle.rv_isa.specs.Numbers.{op_number}
use Rattle.tpl_ast.specs.declared.template.Atom.{Atom}
use Rattle.tpl_ast.specs.declared.template.Atom.TheVariants as atoms
use Rattle.tpl_ast.specs.declared.template.Var.{Var}
use Rattle.tpl_ast.specs.declared.template.Var.TheVariants as vars
use Rattle.tpl_ast.specs.declared.template.Wish.{Wish}
use Rattle.tpl_admit.specs.Admitting.{fixes_outcome}
use Rattle.leaf_link.specs.Turns.{Turn}
use Rattle.leaf_link.specs.Cases.{all_tests, tests}
use Rattle.leaf_stand.specs.declared.stand.Stand.{Stand}
use Rattle.leaf_stand.specs.Kinds.{kind_of}
use Rattle.leaf_stand.specs.Posed.{allows, has_accesses, is_data, is_posable, reads_as}
use Rattle.leaf_stand.specs.Stands.{turn_of}
use Rattle.leaf_pose.proofs.Whole.{every_op}
use Rattle.leaf_turn.specs.Built.{LeavesWithAccessesArePosable, all_let, lets, lets_data, may_be_data}
use Rattle.leaf_turn.specs.Wishes.{mandatory_of, retires, unbiased}

-- what passes an atom's test is let through
its_test : (t : Turn) (atom : Atom) (u : Var) (n : ℕ) → tests t atom u n ≡ true → lets atom u n ≡ true
its_test t (atoms.In v set) u n h = h
its_test t (atoms.NotIn v set) u n h = h
its_test t (atoms.Is v name) u n h = refl
its_test t (atoms.Same v w) u n h = refl
its_test t (atoms.Differ v w) u n h = refl
its_test t atoms.Taken u n h = refl
its_test t atoms.NotTaken u n h = refl
its_test t atoms.Shared u n h = refl

first_tests : (t : Turn) (xs ys : List Atom) (u : Var) (n : ℕ) → all_tests t (xs ++ ys) u n ≡ true → all_tests t xs u n ≡ true
first_tests t [] ys u n h = refl
first_tests t (x ∷ xs) ys u n h = let p = and_parts _ _ h in and_from _ _ p.0 (first_tests t xs ys u n p.1)

through_unbiased : (t : Turn) (ws : List Wish) (u : Var) (n : ℕ) → all_tests t (unbiased ws) u n ≡ true → all_let ws u n ≡ true
through_unbiased t [] u n h = refl
through_unbiased t (w ∷ ws) u n h = go w.prefer h (through_unbiased t ws u n)
  where
    go : (b : Bool) → all_tests t (if b then unbiased ws else w.atom ∷ unbiased ws) u n ≡ true → (all_tests t (unbiased ws) u n ≡ true → all_let ws u n ≡ true) → ((b || lets w.atom u n) && all_let ws u n) ≡ true
    go true h rest = rest h
    go false h rest = let p = and_parts _ _ h in and_from _ _ (its_test t w.atom u n p.0) (rest p.1)

let_through : (t : Turn) (ws : List Wish) (u : Var) (n : ℕ) → all_tests t (mandatory_of ws) u n ≡ true → all_let ws u n ≡ true
let_through t ws u n h = through_unbiased t ws u n (first_tests t (unbiased ws) (if list_any fixes_outcome ws then [] else retires ∷ []) u n h)

posable : (is through told allowed : Bool) → ((is && through) ≡ true → told ≡ true) → (allowed ≡ true → through ≡ true) → ((not is || told) || not allowed) ≡ true
posable false through told allowed h k = refl
posable true through true allowed h k = refl
posable true through false false h k = refl
posable true true false true h k = absurd (cc (h refl))
posable true false false true h k = absurd (cc (k refl))

any_at : (test : Op → Bool) (ops : List Op) (op : Op) → HasItem ops op → test op ≡ true → list_any test ops ≡ true
any_at test [] op i h = absurd i
any_at test (x ∷ ops) op i h = elim i [
  | inl e ↦ or_left (test x) (list_any test ops) (subst (λ (o : Op). test o ≡ true) (sym e) h)
  | inr j ↦ or_right (test x) (list_any test ops) (any_at test ops op j h)
]

one_posable : (ws : List Wish) (st : Stand) → (lets_data ws ≡ true → has_accesses st ≡ true) → (op : Op) → is_posable st (mandatory_of ws) op ≡ true
one_posable ws st told op = posable (is_data (kind_of op)) (all_let ws vars.Op (op_number op)) (has_accesses st) (allows st (mandatory_of ws) op)
    (λ may. told (any_at (may_be_data ws) OPS op (every_op op) may))
    (λ allowed. let_through (turn_of st) ws vars.Op (op_number op) (and_parts (reads_as st.word op) (all_tests (turn_of st) (mandatory_of ws) vars.Op (op_number op)) allowed).1)

all_posable : (ws : List Wish) (st : Stand) → (lets_data ws ≡ true → has_accesses st ≡ true) → (ops : List Op) → list_all (is_posable st (mandatory_of ws)) ops ≡ true
all_posable ws st told [] = refl
all_posable ws st told (op ∷ ops) = and_from _ _ (one_posable ws st told op) (all_posable ws st told ops)

pub leaves_are_posable : LeavesWithAccessesArePosable
leaves_are_posable ws st told = all_posable ws st told OPS
