-- The atoms of a leaf that compares registers and values alone.
use Rattle.std.proofs.Common.{◌≡◌, zero, suc, Bool, true, false, if◌then◌else◌, List, [], ◌∷◌, ◌++◌, map, Vec, Global, sym, subst, inl, inr, arith}
use Rattle.std.specs.Prelude.{All}
use Rattle.std.specs.List.{AllByRecursion, list_any}
use Rattle.rv_script.specs.Lists.{HasItem}
use Rattle.tpl_ast.specs.declared.template.Atom.{Atom}
use Rattle.tpl_ast.specs.declared.template.Wish.{Wish}
use Rattle.tpl_ast.specs.Leaves.{IsPlain, atoms_of}
use Rattle.tpl_admit.specs.Admitting.{fixes_outcome}
use Rattle.leaf_link.specs.Extras.{AllPlain}
use Rattle.leaf_stand.specs.Laws.{LeavesAreBetween}
use Rattle.leaf_stand.specs.Relations.{are_between}
use Rattle.leaf_turn.specs.Wishes.{biases_of, mandatory_of, retires, unbiased}

plain_unbiased : (ws : List Wish) → AllByRecursion IsPlain (atoms_of ws) → AllByRecursion IsPlain (unbiased ws)
plain_unbiased [] h = tt
plain_unbiased (w ∷ ws) h = go w.prefer (plain_unbiased ws h.1)
  where
    go : (b : Bool) → AllByRecursion IsPlain (unbiased ws) → AllByRecursion IsPlain (if b then unbiased ws else w.atom ∷ unbiased ws)
    go true rest = rest
    go false rest = (h.0, rest)

plain_both : (xs ys : List Atom) → AllByRecursion IsPlain xs → AllByRecursion IsPlain ys → AllByRecursion IsPlain (xs ++ ys)
plain_both [] ys h k = k
plain_both (x ∷ xs) ys h k = (h.0, plain_both xs ys h.1 k)

plain_end : (b : Bool) → AllByRecursion IsPlain (if b then [] else retires ∷ [])
plain_end true = tt
plain_end false = (tt, tt)

pub plain_mandatory : (ws : List Wish) → AllByRecursion IsPlain (atoms_of ws) → AllByRecursion IsPlain (mandatory_of ws)
plain_mandatory ws h = plain_both (unbiased ws) (if list_any fixes_outcome ws then [] else retires ∷ []) (plain_unbiased ws h) (plain_end (list_any fixes_outcome ws))

pub each_plain : (xs : List Atom) → AllByRecursion IsPlain xs → (atom : Atom) → HasItem xs atom → IsPlain atom
each_plain [] h atom i = absurd i
each_plain (x ∷ xs) h atom i = elim i [ inl same ↦ subst IsPlain same h.0 | inr later ↦ each_plain xs h.1 atom later ]

pub plain_biases : (ws : List Wish) → AllByRecursion IsPlain (atoms_of ws) → AllPlain (biases_of ws)
plain_biases [] h = tt
plain_biases (w ∷ ws) h = go w.prefer (plain_biases ws h.1)
  where
    go : (b : Bool) → AllPlain (biases_of ws) → AllPlain (if b then (w.atom ∷ []) ∷ biases_of ws else biases_of ws)
    go true rest = (λ atom i. each_plain (w.atom ∷ []) (h.0, tt) atom i, rest)
    go false rest = rest

-- each is between variables of problems
abbrev AreBetween : List (List Atom) → Type 0
AreBetween [] = Unit {0}
AreBetween (b ∷ bs) = (are_between b ≡ true) × AreBetween bs

between_biases : LeavesAreBetween → (ws : List Wish) → AllByRecursion IsPlain (atoms_of ws) → AreBetween (biases_of ws)
between_biases law [] h = tt
between_biases law (w ∷ ws) h = go w.prefer (between_biases law ws h.1)
  where
    go : (b : Bool) → AreBetween (biases_of ws) → AreBetween (if b then (w.atom ∷ []) ∷ biases_of ws else biases_of ws)
    go true rest = (law (w.atom ∷ []) (h.0, tt), rest)
    go false rest = rest

all_between : (bs : List (Vec Atom Global)) → AreBetween (map (λ b. b.items) bs) → All (λ b. are_between b.items ≡ true) bs
all_between [] h k d less = absurd (omega (arith, less))
all_between (b ∷ bs) h zero d less = h.0
all_between (b ∷ bs) h (suc k) d less = all_between bs h.1 k d (omega (arith, less))

pub biases_between : LeavesAreBetween → (ws : List Wish) (bs : List (Vec Atom Global)) → AllByRecursion IsPlain (atoms_of ws) → map (λ b. b.items) bs ≡ biases_of ws → All (λ b. are_between b.items ≡ true) bs
biases_between law ws bs h is = all_between bs (subst AreBetween (sym is) (between_biases law ws h))
