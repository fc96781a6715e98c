-- Rows joined with rows.
use Rattle.std.proofs.Common.{◌≡◌, ◌==◌, ℕ, ◌+◌, ◌≤◌, Bool, true, false, ◌&&◌, ◌||◌, cond, count_by, List, [], ◌∷◌, ◌++◌, Some, None, refl, sym, ap, ◌∙◌, eqb-true, arith}
use Rattle.std.specs.List.{filter}
use Rattle.std.proofs.lemmas.List.Sums.{sum_by-append}
use Rattle.std.proofs.lemmas.Map.Views.{any-filter_same}
use Rattle.dom_set.specs.Elements.{is_in}
use Rattle.fd_prob.specs.declared.problem.Assignment.{Assignment}
use Rattle.fd_prob.specs.declared.relation.Quad.{Quad}
use Rattle.fd_prob.specs.declared.relation.Rel.{Rel}
use Rattle.fd_prob.specs.declared.relation.Rel.TheVariants.{Rows}
use Rattle.fd_prob.specs.declared.slot.Slot.TheVariants as slots
use Rattle.fd_prob.specs.Joining.{IsCommonRow, is_rows}
use Rattle.fd_prob.specs.Relations.{is_in_row, value_of}

and_comm : (a b : Bool) → (a && b) ≡ (b && a)
and_comm true true = refl
and_comm true false = refl
and_comm false true = refl
and_comm false false = refl

pub and_false : (a : Bool) → (a && false) ≡ false
and_false true = refl
and_false false = refl

swapped : (a b c d : Bool) → ((a && b) && (c && d)) ≡ ((a && c) && (b && d))
swapped true b true d = refl
swapped true b false d = and_false b
swapped false b c d = refl

pub common_is : (a b s : List ℕ) → s ≡ filter (is_in b) a → (v : ℕ) → is_in s v ≡ (is_in a v && is_in b v)
common_is a b s is v =
    ap (λ (xs : List ℕ). is_in xs v) is
    ∙ any-filter_same (λ y. y == v) (is_in b) (is_in b v) (λ k h. ap (is_in b) (eqb-true k v h)) a
    ∙ and_comm (is_in b v) (is_in a v)

pub none_common : (a b s : List ℕ) → s ≡ filter (is_in b) a → s ≡ [] → (v : ℕ) → (is_in a v && is_in b v) ≡ false
none_common a b s is empty v = sym (common_is a b s is v) ∙ ap (λ (xs : List ℕ). is_in xs v) empty

-- both rows hold exactly where both sets of each part have its value
regrouped : (a b : Quad) (x : Assignment) → (is_in_row x a && is_in_row x b) ≡
    ((((is_in a.ea (value_of x slots.Ea) && is_in b.ea (value_of x slots.Ea)) && (is_in a.root (value_of x slots.FirstPte) && is_in b.root (value_of x slots.FirstPte)))
    && (is_in a.leaf (value_of x slots.SecondPte) && is_in b.leaf (value_of x slots.SecondPte))) && (is_in a.word (value_of x slots.DataWord) && is_in b.word (value_of x slots.DataWord)))
regrouped a b x =
    let e1 : Bool = is_in a.ea (value_of x slots.Ea) in
    let e2 : Bool = is_in b.ea (value_of x slots.Ea) in
    let r1 : Bool = is_in a.root (value_of x slots.FirstPte) in
    let r2 : Bool = is_in b.root (value_of x slots.FirstPte) in
    let l1 : Bool = is_in a.leaf (value_of x slots.SecondPte) in
    let l2 : Bool = is_in b.leaf (value_of x slots.SecondPte) in
    let w1 : Bool = is_in a.word (value_of x slots.DataWord) in
    let w2 : Bool = is_in b.word (value_of x slots.DataWord) in
    swapped ((e1 && r1) && l1) w1 ((e2 && r2) && l2) w2
    ∙ ap (λ (p : Bool). p && (w1 && w2)) (swapped (e1 && r1) l1 (e2 && r2) l2)
    ∙ ap (λ (p : Bool). (p && (l1 && l2)) && (w1 && w2)) (swapped e1 r1 e2 r2)

module _ (a b : Quad) where
  pub no_ea : ((v : ℕ) → (is_in a.ea v && is_in b.ea v) ≡ false) → IsCommonRow a b None
  no_ea none x = sym (regrouped a b x ∙ rw (none (value_of x slots.Ea)) refl)

  pub no_root : ((v : ℕ) → (is_in a.root v && is_in b.root v) ≡ false) → IsCommonRow a b None
  no_root none x = sym (regrouped a b x ∙ rw (none (value_of x slots.FirstPte)) (rw (and_false (is_in a.ea (value_of x slots.Ea) && is_in b.ea (value_of x slots.Ea))) refl))

  pub no_leaf : ((v : ℕ) → (is_in a.leaf v && is_in b.leaf v) ≡ false) → IsCommonRow a b None
  no_leaf none x = sym (regrouped a b x ∙ rw (none (value_of x slots.SecondPte)) (rw and_false refl))

  pub no_word : ((v : ℕ) → (is_in a.word v && is_in b.word v) ≡ false) → IsCommonRow a b None
  no_word none x = sym (regrouped a b x ∙ rw (none (value_of x slots.DataWord)) (rw and_false refl))

  pub whole_row : (row : Quad) → ((v : ℕ) → is_in row.ea v ≡ (is_in a.ea v && is_in b.ea v)) → ((v : ℕ) → is_in row.root v ≡ (is_in a.root v && is_in b.root v)) → ((v : ℕ) → is_in row.leaf v ≡ (is_in a.leaf v && is_in b.leaf v)) → ((v : ℕ) → is_in row.word v ≡ (is_in a.word v && is_in b.word v)) → IsCommonRow a b (Some row)
  whole_row row ea root leaf word x = rw (ea (value_of x slots.Ea), root (value_of x slots.FirstPte), leaf (value_of x slots.SecondPte), word (value_of x slots.DataWord)) (sym (regrouped a b x))

or_assoc : (a b c : Bool) → ((a || b) || c) ≡ (a || (b || c))
or_assoc true b c = refl
or_assoc false b c = refl

and_or : (a b c : Bool) → ((a && b) || (a && c)) ≡ (a && (b || c))
and_or true b c = refl
and_or false b c = refl

or_and : (a b c : Bool) → ((a && c) || (b && c)) ≡ ((a || b) && c)
or_and true true true = refl
or_and true true false = refl
or_and true false true = refl
or_and true false false = refl
or_and false b c = refl

-- one more of the others
pub one_more_other : (first tried other new old row : Bool) → new ≡ (old || row) → row ≡ (first && other) → (before : Bool) → old ≡ (before || (first && tried)) → new ≡ (before || (first && (tried || other)))
one_more_other first tried other new old row pushed is before old_is = pushed ∙ ap (λ (p : Bool). p || row) old_is ∙ ap (λ (p : Bool). (before || (first && tried)) || p) is ∙ or_assoc before (first && tried) (first && other) ∙ ap (λ (p : Bool). before || p) (and_or first tried other)

-- one more of the first
pub one_more_first : (tried first others new old : Bool) → new ≡ (old || (first && others)) → old ≡ (tried && others) → new ≡ ((tried || first) && others)
one_more_first tried first others new old pushed old_is = pushed ∙ ap (λ (p : Bool). p || (first && others)) old_is ∙ or_and tried first others

and_assoc : (a b c : Bool) → ((a && b) && c) ≡ (a && (b && c))
and_assoc true b c = refl
and_assoc false b c = refl

-- the rows hold with one list more
pub with_more : (rels rows more made : Bool) → made ≡ (rows && more) → (rels && made) ≡ ((rels && rows) && more)
with_more rels rows more made is = ap (λ (p : Bool). rels && p) is ∙ sym (and_assoc rels rows more)

-- one relation more beside the rows
pub with_rel : (rels rows rel made : Bool) → made ≡ (rels && rel) → (made && rows) ≡ ((rels && rows) && rel)
with_rel rels rows rel made is = ap (λ (p : Bool). p && rows) is ∙ and_assoc rels rel rows ∙ ap (λ (p : Bool). rels && p) (and_comm rel rows) ∙ sym (and_assoc rels rows rel)

pub and_true : (a : Bool) → (a && true) ≡ a
and_true true = refl
and_true false = refl

-- ---- how many relations are of rows

not_rows : (rel : Rel) → ((rows : List Quad) → rel ≡ Rows rows → ⊥) → is_rows rel ≡ false
not_rows (Rows rows) not = absurd (not rows refl)
not_rows _ not = refl

one_by : (b : Bool) → cond b 1 0 ≤ 1
one_by true = omega arith
one_by false = omega arith

none_by : (b : Bool) → b ≡ false → cond b 1 0 ≤ 0
none_by true h = absurd (cc h)
none_by false h = omega arith

pub none_with : (rels made : List Rel) (rel : Rel) → made ≡ rels ++ rel ∷ [] → ((rows : List Quad) → rel ≡ Rows rows → ⊥) → count_by is_rows rels ≡ 0 → count_by is_rows made ≡ 0
none_with rels made rel is not zero =
    let all : count_by is_rows (rels ++ rel ∷ []) ≡ count_by is_rows rels + (0 + cond (is_rows rel) 1 0) = sum_by-append (λ (r : Rel). cond (is_rows r) 1 0) rels (rel ∷ []) in
    let same : count_by is_rows made ≡ count_by is_rows (rels ++ rel ∷ []) = ap (λ (l : List Rel). count_by is_rows l) is in
    let last : cond (is_rows rel) 1 0 ≤ 0 = none_by (is_rows rel) (not_rows rel not) in
    omega (arith, all, last, zero, same)

pub few_with : (rels made : List Rel) (rel : Rel) → made ≡ rels ++ rel ∷ [] → count_by is_rows rels ≡ 0 → count_by is_rows made ≤ 1
few_with rels made rel is zero =
    let all : count_by is_rows (rels ++ rel ∷ []) ≡ count_by is_rows rels + (0 + cond (is_rows rel) 1 0) = sum_by-append (λ (r : Rel). cond (is_rows r) 1 0) rels (rel ∷ []) in
    let same : count_by is_rows made ≡ count_by is_rows (rels ++ rel ∷ []) = ap (λ (l : List Rel). count_by is_rows l) is in
    let last : cond (is_rows rel) 1 0 ≤ 1 = one_by (is_rows rel) in
    omega (arith, all, last, zero, same)
