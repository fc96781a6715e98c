-- What rows say of variables.
use Rattle.std.proofs.Common.{◌≡◌, ℕ, ◌+◌, ◌<◌, ◌≤◌, ◌&&◌, ◌||◌, ◌⊎◌, inl, inr, ⊎_elim, not, Bool, true, false, List, [], ◌∷◌, ◌++◌, length, get_or, take, Option, Some, None, IsTrue, refl, sym, ap, ◌∙◌, subst}
use Rattle.std.specs.Borrow.{Bor}
use Rattle.std.specs.Prelude.{IfSome}
use Rattle.std.specs.List.{list_all, list_any, filter}
use Rattle.std.proofs.lemmas.List.{take_all}
use Rattle.std.proofs.lemmas.List.Folds.{list_all-append, list_all_more, list_any-append, list_any_more}
use Rattle.rv_isa.specs.declared.operation.Op.{Op}
use Rattle.fd_prob.specs.declared.relation.Rel.{Rel}
use Rattle.fd_narrow.specs.Narrowing.{IsInside}
use Rattle.fd_narrow.specs.Internal.Steps.{IsValueOutside, Leaves}
use Rattle.dom_set.specs.Elements.{is_in}
use Rattle.fd_prob.specs.declared.problem.Assignment.{Assignment}
use Rattle.fd_prob.specs.declared.relation.Quad.{Quad}
use Rattle.fd_prob.specs.declared.slot.Slot.{Slot}
use Rattle.fd_prob.specs.declared.slot.Slot.TheVariants as slots
use Rattle.fd_prob.specs.Relations.{holds, is_in_row, value_of}
use Rattle.fd_narrow.specs.declared.rows.Part.{Part}
use Rattle.fd_narrow.specs.declared.rows.Part.TheVariants.{Address, Root, Leaf, Word}
use Rattle.fd_narrow.specs.Internal.Parts.{IsLess, IsMissed, part_of, slot_of}
use Rattle.set_sums.proofs.Members.{is_in-filter, left, right}

pub row_part : (part : Part) (x : Assignment) (row : Quad) → IsTrue (is_in_row x row) → IsTrue (is_in (part_of part row) (value_of x (slot_of part)))
row_part part x row h =
    let a = is_in row.ea (value_of x slots.Ea) in
    let b = is_in row.root (value_of x slots.FirstPte) in
    let c = is_in row.leaf (value_of x slots.SecondPte) in
    let d = is_in row.word (value_of x slots.DataWord) in
    by_part part (left a b (left (a && b) c (left (a && b && c) d h))) (right a b (left (a && b) c (left (a && b && c) d h))) (right (a && b) c (left (a && b && c) d h)) (right (a && b && c) d h) where
      by_part : (p : Part) → IsTrue (is_in row.ea (value_of x slots.Ea)) → IsTrue (is_in row.root (value_of x slots.FirstPte)) → IsTrue (is_in row.leaf (value_of x slots.SecondPte)) → IsTrue (is_in row.word (value_of x slots.DataWord)) → IsTrue (is_in (part_of p row) (value_of x (slot_of p)))
      by_part Address k l m n = k
      by_part Root k l m n = l
      by_part Leaf k l m n = m
      by_part Word k l m n = n

lost : (q : Bool) (b : Bool) → b ≡ false → (q && b) ≡ false
lost true b h = h
lost false b h = refl

refused : (q b : Bool) → IsTrue q → (not q && b) ≡ false
refused true b h = refl
refused false b h = absurd (cc h)

pub less_taken : (doms : List (List ℕ)) (part : Part) (row : Quad) (set old new : List ℕ) → set ≡ part_of part row → new ≡ filter (λ v. not (is_in set v)) old → IsLess doms part row old new
less_taken doms part row set old new at is = record {
  lacks = λ v h. ap (λ (d : List ℕ). is_in d v) is ∙ is_in-filter (λ w. not (is_in set w)) old v ∙ lost (not (is_in set v)) (is_in old v) h;
  misses = λ x inside h. ap (λ (d : List ℕ). is_in d (value_of x (slot_of part))) is ∙ is_in-filter (λ w. not (is_in set w)) old (value_of x (slot_of part)) ∙ refused (is_in set (value_of x (slot_of part))) (is_in old (value_of x (slot_of part))) (subst (λ (d : List ℕ). IsTrue (is_in d (value_of x (slot_of part)))) (sym at) (row_part part x row h));
}

-- of all four parts
pub less_all : (doms : List (List ℕ)) (row old new : Quad) → new.ea ≡ filter (λ v. not (is_in row.ea v)) old.ea → new.root ≡ filter (λ v. not (is_in row.root v)) old.root → new.leaf ≡ filter (λ v. not (is_in row.leaf v)) old.leaf → new.word ≡ filter (λ v. not (is_in row.word v)) old.word → (part : Part) → IsLess doms part row (part_of part old) (part_of part new)
less_all doms row old new ea root leaf word Address = less_taken doms Address row row.ea old.ea new.ea refl ea
less_all doms row old new ea root leaf word Root = less_taken doms Root row row.root old.root new.root refl root
less_all doms row old new ea root leaf word Leaf = less_taken doms Leaf row row.leaf old.leaf new.leaf refl leaf
less_all doms row old new ea root leaf word Word = less_taken doms Word row row.word old.word new.word refl word

-- a row that can't hold takes nothing
pub less_none : (doms : List (List ℕ)) (row : Quad) (rest : Quad) → ((x : Assignment) → IsInside doms x → IsTrue (is_in_row x row) → ⊥) → (part : Part) → IsLess doms part row (part_of part rest) (part_of part rest)
less_none doms row rest never part = record { lacks = λ v h. h; misses = λ x inside h. absurd (never x inside h) }

-- nothing was looked at yet
pub missed_first : (doms : List (List ℕ)) (part : Part) (rows : List Quad) (set : List ℕ) → IsMissed doms part (take 0 rows) set
missed_first doms part [] set x inside h = absurd (cc h)
missed_first doms part (row ∷ rows) set x inside h = absurd (cc h)

either : (a b : Bool) → IsTrue (a || b) → IsTrue a ⊎ IsTrue b
either true b h = inl refl
either false b h = inr h

-- one more row was looked at
pub missed_more : (doms : List (List ℕ)) (part : Part) (rows : List Quad) (i : ℕ) (row : Quad) (old new : List ℕ) → i < length rows → row ≡ get_or rows i row → IsMissed doms part (take i rows) old → IsLess doms part row old new → IsMissed doms part (take (i + 1) rows) new
missed_more doms part rows i row old new lt is before less x inside h = ⊎_elim
    (λ earlier. less.lacks (value_of x (slot_of part)) (before x inside earlier))
    (λ here. less.misses x inside (subst (λ (r : Quad). IsTrue (is_in_row x r)) (sym is) here))
    (either (list_any (is_in_row x) (take i rows)) (is_in_row x (get_or rows i row)) (subst (λ (b : Bool). IsTrue b) (list_any_more (is_in_row x) rows i row lt) h))

-- the variable loses what no row has
pub rest_taken : (doms now new : List (List ℕ)) (part : Part) (rows : List Quad) (rest : List ℕ) → Leaves (λ x. IsTrue (list_any (is_in_row x) rows)) doms now → IsMissed doms part rows rest → Leaves (IsValueOutside (slot_of part) rest) now new → Leaves (λ x. IsTrue (list_any (is_in_row x) rows)) doms new
rest_taken doms now new part rows rest before missed taken = record {
  within = λ x inside. before.within x (taken.within x inside);
  keeps = λ x inside h. taken.keeps x (before.keeps x inside h) (λ word. missed x inside h);
}

pub part_taken : (doms now new : List (List ℕ)) (part : Part) (rows : List Quad) (rest : Quad) (slot : Slot) (set : List ℕ) → slot ≡ slot_of part → set ≡ part_of part rest → Leaves (λ x. IsTrue (list_any (is_in_row x) rows)) doms now → ((p : Part) → IsMissed doms p rows (part_of p rest)) → Leaves (IsValueOutside slot set) now new → Leaves (λ x. IsTrue (list_any (is_in_row x) rows)) doms new
part_taken doms now new part rows rest slot set slot_is set_is before missed taken =
    rest_taken doms now new part rows (part_of part rest) before (missed part)
    (subst (λ (s : Slot). Leaves (IsValueOutside s (part_of part rest)) now new) slot_is (subst (λ (d : List ℕ). Leaves (IsValueOutside slot d) now new) set_is taken))

-- the row that alone may hold, if there is one, is the one that holds
abbrev pub HoldsOnly : Option (Bor Quad) → Assignment → Type 0
HoldsOnly None x = ⊥
HoldsOnly (Some row) x = IsTrue (is_in_row x row.now)

-- the variable is in the row's set
pub part_narrowed : (doms now new : List (List ℕ)) (part : Part) (row : Quad) (slot : Slot) (set : List ℕ) → slot ≡ slot_of part → set ≡ part_of part row → Leaves (λ x. IsTrue (is_in_row x row)) doms now → Leaves (λ x. IsTrue (is_in set (value_of x slot))) now new → Leaves (λ x. IsTrue (is_in_row x row)) doms new
part_narrowed doms now new part row slot set slot_is set_is before narrowed =
    let step : Leaves (λ x. IsTrue (is_in (part_of part row) (value_of x (slot_of part)))) now new =
    subst (λ (s : Slot). Leaves (λ x. IsTrue (is_in (part_of part row) (value_of x s))) now new) slot_is (subst (λ (d : List ℕ). Leaves (λ x. IsTrue (is_in d (value_of x slot))) now new) set_is narrowed) in
    record {
      within = λ x inside. before.within x (step.within x inside);
      keeps = λ x inside h. step.keeps x (before.keeps x inside h) (row_part part x row h);
    }

-- what meets one of the rows is in the only one that may hold
pub only_narrowed : (doms new : List (List ℕ)) (rows : List Quad) (row : Quad) → ((x : Assignment) → IsInside doms x → IsTrue (list_any (is_in_row x) rows) → IsTrue (is_in_row x row)) → Leaves (λ x. IsTrue (is_in_row x row)) doms new → Leaves (λ x. IsTrue (list_any (is_in_row x) rows)) doms new
only_narrowed doms new rows row only narrowed = record {
  within = narrowed.within;
  keeps = λ x inside h. narrowed.keeps x inside (only x inside h);
}

-- one more row was looked at, and it can't hold
pub only_kept : (rows : List Quad) (i : ℕ) (row : Quad) (x : Assignment) (only : Option (Bor Quad)) → i < length rows → row ≡ get_or rows i row → (IsTrue (list_any (is_in_row x) (take i rows)) → HoldsOnly only x) → (IsTrue (is_in_row x row) → ⊥)
    → IsTrue (list_any (is_in_row x) (take (i + 1) rows)) → HoldsOnly only x
only_kept rows i row x only lt is before never h = ⊎_elim
    before
    (λ here. absurd (never (subst (λ (r : Quad). IsTrue (is_in_row x r)) (sym is) here)))
    (either (list_any (is_in_row x) (take i rows)) (is_in_row x (get_or rows i row)) (subst (λ (b : Bool). IsTrue b) (list_any_more (is_in_row x) rows i row lt) h))

-- and it is the first that may hold
pub only_first : (rows : List Quad) (i : ℕ) (row : Quad) (x : Assignment) → i < length rows → row ≡ get_or rows i row → (IsTrue (list_any (is_in_row x) (take i rows)) → ⊥)
    → IsTrue (list_any (is_in_row x) (take (i + 1) rows)) → IsTrue (is_in_row x row)
only_first rows i row x lt is none h = ⊎_elim
    (λ earlier. absurd (none earlier))
    (λ here. subst (λ (r : Quad). IsTrue (is_in_row x r)) (sym is) here)
    (either (list_any (is_in_row x) (take i rows)) (is_in_row x (get_or rows i row)) (subst (λ (b : Bool). IsTrue b) (list_any_more (is_in_row x) rows i row lt) h))

-- where all were looked at, it is the only one that may hold
pub only_told : (doms : List (List ℕ)) (rows : List Quad) (i : ℕ) (only : Option (Bor Quad)) → length rows ≤ i → ((x : Assignment) → IsInside doms x → IsTrue (list_any (is_in_row x) (take i rows)) → HoldsOnly only x)
    → IfSome only (λ row. (x : Assignment) → IsInside doms x → IsTrue (list_any (is_in_row x) rows) → IsTrue (is_in_row x row.now))
only_told doms rows i None all told = tt
only_told doms rows i (Some row) all told = λ x inside h. told x inside (subst (λ (rs : List Quad). IsTrue (list_any (is_in_row x) rs)) (sym (take_all i rows all)) h)

-- a further row at the end
pub one_more : (x : Assignment) (rows : List Quad) (copy row : Quad) → copy ≡ row → list_any (is_in_row x) (rows ++ copy ∷ []) ≡ (list_any (is_in_row x) rows || is_in_row x row)
one_more x rows copy row is =
    list_any-append (is_in_row x) rows (copy ∷ [])
    ∙ ap (λ (b : Bool). list_any (is_in_row x) rows || b) (or_none (is_in_row x copy) ∙ ap (is_in_row x) is)
  where
    or_none : (b : Bool) → (b || false) ≡ b
    or_none true = refl
    or_none false = refl

-- one that can't hold is not missed
pub none_more : (before row may : Bool) → may ≡ false → (IsTrue row → may ≡ true) → before ≡ (before || row)
none_more true row may not_may holds = refl
none_more false true may not_may holds = absurd (cc (not_may, holds refl))
none_more false false may not_may holds = refl

-- relations of which one was looked at more
pub relations_more : (op : Op) (x : Assignment) (rels made : List Rel) (i : ℕ) (rel new : Rel) → i < length rels → rel ≡ get_or rels i rel → holds op x new ≡ holds op x rel
    → list_all (holds op x) made ≡ list_all (holds op x) (take i rels) → list_all (holds op x) (made ++ new ∷ []) ≡ list_all (holds op x) (take (i + 1) rels)
relations_more op x rels made i rel new lt is same before =
    list_all-append (holds op x) made (new ∷ [])
    ∙ ap (λ (b : Bool). list_all (holds op x) made && b) (and_none (holds op x new) ∙ same ∙ ap (holds op x) is)
    ∙ ap (λ (b : Bool). b && holds op x (get_or rels i rel)) before
    ∙ sym (list_all_more (holds op x) rels i rel lt)
  where
    and_none : (b : Bool) → (b && true) ≡ b
    and_none true = refl
    and_none false = refl
