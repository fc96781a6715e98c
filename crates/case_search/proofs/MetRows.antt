-- What relations say of what is in domains.
use Rattle.std.proofs.Common.{◌≡◌, ℕ, ◌+◌, ◌<◌, ◌≤◌, Bool, true, false, ◌&&◌, ◌||◌, List, [], ◌∷◌, ◌++◌, length, drop, get_or, refl, sym, ap, ◌∙◌}
use Rattle.std.specs.Prelude.{filter}
use Rattle.std.specs.List.{list_all, list_any}
use Rattle.std.proofs.lemmas.List.Folds.{list_all-append, list_any-append}
use Rattle.dom_set.specs.Elements.{is_in}
use Rattle.rv_isa.specs.declared.operation.Op.{Op}
use Rattle.fd_prob.specs.declared.problem.Assignment.{Assignment}
use Rattle.fd_prob.specs.declared.problem.Case.{Case}
use Rattle.fd_prob.specs.declared.problem.Extra.{Extra}
use Rattle.fd_prob.specs.declared.relation.Quad.{Quad}
use Rattle.fd_prob.specs.declared.relation.Rel.{Rel}
use Rattle.fd_prob.specs.declared.relation.Rel.TheVariants.{Rows}
use Rattle.fd_prob.specs.declared.slot.Slot.{Slot}
use Rattle.fd_prob.specs.declared.slot.Slot.TheVariants as slots
use Rattle.fd_prob.specs.Extras.{cut_by_all, extended_case}
use Rattle.fd_prob.specs.Fitting.{IsCase}
use Rattle.fd_prob.specs.Relations.{holds, is_in_row, value_of}
use Rattle.fd_narrow.specs.Narrowing.{IsInside, domain_in}
use Rattle.set_sums.proofs.Members.{is_in-filter}
use Rattle.case_search.specs.Equivalent.{IsEquivalent}
use Rattle.case_search.proofs.Equivalence.{possible_equivalent}
use Rattle.case_search.proofs.Extensions.{case_whole}
use Rattle.case_search.proofs.Lists.{drop_here, drop_past}

and_true : (b : Bool) → (b && true) ≡ b
and_true true = refl
and_true false = refl

or_false : (b : Bool) → (b || false) ≡ b
or_false true = refl
or_false false = refl

or_assoc : (a b c : Bool) → ((a || b) || c) ≡ (a || (b || c))
or_assoc true b c = refl
or_assoc false b c = refl

and_assoc : (a b c : Bool) → ((a && b) && c) ≡ (a && (b && c))
and_assoc true b c = refl
and_assoc false b c = refl

and_false : (b : Bool) → (b && false) ≡ false
and_false true = refl
and_false false = refl

-- what a set has of a domain, of what is in the domain
pub met_in : (doms : List (List ℕ)) (x : Assignment) (s : Slot) (set made : List ℕ) → IsInside doms x → made ≡ filter (is_in set) (domain_in doms s) → is_in made (value_of x s) ≡ is_in set (value_of x s)
met_in doms x s set made inside is =
    let v : ℕ = value_of x s in
    ap (λ (d : List ℕ). is_in d v) is ∙ is_in-filter (is_in set) (domain_in doms s) v ∙ ap (λ (b : Bool). is_in set v && b) (inside s) ∙ and_true (is_in set v)

-- ---- rows

no_root : (e r l w : Bool) → r ≡ false → (e && r && l && w) ≡ false
no_root true r l w is = ap (λ (b : Bool). b && l && w) is
no_root false r l w is = refl

no_leaf : (e r l w : Bool) → l ≡ false → (e && r && l && w) ≡ false
no_leaf true true l w is = ap (λ (b : Bool). b && w) is
no_leaf true false l w is = refl
no_leaf false r l w is = refl

-- the empty set has nothing
none_in : (set made : List ℕ) (v : ℕ) → made ≡ [] → is_in made v ≡ is_in set v → is_in set v ≡ false
none_in set made v none same = sym same ∙ ap (λ (d : List ℕ). is_in d v) none

pub not_met_root : (old : List Quad) (row : Quad) (x : Assignment) (made : List ℕ) → made ≡ [] → is_in made (value_of x slots.FirstPte) ≡ is_in row.root (value_of x slots.FirstPte) → list_any (is_in_row x) old ≡ (list_any (is_in_row x) old || is_in_row x row)
not_met_root old row x made none same =
    sym (ap (λ (b : Bool). list_any (is_in_row x) old || b) (no_root (is_in row.ea (value_of x slots.Ea)) (is_in row.root (value_of x slots.FirstPte)) (is_in row.leaf (value_of x slots.SecondPte)) (is_in row.word (value_of x slots.DataWord)) (none_in row.root made (value_of x slots.FirstPte) none same))
    ∙ or_false (list_any (is_in_row x) old))

pub not_met_leaf : (old : List Quad) (row : Quad) (x : Assignment) (made : List ℕ) → made ≡ [] → is_in made (value_of x slots.SecondPte) ≡ is_in row.leaf (value_of x slots.SecondPte) → list_any (is_in_row x) old ≡ (list_any (is_in_row x) old || is_in_row x row)
not_met_leaf old row x made none same =
    sym (ap (λ (b : Bool). list_any (is_in_row x) old || b) (no_leaf (is_in row.ea (value_of x slots.Ea)) (is_in row.root (value_of x slots.FirstPte)) (is_in row.leaf (value_of x slots.SecondPte)) (is_in row.word (value_of x slots.DataWord)) (none_in row.leaf made (value_of x slots.SecondPte) none same))
    ∙ or_false (list_any (is_in_row x) old))

pub not_met_ea : (old : List Quad) (row : Quad) (x : Assignment) (made : List ℕ) → made ≡ [] → is_in made (value_of x slots.Ea) ≡ is_in row.ea (value_of x slots.Ea) → list_any (is_in_row x) old ≡ (list_any (is_in_row x) old || is_in_row x row)
not_met_ea old row x made none same =
    sym (ap (λ (b : Bool). list_any (is_in_row x) old || (b && is_in row.root (value_of x slots.FirstPte) && is_in row.leaf (value_of x slots.SecondPte) && is_in row.word (value_of x slots.DataWord))) (none_in row.ea made (value_of x slots.Ea) none same)
    ∙ or_false (list_any (is_in_row x) old))

pub met_row : (old new : List Quad) (row : Quad) (x : Assignment) (ea root leaf word : List ℕ) → new ≡ old ++ record { ea = ea; root = root; leaf = leaf; word = word } ∷ [] → word ≡ row.word
    → is_in ea (value_of x slots.Ea) ≡ is_in row.ea (value_of x slots.Ea) → is_in root (value_of x slots.FirstPte) ≡ is_in row.root (value_of x slots.FirstPte) → is_in leaf (value_of x slots.SecondPte) ≡ is_in row.leaf (value_of x slots.SecondPte)
    → list_any (is_in_row x) new ≡ (list_any (is_in_row x) old || is_in_row x row)
met_row old new row x ea root leaf word new_is word_is ea_in root_in leaf_in =
    let made : Quad = record { ea = ea; root = root; leaf = leaf; word = word } in
    ap (list_any (is_in_row x)) new_is ∙ list_any-append (is_in_row x) old (made ∷ [])
    ∙ ap (λ (b : Bool). list_any (is_in_row x) old || b) (or_false (is_in_row x made))
    ∙ (λ i. list_any (is_in_row x) old || (ea_in i && root_in i && leaf_in i && is_in (word_is i) (value_of x slots.DataWord)))

-- rows so far
abbrev pub AreMet : List (List ℕ) → List Quad → ℕ → List Quad → Type 0
AreMet doms rows i made = (x : Assignment) → IsInside doms x → (list_any (is_in_row x) made || list_any (is_in_row x) (drop i rows)) ≡ list_any (is_in_row x) rows

pub next_row : (doms : List (List ℕ)) (rows : List Quad) (i : ℕ) (row : Quad) (old new : List Quad) → i < length rows → row ≡ get_or rows i row → AreMet doms rows i old → ((x : Assignment) → IsInside doms x → list_any (is_in_row x) new ≡ (list_any (is_in_row x) old || is_in_row x row)) → AreMet doms rows (i + 1) new
next_row doms rows i row old new less here so_far more x inside =
    let rest : Bool = list_any (is_in_row x) (drop (i + 1) rows) in
    ap (λ (b : Bool). b || rest) (more x inside)
    ∙ or_assoc (list_any (is_in_row x) old) (is_in_row x row) rest
    ∙ ap (λ (qs : List Quad). list_any (is_in_row x) old || list_any (is_in_row x) qs) (sym (drop_here rows i row less here))
    ∙ so_far x inside

pub all_rows : (doms : List (List ℕ)) (rows : List Quad) (i : ℕ) (made : List Quad) → length rows ≤ i → AreMet doms rows i made → (x : Assignment) → IsInside doms x → list_any (is_in_row x) made ≡ list_any (is_in_row x) rows
all_rows doms rows i made end so_far x inside =
    sym (or_false (list_any (is_in_row x) made)) ∙ ap (λ (qs : List Quad). list_any (is_in_row x) made || list_any (is_in_row x) qs) (sym (drop_past rows i end)) ∙ so_far x inside

-- ---- relations

-- relations so far, behind others
abbrev pub AreMetRels : List (List ℕ) → List Rel → List Rel → ℕ → List Rel → Type 0
AreMetRels doms others rels i made = (op : Op) (x : Assignment) → IsInside doms x → (list_all (holds op x) made && list_all (holds op x) (drop i rels)) ≡ (list_all (holds op x) others && list_all (holds op x) rels)

pub next_rel : (doms : List (List ℕ)) (others rels : List Rel) (i : ℕ) (rel one : Rel) (old new : List Rel) → i < length rels → rel ≡ get_or rels i rel → new ≡ old ++ one ∷ [] → ((op : Op) (x : Assignment) → IsInside doms x → holds op x one ≡ holds op x rel) → AreMetRels doms others rels i old → AreMetRels doms others rels (i + 1) new
next_rel doms others rels i rel one old new less here new_is same so_far op x inside =
    let h : List Rel → Bool = list_all (holds op x) in
    let rest : Bool = h (drop (i + 1) rels) in
    ap (λ (rs : List Rel). h rs && rest) new_is
    ∙ ap (λ (b : Bool). b && rest) (list_all-append (holds op x) old (one ∷ []))
    ∙ ap (λ (b : Bool). (h old && b) && rest) (and_true (holds op x one) ∙ same op x inside)
    ∙ and_assoc (h old) (holds op x rel) rest
    ∙ ap (λ (rs : List Rel). h old && h rs) (sym (drop_here rels i rel less here))
    ∙ so_far op x inside

pub all_rels : (doms : List (List ℕ)) (others rels : List Rel) (i : ℕ) (made : List Rel) → length rels ≤ i → AreMetRels doms others rels i made → (op : Op) (x : Assignment) → IsInside doms x → list_all (holds op x) made ≡ (list_all (holds op x) others && list_all (holds op x) rels)
all_rels doms others rels i made end so_far op x inside =
    let h : List Rel → Bool = list_all (holds op x) in
    sym (and_true (h made)) ∙ ap (λ (rs : List Rel). h made && h rs) (sym (drop_past rels i end)) ∙ so_far op x inside

-- ---- cases

-- a case that stays
pub stays_in : (e : Extra) (c made : Case) → IsCase c → made.op ≡ c.op → made.doms ≡ cut_by_all e.cuts c.doms → ((op : Op) (x : Assignment) → IsInside (cut_by_all e.cuts c.doms) x → list_all (holds op x) made.rels ≡ (list_all (holds op x) c.rels && list_all (holds op x) e.rels))
    → IsEquivalent (extended_case e true c) made
stays_in e c made whole op_is doms_are rels_are = possible_equivalent (extended_case e true c) made (case_whole e true c whole) op_is doms_are (λ op x inside.
    rels_are op x inside
    ∙ sym (list_all-append (holds op x) c.rels e.rels)
    ∙ sym (and_true (list_all (holds op x) (c.rels ++ e.rels)))
    ∙ sym (list_all-append (holds op x) (c.rels ++ e.rels) []))

-- a case that does not
pub stays_out : (e : Extra) (c made : Case) → IsCase c → made.op ≡ c.op → made.doms ≡ cut_by_all e.cuts c.doms → made.rels ≡ c.rels ++ Rows [] ∷ [] → IsEquivalent (extended_case e false c) made
stays_out e c made whole op_is doms_are rels_are = possible_equivalent (extended_case e false c) made (case_whole e false c whole) op_is doms_are (λ op x inside.
    ap (list_all (holds op x)) rels_are
    ∙ list_all-append (holds op x) c.rels (Rows [] ∷ [])
    ∙ and_false (list_all (holds op x) c.rels)
    ∙ sym (and_false (list_all (holds op x) (c.rels ++ e.rels)))
    ∙ sym (list_all-append (holds op x) (c.rels ++ e.rels) (Rows [] ∷ [])))
