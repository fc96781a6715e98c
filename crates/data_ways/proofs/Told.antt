-- What the ways of a row have.
use Rattle.std.proofs.Common.{◌≡◌, ℕ, ◌<◌, ◌^◌, Bool, true, false, not, ◌&&◌, ◌||◌, ◌==◌, List, [], ◌∷◌, map, refl, sym, ap, ◌∙◌}
use Rattle.std.specs.List.{filter, list_any}
use Rattle.std.proofs.lemmas.Bool.{eqb-true}
use Rattle.dom_set.specs.Elements.{is_in}
use Rattle.foot_map.specs.declared.touch.Touch.{Touch}
use Rattle.rv_mem.specs.declared.words.Seen.{Seen}
use Rattle.sv_walk.specs.declared.entry.View.{View}
use Rattle.row_parts.specs.declared.row.Row.{Row}
use Rattle.row_parts.specs.Gaps.{counts}
use Rattle.row_parts.proofs.Lists.{or_assoc, or_false}
use Rattle.addr_rows.specs.Walks.{has_value, row_holds}
use Rattle.data_bytes.specs.Sets.{IsSetOf}
use Rattle.data_bytes.specs.declared.starts.DataAccess.{DataAccess}
use Rattle.data_bytes.proofs.Sets.{filter_leaves}
use Rattle.data_ways.specs.declared.barring.NewRoot.{NewRoot}
use Rattle.data_ways.specs.declared.way.DataEnd.{DataEnd}
use Rattle.data_ways.specs.Internal.Barring.{is_barred}
use Rattle.data_ways.specs.Internal.Tables.{is_always_barred, is_newly_barred}
use Rattle.data_ways.proofs.Parted.{barred_parts}

-- ONE ROOT ENTRY
none_had : (e x l : Bool) → (e && ((x && false) && l)) ≡ false
none_had true true l = refl
none_had true false l = refl
none_had false x l = refl

both_had : (a e x o v l : Bool) → (a || (e && ((x && (o || v)) && l))) ≡ ((a || (e && ((x && o) && l))) || (e && ((x && v) && l)))
both_had true e x o v l = refl
both_had false false x o v l = refl
both_had false true false o v l = refl
both_had false true true false v l = refl
both_had false true true true v false = last v
  where
    last : (v : Bool) → false ≡ (v && false)
    last true = refl
    last false = refl
both_had false true true true v true = refl

no_both : (v : Bool) → (v && false) ≡ false
no_both true = refl
no_both false = refl

-- a root entry that the part has not
pub untaken : (a e x v h n l : Bool) → h ≡ false → a ≡ (a || (e && ((x && (v && (h && n))) && l)))
untaken a e x v h n l none =
    sym (or_false a) ∙ ap (λ (b : Bool). a || b) (sym (none_had e x l)) ∙ ap (λ (b : Bool). a || (e && ((x && b) && l))) (sym (no_both v)) ∙ ap (λ (b : Bool). a || (e && ((x && (v && (b && n))) && l))) (sym none)

-- a root entry with which no address is barred
pub taken_too : (a e x o v h n l all : Bool) → all ≡ (o || v) → h ≡ true → n ≡ false → (a || (e && ((x && all) && l))) ≡ ((a || (e && ((x && o) && l))) || (e && ((x && (v && (h && not n))) && l)))
taken_too a e x o v h n l all is has off =
    ap (λ (c : Bool). a || (e && ((x && c) && l))) is ∙ both_had a e x o v l
    ∙ ap (λ (c : Bool). (a || (e && ((x && o) && l))) || (e && ((x && c) && l))) (itself v ∙ ap (λ (c : Bool). v && (c && true)) (sym has) ∙ ap (λ (c : Bool). v && (h && not c)) (sym off))
  where
    itself : (b : Bool) → b ≡ (b && (true && true))
    itself true = refl
    itself false = refl

pub counted_less : (c e n : Bool) → (c && (e && not n)) ≡ ((c && e) && not n)
counted_less true e n = refl
counted_less false e n = refl

-- a root entry that has a way of its own
pub own_way : (a b new e x y v h n l : Bool) → new ≡ (a || (e && ((y && (v || false)) && l))) → y ≡ (x && not n) → h ≡ true → (new || b) ≡ ((a || b) || (e && ((x && (v && (h && not n))) && l)))
own_way a b new e x y v h n l is left has =
    ap (λ (c : Bool). c || b) (is ∙ ap (λ (c : Bool). a || (e && ((c && (v || false)) && l))) left)
    ∙ ap (λ (c : Bool). (a || (e && c)) || b) (moved x (not n) v l)
    ∙ swapped a b (e && ((x && (v && (true && not n))) && l))
    ∙ ap (λ (c : Bool). (a || b) || (e && ((x && (v && (c && not n))) && l))) (sym has)
  where
    moved : (x n v l : Bool) → (((x && n) && (v || false)) && l) ≡ ((x && (v && (true && n))) && l)
    moved true true true l = refl
    moved true true false l = refl
    moved true false true l = refl
    moved true false false l = refl
    moved false n v l = refl

    swapped : (a b c : Bool) → ((a || c) || b) ≡ ((a || b) || c)
    swapped true b c = refl
    swapped false true true = refl
    swapped false true false = refl
    swapped false false true = refl
    swapped false false false = refl

-- ALL OF THEM
-- the loop over root entries has come one further
pub root_further : (t new e x k more rest l all : Bool) → new ≡ (t || (e && ((x && k) && l))) → rest ≡ (k || more) → (t || (e && ((x && rest) && l))) ≡ all → (new || (e && ((x && more) && l))) ≡ all
root_further t new e x k more rest l all step first before =
    ap (λ (b : Bool). b || (e && ((x && more) && l))) step ∙ sym (both_had t e x k more l) ∙ ap (λ (b : Bool). t || (e && ((x && b) && l))) (sym first) ∙ before

-- and is through
pub roots_through : (t e x rest l all : Bool) → rest ≡ false → (t || (e && ((x && rest) && l))) ≡ all → t ≡ all
roots_through t e x rest l all none before = sym (or_false t) ∙ ap (λ (b : Bool). t || b) (sym (none_had e x l)) ∙ ap (λ (b : Bool). t || (e && ((x && b) && l))) (sym none) ∙ before

-- ROWS
-- the loop over rows has come one further
pub row_further : (old new row rest more all : Bool) → new ≡ (old || row) → rest ≡ (row || more) → (old || rest) ≡ all → (new || more) ≡ all
row_further old new row rest more all step first before = ap (λ (b : Bool). b || more) step ∙ or_assoc old row more ∙ ap (λ (b : Bool). old || b) (sym first) ∙ before

-- a value of the list that passes
taken_is : (root : ℕ → Bool) (news : List NewRoot) (first : ℕ) → list_any (λ (new : NewRoot). new.value == first && root new.value) news ≡ (is_in (map (λ (new : NewRoot). new.value) news) first && root first)
taken_is root [] first = refl
taken_is root (new ∷ news) first = go (new.value == first) refl (taken_is root news first)
  where
    rest : Bool
    rest = list_any (λ (new : NewRoot). new.value == first && root new.value) news

    others : Bool
    others = is_in (map (λ (new : NewRoot). new.value) news) first

    once : (r o : Bool) → (r || (o && r)) ≡ r
    once true o = refl
    once false true = refl
    once false false = refl

    go : (b : Bool) → (new.value == first) ≡ b → rest ≡ (others && root first) → ((b && root new.value) || rest) ≡ ((b || others) && root first)
    go true e h = ap (λ (r : Bool). root new.value || r) h ∙ ap (λ (n : ℕ). root n || (others && root first)) (eqb-true new.value first e) ∙ once (root first) others
    go false e h = h

regrouped : (r a i h n l : Bool) → (((r && not a) && (i && (h && not n))) && l) ≡ ((r && (h && l)) && (i && not (a || n)))
regrouped false a i h n l = refl
regrouped true true i h n true = last h i
  where
    last : (h i : Bool) → false ≡ ((h && true) && (i && false))
    last true true = refl
    last true false = refl
    last false i = refl
regrouped true true i h n false = last h
  where
    last : (h : Bool) → false ≡ ((h && false) && (i && false))
    last true = refl
    last false = refl
regrouped true false false h n l = last (h && l)
  where
    last : (b : Bool) → false ≡ (b && false)
    last true = refl
    last false = refl
regrouped true false true true n true = only (not n)
  where
    only : (b : Bool) → (b && true) ≡ b
    only true = refl
    only false = refl
regrouped true false true true n false = last (not n)
  where
    last : (b : Bool) → (b && false) ≡ false
    last true = refl
    last false = refl
regrouped true false true false n l = refl

-- where only some addresses count
counted : (c r a i h n l : Bool) → ((((c && (r && not a)) && (i && (h && not n))) && l)) ≡ ((c && (r && (h && l))) && (i && not (a || n)))
counted true r a i h n l = regrouped r a i h n l
counted false r a i h n l = refl

-- the ways of a row have what the row has
pub row_is : (at : ℕ → Seen) (feet : List Touch) (hart : ℕ) (v : View) (access : DataAccess) (end : DataEnd) (row : Row) (news : List NewRoot) (barred ea : List ℕ) (passes : Bool) (x first second : ℕ) → x < 2 ^ 32
    → IsSetOf (is_always_barred at feet hart v access end) barred → ea ≡ filter (λ y. not (is_in barred y)) row.ea
    → (passes && (((counts row.apart x && is_in ea x) && list_any (λ (new : NewRoot). new.value == first && (has_value row.root new.value && not (is_newly_barred at feet hart v access end new.value x))) news) && has_value row.leaf second))
    ≡ (passes && (row_holds row x first second && (is_in (map (λ (new : NewRoot). new.value) news) first && not (is_barred at feet hart v access end x first))))
row_is at feet hart v access end row news barred ea passes x first second small is made =
    ap (λ (b : Bool). passes && b)
    (ap (λ (b : Bool). ((counts row.apart x && b) && list_any (λ (new : NewRoot). new.value == first && (has_value row.root new.value && not (is_newly_barred at feet hart v access end new.value x))) news) && has_value row.leaf second)
    (filter_leaves (λ y. not (is_in barred y)) row.ea ea made x ∙ ap (λ (b : Bool). is_in row.ea x && not b) (is x small))
    ∙ ap (λ (b : Bool). ((counts row.apart x && (is_in row.ea x && not (is_always_barred at feet hart v access end x))) && b) && has_value row.leaf second)
    (taken_is (λ w. has_value row.root w && not (is_newly_barred at feet hart v access end w x)) news first)
    ∙ counted (counts row.apart x) (is_in row.ea x) (is_always_barred at feet hart v access end x) (is_in (map (λ (new : NewRoot). new.value) news) first) (has_value row.root first) (is_newly_barred at feet hart v access end first x) (has_value row.leaf second)
    ∙ ap (λ (b : Bool). (counts row.apart x && (is_in row.ea x && (has_value row.root first && has_value row.leaf second))) && (is_in (map (λ (new : NewRoot). new.value) news) first && not b)) (sym (barred_parts at feet hart v access end x first)))
