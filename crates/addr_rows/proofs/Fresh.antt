-- New entries, as the ends that the definitions give.
use Rattle.std.proofs.Common.{◌≡◌, ℕ, ◌/◌, ◌^◌, ◌<◌, Bool, true, false, not, ◌&&◌, List, [], ◌∷◌, Option, Some, None, refl, sym, ap, ◌∙◌, arith}
use Rattle.rv_mem.specs.declared.words.Seen.{Seen}
use Rattle.rv_mem.specs.declared.words.Seen.TheVariants.{Untouched}
use Rattle.row_parts.specs.Classes.{same, entry_at, has_class, has_index, is_kind, TableOf}
use Rattle.row_parts.specs.Rows.{End, when}
use Rattle.addr_rows.specs.Combinations.{Setting, at_root, at_second, is_table, root_frame, rooted, second_reaches}
use Rattle.row_parts.specs.Items.{by_kind, GivesEach}
use Rattle.row_parts.specs.declared.alike.Group.{Group}
use Rattle.row_parts.specs.Alike.{by_groups, by_word}

-- new second entries, by the word that is given
pub seconds : (st : Setting) (x : ℕ) (leaf : Option ℕ) → by_word st.second leaf (λ w. second_reaches st x w ∷ []) ≡ at_second st true x Untouched leaf
unfolding at_second
seconds st x None = refl
seconds st x (Some w) = refl

-- new root entries
pub roots : (at : ℕ → Seen) (st : Setting) (x : ℕ) (root leaf : Option ℕ) → is_table st.tables (root_frame st.view) ≡ true
    → by_word st.first root (λ w. rooted at st true w x leaf) ≡ at_root at st x Untouched root leaf
unfolding at_root
roots at st x None leaf may = refl
roots at st x (Some w) leaf may = more (is_table st.tables (root_frame st.view)) (st.first w) (rooted at st true w x leaf) may
  where
    more : (b c : Bool) (es : List End) → b ≡ true → when c es ≡ when (b && c) es
    more true c es h = refl
    more false c es h = absurd (cc h)

-- groups of new root entries give the ends of the word that is given
pub root_groups : (at : ℕ → Seen) (st : Setting) (gs : List Group) (first end x : ℕ) (root leaf : Option ℕ) (set : Bool)
    → by_groups gs root (λ w. when (has_index first end x) (rooted at st true w x leaf)) ≡ by_word st.first root (λ w. when (has_index first end x) (rooted at st true w x leaf))
    → (set ≡ true → has_index first end x ≡ true) → is_table st.tables (root_frame st.view) ≡ true
    → when (set && true) (by_groups gs root (λ w. rooted at st true w x leaf)) ≡ when set (at_root at st x Untouched root leaf)
root_groups at st gs first end x root leaf false ends there may = refl
root_groups at st gs first end x root leaf true ends there may =
    ap (λ (b : Bool). by_groups gs root (λ w. when b (rooted at st true w x leaf))) (sym (there refl))
    ∙ ends
    ∙ ap (λ (b : Bool). by_word st.first root (λ w. when b (rooted at st true w x leaf))) (there refl)
    ∙ roots at st x root leaf may

-- where no second entry may be new, there is no end
none_new : (st : Setting) (x : ℕ) (leaf : Option ℕ) (b : Bool) → when b (at_second st false x Untouched leaf) ≡ []
unfolding at_second
none_new st x None true = refl
none_new st x (Some w) true = refl
none_new st x leaf false = refl

-- where the second entry would be the new root entry, none is new
pub apart_second : (st : Setting) (x : ℕ) (leaf : Option ℕ) (apart set word equal : Bool) → apart ≡ (set && not equal)
    → when (apart && word) (at_second st true x Untouched leaf) ≡ when (set && word) (at_second st (not equal) x Untouched leaf)
unfolding at_second
apart_second st x leaf apart set word true is = ap (λ (b : Bool). when (b && word) (at_second st true x Untouched leaf)) (is ∙ none set) ∙ sym (none_new st x leaf (set && word))
  where
    none : (b : Bool) → (b && false) ≡ false
    none true = refl
    none false = refl
apart_second st x leaf apart set word false is = ap (λ (b : Bool). when (b && word) (at_second st true x Untouched leaf)) (is ∙ all set)
  where
    all : (b : Bool) → (b && true) ≡ b
    all true = refl
    all false = refl

-- rows for which both indices have to differ
pub counted_second : (st : Setting) (x : ℕ) (leaf : Option ℕ) (b equal : Bool)
    → when (not equal && b) (at_second st true x Untouched leaf) ≡ when b (at_second st (not equal) x Untouched leaf)
counted_second st x leaf b true = sym (none_new st x leaf b)
counted_second st x leaf b false = refl

-- an entry is the same as what the table has
pub class_is : (at : ℕ → Seen) (frame : ℕ) (table : List Seen) (k : Seen) (i : ℕ) → TableOf at frame table → i < 1024 → has_class table k i ≡ same k (entry_at at frame i)
class_is at frame table k i is small = ap (λ (o : Option Seen). is_kind k o) (is.entries i small)

pub own_is : (own frame equal : Bool) → (own && frame) ≡ true → equal ≡ (own && (frame && equal))
own_is true true equal h = refl
own_is true false equal h = absurd (cc h)
own_is false frame equal h = absurd (cc h)

pub not_own : (own frame equal : Bool) → (own && frame) ≡ false → true ≡ not (own && (frame && equal))
not_own true true equal h = absurd (cc h)
not_own true false equal h = refl
not_own false frame equal h = refl

-- the kinds that a table has give the ends of the entry
pub kinds_end : (at : ℕ → Seen) (frame : ℕ) (table kinds : List Seen) (i : ℕ) (f : Seen → List End) → TableOf at frame table → i < 1024 → GivesEach table kinds
    → by_kind kinds (entry_at at frame i) f ≡ f (entry_at at frame i)
kinds_end at frame table kinds i f is small each = each i (entry_at at frame i) f (is.entries i small)

top : (x : ℕ) → x < 2 ^ 32 → x / 2 ^ 22 < 1024
top x small = omega (arith, small)

with_true : (b : Bool) (es : List End) → when (b && true) es ≡ when b es
with_true true es = refl
with_true false es = refl

pub root_end : (at : ℕ → Seen) (frame : ℕ) (table kinds : List Seen) (x : ℕ) (f : Seen → List End) (set : Bool) → x < 2 ^ 32 → TableOf at frame table → GivesEach table kinds
    → when (set && true) (by_kind kinds (entry_at at frame (x / 2 ^ 22)) f) ≡ when set (f (entry_at at frame (x / 2 ^ 22)))
root_end at frame table kinds x f set small is each =
    with_true set (by_kind kinds (entry_at at frame (x / 2 ^ 22)) f) ∙ ap (λ (es : List End). when set es) (kinds_end at frame table kinds (x / 2 ^ 22) f is (top x small) each)
