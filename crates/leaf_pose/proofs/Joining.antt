-- Rows that are joined to others.
use Rattle.std.proofs.Common.{◌≡◌, ℕ, ◌<◌, Bool, true, false, ◌&&◌, ◌||◌, List, [], ◌∷◌, ◌++◌, refl, sym, ap, ◌∙◌, arith, zero, suc, get_or, set, length}
use Rattle.std.proofs.lemmas.List.Folds.{list_any-append}
use Rattle.dom_set.specs.Elements.{elements_of, is_in}
use Rattle.dom_set.proofs.Sets.{is_in-elements}
use Rattle.fd_prob.specs.declared.problem.Assignment.{Assignment}
use Rattle.fd_prob.specs.declared.relation.Quad.{Quad}
use Rattle.fd_prob.specs.declared.slot.Slot.TheVariants as slots
use Rattle.fd_prob.specs.Order.{IsAssignment}
use Rattle.fd_prob.specs.Relations.{is_in_row, value_of}
use Rattle.leaf_stand.proofs.Single.{word_at}
use Rattle.leaf_pose.specs.Extras.{AreJoined, in_rows}

pub or_none : (a : Bool) → (a || false) ≡ a
or_none true = refl
or_none false = refl

or_right : (a : Bool) → (a || true) ≡ true
or_right true = refl
or_right false = refl

pub or_assoc : (a b c : Bool) → ((a || b) || c) ≡ (a || (b || c))
or_assoc true b c = refl
or_assoc false b c = refl

pub not_joined : (row : Quad) (rows : List Quad) → AreJoined false row rows rows
not_joined row rows x hx = sym (or_none (in_rows x rows))

pub appended : (row : Quad) (old new : List Quad) → new ≡ old ++ row ∷ [] → AreJoined true row old new
appended row old new e x hx = ap (λ (l : List Quad). in_rows x l) e ∙ list_any-append (is_in_row x) old (row ∷ []) ∙ ap (λ (b : Bool). in_rows x old || b) (or_none (is_in_row x row))

twice : (a : Bool) → (a || false) ≡ ((a || false) || a)
twice true = refl
twice false = refl

either_address : (e f r l w : Bool) → (((e || f) && r && l && w) || false) ≡ (((e && r && l && w) || false) || (f && r && l && w))
either_address true true r l w = twice (r && l && w)
either_address true false r l w = sym (or_none ((r && l && w) || false))
either_address false f r l w = or_none (f && r && l && w)

-- of rows that differ in their addresses alone
pub addresses_joined : (row other : Quad) (ea : List ℕ) → row.root ≡ other.root → row.word ≡ other.word → row.leaf ≡ other.leaf → ea ≡ elements_of (λ v. is_in row.ea v || is_in other.ea v)
    → AreJoined true other (row ∷ []) (record { ea = ea; root = row.root; leaf = row.leaf; word = row.word } ∷ [])
addresses_joined row other ea root word leaf e x hx =
    let v = value_of x slots.Ea in
    let first : Bool = is_in row.root (value_of x slots.FirstPte) in
    let second : Bool = is_in row.leaf (value_of x slots.SecondPte) in
    let last : Bool = is_in row.word (value_of x slots.DataWord) in
    ap (λ (b : Bool). (b && first && second && last) || false) (ap (λ (l : List ℕ). is_in l v) e ∙ is_in-elements (λ n. is_in row.ea n || is_in other.ea n) v (word_at x hx slots.Ea))
    ∙ either_address (is_in row.ea v) (is_in other.ea v) first second last
    ∙ ap (λ (l : List ℕ). (is_in_row x row || false) || (is_in other.ea v && is_in l (value_of x slots.FirstPte) && second && last)) root
    ∙ ap (λ (l : List ℕ). (is_in_row x row || false) || (is_in other.ea v && is_in other.root (value_of x slots.FirstPte) && is_in l (value_of x slots.SecondPte) && last)) leaf
    ∙ ap (λ (l : List ℕ). (is_in_row x row || false) || (is_in other.ea v && is_in other.root (value_of x slots.FirstPte) && is_in other.leaf (value_of x slots.SecondPte) && is_in l (value_of x slots.DataWord))) word

-- of one row in a list
or_inside : (a b c : Bool) → (((a || false) || b) || c) ≡ ((a || c) || b)
or_inside true b c = refl
or_inside false true c = sym (or_right c)
or_inside false false c = sym (or_none c)

pub joined_at : (joined : Bool) (row new : Quad) (rows : List Quad) (i : ℕ) (d : Quad) → i < length rows → AreJoined joined row (get_or rows i d ∷ []) (new ∷ []) → AreJoined joined row rows (set rows i new)
joined_at joined row new [] zero d lt h x hx = absurd (omega arith)
joined_at joined row new [] (suc i) d lt h x hx = absurd (omega arith)
joined_at joined row new (r ∷ rows) zero d lt h x hx =
    ap (λ (b : Bool). b || in_rows x rows) (sym (or_none (is_in_row x new)) ∙ h x hx) ∙ or_inside (is_in_row x r) (joined && is_in_row x row) (in_rows x rows)
joined_at joined row new (r ∷ rows) (suc i) d lt h x hx =
    ap (λ (b : Bool). is_in_row x r || b) (joined_at joined row new rows i d (omega arith) h x hx) ∙ sym (or_assoc (is_in_row x r) (in_rows x rows) (joined && is_in_row x row))

-- a row more, behind those at which nothing came to the rows
pub joined_then : (joined : Bool) (row : Quad) (start old new : List Quad) → AreJoined false row start old → AreJoined joined row old new → AreJoined joined row start new
joined_then joined row start old new before h x hx = h x hx ∙ ap (λ (b : Bool). b || (joined && is_in_row x row)) (before x hx ∙ or_none (in_rows x start))

-- rows that are put to others, from the last one to the first
regrouped : (a b c : Bool) → ((a || b) || c) ≡ (a || (c || (b || false)))
regrouped true b c = refl
regrouped false true true = refl
regrouped false true false = refl
regrouped false false true = refl
regrouped false false false = refl

pub one_put : (x : Assignment) (rows new left less : List Quad) (row : Quad) → in_rows x new ≡ (in_rows x rows || is_in_row x row) → left ≡ less ++ row ∷ [] → (in_rows x new || in_rows x less) ≡ (in_rows x rows || in_rows x left)
one_put x rows new left less row put is =
    ap (λ (b : Bool). b || in_rows x less) put
    ∙ regrouped (in_rows x rows) (is_in_row x row) (in_rows x less)
    ∙ ap (λ (b : Bool). in_rows x rows || b) (sym (list_any-append (is_in_row x) less (row ∷ [])) ∙ ap (λ (l : List Quad). in_rows x l) (sym is))

pub all_put : (x : Assignment) (rows left : List Quad) (whole : Bool) → left ≡ [] → (in_rows x rows || in_rows x left) ≡ whole → in_rows x rows ≡ whole
all_put x rows left whole none is = sym (or_none (in_rows x rows)) ∙ ap (λ (l : List Quad). in_rows x rows || in_rows x l) (sym none) ∙ is

pub none_left : (rows : List Quad) → length rows ≡ 0 → rows ≡ []
none_left [] is = refl
none_left (row ∷ rows) is = absurd (omega (arith, is))
