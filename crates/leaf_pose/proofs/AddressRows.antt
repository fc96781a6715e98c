-- The rows of the addresses that lead where a bias wants the physical one.
use Rattle.std.proofs.Common.{◌≡◌, ℕ, ◌+◌, ◌%◌, ◌<◌, ◌≤◌, ◌^◌, Bool, true, false, ◌&&◌, ◌||◌, List, [], ◌∷◌, ◌++◌, refl, sym, ap, ◌∙◌, arith, zero, suc, drop, take, get_or, length, length-drop, ◌-◌}
use Rattle.std.specs.Prelude.{bit_and, not}
use Rattle.std.specs.List.{filter, list_any}
use Rattle.std.proofs.Math.Seq.{drop-cons}
use Rattle.std.proofs.lemmas.List.{drop_all, take_all}
use Rattle.std.proofs.lemmas.List.Folds.{list_any-append}
use Rattle.dom_set.specs.Elements.{elements_of, is_in}
use Rattle.dom_set.proofs.Sets.{is_in-elements}
use Rattle.row_parts.specs.Gaps.{are_indices_equal, counts}
use Rattle.tpl_ast.specs.declared.template.Atom.{Atom}
use Rattle.tpl_ast.specs.declared.template.Var.TheVariants as vars
use Rattle.fd_prob.specs.declared.problem.Assignment.{Assignment}
use Rattle.fd_prob.specs.declared.relation.Quad.{Quad}
use Rattle.fd_prob.specs.declared.slot.Slot.TheVariants as slots
use Rattle.fd_prob.specs.Order.{IsAssignment}
use Rattle.fd_prob.specs.Relations.{is_in_row, value_of}
use Rattle.data_ways.specs.declared.way.DataEnd.{DataEnd}
use Rattle.data_ways.specs.declared.way.DataEnd.TheVariants as ends
use Rattle.data_ways.specs.declared.way.DataWay.{DataWay}
use Rattle.data_goals.specs.declared.accesses.Accesses.{Accesses}
use Rattle.data_goals.specs.Goals.{leads_to, way_in}
use Rattle.leaf_link.specs.Cases.{all_tests}
use Rattle.leaf_csrs.proofs.Counted.{in_both}
use Rattle.leaf_stand.specs.declared.stand.Stand.{Stand}
use Rattle.data_bytes.specs.Sets.{IsSetOf}
use Rattle.leaf_stand.specs.Stands.{turn_of}
use Rattle.leaf_stand.proofs.Single.{word_at}
use Rattle.leaf_pose.proofs.Joining.{or_assoc, or_none}
use Rattle.leaf_pose.specs.Extras.{AddsRows, AreAddressRows, AreJoined, in_rows, lead_so, leads_so}

-- A TEST COUNTS FOR WORDS ALONE
below : (n : ℕ) → n % 2 ^ 32 < 2 ^ 32
below n = omega arith

leads_same : (f g : ℕ → Bool) → ((v : ℕ) → v < 2 ^ 32 → f v ≡ g v) → (end : DataEnd) (v : ℕ) → leads_to end f v ≡ leads_to end g v
leads_same f g h (ends.At base mask) v = h ((base + bit_and v mask) % 2 ^ 32) (below (base + bit_and v mask))
leads_same f g h (ends.Fails cause) v = refl

so_same : (f g : ℕ → Bool) → ((v : ℕ) → v < 2 ^ 32 → f v ≡ g v) → (x : Assignment) (ways : List DataWay) → lead_so f x ways ≡ lead_so g x ways
so_same f g h x [] = refl
so_same f g h x (way ∷ ways) =
    let inner : Bool = is_in way.first (value_of x slots.FirstPte) && is_in way.second (value_of x slots.SecondPte) in
    ap (λ (b : Bool). ((way_in way (value_of x slots.Ea) && b) && inner) || lead_so f x ways) (leads_same f g h way.end (value_of x slots.Ea))
    ∙ ap (λ (b : Bool). leads_so g (value_of x slots.Ea) (value_of x slots.FirstPte) (value_of x slots.SecondPte) way || b) (so_same f g h x ways)

-- ONE WAY
and_not : (a b : Bool) → ((a && false) && b) ≡ false
and_not true b = refl
and_not false b = refl

nowhere_leads : (test : ℕ → Bool) (way : DataWay) (ea first second : ℕ) → ((base mask : ℕ) → way.end ≡ ends.At base mask → ⊥) → leads_so test ea first second way ≡ false
nowhere_leads test way ea first second never = go way.end never
  where
    go : (end : DataEnd) → ((base mask : ℕ) → end ≡ ends.At base mask → ⊥) → ((way_in way ea && leads_to end test ea) && (is_in way.first first && is_in way.second second)) ≡ false
    go (ends.At base mask) k = absurd (k base mask refl)
    go (ends.Fails cause) k = and_not (way_in way ea) (is_in way.first first && is_in way.second second)

pub no_row : (test : ℕ → Bool) (way : DataWay) (old : List Quad) → ((x : Assignment) → IsAssignment x → leads_so test (value_of x slots.Ea) (value_of x slots.FirstPte) (value_of x slots.SecondPte) way ≡ false) → AddsRows test (way ∷ []) old old
no_row test way old never x hx = sym (ap (λ (b : Bool). in_rows x old || (b || false)) (never x hx) ∙ or_none (in_rows x old))

pub nowhere : (test : ℕ → Bool) (way : DataWay) (old : List Quad) → ((base mask : ℕ) → way.end ≡ ends.At base mask → ⊥) → AddsRows test (way ∷ []) old old
nowhere test way old never = no_row test way old (λ x hx. nowhere_leads test way (value_of x slots.Ea) (value_of x slots.FirstPte) (value_of x slots.SecondPte) never)

abbrev there_of : (ℕ → Bool) → DataWay → ℕ → Bool
there_of test way v = way_in way v && leads_to way.end test v

all_of : (c e l : Bool) → (c && (e && l)) ≡ ((c && e) && l)
all_of true e l = refl
all_of false e l = refl

-- of addresses those that count
pub counted_all : (set : List ℕ) → IsSetOf (λ v. counts false v && is_in set v) set
counted_all set v small = refl

swapped : (a b : Bool) → (a && b) ≡ (b && a)
swapped true true = refl
swapped true false = refl
swapped false true = refl
swapped false false = refl

pub counted_apart : (set left : List ℕ) → ((v : ℕ) → v < 2 ^ 32 → is_in left v ≡ (is_in set v && not (are_indices_equal v))) → IsSetOf (λ v. counts true v && is_in set v) left
counted_apart set left h v small = h v small ∙ swapped (is_in set v) (not (are_indices_equal v))

-- the addresses of a way that lead where the test passes
pub there_set : (test : ℕ → Bool) (way : DataWay) (base mask : ℕ) (there met ea : List ℕ) → way.end ≡ ends.At base mask → ((v : ℕ) → v < 2 ^ 32 → is_in there v ≡ test ((base + bit_and v mask) % 2 ^ 32)) → met ≡ filter (is_in there) way.ea
    → IsSetOf (λ v. counts way.apart v && is_in met v) ea → IsSetOf (there_of test way) ea
there_set test way base mask there met ea end is e counted v small =
    counted v small
    ∙ ap (λ (b : Bool). counts way.apart v && b) (in_both (is_in way.ea) (λ n. test ((base + bit_and n mask) % 2 ^ 32)) way.ea there met (λ n k. refl) is e v small)
    ∙ all_of (counts way.apart v) (is_in way.ea v) (test ((base + bit_and v mask) % 2 ^ 32))
    ∙ ap (λ (d : DataEnd). way_in way v && leads_to d test v) (sym end)

pub empty_row : (test : ℕ → Bool) (way : DataWay) (old : List Quad) (ea : List ℕ) → IsSetOf (there_of test way) ea → ea ≡ [] → AddsRows test (way ∷ []) old old
empty_row test way old ea is none = no_row test way old (λ x hx.
    let v = value_of x slots.Ea in
    let small : v < 2 ^ 32 = word_at x hx slots.Ea in
    ap (λ (b : Bool). b && (is_in way.first (value_of x slots.FirstPte) && is_in way.second (value_of x slots.SecondPte))) (sym (is v small) ∙ ap (λ (l : List ℕ). is_in l v) none))

row_is : (e a b w : Bool) → w ≡ true → (e && a && b && w) ≡ (e && (a && b))
row_is true true true w h = h
row_is true true false w h = refl
row_is true false b w h = refl
row_is false a b w h = refl

-- a row of a way came to others
pub one_row : (test : ℕ → Bool) (way : DataWay) (old new : List Quad) (ea word : List ℕ) → IsSetOf (there_of test way) ea → word ≡ elements_of (λ v. true) → AreJoined true (record { ea = ea; root = way.first; leaf = way.second; word = word }) old new → AddsRows test (way ∷ []) old new
one_row test way old new ea word is all joined x hx =
    let any : is_in word (value_of x slots.DataWord) ≡ true = ap (λ (l : List ℕ). is_in l (value_of x slots.DataWord)) all ∙ is_in-elements (λ n. true) (value_of x slots.DataWord) (word_at x hx slots.DataWord) in
    joined x hx
    ∙ ap (λ (b : Bool). in_rows x old || b)
    (row_is (is_in ea (value_of x slots.Ea)) (is_in way.first (value_of x slots.FirstPte)) (is_in way.second (value_of x slots.SecondPte)) (is_in word (value_of x slots.DataWord)) any
    ∙ ap (λ (b : Bool). b && (is_in way.first (value_of x slots.FirstPte) && is_in way.second (value_of x slots.SecondPte))) (is (value_of x slots.Ea) (word_at x hx slots.Ea))
    ∙ sym (or_none (leads_so test (value_of x slots.Ea) (value_of x slots.FirstPte) (value_of x slots.SecondPte) way)))

-- ALL WAYS
abbrev pub IsSoFar : (ℕ → Bool) → List DataWay → ℕ → List Quad → List Quad → Type 0
IsSoFar test ways i start now = (x : Assignment) → IsAssignment x → (in_rows x now || lead_so test x (drop i ways)) ≡ (in_rows x start || lead_so test x ways)

pub next_row : (test : ℕ → Bool) (ways : List DataWay) (i : ℕ) (d : DataWay) (start old new : List Quad) → i < length ways → IsSoFar test ways i start old → AddsRows test (get_or ways i d ∷ []) old new → IsSoFar test ways (i + 1) start new
next_row test ways i d start old new lt before added x hx =
    let n : i + 1 ≡ suc i = omega arith in
    let e : drop i ways ≡ get_or ways i d ∷ drop (i + 1) ways = drop-cons ways i d lt ∙ ap (λ (m : ℕ). get_or ways i d ∷ drop m ways) (sym n) in
    let here : Bool = leads_so test (value_of x slots.Ea) (value_of x slots.FirstPte) (value_of x slots.SecondPte) (get_or ways i d) in
    ap (λ (b : Bool). b || lead_so test x (drop (i + 1) ways)) (added x hx ∙ ap (λ (b : Bool). in_rows x old || b) (or_none here))
    ∙ or_assoc (in_rows x old) here (lead_so test x (drop (i + 1) ways)) ∙ ap (λ (l : List DataWay). in_rows x old || lead_so test x l) (sym e) ∙ before x hx

pub all_rows : (test : ℕ → Bool) (ways : List DataWay) (i : ℕ) (start now : List Quad) → length ways ≤ i → IsSoFar test ways i start now → AddsRows test ways start now
all_rows test ways i start now le far x hx = sym (or_none (in_rows x now)) ∙ sym (ap (λ (l : List DataWay). in_rows x now || lead_so test x l) (drop_all i ways le)) ∙ far x hx

-- of all words, those that pass
pub passing_set : (test : ℕ → Bool) (all wanted : List ℕ) → all ≡ elements_of (λ v. true) → IsSetOf (λ v. is_in all v && test v) wanted → IsSetOf test wanted
passing_set test all wanted e is v small = is v small ∙ ap (λ (b : Bool). b && test v) (ap (λ (l : List ℕ). is_in l v) e ∙ is_in-elements (λ n. true) v small)

-- those of loads and then those of stores
pub both_rows : (s : Stand) (bias : List Atom) (a : Accesses) (all wanted : List ℕ) (first last : List Quad) → all ≡ elements_of (λ v. true) → IsSetOf (λ v. is_in all v && all_tests (turn_of s) bias vars.Pa v) wanted
    → AddsRows (is_in wanted) a.loads.items [] first → AddsRows (is_in wanted) a.stores.items first last → AreAddressRows s bias last a
both_rows s bias a all wanted first last e is loads stores x hx =
    let test : ℕ → Bool = all_tests (turn_of s) bias vars.Pa in
    let same : (v : ℕ) → v < 2 ^ 32 → is_in wanted v ≡ test v = passing_set test all wanted e is in
    stores x hx ∙ ap (λ (b : Bool). b || lead_so (is_in wanted) x a.stores.items) (loads x hx)
    ∙ sym (list_any-append (leads_so (is_in wanted) (value_of x slots.Ea) (value_of x slots.FirstPte) (value_of x slots.SecondPte)) a.loads.items a.stores.items)
    ∙ so_same (is_in wanted) test same x (a.loads.items ++ a.stores.items)

-- ---- halves

any_split : {A : Type 0} (f : A → Bool) (n : ℕ) (xs : List A) → (list_any f (take n xs) || list_any f (drop n xs)) ≡ list_any f xs
any_split f zero xs = refl
any_split f (suc n) [] = refl
any_split f (suc n) (x ∷ xs) = or_assoc (f x) (list_any f (take n xs)) (list_any f (drop n xs)) ∙ ap (λ (b : Bool). f x || b) (any_split f n xs)

-- the rows of one half with those of the other
pub halves : (test : ℕ → Bool) (x : Assignment) (ways : List DataWay) (n : ℕ) (first last whole : List Quad) → in_rows x whole ≡ (in_rows x first || in_rows x last) → in_rows x first ≡ lead_so test x (take n ways) → in_rows x last ≡ lead_so test x (take (length ways - n) (drop n ways)) → in_rows x whole ≡ lead_so test x ways
halves test x ways n first last whole put one two =
    let f : DataWay → Bool = leads_so test (value_of x slots.Ea) (value_of x slots.FirstPte) (value_of x slots.SecondPte) in
    let rest : take (length ways - n) (drop n ways) ≡ drop n ways = take_all (length ways - n) (drop n ways) (omega (arith, length-drop n ways)) in
    put ∙ (λ i. one i || (two ∙ ap (list_any f) rest) i) ∙ any_split f n ways
