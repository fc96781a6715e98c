-- Groups of entries that have the same ends.
use Rattle.std.proofs.Common.{◌≡◌, ◌==◌, ℕ, ◌+◌, ◌≤◌, Bool, true, false, ◌&&◌, ◌||◌, nat_le, List, [], ◌∷◌, ◌++◌, Option, Some, None, All, refl, sym, ap, ◌∙◌, subst, eqb-true, arith}
use Rattle.std.specs.List.{list_any}
use Rattle.std.proofs.lemmas.List.Elements.{All-nil, All-head, All-tail, All-push}
use Rattle.std.proofs.lemmas.List.Folds.{list_any-append}
use Rattle.dom_set.specs.Counting.{one}
use Rattle.dom_set.specs.Elements.{is_in, is_within}
use Rattle.row_parts.specs.declared.alike.Group.{Group}
use Rattle.row_parts.specs.Times.{times_by}
use Rattle.row_parts.specs.Rows.{when}
use Rattle.row_parts.specs.Items.{by_items}
use Rattle.row_parts.specs.Alike.{Ends, times_held, LeadAlike, IsAlike, by_groups, by_word}
use Rattle.row_parts.specs.Forms.{times_in}
use Rattle.row_parts.proofs.Lists.{or_assoc, or_false, times_append}
use Rattle.row_parts.proofs.Items.{cons_one, items_none}

-- RANGES OF ONE NUMBER

alone : (v w : ℕ) → (nat_le v w && nat_le w v) ≡ (v == w)
alone v w = grind arith

pub single_pushed : (rs : List (ℕ × ℕ)) (v w : ℕ) (rest : Bool) → (is_within (rs ++ (v, v) ∷ []) w || rest) ≡ (is_within rs w || ((v == w) || rest))
single_pushed rs v w rest =
    ap (λ (b : Bool). b || rest) (list_any-append (λ (r : ℕ × ℕ). nat_le r.0 w && nat_le w r.1) rs ((v, v) ∷ []) ∙ ap (λ (b : Bool). is_within rs w || b) (or_false (nat_le v w && nat_le w v) ∙ alone v w))
    ∙ or_assoc (is_within rs w) (v == w) rest

-- COUNTS

-- a number that is counted at most once is there as often as it is in the list
pub one_any : {X : Type 0} (p : X → Bool) (xs : List X) → times_by p xs ≤ 1 → one (list_any p xs) ≡ times_by p xs
one_any p [] few = refl
one_any p (x ∷ xs) few = go (p x) (list_any p xs) (times_by p xs) few (one_any p xs)
  where
    go : (a b : Bool) (n : ℕ) → one a + n ≤ 1 → (n ≤ 1 → one b ≡ n) → one (a || b) ≡ one a + n
    go true true n few rest = let e = rest (omega (arith, few)) in omega (arith, few, e)
    go true false n few rest = let e = rest (omega (arith, few)) in omega (arith, few, e)
    go false b n few rest = let e = rest (omega (arith, few)) in omega (arith, e)

-- a group is put behind others
pub held_pushed : (gs : List Group) (g : Group) (w : ℕ) → times_held (gs ++ g ∷ []) w ≡ times_held gs w + one (is_in g.values w)
held_pushed gs g w = times_append (λ h. is_in h.values w) gs g

-- ENDS

alike_one : (ends : Ends) (w x : ℕ) (leaf : Option ℕ) (gs : List Group) → All (IsAlike ends) gs → times_held gs w ≡ 1 → by_items (λ g. is_in g.values w) gs (λ g. ends g.entry x leaf) ≡ ends w x leaf
alike_one ends w x leaf [] all h = absurd (omega (arith, h))
alike_one ends w x leaf (g ∷ gs) all h =
    cons_one (is_in g.values w) (ends g.entry x leaf) (ends w x leaf) (by_items (λ g. is_in g.values w) gs (λ g. ends g.entry x leaf)) (times_held gs w) h
    (λ t. All-head (IsAlike ends) g gs all w t x leaf)
    (items_none (λ g. is_in g.values w) (λ g. ends g.entry x leaf) gs)
    (alike_one ends w x leaf gs (All-tail (IsAlike ends) g gs all))

never : {X : Type 0} (xs : List X) → times_by (λ x. false) xs ≡ 0
never [] = refl
never (x ∷ xs) = omega (arith, never xs)

-- groups that have each word once give the ends of the word
pub shared : (ends : Ends) (test : ℕ → Bool) (gs : List Group) (given : Option ℕ) (x : ℕ) (leaf : Option ℕ) → ((w : ℕ) → times_held gs w ≡ one (test w)) → All (IsAlike ends) gs
    → by_groups gs given (λ w. ends w x leaf) ≡ by_word test given (λ w. ends w x leaf)
shared ends test gs None x leaf once all = items_none (λ (g : Group). false) (λ g. ends g.entry x leaf) gs (never gs)
shared ends test gs (Some w) x leaf once all = go (test w) (once w)
  where
    go : (b : Bool) → times_held gs w ≡ one b → by_items (λ g. is_in g.values w) gs (λ g. ends g.entry x leaf) ≡ when b (ends w x leaf)
    go true h = alike_one ends w x leaf gs all h
    go false h = items_none (λ g. is_in g.values w) (λ g. ends g.entry x leaf) gs h

-- MAKING GROUPS

-- a list's last number is counted with the others
pub popped : (rest left : List ℕ) (v w : ℕ) → rest ≡ left ++ v ∷ [] → times_in rest w ≡ times_in left w + one (v == w)
popped rest left v w is = ap (λ (vs : List ℕ). times_in vs w) is ∙ times_append (λ (y : ℕ). y == w) left v

-- what holds of each number of a list holds of one that is in it
pub from_all : (P : ℕ → Type 0) (vs : List ℕ) (w : ℕ) → All P vs → is_in vs w ≡ true → P w
from_all P [] w all h = absurd (cc h)
from_all P (v ∷ vs) w all h = go (v == w) (is_in vs w) (λ e. subst P (eqb-true v w e) (All-head P v vs all)) (from_all P vs w (All-tail P v vs all)) h
  where
    go : (a b : Bool) → (a ≡ true → P w) → (b ≡ true → P w) → (a || b) ≡ true → P w
    go true b here there h = here refl
    go false b here there h = there h

-- a group of an entry and of what is like it, behind others
pub group_count : (gs : List Group) (g : Group) (alike others values first second : List ℕ) (entry w : ℕ)
    → is_in g.values w ≡ is_in alike w → times_in alike w + times_in others w ≡ times_in first w + (times_in second w + times_in values w) → first ≡ entry ∷ [] → second ≡ []
    → one (entry == w) + times_in values w ≤ 1
    → times_held (gs ++ g ∷ []) w + times_in others w ≡ times_held gs w + (one (entry == w) + times_in values w)
group_count gs g alike others values first second entry w is count one_entry no_other few =
    let a : times_in first w ≡ one (entry == w) + 0 = ap (λ (vs : List ℕ). times_in vs w) one_entry in
    let b : times_in second w ≡ 0 = ap (λ (vs : List ℕ). times_in vs w) no_other in
    let c : times_in alike w ≤ 1 = omega (arith, count, a, b, few) in
    let d : one (is_in alike w) ≡ times_in alike w = one_any (λ (v : ℕ). v == w) alike c in
    let e : one (is_in g.values w) ≡ one (is_in alike w) = ap one is in
    let f = held_pushed gs g w in
    omega (arith, a, b, count, d, e, f)

pub group_alike : (ends : Ends) (gs : List Group) (g : Group) (alike : List ℕ) → All (IsAlike ends) gs → ((w : ℕ) → is_in g.values w ≡ is_in alike w) → All (LeadAlike ends g.entry) alike → All (IsAlike ends) (gs ++ g ∷ [])
group_alike ends gs g alike all is like = All-push (IsAlike ends) gs g all (λ w there. from_all (LeadAlike ends g.entry) alike w like (sym (is w) ∙ there))

pub self_alike : (ends : Ends) (entry : ℕ) → All (LeadAlike ends entry) (entry ∷ [])
self_alike ends entry = All-push (LeadAlike ends entry) [] entry (All-nil (LeadAlike ends entry)) (λ x leaf. refl)
