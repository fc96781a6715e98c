-- Bodies that are found fit, item by item.
use Rattle.std.proofs.Common.{◌≡◌, ℕ, ◌+◌, ◌<◌, ◌^◌, Bool, true, ◌&&◌, nat_lt, List, [], ◌∷◌, map, length, get_or, drop, sym, ap, ◌∙◌, subst}
use Rattle.std.specs.Prelude.{Vec}
use Rattle.std.specs.Global.{Global}
use Rattle.std.proofs.lemmas.Bool.{lt-ltb}
use Rattle.std.proofs.lemmas.List.{drop_more}
use Rattle.tpl_ast.specs.declared.template.HartDecl.{HartDecl}
use Rattle.tpl_ast.specs.declared.template.Item.{Item}
use Rattle.tpl_ast.specs.Choices.{all_true, are_ways_fit, can_pick, is_fit, weight_of}
use Rattle.gen_search.specs.Search.{all_items, of_hart}
use Rattle.gen_search.specs.Fit.{AreFit}
use Rattle.gen_search.specs.Ready.{AreAllowed, AreReady, BodiesAreReady, parts_of}
use Rattle.gen_search.proofs.Fitting.{fit_append, fit_body}

and_true : (a b : Bool) → a ≡ true → b ≡ true → (a && b) ≡ true
and_true a b ha hb = ap (λ (x : Bool). x && b) ha ∙ hb

pub item_step : (items : List Item) (i : ℕ) (x : Item) → i < length items → x ≡ get_or items i x → is_fit x ≡ true → all_true (map is_fit (drop (i + 1) items)) ≡ true → all_true (map is_fit (drop i items)) ≡ true
item_step items i x lt is fit rest =
    ap (λ (xs : List Item). all_true (map is_fit xs)) (drop_more items i x lt ∙ ap (λ (y : Item). y ∷ drop (i + 1) items) (sym is))
    ∙ and_true (is_fit x) (all_true (map is_fit (drop (i + 1) items))) fit rest

pub way_step : (ways : List (ℕ × Vec Item Global)) (i : ℕ) (w : ℕ × Vec Item Global) → i < length ways → w ≡ get_or ways i w → all_true (map is_fit w.1.items) ≡ true → are_ways_fit (drop (i + 1) ways) ≡ true → are_ways_fit (drop i ways) ≡ true
way_step ways i w lt is fit rest =
    ap are_ways_fit (drop_more ways i w lt ∙ ap (λ (v : ℕ × Vec Item Global). v ∷ drop (i + 1) ways) (sym is))
    ∙ and_true (all_true (map is_fit w.1.items)) (are_ways_fit (drop (i + 1) ways)) fit rest

pub pick_is : (ways : List (ℕ × Vec Item Global)) → 0 < weight_of ways → weight_of ways < 2 ^ 64 → length ways < 2 ^ 32 → can_pick ways ≡ true
pick_is ways some fits few =
    and_true (nat_lt 0 (weight_of ways)) (nat_lt (weight_of ways) (2 ^ 64) && nat_lt (length ways) (2 ^ 32)) (lt-ltb 0 (weight_of ways) some)
    (and_true (nat_lt (weight_of ways) (2 ^ 64)) (nat_lt (length ways) (2 ^ 32)) (lt-ltb (weight_of ways) (2 ^ 64) fits) (lt-ltb (length ways) (2 ^ 32) few))

pub both_fit : (ways : List (ℕ × Vec Item Global)) → can_pick ways ≡ true → are_ways_fit ways ≡ true → (can_pick ways && are_ways_fit ways) ≡ true
both_fit ways a b = and_true (can_pick ways) (are_ways_fit ways) a b

pub hart_step : (harts : List HartDecl) (i : ℕ) (h : HartDecl) → i < length harts → h ≡ get_or harts i h → all_true (map is_fit h.body.items) ≡ true → ((k : ℕ) → AreFit (all_items k (drop (i + 1) harts))) → (k : ℕ) → AreFit (all_items k (drop i harts))
hart_step harts i h lt is fit rest k =
    subst (λ (hs : List HartDecl). AreFit (all_items k hs)) (sym (drop_more harts i h lt ∙ ap (λ (g : HartDecl). g ∷ drop (i + 1) harts) (sym is)))
    (fit_append (of_hart k h.body.items) (all_items (k + 1) (drop (i + 1) harts)) (fit_body k h.body.items fit) (rest (k + 1)))

-- ---- a test that takes everything

all_allowed : (hart : ℕ) (items : List Item) → AreAllowed (λ hart item. Unit {0}) hart items
all_allowed hart [] = tt
all_allowed hart (i ∷ is) = (tt, all_allowed hart is)

all_ready : (todo : List (ℕ × Item)) → AreReady (λ hart item. Unit {0}) todo
all_ready [] = tt
all_ready (x ∷ xs) = (all_allowed x.0 (parts_of x.1), all_ready xs)

pub always_ready : (harts : List HartDecl) → BodiesAreReady (λ hart item. Unit {0}) harts
always_ready harts = all_ready (all_items 0 harts)
