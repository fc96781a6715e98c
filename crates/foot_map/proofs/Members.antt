-- What is in a set of touches.
use Rattle.std.proofs.Common.{◌≡◌, ℕ, inl, inr, Bool, true, false, ◌&&◌, ◌||◌, not, cond, List, [], ◌∷◌, refl, sym, ◌∙◌, subst}
use Rattle.std.specs.List.{list_any, AllByRecursion}
use Rattle.std.specs.BTreeMap.{is_at}
use Rattle.std.proofs.lemmas.Bool.{or_cases, true≢false}
use Rattle.std.proofs.lemmas.Map.Lookups.{btree_set_from_contains}
use Rattle.rv_script.specs.declared.access.Role.{Role}
use Rattle.foot_map.specs.declared.touch.Touch.{Touch}
use Rattle.foot_map.specs.Order.{by_place, IsInOrder}
use Rattle.foot_map.specs.Touches.{has, is_triple}
use Rattle.foot_map.proofs.Orders.{triple, triple_is, place_is, place_back, place_exact, by_place_total}

-- std's test is ours
pub contains_is : (t : Touch) (xs : List Touch) → list_any (is_at (by_place t)) xs ≡ has xs t.byte t.hart t.role
contains_is t [] = refl
contains_is t (x ∷ xs) = λ i. place_back t x i || contains_is t xs i

-- what holds of each holds of what is in it
pub All_has : (P : Touch → Type 0) (xs : List Touch) → AllByRecursion P xs → (b h : ℕ) (r : Role) → has xs b h r ≡ true → P (triple b h r)
All_has P [] all b h r is = absurd (true≢false (sym is))
All_has P (x ∷ xs) all b h r is = elim (or_cases (is_triple x b h r) (has xs b h r) is) [
  | inl here ↦ subst P (triple_is x b h r here) all.0
  | inr there ↦ All_has P xs all.1 b h r there
]

pub same_triples : (s t : List Touch) → IsInOrder s → IsInOrder t → ((b h : ℕ) (r : Role) → has s b h r ≡ has t b h r) → s ≡ t
same_triples s t a b same =
    btree_set_from_contains by_place_total (record { keys = s }) (record { keys = t }) a b
    (λ q. contains_is q s ∙ same q.byte q.hart q.role ∙ sym (contains_is q t))
    place_exact

-- one put in, one taken out
pub put_is : (old new : List Touch) (t : Touch)
    → ((q : Touch) → list_any (is_at (by_place q)) new ≡ cond (is_at (by_place t) q) true (list_any (is_at (by_place q)) old))
    → (b h : ℕ) (r : Role) → has new b h r ≡ (has old b h r || is_triple t b h r)
put_is old new t updates b h r =
    sym (contains_is (triple b h r) new) ∙ updates (triple b h r)
    ∙ (λ i. cond (place_is t (triple b h r) i) true (contains_is (triple b h r) old i))
    ∙ swap (is_triple t b h r) (has old b h r) where
      swap : (a b : Bool) → cond a true b ≡ (b || a)
      swap true true = refl
      swap true false = refl
      swap false true = refl
      swap false false = refl

pub taken_is : (old new : List Touch) (t : Touch)
    → ((q : Touch) → list_any (is_at (by_place q)) new ≡ cond (is_at (by_place t) q) false (list_any (is_at (by_place q)) old))
    → (b h : ℕ) (r : Role) → has new b h r ≡ (has old b h r && not (is_triple t b h r))
taken_is old new t updates b h r =
    sym (contains_is (triple b h r) new) ∙ updates (triple b h r)
    ∙ (λ i. cond (place_is t (triple b h r) i) false (contains_is (triple b h r) old i))
    ∙ swap (is_triple t b h r) (has old b h r) where
      swap : (a b : Bool) → cond a false b ≡ (b && not a)
      swap true true = refl
      swap true false = refl
      swap false true = refl
      swap false false = refl
