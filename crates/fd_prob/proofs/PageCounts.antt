-- Counting pages that hold an address.
use Rattle.std.proofs.Common.{◌≡◌, ℕ, zero, suc, ◌+◌, ◌-◌, ◌*◌, ◌/◌, ◌%◌, ◌<◌, ◌≤◌, ◌^◌, Bool, true, false, List, [], ◌∷◌, Option, Some, None, IfSome, All, filter, find, length, nat_le, arith, refl, sym, ap, ◌∙◌, length-append, add-one, ◌==◌, ◌||◌, cond, subst, slice_index}
use Rattle.std.specs.List.Sorted.{IsStrictlyIncreasing}
use Rattle.std.specs.Prelude.{bit_and, is_some}
use Rattle.std.proofs.lemmas.Nat.{and_mask}
use Rattle.std.proofs.lemmas.Bool.Decides.{nat_tests}
use Rattle.std.proofs.lemmas.Option.{same_Some}
use Rattle.fd_prob.proofs.Firsts.{passes}
use Rattle.std.proofs.lemmas.List.Elements.{filter-append}
use Rattle.std.proofs.lemmas.Bool.{eq-eqb, eqb-true}
use Rattle.std.proofs.lemmas.List.Folds.{Any-from_list_any, list_any_at}
use Rattle.dom_set.specs.Elements.{is_in, numbers_below}
use Rattle.dom_set.specs.Ends.{HasPage}
use Rattle.fd_prob.specs.Spaces.{has_page, pages_below}

abbrev tail : List ℕ → ℕ → ℕ
tail xs n = length (filter (has_page xs) (n ∷ []))

one_more : (xs : List ℕ) (n : ℕ) → pages_below (suc n) xs ≡ pages_below n xs + tail xs n
unfolding numbers_below
one_more xs n =
    ap length (filter-append (has_page xs) (numbers_below n) (n ∷ [])) ∙ length-append (filter (has_page xs) (numbers_below n)) (filter (has_page xs) (n ∷ []))

held : (xs : List ℕ) (n : ℕ) → has_page xs n ≡ true → tail xs n ≡ 1
held xs n is = rw is refl

empty : (xs : List ℕ) (n : ℕ) → has_page xs n ≡ false → tail xs n ≡ 0
empty xs n is = rw is refl

-- one page more
pub next_held : (xs : List ℕ) (n : ℕ) → has_page xs n ≡ true → pages_below (suc n) xs ≡ pages_below n xs + 1
next_held xs n is = one_more xs n ∙ ap (λ (k : ℕ). pages_below n xs + k) (held xs n is)

pub next_empty : (xs : List ℕ) (n : ℕ) → has_page xs n ≡ false → pages_below (suc n) xs ≡ pages_below n xs
next_empty xs n is = omega (arith, one_more xs n, empty xs n is)

-- pages without an address
pub gap : (xs : List ℕ) (n k : ℕ) → ((q : ℕ) → n ≤ q → q < n + k → has_page xs q ≡ false) → pages_below (n + k) xs ≡ pages_below n xs
gap xs n zero none = let e : n + 0 ≡ n = omega arith in ap (λ (m : ℕ). pages_below m xs) e
gap xs n (suc k) none =
    let e : n + suc k ≡ suc (n + k) = omega arith in
    ap (λ (m : ℕ). pages_below m xs) e ∙ next_empty xs (n + k) (none (n + k) (omega arith) (omega arith)) ∙ gap xs n k (λ q low high. none q low (omega arith))

less : (m q : ℕ) → m < q → (m == q) ≡ false
less m q h = grind (arith, nat_tests)

greater : (m q : ℕ) → q < m → (m == q) ≡ false
greater m q h = grind (arith, nat_tests)

or_none : (a b : Bool) → a ≡ false → b ≡ false → (a || b) ≡ false
or_none a b e f = rw (e, f) refl

or_right : (a b : Bool) → b ≡ true → (a || b) ≡ true
or_right true b e = refl
or_right false b e = e

rest : (y : ℕ) (ys : List ℕ) → IsStrictlyIncreasing (y ∷ ys) → IsStrictlyIncreasing ys
rest y ys s k h =
    let e : suc k + 1 ≡ suc (k + 1) = omega arith in
    let P : ℕ → Type 0 = λ m. slice_index ys k < slice_index (y ∷ ys) m in
    subst P e (s (suc k) (omega (arith, h)))

next : (y z : ℕ) (zs : List ℕ) → IsStrictlyIncreasing (y ∷ z ∷ zs) → y < z
next y z zs s = s 0 (omega arith)

above : (y q : ℕ) (ys : List ℕ) → IsStrictlyIncreasing (y ∷ ys) → q < y / 4096 → has_page ys q ≡ false
above y q [] s h = refl
above y q (z ∷ zs) s h =
    let more : q < z / 4096 = omega (arith, h, next y z zs s) in
    or_none (z / 4096 == q) (has_page zs q) (greater (z / 4096) q more) (above z q zs (rest y (z ∷ zs) s) more)

-- the first address from a page's start on is in no page of those between
pub between : (xs : List ℕ) (from x q : ℕ) → IsStrictlyIncreasing xs → find (λ y. nat_le from y) xs ≡ Some x → from ≤ q * 4096 → q < x / 4096 → has_page xs q ≡ false
between [] from x q s is low high = refl
between (y ∷ ys) from x q s is low high =
    elim (nat_le from y) as (λ b. nat_le from y ≡ b → cond b (Some y) (find (λ z. nat_le from z) ys) ≡ Some x → has_page (y ∷ ys) q ≡ false) [
      | true ↦ λ t e.
          let same : y ≡ x = same_Some y x e in
          let past : q < y / 4096 = subst (λ (z : ℕ). q < z / 4096) (sym same) high in
          or_none (y / 4096 == q) (has_page ys q) (greater (y / 4096) q past) (above y q ys s past)
      | false ↦ λ t e.
          let under : y < from = grind (arith, nat_tests) in
          or_none (y / 4096 == q) (has_page ys q) (less (y / 4096) q (omega (arith, under, low))) (between ys from x q (rest y ys s) e low high)
    ] refl is

-- it is in its own
pub own : (xs : List ℕ) (from x : ℕ) → find (λ y. nat_le from y) xs ≡ Some x → has_page xs (x / 4096) ≡ true
own [] from x is = absurd (cc is)
own (y ∷ ys) from x is =
    elim (nat_le from y) as (λ b. cond b (Some y) (find (λ z. nat_le from z) ys) ≡ Some x → has_page (y ∷ ys) (x / 4096) ≡ true) [
      | true ↦ λ e. let same : y ≡ x = same_Some y x e in rw same (grind (arith, nat_tests))
      | false ↦ λ e. or_right (y / 4096 == x / 4096) (has_page ys (x / 4096)) (own ys from x e)
    ] is

-- where no address is found, there is none in later pages
pub later : (xs : List ℕ) (from q : ℕ) → find (λ y. nat_le from y) xs ≡ None → from ≤ q * 4096 → has_page xs q ≡ false
later [] from q is low = refl
later (y ∷ ys) from q is low =
    elim (nat_le from y) as (λ b. nat_le from y ≡ b → cond b (Some y) (find (λ z. nat_le from z) ys) ≡ None → has_page (y ∷ ys) q ≡ false) [
      | true ↦ λ t e. absurd (cc e)
      | false ↦ λ t e.
          let under : y < from = grind (arith, nat_tests) in
          or_none (y / 4096 == q) (has_page ys q) (less (y / 4096) q (omega (arith, under, low))) (later ys from q e low)
    ] refl is

-- the first address from a page's start on adds its page
pub advance : (xs : List ℕ) (page x : ℕ) → IsStrictlyIncreasing xs → find (λ y. nat_le (page * 4096) y) xs ≡ Some x → pages_below (x / 4096 + 1) xs ≡ pages_below page xs + 1
advance xs page x s is =
    let reached : page * 4096 ≤ x = grind (arith, nat_tests, passes (λ y. nat_le (page * 4096) y) xs x is) in
    let low : page ≤ x / 4096 = omega (arith, reached) in
    let whole : page + (x / 4096 - page) ≡ x / 4096 = omega (arith, low) in
    let skipped : pages_below (page + (x / 4096 - page)) xs ≡ pages_below page xs = gap xs page (x / 4096 - page) (λ q at_least under. between xs (page * 4096) x q s is (omega (arith, at_least)) (omega (arith, under, low))) in
    ap (λ (n : ℕ). pages_below n xs) (add-one (x / 4096)) ∙ next_held xs (x / 4096) (own xs (page * 4096) x is) ∙ ap (λ (n : ℕ). n + 1) (sym (ap (λ (n : ℕ). pages_below n xs) whole) ∙ skipped)

pub ending : (xs : List ℕ) (page : ℕ) → page ≤ 2 ^ 20 → find (λ y. nat_le (page * 4096) y) xs ≡ None → pages_below (2 ^ 20) xs ≡ pages_below page xs
ending xs page within is =
    let whole : page + (2 ^ 20 - page) ≡ 2 ^ 20 = omega (arith, within) in
    sym (ap (λ (n : ℕ). pages_below n xs) whole) ∙ gap xs page (2 ^ 20 - page) (λ q at_least under. later xs (page * 4096) q is (omega (arith, at_least)))

pub starting : (xs : List ℕ) → pages_below 0 xs ≡ 0
unfolding numbers_below
starting xs = refl

page_tested : (xs : List ℕ) (q : ℕ) → HasPage (is_in xs) q → has_page xs q ≡ true
page_tested xs q (y, h, e) =
    let at = Any-from_list_any (λ z. z == y) xs h in
    let same : at.1 ≡ y = eqb-true at.1 y at.4 in
    list_any_at (λ z. z / 4096 == q) xs at.0 at.1 at.2 (eq-eqb _ _ (ap (λ (z : ℕ). z / 4096) (at.3 ∙ same) ∙ e))

-- pages each of which has an address
pub run : (xs : List ℕ) (n k : ℕ) → ((q : ℕ) → n ≤ q → q < n + k → HasPage (is_in xs) q) → pages_below (n + k) xs ≡ pages_below n xs + k
run xs n zero all = let e : n + 0 ≡ n = omega arith in ap (λ (m : ℕ). pages_below m xs) e ∙ omega arith
run xs n (suc k) all =
    let e : n + suc k ≡ suc (n + k) = omega arith in
    let more : pages_below (suc (n + k)) xs ≡ pages_below (n + k) xs + 1 = next_held xs (n + k) (page_tested xs (n + k) (all (n + k) (omega arith) (omega arith))) in
    let before : pages_below (n + k) xs ≡ pages_below n xs + k = run xs n k (λ q low high. all q low (omega (arith, high))) in
    ap (λ (m : ℕ). pages_below m xs) e ∙ omega (arith, more, before)

pub run_to : (xs : List ℕ) (n end : ℕ) → n ≤ end → ((q : ℕ) → n ≤ q → q < end → HasPage (is_in xs) q) → pages_below end xs ≡ pages_below n xs + (end - n)
run_to xs n end up all =
    let whole : n + (end - n) ≡ end = omega (arith, up) in
    sym (ap (λ (m : ℕ). pages_below m xs) whole) ∙ run xs n (end - n) (λ q low high. all q low (omega (arith, high, up)))

-- ---- addresses at one place of their pages

-- a page does not count before it is reached, and then once more than those of the other addresses
not_yet : (y : ℕ) (ys : List ℕ) (n : ℕ) → n ≤ y / 4096 → pages_below n (y ∷ ys) ≡ pages_below n ys
not_yet y ys zero h = starting (y ∷ ys) ∙ sym (starting ys)
not_yet y ys (suc n) h =
    let under : n < y / 4096 = omega (arith, h) in
    let same : tail (y ∷ ys) n ≡ tail ys n = rw (greater (y / 4096) n under) refl in
    omega (arith, one_more (y ∷ ys) n, one_more ys n, same, not_yet y ys n (omega (arith, h)))

counted : (y : ℕ) (ys : List ℕ) (n : ℕ) → has_page ys (y / 4096) ≡ false → y / 4096 < n → pages_below n (y ∷ ys) ≡ pages_below n ys + 1
counted y ys zero other h = absurd (omega (arith, h))
counted y ys (suc n) other h =
    elim (y / 4096 == n) as (λ b. (y / 4096 == n) ≡ b → pages_below (suc n) (y ∷ ys) ≡ pages_below (suc n) ys + 1) [
      | true ↦ λ t.
          let at : y / 4096 ≡ n = eqb-true (y / 4096) n t in
          let here : tail (y ∷ ys) n ≡ 1 = rw t refl in
          let none : tail ys n ≡ 0 = empty ys n (ap (has_page ys) (sym at) ∙ other) in
          omega (arith, one_more (y ∷ ys) n, one_more ys n, here, none, not_yet y ys n (omega (arith, at)))
      | false ↦ λ t.
          let under : y / 4096 < n = grind (arith, nat_tests) in
          let same : tail (y ∷ ys) n ≡ tail ys n = rw t refl in
          omega (arith, one_more (y ∷ ys) n, one_more ys n, same, counted y ys n other under)
    ] refl

-- the next address at the same place of its page is in a later page
later_page : (y z : ℕ) → y < z → bit_and y 4095 ≡ bit_and z 4095 → y / 4096 < z / 4096
later_page y z up same =
    let e : y % 4096 ≡ z % 4096 = sym (and_mask y 12) ∙ same ∙ and_mask z 12 in
    omega (arith, up, e)

apart : (y : ℕ) (ys : List ℕ) → IsStrictlyIncreasing (y ∷ ys) → ((x : ℕ) → is_in (y ∷ ys) x ≡ true → bit_and x 4095 ≡ bit_and y 4095) → has_page ys (y / 4096) ≡ false
apart y [] s same = refl
apart y (z ∷ zs) s same =
    let here : is_in (y ∷ z ∷ zs) z ≡ true = or_right (y == z) (is_in (z ∷ zs) z) (rw (eq-eqb z z refl) refl) in
    let more : y / 4096 < z / 4096 = later_page y z (next y z zs s) (sym (same z here)) in
    or_none (z / 4096 == y / 4096) (has_page zs (y / 4096)) (greater (z / 4096) (y / 4096) more) (above z (y / 4096) zs (rest y (z ∷ zs) s) more)

-- each then has a page of its own
pub spread : (xs : List ℕ) (place : ℕ) → IsStrictlyIncreasing xs → All (λ x. x < 2 ^ 32) xs → ((x : ℕ) → is_in xs x ≡ true → bit_and x 4095 ≡ place) → pages_below (2 ^ 20) xs ≡ length xs
spread [] place s words same = empty_pages (2 ^ 20)
  where
    empty_pages : (n : ℕ) → pages_below n [] ≡ 0
    empty_pages zero = starting []
    empty_pages (suc n) = omega (arith, one_more [] n, empty_pages n)
spread (y ∷ ys) place s words same =
    let own : is_in (y ∷ ys) y ≡ true = rw (eq-eqb y y refl) refl in
    let other : has_page ys (y / 4096) ≡ false = apart y ys s (λ x in_it. same x in_it ∙ sym (same y own)) in
    let within : y / 4096 < 2 ^ 20 = omega (arith, words 0 y (omega arith)) in
    let later : pages_below (2 ^ 20) ys ≡ length ys = spread ys place (rest y ys s) (λ k d h. words (suc k) d (omega (arith, h))) (λ x in_it. same x (or_right (y == x) (is_in ys x) in_it)) in
    counted y ys (2 ^ 20) other within ∙ omega (arith, later)

-- where something is known to be the same of all addresses at their places in their pages, each has a page of its own
pub spread_by : (xs : List ℕ) (o : Option ℕ) → is_some o ≡ true → IsStrictlyIncreasing xs → All (λ x. x < 2 ^ 32) xs → IfSome o (λ place. (x : ℕ) → is_in xs x ≡ true → bit_and x 4095 ≡ place) → pages_below (2 ^ 20) xs ≡ length xs
spread_by xs None is s words same = absurd (cc is)
spread_by xs (Some place) is s words same = spread xs place s words same
