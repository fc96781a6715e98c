-- The setting of a call is that of what the code keeps.
use Rattle.std.proofs.Common.{◌≡◌, ◌==◌, ℕ, ◌+◌, ◌≤◌, Bool, true, false, ◌||◌, List, [], ◌∷◌, refl, sym, ap, ◌∙◌, arith}
use Rattle.std.specs.List.{list_any}
use Rattle.std.proofs.Math.Path.{fun_ext}
use Rattle.rv_mem.specs.Ram.{in_ram}
use Rattle.dom_set.specs.Counting.{one}
use Rattle.dom_set.specs.Elements.{is_in}
use Rattle.sv_walk.specs.declared.entry.Kind.{Kind}
use Rattle.sv_walk.specs.declared.entry.View.{View}
use Rattle.row_parts.specs.Times.{times_by}
use Rattle.row_parts.specs.Forms.{IsOnce}
use Rattle.row_parts.specs.declared.alike.Group.{Group}
use Rattle.row_parts.specs.Alike.{times_held, is_held}
use Rattle.addr_rows.specs.Combinations.{Setting}

pub at_most_one : (b : Bool) (n : ℕ) → n ≡ one b → n ≤ 1
at_most_one true n h = omega (arith, h)
at_most_one false n h = omega (arith, h)

by_count : (b c : Bool) (n : ℕ) (d : Bool) → one b + n ≡ one d → (n ≡ one false → c ≡ false) → (n ≡ one true → c ≡ true) → (b || c) ≡ d
by_count true c n true h none some = refl
by_count true c n false h none some = absurd (omega (arith, h))
by_count false c n true h none some = some (omega (arith, h))
by_count false c n false h none some = none (omega (arith, h))

pub any_by : {X : Type 0} (test : X → Bool) (xs : List X) (b : Bool) → times_by test xs ≡ one b → list_any test xs ≡ b
any_by test [] true h = absurd (omega (arith, h))
any_by test [] false h = refl
any_by test (x ∷ xs) b h = by_count (test x) (list_any test xs) (times_by test xs) b h (any_by test xs false) (any_by test xs true)

pub in_once : (test : ℕ → Bool) (vs : List ℕ) → IsOnce test vs → (w : ℕ) → is_in vs w ≡ test w
in_once test vs once w = any_by (λ v. v == w) vs (test w) (once w)

pub once_self : (test : ℕ → Bool) (vs : List ℕ) → IsOnce test vs → IsOnce (is_in vs) vs
once_self test vs once = λ w. once w ∙ ap one (sym (in_once test vs once w))

pub setting_same : (r s : List (ℕ × ℕ)) (v : View) (k : Kind) (t u : List ℕ) (first second : ℕ → Bool) (fs : List ℕ) (gs : List Group) → r ≡ s → t ≡ u → IsOnce first fs → ((w : ℕ) → times_held gs w ≡ one (second w))
    → Path Setting (record { ram = in_ram r; view = v; kind = k; tables = t; first = is_in fs; second = is_held gs }) (record { ram = in_ram s; view = v; kind = k; tables = u; first = first; second = second })
setting_same r s v k t u first second fs gs regions tables once_first once_second = λ i. record { ram = in_ram (regions i); view = v; kind = k; tables = tables i; first = fun_ext (in_once first fs once_first) i; second = fun_ext (λ w. any_by (λ g. is_in g.values w) gs (second w) (once_second w)) i }
