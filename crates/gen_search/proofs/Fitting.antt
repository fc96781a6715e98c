-- Bodies that can be searched.
use Rattle.std.proofs.Common.{◌≡◌, ℕ, zero, suc, ◌+◌, ◌<◌, ◌^◌, Bool, true, ◌&&◌, nat_lt, List, [], ◌∷◌, ◌++◌, map, length, get_or, refl, sym, ap, ◌∙◌, subst, arith}
use Rattle.std.specs.Prelude.{Vec}
use Rattle.std.specs.Global.{Global}
use Rattle.tpl_ast.specs.declared.template.Item.{Item}
use Rattle.tpl_ast.specs.declared.template.Item.TheViews as views
use Rattle.tpl_ast.specs.declared.template.Item.TheOpen as layers
use Rattle.tpl_ast.specs.declared.template.Item.TheVariants as variants
use Rattle.tpl_ast.specs.declared.template.Item.TheFolds.{fold-roll-Item}
use Rattle.tpl_ast.specs.Choices.{all_true, all_ways, are_ways_fit, can_pick, fit_in, is_fit, weight_of}
use Rattle.gen_search.specs.Search.{of_hart}
use Rattle.gen_search.specs.Fit.{AreFit}
use Rattle.gen_search.specs.Search.{copies}
use Rattle.gen_search.proofs.Weights.{both_true}

pub seq_fit : (body : Vec Item Global) → is_fit (views.Seq body) ≡ all_true (map is_fit body.items)
seq_fit body = ap is_fit (sym (variants.rolls-Seq body)) ∙ fold-roll-Item Bool fit_in (layers.Seq body)

pub repeat_fit : (times : ℕ) (body : Vec Item Global) → is_fit (views.Repeat times body) ≡ all_true (map is_fit body.items)
repeat_fit times body = ap is_fit (sym (variants.rolls-Repeat times body)) ∙ fold-roll-Item Bool fit_in (layers.Repeat times body)

weights_are : (g : ℕ × Vec Item Global → ℕ × Vec Bool Global) → ((w : ℕ × Vec Item Global) → (g w).0 ≡ w.0) → (ws : List (ℕ × Vec Item Global)) → weight_of (map g ws) ≡ weight_of ws
weights_are g weight [] = refl
weights_are g weight (w ∷ ws) = λ i. weight w i + weights_are g weight ws i

lengths_are : (g : ℕ × Vec Item Global → ℕ × Vec Bool Global) (ws : List (ℕ × Vec Item Global)) → length (map g ws) ≡ length ws
lengths_are g [] = refl
lengths_are g (w ∷ ws) = ap suc (lengths_are g ws)

fits_are : (g : ℕ × Vec Item Global → ℕ × Vec Bool Global) → ((w : ℕ × Vec Item Global) → (g w).1.items ≡ map is_fit w.1.items) → (ws : List (ℕ × Vec Item Global)) → all_ways (map g ws) ≡ are_ways_fit ws
fits_are g inner [] = refl
fits_are g inner (w ∷ ws) = λ i. all_true (inner w i) && fits_are g inner ws i

pickable : (weight few : ℕ) → Bool
pickable weight few = nat_lt 0 weight && (nat_lt weight (2 ^ 64) && nat_lt few (2 ^ 32))

choice_is : (g : ℕ × Vec Item Global → ℕ × Vec Bool Global) → ((w : ℕ × Vec Item Global) → (g w).0 ≡ w.0) → ((w : ℕ × Vec Item Global) → (g w).1.items ≡ map is_fit w.1.items)
    → (ws : List (ℕ × Vec Item Global)) → (can_pick (map g ws) && all_ways (map g ws)) ≡ (can_pick ws && are_ways_fit ws)
choice_is g weight inner ws =
    λ i. (nat_lt 0 (weights_are g weight ws i) && (nat_lt (weights_are g weight ws i) (2 ^ 64) && nat_lt (lengths_are g ws i) (2 ^ 32))) && fits_are g inner ws i

pub choose_fit : (line : ℕ) (ways : Vec (ℕ × Vec Item Global) Global) → is_fit (views.Choose line ways) ≡ (can_pick ways.items && are_ways_fit ways.items)
choose_fit line ways =
    ap is_fit (sym (variants.rolls-Choose line ways))
    ∙ fold-roll-Item Bool fit_in (layers.Choose line ways)
    ∙ choice_is _ (λ w. refl) (λ w. refl) ways.items

-- ---- lists

pub fit_append : (xs ys : List (ℕ × Item)) → AreFit xs → AreFit ys → AreFit (xs ++ ys)
fit_append [] ys fx fy = fy
fit_append (x ∷ xs) ys fx fy = (fx.0, fit_append xs ys fx.1 fy)

pub fit_body : (hart : ℕ) (items : List Item) → all_true (map is_fit items) ≡ true → AreFit (of_hart hart items)
fit_body hart [] fit = tt
fit_body hart (i ∷ is) fit = let b = both_true (is_fit i) (all_true (map is_fit is)) fit in (b.0, fit_body hart is b.1)

pub fit_copies : (times : ℕ) (xs : List (ℕ × Item)) → AreFit xs → AreFit (copies times xs)
fit_copies zero xs fit = tt
fit_copies (suc n) xs fit = fit_append xs (copies n xs) fit (fit_copies n xs fit)

pub way_fit : (ways : List (ℕ × Vec Item Global)) (i : ℕ) (d : ℕ × Vec Item Global) → are_ways_fit ways ≡ true → i < length ways → all_true (map is_fit (get_or ways i d).1.items) ≡ true
way_fit [] i d fit lt = absurd (omega (arith, lt))
way_fit (w ∷ ws) zero d fit lt = (both_true (all_true (map is_fit w.1.items)) (are_ways_fit ws) fit).0
way_fit (w ∷ ws) (suc i) d fit lt = way_fit ws i d (both_true (all_true (map is_fit w.1.items)) (are_ways_fit ws) fit).1 (omega (arith, lt))

-- a body that is entered so many times, before what was left
pub entered_fit : (hart times : ℕ) (items : List Item) (left todo : List (ℕ × Item)) → todo ≡ copies times (of_hart hart items) ++ left → all_true (map is_fit items) ≡ true → AreFit left → AreFit todo
entered_fit hart times items left todo is body fit = subst AreFit (sym is) (fit_append (copies times (of_hart hart items)) left (fit_copies times (of_hart hart items) (fit_body hart items body)) fit)
