-- The items of a body, from what is asked of its lines one after another.
use Rattle.std.proofs.Common.{◌≡◌, ℕ, ◌+◌, ◌*◌, ◌^◌, ◌<◌, ◌≤◌, max, ◌&&◌, ◌||◌, Bool, true, false, leb, ltb, List, [], ◌∷◌, ◌++◌, map, length, refl, sym, ap, ◌∙◌, subst, arith}
use Rattle.std.specs.Prelude.{Vec}
use Rattle.std.specs.Global.{Global}
use Rattle.std.specs.List.{list_all}
use Rattle.std.proofs.lemmas.Bool.{leb-true, ltb-true}
use Rattle.std.proofs.lemmas.Bool.Decides.{nat_tests}
use Rattle.std.proofs.lemmas.List.{length-map}
use Rattle.tpl_ast.specs.declared.template.Item.{Item}
use Rattle.tpl_ast.specs.declared.template.Item.TheFolds.{fold-roll-Item, ind-Item, map-Item}
use Rattle.tpl_ast.specs.declared.template.Item.TheOpen.{Item-F}
use Rattle.tpl_ast.specs.declared.template.Item.TheOpen as layers
use Rattle.tpl_ast.specs.declared.template.Item.TheViews.{roll-Item}
use Rattle.tpl_ast.specs.Bodies.{BodyLine, Leaf, FetchFault, EnterSeq, EnterRepeat, EnterChoose, EnterWay, LabelOf, Leave, joined, lines_in, lines_of_body, lines_of_item, lines_of_ways}
use Rattle.tpl_ast.specs.Choices.{all_true, all_ways, can_pick, fit_in, is_fit, weight_of}
use Rattle.tpl_ast.specs.Leaves.{is_leaf}
use Rattle.tpl_ast.specs.Lengths.{length_of_body, saturated}
use Rattle.tpl_lang.specs.Known.{Alternative, Choice, OpenedBlock, Sequence, Times}
use Rattle.tpl_lang.specs.Faults.{is_closable, ways_in}
use Rattle.tpl_lang.specs.Statements.{opened_as}
use Rattle.tpl_ast.specs.Templates.{are_weights, is_fetch_outcome, stands, stands_in}
use Rattle.tpl_lang.proofs.Kept.{body_in_block, choice, counted, counted_all, counted_both, made}
use Rattle.tpl_ast.proofs.Proved.{Proved, items_back, items_of, proved}
use Rattle.tpl_lang.proofs.Short.{both_true}

pub and_true : (a b : Bool) → a ≡ true → b ≡ true → a && b ≡ true
and_true a b h k = rw (h, k) refl

-- ---- lines

abbrev pub line_fits : ℕ → BodyLine → List OpenedBlock → Bool
line_fits n (Leaf line wishes) os = is_leaf n wishes
line_fits n (FetchFault line causes) os = list_all is_fetch_outcome causes
line_fits n (EnterRepeat times) os = leb times 8192
line_fits n (EnterWay weight) os = leb weight 65535 && ltb (ways_in os) 64
line_fits n (LabelOf name) os = ltb name n
line_fits n Leave os = is_closable os
line_fits n EnterSeq os = true
line_fits n (EnterChoose line) os = true

abbrev pub lines_fit : ℕ → List BodyLine → List OpenedBlock → Bool
lines_fit n [] os = true
lines_fit n (l ∷ lines) os = line_fits n l os && lines_fit n lines (counted l os)

pub fit_both : (n : ℕ) (xs ys : List BodyLine) (os : List OpenedBlock) → lines_fit n (xs ++ ys) os ≡ true → (lines_fit n xs os ≡ true) × (lines_fit n ys (counted_all xs os) ≡ true)
fit_both n [] ys os h = (refl, h)
fit_both n (x ∷ xs) ys os h =
    let a = both_true (line_fits n x os) _ h in
    let b = fit_both n xs ys (counted x os) a.1 in
    (and_true _ _ a.0 b.0, b.1)

-- a line more
pub fit_more : (n : ℕ) (xs : List BodyLine) (l : BodyLine) (os : List OpenedBlock) → lines_fit n xs os ≡ true → line_fits n l (counted_all xs os) ≡ true → lines_fit n (xs ++ l ∷ []) os ≡ true
fit_more n [] l os h is = and_true _ _ is refl
fit_more n (x ∷ xs) l os h is =
    let a = both_true (line_fits n x os) _ h in
    and_true _ _ a.0 (fit_more n xs l (counted x os) a.1 is)

-- ---- items

abbrev Stands : Item → Type 0
Stands i = (n : ℕ) (os : List OpenedBlock) → lines_fit n (lines_of_item i) os ≡ true → stands n i ≡ true

items_stand : (es : List (Proved Stands)) (n : ℕ) (os : List OpenedBlock) → lines_fit n (lines_of_body (items_of es)) os ≡ true → all_true (map (stands n) (items_of es)) ≡ true
items_stand [] n os h = refl
items_stand (e ∷ es) n os h =
    let a = fit_both n (lines_of_item e.0) (lines_of_body (items_of es)) os h in
    and_true _ _ (e.1 n os a.0) (items_stand es n (counted_all (lines_of_item e.0) os) a.1)

-- with the brace behind them
block_stands : (es : List (Proved Stands)) (n : ℕ) (os : List OpenedBlock) → lines_fit n (lines_of_body (items_of es) ++ Leave ∷ []) os ≡ true → all_true (map (stands n) (items_of es)) ≡ true
block_stands es n os h = items_stand es n os (fit_both n (lines_of_body (items_of es)) (Leave ∷ []) os h).0

-- ---- choices

-- what is known of alternatives that follow so many others
record WaysStand (ways : ℕ) (weighted : Bool) (bs : List (ℕ × Vec Bool Global)) : Type 0 where
  weights : are_weights bs ≡ true
  inner : all_ways bs ≡ true
  count : ways ≤ 64 → ways + length bs ≤ 64
  some : weighted ≡ false → 1 ≤ weight_of bs

weight_known : (weighted : Bool) (w rest : ℕ) → (weighted || ltb 0 w ≡ false → 1 ≤ rest) → weighted ≡ false → 1 ≤ w + rest
weight_known weighted w rest h is = go (ltb 0 w) refl where
  go : (c : Bool) → ltb 0 w ≡ c → 1 ≤ w + rest
  go true e = omega (arith, ltb-true 0 w e)
  go false e = omega (arith, h (rw (is, e) refl))

ways_stand : (g : ℕ × Vec Item Global → ℕ × Vec (List BodyLine) Global) (k : ℕ × Vec Item Global → ℕ × Vec Bool Global) (h : ℕ × Vec (Proved Stands) Global → ℕ × Vec Item Global)
    → (n : ℕ) → ((v : ℕ × Vec Item Global) → (g v).1.items ≡ map lines_of_item v.1.items) → ((v : ℕ × Vec Item Global) → (k v).1.items ≡ map (stands n) v.1.items)
    → ((w : ℕ × Vec (Proved Stands) Global) → (h w).1.items ≡ items_of w.1.items) → ((v : ℕ × Vec Item Global) → (g v).0 ≡ v.0) → ((v : ℕ × Vec Item Global) → (k v).0 ≡ v.0)
    → (ws : List (ℕ × Vec (Proved Stands) Global)) (longest ways : ℕ) (weighted : Bool) (os : List OpenedBlock)
    → lines_fit n (lines_of_ways (map g (map h ws))) (choice longest ways weighted ∷ os) ≡ true
    → is_closable (counted_all (lines_of_ways (map g (map h ws))) (choice longest ways weighted ∷ os)) ≡ true
    → WaysStand ways weighted (map k (map h ws))
ways_stand g k h n lines bools items gw kw [] longest ways weighted os fits ends = record {
  weights = refl;
  inner = refl;
  count = λ few. omega (arith, few);
  some = λ none. absurd (let e = (both_true (ltb 0 ways) weighted ends).1 in cc (e, none));
}
ways_stand g k h n lines bools items gw kw (w ∷ ws) longest ways weighted os fits ends =
    let weight : ℕ = (g (h w)).0 in
    let body : List BodyLine = joined (g (h w)).1.items in
    let rest : List BodyLine = lines_of_ways (map g (map h ws)) in
    let size : ℕ = saturated (length_of_body (items_of w.1.items)) in
    let stack : List OpenedBlock = opened_as (Alternative weight) ∷ choice longest ways weighted ∷ os in
    let next : List OpenedBlock = choice (max longest size) (ways + 1) (weighted || ltb 0 weight) ∷ os in
    let a = both_true (leb weight 65535 && ltb ways 64) _ fits in
    let small = both_true (leb weight 65535) (ltb ways 64) a.0 in
    let b = fit_both n body (Leave ∷ rest) stack a.1 in
    let inner : (g (h w)).1.items ≡ map lines_of_item (items_of w.1.items) = lines (h w) ∙ ap (map lines_of_item) (items w) in
    let same : body ≡ lines_of_body (items_of w.1.items) = ap joined inner in
    let left : counted_all body stack ≡ made (Alternative weight) size ∷ choice longest ways weighted ∷ os = ap (λ (xs : List BodyLine). counted_all xs stack) same ∙ body_in_block (items_of w.1.items) (Alternative weight) (choice longest ways weighted ∷ os) in
    let c = both_true (is_closable (made (Alternative weight) size ∷ choice longest ways weighted ∷ os)) (lines_fit n rest next) (subst (λ (st : List OpenedBlock). lines_fit n (Leave ∷ rest) st ≡ true) left b.1) in
    let behind : counted_all (body ++ Leave ∷ rest) stack ≡ counted_all rest next = counted_both body (Leave ∷ rest) stack ∙ ap (counted_all (Leave ∷ rest)) left in
    let more = ways_stand g k h n lines bools items gw kw ws (max longest size) (ways + 1) (weighted || ltb 0 weight) os c.1 (subst (λ (st : List OpenedBlock). is_closable st ≡ true) behind ends) in
    let own : all_true (map (stands n) (items_of w.1.items)) ≡ true = items_stand w.1.items n stack (subst (λ (xs : List BodyLine). lines_fit n xs stack ≡ true) same b.0) in
    let told : (k (h w)).1.items ≡ map (stands n) (items_of w.1.items) = bools (h w) ∙ ap (map (stands n)) (items w) in
    let weights : (k (h w)).0 ≡ weight = kw (h w) ∙ sym (gw (h w)) in
    record {
      weights = and_true _ _ (ap (λ (m : ℕ). leb m 65535) weights ∙ small.0) more.weights;
      inner = and_true _ _ (ap all_true told ∙ own) more.inner;
      count = λ few. omega (arith, more.count (omega (arith, ltb-true ways 64 small.1)));
      some = λ none. omega (arith, weights, weight_known weighted weight (weight_of (map k (map h ws))) more.some none);
    }

choice_stands : (n : ℕ) (bs : List (ℕ × Vec Bool Global)) → WaysStand 0 false bs → leb 1 (weight_of bs) && (leb (length bs) 64 && (are_weights bs && all_ways bs)) ≡ true
choice_stands n bs h =
    let some : leb 1 (weight_of bs) ≡ true = grind (arith, nat_tests, h.some refl) in
    let few : leb (length bs) 64 ≡ true = grind (arith, nat_tests, h.count (omega arith)) in
    rw (some, few, h.weights) h.inner

alone : (b : Bool) → b && true ≡ true → b ≡ true
alone true h = refl
alone false h = absurd (cc h)

-- a choice, with the brace behind it
choice_holds : (g : ℕ × Vec Item Global → ℕ × Vec (List BodyLine) Global) (k : ℕ × Vec Item Global → ℕ × Vec Bool Global) (h : ℕ × Vec (Proved Stands) Global → ℕ × Vec Item Global)
    → (n : ℕ) → ((v : ℕ × Vec Item Global) → (g v).1.items ≡ map lines_of_item v.1.items) → ((v : ℕ × Vec Item Global) → (k v).1.items ≡ map (stands n) v.1.items)
    → ((w : ℕ × Vec (Proved Stands) Global) → (h w).1.items ≡ items_of w.1.items) → ((v : ℕ × Vec Item Global) → (g v).0 ≡ v.0) → ((v : ℕ × Vec Item Global) → (k v).0 ≡ v.0)
    → (ws : List (ℕ × Vec (Proved Stands) Global)) (os : List OpenedBlock) → lines_fit n (lines_of_ways (map g (map h ws)) ++ Leave ∷ []) (opened_as Choice ∷ os) ≡ true
    → leb 1 (weight_of (map k (map h ws))) && (leb (length (map k (map h ws))) 64 && (are_weights (map k (map h ws)) && all_ways (map k (map h ws)))) ≡ true
choice_holds g k h n lines bools items gw kw ws os fits =
    let a = fit_both n (lines_of_ways (map g (map h ws))) (Leave ∷ []) (opened_as Choice ∷ os) fits in
    choice_stands n (map k (map h ws)) (ways_stand g k h n lines bools items gw kw ws 0 0 false os a.0 (alone _ a.1))

-- ---- every item

stands_by : (z : Item-F Item) → ((n : ℕ) (os : List OpenedBlock) → lines_fit n (lines_in (map-Item _ _ lines_of_item z)) os ≡ true → stands_in n (map-Item _ _ (stands n) z) ≡ true) → Stands (roll-Item z)
stands_by z same n os h =
    fold-roll-Item Bool (stands_in n) z
    ∙ same n os (subst (λ (lines : List BodyLine). lines_fit n lines os ≡ true) (fold-roll-Item (List BodyLine) lines_in z) h)

step : (x : Item-F Item) (y : Item-F (Proved Stands)) → map-Item _ _ (λ e. e.0) y ≡ x → Stands (roll-Item x)
step x (layers.Leaf line wishes) is = subst (λ (z : Item-F Item). Stands (roll-Item z)) is (stands_by (layers.Leaf line wishes) (λ n os h. alone _ h))
step x (layers.FetchFault line causes) is = subst (λ (z : Item-F Item). Stands (roll-Item z)) is (stands_by (layers.FetchFault line causes) (λ n os h. alone _ h))
step x (layers.Label name) is = subst (λ (z : Item-F Item). Stands (roll-Item z)) is (stands_by (layers.Label name) (λ n os h. alone _ h))
step x (layers.Seq body) is = subst (λ (z : Item-F Item). Stands (roll-Item z)) is (stands_by _ (λ n os h. block_stands body.items n (opened_as Sequence ∷ os) h))
step x (layers.Repeat times body) is = subst (λ (z : Item-F Item). Stands (roll-Item z)) is (stands_by _ (λ n os h.
    let a = both_true (leb times 8192) _ h in
    and_true _ _ a.0 (block_stands body.items n (opened_as (Times times) ∷ os) a.1)))
step x (layers.Choose line ways) is = subst (λ (z : Item-F Item). Stands (roll-Item z)) is (stands_by _ (λ n os h.
    choice_holds _ _ _ n (λ v. refl) (λ v. refl) (λ w. refl) (λ v. refl) (λ v. refl) ways.items os h))

item_stands : (i : Item) → Stands i
item_stands = ind-Item Stands step

pub body_stands : (n : ℕ) (items : List Item) (os : List OpenedBlock) → lines_fit n (lines_of_body items) os ≡ true → all_true (map (stands n) items) ≡ true
body_stands n items os h =
    subst (λ (is : List Item). all_true (map (stands n) is) ≡ true) (items_back item_stands items)
    (items_stand (proved item_stands items) n os (subst (λ (is : List Item). lines_fit n (lines_of_body is) os ≡ true) (sym (items_back item_stands items)) h))

-- ---- an alternative of each choice can be picked

abbrev Picks : Item → Type 0
Picks i = (n : ℕ) → stands n i ≡ true → is_fit i ≡ true

items_pick : (es : List (Proved Picks)) (n : ℕ) → all_true (map (stands n) (items_of es)) ≡ true → all_true (map is_fit (items_of es)) ≡ true
items_pick [] n h = refl
items_pick (e ∷ es) n h =
    let a = both_true (stands n e.0) _ h in
    and_true _ _ (e.1 n a.0) (items_pick es n a.1)

-- alternatives and their answers
record WaysPick (count : ℕ) (bs cs : List (ℕ × Vec Bool Global)) : Type 0 where
  inner : all_ways cs ≡ true
  sum : weight_of cs ≡ weight_of bs
  most : weight_of bs ≤ count * 65535
  length : length cs ≡ length bs

ways_pick : (f k : ℕ × Vec Item Global → ℕ × Vec Bool Global) (h : ℕ × Vec (Proved Picks) Global → ℕ × Vec Item Global)
    → (n : ℕ) → ((v : ℕ × Vec Item Global) → (f v).1.items ≡ map is_fit v.1.items) → ((v : ℕ × Vec Item Global) → (k v).1.items ≡ map (stands n) v.1.items)
    → ((w : ℕ × Vec (Proved Picks) Global) → (h w).1.items ≡ items_of w.1.items) → ((v : ℕ × Vec Item Global) → (f v).0 ≡ v.0) → ((v : ℕ × Vec Item Global) → (k v).0 ≡ v.0)
    → (ws : List (ℕ × Vec (Proved Picks) Global)) → are_weights (map k (map h ws)) ≡ true → all_ways (map k (map h ws)) ≡ true → WaysPick (length ws) (map k (map h ws)) (map f (map h ws))
ways_pick f k h n fits bools items fw kw [] weights inner = record { inner = refl; sum = refl; most = omega arith; length = refl }
ways_pick f k h n fits bools items fw kw (w ∷ ws) weights inner =
    let a = both_true (leb (k (h w)).0 65535) _ weights in
    let b = both_true (all_true (k (h w)).1.items) _ inner in
    let more = ways_pick f k h n fits bools items fw kw ws a.1 b.1 in
    let told : (k (h w)).1.items ≡ map (stands n) (items_of w.1.items) = bools (h w) ∙ ap (map (stands n)) (items w) in
    let said : (f (h w)).1.items ≡ map is_fit (items_of w.1.items) = fits (h w) ∙ ap (map is_fit) (items w) in
    let own : all_true (map is_fit (items_of w.1.items)) ≡ true = items_pick w.1.items n (sym (ap all_true told) ∙ b.0) in
    record {
      inner = and_true _ _ (ap all_true said ∙ own) more.inner;
      sum = omega (arith, fw (h w), kw (h w), more.sum);
      most = omega (arith, leb-true (k (h w)).0 65535 a.0, more.most);
      length = omega (arith, more.length);
    }

choice_picks : (count : ℕ) (bs cs : List (ℕ × Vec Bool Global)) → count ≡ length bs → leb 1 (weight_of bs) && (leb (length bs) 64 && (are_weights bs && all_ways bs)) ≡ true
    → (are_weights bs ≡ true → all_ways bs ≡ true → WaysPick count bs cs) → can_pick cs && all_ways cs ≡ true
choice_picks count bs cs same stand pick =
    let some = both_true (leb 1 (weight_of bs)) _ stand in
    let few = both_true (leb (length bs) 64) _ some.1 in
    let all = both_true (are_weights bs) _ few.1 in
    let h = pick all.0 all.1 in
    let low : 1 ≤ weight_of cs = omega (arith, leb-true 1 (weight_of bs) some.0, h.sum) in
    let high : weight_of cs < 2 ^ 64 = omega (arith, leb-true (length bs) 64 few.0, h.sum, h.most, same) in
    let size : length cs < 2 ^ 32 = omega (arith, leb-true (length bs) 64 few.0, h.length) in
    let a : ltb 0 (weight_of cs) ≡ true = grind (arith, nat_tests, low) in
    let b : ltb (weight_of cs) (2 ^ 64) ≡ true = grind (arith, nat_tests, high) in
    let c : ltb (length cs) (2 ^ 32) ≡ true = grind (arith, nat_tests, size) in
    rw (a, b, c) h.inner

choice_can : (f k : ℕ × Vec Item Global → ℕ × Vec Bool Global) (h : ℕ × Vec (Proved Picks) Global → ℕ × Vec Item Global)
    → (n : ℕ) → ((v : ℕ × Vec Item Global) → (f v).1.items ≡ map is_fit v.1.items) → ((v : ℕ × Vec Item Global) → (k v).1.items ≡ map (stands n) v.1.items)
    → ((w : ℕ × Vec (Proved Picks) Global) → (h w).1.items ≡ items_of w.1.items) → ((v : ℕ × Vec Item Global) → (f v).0 ≡ v.0) → ((v : ℕ × Vec Item Global) → (k v).0 ≡ v.0)
    → (ws : List (ℕ × Vec (Proved Picks) Global))
    → leb 1 (weight_of (map k (map h ws))) && (leb (length (map k (map h ws))) 64 && (are_weights (map k (map h ws)) && all_ways (map k (map h ws)))) ≡ true
    → can_pick (map f (map h ws)) && all_ways (map f (map h ws)) ≡ true
choice_can f k h n fits bools items fw kw ws stand =
    choice_picks (length ws) (map k (map h ws)) (map f (map h ws)) (sym (length-map (map h ws) k ∙ length-map ws h)) stand
    (λ weights inner. ways_pick f k h n fits bools items fw kw ws weights inner)

picks_by : (z : Item-F Item) → ((n : ℕ) → stands_in n (map-Item _ _ (stands n) z) ≡ true → fit_in (map-Item _ _ is_fit z) ≡ true) → Picks (roll-Item z)
picks_by z same n h = fold-roll-Item Bool fit_in z ∙ same n (sym (fold-roll-Item Bool (stands_in n) z) ∙ h)

picks_step : (x : Item-F Item) (y : Item-F (Proved Picks)) → map-Item _ _ (λ e. e.0) y ≡ x → Picks (roll-Item x)
picks_step x (layers.Leaf line wishes) is = subst (λ (z : Item-F Item). Picks (roll-Item z)) is (picks_by (layers.Leaf line wishes) (λ n h. refl))
picks_step x (layers.FetchFault line causes) is = subst (λ (z : Item-F Item). Picks (roll-Item z)) is (picks_by (layers.FetchFault line causes) (λ n h. refl))
picks_step x (layers.Label name) is = subst (λ (z : Item-F Item). Picks (roll-Item z)) is (picks_by (layers.Label name) (λ n h. refl))
picks_step x (layers.Seq body) is = subst (λ (z : Item-F Item). Picks (roll-Item z)) is (picks_by _ (λ n h. items_pick body.items n h))
picks_step x (layers.Repeat times body) is = subst (λ (z : Item-F Item). Picks (roll-Item z)) is (picks_by _ (λ n h. items_pick body.items n (both_true (leb times 8192) _ h).1))
picks_step x (layers.Choose line ways) is = subst (λ (z : Item-F Item). Picks (roll-Item z)) is (picks_by _ (λ n h.
    choice_can _ _ _ n (λ v. refl) (λ v. refl) (λ w. refl) (λ v. refl) (λ v. refl) ways.items h))

pub body_picks : (n : ℕ) (items : List Item) → all_true (map (stands n) items) ≡ true → all_true (map is_fit items) ≡ true
body_picks n items h =
    subst (λ (is : List Item). all_true (map is_fit is) ≡ true) (items_back (ind-Item Picks picks_step) items)
    (items_pick (proved (ind-Item Picks picks_step) items) n (subst (λ (is : List Item). all_true (map (stands n) is) ≡ true) (sym (items_back (ind-Item Picks picks_step) items)) h))
