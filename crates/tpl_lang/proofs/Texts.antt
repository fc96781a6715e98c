-- What holds of all texts.
use Rattle.std.proofs.Common.{◌≡◌, ℕ, ◌+◌, ◌-◌, ◌<◌, ◌≤◌, Bool, true, false, eqb, cond, List, [], ◌∷◌, ◌++◌, length, take, get_or, Result, Ok, Err, refl, sym, ap, ◌∙◌, arith}
use Rattle.std.proofs.lemmas.Bool.{eq-eqb, lt-ltb, le-ltb, ne_eqb}
use Rattle.std.proofs.lemmas.List.{length-append, take-append-le}
use Rattle.std.proofs.Math.Seq.{get_or-append_seam, take-append_seam}
use Rattle.tpl_lang.specs.declared.fault.Fault.{Fault}
use Rattle.tpl_lang.specs.declared.fault.Kind.{Kind}
use Rattle.tpl_lang.specs.declared.fault.Kind.TheVariants.{TooLong}
use Rattle.tpl_lang.specs.Laws.{AreAlike, ReadAlike}
use Rattle.tpl_lang.specs.Lines.{length_until, lines, stripped, uncommented}
use Rattle.tpl_lang.specs.Known.{Known, nothing}
use Rattle.tpl_lang.specs.Parsing.{Said, fault, parses, said, line_parsed, lines_parsed}

pub long_texts : (text : List ℕ) → 65536 < length text → parses text ≡ Err (fault 0 TooLong)
unfolding parses
long_texts text long = rw (lt-ltb 65536 (length text) long) refl

pub parses_by : (text : List ℕ) → length text ≤ 65536 → parses text ≡ lines_parsed nothing 1 (lines text)
unfolding parses
parses_by text short = rw (le-ltb 65536 (length text) short) refl

-- ---- comments and carriage returns

pub until_is : (b c : ℕ) (l : List ℕ) (t : Bool) → eqb c b ≡ t → length_until b (c ∷ l) ≡ cond t 0 (length_until b l + 1)
until_is b c l t is = rw is refl

within_one : (b c : ℕ) (l : List ℕ) (t : Bool) → eqb c b ≡ t → length_until b l ≤ length l → length_until b (c ∷ l) ≤ length (c ∷ l)
within_one b c l true is h = omega (arith, until_is b c l true is)
within_one b c l false is h = omega (arith, until_is b c l false is, h)

until_within : (b : ℕ) (l : List ℕ) → length_until b l ≤ length l
until_within b [] = omega arith
until_within b (c ∷ l) = within_one b c l (eqb c b) refl (until_within b l)

until_first : (b : ℕ) (l rest : List ℕ) → length_until b (l ++ b ∷ rest) ≡ length_until b l
until_first b [] rest = until_is b b rest true (eq-eqb b b refl)
until_first b (c ∷ l) rest = ap (λ (n : ℕ). cond (eqb c b) 0 (n + 1)) (until_first b l rest)

pub uncommented_before : (l comment : List ℕ) → uncommented (l ++ 35 ∷ comment) ≡ uncommented l
uncommented_before l comment = ap (λ (n : ℕ). take n (l ++ 35 ∷ comment)) (until_first 35 l comment) ∙ take-append-le (length_until 35 l) l (35 ∷ comment) (until_within 35 l)

pub carriage_returns : (l : List ℕ) → stripped (l ++ 13 ∷ []) ≡ l
carriage_returns l =
    let size : length (l ++ 13 ∷ []) ≡ length l + 1 = length-append l (13 ∷ []) in
    let at : length (l ++ 13 ∷ []) - 1 ≡ length l = omega (arith, size) in
    let some : eqb (length (l ++ 13 ∷ [])) 0 ≡ false = ne_eqb (length (l ++ 13 ∷ [])) 0 (λ h. omega (arith, size, h)) in
    let last : get_or (l ++ 13 ∷ []) (length (l ++ 13 ∷ []) - 1) 0 ≡ 13 = ap (λ (i : ℕ). get_or (l ++ 13 ∷ []) i 0) at ∙ get_or-append_seam l 13 [] 0 in
    let cut : stripped (l ++ 13 ∷ []) ≡ take (length (l ++ 13 ∷ []) - 1) (l ++ 13 ∷ []) = rw (some, last) refl in
    cut ∙ ap (λ (n : ℕ). take n (l ++ 13 ∷ [])) at ∙ take-append_seam l (13 ∷ [])

-- ---- lines that read alike

-- the lines behind one, where it has no fault
abbrev behind : ℕ → Result Known Kind → (Known → Result Said Fault) → Result Said Fault
behind n j rest = elim j [ Err kind ↦ Err (fault n kind) | Ok next ↦ rest next ]

behind_same : (n : ℕ) (j : Result Known Kind) (f g : Known → Result Said Fault) → ((next : Known) → f next ≡ g next) → behind n j f ≡ behind n j g
behind_same n (Ok next) f g h = h next
behind_same n (Err kind) f g h = refl

judged_alike : (k : Known) (n : ℕ) (l m : List ℕ) (last : Bool) → ReadAlike l m → line_parsed k n l last ≡ line_parsed k n m last
unfolding line_parsed
judged_alike k n l m last h = rw (h.0, h.1) refl

run_alike : (k : Known) (n : ℕ) (ls ms : List (List ℕ)) → AreAlike ls ms → lines_parsed k n ls ≡ lines_parsed k n ms
run_alike k n [] [] h = refl
run_alike k n (l ∷ []) (m ∷ []) h = ap (λ (j : Result Known Kind). behind n j (λ next. Ok (said next))) (judged_alike k n l m true h)
run_alike k n (l ∷ l' ∷ ls) (m ∷ m' ∷ ms) h =
    ap (λ (j : Result Known Kind). behind n j (λ next. lines_parsed next (n + 1) (l' ∷ ls))) (judged_alike k n (stripped l) (stripped m) false h.0)
    ∙ behind_same n (line_parsed k n (stripped m) false) (λ next. lines_parsed next (n + 1) (l' ∷ ls)) (λ next. lines_parsed next (n + 1) (m' ∷ ms)) (λ next. run_alike next (n + 1) (l' ∷ ls) (m' ∷ ms) h.1)
run_alike k n [] (m ∷ ms) h = absurd h
run_alike k n (l ∷ []) [] h = absurd h
run_alike k n (l ∷ l' ∷ ls) [] h = absurd h
run_alike k n (l ∷ []) (m ∷ m' ∷ ms) h = absurd h
run_alike k n (l ∷ l' ∷ ls) (m ∷ []) h = absurd h

pub tokens_decide : (text other : List ℕ) → length text ≤ 65536 → length other ≤ 65536 → AreAlike (lines text) (lines other) → parses text ≡ parses other
tokens_decide text other short short' h = parses_by text short ∙ run_alike nothing 1 (lines text) (lines other) h ∙ sym (parses_by other short')

-- ---- the first faulty line

abbrev failed : ℕ → Kind → Result Said Fault
failed n kind = Err (fault n kind)

same_fault : (n i : ℕ) (kind kind' : Kind) → failed n kind ≡ failed i kind' → n ≡ i
same_fault n i kind kind' h = ap (λ (r : Result Said Fault). elim r [ Ok s ↦ 0 | Err f ↦ f.line ]) h

-- faults are told of these lines alone
numbers : (k : Known) (i : ℕ) (ls : List (List ℕ)) (n : ℕ) (kind : Kind) → lines_parsed k i ls ≡ Err (fault n kind) → i ≤ n
numbers k i [] n kind h = absurd cc
numbers k i (l ∷ []) n kind h = here (line_parsed k i l true) h
  where
    here : (j : Result Known Kind) → behind i j (λ next. Ok (said next)) ≡ Err (fault n kind) → i ≤ n
    here (Ok next) h = absurd cc
    here (Err kind') h = omega (arith, same_fault i n kind' kind h)
numbers k i (l ∷ m ∷ ls) n kind h = here (line_parsed k i (stripped l) false) h (λ next. numbers next (i + 1) (m ∷ ls) n kind)
  where
    here : (j : Result Known Kind) → behind i j (λ next. lines_parsed next (i + 1) (m ∷ ls)) ≡ Err (fault n kind) → ((next : Known) → lines_parsed next (i + 1) (m ∷ ls) ≡ Err (fault n kind) → i + 1 ≤ n) → i ≤ n
    here (Ok next) h rest = omega (arith, rest next h)
    here (Err kind') h rest = omega (arith, same_fault i n kind' kind h)

-- more lines follow
follows : (k : Known) (i : ℕ) (f : List ℕ) (first : List (List ℕ)) (l : List ℕ) (ls : List (List ℕ)) → lines_parsed k i (f ∷ first ++ l ∷ ls) ≡ behind i (line_parsed k i (stripped f) false) (λ next. lines_parsed next (i + 1) (first ++ l ∷ ls))
follows k i f [] l ls = refl
follows k i f (g ∷ first) l ls = refl

decides : (k : Known) (i : ℕ) (first : List (List ℕ)) (l m : List ℕ) (ls ms : List (List ℕ)) (n : ℕ) (kind : Kind) → n < i + length first → lines_parsed k i (first ++ l ∷ ls) ≡ Err (fault n kind) → lines_parsed k i (first ++ m ∷ ms) ≡ Err (fault n kind)
decides k i [] l m ls ms n kind lt h = absurd (omega (arith, lt, numbers k i (l ∷ ls) n kind h))
decides k i (f ∷ first) l m ls ms n kind lt h = follows k i f first m ms ∙ here (line_parsed k i (stripped f) false) (sym (follows k i f first l ls) ∙ h) (λ next. decides next (i + 1) first l m ls ms n kind (omega (arith, lt)))
  where
    here : (j : Result Known Kind) → behind i j (λ next. lines_parsed next (i + 1) (first ++ l ∷ ls)) ≡ Err (fault n kind) → ((next : Known) → lines_parsed next (i + 1) (first ++ l ∷ ls) ≡ Err (fault n kind) → lines_parsed next (i + 1) (first ++ m ∷ ms) ≡ Err (fault n kind)) → behind i j (λ next. lines_parsed next (i + 1) (first ++ m ∷ ms)) ≡ Err (fault n kind)
    here (Ok next) h rest = rest next h
    here (Err kind') h rest = h

pub first_fault : (text other : List ℕ) → length text ≤ 65536 → length other ≤ 65536 → (first : List (List ℕ)) (l m : List ℕ) (ls ms : List (List ℕ)) → lines text ≡ first ++ l ∷ ls → lines other ≡ first ++ m ∷ ms → (n : ℕ) (kind : Kind) → n ≤ length first → parses text ≡ Err (fault n kind) → parses other ≡ Err (fault n kind)
first_fault text other short short' first l m ls ms is is' n kind le h =
    parses_by other short' ∙ ap (lines_parsed nothing 1) is' ∙ decides nothing 1 first l m ls ms n kind (omega (arith, le)) (sym (ap (lines_parsed nothing 1) is) ∙ sym (parses_by text short) ∙ h)
