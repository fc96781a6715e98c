-- Runs, the addresses of their words, and the words themselves tell each other.
use Rattle.std.proofs.Common.{◌≡◌, ℕ, zero, suc, ◌+◌, ◌*◌, ◌%◌, ◌^◌, ◌<◌, ◌≤◌, Bool, true, false, cond, ltb, leb, eqb, List, [], ◌∷◌, ◌++◌, length, map, refl, sym, ap, subst, ◌∙◌, arith, inl, inr}
use Rattle.std.specs.Prelude.{◌&&◌}
use Rattle.std.specs.List.{list_all, AllByRecursion}
use Rattle.std.proofs.lemmas.Bool.{cases_eq, ltb-true, ltb-false, le-ltb, lt-ltb, eqb-true}
use Rattle.std.proofs.lemmas.List.{length-append, length-map}
use Rattle.std.proofs.lemmas.List.Sums.{sum_by-cons}
use Rattle.tpl_ast.specs.declared.template.Region.{Region}
use Rattle.tpl_ast.specs.Templates.{IsFramed}
use Rattle.tpl_ast.specs.States.{AreStartWords, is_in_ram}
use Rattle.byte_format.proofs.Groups.{FitChain}
use Rattle.elf_headers.specs.declared.runs.Run.{Run}
use Rattle.elf_headers.specs.Runs.{address_of, runs_from, runs_of, addresses, addresses_of, total_words}
use Rattle.elf_image.specs.Parts.{AreRuns, AreOffsets}
use Rattle.elf_headers.specs.Internal.Checks.{are_runs}
use Rattle.elf_image.specs.Internal.Checks.{are_in}
use Rattle.elf_headers.specs.Internal.Readers.{next_offset}
use Rattle.note_items.proofs.Booleans.{equal, apart, at_most, is_at_most, and_true, both_true, or_true, no_then, yes_then}
use Rattle.elf_headers.proofs.HeaderLaws.{FitsRun}

abbrev run : ℕ → ℕ → Run
run addr words = record { addr = addr; words = words }

-- ---- the test of runs

pub runs_take : (low : ℕ) (runs : List Run) → are_runs low runs ≡ true → AreRuns low runs
runs_take low [] e = tt
runs_take low (r ∷ rs) e =
    let a = no_then (ltb r.addr low) _ e in
    let b = yes_then (eqb (r.addr % 4) 0) _ a.1 in
    let c = yes_then (ltb 0 r.words) _ b.1 in
    let d = yes_then (leb (r.addr + 4 * r.words) (2 ^ 32)) _ c.1 in
    let some : 0 < r.words = ltb-true 0 r.words c.0 in
    (ltb-false r.addr low a.0, eqb-true _ _ b.0, omega arith, at_most _ _ d.0, runs_take (r.addr + 4 * r.words + 1) rs d.1)

pub runs_pass : (low : ℕ) (runs : List Run) → AreRuns low runs → are_runs low runs ≡ true
runs_pass low [] fits = refl
runs_pass low (r ∷ rs) fits =
    four (ltb r.addr low) (eqb (r.addr % 4) 0) (ltb 0 r.words) (leb (r.addr + 4 * r.words) (2 ^ 32)) (are_runs (r.addr + 4 * r.words + 1) rs)
    (le-ltb _ _ fits.0) (equal _ _ fits.1) (lt-ltb _ _ (omega (arith, fits.2))) (is_at_most _ _ fits.3) (runs_pass (r.addr + 4 * r.words + 1) rs fits.4)
  where
    four : (a b c d x : Bool) → a ≡ false → b ≡ true → c ≡ true → d ≡ true → x ≡ true → cond a false (cond b (cond c (cond d x false) false) false) ≡ true
    four a b c d x p q r s t = rw (p, q, r, s, t) refl

-- ---- runs and offsets

pub total-cons : (r : Run) (rs : List Run) → total_words (r ∷ rs) ≡ r.words + total_words rs
total-cons r rs = sum_by-cons (λ (x : Run). x.words) r rs

pub offsets_take : (runs : List Run) (offset : ℕ) → FitChain next_offset FitsRun offset runs → AreOffsets offset runs
offsets_take [] offset fits = tt
offsets_take (r ∷ rs) offset fits = (fits.0.offset_fits, offsets_take rs (offset + 4 * r.words) fits.1)

pub offsets_fit : (runs : List Run) (low offset : ℕ) → AreRuns low runs → total_words runs ≤ 60000 → AreOffsets offset runs → FitChain next_offset FitsRun offset runs
offsets_fit [] low offset is few fits = tt
offsets_fit (r ∷ rs) low offset is few fits =
    let sum = total-cons r rs in
    let words : r.words ≤ 60000 = omega arith in
    let others : total_words rs ≤ 60000 = omega arith in
    (record { offset_fits = fits.0; addr_fits = omega (arith, is.2, is.3); size_fits = omega arith }, offsets_fit rs (r.addr + 4 * r.words + 1) (offset + 4 * r.words) is.4 others fits.1)

pub some_offset : (runs : List Run) (offset most : ℕ) → total_words runs ≤ 60000 → offset + 4 * 60000 ≤ most → most < 2 ^ 32 → AreOffsets offset runs
some_offset runs offset most few le lt = go runs offset (omega arith)
  where
    go : (runs : List Run) (offset : ℕ) → offset + 4 * total_words runs < 2 ^ 32 → AreOffsets offset runs
    go [] offset below = tt
    go (r ∷ rs) offset below =
        let sum = total-cons r rs in
        (omega arith, go rs (offset + 4 * r.words) (omega arith))

-- ---- runs and addresses

-- one more address at the end
snoc : (addr n : ℕ) (rest : List ℕ) → addresses addr (suc n) ++ rest ≡ addresses addr n ++ ((addr + 4 * n) ∷ rest)
snoc addr zero rest = ap (λ (a : ℕ). a ∷ rest) (omega arith)
snoc addr (suc n) rest =
    let k = snoc (addr + 4) n rest in
    let e : addr + 4 + 4 * n ≡ addr + 4 * suc n = omega arith in
    ap (λ (z : List ℕ). addr ∷ z) (k ∙ ap (λ (a : ℕ). addresses (addr + 4) n ++ (a ∷ rest)) e)

addresses_from : (rest : List ℕ) (addr n : ℕ) → addresses_of (runs_from addr n rest) ≡ addresses addr n ++ rest
addresses_from [] addr n = refl
addresses_from (a ∷ rest) addr n =
    elim (cases_eq a (addr + 4 * n)) [
      | inl e ↦
          let k : addresses_of (runs_from addr (n + 1) rest) ≡ addresses addr (n + 1) ++ rest = addresses_from rest addr (n + 1) in
          let s : n + 1 ≡ suc n = omega arith in
          rw (equal a (addr + 4 * n) e) (k ∙ ap (λ (m : ℕ). addresses addr m ++ rest) s ∙ snoc addr n rest ∙ ap (λ (b : ℕ). addresses addr n ++ (b ∷ rest)) (sym e))
      | inr ne ↦
          let k : addresses_of (runs_from a 1 rest) ≡ addresses a 1 ++ rest = addresses_from rest a 1 in
          rw (apart a (addr + 4 * n) ne) (ap (λ (z : List ℕ). addresses addr n ++ z) k)
    ]

-- the runs of addresses have those addresses
pub addresses_back : (as' : List ℕ) → addresses_of (runs_of as') ≡ as'
addresses_back [] = refl
addresses_back (a ∷ rest) = addresses_from rest a 1

longer : (m addr n : ℕ) (rest : List ℕ) → runs_from addr n (addresses (addr + 4 * n) m ++ rest) ≡ runs_from addr (n + m) rest
longer zero addr n rest = ap (λ (k : ℕ). runs_from addr k rest) (omega arith)
longer (suc m) addr n rest =
    let e : addr + 4 * n + 4 ≡ addr + 4 * (n + 1) = omega arith in
    let k = longer m addr (n + 1) rest in
    let s : n + 1 + m ≡ n + suc m = omega arith in
    rw (equal (addr + 4 * n) (addr + 4 * n) refl) (ap (λ (b : ℕ). runs_from addr (n + 1) (addresses b m ++ rest)) e ∙ k ∙ ap (λ (j : ℕ). runs_from addr j rest) s)

-- a run behind which a word is missing ends there
closed : (rs : List Run) (addr n : ℕ) → AreRuns (addr + 4 * n + 1) rs → runs_from addr n (addresses_of rs) ≡ run addr n ∷ runs_of (addresses_of rs)
closed [] addr n is = refl
closed (r ∷ rs) addr n is =
    nonzero r.words is.2 (λ (w : ℕ). runs_from addr n (addresses r.addr w ++ addresses_of rs) ≡ run addr n ∷ runs_of (addresses r.addr w ++ addresses_of rs))
    (λ k. rw (apart r.addr (addr + 4 * n) (λ e. absurd (omega (arith, is.0)))) refl)
  where
    nonzero : (w : ℕ) → 1 ≤ w → (P : ℕ → Type 0) → ((k : ℕ) → P (suc k)) → P w
    nonzero zero h P f = absurd (omega arith)
    nonzero (suc k) h P f = f k

-- runs with a word between them are the longest runs of their addresses
pub runs_back : (runs : List Run) (low : ℕ) → AreRuns low runs → runs_of (addresses_of runs) ≡ runs
runs_back [] low is = refl
runs_back (r ∷ rs) low is = shaped r.addr r.words is.2 is.4 (runs_back rs (r.addr + 4 * r.words + 1) is.4)
  where
    made : (a k : ℕ) → AreRuns (a + 4 * suc k + 1) rs → runs_of (addresses_of rs) ≡ rs → runs_from a 1 (addresses (a + 4) k ++ addresses_of rs) ≡ run a (suc k) ∷ rs
    made a k others back =
        let l = longer k a 1 (addresses_of rs) in
        let s : 1 + k ≡ suc k = omega arith in
        l ∙ ap (λ (j : ℕ). runs_from a j (addresses_of rs)) s ∙ closed rs a (suc k) others ∙ ap (λ (z : List Run). run a (suc k) ∷ z) back

    shaped : (a w : ℕ) → 1 ≤ w → AreRuns (a + 4 * w + 1) rs → runs_of (addresses_of rs) ≡ rs → runs_of (addresses a w ++ addresses_of rs) ≡ run a w ∷ rs
    shaped a zero h others back = absurd (omega arith)
    shaped a (suc k) h others back = made a k others back

length-addresses : (n addr : ℕ) → length (addresses addr n) ≡ n
length-addresses zero addr = refl
length-addresses (suc n) addr = ap suc (length-addresses n (addr + 4))

length-addresses_of : (runs : List Run) → length (addresses_of runs) ≡ total_words runs
length-addresses_of [] = refl
length-addresses_of (r ∷ rs) =
    let here = length-addresses r.words r.addr in
    let others = length-addresses_of rs in
    let sum = total-cons r rs in
    length-append (addresses r.addr r.words) (addresses_of rs) ∙ omega arith

-- as many words as the runs have
pub length-words : (words : List (ℕ × ℕ)) (runs : List Run) → map address_of words ≡ addresses_of runs → length words ≡ total_words runs
length-words words runs e = sym (length-map words address_of) ∙ ap length e ∙ length-addresses_of runs

-- ---- addresses that ascend

abbrev pub AreAscending : ℕ → List ℕ → Type 0
AreAscending low [] = Unit {0}
AreAscending low (a ∷ rest) = (low ≤ a) × (a % 4 ≡ 0) × (a + 4 ≤ 2 ^ 32) × AreAscending (a + 4) rest

lower : (as' : List ℕ) (low high : ℕ) → low ≤ high → AreAscending high as' → AreAscending low as'
lower [] low high le is = tt
lower (a ∷ rest) low high le is = (omega (arith, is.0), is.1, is.2, is.3)

one_run : (n addr : ℕ) (rest : List ℕ) → addr % 4 ≡ 0 → addr + 4 * n ≤ 2 ^ 32 → AreAscending (addr + 4 * n) rest → AreAscending addr (addresses addr n ++ rest)
one_run zero addr rest e le is = lower rest addr (addr + 4 * 0) (omega arith) is
one_run (suc n) addr rest e le is =
    let next : addr + 4 * suc n ≡ addr + 4 + 4 * n = omega arith in
    (omega arith, e, omega arith, one_run n (addr + 4) rest (omega arith) (omega arith) (subst (λ (k : ℕ). AreAscending k rest) next is))

-- the addresses of runs ascend
pub runs_ascend : (runs : List Run) (low : ℕ) → AreRuns low runs → AreAscending low (addresses_of runs)
runs_ascend [] low is = tt
runs_ascend (r ∷ rs) low is =
    let others = lower (addresses_of rs) (r.addr + 4 * r.words) (r.addr + 4 * r.words + 1) (omega arith) (runs_ascend rs (r.addr + 4 * r.words + 1) is.4) in
    lower (addresses r.addr r.words ++ addresses_of rs) low r.addr is.0 (one_run r.words r.addr (addresses_of rs) is.1 is.3 others)

from_is_runs : (rest : List ℕ) (low addr n : ℕ) → low ≤ addr → addr % 4 ≡ 0 → 1 ≤ n → addr + 4 * n ≤ 2 ^ 32 → AreAscending (addr + 4 * n) rest → AreRuns low (runs_from addr n rest)
from_is_runs [] low addr n above e some le is = (above, e, some, le, tt)
from_is_runs (a ∷ rest) low addr n above e some le is =
    elim (cases_eq a (addr + 4 * n)) [
      | inl same ↦
          let next : a + 4 ≡ addr + 4 * (n + 1) = omega arith in
          subst (λ (b : Bool). AreRuns low (cond b (runs_from addr (n + 1) rest) (run addr n ∷ runs_from a 1 rest))) (sym (equal a (addr + 4 * n) same))
          (from_is_runs rest low addr (n + 1) above e (omega arith) (omega (arith, is.2)) (subst (λ (k : ℕ). AreAscending k rest) next is.3))
      | inr ne ↦
          let over : addr + 4 * n + 1 ≤ a = higher (addr + 4 * n) a is.0 ne in
          let next : a + 4 ≡ a + 4 * 1 = omega arith in
          subst (λ (b : Bool). AreRuns low (cond b (runs_from addr (n + 1) rest) (run addr n ∷ runs_from a 1 rest))) (sym (apart a (addr + 4 * n) ne))
          (above, e, some, le, from_is_runs rest (addr + 4 * n + 1) a 1 over is.1 (omega arith) (omega (arith, is.2)) (subst (λ (k : ℕ). AreAscending k rest) next is.3))
    ]
  where
    higher : (x y : ℕ) → x ≤ y → (y ≡ x → ⊥) → x + 1 ≤ y
    higher x y le ne = elim (cases_eq y x) [ inl e ↦ absurd (ne e) | inr other ↦ omega (arith, other) ]

-- the longest runs of addresses that ascend
pub ascending_runs : (as' : List ℕ) (low : ℕ) → AreAscending low as' → AreRuns low (runs_of as')
ascending_runs [] low is = tt
ascending_runs (a ∷ rest) low is =
    let next : a + 4 ≡ a + 4 * 1 = omega arith in
    from_is_runs rest low a 1 is.0 is.1 (omega arith) (omega (arith, is.2)) (subst (λ (k : ℕ). AreAscending k rest) next is.3)

-- ---- words that are given a value

-- no region reaches the last frame
below_last : (ram : List Region) (a : ℕ) → AllByRecursion IsFramed ram → is_in_ram ram a ≡ true → a < 0xFFFFF000
below_last [] a framed e = absurd cc
below_last (r ∷ rs) a framed e =
    elim (or_true (leb r.low a && ltb a r.high) (is_in_ram rs a) e) [
      | inl here ↦ let below : a < r.high = ltb-true _ _ (and_true (leb r.low a) (ltb a r.high) here).1 in omega (arith, framed.0.most)
      | inr other ↦ below_last rs a framed.1 other
    ]

pub words_ascend : (ram : List Region) (low : ℕ) (words : List (ℕ × ℕ)) → AllByRecursion IsFramed ram → AreStartWords ram low words → AreAscending low (map address_of words)
words_ascend ram low [] framed is = tt
words_ascend ram low (w ∷ ws) framed is =
    let below = below_last ram w.0 framed is.2 in
    (is.0, is.1, omega arith, words_ascend ram (w.0 + 4) ws framed is.4)

pub words_in : (ram : List Region) (low : ℕ) (words : List (ℕ × ℕ)) → AreStartWords ram low words → are_in ram words ≡ true
unfolding are_in
words_in ram low [] is = refl
words_in ram low (w ∷ ws) is = both_true (is_in_ram ram w.0) (list_all (λ x. is_in_ram ram x.0) ws) is.2 (words_in ram (w.0 + 4) ws is.4)

pub words_fit : (ram : List Region) (low : ℕ) (words : List (ℕ × ℕ)) → AreStartWords ram low words → AllByRecursion (λ w. w.1 < 2 ^ 32) words
words_fit ram low [] is = tt
words_fit ram low (w ∷ ws) is = (is.3, words_fit ram (w.0 + 4) ws is.4)

pub words_start : (ram : List Region) (low : ℕ) (words : List (ℕ × ℕ)) → AreAscending low (map address_of words) → are_in ram words ≡ true → AllByRecursion (λ w. w.1 < 2 ^ 32) words → AreStartWords ram low words
unfolding are_in
words_start ram low [] is within fits = tt
words_start ram low (w ∷ ws) is within fits =
    let both = and_true (is_in_ram ram w.0) (list_all (λ x. is_in_ram ram x.0) ws) within in
    (is.0, is.1, both.0, fits.0, words_start ram (w.0 + 4) ws is.3 both.1 fits.1)
