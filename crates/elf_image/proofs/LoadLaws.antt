-- The laws of the words of memory.
use Rattle.std.proofs.Common.{◌≡◌, ℕ, zero, suc, ◌+◌, ◌^◌, ◌<◌, List, [], ◌∷◌, ◌++◌, length, map, Some, refl, sym, ap, subst, ◌∙◌, append_assoc, arith}
use Rattle.std.specs.Prelude.{IsTrue}
use Rattle.std.specs.List.{AllByRecursion}
use Rattle.std.proofs.lemmas.List.{map-append}
use Rattle.std.proofs.lemmas.List.Concat.{flat_map-append}
use Rattle.std.proofs.lemmas.Option.{same_Some}
use Rattle.tpl_ast.specs.declared.template.Region.{Region}
use Rattle.byte_format.specs.Numbers.{word, chained}
use Rattle.byte_format.specs.Internal.Readers.{◌>>=◌, chain_at}
use Rattle.byte_format.proofs.Bytes.{IsBytes, bytes_rest, bind_some}
use Rattle.byte_format.proofs.Laws.{Reads, reads_word, reads_as, reads_where, reads_fits, reads_text}
use Rattle.byte_format.proofs.Groups.{FitChain, reads_chain}
use Rattle.elf_headers.specs.declared.runs.Run.{Run}
use Rattle.elf_headers.specs.Runs.{address_of, addresses, addresses_of}
use Rattle.elf_image.specs.File.{load_spelling}
use Rattle.elf_image.specs.Internal.Checks.{are_in}
use Rattle.elf_image.specs.Internal.PartReaders.{placed_at, next_address, words_at, image_at}

abbrev Words : Type 0
Words = List (ℕ × ℕ)

-- words at these addresses
pub record FitWords (addrs : List ℕ) (words : List (ℕ × ℕ)) : Type 0 where
  pub places : map address_of words ≡ addrs
  pub each : AllByRecursion (λ w. w.1 < 2 ^ 32) words

-- ---- the words of a run

abbrev FitsPlaced : ℕ → ℕ × ℕ → Type 0
FitsPlaced addr w = (w.0 ≡ addr) × (w.1 < 2 ^ 32)

reads_placed : (addr : ℕ) → Reads (ℕ × ℕ) (placed_at addr) (λ w. word w.1) (FitsPlaced addr)
unfolding placed_at
reads_placed addr = reads_as (λ v. Some (addr, v)) (λ w. w.1) (FitsPlaced addr)
    (λ v w f e. subst (λ (z : ℕ × ℕ). (z.1 ≡ v) × FitsPlaced addr z) (same_Some (addr, v) w e) (refl, (refl, f)))
    (λ w f. (ap (λ (a : ℕ). Some (a, w.1)) (sym f.0), f.1))
    reads_word

same_words : (ws : Words) (addr : ℕ) → chained next_address (λ a w. word w.1) addr ws ≡ load_spelling ws
unfolding chained load_spelling
same_words [] addr = refl
same_words (w ∷ ws) addr = ap (λ (z : List ℕ). word w.1 ++ z) (same_words ws (addr + 4))

chain_take : (ws : Words) (n addr : ℕ) → length ws ≡ n → FitChain next_address FitsPlaced addr ws → FitWords (addresses addr n) ws
chain_take [] zero addr e fits = record { places = refl; each = tt }
chain_take [] (suc n) addr e fits = absurd (omega arith)
chain_take (w ∷ ws) zero addr e fits = absurd (omega arith)
chain_take (w ∷ ws) (suc n) addr e fits =
    let k = chain_take ws n (addr + 4) (omega arith) fits.1 in
    record { places = joined fits.0.0 k.places; each = (fits.0.1, k.each) }
  where
    joined : {x y : ℕ} {xs ys : List ℕ} → x ≡ y → xs ≡ ys → x ∷ xs ≡ y ∷ ys
    joined p q = cc

record Chains (n addr : ℕ) (ws : Words) : Type 0 where
  count : length ws ≡ n
  chain : FitChain next_address FitsPlaced addr ws

chain_fit : (ws : Words) (n addr : ℕ) → FitWords (addresses addr n) ws → Chains n addr ws
chain_fit [] zero addr fits = record { count = refl; chain = tt }
chain_fit [] (suc n) addr fits = absurd (cc (fits.places))
chain_fit (w ∷ ws) zero addr fits = absurd (cc (fits.places))
chain_fit (w ∷ ws) (suc n) addr fits =
    let same : w.0 ≡ addr = cc (fits.places) in
    let others : map address_of ws ≡ addresses (addr + 4) n = cc (fits.places) in
    let k = chain_fit ws n (addr + 4) (record { places = others; each = fits.each.1 }) in
    record { count = ap suc k.count; chain = ((same, fits.each.0), k.chain) }

reads_run : (n addr : ℕ) → Reads Words (chain_at next_address placed_at n addr) load_spelling (FitWords (addresses addr n))
reads_run n addr = reads_fits (FitWords (addresses addr n))
    (λ ws f. chain_take ws n addr f.0 f.1)
    (λ ws f. let k = chain_fit ws n addr f in (k.count, k.chain))
    (reads_text load_spelling (λ ws. same_words ws addr) (reads_chain next_address n addr reads_placed))

-- ---- the words of all runs

words_take : (runs : List Run) (bytes : List ℕ) (x : Words × List ℕ) → IsBytes bytes → words_at runs bytes ≡ Some x → (bytes ≡ load_spelling x.0 ++ x.1) × FitWords (addresses_of runs) x.0
unfolding words_at load_spelling
words_take [] bytes x fits e =
    subst (λ (y : Words × List ℕ). (bytes ≡ load_spelling y.0 ++ y.1) × FitWords [] y.0) (same_Some ([], bytes) x e) (refl, record { places = refl; each = tt })
words_take (r ∷ rs) bytes x fits e =
    let a = bind_some (chain_at next_address placed_at r.words r.addr bytes) (λ ws. words_at rs ws.1 >>= λ more. Some (ws.0 ++ more.0, more.1)) x e in
    let b = bind_some (words_at rs a.0.1) (λ more. Some (a.0.0 ++ more.0, more.1)) x a.2 in
    let m = (reads_run r.words r.addr).takes bytes a.0 fits a.1 in
    let k = words_take rs a.0.1 b.0 (bytes_rest bytes (load_spelling a.0.0) a.0.1 fits m.0) b.1 in
    let joined : load_spelling (a.0.0 ++ b.0.0) ≡ load_spelling a.0.0 ++ load_spelling b.0.0 = flat_map-append (λ (w : ℕ × ℕ). word w.1) a.0.0 b.0.0 in
    let text : bytes ≡ load_spelling (a.0.0 ++ b.0.0) ++ b.0.1 = m.0 ∙ ap (λ (z : List ℕ). load_spelling a.0.0 ++ z) k.0 ∙ sym (append_assoc (load_spelling a.0.0) (load_spelling b.0.0) b.0.1) ∙ ap (λ (z : List ℕ). z ++ b.0.1) (sym joined) in
    subst (λ (y : Words × List ℕ). (bytes ≡ load_spelling y.0 ++ y.1) × FitWords (addresses r.addr r.words ++ addresses_of rs) y.0) (same_Some (a.0.0 ++ b.0.0, b.0.1) x b.2)
    (text, record { places = map-append address_of a.0.0 b.0.0 ∙ ap (λ (z : List ℕ). z ++ map address_of b.0.0) m.1.places ∙ ap (λ (z : List ℕ). addresses r.addr r.words ++ z) k.1.places; each = all_append a.0.0 b.0.0 m.1.each k.1.each })
  where
    all_append : (xs ys : Words) → AllByRecursion (λ w. w.1 < 2 ^ 32) xs → AllByRecursion (λ w. w.1 < 2 ^ 32) ys → AllByRecursion (λ w. w.1 < 2 ^ 32) (xs ++ ys)
    all_append [] ys p q = q
    all_append (x ∷ xs) ys p q = (p.0, all_append xs ys p.1 q)

record SplitsWords (ws : Words) (first others : List ℕ) : Type 0 where
  front : Words
  back : Words
  whole : ws ≡ front ++ back
  front_fits : FitWords first front
  back_fits : FitWords others back

split_words : (ws : Words) (first others : List ℕ) → FitWords (first ++ others) ws → SplitsWords ws first others
split_words ws [] others fits = record { front = []; back = ws; whole = refl; front_fits = record { places = refl; each = tt }; back_fits = fits }
split_words [] (a ∷ first) others fits = absurd (cc (fits.places))
split_words (w ∷ ws) (a ∷ first) others fits =
    let same : w.0 ≡ a = cc (fits.places) in
    let after : map address_of ws ≡ first ++ others = cc (fits.places) in
    let k = split_words ws first others (record { places = after; each = fits.each.1 }) in
    record { front = w ∷ k.front; back = k.back; whole = ap (λ (z : Words). w ∷ z) k.whole; front_fits = record { places = joined same k.front_fits.places; each = (fits.each.0, k.front_fits.each) }; back_fits = k.back_fits }
  where
    joined : {x y : ℕ} {xs ys : List ℕ} → x ≡ y → xs ≡ ys → x ∷ xs ≡ y ∷ ys
    joined p q = cc

words_again : (runs : List Run) (ws : Words) (rest : List ℕ) → FitWords (addresses_of runs) ws → words_at runs (load_spelling ws ++ rest) ≡ Some (ws, rest)
unfolding words_at load_spelling
words_again [] [] rest fits = refl
words_again [] (w ∷ ws) rest fits = absurd (cc (fits.places))
words_again (r ∷ rs) ws rest fits =
    let k = split_words ws (addresses r.addr r.words) (addresses_of rs) fits in
    let joined : load_spelling (k.front ++ k.back) ≡ load_spelling k.front ++ load_spelling k.back = flat_map-append (λ (w : ℕ × ℕ). word w.1) k.front k.back in
    let text : load_spelling ws ++ rest ≡ load_spelling k.front ++ (load_spelling k.back ++ rest) = ap (λ (z : Words). load_spelling z ++ rest) k.whole ∙ ap (λ (z : List ℕ). z ++ rest) joined ∙ append_assoc (load_spelling k.front) (load_spelling k.back) rest in
    ap (words_at (r ∷ rs)) text ∙ rw ((reads_run r.words r.addr).again k.front (load_spelling k.back ++ rest) k.front_fits, words_again rs k.back rest k.back_fits) (ap (λ (z : Words). Some (z, rest)) (sym k.whole))

reads_words : (runs : List Run) → Reads Words (words_at runs) load_spelling (FitWords (addresses_of runs))
reads_words runs = record {
  takes = λ bytes x fits e. words_take runs bytes x fits e;
  again = λ ws rest fits. words_again runs ws rest fits;
}

pub reads_image : (ram : List Region) (runs : List Run) → Reads Words (image_at ram runs) load_spelling (λ ws. FitWords (addresses_of runs) ws × IsTrue (are_in ram ws))
unfolding image_at
reads_image ram runs = reads_where (are_in ram) (reads_words runs)
