-- The laws of groups of pieces: so many, a count and that many, and pieces that go on from one another.
use Rattle.std.proofs.Common.{◌≡◌, ℕ, zero, suc, ◌^◌, ◌<◌, ◌≤◌, true, cond, leb, List, [], ◌∷◌, ◌++◌, length, Some, None, refl, sym, ap, subst, ◌∙◌, append_assoc, arith}
use Rattle.std.specs.declared.option.Option.{Option}
use Rattle.std.specs.List.{flat_map, AllByRecursion}
use Rattle.std.proofs.lemmas.Bool.Decides.{nat_tests}
use Rattle.std.proofs.lemmas.Option.{same_Some}
use Rattle.byte_format.specs.Numbers.{word, counted, chained}
use Rattle.byte_format.specs.Internal.Readers.{◌>>=◌, word_at, times, counted_at, few_at, chain_at}
use Rattle.byte_format.proofs.Bytes.{IsBytes, bytes_rest, bind_some, where_true}
use Rattle.byte_format.proofs.Laws.{Reads, reads_word}

-- as many as a count can say, and each fits
pub record AreCountable (A : Type 0) (Fits : A → Type 0) (items : List A) : Type 0 where
  pub count : length items < 2 ^ 32
  pub each : AllByRecursion Fits items

times_take : {A : Type 0} {r : List ℕ → Option (A × List ℕ)} {s : A → List ℕ} {F : A → Type 0} → Reads A r s F → (n : ℕ) (bytes : List ℕ) (x : List A × List ℕ) → IsBytes bytes → times r n bytes ≡ Some x
    → (bytes ≡ flat_map s x.0 ++ x.1) × ((length x.0 ≡ n) × AllByRecursion F x.0)
unfolding times
times_take {A} {r} {s} {F} piece zero bytes x fits e =
    subst (λ (y : List A × List ℕ). (bytes ≡ flat_map s y.0 ++ y.1) × ((length y.0 ≡ 0) × AllByRecursion F y.0)) (same_Some ([], bytes) x e) (refl, (refl, tt))
times_take {A} {r} {s} {F} piece (suc n) bytes x fits e =
    let a = bind_some (r bytes) (λ x. times r n x.1 >>= λ y. Some (x.0 ∷ y.0, y.1)) x e in
    let b = bind_some (times r n a.0.1) (λ y. Some (a.0.0 ∷ y.0, y.1)) x a.2 in
    let m = piece.takes bytes a.0 fits a.1 in
    let k = times_take piece n a.0.1 b.0 (bytes_rest bytes (s a.0.0) a.0.1 fits m.0) b.1 in
    let whole : bytes ≡ (s a.0.0 ++ flat_map s b.0.0) ++ b.0.1 = m.0 ∙ ap (λ (z : List ℕ). s a.0.0 ++ z) k.0 ∙ sym (append_assoc (s a.0.0) (flat_map s b.0.0) b.0.1) in
    subst (λ (y : List A × List ℕ). (bytes ≡ flat_map s y.0 ++ y.1) × ((length y.0 ≡ suc n) × AllByRecursion F y.0)) (same_Some (a.0.0 ∷ b.0.0, b.0.1) x b.2) (whole, (ap suc k.1.0, (m.1, k.1.1)))

times_again : {A : Type 0} {r : List ℕ → Option (A × List ℕ)} {s : A → List ℕ} {F : A → Type 0} → Reads A r s F → (xs : List A) (rest : List ℕ) → AllByRecursion F xs → times r (length xs) (flat_map s xs ++ rest) ≡ Some (xs, rest)
unfolding times
times_again piece [] rest fits = refl
times_again {A} {r} {s} {F} piece (x ∷ xs) rest fits =
    ap (times r (suc (length xs))) (append_assoc (s x) (flat_map s xs) rest) ∙ rw (piece.again x (flat_map s xs ++ rest) fits.0, times_again piece xs rest fits.1) refl

pub reads_times : {A : Type 0} {r : List ℕ → Option (A × List ℕ)} {s : A → List ℕ} {F : A → Type 0} (n : ℕ)
    → Reads A r s F → Reads (List A) (times r n) (flat_map s) (λ xs. (length xs ≡ n) × AllByRecursion F xs)
reads_times {A} {r} {s} {F} n piece = record {
  takes = λ bytes x fits e. times_take piece n bytes x fits e;
  again = λ xs rest fits. subst (λ (k : ℕ). times r k (flat_map s xs ++ rest) ≡ Some (xs, rest)) fits.0 (times_again piece xs rest fits.1);
}

pub reads_counted : {A : Type 0} {r : List ℕ → Option (A × List ℕ)} {s : A → List ℕ} {F : A → Type 0}
    → Reads A r s F → Reads (List A) (counted_at r) (counted s) (AreCountable A F)
unfolding counted_at counted
reads_counted {A} {r} {s} {F} piece = record {
  takes = λ bytes x fits e.
      let a = bind_some (word_at bytes) (λ n. times r n.0 n.1) x e in
      let m = reads_word.takes bytes a.0 fits a.1 in
      let k = times_take piece a.0.0 a.0.1 x (bytes_rest bytes (word a.0.0) a.0.1 fits m.0) a.2 in
      (m.0 ∙ ap (λ (z : List ℕ). word a.0.0 ++ z) k.0 ∙ ap (λ (n : ℕ). word n ++ (flat_map s x.0 ++ x.1)) (sym k.1.0) ∙ sym (append_assoc (word (length x.0)) (flat_map s x.0) x.1), record { count = omega (arith, k.1.0, m.1); each = k.1.1 });
  again = λ xs rest fits.
      ap (λ (z : List ℕ). word_at z >>= λ n. times r n.0 n.1) (append_assoc (word (length xs)) (flat_map s xs) rest) ∙ rw (reads_word.again (length xs) (flat_map s xs ++ rest) fits.count) (times_again piece xs rest fits.each);
}

-- a count up to a limit, and that many items
pub reads_few : {A : Type 0} {r : List ℕ → Option (A × List ℕ)} {s : A → List ℕ} {F : A → Type 0} (limit : ℕ) → limit < 2 ^ 32
    → Reads A r s F → Reads (List A) (few_at limit r) (counted s) (λ xs. (length xs ≤ limit) × AllByRecursion F xs)
unfolding few_at counted
reads_few {A} {r} {s} {F} limit small piece = record {
  takes = λ bytes x fits e.
      let a = bind_some (word_at bytes) (λ n. cond (leb n.0 limit) (times r n.0 n.1) None) x e in
      let g = where_true (leb a.0.0 limit) (times r a.0.0 a.0.1) x a.2 in
      let m = reads_word.takes bytes a.0 fits a.1 in
      let k = times_take piece a.0.0 a.0.1 x (bytes_rest bytes (word a.0.0) a.0.1 fits m.0) g.1 in
      let few : a.0.0 ≤ limit = at_most a.0.0 limit g.0 in
      (m.0 ∙ ap (λ (z : List ℕ). word a.0.0 ++ z) k.0 ∙ ap (λ (n : ℕ). word n ++ (flat_map s x.0 ++ x.1)) (sym k.1.0) ∙ sym (append_assoc (word (length x.0)) (flat_map s x.0) x.1), (omega (arith, k.1.0, few), k.1.1));
  again = λ xs rest fits.
      let few : leb (length xs) limit ≡ true = is_at_most (length xs) limit fits.0 in
      ap (λ (z : List ℕ). word_at z >>= λ n. cond (leb n.0 limit) (times r n.0 n.1) None) (append_assoc (word (length xs)) (flat_map s xs) rest)
      ∙ rw (reads_word.again (length xs) (flat_map s xs ++ rest) (omega (arith, fits.0, small)), few) (times_again piece xs rest fits.1);
}
  where
    at_most : (n m : ℕ) → leb n m ≡ true → n ≤ m
    at_most n m h = grind (arith, nat_tests)

    is_at_most : (n m : ℕ) → n ≤ m → leb n m ≡ true
    is_at_most n m h = grind (arith, nat_tests)

-- ---- items that go on from one another

-- each fits where the ones before it lead
abbrev pub FitChain : {S A : Type 0} → (S → A → S) → (S → A → Type 0) → S → List A → Type 0
FitChain next Fits state [] = Unit {0}
FitChain next Fits state (x ∷ xs) = Fits state x × FitChain next Fits (next state x) xs

chain_take : {S A : Type 0} {r : S → List ℕ → Option (A × List ℕ)} {s : S → A → List ℕ} {F : S → A → Type 0} (next : S → A → S) → ((state : S) → Reads A (r state) (s state) (F state))
    → (n : ℕ) (state : S) (bytes : List ℕ) (x : List A × List ℕ) → IsBytes bytes → chain_at next r n state bytes ≡ Some x
    → (bytes ≡ chained next s state x.0 ++ x.1) × ((length x.0 ≡ n) × FitChain next F state x.0)
unfolding chain_at chained
chain_take {S} {A} {r} {s} {F} next piece zero state bytes x fits e =
    subst (λ (y : List A × List ℕ). (bytes ≡ chained next s state y.0 ++ y.1) × ((length y.0 ≡ 0) × FitChain next F state y.0)) (same_Some ([], bytes) x e) (refl, (refl, tt))
chain_take {S} {A} {r} {s} {F} next piece (suc n) state bytes x fits e =
    let a = bind_some (r state bytes) (λ x. chain_at next r n (next state x.0) x.1 >>= λ y. Some (x.0 ∷ y.0, y.1)) x e in
    let b = bind_some (chain_at next r n (next state a.0.0) a.0.1) (λ y. Some (a.0.0 ∷ y.0, y.1)) x a.2 in
    let m = (piece state).takes bytes a.0 fits a.1 in
    let k = chain_take next piece n (next state a.0.0) a.0.1 b.0 (bytes_rest bytes (s state a.0.0) a.0.1 fits m.0) b.1 in
    let others : List ℕ = chained next s (next state a.0.0) b.0.0 in
    let whole : bytes ≡ (s state a.0.0 ++ others) ++ b.0.1 = m.0 ∙ ap (λ (z : List ℕ). s state a.0.0 ++ z) k.0 ∙ sym (append_assoc (s state a.0.0) others b.0.1) in
    subst (λ (y : List A × List ℕ). (bytes ≡ chained next s state y.0 ++ y.1) × ((length y.0 ≡ suc n) × FitChain next F state y.0)) (same_Some (a.0.0 ∷ b.0.0, b.0.1) x b.2) (whole, (ap suc k.1.0, (m.1, k.1.1)))

chain_again : {S A : Type 0} {r : S → List ℕ → Option (A × List ℕ)} {s : S → A → List ℕ} {F : S → A → Type 0} (next : S → A → S) → ((state : S) → Reads A (r state) (s state) (F state))
    → (xs : List A) (state : S) (rest : List ℕ) → FitChain next F state xs → chain_at next r (length xs) state (chained next s state xs ++ rest) ≡ Some (xs, rest)
unfolding chain_at chained
chain_again next piece [] state rest fits = refl
chain_again {S} {A} {r} {s} {F} next piece (x ∷ xs) state rest fits =
    let others : List ℕ = chained next s (next state x) xs in
    ap (chain_at next r (suc (length xs)) state) (append_assoc (s state x) others rest)
    ∙ rw ((piece state).again x (others ++ rest) fits.0, chain_again next piece xs (next state x) rest fits.1) refl

-- so many items, each where the ones before it lead
pub reads_chain : {S A : Type 0} {r : S → List ℕ → Option (A × List ℕ)} {s : S → A → List ℕ} {F : S → A → Type 0} (next : S → A → S) (n : ℕ) (state : S)
    → ((state : S) → Reads A (r state) (s state) (F state)) → Reads (List A) (chain_at next r n state) (chained next s state) (λ xs. (length xs ≡ n) × FitChain next F state xs)
reads_chain {S} {A} {r} {s} {F} next n state piece = record {
  takes = λ bytes x fits e. chain_take next piece n state bytes x fits e;
  again = λ xs rest fits. subst (λ (k : ℕ). chain_at next r k state (chained next s state xs ++ rest) ≡ Some (xs, rest)) fits.0 (chain_again next piece xs state rest fits.1);
}
