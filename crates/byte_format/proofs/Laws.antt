-- Reading a piece and writing it undo each other: one law for each way to put pieces together.
use Rattle.std.proofs.Common.{◌≡◌, ℕ, ◌^◌, ◌<◌, ◌≤◌, Bool, true, false, cond, ltb, eqb, List, [], ◌∷◌, ◌++◌, length, take, drop, Some, None, refl, sym, ap, subst, ◌∙◌, append_assoc, arith}
use Rattle.std.specs.declared.option.Option.{Option}
use Rattle.std.specs.Prelude.{IsTrue, nat_eq}
use Rattle.std.specs.List.{starts_with}
use Rattle.std.specs.Int.{w8, w16, w32, from_le_bytes, to_le_bytes}
use Rattle.std.proofs.lemmas.Bool.{ltb-false, le-ltb, eqb-true}
use Rattle.std.proofs.lemmas.Bool.Decides.{Decides-eqb}
use Rattle.std.proofs.lemmas.Option.{cond_some, same_Some}
use Rattle.std.proofs.lemmas.Slice.Eq.{starts_is}
use Rattle.std.proofs.lemmas.List.{append-nil, nil_from_length, take_at, drop_at, take-append-drop, length-append, length-take}
use Rattle.std.proofs.lemmas.Nat.{le_bytes_2, le_bytes_4, from_le_bytes-to_le_bytes_2, from_le_bytes-to_le_bytes_4}
use Rattle.byte_format.specs.Numbers.{byte, half, word, padding}
use Rattle.byte_format.specs.Internal.Readers.{◌>>=◌, byte_at, half_at, word_at, skip, padded_at, both, then_at, behind, ahead, only_at, as_at, where_at, under, whole, within}
use Rattle.byte_format.proofs.Bytes.{IsBytes, bytes_rest, bytes_front, bind_some, unless_true}

-- what is read is written so, and what is written so is read, whatever follows
pub record Reads (A : Type 0) (read : List ℕ → Option (A × List ℕ)) (text : A → List ℕ) (Fits : A → Type 0) : Type 0 where
  pub takes : (bytes : List ℕ) (x : A × List ℕ) → IsBytes bytes → read bytes ≡ Some x → (bytes ≡ text x.0 ++ x.1) × Fits x.0
  pub again : (x : A) (rest : List ℕ) → Fits x → read (text x ++ rest) ≡ Some (x, rest)

-- ---- numbers

numbers : (size limit : ℕ) (from : List ℕ → ℕ) (to : ℕ → List ℕ)
    → ((n : ℕ) → length (to n) ≡ size) → ((bytes : List ℕ) → length bytes ≡ size → IsBytes bytes → to (from bytes) ≡ bytes)
    → ((n : ℕ) → n < limit → from (to n) ≡ n) → ((bytes : List ℕ) → IsBytes bytes → from bytes < limit)
    → Reads ℕ (λ bytes. cond (ltb (length bytes) size) None (Some (from (take size bytes), drop size bytes))) to (λ n. n < limit)
numbers size limit from to len back over below = record {
  takes = λ bytes x fits e.
      let h = unless_true (ltb (length bytes) size) (Some (from (take size bytes), drop size bytes)) x e in
      let same : (from (take size bytes), drop size bytes) ≡ x = same_Some _ _ h.1 in
      let long : size ≤ length bytes = ltb-false _ _ h.0 in
      let split : bytes ≡ take size bytes ++ drop size bytes = sym (take-append-drop size bytes) in
      let front : IsBytes (take size bytes) = bytes_front bytes (take size bytes) (drop size bytes) fits split in
      let text : to (from (take size bytes)) ≡ take size bytes = back (take size bytes) (omega (arith, length-take size bytes)) front in
      subst (λ (y : ℕ × List ℕ). (bytes ≡ to y.0 ++ y.1) × (y.0 < limit)) same (rw text split, below (take size bytes) front);
  again = λ x rest lt.
      let long : ltb (length (to x ++ rest)) size ≡ false = le-ltb _ _ (simp length-append (omega (arith, len x))) in
      rw (long, take_at (to x) rest size (len x), drop_at (to x) rest size (len x), over x lt) refl;
}

pub reads_word : Reads ℕ word_at word (λ n. n < 2 ^ 32)
unfolding word_at word
reads_word = numbers 4 (2 ^ 32) (from_le_bytes w32) (to_le_bytes w32) (λ n. refl) (λ bytes len fits. le_bytes_4 bytes _ len fits refl) (λ n lt. from_le_bytes-to_le_bytes_4 n lt) (λ bytes fits. omega (arith, fits 0, fits 1, fits 2, fits 3))

pub reads_half : Reads ℕ half_at half (λ n. n < 2 ^ 16)
unfolding half_at half
reads_half = numbers 2 (2 ^ 16) (from_le_bytes w16) (to_le_bytes w16) (λ n. refl) (λ bytes len fits. le_bytes_2 bytes _ len fits refl) (λ n lt. from_le_bytes-to_le_bytes_2 n lt) (λ bytes fits. omega (arith, fits 0, fits 1))

one_back : (bytes : List ℕ) → length bytes ≡ 1 → (from_le_bytes w8 bytes) ∷ [] ≡ bytes
one_back [] e = absurd (omega (arith, e))
one_back (b ∷ []) e = ap (λ (n : ℕ). n ∷ []) (omega arith)
one_back (b ∷ c ∷ bs) e = absurd (omega (arith, e))

pub reads_byte : Reads ℕ byte_at byte (λ n. n < 256)
unfolding byte_at byte
reads_byte = numbers 1 256 (from_le_bytes w8) (λ n. n ∷ []) (λ n. refl) (λ bytes len fits. one_back bytes len) (λ n lt. omega arith) (λ bytes fits. omega (arith, fits 0))

-- ---- literals

pub skip_takes : (text bytes rest : List ℕ) → skip text bytes ≡ Some rest → bytes ≡ text ++ rest
unfolding skip
skip_takes text bytes rest e =
    let g = cond_some (starts_with nat_eq bytes text) (drop (length text) bytes) rest e in
    let is = starts_is Decides-eqb bytes text (starts_with nat_eq bytes text) refl in
    is.0 g.0 ∙ ap (λ (r : List ℕ). text ++ r) g.1

pub skip_again : (text rest : List ℕ) → skip text (text ++ rest) ≡ Some rest
unfolding skip
skip_again text rest =
    let is = starts_is Decides-eqb (text ++ rest) text (starts_with nat_eq (text ++ rest) text) refl in
    rw (is.1 rest refl, drop_at text rest (length text) refl) refl

-- ---- pieces

pub reads_then : {A B : Type 0} {r : List ℕ → Option (A × List ℕ)} {s : A → List ℕ} {F : A → Type 0} {q : A → List ℕ → Option (B × List ℕ)} {t : A → B → List ℕ} {G : A → B → Type 0}
    → Reads A r s F → ((x : A) → Reads B (q x) (t x) (G x)) → Reads (A × B) (then_at r q) (λ p. s p.0 ++ t p.0 p.1) (λ p. F p.0 × G p.0 p.1)
reads_then {A} {B} {r} {s} {F} {q} {t} {G} first second = record {
  takes = λ bytes x fits e.
      let a = bind_some (r bytes) (λ x. q x.0 x.1 >>= λ y. Some ((x.0, y.0), y.1)) x e in
      let b = bind_some (q a.0.0 a.0.1) (λ y. Some ((a.0.0, y.0), y.1)) x a.2 in
      let m = first.takes bytes a.0 fits a.1 in
      let n = (second a.0.0).takes a.0.1 b.0 (bytes_rest bytes (s a.0.0) a.0.1 fits m.0) b.1 in
      let whole : bytes ≡ (s a.0.0 ++ t a.0.0 b.0.0) ++ b.0.1 = m.0 ∙ ap (λ (z : List ℕ). s a.0.0 ++ z) n.0 ∙ sym (append_assoc (s a.0.0) (t a.0.0 b.0.0) b.0.1) in
      subst (λ (y : (A × B) × List ℕ). (bytes ≡ (s y.0.0 ++ t y.0.0 y.0.1) ++ y.1) × (F y.0.0 × G y.0.0 y.0.1)) (same_Some _ _ b.2) (whole, (m.1, n.1));
  again = λ p rest fits.
      ap (then_at r q) (append_assoc (s p.0) (t p.0 p.1) rest) ∙ rw (first.again p.0 (t p.0 p.1 ++ rest) fits.0, (second p.0).again p.1 rest fits.1) refl;
}

pub reads_both : {A B : Type 0} {r : List ℕ → Option (A × List ℕ)} {s : A → List ℕ} {F : A → Type 0} {q : List ℕ → Option (B × List ℕ)} {t : B → List ℕ} {G : B → Type 0}
    → Reads A r s F → Reads B q t G → Reads (A × B) (both r q) (λ p. s p.0 ++ t p.1) (λ p. F p.0 × G p.1)
reads_both {A} {B} {r} {s} {F} {q} {t} {G} first second = reads_then {q = λ (x : A). q} {t = λ (x : A). t} {G = λ (x : A). G} first (λ x. second)

pub reads_behind : {A : Type 0} {r : List ℕ → Option (A × List ℕ)} {s : A → List ℕ} {F : A → Type 0} (text : List ℕ)
    → Reads A r s F → Reads A (behind text r) (λ x. text ++ s x) F
reads_behind {A} {r} {s} {F} text piece = record {
  takes = λ bytes x fits e.
      let a = bind_some (skip text bytes) (λ rest. r rest) x e in
      let front = skip_takes text bytes a.0 a.1 in
      let m = piece.takes a.0 x (bytes_rest bytes text a.0 fits front) a.2 in
      (front ∙ ap (λ (z : List ℕ). text ++ z) m.0 ∙ sym (append_assoc text (s x.0) x.1), m.1);
  again = λ x rest fits.
      ap (behind text r) (append_assoc text (s x) rest) ∙ rw (skip_again text (s x ++ rest)) (piece.again x rest fits);
}

pub reads_ahead : {A : Type 0} {r : List ℕ → Option (A × List ℕ)} {s : A → List ℕ} {F : A → Type 0} (text : A → List ℕ)
    → Reads A r s F → Reads A (ahead r text) (λ x. s x ++ text x) F
reads_ahead {A} {r} {s} {F} text piece = record {
  takes = λ bytes x fits e.
      let a = bind_some (r bytes) (λ x. skip (text x.0) x.1 >>= λ rest. Some (x.0, rest)) x e in
      let b = bind_some (skip (text a.0.0) a.0.1) (λ rest. Some (a.0.0, rest)) x a.2 in
      let m = piece.takes bytes a.0 fits a.1 in
      let whole : bytes ≡ (s a.0.0 ++ text a.0.0) ++ b.0 = m.0 ∙ ap (λ (z : List ℕ). s a.0.0 ++ z) (skip_takes (text a.0.0) a.0.1 b.0 b.1) ∙ sym (append_assoc (s a.0.0) (text a.0.0) b.0) in
      subst (λ (y : A × List ℕ). (bytes ≡ (s y.0 ++ text y.0) ++ y.1) × F y.0) (same_Some _ _ b.2) (whole, m.1);
  again = λ x rest fits.
      ap (ahead r text) (append_assoc (s x) (text x) rest) ∙ rw (piece.again x (text x ++ rest) fits, skip_again (text x) rest) refl;
}

-- a value that stands for another
pub reads_as : {A B : Type 0} {r : List ℕ → Option (A × List ℕ)} {s : A → List ℕ} {F : A → Type 0} (to : A → Option B) (from : B → A) (G : B → Type 0)
    → ((x : A) (y : B) → F x → to x ≡ Some y → (from y ≡ x) × G y) → ((y : B) → G y → (to (from y) ≡ Some y) × F (from y))
    → Reads A r s F → Reads B (as_at to r) (λ y. s (from y)) G
reads_as {A} {B} {r} {s} {F} to from G forth back piece = record {
  takes = λ bytes x fits e.
      let a = bind_some (r bytes) (λ x. to x.0 >>= λ y. Some (y, x.1)) x e in
      let b = bind_some (to a.0.0) (λ y. Some (y, a.0.1)) x a.2 in
      let m = piece.takes bytes a.0 fits a.1 in
      let f = forth a.0.0 b.0 m.1 b.1 in
      let whole : bytes ≡ s (from b.0) ++ a.0.1 = m.0 ∙ ap (λ (z : A). s z ++ a.0.1) (sym f.0) in
      subst (λ (y : B × List ℕ). (bytes ≡ s (from y.0) ++ y.1) × G y.0) (same_Some _ _ b.2) (whole, f.1);
  again = λ y rest fits.
      let f = back y fits in
      rw (piece.again (from y) rest f.1, f.0) refl;
}

pub reads_where : {A : Type 0} {r : List ℕ → Option (A × List ℕ)} {s : A → List ℕ} {F : A → Type 0} (test : A → Bool)
    → Reads A r s F → Reads A (where_at test r) s (λ x. F x × IsTrue (test x))
reads_where {A} {r} {s} {F} test piece = record {
  takes = λ bytes x fits e.
      let a = bind_some (r bytes) (λ x. cond (test x.0) (Some x) None) x e in
      let g = cond_some (test a.0.0) a.0 x a.2 in
      let m = piece.takes bytes a.0 fits a.1 in
      subst (λ (y : A × List ℕ). (bytes ≡ s y.0 ++ y.1) × (F y.0 × IsTrue (test y.0))) g.1 (m.0, (m.1, g.0));
  again = λ x rest fits. rw (piece.again x rest fits.0, fits.1) refl;
}

-- the same condition in other words
pub reads_fits : {A : Type 0} {r : List ℕ → Option (A × List ℕ)} {s : A → List ℕ} {F : A → Type 0} (G : A → Type 0)
    → ((x : A) → F x → G x) → ((x : A) → G x → F x) → Reads A r s F → Reads A r s G
reads_fits G forth back piece = record {
  takes = λ bytes x fits e. let m = piece.takes bytes x fits e in (m.0, forth x.0 m.1);
  again = λ x rest fits. piece.again x rest (back x fits);
}

-- the same text in other words
pub reads_text : {A : Type 0} {r : List ℕ → Option (A × List ℕ)} {s : A → List ℕ} {F : A → Type 0} (t : A → List ℕ)
    → ((x : A) → s x ≡ t x) → Reads A r s F → Reads A r t F
reads_text {A} {r} {s} {F} t same piece = record {
  takes = λ bytes x fits e. let m = piece.takes bytes x fits e in (m.0 ∙ ap (λ (z : List ℕ). z ++ x.1) (same x.0), m.1);
  again = λ x rest fits. ap (λ (z : List ℕ). r (z ++ rest)) (sym (same x)) ∙ piece.again x rest fits;
}

-- so many bytes, and their padding
pub reads_padded : (size : ℕ) → Reads (List ℕ) (padded_at size) (λ bytes. bytes ++ padding size) (λ bytes. length bytes ≡ size)
unfolding padded_at
reads_padded n = record {
  takes = λ bytes x fits e.
      let g = unless_true (ltb (length bytes) n) (skip (padding n) (drop n bytes) >>= λ rest. Some (take n bytes, rest)) x e in
      let long : n ≤ length bytes = ltb-false _ _ g.0 in
      let a = bind_some (skip (padding n) (drop n bytes)) (λ rest. Some (take n bytes, rest)) x g.1 in
      let pad = skip_takes (padding n) (drop n bytes) a.0 a.1 in
      let split : bytes ≡ (take n bytes ++ padding n) ++ a.0 = sym (take-append-drop n bytes) ∙ ap (λ (z : List ℕ). take n bytes ++ z) pad ∙ sym (append_assoc (take n bytes) (padding n) a.0) in
      subst (λ (y : List ℕ × List ℕ). (bytes ≡ (y.0 ++ padding n) ++ y.1) × (length y.0 ≡ n)) (same_Some _ _ a.2) (split, omega (arith, length-take n bytes));
  again = λ d rest len.
      let long : ltb (length (d ++ (padding n ++ rest))) n ≡ false = le-ltb _ _ (simp length-append (omega (arith, len))) in
      ap (padded_at n) (append_assoc d (padding n) rest) ∙ rw (long, take_at d (padding n ++ rest) n len, drop_at d (padding n ++ rest) n len, skip_again (padding n) rest) refl;
}

-- a literal and nothing else
pub reads_only : (literal : List ℕ) → Reads (Unit {0}) (only_at literal) (λ x. literal) (λ x. Unit {0})
reads_only literal = record {
  takes = λ bytes x fits e.
      let a = bind_some (skip literal bytes) (λ rest. Some (tt, rest)) x e in
      let text = skip_takes literal bytes a.0 a.1 in
      subst (λ (y : Unit {0} × List ℕ). (bytes ≡ literal ++ y.1) × Unit {0}) (same_Some (tt, a.0) x a.2) (text, tt);
  again = λ x rest fits. rw (skip_again literal rest) refl;
}

-- a piece that stands only under a condition
pub reads_under : {A : Type 0} {r : List ℕ → Option (A × List ℕ)} {s : A → List ℕ} {F : A → Type 0} (condition : Bool)
    → Reads A r s F → Reads A (under condition r) s (λ x. F x × IsTrue condition)
reads_under true piece = record {
  takes = λ bytes x fits e. let m = piece.takes bytes x fits e in (m.0, (m.1, refl));
  again = λ x rest fits. piece.again x rest fits.0;
}
reads_under false piece = record {
  takes = λ bytes x fits e. absurd cc;
  again = λ x rest fits. absurd (no fits.1);
}
  where
    no : false ≡ true → ⊥
    no e = cc

-- ---- all of the bytes

pub whole_takes : {A : Type 0} {r : List ℕ → Option (A × List ℕ)} {s : A → List ℕ} {F : A → Type 0} → Reads A r s F → (bytes : List ℕ) (x : A) → IsBytes bytes → whole r bytes ≡ Some x → (bytes ≡ s x) × F x
whole_takes {A} {r} {s} {F} piece bytes x fits e =
    let a = bind_some (r bytes) (λ x. cond (eqb (length x.1) 0) (Some x.0) None) x e in
    let g = cond_some (eqb (length a.0.1) 0) a.0.0 x a.2 in
    let m = piece.takes bytes a.0 fits a.1 in
    let nothing : a.0.1 ≡ [] = nil_from_length a.0.1 (eqb-true _ _ g.0) in
    subst (λ (y : A). (bytes ≡ s y) × F y) g.1 (m.0 ∙ ap (λ (z : List ℕ). s a.0.0 ++ z) nothing ∙ append-nil (s a.0.0), m.1)

pub whole_again : {A : Type 0} {r : List ℕ → Option (A × List ℕ)} {s : A → List ℕ} {F : A → Type 0} → Reads A r s F → (x : A) → F x → whole r (s x) ≡ Some x
whole_again {A} {r} {s} {F} piece x fits =
    ap (whole r) (sym (append-nil (s x))) ∙ rw (piece.again x [] fits) refl

pub reads_within : {A : Type 0} {r : List ℕ → Option (A × List ℕ)} {s : A → List ℕ} {F : A → Type 0} (size : ℕ) → Reads A r s F → Reads A (within size r) s (λ x. F x × (length (s x) ≡ size))
reads_within {A} {r} {s} {F} size piece = record {
  takes = λ bytes x fits e.
      let g = unless_true (ltb (length bytes) size) (whole r (take size bytes) >>= λ x. Some (x, drop size bytes)) x e in
      let long : size ≤ length bytes = ltb-false _ _ g.0 in
      let a = bind_some (whole r (take size bytes)) (λ x. Some (x, drop size bytes)) x g.1 in
      let split : bytes ≡ take size bytes ++ drop size bytes = sym (take-append-drop size bytes) in
      let m = whole_takes piece (take size bytes) a.0 (bytes_front bytes (take size bytes) (drop size bytes) fits split) a.1 in
      let len : length (s a.0) ≡ size = ap length (sym m.0) ∙ omega (arith, length-take size bytes) in
      subst (λ (y : A × List ℕ). (bytes ≡ s y.0 ++ y.1) × (F y.0 × (length (s y.0) ≡ size))) (same_Some _ _ a.2) (split ∙ ap (λ (z : List ℕ). z ++ drop size bytes) m.0, (m.1, len));
  again = λ x rest fits.
      let long : ltb (length (s x ++ rest)) size ≡ false = le-ltb _ _ (simp length-append (omega (arith, fits.1))) in
      rw (long, take_at (s x) rest size fits.1, drop_at (s x) rest size fits.1, whole_again piece x fits.0) refl;
}
