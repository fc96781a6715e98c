-- The words of which a word with a pattern comes.
use Rattle.std.proofs.Common.{◌||◌, ⊎_elim, nat_eq, List, [], ◌∷◌, ◌++◌, ◌≡◌, ◌==◌, ℕ, ◌-◌, ◌<◌, ◌^◌, min, max, Bool, true, false, bit_and, bit_or, Option, Some, None, IsTrue, refl, sym, ap, ◌∙◌, subst, inl, inr, arith, eqb-true, eq-eqb}
use Rattle.std.specs.Prelude.{◌↔◌}
use Rattle.std.proofs.lemmas.Bool.{cases_eq}
use Rattle.std.proofs.lemmas.Bool.Decides.{nat_tests}
use Rattle.std.proofs.lemmas.List.Folds.{list_any-append}
use Rattle.std.proofs.lemmas.Nat.{and_le_l, or_lt}
use Rattle.std.proofs.lemmas.Nat.Bits.{bit_at_and, bit_at_or, bit_at_not, bit_at-zero, bit_at-lt, same_from_bits_below}
use Rattle.std.specs.Int.{bit_at, w32}
use Rattle.dom_set.specs.Elements.{elements_of, is_in, is_matching}
use Rattle.dom_set.specs.Laws.{ElementsPass, IsInTests}
use Rattle.rv_csr.specs.Table.{is_legal_at}
use Rattle.word_sets.specs.declared.sources.Made.{Made}
use Rattle.word_sets.specs.declared.sources.Made.TheVariants.{Itself, With, Without, From}
use Rattle.word_sets.specs.Internal.Sources.{CanBe, ComesOf, IsLegalSource, best, is_sourced, made}
use Rattle.word_sets.proofs.Legality.{whole}
use Rattle.set_sums.proofs.Members.{is_in-elements_of, same}
use Rattle.set_sums.proofs.Spans.{either, first_of_two, second_of_two}

-- one bit of a word, of the other, of a mask and of what is under it
with_agrees : (v o m b : ℕ) → v < 2 → o < 2 → m < 2 → b < 2 → min (max v o) m ≡ b → max (min b (1 - m)) (min (min m o) (1 - b)) ≡ 0
with_agrees v o m b lv lo lm lb h = omega arith

with_there : (v o m b : ℕ) → v < 2 → o < 2 → m < 2 → b < 2 → min (max v o) m ≡ b → min v (min m (1 - o)) ≡ min b (1 - o)
with_there v o m b lv lo lm lb h = omega arith

with_back : (v o m b : ℕ) → v < 2 → o < 2 → m < 2 → b < 2 → max (min b (1 - m)) (min (min m o) (1 - b)) ≡ 0 → min v (min m (1 - o)) ≡ min b (1 - o) → min (max v o) m ≡ b
with_back v o m b lv lo lm lb k h = omega arith

without_agrees : (v o m b : ℕ) → v < 2 → o < 2 → m < 2 → b < 2 → min (min v (1 - o)) m ≡ b → max (min b (1 - m)) (min b o) ≡ 0
without_agrees v o m b lv lo lm lb h = omega arith

without_there : (v o m b : ℕ) → v < 2 → o < 2 → m < 2 → b < 2 → min (min v (1 - o)) m ≡ b → min v (min m (1 - o)) ≡ b
without_there v o m b lv lo lm lb h = omega arith

without_back : (v o m b : ℕ) → v < 2 → o < 2 → m < 2 → b < 2 → min v (min m (1 - o)) ≡ b → min (min v (1 - o)) m ≡ b
without_back v o m b lv lo lm lb h = omega arith

from_agrees : (v o m b : ℕ) → v < 2 → o < 2 → m < 2 → b < 2 → min (min o (1 - v)) m ≡ b → max (min b (1 - m)) (min b (1 - o)) ≡ 0
from_agrees v o m b lv lo lm lb h = omega arith

from_there : (v o m b : ℕ) → v < 2 → o < 2 → m < 2 → b < 2 → min (min o (1 - v)) m ≡ b → min v (min m o) ≡ min (min m o) (1 - b)
from_there v o m b lv lo lm lb h = omega arith

from_back : (v o m b : ℕ) → v < 2 → o < 2 → m < 2 → b < 2 → max (min b (1 - m)) (min b (1 - o)) ≡ 0 → min v (min m o) ≡ min (min m o) (1 - b) → min (min o (1 - v)) m ≡ b
from_back v o m b lv lo lm lb k h = omega arith

-- with the best other word the same comes
with_best : (v o m b : ℕ) → v < 2 → o < 2 → m < 2 → b < 2 → min (max v o) m ≡ b → min (max v b) m ≡ b
with_best v o m b lv lo lm lb h = omega arith

without_best : (v o m b : ℕ) → v < 2 → o < 2 → m < 2 → b < 2 → min (min v (1 - o)) m ≡ b → min (min v (1 - (1 - b))) m ≡ b
without_best v o m b lv lo lm lb h = omega arith

from_best : (v o m b : ℕ) → v < 2 → o < 2 → m < 2 → b < 2 → min (min o (1 - v)) m ≡ b → min (min b (1 - v)) m ≡ b
from_best v o m b lv lo lm lb h = omega arith

below : (n : ℕ) → 2 ^ 32 - 1 - n < 2 ^ 32
below n = omega arith

and_below : (a b : ℕ) → a < 2 ^ 32 → bit_and a b < 2 ^ 32
and_below a b la = omega (arith, and_le_l a b)

not_bit : (n i : ℕ) → n < 2 ^ 32 → i < 32 → bit_at (2 ^ 32 - 1 - n) i ≡ 1 - bit_at n i
not_bit n i small li = bit_at_not w32 n i small li

-- with an answer that is the pattern where nothing is in conflict
sourced : (conflict v written bits : ℕ) (p : ℕ × ℕ) (result : Option (ℕ × ℕ)) → (conflict ≡ 0 → result ≡ Some p) → ((conflict ≡ 0 → ⊥) → result ≡ None) → (written ≡ bits → conflict ≡ 0) → (conflict ≡ 0 → written ≡ bits → bit_and v p.0 ≡ p.1) → (conflict ≡ 0 → bit_and v p.0 ≡ p.1 → written ≡ bits) → is_sourced result v ≡ (written == bits)
sourced conflict v written bits p result clear conflicting agrees there back = elim (cases_eq conflict 0) [
  | inl none ↦ ap (λ (o : Option (ℕ × ℕ)). is_sourced o v) (clear none) ∙ same (bit_and v p.0 == p.1) (written == bits) (λ h. eq-eqb written bits (back none (eqb-true (bit_and v p.0) p.1 h))) (λ h. eq-eqb (bit_and v p.0) p.1 (there none (eqb-true written bits h)))
  | inr some ↦ ap (λ (o : Option (ℕ × ℕ)). is_sourced o v) (conflicting some) ∙ same false (written == bits) (λ h. absurd (cc h)) (λ h. absurd (some (agrees (eqb-true written bits h))))
]

module _ (v o m b : ℕ) (lv : v < 2 ^ 32) (lo : o < 2 ^ 32) (lm : m < 2 ^ 32) (lb : b < 2 ^ 32) where
  with_written : (i : ℕ) → i < 32 → bit_at (bit_and (bit_or v o) m) i ≡ min (max (bit_at v i) (bit_at o i)) (bit_at m i)
  with_written i li = simp (bit_at_and, bit_at_or)

  with_conflict : (i : ℕ) → i < 32 → bit_at (bit_or (bit_and b (2 ^ 32 - 1 - m)) (bit_and (bit_and m o) (2 ^ 32 - 1 - b))) i ≡ max (min (bit_at b i) (1 - bit_at m i)) (min (min (bit_at m i) (bit_at o i)) (1 - bit_at b i))
  with_conflict i li = simp (bit_at_and, bit_at_or, not_bit m i lm li, not_bit b i lb li)

  with_kept : (i : ℕ) → i < 32 → bit_at (bit_and v (bit_and m (2 ^ 32 - 1 - o))) i ≡ min (bit_at v i) (min (bit_at m i) (1 - bit_at o i))
  with_kept i li = simp (bit_at_and, not_bit o i lo li)

  with_wanted : (i : ℕ) → i < 32 → bit_at (bit_and b (2 ^ 32 - 1 - o)) i ≡ min (bit_at b i) (1 - bit_at o i)
  with_wanted i li = simp (bit_at_and, not_bit o i lo li)

  pub with_source : (result : Option (ℕ × ℕ)) → (bit_or (bit_and b (2 ^ 32 - 1 - m)) (bit_and (bit_and m o) (2 ^ 32 - 1 - b)) ≡ 0 → result ≡ Some (bit_and m (2 ^ 32 - 1 - o), bit_and b (2 ^ 32 - 1 - o))) → ((bit_or (bit_and b (2 ^ 32 - 1 - m)) (bit_and (bit_and m o) (2 ^ 32 - 1 - b)) ≡ 0 → ⊥) → result ≡ None) → is_sourced result v ≡ (bit_and (bit_or v o) m == b)
  with_source result clear conflicting = sourced (bit_or (bit_and b (2 ^ 32 - 1 - m)) (bit_and (bit_and m o) (2 ^ 32 - 1 - b))) v (bit_and (bit_or v o) m) b (bit_and m (2 ^ 32 - 1 - o), bit_and b (2 ^ 32 - 1 - o)) result clear conflicting
      (λ e. same_from_bits_below 32 (bit_or (bit_and b (2 ^ 32 - 1 - m)) (bit_and (bit_and m o) (2 ^ 32 - 1 - b))) 0 (or_lt 32 _ _ (and_below b (2 ^ 32 - 1 - m) lb) (and_below (bit_and m o) (2 ^ 32 - 1 - b) (and_below m o lm))) (omega arith) (λ i li. with_conflict i li ∙ with_agrees (bit_at v i) (bit_at o i) (bit_at m i) (bit_at b i) (bit_at-lt v i) (bit_at-lt o i) (bit_at-lt m i) (bit_at-lt b i) (sym (with_written i li) ∙ ap (λ (n : ℕ). bit_at n i) e) ∙ sym (bit_at-zero i)))
      (λ none e. same_from_bits_below 32 (bit_and v (bit_and m (2 ^ 32 - 1 - o))) (bit_and b (2 ^ 32 - 1 - o)) (and_below v (bit_and m (2 ^ 32 - 1 - o)) lv) (and_below b (2 ^ 32 - 1 - o) lb) (λ i li. with_kept i li ∙ with_there (bit_at v i) (bit_at o i) (bit_at m i) (bit_at b i) (bit_at-lt v i) (bit_at-lt o i) (bit_at-lt m i) (bit_at-lt b i) (sym (with_written i li) ∙ ap (λ (n : ℕ). bit_at n i) e) ∙ sym (with_wanted i li)))
      (λ none e. same_from_bits_below 32 (bit_and (bit_or v o) m) b (and_below (bit_or v o) m (or_lt 32 v o lv lo)) lb (λ i li. with_written i li ∙ with_back (bit_at v i) (bit_at o i) (bit_at m i) (bit_at b i) (bit_at-lt v i) (bit_at-lt o i) (bit_at-lt m i) (bit_at-lt b i) (sym (with_conflict i li) ∙ ap (λ (n : ℕ). bit_at n i) none ∙ bit_at-zero i) (sym (with_kept i li) ∙ ap (λ (n : ℕ). bit_at n i) e ∙ with_wanted i li)))

  without_written : (i : ℕ) → i < 32 → bit_at (bit_and (bit_and v (2 ^ 32 - 1 - o)) m) i ≡ min (min (bit_at v i) (1 - bit_at o i)) (bit_at m i)
  without_written i li = simp (bit_at_and, not_bit o i lo li)

  without_conflict : (i : ℕ) → i < 32 → bit_at (bit_or (bit_and b (2 ^ 32 - 1 - m)) (bit_and b o)) i ≡ max (min (bit_at b i) (1 - bit_at m i)) (min (bit_at b i) (bit_at o i))
  without_conflict i li = simp (bit_at_and, bit_at_or, not_bit m i lm li)

  without_kept : (i : ℕ) → i < 32 → bit_at (bit_and v (bit_and m (2 ^ 32 - 1 - o))) i ≡ min (bit_at v i) (min (bit_at m i) (1 - bit_at o i))
  without_kept i li = simp (bit_at_and, not_bit o i lo li)

  without_wanted : (i : ℕ) → i < 32 → bit_at (b) i ≡ bit_at b i
  without_wanted i li = refl

  pub without_source : (result : Option (ℕ × ℕ)) → (bit_or (bit_and b (2 ^ 32 - 1 - m)) (bit_and b o) ≡ 0 → result ≡ Some (bit_and m (2 ^ 32 - 1 - o), b)) → ((bit_or (bit_and b (2 ^ 32 - 1 - m)) (bit_and b o) ≡ 0 → ⊥) → result ≡ None) → is_sourced result v ≡ (bit_and (bit_and v (2 ^ 32 - 1 - o)) m == b)
  without_source result clear conflicting = sourced (bit_or (bit_and b (2 ^ 32 - 1 - m)) (bit_and b o)) v (bit_and (bit_and v (2 ^ 32 - 1 - o)) m) b (bit_and m (2 ^ 32 - 1 - o), b) result clear conflicting
      (λ e. same_from_bits_below 32 (bit_or (bit_and b (2 ^ 32 - 1 - m)) (bit_and b o)) 0 (or_lt 32 _ _ (and_below b (2 ^ 32 - 1 - m) lb) (and_below b o lb)) (omega arith) (λ i li. without_conflict i li ∙ without_agrees (bit_at v i) (bit_at o i) (bit_at m i) (bit_at b i) (bit_at-lt v i) (bit_at-lt o i) (bit_at-lt m i) (bit_at-lt b i) (sym (without_written i li) ∙ ap (λ (n : ℕ). bit_at n i) e) ∙ sym (bit_at-zero i)))
      (λ none e. same_from_bits_below 32 (bit_and v (bit_and m (2 ^ 32 - 1 - o))) (b) (and_below v (bit_and m (2 ^ 32 - 1 - o)) lv) (lb) (λ i li. without_kept i li ∙ without_there (bit_at v i) (bit_at o i) (bit_at m i) (bit_at b i) (bit_at-lt v i) (bit_at-lt o i) (bit_at-lt m i) (bit_at-lt b i) (sym (without_written i li) ∙ ap (λ (n : ℕ). bit_at n i) e) ∙ sym (without_wanted i li)))
      (λ none e. same_from_bits_below 32 (bit_and (bit_and v (2 ^ 32 - 1 - o)) m) b (and_below (bit_and v (2 ^ 32 - 1 - o)) m (and_below v (2 ^ 32 - 1 - o) lv)) lb (λ i li. without_written i li ∙ without_back (bit_at v i) (bit_at o i) (bit_at m i) (bit_at b i) (bit_at-lt v i) (bit_at-lt o i) (bit_at-lt m i) (bit_at-lt b i) (sym (without_kept i li) ∙ ap (λ (n : ℕ). bit_at n i) e ∙ without_wanted i li)))

  from_written : (i : ℕ) → i < 32 → bit_at (bit_and (bit_and o (2 ^ 32 - 1 - v)) m) i ≡ min (min (bit_at o i) (1 - bit_at v i)) (bit_at m i)
  from_written i li = simp (bit_at_and, not_bit v i lv li)

  from_conflict : (i : ℕ) → i < 32 → bit_at (bit_or (bit_and b (2 ^ 32 - 1 - m)) (bit_and b (2 ^ 32 - 1 - o))) i ≡ max (min (bit_at b i) (1 - bit_at m i)) (min (bit_at b i) (1 - bit_at o i))
  from_conflict i li = simp (bit_at_and, bit_at_or, not_bit o i lo li, not_bit m i lm li)

  from_kept : (i : ℕ) → i < 32 → bit_at (bit_and v (bit_and m o)) i ≡ min (bit_at v i) (min (bit_at m i) (bit_at o i))
  from_kept i li = simp bit_at_and

  from_wanted : (i : ℕ) → i < 32 → bit_at (bit_and (bit_and m o) (2 ^ 32 - 1 - b)) i ≡ min (min (bit_at m i) (bit_at o i)) (1 - bit_at b i)
  from_wanted i li = simp (bit_at_and, not_bit b i lb li)

  pub from_source : (result : Option (ℕ × ℕ)) → (bit_or (bit_and b (2 ^ 32 - 1 - m)) (bit_and b (2 ^ 32 - 1 - o)) ≡ 0 → result ≡ Some (bit_and m o, bit_and (bit_and m o) (2 ^ 32 - 1 - b))) → ((bit_or (bit_and b (2 ^ 32 - 1 - m)) (bit_and b (2 ^ 32 - 1 - o)) ≡ 0 → ⊥) → result ≡ None) → is_sourced result v ≡ (bit_and (bit_and o (2 ^ 32 - 1 - v)) m == b)
  from_source result clear conflicting = sourced (bit_or (bit_and b (2 ^ 32 - 1 - m)) (bit_and b (2 ^ 32 - 1 - o))) v (bit_and (bit_and o (2 ^ 32 - 1 - v)) m) b (bit_and m o, bit_and (bit_and m o) (2 ^ 32 - 1 - b)) result clear conflicting
      (λ e. same_from_bits_below 32 (bit_or (bit_and b (2 ^ 32 - 1 - m)) (bit_and b (2 ^ 32 - 1 - o))) 0 (or_lt 32 _ _ (and_below b (2 ^ 32 - 1 - m) lb) (and_below b (2 ^ 32 - 1 - o) lb)) (omega arith) (λ i li. from_conflict i li ∙ from_agrees (bit_at v i) (bit_at o i) (bit_at m i) (bit_at b i) (bit_at-lt v i) (bit_at-lt o i) (bit_at-lt m i) (bit_at-lt b i) (sym (from_written i li) ∙ ap (λ (n : ℕ). bit_at n i) e) ∙ sym (bit_at-zero i)))
      (λ none e. same_from_bits_below 32 (bit_and v (bit_and m o)) (bit_and (bit_and m o) (2 ^ 32 - 1 - b)) (and_below v (bit_and m o) lv) (and_below (bit_and m o) (2 ^ 32 - 1 - b) (and_below m o lm)) (λ i li. from_kept i li ∙ from_there (bit_at v i) (bit_at o i) (bit_at m i) (bit_at b i) (bit_at-lt v i) (bit_at-lt o i) (bit_at-lt m i) (bit_at-lt b i) (sym (from_written i li) ∙ ap (λ (n : ℕ). bit_at n i) e) ∙ sym (from_wanted i li)))
      (λ none e. same_from_bits_below 32 (bit_and (bit_and o (2 ^ 32 - 1 - v)) m) b (and_below (bit_and o (2 ^ 32 - 1 - v)) m (and_below o (2 ^ 32 - 1 - v) lo)) lb (λ i li. from_written i li ∙ from_back (bit_at v i) (bit_at o i) (bit_at m i) (bit_at b i) (bit_at-lt v i) (bit_at-lt o i) (bit_at-lt m i) (bit_at-lt b i) (sym (from_conflict i li) ∙ ap (λ (n : ℕ). bit_at n i) none ∙ bit_at-zero i) (sym (from_kept i li) ∙ ap (λ (n : ℕ). bit_at n i) e ∙ from_wanted i li)))

  with_best_written : (i : ℕ) → i < 32 → bit_at (bit_and (bit_or v b) m) i ≡ min (max (bit_at v i) (bit_at b i)) (bit_at m i)
  with_best_written i li = simp (bit_at_and, bit_at_or)

  with_by_best : bit_and (bit_or v o) m ≡ b → bit_and (bit_or v b) m ≡ b
  with_by_best e = same_from_bits_below 32 (bit_and (bit_or v b) m) b (and_below (bit_or v b) m (or_lt 32 v b lv lb)) lb (λ i li. with_best_written i li ∙ with_best (bit_at v i) (bit_at o i) (bit_at m i) (bit_at b i) (bit_at-lt v i) (bit_at-lt o i) (bit_at-lt m i) (bit_at-lt b i) (sym (with_written i li) ∙ ap (λ (n : ℕ). bit_at n i) e))

  without_best_written : (i : ℕ) → i < 32 → bit_at (bit_and (bit_and v (2 ^ 32 - 1 - (2 ^ 32 - 1 - b))) m) i ≡ min (min (bit_at v i) (1 - (1 - bit_at b i))) (bit_at m i)
  without_best_written i li = simp (bit_at_and, not_bit (2 ^ 32 - 1 - b) i (below b) li, not_bit b i lb li)

  without_by_best : bit_and (bit_and v (2 ^ 32 - 1 - o)) m ≡ b → bit_and (bit_and v (2 ^ 32 - 1 - (2 ^ 32 - 1 - b))) m ≡ b
  without_by_best e = same_from_bits_below 32 (bit_and (bit_and v (2 ^ 32 - 1 - (2 ^ 32 - 1 - b))) m) b (and_below (bit_and v (2 ^ 32 - 1 - (2 ^ 32 - 1 - b))) m (and_below v (2 ^ 32 - 1 - (2 ^ 32 - 1 - b)) lv)) lb (λ i li. without_best_written i li ∙ without_best (bit_at v i) (bit_at o i) (bit_at m i) (bit_at b i) (bit_at-lt v i) (bit_at-lt o i) (bit_at-lt m i) (bit_at-lt b i) (sym (without_written i li) ∙ ap (λ (n : ℕ). bit_at n i) e))

  from_best_written : (i : ℕ) → i < 32 → bit_at (bit_and (bit_and b (2 ^ 32 - 1 - v)) m) i ≡ min (min (bit_at b i) (1 - bit_at v i)) (bit_at m i)
  from_best_written i li = simp (bit_at_and, not_bit v i lv li)

  from_by_best : bit_and (bit_and o (2 ^ 32 - 1 - v)) m ≡ b → bit_and (bit_and b (2 ^ 32 - 1 - v)) m ≡ b
  from_by_best e = same_from_bits_below 32 (bit_and (bit_and b (2 ^ 32 - 1 - v)) m) b (and_below (bit_and b (2 ^ 32 - 1 - v)) m (and_below b (2 ^ 32 - 1 - v) lb)) lb (λ i li. from_best_written i li ∙ from_best (bit_at v i) (bit_at o i) (bit_at m i) (bit_at b i) (bit_at-lt v i) (bit_at-lt o i) (bit_at-lt m i) (bit_at-lt b i) (sym (from_written i li) ∙ ap (λ (n : ℕ). bit_at n i) e))

-- with the best other word the same comes of the open one as with any
best_comes : (how : Made) (v o m b : ℕ) → v < 2 ^ 32 → o < 2 ^ 32 → m < 2 ^ 32 → b < 2 ^ 32 → bit_and (made how v o) m ≡ b → bit_and (made how v (best how b)) m ≡ b
best_comes Itself v o m b lv lo lm lb h = h
best_comes With v o m b lv lo lm lb h = with_by_best v o m b lv lo lm lb h
best_comes Without v o m b lv lo lm lb h = without_by_best v o m b lv lo lm lb h
best_comes From v o m b lv lo lm lb h = from_by_best v o m b lv lo lm lb h

pub some_source : (how : Made) (v m b w : ℕ) (known : Option ℕ) (result : Option (ℕ × ℕ)) → known ≡ None → v < 2 ^ 32 → m < 2 ^ 32 → b < 2 ^ 32 → w < 2 ^ 32 → w ≡ best how b → is_sourced result v ≡ (bit_and (made how v w) m == b) → IsTrue (is_sourced result v) ↔ ComesOf how known (λ n. bit_and n m == b) v
some_source how v m b w known result none lv lm lb lw is tests = (
  (λ h. (w, lw, subst (λ (o : Option ℕ). CanBe o w) (sym none) tt, sym tests ∙ h)),
  (λ (o, lo, can, h). tests ∙ ap (λ (n : ℕ). bit_and (made how v n) m == b) is ∙ eq-eqb (bit_and (made how v (best how b)) m) b (best_comes how v o m b lv lo lm lb (eqb-true (bit_and (made how v o) m) b h))),
)

pub known_source : (how : Made) (v m b w : ℕ) (known : Option ℕ) (result : Option (ℕ × ℕ)) → known ≡ Some w → w < 2 ^ 32 → is_sourced result v ≡ (bit_and (made how v w) m == b) → IsTrue (is_sourced result v) ↔ ComesOf how known (λ n. bit_and n m == b) v
known_source how v m b w known result some lw tests = (
  (λ h. (w, lw, subst (λ (o : Option ℕ). CanBe o w) (sym some) refl, sym tests ∙ h)),
  (λ (o, lo, can, h). tests ∙ subst (λ (n : ℕ). IsTrue (bit_and (made how v n) m == b)) (subst (λ (k : Option ℕ). CanBe k o) some can) h),
)

-- of words that pass one of two tests
pub comes_either : (how : Made) (known : Option ℕ) (v : ℕ) (first second either_test : ℕ → Bool) (a b c : Bool) → c ≡ (a || b) → ((n : ℕ) → either_test n ≡ (first n || second n)) → (IsTrue a ↔ ComesOf how known first v) → (IsTrue b ↔ ComesOf how known second v) → IsTrue c ↔ ComesOf how known either_test v
comes_either how known v first second either_test a b c is tests one two = (
  (λ h. ⊎_elim
      (λ k. let found = one.0 k in (found.0, found.1, found.2, tests (made how v found.0) ∙ first_of_two (first (made how v found.0)) (second (made how v found.0)) found.3))
      (λ k. let found = two.0 k in (found.0, found.1, found.2, tests (made how v found.0) ∙ second_of_two (first (made how v found.0)) (second (made how v found.0)) found.3))
      (either a b (sym is ∙ h))),
  (λ (o, lo, can, h). is ∙ ⊎_elim
      (λ k. first_of_two a b (one.1 (o, lo, can, k)))
      (λ k. second_of_two a b (two.1 (o, lo, can, k)))
      (either (first (made how v o)) (second (made how v o)) (sym (tests (made how v o)) ∙ h))),
)

made_below : (how : Made) (v o : ℕ) → v < 2 ^ 32 → o < 2 ^ 32 → made how v o < 2 ^ 32
made_below Itself v o lv lo = lv
made_below With v o lv lo = or_lt 32 v o lv lo
made_below Without v o lv lo = and_below v (2 ^ 32 - 1 - o) lv
made_below From v o lv lo = and_below o (2 ^ 32 - 1 - v) lo

-- of words that pass the same test
comes_also : (how : Made) (known : Option ℕ) (v : ℕ) (test other : ℕ → Bool) → v < 2 ^ 32 → ((n : ℕ) → n < 2 ^ 32 → test n ≡ other n) → ComesOf how known test v → ComesOf how known other v
comes_also how known v test other lv tests (o, lo, can, h) = (o, lo, can, sym (tests (made how v o) (made_below how v o lv lo)) ∙ h)

zero_matches : (v : ℕ) → v < 2 ^ 32 → is_matching ((2 ^ 32 - 1, 0) ∷ []) v ≡ nat_eq v 0
zero_matches v lv = let is : bit_and v (2 ^ 32 - 1) ≡ v = whole v lv in grind (arith, nat_tests)

module _ (pass : ElementsPass) (tests : IsInTests) where
  pub legal_or_zero : (csr : ℕ) (how : Made) (known : Option ℕ) (set : List ℕ) (patterns sources all : List (ℕ × ℕ)) → set ≡ elements_of (is_matching all) → all ≡ sources ++ (2 ^ 32 - 1, 0) ∷ [] → ((n : ℕ) → n < 2 ^ 32 → is_matching patterns n ≡ is_legal_at csr n) → ((v : ℕ) → v < 2 ^ 32 → IsTrue (is_matching sources v) ↔ ComesOf how known (is_matching patterns) v) → (v : ℕ) → v < 2 ^ 32 → IsTrue (is_in set v) ↔ IsLegalSource csr how known true v
  legal_or_zero csr how known set patterns sources all is more legal of_patterns v lv =
      let at_set : is_in set v ≡ is_matching all v = ap (λ (d : List ℕ). is_in d v) is ∙ is_in-elements_of pass tests (is_matching all) v lv in
      let at_all : is_matching all v ≡ (is_matching sources v || nat_eq v 0) = ap (λ (d : List (ℕ × ℕ)). is_matching d v) more ∙ list_any-append (λ (p : ℕ × ℕ). bit_and v p.0 == p.1) sources ((2 ^ 32 - 1, 0) ∷ []) ∙ ap (λ (b : Bool). is_matching sources v || b) (zero_matches v lv) in (
        (λ h. ⊎_elim
            (λ k. inr (comes_also how known v (is_matching patterns) (is_legal_at csr) lv legal ((of_patterns v lv).0 k)))
            (λ k. inl k)
            (either (is_matching sources v) (nat_eq v 0) (sym at_all ∙ sym at_set ∙ h))),
        (λ h. at_set ∙ at_all ∙ ⊎_elim
            (λ k. second_of_two (is_matching sources v) (nat_eq v 0) k)
            (λ k. first_of_two (is_matching sources v) (nat_eq v 0) ((of_patterns v lv).1 (comes_also how known v (is_legal_at csr) (is_matching patterns) lv (λ n ln. sym (legal n ln)) k)))
            h),
      )

  pub legal_alone : (csr : ℕ) (how : Made) (known : Option ℕ) (set : List ℕ) (patterns sources : List (ℕ × ℕ)) → set ≡ elements_of (is_matching sources) → ((n : ℕ) → n < 2 ^ 32 → is_matching patterns n ≡ is_legal_at csr n) → ((v : ℕ) → v < 2 ^ 32 → IsTrue (is_matching sources v) ↔ ComesOf how known (is_matching patterns) v) → (v : ℕ) → v < 2 ^ 32 → IsTrue (is_in set v) ↔ IsLegalSource csr how known false v
  legal_alone csr how known set patterns sources is legal of_patterns v lv =
      let at_set : is_in set v ≡ is_matching sources v = ap (λ (d : List ℕ). is_in d v) is ∙ is_in-elements_of pass tests (is_matching sources) v lv in (
        (λ h. inr (comes_also how known v (is_matching patterns) (is_legal_at csr) lv legal ((of_patterns v lv).0 (sym at_set ∙ h)))),
        (λ h. at_set ∙ ⊎_elim
            (λ k. absurd (cc k))
            (λ k. (of_patterns v lv).1 (comes_also how known v (is_legal_at csr) (is_matching patterns) lv (λ n ln. sym (legal n ln)) k))
            h),
      )
