-- How many pieces of a list hold a number.
use Rattle.std.proofs.Common.{◌≡◌, ℕ, ◌+◌, ◌*◌, ◌<◌, ◌≤◌, ◌^◌, inl, inr, Bool, true, false, cond, ◌&&◌, ◌||◌, ltb, List, [], ◌∷◌, ◌++◌, length, get_or, take, drop, refl, sym, ap, ◌∙◌, arith, zero-add}
use Rattle.std.proofs.lemmas.Bool.{cases_lt, lt-ltb, false_from_ne_true}
use Rattle.std.proofs.lemmas.List.{drop_more, drop_all, take-append-drop}
use Rattle.std.proofs.lemmas.List.Folds.{list_any-append}
use Rattle.set_pieces.specs.declared.piece.Piece.{Piece}
use Rattle.set_pieces.specs.Counting.{one, total}
use Rattle.set_pieces.specs.Internal.Pieces.{in_piece, holds, times, IsApart}
use Rattle.set_pieces.proofs.Without.{in_ends}
use Rattle.set_pieces.proofs.Totals.{total_same, total_add, total_zero, total_most}

pub times_append : (ps qs : List Piece) (x : ℕ) → times (ps ++ qs) x ≡ times ps x + times qs x
times_append [] qs x = omega arith
times_append (p ∷ ps) qs x = omega (arith, times_append ps qs x)

pub times_push : (ps : List Piece) (p : Piece) (x : ℕ) → times (ps ++ p ∷ []) x ≡ times ps x + one (in_piece p x)
times_push ps p x = omega (arith, times_append ps (p ∷ []) x)

-- the rest of a list from a place on, and from the next
pub rest_is : (ps : List Piece) (i : ℕ) (p : Piece) → i < length ps → p ≡ get_or ps i p → drop i ps ≡ p ∷ drop (i + 1) ps
rest_is ps i p lt is = drop_more ps i p lt ∙ ap (λ (q : Piece). q ∷ drop (i + 1) ps) (sym is)

pub times_rest : (ps : List Piece) (i : ℕ) (p : Piece) (x : ℕ) → i < length ps → p ≡ get_or ps i p →
    times (drop i ps) x ≡ one (in_piece p x) + times (drop (i + 1) ps) x
times_rest ps i p x lt is = ap (λ (qs : List Piece). times qs x) (rest_is ps i p lt is)

pub times_done : (ps : List Piece) (i : ℕ) (x : ℕ) → length ps ≤ i → times (drop i ps) x ≡ 0
times_done ps i x le = ap (λ (qs : List Piece). times qs x) (drop_all i ps le)

pub none_less : (b : Bool) (n : ℕ) → n ≡ 0 → cond b 0 n ≡ 0
none_less true n none = refl
none_less false n none = none

-- ---- sums over a list, a piece at a time

pub total_rest : (ps : List Piece) (i : ℕ) (p : Piece) (n : ℕ) → i < length ps → p ≡ get_or ps i p →
    total (times (drop i ps)) n ≡ total (λ x. one (in_piece p x)) n + total (times (drop (i + 1) ps)) n
total_rest ps i p n lt is =
    total_same (times (drop i ps)) (λ x. one (in_piece p x) + times (drop (i + 1) ps) x) n (λ x _. times_rest ps i p x lt is)
    ∙ total_add (λ x. one (in_piece p x)) (times (drop (i + 1) ps)) n

pub total_done : (ps : List Piece) (i n : ℕ) → length ps ≤ i → total (times (drop i ps)) n ≡ 0
total_done ps i n le = total_zero (times (drop i ps)) n (λ x _. times_done ps i x le)

pub total_fits : (ps : List Piece) (n : ℕ) → IsApart ps → total (times ps) n ≤ n
total_fits ps n apart = total_most (times ps) n apart

one_both : (a b : Bool) (t : ℕ) → one a * (one b + t) ≡ one (a && b) + one a * t
one_both true b t = omega arith
one_both false b t = omega arith

pub shared_rest : (p : Piece) (qs : List Piece) (i : ℕ) (q : Piece) (n : ℕ) → i < length qs → q ≡ get_or qs i q →
    total (λ x. one (in_piece p x) * times (drop i qs) x) n
    ≡ total (λ x. one (in_piece p x && in_piece q x)) n + total (λ x. one (in_piece p x) * times (drop (i + 1) qs) x) n
shared_rest p qs i q n lt is =
    total_same (λ x. one (in_piece p x) * times (drop i qs) x) (λ x. one (in_piece p x && in_piece q x) + one (in_piece p x) * times (drop (i + 1) qs) x) n
    (λ x _.
    ap (λ (t : ℕ). one (in_piece p x) * t) (times_rest qs i q x lt is)
    ∙ one_both (in_piece p x) (in_piece q x) (times (drop (i + 1) qs) x))
    ∙ total_add (λ x. one (in_piece p x && in_piece q x)) (λ x. one (in_piece p x) * times (drop (i + 1) qs) x) n

pub shared_done : (p : Piece) (qs : List Piece) (i n : ℕ) → length qs ≤ i → total (λ x. one (in_piece p x) * times (drop i qs) x) n ≡ 0
shared_done p qs i n le = total_zero _ n (λ x _. ap (λ (t : ℕ). one (in_piece p x) * t) (times_done qs i x le) ∙ omega arith)

one_le : (b : Bool) → one b ≤ 1
one_le true = omega arith
one_le false = omega arith

product_le : (a b : ℕ) → a ≤ 1 → b ≤ 1 → a * b ≤ 1
product_le a b la lb = elim (cases_lt a 1) [
  | inl none ↦ (let e : a * b ≡ 0 = (let z : a ≡ 0 = omega arith in ap (λ (n : ℕ). n * b) z ∙ omega arith) in omega arith)
  | inr some ↦ (let e : a * b ≡ b = (let o : a ≡ 1 = omega arith in ap (λ (n : ℕ). n * b) o ∙ omega arith) in omega arith)
]

pub shared_fits : (p : Piece) (qs : List Piece) (n : ℕ) → IsApart qs → total (λ x. one (in_piece p x) * times qs x) n ≤ n
shared_fits p qs n apart = total_most _ n (λ x. product_le (one (in_piece p x)) (times qs x) (one_le (in_piece p x)) (apart x))

pub common_rest : (ps qs : List Piece) (i : ℕ) (p : Piece) (n : ℕ) → i < length ps → p ≡ get_or ps i p →
    total (λ x. times (drop i ps) x * times qs x) n
    ≡ total (λ x. one (in_piece p x) * times qs x) n + total (λ x. times (drop (i + 1) ps) x * times qs x) n
common_rest ps qs i p n lt is =
    total_same (λ x. times (drop i ps) x * times qs x) (λ x. one (in_piece p x) * times qs x + times (drop (i + 1) ps) x * times qs x) n
    (λ x _. ap (λ (t : ℕ). t * times qs x) (times_rest ps i p x lt is) ∙ omega arith)
    ∙ total_add (λ x. one (in_piece p x) * times qs x) (λ x. times (drop (i + 1) ps) x * times qs x) n

pub common_done : (ps qs : List Piece) (i n : ℕ) → length ps ≤ i → total (λ x. times (drop i ps) x * times qs x) n ≡ 0
common_done ps qs i n le = total_zero _ n (λ x _. ap (λ (t : ℕ). t * times qs x) (times_done ps i x le) ∙ omega arith)

pub common_apart : (ps qs : List Piece) → IsApart ps → IsApart qs → (x : ℕ) → times ps x * times qs x ≤ 1
common_apart ps qs a b x = product_le (times ps x) (times qs x) (a x) (b x)

pub common_fits : (ps qs : List Piece) (n : ℕ) → IsApart ps → IsApart qs → total (λ x. times ps x * times qs x) n ≤ n
common_fits ps qs n a b = total_most _ n (common_apart ps qs a b)

-- ---- whether some piece holds a number

step_holds : (a : Bool) (h : Bool) (n : ℕ) → h ≡ ltb 0 n → (a || h) ≡ ltb 0 (one a + n)
step_holds true h n e = sym (lt-ltb 0 (1 + n) (omega arith))
step_holds false h n e = e ∙ ap (ltb 0) (sym (zero-add n))

pub holds_is : (ps : List Piece) (x : ℕ) → holds ps x ≡ ltb 0 (times ps x)
holds_is [] x = refl
holds_is (p ∷ ps) x = step_holds (in_piece p x) (holds ps x) (times ps x) (holds_is ps x)

positive_one : (b : Bool) → ltb 0 (one b) ≡ b
positive_one true = refl
positive_one false = refl

pub holds_once : (ps : List Piece) (x : ℕ) (b : Bool) → times ps x ≡ one b → holds ps x ≡ b
holds_once ps x b h = holds_is ps x ∙ ap (ltb 0) h ∙ positive_one b

one_positive : (n : ℕ) → n ≤ 1 → one (ltb 0 n) ≡ n
one_positive n le = elim (cases_lt 0 n) [
  | inl some ↦ (let e : n ≡ 1 = omega arith in rw e refl)
  | inr none ↦ (let e : n ≡ 0 = omega arith in rw e refl)
]

-- where the pieces are apart, at most one does
pub times_is : (ps : List Piece) (x : ℕ) → IsApart ps → times ps x ≡ one (holds ps x)
times_is ps x apart = sym (one_positive (times ps x) (apart x)) ∙ ap one (sym (holds_is ps x))

-- the numbers of pieces are words
pub word_held : (p : Piece) (x : ℕ) → in_piece p x ≡ true → x < 2 ^ 32
word_held p x h = omega (arith, (in_ends p x h).1, p.run.fits)

past_last : (p : Piece) (x : ℕ) → 2 ^ 32 ≤ x → in_piece p x ≡ false
past_last p x le = false_from_ne_true _ (λ h. omega (arith, word_held p x h))

pub times_past : (ps : List Piece) (x : ℕ) → 2 ^ 32 ≤ x → times ps x ≡ 0
times_past [] x le = refl
times_past (p ∷ ps) x le = (λ i. one (past_last p x le i) + times_past ps x le i)

pub apart_below : (ps : List Piece) → ((x : ℕ) → x < 2 ^ 32 → times ps x ≤ 1) → IsApart ps
apart_below ps h x = elim (cases_lt x (2 ^ 32)) [ inl lt ↦ h x lt | inr past ↦ omega (arith, times_past ps x past) ]

either_is : (n m : ℕ) (h : Bool) → h ≡ ltb 0 m → cond h 0 n + m ≡ cond h m n
either_is n m true is = omega arith
either_is n m false is = elim (cases_lt 0 m) [
  | inl some ↦ absurd (cc (is, lt-ltb 0 m some))
  | inr none ↦ omega (arith, none)
]

-- the numbers of the pieces, and others
pub either_once : (ps : List Piece) (n x : ℕ) → cond (holds ps x) 0 n + times ps x ≡ cond (holds ps x) (times ps x) n
either_once ps n x = either_is n (times ps x) (holds ps x) (holds_is ps x)

pub either_apart : (h : Bool) (m n : ℕ) → m ≤ 1 → n ≤ 1 → cond h m n ≤ 1
either_apart true m n lm ln = lm
either_apart false m n lm ln = ln

-- ---- the numbers of a list, each once

pub united_few : (ps : List Piece) (x : ℕ) → length ps < 2 → times ps x ≡ one (holds ps x)
united_few [] x few = refl
united_few (p ∷ []) x few = single (in_piece p x) where
  single : (b : Bool) → one b + 0 ≡ one (b || false)
  single true = refl
  single false = refl
united_few (p ∷ q ∷ ps) x few = absurd (omega (arith, few))

either_one : (a b : Bool) → cond a (one a) (one b) ≡ one (a || b)
either_one true b = refl
either_one false b = refl

pub united_halves : (ps front back first second : List Piece) (n x : ℕ) → front ≡ take n ps → back ≡ drop n ps →
    times first x ≡ one (holds front x) → times second x ≡ one (holds back x) →
    cond (holds first x) (times first x) (times second x) ≡ one (holds ps x)
united_halves ps front back first second n x is_front is_back one_first one_second =
    (λ i. cond (holds_once first x (holds front x) one_first i) (one_first i) (one_second i))
    ∙ either_one (holds front x) (holds back x)
    ∙ ap one ((λ i. holds (is_front i) x || holds (is_back i) x)
    ∙ sym (list_any-append (λ p. in_piece p x) (take n ps) (drop n ps))
    ∙ ap (λ (qs : List Piece). holds qs x) (take-append-drop n ps))

pub one_most : (b : Bool) (n : ℕ) → n ≡ one b → n ≤ 1
one_most b n is = omega (arith, is, one_le b)

pub one_more_held : (ps next : List Piece) (b h : Bool) (x : ℕ) → times next x ≡ times ps x + one b → holds ps x ≡ h → holds next x ≡ (h || b)
one_more_held ps next b h x more is = holds_is next x ∙ ap (ltb 0) more ∙ added (times ps x) b ∙ ap (λ (a : Bool). a || b) (sym (holds_is ps x) ∙ is) where
  added : (n : ℕ) (b : Bool) → ltb 0 (n + one b) ≡ (ltb 0 n || b)
  added n true = lt-ltb 0 (n + 1) (omega arith) ∙ sym (or_true (ltb 0 n)) where
    or_true : (a : Bool) → (a || true) ≡ true
    or_true true = refl
    or_true false = refl
  added n false = ap (ltb 0) (zero_right n) ∙ sym (or_false (ltb 0 n)) where
    zero_right : (n : ℕ) → n + 0 ≡ n
    zero_right n = omega arith

    or_false : (a : Bool) → (a || false) ≡ a
    or_false true = refl
    or_false false = refl
