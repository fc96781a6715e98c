-- Walks along two lists of pieces, of which the second is left behind where it ends before the first goes on.
use Rattle.std.proofs.Common.{◌≡◌, ℕ, zero, suc, ◌+◌, ◌-◌, ◌*◌, ◌<◌, ◌≤◌, Bool, true, false, cond, ltb, leb, ◌&&◌, ◌||◌, not, List, [], ◌∷◌, length, get_or, drop, filter, inl, inr, refl, sym, ap, ◌∙◌, arith}
use Rattle.std.proofs.lemmas.Bool.{cases_lt, lt-ltb, leb-false, false_from_ne_true, false≢true}
use Rattle.std.proofs.lemmas.List.{get_or_default}
use Rattle.std.proofs.lemmas.List.Recursion.{is_sum_by}
use Rattle.std.proofs.lemmas.List.Sorted.{sum_by-IsPermutation}
use Rattle.std.specs.List.Sorted.{IsPermutation}
use Rattle.set_pieces.specs.declared.piece.Piece.{Piece}
use Rattle.set_pieces.specs.Counting.{one}
use Rattle.set_pieces.specs.Internal.Pieces.{in_piece, holds, times, Ascends, AreAlive}
use Rattle.dom_set.proofs.Merging.{below_first, up_to_last}
use Rattle.set_pieces.proofs.Without.{in_ends}
use Rattle.set_pieces.proofs.Times.{holds_is, rest_is, times_rest, times_done}

pub from_first : (p : Piece) (x : ℕ) → in_piece p x ≡ true → p.run.low ≤ x
from_first p x h = (in_ends p x h).0

ended : (p : Piece) (x : ℕ) → p.run.high < x → in_piece p x ≡ false
ended p x past = false_from_ne_true _ (λ h. omega (arith, past, (in_ends p x h).1))

-- pieces that all begin above a number do not hold it
times_above : (ps : List Piece) (x : ℕ) → ((k : ℕ) (d : Piece) → k < length ps → x < (get_or ps k d).run.low) → times ps x ≡ 0
times_above [] x h = refl
times_above (p ∷ ps) x h =
    let first : in_piece p x ≡ false = below_first p x (h 0 p (omega arith)) in
    omega (arith, ap one first, times_above ps x (λ k d lt. h (suc k) d (omega (arith, lt))))

times_drop_above : (ps : List Piece) (k x : ℕ) → ((j : ℕ) (d : Piece) → k ≤ j → j < length ps → x < (get_or ps j d).run.low) → times (drop k ps) x ≡ 0
times_drop_above [] zero x h = refl
times_drop_above [] (suc k) x h = refl
times_drop_above (p ∷ ps) zero x h = times_above (p ∷ ps) x (λ j d lt. h j d (omega arith) lt)
times_drop_above (p ∷ ps) (suc k) x h = times_drop_above ps k x (λ j d from lt. h (suc j) d (omega (arith, from)) (omega (arith, lt)))

-- each piece begins no lower than the one before it
abbrev pub BeginInOrder : List Piece → ℕ → Type 0
BeginInOrder ps n = (k : ℕ) (d : Piece) → 1 ≤ k → k < n → (get_or ps (k - 1) d).run.low ≤ (get_or ps k d).run.low

lows_ascend : (ps : List Piece) → BeginInOrder ps (length ps) → (k n : ℕ) (d : Piece) → k + n < length ps → (get_or ps k d).run.low ≤ (get_or ps (k + n) d).run.low
lows_ascend ps order k zero d lt = let e : k + 0 ≡ k = omega arith in omega (arith, ap (λ (m : ℕ). (get_or ps m d).run.low) e)
lows_ascend ps order k (suc n) d lt =
    let e : k + suc n - 1 ≡ k + n = omega arith in
    omega (arith, lows_ascend ps order k n d (omega (arith, lt)), order (k + suc n) d (omega arith) lt, ap (λ (m : ℕ). (get_or ps m d).run.low) e)

pub in_order : (ps : List Piece) (n : ℕ) → length ps ≤ n → BeginInOrder ps n → Ascends ps
in_order ps n all order k d lt x below = times_drop_above ps k x (λ j e from within.
    let is : k + (j - k) ≡ j = omega (arith, from) in
    omega (
      arith,
      below,
      lows_ascend ps (λ i b one_on before. order i b one_on (omega (arith, before, all))) k (j - k) d (omega (arith, from, within)),
      ap (λ (m : ℕ). (get_or ps m d).run.low) is,
      ap (λ (p : Piece). p.run.low) (get_or_default ps j e d within),
    ))

pub one_more : (ps : List Piece) (n : ℕ) (a b : Piece) → BeginInOrder ps n → n < length ps → 1 ≤ n → (get_or ps (n - 1) a).run.low ≤ (get_or ps n b).run.low → BeginInOrder ps (n + 1)
one_more ps n a b order lt some le k d one_on before = elim (cases_lt k n) [
  | inl less ↦ order k d one_on less
  | inr from ↦
      let e : k ≡ n = omega (arith, before, from) in
      omega (
        arith,
        le,
        ap (λ (m : ℕ). (get_or ps (m - 1) d).run.low) e,
        ap (λ (m : ℕ). (get_or ps m d).run.low) e,
        ap (λ (p : Piece). p.run.low) (get_or_default ps (n - 1) d a (omega (arith, lt, some))),
        ap (λ (p : Piece). p.run.low) (get_or_default ps n d b lt),
      )
]

-- ---- places

all_rest : (ps : List Piece) (x : ℕ) → times (drop 0 ps) x ≡ times ps x
all_rest [] x = refl
all_rest (p ∷ ps) x = refl

pub from_start : (ps alive : List Piece) (from : ℕ) → alive ≡ [] → AreAlive ps 0 alive from
from_start ps alive from none x le = omega (arith, ap (λ (qs : List Piece). times qs x) none, all_rest ps x)

one_kept : (b : Bool) (q : Piece) (rest qs : List Piece) (x : ℕ) → (b ≡ false → in_piece q x ≡ false) → times rest x ≡ times qs x →
    times (cond b (q ∷ rest) rest) x ≡ one (in_piece q x) + times qs x
one_kept true q rest qs x out same = omega (arith, same)
one_kept false q rest qs x out same = omega (arith, same, ap one (out refl))

-- pieces that end before a number are not missed from there on
pub reaching : (from : ℕ) (ps : List Piece) (x : ℕ) → from ≤ x → times (filter (λ p. leb from p.run.high) ps) x ≡ times ps x
reaching from [] x le = refl
reaching from (p ∷ ps) x le = one_kept (leb from p.run.high) p (filter (λ q. leb from q.run.high) ps) ps x
    (λ h. ended p x (omega (arith, le, leb-false from p.run.high h)))
    (reaching from ps x le)

pub alive_reaching : (ps : List Piece) (place old from : ℕ) (alive next : List Piece) → old ≤ from → next ≡ filter (λ p. leb from p.run.high) alive →
    AreAlive ps place alive old → AreAlive ps place next from
alive_reaching ps place old from alive next later is before x le =
    omega (arith, ap (λ (qs : List Piece). times qs x) is, reaching from alive x le, before x (omega (arith, later, le)))

pub not_reaching : (p : Piece) (from x : ℕ) → p.run.high < from → from ≤ x → one (in_piece p x) ≡ 0
not_reaching p from x past le = ap one (ended p x (omega (arith, past, le)))

cases_in : (b : Bool) (P : Bool → Type 0) → (b ≡ true → P true) → (b ≡ false → P false) → P b
cases_in true P held _ = held refl
cases_in false P _ out = out refl

-- the piece shares with the list what it shares with those that are kept and those from the place on
pub shared_alive : (p : Piece) (ps alive : List Piece) (place x : ℕ) → AreAlive ps place alive p.run.low →
    one (in_piece p x) * times (drop 0 alive) x + one (in_piece p x) * times (drop place ps) x ≡ one (in_piece p x) * times ps x
shared_alive p ps alive place x are = cases_in (in_piece p x) (λ b. one b * times (drop 0 alive) x + one b * times (drop place ps) x ≡ one b * times ps x)
    (λ held. omega (arith, all_rest alive x, are x (from_first p x held)))
    (λ none. omega arith)

-- what begins behind the piece shares nothing with it
pub shared_none : (p : Piece) (ps : List Piece) (i : ℕ) (q : Piece) (x : ℕ) → Ascends ps → i < length ps → p.run.high < (get_or ps i q).run.low → one (in_piece p x) * times (drop i ps) x ≡ 0
shared_none p ps i q x up lt behind = cases_in (in_piece p x) (λ b. one b * times (drop i ps) x ≡ 0)
    (λ held. omega (arith, up i q lt x (omega (arith, up_to_last p x held, behind))))
    (λ none. omega arith)

-- ---- what a list leaves of a piece

cond_none : (b : Bool) → ◌≡◌ {A = ℕ} (cond b 0 0) 0
cond_none true = refl
cond_none false = refl

cond_or : (a b : Bool) (n : ℕ) → cond b 0 (cond a 0 n) ≡ cond (a || b) 0 n
cond_or true b n = cond_none b
cond_or false b n = refl

holds_as : (ps qs : List Piece) (x : ℕ) → times ps x ≡ times qs x → holds ps x ≡ holds qs x
holds_as ps qs x same = holds_is ps x ∙ ap (ltb 0) same ∙ sym (holds_is qs x)

-- nothing was taken off yet
pub left_first : (p : Piece) (ps left : List Piece) (x : ℕ) → left ≡ p ∷ [] → cond (holds (drop 0 ps) x) 0 (times left x) ≡ cond (holds ps x) 0 (one (in_piece p x))
left_first p ps left x is =
    let all : times left x ≡ one (in_piece p x) = ap (λ (qs : List Piece). times qs x) is ∙ omega arith in
    ap (cond (holds (drop 0 ps) x) 0) all ∙ ap (λ (b : Bool). cond b 0 (one (in_piece p x))) (holds_as (drop 0 ps) ps x (all_rest ps x))

pub left_done : (ps : List Piece) (i n x : ℕ) → length ps ≤ i → cond (holds (drop i ps) x) 0 n ≡ n
left_done ps i n x past = ap (λ (b : Bool). cond b 0 n) (holds_as (drop i ps) [] x (times_done ps i x past))

-- one more piece was taken off
pub left_next : (qs : List Piece) (i : ℕ) (q : Piece) (m n x : ℕ) → i < length qs → q ≡ get_or qs i q → n ≡ cond (in_piece q x) 0 m →
    cond (holds (drop (i + 1) qs) x) 0 n ≡ cond (holds (drop i qs) x) 0 m
left_next qs i q m n x lt is taken = ap (cond (holds (drop (i + 1) qs) x) 0) taken
    ∙ cond_or (in_piece q x) (holds (drop (i + 1) qs) x) m
    ∙ ap (λ (rs : List Piece). cond (holds rs x) 0 m) (sym (rest_is qs i q lt is))

held_either : (a b c : Bool) (m n k : ℕ) → a ≡ ltb 0 m → b ≡ ltb 0 n → c ≡ ltb 0 k → m + n ≡ k → (a || b) ≡ c
held_either a b c m n k is_a is_b is_c all = elim (cases_lt 0 m) [
  | inl some ↦ (let held : a ≡ true = is_a ∙ lt-ltb 0 m some in let whole : c ≡ true = is_c ∙ lt-ltb 0 k (omega (arith, all, some)) in ap (λ (d : Bool). d || b) held ∙ sym whole)
  | inr none ↦ (let empty : m ≡ 0 = omega (arith, none) in let same : n ≡ k = omega (arith, all, empty) in ap (λ (d : Bool). d || b) (is_a ∙ ap (ltb 0) empty) ∙ is_b ∙ ap (ltb 0) same ∙ sym is_c)
]

-- those that are kept and those from the place on leave what the list does
pub left_alive : (p : Piece) (ps alive : List Piece) (place n x : ℕ) → AreAlive ps place alive p.run.low → n ≡ cond (holds alive x) 0 (one (in_piece p x)) →
    cond (holds (drop place ps) x) 0 n ≡ cond (holds ps x) 0 (one (in_piece p x))
left_alive p ps alive place n x are is = ap (cond (holds (drop place ps) x) 0) is ∙ cases_in (in_piece p x)
    (λ b. cond (holds (drop place ps) x) 0 (cond (holds alive x) 0 (one b)) ≡ cond (holds ps x) 0 (one b))
    (λ held. cond_or (holds alive x) (holds (drop place ps) x) 1
    ∙ ap (λ (b : Bool). cond b 0 1) (held_either (holds alive x) (holds (drop place ps) x) (holds ps x) (times alive x) (times (drop place ps) x) (times ps x) (holds_is alive x) (holds_is (drop place ps) x) (holds_is ps x) (are x (from_first p x held))))
    (λ out. ap (cond (holds (drop place ps) x) 0) (cond_none (holds alive x)) ∙ cond_none (holds (drop place ps) x) ∙ sym (cond_none (holds ps x)))

-- one more piece was taken off, after those that end before it were put out
pub left_behind : (qs : List Piece) (i : ℕ) (q : Piece) (out next m n x : ℕ) → i < length qs → q ≡ get_or qs i q →
    next + n ≡ out + cond (in_piece q x) 0 m → (holds (drop (i + 1) qs) x ≡ true → next ≡ out) →
    next + cond (holds (drop (i + 1) qs) x) 0 n ≡ out + cond (holds (drop i qs) x) 0 m
left_behind qs i q out next m n x lt is all same =
    behind (in_piece q x) (holds (drop (i + 1) qs) x) out next m n all same
    ∙ ap (λ (rs : List Piece). out + cond (holds rs x) 0 m) (sym (rest_is qs i q lt is)) where
      behind : (b h : Bool) (out next m n : ℕ) → next + n ≡ out + cond b 0 m → (h ≡ true → next ≡ out) → next + cond h 0 n ≡ out + cond (b || h) 0 m
      behind true true out next m n all same = omega (arith, same refl)
      behind true false out next m n all same = all
      behind false true out next m n all same = omega (arith, same refl)
      behind false false out next m n all same = all

-- where what follows has a number, the piece at the place begins no higher
pub begun : (qs : List Piece) (i : ℕ) (q : Piece) (x : ℕ) → Ascends qs → i < length qs → q ≡ get_or qs i q → holds (drop (i + 1) qs) x ≡ true → q.run.low ≤ x
begun qs i q x up lt is held = elim (cases_lt x q.run.low) [
  | inr from ↦ from
  | inl below ↦ (
      let none : times (drop i qs) x ≡ 0 = up i q lt x (omega (arith, below, ap (λ (p : Piece). p.run.low) is)) in
      let less : times (drop (i + 1) qs) x ≡ 0 = omega (arith, none, times_rest qs i q x lt is) in
      absurd (false≢true (sym (holds_as (drop (i + 1) qs) [] x less) ∙ held))
      )
]

-- the rest takes nothing off
pub left_apart : (p : Piece) (rest : List Piece) (n x : ℕ) → n ≤ one (in_piece p x) → one (in_piece p x) * times rest x ≡ 0 → cond (holds rest x) 0 n ≡ n
left_apart p rest n x within none = cases_in (in_piece p x) (λ b. b ≡ in_piece p x → cond (holds rest x) 0 n ≡ n)
    (λ held is.
    let nothing : times rest x ≡ 0 = omega (arith, none, ap (λ (b : Bool). one b * times rest x) held) in
    ap (λ (b : Bool). cond b 0 n) (holds_as rest [] x nothing))
    (λ out is.
    let empty : n ≡ 0 = omega (arith, within, ap one out) in
    ap (cond (holds rest x) 0) empty ∙ cond_none (holds rest x) ∙ sym empty)
    refl

-- a piece that ends before another loses nothing by it
pub ends_before : (p q : Piece) (x : ℕ) → p.run.high < q.run.low → one (in_piece p x && not (in_piece q x)) ≡ one (in_piece p x)
ends_before p q x lt = cases_in (in_piece q x) (λ b. one (in_piece p x && not b) ≡ one (in_piece p x))
    (λ held. ap (λ (b : Bool). one (b && false)) (ended p x (omega (arith, lt, from_first q x held))) ∙ sym (not_reaching p q.run.low x lt (from_first q x held)))
    (λ out. kept (in_piece p x)) where
      kept : (b : Bool) → one (b && true) ≡ one b
      kept true = refl
      kept false = refl

pub left_within : (a b : Bool) (n : ℕ) → n ≡ cond a 0 (one b) → n ≤ one b
left_within true b n is = omega (arith, is)
left_within false b n is = omega (arith, is)

pub rest_none : (p : Piece) (ps : List Piece) (i x : ℕ) → length ps ≤ i → one (in_piece p x) * times (drop i ps) x ≡ 0
rest_none p ps i x past = ap (λ (n : ℕ). one (in_piece p x) * n) (times_done ps i x past) ∙ omega arith

-- ---- order does not matter

pub times_moved : (ps qs : List Piece) (x : ℕ) → IsPermutation ps qs → times qs x ≡ times ps x
times_moved ps qs x moved =
    is_sum_by (λ (rs : List Piece). times rs x) (λ p. one (in_piece p x)) refl (λ p rs. refl) qs
    ∙ sum_by-IsPermutation (λ p. one (in_piece p x)) ps qs moved
    ∙ sym (is_sum_by (λ (rs : List Piece). times rs x) (λ p. one (in_piece p x)) refl (λ p rs. refl) ps)

cond_add : (b : Bool) (m n : ℕ) → cond b 0 (m + n) ≡ cond b 0 m + cond b 0 n
cond_add true m n = refl
cond_add false m n = refl

pub parts_left : (ps qs : List Piece) (i : ℕ) (p : Piece) (x : ℕ) → i < length ps → p ≡ get_or ps i p → cond (holds qs x) 0 (times (drop i ps) x) ≡ cond (holds qs x) 0 (one (in_piece p x)) + cond (holds qs x) 0 (times (drop (i + 1) ps) x)
parts_left ps qs i p x lt is = ap (cond (holds qs x) 0) (times_rest ps i p x lt is) ∙ cond_add (holds qs x) (one (in_piece p x)) (times (drop (i + 1) ps) x)

pub none_left : (ps qs : List Piece) (i x : ℕ) → length ps ≤ i → cond (holds qs x) 0 (times (drop i ps) x) ≡ 0
none_left ps qs i x past = ap (cond (holds qs x) 0) (times_done ps i x past) ∙ cond_none (holds qs x)
