-- Counters of operations, one step after another.
use Rattle.std.proofs.Common.{◌≡◌, ℕ, zero, suc, ◌+◌, ◌^◌, ◌<◌, ◌≤◌, Bool, true, false, cond, List, [], ◌∷◌, ◌++◌, length, take, drop, get_or, append_assoc, refl, sym, ap, ◌∙◌, arith}
use Rattle.std.specs.Prelude.{replicate, slice_index, sum_by}
use Rattle.std.proofs.Math.Seq.{drop-cons, take-append_seam, take-length}
use Rattle.std.proofs.lemmas.List.Sums.{sum_by-cons, sum_by_more_le}
use Rattle.rv_isa.specs.declared.operation.Op.{Op}
use Rattle.rv_isa.specs.declared.operation.TheConstants.{OPS}
use Rattle.rv_isa.specs.Numbers.{op_number}
use Rattle.rv_hart.specs.declared.record.Record.{Record}
use Rattle.tpl_admit.specs.declared.certificate.Cert.{Cert}
use Rattle.cover_sweep.specs.Counts.{counted, counts_among, counts_by, counts_of, fetched_in, is_number, times_in, times_of}

-- ---- the steps of a hart

one_time : (b : Bool) → cond b 1 0 ≤ 1
one_time true = omega arith
one_time false = omega arith

times_within : (n : ℕ) (rs : List Record) → times_in n rs ≤ length rs
times_within n [] = omega arith
times_within n (r ∷ rs) = omega (arith, one_time (is_number n (fetched_in r)), times_within n rs)

times_up_to : (n : ℕ) (rs : List Record) (i : ℕ) → times_in n (take i rs) ≤ i
times_up_to n rs zero = omega arith
times_up_to n [] (suc i) = omega arith
times_up_to n (r ∷ rs) (suc i) =
    let next : times_in n (take (suc i) (r ∷ rs)) ≡ cond (is_number n (fetched_in r)) 1 0 + times_in n (take i rs) = refl in
    omega (arith, next, one_time (is_number n (fetched_in r)), times_up_to n rs i)

times_more : (n : ℕ) (rs : List Record) (i : ℕ) (d : Record) → i < length rs → times_in n (take (i + 1) rs) ≡ times_in n (take i rs) + times_in n (get_or rs i d ∷ [])
times_more n [] i d within = absurd (omega (arith, within))
times_more n (r ∷ rs) zero d within = omega arith
times_more n (r ∷ rs) (suc i) d within =
    let rest : times_in n (take (i + 1) rs) ≡ times_in n (take i rs) + times_in n (get_or rs i d ∷ []) = times_more n rs i d (omega (arith, within)) in
    let one : ℕ = cond (is_number n (fetched_in r)) 1 0 in
    let same : suc i + 1 ≡ suc (i + 1) = omega arith in
    let next : times_in n (take (suc (i + 1)) (r ∷ rs)) ≡ one + times_in n (take (i + 1) rs) = refl in
    let until : times_in n (take (suc i) (r ∷ rs)) ≡ one + times_in n (take i rs) = refl in
    let whole : times_in n (take (suc i + 1) (r ∷ rs)) ≡ times_in n (take (suc (i + 1)) (r ∷ rs)) = ap (λ (k : ℕ). times_in n (take k (r ∷ rs))) same in
    omega (arith, rest, next, until, whole)

-- each counter has gone up by how many of these steps fetched the operation with its number
pub record AreUp (old new : List ℕ) (rs : List Record) : Type 0 where
  pub each : (n : ℕ) → slice_index new n ≡ slice_index old n + times_in n rs

pub up_none : (old : List ℕ) (rs : List Record) → AreUp old old (take 0 rs)
up_none old rs = record { each = λ n. omega arith }

pub up_room : (old new : List ℕ) (rs : List Record) (i : ℕ) → i < length rs → AreUp old new (take i rs) → ((n : ℕ) → slice_index old n + length rs < 2 ^ 32) → (n : ℕ) → slice_index new n + 1 < 2 ^ 32
up_room old new rs i within up room n = omega (arith, up.each n, room n, times_up_to n rs i)

pub up_more : (old new next : List ℕ) (rs : List Record) (i : ℕ) (d r : Record) → i < length rs → AreUp old new (take i rs) → r ≡ get_or rs i d → ((n : ℕ) → slice_index next n ≡ slice_index new n + times_in n (r ∷ [])) → AreUp old next (take (i + 1) rs)
up_more old new next rs i d r within up is step = record {
  each = λ n. omega (arith, step n, up.each n, times_more n rs i d within, ap (λ (s : Record). times_in n (s ∷ [])) is);
}

pub up_all : (old new : List ℕ) (rs : List Record) (i : ℕ) → i ≡ length rs → AreUp old new (take i rs) → (n : ℕ) → slice_index new n ≡ slice_index old n + times_in n rs
up_all old new rs i end up n = omega (arith, up.each n, ap (λ (k : ℕ). times_in n (take k rs)) end, ap (times_in n) (take-length rs))

-- ---- the steps of all harts

abbrev steps : List (List Record) → ℕ
steps ts = sum_by (λ t. length t) ts

times_of_up_to : (n : ℕ) (ts : List (List Record)) (i : ℕ) → times_of n (take i ts) ≤ steps (take i ts)
times_of_up_to n ts zero = omega arith
times_of_up_to n [] (suc i) = omega arith
times_of_up_to n (t ∷ ts) (suc i) =
    let next : times_of n (take (suc i) (t ∷ ts)) ≡ times_in n t + times_of n (take i ts) = refl in
    omega (arith, next, times_within n t, times_of_up_to n ts i, sum_by-cons (λ (s : List Record). length s) t (take i ts))

times_of_more : (n : ℕ) (ts : List (List Record)) (i : ℕ) (d : List Record) → i < length ts → times_of n (take (i + 1) ts) ≡ times_of n (take i ts) + times_in n (get_or ts i d)
times_of_more n [] i d within = absurd (omega (arith, within))
times_of_more n (t ∷ ts) zero d within = omega arith
times_of_more n (t ∷ ts) (suc i) d within =
    let rest : times_of n (take (i + 1) ts) ≡ times_of n (take i ts) + times_in n (get_or ts i d) = times_of_more n ts i d (omega (arith, within)) in
    let same : suc i + 1 ≡ suc (i + 1) = omega arith in
    let next : times_of n (take (suc (i + 1)) (t ∷ ts)) ≡ times_in n t + times_of n (take (i + 1) ts) = refl in
    let until : times_of n (take (suc i) (t ∷ ts)) ≡ times_in n t + times_of n (take i ts) = refl in
    let whole : times_of n (take (suc i + 1) (t ∷ ts)) ≡ times_of n (take (suc (i + 1)) (t ∷ ts)) = ap (λ (k : ℕ). times_of n (take k (t ∷ ts))) same in
    omega (arith, rest, next, until, whole)

pub record AreUpBy (old new : List ℕ) (ts : List (List Record)) : Type 0 where
  pub each : (n : ℕ) → slice_index new n ≡ slice_index old n + times_of n ts

pub up_by_none : (old : List ℕ) (ts : List (List Record)) → AreUpBy old old (take 0 ts)
up_by_none old ts = record { each = λ n. omega arith }

pub up_by_room : (old new : List ℕ) (ts : List (List Record)) (i : ℕ) (d t : List Record) → i < length ts → AreUpBy old new (take i ts) → t ≡ get_or ts i d → ((n : ℕ) → slice_index old n + steps ts < 2 ^ 32) → (n : ℕ) → slice_index new n + length t < 2 ^ 32
up_by_room old new ts i d t within up is room n =
    omega (arith, up.each n, room n, times_of_up_to n ts i, sum_by_more_le (λ (s : List Record). length s) ts i d within, ap (λ (s : List Record). length s) is)

pub up_by_more : (old new next : List ℕ) (ts : List (List Record)) (i : ℕ) (d t : List Record) → i < length ts → AreUpBy old new (take i ts) → t ≡ get_or ts i d → ((n : ℕ) → slice_index next n ≡ slice_index new n + times_in n t) → AreUpBy old next (take (i + 1) ts)
up_by_more old new next ts i d t within up is step = record {
  each = λ n. omega (arith, step n, up.each n, times_of_more n ts i d within, ap (times_in n) is);
}

pub up_by_all : (old new : List ℕ) (ts : List (List Record)) (i : ℕ) → i ≡ length ts → AreUpBy old new (take i ts) → (n : ℕ) → slice_index new n ≡ slice_index old n + times_of n ts
up_by_all old new ts i end up n = omega (arith, up.each n, ap (λ (k : ℕ). times_of n (take k ts)) end, ap (times_of n) (take-length ts))

-- ---- the operations that have a count

pub listed_next : (totals : List ℕ) (all done next : List (Op × ℕ)) (ops : List Op) (i : ℕ) (op : Op) → i < length ops → done ++ counts_by totals (drop i ops) ≡ all → next ≡ done ++ counted (get_or ops i op) (slice_index totals (op_number (get_or ops i op))) → next ++ counts_by totals (drop (i + 1) ops) ≡ all
listed_next totals all done next ops i op within was pushed =
    let o : Op = get_or ops i op in
    let first : List (Op × ℕ) = counted o (slice_index totals (op_number o)) in
    let one : i + 1 ≡ suc i = omega arith in
    let rest : List (Op × ℕ) = counts_by totals (drop (suc i) ops) in
    let split : counts_by totals (drop i ops) ≡ first ++ rest = ap (counts_by totals) (drop-cons ops i op within) in
    ap (λ (k : ℕ). next ++ counts_by totals (drop k ops)) one ∙ ap (λ (xs : List (Op × ℕ)). xs ++ rest) pushed ∙ append_assoc done first rest ∙ ap (λ (xs : List (Op × ℕ)). done ++ xs) (sym split) ∙ was

pub counts_same : (totals : List ℕ) (ts : List (List Record)) → ((n : ℕ) → slice_index totals n ≡ times_of n ts) → (ops : List Op) → counts_by totals ops ≡ counts_among ts ops
counts_same totals ts each [] = refl
counts_same totals ts each (op ∷ ops) =
    ap (λ (n : ℕ). counted op n ++ counts_by totals ops) (each (op_number op)) ∙ ap (λ (xs : List (Op × ℕ)). counted op (times_of (op_number op) ts) ++ xs) (counts_same totals ts each ops)

-- ---- counters that are all 0 at first

zero_at : (k n : ℕ) → slice_index (replicate k 0) n ≡ 0
zero_at zero n = refl
zero_at (suc k) zero = refl
zero_at (suc k) (suc n) = zero_at k n

pub zeros_room : (start : List ℕ) (ts : List (List Record)) → start ≡ replicate 58 0 → steps ts < 2 ^ 32 → (n : ℕ) → slice_index start n + steps ts < 2 ^ 32
zeros_room start ts zeros few n = omega (arith, few, ap (λ (xs : List ℕ). slice_index xs n) zeros, zero_at 58 n)

pub zeros_up : (start new old : List ℕ) (k : ℕ) (ts : List (List Record)) → start ≡ replicate 58 0 → length new ≡ k → ((n : ℕ) → slice_index new n ≡ slice_index start n + times_of n ts)
    → (n : ℕ) → slice_index (take k (new ++ drop (length new) old)) n ≡ times_of n ts
zeros_up start new old k ts zeros whole up n =
    let all : take k (new ++ drop (length new) old) ≡ new = ap (λ (j : ℕ). take j (new ++ drop (length new) old)) (sym whole) ∙ take-append_seam new (drop (length new) old) in
    omega (arith, up n, ap (λ (xs : List ℕ). slice_index xs n) all, ap (λ (xs : List ℕ). slice_index xs n) zeros, zero_at 58 n)

pub counts_told : (c : Cert) (totals : List ℕ) (items : List (Op × ℕ)) → items ≡ counts_by totals OPS → ((n : ℕ) → slice_index totals n ≡ times_of n c.traces) → items ≡ counts_of c
unfolding counts_of
counts_told c totals items is each = is ∙ counts_same totals c.traces each OPS
