-- Reading pieces one after the other, as a loop does.
use Rattle.std.proofs.Common.{◌≡◌, ℕ, suc, ◌-◌, ◌+◌, ◌≤◌, ◌<◌, List, [], ◌∷◌, ◌++◌, Some, None, refl, sym, ap, ◌∙◌, append_assoc, arith}
use Rattle.std.proofs.lemmas.List.{append-nil}
use Rattle.std.specs.declared.option.Option.{Option}
use Rattle.byte_format.specs.declared.error.PieceError.{PieceError}
use Rattle.byte_format.specs.declared.error.PieceError.TheVariants.{Malformed, OutOfMemory}
use Rattle.byte_format.specs.Internal.Readers.{◌>>=◌, Fails, times, chain_at, with_front}

pub regroup : {A : Type 0} (front : List A) (n : A) (read : Option (List A × List ℕ)) → with_front front (read >>= λ x. Some (n ∷ x.0, x.1)) ≡ with_front (front ++ n ∷ []) read
regroup {A} front n (Some x) = ap (λ (ns : List A). Some (ns, x.1)) (simp append_assoc)
regroup front n None = refl

pub goes_on : {A : Type 0} (piece : List ℕ → Option (A × List ℕ)) (front : List A) (count i : ℕ) (bytes : List ℕ) (n : A) (after : List ℕ) (total : Option (List A × List ℕ)) → i < count → piece bytes ≡ Some (n, after)
    → with_front front (times piece (count - i) bytes) ≡ total → with_front (front ++ n ∷ []) (times piece (count - (i + 1)) after) ≡ total
unfolding times
goes_on piece front count i bytes n after total lt h so_far =
    let k : count - i ≡ suc (count - (i + 1)) = omega arith in
    let one : with_front front (times piece (count - i) bytes) ≡ with_front (front ++ n ∷ []) (times piece (count - (i + 1)) after) = rw (k, h) (regroup front n (times piece (count - (i + 1)) after)) in
    sym one ∙ so_far

pub ends : {A : Type 0} (piece : List ℕ → Option (A × List ℕ)) (e : PieceError) (front : List A) (count i : ℕ) (bytes : List ℕ) (total : Option (List A × List ℕ)) → i < count → Fails e (piece bytes)
    → with_front front (times piece (count - i) bytes) ≡ total → Fails e total
unfolding times
ends piece OutOfMemory front count i bytes total lt h so_far = tt
ends piece Malformed front count i bytes total lt h so_far =
    let k : count - i ≡ suc (count - (i + 1)) = omega arith in
    let one : with_front front (times piece (count - i) bytes) ≡ None = rw (k, h) refl in
    sym so_far ∙ one

pub is_done : {A : Type 0} (piece : List ℕ → Option (A × List ℕ)) (front : List A) (count i : ℕ) (bytes : List ℕ) (total : Option (List A × List ℕ)) → count ≤ i → with_front front (times piece (count - i) bytes) ≡ total → total ≡ Some (front, bytes)
unfolding times
is_done {A} piece front count i bytes total le so_far =
    let k : count - i ≡ 0 = omega arith in
    let one : with_front front (times piece (count - i) bytes) ≡ Some (front, bytes) = rw k (ap (λ (ns : List A). Some (ns, bytes)) (append-nil front)) in
    sym so_far ∙ one

-- ---- the same for pieces that go on from one another

pub chain_goes_on : {S A : Type 0} (next : S → A → S) (piece : S → List ℕ → Option (A × List ℕ)) (front : List A) (count i : ℕ) (state : S) (bytes : List ℕ) (n : A) (after : List ℕ) (total : Option (List A × List ℕ)) → i < count → piece state bytes ≡ Some (n, after)
    → with_front front (chain_at next piece (count - i) state bytes) ≡ total → with_front (front ++ n ∷ []) (chain_at next piece (count - (i + 1)) (next state n) after) ≡ total
unfolding chain_at
chain_goes_on next piece front count i state bytes n after total lt h so_far =
    let k : count - i ≡ suc (count - (i + 1)) = omega arith in
    let one : with_front front (chain_at next piece (count - i) state bytes) ≡ with_front (front ++ n ∷ []) (chain_at next piece (count - (i + 1)) (next state n) after) = rw (k, h) (regroup front n (chain_at next piece (count - (i + 1)) (next state n) after)) in
    sym one ∙ so_far

pub chain_ends : {S A : Type 0} (next : S → A → S) (piece : S → List ℕ → Option (A × List ℕ)) (e : PieceError) (front : List A) (count i : ℕ) (state : S) (bytes : List ℕ) (total : Option (List A × List ℕ)) → i < count → Fails e (piece state bytes)
    → with_front front (chain_at next piece (count - i) state bytes) ≡ total → Fails e total
unfolding chain_at
chain_ends next piece OutOfMemory front count i state bytes total lt h so_far = tt
chain_ends next piece Malformed front count i state bytes total lt h so_far =
    let k : count - i ≡ suc (count - (i + 1)) = omega arith in
    let one : with_front front (chain_at next piece (count - i) state bytes) ≡ None = rw (k, h) refl in
    sym so_far ∙ one

pub chain_is_done : {S A : Type 0} (next : S → A → S) (piece : S → List ℕ → Option (A × List ℕ)) (front : List A) (count i : ℕ) (state : S) (bytes : List ℕ) (total : Option (List A × List ℕ)) → count ≤ i → with_front front (chain_at next piece (count - i) state bytes) ≡ total → total ≡ Some (front, bytes)
unfolding chain_at
chain_is_done {S} {A} next piece front count i state bytes total le so_far =
    let k : count - i ≡ 0 = omega arith in
    let one : with_front front (chain_at next piece (count - i) state bytes) ≡ Some (front, bytes) = rw k (ap (λ (ns : List A). Some (ns, bytes)) (append-nil front)) in
    sym so_far ∙ one
