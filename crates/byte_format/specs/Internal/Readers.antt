-- What is read at the front of some bytes, with what stands behind it; None where nothing is. Readers are put together from smaller ones.
use Rattle.std.specs.Prelude.{◌≡◌, ℕ, zero, suc, List, [], ◌∷◌, ◌++◌, length, take, drop, Bool, Option, Some, None, Result, Ok, Err, nat_le, nat_lt, nat_eq, ◌==◌, if◌then◌else◌}
use Rattle.std.specs.List.{starts_with}
use Rattle.std.specs.Int.{w8, w16, w32, from_le_bytes}
use Rattle.byte_format.specs.declared.error.PieceError.{PieceError}
use Rattle.byte_format.specs.declared.error.PieceError.TheVariants.{Malformed, OutOfMemory}
use Rattle.byte_format.specs.Numbers.{padding}

infixl 10 ◌>>=◌
abbrev pub ◌>>=◌ : {A B : Type 0} → Option A → (A → Option B) → Option B
(Some x) >>= f = f x
None >>= f = None

-- ---- what a function returned

abbrev pub Fails : {Y : Type 0} → PieceError → Option Y → Type 0
Fails Malformed read = read ≡ None
Fails OutOfMemory read = Unit {0}

-- its result, seen by view, is what is read, unless memory ran out
abbrev pub Gives : {X Y : Type 0} → (X → Y) → Result X PieceError → Option Y → Type 0
Gives view (Ok x) read = read ≡ Some (view x)
Gives view (Err e) read = Fails e read

-- ---- numbers and literals

unfoldable pub byte_at : List ℕ → Option (ℕ × List ℕ)
byte_at bytes = if nat_lt (length bytes) 1 then None else Some (from_le_bytes w8 (take 1 bytes), drop 1 bytes)

unfoldable pub half_at : List ℕ → Option (ℕ × List ℕ)
half_at bytes = if nat_lt (length bytes) 2 then None else Some (from_le_bytes w16 (take 2 bytes), drop 2 bytes)

unfoldable pub word_at : List ℕ → Option (ℕ × List ℕ)
word_at bytes = if nat_lt (length bytes) 4 then None else Some (from_le_bytes w32 (take 4 bytes), drop 4 bytes)

-- what stands behind a literal
unfoldable pub skip : List ℕ → List ℕ → Option (List ℕ)
skip literal bytes = if starts_with nat_eq bytes literal then Some (drop (length literal) bytes) else None

-- so many bytes, and their padding
unfoldable pub padded_at : ℕ → List ℕ → Option (List ℕ × List ℕ)
padded_at size bytes = if nat_lt (length bytes) size then None else (skip (padding size) (drop size bytes) >>= λ rest. Some (take size bytes, rest))

-- ---- pieces

-- one piece and then another that depends on it
abbrev pub then_at : {A B : Type 0} → (List ℕ → Option (A × List ℕ)) → (A → List ℕ → Option (B × List ℕ)) → List ℕ → Option ((A × B) × List ℕ)
then_at first second bytes = first bytes >>= λ x. second x.0 x.1 >>= λ y. Some ((x.0, y.0), y.1)

-- one piece and then another
abbrev pub both : {A B : Type 0} → (List ℕ → Option (A × List ℕ)) → (List ℕ → Option (B × List ℕ)) → List ℕ → Option ((A × B) × List ℕ)
both first second bytes = first bytes >>= λ x. second x.1 >>= λ y. Some ((x.0, y.0), y.1)

-- a piece behind a literal
abbrev pub behind : {A : Type 0} → List ℕ → (List ℕ → Option (A × List ℕ)) → List ℕ → Option (A × List ℕ)
behind literal piece bytes = skip literal bytes >>= λ rest. piece rest

-- a piece with a literal behind it, which may depend on it
abbrev pub ahead : {A : Type 0} → (List ℕ → Option (A × List ℕ)) → (A → List ℕ) → List ℕ → Option (A × List ℕ)
ahead piece literal bytes = piece bytes >>= λ x. skip (literal x.0) x.1 >>= λ rest. Some (x.0, rest)

-- a literal and nothing else
abbrev pub only_at : List ℕ → List ℕ → Option (Unit {0} × List ℕ)
only_at literal bytes = skip literal bytes >>= λ rest. Some (tt, rest)

-- a piece that stands for a value
abbrev pub as_at : {A B : Type 0} → (A → Option B) → (List ℕ → Option (A × List ℕ)) → List ℕ → Option (B × List ℕ)
as_at to piece bytes = piece bytes >>= λ x. to x.0 >>= λ y. Some (y, x.1)

-- a piece that passes a test
abbrev pub where_at : {A : Type 0} → (A → Bool) → (List ℕ → Option (A × List ℕ)) → List ℕ → Option (A × List ℕ)
where_at test piece bytes = piece bytes >>= λ x. if test x.0 then Some x else None

-- a piece that stands only under a condition
abbrev pub under : {A : Type 0} → Bool → (List ℕ → Option (A × List ℕ)) → List ℕ → Option (A × List ℕ)
under condition piece bytes = if condition then piece bytes else None

-- so many pieces
unfoldable pub times : {A : Type 0} → (List ℕ → Option (A × List ℕ)) → ℕ → List ℕ → Option (List A × List ℕ)
times piece zero bytes = Some ([], bytes)
times piece (suc n) bytes = piece bytes >>= λ x. times piece n x.1 >>= λ y. Some (x.0 ∷ y.0, y.1)

-- a count, and that many pieces
unfoldable pub counted_at : {A : Type 0} → (List ℕ → Option (A × List ℕ)) → List ℕ → Option (List A × List ℕ)
counted_at piece bytes = word_at bytes >>= λ n. times piece n.0 n.1

-- a count up to a limit, and that many pieces
unfoldable pub few_at : {A : Type 0} → ℕ → (List ℕ → Option (A × List ℕ)) → List ℕ → Option (List A × List ℕ)
few_at limit piece bytes = word_at bytes >>= λ n. if nat_le n.0 limit then times piece n.0 n.1 else None

-- so many pieces, each read as the ones before it determine
unfoldable pub chain_at : {S A : Type 0} → (S → A → S) → (S → List ℕ → Option (A × List ℕ)) → ℕ → S → List ℕ → Option (List A × List ℕ)
chain_at next piece zero state bytes = Some ([], bytes)
chain_at next piece (suc n) state bytes = piece state bytes >>= λ x. chain_at next piece n (next state x.0) x.1 >>= λ y. Some (x.0 ∷ y.0, y.1)

-- all of the bytes
abbrev pub whole : {A : Type 0} → (List ℕ → Option (A × List ℕ)) → List ℕ → Option A
whole piece bytes = piece bytes >>= λ x. if length x.1 == 0 then Some x.0 else None

-- a piece that takes so many bytes
abbrev pub within : {A : Type 0} → ℕ → (List ℕ → Option (A × List ℕ)) → List ℕ → Option (A × List ℕ)
within size piece bytes = if nat_lt (length bytes) size then None else (whole piece (take size bytes) >>= λ x. Some (x, drop size bytes))

-- what was read before, and what is still read
abbrev pub with_front : {A : Type 0} → List A → Option (List A × List ℕ) → Option (List A × List ℕ)
with_front front read = read >>= λ x. Some (front ++ x.0, x.1)
