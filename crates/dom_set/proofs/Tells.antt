-- Bits that all numbers of pieces have.
use Rattle.std.proofs.Common.{◌≡◌, ℕ, true, bit_and, List, Option, Some, None, IfSome, IsTrue}
use Rattle.set_pieces.specs.declared.piece.Piece.{Piece}
use Rattle.dom_set.specs.Elements.{elements_of, is_in}
use Rattle.set_pieces.specs.Internal.Pieces.{holds}
use Rattle.dom_set.proofs.Sets.{Contains-elements, is_in_tests}

pub bits_of_elements : (ps : List Piece) (mask : ℕ) (o : Option ℕ) → IfSome o (λ bits. (x : ℕ) → holds ps x ≡ true → bit_and x mask ≡ bits) → IfSome o (λ bits. (x : ℕ) → IsTrue (is_in (elements_of (holds ps)) x) → bit_and x mask ≡ bits)
bits_of_elements ps mask None told = told
bits_of_elements ps mask (Some bits) told = λ x inside. told x ((Contains-elements (holds ps) x).0 ((is_in_tests (elements_of (holds ps)) x).0 inside)).1
