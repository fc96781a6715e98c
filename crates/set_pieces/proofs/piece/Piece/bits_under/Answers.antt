use Rattle.std.proofs.Common.{◌≡◌, ℕ, Option, Some, None, IfSome, bit_and, true}
use Rattle.set_pieces.specs.declared.piece.Piece.{Piece}
use Rattle.set_pieces.specs.Internal.Runs.{in_run}
use Rattle.set_pieces.specs.Internal.Pieces.{in_piece}
use Rattle.set_pieces.proofs.Without.{own_run}
use Rattle.set_pieces.proofs.piece.Piece.bits_under.Goals as goal

told : (p : Piece) (mask : ℕ) (o : Option ℕ) → IfSome o (λ bits. (x : ℕ) → in_run p.run x ≡ true → bit_and x mask ≡ bits) → IfSome o (λ bits. (x : ℕ) → in_piece p x ≡ true → bit_and x mask ≡ bits)
told p mask None h = h
told p mask (Some bits) h = λ x held. h x (own_run p x held)

pub returns : goal.returns
returns c = told c.args.self c.args.mask c.bits_under.result c.bits_under.ensures
