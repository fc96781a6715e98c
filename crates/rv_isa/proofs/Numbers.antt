-- The numbers of operations.
use denote.Enum.Declared.{tag_of}
use Rattle.std.proofs.Common.{◌≡◌, ℕ, zero, suc, ◌+◌, ◌<◌, ◌⊎◌, inl, inr, Bool, true, false, ◌&&◌, eqb, refl, subst, arith, lit<}
use Rattle.std.proofs.lemmas.Bool.{eqb-true}
use Rattle.std.proofs.lemmas.Bool.Decides.{eqb_tells}
use Rattle.rv_isa.specs.declared.operation.Op.{Op}
use Rattle.rv_isa.specs.declared.operation.Op.TheVariants.{Lui}
use Rattle.rv_isa.specs.contracts.operation.Op as ops
use Rattle.rv_isa.specs.Numbers.{op_number, op_numbered}

pub tag_is : (op : Op) → tag_of ops.the_type op ≡ op_number op
unfolding op_number
tag_is Lui = refl
tag_is _ = refl

pub read : (op : Op) → op_numbered (op_number op) ≡ op
unfolding op_number op_numbered
read Lui = refl
read _ = refl

pub small : (op : Op) → op_number op < 58
unfolding op_number
small Lui = lit< tt
small _ = lit< tt

-- each number below n is that of its operation
hold : ℕ → Bool
hold zero = true
hold (suc n) = eqb (op_number (op_numbered n)) n && hold n

both : (a b : Bool) → (a && b) ≡ true → (a ≡ true) × (b ≡ true)
both true b h = (refl, h)
both false b h = absurd (cc h)

held : (m n : ℕ) → n < m → hold m ≡ true → op_number (op_numbered n) ≡ n
unfolding hold
held zero n lt h = absurd (omega (arith, lt))
held (suc m) n lt h =
    let parts : (eqb (op_number (op_numbered m)) m ≡ true) × (hold m ≡ true) = both (eqb (op_number (op_numbered m)) m) (hold m) h in
    elim (eqb_tells n m) [
      | inl same ↦ subst (λ (k : ℕ). op_number (op_numbered k) ≡ k) (omega (arith, same.1)) (eqb-true (op_number (op_numbered m)) m parts.0)
      | inr other ↦ held m n (omega (arith, lt, other.1)) parts.1
    ]

all_hold : hold 58 ≡ true
unfolding hold op_number op_numbered
all_hold = refl

pub whole : (n : ℕ) → n < 58 → op_number (op_numbered n) ≡ n
whole n lt = held 58 n lt all_hold
