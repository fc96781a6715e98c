-- The pivots of a problem with an operation.
use Rattle.std.proofs.Common.{◌≡◌, ℕ, ◌<◌, ◌==◌, List, find, Option, Some, slice_index, ⊎_elim, refl, sym, ap, ◌∙◌, subst, arith}
use Rattle.fd_prob.specs.declared.problem.Case.{Case}
use Rattle.fd_prob.specs.declared.problem.Problem.{Problem}
use Rattle.fd_prob.specs.declared.slot.Slot.{Slot}
use Rattle.fd_prob.specs.declared.slot.Slot.TheVariants as slots
use Rattle.fd_prob.specs.Fitting.{domain_of}
use Rattle.fd_prob.specs.Order.{domain_in, draw_of, picked, pivot_of}
use Rattle.fd_prob.specs.Slots.{slot_number}
use Rattle.fd_solve.specs.Internal.Operations.{ArePivots}
use Rattle.fd_solve.proofs.AllOperations.{op_or_later}

-- but for that of the operation itself, a pivot is picked in the operation's first case
pub pivot_later : (p : Problem) (op : ℕ) (s : Slot) → 0 < slot_number s → pivot_of p op s ≡ picked (draw_of p s) (domain_in (find (λ c. c.op == op) p.cases) s)
unfolding pivot_of
pivot_later p op slots.Op later = absurd (omega (arith, later))
pivot_later p op slots.Rs1 later = refl
pivot_later p op slots.Rs2 later = refl
pivot_later p op slots.Imm later = refl
pivot_later p op slots.Rd later = refl
pivot_later p op slots.Csr later = refl
pivot_later p op slots.Ea later = refl
pivot_later p op slots.A later = refl
pivot_later p op slots.B later = refl
pivot_later p op slots.FirstPte later = refl
pivot_later p op slots.SecondPte later = refl
pivot_later p op slots.DataWord later = refl
pivot_later p op slots.OldCsr later = refl
pivot_later p op slots.Vector later = refl

pub are_pivots : (p : Problem) (op pivot : ℕ) (first : Case) (pivots : List ℕ) → pivot ≡ pivot_of p op slots.Op → Some first ≡ find (λ c. c.op == op) p.cases → slice_index pivots 0 ≡ pivot → ((s : Slot) → 0 < slot_number s → slice_index pivots (slot_number s) ≡ picked (draw_of p s) (domain_of first s)) → ArePivots p op pivots
are_pivots p op pivot first pivots pivot_is found operation others s =
    let P : Slot → Type 0 = λ t. slice_index pivots (slot_number t) ≡ pivot_of p op t in
    ⊎_elim (λ is. subst P (sym is) (operation ∙ pivot_is)) (λ later. others s later ∙ ap (λ (o : Option Case). picked (draw_of p s) (domain_in o s)) found ∙ sym (pivot_later p op s later)) (op_or_later s)
