-- Variables by their places.
use Rattle.std.proofs.Common.{◌≡◌, ℕ, zero, suc, ◌<◌, get_or, refl, sym, ap, ◌∙◌, arith}
use Rattle.fd_prob.specs.declared.slot.Slot.{Slot}
use Rattle.fd_prob.specs.declared.slot.Slot.TheVariants as slots
use Rattle.fd_prob.specs.declared.slot.TheConstants.{SLOTS}
use Rattle.fd_prob.specs.Laws.{SlotsAreInOrder}
use Rattle.fd_prob.specs.Slots.{slot_number}

pub in_place : (n : ℕ) (s : Slot) → n < 14 → slot_number (get_or SLOTS n s) ≡ n
in_place zero s lt = refl
in_place (suc zero) s lt = refl
in_place (suc (suc zero)) s lt = refl
in_place (suc (suc (suc zero))) s lt = refl
in_place (suc (suc (suc (suc zero)))) s lt = refl
in_place (suc (suc (suc (suc (suc zero))))) s lt = refl
in_place (suc (suc (suc (suc (suc (suc zero)))))) s lt = refl
in_place (suc (suc (suc (suc (suc (suc (suc zero))))))) s lt = refl
in_place (suc (suc (suc (suc (suc (suc (suc (suc zero)))))))) s lt = refl
in_place (suc (suc (suc (suc (suc (suc (suc (suc (suc zero))))))))) s lt = refl
in_place (suc (suc (suc (suc (suc (suc (suc (suc (suc (suc zero)))))))))) s lt = refl
in_place (suc (suc (suc (suc (suc (suc (suc (suc (suc (suc (suc zero))))))))))) s lt = refl
in_place (suc (suc (suc (suc (suc (suc (suc (suc (suc (suc (suc (suc zero)))))))))))) s lt = refl
in_place (suc (suc (suc (suc (suc (suc (suc (suc (suc (suc (suc (suc (suc zero))))))))))))) s lt = refl
in_place (suc (suc (suc (suc (suc (suc (suc (suc (suc (suc (suc (suc (suc (suc n)))))))))))))) s lt = absurd (omega arith)

pub place_below : (s : Slot) → slot_number s < 14
place_below slots.Op = omega arith
place_below slots.Rs1 = omega arith
place_below slots.Rs2 = omega arith
place_below slots.Imm = omega arith
place_below slots.Rd = omega arith
place_below slots.Csr = omega arith
place_below slots.Ea = omega arith
place_below slots.A = omega arith
place_below slots.B = omega arith
place_below slots.FirstPte = omega arith
place_below slots.SecondPte = omega arith
place_below slots.DataWord = omega arith
place_below slots.OldCsr = omega arith
place_below slots.Vector = omega arith

pub placed : (s d : Slot) → get_or SLOTS (slot_number s) d ≡ s
placed slots.Op d = refl
placed slots.Rs1 d = refl
placed slots.Rs2 d = refl
placed slots.Imm d = refl
placed slots.Rd d = refl
placed slots.Csr d = refl
placed slots.Ea d = refl
placed slots.A d = refl
placed slots.B d = refl
placed slots.FirstPte d = refl
placed slots.SecondPte d = refl
placed slots.DataWord d = refl
placed slots.OldCsr d = refl
placed slots.Vector d = refl

pub in_order : SlotsAreInOrder
in_order = record { at = in_place; below = place_below; back = placed }

-- one place has one variable
pub same_slot : (s t : Slot) → slot_number s ≡ slot_number t → s ≡ t
same_slot s t e = sym (placed s slots.Op) ∙ ap (λ (n : ℕ). get_or SLOTS n slots.Op) e ∙ placed t slots.Op
