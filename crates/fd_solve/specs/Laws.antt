-- What the order of assignments is.
use Rattle.std.specs.Prelude.{◌≡◌, ℕ, ◌^◌, ◌<◌, ◌⊎◌, [], ◌∷◌}
use Rattle.fd_prob.specs.declared.problem.Assignment.{Assignment}
use Rattle.fd_prob.specs.declared.problem.Case.{Case}
use Rattle.fd_prob.specs.declared.problem.Problem.{Problem}
use Rattle.fd_prob.specs.declared.slot.Slot.{Slot}
use Rattle.rv_isa.specs.declared.operation.Op.TheVariants as ops
use Rattle.rv_isa.specs.declared.operation.TheConstants.{OPS}
use Rattle.fd_prob.specs.Fitting.{domain_of}
use Rattle.fd_prob.specs.Order.{ComesBefore, IsAssignment, draw_of, picked, pivot_of}
use Rattle.fd_prob.specs.Slots.{slot_number}
use Rattle.fd_solve.specs.Answers.{IsAnswer}
use Rattle.fd_solve.specs.declared.answers.Solved.{Solved}

-- what the draws pick in the domains of a case are words, as the elements of sets are
abbrev pub HasWordPicks : Problem → Case → Type 0
HasWordPicks p c = (s : Slot) → 0 < slot_number s → picked (draw_of p s) (domain_of c s) < 2 ^ 32

-- the pivots of a problem are words
abbrev pub ArePivotsWords : Problem → Type 0
ArePivotsWords p = (op : ℕ) (s : Slot) → pivot_of p op s < 2 ^ 32

-- no assignment comes before itself, what comes before what comes before a third comes before that, and of two assignments that are not one, one comes first
pub record OrderIsStrictAndTotal : Type 0 where
  pub itself : (p : Problem) (x : Assignment) → ComesBefore p x x → ⊥
  pub chain : (p : Problem) (x y z : Assignment) → ComesBefore p x y → ComesBefore p y z → ComesBefore p x z
  pub total : (p : Problem) (x y : Assignment) → ArePivotsWords p → IsAssignment x → IsAssignment y → ComesBefore p x y ⊎ ((x ≡ y) ⊎ ComesBefore p y x)

-- each problem has an answer under each budget
abbrev pub AnswersExist : Type 0
AnswersExist = (p : Problem) (nodes : ℕ) → (answer : Solved) × IsAnswer p nodes answer

-- two answers of a problem under one budget are the same
abbrev pub HasOneAnswer : Problem → ℕ → Type 0
HasOneAnswer p nodes = (a b : Solved) → IsAnswer p nodes a → IsAnswer p nodes b → a ≡ b

-- an operation's number is its place in this list, which is the table of instructions from top to bottom
abbrev pub OperationsAreInOrder : Type 0
OperationsAreInOrder =
    OPS ≡
    ops.Lui ∷ ops.Auipc ∷ ops.Jal ∷ ops.Jalr ∷
    ops.Beq ∷ ops.Bne ∷ ops.Blt ∷ ops.Bge ∷ ops.Bltu ∷ ops.Bgeu ∷
    ops.Lb ∷ ops.Lh ∷ ops.Lw ∷ ops.Lbu ∷ ops.Lhu ∷
    ops.Sb ∷ ops.Sh ∷ ops.Sw ∷
    ops.Addi ∷ ops.Slti ∷ ops.Sltiu ∷ ops.Xori ∷ ops.Ori ∷ ops.Andi ∷
    ops.Slli ∷ ops.Srli ∷ ops.Srai ∷
    ops.Add ∷ ops.Sub ∷ ops.Sll ∷ ops.Slt ∷ ops.Sltu ∷ ops.Xor ∷ ops.Srl ∷ ops.Sra ∷ ops.Or ∷ ops.And ∷
    ops.Fence ∷ ops.Ecall ∷ ops.Ebreak ∷
    ops.Mul ∷ ops.Mulh ∷ ops.Mulhsu ∷ ops.Mulhu ∷ ops.Div ∷ ops.Divu ∷ ops.Rem ∷ ops.Remu ∷
    ops.Csrrw ∷ ops.Csrrs ∷ ops.Csrrc ∷ ops.Csrrwi ∷ ops.Csrrsi ∷ ops.Csrrci ∷
    ops.Mret ∷ ops.Sret ∷ ops.SfenceVma ∷ ops.Illegal ∷ []
