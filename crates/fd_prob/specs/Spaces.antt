-- The space of a problem: the number that is compared with a budget.
use Rattle.std.specs.Prelude.{ℕ, zero, suc, ◌+◌, ◌-◌, ◌*◌, ◌/◌, ◌^◌, Bool, true, false, ◌&&◌, ◌==◌, nat_le, min, if◌then◌else◌, List, [], ◌∷◌, length, map, filter, find, filter_map, Option, Some, None}
use Rattle.std.specs.List.{list_any}
use Rattle.dom_set.specs.Elements.{is_in, numbers_below}
use Rattle.rv_isa.specs.declared.operation.Op.{Op}
use Rattle.rv_isa.specs.declared.table.Row.{Row}
use Rattle.rv_isa.specs.declared.table.Row.TheVariants.{R, I, Shift, S, B, U, J, Csr, CsrImmediate, FenceSets, AddressFence, Fixed, DefinedIllegal}
use Rattle.rv_isa.specs.Fields.{has_address}
use Rattle.rv_isa.specs.Table.{row_of}
use Rattle.fd_prob.specs.declared.problem.Case.{Case}
use Rattle.fd_prob.specs.declared.problem.Problem.{Problem}
use Rattle.fd_prob.specs.declared.slot.Slot.{Slot}
use Rattle.fd_prob.specs.declared.slot.Slot.TheVariants as slots
use Rattle.fd_prob.specs.Fitting.{domain_of}
use Rattle.rv_isa.specs.Numbers.{op_numbered}

-- a space ends at 2 ^ 64 - 1
abbrev pub saturated : ℕ → ℕ
saturated n = min n (2 ^ 64 - 1)

abbrev pub sum_of : List ℕ → ℕ
sum_of [] = 0
sum_of (n ∷ ns) = n + sum_of ns

abbrev pub product_of : List ℕ → ℕ
product_of [] = 1
product_of (n ∷ ns) = n * product_of ns

-- the fields of a format whose values count: rd never does, nor do the immediates of LUI, AUIPC and JAL
abbrev pub counted_fields : Row → List Slot
counted_fields (R opcode funct3 funct7) = slots.Rs1 ∷ slots.Rs2 ∷ []
counted_fields (I opcode funct3) = slots.Rs1 ∷ slots.Imm ∷ []
counted_fields (Shift opcode funct3 funct7) = slots.Rs1 ∷ slots.Imm ∷ []
counted_fields (S opcode funct3) = slots.Rs1 ∷ slots.Rs2 ∷ slots.Imm ∷ []
counted_fields (B opcode funct3) = slots.Rs1 ∷ slots.Rs2 ∷ slots.Imm ∷ []
counted_fields (U opcode) = []
counted_fields (J opcode) = []
counted_fields (Csr opcode funct3) = slots.Rs1 ∷ slots.Csr ∷ []
counted_fields (CsrImmediate opcode funct3) = slots.Imm ∷ slots.Csr ∷ []
counted_fields (FenceSets opcode funct3) = slots.Imm ∷ []
counted_fields (AddressFence opcode funct3 funct7) = slots.Rs1 ∷ slots.Rs2 ∷ []
counted_fields (Fixed word) = []
counted_fields DefinedIllegal = slots.Imm ∷ []

-- how many values a variable may have
abbrev pub size_in : Case → Slot → ℕ
size_in c s = length (domain_of c s)

-- CSRRW, CSRRS and CSRRC (Unprivileged, Zicsr)
abbrev pub has_csr_source : Row → Bool
has_csr_source (R opcode funct3 funct7) = false
has_csr_source (I opcode funct3) = false
has_csr_source (Shift opcode funct3 funct7) = false
has_csr_source (S opcode funct3) = false
has_csr_source (B opcode funct3) = false
has_csr_source (U opcode) = false
has_csr_source (J opcode) = false
has_csr_source (Csr opcode funct3) = true
has_csr_source (CsrImmediate opcode funct3) = false
has_csr_source (FenceSets opcode funct3) = false
has_csr_source (AddressFence opcode funct3 funct7) = false
has_csr_source (Fixed word) = false
has_csr_source DefinedIllegal = false

-- how many values rs1 has, where they are what an instruction writes to a control and status register and are 4,096 at most, and else 1
abbrev pub source_of : Op → ℕ → ℕ
source_of op values = if has_csr_source (row_of op) && nat_le values 4096 then values else 1

-- the product of what counts of one operation
unfoldable pub operation_space : Case → ℕ
operation_space c = let op = op_numbered c.op in product_of (map (size_in c) (counted_fields (row_of op))) * source_of op (size_in c slots.A)

-- so many numbers from the first up
unfoldable pub numbers_from : ℕ → ℕ → List ℕ
numbers_from first zero = []
numbers_from first (suc n) = first ∷ numbers_from (first + 1) n

-- a case that has its operation in its own domain
abbrev pub if_allowed : Option Case → Option Case
if_allowed None = None
if_allowed (Some c) = if is_in (domain_of c slots.Op) c.op then Some c else None

-- the first case of an operation, where the operation is allowed
unfoldable pub allowed_case : List Case → ℕ → Option Case
allowed_case cases op = if_allowed (find (λ c. c.op == op) cases)

-- the first case of each allowed operation, in the order of the operations
abbrev pub allowed_cases : Problem → List Case
allowed_cases p = filter_map (allowed_case p.cases) (numbers_from 0 58)

-- the case of a load or store
abbrev pub is_access : Case → Bool
is_access c = has_address (row_of (op_numbered c.op))

-- an address of the list lies in the page of 4,096 bytes with this number
abbrev pub has_page : List ℕ → ℕ → Bool
has_page addresses page = list_any (λ x. x / 4096 == page) addresses

-- how many of the first n pages have an address of the list
abbrev pub pages_below : ℕ → List ℕ → ℕ
pages_below n addresses = length (filter (has_page addresses) (numbers_below n))

-- of the 2 ^ 20 pages of 32-bit addresses
abbrev pub pages_of : List ℕ → ℕ
pages_of addresses = pages_below (2 ^ 20) addresses

-- how many pages have an address of a case
abbrev pub pages_in : Option Case → ℕ
pages_in None = 0
pages_in (Some c) = pages_of (domain_of c slots.Ea)

-- what loads and stores add, once for all: the pages of the first such operation by the pairs of page table entries
abbrev pub access_space : Problem → ℕ
access_space p = pages_in (find is_access (allowed_cases p)) * p.pairs

-- a fetch has its pairs of page table entries alone
abbrev pub space : Problem → ℕ
space p = if p.fetch then p.pairs else saturated (sum_of (map operation_space (allowed_cases p)) + access_space p)
