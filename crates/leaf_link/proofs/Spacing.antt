-- The space and the pivots of a problem are those of the turn.
use Rattle.std.proofs.Common.{◌≡◌, ℕ, ◌+◌, ◌*◌, ◌<◌, if◌then◌else◌, cond, ◌&&◌, ◌||◌, ◌==◌, Bool, true, false, List, [], ◌∷◌, length, map, find, Option, Some, None, refl, sym, ap, ◌∙◌, subst, inl, inr, arith}
use Rattle.std.specs.List.{cons_option, filter_map, list_any}
use Rattle.std.proofs.lemmas.Bool.{cases_Bool, eqb-true}
use Rattle.std.proofs.lemmas.Option.{same_Some}
use Rattle.std.proofs.Math.Nat.{mul-one, one-mul, mul_assoc}
use Rattle.dom_set.specs.Elements.{elements_of, is_in}
use Rattle.dom_set.proofs.Sets.{elements_same, is_in-elements}
use Rattle.rv_isa.specs.declared.operation.Op.{Op}
use Rattle.rv_isa.specs.declared.operation.TheConstants.{OPS}
use Rattle.rv_isa.specs.declared.table.Row.{Row}
use Rattle.rv_isa.specs.declared.table.Row.TheVariants.{R, I, Shift, S, B, U, J, Csr as CsrRow, CsrImmediate, FenceSets, AddressFence, Fixed as Whole, DefinedIllegal}
use Rattle.rv_isa.specs.Fields.{has_csr, has_rs1, has_rs2, has_address}
use Rattle.rv_isa.specs.Table.{row_of}
use Rattle.tpl_ast.specs.declared.template.Atom.{Atom}
use Rattle.tpl_ast.specs.declared.template.Var.TheVariants as vars
use Rattle.fd_prob.specs.declared.problem.Case.{Case}
use Rattle.fd_prob.specs.declared.problem.Problem.{Problem}
use Rattle.fd_prob.specs.declared.slot.Slot.{Slot}
use Rattle.fd_prob.specs.declared.slot.Slot.TheVariants as slots
use Rattle.fd_prob.specs.Fitting.{domain_of}
use Rattle.fd_prob.specs.Order.{domain_in, draw_of, picked, pivot_of}
use Rattle.rv_isa.specs.Numbers.{op_numbered, op_number}
use Rattle.fd_prob.specs.Slots.{slot_number}
use Rattle.fd_prob.specs.Spaces.{access_space, allowed_case, allowed_cases, counted_fields, if_allowed, is_access, numbers_from, operation_space, pages_in, pages_of, product_of, saturated, size_in, source_of, sum_of}
use Rattle.leaf_link.specs.Turns.{Turn}
use Rattle.leaf_link.specs.Cases.{all_tests}
use Rattle.leaf_link.specs.Firsts.{AreFirsts, HasDraws, IsDomain, IsFirstOf, PivotsAreExact, SpaceIsExact, allowed_by, counts_imm, data_pairs, data_space, domain_list, domain_size, first_domain, first_of, is_allowed, is_data_op, leaf_draw, leaf_pages, op_space, size_if}
use Rattle.leaf_link.proofs.Numbers.{op_back}

pub domain_is : (xs : List ℕ) (test : ℕ → Bool) → IsDomain xs test → xs ≡ elements_of test
domain_is xs test h = h.is_set ∙ elements_same h.members test (λ v less. sym (is_in-elements h.members v less) ∙ ap (λ (ys : List ℕ). is_in ys v) (sym h.is_set) ∙ h.same v less)

-- a case is that of an allowed operation
pub record IsOf (t : Turn) (pa : ℕ) (leaf : List Atom) (o : Op) (c : Case) : Type 0 where
  pub number : c.op ≡ op_number o
  pub domains : (s : Slot) → 0 < slot_number s → domain_of c s ≡ domain_list t pa leaf o s

pub found_number : (n : ℕ) (cs : List Case) (c : Case) → find (λ c. c.op == n) cs ≡ Some c → c.op ≡ n
found_number n [] c h = absurd (cc)
found_number n (d ∷ cs) c h = go (d.op == n) refl h (found_number n cs c)
  where
    go : (b : Bool) → (d.op == n) ≡ b → cond b (Some d) (find (λ c. c.op == n) cs) ≡ Some c → (find (λ c. c.op == n) cs ≡ Some c → c.op ≡ n) → c.op ≡ n
    go true e h more = ap (λ (c : Case). c.op) (sym (same_Some d c h)) ∙ eqb-true d.op n e
    go false e h more = more h

-- the first case of an allowed operation
is_case : (t : Turn) (pa : ℕ) (leaf : List Atom) (p : Problem) → AreFirsts t pa leaf p → (op : Op) → is_allowed t pa leaf op ≡ true → (c : Case) × (first_of p op ≡ Some c) × (allowed_case p.cases (op_number op) ≡ Some c) × IsOf t pa leaf op c
unfolding allowed_case
is_case t pa leaf p firsts op is_yes = go (first_of p op) refl (firsts op)
  where
    go : (o : Option Case) → first_of p op ≡ o → IsFirstOf t pa leaf op o → (c : Case) × (first_of p op ≡ Some c) × (allowed_case p.cases (op_number op) ≡ Some c) × IsOf t pa leaf op c
    go None e f = absurd (cc)
    go (Some c) e f =
        let number : c.op ≡ op_number op = found_number (op_number op) p.cases c e in
        let inside : is_in (domain_of c slots.Op) c.op ≡ true = ap (λ (n : ℕ). is_in (domain_of c slots.Op) n) number ∙ f.allowed ∙ is_yes in
        let kept : if_allowed (Some c) ≡ Some c = ap (λ (b : Bool). if b then Some c else None) inside in
        (c, e, ap if_allowed e ∙ kept, record { number = number; domains = λ s h. domain_is (domain_of c s) (first_domain t pa leaf op s) (f.domains is_yes s h) })

-- an operation that is not allowed has no allowed case
no_case : (t : Turn) (pa : ℕ) (leaf : List Atom) (p : Problem) → AreFirsts t pa leaf p → (op : Op) → is_allowed t pa leaf op ≡ false → allowed_case p.cases (op_number op) ≡ None
unfolding allowed_case
no_case t pa leaf p firsts op is_no = go (first_of p op) refl (firsts op)
  where
    go : (o : Option Case) → first_of p op ≡ o → IsFirstOf t pa leaf op o → if_allowed (first_of p op) ≡ None
    go None e f = ap if_allowed e
    go (Some c) e f =
        let number : c.op ≡ op_number op = found_number (op_number op) p.cases c e in
        let outside : is_in (domain_of c slots.Op) c.op ≡ false = ap (λ (n : ℕ). is_in (domain_of c slots.Op) n) number ∙ f.allowed ∙ is_no in
        ap if_allowed e ∙ ap (λ (b : Bool). if b then Some c else None) outside

-- the allowed cases, in step with the allowed operations
pub InStep : Turn → ℕ → List Atom → List Case → List Op → Type 0
InStep t pa leaf [] [] = Unit {0}
InStep t pa leaf (c ∷ cs) (o ∷ os) = IsOf t pa leaf o c × InStep t pa leaf cs os
InStep t pa leaf [] (o ∷ os) = ⊥
InStep t pa leaf (c ∷ cs) [] = ⊥

in_step : (t : Turn) (pa : ℕ) (leaf : List Atom) (p : Problem) → AreFirsts t pa leaf p → (os : List Op) → InStep t pa leaf (filter_map (allowed_case p.cases) (map op_number os)) (allowed_by t pa leaf os)
unfolding InStep
in_step t pa leaf p firsts [] = tt
in_step t pa leaf p firsts (o ∷ os) = elim (cases_Bool (is_allowed t pa leaf o)) [
  | inl is_yes ↦
      let c = is_case t pa leaf p firsts o is_yes in
      let left : filter_map (allowed_case p.cases) (map op_number (o ∷ os)) ≡ c.0 ∷ filter_map (allowed_case p.cases) (map op_number os) = ap (λ (x : Option Case). cons_option x (filter_map (allowed_case p.cases) (map op_number os))) c.2 in
      let right : allowed_by t pa leaf (o ∷ os) ≡ o ∷ allowed_by t pa leaf os = ap (λ (b : Bool). cond b (o ∷ allowed_by t pa leaf os) (allowed_by t pa leaf os)) is_yes in
      subst (λ (cs : List Case). InStep t pa leaf cs (allowed_by t pa leaf (o ∷ os))) (sym left) (subst (λ (ys : List Op). InStep t pa leaf (c.0 ∷ filter_map (allowed_case p.cases) (map op_number os)) ys) (sym right) (c.3, in_step t pa leaf p firsts os))
  | inr is_no ↦
      let left : filter_map (allowed_case p.cases) (map op_number (o ∷ os)) ≡ filter_map (allowed_case p.cases) (map op_number os) = ap (λ (x : Option Case). cons_option x (filter_map (allowed_case p.cases) (map op_number os))) (no_case t pa leaf p firsts o is_no) in
      let right : allowed_by t pa leaf (o ∷ os) ≡ allowed_by t pa leaf os = ap (λ (b : Bool). cond b (o ∷ allowed_by t pa leaf os) (allowed_by t pa leaf os)) is_no in
      subst (λ (cs : List Case). InStep t pa leaf cs (allowed_by t pa leaf (o ∷ os))) (sym left) (subst (λ (ys : List Op). InStep t pa leaf (filter_map (allowed_case p.cases) (map op_number os)) ys) (sym right) (in_step t pa leaf p firsts os))
]

all_numbers : numbers_from 0 58 ≡ map op_number OPS
unfolding numbers_from op_number
all_numbers = refl

pub cases_in_step : (t : Turn) (pa : ℕ) (leaf : List Atom) (p : Problem) → AreFirsts t pa leaf p → InStep t pa leaf (allowed_cases p) (allowed_by t pa leaf OPS)
cases_in_step t pa leaf p firsts = subst (λ (ns : List ℕ). InStep t pa leaf (filter_map (allowed_case p.cases) ns) (allowed_by t pa leaf OPS)) (sym all_numbers) (in_step t pa leaf p firsts OPS)

-- THE PRODUCT OF AN OPERATION
product_is : (row : Row) (f : Slot → ℕ) → product_of (map f (counted_fields row)) ≡ size_if (has_rs1 row) (f slots.Rs1) * size_if (has_rs2 row) (f slots.Rs2) * size_if (counts_imm row) (f slots.Imm) * size_if (has_csr row) (f slots.Csr)
product_is (R opcode funct3 funct7) f = grind (arith, mul-one, one-mul, mul_assoc)
product_is (I opcode funct3) f = grind (arith, mul-one, one-mul, mul_assoc)
product_is (Shift opcode funct3 funct7) f = grind (arith, mul-one, one-mul, mul_assoc)
product_is (S opcode funct3) f = grind (arith, mul-one, one-mul, mul_assoc)
product_is (B opcode funct3) f = grind (arith, mul-one, one-mul, mul_assoc)
product_is (U opcode) f = grind (arith, mul-one, one-mul, mul_assoc)
product_is (J opcode) f = grind (arith, mul-one, one-mul, mul_assoc)
product_is (CsrRow opcode funct3) f = grind (arith, mul-one, one-mul, mul_assoc)
product_is (CsrImmediate opcode funct3) f = grind (arith, mul-one, one-mul, mul_assoc)
product_is (FenceSets opcode funct3) f = grind (arith, mul-one, one-mul, mul_assoc)
product_is (AddressFence opcode funct3 funct7) f = grind (arith, mul-one, one-mul, mul_assoc)
product_is (Whole bits) f = grind (arith, mul-one, one-mul, mul_assoc)
product_is DefinedIllegal f = grind (arith, mul-one, one-mul, mul_assoc)

op_is : (t : Turn) (pa : ℕ) (leaf : List Atom) (o : Op) (c : Case) → IsOf t pa leaf o c → op_numbered c.op ≡ o
op_is t pa leaf o c h = ap op_numbered h.number ∙ op_back o

size_is : (t : Turn) (pa : ℕ) (leaf : List Atom) (o : Op) (c : Case) → IsOf t pa leaf o c → (s : Slot) → 0 < slot_number s → size_in c s ≡ domain_size t pa leaf o s
size_is t pa leaf o c h s pos = ap (λ (xs : List ℕ). length xs) (h.domains s pos)

space_is : (t : Turn) (pa : ℕ) (leaf : List Atom) (o : Op) (c : Case) → IsOf t pa leaf o c → operation_space c ≡ op_space t pa leaf o
unfolding operation_space
space_is t pa leaf o c h =
    ap (λ (q : Op). product_of (map (size_in c) (counted_fields (row_of q))) * source_of q (size_in c slots.A)) (op_is t pa leaf o c h)
    ∙ ap (λ (n : ℕ). n * source_of o (size_in c slots.A)) (product_is (row_of o) (size_in c))
    ∙ ap (λ (n : ℕ). size_if (has_rs1 (row_of o)) n * size_if (has_rs2 (row_of o)) (size_in c slots.Rs2) * size_if (counts_imm (row_of o)) (size_in c slots.Imm) * size_if (has_csr (row_of o)) (size_in c slots.Csr) * source_of o (size_in c slots.A)) (size_is t pa leaf o c h slots.Rs1 (omega arith))
    ∙ ap (λ (n : ℕ). size_if (has_rs1 (row_of o)) (domain_size t pa leaf o slots.Rs1) * size_if (has_rs2 (row_of o)) n * size_if (counts_imm (row_of o)) (size_in c slots.Imm) * size_if (has_csr (row_of o)) (size_in c slots.Csr) * source_of o (size_in c slots.A)) (size_is t pa leaf o c h slots.Rs2 (omega arith))
    ∙ ap (λ (n : ℕ). size_if (has_rs1 (row_of o)) (domain_size t pa leaf o slots.Rs1) * size_if (has_rs2 (row_of o)) (domain_size t pa leaf o slots.Rs2) * size_if (counts_imm (row_of o)) n * size_if (has_csr (row_of o)) (size_in c slots.Csr) * source_of o (size_in c slots.A)) (size_is t pa leaf o c h slots.Imm (omega arith))
    ∙ ap (λ (n : ℕ). size_if (has_rs1 (row_of o)) (domain_size t pa leaf o slots.Rs1) * size_if (has_rs2 (row_of o)) (domain_size t pa leaf o slots.Rs2) * size_if (counts_imm (row_of o)) (domain_size t pa leaf o slots.Imm) * size_if (has_csr (row_of o)) n * source_of o (size_in c slots.A)) (size_is t pa leaf o c h slots.Csr (omega arith))
    ∙ ap (λ (n : ℕ). size_if (has_rs1 (row_of o)) (domain_size t pa leaf o slots.Rs1) * size_if (has_rs2 (row_of o)) (domain_size t pa leaf o slots.Rs2) * size_if (counts_imm (row_of o)) (domain_size t pa leaf o slots.Imm) * size_if (has_csr (row_of o)) (domain_size t pa leaf o slots.Csr) * source_of o n) (size_is t pa leaf o c h slots.A (omega arith))

-- SUMS
sums_are : (t : Turn) (pa : ℕ) (leaf : List Atom) (cs : List Case) (os : List Op) → InStep t pa leaf cs os → sum_of (map operation_space cs) ≡ sum_of (map (op_space t pa leaf) os)
unfolding InStep
sums_are t pa leaf [] [] h = refl
sums_are t pa leaf (c ∷ cs) (o ∷ os) h =
    ap (λ (n : ℕ). n + sum_of (map operation_space cs)) (space_is t pa leaf o c h.0) ∙ ap (λ (n : ℕ). op_space t pa leaf o + n) (sums_are t pa leaf cs os h.1)
sums_are t pa leaf [] (o ∷ os) h = absurd h
sums_are t pa leaf (c ∷ cs) [] h = absurd h

ops_are : (t : Turn) (pa : ℕ) (leaf : List Atom) (cs : List Case) (os : List Op) → InStep t pa leaf cs os → map (λ (c : Case). c.op) cs ≡ map op_number os
unfolding InStep
ops_are t pa leaf [] [] h = refl
ops_are t pa leaf (c ∷ cs) (o ∷ os) h = ap (λ (n : ℕ). n ∷ map (λ (c : Case). c.op) cs) h.0.number ∙ ap (λ (ns : List ℕ). op_number o ∷ ns) (ops_are t pa leaf cs os h.1)
ops_are t pa leaf [] (o ∷ os) h = absurd h
ops_are t pa leaf (c ∷ cs) [] h = absurd h

-- LOADS AND STORES
access_is : (t : Turn) (pa : ℕ) (leaf : List Atom) (o : Op) (c : Case) → IsOf t pa leaf o c → is_access c ≡ is_data_op o
access_is t pa leaf o c h = ap (λ (q : Op). has_address (row_of q)) (op_is t pa leaf o c h)

pages_are : (t : Turn) (pa : ℕ) (leaf : List Atom) (o : Op) (c : Case) → IsOf t pa leaf o c → is_data_op o ≡ true → pages_of (domain_of c slots.Ea) ≡ leaf_pages t leaf
pages_are t pa leaf o c h is_yes =
    ap (λ (xs : List ℕ). pages_of xs) (h.domains slots.Ea (omega arith) ∙ elements_same (first_domain t pa leaf o slots.Ea) (all_tests t leaf vars.Ea) (λ v less. ap (λ (b : Bool). Rattle.leaf_link.specs.Cases.or_no b true v && all_tests t leaf vars.Ea v) is_yes))

access_space_is : (t : Turn) (pa : ℕ) (leaf : List Atom) (cs : List Case) (os : List Op) → InStep t pa leaf cs os → pages_in (find is_access cs) * data_pairs t ≡ data_space t leaf os
unfolding InStep
access_space_is t pa leaf [] [] h = omega (arith, Rattle.std.proofs.Math.Nat.mul-zero (data_pairs t))
access_space_is t pa leaf (c ∷ cs) (o ∷ os) h = go (is_data_op o) refl (access_is t pa leaf o c h.0) (access_space_is t pa leaf cs os h.1)
  where
    go : (b : Bool) → is_data_op o ≡ b → is_access c ≡ is_data_op o → pages_in (find is_access cs) * data_pairs t ≡ data_space t leaf os → pages_in (cond (is_access c) (Some c) (find is_access cs)) * data_pairs t ≡ (if is_data_op o || list_any is_data_op os then leaf_pages t leaf * data_pairs t else 0)
    go true e a more =
        ap (λ (b : Bool). pages_in (cond b (Some c) (find is_access cs)) * data_pairs t) (a ∙ e)
        ∙ ap (λ (n : ℕ). n * data_pairs t) (pages_are t pa leaf o c h.0 e)
        ∙ ap (λ (b : Bool). if b || list_any is_data_op os then leaf_pages t leaf * data_pairs t else 0) (sym e)
    go false e a more =
        ap (λ (b : Bool). pages_in (cond b (Some c) (find is_access cs)) * data_pairs t) (a ∙ e)
        ∙ more
        ∙ ap (λ (b : Bool). if b || list_any is_data_op os then leaf_pages t leaf * data_pairs t else 0) (sym e)
access_space_is t pa leaf [] (o ∷ os) h = absurd h
access_space_is t pa leaf (c ∷ cs) [] h = absurd h

pub space_is_exact : SpaceIsExact
space_is_exact t pa leaf p f pairs firsts =
    let h = cases_in_step t pa leaf p firsts in
    ap (λ (b : Bool). if b then p.pairs else saturated (sum_of (map operation_space (allowed_cases p)) + access_space p)) f
    ∙ ap (λ (n : ℕ). saturated (n + access_space p)) (sums_are t pa leaf (allowed_cases p) (allowed_by t pa leaf OPS) h)
    ∙ ap (λ (n : ℕ). saturated (sum_of (map (op_space t pa leaf) (allowed_by t pa leaf OPS)) + pages_in (find is_access (allowed_cases p)) * n)) pairs
    ∙ ap (λ (n : ℕ). saturated (sum_of (map (op_space t pa leaf) (allowed_by t pa leaf OPS)) + n)) (access_space_is t pa leaf (allowed_cases p) (allowed_by t pa leaf OPS) h)

-- PIVOTS
other_pivot : (t : Turn) (pa : ℕ) (leaf : List Atom) (draws : List ℕ) (p : Problem) → HasDraws draws p → AreFirsts t pa leaf p → (op : Op) → is_allowed t pa leaf op ≡ true → (s : Slot) → 0 < slot_number s
    → picked (draw_of p s) (domain_in (find (λ c. c.op == op_number op) p.cases) s) ≡ picked (leaf_draw draws s) (domain_list t pa leaf op s)
other_pivot t pa leaf draws p has firsts op is_yes s pos =
    let c = is_case t pa leaf p firsts op is_yes in
    ap (λ (o : Option Case). picked (draw_of p s) (domain_in o s)) c.1 ∙ ap (λ (xs : List ℕ). picked (draw_of p s) xs) (c.3.domains s pos) ∙ ap (λ (d : ℕ). picked d (domain_list t pa leaf op s)) (has s)

pub pivots_are_exact : PivotsAreExact
unfolding pivot_of
pivots_are_exact t pa leaf draws p has firsts op is_yes slots.Op =
    ap (λ (ns : List ℕ). picked (draw_of p slots.Op) ns) (ops_are t pa leaf (allowed_cases p) (allowed_by t pa leaf OPS) (cases_in_step t pa leaf p firsts))
    ∙ ap (λ (d : ℕ). picked d (map op_number (allowed_by t pa leaf OPS))) (has slots.Op)
pivots_are_exact t pa leaf draws p has firsts op is_yes slots.Rs1 = other_pivot t pa leaf draws p has firsts op is_yes slots.Rs1 (omega arith)
pivots_are_exact t pa leaf draws p has firsts op is_yes slots.Rs2 = other_pivot t pa leaf draws p has firsts op is_yes slots.Rs2 (omega arith)
pivots_are_exact t pa leaf draws p has firsts op is_yes slots.Imm = other_pivot t pa leaf draws p has firsts op is_yes slots.Imm (omega arith)
pivots_are_exact t pa leaf draws p has firsts op is_yes slots.Rd = other_pivot t pa leaf draws p has firsts op is_yes slots.Rd (omega arith)
pivots_are_exact t pa leaf draws p has firsts op is_yes slots.Csr = other_pivot t pa leaf draws p has firsts op is_yes slots.Csr (omega arith)
pivots_are_exact t pa leaf draws p has firsts op is_yes slots.Ea = other_pivot t pa leaf draws p has firsts op is_yes slots.Ea (omega arith)
pivots_are_exact t pa leaf draws p has firsts op is_yes slots.A = other_pivot t pa leaf draws p has firsts op is_yes slots.A (omega arith)
pivots_are_exact t pa leaf draws p has firsts op is_yes slots.B = other_pivot t pa leaf draws p has firsts op is_yes slots.B (omega arith)
pivots_are_exact t pa leaf draws p has firsts op is_yes slots.FirstPte = other_pivot t pa leaf draws p has firsts op is_yes slots.FirstPte (omega arith)
pivots_are_exact t pa leaf draws p has firsts op is_yes slots.SecondPte = other_pivot t pa leaf draws p has firsts op is_yes slots.SecondPte (omega arith)
pivots_are_exact t pa leaf draws p has firsts op is_yes slots.DataWord = other_pivot t pa leaf draws p has firsts op is_yes slots.DataWord (omega arith)
pivots_are_exact t pa leaf draws p has firsts op is_yes slots.OldCsr = other_pivot t pa leaf draws p has firsts op is_yes slots.OldCsr (omega arith)
pivots_are_exact t pa leaf draws p has firsts op is_yes slots.Vector = other_pivot t pa leaf draws p has firsts op is_yes slots.Vector (omega arith)
