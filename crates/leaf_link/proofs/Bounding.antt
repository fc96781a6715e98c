-- The space of a leaf's problem, where data accesses are not translated.
use Rattle.std.proofs.Common.{◌≡◌, ℕ, zero, suc, ◌+◌, ◌*◌, ◌/◌, ◌%◌, ◌^◌, ◌<◌, ◌≤◌, ◌&&◌, ◌||◌, Bool, true, false, eqb, eqb-true, leb, ltb, if◌then◌else◌, max, List, [], ◌∷◌, length, map, filter, Option, Some, None, refl, sym, ap, ◌∙◌, subst, inl, inr, arith}
use Rattle.std.specs.List.{list_any}
use Rattle.std.proofs.lemmas.Bool.{and_parts, cases_Bool, cases_lt, eq-eqb, leb-true, ltb-true}
use Rattle.std.proofs.lemmas.Nat.{mul-le}
use Rattle.std.proofs.lemmas.List.{length-append}
use Rattle.std.proofs.lemmas.List.Elements.{filter-append}
use Rattle.dom_set.specs.Elements.{elements_of, numbers_below}
use Rattle.rv_isa.specs.declared.instruction.Instr.{Instr}
use Rattle.rv_isa.specs.declared.operation.Op.{Op}
use Rattle.rv_isa.specs.declared.operation.TheConstants.{OPS}
use Rattle.rv_isa.specs.declared.table.Row.{Row}
use Rattle.rv_isa.specs.declared.table.Row.TheVariants.{I, Shift, S, B, CsrImmediate, FenceSets, DefinedIllegal}
use Rattle.rv_isa.specs.Encoding.{sign_extended}
use Rattle.rv_isa.specs.Fields.{has_csr, has_rs1, has_rs2}
use Rattle.rv_isa.specs.Reading.{decoded}
use Rattle.rv_isa.specs.Table.{row_of}
use Rattle.rv_csr.specs.declared.table.Register.{Register}
use Rattle.rv_csr.specs.Table.{address_of, registers}
use Rattle.sv_walk.specs.Translation.{is_translated}
use Rattle.rv_hart.specs.Machine.{data_view}
use Rattle.tpl_ast.specs.declared.template.Atom.{Atom}
use Rattle.tpl_ast.specs.declared.template.Var.TheVariants as vars
use Rattle.fd_prob.specs.declared.slot.Slot.{Slot}
use Rattle.fd_prob.specs.declared.slot.Slot.TheVariants as slots
use Rattle.fd_prob.specs.Spaces.{has_csr_source, saturated, source_of, sum_of}
use Rattle.leaf_link.specs.Turns.{Turn}
use Rattle.leaf_link.specs.Cases.{all_tests, code_at, field_of, in_read, is_imm, or_no}
use Rattle.leaf_link.specs.Firsts.{allowed_by, counts_imm, data_pairs, data_space, domain_size, has_element, in_first_format, in_first_word, is_allowed, is_data_op, is_modelled, leaf_pages, op_space, size_if}
use Rattle.leaf_link.specs.Bounds.{SpaceIsBounded, greatest_space}

-- HOW MANY NUMBERS PASS A TEST
abbrev count : (ℕ → Bool) → ℕ → ℕ
count test n = length (filter test (numbers_below n))

abbrev one_if : Bool → ℕ
one_if true = 1
one_if false = 0

count_next : (test : ℕ → Bool) (n : ℕ) → count test (suc n) ≡ count test n + one_if (test n)
unfolding numbers_below
count_next test n =
    ap length (filter-append test (numbers_below n) (n ∷ [])) ∙ length-append (filter test (numbers_below n)) (filter test (n ∷ [])) ∙ ap (λ (m : ℕ). count test n + m) (last (test n) refl)
  where
    last : (b : Bool) → test n ≡ b → length (filter test (n ∷ [])) ≡ one_if (test n)
    last true h = simp h refl
    last false h = simp h refl

count_first : (test : ℕ → Bool) → count test zero ≡ 0
unfolding numbers_below
count_first test = refl

-- at most all
count_all : (test : ℕ → Bool) (n : ℕ) → count test n ≤ n
count_all test zero = let e = count_first test in omega (arith, e)
count_all test (suc n) = let e = count_next test n in let le = count_all test n in let few = at_most (test n) in omega (arith, e, le, few)
  where
    at_most : (b : Bool) → one_if b ≤ 1
    at_most true = omega arith
    at_most false = omega arith

-- what passes one test passes one of two others
count_either : (test one other : ℕ → Bool) (n : ℕ) → ((v : ℕ) → test v ≡ true → (one v || other v) ≡ true) → count test n ≤ count one n + count other n
count_either test one other zero h = let e = count_first test in omega (arith, e)
count_either test one other (suc n) h =
    let a = count_next test n in
    let b = count_next one n in
    let c = count_next other n in
    let le = count_either test one other n h in
    let here = go (test n) (one n) (other n) (h n) in omega (arith, a, b, c, le, here)
  where
    go : (p q r : Bool) → (p ≡ true → (q || r) ≡ true) → one_if p ≤ one_if q + one_if r
    go false q r h = omega arith
    go true true r h = omega arith
    go true false true h = omega arith
    go true false false h = absurd (cc (h refl))

-- one number
count_none : (m n : ℕ) → n ≤ m → count (λ v. eqb v m) n ≡ 0
count_none m zero le = count_first (λ v. eqb v m)
count_none m (suc n) le =
    let e = count_next (λ v. eqb v m) n in
    let rest = count_none m n (omega (arith, le)) in
    let off = differs (eqb n m) (λ h. let z : n ≡ m = eqb-true n m h in omega (arith, z, le)) in omega (arith, e, rest, off)
  where
    differs : (b : Bool) → (b ≡ true → ⊥) → one_if b ≡ 0
    differs true h = absurd (h refl)
    differs false h = refl

count_one : (m n : ℕ) → count (λ v. eqb v m) n ≤ 1
count_one m zero = let e = count_first (λ v. eqb v m) in omega (arith, e)
count_one m (suc n) =
    let e = count_next (λ v. eqb v m) n in
    let rest = count_one m n in
    go (eqb n m) e (λ h. let z : n ≡ m = eqb-true n m h in count_none m n (omega (arith, z))) rest
  where
    go : (b : Bool) → count (λ v. eqb v m) (suc n) ≡ count (λ v. eqb v m) n + one_if b → (b ≡ true → count (λ v. eqb v m) n ≡ 0) → count (λ v. eqb v m) n ≤ 1 → count (λ v. eqb v m) (suc n) ≤ 1
    go true e h rest = let z = h refl in omega (arith, e, z)
    go false e h rest = omega (arith, e, rest)

-- a value is one of the first so many of a family
record IsOneOf (f : ℕ → ℕ) (n v : ℕ) : Type 0 where
  place : ℕ
  below : place < n
  is : v ≡ f place

abbrev is_among : (ℕ → ℕ) → ℕ → ℕ → Bool
is_among f zero v = false
is_among f (suc n) v = eqb v (f n) || is_among f n v

none_pass : (n : ℕ) → count (λ v. false) n ≤ 0
none_pass zero = let e = count_first (λ v. false) in omega (arith, e)
none_pass (suc n) = let e = count_next (λ v. false) n in let le = none_pass n in omega (arith, e, le)

-- of which there are at most so many
among_few : (f : ℕ → ℕ) (k n : ℕ) → count (λ v. is_among f k v) n ≤ k
among_few f zero n = none_pass n
among_few f (suc k) n =
    let le = count_either (λ v. is_among f (suc k) v) (λ v. eqb v (f k)) (λ v. is_among f k v) n (λ v h. h) in
    let one = count_one (f k) n in
    let rest = among_few f k n in omega (arith, le, one, rest)

among : (f : ℕ → ℕ) (n v : ℕ) → IsOneOf f n v → is_among f n v ≡ true
among f zero v h = absurd (let less = h.below in omega (arith, less))
among f (suc n) v h = go (eqb v (f n)) refl (λ k. among f n v k)
  where
    earlier : eqb v (f n) ≡ false → IsOneOf f n v
    earlier e = elim (cases_lt h.place n) [
      | inl less ↦ record { place = h.place; below = less; is = h.is }
      | inr from ↦ absurd (let below = h.below in let same : h.place ≡ n = omega (arith, from, below) in let here : eqb v (f n) ≡ true = eq-eqb v (f n) (h.is ∙ ap f same) in cc)
    ]

    go : (b : Bool) → eqb v (f n) ≡ b → (IsOneOf f n v → is_among f n v ≡ true) → (b || is_among f n v) ≡ true
    go true e rest = refl
    go false e rest = rest (earlier e)

few_pass : (test : ℕ → Bool) (f : ℕ → ℕ) (k n : ℕ) → ((v : ℕ) → test v ≡ true → IsOneOf f k v) → count test n ≤ k
few_pass test f k n h =
    let le = count_either test (λ v. is_among f k v) (λ v. false) n (λ v p. ap (λ (b : Bool). b || false) (among f k v (h v p))) in
    let few = among_few f k n in
    let none = none_pass n in omega (arith, le, few, none)

-- the elements of a set
elements_few : (test : ℕ → Bool) (f : ℕ → ℕ) (k : ℕ) → ((v : ℕ) → test v ≡ true → IsOneOf f k v) → length (elements_of test) ≤ k
unfolding elements_of
elements_few test f k h = few_pass test f k (2 ^ 32) h

-- FIELDS
-- a field of a known word has one value, and else as many as the format has
field_few : (o : Option ℕ) (op : Op) (s : Slot) (extra : ℕ → Bool) (f : ℕ → ℕ) (k : ℕ) → 1 ≤ k → ((v : ℕ) → in_first_format op s v ≡ true → IsOneOf f k v) → length (elements_of (λ v. in_first_word o op s v && extra v)) ≤ k
field_few None op s extra f k some h = elements_few (λ v. in_first_format op s v && extra v) f k (λ v p. h v (and_parts (in_first_format op s v) (extra v) p).0)
field_few (Some w) op s extra f k some h = go (decoded w)
  where
    go : (d : Option Instr) → length (elements_of (λ v. in_read d s v && extra v)) ≤ k
    go None = elements_few (λ v. false && extra v) f k (λ v p. absurd (cc p))
    go (Some i) =
        let one = elements_few (λ v. eqb (field_of i s) v && extra v) (λ n. field_of i s) 1 (λ v p. record { place = 0; below = omega arith; is = sym (eqb-true (field_of i s) v (and_parts (eqb (field_of i s) v) (extra v) p).0) }) in omega (arith, one, some)

below_32 : (v : ℕ) → or_no true (ltb v 32) v ≡ true → IsOneOf (λ n. n) 32 v
below_32 v h = record { place = v; below = ltb-true v 32 h; is = refl }

-- the immediates of a format
abbrev imm_most : Row → ℕ
imm_most (I opcode funct3) = 4096
imm_most (S opcode funct3) = 4096
imm_most (B opcode funct3) = 4096
imm_most (Shift opcode funct3 funct7) = 32
imm_most (CsrImmediate opcode funct3) = 32
imm_most (FenceSets opcode funct3) = 256
imm_most DefinedIllegal = 2
imm_most row = 1

abbrev imm_at : Row → ℕ → ℕ
imm_at (I opcode funct3) n = sign_extended 12 n
imm_at (S opcode funct3) n = sign_extended 12 n
imm_at (B opcode funct3) n = sign_extended 13 (n * 2)
imm_at DefinedIllegal n = if eqb n 0 then 0 else 0xffff_ffff
imm_at row n = n

some_imm : (row : Row) → 1 ≤ imm_most row
some_imm (I opcode funct3) = omega arith
some_imm (S opcode funct3) = omega arith
some_imm (B opcode funct3) = omega arith
some_imm (Shift opcode funct3 funct7) = omega arith
some_imm (CsrImmediate opcode funct3) = omega arith
some_imm (FenceSets opcode funct3) = omega arith
some_imm DefinedIllegal = omega arith
some_imm _ = omega arith

imm_is : (row : Row) (v : ℕ) → counts_imm row ≡ true → is_imm row v ≡ true → IsOneOf (imm_at row) (imm_most row) v
imm_is (I opcode funct3) v counts h = record { place = v % 2 ^ 12; below = omega arith; is = eqb-true v (sign_extended 12 (v % 2 ^ 12)) h }
imm_is (S opcode funct3) v counts h = record { place = v % 2 ^ 12; below = omega arith; is = eqb-true v (sign_extended 12 (v % 2 ^ 12)) h }
imm_is (B opcode funct3) v counts h =
    let a = and_parts (eqb v (sign_extended 13 (v % 2 ^ 13))) (eqb (v % 2) 0) h in
    let even : v % 2 ≡ 0 = eqb-true (v % 2) 0 a.1 in
    let whole : v % 2 ^ 13 / 2 * 2 ≡ v % 2 ^ 13 = omega (arith, even) in
    record { place = v % 2 ^ 13 / 2; below = omega arith; is = eqb-true v (sign_extended 13 (v % 2 ^ 13)) a.0 ∙ ap (λ (n : ℕ). sign_extended 13 n) (sym whole) }
imm_is (Shift opcode funct3 funct7) v counts h = record { place = v; below = ltb-true v 32 h; is = refl }
imm_is (CsrImmediate opcode funct3) v counts h = record { place = v; below = ltb-true v 32 h; is = refl }
imm_is (FenceSets opcode funct3) v counts h = record { place = v; below = ltb-true v 256 h; is = refl }
imm_is DefinedIllegal v counts h = elim (cases_Bool (eqb v 0)) [
  | inl zero_is ↦ record { place = 0; below = omega arith; is = eqb-true v 0 zero_is }
  | inr other ↦ record { place = 1; below = omega arith; is = eqb-true v 0xffff_ffff (ap (λ (b : Bool). b || eqb v 0xffff_ffff) (sym other) ∙ h) }
]
imm_is _ v counts h = absurd (cc counts)

-- the addresses of the modelled registers
abbrev address_at : List Register → ℕ → ℕ
address_at [] n = 0
address_at (r ∷ rs) zero = address_of r
address_at (r ∷ rs) (suc n) = address_at rs n

one_address : (rs : List Register) (v : ℕ) → list_any (λ register. eqb (address_of register) v) rs ≡ true → IsOneOf (address_at rs) (length rs) v
one_address [] v h = absurd (cc h)
one_address (r ∷ rs) v h = go (eqb (address_of r) v) refl h (one_address rs v)
  where
    go : (b : Bool) → eqb (address_of r) v ≡ b → (b || list_any (λ register. eqb (address_of register) v) rs) ≡ true → (list_any (λ register. eqb (address_of register) v) rs ≡ true → IsOneOf (address_at rs) (length rs) v)
        → IsOneOf (address_at (r ∷ rs)) (suc (length rs)) v
    go true e h rest = record { place = 0; below = omega arith; is = sym (eqb-true (address_of r) v e) }
    go false e h rest = let k = rest h in record { place = suc k.place; below = (let less = k.below in omega (arith, less)); is = k.is }

one_of_fifteen : (v : ℕ) → is_modelled v ≡ true → IsOneOf (address_at registers) 15 v
one_of_fifteen v h = one_address registers v h

-- ONE OPERATION
size_most : (has : Bool) (size k : ℕ) → (has ≡ true → size ≤ k) → size_if has size ≤ size_if has k
size_most true size k h = h refl
size_most false size k h = omega arith

source_most : (op : Op) (n : ℕ) → source_of op n ≤ source_of op 4096
source_most op n = go (has_csr_source (row_of op)) (leb n 4096) refl
  where
    go : (has few : Bool) → leb n 4096 ≡ few → (if has && few then n else 1) ≤ (if has && true then 4096 else 1)
    go true true e = leb-true n 4096 e
    go true false e = omega arith
    go false few e = omega arith

op_most : Op → ℕ
op_most op =
    size_if (has_rs1 (row_of op)) 32 * size_if (has_rs2 (row_of op)) 32 * size_if (counts_imm (row_of op)) (imm_most (row_of op)) * size_if (has_csr (row_of op)) 15
    * source_of op 4096

fields_few : (t : Turn) (pa : ℕ) (leaf : List Atom) (op : Op) → op_space t pa leaf op ≤ op_most op
unfolding op_most
fields_few t pa leaf op =
    let o : Option ℕ = code_at t pa in
    let rs1 = size_most (has_rs1 (row_of op)) (domain_size t pa leaf op slots.Rs1) 32 (λ has. field_few o op slots.Rs1 (λ v. all_tests t leaf vars.Rs1 v) (λ n. n) 32 (omega arith) (λ v h. below_32 v (ap (λ (b : Bool). or_no b (ltb v 32) v) (sym has) ∙ h))) in
    let rs2 = size_most (has_rs2 (row_of op)) (domain_size t pa leaf op slots.Rs2) 32 (λ has. field_few o op slots.Rs2 (λ v. all_tests t leaf vars.Rs2 v) (λ n. n) 32 (omega arith) (λ v h. below_32 v (ap (λ (b : Bool). or_no b (ltb v 32) v) (sym has) ∙ h))) in
    let imm = size_most (counts_imm (row_of op)) (domain_size t pa leaf op slots.Imm) (imm_most (row_of op)) (λ has. field_few o op slots.Imm (λ v. all_tests t leaf vars.Imm v) (imm_at (row_of op)) (imm_most (row_of op)) (some_imm (row_of op)) (λ v h. imm_is (row_of op) v has h)) in
    let csr = size_most (has_csr (row_of op)) (domain_size t pa leaf op slots.Csr) 15 (λ has. field_few o op slots.Csr (λ v. all_tests t leaf vars.Csr v) (address_at registers) 15 (omega arith) (λ v h. one_of_fifteen v (ap (λ (b : Bool). or_no b (is_modelled v) v) (sym has) ∙ h))) in
    mul-le _ (source_of op (domain_size t pa leaf op slots.A)) _ (source_of op 4096)
    (mul-le _ _ _ _ (mul-le _ _ _ _ (mul-le _ _ _ _ rs1 rs2) imm) csr)
    (source_most op (domain_size t pa leaf op slots.A))

-- ALL OPERATIONS
all_few : (t : Turn) (pa : ℕ) (leaf : List Atom) (ops : List Op) → sum_of (map (op_space t pa leaf) (allowed_by t pa leaf ops)) ≤ sum_of (map op_most ops)
all_few t pa leaf [] = omega arith
all_few t pa leaf (op ∷ ops) = go (is_allowed t pa leaf op) (all_few t pa leaf ops)
  where
    go : (b : Bool) → sum_of (map (op_space t pa leaf) (allowed_by t pa leaf ops)) ≤ sum_of (map op_most ops) → sum_of (map (op_space t pa leaf) (if b then op ∷ allowed_by t pa leaf ops else allowed_by t pa leaf ops)) ≤ op_most op + sum_of (map op_most ops)
    go true rest = let here = fields_few t pa leaf op in omega (arith, rest, here)
    go false rest = omega (arith, rest)

op_sum : sum_of (map op_most OPS) ≡ 45_244_073
unfolding op_most
op_sum = refl

-- PAGES
data_few : (t : Turn) (leaf : List Atom) (ops : List Op) → is_translated (data_view t.fixed) ≡ false → data_space t leaf ops ≤ 2 ^ 20
data_few t leaf ops isnt = go (list_any is_data_op ops)
  where
    one_pair : data_pairs t ≡ 1
    one_pair = ap (λ (b : Bool). if b then max 1 (length t.tables + length t.pool * length t.flags) * max 1 (length t.pool * length t.flags) else 1) isnt

    few : leaf_pages t leaf ≤ 2 ^ 20
    few = count_all (has_element t leaf) (2 ^ 20)

    go : (b : Bool) → (if b then leaf_pages t leaf * data_pairs t else 0) ≤ 2 ^ 20
    go true = subst (λ (n : ℕ). leaf_pages t leaf * n ≤ 2 ^ 20) (sym one_pair) (let le = few in omega (arith, le))
    go false = omega arith

pub space_is_bounded : SpaceIsBounded
space_is_bounded t pa leaf isnt =
    let ops = all_few t pa leaf OPS in
    let pages = data_few t leaf (allowed_by t pa leaf OPS) isnt in
    let all = op_sum in
    let sum : sum_of (map (op_space t pa leaf) (allowed_by t pa leaf OPS)) + data_space t leaf (allowed_by t pa leaf OPS) ≤ greatest_space = omega (arith, ops, pages, all) in
    min_few _ sum
  where
    min_few : (n : ℕ) → n ≤ greatest_space → saturated n ≤ greatest_space
    min_few n h = omega (arith, h)
