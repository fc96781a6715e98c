-- Atoms that are true stay so where more registers are known.
use Rattle.std.proofs.Common.{◌≡◌, ℕ, ◌+◌, ◌%◌, ◌^◌, Bool, true, false, if◌then◌else◌, List, Option, Some, None, refl, sym, ap, ◌∙◌}
use Rattle.std.specs.Prelude.{option_map, slice_index_or, ◌||◌}
use Rattle.rv_isa.specs.declared.instruction.Instr.{Instr}
use Rattle.rv_isa.specs.declared.table.Row.{Row}
use Rattle.rv_isa.specs.Fields.{is_jump, is_load, is_store, reads_rs1, reads_rs2}
use Rattle.rv_isa.specs.Arithmetic.{is_branch}
use Rattle.rv_isa.specs.Table.{row_of}
use Rattle.rv_hart.specs.declared.record.Record.{Record}
use Rattle.rv_hart.specs.Machine.{even}
use Rattle.tpl_ast.specs.declared.template.Atom.{Atom}
use Rattle.tpl_ast.specs.declared.template.Atom.TheVariants as atoms
use Rattle.tpl_ast.specs.declared.template.Var.{Var}
use Rattle.tpl_ast.specs.declared.template.Var.TheVariants as vars
use Rattle.tpl_admit.specs.Truth.{are_different, are_same, condition, holds, is_among, is_apart, is_some_false, is_some_true}
use Rattle.tpl_admit.specs.Variables.{Moment, address_of, first_register, instruction_in, is_jalr, is_refused, offset, read_register, second_register, target_of, unless_refused, value_of}

-- what has a value has the same one
abbrev pub IsKnownIn : Option ℕ → Option ℕ → Type 0
IsKnownIn o p = (x : ℕ) → o ≡ Some x → p ≡ Some x

-- ---- functions that have no value without their arguments

lifted : (f : Option ℕ → Option ℕ) → f None ≡ None → (o p : Option ℕ) → IsKnownIn o p → IsKnownIn (f o) (f p)
lifted f none None p h y e = absurd (cc (sym none ∙ e))
lifted f none (Some x) p h y e = ap f (h x refl) ∙ e

one_true : (f : Option ℕ → Bool) → f None ≡ false → (o p : Option ℕ) → IsKnownIn o p → f o ≡ true → f p ≡ true
one_true f none None p h e = absurd (cc (sym none ∙ e))
one_true f none (Some x) p h e = ap f (h x refl) ∙ e

both_true : (f : Option ℕ → Option ℕ → Bool) → ((p : Option ℕ) → f None p ≡ false) → ((x : ℕ) → f (Some x) None ≡ false) → (o p u v : Option ℕ) → IsKnownIn o u → IsKnownIn p v → f o p ≡ true → f u v ≡ true
both_true f none second None p u v h k e = absurd (cc (sym (none p) ∙ e))
both_true f none second (Some x) None u v h k e = absurd (cc (sym (second x) ∙ e))
both_true f none second (Some x) (Some y) u v h k e = ap (λ (o : Option ℕ). f o v) (h x refl) ∙ ap (f (Some x)) (k y refl) ∙ e

either_same : (b : Bool) (o : Option ℕ) → (if b then o else o) ≡ o
either_same true o = refl
either_same false o = refl

module _ (d : Record) (less more : List (Option ℕ)) (names : ℕ → Option ℕ) (others : List (List Record)) (known : (i : ℕ) → IsKnownIn (slice_index_or less i None) (slice_index_or more i None)) where
  abbrev before : Moment
  before = record { done = d; regs = less; names = names; others = others }

  abbrev behind : Moment
  behind = record { done = d; regs = more; names = names; others = others }

  read_more : (reads : Row → Bool) (get : Instr → ℕ) (o : Option Instr) → IsKnownIn (read_register reads get before o) (read_register reads get behind o)
  read_more reads get None x h = absurd (cc h)
  read_more reads get (Some i) x h = go (reads (row_of i.op)) h
    where
      go : (b : Bool) → (if b then slice_index_or less (get i) None else None) ≡ Some x → (if b then slice_index_or more (get i) None else None) ≡ Some x
      go true h = known (get i) x h
      go false h = absurd (cc h)

  first_more : IsKnownIn (first_register before) (first_register behind)
  first_more = read_more reads_rs1 (λ i. i.rs1) (instruction_in d)

  second_more : IsKnownIn (second_register before) (second_register behind)
  second_more = read_more reads_rs2 (λ i. i.rs2) (instruction_in d)

  address_more : (o : Option Instr) → IsKnownIn (address_of before o) (address_of behind o)
  address_more None x h = absurd (cc h)
  address_more (Some i) x h = go (is_load (row_of i.op) || is_store (row_of i.op)) h
    where
      go : (b : Bool) → (if b then offset i.imm (first_register before) else None) ≡ Some x → (if b then offset i.imm (first_register behind) else None) ≡ Some x
      go true h = lifted (offset i.imm) refl (first_register before) (first_register behind) first_more x h
      go false h = absurd (cc h)

  target_more : (o : Option Instr) → IsKnownIn (target_of before o) (target_of behind o)
  target_more None x h = absurd (cc h)
  target_more (Some i) x h = go (is_branch i.op || is_jump (row_of i.op)) (is_jalr i.op) h
    where
      go : (b c : Bool) → (if b then Some ((d.pc + i.imm) % 2 ^ 32) else (if c then option_map even (offset i.imm (first_register before)) else None)) ≡ Some x
          → (if b then Some ((d.pc + i.imm) % 2 ^ 32) else (if c then option_map even (offset i.imm (first_register behind)) else None)) ≡ Some x
      go true c h = h
      go false true h = lifted (λ o. option_map even (offset i.imm o)) refl (first_register before) (first_register behind) first_more x h
      go false false h = absurd (cc h)

  value_more : (v : Var) → IsKnownIn (value_of v before) (value_of v behind)
  value_more vars.Op x h = h
  value_more vars.Rs1 x h = h
  value_more vars.Rs2 x h = h
  value_more vars.Rd x h = h
  value_more vars.Imm x h = h
  value_more vars.Csr x h = h
  value_more vars.Ea x h = address_more (instruction_in d) x h
  value_more vars.A x h = lifted (unless_refused d.outcome) (either_same (is_refused d.outcome) None) (first_register before) (first_register behind) first_more x h
  value_more vars.B x h = lifted (unless_refused d.outcome) (either_same (is_refused d.outcome) None) (second_register before) (second_register behind) second_more x h
  value_more vars.Pa x h = h
  value_more vars.Target x h = target_more (instruction_in d) x h
  value_more vars.Outcome x h = h

  taken_first : (o : Option Instr) (p : Option ℕ) → is_some_true (condition o None p) ≡ false
  taken_first None p = refl
  taken_first (Some i) p = refl

  taken_second : (o : Option Instr) (x : ℕ) → is_some_true (condition o (Some x) None) ≡ false
  taken_second None x = refl
  taken_second (Some i) x = refl

  not_taken_first : (o : Option Instr) (p : Option ℕ) → is_some_false (condition o None p) ≡ false
  not_taken_first None p = refl
  not_taken_first (Some i) p = refl

  not_taken_second : (o : Option Instr) (x : ℕ) → is_some_false (condition o (Some x) None) ≡ false
  not_taken_second None x = refl
  not_taken_second (Some i) x = refl

  named_more : (o p : Option ℕ) (named : Option ℕ) → IsKnownIn o p → are_same o named ≡ true → are_same p named ≡ true
  named_more None p named h e = absurd (cc e)
  named_more (Some x) p named h e = ap (λ (q : Option ℕ). are_same q named) (h x refl) ∙ e

  pub holds_more : (atom : Atom) → holds atom before ≡ true → holds atom behind ≡ true
  holds_more (atoms.In v set) h = one_true (is_among set) refl (value_of v before) (value_of v behind) (value_more v) h
  holds_more (atoms.NotIn v set) h = one_true (is_apart set) refl (value_of v before) (value_of v behind) (value_more v) h
  holds_more (atoms.Is v name) h = named_more (value_of v before) (value_of v behind) (names name) (value_more v) h
  holds_more (atoms.Same v u) h = both_true are_same (λ p. refl) (λ x. refl) (value_of v before) (value_of u before) (value_of v behind) (value_of u behind) (value_more v) (value_more u) h
  holds_more (atoms.Differ v u) h = both_true are_different (λ p. refl) (λ x. refl) (value_of v before) (value_of u before) (value_of v behind) (value_of u behind) (value_more v) (value_more u) h
  holds_more atoms.Taken h =
      both_true (λ o p. is_some_true (condition (instruction_in d) o p)) (taken_first (instruction_in d)) (taken_second (instruction_in d)) (first_register before) (second_register before) (first_register behind) (second_register behind) first_more second_more h
  holds_more atoms.NotTaken h =
      both_true (λ o p. is_some_false (condition (instruction_in d) o p)) (not_taken_first (instruction_in d)) (not_taken_second (instruction_in d)) (first_register before) (second_register before) (first_register behind) (second_register behind) first_more second_more h
  holds_more atoms.Shared h = h
