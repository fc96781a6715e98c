-- When an atom is true of a record.
use Rattle.std.specs.Prelude.{ℕ, ◌+◌, ◌-◌, ◌%◌, Bool, false, not, ◌&&◌, ◌==◌, nat_lt, List, Option, Some, None, if◌then◌else◌}
use Rattle.std.specs.List.{list_any}
use Rattle.dom_set.specs.Elements.{is_in}
use Rattle.rv_isa.specs.declared.instruction.Instr.{Instr}
use Rattle.rv_isa.specs.Arithmetic.{is_branch, is_taken}
use Rattle.rv_script.specs.declared.access.Access.{Access}
use Rattle.rv_hart.specs.declared.record.Record.{Record}
use Rattle.tpl_ast.specs.declared.template.Atom.{Atom}
use Rattle.tpl_ast.specs.declared.template.Atom.TheVariants as atoms
use Rattle.tpl_admit.specs.Variables.{Moment, data_address, first_register, instruction_in, is_data, second_register, value_of}

-- a value is in a set, or not; a variable without a value is neither
abbrev pub is_among : List ℕ → Option ℕ → Bool
is_among set None = false
is_among set (Some x) = is_in set x

abbrev pub is_apart : List ℕ → Option ℕ → Bool
is_apart set None = false
is_apart set (Some x) = not (is_in set x)

-- both have a value, the same one, or two
abbrev pub are_same : Option ℕ → Option ℕ → Bool
are_same (Some x) (Some y) = x == y
are_same _ _ = false

abbrev pub are_different : Option ℕ → Option ℕ → Bool
are_different (Some x) (Some y) = not (x == y)
are_different _ _ = false

-- the condition of a branch whose registers have values
abbrev pub condition : Option Instr → Option ℕ → Option ℕ → Option Bool
condition (Some i) (Some a) (Some b) = if is_branch i.op then Some (is_taken i.op a b) else None
condition _ _ _ = None

abbrev pub condition_on : Moment → Option Bool
condition_on m = condition (instruction_in m.done) (first_register m) (second_register m)

abbrev pub is_some_true : Option Bool → Bool
is_some_true None = false
is_some_true (Some b) = b

abbrev pub is_some_false : Option Bool → Bool
is_some_false None = false
is_some_false (Some b) = not b

-- an access to data has a byte in the block of 64 bytes that holds an address
abbrev pub touches : ℕ → Access → Bool
touches p a = is_data a.role && (nat_lt a.addr (p - p % 64 + 64) && nat_lt (p - p % 64) (a.addr + a.size))

abbrev pub record_touches : ℕ → Record → Bool
record_touches p r = list_any (touches p) r.accesses

abbrev pub trace_touches : ℕ → List Record → Bool
trace_touches p records = list_any (record_touches p) records

abbrev pub is_shared : List (List Record) → Option ℕ → Bool
is_shared others None = false
is_shared others (Some p) = list_any (trace_touches p) others

abbrev pub holds : Atom → Moment → Bool
holds (atoms.In v set) m = is_among set (value_of v m)
holds (atoms.NotIn v set) m = is_apart set (value_of v m)
holds (atoms.Is v name) m = are_same (value_of v m) (m.names name)
holds (atoms.Same v u) m = are_same (value_of v m) (value_of u m)
holds (atoms.Differ v u) m = are_different (value_of v m) (value_of u m)
holds atoms.Taken m = is_some_true (condition_on m)
holds atoms.NotTaken m = is_some_false (condition_on m)
holds atoms.Shared m = is_shared m.others (data_address m.done.accesses)
