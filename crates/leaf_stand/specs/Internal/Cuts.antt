-- What atoms leave of each variable.
use Rattle.std.specs.Prelude.{◌≡◌, ℕ, ◌<◌, ◌^◌, Bool, true, ◌&&◌, ◌==◌, if◌then◌else◌, List, [], ◌∷◌, Option, Some, None}
use Rattle.tpl_ast.specs.declared.template.Atom.{Atom}
use Rattle.tpl_ast.specs.declared.template.Var.{Var}
use Rattle.tpl_ast.specs.declared.template.Var.TheVariants as vars
use Rattle.fd_prob.specs.declared.slot.Slot.{Slot}
use Rattle.fd_prob.specs.declared.slot.Slot.TheVariants as slots
use Rattle.fd_prob.specs.Slots.{slot_number}
use Rattle.leaf_link.specs.Problems.{bias_cut}
use Rattle.leaf_link.specs.Extras.{passes_cuts}
use Rattle.leaf_stand.specs.declared.stand.Stand.{Stand}
use Rattle.leaf_stand.specs.Stands.{turn_of}

-- the variable of atoms for one of problems
abbrev pub var_of : Slot → Option Var
var_of slots.Op = Some vars.Op
var_of slots.Rs1 = Some vars.Rs1
var_of slots.Rs2 = Some vars.Rs2
var_of slots.Imm = Some vars.Imm
var_of slots.Rd = Some vars.Rd
var_of slots.Csr = Some vars.Csr
var_of slots.Ea = Some vars.Ea
var_of slots.A = Some vars.A
var_of slots.B = Some vars.B
var_of _ = None

-- what the cut of one variable lets through
abbrev pub cut_of : Stand → List Atom → Slot → Slot → ℕ → Bool
cut_of s bias slot r v = if slot_number slot == slot_number r then bias_cut (turn_of s) bias slot v else true

abbrev pub cuts_of : Stand → List Atom → List Slot → Slot → ℕ → Bool
cuts_of s bias [] r v = true
cuts_of s bias (slot ∷ rest) r v = cut_of s bias slot r v && cuts_of s bias rest r v

-- the cut of a variable came to others
abbrev pub AddsCut : Stand → List Atom → Slot → List (Slot × List ℕ) → List (Slot × List ℕ) → Type 0
AddsCut s bias slot old new = (r : Slot) (v : ℕ) → v < 2 ^ 32 → passes_cuts new r v ≡ (passes_cuts old r v && cut_of s bias slot r v)

abbrev pub AreCuts : Stand → List Atom → List (Slot × List ℕ) → Type 0
AreCuts s bias cuts = (r : Slot) (v : ℕ) → v < 2 ^ 32 → passes_cuts cuts r v ≡ bias_cut (turn_of s) bias r v
