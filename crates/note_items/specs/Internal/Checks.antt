-- What is tested of items that were read.
use Rattle.std.specs.Prelude.{ℕ, ◌+◌, ◌%◌, List, [], ◌∷◌, Bool, true, false, ◌&&◌, ◌==◌, nat_lt, if◌then◌else◌}
use Rattle.rv_csr.specs.declared.table.Register.{Register}
use Rattle.rv_csr.specs.declared.table.Register.TheVariants.{Lazy}
use Rattle.rv_csr.specs.Table.{is_legal_at}
use Rattle.rv_script.specs.declared.access.Access.{Access}
use Rattle.tpl_ast.specs.declared.template.HartState.{HartState}
use Rattle.tpl_ast.specs.States.{is_key, is_legal_place}

abbrev pub is_lazy : Register → Bool
is_lazy (Lazy register) = true
is_lazy _ = false

-- a size of 1, 2 or 4 bytes, and a value that fits it
unfoldable pub is_access : Access → Bool
is_access a = if a.size == 1 then nat_lt a.value 256 else (if a.size == 2 then nat_lt a.value 65536 else a.size == 4)

-- the key of a lazy place, and a value that is legal for it
unfoldable pub is_place : ℕ × ℕ → Bool
is_place p = is_key p.0 && is_legal_place p

-- places with keys that ascend from a number on
abbrev pub are_places : ℕ → List (ℕ × ℕ) → Bool
are_places low [] = true
are_places low (p ∷ ps) = if nat_lt p.0 low then false else (if is_place p then are_places (p.0 + 1) ps else false)

unfoldable pub is_fixed : HartState → Bool
is_fixed s = if s.pc % 4 == 0 then (if is_legal_at 0x300 s.mstatus then (if is_legal_at 0x302 s.medeleg then is_legal_at 0x180 s.satp else false) else false) else false

unfoldable pub is_state : HartState → Bool
is_state s = if is_fixed s then are_places 0 s.places else false
