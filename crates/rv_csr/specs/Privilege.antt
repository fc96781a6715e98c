-- The privileges (Privileged, 1.2).
use Rattle.std.specs.Prelude.{ℕ, Bool, true, false, ◌==◌, if◌then◌else◌}
use Rattle.rv_csr.specs.declared.privilege.Priv.{Priv}
use Rattle.rv_csr.specs.declared.privilege.Priv.TheVariants.{U, S, M}

-- the encoding of a privilege; 2 is reserved
abbrev pub level_of : Priv → ℕ
level_of U = 0
level_of S = 1
level_of M = 3

-- the privilege of an encoding other than 2
abbrev pub privilege_at : ℕ → Priv
privilege_at level = if level == 0 then U else if level == 1 then S else M

abbrev pub is_machine : Priv → Bool
is_machine M = true
is_machine _ = false

abbrev pub is_supervisor : Priv → Bool
is_supervisor S = true
is_supervisor _ = false
