-- How numbers and names are written.
use Rattle.std.specs.Prelude.{ℕ, ◌-◌, ◌^◌, ◌==◌, List, [], ◌++◌, Option, Some, None, find, nat_lt, if◌then◌else◌, false, codes}
use Rattle.std.specs.Fmt.{padded_integral, format_spec, digits, decimal}
use Rattle.rv_script.specs.declared.access.Role.{Role}
use Rattle.rv_script.specs.declared.access.Role.TheVariants.{Fetch, Walk, Load, Store}
use Rattle.rv_csr.specs.declared.privilege.Priv.{Priv}
use Rattle.rv_csr.specs.declared.privilege.Priv.TheVariants.{U, S, M}
use Rattle.rv_csr.specs.declared.table.Register.{Register}
use Rattle.rv_csr.specs.Table.{address_of, csr_key, registers, row_of}

-- at least eight hexadecimal digits, which a word always fits
abbrev pub hex8 : ℕ → List ℕ
hex8 n = padded_integral (format_spec 32 0 4 8 (2 ^ 64 - 1)) false [] (digits 16 false n)

abbrev pub letter : Priv → List ℕ
letter U = codes "u"
letter S = codes "s"
letter M = codes "m"

abbrev pub role_name : Role → List ℕ
role_name Fetch = codes "fetch"
role_name Walk = codes "walk"
role_name Load = codes "load"
role_name Store = codes "store"

abbrev pub name_in : Option Register → List ℕ
name_in None = []
name_in (Some register) = (row_of register).name

-- the name of the CSR with a key
abbrev pub csr_name : ℕ → List ℕ
csr_name key = name_in (find (λ register. csr_key (address_of register) == key) registers)

-- the name of a lazy place of a hart by its key: a register's number, or that of a CSR
unfoldable pub place_name : ℕ → List ℕ
place_name key = if nat_lt key 32 then codes "x" ++ decimal key else csr_name key
