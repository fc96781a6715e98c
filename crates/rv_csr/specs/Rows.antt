-- What a row of the table of registers says.
use Rattle.std.specs.Prelude.{ℕ, List}
use Rattle.rv_csr.specs.declared.table.Values.{Values}

-- a register's name, its address in CSR instructions and its legal values
pub record TableRow : Type 0 where
  pub name : List ℕ
  pub address : ℕ
  pub values : Values
