-- What a test keeps of its template.
use Rattle.std.specs.Prelude.{◌≡◌, ℕ, ◌*◌, All, length}
use Rattle.rv_mem.specs.Ram.{in_ram}
use Rattle.tpl_ast.specs.declared.template.Template.{Template}
use Rattle.tpl_ast.specs.States.{is_in_ram}
use Rattle.part_state.specs.State.{State, Test, tests}

-- it has the template's RAM, and as many harts and names
pub record IsOf (t : Template) (x : Test) : Type 0 where
  pub ram : (n : ℕ) → is_in_ram t.ram (n * 4) ≡ in_ram x.ram n
  pub harts : length x.harts ≡ length t.harts
  pub names : length x.names ≡ length t.names

-- so do all earlier ones
abbrev pub AreOf : Template → State → Type 0
AreOf t s = All (IsOf t) (tests s)
