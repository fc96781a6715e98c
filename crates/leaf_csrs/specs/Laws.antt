-- The ways of registers and usages are together those of the definition.
use Rattle.std.specs.Prelude.{◌≡◌, Bool, true}
use Rattle.rv_isa.specs.declared.operation.Op.{Op}
use Rattle.rv_isa.specs.Table.{row_of}
use Rattle.rv_csr.specs.declared.table.Register.{Register}
use Rattle.rv_csr.specs.Table.{registers}
use Rattle.rv_script.specs.Lists.{HasItem}
use Rattle.leaf_link.specs.Values.{Values, has_csr_operand}
use Rattle.leaf_link.specs.Ways.{FitsWay, IsOf}
use Rattle.leaf_stand.specs.declared.stand.Stand.{Stand}
use Rattle.leaf_csrs.specs.declared.usage.Usage.{Usage}
use Rattle.leaf_csrs.specs.Usages.{denied_way, granted_way, has_source, refused_way, usage_way, usages_of}

-- what fits a usage of a register is granted
abbrev pub UsagesAreGranted : Type 0
UsagesAreGranted =
    (s : Stand) (op : Op) → has_csr_operand (row_of op) ≡ true → (register : Register) (usage : Usage) → HasItem registers register → HasItem (usages_of s op register) usage
    → (x : Values) → IsOf op x → FitsWay (usage_way s op register usage) x → FitsWay (granted_way s op) x × (has_source s op x ≡ true)

-- a register, and a usage of it that values fit
pub record HasUsage (s : Stand) (op : Op) (x : Values) : Type 0 where
  pub register : Register
  pub usage : Usage
  pub register_is : HasItem registers register
  pub usage_is : HasItem (usages_of s op register) usage
  pub fits : FitsWay (usage_way s op register usage) x

-- and what is granted fits one
abbrev pub GrantedAreUsages : Type 0
GrantedAreUsages =
    (s : Stand) (op : Op) → has_csr_operand (row_of op) ≡ true → (x : Values) → IsOf op x → FitsWay (granted_way s op) x → has_source s op x ≡ true → HasUsage s op x

-- what is refused by what it accesses, or since it writes what may only be read, is denied
abbrev pub RefusedAreDenied : Type 0
RefusedAreDenied =
    (s : Stand) (op : Op) → has_csr_operand (row_of op) ≡ true → (written : Bool) (x : Values) → IsOf op x → FitsWay (refused_way s op written) x → FitsWay (denied_way s) x

pub record IsRefused (s : Stand) (op : Op) (x : Values) : Type 0 where
  pub written : Bool
  pub fits : FitsWay (refused_way s op written) x

abbrev pub DeniedAreRefused : Type 0
DeniedAreRefused =
    (s : Stand) (op : Op) → has_csr_operand (row_of op) ≡ true → (x : Values) → IsOf op x → FitsWay (denied_way s) x → IsRefused s op x
