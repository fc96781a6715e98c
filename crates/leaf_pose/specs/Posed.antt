-- Cases that come to others, and what fits them.
use Rattle.std.specs.Prelude.{◌≡◌, true, false, List, [], ◌∷◌, ◌++◌, All}
use Rattle.rv_isa.specs.declared.operation.Op.{Op}
use Rattle.rv_script.specs.Lists.{HasItem}
use Rattle.tpl_ast.specs.declared.template.Atom.{Atom}
use Rattle.fd_prob.specs.declared.problem.Assignment.{Assignment}
use Rattle.fd_prob.specs.declared.problem.Case.{Case as ACase}
use Rattle.fd_prob.specs.Fitting.{IsCase, fits_case}
use Rattle.fd_prob.specs.Order.{IsAssignment}
use Rattle.leaf_link.specs.Values.{Values}
use Rattle.rv_isa.specs.Numbers.{op_number}
use Rattle.leaf_link.specs.Cases.{Case, FitsCase, Way as AWay, case_at}
use Rattle.leaf_link.specs.Answers.{values_in}
use Rattle.leaf_stand.specs.declared.shape.Shape.{Shape}
use Rattle.leaf_stand.specs.declared.stand.Stand.{Stand}
use Rattle.leaf_pose.specs.declared.shaped.Shaped.{Shaped}
use Rattle.leaf_stand.specs.Stands.{outcome_at, shape_at, turn_of}
use Rattle.leaf_stand.specs.Posed.{FitsSame, allows, is_data, is_posed_at, ways_at}
use Rattle.leaf_stand.specs.Kinds.{kind_of}

-- what came to the cases of a problem are those cases of the definition
abbrev pub FitsMore : List ACase → List ACase → List Case → Type 0
FitsMore old new ds = (es : List Case) → FitsSame old es → FitsSame new (es ++ ds)

-- WHERE WHAT FITS A CASE COMES FROM
-- values fit a way of the definition with this operation and this end, which is posed
pub record HasFitted (s : Stand) (leaf : List Atom) (shape : Shape) (x : Values) : Type 0 where
  pub whole : AWay
  pub is : HasItem (ways_at s leaf shape.op) whole
  pub outcome : whole.outcome ≡ outcome_at shape.end
  pub reaches : whole.reaches ≡ shape.reaches
  -- only loads and stores make data accesses
  pub inner : is_data (kind_of shape.op) ≡ false → shape.reaches ≡ false
  pub posed : is_posed_at s leaf (shape_at shape) ≡ true
  pub fits : FitsCase (case_at (turn_of s) 0 leaf shape.op whole) x

abbrev pub IsShaped : Stand → List Atom → Shape → ACase → Type 0
IsShaped s leaf shape c = (x : Assignment) → IsAssignment x → fits_case x c ≡ true → HasFitted s leaf shape (values_in x)

-- what fits a case is of the shape in its place
abbrev pub AreShaped : Stand → List Atom → List Shape → List ACase → Type 0
AreShaped s leaf [] [] = Unit {0}
AreShaped s leaf (shape ∷ shapes) (c ∷ cs) = IsShaped s leaf shape c × AreShaped s leaf shapes cs
AreShaped s leaf (shape ∷ shapes) [] = ⊥
AreShaped s leaf [] (c ∷ cs) = ⊥

-- the case is of an operation that is allowed
abbrev pub IsAllowedCase : Stand → List Atom → ACase → Type 0
IsAllowedCase s leaf c = (op : Op) → op_number op ≡ c.op → allows s leaf op ≡ true

-- cases came to others, each with its shape: what holds of all of them still does, and just the cases of the definition came
pub record Adds (s : Stand) (leaf : List Atom) (old new : Shaped) (ds : List Case) : Type 0 where
  pub shape : All IsCase old.cases → All IsCase new.cases
  pub shaped : AreShaped s leaf old.shapes old.cases → AreShaped s leaf new.shapes new.cases
  pub allowed : All (IsAllowedCase s leaf) old.cases → All (IsAllowedCase s leaf) new.cases
  pub fits : FitsMore old.cases new.cases ds
  pub rest : List ACase
  pub behind : new.cases ≡ old.cases ++ rest
