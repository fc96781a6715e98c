-- First cases: for each operation that is allowed a case that nothing fits, with the domains that count for space and order.
use Rattle.std.specs.Prelude.{◌≡◌, Bool, true, false, List, [], ◌∷◌, ◌++◌}
use Rattle.rv_isa.specs.declared.operation.Op.{Op}
use Rattle.tpl_ast.specs.declared.template.Atom.{Atom}
use Rattle.fd_prob.specs.declared.problem.Case.{Case as ACase}
use Rattle.leaf_pose.specs.declared.shaped.Shaped.{Shaped}
use Rattle.leaf_stand.specs.declared.stand.Stand.{Stand}
use Rattle.leaf_pose.specs.Posed.{Adds}
use Rattle.leaf_stand.specs.Posed.{allows}
use Rattle.leaf_stand.specs.Internal.FirstCases.{IsFirstCase}

-- a first case where the operation is allowed, and then others
abbrev pub HasFirst : Stand → List Atom → Op → Bool → (List ACase → Type 0) → List ACase → Type 0
HasFirst s leaf op false Rest cs = Rest cs
HasFirst s leaf op true Rest [] = ⊥
HasFirst s leaf op true Rest (c ∷ cs) = IsFirstCase s leaf op c × Rest cs

abbrev pub IsNothing : List ACase → Type 0
IsNothing cs = cs ≡ []

-- a first case for each operation that is allowed, in their order
abbrev pub AreFirstCases : Stand → List Atom → List Op → List ACase → Type 0
AreFirstCases s leaf [] = IsNothing
AreFirstCases s leaf (op ∷ ops) = HasFirst s leaf op (allows s leaf op) (AreFirstCases s leaf ops)

-- first cases of operations came to others
pub record AddsFirsts (s : Stand) (leaf : List Atom) (ops : List Op) (old new : Shaped) : Type 0 where
  pub adds : Adds s leaf old new []
  pub firsts : List ACase
  pub are : AreFirstCases s leaf ops firsts
  pub is : new.cases ≡ old.cases ++ firsts
