-- The cases of CSR instructions: one for each register and usage, and two for accesses that are refused.
use Rattle.std.specs.Prelude.{ℕ, Bool, true, false, List, [], ◌∷◌, ◌++◌}
use Rattle.rv_isa.specs.declared.operation.Op.{Op}
use Rattle.rv_csr.specs.declared.cause.Cause.TheVariants.{Illegal}
use Rattle.rv_csr.specs.declared.table.Register.{Register}
use Rattle.rv_csr.specs.Table.{registers}
use Rattle.rv_script.specs.Lists.{HasItem}
use Rattle.tpl_ast.specs.declared.template.Atom.{Atom}
use Rattle.fd_prob.specs.declared.relation.Rel.{Rel}
use Rattle.fd_prob.specs.declared.relation.Rel.TheVariants.{Writes}
use Rattle.fd_prob.specs.declared.slot.Slot.{Slot}
use Rattle.leaf_link.specs.Cases.{Case, Way as AWay, case_at, case_if}
use Rattle.leaf_stand.specs.declared.shape.End.{End}
use Rattle.leaf_stand.specs.declared.shape.End.TheVariants.{Retires, Traps}
use Rattle.leaf_stand.specs.declared.stand.Stand.{Stand}
use Rattle.leaf_stand.specs.Posed.{is_posed_at}
use Rattle.leaf_stand.specs.Relations.{atom_rels, source_rels}
use Rattle.leaf_stand.specs.Stands.{shape_at, turn_of}
use Rattle.leaf_stand.specs.Internal.Ways.{shape_with}
use Rattle.leaf_csrs.specs.declared.usage.Usage.{Usage}
use Rattle.leaf_csrs.specs.Usages.{refused_test, refused_way, usage_test, usage_way, usages_of}
use Rattle.leaf_pose.specs.declared.csrs.Access.{Access}
use Rattle.leaf_pose.specs.declared.csrs.Access.TheVariants.{Granted, Refused}

-- how a step ends that makes the access
abbrev pub end_of : Access → End
end_of (Granted register usage) = Retires
end_of (Refused written) = Traps Illegal

-- the way of an access
abbrev pub access_way : Stand → Op → Access → AWay
access_way s op (Granted register usage) = usage_way s op register usage
access_way s op (Refused written) = refused_way s op written

-- what it says of single variables
abbrev pub access_test : Stand → Op → Access → Slot → ℕ → Bool
access_test s op (Granted register usage) slot v = usage_test s op register usage slot v
access_test s op (Refused written) slot v = refused_test s op written slot v

-- what is written is legal
abbrev pub writes_rel : Access → List Rel
writes_rel (Granted register usage) = Writes ∷ []
writes_rel (Refused written) = []

abbrev pub access_rels : Stand → List Atom → Op → Access → List Rel
access_rels s leaf op access = (source_rels (shape_at (shape_with op (end_of access))) s.registers ++ atom_rels leaf) ++ writes_rel access

-- the case of an access, where it is posed
abbrev pub access_case : Stand → List Atom → Op → Access → List Case
access_case s leaf op access = case_if (is_posed_at s leaf (shape_at (shape_with op (end_of access)))) (case_at (turn_of s) 0 leaf op (access_way s op access)) []

abbrev pub usage_cases : Stand → List Atom → Op → Register → List Usage → List Case
usage_cases s leaf op register [] = []
usage_cases s leaf op register (usage ∷ usages) = access_case s leaf op (Granted register usage) ++ usage_cases s leaf op register usages

abbrev pub register_cases : Stand → List Atom → Op → List Register → List Case
register_cases s leaf op [] = []
register_cases s leaf op (register ∷ rest) = usage_cases s leaf op register (usages_of s op register) ++ register_cases s leaf op rest

abbrev pub csr_cases : Stand → List Atom → Op → List Case
csr_cases s leaf op = access_case s leaf op (Refused false) ++ (access_case s leaf op (Refused true) ++ register_cases s leaf op registers)

-- a usage is one of the register's, and the register one of all
abbrev pub IsListed : Stand → Op → Access → Type 0
IsListed s op (Granted register usage) = HasItem registers register × HasItem (usages_of s op register) usage
IsListed s op (Refused written) = Unit {0}
