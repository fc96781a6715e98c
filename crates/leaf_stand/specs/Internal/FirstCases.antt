-- First cases: what counts for space and order.
use Rattle.std.specs.Prelude.{◌≡◌, ℕ, Bool, nat_eq, if◌then◌else◌, List, [], ◌∷◌, Option, Some, None}
use Rattle.dom_set.specs.Elements.{is_in}
use Rattle.rv_isa.specs.declared.operation.Op.{Op}
use Rattle.rv_isa.specs.Table.{row_of}
use Rattle.tpl_ast.specs.declared.template.Atom.{Atom}
use Rattle.fd_prob.specs.declared.problem.Case.{Case as ACase}
use Rattle.fd_prob.specs.declared.relation.Rel.TheVariants.{Rows}
use Rattle.fd_prob.specs.declared.slot.Slot.{Slot}
use Rattle.fd_prob.specs.declared.slot.Slot.TheVariants as slots
use Rattle.fd_prob.specs.declared.slot.TheConstants.{SLOTS}
use Rattle.data_goals.specs.declared.accesses.Accesses.{Accesses}
use Rattle.rv_isa.specs.Fields.{has_address}
use Rattle.rv_isa.specs.Numbers.{op_number}
use Rattle.leaf_link.specs.Firsts.{IsDomain, first_domain}
use Rattle.leaf_stand.specs.declared.stand.Stand.{Stand}
use Rattle.leaf_stand.specs.Sets.{AreEach}
use Rattle.leaf_stand.specs.Stands.{turn_of}

-- new page table entries, where they are told; 0 alone where they are not
abbrev pub first_entry : (Accesses → List ℕ) → Option Accesses → ℕ → Bool
first_entry of None v = nat_eq v 0
first_entry of (Some accesses) v = is_in (of accesses) v

-- an operation without a data access starts none
abbrev pub first_entries : Stand → Op → (Accesses → List ℕ) → ℕ → Bool
first_entries s op of v = if has_address (row_of op) then first_entry of s.accesses v else nat_eq v 0

-- the default domain of a variable, cut by the atoms on it
abbrev pub first_at : Stand → List Atom → Op → Slot → ℕ → Bool
first_at s leaf op slots.FirstPte v = first_entries s op (λ a. a.firsts) v
first_at s leaf op slots.SecondPte v = first_entries s op (λ a. a.seconds) v
first_at s leaf op slot v = first_domain (turn_of s) 0 leaf op slot v

-- the domains of a first case
abbrev pub AreFirstDomains : Stand → List Atom → Op → List (List ℕ) → Type 0
AreFirstDomains s leaf op doms = AreEach (λ slot set. IsDomain set (first_at s leaf op slot)) SLOTS doms

-- the first case of an operation
pub record IsFirstCase (s : Stand) (leaf : List Atom) (op : Op) (c : ACase) : Type 0 where
  pub number : c.op ≡ op_number op
  pub domains : AreFirstDomains s leaf op c.doms
  pub rels : c.rels ≡ Rows [] ∷ []

-- what the domain of a variable has to be in the first case
abbrev pub fetch_first_at : Stand → List ℕ → List ℕ → Slot → ℕ → Bool
fetch_first_at s first second slots.FirstPte v = is_in first v
fetch_first_at s first second slots.SecondPte v = is_in second v
fetch_first_at s first second slots.Vector v = is_in s.vectors.now v
fetch_first_at s first second _ v = nat_eq v 0

-- the first case of a fetch, which nothing fits
pub record IsFetchFirstCase (s : Stand) (first second : List ℕ) (c : ACase) : Type 0 where
  pub number : c.op ≡ 0
  pub domains : AreEach (λ slot set. IsDomain set (fetch_first_at s first second slot)) SLOTS c.doms
  pub rels : c.rels ≡ Rows [] ∷ []
