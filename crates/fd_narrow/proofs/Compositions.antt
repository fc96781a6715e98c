-- Domains are narrowed step by step.
use Rattle.std.proofs.Common.{ℕ, List}
use Rattle.rv_isa.specs.declared.operation.Op.{Op}
use Rattle.fd_prob.specs.declared.problem.Assignment.{Assignment}
use Rattle.fd_prob.specs.declared.relation.Rel.{Rel}
use Rattle.fd_narrow.specs.Narrowing.{IsInside, Narrows}
use Rattle.fd_narrow.specs.Internal.Steps.{IsNever, Leaves}

-- nothing is taken
pub nothing : (P : Assignment → Type 0) (doms : List (List ℕ)) → Leaves P doms doms
nothing P doms = record { within = λ x inside. inside; keeps = λ x inside means. inside }

pub followed : (P : Assignment → Type 0) (a b c : List (List ℕ)) → Leaves P a b → Leaves P b c → Leaves P a c
followed P a b c one two = record { within = λ x inside. one.within x (two.within x inside); keeps = λ x inside means. two.keeps x (one.keeps x inside means) means }

-- what meets Q meets P, where it is inside
pub weakened : (P Q : Assignment → Type 0) (a b : List (List ℕ)) → ((x : Assignment) → IsInside a x → Q x → P x) → Leaves P a b → Leaves Q a b
weakened P Q a b means one = record { within = one.within; keeps = λ x inside meets. one.keeps x inside (means x inside meets) }

-- where nothing inside meets it, all may be taken
pub emptied : (P : Assignment → Type 0) (a b : List (List ℕ)) → ((x : Assignment) → IsInside a x → P x → ⊥) → Leaves IsNever a b → Leaves P a b
emptied P a b never one = record { within = one.within; keeps = λ x inside meets. absurd (never x inside meets) }

pub both : (op : Op) (rels : List Rel) (a b c : List (List ℕ)) → Narrows op rels a b → Narrows op rels b c → Narrows op rels a c
both op rels a b c one two = record { within = λ x inside. one.within x (two.within x inside); keeps = λ x inside hold. two.keeps x (one.keeps x inside hold) hold }
