-- What operations that are built are not.
use Rattle.std.proofs.Common.{◌≡◌, ℕ, true, false, refl}
use Rattle.rv_isa.specs.declared.operation.Op.{Op}
use Rattle.rv_isa.specs.declared.operation.Op.TheVariants.{Lb, Lh, Lw, Lbu, Lhu, Sb, Sh, Sw, Csrrw, Csrrs, Csrrc}
use Rattle.rv_isa.specs.Table.{row_of}
use Rattle.leaf_link.specs.Turns.{is_narrow}
use Rattle.rv_isa.specs.Fields.{has_address}
use Rattle.leaf_stand.specs.declared.kind.Kind.{Kind}
use Rattle.leaf_stand.specs.declared.kind.Kind.TheVariants.{Csr, Data, Plain}
use Rattle.leaf_stand.specs.Kinds.{kind_of}
use Rattle.leaf_stand.specs.Posed.{is_listed, is_data}

pub built_address : (op : Op) → is_data (kind_of op) ≡ false → has_address (row_of op) ≡ false
built_address Lb h = absurd (cc h)
built_address Lh h = absurd (cc h)
built_address Lw h = absurd (cc h)
built_address Lbu h = absurd (cc h)
built_address Lhu h = absurd (cc h)
built_address Sb h = absurd (cc h)
built_address Sh h = absurd (cc h)
built_address Sw h = absurd (cc h)
built_address _ h = refl

pub built_narrow : (op : Op) (addr : ℕ) → is_listed (kind_of op) ≡ true → is_narrow (row_of op) addr ≡ false
built_narrow Csrrw addr h = absurd (cc h)
built_narrow Csrrs addr h = absurd (cc h)
built_narrow Csrrc addr h = absurd (cc h)
built_narrow _ addr h = refl

-- what stands in a list is built
pub listed_built : (op : Op) → is_listed (kind_of op) ≡ true → is_data (kind_of op) ≡ false
listed_built op h = of_kind (kind_of op) h
  where
    of_kind : (kind : Kind) → is_listed kind ≡ true → is_data kind ≡ false
    of_kind Csr h = absurd (cc h)
    of_kind Data h = absurd (cc h)
    of_kind Plain h = refl
    of_kind _ h = refl

-- LOADS AND STORES
pub data_address : (op : Op) → is_data (kind_of op) ≡ true → has_address (row_of op) ≡ true
data_address Lb h = refl
data_address Lh h = refl
data_address Lw h = refl
data_address Lbu h = refl
data_address Lhu h = refl
data_address Sb h = refl
data_address Sh h = refl
data_address Sw h = refl
data_address _ h = absurd (cc h)

pub data_narrow : (op : Op) (addr : ℕ) → is_data (kind_of op) ≡ true → is_narrow (row_of op) addr ≡ false
data_narrow Lb addr h = refl
data_narrow Lh addr h = refl
data_narrow Lw addr h = refl
data_narrow Lbu addr h = refl
data_narrow Lhu addr h = refl
data_narrow Sb addr h = refl
data_narrow Sh addr h = refl
data_narrow Sw addr h = refl
data_narrow _ addr h = absurd (cc h)
