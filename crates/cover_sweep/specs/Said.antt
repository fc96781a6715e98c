-- What the demo template says.
use Rattle.std.specs.Prelude.{ℕ, false, List, [], ◌∷◌, map, None}
use Rattle.rv_csr.specs.declared.privilege.Priv.TheVariants.{M}
use Rattle.rv_isa.specs.declared.operation.Op.{Op}
use Rattle.rv_isa.specs.declared.operation.Op.TheVariants as ops
use Rattle.rv_isa.specs.Numbers.{op_number}
use Rattle.tpl_ast.specs.declared.template.Atom.TheVariants as atoms
use Rattle.tpl_ast.specs.declared.template.Var.{Var}
use Rattle.tpl_ast.specs.declared.template.Var.TheVariants as vars
use Rattle.tpl_ast.specs.declared.template.Wish.{Wish}
use Rattle.tpl_ast.specs.Bodies.{BodyLine, Leaf, EnterRepeat, EnterChoose, EnterWay, Leave, HartLines}
use Rattle.tpl_lang.specs.Parsing.{Said, vectors_of}
use Rattle.tpl_lang.specs.Sets.{listed, points}

-- the variable has a value in the ranges
abbrev pub is_among : Var → List (ℕ × ℕ) → Wish
is_among v ranges = record { atom = atoms.In v (listed ranges 1); prefer = false }

-- the operation is one of these
abbrev pub is_one_of : List Op → Wish
is_one_of operations = is_among vars.Op (points (map op_number operations))

-- rd is x0 to x30, so that x31 keeps its value
abbrev pub keeps_x31 : Wish
keeps_x31 = is_among vars.Rd ((0, 30) ∷ [])

-- the address is that in x31, and an offset
abbrev pub is_by_x31 : Wish
is_by_x31 = is_among vars.Rs1 ((31, 31) ∷ [])

-- one of four kinds of instruction by its weight, as often as the number says; leaves and choices with the numbers of their lines
abbrev pub demo_body : ℕ → List BodyLine
demo_body n =
    EnterRepeat n
    ∷ EnterChoose 8
    ∷ EnterWay 3
    ∷ Leaf 10 (is_one_of (ops.Add ∷ ops.Sub ∷ ops.Xor ∷ ops.Or ∷ ops.And ∷ ops.Sltu ∷ ops.Sra ∷ ops.Addi ∷ ops.Slli ∷ []) ∷ keeps_x31 ∷ [])
    ∷ Leave
    ∷ EnterWay 2
    ∷ Leaf 13 (is_one_of (ops.Lw ∷ ops.Lhu ∷ ops.Lb ∷ []) ∷ is_by_x31 ∷ keeps_x31 ∷ [])
    ∷ Leave
    ∷ EnterWay 2
    ∷ Leaf 16 (is_one_of (ops.Sw ∷ ops.Sh ∷ ops.Sb ∷ []) ∷ is_by_x31 ∷ [])
    ∷ Leave
    ∷ EnterWay 1
    ∷ Leaf 19 (is_one_of (ops.Mul ∷ ops.Mulhu ∷ ops.Div ∷ ops.Remu ∷ []) ∷ keeps_x31 ∷ [])
    ∷ Leave
    ∷ Leave
    ∷ Leave
    ∷ []

-- one hart in M, which starts in the first of two frames of code, with the middle of the third frame in x31
abbrev pub demo_hart : ℕ → HartLines
demo_hart n = record {
  start = record { pc = 0x80000000; privilege = M; mstatus = 0; medeleg = 0; satp = 0; places = (31, 0x80010800) ∷ [] };
  body = demo_body n;
}

abbrev pub demo_pool : List ℕ
demo_pool = 0x80000000 ∷ 0x80001000 ∷ 0x80010000 ∷ []

abbrev pub demo_said : ℕ → Said
demo_said n = record {
  ram = record { low = 0x80000000; high = 0x80020000 } ∷ [];
  pool = demo_pool;
  tables = [];
  flags = [];
  vectors = vectors_of None demo_pool;
  words = [];
  names = [];
  harts = demo_hart n ∷ [];
}
