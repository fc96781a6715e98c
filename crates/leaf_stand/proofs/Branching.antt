-- The ways of each kind of operations, as the code and as the definitions have them.
use Rattle.std.proofs.Common.{◌≡◌, ℕ, ◌+◌, ◌%◌, ◌^◌, ◌⊎◌, Bool, true, false, ◌&&◌, List, [], ◌∷◌, ◌++◌, Some, None, refl, sym, ap, ◌∙◌, subst, inl, inr}
use Rattle.std.specs.Prelude.{not, if◌then◌else◌}
use Rattle.std.proofs.lemmas.Bool.{and_from, and_parts}
use Rattle.rv_isa.specs.declared.operation.Op.{Op}
use Rattle.rv_isa.specs.declared.operation.Op.TheVariants as ops
use Rattle.rv_isa.specs.Arithmetic.{is_branch, is_taken}
use Rattle.rv_csr.specs.declared.cause.Cause.TheVariants as causes
use Rattle.rv_csr.specs.declared.status.Flag.TheVariants.{Tsr, Tvm}
use Rattle.rv_csr.specs.declared.table.LazyRegister.{LazyRegister}
use Rattle.rv_csr.specs.declared.table.LazyRegister.TheVariants.{Mepc, Sepc}
use Rattle.rv_csr.specs.Privilege.{is_machine}
use Rattle.rv_hart.specs.Privileged.{call_cause, is_withheld, lazy_address}
use Rattle.rv_script.specs.Lists.{HasItem}
use Rattle.tpl_ast.specs.declared.template.Atom.{Atom}
use Rattle.tpl_ast.specs.declared.template.Var.TheVariants as vars
use Rattle.fd_prob.specs.declared.slot.Slot.{Slot}
use Rattle.fd_prob.specs.declared.slot.Slot.TheVariants as slots
use Rattle.leaf_link.specs.Values.{Values}
use Rattle.leaf_link.specs.Cases.{Case, Fits, FitsCase, Shape as AShape, Way as AWay, atoms_hold, base_domain, case_at, case_if, sources_hold, target_at, uses}
use Rattle.leaf_link.specs.Controls.{ends_when, is_old, old_new, return_ways}
use Rattle.leaf_link.specs.Kinds.{branch_goes, forks, is_target, near_is_target, retires, retires_when, traps, traps_when}
use Rattle.leaf_stand.specs.declared.shape.End.{End}
use Rattle.leaf_stand.specs.declared.shape.End.TheVariants.{Retires, Traps}
use Rattle.leaf_stand.specs.declared.stand.Stand.{Stand}
use Rattle.leaf_stand.specs.declared.way.Way.{Way}
use Rattle.leaf_stand.specs.Kinds.{kind_of}
use Rattle.leaf_stand.specs.Posed.{IsPartOf, is_listed, is_posed_at, stand_cases, stand_ways}
use Rattle.leaf_stand.specs.Relations.{way_at}
use Rattle.leaf_stand.specs.Stands.{also_read, shape_at, turn_of}
use Rattle.leaf_stand.specs.Internal.Ways.{AreWaysOf, going, missing, retiring, returning, shape_with, staying, trapping, way_cases, ways_by}

-- WAYS THAT ARE THOSE OF THE DEFINITION
whole_way : (s : Stand) (op : Op) (way : Way) → HasItem (stand_ways s op) (way_at s op way) → IsPartOf s op way
whole_way s op way i = record { whole = way_at s op way; is = i; outcome = refl; reaches = refl; also = λ slot v h. h; holds = λ x a h. h }

-- BRANCHES
taken_goes : (t n : Bool) → (t && n) ≡ true → (if t then n else true) ≡ true
taken_goes true n h = h
taken_goes false n h = refl

not_taken_goes : (t n : Bool) → (not t && true) ≡ true → (if t then n else true) ≡ true
not_taken_goes true n h = absurd (cc h)
not_taken_goes false n h = refl

misses_same : (t n : Bool) → (t && not n) ≡ not (if t then n else true)
misses_same true n = refl
misses_same false n = refl

-- what is computed of each branch
record IsBranching (s : Stand) (op : Op) : Type 0 where
  ways : stand_ways s op ≡ forks (turn_of s) causes.FetchMisaligned (branch_goes op s.pc)
  branch : is_branch op ≡ true
  targets : (end : End) → uses (shape_at (shape_with op end)) vars.Target ≡ true
  target : (x : Values) → target_at op s.pc x ≡ (s.pc + x slots.Imm) % 2 ^ 32

branching_beq : (s : Stand) → IsBranching s ops.Beq
branching_beq s = record { ways = refl; branch = refl; targets = λ end. refl; target = λ x. refl }

branching_bne : (s : Stand) → IsBranching s ops.Bne
branching_bne s = record { ways = refl; branch = refl; targets = λ end. refl; target = λ x. refl }

branching_blt : (s : Stand) → IsBranching s ops.Blt
branching_blt s = record { ways = refl; branch = refl; targets = λ end. refl; target = λ x. refl }

branching_bge : (s : Stand) → IsBranching s ops.Bge
branching_bge s = record { ways = refl; branch = refl; targets = λ end. refl; target = λ x. refl }

branching_bltu : (s : Stand) → IsBranching s ops.Bltu
branching_bltu s = record { ways = refl; branch = refl; targets = λ end. refl; target = λ x. refl }

branching_bgeu : (s : Stand) → IsBranching s ops.Bgeu
branching_bgeu s = record { ways = refl; branch = refl; targets = λ end. refl; target = λ x. refl }

-- the ways of a branch are among those of the definition
fork_of : (s : Stand) (op : Op) (b : IsBranching s op) (way : AWay) → HasItem (forks (turn_of s) causes.FetchMisaligned (branch_goes op s.pc)) way → HasItem (stand_ways s op) way
fork_of s op b way i = subst (λ (l : List AWay). HasItem l way) (sym b.ways) i

aligned_near : (s : Stand) (op : Op) → IsBranching s op → (x : Values) → is_target (target_at op s.pc x) ≡ near_is_target s.pc x
aligned_near s op b x = ap is_target (b.target x)

taken_part : (s : Stand) (op : Op) → IsBranching s op → IsPartOf s op (going (Some true))
taken_part s op b = record {
  whole = retires_when (branch_goes op s.pc);
  is = fork_of s op b (retires_when (branch_goes op s.pc)) (inl refl);
  outcome = refl;
  reaches = refl;
  also = λ slot v h. h;
  holds = λ x a h. ap (λ (n : Bool). if is_taken op (x slots.A) (x slots.B) then n else true) (sym (aligned_near s op b x)) ∙ taken_goes (is_taken op (x slots.A) (x slots.B)) (is_target (target_at op s.pc x)) h;
}

staying_part : (s : Stand) (op : Op) → IsBranching s op → IsPartOf s op staying
staying_part s op b = record {
  whole = retires_when (branch_goes op s.pc);
  is = fork_of s op b (retires_when (branch_goes op s.pc)) (inl refl);
  outcome = refl;
  reaches = refl;
  also = λ slot v h. h;
  holds = λ x a h. not_taken_goes (is_taken op (x slots.A) (x slots.B)) (near_is_target s.pc x) h;
}

missing_part : (s : Stand) (op : Op) → IsBranching s op → IsPartOf s op (missing (Some true))
missing_part s op b = record {
  whole = traps_when (turn_of s) causes.FetchMisaligned (λ x. not (branch_goes op s.pc x));
  is = fork_of s op b (traps_when (turn_of s) causes.FetchMisaligned (λ x. not (branch_goes op s.pc x))) (inr (inl refl));
  outcome = refl;
  reaches = refl;
  also = λ slot v h. h;
  holds = λ x a h. sym (misses_same (is_taken op (x slots.A) (x slots.B)) (near_is_target s.pc x)) ∙ ap (λ (n : Bool). is_taken op (x slots.A) (x slots.B) && not n) (sym (aligned_near s op b x)) ∙ h;
}

branch_parts : (s : Stand) (op : Op) → IsBranching s op → AreWaysOf s op (going (Some true) ∷ staying ∷ missing (Some true) ∷ [])
branch_parts s op b = (
  record { steered = b.branch; aimed = b.targets Retires; part = taken_part s op b },
  (
    record { steered = b.branch; aimed = refl; part = staying_part s op b },
    (record { steered = b.branch; aimed = b.targets (Traps causes.FetchMisaligned); part = missing_part s op b }, record {}),
  ),
)

-- a branch that retires is taken or not
goes_either : (a r t n : Bool) → (a && (r && (if t then n else true))) ≡ true → ((a && (r && (t && n))) ≡ true) ⊎ ((a && (r && (not t && true))) ≡ true)
goes_either a r true n h = inl h
goes_either a r false n h = inr h

goes_taken : (a r t n : Bool) → (a && (r && (t && n))) ≡ true → (a && (r && (if t then n else true))) ≡ true
goes_taken a r t n h = let p = and_parts a (r && (t && n)) h in let q = and_parts r (t && n) p.1 in and_from _ _ p.0 (and_from _ _ q.0 (taken_goes t n q.1))

goes_staying : (a r t n : Bool) → (a && (r && (not t && true))) ≡ true → (a && (r && (if t then n else true))) ≡ true
goes_staying a r t n h = let p = and_parts a (r && (not t && true)) h in let q = and_parts r (not t && true) p.1 in and_from _ _ p.0 (and_from _ _ q.0 (not_taken_goes t n q.1))

abbrev case_with : Stand → List Atom → Op → AWay → Case
case_with s leaf op way = case_at (turn_of s) 0 leaf op way

retiring_shape : Op → AShape
retiring_shape op = record { op = op; outcome = 255; reaches = false }

fits_taken : (s : Stand) (leaf : List Atom) (op : Op) (x : Values) → IsBranching s op → FitsCase (case_with s leaf op (retires_when (branch_goes op s.pc))) x
    → FitsCase (case_with s leaf op (way_at s op (going (Some true)))) x ⊎ FitsCase (case_with s leaf op (way_at s op staying)) x
unfolding retiring_shape
fits_taken s leaf op x b f =
    let a = sources_hold (turn_of s) (retiring_shape op) x in
    let r = atoms_hold (turn_of s) leaf (retiring_shape op) x in
    elim (goes_either a r (is_taken op (x slots.A) (x slots.B)) (near_is_target s.pc x) f.holds) [
      | inl h ↦ inl (record { op = f.op; each = f.each; holds = ap (λ (n : Bool). a && (r && (is_taken op (x slots.A) (x slots.B) && n))) (aligned_near s op b x) ∙ h })
      | inr h ↦ inr (record { op = f.op; each = f.each; holds = h })
    ]

taken_fits : (s : Stand) (leaf : List Atom) (op : Op) (x : Values) → IsBranching s op → FitsCase (case_with s leaf op (way_at s op (going (Some true)))) x → FitsCase (case_with s leaf op (retires_when (branch_goes op s.pc))) x
unfolding retiring_shape
taken_fits s leaf op x b f =
    let a = sources_hold (turn_of s) (retiring_shape op) x in
    let r = atoms_hold (turn_of s) leaf (retiring_shape op) x in
    record {
      op = f.op;
      each = f.each;
      holds = goes_taken a r (is_taken op (x slots.A) (x slots.B)) (near_is_target s.pc x) (ap (λ (n : Bool). a && (r && (is_taken op (x slots.A) (x slots.B) && n))) (sym (aligned_near s op b x)) ∙ f.holds);
    }

staying_fits : (s : Stand) (leaf : List Atom) (op : Op) (x : Values) → FitsCase (case_with s leaf op (way_at s op staying)) x → FitsCase (case_with s leaf op (retires_when (branch_goes op s.pc))) x
unfolding retiring_shape
staying_fits s leaf op x f = record {
  op = f.op;
  each = f.each;
  holds = goes_staying (sources_hold (turn_of s) (retiring_shape op) x) (atoms_hold (turn_of s) leaf (retiring_shape op) x) (is_taken op (x slots.A) (x slots.B)) (near_is_target s.pc x) f.holds;
}

abbrev missing_way : Stand → Op → AWay
missing_way s op = traps_when (turn_of s) causes.FetchMisaligned (λ x. not (branch_goes op s.pc x))

missing_shape : Op → AShape
missing_shape op = record { op = op; outcome = 0; reaches = false }

missing_same : (s : Stand) (leaf : List Atom) (op : Op) (x : Values) → IsBranching s op → (case_with s leaf op (missing_way s op)).holds x ≡ (case_with s leaf op (way_at s op (missing (Some true)))).holds x
unfolding missing_shape
missing_same s leaf op x b =
    ap (λ (n : Bool). sources_hold (turn_of s) (missing_shape op) x && (atoms_hold (turn_of s) leaf (missing_shape op) x && n))
    (sym (misses_same (is_taken op (x slots.A) (x slots.B)) (near_is_target s.pc x)) ∙ ap (λ (n : Bool). is_taken op (x slots.A) (x slots.B) && not n) (sym (aligned_near s op b x)))

-- the cases of three ways are those of two
branch_there : (s : Stand) (leaf : List Atom) (op : Op) (x : Values) → IsBranching s op → (p q : Bool)
    → Fits (case_if p (case_with s leaf op (way_at s op (going (Some true)))) [] ++ (case_if p (case_with s leaf op (way_at s op staying)) [] ++ (case_if q (case_with s leaf op (way_at s op (missing (Some true)))) [] ++ []))) x
    → Fits (case_if p (case_with s leaf op (retires_when (branch_goes op s.pc))) (case_if q (case_with s leaf op (missing_way s op)) [])) x
branch_there s leaf op x b true true (inl f) = inl (taken_fits s leaf op x b f)
branch_there s leaf op x b true true (inr (inl f)) = inl (staying_fits s leaf op x f)
branch_there s leaf op x b true true (inr (inr (inl f))) = inr (inl (record { op = f.op; each = f.each; holds = missing_same s leaf op x b ∙ f.holds }))
branch_there s leaf op x b true true (inr (inr (inr f))) = absurd f
branch_there s leaf op x b true false (inl f) = inl (taken_fits s leaf op x b f)
branch_there s leaf op x b true false (inr (inl f)) = inl (staying_fits s leaf op x f)
branch_there s leaf op x b true false (inr (inr f)) = absurd f
branch_there s leaf op x b false true (inl f) = inl (record { op = f.op; each = f.each; holds = missing_same s leaf op x b ∙ f.holds })
branch_there s leaf op x b false true (inr f) = absurd f
branch_there s leaf op x b false false f = absurd f

branch_back : (s : Stand) (leaf : List Atom) (op : Op) (x : Values) → IsBranching s op → (p q : Bool)
    → Fits (case_if p (case_with s leaf op (retires_when (branch_goes op s.pc))) (case_if q (case_with s leaf op (missing_way s op)) [])) x
    → Fits (case_if p (case_with s leaf op (way_at s op (going (Some true)))) [] ++ (case_if p (case_with s leaf op (way_at s op staying)) [] ++ (case_if q (case_with s leaf op (way_at s op (missing (Some true)))) [] ++ []))) x
branch_back s leaf op x b true true (inl f) = elim (fits_taken s leaf op x b f) [ inl g ↦ inl g | inr g ↦ inr (inl g) ]
branch_back s leaf op x b true true (inr (inl f)) = inr (inr (inl (record { op = f.op; each = f.each; holds = sym (missing_same s leaf op x b) ∙ f.holds })))
branch_back s leaf op x b true true (inr (inr f)) = absurd f
branch_back s leaf op x b true false (inl f) = elim (fits_taken s leaf op x b f) [ inl g ↦ inl g | inr g ↦ inr (inl g) ]
branch_back s leaf op x b true false (inr f) = absurd f
branch_back s leaf op x b false true (inl f) = inl (record { op = f.op; each = f.each; holds = sym (missing_same s leaf op x b) ∙ f.holds })
branch_back s leaf op x b false true (inr f) = absurd f
branch_back s leaf op x b false false f = absurd f

-- SFENCE.VMA
fence_now : (s : Stand) (b : Bool) → is_withheld Tvm (turn_of s).fixed ≡ b → stand_ways s ops.SfenceVma ≡ (if b then traps (turn_of s) causes.Illegal else retires)
fence_now s b e = ap (λ (w : Bool). if w then traps (turn_of s) causes.Illegal else retires) e

fence_parts : (s : Stand) (b : Bool) → is_withheld Tvm (turn_of s).fixed ≡ b → AreWaysOf s ops.SfenceVma (if b then trapping causes.Illegal ∷ [] else retiring ∷ [])
fence_parts s true e =
    (record { steered = refl; aimed = refl; part = whole_way s ops.SfenceVma (trapping causes.Illegal) (subst (λ (l : List AWay). HasItem l (way_at s ops.SfenceVma (trapping causes.Illegal))) (sym (fence_now s true e)) (inl refl)) }, record {})
fence_parts s false e = (record { steered = refl; aimed = refl; part = whole_way s ops.SfenceVma retiring (subst (λ (l : List AWay). HasItem l (way_at s ops.SfenceVma retiring)) (sym (fence_now s false e)) (inl refl)) }, record {})

-- RETURNS
-- the ways of a return that is not refused
abbrev granted : Stand → LazyRegister → List AWay
granted s register = return_ways (turn_of s) (lazy_address register)

abbrev return_whole : Stand → LazyRegister → AWay
return_whole s register = ends_when (λ x. is_old (turn_of s) (lazy_address register) (x slots.OldCsr))

read_new : (s : Stand) (register : LazyRegister) (slot : Slot) (v : ℕ) → also_read (turn_of s) Retires register slot v ≡ true → old_new slot v ≡ true
read_new s register slots.OldCsr v h = refl
read_new s register slots.Op v h = h
read_new s register _ v h = h

return_part : (s : Stand) (op : Op) (register : LazyRegister) → HasItem (stand_ways s op) (return_whole s register) → IsPartOf s op (returning register)
return_part s op register i = record { whole = return_whole s register; is = i; outcome = refl; reaches = refl; also = read_new s register; holds = λ x a h. a slots.OldCsr }

granted_parts : (s : Stand) (op : Op) (register : LazyRegister) → stand_ways s op ≡ granted s register → AreWaysOf s op (returning register ∷ [])
granted_parts s op register e = (record { steered = refl; aimed = refl; part = return_part s op register (subst (λ (l : List AWay). HasItem l (return_whole s register)) (sym e) (inl refl)) }, record {})

refused_parts : (s : Stand) (op : Op) → stand_ways s op ≡ traps (turn_of s) causes.Illegal → AreWaysOf s op (trapping causes.Illegal ∷ [])
refused_parts s op e = (record { steered = refl; aimed = refl; part = whole_way s op (trapping causes.Illegal) (subst (λ (l : List AWay). HasItem l (way_at s op (trapping causes.Illegal))) (sym e) (inl refl)) }, record {})

mret_parts : (s : Stand) (b : Bool) → is_machine s.privilege ≡ b → AreWaysOf s ops.Mret (if b then returning Mepc ∷ [] else trapping causes.Illegal ∷ [])
mret_parts s true e = granted_parts s ops.Mret Mepc (ap (λ (w : Bool). if w then granted s Mepc else traps (turn_of s) causes.Illegal) e)
mret_parts s false e = refused_parts s ops.Mret (ap (λ (w : Bool). if w then granted s Mepc else traps (turn_of s) causes.Illegal) e)

sret_parts : (s : Stand) (b : Bool) → is_withheld Tsr (turn_of s).fixed ≡ b → AreWaysOf s ops.Sret (if b then trapping causes.Illegal ∷ [] else returning Sepc ∷ [])
sret_parts s true e = refused_parts s ops.Sret (ap (λ (w : Bool). if w then traps (turn_of s) causes.Illegal else granted s Sepc) e)
sret_parts s false e = granted_parts s ops.Sret Sepc (ap (λ (w : Bool). if w then traps (turn_of s) causes.Illegal else granted s Sepc) e)

-- the old value is in the domain, or in what holds
return_there : (s : Stand) (leaf : List Atom) (op : Op) (register : LazyRegister) (x : Values) → FitsCase (case_with s leaf op (way_at s op (returning register))) x → FitsCase (case_with s leaf op (return_whole s register)) x
unfolding retiring_shape
return_there s leaf op register x f =
    let p = and_parts (sources_hold (turn_of s) (retiring_shape op) x) (atoms_hold (turn_of s) leaf (retiring_shape op) x && true) f.holds in
    let q = and_parts (atoms_hold (turn_of s) leaf (retiring_shape op) x) true p.1 in
    record {
      op = f.op;
      each = λ slot. let d = and_parts (base_domain (turn_of s) 0 leaf (retiring_shape op) slot (x slot)) (also_read (turn_of s) Retires register slot (x slot)) (f.each slot) in and_from _ _ d.0 (read_new s register slot (x slot) d.1);
      holds = and_from _ _ p.0 (and_from _ _ q.0 (f.each slots.OldCsr));
    }

return_back : (s : Stand) (leaf : List Atom) (op : Op) (register : LazyRegister) (x : Values) → FitsCase (case_with s leaf op (return_whole s register)) x → FitsCase (case_with s leaf op (way_at s op (returning register))) x
unfolding retiring_shape
return_back s leaf op register x f =
    let old = is_old (turn_of s) (lazy_address register) (x slots.OldCsr) in
    let p = and_parts (sources_hold (turn_of s) (retiring_shape op) x) (atoms_hold (turn_of s) leaf (retiring_shape op) x && old) f.holds in
    let q = and_parts (atoms_hold (turn_of s) leaf (retiring_shape op) x) old p.1 in
    record {
      op = f.op;
      each = λ slot. let d = and_parts (base_domain (turn_of s) 0 leaf (retiring_shape op) slot (x slot)) (old_new slot (x slot)) (f.each slot) in and_from _ _ d.0 (read_here q.1 slot d.1);
      holds = and_from _ _ p.0 (and_from _ _ q.0 refl);
    }
  where
    read_here : is_old (turn_of s) (lazy_address register) (x slots.OldCsr) ≡ true → (slot : Slot) → old_new slot (x slot) ≡ true → also_read (turn_of s) Retires register slot (x slot) ≡ true
    read_here h slots.OldCsr k = h
    read_here h slots.Op k = k
    read_here h _ k = k

-- ALL KINDS
pub are_ways : (s : Stand) (op : Op) → is_listed (kind_of op) ≡ true → AreWaysOf s op (ways_by s (kind_of op))
are_ways s ops.Beq h = branch_parts s ops.Beq (branching_beq s)
are_ways s ops.Bne h = branch_parts s ops.Bne (branching_bne s)
are_ways s ops.Blt h = branch_parts s ops.Blt (branching_blt s)
are_ways s ops.Bge h = branch_parts s ops.Bge (branching_bge s)
are_ways s ops.Bltu h = branch_parts s ops.Bltu (branching_bltu s)
are_ways s ops.Bgeu h = branch_parts s ops.Bgeu (branching_bgeu s)
are_ways s ops.Jal h = (record { steered = refl; aimed = refl; part = whole_way s ops.Jal (going None) (inl refl) }, (record { steered = refl; aimed = refl; part = whole_way s ops.Jal (missing None) (inr (inl refl)) }, record {}))
are_ways s ops.Jalr h = (record { steered = refl; aimed = refl; part = whole_way s ops.Jalr (going None) (inl refl) }, (record { steered = refl; aimed = refl; part = whole_way s ops.Jalr (missing None) (inr (inl refl)) }, record {}))
are_ways s ops.Ecall h = (record { steered = refl; aimed = refl; part = whole_way s ops.Ecall (trapping (call_cause s.privilege)) (inl refl) }, record {})
are_ways s ops.Ebreak h = (record { steered = refl; aimed = refl; part = whole_way s ops.Ebreak (trapping causes.Breakpoint) (inl refl) }, record {})
are_ways s ops.Illegal h = (record { steered = refl; aimed = refl; part = whole_way s ops.Illegal (trapping causes.Illegal) (inl refl) }, record {})
are_ways s ops.Lb h = absurd (cc h)
are_ways s ops.Lh h = absurd (cc h)
are_ways s ops.Lw h = absurd (cc h)
are_ways s ops.Lbu h = absurd (cc h)
are_ways s ops.Lhu h = absurd (cc h)
are_ways s ops.Sb h = absurd (cc h)
are_ways s ops.Sh h = absurd (cc h)
are_ways s ops.Sw h = absurd (cc h)
are_ways s ops.Csrrw h = absurd (cc h)
are_ways s ops.Csrrs h = absurd (cc h)
are_ways s ops.Csrrc h = absurd (cc h)
are_ways s ops.Csrrwi h = absurd (cc h)
are_ways s ops.Csrrsi h = absurd (cc h)
are_ways s ops.Csrrci h = absurd (cc h)
are_ways s ops.Mret h = mret_parts s (is_machine s.privilege) refl
are_ways s ops.Sret h = sret_parts s (is_withheld Tsr (turn_of s).fixed) refl
are_ways s ops.SfenceVma h = fence_parts s (is_withheld Tvm (turn_of s).fixed) refl
are_ways s ops.Lui h = (record { steered = refl; aimed = refl; part = whole_way s ops.Lui retiring (inl refl) }, record {})
are_ways s op h = (record { steered = refl; aimed = refl; part = whole_way s op retiring (inl refl) }, record {})

-- ways of the code that are those of the definition, one for one
abbrev ways_in : Stand → Op → List Way → List AWay
ways_in s op [] = []
ways_in s op (way ∷ ways) = way_at s op way ∷ ways_in s op ways

put_if : (b : Bool) (c : Case) (cs ds : List Case) (x : Values) → (Fits cs x → Fits ds x) → Fits (case_if b c [] ++ cs) x → Fits (case_if b c ds) x
put_if true c cs ds x go (inl f) = inl f
put_if true c cs ds x go (inr f) = inr (go f)
put_if false c cs ds x go f = go f

take_if : (b : Bool) (c : Case) (cs ds : List Case) (x : Values) → (Fits cs x → Fits ds x) → Fits (case_if b c cs) x → Fits (case_if b c [] ++ ds) x
take_if true c cs ds x go (inl f) = inl f
take_if true c cs ds x go (inr f) = inr (go f)
take_if false c cs ds x go f = go f

same_there : (s : Stand) (leaf : List Atom) (op : Op) (ways : List Way) (x : Values) → Fits (way_cases s leaf op ways) x → Fits (stand_cases s leaf op (ways_in s op ways)) x
same_there s leaf op [] x f = f
same_there s leaf op (way ∷ ways) x f =
    put_if (is_posed_at s leaf (shape_at (shape_with op way.end))) (case_with s leaf op (way_at s op way)) (way_cases s leaf op ways) (stand_cases s leaf op (ways_in s op ways)) x (same_there s leaf op ways x) f

same_back : (s : Stand) (leaf : List Atom) (op : Op) (ways : List Way) (x : Values) → Fits (stand_cases s leaf op (ways_in s op ways)) x → Fits (way_cases s leaf op ways) x
same_back s leaf op [] x f = f
same_back s leaf op (way ∷ ways) x f =
    take_if (is_posed_at s leaf (shape_at (shape_with op way.end))) (case_with s leaf op (way_at s op way)) (stand_cases s leaf op (ways_in s op ways)) (way_cases s leaf op ways) x (same_back s leaf op ways x) f

branching_there : (s : Stand) (leaf : List Atom) (op : Op) (x : Values) → IsBranching s op → Fits (way_cases s leaf op (going (Some true) ∷ staying ∷ missing (Some true) ∷ [])) x
    → Fits (stand_cases s leaf op (forks (turn_of s) causes.FetchMisaligned (branch_goes op s.pc))) x
branching_there s leaf op x b f = branch_there s leaf op x b (is_posed_at s leaf (shape_at (shape_with op Retires))) (is_posed_at s leaf (shape_at (shape_with op (Traps causes.FetchMisaligned)))) f

branching_back : (s : Stand) (leaf : List Atom) (op : Op) (x : Values) → IsBranching s op → Fits (stand_cases s leaf op (forks (turn_of s) causes.FetchMisaligned (branch_goes op s.pc))) x
    → Fits (way_cases s leaf op (going (Some true) ∷ staying ∷ missing (Some true) ∷ [])) x
branching_back s leaf op x b f = branch_back s leaf op x b (is_posed_at s leaf (shape_at (shape_with op Retires))) (is_posed_at s leaf (shape_at (shape_with op (Traps causes.FetchMisaligned)))) f

fence_there : (s : Stand) (leaf : List Atom) (b : Bool) (x : Values) → Fits (way_cases s leaf ops.SfenceVma (if b then trapping causes.Illegal ∷ [] else retiring ∷ [])) x
    → Fits (stand_cases s leaf ops.SfenceVma (if b then traps (turn_of s) causes.Illegal else retires)) x
fence_there s leaf true x f = same_there s leaf ops.SfenceVma (trapping causes.Illegal ∷ []) x f
fence_there s leaf false x f = same_there s leaf ops.SfenceVma (retiring ∷ []) x f

fence_back : (s : Stand) (leaf : List Atom) (b : Bool) (x : Values) → Fits (stand_cases s leaf ops.SfenceVma (if b then traps (turn_of s) causes.Illegal else retires)) x
    → Fits (way_cases s leaf ops.SfenceVma (if b then trapping causes.Illegal ∷ [] else retiring ∷ [])) x
fence_back s leaf true x f = same_back s leaf ops.SfenceVma (trapping causes.Illegal ∷ []) x f
fence_back s leaf false x f = same_back s leaf ops.SfenceVma (retiring ∷ []) x f

granted_there : (s : Stand) (leaf : List Atom) (op : Op) (register : LazyRegister) (p : Bool) (x : Values) → Fits (case_if p (case_with s leaf op (way_at s op (returning register))) [] ++ []) x → Fits (case_if p (case_with s leaf op (return_whole s register)) []) x
granted_there s leaf op register true x (inl f) = inl (return_there s leaf op register x f)
granted_there s leaf op register true x (inr f) = absurd f
granted_there s leaf op register false x f = absurd f

granted_back : (s : Stand) (leaf : List Atom) (op : Op) (register : LazyRegister) (p : Bool) (x : Values) → Fits (case_if p (case_with s leaf op (return_whole s register)) []) x → Fits (case_if p (case_with s leaf op (way_at s op (returning register))) [] ++ []) x
granted_back s leaf op register true x (inl f) = inl (return_back s leaf op register x f)
granted_back s leaf op register true x (inr f) = absurd f
granted_back s leaf op register false x f = absurd f

mret_there : (s : Stand) (leaf : List Atom) (b : Bool) (x : Values) → Fits (way_cases s leaf ops.Mret (if b then returning Mepc ∷ [] else trapping causes.Illegal ∷ [])) x
    → Fits (stand_cases s leaf ops.Mret (if b then granted s Mepc else traps (turn_of s) causes.Illegal)) x
mret_there s leaf true x f = granted_there s leaf ops.Mret Mepc (is_posed_at s leaf (shape_at (shape_with ops.Mret Retires))) x f
mret_there s leaf false x f = same_there s leaf ops.Mret (trapping causes.Illegal ∷ []) x f

mret_back : (s : Stand) (leaf : List Atom) (b : Bool) (x : Values) → Fits (stand_cases s leaf ops.Mret (if b then granted s Mepc else traps (turn_of s) causes.Illegal)) x
    → Fits (way_cases s leaf ops.Mret (if b then returning Mepc ∷ [] else trapping causes.Illegal ∷ [])) x
mret_back s leaf true x f = granted_back s leaf ops.Mret Mepc (is_posed_at s leaf (shape_at (shape_with ops.Mret Retires))) x f
mret_back s leaf false x f = same_back s leaf ops.Mret (trapping causes.Illegal ∷ []) x f

sret_there : (s : Stand) (leaf : List Atom) (b : Bool) (x : Values) → Fits (way_cases s leaf ops.Sret (if b then trapping causes.Illegal ∷ [] else returning Sepc ∷ [])) x
    → Fits (stand_cases s leaf ops.Sret (if b then traps (turn_of s) causes.Illegal else granted s Sepc)) x
sret_there s leaf true x f = same_there s leaf ops.Sret (trapping causes.Illegal ∷ []) x f
sret_there s leaf false x f = granted_there s leaf ops.Sret Sepc (is_posed_at s leaf (shape_at (shape_with ops.Sret Retires))) x f

sret_back : (s : Stand) (leaf : List Atom) (b : Bool) (x : Values) → Fits (stand_cases s leaf ops.Sret (if b then traps (turn_of s) causes.Illegal else granted s Sepc)) x
    → Fits (way_cases s leaf ops.Sret (if b then trapping causes.Illegal ∷ [] else returning Sepc ∷ [])) x
sret_back s leaf true x f = same_back s leaf ops.Sret (trapping causes.Illegal ∷ []) x f
sret_back s leaf false x f = granted_back s leaf ops.Sret Sepc (is_posed_at s leaf (shape_at (shape_with ops.Sret Retires))) x f

-- what fits the ways of the code fits those of the definition
pub ways_there : (s : Stand) (leaf : List Atom) (op : Op) → is_listed (kind_of op) ≡ true → (x : Values) → Fits (way_cases s leaf op (ways_by s (kind_of op))) x → Fits (stand_cases s leaf op (stand_ways s op)) x
ways_there s leaf ops.Beq h x f = branching_there s leaf ops.Beq x (branching_beq s) f
ways_there s leaf ops.Bne h x f = branching_there s leaf ops.Bne x (branching_bne s) f
ways_there s leaf ops.Blt h x f = branching_there s leaf ops.Blt x (branching_blt s) f
ways_there s leaf ops.Bge h x f = branching_there s leaf ops.Bge x (branching_bge s) f
ways_there s leaf ops.Bltu h x f = branching_there s leaf ops.Bltu x (branching_bltu s) f
ways_there s leaf ops.Bgeu h x f = branching_there s leaf ops.Bgeu x (branching_bgeu s) f
ways_there s leaf ops.Jal h x f = same_there s leaf ops.Jal (ways_by s (kind_of ops.Jal)) x f
ways_there s leaf ops.Jalr h x f = same_there s leaf ops.Jalr (ways_by s (kind_of ops.Jalr)) x f
ways_there s leaf ops.Ecall h x f = same_there s leaf ops.Ecall (ways_by s (kind_of ops.Ecall)) x f
ways_there s leaf ops.Ebreak h x f = same_there s leaf ops.Ebreak (ways_by s (kind_of ops.Ebreak)) x f
ways_there s leaf ops.Illegal h x f = same_there s leaf ops.Illegal (ways_by s (kind_of ops.Illegal)) x f
ways_there s leaf ops.Lb h x f = absurd (cc h)
ways_there s leaf ops.Lh h x f = absurd (cc h)
ways_there s leaf ops.Lw h x f = absurd (cc h)
ways_there s leaf ops.Lbu h x f = absurd (cc h)
ways_there s leaf ops.Lhu h x f = absurd (cc h)
ways_there s leaf ops.Sb h x f = absurd (cc h)
ways_there s leaf ops.Sh h x f = absurd (cc h)
ways_there s leaf ops.Sw h x f = absurd (cc h)
ways_there s leaf ops.Csrrw h x f = absurd (cc h)
ways_there s leaf ops.Csrrs h x f = absurd (cc h)
ways_there s leaf ops.Csrrc h x f = absurd (cc h)
ways_there s leaf ops.Csrrwi h x f = absurd (cc h)
ways_there s leaf ops.Csrrsi h x f = absurd (cc h)
ways_there s leaf ops.Csrrci h x f = absurd (cc h)
ways_there s leaf ops.Mret h x f = mret_there s leaf (is_machine s.privilege) x f
ways_there s leaf ops.Sret h x f = sret_there s leaf (is_withheld Tsr (turn_of s).fixed) x f
ways_there s leaf ops.SfenceVma h x f = fence_there s leaf (is_withheld Tvm (turn_of s).fixed) x f
ways_there s leaf ops.Lui h x f = same_there s leaf ops.Lui (ways_by s (kind_of ops.Lui)) x f
ways_there s leaf op h x f = same_there s leaf op (retiring ∷ []) x f

pub ways_back : (s : Stand) (leaf : List Atom) (op : Op) → is_listed (kind_of op) ≡ true → (x : Values) → Fits (stand_cases s leaf op (stand_ways s op)) x → Fits (way_cases s leaf op (ways_by s (kind_of op))) x
ways_back s leaf ops.Beq h x f = branching_back s leaf ops.Beq x (branching_beq s) f
ways_back s leaf ops.Bne h x f = branching_back s leaf ops.Bne x (branching_bne s) f
ways_back s leaf ops.Blt h x f = branching_back s leaf ops.Blt x (branching_blt s) f
ways_back s leaf ops.Bge h x f = branching_back s leaf ops.Bge x (branching_bge s) f
ways_back s leaf ops.Bltu h x f = branching_back s leaf ops.Bltu x (branching_bltu s) f
ways_back s leaf ops.Bgeu h x f = branching_back s leaf ops.Bgeu x (branching_bgeu s) f
ways_back s leaf ops.Jal h x f = same_back s leaf ops.Jal (ways_by s (kind_of ops.Jal)) x f
ways_back s leaf ops.Jalr h x f = same_back s leaf ops.Jalr (ways_by s (kind_of ops.Jalr)) x f
ways_back s leaf ops.Ecall h x f = same_back s leaf ops.Ecall (ways_by s (kind_of ops.Ecall)) x f
ways_back s leaf ops.Ebreak h x f = same_back s leaf ops.Ebreak (ways_by s (kind_of ops.Ebreak)) x f
ways_back s leaf ops.Illegal h x f = same_back s leaf ops.Illegal (ways_by s (kind_of ops.Illegal)) x f
ways_back s leaf ops.Lb h x f = absurd (cc h)
ways_back s leaf ops.Lh h x f = absurd (cc h)
ways_back s leaf ops.Lw h x f = absurd (cc h)
ways_back s leaf ops.Lbu h x f = absurd (cc h)
ways_back s leaf ops.Lhu h x f = absurd (cc h)
ways_back s leaf ops.Sb h x f = absurd (cc h)
ways_back s leaf ops.Sh h x f = absurd (cc h)
ways_back s leaf ops.Sw h x f = absurd (cc h)
ways_back s leaf ops.Csrrw h x f = absurd (cc h)
ways_back s leaf ops.Csrrs h x f = absurd (cc h)
ways_back s leaf ops.Csrrc h x f = absurd (cc h)
ways_back s leaf ops.Csrrwi h x f = absurd (cc h)
ways_back s leaf ops.Csrrsi h x f = absurd (cc h)
ways_back s leaf ops.Csrrci h x f = absurd (cc h)
ways_back s leaf ops.Mret h x f = mret_back s leaf (is_machine s.privilege) x f
ways_back s leaf ops.Sret h x f = sret_back s leaf (is_withheld Tsr (turn_of s).fixed) x f
ways_back s leaf ops.SfenceVma h x f = fence_back s leaf (is_withheld Tvm (turn_of s).fixed) x f
ways_back s leaf ops.Lui h x f = same_back s leaf ops.Lui (ways_by s (kind_of ops.Lui)) x f
ways_back s leaf op h x f = same_back s leaf op (retiring ∷ []) x f
