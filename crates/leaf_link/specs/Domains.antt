-- The values of a candidate are in the domains of the variables that its step uses.
use Rattle.std.specs.Prelude.{◌≡◌, ℕ, ◌^◌, ◌<◌, ◌==◌, ◌||◌, if◌then◌else◌, Bool, true, false, not, List, Option, Some, None}
use Rattle.dom_set.specs.Elements.{is_in}
use Rattle.rv_csr.specs.declared.table.LazyRegister.{LazyRegister}
use Rattle.rv_csr.specs.Table.{is_legal_at}
use Rattle.rv_script.specs.Folds.{Known, Entry}
use Rattle.rv_script.specs.Script.{Label.DataRoot, Label.DataSecond, Label.FromCsr, Label.FromVector}
use Rattle.rv_script.specs.Logs.{entry_place, labelled}
use Rattle.sv_walk.specs.declared.entry.Kind.TheVariants.{Load as ForLoad, Store as ForStore}
use Rattle.addr_rows.specs.Walks.{EntryRow}
use Rattle.rv_hart.specs.Privileged.{lazy_address}
use Rattle.tpl_ast.specs.declared.template.Atom.{Atom}
use Rattle.fd_prob.specs.declared.slot.Slot.{Slot}
use Rattle.fd_prob.specs.declared.slot.Slot.TheVariants as slots
use Rattle.leaf_link.specs.Turns.{Turn, csr_of, holds_address, may_be_old}
use Rattle.leaf_link.specs.Candidates.{IsCandidate}
use Rattle.leaf_link.specs.Cases.{is_some_word}
use Rattle.leaf_link.specs.KindLaws.{IsPosed}
use Rattle.leaf_link.specs.Problems.{key_of}
use Rattle.leaf_link.specs.Reaching.{AreRows, HasPages}
use Rattle.leaf_link.specs.Firsts.{first_domain}

-- a question was asked whose place was not known
abbrev pub is_new : Known → Option Entry → Bool
is_new known None = false
is_new known (Some e) = not (is_some_word (known (entry_place e)))

-- the new page table entries and the vector count where the step starts them; all other variables always
abbrev pub is_bounded : Turn → List Entry → Slot → Bool
is_bounded t log slots.FirstPte = is_new t.known (labelled log DataRoot)
is_bounded t log slots.SecondPte = is_new t.known (labelled log DataSecond)
is_bounded t log slots.Vector = is_new t.known (labelled log FromVector)
is_bounded t log _ = true

-- each has a value in its domain, cut by the atoms
abbrev pub CandidatesAreInDomains : Type 0
CandidatesAreInDomains =
    (t : Turn) (walk : List Entry) (pa : ℕ) (leaf : List Atom) (pages : ℕ → Bool) (loads stores : List EntryRow) → IsPosed t walk pa leaf → HasPages t leaf pages → AreRows t pages ForLoad loads → AreRows t pages ForStore stores
    → (new : Known) (w : IsCandidate t leaf new) (s : Slot) → is_bounded t w.log s ≡ true → first_domain t pa leaf w.instr.op s (key_of t leaf new w s) ≡ true

-- and each value is a word; of the data word nothing else is asked than that it may stand at its place
abbrev pub CandidatesAreWords : Type 0
CandidatesAreWords = (t : Turn) (walk : List Entry) (pa : ℕ) (leaf : List Atom) → IsPosed t walk pa leaf → (new : Known) (w : IsCandidate t leaf new) (s : Slot) → key_of t leaf new w s < 2 ^ 32

-- OLD VALUES
-- mcause and scause
abbrev pub holds_cause : ℕ → Bool
holds_cause addr = addr == 0x142 || addr == 0x342

-- the old value of an untouched CSR: one of the vectors in mtvec, stvec, mepc and sepc, a legal one in mcause and scause, and any word in the others
abbrev pub in_old_domain : Turn → ℕ → ℕ → Bool
in_old_domain t addr v = if holds_address addr then is_in t.vectors v else (if holds_cause addr then is_legal_at addr v else true)

-- where a candidate starts a CSR that its step reads, the old value is that one, and in its domain
abbrev pub OldValuesAreInDomains : Type 0
OldValuesAreInDomains =
    (t : Turn) (leaf : List Atom) (new : Known) (w : IsCandidate t leaf new) (e : Entry) → labelled w.log FromCsr ≡ Some e → t.known (entry_place e) ≡ None
    → (new (entry_place e) ≡ Some (key_of t leaf new w slots.OldCsr)) × (in_old_domain t (csr_of (entry_place e)) (key_of t leaf new w slots.OldCsr) ≡ true)

-- which is just what may be started
abbrev pub OldDomainsAreLet : Type 0
OldDomainsAreLet = (t : Turn) (register : LazyRegister) (v : ℕ) → may_be_old t (lazy_address register) v ≡ in_old_domain t (lazy_address register) v
