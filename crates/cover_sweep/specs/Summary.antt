-- The summary of a demo's test.
use Rattle.std.specs.Prelude.{ℕ, List, ◌++◌, length, sum_by, codes}
use Rattle.std.specs.List.{flat_map}
use Rattle.std.specs.Fmt.{decimal}
use Rattle.rv_isa.specs.declared.operation.Op.{Op}
use Rattle.rv_isa.specs.Names.{name_of}
use Rattle.tpl_admit.specs.declared.certificate.Cert.{Cert}
use Rattle.cover_sweep.specs.Counts.{counts_of}

-- how many records all harts have
abbrev pub steps_of : Cert → ℕ
steps_of c = sum_by (λ t. length t) c.traces

-- `demo N` and `steps S`
unfoldable pub summary_head : ℕ → ℕ → List ℕ
summary_head n steps = codes "demo " ++ decimal n ++ codes "\nsteps " ++ decimal steps ++ codes "\n"

-- `op NAME COUNT`
unfoldable pub op_line : Op × ℕ → List ℕ
op_line e = codes "op " ++ name_of e.0 ++ codes " " ++ decimal e.1 ++ codes "\n"

unfoldable pub ops_text : List (Op × ℕ) → List ℕ
ops_text counts = flat_map op_line counts

-- `words W`, and that the test is valid
unfoldable pub summary_end : ℕ → List ℕ
summary_end words = codes "words " ++ decimal words ++ codes "\ncheck yes\n"

-- the demo's number, the steps, how often each operation was fetched, the words that were started, and the verdict
unfoldable pub summary_text : ℕ → Cert → List ℕ
summary_text n c = summary_head n (steps_of c) ++ ops_text (counts_of c) ++ summary_end (length c.words)
