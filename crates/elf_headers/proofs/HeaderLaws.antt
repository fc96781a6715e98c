-- The laws of the ELF header and the program headers.
use Rattle.std.proofs.Common.{◌≡◌, ℕ, ◌+◌, ◌-◌, ◌*◌, ◌/◌, ◌%◌, ◌^◌, ◌<◌, ltb, eqb, List, [], ◌∷◌, ◌++◌, length, Some, refl, sym, ap, subst, ◌∙◌, append_assoc, arith}
use Rattle.std.specs.Prelude.{IsTrue}
use Rattle.std.proofs.lemmas.Bool.{eqb-true, ltb-true, lt-ltb}
use Rattle.std.proofs.lemmas.Option.{cond_some, same_Some}
use Rattle.byte_format.specs.Numbers.{half, word, chained}
use Rattle.byte_format.specs.Internal.Readers.{chain_at}
use Rattle.byte_format.proofs.Laws.{Reads, reads_half, reads_word, reads_then, reads_both, reads_behind, reads_ahead, reads_as, reads_where, reads_fits, reads_text, reads_under}
use Rattle.byte_format.proofs.Groups.{FitChain, reads_chain}
use Rattle.elf_headers.specs.declared.elf.TheConstants.{EV_CURRENT, ET_EXEC, EM_RISCV, EHDR_SIZE, PHDR_SIZE, PT_LOAD, PT_NOTE, PF_X, PF_W, PF_R, ALIGN}
use Rattle.elf_headers.specs.declared.runs.Run.{Run}
use Rattle.elf_headers.specs.declared.reading.Head.{Head}
use Rattle.elf_headers.specs.declared.reading.Table.{Table}
use Rattle.elf_headers.specs.Headers.{e_ident, elf_kind, elf_places, elf_counts, elf_header, segment_place, segment_size, program_header, note_segment, load_segment, load_headers, headers_end}
use Rattle.elf_headers.specs.Internal.Checks.{is_head, is_table}
use Rattle.elf_headers.specs.Internal.Readers.{kind_at, counts_at, places_at, head_of, header_at, twice_at, segment_at, size_of, note_segment_at, run_of, load_at, next_offset, table_of, table_at}

-- ---- the ELF header

reads_kind : Reads ℕ kind_at elf_kind (λ n. n < 2 ^ 32)
unfolding kind_at elf_kind
reads_kind = reads_behind (half ET_EXEC) (reads_behind (half EM_RISCV) (reads_behind (word EV_CURRENT) reads_word))

reads_counts : Reads ℕ counts_at elf_counts (λ n. n < 2 ^ 16)
unfolding counts_at elf_counts
reads_counts = reads_text (λ n. half n ++ (half 0 ++ (half 0 ++ half 0))) (λ n. simp append_assoc) (reads_ahead (λ n. half 0) (reads_ahead (λ n. half 0) (reads_ahead (λ n. half 0) reads_half)))

reads_places : Reads ℕ places_at (λ n. elf_places ++ elf_counts n) (λ n. n < 2 ^ 16)
unfolding places_at elf_places
reads_places = reads_text (λ n. (word EHDR_SIZE ++ (word 0 ++ (word 0 ++ (half EHDR_SIZE ++ half PHDR_SIZE)))) ++ elf_counts n) (λ n. simp append_assoc)
    (reads_behind (word EHDR_SIZE) (reads_behind (word 0) (reads_behind (word 0) (reads_behind (half EHDR_SIZE) (reads_behind (half PHDR_SIZE) reads_counts)))))

pub reads_header : Reads Head header_at (λ h. elf_header h.entry h.phnum) (λ h. ((h.entry < 2 ^ 32) × (h.phnum < 2 ^ 16)) × IsTrue (is_head h))
unfolding header_at elf_header
reads_header = reads_where is_head
    (reads_as head_of (λ h. (h.entry, h.phnum)) (λ h. (h.entry < 2 ^ 32) × (h.phnum < 2 ^ 16))
    (λ t h f e. subst (λ (z : Head). ((z.entry, z.phnum) ≡ t) × ((z.entry < 2 ^ 32) × (z.phnum < 2 ^ 16))) (same_Some _ _ e) (refl, f))
    (λ h f. (refl, f))
    (reads_behind e_ident (reads_both reads_kind reads_places)))

-- ---- the program headers

reads_twice : Reads ℕ twice_at (λ n. word n ++ word n) (λ n. n < 2 ^ 32)
unfolding twice_at
reads_twice = reads_ahead (λ n. word n) reads_word

reads_segment : (kind offset flags : ℕ) → Reads (ℕ × ℕ) (segment_at kind offset flags) (λ p. segment_place kind offset p.0 ++ segment_size p.1 flags) (λ p. (p.0 < 2 ^ 32) × (p.1 < 2 ^ 32))
unfolding segment_at segment_place segment_size
reads_segment kind offset flags =
    reads_both (reads_behind (word kind) (reads_behind (word offset) reads_twice))
    (reads_text (λ n. word n ++ (word n ++ (word flags ++ word ALIGN))) (λ n. simp append_assoc) (reads_ahead (λ n. word ALIGN) (reads_ahead (λ n. word flags) reads_twice)))

reads_note_segment : (offset : ℕ) → Reads ℕ (note_segment_at offset) (λ n. program_header (note_segment offset n)) (λ n. n < 2 ^ 32)
unfolding note_segment_at program_header
reads_note_segment offset = reads_as size_of (λ n. (0, n)) (λ n. n < 2 ^ 32)
    (λ p n f e. let g = cond_some (eqb p.0 0) p.1 n e in
    (ap (λ (k : ℕ). (0, k)) (sym g.1) ∙ ap (λ (k : ℕ). (k, p.1)) (sym (eqb-true p.0 0 g.0)), subst (λ (k : ℕ). k < 2 ^ 32) g.1 f.1))
    (λ n f. (refl, (omega arith, f)))
    (reads_segment PT_NOTE offset PF_R)

-- what a program header can say of a run
pub record FitsRun (offset : ℕ) (r : Run) : Type 0 where
  pub offset_fits : offset < 2 ^ 32
  pub addr_fits : r.addr < 2 ^ 32
  pub size_fits : 4 * r.words < 2 ^ 32

reads_load : (offset : ℕ) → Reads Run (load_at offset) (λ r. program_header (load_segment offset r)) (FitsRun offset)
unfolding load_at program_header
reads_load offset = reads_fits (FitsRun offset)
    (λ r f. record { offset_fits = ltb-true _ _ f.1; addr_fits = f.0.0; size_fits = f.0.1 })
    (λ r f. ((f.addr_fits, f.size_fits), lt-ltb _ _ f.offset_fits))
    (reads_under (ltb offset (2 ^ 32))
    (reads_as run_of (λ r. (r.addr, 4 * r.words)) (λ r. (r.addr < 2 ^ 32) × (4 * r.words < 2 ^ 32))
    (λ p r f e. let g = cond_some (eqb (p.1 % 4) 0) (record { addr = p.0; words = p.1 / 4 }) r e in
    let whole : 4 * (p.1 / 4) ≡ p.1 = four p.1 (eqb-true (p.1 % 4) 0 g.0) in
    subst (λ (z : Run). ((z.addr, 4 * z.words) ≡ p) × ((z.addr < 2 ^ 32) × (4 * z.words < 2 ^ 32))) g.1 (ap (λ (k : ℕ). (p.0, k)) whole, (f.0, rw whole f.1)))
    (λ r f. (run_back r.addr r.words, f))
    (reads_segment PT_LOAD offset (PF_R + PF_W + PF_X))))
  where
    four : (n : ℕ) → n % 4 ≡ 0 → 4 * (n / 4) ≡ n
    four n e = omega arith

    divided : (n : ℕ) → (4 * n) / 4 ≡ n
    divided n = omega arith

    even : (n : ℕ) → (4 * n) % 4 ≡ 0
    even n = omega arith

    run_back : (addr words : ℕ) → run_of (addr, 4 * words) ≡ Some (record { addr = addr; words = words })
    run_back addr words = rw (even words, divided words) refl

same_loads : (runs : List Run) (offset : ℕ) → chained next_offset (λ o r. program_header (load_segment o r)) offset runs ≡ load_headers offset runs
unfolding chained load_headers
same_loads [] offset = refl
same_loads (r ∷ rs) offset = ap (λ (z : List ℕ). program_header (load_segment offset r) ++ z) (same_loads rs (offset + 4 * r.words))

reads_loads : (n offset : ℕ) → Reads (List Run) (chain_at next_offset load_at n offset) (load_headers offset) (λ rs. (length rs ≡ n) × FitChain next_offset FitsRun offset rs)
reads_loads n offset = reads_text (load_headers offset) (λ rs. same_loads rs offset) (reads_chain next_offset n offset reads_load)

abbrev pub FitsTable : ℕ → Table → Type 0
FitsTable phnum t = (t.notes < 2 ^ 32) × ((length t.runs ≡ phnum - 1) × FitChain next_offset FitsRun (headers_end phnum + t.notes) t.runs)

pub reads_table : (phnum : ℕ) → Reads Table (table_at phnum) (λ t. program_header (note_segment (headers_end phnum) t.notes) ++ load_headers (headers_end phnum + t.notes) t.runs) (λ t. FitsTable phnum t × IsTrue (is_table t))
unfolding table_at
reads_table phnum = reads_where is_table
    (reads_as table_of (λ t. (t.notes, t.runs)) (FitsTable phnum)
    (λ p t f e. subst (λ (z : Table). ((z.notes, z.runs) ≡ p) × FitsTable phnum z) (same_Some _ _ e) (refl, f))
    (λ t f. (refl, f))
    (reads_then (reads_note_segment (headers_end phnum)) (λ size. reads_loads (phnum - 1) (headers_end phnum + size))))
