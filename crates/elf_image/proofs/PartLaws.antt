-- Each part of a file: what is read of it is right, and what is right is read.
use Rattle.std.proofs.Common.{◌≡◌, ℕ, ◌+◌, ◌-◌, ◌^◌, ◌<◌, ◌≤◌, Bool, true, false, cond, ltb, leb, eqb, List, [], ◌++◌, length, map, Some, None, Ok, Err, refl, sym, ap, subst, ◌∙◌, arith}
use Rattle.std.specs.declared.result.Result.{Result}
use Rattle.std.proofs.lemmas.List.{length-map}
use Rattle.std.proofs.lemmas.Option.{same_Some}
use Rattle.std.proofs.lemmas.Bool.{ltb-false, le-ltb, eqb-true}
use Rattle.rv_hart.specs.declared.record.Record.{Record}
use Rattle.tpl_ast.specs.declared.template.Region.{Region}
use Rattle.tpl_ast.specs.declared.template.HartState.{HartState}
use Rattle.tpl_ast.specs.declared.template.Template.{Template}
use Rattle.tpl_lang.specs.declared.fault.Fault.{Fault}
use Rattle.tpl_lang.specs.Parsing.{Said, said_by, parses}
use Rattle.tpl_ast.specs.Bodies.{hart_lines}
use Rattle.byte_format.specs.Internal.Readers.{whole}
use Rattle.byte_format.proofs.Bytes.{IsBytes, bytes_rest, bytes_front, bind_some, unless_true, where_true}
use Rattle.byte_format.proofs.Laws.{whole_takes, whole_again}
use Rattle.elf_headers.specs.declared.elf.TheConstants.{NT_START, NT_TRACES, NT_FINAL, NT_TEMPLATE, NT_REST}
use Rattle.elf_headers.specs.declared.runs.Run.{Run}
use Rattle.elf_headers.specs.declared.reading.Head.{Head}
use Rattle.elf_headers.specs.declared.reading.Table.{Table}
use Rattle.elf_headers.specs.Runs.{addresses_of, total_words}
use Rattle.elf_headers.specs.Headers.{program_header, note_segment, load_headers, headers_end, program_headers}
use Rattle.elf_image.specs.Notes.{start_desc, final_desc, rest_desc, note, notes_spelling, Notes, list_notes}
use Rattle.elf_image.specs.File.{entry_of}
use Rattle.elf_image.specs.Parts.{AreRuns, IsHead, IsTable, AreNotes, AreRecords, AreValues, IsTemplate, AreLoads}
use Rattle.elf_headers.specs.Internal.Checks.{is_head, are_runs, is_table}
use Rattle.elf_image.specs.Internal.Checks.{are_named, is_fit}
use Rattle.elf_headers.specs.Internal.Readers.{header_at, sized_header_at, table_at}
use Rattle.elf_image.specs.Internal.PartReaders.{segment_notes_at, traces_at, said_in, template_at, image_at, loaded_at}
use Rattle.note_items.proofs.Booleans.{equal, at_most, is_at_most, and_true, both_true, no_then, yes_then}
use Rattle.elf_headers.proofs.HeaderLaws.{reads_header, reads_table}
use Rattle.elf_image.proofs.RunLaws.{AreAscending, runs_take, runs_pass, offsets_take, offsets_fit, runs_ascend, words_in, words_fit, words_start}
use Rattle.elf_image.proofs.NoteLaws.{FitNotes, reads_segment_notes, desc_bytes, FitTraces, reads_traces}
use Rattle.elf_image.proofs.RestLaws.{FitRest, named_take, named_back}
use Rattle.elf_image.proofs.LoadLaws.{FitWords, reads_image}

-- ---- part 1

pub head_takes : (bytes : List ℕ) (x : Head × List ℕ) → IsBytes bytes → sized_header_at bytes ≡ Some x → IsHead bytes x.0 x.1
unfolding sized_header_at
head_takes bytes x fits e =
    let g = unless_true (ltb 8388608 (length bytes)) (header_at bytes) x e in
    let m = reads_header.takes bytes x fits g.1 in
    let t = no_then (ltb x.0.phnum 1) (leb x.0.phnum 65000) m.1.1 in
    let some : 1 ≤ x.0.phnum = ltb-false _ _ t.0 in
    record { text = m.0; size = ltb-false _ _ g.0; entry = m.1.0.0; some = some; most = at_most _ _ t.1 }

pub head_again : (bytes : List ℕ) (h : Head) (rest : List ℕ) → IsHead bytes h rest → sized_header_at bytes ≡ Some (h, rest)
unfolding sized_header_at
head_again bytes h rest is =
    let small : ltb 8388608 (length bytes) ≡ false = le-ltb _ _ is.size in
    let test : is_head h ≡ true = counts h.phnum (le-ltb _ _ is.some) (is_at_most _ _ is.most) in
    rw small (ap header_at is.text ∙ reads_header.again h rest ((is.entry, omega (arith, is.most)), test))
  where
    counts : (n : ℕ) → ltb n 1 ≡ false → leb n 65000 ≡ true → cond (ltb n 1) false (leb n 65000) ≡ true
    counts n p q = rw (p, q) refl

-- ---- part 2

-- the program headers, of which there are as many as is said
abbrev headers_of : ℕ → Table → List ℕ
headers_of phnum t = program_header (note_segment (headers_end phnum) t.notes) ++ load_headers (headers_end phnum + t.notes) t.runs

headers_are : (t : Table) → program_headers t.notes t.runs ≡ headers_of (1 + length t.runs) t
unfolding program_headers
headers_are t = refl

table_test : (t : Table) → AreRuns 0 t.runs → total_words t.runs ≤ 60000 → is_table t ≡ true
unfolding is_table
table_test t runs few = both (are_runs 0 t.runs) (leb (total_words t.runs) 60000) (runs_pass 0 t.runs runs) (is_at_most _ _ few)
  where
    both : (a b : Bool) → a ≡ true → b ≡ true → cond a b false ≡ true
    both a b p q = rw (p, q) refl

table_tests : (t : Table) → is_table t ≡ true → (are_runs 0 t.runs ≡ true) × (leb (total_words t.runs) 60000 ≡ true)
unfolding is_table
table_tests t e = yes_then (are_runs 0 t.runs) (leb (total_words t.runs) 60000) e

pub table_takes : (phnum : ℕ) (bytes : List ℕ) (x : Table × List ℕ) → 1 ≤ phnum → IsBytes bytes → table_at phnum bytes ≡ Some x → IsTable phnum bytes x.0 x.1
table_takes phnum bytes x some fits e =
    let m = (reads_table phnum).takes bytes x fits e in
    let t = table_tests x.0 m.1.1 in
    let count : 1 + length x.0.runs ≡ phnum = omega (arith, m.1.0.1.0) in
    record {
      text = m.0 ∙ ap (λ (n : ℕ). headers_of n x.0 ++ x.1) (sym count) ∙ ap (λ (z : List ℕ). z ++ x.1) (sym (headers_are x.0));
      count = count;
      notes = m.1.0.0;
      runs = runs_take 0 x.0.runs t.0;
      total = at_most _ _ t.1;
      offsets = offsets_take x.0.runs (headers_end phnum + x.0.notes) m.1.0.1.1;
    }

pub table_again : (phnum : ℕ) (bytes : List ℕ) (t : Table) (rest : List ℕ) → IsTable phnum bytes t rest → table_at phnum bytes ≡ Some (t, rest)
table_again phnum bytes t rest is =
    let text : bytes ≡ headers_of phnum t ++ rest = is.text ∙ ap (λ (z : List ℕ). z ++ rest) (headers_are t) ∙ ap (λ (n : ℕ). headers_of n t ++ rest) is.count in
    let count : length t.runs ≡ phnum - 1 = omega (arith, is.count) in
    ap (table_at phnum) text
    ∙ (reads_table phnum).again t rest ((is.notes, (count, offsets_fit t.runs 0 (headers_end phnum + t.notes) is.runs is.total is.offsets)), table_test t is.runs is.total)

-- ---- part 3

pub notes_take : (t : Table) (bytes : List ℕ) (x : Notes × List ℕ) → t.notes < 2 ^ 32 → total_words t.runs ≤ 60000 → IsBytes bytes
    → segment_notes_at t.notes (total_words t.runs) bytes ≡ Some x → AreNotes t bytes x.0 x.1
notes_take t bytes x small few fits e =
    let m = (reads_segment_notes t.notes (total_words t.runs) small (omega arith)).takes bytes x fits e in
    let f = m.1.0 in
    let o = f.others in
    record {
      text = m.0;
      size = m.1.1;
      some_harts = f.some_harts;
      harts = f.harts;
      start = f.start;
      finals_count = f.finals_count;
      finals = f.finals;
      last_count = f.last_count;
      last = f.last;
      choices_count = o.choices_count;
      choices = o.choices_words;
      names = o.names_ascend;
      dropped_count = o.dropped_count;
      dropped = o.dropped_ascend;
    }

pub notes_again : (t : Table) (bytes : List ℕ) (n : Notes) (rest : List ℕ) → t.notes < 2 ^ 32 → total_words t.runs ≤ 60000
    → AreNotes t bytes n rest → segment_notes_at t.notes (total_words t.runs) bytes ≡ Some (n, rest)
notes_again t bytes n rest small few is =
    let o : FitRest (length n.start) n.choices n.names n.dropped = record { choices_count = is.choices_count; choices_words = is.choices; names_ascend = is.names; dropped_count = is.dropped_count; dropped_ascend = is.dropped } in
    let f : FitNotes (total_words t.runs) n = record { some_harts = is.some_harts; harts = is.harts; start = is.start; finals_count = is.finals_count; finals = is.finals; last_count = is.last_count; last = is.last; others = o } in
    ap (segment_notes_at t.notes (total_words t.runs)) is.text ∙ (reads_segment_notes t.notes (total_words t.runs) small (omega arith)).again n rest (f, is.size)

-- the records consist of bytes
pub traces_bytes : (bytes : List ℕ) (n : Notes) (rest : List ℕ) → IsBytes bytes → bytes ≡ notes_spelling (list_notes n) ++ rest → IsBytes n.traces
unfolding notes_spelling
traces_bytes bytes n rest fits e =
    let all = bytes_front bytes (notes_spelling (list_notes n)) rest fits e in
    let others : List ℕ = note NT_FINAL (final_desc n.finals n.last) ++ (note NT_TEMPLATE n.text ++ (note NT_REST (rest_desc n.choices n.names n.dropped) ++ [])) in
    desc_bytes NT_TRACES n.traces others (bytes_rest (notes_spelling (list_notes n)) (note NT_START (start_desc n.start)) (note NT_TRACES n.traces ++ others) all refl)

-- ---- part 4

pub records_take : (n : Notes) (traces : List (List Record)) → IsBytes n.traces → whole (traces_at (length n.start)) n.traces ≡ Some traces → AreRecords n traces
records_take n traces fits e =
    let m = whole_takes (reads_traces (length n.start)) n.traces traces fits e in
    record { text = m.0; count = m.1.count; records = m.1.records; steps = m.1.steps }

pub records_again : (n : Notes) (traces : List (List Record)) → AreRecords n traces → whole (traces_at (length n.start)) n.traces ≡ Some traces
records_again n traces is =
    let f : FitTraces (length n.start) traces = record { count = is.count; records = is.records; steps = is.steps } in
    ap (whole (traces_at (length n.start))) is.text ∙ whole_again (reads_traces (length n.start)) traces f

-- ---- part 5

said_ok : (r : Result Said Fault) (s : Said) → said_in r ≡ Some s → r ≡ Ok s
said_ok (Ok x) s e = ap (λ (y : Said). Ok y) (same_Some x s e)
said_ok (Err f) s e = absurd cc

pub template_takes : (n : Notes) (t : Template) → AreValues 0 n.names → t.text ≡ n.text → template_at n ≡ Some (said_by t) → IsTemplate n t
unfolding template_at is_fit
template_takes n t values text e =
    let a = bind_some (said_in (parses n.text)) (λ s. cond (is_fit n s) (Some s) None) (said_by t) e in
    let b = where_true (is_fit n a.0) (Some a.0) (said_by t) a.2 in
    let same : a.0 ≡ said_by t = same_Some _ _ b.1 in
    let fit : is_fit n (said_by t) ≡ true = subst (λ (s : Said). is_fit n s ≡ true) same b.0 in
    let both = and_true (eqb (length (map hart_lines t.harts)) (length n.start)) (are_named t.names n.names) fit in
    record {
      parses = record { text = text; says = said_ok (parses n.text) (said_by t) (a.1 ∙ ap (λ (s : Said). Some s) same) };
      harts = sym (length-map t.harts hart_lines) ∙ eqb-true _ _ both.0;
      names = named_take t.names 0 n.names values both.1;
    }

template_fits : (n : Notes) (t : Template) → IsTemplate n t → is_fit n (said_by t) ≡ true
unfolding is_fit
template_fits n t is =
    both_true (eqb (length (map hart_lines t.harts)) (length n.start)) (are_named t.names n.names) (equal _ _ (length-map t.harts hart_lines ∙ is.harts)) (named_back t.names 0 n.names is.names)

pub template_again : (n : Notes) (t : Template) → IsTemplate n t → template_at n ≡ Some (said_by t)
unfolding template_at
template_again n t is = rw (is.parses.says, template_fits n t is) refl

-- ---- part 6

pub loads_take : (entry : ℕ) (runs : List Run) (start : List HartState) (ram : List Region) (bytes : List ℕ) (words : List (ℕ × ℕ)) → AreRuns 0 runs → IsBytes bytes
    → loaded_at entry runs start ram bytes ≡ Some words → AreLoads entry runs start ram bytes words
unfolding loaded_at
loads_take entry runs start ram bytes words is fits e =
    let g = where_true (eqb entry (entry_of start)) (whole (image_at ram runs) bytes) words e in
    let m = whole_takes (reads_image ram runs) bytes words fits g.1 in
    let ascend = subst (λ (as' : List ℕ). AreAscending 0 as') (sym m.1.0.places) (runs_ascend runs 0 is) in
    record { text = m.0; places = m.1.0.places; in_ram = words_start ram 0 words ascend m.1.1 m.1.0.each; entry_is = eqb-true _ _ g.0 }

pub loads_again : (entry : ℕ) (runs : List Run) (start : List HartState) (ram : List Region) (bytes : List ℕ) (words : List (ℕ × ℕ))
    → AreLoads entry runs start ram bytes words → loaded_at entry runs start ram bytes ≡ Some words
unfolding loaded_at
loads_again entry runs start ram bytes words is =
    let f : FitWords (addresses_of runs) words = record { places = is.places; each = words_fit ram 0 words is.in_ram } in
    rw (equal entry (entry_of start) is.entry_is) (ap (whole (image_at ram runs)) is.text ∙ whole_again (reads_image ram runs) words (f, words_in ram 0 words is.in_ram))
