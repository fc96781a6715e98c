-- How many bytes a file has.
use Rattle.std.proofs.Common.{◌≡◌, ℕ, suc, ◌+◌, ◌-◌, ◌*◌, ◌%◌, ◌≤◌, Bool, true, false, cond, eqb, List, [], ◌∷◌, ◌++◌, length, map, refl, sym, ap, ◌∙◌, arith}
use Rattle.std.specs.Prelude.{sum_by}
use Rattle.std.specs.List.{flat_map}
use Rattle.std.proofs.lemmas.List.{length-append, length-replicate}
use Rattle.std.proofs.lemmas.List.Sums.{sum_by-cons}
use Rattle.std.proofs.lemmas.Bool.{eqb-true}
use Rattle.rv_script.specs.declared.access.Access.{Access}
use Rattle.rv_hart.specs.declared.record.Record.{Record}
use Rattle.tpl_admit.specs.declared.certificate.Cert.{Cert}
use Rattle.tpl_admit.specs.declared.dropped.Dropped.{Dropped}
use Rattle.tpl_ast.specs.declared.template.HartState.{HartState}
use Rattle.tpl_admit.specs.Sizes.{runs_behind, run_count, state_bytes, record_bytes, trace_bytes, note_bytes, notes_bytes, file_size}
use Rattle.tpl_admit.specs.WellFormed.{IsWellFormed}
use Rattle.byte_format.specs.Numbers.{byte, half, word, padding, counted}
use Rattle.elf_headers.specs.declared.elf.TheConstants.{NT_START, NT_TRACES, NT_FINAL, NT_TEMPLATE, NT_REST}
use Rattle.elf_headers.specs.declared.runs.Run.{Run}
use Rattle.elf_headers.specs.declared.writing.Segment.{Segment}
use Rattle.elf_headers.specs.Runs.{address_of, runs_from, runs_of}
use Rattle.elf_headers.specs.Headers.{e_ident, elf_kind, elf_places, elf_counts, elf_header, segment_place, segment_size, program_header, note_segment, load_segment, load_headers, headers_end, program_headers, all_headers}
use Rattle.note_items.specs.Spelling.{pair_spelling, fixed_spelling, state_spelling, access_spelling, record_place, record_marks, record_values, record_spelling, trace_spelling, drop_spelling}
use Rattle.elf_image.specs.Notes.{start_desc, traces_desc, final_desc, rest_desc, note_name, note, Notes, list_notes, notes_of, notes_in, notes_spelling}
use Rattle.elf_image.specs.File.{entry_of, runs_in, load_spelling, file_bytes}
use Rattle.elf_headers.proofs.Sizes.{length-elf_header, length-program_header}

abbrev run : ℕ → ℕ → Run
run addr words = record { addr = addr; words = words }

-- the same length for each item
each : {A : Type 0} (f : A → List ℕ) (k : ℕ) → ((x : A) → length (f x) ≡ k) → (xs : List A) → length (flat_map f xs) ≡ k * length xs
each f k same [] = sym (omega arith)
each f k same (x ∷ xs) = length-append (f x) (flat_map f xs) ∙ (let ih = each f k same xs in let h = same x in omega arith)

-- a length that is known of each item
sums : {A : Type 0} (f : A → List ℕ) (size : A → ℕ) → ((x : A) → length (f x) ≡ size x) → (xs : List A) → length (flat_map f xs) ≡ sum_by size xs
sums f size same [] = refl
sums f size same (x ∷ xs) = length-append (f x) (flat_map f xs) ∙ (let ih = sums f size same xs in let h = same x in let s = sum_by-cons size x xs in omega arith)

length-word : (n : ℕ) → length (word n) ≡ 4
unfolding word
length-word n = refl

length-pair : (p : ℕ × ℕ) → length (pair_spelling p) ≡ 8
unfolding pair_spelling word
length-pair p = refl

length-state : (s : HartState) → length (state_spelling s) ≡ state_bytes s
unfolding state_spelling fixed_spelling counted word
length-state s = let h = each pair_spelling 8 length-pair s.places in omega arith

length-access : (a : Access) → length (access_spelling a) ≡ 12
unfolding access_spelling word byte half
length-access a = refl

length-record : (r : Record) → length (record_spelling r) ≡ record_bytes r
unfolding record_spelling record_place record_marks record_values counted word byte
length-record r = let h = each access_spelling 12 length-access r.accesses in omega arith

length-trace : (records : List Record) → length (trace_spelling records) ≡ trace_bytes records
unfolding trace_spelling counted word
length-trace records = let h = sums record_spelling record_bytes length-record records in omega arith

length-padding : (n : ℕ) → length (padding n) ≡ (4 - n % 4) % 4
unfolding padding
length-padding n = length-replicate ((4 - n % 4) % 4) 0

length-note : (kind : ℕ) (desc : List ℕ) → length (note kind desc) ≡ note_bytes (length desc)
unfolding note word note_name
length-note kind desc = let p = length-padding (length desc) in simp length-append (omega arith)

pub length-start_desc : (states : List HartState) → length (start_desc states) ≡ 8 + sum_by state_bytes states
unfolding start_desc counted word
length-start_desc states = let h = sums state_spelling state_bytes length-state states in omega arith

pub length-traces_desc : (traces : List (List Record)) → length (traces_desc traces) ≡ sum_by trace_bytes traces
unfolding traces_desc
length-traces_desc traces = sums trace_spelling trace_bytes length-trace traces

pub length-final_desc : (states : List HartState) (last : List ℕ) → length (final_desc states last) ≡ sum_by state_bytes states + (4 + 4 * length last)
unfolding final_desc counted
length-final_desc states last =
    let h = sums state_spelling state_bytes length-state states in
    let k = each word 4 length-word last in
    let n = length-word (length last) in
    simp length-append (omega arith)

length-drop : (d : Dropped) → length (drop_spelling d) ≡ 16
unfolding drop_spelling word
length-drop d = refl

pub length-rest_desc : (choices : List ℕ) (names : List (ℕ × ℕ)) (dropped : List Dropped) → length (rest_desc choices names dropped) ≡ 12 + 4 * length choices + (8 * length names + 16 * length dropped)
unfolding rest_desc counted
length-rest_desc choices names dropped =
    let a = each word 4 length-word choices in
    let b = each pair_spelling 8 length-pair names in
    let d = each drop_spelling 16 length-drop dropped in
    let p = length-word (length choices) in
    let q = length-word (length names) in
    let r = length-word (length dropped) in
    simp length-append (omega arith)

-- as many bytes as five notes have
pub length-listed : (n : Notes) → length (notes_spelling (list_notes n))
    ≡ note_bytes (length (start_desc n.start)) + (note_bytes (length n.traces) + (note_bytes (length (final_desc n.finals n.last)) + (note_bytes (length n.text) + note_bytes (length (rest_desc n.choices n.names n.dropped)))))
unfolding notes_spelling
length-listed n =
    let start = length-note NT_START (start_desc n.start) in
    let traces = length-note NT_TRACES n.traces in
    let final = length-note NT_FINAL (final_desc n.finals n.last) in
    let template = length-note NT_TEMPLATE n.text in
    let other = length-note NT_REST (rest_desc n.choices n.names n.dropped) in
    five (note NT_START (start_desc n.start)) (note NT_TRACES n.traces) (note NT_FINAL (final_desc n.finals n.last)) (note NT_TEMPLATE n.text) (note NT_REST (rest_desc n.choices n.names n.dropped))
    ∙ rw (start, traces, final, template, other) refl
  where
    five : (a b c d e : List ℕ) → length (a ++ (b ++ (c ++ (d ++ (e ++ []))))) ≡ length a + (length b + (length c + (length d + length e)))
    five a b c d e = simp length-append (omega arith)

pub length-notes : (c : Cert) → length (notes_spelling (notes_in c)) ≡ notes_bytes c
length-notes c =
    length-listed (notes_of c) ∙ rw (length-start_desc c.start, length-traces_desc c.traces, length-final_desc c.finals c.last, length-rest_desc c.choices c.names c.dropped) refl

-- the notes are no longer than the file
pub notes_fit : (c : Cert) → IsWellFormed c → length (notes_spelling (notes_in c)) ≤ 8388608
notes_fit c w =
    let h = length-notes c in
    let s = w.size in
    let part = within (52 + 32 * (1 + run_count c.words)) (notes_bytes c) (4 * length c.words) s in
    omega arith
  where
    within : (a b d : ℕ) → a + (b + d) ≤ 8388608 → b ≤ 8388608
    within a b d le = omega arith

length-runs_from : (rest : List (ℕ × ℕ)) (addr words : ℕ) → length (runs_from addr words (map address_of rest)) ≡ 1 + runs_behind (addr + 4 * words) rest
length-runs_from [] addr words = refl
length-runs_from (w ∷ ws) addr words =
    on (eqb w.0 (addr + 4 * words)) (λ e. eqb-true w.0 (addr + 4 * words) e) (length-runs_from ws addr (words + 1)) (length-runs_from ws w.0 1)
  where
    on : (b : Bool) → (b ≡ true → w.0 ≡ addr + 4 * words)
        → length (runs_from addr (words + 1) (map address_of ws)) ≡ 1 + runs_behind (addr + 4 * (words + 1)) ws
        → length (runs_from w.0 1 (map address_of ws)) ≡ 1 + runs_behind (w.0 + 4 * 1) ws
        → length (cond b (runs_from addr (words + 1) (map address_of ws)) (run addr words ∷ runs_from w.0 1 (map address_of ws))) ≡ 1 + (cond b 0 1 + runs_behind (w.0 + 4) ws)
    on true is longer other = let e : addr + 4 * (words + 1) ≡ w.0 + 4 = omega (arith, is refl) in longer ∙ ap (λ (n : ℕ). 1 + runs_behind n ws) e ∙ omega arith
    on false is longer other = let e : w.0 + 4 * 1 ≡ w.0 + 4 = omega arith in ap suc (other ∙ ap (λ (n : ℕ). 1 + runs_behind n ws) e) ∙ omega arith

-- as many runs as the certificate's words have
pub length-runs : (words : List (ℕ × ℕ)) → length (runs_of (map address_of words)) ≡ run_count words
length-runs [] = refl
length-runs (w ∷ ws) = length-runs_from ws w.0 1 ∙ ap (λ (n : ℕ). 1 + runs_behind n ws) (omega arith)

length-load_headers : (runs : List Run) (offset : ℕ) → length (load_headers offset runs) ≡ 32 * length runs
unfolding load_headers
length-load_headers [] offset = refl
length-load_headers (r ∷ rs) offset =
    length-append (program_header (load_segment offset r)) (load_headers (offset + 4 * r.words) rs)
    ∙ (let h = length-program_header (load_segment offset r) in let k = length-load_headers rs (offset + 4 * r.words) in omega arith)

length-headers : (entry notes : ℕ) (runs : List Run) → length (all_headers entry runs notes) ≡ 52 + 32 * (1 + length runs)
unfolding all_headers program_headers
length-headers entry notes runs =
    let head = length-elf_header entry (1 + length runs) in
    let first = length-program_header (note_segment (headers_end (1 + length runs)) notes) in
    let others = length-load_headers runs (headers_end (1 + length runs) + notes) in
    simp length-append (omega arith)

length-load_spelling : (words : List (ℕ × ℕ)) → length (load_spelling words) ≡ 4 * length words
unfolding load_spelling
length-load_spelling words = each (λ w. word w.1) 4 (λ w. length-word w.1) words

-- a file has as many bytes as its certificate's size says
pub length-file : (c : Cert) → length (file_bytes c) ≡ file_size c
unfolding file_bytes
length-file c =
    let headers = length-headers (entry_of c.start) (length (notes_spelling (notes_in c))) (runs_in c) in
    let notes = length-notes c in
    let load = length-load_spelling c.words in
    three (all_headers (entry_of c.start) (runs_in c) (length (notes_spelling (notes_in c)))) (notes_spelling (notes_in c)) (load_spelling c.words)
    ∙ rw (headers, notes, load, length-runs c.words) refl
  where
    three : (a b d : List ℕ) → length (a ++ (b ++ d)) ≡ length a + (length b + length d)
    three a b d = simp length-append refl
