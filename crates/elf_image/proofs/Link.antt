-- A file whose six parts are right is the file of the certificate that they tell.
use Rattle.std.proofs.Common.{◌≡◌, ℕ, ◌+◌, ◌*◌, ◌^◌, ◌<◌, ◌≤◌, Bool, true, false, cond, eqb, suc, List, [], ◌∷◌, ◌++◌, length, map, refl, sym, ap, subst, ◌∙◌, append_assoc, arith}
use Rattle.std.specs.List.{AllByRecursion}
use Rattle.rv_hart.specs.declared.record.Record.{Record}
use Rattle.tpl_ast.specs.declared.template.Template.{Template}
use Rattle.tpl_lang.specs.Parsing.{Parses}
use Rattle.tpl_lang.specs.Laws.{TemplatesKeepLimits}
use Rattle.tpl_admit.specs.declared.certificate.Cert.{Cert}
use Rattle.tpl_ast.specs.declared.template.HartState.{HartState}
use Rattle.tpl_admit.specs.Sizes.{runs_behind, run_count, file_size}
use Rattle.tpl_admit.specs.WellFormed.{IsWellFormed}
use Rattle.tpl_ast.specs.States.{IsState}
use Rattle.elf_headers.specs.declared.runs.Run.{Run}
use Rattle.elf_headers.specs.declared.reading.Head.{Head}
use Rattle.elf_headers.specs.declared.reading.Table.{Table}
use Rattle.elf_headers.specs.Runs.{address_of, runs_of, total_words}
use Rattle.elf_headers.specs.Headers.{elf_header, headers_end, program_headers, all_headers}
use Rattle.elf_image.specs.Notes.{traces_desc, notes_spelling, Notes, list_notes, notes_of, notes_in}
use Rattle.elf_image.specs.File.{entry_of, runs_in, load_spelling, file_bytes}
use Rattle.elf_image.specs.Parts.{IsHead, IsTable, AreNotes, UpToHead, UpToTable, UpToNotes, UpToRecords, UpToTemplate, cert_of, IsFile}
use Rattle.elf_image.proofs.Lengths.{length-runs, length-file, notes_fit}
use Rattle.elf_image.proofs.RunLaws.{addresses_back, runs_back, length-words, ascending_runs, words_ascend, some_offset}
use Rattle.elf_image.proofs.RestLaws.{named_values}

-- ---- the file of a well-formed certificate

split_file : (c : Cert) → file_bytes c ≡ elf_header (entry_of c.start) (1 + length (runs_in c)) ++ (program_headers (length (notes_spelling (notes_in c))) (runs_in c) ++ (notes_spelling (notes_in c) ++ load_spelling c.words))
unfolding file_bytes all_headers
split_file c = append_assoc (elf_header (entry_of c.start) (1 + length (runs_in c))) (program_headers (length (notes_spelling (notes_in c))) (runs_in c)) (notes_spelling (notes_in c) ++ load_spelling c.words)

entry_fits : (c : Cert) → 1 ≤ length c.start → AllByRecursion IsState c.start → entry_of c.start < 2 ^ 32
entry_fits c some states = first c.start some states
  where
    first : (ss : List HartState) → 1 ≤ length ss → AllByRecursion IsState ss → entry_of ss < 2 ^ 32
    first [] e is = absurd (omega arith)
    first (s ∷ ss) e is = is.0.pc

run_words : (c : Cert) → length c.words ≡ total_words (runs_in c)
run_words c = length-words c.words (runs_in c) (sym (addresses_back (map address_of c.words)))

runs_few : (c : Cert) → length (runs_in c) ≤ length c.words
runs_few c = let e = length-runs c.words in let le = few c.words in omega arith
  where
    behind : (next : ℕ) (ws : List (ℕ × ℕ)) → runs_behind next ws ≤ length ws
    behind next [] = omega arith
    behind next (w ∷ ws) = let k = behind (w.0 + 4) ws in one (eqb w.0 next) (runs_behind (w.0 + 4) ws) (length ws) k
      where
        one : (b : Bool) (n m : ℕ) → n ≤ m → cond b 0 1 + n ≤ suc m
        one true n m le = omega arith
        one false n m le = omega arith

    few : (ws : List (ℕ × ℕ)) → run_count ws ≤ length ws
    few [] = omega arith
    few (w ∷ ws) = let k = behind (w.0 + 4) ws in omega arith

notes_small : (c : Cert) → IsWellFormed c → length (notes_spelling (notes_in c)) ≤ 8388608
notes_small c w = notes_fit c w

is_head_of : (c : Cert) → IsWellFormed c → IsHead (file_bytes c) (record { entry = entry_of c.start; phnum = 1 + length (runs_in c) }) (program_headers (length (notes_spelling (notes_in c))) (runs_in c) ++ (notes_spelling (notes_in c) ++ load_spelling c.words))
is_head_of c w =
    let count = runs_few c in
    let size = length-file c in
    record { text = split_file c; size = subst (λ (n : ℕ). n ≤ 8388608) (sym size) w.size; entry = entry_fits c w.some_harts w.start; some = omega arith; most = omega (arith, w.words_count) }

is_table_of : TemplatesKeepLimits → (c : Cert) (rest : List ℕ) → IsWellFormed c → IsTable (1 + length (runs_in c)) (program_headers (length (notes_spelling (notes_in c))) (runs_in c) ++ rest) (record { notes = length (notes_spelling (notes_in c)); runs = runs_in c }) rest
is_table_of sound c rest w =
    let count = runs_few c in
    let words = run_words c in
    let small = notes_small c w in
    let few : total_words (runs_in c) ≤ 60000 = omega (arith, w.words_count) in
    let start = headers_end (1 + length (runs_in c)) + length (notes_spelling (notes_in c)) in
    let low : start ≤ 52 + 32 * 60001 + 8388608 = omega (arith, w.words_count) in
    record {
      text = refl;
      count = refl;
      notes = omega arith;
      runs = ascending_runs (map address_of c.words) 0 (words_ascend c.template.ram 0 c.words (sound c.template.text c.template w.template).ram w.words);
      total = few;
      offsets = some_offset (runs_in c) start (52 + 32 * 60001 + 8388608 + 4 * 60000) few (omega arith) (omega arith);
    }

are_notes_of : (c : Cert) (rest : List ℕ) → IsWellFormed c → AreNotes (record { notes = length (notes_spelling (notes_in c)); runs = runs_in c }) (notes_spelling (notes_in c) ++ rest) (notes_of c) rest
are_notes_of c rest w =
    let words = run_words c in
    record {
      text = refl;
      size = refl;
      some_harts = w.some_harts;
      harts = w.harts;
      start = w.start;
      finals_count = w.finals_count;
      finals = w.finals;
      last_count = w.last_count ∙ words;
      last = w.last;
      choices_count = w.choices_count;
      choices = w.choices;
      names = named_values c.template.names 0 c.names w.names;
      dropped_count = w.dropped_count;
      dropped = w.dropped;
    }

-- the file of a well-formed certificate tells it
pub is_file : TemplatesKeepLimits → (c : Cert) → IsWellFormed c → IsFile (file_bytes c) c
is_file sound c w =
    let bytes : List ℕ = file_bytes c in
    let one : UpToHead bytes = record { head = record { entry = entry_of c.start; phnum = 1 + length (runs_in c) }; rest = program_headers (length (notes_spelling (notes_in c))) (runs_in c) ++ (notes_spelling (notes_in c) ++ load_spelling c.words); is = is_head_of c w } in
    let two : UpToTable bytes = record { one = one; table = record { notes = length (notes_spelling (notes_in c)); runs = runs_in c }; rest = notes_spelling (notes_in c) ++ load_spelling c.words; is = is_table_of sound c (notes_spelling (notes_in c) ++ load_spelling c.words) w } in
    let three : UpToNotes bytes = record { two = two; notes = notes_of c; rest = load_spelling c.words; is = are_notes_of c (load_spelling c.words) w } in
    let four : UpToRecords bytes = record { three = three; traces = c.traces; is = record { text = refl; count = w.traces_count; records = w.traces; steps = w.steps } } in
    let five : UpToTemplate bytes = record { four = four; template = c.template; is = record { parses = w.template; harts = w.template_harts; names = w.names } } in
    record { five = five; words = c.words; is = record { text = refl; places = sym (addresses_back (map address_of c.words)); in_ram = w.words; entry_is = refl }; same = refl }

-- ---- what a file tells

made : (bytes r1 r2 r3 : List ℕ) (c : Cert) (head : Head) (table : Table) → head ≡ record { entry = entry_of c.start; phnum = 1 + length (runs_in c) } → table ≡ record { notes = length (notes_spelling (notes_in c)); runs = runs_in c }
    → IsHead bytes head r1 → IsTable head.phnum r1 table r2 → r2 ≡ notes_spelling (notes_in c) ++ r3 → r3 ≡ load_spelling c.words → bytes ≡ file_bytes c
made bytes r1 r2 r3 c head table h t is_head is_table notes loads =
    let headers : program_headers table.notes table.runs ≡ program_headers (length (notes_spelling (notes_in c))) (runs_in c) = ap (λ (x : Table). program_headers x.notes x.runs) t in
    let first : elf_header head.entry head.phnum ≡ elf_header (entry_of c.start) (1 + length (runs_in c)) = ap (λ (x : Head). elf_header x.entry x.phnum) h in
    let e2 : r2 ≡ notes_spelling (notes_in c) ++ load_spelling c.words = notes ∙ ap (λ (z : List ℕ). notes_spelling (notes_in c) ++ z) loads in
    let e1 : r1 ≡ program_headers (length (notes_spelling (notes_in c))) (runs_in c) ++ (notes_spelling (notes_in c) ++ load_spelling c.words)
    = is_table.text ∙ ap (λ (z : List ℕ). z ++ r2) headers ∙ ap (λ (z : List ℕ). program_headers (length (notes_spelling (notes_in c))) (runs_in c) ++ z) e2 in
    is_head.text ∙ ap (λ (z : List ℕ). z ++ r1) first ∙ ap (λ (z : List ℕ). elf_header (entry_of c.start) (1 + length (runs_in c)) ++ z) e1 ∙ sym (split_file c)

-- ---- values that are put together from their fields

abbrev notes_with : Notes → List ℕ → List ℕ → Notes
notes_with n traces text = record { start = n.start; traces = traces; finals = n.finals; last = n.last; text = text; choices = n.choices; names = n.names; dropped = n.dropped }

same_notes : (n : Notes) (traces : List (List Record)) (t : Template) (words : List (ℕ × ℕ)) → n.traces ≡ traces_desc traces → t.text ≡ n.text → n ≡ notes_of (cert_of n traces t words)
same_notes n traces t words e text = ap (λ (z : List ℕ). notes_with n z n.text) e ∙ ap (λ (z : List ℕ). notes_with n (traces_desc traces) z) (sym text)

abbrev table : ℕ → List Run → Table
table n rs = record { notes = n; runs = rs }

same_table : (t : Table) (n : ℕ) (rs : List Run) → t.notes ≡ n → t.runs ≡ rs → t ≡ table n rs
same_table t n rs p q = ap (λ (z : ℕ). table z t.runs) p ∙ ap (λ (z : List Run). table n z) q

abbrev head : ℕ → ℕ → Head
head a b = record { entry = a; phnum = b }

same_head : (h : Head) (a b : ℕ) → h.entry ≡ a → h.phnum ≡ b → h ≡ head a b
same_head h a b p q = ap (λ (z : ℕ). head z h.phnum) p ∙ ap (λ (z : ℕ). head a z) q

-- what tells a certificate is its file, and the certificate is well-formed
pub of_file : (bytes : List ℕ) (c : Cert) → IsFile bytes c → IsWellFormed c × (bytes ≡ file_bytes c)
of_file bytes c f =
    let five = f.five in
    let four = five.four in
    let three = four.three in
    let two = three.two in
    let one = two.one in
    let d : Cert = cert_of three.notes four.traces five.template f.words in
    let notes_are : three.notes ≡ notes_of d = same_notes three.notes four.traces five.template f.words four.is.text five.is.parses.text in
    let runs_are : two.table.runs ≡ runs_in d = sym (ap runs_of f.is.places ∙ runs_back two.table.runs 0 two.is.runs) in
    let size_is : two.table.notes ≡ length (notes_spelling (notes_in d)) = sym three.is.size ∙ ap (λ (n : Notes). length (notes_spelling (list_notes n))) notes_are in
    let table_is : two.table ≡ record { notes = length (notes_spelling (notes_in d)); runs = runs_in d } = same_table two.table (length (notes_spelling (notes_in d))) (runs_in d) size_is runs_are in
    let head_is : one.head ≡ record { entry = entry_of d.start; phnum = 1 + length (runs_in d) } = same_head one.head (entry_of d.start) (1 + length (runs_in d)) f.is.entry_is (sym two.is.count ∙ ap (λ (rs : List Run). 1 + length rs) runs_are) in
    let notes_text : two.rest ≡ notes_spelling (notes_in d) ++ three.rest = three.is.text ∙ ap (λ (n : Notes). notes_spelling (list_notes n) ++ three.rest) notes_are in
    let bytes_are : bytes ≡ file_bytes d = made bytes one.rest two.rest three.rest d one.head two.table head_is table_is one.is two.is notes_text f.is.text in
    let size : file_size d ≤ 8388608 = subst (λ (n : ℕ). n ≤ 8388608) (ap length bytes_are ∙ length-file d) one.is.size in
    let words : length f.words ≡ total_words two.table.runs = length-words f.words two.table.runs f.is.places in
    let well : IsWellFormed d = record {
      size = size;
      some_harts = three.is.some_harts;
      harts = three.is.harts;
      start = three.is.start;
      finals_count = three.is.finals_count;
      finals = three.is.finals;
      traces_count = four.is.count;
      traces = four.is.records;
      steps = four.is.steps;
      words_count = subst (λ (n : ℕ). n ≤ 60000) (sym words) two.is.total;
      words = f.is.in_ram;
      last_count = three.is.last_count ∙ sym words;
      last = three.is.last;
      template = subst (λ (text : List ℕ). Parses text five.template) (sym five.is.parses.text) five.is.parses;
      template_harts = five.is.harts;
      choices_count = three.is.choices_count;
      choices = three.is.choices;
      names = five.is.names;
      dropped_count = three.is.dropped_count;
      dropped = three.is.dropped;
    } in
    subst (λ (x : Cert). IsWellFormed x × (bytes ≡ file_bytes x)) (sym f.same) (well, bytes_are)
