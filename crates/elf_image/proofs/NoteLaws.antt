-- The laws of the notes and the records.
use Rattle.std.proofs.Common.{◌≡◌, ℕ, ◌+◌, ◌^◌, ◌<◌, ◌≤◌, leb, eqb, List, [], ◌∷◌, ◌++◌, length, Some, refl, sym, ap, subst, ◌∙◌, append_assoc, arith}
use Rattle.std.specs.declared.option.Option.{Option}
use Rattle.std.specs.Prelude.{IsTrue, sum_by}
use Rattle.std.specs.List.{AllByRecursion}
use Rattle.std.proofs.lemmas.Bool.{eqb-true}
use Rattle.std.proofs.lemmas.Option.{same_Some}
use Rattle.std.proofs.lemmas.List.{append-nil}
use Rattle.std.proofs.lemmas.List.Sums.{sum_by-cons}
use Rattle.rv_hart.specs.declared.record.Record.{Record}
use Rattle.tpl_ast.specs.declared.template.HartState.{HartState}
use Rattle.tpl_admit.specs.declared.dropped.Dropped.{Dropped}
use Rattle.tpl_admit.specs.Sizes.{note_bytes}
use Rattle.tpl_admit.specs.WellFormed.{IsRecord}
use Rattle.tpl_ast.specs.States.{IsWord, IsState}
use Rattle.byte_format.specs.Numbers.{word, padding}
use Rattle.byte_format.specs.Internal.Readers.{◌>>=◌, whole}
use Rattle.byte_format.proofs.Bytes.{IsBytes, bytes_rest, bytes_front, bind_some}
use Rattle.byte_format.proofs.Laws.{Reads, reads_word, reads_then, reads_both, reads_behind, reads_as, reads_where, reads_fits, reads_text, reads_padded, reads_within, whole_takes, whole_again}
use Rattle.byte_format.proofs.Groups.{AreCountable, reads_times, reads_counted}
use Rattle.elf_headers.specs.declared.elf.TheConstants.{NAME_SIZE, NT_START, NT_TRACES, NT_FINAL, NT_TEMPLATE, NT_REST, VERSION}
use Rattle.elf_image.specs.Notes.{start_desc, traces_desc, final_desc, rest_desc, note_name, note, notes_spelling, Notes, list_notes}
use Rattle.elf_image.specs.Internal.Checks.{are_harts, are_traces}
use Rattle.elf_image.specs.Internal.PartReaders.{desc_of, note_at, told_at, start_at, final_at, notes_from, notes_at, segment_notes_at, traces_at}
use Rattle.note_items.proofs.Booleans.{equal, at_most, is_at_most, and_true, both_true}
use Rattle.elf_image.proofs.Lengths.{length-listed}
use Rattle.note_items.proofs.ItemLaws.{reads_state, reads_trace}
use Rattle.elf_image.proofs.RestLaws.{FitRest, FitsRest, reads_rest, rest_take, rest_fits}

-- ---- one note

pub reads_note : (kind : ℕ) → Reads (List ℕ) (note_at kind) (note kind) (λ d. length d < 2 ^ 32)
unfolding note_at note
reads_note kind = reads_as desc_of (λ d. (length d, d)) (λ d. length d < 2 ^ 32)
    (λ p d f e. let is : p.1 ≡ d = same_Some _ _ e in
    (ap (λ (z : List ℕ). (length z, z)) (sym is) ∙ ap (λ (k : ℕ). (k, p.1)) f.1, subst (λ (z : List ℕ). length z < 2 ^ 32) is (omega (arith, f.0, f.1))))
    (λ d f. (refl, (f, refl)))
    (reads_behind (word NAME_SIZE) (reads_then reads_word (λ n. reads_behind (word kind) (reads_behind note_name (reads_padded n)))))

-- the desc of a note that consists of bytes
pub desc_bytes : (kind : ℕ) (d rest : List ℕ) → IsBytes (note kind d ++ rest) → IsBytes d
unfolding note
desc_bytes kind d rest fits =
    let front : List ℕ = word NAME_SIZE ++ (word (length d) ++ (word kind ++ note_name)) in
    let behind : List ℕ = padding (length d) ++ rest in
    bytes_front (d ++ behind) d behind (bytes_rest (note kind d ++ rest) front (d ++ behind) fits (regroup (word NAME_SIZE) (word (length d)) (word kind) note_name d (padding (length d)) rest)) refl
  where
    regroup : (a b c n d p rest : List ℕ) → (a ++ (b ++ (c ++ (n ++ (d ++ p))))) ++ rest ≡ (a ++ (b ++ (c ++ n))) ++ (d ++ (p ++ rest))
    regroup a b c n d p rest = simp append_assoc

reads_told : {A : Type 0} {r : List ℕ → Option (A × List ℕ)} {s : A → List ℕ} {F : A → Type 0} (kind : ℕ)
    → Reads A r s F → Reads A (told_at kind r) (λ x. note kind (s x)) (λ x. F x × (length (s x) < 2 ^ 32))
reads_told {A} {r} {s} {F} kind piece = record {
  takes = λ bytes x fits e.
      let a = bind_some (note_at kind bytes) (λ d. whole r d.0 >>= λ y. Some (y, d.1)) x e in
      let b = bind_some (whole r a.0.0) (λ y. Some (y, a.0.1)) x a.2 in
      let m = (reads_note kind).takes bytes a.0 fits a.1 in
      let inner = desc_bytes kind a.0.0 a.0.1 (subst IsBytes m.0 fits) in
      let k = whole_takes piece a.0.0 b.0 inner b.1 in
      let text : bytes ≡ note kind (s b.0) ++ a.0.1 = m.0 ∙ ap (λ (z : List ℕ). note kind z ++ a.0.1) k.0 in
      subst (λ (y : A × List ℕ). (bytes ≡ note kind (s y.0) ++ y.1) × (F y.0 × (length (s y.0) < 2 ^ 32))) (same_Some _ _ b.2) (text, (k.1, subst (λ (z : List ℕ). length z < 2 ^ 32) k.0 m.1));
  again = λ x rest fits. rw ((reads_note kind).again (s x) rest fits.1, whole_again piece x fits.0) refl;
}

-- ---- what the notes tell

reads_start : Reads (List HartState) start_at start_desc (λ ss. AreCountable HartState IsState ss × IsTrue (are_harts ss))
unfolding start_at start_desc
reads_start = reads_where are_harts (reads_behind (word VERSION) (reads_counted reads_state))

abbrev FitsFinal : ℕ → ℕ → List HartState × List ℕ → Type 0
FitsFinal harts total p = (((length p.0 ≡ harts) × AllByRecursion IsState p.0) × AreCountable ℕ IsWord p.1) × IsTrue (eqb (length p.1) total)

reads_final : (harts total : ℕ) → Reads (List HartState × List ℕ) (final_at harts total) (λ p. final_desc p.0 p.1) (FitsFinal harts total)
unfolding final_at final_desc
reads_final harts total = reads_where (λ p. eqb (length p.1) total) (reads_both (reads_times harts reads_state) (reads_counted reads_word))

-- what the notes of files with so many words may tell
pub record FitNotes (total : ℕ) (n : Notes) : Type 0 where
  pub some_harts : 1 ≤ length n.start
  pub harts : length n.start ≤ 4
  pub start : AllByRecursion IsState n.start
  pub finals_count : length n.finals ≡ length n.start
  pub finals : AllByRecursion IsState n.finals
  pub last_count : length n.last ≡ total
  pub last : AllByRecursion IsWord n.last
  pub others : FitRest (length n.start) n.choices n.names n.dropped

-- the sizes of the descs
pub record HaveSizes (n : Notes) : Type 0 where
  pub start : length (start_desc n.start) < 2 ^ 32
  pub traces : length n.traces < 2 ^ 32
  pub final : length (final_desc n.finals n.last) < 2 ^ 32
  pub text : length n.text < 2 ^ 32
  pub others : length (rest_desc n.choices n.names n.dropped) < 2 ^ 32

abbrev Told : Type 0
Told = List HartState × (List ℕ × ((List HartState × List ℕ) × (List ℕ × (List ℕ × (List (ℕ × ℕ) × List Dropped)))))

abbrev parts_of : Notes → Told
parts_of n = (n.start, (n.traces, ((n.finals, n.last), (n.text, (n.choices, (n.names, n.dropped))))))

abbrev Fit : ℕ → Told → Type 0
Fit total t =
    ((AreCountable HartState IsState t.0 × IsTrue (are_harts t.0)) × (length (start_desc t.0) < 2 ^ 32))
    × ((length t.1.0 < 2 ^ 32)
    × ((FitsFinal (length t.0) total t.1.1.0 × (length (final_desc t.1.1.0.0 t.1.1.0.1) < 2 ^ 32))
    × ((length t.1.1.1.0 < 2 ^ 32)
    × (FitsRest (length t.0) t.1.1.1.1 × (length (rest_desc t.1.1.1.1.0 t.1.1.1.1.1.0 t.1.1.1.1.1.1) < 2 ^ 32)))))

notes_take : (total : ℕ) (n : Notes) → Fit total (parts_of n) → FitNotes total n × HaveSizes n
notes_take total n f =
    let harts = and_true (leb 1 (length n.start)) (leb (length n.start) 4) f.0.0.1 in (
      record {
        some_harts = at_most _ _ harts.0;
        harts = at_most _ _ harts.1;
        start = f.0.0.0.each;
        finals_count = f.1.1.0.0.0.0.0;
        finals = f.1.1.0.0.0.0.1;
        last_count = eqb-true _ _ f.1.1.0.0.1;
        last = f.1.1.0.0.0.1.each;
        others = rest_take (length n.start) n.choices n.names n.dropped f.1.1.1.1.0;
      },
      record { start = f.0.1; traces = f.1.0; final = f.1.1.0.1; text = f.1.1.1.0; others = f.1.1.1.1.1 },
    )

notes_fit : (total : ℕ) (n : Notes) → total < 2 ^ 32 → FitNotes total n → HaveSizes n → Fit total (parts_of n)
notes_fit total n small f s = (
  ((record { count = omega (arith, f.harts); each = f.start }, both_true (leb 1 (length n.start)) (leb (length n.start) 4) (is_at_most _ _ f.some_harts) (is_at_most _ _ f.harts)), s.start),
  (
    s.traces,
    (
      ((((f.finals_count, f.finals), record { count = omega (arith, f.last_count); each = f.last }), equal _ _ f.last_count), s.final),
      (s.text, (rest_fits (length n.start) n.choices n.names n.dropped f.harts s.others f.others, s.others)),
    ),
  ),
)

reads_notes : (total : ℕ) → total < 2 ^ 32 → Reads Notes (notes_at total) (λ n. notes_spelling (list_notes n)) (λ n. FitNotes total n × HaveSizes n)
unfolding notes_at notes_spelling
reads_notes total small =
    reads_text (λ n. note NT_START (start_desc n.start) ++ (note NT_TRACES n.traces ++ (note NT_FINAL (final_desc n.finals n.last) ++ (note NT_TEMPLATE n.text ++ (note NT_REST (rest_desc n.choices n.names n.dropped) ++ [])))))
    (λ n. ap (λ (z : List ℕ). note NT_START (start_desc n.start) ++ (note NT_TRACES n.traces ++ (note NT_FINAL (final_desc n.finals n.last) ++ (note NT_TEMPLATE n.text ++ z)))) (sym (append-nil (note NT_REST (rest_desc n.choices n.names n.dropped)))))
    (reads_as notes_from parts_of (λ n. FitNotes total n × HaveSizes n)
    (λ t n f e. subst (λ (z : Notes). (parts_of z ≡ t) × (FitNotes total z × HaveSizes z)) (same_Some _ _ e) (refl, notes_take total (record { start = t.0; traces = t.1.0; finals = t.1.1.0.0; last = t.1.1.0.1; text = t.1.1.1.0; choices = t.1.1.1.1.0; names = t.1.1.1.1.1.0; dropped = t.1.1.1.1.1.1 }) f))
    (λ n f. (refl, notes_fit total n small f.0 f.1))
    (reads_then (reads_told NT_START reads_start) (λ start. reads_both (reads_note NT_TRACES) (reads_both (reads_told NT_FINAL (reads_final (length start) total)) (reads_both (reads_note NT_TEMPLATE) (reads_told NT_REST (reads_rest (length start))))))))

-- descs are no longer than their segment
sizes : (n : Notes) (size : ℕ) → size < 2 ^ 32 → length (notes_spelling (list_notes n)) ≡ size → HaveSizes n
sizes n size small e =
    let sum = sym (length-listed n) ∙ e in
    let parts = bounds (length (start_desc n.start)) (length n.traces) (length (final_desc n.finals n.last)) (length n.text) (length (rest_desc n.choices n.names n.dropped)) size sum in
    record { start = omega (arith, parts.0); traces = omega (arith, parts.1); final = omega (arith, parts.2); text = omega (arith, parts.3); others = omega (arith, parts.4) }
  where
    long : (n : ℕ) → n ≤ note_bytes n
    long n = omega arith

    each : (a b c d r size : ℕ) → a + (b + (c + (d + r))) ≡ size → (a ≤ size) × (b ≤ size) × (c ≤ size) × (d ≤ size) × (r ≤ size)
    each a b c d r size e = (omega arith, omega arith, omega arith, omega arith, omega arith)

    through : (x y z : ℕ) → x ≤ y → y ≤ z → x ≤ z
    through x y z p q = omega arith

    bounds : (a b c d r size : ℕ) → note_bytes a + (note_bytes b + (note_bytes c + (note_bytes d + note_bytes r))) ≡ size → (a ≤ size) × (b ≤ size) × (c ≤ size) × (d ≤ size) × (r ≤ size)
    bounds a b c d r size e =
        let k = each (note_bytes a) (note_bytes b) (note_bytes c) (note_bytes d) (note_bytes r) size e in
        (through a (note_bytes a) size (long a) k.0, through b (note_bytes b) size (long b) k.1, through c (note_bytes c) size (long c) k.2, through d (note_bytes d) size (long d) k.3, through r (note_bytes r) size (long r) k.4)

pub reads_segment_notes : (size total : ℕ) → size < 2 ^ 32 → total < 2 ^ 32
    → Reads Notes (segment_notes_at size total) (λ n. notes_spelling (list_notes n)) (λ n. FitNotes total n × (length (notes_spelling (list_notes n)) ≡ size))
unfolding segment_notes_at
reads_segment_notes size total small few = reads_fits (λ n. FitNotes total n × (length (notes_spelling (list_notes n)) ≡ size))
    (λ n f. (f.0.0, f.1))
    (λ n f. ((f.0, sizes n size small f.1), f.1))
    (reads_within size (reads_notes total few))

-- ---- the records

each_take : (traces : List (List Record)) → AllByRecursion (AreCountable Record IsRecord) traces → AllByRecursion (λ t. AllByRecursion IsRecord t) traces
each_take [] fits = tt
each_take (t ∷ ts) fits = (fits.0.each, each_take ts fits.1)

each_fit : (traces : List (List Record)) → sum_by (λ t. length t) traces ≤ 8192 → AllByRecursion (λ t. AllByRecursion IsRecord t) traces → AllByRecursion (AreCountable Record IsRecord) traces
each_fit [] few fits = tt
each_fit (t ∷ ts) few fits =
    let sum : sum_by (λ t. length t) (t ∷ ts) ≡ length t + sum_by (λ t. length t) ts = sum_by-cons (λ (t : List Record). length t) t ts in
    (record { count = omega arith; each = fits.0 }, each_fit ts (omega arith) fits.1)

-- what the records of so many harts may be
pub record FitTraces (harts : ℕ) (traces : List (List Record)) : Type 0 where
  pub count : length traces ≡ harts
  pub records : AllByRecursion (λ t. AllByRecursion IsRecord t) traces
  pub steps : sum_by (λ t. length t) traces ≤ 8192

pub reads_traces : (harts : ℕ) → Reads (List (List Record)) (traces_at harts) traces_desc (FitTraces harts)
unfolding traces_at traces_desc are_traces
reads_traces harts = reads_fits (FitTraces harts)
    (λ ts f. record { count = f.0.0; records = each_take ts f.0.1; steps = at_most _ _ f.1 })
    (λ ts f. ((f.count, each_fit ts f.steps f.records), is_at_most _ _ f.steps))
    (reads_where are_traces (reads_times harts reads_trace))
