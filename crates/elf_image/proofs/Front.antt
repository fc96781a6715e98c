-- Reading the first four parts gives what they say, or the first of them that is wrong.
use Rattle.std.proofs.Common.{◌≡◌, ℕ, ◌⊎◌, List, length, Some, None, Ok, Err, refl, sym, ap, ◌∙◌, inl, inr}
use Rattle.std.specs.declared.option.Option.{Option}
use Rattle.std.specs.declared.result.Result.{Result}
use Rattle.std.proofs.lemmas.Option.{none-some}
use Rattle.rv_hart.specs.declared.record.Record.{Record}
use Rattle.byte_format.specs.Internal.Readers.{whole}
use Rattle.byte_format.proofs.Bytes.{IsBytes, bytes_rest}
use Rattle.elf_headers.specs.declared.reading.Head.{Head}
use Rattle.elf_headers.specs.declared.reading.Table.{Table}
use Rattle.elf_headers.specs.Runs.{total_words}
use Rattle.elf_headers.specs.Headers.{elf_header, program_headers}
use Rattle.elf_image.specs.Notes.{notes_spelling, Notes, list_notes}
use Rattle.elf_image.specs.Parts.{IsTable, AreNotes, AreRecords, UpToHead, UpToTable, UpToNotes, UpToRecords, LacksHead, LacksTable, LacksNotes, LacksRecords, LacksTemplate, LacksLoads, UpToTemplate, IsFirstWrong}
use Rattle.elf_headers.specs.Internal.Readers.{sized_header_at, table_at}
use Rattle.elf_image.specs.Internal.PartReaders.{segment_notes_at, traces_at}
use Rattle.elf_image.specs.Internal.Views.{FrontParts}
use Rattle.elf_image.specs.Internal.Whole.{part, ◌>>-◌, after_notes, after_table, after_head, front_at}
use Rattle.elf_image.proofs.PartLaws.{head_takes, head_again, table_takes, table_again, notes_take, notes_again, traces_bytes, records_take, records_again}

part_err : {A B : Type 0} (k : ℕ) (o : Option A) (f : A → Result B ℕ) (e : ℕ) → (part k o >>- f) ≡ Err e → ((e ≡ k) × (o ≡ None)) ⊎ ((x : A) × (o ≡ Some x) × (f x ≡ Err e))
part_err k None f e h = inl (cc, refl)
part_err k (Some x) f e h = inr (x, refl, h)

part_ok : {A B : Type 0} (k : ℕ) (o : Option A) (f : A → Result B ℕ) (y : B) → (part k o >>- f) ≡ Ok y → (x : A) × (o ≡ Some x) × (f x ≡ Ok y)
part_ok k None f y h = absurd cc
part_ok k (Some x) f y h = (x, refl, h)

nothing : {A : Type 0} (o : Option A) (x : A) → o ≡ None → o ≡ Some x → ⊥
nothing o x n s = none-some x (sym n ∙ s)

-- what the first four parts say
abbrev pub front_from : {bytes : List ℕ} → UpToRecords bytes → FrontParts
front_from u = record { entry = u.three.two.one.head.entry; runs = u.three.two.table.runs; notes = u.three.notes; traces = u.traces; rest = u.three.rest }

-- ---- one part behind the other

up_to_head : (bytes : List ℕ) (x : Head × List ℕ) → IsBytes bytes → sized_header_at bytes ≡ Some x → UpToHead bytes
up_to_head bytes x fits e = record { head = x.0; rest = x.1; is = head_takes bytes x fits e }

head_rest : (bytes : List ℕ) (u : UpToHead bytes) → IsBytes bytes → IsBytes u.rest
head_rest bytes u fits = bytes_rest bytes (elf_header u.head.entry u.head.phnum) u.rest fits u.is.text

table_rest : (bytes : List ℕ) (u : UpToTable bytes) → IsBytes bytes → IsBytes u.rest
table_rest bytes u fits = bytes_rest u.one.rest (program_headers u.table.notes u.table.runs) u.rest (head_rest bytes u.one fits) u.is.text

pub notes_rest : (bytes : List ℕ) (u : UpToNotes bytes) → IsBytes bytes → IsBytes u.rest
notes_rest bytes u fits = bytes_rest u.two.rest (notes_spelling (list_notes u.notes)) u.rest (table_rest bytes u.two fits) u.is.text

table_of_head : (bytes : List ℕ) (u : UpToHead bytes) (x : Table × List ℕ) → IsBytes bytes → table_at u.head.phnum u.rest ≡ Some x → IsTable u.head.phnum u.rest x.0 x.1
table_of_head bytes u x fits e = table_takes u.head.phnum u.rest x u.is.some (head_rest bytes u fits) e

notes_of_table : (bytes : List ℕ) (u : UpToTable bytes) (x : Notes × List ℕ) → IsBytes bytes → segment_notes_at u.table.notes (total_words u.table.runs) u.rest ≡ Some x → AreNotes u.table u.rest x.0 x.1
notes_of_table bytes u x fits e = notes_take u.table u.rest x u.is.notes u.is.total (table_rest bytes u fits) e

records_of_notes : (bytes : List ℕ) (u : UpToNotes bytes) (traces : List (List Record)) → IsBytes bytes → whole (traces_at (length u.notes.start)) u.notes.traces ≡ Some traces → AreRecords u.notes traces
records_of_notes bytes u traces fits e = records_take u.notes traces (traces_bytes u.two.rest u.notes u.rest (table_rest bytes u.two fits) u.is.text) e

notes_read : (bytes : List ℕ) (u : UpToTable bytes) (n : Notes) (rest : List ℕ) → AreNotes u.table u.rest n rest → segment_notes_at u.table.notes (total_words u.table.runs) u.rest ≡ Some (n, rest)
notes_read bytes u n rest is = notes_again u.table u.rest n rest u.is.notes u.is.total is

-- ---- the four parts

pub front_takes : (bytes : List ℕ) (p : FrontParts) → IsBytes bytes → front_at bytes ≡ Ok p → (u : UpToRecords bytes) × (p ≡ front_from u)
unfolding front_at
front_takes bytes p fits e =
    let h = part_ok 1 (sized_header_at bytes) after_head p e in
    let one : UpToHead bytes = record { head = h.0.0; rest = h.0.1; is = head_takes bytes h.0 fits h.1 } in
    let t = part_ok 2 (table_at h.0.0.phnum h.0.1) (after_table h.0.0) p h.2 in
    let two : UpToTable bytes = record { one = one; table = t.0.0; rest = t.0.1; is = table_of_head bytes one t.0 fits t.1 } in
    let n = part_ok 3 (segment_notes_at t.0.0.notes (total_words t.0.0.runs) t.0.1) (after_notes h.0.0 t.0.0) p t.2 in
    let three : UpToNotes bytes = record { two = two; notes = n.0.0; rest = n.0.1; is = notes_of_table bytes two n.0 fits n.1 } in
    let ts = part_ok 4 (whole (traces_at (length n.0.0.start)) n.0.0.traces) (λ traces. Ok (record { entry = h.0.0.entry; runs = t.0.0.runs; notes = n.0.0; traces = traces; rest = n.0.1 })) p n.2 in
    let u : UpToRecords bytes = record { three = three; traces = ts.0; is = records_of_notes bytes three ts.0 fits ts.1 } in
    (u, same_ok p (front_from u) ts.2)
  where
    same_ok : (x y : FrontParts) → ◌≡◌ {A = Result FrontParts ℕ} (Ok y) (Ok x) → x ≡ y
    same_ok x y e = cc

pub front_again : (bytes : List ℕ) (u : UpToRecords bytes) → front_at bytes ≡ Ok (front_from u)
unfolding front_at
front_again bytes u =
    let three = u.three in
    let two = three.two in
    let one = two.one in
    rw (head_again bytes one.head one.rest one.is, table_again one.head.phnum one.rest two.table two.rest two.is, notes_read bytes two three.notes three.rest three.is, records_again three.notes u.traces u.is) refl

pub front_wrong : (bytes : List ℕ) (k : ℕ) → IsBytes bytes → front_at bytes ≡ Err k → IsFirstWrong bytes k
unfolding front_at
front_wrong bytes k fits e =
    elim (part_err 1 (sized_header_at bytes) after_head k e) [
      | inl w ↦ inl (w.0, λ h rest is. nothing (sized_header_at bytes) (h, rest) w.1 (head_again bytes h rest is))
      | inr h ↦
          let one : UpToHead bytes = record { head = h.0.0; rest = h.0.1; is = head_takes bytes h.0 fits h.1 } in
          elim (part_err 2 (table_at h.0.0.phnum h.0.1) (after_table h.0.0) k h.2) [
            | inl w ↦ inr (inl (w.0, (one, λ t rest is. nothing (table_at h.0.0.phnum h.0.1) (t, rest) w.1 (table_again h.0.0.phnum h.0.1 t rest is))))
            | inr t ↦
                let two : UpToTable bytes = record { one = one; table = t.0.0; rest = t.0.1; is = table_of_head bytes one t.0 fits t.1 } in
                elim (part_err 3 (segment_notes_at t.0.0.notes (total_words t.0.0.runs) t.0.1) (after_notes h.0.0 t.0.0) k t.2) [
                  | inl w ↦ inr (inr (inl (w.0, (two, λ n rest is. nothing (segment_notes_at t.0.0.notes (total_words t.0.0.runs) t.0.1) (n, rest) w.1 (notes_read bytes two n rest is)))))
                  | inr n ↦
                      let three : UpToNotes bytes = record { two = two; notes = n.0.0; rest = n.0.1; is = notes_of_table bytes two n.0 fits n.1 } in
                      elim (part_err 4 (whole (traces_at (length n.0.0.start)) n.0.0.traces) (λ traces. Ok (record { entry = h.0.0.entry; runs = t.0.0.runs; notes = n.0.0; traces = traces; rest = n.0.1 })) k n.2) [
                        | inl w ↦ inr (inr (inr (inl (w.0, (three, λ ts is. nothing (whole (traces_at (length n.0.0.start)) n.0.0.traces) ts w.1 (records_again n.0.0 ts is))))))
                        | inr ts ↦ absurd (not_wrong (record { entry = h.0.0.entry; runs = t.0.0.runs; notes = n.0.0; traces = ts.0; rest = n.0.1 }) ts.2)
                      ]
                ]
          ]
    ]
  where
    not_wrong : (p : FrontParts) → ◌≡◌ {A = Result FrontParts ℕ} (Ok p) (Err k) → ⊥
    not_wrong p e = cc

-- ---- the other direction

lacks : {A : Type 0} (o : Option A) → ((x : A) → o ≡ Some x → ⊥) → o ≡ None
lacks None missing = refl
lacks (Some x) missing = absurd (missing x refl)

-- a part behind the first four is wrong
abbrev pub IsLate : List ℕ → ℕ → Type 0
IsLate bytes k = ((k ≡ 5) × ((u : UpToRecords bytes) × LacksTemplate u)) ⊎ ((k ≡ 6) × ((u : UpToTemplate bytes) × LacksLoads u))

same_err : (j k : ℕ) → j ≡ k → ◌≡◌ {A = Result FrontParts ℕ} (Err k) (Err j)
same_err j k e = ap (λ (n : ℕ). Err n) (sym e)

-- where there is no head, none is read
pub no_head : (bytes : List ℕ) → IsBytes bytes → LacksHead bytes → sized_header_at bytes ≡ None
no_head bytes fits missing = lacks (sized_header_at bytes) (λ x s. missing x.0 x.1 (head_takes bytes x fits s))

wrong_head : (bytes : List ℕ) (k : ℕ) → IsBytes bytes → k ≡ 1 → LacksHead bytes → front_at bytes ≡ Err k
unfolding front_at
wrong_head bytes k fits e missing = rw (no_head bytes fits missing) (same_err k 1 e)

wrong_table : (bytes : List ℕ) (k : ℕ) → IsBytes bytes → k ≡ 2 → (u : UpToHead bytes) → LacksTable u → front_at bytes ≡ Err k
unfolding front_at
wrong_table bytes k fits e u missing =
    let none = lacks (table_at u.head.phnum u.rest) (λ x s. missing x.0 x.1 (table_of_head bytes u x fits s)) in
    rw (head_again bytes u.head u.rest u.is, none) (same_err k 2 e)

wrong_notes : (bytes : List ℕ) (k : ℕ) → IsBytes bytes → k ≡ 3 → (u : UpToTable bytes) → LacksNotes u → front_at bytes ≡ Err k
unfolding front_at
wrong_notes bytes k fits e u missing =
    let one = u.one in
    let none = lacks (segment_notes_at u.table.notes (total_words u.table.runs) u.rest) (λ x s. missing x.0 x.1 (notes_of_table bytes u x fits s)) in
    rw (head_again bytes one.head one.rest one.is, table_again one.head.phnum one.rest u.table u.rest u.is, none) (same_err k 3 e)

wrong_records : (bytes : List ℕ) (k : ℕ) → IsBytes bytes → k ≡ 4 → (u : UpToNotes bytes) → LacksRecords u → front_at bytes ≡ Err k
unfolding front_at
wrong_records bytes k fits e u missing =
    let two = u.two in
    let one = two.one in
    let none = lacks (whole (traces_at (length u.notes.start)) u.notes.traces) (λ ts s. missing ts (records_of_notes bytes u ts fits s)) in
    rw (head_again bytes one.head one.rest one.is, table_again one.head.phnum one.rest two.table two.rest two.is, notes_read bytes two u.notes u.rest u.is, none) (same_err k 4 e)

pub wrong_early : (bytes : List ℕ) (k : ℕ) → IsBytes bytes → IsFirstWrong bytes k → (front_at bytes ≡ Err k) ⊎ IsLate bytes k
wrong_early bytes k fits w =
    elim w [
      | inl x ↦ inl (wrong_head bytes k fits x.0 x.1)
      | inr w ↦ elim w [
        | inl x ↦ inl (wrong_table bytes k fits x.0 x.1.0 x.1.1)
        | inr w ↦ elim w [
          | inl x ↦ inl (wrong_notes bytes k fits x.0 x.1.0 x.1.1)
          | inr w ↦ elim w [
            | inl x ↦ inl (wrong_records bytes k fits x.0 x.1.0 x.1.1)
            | inr w ↦ inr w
          ]
        ]
      ]
    ]
