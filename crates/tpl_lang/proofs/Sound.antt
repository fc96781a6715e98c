-- What holds of all that can be known, and so of every template.
use Rattle.std.proofs.Common.{◌≡◌, ℕ, ◌+◌, ◌-◌, ◌*◌, ◌%◌, ◌^◌, ◌<◌, ◌≤◌, ◌&&◌, ◌||◌, Bool, true, false, not, cond, eqb, leb, ltb, List, [], ◌∷◌, ◌++◌, map, take, length, slice_index, Option, Some, None, Result, Ok, Err, refl, sym, ap, ◌∙◌, subst, inl, inr, arith}
use Rattle.std.specs.List.{AllByRecursion}
use Rattle.std.proofs.lemmas.Bool.{cases_Bool, eqb-true, eqb-false, leb-true, leb-false, ltb-false, ltb-true}
use Rattle.std.proofs.lemmas.List.{length-append, length-map, length-take}
use Rattle.std.proofs.lemmas.Bool.Decides.{nat_tests}
use Rattle.dom_set.specs.Elements.{is_in, is_within}
use Rattle.dom_set.proofs.Sets.{is_in-elements}
use Rattle.rv_csr.specs.Table.{is_legal_for}
use Rattle.tpl_lang.specs.declared.fault.Fault.{Fault}
use Rattle.tpl_lang.specs.declared.fault.Kind.{Kind}
use Rattle.tpl_lang.specs.declared.fault.Kind.TheVariants.{TooLong}
use Rattle.tpl_ast.specs.declared.template.HartDecl.{HartDecl}
use Rattle.tpl_ast.specs.declared.template.NameDecl.{NameDecl}
use Rattle.tpl_ast.specs.declared.template.Region.{Region}
use Rattle.tpl_ast.specs.declared.template.Template.{Template}
use Rattle.tpl_ast.specs.Bodies.{BodyLine, Leaf, FetchFault, EnterSeq, EnterRepeat, EnterChoose, EnterWay, LabelOf, Leave, HartLines, hart_lines}
use Rattle.tpl_lang.specs.Faults.{is_large, is_no_register, body_length, is_begin, is_closable, is_ended, is_head, is_inside, is_last, is_length_above, is_settings, ways_in}
use Rattle.tpl_lang.specs.Laws.{IsReached, Before, Behind, KeepsLengths}
use Rattle.tpl_ast.specs.Lengths.{length_of_harts, saturated}
use Rattle.tpl_lang.specs.Lines.{length_until, lines, stripped, to_first, uncommented}
use Rattle.tpl_lang.specs.Known.{Block, Whole, Sequence, Times, Choice, Alternative, Known, OpenedBlock, Place, Head, Begin, Settings, Inside, Ended, nothing}
use Rattle.tpl_lang.specs.Parsing.{Parses, Said, fault, parses, said, said_by, line_parsed, lines_parsed}
use Rattle.tpl_lang.specs.Statements.{after, all_values, closed_in, start_of, with_hart}
use Rattle.tpl_lang.specs.Phrases.{Phrase, Ram, Pool, Tables, Flags, Vectors, Set, Name, Data, Hart, Start, Csr, Reg, Body, Do, Fault as FaultPhrase, Seq, Repeat, Choose, Way, Label, Close}
use Rattle.tpl_lang.specs.Sets.{NamedSet, number, resolved}
use Rattle.tpl_lang.specs.Grammar.{Spells}
use Rattle.tpl_ast.specs.States.{AreStartWords, IsState, IsWord}
use Rattle.tpl_ast.specs.Templates.{CanPick, HasValues, IsBody, IsFlagByte, IsShortName, KeepsLimits}
use Rattle.tpl_lang.specs.Tokens.{Token, tokens_of}
use Rattle.tpl_lang.specs.Words.{csr_of}
use Rattle.tpl_lang.proofs.Frames.{AreFours, FramesKept, RamKept, all_appended, all_mapped, count_added, covers_back, covers_both, flags_added, fours_are, frames_added, frames_more, one_longer, ram_kept, swapped, vectors_kept, words_added, words_more}
use Rattle.tpl_lang.proofs.Given.{GivenKept, csr_given, medeleg_given, mstatus_given, none_given, places_given, register_given, satp_given}
use Rattle.tpl_lang.proofs.Kept.{begun, body_counted, counted, counted_all, counted_both, harts_counted, kept_length, lines_length, lines_lengths, one_more_hart}
use Rattle.tpl_lang.proofs.Ordered.{names_in_order}
use Rattle.tpl_lang.proofs.Pieces.{data_is_long}
use Rattle.tpl_lang.proofs.Short.{IsShort, OnSome, both_true}
use Rattle.tpl_lang.proofs.Stacks.{and_true, body_picks, body_stands, fit_more, line_fits, lines_fit}
use Rattle.tpl_lang.proofs.Steps.{Judged, Blank, Stated, LastLine, Passed, either_false, judged_by, last_line, not_false, not_true, same_ok}
use Rattle.tpl_lang.proofs.Texts.{long_texts, parses_by}
use Rattle.tpl_lang.proofs.Wished.{causes_fit, leaf_fits, leaf_more}

-- ---- names

record NamesKept (names : List NameDecl) : Type 0 where
  short : AllByRecursion IsShortName names
  count : length names ≤ 256
  values : AllByRecursion HasValues names

names_kept : (names : List NameDecl) (d : NameDecl) → NamesKept names → leb 256 (length names) ≡ false → IsShortName d → HasValues d → NamesKept (names ++ d ∷ [])
names_kept names d h few short some = record {
  short = all_appended IsShortName names d h.short short;
  count = omega (arith, length-append names (d ∷ []), leb-false 256 (length names) few);
  values = all_appended HasValues names d h.values some;
}

some_value : (xs : List ℕ) → eqb (length xs) 0 ≡ false → (x : ℕ) × (is_in xs x ≡ true)
some_value [] h = absurd (cc h)
some_value (x ∷ xs) h = let itself : eqb x x ≡ true = grind (arith, nat_tests) in (x, rw itself refl)

-- a label can have each value
any_value : (x : ℕ) × (is_in all_values x ≡ true)
any_value = (0, is_in-elements (λ x. eqb (x % 1) 0 && is_within ((0, 2 ^ 32 - 1) ∷ []) x) 0 (omega arith))

-- ---- what is said before the first hart

record HeadKept (regions : List Region) (own others bytes : List ℕ) (given : Option (List ℕ)) (started : List (ℕ × ℕ)) : Type 0 where
  ram : RamKept regions
  frames : FramesKept regions own others
  pool : length own ≤ 32
  tables : length others ≤ 8
  flags : AllByRecursion IsFlagByte bytes
  flags_count : length bytes ≤ 8
  vectors : OnSome AreFours given
  words : AreStartWords regions 0 started

-- ---- bodies

-- the lines of the harts that have ended, and of the one that is open
record BodiesKept (names : ℕ) (harts : List HartLines) (body : List BodyLine) : Type 0 where
  ended : AllByRecursion (λ h. lines_fit names h.body begun ≡ true) harts
  running : lines_fit names body begun ≡ true

line_more : (n m : ℕ) → n ≤ m → (l : BodyLine) (os : List OpenedBlock) → line_fits n l os ≡ true → line_fits m l os ≡ true
line_more n m le (Leaf line wishes) os h = leaf_more n m le wishes h
line_more n m le (LabelOf name) os h = let low : name < m = omega (arith, le, ltb-true name n h) in grind (arith, nat_tests, low)
line_more n m le (FetchFault line causes) os h = h
line_more n m le EnterSeq os h = h
line_more n m le (EnterRepeat times) os h = h
line_more n m le (EnterChoose line) os h = h
line_more n m le (EnterWay weight) os h = h
line_more n m le Leave os h = h

lines_more : (n m : ℕ) → n ≤ m → (ls : List BodyLine) (os : List OpenedBlock) → lines_fit n ls os ≡ true → lines_fit m ls os ≡ true
lines_more n m le [] os h = refl
lines_more n m le (l ∷ ls) os h =
    let a = both_true (line_fits n l os) _ h in
    and_true _ _ (line_more n m le l os a.0) (lines_more n m le ls (counted l os) a.1)

bodies_more : (n m : ℕ) → n ≤ m → {harts : List HartLines} {body : List BodyLine} → BodiesKept n harts body → BodiesKept m harts body
bodies_more n m le {harts} {body} h = record { ended = all_mapped _ _ (λ (g : HartLines). lines_more n m le g.body begun) harts h.ended; running = lines_more n m le body begun h.running }

names_longer : (names : List NameDecl) (d : NameDecl) → length names ≤ length (names ++ d ∷ [])
names_longer names d = omega (arith, length-append names (d ∷ []))

-- ---- harts

-- how many harts have ended, and that the open blocks are those that the body's lines leave open
abbrev Fits : Place → ℕ → List BodyLine → List OpenedBlock → Type 0
Fits Head n body os = (n ≤ 4) × (os ≡ [])
Fits Inside n body os = (n ≤ 3) × (os ≡ counted_all body begun)
Fits Ended n body os = (n ≤ 4) × (os ≡ []) × (1 ≤ n)
Fits _ n body os = (n ≤ 3) × (os ≡ [])

record HartsKept (place : Place) (harts : List HartLines) (total : ℕ) (body : List BodyLine) (os : List OpenedBlock) : Type 0 where
  fits : Fits place (length harts) body os
  most : total ≤ 8192
  totals : total ≡ saturated (lines_lengths harts)

inside : (place : Place) (n : ℕ) (body : List BodyLine) (os : List OpenedBlock) → is_inside place ≡ true → Fits place n body os → (n ≤ 3) × (os ≡ counted_all body begun)
inside Inside n body os is h = h
inside Head n body os is h = absurd (cc is)
inside Begin n body os is h = absurd (cc is)
inside Settings n body os is h = absurd (cc is)
inside Ended n body os is h = absurd (cc is)

inside_fits : (place : Place) (n : ℕ) (body : List BodyLine) (os : List OpenedBlock) → is_inside place ≡ true → (n ≤ 3) × (os ≡ counted_all body begun) → Fits place n body os
inside_fits Inside n body os is h = h
inside_fits Head n body os is h = absurd (cc is)
inside_fits Begin n body os is h = absurd (cc is)
inside_fits Settings n body os is h = absurd (cc is)
inside_fits Ended n body os is h = absurd (cc is)

open_inside : (place : Place) (n : ℕ) (body : List BodyLine) (o : OpenedBlock) (os : List OpenedBlock) → Fits place n body (o ∷ os) → is_inside place ≡ true
open_inside Inside n body o os h = refl
open_inside Head n body o os h = absurd (cc h.1)
open_inside Begin n body o os h = absurd (cc h.1)
open_inside Settings n body o os h = absurd (cc h.1)
open_inside Ended n body o os h = absurd (cc h.1)

at_most_four : (place : Place) (n : ℕ) (body : List BodyLine) (os : List OpenedBlock) → Fits place n body os → n ≤ 4
at_most_four Head n body os h = h.0
at_most_four Begin n body os h = omega (arith, h.0)
at_most_four Settings n body os h = omega (arith, h.0)
at_most_four Inside n body os h = omega (arith, h.0)
at_most_four Ended n body os h = h.0

begin_fits : (place : Place) (n : ℕ) (body : List BodyLine) (os : List OpenedBlock) → is_head place ≡ true → leb 4 n ≡ false → Fits place n body os → Fits Begin n body os
begin_fits Head n body os is few h = (omega (arith, leb-false 4 n few), h.1)
begin_fits Begin n body os is few h = absurd (cc is)
begin_fits Settings n body os is few h = absurd (cc is)
begin_fits Inside n body os is few h = absurd (cc is)
begin_fits Ended n body os is few h = absurd (cc is)

settings_fits : (place : Place) (n : ℕ) (body : List BodyLine) (os : List OpenedBlock) → is_begin place ≡ true → Fits place n body os → Fits Settings n body os
settings_fits Begin n body os is h = h
settings_fits Head n body os is h = absurd (cc is)
settings_fits Settings n body os is h = absurd (cc is)
settings_fits Inside n body os is h = absurd (cc is)
settings_fits Ended n body os is h = absurd (cc is)

body_fits : (place : Place) (n : ℕ) (body : List BodyLine) (os : List OpenedBlock) → is_settings place ≡ true → Fits place n body os → Fits Inside n [] begun
body_fits Settings n body os is h = (h.0, refl)
body_fits Head n body os is h = absurd (cc is)
body_fits Begin n body os is h = absurd (cc is)
body_fits Inside n body os is h = absurd (cc is)
body_fits Ended n body os is h = absurd (cc is)

ended_fits : (place : Place) (n : ℕ) (body : List BodyLine) (os : List OpenedBlock) → is_ended place ≡ true → Fits place n body os → Fits Ended n body os
ended_fits Ended n body os is h = h
ended_fits Head n body os is h = absurd (cc is)
ended_fits Begin n body os is h = absurd (cc is)
ended_fits Settings n body os is h = absurd (cc is)
ended_fits Inside n body os is h = absurd (cc is)

-- the same harts
moved : {place : Place} {harts : List HartLines} {total : ℕ} {body : List BodyLine} {os : List OpenedBlock} (there : Place) (lines : List BodyLine) (blocks : List OpenedBlock)
    → HartsKept place harts total body os → Fits there (length harts) lines blocks → HartsKept there harts total lines blocks
moved there lines blocks h fits = record { fits = fits; most = h.most; totals = h.totals }

-- a line inside a body
line_kept : (place : Place) (harts : List HartLines) (total : ℕ) (body : List BodyLine) (os : List OpenedBlock) (l : BodyLine) → is_inside place ≡ true
    → HartsKept place harts total body os → HartsKept place harts total (body ++ l ∷ []) (counted l os)
line_kept place harts total body os l is h =
    let at = inside place (length harts) body os is h.fits in
    moved place (body ++ l ∷ []) (counted l os) h (inside_fits place (length harts) (body ++ l ∷ []) (counted l os) is (at.0, ap (counted l) at.1 ∙ sym (counted_both body (l ∷ []) begun)))

-- ---- a brace

-- the brace that closes a body
hart_kept : (place : Place) (harts : List HartLines) (total : ℕ) (body : List BodyLine) (o : OpenedBlock) (os : List OpenedBlock) (h : HartLines) → h.body ≡ body → is_inside place ≡ true → ltb 8192 (total + o.length) ≡ false
    → HartsKept place harts total body (o ∷ os) → HartsKept Ended (harts ++ h ∷ []) (saturated (total + o.length)) [] []
hart_kept place harts total body o os h is at few kept =
    let inner = inside place (length harts) body (o ∷ os) at kept.fits in
    let size : length (harts ++ h ∷ []) ≡ length harts + 1 = length-append harts (h ∷ []) in
    let own : lines_length h.body ≡ o.length = ap lines_length is ∙ sym (ap kept_length inner.1) in
    record {
      fits = (omega (arith, size, inner.0), refl, omega (arith, size));
      most = omega (arith, ltb-false 8192 (total + o.length) few);
      totals = omega (arith, kept.totals, own, one_more_hart harts h);
    }

closed_kept : (k : Known) (os : List OpenedBlock) → k.blocks ≡ os → HartsKept k.place k.harts k.length k.body os → is_inside k.place && is_length_above k (body_length os) ≡ false
    → HartsKept (closed_in k os).place (closed_in k os).harts (closed_in k os).length (closed_in k os).body (closed_in k os).blocks
closed_kept k [] none h few = moved Head k.body k.blocks h (at_most_four k.place (length k.harts) k.body [] h.fits, none)
closed_kept k (o ∷ os) blocks h few = go (o.block) refl where
  at : is_inside k.place ≡ true
  at = open_inside k.place (length k.harts) k.body o os h.fits

  go : (b : Block) → o.block ≡ b
      → HartsKept (closed_in k (o ∷ os)).place (closed_in k (o ∷ os)).harts (closed_in k (o ∷ os)).length (closed_in k (o ∷ os)).body (closed_in k (o ∷ os)).blocks
  go Whole is =
      let within : ltb 8192 (k.length + o.length) ≡ false = rw (at, is) at few in
      rw is (hart_kept k.place k.harts k.length k.body o os (record { start = start_of k; body = k.body }) refl at within h)
  go Sequence is = rw is (rw is at (line_kept k.place k.harts k.length k.body (o ∷ os) Leave at h))
  go (Times n) is = rw is (rw is at (line_kept k.place k.harts k.length k.body (o ∷ os) Leave at h))
  go Choice is = rw is (rw is at (line_kept k.place k.harts k.length k.body (o ∷ os) Leave at h))
  go (Alternative w) is = rw is (rw is at (line_kept k.place k.harts k.length k.body (o ∷ os) Leave at h))

-- ---- a statement

-- all but where the text stands
record RestKept (k : Known) : Type 0 where
  head : HeadKept k.ram k.pool k.tables k.flags k.vectors k.words
  names : NamesKept k.names
  pc : IsWord k.pc
  aligned : k.pc % 4 ≡ 0
  given : GivenKept k.given
  states : AllByRecursion (λ h. IsState h.start) k.harts
  bodies : BodiesKept (length k.names) k.harts k.body

record IsKept (k : Known) : Type 0 where
  rest : RestKept k
  harts : HartsKept k.place k.harts k.length k.body k.blocks

state_kept : (k : Known) → RestKept k → IsState (start_of k)
state_kept k h =
    let mstatus = mstatus_given k.given h.given in
    let medeleg = medeleg_given k.given h.given in
    let satp = satp_given k.given h.given in
    let places = places_given k.given h.given in
    record {
      pc = h.pc;
      aligned = h.aligned;
      mstatus = mstatus.small;
      medeleg = medeleg.small;
      satp = satp.small;
      legal_mstatus = mstatus.legal;
      legal_medeleg = medeleg.legal;
      legal_satp = satp.legal;
      places = places.places;
      legal_places = places.legal;
    }

-- an item's line
line_after : (k : Known) (l : BodyLine) → is_inside k.place ≡ true → IsKept k → HartsKept k.place k.harts k.length (k.body ++ l ∷ []) (counted l k.blocks)
line_after k l at h = line_kept k.place k.harts k.length k.body k.blocks l at h.harts

bodies_after : (k : Known) (l : BodyLine) → is_inside k.place ≡ true → IsKept k → line_fits (length k.names) l k.blocks ≡ true → BodiesKept (length k.names) k.harts (k.body ++ l ∷ [])
bodies_after k l at h fits =
    let blocks = (inside k.place (length k.harts) k.body k.blocks at h.harts.fits).1 in
    record { ended = h.rest.bodies.ended; running = fit_more (length k.names) k.body l begun h.rest.bodies.running (subst (λ (os : List OpenedBlock). line_fits (length k.names) l os ≡ true) blocks fits) }

with_bodies : (k : Known) (l : BodyLine) (blocks : List OpenedBlock) → RestKept k → BodiesKept (length k.names) k.harts (k.body ++ l ∷ []) → RestKept (record k { body = k.body ++ l ∷ []; blocks = blocks })
with_bodies k l blocks h bodies = record { head = h.head; names = h.names; pc = h.pc; aligned = h.aligned; given = h.given; states = h.states; bodies = bodies }

-- a line of an item that declares no name
item_kept : (k : Known) (l : BodyLine) → is_inside k.place ≡ true → line_fits (length k.names) l k.blocks ≡ true → IsKept k → IsKept (record k { body = k.body ++ l ∷ []; blocks = counted l k.blocks })
item_kept k l at fits h = record { rest = with_bodies k l (counted l k.blocks) h.rest (bodies_after k l at h fits); harts = line_after k l at h }

not_ended : (place : Place) → is_inside place ≡ true → is_ended place ≡ false
not_ended Inside is = refl
not_ended Head is = absurd (cc is)
not_ended Begin is = absurd (cc is)
not_ended Settings is = absurd (cc is)
not_ended Ended is = absurd (cc is)

closes : (k : Known) (o : OpenedBlock) (os : List OpenedBlock) → is_inside k.place ≡ true → (is_inside k.place && is_closable (o ∷ os)) || is_ended k.place ≡ true → is_closable (o ∷ os) ≡ true
closes k o os at may = alone (is_closable (o ∷ os)) (rw (at, not_ended k.place at) at may) where
  alone : (b : Bool) → b || false ≡ true → b ≡ true
  alone true h = refl
  alone false h = absurd (cc h)

hart_ended : (k : Known) (n : ℕ) → RestKept k → RestKept (with_hart k n)
hart_ended k n h = record {
  head = h.head;
  names = h.names;
  pc = h.pc;
  aligned = h.aligned;
  given = none_given;
  states = all_appended (λ g. IsState g.start) k.harts (record { start = start_of k; body = k.body }) h.states (state_kept k h);
  bodies = record { ended = all_appended (λ g. lines_fit (length k.names) g.body begun ≡ true) k.harts (record { start = start_of k; body = k.body }) h.bodies.ended h.bodies.running; running = refl };
}

closed_rest : (k : Known) (os : List OpenedBlock) → k.blocks ≡ os → (is_inside k.place && is_closable os) || is_ended k.place ≡ true → IsKept k → RestKept (closed_in k os)
closed_rest k [] blocks may h = record { head = h.rest.head; names = h.rest.names; pc = h.rest.pc; aligned = h.rest.aligned; given = h.rest.given; states = h.rest.states; bodies = h.rest.bodies }
closed_rest k (o ∷ os) blocks may h = go (o.block) refl where
  at : is_inside k.place ≡ true
  at = open_inside k.place (length k.harts) k.body o os (subst (λ (bs : List OpenedBlock). Fits k.place (length k.harts) k.body bs) blocks h.harts.fits)

  bodies : BodiesKept (length k.names) k.harts (k.body ++ Leave ∷ [])
  bodies = bodies_after k Leave at h (subst (λ (bs : List OpenedBlock). is_closable bs ≡ true) (sym blocks) (closes k o os at may))

  go : (b : Block) → o.block ≡ b → RestKept (closed_in k (o ∷ os))
  go Whole is = rw is (hart_ended k o.length h.rest)
  go Sequence is = rw is (with_bodies k Leave _ h.rest bodies)
  go (Times n) is = rw is (with_bodies k Leave _ h.rest bodies)
  go Choice is = rw is (with_bodies k Leave _ h.rest bodies)
  go (Alternative w) is = rw is (with_bodies k Leave _ h.rest bodies)

-- a statement of the head
head_after : (k : Known) (ram : List Region) (pool tables flags : List ℕ) (vectors : Option (List ℕ)) (sets : List NamedSet) (words : List (ℕ × ℕ)) → HeadKept ram pool tables flags vectors words → IsKept k
    → IsKept (record k { ram = ram; pool = pool; tables = tables; flags = flags; vectors = vectors; sets = sets; words = words })
head_after k ram pool tables flags vectors sets words head h = record {
  rest = record { head = head; names = h.rest.names; pc = h.rest.pc; aligned = h.rest.aligned; given = h.rest.given; states = h.rest.states; bodies = h.rest.bodies };
  harts = h.harts;
}

-- another place, with nothing else changed
place_after : (k : Known) (place : Place) (body : List BodyLine) (blocks : List OpenedBlock) → RestKept k → lines_fit (length k.names) body begun ≡ true → HartsKept place k.harts k.length body blocks → IsKept (record k { place = place; body = body; blocks = blocks })
place_after k place body blocks h fits harts = record {
  rest = record { head = h.head; names = h.names; pc = h.pc; aligned = h.aligned; given = h.given; states = h.states; bodies = record { ended = h.bodies.ended; running = fits } };
  harts = harts;
}

given_after : (k : Known) (es : List (ℕ × ℕ)) → GivenKept es → IsKept k → IsKept (record k { given = es })
given_after k es given h = record {
  rest = record { head = h.rest.head; names = h.rest.names; pc = h.rest.pc; aligned = h.rest.aligned; given = given; states = h.rest.states; bodies = h.rest.bodies };
  harts = h.harts;
}

-- one more name, which changes nothing else
name_kept : (k : Known) (d : NameDecl) → RestKept k → NamesKept (k.names ++ d ∷ []) → RestKept (record k { names = k.names ++ d ∷ [] })
name_kept k d h names = record { head = h.head; names = names; pc = h.pc; aligned = h.aligned; given = h.given; states = h.states; bodies = bodies_more (length k.names) (length (k.names ++ d ∷ [])) (names_longer k.names d) h.bodies }

with_words : {ram : List Region} {pool tables flags : List ℕ} {vectors : Option (List ℕ)} {words : List (ℕ × ℕ)} (next : List (ℕ × ℕ)) → AreStartWords ram 0 next → HeadKept ram pool tables flags vectors words → HeadKept ram pool tables flags vectors next
with_words next is h = record { ram = h.ram; frames = h.frames; pool = h.pool; tables = h.tables; flags = h.flags; flags_count = h.flags_count; vectors = h.vectors; words = is }

with_vectors : {ram : List Region} {pool tables flags : List ℕ} {vectors : Option (List ℕ)} {words : List (ℕ × ℕ)} (next : List ℕ) → AreFours next → HeadKept ram pool tables flags vectors words → HeadKept ram pool tables flags (Some next) words
with_vectors next is h = record { ram = h.ram; frames = h.frames; pool = h.pool; tables = h.tables; flags = h.flags; flags_count = h.flags_count; vectors = is; words = h.words }

with_flags : {ram : List Region} {pool tables flags : List ℕ} {vectors : Option (List ℕ)} {words : List (ℕ × ℕ)} (next : List ℕ) → AllByRecursion IsFlagByte next → length next ≤ 8 → HeadKept ram pool tables flags vectors words → HeadKept ram pool tables next vectors words
with_flags next are few h = record { ram = h.ram; frames = h.frames; pool = h.pool; tables = h.tables; flags = are; flags_count = few; vectors = h.vectors; words = h.words }

with_frames : {ram : List Region} {pool tables flags : List ℕ} {vectors : Option (List ℕ)} {words : List (ℕ × ℕ)} (frames others : List ℕ) → FramesKept ram frames others → length frames ≤ 32 → length others ≤ 8 → HeadKept ram pool tables flags vectors words → HeadKept ram frames others flags vectors words
with_frames frames others are few fewer h = record { ram = h.ram; frames = are; pool = few; tables = fewer; flags = h.flags; flags_count = h.flags_count; vectors = h.vectors; words = h.words }

with_region : {ram : List Region} {pool tables flags : List ℕ} {vectors : Option (List ℕ)} {words : List (ℕ × ℕ)} (r : Region) → RamKept (ram ++ r ∷ []) → HeadKept ram pool tables flags vectors words → HeadKept (ram ++ r ∷ []) pool tables flags vectors words
with_region {ram} {pool} {tables} {flags} {vectors} {words} r is h = record {
  ram = is;
  frames = frames_more ram r pool tables h.frames;
  pool = h.pool;
  tables = h.tables;
  flags = h.flags;
  flags_count = h.flags_count;
  vectors = h.vectors;
  words = words_more ram r 0 words h.words;
}

after_kept : (k : Known) (line : ℕ) (last : Bool) (p : Phrase) → IsShort p → Passed k last p → IsKept k → IsKept (after k line p)
after_kept k line last (Ram lo hi) short ok h = head_after k _ k.pool k.tables k.flags k.vectors k.sets k.words (with_region _ (ram_kept k.ram (number lo) (number hi) h.rest.head.ram ok.counts ok.ram) h.rest.head) h
after_kept k line last (Pool fs) short ok h =
    let head = h.rest.head in
    head_after k k.ram _ k.tables k.flags k.vectors k.sets k.words
    (with_frames _ k.tables (frames_added k.ram fs (k.pool ++ k.tables) k.pool k.tables (covers_both k.pool k.tables) head.frames ok.ram) (count_added k.pool fs 32 ok.counts) head.tables head)
    h
after_kept k line last (Tables fs) short ok h =
    let head = h.rest.head in
    head_after k k.ram k.pool _ k.flags k.vectors k.sets k.words
    (with_frames k.pool _ (swapped (frames_added k.ram fs (k.pool ++ k.tables) k.tables k.pool (covers_back k.pool k.tables) (swapped head.frames) ok.ram)) head.pool (count_added k.tables fs 8 ok.counts) head)
    h
after_kept k line last (Flags bs) short ok h =
    let head = h.rest.head in
    head_after k k.ram k.pool k.tables _ k.vectors k.sets k.words (with_flags _ (flags_added k.flags bs head.flags ok.small ok.ram) (count_added k.flags bs 8 ok.counts) head) h
after_kept k line last (Vectors s) short ok h = head_after k k.ram k.pool k.tables k.flags _ k.sets k.words (with_vectors _ (fours_are (resolved k.sets s)) h.rest.head) h
after_kept k line last (Set name s) short ok h = head_after k k.ram k.pool k.tables k.flags k.vectors _ k.words h.rest.head h
after_kept k line last (Name name s) short ok h = record { rest = name_kept k _ h.rest (names_kept k.names _ h.rest.names ok.counts short (some_value (resolved k.sets s) ok.some)); harts = h.harts }
after_kept k line last (Data a w) short ok h = head_after k k.ram k.pool k.tables k.flags k.vectors k.sets _ (with_words _ (words_added k.ram k.words (number a) (number w) h.rest.head.words short ok.ram) h.rest.head) h
after_kept k line last (Hart n) short ok h = place_after k Begin k.body k.blocks h.rest h.rest.bodies.running (moved Begin k.body k.blocks h.harts (begin_fits k.place (length k.harts) k.body k.blocks ok.allowed ok.counts h.harts.fits))
after_kept k line last (Start pc p) short ok h = record {
  rest = record { head = h.rest.head; names = h.rest.names; pc = short; aligned = eqb-true (number pc % 4) 0 (not_false _ ok.start); given = h.rest.given; states = h.rest.states; bodies = h.rest.bodies };
  harts = moved Settings k.body k.blocks h.harts (settings_fits k.place (length k.harts) k.body k.blocks ok.allowed h.harts.fits);
}
after_kept k line last (Csr name v) short ok h =
    let bad = either_false (not (is_legal_for (csr_of name) (number v))) _ ok.start in
    given_after k _ (csr_given k.given (csr_of name) (number v) h.rest.given ok.known (not_true _ (both_true (is_settings k.place) _ ok.allowed).1) (not_false _ bad.0) short bad.1) h
after_kept k line last (Reg n v) short ok h = given_after k _ (register_given k.given n (number v) h.rest.given (either_false (is_no_register n) _ ok.small).0 short ok.start) h
after_kept k line last Body short ok h = place_after k Inside [] begun h.rest refl (moved Inside [] begun h.harts (body_fits k.place (length k.harts) k.body k.blocks ok.allowed h.harts.fits))
after_kept k line last (Do ws) short ok h = item_kept k (Leaf line _) (both_true _ _ ok.allowed).0 (leaf_fits k ws short ok.known ok.once (either_false (ltb 32 (length ws)) _ ok.short).0) h
after_kept k line last (FaultPhrase os) short ok h = item_kept k (FetchFault line _) (both_true _ _ ok.allowed).0 (causes_fit os ok.small) h
after_kept k line last Seq short ok h = item_kept k EnterSeq (both_true _ _ ok.allowed).0 refl h
after_kept k line last (Repeat n) short ok h =
    let few : number n ≤ 8192 = ltb-false 8192 (number n) (either_false (is_large n) _ ok.small).1 in
    item_kept k (EnterRepeat (number n)) (both_true _ _ ok.allowed).0 (grind (arith, nat_tests, few)) h
after_kept k line last Choose short ok h = item_kept k (EnterChoose line) (both_true _ _ ok.allowed).0 refl h
after_kept k line last (Way w) short ok h =
    let few : number w ≤ 65535 = ltb-false 65535 (number w) (either_false (is_large w) _ ok.small).1 in
    let free : ways_in k.blocks < 64 = leb-false 64 (ways_in k.blocks) ok.counts in
    let a : leb (number w) 65535 ≡ true = grind (arith, nat_tests, few) in
    let b : ltb (ways_in k.blocks) 64 ≡ true = grind (arith, nat_tests, free) in
    item_kept k (EnterWay (number w)) (both_true _ _ ok.allowed).0 (and_true _ _ a b) h
after_kept k line last (Label name) short ok h =
    let d : NameDecl = record { name = name; set = all_values; label = true } in
    let named : NamesKept (k.names ++ d ∷ []) = names_kept k.names d h.rest.names ok.counts short any_value in
    let more : RestKept (record k { names = k.names ++ d ∷ [] }) = name_kept k d h.rest named in
    let below : length k.names < length (k.names ++ d ∷ []) = omega (arith, length-append k.names (d ∷ [])) in
    item_kept (record k { names = k.names ++ d ∷ [] }) (LabelOf (length k.names)) (both_true _ _ (both_true _ _ ok.allowed).0).0 (grind (arith, nat_tests, below)) (record { rest = more; harts = h.harts })
after_kept k line last Close short ok h = record { rest = closed_rest k k.blocks refl ok.allowed h; harts = closed_kept k k.blocks refl h.harts ok.fits }

-- ---- all that can be known

judged_kept : {k next : Known} {line : ℕ} {bytes : List ℕ} {last : Bool} → Judged k line bytes last next → IsKept k → IsKept next
judged_kept (Blank ends) h = h
judged_kept {k} {next} {line} {bytes} {last} (Stated p ts at spells short ok) h = after_kept k line last p short ok h

reached_kept : {k : Known} → IsReached k → IsKept k
reached_kept Before = record {
  rest = record {
    head = record {
      ram = record { framed = tt; count = omega arith; apart = tt; memory = omega arith };
      frames = record { these = record { held = tt; distinct = tt; apart = tt }; those = record { held = tt; distinct = tt; apart = tt } };
      pool = omega arith;
      tables = omega arith;
      flags = tt;
      flags_count = omega arith;
      vectors = tt;
      words = tt;
    };
    names = record { short = tt; count = omega arith; values = tt };
    pc = omega arith;
    aligned = refl;
    given = none_given;
    states = tt;
    bodies = record { ended = tt; running = refl };
  };
  harts = record { fits = (omega arith, refl); most = omega arith; totals = refl };
}
reached_kept (Behind k next line bytes last before is) = judged_kept (judged_by k next line bytes last is) (reached_kept before)

-- ---- lengths

closes_at : (os : List OpenedBlock) (n : ℕ) → body_length os ≡ Some n → kept_length os ≡ n
closes_at [] n is = absurd (cc is)
closes_at (o ∷ os) n is = go (o.block) is where
  go : (b : Block) → ◌≡◌ {A = Option ℕ} (elim b [ Whole ↦ Some (o.length) | _ ↦ None ]) (Some n) → o.length ≡ n
  go Whole is = cc
  go Sequence is = absurd (cc is)
  go (Times m) is = absurd (cc is)
  go Choice is = absurd (cc is)
  go (Alternative w) is = absurd (cc is)

closes_inside : (place : Place) (m : ℕ) (body : List BodyLine) (os : List OpenedBlock) (n : ℕ) → body_length os ≡ Some n → Fits place m body os → kept_length os ≡ lines_length body
closes_inside place m body [] n is h = absurd (cc is)
closes_inside place m body (o ∷ os) n is h = ap kept_length (inside place m body (o ∷ os) (open_inside place m body o os h) h).1

kept_lengths : (k : Known) → IsKept k → KeepsLengths k
kept_lengths k h = record {
  body = λ items n is lines.
      sym (closes_at k.blocks n is)
      ∙ closes_inside k.place (length k.harts) k.body k.blocks n is h.harts.fits
      ∙ sym (ap lines_length lines)
      ∙ body_counted items;
  harts = λ hs lines. h.harts.totals ∙ sym (ap (λ (ls : List HartLines). saturated (lines_lengths ls)) lines) ∙ harts_counted hs;
}

pub lengths_are_kept : (k : Known) → IsReached k → KeepsLengths k
lengths_are_kept k reached = kept_lengths k (reached_kept reached)

-- ---- every template

-- a longer text is no template
short_enough : (text : List ℕ) (s : Said) → parses text ≡ Ok s → length text ≤ 65536
short_enough text s is = elim (cases_Bool (leb (length text) 65536)) [
  | inl short ↦ leb-true (length text) 65536 short
  | inr long ↦ absurd (let e : ◌≡◌ {A = Result Said Fault} (Err (fault 0 TooLong)) (Ok s) = sym (long_texts text (leb-false (length text) 65536 long)) ∙ is in cc e)
]

some_hart : (n : ℕ) → not (eqb n 0) ≡ true → 1 ≤ n
some_hart n h = omega (arith, eqb-false n 0 (not_true _ h))

-- a hart has ended where a text may end
close_last : (k : Known) (os : List OpenedBlock) → os ≡ [] → 1 ≤ length k.harts → 1 ≤ length (closed_in k os).harts
close_last k [] none h = h
close_last k (o ∷ os) none h = absurd (cc none)

stated_last : (k : Known) (line : ℕ) (p : Phrase) → is_last k p ≡ true → IsKept k → 1 ≤ length (after k line p).harts
stated_last k line Close is h =
    let at = ended_fits k.place (length k.harts) k.body k.blocks is h.harts.fits in
    close_last k k.blocks at.1 at.2
stated_last k line _ is h = absurd (cc is)

ended_last : {k next : Known} {line : ℕ} {bytes : List ℕ} → Judged k line bytes true next → IsKept k → 1 ≤ length next.harts
ended_last {k} (Blank ends) h = some_hart (length k.harts) (both_true (is_head k.place) _ (not_false _ ends)).1
ended_last {k} {next} {line} (Stated p ts at spells short ok) h = stated_last k line p (not_false _ ok.ends) h

-- ---- how many words are started

-- a statement that starts no word
other_words : (k : Known) (line : ℕ) (p : Phrase) (bytes : List ℕ) (ts : List Token) → tokens_of (uncommented bytes) ≡ Some ts → Spells p ts → length (after k line p).words * 9 ≤ length k.words * 9 + (length bytes + 1)
other_words k line (Data a w) bytes ts at spells =
    let long : 8 ≤ length (uncommented bytes) = data_is_long (uncommented bytes) a w (at ∙ ap (λ (x : List Token). Some x) spells) in
    omega (arith, one_longer (number a) (number w) k.words, long, length-take (length_until 35 bytes) bytes)
other_words k line Close bytes ts at spells = omega (arith, ap (λ (es : List (ℕ × ℕ)). length es) (closed k.blocks)) where
  closed : (os : List OpenedBlock) → (closed_in k os).words ≡ k.words
  closed [] = refl
  closed (o ∷ os) = go (o.block) refl where
    go : (b : Block) → o.block ≡ b → (closed_in k (o ∷ os)).words ≡ k.words
    go Whole is = rw is refl
    go Sequence is = rw is refl
    go (Times n) is = rw is refl
    go Choice is = rw is refl
    go (Alternative w) is = rw is refl
other_words k line (Ram lo hi) bytes ts at spells = omega arith
other_words k line (Pool fs) bytes ts at spells = omega arith
other_words k line (Tables fs) bytes ts at spells = omega arith
other_words k line (Flags bs) bytes ts at spells = omega arith
other_words k line (Vectors s) bytes ts at spells = omega arith
other_words k line (Set name s) bytes ts at spells = omega arith
other_words k line (Name name s) bytes ts at spells = omega arith
other_words k line (Hart n) bytes ts at spells = omega arith
other_words k line (Start pc p) bytes ts at spells = omega arith
other_words k line (Csr name v) bytes ts at spells = omega arith
other_words k line (Reg n v) bytes ts at spells = omega arith
other_words k line Body bytes ts at spells = omega arith
other_words k line (Do ws) bytes ts at spells = omega arith
other_words k line (FaultPhrase os) bytes ts at spells = omega arith
other_words k line Seq bytes ts at spells = omega arith
other_words k line (Repeat n) bytes ts at spells = omega arith
other_words k line Choose bytes ts at spells = omega arith
other_words k line (Way w) bytes ts at spells = omega arith
other_words k line (Label name) bytes ts at spells = omega arith

judged_words : {k next : Known} {line : ℕ} {bytes : List ℕ} {last : Bool} → Judged k line bytes last next → length next.words * 9 ≤ length k.words * 9 + (length bytes + 1)
judged_words (Blank ends) = omega arith
judged_words {k} {next} {line} {bytes} (Stated p ts at spells short ok) = other_words k line p bytes ts at spells

-- the bytes of lines, each with a line feed
abbrev total : List (List ℕ) → ℕ
total [] = 0
total (l ∷ ls) = length l + 1 + total ls

lines_total : (text : List ℕ) → total (lines text) ≡ length text + 1
lines_total [] = refl
lines_total (b ∷ bs) = go (eqb b 10) (lines bs) (lines_total bs) where
  first : (ls : List (List ℕ)) → total ls ≡ length bs + 1 → total (to_first b ls) ≡ length (b ∷ bs) + 1
  first [] h = absurd (omega (arith, h))
  first (l ∷ ls) h = omega (arith, h)

  go : (c : Bool) (ls : List (List ℕ)) → total ls ≡ length bs + 1 → total (cond c ([] ∷ ls) (to_first b ls)) ≡ length (b ∷ bs) + 1
  go true ls h = omega (arith, h)
  go false ls h = first ls h

stripped_short : (l : List ℕ) → length (stripped l) ≤ length l
stripped_short l = go (eqb (length l) 0 || not (eqb (slice_index l (length l - 1)) 13)) where
  go : (c : Bool) → length (cond c l (take (length l - 1) l)) ≤ length l
  go true = omega arith
  go false = omega (arith, length-take (length l - 1) l)

run_words : (k : Known) (n : ℕ) (ls : List (List ℕ)) (s : Said) → lines_parsed k n ls ≡ Ok s → length s.words * 9 ≤ length k.words * 9 + total ls
run_words k n [] s is = let e : length k.words ≡ length s.words = ap (λ (x : Said). length x.words) (same_ok _ _ is) in omega (arith, e)
run_words k n (l ∷ []) s is = go (line_parsed k n l true) refl is where
  go : (j : Result Known Kind) → line_parsed k n l true ≡ j → ◌≡◌ {A = Result Said Fault} (elim j [ Err kind ↦ Err (fault n kind) | Ok next ↦ Ok (said next) ]) (Ok s) → length s.words * 9 ≤ length k.words * 9 + total (l ∷ [])
  go (Err kind) e is = absurd (cc is)
  go (Ok next) e is =
      let same : length next.words ≡ length s.words = ap (λ (x : Said). length x.words) (same_ok _ _ is) in
      omega (arith, same, judged_words (judged_by k next n l true e))
run_words k n (l ∷ m ∷ ls) s is = go (line_parsed k n (stripped l) false) refl is (λ next. run_words next (n + 1) (m ∷ ls) s) where
  go : (j : Result Known Kind) → line_parsed k n (stripped l) false ≡ j → ◌≡◌ {A = Result Said Fault} (elim j [ Err kind ↦ Err (fault n kind) | Ok next ↦ lines_parsed next (n + 1) (m ∷ ls) ]) (Ok s)
      → ((next : Known) → lines_parsed next (n + 1) (m ∷ ls) ≡ Ok s → length s.words * 9 ≤ length next.words * 9 + total (m ∷ ls)) → length s.words * 9 ≤ length k.words * 9 + total (l ∷ m ∷ ls)
  go (Err kind) e is rest = absurd (cc is)
  go (Ok next) e is rest = omega (arith, rest next is, judged_words (judged_by k next n (stripped l) false e), stripped_short l)

-- ---- bodies as items

bodies_told : (n : ℕ) (hs : List HartDecl) → AllByRecursion (λ h. lines_fit n h.body begun ≡ true) (map hart_lines hs) → AllByRecursion (λ (h : HartDecl). IsBody n h.body.items) hs
bodies_told n [] h = tt
bodies_told n (d ∷ hs) h = (body_stands n d.body.items begun h.0, bodies_told n hs h.1)

picks_told : (n : ℕ) (hs : List HartDecl) → AllByRecursion (λ (h : HartDecl). IsBody n h.body.items) hs → AllByRecursion (λ (h : HartDecl). CanPick h.body.items) hs
picks_told n hs h = all_mapped _ _ (λ (d : HartDecl). body_picks n d.body.items) hs h

states_told : (hs : List HartDecl) → AllByRecursion (λ h. IsState h.start) (map hart_lines hs) → AllByRecursion (λ (h : HartDecl). IsState h.start) hs
states_told [] h = tt
states_told (d ∷ hs) h = (h.0, states_told hs h.1)

few_records : (n m : ℕ) → n ≤ 8192 → n ≡ saturated m → m ≤ 8192
few_records n m h is = omega (arith, h, is)

pub templates_keep_limits : (text : List ℕ) (t : Template) → Parses text t → KeepsLimits text t
templates_keep_limits text t p =
    let short : length text ≤ 65536 = short_enough text (said_by t) p.says in
    let runs : lines_parsed nothing 1 (lines text) ≡ Ok (said_by t) = sym (parses_by text short) ∙ p.says in
    let end : LastLine (said_by t) = last_line text (said_by t) runs in
    let before : IsKept end.known = reached_kept end.reached in
    let line : Judged end.known end.line end.bytes true end.next = judged_by end.known end.next end.line end.bytes true end.judges in
    let kept : IsKept end.next = judged_kept line before in
    let head = kept.rest.head in
    let harts : end.next.harts ≡ map hart_lines t.harts = ap (λ (s : Said). s.harts) end.says in
    let names : end.next.names ≡ t.names = ap (λ (s : Said). s.names) end.says in
    let ram : end.next.ram ≡ t.ram = ap (λ (s : Said). s.ram) end.says in
    let pool : end.next.pool ≡ t.pool = ap (λ (s : Said). s.pool) end.says in
    let tables : end.next.tables ≡ t.tables = ap (λ (s : Said). s.tables) end.says in
    let count : length end.next.harts ≡ length t.harts = ap (λ (hs : List HartLines). length hs) harts ∙ length-map t.harts hart_lines in
    let memory : RamKept t.ram = subst RamKept ram head.ram in
    let frames : FramesKept t.ram t.pool t.tables = subst (λ (s : Said). FramesKept s.ram s.pool s.tables) end.says head.frames in
    let bodies = bodies_told (length t.names) t.harts (subst (λ (s : Said). AllByRecursion (λ h. lines_fit (length s.names) h.body begun ≡ true) s.harts) end.says kept.rest.bodies.ended) in
    record {
      text = short;
      ram = memory.framed;
      regions = memory.count;
      apart = memory.apart;
      memory = memory.memory;
      pool = frames.these;
      pool_count = subst (λ (ns : List ℕ). length ns ≤ 32) pool head.pool;
      tables = frames.those;
      tables_count = subst (λ (ns : List ℕ). length ns ≤ 8) tables head.tables;
      flags = subst (λ (s : Said). AllByRecursion IsFlagByte s.flags) end.says head.flags;
      flags_count = subst (λ (s : Said). length s.flags ≤ 8) end.says head.flags_count;
      vectors = subst (λ (s : Said). AreFours s.vectors) end.says (vectors_kept end.next.vectors end.next.pool head.vectors);
      words = subst (λ (s : Said). AreStartWords s.ram 0 s.words) end.says head.words;
      words_count = omega (arith, run_words nothing 1 (lines text) (said_by t) runs, lines_total text, short);
      names = subst (λ (s : Said). AllByRecursion IsShortName s.names) end.says kept.rest.names.short;
      names_count = subst (λ (s : Said). length s.names ≤ 256) end.says kept.rest.names.count;
      values = subst (λ (s : Said). AllByRecursion HasValues s.names) end.says kept.rest.names.values;
      order = names_in_order t.names t.harts end.reached line names harts;
      some_harts = omega (arith, count, ended_last line before);
      harts = omega (arith, count, at_most_four end.next.place (length end.next.harts) end.next.body end.next.blocks kept.harts.fits);
      states = states_told t.harts (subst (λ (s : Said). AllByRecursion (λ h. IsState h.start) s.harts) end.says kept.rest.states);
      bodies = bodies;
      picks = picks_told (length t.names) t.harts bodies;
      length = few_records end.next.length (length_of_harts t.harts) kept.harts.most ((kept_lengths end.next kept).harts t.harts (sym harts));
    }
