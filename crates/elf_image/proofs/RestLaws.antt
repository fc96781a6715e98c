-- The laws of choices, values of names and dropped biases.
use Rattle.std.proofs.Common.{◌≡◌, ℕ, ◌+◌, ◌^◌, ◌<◌, ◌≤◌, Bool, true, false, cond, ltb, leb, List, [], ◌∷◌, length, Some, None, refl, arith}
use Rattle.std.specs.Prelude.{IsTrue, ◌&&◌, slice_get}
use Rattle.std.specs.List.{list_all, AllByRecursion}
use Rattle.std.specs.declared.option.Option.{Option}
use Rattle.std.proofs.lemmas.Bool.{ltb-true, ltb-false, lt-ltb, le-ltb}
use Rattle.tpl_ast.specs.declared.template.NameDecl.{NameDecl}
use Rattle.tpl_admit.specs.declared.dropped.Dropped.{Dropped}
use Rattle.tpl_admit.specs.WellFormed.{IsNamed, AreNamed, AreDropped, drop_place}
use Rattle.tpl_ast.specs.States.{IsWord}
use Rattle.byte_format.proofs.Laws.{Reads, reads_word, reads_both, reads_where}
use Rattle.byte_format.proofs.Groups.{AreCountable, reads_counted}
use Rattle.elf_image.specs.Notes.{rest_desc}
use Rattle.elf_image.specs.Parts.{AreValues}
use Rattle.elf_image.specs.Internal.Checks.{are_values, is_drop, are_dropped, is_rest, is_named, are_named}
use Rattle.elf_image.specs.Internal.PartReaders.{rest_at}
use Rattle.note_items.proofs.Booleans.{at_most, is_at_most, and_true, both_true, no_then, yes_then}
use Rattle.elf_image.proofs.Lengths.{length-rest_desc}
use Rattle.note_items.proofs.ItemLaws.{FitsPair, FitsDrop, reads_pair, reads_drop}

-- ---- values of names

values_take : (low : ℕ) (es : List (ℕ × ℕ)) → AllByRecursion FitsPair es → are_values low es ≡ true → AreValues low es
values_take low [] fits e = tt
values_take low (p ∷ ps) fits e =
    let a = no_then (ltb p.0 low) (are_values (p.0 + 1) ps) e in
    (ltb-false p.0 low a.0, fits.0.first, fits.0.second, values_take (p.0 + 1) ps fits.1 a.1)

values_back : (low : ℕ) (es : List (ℕ × ℕ)) → AreValues low es → are_values low es ≡ true
values_back low [] is = refl
values_back low (p ∷ ps) is = let above : ltb p.0 low ≡ false = le-ltb _ _ is.0 in rw above (values_back (p.0 + 1) ps is.3)

values_fit : (low : ℕ) (es : List (ℕ × ℕ)) → AreValues low es → AllByRecursion FitsPair es
values_fit low [] is = tt
values_fit low (p ∷ ps) is = (record { first = is.1; second = is.2 }, values_fit (p.0 + 1) ps is.3)

-- values of a template's names are values of names
pub named_values : (names : List NameDecl) (low : ℕ) (es : List (ℕ × ℕ)) → AreNamed names low es → AreValues low es
named_values names low [] is = tt
named_values names low (p ∷ ps) is = (is.0, is.1, is.2, named_values names (p.0 + 1) ps is.4)

is_named_of : (o : Option NameDecl) (value : ℕ) → is_named o value ≡ true → IsNamed o value
is_named_of None value e = absurd cc
is_named_of (Some d) value e = e

named_test : (o : Option NameDecl) (value : ℕ) → IsNamed o value → is_named o value ≡ true
named_test None value is = absurd is
named_test (Some d) value is = is

pub named_take : (names : List NameDecl) (low : ℕ) (es : List (ℕ × ℕ)) → AreValues low es → are_named names es ≡ true → AreNamed names low es
named_take names low [] values e = tt
named_take names low (p ∷ ps) values e =
    let both = and_true (is_named (slice_get names p.0) p.1) (list_all (λ q. is_named (slice_get names q.0) q.1) ps) e in
    (values.0, values.1, values.2, is_named_of (slice_get names p.0) p.1 both.0, named_take names (p.0 + 1) ps values.3 both.1)

pub named_back : (names : List NameDecl) (low : ℕ) (es : List (ℕ × ℕ)) → AreNamed names low es → are_named names es ≡ true
named_back names low [] is = refl
named_back names low (p ∷ ps) is =
    both_true (is_named (slice_get names p.0) p.1) (list_all (λ q. is_named (slice_get names q.0) q.1) ps) (named_test (slice_get names p.0) p.1 is.3) (named_back names (p.0 + 1) ps is.4)

-- ---- dropped biases

record IsDrop (harts : ℕ) (d : Dropped) : Type 0 where
  hart : d.hart < harts
  step : d.step < 8192
  atom : d.atom < 32

drop_take : (harts : ℕ) (d : Dropped) → is_drop harts d ≡ true → IsDrop harts d
unfolding is_drop
drop_take harts d e =
    let a = and_true (ltb d.hart harts) (ltb d.step 8192 && ltb d.atom 32) e in
    let b = and_true (ltb d.step 8192) (ltb d.atom 32) a.1 in
    record { hart = ltb-true _ _ a.0; step = ltb-true _ _ b.0; atom = ltb-true _ _ b.1 }

drop_back : (harts : ℕ) (d : Dropped) → d.hart < harts → d.step < 8192 → d.atom < 32 → is_drop harts d ≡ true
unfolding is_drop
drop_back harts d hart step atom = both_true (ltb d.hart harts) (ltb d.step 8192 && ltb d.atom 32) (lt-ltb _ _ hart) (both_true (ltb d.step 8192) (ltb d.atom 32) (lt-ltb _ _ step) (lt-ltb _ _ atom))

dropped_take : (harts low : ℕ) (ds : List Dropped) → are_dropped harts low ds ≡ true → AreDropped harts low ds
dropped_take harts low [] e = tt
dropped_take harts low (d ∷ ds) e =
    let a = no_then (ltb (drop_place d) low) (cond (is_drop harts d) (are_dropped harts (drop_place d + 1) ds) false) e in
    let b = yes_then (is_drop harts d) (are_dropped harts (drop_place d + 1) ds) a.1 in
    let is = drop_take harts d b.0 in
    (is.hart, is.step, is.atom, ltb-false _ _ a.0, dropped_take harts (drop_place d + 1) ds b.1)

dropped_back : (harts low : ℕ) (ds : List Dropped) → AreDropped harts low ds → are_dropped harts low ds ≡ true
dropped_back harts low [] is = refl
dropped_back harts low (d ∷ ds) is =
    two (ltb (drop_place d) low) (is_drop harts d) (are_dropped harts (drop_place d + 1) ds) (le-ltb _ _ is.3) (drop_back harts d is.0 is.1 is.2) (dropped_back harts (drop_place d + 1) ds is.4)
  where
    two : (a b c : Bool) → a ≡ false → b ≡ true → c ≡ true → cond a false (cond b c false) ≡ true
    two a b c p q r = rw (p, q, r) refl

dropped_fit : (harts low : ℕ) (ds : List Dropped) → harts ≤ 4 → AreDropped harts low ds → AllByRecursion FitsDrop ds
dropped_fit harts low [] few is = tt
dropped_fit harts low (d ∷ ds) few is = (record { hart_fits = omega (arith, is.0); step_fits = omega (arith, is.1); atom_fits = omega (arith, is.2) }, dropped_fit harts (drop_place d + 1) ds few is.4)

-- ---- all three

pub record FitRest (harts : ℕ) (choices : List ℕ) (names : List (ℕ × ℕ)) (dropped : List Dropped) : Type 0 where
  pub choices_count : length choices ≤ 8192
  pub choices_words : AllByRecursion IsWord choices
  pub names_ascend : AreValues 0 names
  pub dropped_count : length dropped ≤ 262144
  pub dropped_ascend : AreDropped harts 0 dropped

abbrev pub FitsRest : ℕ → List ℕ × (List (ℕ × ℕ) × List Dropped) → Type 0
FitsRest harts t = (AreCountable ℕ IsWord t.0 × (AreCountable (ℕ × ℕ) FitsPair t.1.0 × AreCountable Dropped FitsDrop t.1.1)) × IsTrue (is_rest harts t)

pub reads_rest : (harts : ℕ) → Reads (List ℕ × (List (ℕ × ℕ) × List Dropped)) (rest_at harts) (λ t. rest_desc t.0 t.1.0 t.1.1) (FitsRest harts)
unfolding rest_at rest_desc
reads_rest harts = reads_where (is_rest harts) (reads_both (reads_counted reads_word) (reads_both (reads_counted reads_pair) (reads_counted reads_drop)))

pub rest_take : (harts : ℕ) (choices : List ℕ) (names : List (ℕ × ℕ)) (dropped : List Dropped) → FitsRest harts (choices, (names, dropped)) → FitRest harts choices names dropped
unfolding is_rest
rest_take harts choices names dropped f =
    let a = and_true (leb (length choices) 8192) (are_values 0 names && (leb (length dropped) 262144 && are_dropped harts 0 dropped)) f.1 in
    let b = and_true (are_values 0 names) (leb (length dropped) 262144 && are_dropped harts 0 dropped) a.1 in
    let c = and_true (leb (length dropped) 262144) (are_dropped harts 0 dropped) b.1 in
    record {
      choices_count = at_most _ _ a.0;
      choices_words = f.0.0.each;
      names_ascend = values_take 0 names f.0.1.0.each b.0;
      dropped_count = at_most _ _ c.0;
      dropped_ascend = dropped_take harts 0 dropped c.1;
    }

rest_test : (harts : ℕ) (choices : List ℕ) (names : List (ℕ × ℕ)) (dropped : List Dropped) → FitRest harts choices names dropped → is_rest harts (choices, (names, dropped)) ≡ true
unfolding is_rest
rest_test harts choices names dropped f =
    both_true (leb (length choices) 8192) (are_values 0 names && (leb (length dropped) 262144 && are_dropped harts 0 dropped)) (is_at_most _ _ f.choices_count)
    (both_true (are_values 0 names) (leb (length dropped) 262144 && are_dropped harts 0 dropped) (values_back 0 names f.names_ascend)
    (both_true (leb (length dropped) 262144) (are_dropped harts 0 dropped) (is_at_most _ _ f.dropped_count) (dropped_back harts 0 dropped f.dropped_ascend)))

pub rest_fits : (harts : ℕ) (choices : List ℕ) (names : List (ℕ × ℕ)) (dropped : List Dropped) → harts ≤ 4 → length (rest_desc choices names dropped) < 2 ^ 32
    → FitRest harts choices names dropped → FitsRest harts (choices, (names, dropped))
rest_fits harts choices names dropped few size f =
    let bytes = length-rest_desc choices names dropped in (
      (
        record { count = omega (arith, f.choices_count); each = f.choices_words },
        (
          record { count = omega arith; each = values_fit 0 names f.names_ascend },
          record { count = omega (arith, f.dropped_count); each = dropped_fit harts 0 dropped few f.dropped_ascend },
        ),
      ),
      rest_test harts choices names dropped f,
    )
