-- The order of names in all that can be known, and so in every template.
use Rattle.std.proofs.Common.{◌≡◌, ℕ, ◌+◌, ◌-◌, ◌%◌, ◌^◌, ◌<◌, ◌≤◌, ◌&&◌, Bool, true, false, cond, eqb, leb, zero, suc, List, [], ◌∷◌, ◌++◌, map, length, Option, Some, refl, sym, ap, ◌∙◌, subst, arith}
use Rattle.std.specs.List.{AllByRecursion, list_all, list_any, slice_get}
use Rattle.std.proofs.lemmas.Bool.{eqb-true}
use Rattle.std.proofs.lemmas.Bool.Decides.{nat_tests}
use Rattle.std.proofs.lemmas.List.{length-append}
use Rattle.std.proofs.lemmas.Option.{same_Some}
use Rattle.dom_set.specs.Elements.{is_in, is_within}
use Rattle.dom_set.proofs.Sets.{is_in-elements}
use Rattle.tpl_ast.specs.declared.template.HartDecl.{HartDecl}
use Rattle.tpl_ast.specs.declared.template.NameDecl.{NameDecl}
use Rattle.tpl_ast.specs.Bodies.{BodyLine, Leaf, FetchFault, EnterSeq, EnterRepeat, EnterChoose, EnterWay, LabelOf, Leave, HartLines, hart_lines}
use Rattle.tpl_lang.specs.Laws.{IsReached, Before, Behind}
use Rattle.tpl_ast.specs.Leaves.{atoms_of, is_name_below}
use Rattle.tpl_ast.specs.Naming.{AreNamesInOrder, IsFreeLabel, count_in_head}
use Rattle.tpl_lang.specs.Known.{Block, Whole, Sequence, Times, Choice, Alternative, Known, OpenedBlock, Place, Head, Begin, Settings, Inside, Ended}
use Rattle.tpl_lang.specs.Statements.{add_length, add_way, after, all_values, closed_in, start_of, wish_of}
use Rattle.tpl_lang.specs.Faults.{is_begin, is_ended, is_head, is_inside, is_last, is_settings, is_repeat, takes_items}
use Rattle.tpl_lang.specs.Phrases.{Phrase, Ram, Pool, Tables, Flags, Vectors, Set, Name, Data, Hart, Start, Csr, Reg, Body, Do, Fault, Seq, Repeat, Choose, Way, Label, Close}
use Rattle.tpl_lang.specs.Sets.{number, resolved}
use Rattle.tpl_lang.proofs.Frames.{all_appended}
use Rattle.tpl_lang.proofs.Kept.{begun, counted, counted_all, counted_both}
use Rattle.tpl_lang.proofs.Named.{Between, harts_named, named_harts, named_line, named_lines, named_more, one_hart_more}
use Rattle.tpl_lang.proofs.Short.{both_true}
use Rattle.tpl_lang.proofs.Steps.{Judged, Blank, Stated, Passed, judged_by, not_false, not_true}
use Rattle.tpl_lang.proofs.Wished.{all_below}

-- ---- names

-- from a number on, each name is a label exactly where it isn't one of the first so many
abbrev AreSplit : ℕ → ℕ → List NameDecl → Type 0
AreSplit head i [] = Unit {0}
AreSplit head i (d ∷ ds) = (d.label ≡ leb head i) × AreSplit head (i + 1) ds

split_at : (head i : ℕ) (ds : List NameDecl) → AreSplit head i ds → (n : ℕ) (d : NameDecl) → slice_get ds n ≡ Some d → d.label ≡ leb head (i + n)
split_at head i [] h n d is = absurd (cc is)
split_at head i (e ∷ ds) h zero d is =
    let at : i ≡ i + 0 = omega arith in
    ap (λ (x : NameDecl). x.label) (sym (same_Some e d is)) ∙ h.0 ∙ ap (leb head) at
split_at head i (e ∷ ds) h (suc n) d is =
    let at : i + 1 + n ≡ i + suc n = omega arith in
    split_at head (i + 1) ds h.1 n d is ∙ ap (leb head) at

split_more : (head i : ℕ) (ds : List NameDecl) (d : NameDecl) → AreSplit head i ds → d.label ≡ leb head (i + length ds) → AreSplit head i (ds ++ d ∷ [])
split_more head i [] d h own = let at : i + 0 ≡ i = omega arith in (own ∙ ap (leb head) at, tt)
split_more head i (e ∷ ds) d h own =
    let at : i + length (e ∷ ds) ≡ i + 1 + length ds = omega arith in
    (h.0, split_more head (i + 1) ds d h.1 (own ∙ ap (leb head) at))

-- with one more in front, where none of the names is a label
split_later : (head i : ℕ) (ds : List NameDecl) → i + length ds ≤ head → AreSplit head i ds → AreSplit (head + 1) i ds
split_later head i [] le h = tt
split_later head i (d ∷ ds) le h =
    let a : leb head i ≡ false = grind (arith, nat_tests, le) in
    let b : leb (head + 1) i ≡ false = grind (arith, nat_tests, le) in
    (h.0 ∙ a ∙ sym b, split_later head (i + 1) ds (omega (arith, le)) h.1)

count_label : (ds : List NameDecl) (d : NameDecl) → d.label ≡ true → count_in_head (ds ++ d ∷ []) ≡ count_in_head ds
count_label [] d is = rw is refl
count_label (e ∷ ds) d is = ap (λ (n : ℕ). cond e.label n (n + 1)) (count_label ds d is)

count_other : (ds : List NameDecl) (d : NameDecl) → d.label ≡ false → count_in_head (ds ++ d ∷ []) ≡ count_in_head ds + 1
count_other [] d is = rw is refl
count_other (e ∷ ds) d is = go (e.label) (count_other ds d is) where
  go : (c : Bool) → count_in_head (ds ++ d ∷ []) ≡ count_in_head ds + 1 → cond c (count_in_head (ds ++ d ∷ [])) (count_in_head (ds ++ d ∷ []) + 1) ≡ cond c (count_in_head ds) (count_in_head ds + 1) + 1
  go true h = h
  go false h = omega (arith, h)

count_within : (ds : List NameDecl) → count_in_head ds ≤ length ds
count_within [] = omega arith
count_within (d ∷ ds) = go (d.label) (count_within ds) where
  go : (c : Bool) → count_in_head ds ≤ length ds → cond c (count_in_head ds) (count_in_head ds + 1) ≤ length (d ∷ ds)
  go true h = omega (arith, h)
  go false h = omega (arith, h)

record NamesSplit (names : List NameDecl) : Type 0 where
  labels : AreSplit (count_in_head names) 0 names
  values : AllByRecursion IsFreeLabel names

label_split : (names : List NameDecl) (d : NameDecl) → d.label ≡ true → IsFreeLabel d → NamesSplit names → NamesSplit (names ++ d ∷ [])
label_split names d is free h =
    let last : leb (count_in_head names) (0 + length names) ≡ true = grind (arith, nat_tests, count_within names) in
    record {
      labels = subst (λ (n : ℕ). AreSplit n 0 (names ++ d ∷ [])) (sym (count_label names d is)) (split_more (count_in_head names) 0 names d h.labels (is ∙ sym last));
      values = all_appended IsFreeLabel names d h.values free;
    }

head_split : (names : List NameDecl) (d : NameDecl) → d.label ≡ false → count_in_head names ≡ length names → NamesSplit names → NamesSplit (names ++ d ∷ [])
head_split names d is all h =
    let last : leb (count_in_head names + 1) (0 + length names) ≡ false = grind (arith, nat_tests, all) in
    let later : AreSplit (count_in_head names + 1) 0 names = split_later (count_in_head names) 0 names (omega (arith, all)) h.labels in
    record {
      labels = subst (λ (n : ℕ). AreSplit n 0 (names ++ d ∷ [])) (sym (count_other names d is)) (split_more (count_in_head names + 1) 0 names d later (is ∙ sym last));
      values = all_appended IsFreeLabel names d h.values (λ label x word. absurd (cc (is, label)));
    }

-- a label has all values
free_label : (x : ℕ) → x < 2 ^ 32 → is_in all_values x ≡ true
free_label x word =
    let low : leb 0 x ≡ true = grind (arith, nat_tests) in
    let high : leb x (2 ^ 32 - 1) ≡ true = grind (arith, nat_tests, word) in
    let one : eqb (x % 1) 0 ≡ true = grind (arith, nat_tests) in
    is_in-elements (λ y. eqb (y % 1) 0 && is_within ((0, 2 ^ 32 - 1) ∷ []) y) x word ∙ rw (one, low, high) refl

-- ---- where the text stands

abbrev is_whole : OpenedBlock → Bool
is_whole o = elim (o.block) [
  | Whole ↦ true
  | _ ↦ false
]

-- inside a body it is open, and else no line of one stands
abbrev Standing : Place → List BodyLine → List OpenedBlock → Type 0
Standing Inside body os = (list_any is_whole os ≡ true) × (os ≡ counted_all body begun)
Standing _ body os = (body ≡ []) × (os ≡ [])

stands_inside : (place : Place) (body : List BodyLine) (os : List OpenedBlock) → is_inside place ≡ true → Standing place body os → (list_any is_whole os ≡ true) × (os ≡ counted_all body begun)
stands_inside Inside body os is h = h
stands_inside Head body os is h = absurd (cc is)
stands_inside Begin body os is h = absurd (cc is)
stands_inside Settings body os is h = absurd (cc is)
stands_inside Ended body os is h = absurd (cc is)

inside_stands : (place : Place) (body : List BodyLine) (os : List OpenedBlock) → is_inside place ≡ true → (list_any is_whole os ≡ true) × (os ≡ counted_all body begun) → Standing place body os
inside_stands Inside body os is h = h
inside_stands Head body os is h = absurd (cc is)
inside_stands Begin body os is h = absurd (cc is)
inside_stands Settings body os is h = absurd (cc is)
inside_stands Ended body os is h = absurd (cc is)

stands_outside : (place : Place) (body : List BodyLine) (os : List OpenedBlock) → is_inside place ≡ false → Standing place body os → (body ≡ []) × (os ≡ [])
stands_outside Inside body os is h = absurd (cc is)
stands_outside Head body os is h = h
stands_outside Begin body os is h = h
stands_outside Settings body os is h = h
stands_outside Ended body os is h = h

-- where no block is open, no body is
closed_outside : (place : Place) (body : List BodyLine) → Standing place body [] → (body ≡ []) × (◌≡◌ {A = List OpenedBlock} [] [])
closed_outside Inside body h = absurd (cc h.0)
closed_outside Head body h = h
closed_outside Begin body h = h
closed_outside Settings body h = h
closed_outside Ended body h = h

open_inside : (place : Place) (body : List BodyLine) (o : OpenedBlock) (os : List OpenedBlock) → Standing place body (o ∷ os) → is_inside place ≡ true
open_inside Inside body o os h = refl
open_inside Head body o os h = absurd (cc h.1)
open_inside Begin body o os h = absurd (cc h.1)
open_inside Settings body o os h = absurd (cc h.1)
open_inside Ended body o os h = absurd (cc h.1)

whole_longer : (n : ℕ) (os : List OpenedBlock) → list_any is_whole os ≡ true → list_any is_whole (add_length n os) ≡ true
whole_longer n [] h = h
whole_longer n (o ∷ os) h = h

whole_way : (w n : ℕ) (os : List OpenedBlock) → list_any is_whole os ≡ true → list_any is_whole (add_way w n os) ≡ true
whole_way w n [] h = h
whole_way w n (o ∷ os) h = h

-- ---- what is known

record NamingKept (place : Place) (names : List NameDecl) (harts : List HartLines) (body : List BodyLine) (os : List OpenedBlock) : Type 0 where
  standing : Standing place body os
  split : NamesSplit names
  bodies : Between (named_harts harts (count_in_head names)) (named_lines body begun) (length names)

-- a line inside a body, and the names behind it
line_ordered : (place : Place) (names : List NameDecl) (harts : List HartLines) (body : List BodyLine) (os : List OpenedBlock) (l : BodyLine) (next : List NameDecl)
    → is_inside place ≡ true → count_in_head next ≡ count_in_head names → NamesSplit next → named_line l os (length names) ≡ Some (length next) → list_any is_whole (counted l os) ≡ true
    → NamingKept place names harts body os → NamingKept place next harts (body ++ l ∷ []) (counted l os)
line_ordered place names harts body os l next is head split own whole h =
    let at = stands_inside place body os is h.standing in
    let stack : counted l os ≡ counted_all (body ++ l ∷ []) begun = ap (counted l) at.1 ∙ sym (counted_both body (l ∷ []) begun) in
    let there : named_line l (counted_all body begun) (length names) ≡ Some (length next) = subst (λ (st : List OpenedBlock). named_line l st (length names) ≡ Some (length next)) at.1 own in
    record {
      standing = inside_stands place (body ++ l ∷ []) (counted l os) is (whole, stack);
      split = split;
      bodies = record {
        known = h.bodies.known;
        first = ap (named_harts harts) head ∙ h.bodies.first;
        second = named_more body l begun h.bodies.known (length names) (length next) h.bodies.second there;
      };
    }

-- one that declares no name
item_ordered : (place : Place) (names : List NameDecl) (harts : List HartLines) (body : List BodyLine) (os : List OpenedBlock) (l : BodyLine)
    → is_inside place ≡ true → named_line l os (length names) ≡ Some (length names) → (list_any is_whole os ≡ true → list_any is_whole (counted l os) ≡ true)
    → NamingKept place names harts body os → NamingKept place names harts (body ++ l ∷ []) (counted l os)
item_ordered place names harts body os l is own whole h =
    line_ordered place names harts body os l names is refl h.split own (whole (stands_inside place body os is h.standing).0) h

label_ordered : (place : Place) (names : List NameDecl) (harts : List HartLines) (body : List BodyLine) (os : List OpenedBlock) (d : NameDecl)
    → is_inside place ≡ true → list_any is_repeat os ≡ false → d.label ≡ true → IsFreeLabel d
    → NamingKept place names harts body os → NamingKept place (names ++ d ∷ []) harts (body ++ LabelOf (length names) ∷ []) (add_length 0 os)
label_ordered place names harts body os d is free label values h =
    let itself : eqb (length names) (length names) ≡ true = grind (arith, nat_tests) in
    let more : ◌≡◌ {A = Option ℕ} (Some (length names + 1)) (Some (length (names ++ d ∷ []))) = ap (λ (n : ℕ). Some n) (sym (length-append names (d ∷ []))) in
    line_ordered place names harts body os (LabelOf (length names)) (names ++ d ∷ []) is (count_label names d label) (label_split names d label values h.split)
    (rw (itself, free) more) (whole_longer 0 os (stands_inside place body os is h.standing).0) h

-- another place outside of bodies
moved : (place there : Place) (names : List NameDecl) (harts : List HartLines) (body : List BodyLine) (os : List OpenedBlock) (lines : List BodyLine) (blocks : List OpenedBlock)
    → body ≡ [] → lines ≡ [] → Standing there lines blocks → NamingKept place names harts body os → NamingKept there names harts lines blocks
moved place there names harts body os lines blocks none nothing standing h = record {
  standing = standing;
  split = h.split;
  bodies = subst (λ (ls : List BodyLine). Between (named_harts harts (count_in_head names)) (named_lines ls begun) (length names)) (none ∙ sym nothing) h.bodies;
}

no_hart : (harts : List HartLines) → eqb (length harts) 0 ≡ true → harts ≡ []
no_hart [] h = refl
no_hart (g ∷ hs) h = absurd (omega (arith, eqb-true (length (g ∷ hs)) 0 h))

head_outside : (place : Place) → is_head place ≡ true → is_inside place ≡ false
head_outside Head is = refl
head_outside Inside is = absurd (cc is)
head_outside Begin is = absurd (cc is)
head_outside Settings is = absurd (cc is)
head_outside Ended is = absurd (cc is)

begin_outside : (place : Place) → is_begin place ≡ true → is_inside place ≡ false
begin_outside Begin is = refl
begin_outside Head is = absurd (cc is)
begin_outside Inside is = absurd (cc is)
begin_outside Settings is = absurd (cc is)
begin_outside Ended is = absurd (cc is)

settings_outside : (place : Place) → is_settings place ≡ true → is_inside place ≡ false
settings_outside Settings is = refl
settings_outside Head is = absurd (cc is)
settings_outside Inside is = absurd (cc is)
settings_outside Begin is = absurd (cc is)
settings_outside Ended is = absurd (cc is)

ended_outside : (place : Place) → is_ended place ≡ true → is_inside place ≡ false
ended_outside Ended is = refl
ended_outside Head is = absurd (cc is)
ended_outside Inside is = absurd (cc is)
ended_outside Begin is = absurd (cc is)
ended_outside Settings is = absurd (cc is)

-- a name of the head
name_ordered : (place : Place) (names : List NameDecl) (harts : List HartLines) (body : List BodyLine) (os : List OpenedBlock) (d : NameDecl) → is_head place ≡ true → eqb (length harts) 0 ≡ true → d.label ≡ false
    → NamingKept place names harts body os → NamingKept place (names ++ d ∷ []) harts body os
name_ordered place names harts body os d is first other h =
    let at = stands_outside place body os (head_outside place is) h.standing in
    let a : ◌≡◌ {A = Option ℕ} (Some (count_in_head names)) (Some h.bodies.known) = subst (λ (hs : List HartLines). named_harts hs (count_in_head names) ≡ Some h.bodies.known) (no_hart harts first) h.bodies.first in
    let b : ◌≡◌ {A = Option ℕ} (Some h.bodies.known) (Some (length names)) = subst (λ (ls : List BodyLine). named_lines ls begun h.bodies.known ≡ Some (length names)) at.0 h.bodies.second in
    let all : count_in_head names ≡ length names = same_Some _ _ a ∙ same_Some _ _ b in
    let same : count_in_head (names ++ d ∷ []) ≡ length (names ++ d ∷ []) = count_other names d other ∙ omega (arith, all, length-append names (d ∷ [])) in
    record {
      standing = h.standing;
      split = head_split names d other all h.split;
      bodies = record {
        known = count_in_head (names ++ d ∷ []);
        first = subst (λ (hs : List HartLines). named_harts hs (count_in_head (names ++ d ∷ [])) ≡ Some (count_in_head (names ++ d ∷ []))) (sym (no_hart harts first)) refl;
        second = subst (λ (ls : List BodyLine). named_lines ls begun (count_in_head (names ++ d ∷ [])) ≡ Some (length (names ++ d ∷ []))) (sym at.0) (ap (λ (n : ℕ). Some n) same);
      };
    }

-- the brace that closes a body
hart_ordered : (place : Place) (names : List NameDecl) (harts : List HartLines) (body : List BodyLine) (os : List OpenedBlock) (g : HartLines) → g.body ≡ body
    → NamingKept place names harts body os → NamingKept Ended names (harts ++ g ∷ []) [] []
hart_ordered place names harts body os g is h = record {
  standing = (refl, refl);
  split = h.split;
  bodies = record {
    known = length names;
    first = one_hart_more harts g (count_in_head names) h.bodies.known (length names) h.bodies.first (subst (λ (ls : List BodyLine). named_lines ls begun h.bodies.known ≡ Some (length names)) (sym is) h.bodies.second);
    second = refl;
  };
}

-- ---- a statement

abbrev IsOrdered : Known → Type 0
IsOrdered k = NamingKept k.place k.names k.harts k.body k.blocks

closed_ordered : (k : Known) (os : List OpenedBlock) → k.blocks ≡ os → NamingKept k.place k.names k.harts k.body os → IsOrdered (closed_in k os)
closed_ordered k [] blocks h =
    let at = closed_outside k.place k.body h.standing in
    moved k.place Head k.names k.harts k.body [] k.body k.blocks at.0 at.0 (at.0, blocks) h
closed_ordered k (o ∷ os) blocks h = go (o.block) refl where
  at : is_inside k.place ≡ true
  at = open_inside k.place k.body o os h.standing

  whole : list_any is_whole (o ∷ os) ≡ true
  whole = (stands_inside k.place k.body (o ∷ os) at h.standing).0

  go : (b : Block) → o.block ≡ b → IsOrdered (closed_in k (o ∷ os))
  go Whole is = rw is (hart_ordered k.place k.names k.harts k.body (o ∷ os) (record { start = start_of k; body = k.body }) refl h)
  go Sequence is = rw is (rw is at (item_ordered k.place k.names k.harts k.body (o ∷ os) Leave at refl (λ some. rw is (whole_longer o.length os (rw is at some))) h))
  go (Times n) is = rw is (rw is at (item_ordered k.place k.names k.harts k.body (o ∷ os) Leave at refl (λ some. rw is (whole_longer _ os (rw is at some))) h))
  go Choice is = rw is (rw is at (item_ordered k.place k.names k.harts k.body (o ∷ os) Leave at refl (λ some. rw is (whole_longer _ os (rw is at some))) h))
  go (Alternative w) is = rw is (rw is at (item_ordered k.place k.names k.harts k.body (o ∷ os) Leave at refl (λ some. rw is (whole_way w o.length os (rw is at some))) h))

after_ordered : (k : Known) (line : ℕ) (last : Bool) (p : Phrase) → Passed k last p → IsOrdered k → IsOrdered (after k line p)
after_ordered k line last (Ram lo hi) ok h = h
after_ordered k line last (Pool fs) ok h = h
after_ordered k line last (Tables fs) ok h = h
after_ordered k line last (Flags bs) ok h = h
after_ordered k line last (Vectors s) ok h = h
after_ordered k line last (Set name s) ok h = h
after_ordered k line last (Data a w) ok h = h
after_ordered k line last (Csr name v) ok h = h
after_ordered k line last (Reg n v) ok h = h
after_ordered k line last (Name name s) ok h =
    let first = both_true (is_head k.place) _ ok.allowed in
    name_ordered k.place k.names k.harts k.body k.blocks (record { name = name; set = resolved k.sets s; label = false }) first.0 first.1 refl h
after_ordered k line last (Hart n) ok h =
    let at = stands_outside k.place k.body k.blocks (head_outside k.place ok.allowed) h.standing in
    moved k.place Begin k.names k.harts k.body k.blocks k.body k.blocks at.0 at.0 at h
after_ordered k line last (Start pc p) ok h =
    let at = stands_outside k.place k.body k.blocks (begin_outside k.place ok.allowed) h.standing in
    moved k.place Settings k.names k.harts k.body k.blocks k.body k.blocks at.0 at.0 at h
after_ordered k line last Body ok h =
    let at = stands_outside k.place k.body k.blocks (settings_outside k.place ok.allowed) h.standing in
    moved k.place Inside k.names k.harts k.body k.blocks [] begun at.0 refl (refl, refl) h
after_ordered k line last (Do ws) ok h =
    let own : list_all (is_name_below (length k.names)) (atoms_of (map (wish_of k) ws)) ≡ true = all_below k ws ok.known in
    item_ordered k.place k.names k.harts k.body k.blocks (Leaf line (map (wish_of k) ws)) (both_true _ _ ok.allowed).0 (rw own refl) (whole_longer 1 k.blocks) h
after_ordered k line last (Fault os) ok h = item_ordered k.place k.names k.harts k.body k.blocks (FetchFault line _) (both_true _ _ ok.allowed).0 refl (whole_longer 1 k.blocks) h
after_ordered k line last Seq ok h = item_ordered k.place k.names k.harts k.body k.blocks EnterSeq (both_true _ _ ok.allowed).0 refl (λ some. some) h
after_ordered k line last (Repeat n) ok h = item_ordered k.place k.names k.harts k.body k.blocks (EnterRepeat (number n)) (both_true _ _ ok.allowed).0 refl (λ some. some) h
after_ordered k line last Choose ok h = item_ordered k.place k.names k.harts k.body k.blocks (EnterChoose line) (both_true _ _ ok.allowed).0 refl (λ some. some) h
after_ordered k line last (Way w) ok h = item_ordered k.place k.names k.harts k.body k.blocks (EnterWay (number w)) (both_true _ _ ok.allowed).0 refl (λ some. some) h
after_ordered k line last (Label name) ok h =
    let may = both_true (is_inside k.place && takes_items k.blocks) _ ok.allowed in
    let d : NameDecl = record { name = name; set = all_values; label = true } in
    label_ordered k.place k.names k.harts k.body k.blocks d (both_true (is_inside k.place) _ may.0).0 (not_true _ may.1) refl (λ label. free_label) h
after_ordered k line last Close ok h = closed_ordered k k.blocks refl h

-- ---- all that can be known

judged_ordered : {k next : Known} {line : ℕ} {bytes : List ℕ} {last : Bool} → Judged k line bytes last next → IsOrdered k → IsOrdered next
judged_ordered (Blank ends) h = h
judged_ordered {k} {next} {line} {bytes} {last} (Stated p ts at spells short ok) h = after_ordered k line last p ok h

reached_ordered : {k : Known} → IsReached k → IsOrdered k
reached_ordered Before = record {
  standing = (refl, refl);
  split = record { labels = tt; values = tt };
  bodies = record { known = 0; first = refl; second = refl };
}
reached_ordered (Behind k next line bytes last before is) = judged_ordered (judged_by k next line bytes last is) (reached_ordered before)

-- ---- where a text may end

closed_empty : (k : Known) (os : List OpenedBlock) → os ≡ [] → k.body ≡ [] → (closed_in k os).body ≡ []
closed_empty k [] none h = h
closed_empty k (o ∷ os) none h = absurd (cc none)

stated_empty : (k : Known) (line : ℕ) (p : Phrase) → is_last k p ≡ true → IsOrdered k → (after k line p).body ≡ []
stated_empty k line Close is h =
    let at = stands_outside k.place k.body k.blocks (ended_outside k.place is) h.standing in
    closed_empty k k.blocks at.1 at.0
stated_empty k line _ is h = absurd (cc is)

last_empty : {k next : Known} {line : ℕ} {bytes : List ℕ} → Judged k line bytes true next → IsOrdered k → next.body ≡ []
last_empty {k} (Blank ends) h = (stands_outside k.place k.body k.blocks (head_outside k.place (both_true (is_head k.place) _ (not_false _ ends)).0) h.standing).0
last_empty {k} {next} {line} (Stated p ts at spells short ok) h = stated_empty k line p (not_false _ ok.ends) h

-- no line stands behind the last hart
harts_end : (names : List NameDecl) (harts : List HartLines) (body : List BodyLine) → body ≡ [] → Between (named_harts harts (count_in_head names)) (named_lines body begun) (length names) → named_harts harts (count_in_head names) ≡ Some (length names)
harts_end names harts body none h =
    h.first ∙ subst (λ (ls : List BodyLine). named_lines ls begun h.known ≡ Some (length names)) none h.second

-- every template
pub names_in_order : (names : List NameDecl) (hs : List HartDecl) {k next : Known} {line : ℕ} {bytes : List ℕ} → IsReached k → Judged k line bytes true next → next.names ≡ names → next.harts ≡ map hart_lines hs → AreNamesInOrder names hs
names_in_order names hs {k} {next} reached ends same bodies =
    let before : IsOrdered k = reached_ordered reached in
    let h : IsOrdered next = judged_ordered ends before in
    let split : NamesSplit names = subst NamesSplit same h.split in
    let harts : named_harts next.harts (count_in_head names) ≡ Some (length names) = subst (λ (ds : List NameDecl). named_harts next.harts (count_in_head ds) ≡ Some (length ds)) same (harts_end next.names next.harts next.body (last_empty ends before) h.bodies) in
    record {
      labels = λ i d is. split_at (count_in_head names) 0 names split.labels i d is ∙ ap (leb (count_in_head names)) (omega arith);
      values = split.values;
      bodies = harts_named hs (count_in_head names) (length names) (subst (λ (ls : List HartLines). named_harts ls (count_in_head names) ≡ Some (length names)) bodies harts);
    }
