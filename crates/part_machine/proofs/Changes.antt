-- Undoing a change gives back what was.
use Rattle.std.proofs.Common.{◌≡◌, ℕ, zero, suc, ◌/◌, ◌%◌, ◌<◌, eqb, List, [], ◌∷◌, length, length-set, map, set, get_or, slice_get, Option, Some, None, refl, sym, ap, ◌∙◌, subst, inl, inr, arith}
use Rattle.std.proofs.lemmas.Bool.{cases_Bool, eqb-true, eq-eqb}
use Rattle.std.proofs.lemmas.List.{set-set, set-get_or}
use Rattle.rv_mem.specs.declared.words.Seen.TheVariants.{Untouched}
use Rattle.rv_mem.specs.Seen.{is_there}
use Rattle.part_machine.specs.declared.entry.Entry.{Entry}
use Rattle.part_machine.specs.declared.entry.Entry.TheVariants.{Word, Name}
use Rattle.part_machine.specs.Whole.{Bare, bare, Whole, named, no_hart, HasHart, word_given}
use Rattle.part_machine.specs.Undo.{undone, IsWithin}
use Rattle.part_machine.specs.Internal.Places.{IsPlaceEntry}
use Rattle.part_machine.proofs.Undoing.{same_whole}
use Rattle.part_machine.proofs.ButLast.{but_last_append}

-- ---- lists

pub map_at : {A B : Type 0} (f : A → B) (xs : List A) (k : ℕ) (x : A) (d : B) → k < length xs → x ≡ get_or xs k x → f x ≡ get_or (map f xs) k d
map_at f [] k x d l e = absurd (omega arith)
map_at f (y ∷ xs) zero x d l e = ap f e
map_at f (y ∷ xs) (suc k) x d l e = map_at f xs k x d (omega arith) e

pub set_back : {A : Type 0} (xs : List A) (k : ℕ) (x y d : A) → y ≡ get_or xs k d → set (set xs k x) k y ≡ xs
set_back xs k x y d e = set-set xs k x y ∙ ap (set xs k) e ∙ set-get_or xs k d

got : {A : Type 0} (xs : List A) (k : ℕ) (x d : A) → slice_get xs k ≡ Some x → x ≡ get_or xs k d
got [] k x d e = absurd (cc e)
got (y ∷ xs) zero x d e = let same : y ≡ x = cc e in sym same
got (y ∷ xs) (suc k) x d e = got xs k x d e

got_below : {A : Type 0} (xs : List A) (k : ℕ) (x : A) → slice_get xs k ≡ Some x → k < length xs
got_below [] k x e = absurd (cc e)
got_below (y ∷ xs) zero x e = omega arith
got_below (y ∷ xs) (suc k) x e = let ih : k < length xs = got_below xs k x e in omega (arith, ih)

-- ---- a name

pub name_back : (name value : ℕ) (w w' : Whole) → w' ≡ named name value w → slice_get w.names name ≡ Some None → undone (Name name) w' ≡ w
name_back name value w w' is unbound =
    ap (λ (v : Whole). undone (Name name) v) is
    ∙ ap (λ (ns : List (Option ℕ)). let v : Whole = record w { names = ns } in v) (set_back w.names name (Some value) None None (got w.names name None None unbound))

pub name_within : (name value : ℕ) (w w' : Whole) → w' ≡ named name value w → slice_get w.names name ≡ Some None → IsWithin (Name name) w'
name_within name value w w' is unbound =
    let size : length w'.names ≡ length w.names = ap (λ (v : Whole). length v.names) is ∙ length-set w.names name (Some value) in
    let below : name < length w.names = got_below w.names name None unbound in
    omega (arith, size, below)

-- ---- a place of a hart

abbrev pub two_given : ℕ → Bare → Bare → Whole → Whole
two_given k x y w = record w { first = set w.first k x; harts = set w.harts k y }

pub place_back : (k : ℕ) (x y : Bare) (w w' : Whole) (e : Entry) → w' ≡ two_given k x y w → IsPlaceEntry k w e → undone e w' ≡ w
place_back k x y w w' e is entry =
    let first : set (set w.first k x) k (bare entry.first) ≡ w.first = set_back w.first k x (bare entry.first) no_hart entry.first_is in
    let now : set (set w.harts k y) k (bare entry.now) ≡ w.harts = set_back w.harts k y (bare entry.now) no_hart entry.now_is in
    ap (λ (v : Whole). undone e v) is
    ∙ ap (λ (d : Entry). undone d (two_given k x y w)) entry.is
    ∙ ap (λ (hs : List Bare). let v : Whole = record w { first = hs; harts = set (set w.harts k y) k (bare entry.now) } in v) first
    ∙ ap (λ (hs : List Bare). let v : Whole = record w { harts = hs } in v) now

pub place_within : (k : ℕ) (x y : Bare) (w w' : Whole) (e : Entry) → w' ≡ two_given k x y w → IsPlaceEntry k w e → HasHart k w → IsWithin e w'
place_within k x y w w' e is entry has =
    let first : length w'.first ≡ length w.first = ap (λ (v : Whole). length v.first) is ∙ length-set w.first k x in
    let now : length w'.harts ≡ length w.harts = ap (λ (v : Whole). length v.harts) is ∙ length-set w.harts k y in
    subst (λ (d : Entry). IsWithin d w') (sym entry.is) (omega (arith, first, has.first), omega (arith, now, has.now))

-- ---- a word

pub word_back : (addr v : ℕ) (w w' : Whole) → w' ≡ word_given addr v w → w.memory (addr / 4) ≡ Untouched → undone (Word addr) w' ≡ w
word_back addr v w w' is untouched =
    ap (λ (u : Whole). undone (Word addr) u) is
    ∙ same_whole (undone (Word addr) (word_given addr v w)) w (record {
      ram = refl;
      first = refl;
      words = but_last_append w.words (addr / 4, v);
      traces = refl;
      harts = refl;
      memory = λ i. elim (cases_Bool (eqb i (addr / 4))) [
        | inl t ↦ rw t (sym (ap w.memory (eqb-true i (addr / 4) t) ∙ untouched))
        | inr f ↦ rw f refl
      ];
      feet = λ b h r. refl;
      names = refl;
      choices = refl;
      dropped = refl;
    })

pub word_within : (addr v : ℕ) (w w' : Whole) → w' ≡ word_given addr v w → addr % 4 ≡ 0 → IsWithin (Word addr) w'
word_within addr v w w' is aligned = (
  aligned,
  ap (λ (u : Whole). is_there (u.memory (addr / 4))) is ∙ rw (eq-eqb (addr / 4) (addr / 4) refl) refl,
)
