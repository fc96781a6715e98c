-- Harts that did nothing yet.
use Rattle.std.proofs.Common.{◌≡◌, ℕ, zero, suc, ◌+◌, ◌<◌, Bool, true, false, List, [], ◌∷◌, ◌++◌, length, take, get_or, Some, None, refl, sym, ap, ◌∙◌, subst, arith, if◌then◌else◌}
use Rattle.std.specs.Prelude.{replicate}
use Rattle.rv_mem.specs.declared.words.Seen.TheVariants.{Untouched, Vacant}
use Rattle.rv_mem.specs.Ram.{in_ram}
use Rattle.rv_mem.specs.Seen.{known_word, is_there}
use Rattle.rv_script.specs.Lists.{HasItem}
use Rattle.rv_hart.specs.declared.record.Record.{Record}
use Rattle.tpl_admit.specs.Races.{footprint_of}
use Rattle.part_machine.specs.Whole.{Bare, Whole, given, no_hart, IsNew}
use Rattle.part_state.specs.Meaning.{held_in, partial_of, IsFit, IsTest}
use Rattle.part_laws.proofs.Late.{fresh_test}

replicate_end : {A : Type 0} (n : ℕ) (x : A) → replicate n x ++ x ∷ [] ≡ replicate (suc n) x
replicate_end zero x = refl
replicate_end {A} (suc n) x = ap (λ (xs : List A). x ∷ xs) (replicate_end n x)

pub replicate_more : {A : Type 0} (n : ℕ) (x : A) → replicate n x ++ x ∷ [] ≡ replicate (n + 1) x
replicate_more n x = let same : suc n ≡ n + 1 = omega arith in replicate_end n x ∙ ap (λ (i : ℕ). replicate i x) same

length_replicate : {A : Type 0} (n : ℕ) (x : A) → length (replicate n x) ≡ n
length_replicate zero x = refl
length_replicate (suc n) x = ap suc (length_replicate n x)

item_replicate : {A : Type 0} (n k : ℕ) (x : A) → get_or (replicate n x) k x ≡ x
item_replicate zero k x = refl
item_replicate (suc n) zero x = refl
item_replicate (suc n) (suc k) x = item_replicate n k x

take_end : {A : Type 0} (xs : List A) (i : ℕ) (x d : A) → i < length xs → x ≡ get_or xs i d → take i xs ++ x ∷ [] ≡ take (suc i) xs
take_end [] i x d l e = absurd (omega arith)
take_end {A} (y ∷ xs) zero x d l e = ap (λ (z : A). z ∷ []) e
take_end {A} (y ∷ xs) (suc i) x d l e = ap (λ (zs : List A). y ∷ zs) (take_end xs i x d (omega arith) e)

pub take_one_more : {A : Type 0} (xs : List A) (i : ℕ) (x d : A) → i < length xs → x ≡ get_or xs i d → take i xs ++ x ∷ [] ≡ take (i + 1) xs
take_one_more xs i x d l e = let same : suc i ≡ i + 1 = omega arith in take_end xs i x d l e ∙ ap (λ (n : ℕ). take n xs) same

pub new_test : (harts : List Bare) (ram : List (ℕ × ℕ)) (names : ℕ) (w : Whole) → IsNew harts ram names w → ((k : ℕ) → k < length harts → IsFit (get_or harts k no_hart)) → ((k : ℕ) → k < length harts → (get_or harts k no_hart).csrs.hart ≡ k) → IsTest w
new_test harts ram names w new fit numbers =
    let size : length w.harts ≡ length harts = ap (λ (hs : List Bare). length hs) new.now in
    let same : w.harts ≡ w.first = new.now ∙ sym new.first in
    record {
      first = ap (λ (hs : List Bare). length hs) (sym same);
      traces = ap (λ (ts : List (List Record)). length ts) new.traces ∙ length_replicate (length harts) [] ∙ sym size;
      fit_first = λ k l. subst (λ (hs : List Bare). IsFit (get_or hs k no_hart)) (sym new.first) (fit k (omega (arith, l, size)));
      fit = λ k l. subst (λ (hs : List Bare). IsFit (get_or hs k no_hart)) (sym new.now) (fit k (omega (arith, l, size)));
      number_first = λ k l. subst (λ (hs : List Bare). (get_or hs k no_hart).csrs.hart ≡ k) (sym new.first) (numbers k (omega (arith, l, size)));
      number = λ k l. subst (λ (hs : List Bare). (get_or hs k no_hart).csrs.hart ≡ k) (sym new.now) (numbers k (omega (arith, l, size)));
      there = λ n. ap is_there (new.memory n) ∙ there (in_ram ram n) ∙ ap (λ (r : List (ℕ × ℕ)). in_ram r n) (sym new.ram_is);
      small = λ n v e. let no : None ≡ Some v = sym (ap (λ (es : List (ℕ × ℕ)). given es n) new.words) ∙ e in absurd (cc no);
      test = fresh_test (partial_of w) (record {
        records = λ k. ap (λ (ts : List (List Record)). get_or ts k []) new.traces ∙ item_replicate (length harts) k [];
        harts = λ k. ap (λ (hs : List Bare). held_in (get_or hs k no_hart) w.memory) same;
        memory = λ n. ap known_word (new.memory n) ∙ none (in_ram ram n) ∙ sym (ap (λ (es : List (ℕ × ℕ)). given es n) new.words);
      });
      foot = λ b h r. (
        λ t. let no : false ≡ true = sym (new.feet b h r) ∙ t in absurd (cc no),
        λ x. let rs : List Record = get_or w.traces h [] in
            let none_done : rs ≡ [] = ap (λ (ts : List (List Record)). get_or ts h []) new.traces ∙ item_replicate (length harts) h [] in
            let never : HasItem [] x.0 = subst (λ (q : List Record). HasItem (footprint_of q) x.0) none_done x.1 in absurd never,
      );
    }
  where
    none : (b : Bool) → known_word (if b then Untouched else Vacant) ≡ None
    none true = refl
    none false = refl

    there : (b : Bool) → is_there (if b then Untouched else Vacant) ≡ b
    there true = refl
    there false = refl
