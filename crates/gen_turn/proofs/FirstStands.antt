-- Where admission begins with a hart: the start of the certificate has all that the template says, and gives the registers.
use Rattle.std.proofs.Common.{◌≡◌, ℕ, zero, suc, ◌+◌, ◌%◌, ◌<◌, ◌≤◌, ◌==◌, Bool, true, false, eqb, ltb, if◌then◌else◌, List, [], ◌∷◌, ◌++◌, drop, get_or, get_or-set_other, get_or-set_same, length, length-set, Option, Some, None, refl, sym, ap, ◌∙◌, subst, arith}
use Rattle.std.specs.Prelude.{replicate, slice_index_or, slice_set}
use Rattle.std.specs.List.{list_all}
use Rattle.std.proofs.lemmas.Bool.{and_from, eq-eqb, eqb-true, lt-ltb, ne_eqb}
use Rattle.rv_csr.specs.declared.privilege.Priv.{Priv}
use Rattle.rv_csr.specs.declared.privilege.Priv.TheVariants.{U, S, M}
use Rattle.rv_csr.specs.State.{CsrValues, lazy_value_at}
use Rattle.rv_csr.specs.Table.{csr_address, csr_key}
use Rattle.rv_script.specs.Logs.{or_else}
use Rattle.tpl_ast.specs.declared.template.HartState.{HartState}
use Rattle.tpl_ast.specs.declared.template.Region.{Region}
use Rattle.tpl_ast.specs.States.{ArePlaces, AreStartWords}
use Rattle.tpl_admit.specs.Admitting.{gives, is_same_level, is_value, starts_as, with_given}
use Rattle.rv_hart.specs.Registers.{no_registers}
use Rattle.tpl_admit.specs.Starts.{fixed_in as fixed_of_state, lookup}
use Rattle.rv_hart.specs.Fixed.{Fixed}
use Rattle.part_machine.specs.Whole.{Bare}
use Rattle.part_state.specs.Meaning.{IsFit, value_of_key}
use Rattle.part_state.proofs.Keys.{high_key}
use Rattle.part_told.specs.Finishing.{known_csrs, known_from, known_one, places_in, csr_addresses}

-- ---- the registers

given_append : (xs ys : List (ℕ × ℕ)) (regs : List (Option ℕ)) → with_given (xs ++ ys) regs ≡ with_given ys (with_given xs regs)
given_append [] ys regs = refl
given_append (x ∷ xs) ys regs = given_append xs ys (if ltb x.0 32 then slice_set regs x.0 (Some x.1) else regs)

one_csr : (addr : ℕ) (o : Option ℕ) (regs : List (Option ℕ)) → with_given (known_one (csr_key addr) o) regs ≡ regs
one_csr addr None regs = refl
one_csr addr (Some v) regs = ap (λ (b : Bool). if b then slice_set regs (csr_key addr) (Some v) else regs) (high_key addr)

given_csrs : (addrs : List ℕ) (csrs : CsrValues) (regs : List (Option ℕ)) → with_given (known_csrs addrs csrs) regs ≡ regs
given_csrs [] csrs regs = refl
given_csrs (a ∷ addrs) csrs regs =
    given_append (known_one (csr_key a) (lazy_value_at csrs a)) (known_csrs addrs csrs) regs
    ∙ ap (λ (rs : List (Option ℕ)). with_given (known_csrs addrs csrs) rs) (one_csr a (lazy_value_at csrs a) regs) ∙ given_csrs addrs csrs regs

size_given : (es : List (ℕ × ℕ)) (regs : List (Option ℕ)) → length (with_given es regs) ≡ length regs
size_given [] regs = refl
size_given (e ∷ es) regs = size_given es (if ltb e.0 32 then slice_set regs e.0 (Some e.1) else regs) ∙ go (ltb e.0 32)
  where
    go : (b : Bool) → length (if b then slice_set regs e.0 (Some e.1) else regs) ≡ length regs
    go true = length-set regs e.0 (Some e.1)
    go false = refl

given_before : (os : List (Option ℕ)) (n i : ℕ) (regs : List (Option ℕ)) → i < n → slice_index_or (with_given (known_from n os) regs) i None ≡ slice_index_or regs i None
given_before [] n i regs lt = refl
given_before (None ∷ os) n i regs lt = given_before os (n + 1) i regs (omega (arith, lt))
given_before (Some v ∷ os) n i regs lt = given_before os (n + 1) i (if ltb n 32 then slice_set regs n (Some v) else regs) (omega (arith, lt)) ∙ go (ltb n 32)
  where
    go : (b : Bool) → slice_index_or (if b then slice_set regs n (Some v) else regs) i None ≡ slice_index_or regs i None
    go true = get_or-set_other regs n i (Some v) None (λ e. absurd (omega (arith, e, lt)))
    go false = refl

given_at : (os : List (Option ℕ)) (n j : ℕ) (regs : List (Option ℕ)) → n + length os ≤ 32 → length regs ≡ 32 → j < length os
    → slice_index_or (with_given (known_from n os) regs) (n + j) None ≡ or_else (slice_index_or os j None) (slice_index_or regs (n + j) None)
given_at [] n j regs fits size lt = absurd (omega (arith, lt))
given_at (None ∷ os) n zero regs fits size lt = given_before os (n + 1) (n + 0) regs (omega arith)
given_at (None ∷ os) n (suc j) regs fits size lt =
    let same : n + suc j ≡ (n + 1) + j = omega arith in
    ap (λ (i : ℕ). slice_index_or (with_given (known_from (n + 1) os) regs) i None) same
    ∙ given_at os (n + 1) j regs (omega (arith, fits)) size (omega (arith, lt))
    ∙ ap (λ (i : ℕ). or_else (slice_index_or os j None) (slice_index_or regs i None)) (sym same)
given_at (Some v ∷ os) n zero regs fits size lt =
    let same : n + 0 ≡ n = omega arith in
    ap (λ (b : Bool). slice_index_or (with_given (known_from (n + 1) os) (if b then slice_set regs n (Some v) else regs)) (n + 0) None) (lt-ltb n 32 (omega (arith, fits)))
    ∙ given_before os (n + 1) (n + 0) (slice_set regs n (Some v)) (omega arith)
    ∙ ap (λ (i : ℕ). slice_index_or (slice_set regs n (Some v)) i None) same
    ∙ get_or-set_same regs n (Some v) None (omega (arith, fits, size))
given_at (Some v ∷ os) n (suc j) regs fits size lt =
    let same : n + suc j ≡ (n + 1) + j = omega arith in
    ap (λ (b : Bool). slice_index_or (with_given (known_from (n + 1) os) (if b then slice_set regs n (Some v) else regs)) (n + suc j) None) (lt-ltb n 32 (omega (arith, fits)))
    ∙ ap (λ (i : ℕ). slice_index_or (with_given (known_from (n + 1) os) (slice_set regs n (Some v))) i None) same
    ∙ given_at os (n + 1) j (slice_set regs n (Some v)) (omega (arith, fits)) (length-set regs n (Some v) ∙ size) (omega (arith, lt))
    ∙ ap (λ (i : ℕ). or_else (slice_index_or os j None) (slice_index_or (slice_set regs n (Some v)) i None)) (sym same)
    ∙ ap (or_else (slice_index_or os j None)) (get_or-set_other regs n (n + suc j) (Some v) None (λ e. absurd (omega (arith, e))))

at_drop : (xs : List (Option ℕ)) (j : ℕ) → get_or (drop 1 xs) j None ≡ get_or xs (suc j) None
at_drop [] j = refl
at_drop (x ∷ xs) j = refl

size_drop : (xs : List (Option ℕ)) → length xs ≡ 32 → length (drop 1 xs) ≡ 31
size_drop [] h = absurd (omega (arith, h))
size_drop (x ∷ xs) h = omega (arith, h)

abbrev no_value : Option ℕ
no_value = None

none_at : (n j : ℕ) → get_or (replicate n no_value) j None ≡ no_value
none_at zero j = refl
none_at (suc n) zero = refl
none_at (suc n) (suc j) = none_at n j

or_none : (o : Option ℕ) → or_else o None ≡ o
or_none None = refl
or_none (Some v) = refl

pub first_register : (b : Bare) → IsFit b → (n : ℕ) → 0 < n → n < 32 → slice_index_or (with_given (places_in b) no_registers) n None ≡ value_of_key b n
first_register b fit zero some small = absurd (omega (arith, some))
first_register b fit (suc j) some small =
    let size : length (drop 1 b.regs) ≡ 31 = size_drop b.regs fit.size in
    let same : suc j ≡ 1 + j = omega arith in
    ap (λ (rs : List (Option ℕ)). slice_index_or rs (suc j) None) (given_append (known_from 1 (drop 1 b.regs)) (known_csrs csr_addresses b.csrs) no_registers ∙ given_csrs csr_addresses b.csrs (with_given (known_from 1 (drop 1 b.regs)) no_registers))
    ∙ ap (λ (i : ℕ). slice_index_or (with_given (known_from 1 (drop 1 b.regs)) no_registers) i None) same
    ∙ given_at (drop 1 b.regs) 1 j no_registers (omega (arith, size)) refl (omega (arith, size, small))
    ∙ ap (λ (i : ℕ). or_else (slice_index_or (drop 1 b.regs) j None) (slice_index_or no_registers i None)) (sym same)
    ∙ ap (or_else (slice_index_or (drop 1 b.regs) j None)) (none_at 31 j)
    ∙ or_none (slice_index_or (drop 1 b.regs) j None)
    ∙ at_drop b.regs j
    ∙ sym (ap (λ (c : Bool). if c then (if eqb (suc j) 0 then None else slice_index_or b.regs (suc j) None) else lazy_value_at b.csrs (csr_address (suc j))) (lt-ltb (suc j) 32 small)
    ∙ ap (λ (c : Bool). if c then None else slice_index_or b.regs (suc j) None) (ne_eqb (suc j) 0 (λ e. absurd (omega (arith, e)))))

pub first_size : (b : Bare) → length (with_given (places_in b) no_registers) ≡ 32
first_size b = size_given (places_in b) no_registers

pub first_zero : (b : Bare) → slice_index_or (with_given (places_in b) no_registers) 0 None ≡ Some 0
first_zero b =
    ap (λ (rs : List (Option ℕ)). slice_index_or rs 0 None) (given_append (known_from 1 (drop 1 b.regs)) (known_csrs csr_addresses b.csrs) no_registers ∙ given_csrs csr_addresses b.csrs (with_given (known_from 1 (drop 1 b.regs)) no_registers))
    ∙ given_before (drop 1 b.regs) 1 0 no_registers (omega arith)

-- ---- what the template gives

-- keys that ascend
abbrev AreAscending : ℕ → List (ℕ × ℕ) → Type 0
AreAscending from [] = Unit {0}
AreAscending from (e ∷ es) = (from ≤ e.0) × AreAscending (e.0 + 1) es

less_ascending : (from more : ℕ) (es : List (ℕ × ℕ)) → from ≤ more → AreAscending more es → AreAscending from es
less_ascending from more [] le are = tt
less_ascending from more (e ∷ es) le are = ((let h = are.0 in omega (arith, h, le)), are.1)

places_ascend : (from : ℕ) (es : List (ℕ × ℕ)) → ArePlaces from es → AreAscending from es
places_ascend from [] are = tt
places_ascend from (e ∷ es) are = (are.0, places_ascend (e.0 + 1) es are.3)

words_ascend : (ram : List Region) (from : ℕ) (es : List (ℕ × ℕ)) → AreStartWords ram from es → AreAscending from es
words_ascend ram from [] are = tt
words_ascend ram from (e ∷ es) are = (are.0, less_ascending (e.0 + 1) (e.0 + 4) es (omega arith) (words_ascend ram (e.0 + 4) es are.4))

found_from : (from : ℕ) (es : List (ℕ × ℕ)) (key v : ℕ) → AreAscending from es → lookup es key ≡ Some v → from ≤ key
found_from from [] key v are h = absurd (cc h)
found_from from (e ∷ es) key v are h = go (eqb e.0 key) refl h (found_from (e.0 + 1) es key v are.1)
  where
    go : (b : Bool) → eqb e.0 key ≡ b → (if b then Some e.1 else lookup es key) ≡ Some v → (lookup es key ≡ Some v → e.0 + 1 ≤ key) → from ≤ key
    go true is h rest = let same = eqb-true e.0 key is in let low = are.0 in omega (arith, same, low)
    go false is h rest = let more = rest h in let low = are.0 in omega (arith, more, low)

all_given : (test : ℕ → Option ℕ) (from : ℕ) (es : List (ℕ × ℕ)) → AreAscending from es → ((key v : ℕ) → lookup es key ≡ Some v → test key ≡ Some v) → list_all (λ e. is_value (test e.0) e.1) es ≡ true
all_given test from [] are has = refl
all_given test from (e ∷ es) are has =
    let here : test e.0 ≡ Some e.1 = has e.0 e.1 (ap (λ (b : Bool). if b then Some e.1 else lookup es e.0) (eq-eqb e.0 e.0 refl)) in
    and_from (is_value (test e.0) e.1) _ (ap (λ (o : Option ℕ). is_value o e.1) here ∙ eq-eqb e.1 e.1 refl)
    (all_given test (e.0 + 1) es are.1 (λ key v h.
    let low = found_from (e.0 + 1) es key v are.1 h in
    has key v (ap (λ (b : Bool). if b then Some e.1 else lookup es key) (ne_eqb e.0 key (λ same. absurd (omega (arith, same, low)))) ∙ h)))

pub places_given : (test : ℕ → Option ℕ) (es : List (ℕ × ℕ)) → ArePlaces 0 es → ((key v : ℕ) → lookup es key ≡ Some v → test key ≡ Some v) → list_all (λ e. is_value (test e.0) e.1) es ≡ true
places_given test es are has = all_given test 0 es (places_ascend 0 es are) has

pub words_given : (ram : List Region) (test : ℕ → Option ℕ) (es : List (ℕ × ℕ)) → AreStartWords ram 0 es → ((key v : ℕ) → lookup es key ≡ Some v → test key ≡ Some v) → list_all (λ e. is_value (test e.0) e.1) es ≡ true
words_given ram test es are has = all_given test 0 es (words_ascend ram 0 es are) has

pub word_aligned : (ram : List Region) (from : ℕ) (es : List (ℕ × ℕ)) (key v : ℕ) → AreStartWords ram from es → lookup es key ≡ Some v → key % 4 ≡ 0
word_aligned ram from [] key v are h = absurd (cc h)
word_aligned ram from (e ∷ es) key v are h = go (eqb e.0 key) refl h (word_aligned ram (e.0 + 4) es key v are.4)
  where
    go : (b : Bool) → eqb e.0 key ≡ b → (if b then Some e.1 else lookup es key) ≡ Some v → (lookup es key ≡ Some v → key % 4 ≡ 0) → key % 4 ≡ 0
    go true is h rest = subst (λ (n : ℕ). n % 4 ≡ 0) (eqb-true e.0 key is) are.1
    go false is h rest = rest h

same_level : (p : Priv) → is_same_level p p ≡ true
same_level U = refl
same_level S = refl
same_level M = refl

-- a state with the fixed parts of another one, and all its places
pub starts_so : (ram : List Region) (k : ℕ) (told s : HartState) → fixed_of_state ram k s ≡ fixed_of_state ram k told → list_all (gives s.places) told.places ≡ true → starts_as told s ≡ true
starts_so ram k told s fixed places =
    let same_number : (n m : ℕ) → n ≡ m → (n == m) ≡ true = λ n m h. eq-eqb n m h in
    and_from (s.pc == told.pc) _ (same_number s.pc told.pc (ap (λ (f : Fixed). f.pc) fixed))
    (and_from (is_same_level s.privilege told.privilege) _ (ap (λ (p : Priv). is_same_level p told.privilege) (ap (λ (f : Fixed). f.privilege) fixed) ∙ same_level told.privilege)
    (and_from (s.mstatus == told.mstatus) _ (same_number s.mstatus told.mstatus (ap (λ (f : Fixed). f.mstatus) fixed))
    (and_from (s.medeleg == told.medeleg) _ (same_number s.medeleg told.medeleg (ap (λ (f : Fixed). f.medeleg) fixed))
    (and_from (s.satp == told.satp) _ (same_number s.satp told.satp (ap (λ (f : Fixed). f.satp) fixed)) places))))
