-- What the sets of a turn's memory say of one address.
use Rattle.std.proofs.Common.{◌≡◌, ℕ, ◌+◌, ◌*◌, ◌/◌, ◌%◌, ◌^◌, ◌<◌, ◌≤◌, Bool, true, false, not, ◌&&◌, ◌||◌, nat_eq, List, refl, sym, ap, ◌∙◌, arith}
use Rattle.std.proofs.lemmas.Bool.{eqb-true, lt-ltb}
use Rattle.std.proofs.lemmas.Bool.Decides.{nat_tests}
use Rattle.std.specs.List.{list_any}
use Rattle.dom_set.specs.Elements.{is_in}
use Rattle.rv_script.specs.declared.access.Role.TheVariants.{Load, Store}
use Rattle.rv_script.specs.declared.place.Place.TheVariants.{Word}
use Rattle.rv_script.specs.Bytes.{word_address, any_byte}
use Rattle.rv_script.specs.Folds.{Entry}
use Rattle.foot_map.specs.Races.{is_blocked}
use Rattle.rv_mem.specs.declared.words.Seen.{Seen}
use Rattle.rv_mem.specs.declared.words.Seen.TheVariants.{Known, Untouched, Vacant}
use Rattle.rv_mem.specs.Seen.{is_there, is_known, is_untouched}
use Rattle.sv_walk.specs.Translation.{is_in_ram}
use Rattle.data_bytes.specs.declared.memory.DataBytes.{DataBytes}
use Rattle.data_bytes.specs.Starts.{IsSize}
use Rattle.rv_mem.specs.Frames.{in_frames}
use Rattle.leaf_link.specs.Turns.{Turn}
use Rattle.leaf_link.specs.Cases.{is_some_word}
use Rattle.leaf_link.specs.Reaching.{not_code}
use Rattle.data_goals.specs.declared.accesses.Accesses.{Accesses}
use Rattle.data_goals.specs.Grounds.{HasAccesses}
use Rattle.data_goals.proofs.Bytes.{any_or, any_same, in_word}

pub or_true : (b : Bool) → (b || true) ≡ true
or_true true = refl
or_true false = refl

-- the word of an address has a value
abbrev pub has_value : Turn → ℕ → Bool
has_value t v = is_some_word (t.known (Word (word_address v)))

-- a load or store may start the word of an address
abbrev pub may_begin : Turn → ℕ → ℕ → Bool
may_begin t pa v = in_frames t.pool (word_address v) && not_code t pa (Word (word_address v))

-- where the fetched word is that of the address, both have a value or neither has
code_test : (t : Turn) (pa a : ℕ) (value test : Bool) → is_some_word (t.known (Word a)) ≡ value → nat_eq pa a ≡ test → not_code t pa (Word a) ≡ (value || not test)
code_test t pa a value true h e = ap (λ (b : Bool). b || not (nat_eq pa a)) (ap (λ (n : ℕ). is_some_word (t.known (Word n))) (eqb-true pa a e) ∙ h) ∙ ap (λ (b : Bool). value || not b) e
code_test t pa a value false h e = ap (λ (b : Bool). is_some_word (t.known (Word pa)) || not b) e ∙ or_true _ ∙ sym (or_true value)

-- a word that has a value is not the new one that is fetched
pub value_code : (t : Turn) (pa v : ℕ) → has_value t v ≡ true → not_code t pa (Word (word_address v)) ≡ true
value_code t pa v h = code_test t pa (word_address v) true _ h refl

begin_is : (t : Turn) (pa : ℕ) → pa % 4 ≡ 0 → (v : ℕ) → has_value t v ≡ false → (in_frames t.pool v && not (nat_eq (v / 4) (pa / 4))) ≡ may_begin t pa v
begin_is t pa aligned v h =
    let frame : v / 4096 ≡ word_address v / 4096 = omega arith in
    let word : nat_eq (v / 4) (pa / 4) ≡ nat_eq pa (word_address v) = grind (arith, nat_tests) in
    ap (λ (n : ℕ). list_any (λ frame. nat_eq n (frame / 4096)) t.pool && not (nat_eq (v / 4) (pa / 4))) frame
    ∙ ap (λ (b : Bool). in_frames t.pool (word_address v) && not b) word
    ∙ ap (λ (b : Bool). in_frames t.pool (word_address v) && b) (sym (code_test t pa (word_address v) false _ h refl))

there_since : (s : Seen) → is_known s ≡ true → is_there s ≡ true
there_since (Known w) h = refl
there_since Untouched h = absurd (cc)
there_since Vacant h = absurd (cc)

untouched_is : (s : Seen) (a b : Bool) → (is_known s ≡ false → a ≡ b) → (is_untouched s && a) ≡ ((is_there s && not (is_known s)) && b)
untouched_is (Known w) a b h = refl
untouched_is Untouched a b h = h refl
untouched_is Vacant a b h = refl

-- it may be data
abbrev pub may_be_data : DataBytes → ℕ → Bool
may_be_data bytes v = is_in bytes.known v || is_in bytes.fresh v

module _ (t : Turn) (walk : List Entry) (pa : ℕ) (a : Accesses) (has : HasAccesses t walk pa a) where
  value_is : (v : ℕ) → is_known (has.mem (v / 4)) ≡ has_value t v
  value_is v = (let word : v / 4 * 4 ≡ word_address v = omega arith in sym (has.known (v / 4)) ∙ ap (λ (a : ℕ). is_some_word (t.known (Word a))) word)

  ram_is : (v : ℕ) → v < 2 ^ 32 → is_in_ram t.fixed.ram v ≡ is_there (has.mem (v / 4))
  ram_is v small = ap (λ (b : Bool). b && t.fixed.ram (v / 4)) (lt-ltb v (2 ^ 32) small) ∙ has.ram (v / 4)

  pub known_in : (v : ℕ) → v < 2 ^ 32 → is_in a.bytes.known v ≡ has_value t v
  known_in v small = has.are.known v small ∙ value_is v

  pub fresh_in : (v : ℕ) → v < 2 ^ 32 → is_in a.bytes.fresh v ≡ ((is_in_ram t.fixed.ram v && not (has_value t v)) && may_begin t pa v)
  fresh_in v small =
      has.are.fresh v small
      ∙ untouched_is (has.mem (v / 4)) _ (may_begin t pa v) (λ none. begin_is t pa has.aligned v (sym (value_is v) ∙ none))
      ∙ ap (λ (b : Bool). (is_there (has.mem (v / 4)) && not b) && may_begin t pa v) (value_is v)
      ∙ ap (λ (b : Bool). (b && not (has_value t v)) && may_begin t pa v) (sym (ram_is v small))

  -- what has a value is in RAM
  pub value_there : (v : ℕ) → v < 2 ^ 32 → has_value t v ≡ true → is_in_ram t.fixed.ram v ≡ true
  value_there v small h = ram_is v small ∙ there_since (has.mem (v / 4)) (value_is v ∙ h)

  -- each byte of an access may be data where its first one may
  each_byte : (size v b : ℕ) → IsSize size → v % size ≡ 0 → v < 2 ^ 32 → may_be_data a.bytes v ≡ true → v ≤ b → b < v + size → (b < 2 ^ 32) × (may_be_data a.bytes b ≡ true)
  each_byte size v b is m small may low high =
      let word : b / 4 ≡ v / 4 = in_word size v b is m low high in
      let frame : b / 4096 ≡ v / 4096 = omega (arith, word) in
      let below : b < 2 ^ 32 = omega (arith, word) in
      let known : is_in a.bytes.known b ≡ is_in a.bytes.known v = has.are.known b below ∙ ap (λ (n : ℕ). is_known (has.mem n)) word ∙ sym (has.are.known v small) in
      let fresh : is_in a.bytes.fresh b ≡ is_in a.bytes.fresh v =
      has.are.fresh b below
      ∙ ap (λ (n : ℕ). is_untouched (has.mem n) && (in_frames t.pool b && not (nat_eq n (pa / 4)))) word
      ∙ ap (λ (n : ℕ). is_untouched (has.mem (v / 4)) && (list_any (λ frame. nat_eq n (frame / 4096)) t.pool && not (nat_eq (v / 4) (pa / 4)))) frame
      ∙ sym (has.are.fresh v small) in
      (below, ap (λ (k : Bool). k || is_in a.bytes.fresh b) known ∙ ap (λ (k : Bool). is_in a.bytes.known v || k) fresh ∙ may)

  -- no byte is barred where none is blocked
  pub loads_barred : (size v : ℕ) → IsSize size → v % size ≡ 0 → v < 2 ^ 32 → may_be_data a.bytes v ≡ true
      → any_byte size v (is_in a.bytes.not_loaded) ≡ any_byte size v (is_blocked t.feet t.fixed.number Load)
  loads_barred size v is m small may = any_same size v _ _ (λ b low high. let e = each_byte size v b is m small may low high in has.are.loaded b e.0 e.1)

  -- and none is fetched
  pub stores_barred : (size v : ℕ) → IsSize size → v % size ≡ 0 → v < 2 ^ 32 → may_be_data a.bytes v ≡ true
      → any_byte size v (is_in a.bytes.not_stored) ≡ (any_byte size v (is_blocked t.feet t.fixed.number Store) || any_byte size v (λ b. nat_eq (b / 4) (pa / 4)))
  stores_barred size v is m small may =
      any_same size v _ _ (λ b low high. let e = each_byte size v b is m small may low high in has.are.stored b e.0 e.1)
      ∙ any_or size v (is_blocked t.feet t.fixed.number Store) (λ b. nat_eq (b / 4) (pa / 4))
