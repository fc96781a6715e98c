-- How a test begins.
use Rattle.std.proofs.Common.{◌≡◌, ◌≢◌, ℕ, ◌+◌, ◌*◌, ◌/◌, ◌%◌, ◌<◌, ◌≤◌, Bool, true, false, eqb, List, [], ◌∷◌, ◌++◌, length, get_or, Option, Some, None, refl, sym, ap, ◌∙◌, subst, inl, inr, arith, if◌then◌else◌}
use Rattle.std.specs.Prelude.{replicate}
use Rattle.std.specs.Option.{option_or}
use Rattle.std.proofs.Math.Path.{fun_ext}
use Rattle.std.proofs.lemmas.Bool.{cases_Bool, cases_eq, eqb-true, eq-eqb, ne_eqb}
use Rattle.std.proofs.lemmas.List.{append-nil, append_assoc}
use Rattle.rv_mem.specs.declared.words.Seen.{Seen}
use Rattle.rv_mem.specs.declared.words.Seen.TheVariants.{Known as KnownWord, Untouched, Vacant}
use Rattle.rv_mem.specs.Part.{valued}
use Rattle.rv_mem.specs.Ram.{in_ram}
use Rattle.rv_mem.specs.Seen.{is_there}
use Rattle.rv_hart.specs.declared.record.Record.{Record}
use Rattle.tpl_ast.specs.declared.template.Region.{Region}
use Rattle.tpl_ast.specs.declared.template.Template.{Template}
use Rattle.tpl_admit.specs.Starts.{fixed_in as fixed_given, lookup}
use Rattle.tpl_ast.specs.States.{AreStartWords, is_in_ram}
use Rattle.part_machine.specs.Whole.{Bare, Whole, given, IsNew, no_hart, hart_of, word_given, fixed_in}
use Rattle.part_machine.proofs.Given.{given_more}
use Rattle.part_told.specs.Words.{AreListed}
use Rattle.part_state.specs.Meaning.{value_of_key}
use Rattle.part_state.specs.Beginning.{IsHartOf, AreHartsOf, words_given, CanGive, IsBegunFrom, IsBegun, ends_of, numbered, start_in}

-- the words of a template, for RAM as pairs of ends
pub listed : (ram : List Region) (ends : List (ℕ × ℕ)) → ((n : ℕ) → in_ram ends n ≡ is_in_ram ram (n * 4)) → (from : ℕ) (es : List (ℕ × ℕ)) → AreStartWords ram from es → AreListed ends from es
listed ram ends same from [] are = tt
listed ram ends same from (e ∷ es) are =
    let whole : e.0 / 4 * 4 ≡ e.0 = let aligned : e.0 % 4 ≡ 0 = are.1 in omega (arith, aligned) in
    (are.0, are.1, same (e.0 / 4) ∙ ap (is_in_ram ram) whole ∙ are.2, are.3, listed ram ends same (e.0 + 4) es are.4)

-- from an address on, no word of RAM has a value
abbrev pub AreFresh : List (ℕ × ℕ) → ℕ → Whole → Type 0
AreFresh ram from w = (n : ℕ) → from ≤ n * 4 → in_ram ram n ≡ true → w.memory n ≡ Untouched

-- so words that are listed from there on can be given
pub can_give : (ram : List (ℕ × ℕ)) (from : ℕ) (es : List (ℕ × ℕ)) (w : Whole) → AreListed ram from es → AreFresh ram from w → CanGive es w
can_give ram from [] w are fresh = tt
can_give ram from (e ∷ es) w are fresh =
    let aligned : e.0 % 4 ≡ 0 = are.1 in
    let above : from ≤ e.0 / 4 * 4 = omega (arith, are.0, aligned) in
    (aligned, fresh (e.0 / 4) above are.2, can_give ram (e.0 + 4) es (word_given e.0 e.1 w) are.4 later)
  where
    later : AreFresh ram (e.0 + 4) (word_given e.0 e.1 w)
    later n high there =
        let other : n ≢ e.0 / 4 = λ same. absurd (omega (arith, high, same)) in
        rw (ne_eqb n (e.0 / 4) other) (fresh n (omega (arith, high, are.0)) there)

pub fresh_new : (harts : List Bare) (ram : List (ℕ × ℕ)) (names : ℕ) (w : Whole) → IsNew harts ram names w → AreFresh ram 0 w
fresh_new harts ram names w new n low there = new.memory n ∙ ap (λ (b : Bool). if b then Untouched else Vacant) there

-- the value of a word, or else what was seen of it
abbrev seen_or : Option ℕ → Seen → Seen
seen_or None s = s
seen_or (Some v) s = KnownWord v

-- what has no key from a number on has no value
pub found_low : (ram : List (ℕ × ℕ)) (from : ℕ) (es : List (ℕ × ℕ)) (a : ℕ) → AreListed ram from es → a < from → lookup es a ≡ None
found_low ram from [] a are low = refl
found_low ram from (e ∷ es) a are low =
    let other : e.0 ≢ a = λ same. absurd (omega (arith, same, are.0, low)) in
    rw (ne_eqb e.0 a other) (found_low ram (e.0 + 4) es a are.4 (omega (arith, are.0, low)))

memory_given : (ram : List (ℕ × ℕ)) (from : ℕ) (es : List (ℕ × ℕ)) (w : Whole) (n : ℕ) → AreListed ram from es → (words_given es w).memory n ≡ seen_or (lookup es (n * 4)) (w.memory n)
memory_given ram from [] w n are = refl
memory_given ram from (e ∷ es) w n are =
    let aligned : e.0 % 4 ≡ 0 = are.1 in
    memory_given ram (e.0 + 4) es (word_given e.0 e.1 w) n are.4 ∙ elim (cases_eq n (e.0 / 4)) [
      | inl same ↦
          let here : e.0 ≡ n * 4 = omega (arith, same, aligned) in
          rw (eq-eqb n (e.0 / 4) same, eq-eqb e.0 (n * 4) here, found_low ram (e.0 + 4) es (n * 4) are.4 (omega (arith, here))) refl
      | inr apart ↦
          let other : e.0 ≢ n * 4 = λ here. apart (omega (arith, here)) in
          rw (ne_eqb n (e.0 / 4) apart, ne_eqb e.0 (n * 4) other) refl
    ]

-- the words of a start are those that it had, and these
words_more : (ram : List (ℕ × ℕ)) (from : ℕ) (es : List (ℕ × ℕ)) (w : Whole) (n : ℕ) → AreListed ram from es → given (words_given es w).words n ≡ option_or (lookup es (n * 4)) (given w.words n)
words_more ram from [] w n are = refl
words_more ram from (e ∷ es) w n are =
    let aligned : e.0 % 4 ≡ 0 = are.1 in
    words_more ram (e.0 + 4) es (word_given e.0 e.1 w) n are.4 ∙ ap (option_or (lookup es (n * 4))) (given_more w.words (e.0 / 4) e.1 n) ∙ elim (cases_eq n (e.0 / 4)) [
      | inl same ↦
          let here : e.0 ≡ n * 4 = omega (arith, same, aligned) in
          rw (eq-eqb n (e.0 / 4) same, eq-eqb e.0 (n * 4) here, found_low ram (e.0 + 4) es (n * 4) are.4 (omega (arith, here))) refl
      | inr apart ↦
          let other : e.0 ≢ n * 4 = λ here. apart (omega (arith, here)) in
          rw (ne_eqb n (e.0 / 4) apart, ne_eqb e.0 (n * 4) other) refl
    ]

-- a word that is given lies in RAM
found_there : (ram : List (ℕ × ℕ)) (from : ℕ) (es : List (ℕ × ℕ)) (n v : ℕ) → AreListed ram from es → lookup es (n * 4) ≡ Some v → in_ram ram n ≡ true
found_there ram from [] n v are e = absurd (cc e)
found_there ram from (x ∷ es) n v are e = elim (cases_Bool (eqb x.0 (n * 4))) [
  | inl t ↦
      let same : x.0 ≡ n * 4 = eqb-true x.0 (n * 4) t in
      let number : x.0 / 4 ≡ n = omega (arith, same) in
      subst (λ (i : ℕ). in_ram ram i ≡ true) number are.2
  | inr f ↦ found_there ram (x.0 + 4) es n v are.4 (rw f at e)
]

-- what giving words leaves alone
pub record IsBeside (old new : Whole) : Type 0 where
  pub ram : new.ram ≡ old.ram
  pub first : new.first ≡ old.first
  pub harts : new.harts ≡ old.harts
  pub traces : new.traces ≡ old.traces
  pub names : new.names ≡ old.names
  pub choices : new.choices ≡ old.choices
  pub dropped : new.dropped ≡ old.dropped

beside : (es : List (ℕ × ℕ)) (w : Whole) → IsBeside w (words_given es w)
beside [] w = record { ram = refl; first = refl; harts = refl; traces = refl; names = refl; choices = refl; dropped = refl }
beside (e ∷ es) w = let b : IsBeside (word_given e.0 e.1 w) (words_given es (word_given e.0 e.1 w)) = beside es (word_given e.0 e.1 w) in
    record { ram = b.ram; first = b.first; harts = b.harts; traces = b.traces; names = b.names; choices = b.choices; dropped = b.dropped }

given_seen : (o : Option ℕ) (there : Bool) → ((v : ℕ) → o ≡ Some v → there ≡ true) → seen_or o (if there then Untouched else Vacant) ≡ (if there then valued o else Vacant)
given_seen None true inside = refl
given_seen None false inside = refl
given_seen (Some v) true inside = refl
given_seen (Some v) false inside = let no : false ≡ true = inside v refl in absurd (cc no)

or_none : (o : Option ℕ) → option_or o None ≡ o
or_none None = refl
or_none (Some v) = refl

is_there_given : (o : Option ℕ) (there : Bool) → is_there (if there then valued o else Vacant) ≡ there
is_there_given None true = refl
is_there_given None false = refl
is_there_given (Some v) true = refl
is_there_given (Some v) false = refl

-- the words that were given stand behind those before them
words_behind : (es : List (ℕ × ℕ)) (w : Whole) → (words_given es w).words ≡ w.words ++ numbered es
words_behind [] w = sym (append-nil w.words)
words_behind (e ∷ es) w = words_behind es (word_given e.0 e.1 w) ∙ append_assoc w.words ((e.0 / 4, e.1) ∷ []) (numbered es)

-- words given to harts that did nothing are a beginning of the template that says so
pub begun : (t : Template) (harts : List Bare) (ends : List (ℕ × ℕ)) (w : Whole) → ends ≡ ends_of t.ram → ((n : ℕ) → in_ram ends n ≡ is_in_ram t.ram (n * 4)) → AreHartsOf t.harts harts → AreStartWords t.ram 0 t.words
    → IsBegunFrom harts ends (length t.names) t.words w → IsBegun t w
begun t harts ends w are_ends same are words b = subst (IsBegun t) (sym b.is) (record {
  count = ap (λ (hs : List Bare). length hs) now ∙ are.count;
  first = side.first ∙ b.new.first ∙ sym now;
  fixed = λ k l. fixed k (are.each k l);
  places = λ k key l. ap (λ (q : Bare). value_of_key q key) (at k) ∙ (are.each k l).places key;
  ends = side.ram ∙ b.new.ram_is ∙ are_ends;
  ram = λ n. ap (λ (r : List (ℕ × ℕ)). in_ram r n) (side.ram ∙ b.new.ram_is) ∙ same n;
  listed = words_behind t.words b.first ∙ ap (λ (es : List (ℕ × ℕ)). es ++ numbered t.words) b.new.words;
  words = λ n. words_more ends 0 t.words b.first n are_listed ∙ ap (λ (es : List (ℕ × ℕ)). option_or (lookup t.words (n * 4)) (given es n)) b.new.words ∙ or_none (lookup t.words (n * 4));
  memory = memory;
  traces = side.traces ∙ b.new.traces ∙ ap (λ (n : ℕ). replicate n no_records) are.count;
  names = side.names ∙ b.new.names_are;
  choices = side.choices ∙ b.new.choices;
  dropped = side.dropped ∙ b.new.dropped;
})
  where
    no_records : List Record
    no_records = []

    are_listed : AreListed ends 0 t.words
    are_listed = listed t.ram ends same 0 t.words words

    side : IsBeside b.first (words_given t.words b.first)
    side = beside t.words b.first

    now : (words_given t.words b.first).harts ≡ harts
    now = side.harts ∙ b.new.now

    at : (k : ℕ) → hart_of k (words_given t.words b.first) ≡ get_or harts k no_hart
    at k = ap (λ (hs : List Bare). get_or hs k no_hart) now

    memory : (n : ℕ) → (words_given t.words b.first).memory n ≡ (if is_in_ram t.ram (n * 4) then valued (lookup t.words (n * 4)) else Vacant)
    memory n =
        memory_given ends 0 t.words b.first n are_listed
        ∙ ap (seen_or (lookup t.words (n * 4))) (b.new.memory n ∙ ap (λ (q : Bool). if q then Untouched else Vacant) (same n))
        ∙ given_seen (lookup t.words (n * 4)) (is_in_ram t.ram (n * 4)) (λ v e. sym (same n) ∙ found_there ends 0 t.words n v are_listed e)

    ram_is : (n : ℕ) → is_there ((words_given t.words b.first).memory n) ≡ is_in_ram t.ram (n * 4)
    ram_is n = ap is_there (memory n) ∙ is_there_given (lookup t.words (n * 4)) (is_in_ram t.ram (n * 4))

    fixed : (k : ℕ) → IsHartOf k (start_in t.harts k) (get_or harts k no_hart)
        → fixed_in (hart_of k (words_given t.words b.first)) (words_given t.words b.first).memory ≡ fixed_given t.ram k (start_in t.harts k)
    fixed k h =
        let pc : (hart_of k (words_given t.words b.first)).pc ≡ (start_in t.harts k).pc = ap (λ (q : Bare). q.pc) (at k) ∙ h.pc in
        let privilege : (hart_of k (words_given t.words b.first)).privilege ≡ (start_in t.harts k).privilege = ap (λ (q : Bare). q.privilege) (at k) ∙ h.privilege in
        let mstatus : (hart_of k (words_given t.words b.first)).csrs.mstatus ≡ (start_in t.harts k).mstatus = ap (λ (q : Bare). q.csrs.mstatus) (at k) ∙ h.mstatus in
        let medeleg : (hart_of k (words_given t.words b.first)).csrs.medeleg ≡ (start_in t.harts k).medeleg = ap (λ (q : Bare). q.csrs.medeleg) (at k) ∙ h.medeleg in
        let satp : (hart_of k (words_given t.words b.first)).csrs.satp ≡ (start_in t.harts k).satp = ap (λ (q : Bare). q.csrs.satp) (at k) ∙ h.satp in
        let number : (hart_of k (words_given t.words b.first)).csrs.hart ≡ k = ap (λ (q : Bare). q.csrs.hart) (at k) ∙ h.number in
        let ram : (λ n. is_there ((words_given t.words b.first).memory n)) ≡ (λ n. is_in_ram t.ram (n * 4)) = fun_ext ram_is in
        λ i. record { pc = pc i; privilege = privilege i; mstatus = mstatus i; medeleg = medeleg i; satp = satp i; number = number i; ram = ram i }
