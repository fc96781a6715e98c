-- Late initialisation: a value for a place that isn't known keeps what was done.
use Rattle.std.proofs.Common.{◌≡◌, ◌≢◌, ℕ, ◌/◌, ◌<◌, Bool, true, false, ◌||◌, eqb, List, [], Option, Some, None, refl, sym, ap, ◌∙◌, subst, inl, inr}
use Rattle.std.specs.Option.{is_some}
use Rattle.std.proofs.Math.Path.{fun_ext}
use Rattle.std.proofs.lemmas.Bool.{cases_Bool, cases_eq, eqb-true, eq-eqb}
use Rattle.rv_script.specs.declared.access.Access.{Access}
use Rattle.rv_script.specs.Lists.{HasItem}
use Rattle.rv_hart.specs.declared.record.Record.{Record}
use Rattle.rv_hart.specs.Whole.{WholeHart}
use Rattle.tpl_admit.specs.Races.{footprint_of, footprints_of}
use Rattle.tpl_admit.specs.System.{System, replaced}
use Rattle.tpl_admit.specs.Validity.{in_turn}
use Rattle.tpl_admit.proofs.Memory.{in_turn_none, in_turn_agree, in_turn_apart}
use Rattle.tpl_admit.proofs.Systems.{at_same, at_other}
use Rattle.part_laws.specs.Partial.{Held, Partial, Begins, End, Runs, is_held, IsReached, IsAlone, IsPartialTest, with_value, with_place, place_started, word_started}
use Rattle.part_laws.specs.Laws.{IsFresh, FreshLaw, LatePlaceLaw, LateWordLaw}
use Rattle.part_laws.proofs.Runs.{runs_given, runs_words, and_keys, runs_keys}

-- ---- nothing was done yet

free_of_none : (did : ℕ → List Access) → ((k : ℕ) → did k ≡ []) → (k : ℕ) (x : Access) → HasItem (did k) x → ⊥
free_of_none did none k x h = let no : HasItem [] x = subst (λ (xs : List Access). HasItem xs x) (none k) h in no

no_footprint : (p : Partial) → IsFresh p → (k : ℕ) → footprints_of p.records k ≡ []
no_footprint p fresh k = ap (λ (rs : List Record). footprint_of rs) (fresh.records k)

fresh_alone : (p : Partial) → IsFresh p → (sys : System) → Begins p sys → (k : ℕ) → k < p.count → IsAlone p sys k
fresh_alone p fresh sys begins k l =
    let end : End = record { hart = sys.harts k; memory = sys.memory; knows = is_held (p.start k) } in
    record {
      end = end;
      runs = subst (λ (rs : List Record). Runs p.words (is_held (p.start k)) (sys.harts k) sys.memory rs end) (sym (fresh.records k)) (refl, refl, refl);
      reached = subst (λ (h : Held). IsReached (sys.harts k) end h) (sym (fresh.harts k)) (record {
        fixed = begins.fixed k l;
        knows = λ key. refl;
        values = λ key v e. begins.places k key v l e;
        others = λ key e. refl;
      });
    }

pub fresh_test : FreshLaw
fresh_test p fresh = record {
  alone = fresh_alone p fresh;
  race_free = record {
    harts = λ j k ne x y hx hy meet. absurd (free_of_none (footprints_of p.records) (no_footprint p fresh) j x hx);
    code = λ j k x y hx hy code meet. absurd (free_of_none (footprints_of p.records) (no_footprint p fresh) j x hx);
  };
  memory = λ sys begins n v e.
      ap (λ (m : ℕ → ℕ). m n) (in_turn_agree p.count (λ k. []) (footprints_of p.records) sys.memory (λ j l. no_footprint p fresh j) ∙ in_turn_none p.count sys.memory)
      ∙ begins.words n v (sym (fresh.memory n) ∙ e);
  known = λ n. ap (λ (o : Option ℕ). is_some o) (fresh.memory n);
  given = λ k key e. subst (λ (h : Held). is_held h key ≡ true) (sym (fresh.harts k)) e;
  past = λ k g. fresh.records k;
}

-- ---- one value more

value_here : (key v : ℕ) (given : ℕ → Option ℕ) (other : ℕ) → eqb other key ≡ true → with_value key v given other ≡ Some v
value_here key v given other e = rw e refl

value_there : (key v : ℕ) (given : ℕ → Option ℕ) (other : ℕ) → eqb other key ≡ false → with_value key v given other ≡ given other
value_there key v given other e = rw e refl

-- what was given stays, where the key had no value
value_kept : (key v : ℕ) (given : ℕ → Option ℕ) → given key ≡ None → (other w : ℕ) → given other ≡ Some w → with_value key v given other ≡ Some w
value_kept key v given none other w e = elim (cases_Bool (eqb other key)) [
  | inl t ↦ let no : given other ≡ None = ap given (eqb-true other key t) ∙ none in let no' : Some w ≡ None = sym e ∙ no in absurd (cc no')
  | inr f ↦ value_there key v given other f ∙ e
]

-- what has a value now is the new key, or had one before
value_is : (key v : ℕ) (given : ℕ → Option ℕ) (other : ℕ) → is_some (with_value key v given other) ≡ (eqb other key || is_some (given other))
value_is key v given other = elim (cases_Bool (eqb other key)) [ inl t ↦ rw t refl | inr f ↦ rw f refl ]

none_before : (o : Option ℕ) → (is_some o ≡ true → ⊥) → o ≡ None
none_before None never = refl
none_before (Some v) never = absurd (never refl)

not_known : (o q : Option ℕ) → is_some o ≡ is_some q → o ≡ None → q ≡ None
not_known o None e n = refl
not_known o (Some v) e n = let no : is_some {T = ℕ} None ≡ true = sym (ap (λ (x : Option ℕ). is_some x) n) ∙ e in absurd (cc no)

-- what was not known of a hart was not given to it
pub not_given : (p : Partial) (k key : ℕ) → IsPartialTest p → (p.harts k).places key ≡ None → (p.start k).places key ≡ None
not_given p k key test none = none_before ((p.start k).places key) (λ some.
    let known : is_some ((p.harts k).places key) ≡ true = test.given k key some in
    let no : is_some {T = ℕ} None ≡ true = sym (ap (λ (x : Option ℕ). is_some x) none) ∙ known in absurd (cc no))

-- ---- a register or lazy CSR

-- at hart k, and at another one
abbrev pub EachHart : ℕ → (ℕ → Type 0) → Type 0
EachHart k P = P k → ((j : ℕ) → j ≢ k → P j) → (j : ℕ) → P j

pub each_hart : (k : ℕ) (P : ℕ → Type 0) → EachHart k P
each_hart k P here there j = elim (cases_eq j k) [ inl e ↦ subst P (sym e) here | inr ne ↦ there j ne ]

place_begins : (p : Partial) (k key v : ℕ) → IsPartialTest p → (p.harts k).places key ≡ None → (sys : System) → Begins (place_started k key v p) sys → Begins p sys
place_begins p k key v test none sys begins =
    let new : Held = with_place key v (p.start k) in
    record {
      fixed = each_hart k (λ j. j < p.count → (sys.harts j).fixed ≡ (p.start j).fixed)
          (λ l. begins.fixed k l ∙ ap (λ (h : Held). h.fixed) (at_same k new p.start))
          (λ j ne l. begins.fixed j l ∙ ap (λ (h : Held). h.fixed) (at_other k new p.start j ne));
      places = each_hart k (λ j. (other w : ℕ) → j < p.count → (p.start j).places other ≡ Some w → (sys.harts j).file other ≡ w)
          (λ other w l e. begins.places k other w l
          (ap (λ (h : Held). h.places other) (at_same k new p.start) ∙ value_kept key v (p.start k).places (not_given p k key test none) other w e))
          (λ j ne other w l e. begins.places j other w l (ap (λ (h : Held). h.places other) (at_other k new p.start j ne) ∙ e));
      words = begins.words;
      small = begins.small;
    }

place_reached : (key v : ℕ) (first : WholeHart) (e : End) (now : Held) → IsReached first e now → now.places key ≡ None → first.file key ≡ v
    → IsReached first (record e { knows = and_keys (λ other. eqb other key) e.knows }) (with_place key v now)
place_reached key v first e now reached none value = record {
  fixed = reached.fixed;
  knows = λ other. ap (λ (b : Bool). eqb other key || b) (reached.knows other) ∙ sym (value_is key v now.places other);
  values = λ other w is. elim (cases_Bool (eqb other key)) [
    | inl t ↦
        let same : other ≡ key = eqb-true other key t in
        let what : Some v ≡ Some w = sym (value_here key v now.places other t) ∙ is in
        let v_is : v ≡ w = cc what in
        ap e.hart.file same ∙ reached.others key none ∙ value ∙ v_is
    | inr f ↦ reached.values other w (sym (value_there key v now.places other f) ∙ is)
  ];
  others = λ other is. elim (cases_Bool (eqb other key)) [
    | inl t ↦ let no : Some v ≡ None = sym (value_here key v now.places other t) ∙ is in absurd (cc no)
    | inr f ↦ reached.others other (sym (value_there key v now.places other f) ∙ is)
  ];
}

-- what a hart does alone, told by its parts
abbrev AloneSo : Partial → System → ℕ → Held → List Record → Held → Type 0
AloneSo p sys k start records now = (end : End) × Runs p.words (is_held start) (sys.harts k) sys.memory records end × IsReached (sys.harts k) end now

place_alone : (p : Partial) (k key v : ℕ) → IsPartialTest p → (p.harts k).places key ≡ None → (sys : System) → Begins (place_started k key v p) sys
    → (j : ℕ) → j < p.count → IsAlone (place_started k key v p) sys j
place_alone p k key v test none sys begins =
    let p' : Partial = place_started k key v p in
    let start : Held = with_place key v (p.start k) in
    let now : Held = with_place key v (p.harts k) in
    let before : Begins p sys = place_begins p k key v test none sys begins in
    each_hart k (λ j. j < p.count → IsAlone p' sys j)
    (λ l.
    let a : IsAlone p sys k = test.alone sys before k l in
    let value : (sys.harts k).file key ≡ v = begins.places k key v l (ap (λ (h : Held). h.places key) (at_same k start p.start) ∙ value_here key v (p.start k).places key (eq-eqb key key refl)) in
    let end : End = record (a.end) { knows = and_keys (λ other. eqb other key) a.end.knows } in
    let held : and_keys (λ other. eqb other key) (is_held (p.start k)) ≡ is_held start = fun_ext (λ other. sym (value_is key v (p.start k).places other)) in
    let runs : Runs p.words (is_held start) (sys.harts k) sys.memory (p.records k) end =
    subst (λ (q : ℕ → Bool). Runs p.words q (sys.harts k) sys.memory (p.records k) end) held (runs_keys p.words (λ other. eqb other key) (is_held (p.start k)) (sys.harts k) sys.memory (p.records k) a.end a.runs) in
    record {
      end = end;
      runs = subst (λ (h : Held). Runs p.words (is_held h) (sys.harts k) sys.memory (p.records k) end) (sym (at_same k start p.start)) runs;
      reached = subst (λ (h : Held). IsReached (sys.harts k) end h) (sym (at_same k now p.harts)) (place_reached key v (sys.harts k) a.end (p.harts k) a.reached none value);
    })
    (λ j ne l.
    let a : IsAlone p sys j = test.alone sys before j l in
    record {
      end = a.end;
      runs = subst (λ (h : Held). Runs p.words (is_held h) (sys.harts j) sys.memory (p.records j) a.end) (sym (at_other k start p.start j ne)) a.runs;
      reached = subst (λ (h : Held). IsReached (sys.harts j) a.end h) (sym (at_other k now p.harts j ne)) a.reached;
    })

pub late_place : LatePlaceLaw
late_place p k key v test none =
    let start : Held = with_place key v (p.start k) in
    let now : Held = with_place key v (p.harts k) in
    record {
      alone = place_alone p k key v test none;
      race_free = test.race_free;
      memory = λ sys begins n w e. test.memory sys (place_begins p k key v test none sys begins) n w e;
      known = test.known;
      given = each_hart k (λ j. (other : ℕ) → is_held (replaced k start p.start j) other ≡ true → is_held (replaced k now p.harts j) other ≡ true)
          (λ other e.
          let was : is_held start other ≡ true = subst (λ (h : Held). is_held h other ≡ true) (at_same k start p.start) e in
          subst (λ (h : Held). is_held h other ≡ true) (sym (at_same k now p.harts))
          (value_is key v (p.harts k).places other ∙ or_either (eqb other key) _ _ (test.given k other) (sym (value_is key v (p.start k).places other) ∙ was)))
          (λ j ne other e.
          subst (λ (h : Held). is_held h other ≡ true) (sym (at_other k now p.harts j ne))
          (test.given j other (subst (λ (h : Held). is_held h other ≡ true) (at_other k start p.start j ne) e)));
      past = test.past;
    }
  where
    or_either : (a b c : Bool) → (b ≡ true → c ≡ true) → (a || b) ≡ true → (a || c) ≡ true
    or_either true b c h e = refl
    or_either false b c h e = h e

-- ---- a word

word_begins : (p : Partial) (n v : ℕ) → p.words n ≡ None → (sys : System) → Begins (word_started n v p) sys → Begins p sys
word_begins p n v none sys begins = record {
  fixed = begins.fixed;
  places = begins.places;
  words = λ i w e. begins.words i w (value_kept n v p.words none i w e);
  small = begins.small;
}

-- no step touched a word that was not given
untouched : (p : Partial) (n : ℕ) → IsPartialTest p → p.words n ≡ None → (sys : System) → Begins p sys
    → (j : ℕ) → j < p.count → (x : Access) → HasItem (footprints_of p.records j) x → n ≢ x.addr / 4
untouched p n test none sys begins j l x h = λ same.
    let a : IsAlone p sys j = test.alone sys begins j l in
    let some : is_some (p.words (x.addr / 4)) ≡ true = runs_given p.words (is_held (p.start j)) (sys.harts j) sys.memory (p.records j) a.end a.runs x h in
    let no : is_some {T = ℕ} None ≡ true = sym (ap (λ (o : Option ℕ). is_some o) none) ∙ ap (λ (i : ℕ). is_some (p.words i)) same ∙ some in
    absurd (cc no)

pub late_word : LateWordLaw
late_word p n v test none =
    let not : p.words n ≡ None = not_known (p.memory n) (p.words n) (test.known n) none in
    let p' : Partial = word_started n v p in
    record {
      alone = λ sys begins k l.
          let a : IsAlone p sys k = test.alone sys (word_begins p n v not sys begins) k l in
          record {
            end = a.end;
            runs = runs_words p.words p'.words (is_held (p.start k)) (sys.harts k) sys.memory (p.records k) a.end
                (λ i t. value_is n v p.words i ∙ or_right (eqb i n) (is_some (p.words i)) t) a.runs;
            reached = a.reached;
          };
      race_free = test.race_free;
      memory = λ sys begins i w e.
          let before : Begins p sys = word_begins p n v not sys begins in
          elim (cases_Bool (eqb i n)) [
            | inl t ↦
                let same : i ≡ n = eqb-true i n t in
                let what : Some v ≡ Some w = sym (value_here n v p.memory i t) ∙ e in
                let v_is : v ≡ w = cc what in
                ap (λ (q : ℕ). in_turn p.count (footprints_of p.records) sys.memory q) same
                ∙ in_turn_apart p.count (footprints_of p.records) sys.memory n (untouched p n test not sys before)
                ∙ begins.words n v (value_here n v p.words n (eq-eqb n n refl)) ∙ v_is
            | inr f ↦ test.memory sys before i w (sym (value_there n v p.memory i f) ∙ e)
          ];
      known = λ i. value_is n v p.memory i ∙ ap (λ (b : Bool). eqb i n || b) (test.known i) ∙ sym (value_is n v p.words i);
      given = test.given;
      past = test.past;
    }
  where
    or_right : (b c : Bool) → c ≡ true → (b || c) ≡ true
    or_right true c e = refl
    or_right false c e = e
