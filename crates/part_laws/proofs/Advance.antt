-- One step more of one hart.
use Rattle.std.proofs.Common.{◌≡◌, ◌≢◌, ℕ, zero, suc, ◌/◌, ◌^◌, ◌<◌, ◌≤◌, Bool, true, ◌||◌, eqb, ltb, List, [], ◌∷◌, ◌++◌, append-nil, append_assoc, Option, Some, None, refl, sym, ap, ◌∙◌, subst, inl, inr, arith}
use Rattle.std.specs.Prelude.{option_map, IsSome}
use Rattle.std.specs.Option.{is_some, option_or, unwrap_or}
use Rattle.std.proofs.lemmas.Bool.{cases_Bool, eqb-true, and_parts}
use Rattle.rv_csr.specs.Table.{csr_key}
use Rattle.rv_script.specs.declared.access.Access.{Access}
use Rattle.rv_script.specs.declared.place.Place.{Place}
use Rattle.rv_script.specs.declared.place.Place.TheVariants.{Reg, Csr, Word}
use Rattle.rv_script.specs.Lists.{HasItem}
use Rattle.rv_script.specs.Bytes.{word_address, covers, byte_at, part_of, is_look}
use Rattle.rv_script.specs.Script.{Label, role_of, Question, Question.OfRegister, Question.OfCsr, Question.OfMemory, Question.ToMemory, access_of}
use Rattle.rv_script.specs.Folds.{Sight, asked_of, result_of, accesses_of}
use Rattle.rv_script.specs.Laws.{IsSeenAlike, IsSame}
use Rattle.rv_script.specs.Memory.{memory_after}
use Rattle.rv_script.proofs.Local.{seen_value, local}
use Rattle.rv_script.proofs.Items.{has_first, has_second}
use Rattle.foot_map.specs.Races.{IsRaceFree}
use Rattle.rv_hart.specs.declared.record.Change.{Change}
use Rattle.rv_hart.specs.declared.record.Record.{Record}
use Rattle.rv_hart.specs.Changes.{fixed_after, writes_of}
use Rattle.rv_hart.specs.Clauses.{Has, Takes}
use Rattle.rv_hart.specs.Fixed.{Fixed}
use Rattle.rv_hart.specs.Machine.{script}
use Rattle.rv_hart.specs.Whole.{WholeHart, value_at, sight_of, Step, step_by, step_of, planned, record_of, needed_places}
use Rattle.rv_hart.proofs.Steps.{takes}
use Rattle.tpl_admit.specs.Solo.{IsRight, is_set}
use Rattle.tpl_admit.specs.Races.{footprint_of, footprints_of}
use Rattle.tpl_admit.specs.System.{System, replaced}
use Rattle.tpl_admit.specs.Validity.{in_turn}
use Rattle.rv_hart.proofs.Entries.{planned_accesses, entry_access}
use Rattle.tpl_admit.proofs.Memory.{byte_of, Fits, AllFit, HoldsWords, memory_after_at, memory_after_words, in_turn_one, in_turn_more}
use Rattle.tpl_admit.proofs.Systems.{at_same, at_other}
use Rattle.part_laws.specs.Partial.{Held, Partial, Begins, End, Runs, is_held, IsReached, IsAlone, IsPartialTest, known_by, held_after, words_after, with_record, advanced, IsNext}
use Rattle.part_laws.specs.Laws.{AdvanceLaw}
use Rattle.part_laws.proofs.Runs.{end_after, runs_more, runs_memory, or_more}
use Rattle.part_laws.proofs.Late.{each_hart}

-- ---- the footprints after the step

pub footprint_more : (rs : List Record) (r : Record) → footprint_of (rs ++ r ∷ []) ≡ footprint_of rs ++ r.accesses
footprint_more [] r = append-nil r.accesses
footprint_more (q ∷ rs) r = ap (λ (xs : List Access). q.accesses ++ xs) (footprint_more rs r) ∙ sym (append_assoc q.accesses (footprint_of rs) r.accesses)

-- ---- what is known at the end of the run, over the common memory

-- the value that is known of a word holds at the memory of all
abbrev pub Shows : (ℕ → Option ℕ) → (ℕ → ℕ) → Type 0
Shows memory m = (n v : ℕ) → memory n ≡ Some v → m n ≡ v

pub has_known : (first : WholeHart) (e : End) (now : Held) (memory : ℕ → Option ℕ) (m : ℕ → ℕ) → IsReached first e now → Shows memory m → Has now.fixed (known_by now memory) e.hart m
has_known first e now memory m reached shows = record { fixed = reached.fixed; values = go }
  where
    go : (place : Place) (v : ℕ) → known_by now memory place ≡ Some v → value_at e.hart.file m place ≡ v
    go (Reg n) v is = elim (cases_Bool (eqb n 0)) [
      | inl z ↦ let e' : Some 0 ≡ Some v = rw z at is in let zero_is : 0 ≡ v = cc e' in rw z zero_is
      | inr s ↦ elim (cases_Bool (ltb n 32)) [
        | inl small ↦ let e' : now.places n ≡ Some v = rw (s, small) at is in rw s (reached.values n v e')
        | inr large ↦ let e' : None ≡ Some v = rw (s, large) at is in absurd (cc e')
      ]
    ]
    go (Csr addr) v is = reached.values (csr_key addr) v is
    go (Word addr) v is = shows (addr / 4) v is

known_set : (first : WholeHart) (e : End) (now : Held) (memory words : ℕ → Option ℕ) → IsReached first e now → ((n : ℕ) → is_some (memory n) ≡ is_some (words n))
    → (place : Place) → IsSome (known_by now memory place) → is_set e.knows words place ≡ true
known_set first e now memory words reached same (Reg n) some = elim (cases_Bool (eqb n 0)) [
  | inl z ↦ rw z refl
  | inr s ↦ elim (cases_Bool (ltb n 32)) [
    | inl small ↦ let s' : IsSome (now.places n) = rw (s, small) at some in rw s (reached.knows n ∙ s')
    | inr large ↦ let s' : IsSome {T = ℕ} None = rw (s, large) at some in absurd (cc s')
  ]
]
known_set first e now memory words reached same (Csr addr) some = reached.knows (csr_key addr) ∙ some
known_set first e now memory words reached same (Word addr) some = sym (same (addr / 4)) ∙ some

-- ---- what a hart looks at is alone what it is among the others

-- the bytes that a list of accesses looks at
abbrev pub LooksAlike : List Access → (ℕ → ℕ) → (ℕ → ℕ) → Type 0
LooksAlike xs m m' = (x : Access) → HasItem xs x → is_look x.role ≡ true → (b : ℕ) → covers x b ≡ true → byte_of m' b ≡ byte_of m b

role_looks : (label : Label) → is_look (role_of label) ≡ true
role_looks Label.FetchRoot = refl
role_looks Label.FetchSecond = refl
role_looks Label.Fetched = refl
role_looks Label.FromRs1 = refl
role_looks Label.FromRs2 = refl
role_looks Label.FromCsr = refl
role_looks Label.DataRoot = refl
role_looks Label.DataSecond = refl
role_looks Label.DataWord = refl
role_looks Label.FromVector = refl

-- a step on one memory, and the needs of it, on another memory that has the bytes that it looks at
pub record IsStepOn (h : WholeHart) (m m' : ℕ → ℕ) (s : Step) : Type 0 where
  pub step : step_of h m' ≡ Some s
  pub needs : needed_places h m' ≡ needed_places h m

pub step_alone : (h : WholeHart) (m m' : ℕ → ℕ) (s : Step) → step_of h m ≡ Some s → HoldsWords m → HoldsWords m' → LooksAlike s.did.accesses m m' → IsStepOn h m m' s
step_alone h m m' s is small small' alike =
    let see : Sight = sight_of h.file m in
    let other : Sight = sight_of h.file m' in
    let accesses : s.did.accesses ≡ accesses_of (script h.fixed) see = planned_accesses h.fixed (accesses_of (script h.fixed) see) (result_of (script h.fixed) see) s is in
    let same : IsSame (script h.fixed) see other = local (script h.fixed) see other (λ e at.
    alike_at e.question e.value (seen_value (script h.fixed) see e at)
    (λ x told. subst (λ (xs : List Access). HasItem xs x) (sym accesses) (entry_access (asked_of (script h.fixed) see) e x at told))) in
    record {
      step = ap (λ (xs : List Access). planned h.fixed xs (result_of (script h.fixed) other)) same.accesses ∙ ap (λ (o : Option Change). planned h.fixed (accesses_of (script h.fixed) see) o) same.result ∙ is;
      needs = same.needs;
    }
  where
    alike_at : (q : Question) (v : ℕ) → v ≡ sight_of h.file m q → ((x : Access) → access_of q v ≡ Some x → HasItem s.did.accesses x) → IsSeenAlike q v (sight_of h.file m' q)
    alike_at (OfRegister label n) v is at = sym is
    alike_at (OfCsr label addr) v is at = sym is
    alike_at (OfMemory label addr size) v is at = (
      subst (λ (n : ℕ). n < 2 ^ 32) (sym is) (small (word_address addr / 4)),
      small' (word_address addr / 4),
      λ b u.
          let word : b / 4 ≡ word_address addr / 4 = let w : b / 4 ≡ addr / 4 = eqb-true _ _ (and_parts _ _ u).0 in omega (arith, w) in
          let x : Access = record { role = role_of label; addr = addr; size = size; value = part_of addr size v } in
          ap (λ (n : ℕ). byte_at b (m' n)) (sym word) ∙ alike x (at x refl) (role_looks label) b u ∙ ap (λ (n : ℕ). byte_at b (m n)) word ∙ ap (byte_at b) (sym is),
    )
    alike_at (ToMemory addr size value) v is at = tt

pub in_turn_words : (n : ℕ) (did : ℕ → List Access) (m : ℕ → ℕ) → HoldsWords m → HoldsWords (in_turn n did m)
in_turn_words zero did m small = small
in_turn_words (suc n) did m small = memory_after_words (did n) (in_turn n did m) (in_turn_words n did m small)

-- ---- what is known after the step

value_after : (writes : ℕ → Option ℕ) (places : ℕ → Option ℕ) (file : ℕ → ℕ) (key v : ℕ) → ((w : ℕ) → places key ≡ Some w → file key ≡ w) → option_or (writes key) (places key) ≡ Some v → unwrap_or (writes key) (file key) ≡ v
value_after writes places file key v has is = go (writes key) is
  where
    go : (o : Option ℕ) → option_or o (places key) ≡ Some v → unwrap_or o (file key) ≡ v
    go None e = has v e
    go (Some w) e = let same : w ≡ v = cc e in same

other_after : (writes : ℕ → Option ℕ) (places : ℕ → Option ℕ) (file first : ℕ → ℕ) (key : ℕ) → (places key ≡ None → file key ≡ first key) → option_or (writes key) (places key) ≡ None → unwrap_or (writes key) (file key) ≡ first key
other_after writes places file first key has is = go (writes key) is
  where
    go : (o : Option ℕ) → option_or o (places key) ≡ None → unwrap_or o (file key) ≡ first key
    go None e = has e
    go (Some w) e = absurd (cc e)

some_after : (o q : Option ℕ) → (is_some o || is_some q) ≡ is_some (option_or o q)
some_after None q = refl
some_after (Some v) q = refl

reached_after : (first : WholeHart) (e : End) (now : Held) (xs : List Access) (c : Change) → IsReached first e now
    → IsReached first (end_after (step_by e.hart.fixed xs c) e) (held_after c now)
reached_after first e now xs c reached =
    let w : writes_of e.hart.fixed c ≡ writes_of now.fixed c = ap (λ (f : Fixed). writes_of f c) reached.fixed in
    record {
      fixed = ap (λ (f : Fixed). fixed_after f c) reached.fixed;
      knows = λ key.
          ap (λ (b : Bool). is_some (writes_of e.hart.fixed c key) || b) (reached.knows key)
          ∙ ap (λ (f : ℕ → Option ℕ). is_some (f key) || is_held now key) w
          ∙ some_after (writes_of now.fixed c key) (now.places key);
      values = λ key v is.
          ap (λ (f : ℕ → Option ℕ). unwrap_or (f key) (e.hart.file key)) w
          ∙ value_after (writes_of now.fixed c) now.places e.hart.file key v (λ u t. reached.values key u t) is;
      others = λ key is.
          ap (λ (f : ℕ → Option ℕ). unwrap_or (f key) (e.hart.file key)) w
          ∙ other_after (writes_of now.fixed c) now.places e.hart.file first.file key (λ t. reached.others key t) is;
    }

-- ---- the law

-- what a hart has in the records after the step
pub own_records : (p : Partial) (k : ℕ) (r : Record) → footprints_of (with_record k r p.records) k ≡ footprints_of p.records k ++ r.accesses
own_records p k r = ap (λ (rs : List Record). footprint_of rs) (at_same k (p.records k ++ r ∷ []) p.records) ∙ footprint_more (p.records k) r

pub other_records : (p : Partial) (k : ℕ) (r : Record) (j : ℕ) → j ≢ k → footprints_of (with_record k r p.records) j ≡ footprints_of p.records j
other_records p k r j ne = ap (λ (rs : List Record). footprint_of rs) (at_other k (p.records k ++ r ∷ []) p.records j ne)

-- accesses of two harts fit
fits : (did : ℕ → List Access) → IsRaceFree did → (j k : ℕ) → j ≢ k → (x y : Access) → HasItem (did j) x → HasItem (did k) y → Fits x y
fits did free j k ne x y hx hy = λ b t u. (free.harts j k ne x y hx hy (b, t, u), free.harts k j (λ e. ne (sym e)) y x hy hx (b, u, t))

-- the facts on races that the law needs
pub record IsFree (p : Partial) (k : ℕ) (xs : List Access) : Type 0 where
  pub old : (j : ℕ) → j ≢ k → AllFit (footprints_of p.records k) (footprints_of p.records j)
  pub new : (j : ℕ) → j ≢ k → AllFit (footprints_of p.records j) xs
  pub looks : (j : ℕ) → j ≢ k → (x y : Access) → HasItem (footprints_of p.records j) y → HasItem xs x → (b : ℕ) → covers x b ≡ true → covers y b ≡ true → is_look y.role ≡ true

pub is_free : (p : Partial) (k : ℕ) (r : Record) → IsRaceFree (footprints_of (with_record k r p.records)) → IsFree p k r.accesses
is_free p k r free =
    let xs : List Access = r.accesses in
    let did : ℕ → List Access = footprints_of (with_record k r p.records) in
    let mine : (x : Access) → HasItem (footprints_of p.records k) x → HasItem (did k) x =
    λ x h. subst (λ (ys : List Access). HasItem ys x) (sym (own_records p k r)) (has_first (footprints_of p.records k) xs x h) in
    let next : (x : Access) → HasItem xs x → HasItem (did k) x =
    λ x h. subst (λ (ys : List Access). HasItem ys x) (sym (own_records p k r)) (has_second (footprints_of p.records k) xs x h) in
    let others : (j : ℕ) → j ≢ k → (x : Access) → HasItem (footprints_of p.records j) x → HasItem (did j) x =
    λ j ne x h. subst (λ (ys : List Access). HasItem ys x) (sym (other_records p k r j ne)) h in
    record {
      old = λ j ne x y hx hy. fits did free k j (λ e. ne (sym e)) x y (mine x hx) (others j ne y hy);
      new = λ j ne x y hx hy. fits did free j k ne x y (others j ne x hx) (next y hy);
      looks = λ j ne x y hy hx b t u. free.harts j k ne y x (others j ne y hy) (next x hx) (b, u, t);
    }

-- the hart alone does the step that is told on what is known
right_next : (p : Partial) (k : ℕ) (xs : List Access) (c : Change) → IsPartialTest p → k < p.count → IsNext k xs c p → IsFree p k xs
    → (sys : System) → Begins p sys → (a : IsAlone p sys k)
    → IsRight p.words a.end.knows a.end.hart a.end.memory (record_of (p.harts k).fixed xs c) (step_by a.end.hart.fixed xs c)
right_next p k xs c test l next free sys begins a =
    let now : Held = p.harts k in
    let h : WholeHart = a.end.hart in
    let all : ℕ → ℕ = in_turn p.count (footprints_of p.records) sys.memory in
    let own : ℕ → ℕ = a.end.memory in
    let own_is : own ≡ memory_after (footprints_of p.records k) sys.memory = runs_memory p.words (is_held (p.start k)) (sys.harts k) sys.memory (p.records k) a.end a.runs in
    let t : Takes now.fixed (known_by now p.memory) h all xs c = takes now.fixed (known_by now p.memory) h all xs c (has_known (sys.harts k) a.end now p.memory all a.reached (test.memory sys begins)) next in
    let small : HoldsWords own = subst (λ (m : ℕ → ℕ). HoldsWords m) (sym own_is) (memory_after_words (footprints_of p.records k) sys.memory begins.small) in
    let alike : LooksAlike xs all own = λ x hx looks b u.
    ap (λ (m : ℕ → ℕ). byte_of m b) own_is
    ∙ sym (in_turn_one p.count (footprints_of p.records) sys.memory k b l (λ j v ne. free.old j ne) (λ j v ne y hy w. free.looks j ne x y hy hx b u w)) in
    let s : Step = step_by now.fixed xs c in
    let on : IsStepOn h all own s = step_alone h all own s t.step (in_turn_words p.count (footprints_of p.records) sys.memory begins.small) small alike in
    let same : step_by now.fixed xs c ≡ step_by h.fixed xs c = ap (λ (f : Fixed). step_by f xs c) (sym a.reached.fixed) in
    record {
      set = λ place at. known_set (sys.harts k) a.end now p.memory p.words a.reached test.known place (t.needs place (subst (λ (ps : List Place). HasItem ps place) on.needs at));
      step = on.step ∙ ap (λ (q : Step). Some q) same;
      did = ap (λ (f : Fixed). record_of f xs c) a.reached.fixed;
    }

after_is : (xs : List Access) (memory : ℕ → Option ℕ) (m : ℕ → ℕ) → Shows memory m → Shows (words_after xs memory) (memory_after xs m)
after_is xs memory m shows n v is = go (memory n) refl is
  where
    go : (o : Option ℕ) → memory n ≡ o → option_map (λ w. memory_after xs (λ i. w) n) o ≡ Some v → memory_after xs m n ≡ v
    go None e is = absurd (cc is)
    go (Some w) e is = let same : memory_after xs (λ i. w) n ≡ v = cc is in memory_after_at xs m (λ i. w) n (shows n w e) ∙ same

some_map : (f : ℕ → ℕ) (o : Option ℕ) → is_some (option_map f o) ≡ is_some o
some_map f None = refl
some_map f (Some v) = refl

pub advance : AdvanceLaw
advance p k xs c test l next race_free =
    let r : Record = record_of (p.harts k).fixed xs c in
    let free : IsFree p k xs = is_free p k r race_free in
    let records : List Record = p.records k ++ r ∷ [] in
    let now : Held = held_after c (p.harts k) in
    let p' : Partial = advanced k xs c p in
    let again : (sys : System) → Begins p' sys → Begins p sys = λ sys b. record { fixed = b.fixed; places = b.places; words = b.words; small = b.small } in
    record {
      alone = λ sys begins. each_hart k (λ j. j < p.count → IsAlone p' sys j)
          (λ l.
          let a : IsAlone p sys k = test.alone sys (again sys begins) k l in
          let s : Step = step_by a.end.hart.fixed xs c in
          let right : IsRight p.words a.end.knows a.end.hart a.end.memory r s = right_next p k xs c test l next free sys (again sys begins) a in
          record {
            end = end_after s a.end;
            runs = subst (λ (rs : List Record). Runs p.words (is_held (p.start k)) (sys.harts k) sys.memory rs (end_after s a.end)) (sym (at_same k records p.records))
                (runs_more p.words (is_held (p.start k)) (sys.harts k) sys.memory (p.records k) a.end r s a.runs right);
            reached = subst (λ (h : Held). IsReached (sys.harts k) (end_after s a.end) h) (sym (at_same k now p.harts)) (reached_after (sys.harts k) a.end (p.harts k) xs c a.reached);
          })
          (λ j ne l.
          let a : IsAlone p sys j = test.alone sys (again sys begins) j l in
          record {
            end = a.end;
            runs = subst (λ (rs : List Record). Runs p.words (is_held (p.start j)) (sys.harts j) sys.memory rs a.end) (sym (at_other k records p.records j ne)) a.runs;
            reached = subst (λ (h : Held). IsReached (sys.harts j) a.end h) (sym (at_other k now p.harts j ne)) a.reached;
          });
      race_free = race_free;
      memory = λ sys begins n v e.
          let all : in_turn p.count (footprints_of p'.records) sys.memory ≡ memory_after xs (in_turn p.count (footprints_of p.records) sys.memory) =
          in_turn_more p.count (footprints_of p.records) (footprints_of p'.records) sys.memory k xs l (own_records p k r) (other_records p k r) (λ j u ne. free.new j ne) in
          ap (λ (m : ℕ → ℕ). m n) all ∙ after_is xs p.memory (in_turn p.count (footprints_of p.records) sys.memory) (test.memory sys (again sys begins)) n v e;
      known = λ n. some_map (λ w. memory_after xs (λ i. w) n) (p.memory n) ∙ test.known n;
      given = each_hart k (λ j. (key : ℕ) → is_held (p.start j) key ≡ true → is_held (replaced k now p.harts j) key ≡ true)
          (λ key e. subst (λ (h : Held). is_held h key ≡ true) (sym (at_same k now p.harts))
          (sym (some_after (writes_of (p.harts k).fixed c key) ((p.harts k).places key)) ∙ or_more (is_some (writes_of (p.harts k).fixed c key)) (is_held (p.harts k) key) (test.given k key e)))
          (λ j ne key e. subst (λ (h : Held). is_held h key ≡ true) (sym (at_other k now p.harts j ne)) (test.given j key e));
      past = each_hart k (λ j. p.count ≤ j → replaced k records p.records j ≡ [])
          (λ g. absurd (omega (arith, l, g)))
          (λ j ne g. at_other k records p.records j ne ∙ test.past j g);
    }
