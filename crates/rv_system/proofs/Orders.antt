-- In every order of steps each hart does what it does alone.
use Rattle.std.proofs.Common.{◌≡◌, ◌≢◌, ℕ, suc, ◌/◌, ◌%◌, ◌^◌, ◌<◌, ◌≤◌, Bool, true, false, cond, if◌then◌else◌, eqb, List, [], ◌∷◌, ◌++◌, Option, Some, None, refl, sym, ap, ◌∙◌, subst, inl, inr, length, take, drop, append_assoc, arith}
use Rattle.std.specs.Option.{is_some}
use Rattle.std.proofs.lemmas.Bool.{cases_Bool, cases_eq, cases_lt, eq-eqb, ne_eqb, eqb-true, and_parts}
use Rattle.rv_script.specs.declared.access.Access.{Access}
use Rattle.rv_script.specs.declared.place.Place.TheVariants.{Reg}
use Rattle.rv_script.specs.Lists.{HasItem}
use Rattle.rv_script.specs.Bytes.{word_address, covers, part_of, byte_at}
use Rattle.rv_script.specs.Script.{Label, role_of, Question, Question.OfRegister, Question.OfCsr, Question.OfMemory, Question.ToMemory, place_of, access_of}
use Rattle.rv_script.specs.Folds.{Entry, Sight, asked_of, result_of, accesses_of}
use Rattle.rv_script.specs.Laws.{IsSeenAlike}
use Rattle.rv_script.specs.Memory.{memory_after}
use Rattle.rv_script.proofs.Local.{seen_value}
use Rattle.rv_script.proofs.Items.{has_first, has_second}
use Rattle.rv_hart.specs.declared.record.Record.{Record}
use Rattle.rv_hart.specs.Fixed.{Fixed}
use Rattle.rv_hart.specs.Machine.{script}
use Rattle.rv_csr.specs.Table.{csr_key}
use Rattle.rv_hart.specs.Whole.{WholeHart, sight_of, Step, sighted_step_of, step_of, hart_after}
use Rattle.tpl_admit.specs.System.{System, replaced, moved, run_of, of_hart, times}
use Rattle.foot_map.specs.Races.{IsRaceFree}
use Rattle.tpl_admit.specs.Races.{footprint_of, footprints_of}
use Rattle.tpl_admit.specs.Solo.{AreSet, is_set, knows_also}
use Rattle.tpl_admit.specs.Validity.{in_turn}
use Rattle.tpl_admit.proofs.Systems.{at_same, at_other}
use Rattle.rv_hart.proofs.Entries.{step_local, planned_accesses, entry_access, entry_place}
use Rattle.tpl_admit.proofs.Memory.{byte_of, Fits, HoldsWords, memory_after_at, memory_after_words, memory_after_append, in_turn_one, in_turn_more, file_after_same, file_after_other}

-- where a hart ends
pub record End : Type 0 where
  pub fixed : Fixed
  pub places : ℕ → Option ℕ

pub record Ends (knows : ℕ → Bool) (h : WholeHart) (end : End) : Type 0 where
  pub fixed : end.fixed ≡ h.fixed
  pub places : (key : ℕ) → end.places key ≡ cond (knows key) (Some (h.file key)) None

-- alone, and resting on what is known, the hart does these records and then ends there
abbrev pub Goes : (ℕ → Option ℕ) → End → List Record → (ℕ → Bool) → WholeHart → (ℕ → ℕ) → Type 0
Goes words end [] knows h m = Ends knows h end
Goes words end (r ∷ rs) knows h m =
    (s : Step) × (step_of h m ≡ Some s) × (s.did ≡ r) × AreSet words knows h m
    × Goes words end rs (knows_also s.writes knows) (hart_after s h) (memory_after s.did.accesses m)

-- what a hart is alone, how far it has come, and what is left
pub record Alone : Type 0 where
  pub hart : WholeHart
  pub memory : ℕ → ℕ
  pub knows : ℕ → Bool
  pub did : List Access
  pub left : List Record

-- a hart among others goes on as it does alone
pub record Follows (words : ℕ → Option ℕ) (origin : ℕ → ℕ) (first : WholeHart) (trace : List Record) (end : End) (now : WholeHart) (a : Alone) : Type 0 where
  pub goes : Goes words end a.left a.knows a.hart a.memory
  pub fixed : now.fixed ≡ a.hart.fixed
  pub known : (key : ℕ) → a.knows key ≡ true → now.file key ≡ a.hart.file key
  pub others : (key : ℕ) → a.knows key ≡ false → now.file key ≡ first.file key
  pub whole : a.did ++ footprint_of a.left ≡ footprint_of trace
  pub memory : a.memory ≡ memory_after a.did origin
  pub small : HoldsWords a.memory

abbrev pub next : Step → Alone → List Record → Alone
next s a rs = record {
  hart = hart_after s a.hart;
  memory = memory_after s.did.accesses a.memory;
  knows = knows_also s.writes a.knows;
  did = a.did ++ s.did.accesses;
  left = rs;
}

-- what a sight shows of the registers is the hart's
pub record Sees (file : ℕ → ℕ) (see : Sight) : Type 0 where
  pub register : (label : Label) (n : ℕ) → see (OfRegister label n) ≡ (if eqb n 0 then 0 else file n)
  pub csr : (label : Label) (addr : ℕ) → see (OfCsr label addr) ≡ file (csr_key addr)
  pub small : (label : Label) (addr size : ℕ) → see (OfMemory label addr size) < 2 ^ 32

-- for what the hart looks at in its next record, where the word is given, the sight is as good as this memory
abbrev pub IsSound : (ℕ → Option ℕ) → Sight → (ℕ → ℕ) → Record → Type 0
IsSound words see m r =
    (label : Label) (addr size value : ℕ) → HasItem r.accesses (record { role = role_of label; addr = addr; size = size; value = value })
    → (b : ℕ) → covers (record { role = role_of label; addr = addr; size = size; value = 0 }) b ≡ true → is_some (words (b / 4)) ≡ true → byte_at b (see (OfMemory label addr size)) ≡ byte_of m b

-- one step, where its sight has what the hart alone would see
pub record Stepped (words : ℕ → Option ℕ) (origin : ℕ → ℕ) (first : WholeHart) (trace : List Record) (end : End) (now : WholeHart) (see : Sight) (a : Alone) (r : Record) (rs : List Record) : Type 0 where
  pub step' : Step
  pub was : sighted_step_of now.fixed see ≡ Some step'
  pub as_printed : step'.did ≡ r
  pub follows : Follows words origin first trace end (hart_after step' now) (next step' a rs)

known_register : (words : ℕ → Option ℕ) (knows : ℕ → Bool) (now alone : ℕ → ℕ) (n : ℕ) → ((key : ℕ) → knows key ≡ true → now key ≡ alone key) → is_set knows words (Reg n) ≡ true
    → (if eqb n 0 then 0 else now n) ≡ (if eqb n 0 then 0 else alone n)
known_register words knows now alone n same set = elim (cases_Bool (eqb n 0)) [
  | inl zero_is ↦ rw zero_is refl
  | inr some ↦ let known : knows n ≡ true = rw some at set in rw some (same n known)
]

pub one_step : (words : ℕ → Option ℕ) (origin : ℕ → ℕ) (first : WholeHart) (trace : List Record) (end : End) (now : WholeHart) (see : Sight) (a : Alone) (r : Record) (rs : List Record)
    → Follows words origin first trace end now a → a.left ≡ r ∷ rs → Sees now.file see → IsSound words see a.memory r
    → Stepped words origin first trace end now see a r rs
one_step words origin first trace end now see a r rs f e sees sound =
    let goes : Goes words end (r ∷ rs) a.knows a.hart a.memory = subst (λ (l : List Record). Goes words end l a.knows a.hart a.memory) e f.goes in
    let s : Step = goes.0 in
    let mine : Sight = sight_of a.hart.file a.memory in
    let log : List Entry = asked_of (script a.hart.fixed) mine in
    let alike : (e : Entry) → HasItem log e → IsSeenAlike e.question e.value (see e.question) =
    λ d at. alike_at d.question d.value (seen_value (script a.hart.fixed) mine d at)
    (goes.3 (place_of d.question) (entry_place log d at))
    (λ x is. subst (λ (q : Record). HasItem q.accesses x) goes.2 (subst (λ (xs : List Access). HasItem xs x) (sym (planned_accesses a.hart.fixed (accesses_of (script a.hart.fixed) mine) (result_of (script a.hart.fixed) mine) s goes.1)) (entry_access log d x at is))) in
    let local : sighted_step_of now.fixed see ≡ Some s = ap (λ (g : Fixed). sighted_step_of g see) f.fixed ∙ step_local a.hart.fixed mine see s goes.1 alike in
    record {
      step' = s;
      was = local;
      as_printed = goes.2;
      follows = record {
        goes = goes.4;
        fixed = refl;
        known = λ q k. file_after_same s.writes a.knows now.file a.hart.file q k (f.known q);
        others = λ q k. let w = file_after_other s.writes a.knows now.file q k in w.0 ∙ f.others q w.1;
        whole = append_assoc a.did s.did.accesses (footprint_of rs) ∙ ap (λ (x : Record). a.did ++ (x.accesses ++ footprint_of rs)) goes.2 ∙ sym (ap (λ (l : List Record). a.did ++ footprint_of l) e) ∙ f.whole;
        memory = ap (λ (m : ℕ → ℕ). memory_after s.did.accesses m) f.memory ∙ sym (memory_after_append a.did s.did.accesses origin);
        small = memory_after_words s.did.accesses a.memory f.small;
      };
    }
  where
    alike_at : (q : Question) (v : ℕ) → v ≡ sight_of a.hart.file a.memory q → is_set a.knows words (place_of q) ≡ true → ((x : Access) → access_of q v ≡ Some x → HasItem r.accesses x) → IsSeenAlike q v (see q)
    alike_at (OfRegister label n) v is set at = sees.register label n ∙ known_register words a.knows now.file a.hart.file n f.known set ∙ sym is
    alike_at (OfCsr label addr) v is set at = sees.csr label addr ∙ f.known (csr_key addr) set ∙ sym is
    alike_at (OfMemory label addr size) v is set at = (
      subst (λ (n : ℕ). n < 2 ^ 32) (sym is) (f.small (word_address addr / 4)),
      sees.small label addr size,
      λ b u.
          let word : b / 4 ≡ word_address addr / 4 = let w : b / 4 ≡ addr / 4 = eqb-true _ _ (and_parts _ _ u).0 in omega (arith, w) in
          sound label addr size (part_of addr size v) (at (record { role = role_of label; addr = addr; size = size; value = part_of addr size v }) refl) b u (ap (λ (n : ℕ). is_some (words n)) word ∙ set)
          ∙ ap (λ (n : ℕ). byte_at b (a.memory n)) word ∙ ap (byte_at b) (sym is),
    )
    alike_at (ToMemory addr size value) v is set at = tt

at_each : {X Y : Type 0} (P : ℕ → X → Y → Type 0) (k : ℕ) (x : X) (y : Y) (f : ℕ → X) (g : ℕ → Y)
    → P k x y → ((j : ℕ) → j ≢ k → P j (f j) (g j)) → (j : ℕ) → P j (replaced k x f j) (replaced k y g j)
at_each P k x y f g here there j = elim (cases_eq j k) [
  | inl e ↦ rw (eq-eqb j k e) (subst (λ (i : ℕ). P i x y) (sym e) here)
  | inr ne ↦ rw (ne_eqb j k ne) (there j ne)
]

-- what every run keeps
pub record Setting : Type 0 where
  pub count : ℕ
  pub words : ℕ → Option ℕ
  pub origin : ℕ → ℕ
  pub first : System
  pub traces : ℕ → List Record
  pub ends : ℕ → End

pub record Good (w : Setting) : Type 0 where
  pub race_free : IsRaceFree (footprints_of w.traces)
  pub origin : (n : ℕ) → is_some (w.words n) ≡ true → w.first.memory n ≡ w.origin n

abbrev pub FollowsAt : Setting → ℕ → WholeHart → Alone → Type 0
FollowsAt w k now a = k < w.count → Follows w.words w.origin (w.first.harts k) (w.traces k) (w.ends k) now a

pub record Keeps (w : Setting) (s : System) (alone : ℕ → Alone) : Type 0 where
  pub each : (k : ℕ) → FollowsAt w k (s.harts k) (alone k)
  pub past : (k : ℕ) → w.count ≤ k → (alone k).left ≡ []
  pub memory : s.memory ≡ in_turn w.count (λ k. (alone k).did) w.first.memory
  pub small : HoldsWords s.memory

pub record Moved (w : Setting) (s : System) (alone : ℕ → Alone) (see : Sight) (k : ℕ) (r : Record) (rs : List Record) : Type 0 where
  pub step' : Step
  pub was : sighted_step_of (s.harts k).fixed see ≡ Some step'
  pub as_printed : step'.did ≡ r
  pub keeps : Keeps w (moved k step' s) (replaced k (next step' (alone k) rs) alone)

within : (w : Setting) (s : System) (alone : ℕ → Alone) (k : ℕ) (r : Record) (rs : List Record) → Keeps w s alone → (alone k).left ≡ r ∷ rs → k < w.count
within w s alone k r rs i e = elim (cases_lt k w.count) [ inl l ↦ l | inr g ↦ let none : (alone k).left ≡ [] = i.past k g in absurd (cc) ]

-- what a hart did, and what it does next, is in its trace
pub in_past : (w : Setting) (s : System) (alone : ℕ → Alone) → Keeps w s alone → (j : ℕ) → j < w.count → (x : Access) → HasItem (alone j).did x → HasItem (footprint_of (w.traces j)) x
in_past w s alone i j l x h = subst (λ (xs : List Access). HasItem xs x) (i.each j l).whole (has_first (alone j).did (footprint_of (alone j).left) x h)

pub in_next : (w : Setting) (s : System) (alone : ℕ → Alone) → Keeps w s alone → (k : ℕ) → k < w.count → (r : Record) (rs : List Record) → (alone k).left ≡ r ∷ rs
    → (x : Access) → HasItem r.accesses x → HasItem (footprint_of (w.traces k)) x
in_next w s alone i k l r rs e x h =
    subst (λ (xs : List Access). HasItem xs x) (sym (ap (λ (left : List Record). (alone k).did ++ footprint_of left) e) ∙ (i.each k l).whole)
    (has_second (alone k).did (footprint_of (r ∷ rs)) x (has_first r.accesses (footprint_of rs) x h))

-- accesses of two harts fit
fit : (traces : ℕ → List Record) → IsRaceFree (footprints_of traces) → (j k : ℕ) → j ≢ k → (x y : Access) → HasItem (footprint_of (traces j)) x → HasItem (footprint_of (traces k)) y → Fits x y
fit traces free j k ne x y hx hy = λ b t u. (free.harts j k ne x y hx hy (b, t, u), free.harts k j (λ e. ne (sym e)) y x hy hx (b, u, t))

-- for what this hart looks at next, the sight is as good as memory
abbrev pub IsClear : Setting → System → Sight → ℕ → Record → Type 0
IsClear w s see k r =
    (label : Label) (addr size value : ℕ) → HasItem r.accesses (record { role = role_of label; addr = addr; size = size; value = value })
    → HasItem (footprint_of (w.traces k)) (record { role = role_of label; addr = addr; size = size; value = value })
    → (b : ℕ) → covers (record { role = role_of label; addr = addr; size = size; value = 0 }) b ≡ true → byte_at b (see (OfMemory label addr size)) ≡ byte_of s.memory b

pub one_move : (w : Setting) (s : System) (alone : ℕ → Alone) → Good w → Keeps w s alone → (see : Sight) (k : ℕ) (r : Record) (rs : List Record) → (alone k).left ≡ r ∷ rs
    → Sees (s.harts k).file see → IsClear w s see k r → Moved w s alone see k r rs
one_move w s alone good i see k r rs e sees clear =
    let l : k < w.count = within w s alone k r rs i e in
    let f = i.each k l in
    let sound : IsSound w.words see (alone k).memory r =
    λ label addr size value here b u some.
    let x : Access = record { role = role_of label; addr = addr; size = size; value = value } in
    clear label addr size value here (in_next w s alone i k l r rs e x here) b u
    ∙ ap (λ (m : ℕ → ℕ). byte_of m b) i.memory
    ∙ in_turn_one w.count (λ j. (alone j).did) w.first.memory k b l
    (λ j v ne y z hy hz. fit w.traces good.race_free k j (λ same. ne (sym same)) y z (in_past w s alone i k l y hy) (in_past w s alone i j v z hz))
    (λ j v ne y hy t. good.race_free.harts j k ne y x (in_past w s alone i j v y hy) (in_next w s alone i k l r rs e x here) (b, t, u))
    ∙ ap (λ (v : ℕ). v / 256 ^ (b % 4) % 256) (memory_after_at (alone k).did w.first.memory w.origin (b / 4) (good.origin (b / 4) some))
    ∙ sym (ap (λ (m : ℕ → ℕ). byte_of m b) f.memory) in
    let st = one_step w.words w.origin (w.first.harts k) (w.traces k) (w.ends k) (s.harts k) see (alone k) r rs f e sees sound in
    let p : Step = st.step' in
    let new : Alone = next p (alone k) rs in
    record {
      step' = p;
      was = st.was;
      as_printed = st.as_printed;
      keeps = record {
        each = at_each (FollowsAt w) k (hart_after p (s.harts k)) new s.harts alone (λ u. st.follows) (λ j ne. i.each j);
        past = λ j g. elim (cases_eq j k) [
          | inl same ↦ absurd (omega arith)
          | inr ne ↦ ap (λ (a : Alone). a.left) (at_other k new alone j ne) ∙ i.past j g
        ];
        memory = ap (λ (m : ℕ → ℕ). memory_after p.did.accesses m) i.memory
            ∙ sym (in_turn_more w.count (λ j. (alone j).did) (λ j. (replaced k new alone j).did) w.first.memory k p.did.accesses l
            (ap (λ (a : Alone). a.did) (at_same k new alone))
            (λ j ne. ap (λ (a : Alone). a.did) (at_other k new alone j ne))
            (λ j u ne y z hy hz. fit w.traces good.race_free j k ne y z (in_past w s alone i j u y hy)
            (in_next w s alone i k l r rs e z (subst (λ (q : Record). HasItem q.accesses z) st.as_printed hz))));
        small = memory_after_words p.did.accesses s.memory i.small;
      };
    }

-- what holds of a whole schedule
pub record Whole (w : Setting) (ks : List ℕ) (s : System) (alone : ℕ → Alone) : Type 0 where
  pub whole : (run_of ks s).whole ≡ true
  pub records : (j : ℕ) → of_hart j (run_of ks s).events ≡ take (times j ks) (alone j).left
  pub after : ℕ → Alone
  pub keeps : Keeps w (run_of ks s).system after
  pub left : (j : ℕ) → (after j).left ≡ drop (times j ks) (alone j).left

on : (w : Setting) (k : ℕ) (ks : List ℕ) (s : System) (alone : ℕ → Alone) (r : Record) (rs : List Record)
    → (alone k).left ≡ r ∷ rs → (m : Moved w s alone (sight_of (s.harts k).file s.memory) k r rs)
    → Whole w ks (moved k m.step' s) (replaced k (next m.step' (alone k) rs) alone)
    → Whole w (k ∷ ks) s alone
on w k ks s alone r rs e m ih =
    let p : Step = m.step' in
    let new : Alone = next p (alone k) rs in
    record {
      whole = rw m.was ih.whole;
      records = λ j. rw m.was (elim (cases_eq j k) [
        | inl same ↦
            let g : replaced k new alone j ≡ new = rw same (at_same k new alone) in
            let here : of_hart j (run_of ks (moved k p s)).events ≡ take (times j ks) rs =
            ih.records j ∙ ap (λ (a : Alone). take (times j ks) a.left) g in
            let mine : (alone j).left ≡ r ∷ rs = rw same e in
            rw (eq-eqb j k same, mine, here, m.as_printed) refl
        | inr ne ↦ rw (ne_eqb j k ne) (ih.records j ∙ ap (λ (a : Alone). take (times j ks) a.left) (at_other k new alone j ne))
      ]);
      after = ih.after;
      keeps = rw m.was ih.keeps;
      left = λ j. elim (cases_eq j k) [
        | inl same ↦
            let mine : (alone j).left ≡ r ∷ rs = rw same e in
            let g : replaced k new alone j ≡ new = rw same (at_same k new alone) in
            rw (eq-eqb j k same, mine) (ih.left j ∙ ap (λ (a : Alone). drop (times j ks) a.left) g)
        | inr ne ↦ rw (ne_eqb j k ne) (ih.left j ∙ ap (λ (a : Alone). drop (times j ks) a.left) (at_other k new alone j ne))
      ];
    }

pub whole_run : (w : Setting) → Good w → (ks : List ℕ) (s : System) (alone : ℕ → Alone) → Keeps w s alone
    → ((j : ℕ) → times j ks ≤ length (alone j).left) → Whole w ks s alone
whole_run w good [] s alone i bound = record { whole = refl; records = λ j. refl; after = alone; keeps = i; left = λ j. refl }
whole_run w good (k ∷ ks) s alone i bound =
    go (alone k).left refl (whole_run w good ks)
  where
    go : (l : List Record) → (alone k).left ≡ l
        → ((s' : System) (alone' : ℕ → Alone) → Keeps w s' alone' → ((j : ℕ) → times j ks ≤ length (alone' j).left) → Whole w ks s' alone')
        → Whole w (k ∷ ks) s alone
    go [] e ih =
        let b : times k (k ∷ ks) ≤ length (alone k).left = bound k in
        let c : suc (times k ks) ≤ length (alone k).left = rw (eq-eqb k k refl) at b in
        let d : length (alone k).left ≡ 0 = ap (λ (l : List Record). length l) e in
        absurd (omega arith)
    go (r ∷ rs) e ih =
        let m : Moved w s alone (sight_of (s.harts k).file s.memory) k r rs =
        one_move w s alone good i (sight_of (s.harts k).file s.memory) k r rs e
        (record { register = λ label n. refl; csr = λ label addr. refl; small = λ label addr size. i.small (word_address addr / 4) })
        (λ label addr size value here there b u.
        let word : word_address addr / 4 ≡ b / 4 = let w' : b / 4 ≡ addr / 4 = eqb-true _ _ (and_parts _ _ u).0 in omega (arith, w') in
        ap (λ (n : ℕ). byte_at b (s.memory n)) word) in
        let new : Alone = next m.step' (alone k) rs in
        on w k ks s alone r rs e m (ih (moved k m.step' s) (replaced k new alone) m.keeps (λ j. elim (cases_eq j k) [
          | inl same ↦
              let b : times j (k ∷ ks) ≤ length (alone j).left = bound j in
              let c : suc (times j ks) ≤ length (alone j).left = rw (eq-eqb j k same) at b in
              let mine : (alone j).left ≡ r ∷ rs = rw same e in
              let d : length (alone j).left ≡ suc (length rs) = ap (λ (l : List Record). length l) mine in
              let f : times j ks ≤ length rs = omega arith in
              let g : replaced k new alone j ≡ new = rw same (at_same k new alone) in
              rw g f
          | inr ne ↦
              let b : times j (k ∷ ks) ≤ length (alone j).left = bound j in
              let c : times j ks ≤ length (alone j).left = rw (ne_eqb j k ne) at b in
              let g : replaced k new alone j ≡ alone j = at_other k new alone j ne in
              rw g c
        ]))
