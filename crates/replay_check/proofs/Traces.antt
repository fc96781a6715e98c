-- Steps one after another.
use Rattle.std.proofs.Common.{◌≡◌, ℕ, suc, ◌+◌, ◌<◌, Bool, true, false, List, [], ◌∷◌, length, map, drop, get_or, Option, Some, None, refl, sym, ap, ◌∙◌, subst, inl, inr}
use Rattle.std.specs.Prelude.{All}
use Rattle.std.proofs.lemmas.List.{drop_more}
use Rattle.rv_mem.specs.declared.words.Seen.{Seen}
use Rattle.rv_script.specs.Memory.{memory_after}
use Rattle.rv_hart.specs.Effects.{IsInWord, seen_after}
use Rattle.rv_hart.specs.declared.hart.Hart.{Hart}
use Rattle.rv_hart.specs.declared.record.Record.{Record}
use Rattle.rv_hart.specs.Whole.{WholeHart, Step, step_of, hart_after}
use Rattle.tpl_ast.specs.declared.template.Region.{Region}
use Rattle.tpl_admit.specs.Races.{footprint_of}
use Rattle.tpl_admit.specs.Solo.{Solo, solo, solo_on, knows_also, AreInitialised, knows_after, SoloStep, IsRight, AreRight}
use Rattle.replay_check.specs.Failures.{IsWrong, GoesWrong}
use Rattle.given_start.specs.Knowledge.{knows_of, whole_of}
use Rattle.replay_check.specs.Internal.Memory.{Shows, AreInWords}
use Rattle.replay_check.specs.Internal.Replay.{Takes, Strays, TakesAll, StraysAt}
use Rattle.replay_check.proofs.Shown.{shown_same, shown_after, after_both}

pub split_at : {A : Type 0} (xs : List A) (i : ℕ) (x : A) → i < length xs → x ≡ get_or xs i x → drop i xs ≡ x ∷ drop (i + 1) xs
split_at {A} xs i x within is = drop_more xs i x within ∙ ap (λ (y : A). y ∷ drop (i + 1) xs) (sym is)

-- ---- the loop over records: all is said by the records that are left, on the memory of now

pub record IsUpTo (ram : List Region) (given : ℕ → Option ℕ) (origin : ℕ → ℕ) (first now : Hart) (at : ℕ → Seen) (rs : List Record) (i : ℕ) : Type 0 where
  pub memory : ℕ → ℕ
  pub shows : Shows ram given memory at
  pub after : memory_after (footprint_of rs) origin ≡ memory_after (footprint_of (drop i rs)) memory
  pub words : AreInWords (drop i rs) → AreInWords rs
  pub right : AreRight given (knows_of now) (whole_of ram now) memory (drop i rs) → AreRight given (knows_of first) (whole_of ram first) origin rs
  pub wrong : (kind step : ℕ) → GoesWrong given (knows_of now) (whole_of ram now) memory (drop i rs) i kind step → GoesWrong given (knows_of first) (whole_of ram first) origin rs 0 kind step
  pub hart : (solo (length rs) (whole_of ram first) origin).hart ≡ (solo (length (drop i rs)) (whole_of ram now) memory).hart
  pub knows : knows_after (knows_of first) (solo (length rs) (whole_of ram first) origin).steps ≡ knows_after (knows_of now) (solo (length (drop i rs)) (whole_of ram now) memory).steps

pub up_to_none : (ram : List Region) (given : ℕ → Option ℕ) (m : ℕ → ℕ) (h : Hart) (at : ℕ → Seen) (rs : List Record) → Shows ram given m at → IsUpTo ram given m h h at rs 0
up_to_none ram given m h at rs s = record { memory = m; shows = s; after = refl; words = λ a. a; right = λ a. a; wrong = λ kind step g. g; hart = refl; knows = refl }

-- the course of a hart whose first step is this
solo_next : (n : ℕ) (h h' : WholeHart) (m m' : ℕ → ℕ) (s : Step) → step_of h m ≡ Some s → hart_after s h ≡ h' → memory_after s.did.accesses m ≡ m'
    → solo (suc n) h m ≡ record { steps = record { hart = h; memory = m; step = s } ∷ (solo n h' m').steps; hart = (solo n h' m').hart }
solo_next n h h' m m' s is after stored =
    ap (λ (o : Option Step). solo_on o h m (λ h' m'. solo n h' m')) is
    ∙ ap (λ (w : ℕ → ℕ). let r : Solo = record { steps = record { hart = h; memory = m; step = s } ∷ (solo n (hart_after s h) w).steps; hart = (solo n (hart_after s h) w).hart } in r) stored
    ∙ ap (λ (g : WholeHart). let r : Solo = record { steps = record { hart = h; memory = m; step = s } ∷ (solo n g m').steps; hart = (solo n g m').hart } in r) after

-- what the step stores is what its record says
stored : (given : ℕ → Option ℕ) (knows : ℕ → Bool) (h : WholeHart) (m : ℕ → ℕ) (r : Record) (s : Step) → IsRight given knows h m r s → memory_after s.did.accesses m ≡ memory_after r.accesses m
stored given knows h m r s right = ap (λ (q : Record). memory_after q.accesses m) right.did

-- the rest is right, and so all from this step on
right_next : (ram : List Region) (given : ℕ → Option ℕ) (m : ℕ → ℕ) (h new : Hart) (r : Record) (rest : List Record) → Takes ram given m h new r
    → AreRight given (knows_of new) (whole_of ram new) (memory_after r.accesses m) rest → AreRight given (knows_of h) (whole_of ram h) m (r ∷ rest)
right_next ram given m h new r rest t right = (
  t.step,
  t.right,
  subst (λ (w : ℕ → ℕ). AreRight given (knows_also t.step.writes (knows_of h)) (hart_after t.step (whole_of ram h)) w rest) (sym (stored given (knows_of h) (whole_of ram h) m r t.step t.right))
      (subst (λ (g : WholeHart). AreRight given (knows_also t.step.writes (knows_of h)) g (memory_after r.accesses m) rest) t.hart
      (subst (λ (k : ℕ → Bool). AreRight given k (whole_of ram new) (memory_after r.accesses m) rest) t.knows right)),
)

wrong_next : (ram : List Region) (given : ℕ → Option ℕ) (m : ℕ → ℕ) (h new : Hart) (r : Record) (rest : List Record) (i kind step : ℕ) → Takes ram given m h new r
    → GoesWrong given (knows_of new) (whole_of ram new) (memory_after r.accesses m) rest (i + 1) kind step
    → GoesWrong given (knows_of h) (whole_of ram h) m (r ∷ rest) i kind step
wrong_next ram given m h new r rest i kind step t wrong =
    inr (
      t.step,
      t.right,
      subst (λ (w : ℕ → ℕ). GoesWrong given (knows_also t.step.writes (knows_of h)) (hart_after t.step (whole_of ram h)) w rest (i + 1) kind step) (sym (stored given (knows_of h) (whole_of ram h) m r t.step t.right))
          (subst (λ (g : WholeHart). GoesWrong given (knows_also t.step.writes (knows_of h)) g (memory_after r.accesses m) rest (i + 1) kind step) t.hart
          (subst (λ (k : ℕ → Bool). GoesWrong given k (whole_of ram new) (memory_after r.accesses m) rest (i + 1) kind step) t.knows wrong)),
    )

pub up_to_next : (ram : List Region) (given : ℕ → Option ℕ) (origin : ℕ → ℕ) (first now new : Hart) (at seen : ℕ → Seen) (rs : List Record) (i : ℕ) (r : Record) → drop i rs ≡ r ∷ drop (i + 1) rs
    → (u : IsUpTo ram given origin first now at rs i) → Takes ram given u.memory now new r → ((n : ℕ) → seen n ≡ seen_after r.accesses at n) → All IsInWord r.accesses
    → IsUpTo ram given origin first new seen rs (i + 1)
up_to_next ram given origin first now new at seen rs i r split u t same words =
    let rest : List Record = drop (i + 1) rs in
    let m : ℕ → ℕ = u.memory in
    let m' : ℕ → ℕ = memory_after r.accesses m in
    let count : length (drop i rs) ≡ suc (length rest) = ap (λ (l : List Record). length l) split in
    let next = solo_next (length rest) (whole_of ram now) (whole_of ram new) m m' t.step t.right.step (sym t.hart) (stored given (knows_of now) (whole_of ram now) m r t.step t.right) in
    let course = ap (λ (n : ℕ). solo n (whole_of ram now) m) count ∙ next in
    record {
      memory = m';
      shows = shown_same ram given m' (seen_after r.accesses at) seen same (shown_after ram given m at r.accesses u.shows);
      after = u.after ∙ ap (λ (l : List Record). memory_after (footprint_of l) m) split ∙ after_both r.accesses (footprint_of rest) m;
      words = λ a. u.words (rw split (words, a));
      right = λ a. u.right (rw split (right_next ram given m now new r rest t a));
      wrong = λ kind step g. u.wrong kind step (rw split (wrong_next ram given m now new r rest i kind step t g));
      hart = u.hart ∙ ap (λ (s : Solo). s.hart) course;
      knows = u.knows ∙ ap (λ (s : Solo). knows_after (knows_of now) s.steps) course ∙ ap (λ (k : ℕ → Bool). knows_after k (solo (length rest) (whole_of ram new) m').steps) (sym t.knows);
    }

pub up_to_end : (ram : List Region) (given : ℕ → Option ℕ) (origin : ℕ → ℕ) (first now : Hart) (at : ℕ → Seen) (rs : List Record) (i : ℕ) → drop i rs ≡ [] → IsUpTo ram given origin first now at rs i
    → TakesAll ram given origin first now rs
up_to_end ram given origin first now at rs i none u = record {
  right = u.right (rw none tt);
  hart = u.hart ∙ ap (λ (l : List Record). (solo (length l) (whole_of ram now) u.memory).hart) none;
  knows = u.knows ∙ ap (λ (l : List Record). knows_after (knows_of now) (solo (length l) (whole_of ram now) u.memory).steps) none;
}

pub up_to_memory : (ram : List Region) (given : ℕ → Option ℕ) (origin : ℕ → ℕ) (first now : Hart) (at : ℕ → Seen) (rs : List Record) (i : ℕ) → drop i rs ≡ [] → IsUpTo ram given origin first now at rs i
    → Shows ram given (memory_after (footprint_of rs) origin) at
up_to_memory ram given origin first now at rs i none u =
    let last : memory_after (footprint_of rs) origin ≡ u.memory = u.after ∙ ap (λ (l : List Record). memory_after (footprint_of l) u.memory) none in
    subst (λ (w : ℕ → ℕ). Shows ram given w at) (sym last) u.shows

pub up_to_words : (ram : List Region) (given : ℕ → Option ℕ) (origin : ℕ → ℕ) (first now : Hart) (at : ℕ → Seen) (rs : List Record) (i : ℕ) → drop i rs ≡ [] → IsUpTo ram given origin first now at rs i
    → AreInWords rs
up_to_words ram given origin first now at rs i none u = u.words (rw none tt)

pub up_to_wrong : (ram : List Region) (given : ℕ → Option ℕ) (origin : ℕ → ℕ) (first now : Hart) (at : ℕ → Seen) (rs : List Record) (i : ℕ) (r : Record) (kind : ℕ) → drop i rs ≡ r ∷ drop (i + 1) rs
    → (u : IsUpTo ram given origin first now at rs i) → Strays ram given u.memory now r kind → StraysAt ram given origin first rs kind i
up_to_wrong ram given origin first now at rs i r kind split u strays = u.wrong kind i (rw split (inl (strays, refl)))

-- ---- right steps

-- records that are right are those of the hart alone, each initialised
pub record IsCourse (words : ℕ → Option ℕ) (knows : ℕ → Bool) (rs : List Record) (s : Solo) : Type 0 where
  pub records : map (λ (x : SoloStep). x.step.did) s.steps ≡ rs
  pub initialised : AreInitialised words knows s.steps

pub course : (words : ℕ → Option ℕ) (knows : ℕ → Bool) (h : WholeHart) (m : ℕ → ℕ) (rs : List Record) → AreRight words knows h m rs → IsCourse words knows rs (solo (length rs) h m)
course words knows h m [] right = record { records = refl; initialised = tt }
course words knows h m (r ∷ rs) right =
    let s : Step = right.0 in
    let h' : WholeHart = hart_after s h in
    let m' : ℕ → ℕ = memory_after s.did.accesses m in
    let ih = course words (knows_also s.writes knows) h' m' rs right.2 in
    let whole : Solo = record { steps = record { hart = h; memory = m; step = s } ∷ (solo (length rs) h' m').steps; hart = (solo (length rs) h' m').hart } in
    let is : solo (suc (length rs)) h m ≡ whole = ap (λ (o : Option Step). solo_on o h m (λ h' m'. solo (length rs) h' m')) right.1.step in
    let done : IsCourse words knows (r ∷ rs) whole = record {
      records = ap (λ (q : Record). q ∷ map (λ (x : SoloStep). x.step.did) (solo (length rs) h' m').steps) right.1.did ∙ ap (λ (qs : List Record). r ∷ qs) ih.records;
      initialised = (right.1.set, ih.initialised);
    } in
    subst (IsCourse words knows (r ∷ rs)) (sym is) done

pub right_course : (words : ℕ → Option ℕ) (knows : ℕ → Bool) (h : WholeHart) (m : ℕ → ℕ) (rs : List Record)
    → map (λ (x : SoloStep). x.step.did) (solo (length rs) h m).steps ≡ rs → AreInitialised words knows (solo (length rs) h m).steps → AreRight words knows h m rs
right_course words knows h m [] records initialised = tt
right_course words knows h m (r ∷ rs) records initialised = go (step_of h m) refl (λ k h' m' a b. right_course words k h' m' rs a b) records initialised
  where
    go : (o : Option Step) → step_of h m ≡ o
        → ((k : ℕ → Bool) (h' : WholeHart) (m' : ℕ → ℕ) → map (λ (x : SoloStep). x.step.did) (solo (length rs) h' m').steps ≡ rs → AreInitialised words k (solo (length rs) h' m').steps → AreRight words k h' m' rs)
        → map (λ (x : SoloStep). x.step.did) (solo_on o h m (λ h' m'. solo (length rs) h' m')).steps ≡ r ∷ rs
        → AreInitialised words knows (solo_on o h m (λ h' m'. solo (length rs) h' m')).steps
        → AreRight words knows h m (r ∷ rs)
    go None e ih records initialised = absurd (cc records)
    go (Some s) e ih records initialised =
        let h' : WholeHart = hart_after s h in
        let m' : ℕ → ℕ = memory_after s.did.accesses m in
        let head : s.did ≡ r = cc records in
        let tail : map (λ (x : SoloStep). x.step.did) (solo (length rs) h' m').steps ≡ rs = cc records in
        (s, record { set = initialised.0; step = e; did = head }, ih (knows_also s.writes knows) h' m' tail initialised.1)

-- ---- one failure at most

same_step : (o : Option Step) (s t : Step) → o ≡ Some s → o ≡ Some t → s ≡ t
same_step o s t a b = let e : Some s ≡ Some t = sym a ∙ b in cc e

some_none : (o : Option Step) (s : Step) → o ≡ Some s → o ≡ None → ⊥
some_none o s a b = let e : Some s ≡ None = sym a ∙ b in absurd (cc e)

true_false : (b : Bool) → b ≡ true → b ≡ false → ⊥
true_false b t f = let e : true ≡ false = sym t ∙ f in absurd (cc e)

right_wrong : (words : ℕ → Option ℕ) (knows : ℕ → Bool) (h : WholeHart) (m : ℕ → ℕ) (r : Record) (s : Step) (kind : ℕ) → IsRight words knows h m r s → IsWrong words knows h m r kind → ⊥
right_wrong words knows h m r s kind right (inl missing) = true_false _ (right.set missing.1 missing.2) missing.3
right_wrong words knows h m r s kind right (inr (inl outside)) = some_none (step_of h m) s right.step outside.2
right_wrong words knows h m r s kind right (inr (inr other)) = other.4 (ap (λ (t : Step). t.did) (same_step (step_of h m) other.2 s other.3 right.step) ∙ right.did)

wrong_once : (words : ℕ → Option ℕ) (knows : ℕ → Bool) (h : WholeHart) (m : ℕ → ℕ) (r : Record) (kind kind' : ℕ) → IsWrong words knows h m r kind → IsWrong words knows h m r kind' → kind ≡ kind'
wrong_once words knows h m r kind kind' (inl a) (inl b) = a.0 ∙ sym b.0
wrong_once words knows h m r kind kind' (inl a) (inr (inl b)) = absurd (true_false _ (b.1 a.1 a.2) a.3)
wrong_once words knows h m r kind kind' (inl a) (inr (inr b)) = absurd (true_false _ (b.1 a.1 a.2) a.3)
wrong_once words knows h m r kind kind' (inr (inl a)) (inl b) = absurd (true_false _ (a.1 b.1 b.2) b.3)
wrong_once words knows h m r kind kind' (inr (inl a)) (inr (inl b)) = a.0 ∙ sym b.0
wrong_once words knows h m r kind kind' (inr (inl a)) (inr (inr b)) = absurd (some_none (step_of h m) b.2 b.3 a.2)
wrong_once words knows h m r kind kind' (inr (inr a)) (inl b) = absurd (true_false _ (a.1 b.1 b.2) b.3)
wrong_once words knows h m r kind kind' (inr (inr a)) (inr (inl b)) = absurd (some_none (step_of h m) a.2 a.3 b.2)
wrong_once words knows h m r kind kind' (inr (inr a)) (inr (inr b)) = a.0 ∙ sym b.0

pub right_never : (words : ℕ → Option ℕ) (knows : ℕ → Bool) (h : WholeHart) (m : ℕ → ℕ) (rs : List Record) (n kind step : ℕ) → AreRight words knows h m rs → GoesWrong words knows h m rs n kind step → ⊥
right_never words knows h m [] n kind step right wrong = wrong
right_never words knows h m (r ∷ rs) n kind step right wrong = go (λ k h' m' right' wrong'. right_never words k h' m' rs (n + 1) kind step right' wrong') wrong
  where
    go : ((k : ℕ → Bool) (h' : WholeHart) (m' : ℕ → ℕ) → AreRight words k h' m' rs → GoesWrong words k h' m' rs (n + 1) kind step → ⊥) → GoesWrong words knows h m (r ∷ rs) n kind step → ⊥
    go ih (inl here) = right_wrong words knows h m r right.0 kind right.1 here.0
    go ih (inr later) =
        let s : Step = right.0 in
        let same = same_step (step_of h m) later.0 s later.1.step right.1.step in
        ih (knows_also s.writes knows) (hart_after s h) (memory_after s.did.accesses m) right.2
        (subst (λ (t : Step). GoesWrong words (knows_also t.writes knows) (hart_after t h) (memory_after t.did.accesses m) rs (n + 1) kind step) same later.2)

pub goes_once : (words : ℕ → Option ℕ) (knows : ℕ → Bool) (h : WholeHart) (m : ℕ → ℕ) (rs : List Record) (n kind step kind' step' : ℕ) → GoesWrong words knows h m rs n kind step → GoesWrong words knows h m rs n kind' step'
    → (kind ≡ kind') × (step ≡ step')
goes_once words knows h m [] n kind step kind' step' wrong also = absurd wrong
goes_once words knows h m (r ∷ rs) n kind step kind' step' wrong also = go (λ k h' m' a b. goes_once words k h' m' rs (n + 1) kind step kind' step' a b) wrong also
  where
    go : ((k : ℕ → Bool) (h' : WholeHart) (m' : ℕ → ℕ) → GoesWrong words k h' m' rs (n + 1) kind step → GoesWrong words k h' m' rs (n + 1) kind' step' → (kind ≡ kind') × (step ≡ step'))
        → GoesWrong words knows h m (r ∷ rs) n kind step → GoesWrong words knows h m (r ∷ rs) n kind' step' → (kind ≡ kind') × (step ≡ step')
    go ih (inl here) (inl there) = (wrong_once words knows h m r kind kind' here.0 there.0, here.1 ∙ sym there.1)
    go ih (inl here) (inr later) = absurd (right_wrong words knows h m r later.0 kind later.1 here.0)
    go ih (inr later) (inl here) = absurd (right_wrong words knows h m r later.0 kind' later.1 here.0)
    go ih (inr later) (inr after) =
        let s : Step = after.0 in
        let same = same_step (step_of h m) later.0 s later.1.step after.1.step in
        ih (knows_also s.writes knows) (hart_after s h) (memory_after s.did.accesses m)
        (subst (λ (t : Step). GoesWrong words (knows_also t.writes knows) (hart_after t h) (memory_after t.did.accesses m) rs (n + 1) kind step) same later.2) after.2
