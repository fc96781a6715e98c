-- Runs of one hart alone.
use Rattle.std.proofs.Common.{◌≡◌, ℕ, suc, ◌/◌, Bool, true, false, ◌||◌, eqb, List, [], ◌∷◌, ◌++◌, Option, refl, sym, ap, ◌∙◌, subst, inl, inr, map, length, arith}
use Rattle.std.specs.Option.{is_some}
use Rattle.std.proofs.Math.Path.{fun_ext}
use Rattle.rv_script.specs.declared.access.Access.{Access}
use Rattle.rv_script.specs.declared.place.Place.{Place}
use Rattle.rv_script.specs.declared.place.Place.TheVariants.{Reg, Csr, Word}
use Rattle.rv_script.specs.Lists.{HasItem}
use Rattle.rv_script.specs.Bytes.{word_address}
use Rattle.rv_script.specs.Memory.{memory_after}
use Rattle.rv_script.proofs.Items.{has_either}
use Rattle.rv_csr.specs.Table.{csr_key}
use Rattle.rv_hart.specs.declared.record.Record.{Record}
use Rattle.rv_hart.specs.Whole.{WholeHart, sight_of, Step, hart_after}
use Rattle.tpl_admit.specs.Solo.{IsRight, Solo, solo, solo_on, is_set, knows_also, AreInitialised, knows_after, SoloStep}
use Rattle.tpl_admit.specs.Races.{footprint_of}
use Rattle.rv_hart.proofs.Entries.{step_word}
use Rattle.tpl_admit.proofs.Memory.{memory_after_append}
use Rattle.part_laws.specs.Partial.{End, Runs}

-- the end after one step more
abbrev pub end_after : Step → End → End
end_after s e = record { hart = hart_after s e.hart; memory = memory_after s.did.accesses e.memory; knows = knows_also s.writes e.knows }

pub right_here : (words : ℕ → Option ℕ) (k k' : ℕ → Bool) (h h' : WholeHart) (m m' : ℕ → ℕ) (r : Record) (s : Step)
    → k ≡ k' → h ≡ h' → m ≡ m' → IsRight words k h m r s → IsRight words k' h' m' r s
right_here words k k' h h' m m' r s ek eh em right =
    subst (λ (q : ℕ → Bool). IsRight words q h' m' r s) ek (subst (λ (g : WholeHart). IsRight words k g m' r s) eh (subst (λ (n : ℕ → ℕ). IsRight words k h n r s) em right))

-- one step more
pub runs_more : (words : ℕ → Option ℕ) (knows : ℕ → Bool) (h : WholeHart) (m : ℕ → ℕ) (rs : List Record) (e : End) (r : Record) (s : Step)
    → Runs words knows h m rs e → IsRight words e.knows e.hart e.memory r s → Runs words knows h m (rs ++ r ∷ []) (end_after s e)
runs_more words knows h m [] e r s runs right = (
  s,
  right_here words e.knows knows e.hart h e.memory m r s runs.2 runs.0 runs.1 right,
  (ap (λ (g : WholeHart). hart_after s g) runs.0, ap (λ (n : ℕ → ℕ). memory_after s.did.accesses n) runs.1, ap (λ (q : ℕ → Bool). knows_also s.writes q) runs.2),
)
runs_more words knows h m (q ∷ rs) e r s runs right =
    (runs.0, runs.1, runs_more words (knows_also runs.0.writes knows) (hart_after runs.0 h) (memory_after runs.0.did.accesses m) rs e r s runs.2 right)

-- memory at the end is what the accesses of the records make of it
pub runs_memory : (words : ℕ → Option ℕ) (knows : ℕ → Bool) (h : WholeHart) (m : ℕ → ℕ) (rs : List Record) (e : End)
    → Runs words knows h m rs e → e.memory ≡ memory_after (footprint_of rs) m
runs_memory words knows h m [] e runs = runs.1
runs_memory words knows h m (r ∷ rs) e runs =
    let s : Step = runs.0 in
    runs_memory words (knows_also s.writes knows) (hart_after s h) (memory_after s.did.accesses m) rs e runs.2
    ∙ ap (λ (q : Record). memory_after (footprint_of rs) (memory_after q.accesses m)) runs.1.did
    ∙ sym (memory_after_append r.accesses (footprint_of rs) m)

-- each word that a run touches is given
pub runs_given : (words : ℕ → Option ℕ) (knows : ℕ → Bool) (h : WholeHart) (m : ℕ → ℕ) (rs : List Record) (e : End)
    → Runs words knows h m rs e → (x : Access) → HasItem (footprint_of rs) x → is_some (words (x.addr / 4)) ≡ true
runs_given words knows h m [] e runs x i = absurd i
runs_given words knows h m (r ∷ rs) e runs x i =
    let s : Step = runs.0 in
    let ih = runs_given words (knows_also s.writes knows) (hart_after s h) (memory_after s.did.accesses m) rs e runs.2 x in
    let word : x.addr / 4 ≡ word_address x.addr / 4 = omega arith in
    elim (has_either r.accesses (footprint_of rs) x i) [
      | inl here ↦ rw word (runs.1.set (Word (word_address x.addr)) (step_word h.fixed (sight_of h.file m) s runs.1.step x (subst (λ (q : Record). HasItem q.accesses x) (sym runs.1.did) here)))
      | inr later ↦ ih later
    ]

-- where more is given, the same is done
set_more : (knows knows' : ℕ → Bool) (words words' : ℕ → Option ℕ) → ((key : ℕ) → knows key ≡ true → knows' key ≡ true) → ((n : ℕ) → is_some (words n) ≡ true → is_some (words' n) ≡ true)
    → (place : Place) → is_set knows words place ≡ true → is_set knows' words' place ≡ true
set_more knows knows' words words' more_keys more_words (Reg n) set = go (eqb n 0) set
  where
    go : (b : Bool) → (b || knows n) ≡ true → (b || knows' n) ≡ true
    go true e = refl
    go false e = more_keys n e
set_more knows knows' words words' more_keys more_words (Csr addr) set = more_keys (csr_key addr) set
set_more knows knows' words words' more_keys more_words (Word addr) set = more_words (addr / 4) set

pub or_more : (b c : Bool) → c ≡ true → (b || c) ≡ true
or_more true c e = refl
or_more false c e = e

or_swap : (a b c : Bool) → (a || (b || c)) ≡ (b || (a || c))
or_swap true true c = refl
or_swap true false c = refl
or_swap false true c = refl
or_swap false false c = refl

pub runs_words : (words words' : ℕ → Option ℕ) (knows : ℕ → Bool) (h : WholeHart) (m : ℕ → ℕ) (rs : List Record) (e : End)
    → ((n : ℕ) → is_some (words n) ≡ true → is_some (words' n) ≡ true) → Runs words knows h m rs e → Runs words' knows h m rs e
runs_words words words' knows h m [] e more runs = runs
runs_words words words' knows h m (r ∷ rs) e more runs =
    let s : Step = runs.0 in (
      s,
      record { set = λ place at. set_more knows knows words words' (λ key t. t) more place (runs.1.set place at); step = runs.1.step; did = runs.1.did },
      runs_words words words' (knows_also s.writes knows) (hart_after s h) (memory_after s.did.accesses m) rs e more runs.2,
    )

-- some keys more
abbrev pub and_keys : (ℕ → Bool) → (ℕ → Bool) → ℕ → Bool
and_keys extra knows key = extra key || knows key

pub runs_keys : (words : ℕ → Option ℕ) (extra knows : ℕ → Bool) (h : WholeHart) (m : ℕ → ℕ) (rs : List Record) (e : End)
    → Runs words knows h m rs e → Runs words (and_keys extra knows) h m rs (record e { knows = and_keys extra e.knows })
runs_keys words extra knows h m [] e runs = (runs.0, runs.1, ap (λ (q : ℕ → Bool). and_keys extra q) runs.2)
runs_keys words extra knows h m (r ∷ rs) e runs =
    let s : Step = runs.0 in
    let same : and_keys extra (knows_also s.writes knows) ≡ knows_also s.writes (and_keys extra knows) = fun_ext (λ key. or_swap (extra key) (is_some (s.writes key)) (knows key)) in
    let e' : End = record e { knows = and_keys extra e.knows } in (
      s,
      record { set = λ place at. set_more knows (and_keys extra knows) words words (λ key t. or_more (extra key) (knows key) t) (λ n t. t) place (runs.1.set place at); step = runs.1.step; did = runs.1.did },
      subst (λ (q : ℕ → Bool). Runs words q (hart_after s h) (memory_after s.did.accesses m) rs e') same
          (runs_keys words extra (knows_also s.writes knows) (hart_after s h) (memory_after s.did.accesses m) rs e runs.2),
    )

-- what a run says of the hart alone, as certificates put it
pub record IsSolo (words : ℕ → Option ℕ) (given : ℕ → Bool) (rs : List Record) (e : End) (s : Solo) : Type 0 where
  pub records : map (λ (x : SoloStep). x.step.did) s.steps ≡ rs
  pub initialised : AreInitialised words given s.steps
  pub hart : s.hart ≡ e.hart
  pub knows : knows_after given s.steps ≡ e.knows

pub runs_solo : (words : ℕ → Option ℕ) (knows : ℕ → Bool) (h : WholeHart) (m : ℕ → ℕ) (rs : List Record) (e : End)
    → Runs words knows h m rs e → IsSolo words knows rs e (solo (length rs) h m)
runs_solo words knows h m [] e runs = record { records = refl; initialised = tt; hart = sym runs.0; knows = sym runs.2 }
runs_solo words knows h m (r ∷ rs) e runs =
    let s : Step = runs.0 in
    let h' : WholeHart = hart_after s h in
    let m' : ℕ → ℕ = memory_after s.did.accesses m in
    let ih = runs_solo words (knows_also s.writes knows) h' m' rs e runs.2 in
    let whole : Solo = record { steps = record { hart = h; memory = m; step = s } ∷ (solo (length rs) h' m').steps; hart = (solo (length rs) h' m').hart } in
    let is : solo (suc (length rs)) h m ≡ whole = ap (λ (o : Option Step). solo_on o h m (λ h' m'. solo (length rs) h' m')) runs.1.step in
    let done : IsSolo words knows (r ∷ rs) e whole = record {
      records = ap (λ (q : Record). q ∷ map (λ (x : SoloStep). x.step.did) (solo (length rs) h' m').steps) runs.1.did ∙ ap (λ (qs : List Record). r ∷ qs) ih.records;
      initialised = (runs.1.set, ih.initialised);
      hart = ih.hart;
      knows = ih.knows;
    } in
    subst (IsSolo words knows (r ∷ rs) e) (sym is) done
