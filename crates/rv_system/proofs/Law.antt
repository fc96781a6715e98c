-- A sound certificate's harts do in every order of steps what they do alone.
use Rattle.std.proofs.Common.{◌≡◌, ℕ, ◌+◌, ◌*◌, ◌/◌, ◌%◌, ◌^◌, ◌<◌, Bool, true, false, eqb, List, [], ◌∷◌, ◌++◌, Option, Some, None, refl, sym, ap, ◌∙◌, subst, inl, inr, map, length, append-nil, arith}
use Rattle.std.specs.Option.{is_some, unwrap_or}
use Rattle.std.proofs.lemmas.Bool.{cases_Bool, eq-eqb, eqb-true, false_from_ne_true}
use Rattle.std.proofs.lemmas.List.{drop_all, get_or_past}
use Rattle.rv_script.specs.declared.access.Access.{Access}
use Rattle.rv_script.specs.declared.place.Place.TheVariants.{Word}
use Rattle.rv_script.specs.Lists.{HasItem}
use Rattle.rv_script.specs.Bytes.{word_address}
use Rattle.rv_script.specs.Memory.{memory_after}
use Rattle.rv_script.proofs.Items.{has_either}
use Rattle.rv_hart.specs.declared.record.Record.{Record}
use Rattle.rv_hart.specs.Whole.{WholeHart, sight_of, Step, step_of, hart_after}
use Rattle.tpl_admit.specs.declared.certificate.Cert.{Cert}
use Rattle.tpl_admit.specs.System.{System, run_of, times}
use Rattle.tpl_admit.specs.Starts.{start_of, final_of, trace_of, word_of, fixed_in, AgreesWith, zero_elsewhere, first_hart, first_memory, first_system, is_given, lookup}
use Rattle.tpl_ast.specs.States.{AreStartWords}
use Rattle.tpl_admit.specs.Races.{footprint_of}
use Rattle.tpl_admit.specs.Solo.{solo, solo_on, knows_also, AreInitialised, knows_after, SoloStep}
use Rattle.tpl_admit.specs.Validity.{in_turn, IsHartValid, IsSound}
use Rattle.tpl_ast.specs.declared.template.Region.{Region}
use Rattle.rv_system.specs.Faithfulness.{IsFinished, IsFaithful}
use Rattle.rv_hart.proofs.Entries.{step_word}
use Rattle.tpl_admit.proofs.Memory.{HoldsWords, in_turn_none, in_turn_agree, in_turn_at, in_turn_apart}
use Rattle.rv_system.proofs.Orders.{End, Ends, Goes, Alone, Setting, Good, Keeps, Whole, whole_run}

-- what a hart does alone, as a chain
solo_goes : (words : ℕ → Option ℕ) (end : End) (rs : List Record) (knows : ℕ → Bool) (h : WholeHart) (m : ℕ → ℕ)
    → map (λ (x : SoloStep). x.step.did) (solo (length rs) h m).steps ≡ rs
    → AreInitialised words knows (solo (length rs) h m).steps
    → Ends (knows_after knows (solo (length rs) h m).steps) (solo (length rs) h m).hart end
    → Goes words end rs knows h m
solo_goes words end [] knows h m records rests ends = ends
solo_goes words end (r ∷ rs) knows h m records rests ends = go (step_of h m) refl (solo_goes words end rs) records rests ends
  where
    go : (o : Option Step) → step_of h m ≡ o
        → ((knows' : ℕ → Bool) (h' : WholeHart) (m' : ℕ → ℕ) → map (λ (x : SoloStep). x.step.did) (solo (length rs) h' m').steps ≡ rs
        → AreInitialised words knows' (solo (length rs) h' m').steps
        → Ends (knows_after knows' (solo (length rs) h' m').steps) (solo (length rs) h' m').hart end
        → Goes words end rs knows' h' m')
        → map (λ (x : SoloStep). x.step.did) (solo_on o h m (λ h' m'. solo (length rs) h' m')).steps ≡ r ∷ rs
        → AreInitialised words knows (solo_on o h m (λ h' m'. solo (length rs) h' m')).steps
        → Ends (knows_after knows (solo_on o h m (λ h' m'. solo (length rs) h' m')).steps) (solo_on o h m (λ h' m'. solo (length rs) h' m')).hart end
        → Goes words end (r ∷ rs) knows h m
    go None e ih records rests ends = absurd cc
    go (Some s) e ih records rests ends =
        let h' : WholeHart = hart_after s h in
        let m' : ℕ → ℕ = memory_after s.did.accesses m in
        let head : s.did ≡ r = cc in
        let tail : map (λ (x : SoloStep). x.step.did) (solo (length rs) h' m').steps ≡ rs = cc in
        (s, e, head, rests.0, ih (knows_also s.writes knows) h' m' tail rests.1 ends)

-- each word that a chain touches is given
goes_given : (words : ℕ → Option ℕ) (end : End) (rs : List Record) (knows : ℕ → Bool) (h : WholeHart) (m : ℕ → ℕ)
    → Goes words end rs knows h m → (x : Access) → HasItem (footprint_of rs) x → is_some (words (x.addr / 4)) ≡ true
goes_given words end [] knows h m g x i = absurd i
goes_given words end (r ∷ rs) knows h m g x i =
    let ih = goes_given words end rs (knows_also g.0.writes knows) (hart_after g.0 h) (memory_after g.0.did.accesses m) g.4 x in
    let word : x.addr / 4 ≡ word_address x.addr / 4 = omega arith in
    elim (has_either r.accesses (footprint_of rs) x i) [
      | inl here ↦ rw word (g.3 (Word (word_address x.addr)) (step_word h.fixed (sight_of h.file m) g.0 g.1 x (subst (λ (q : Record). HasItem q.accesses x) (sym g.2) here)))
      | inr later ↦ ih later
    ]

has_filled : (f : ℕ → ℕ) (given : ℕ → Option ℕ) → ((x v : ℕ) → given x ≡ Some v → f x ≡ v) → (x : ℕ) → is_some (given x) ≡ true → f x ≡ zero_elsewhere given x
has_filled f given has x some = go (given x) refl some
  where
    go : (o : Option ℕ) → given x ≡ o → is_some o ≡ true → f x ≡ unwrap_or o 0
    go None e s = absurd cc
    go (Some v) e s = has x v e

-- the given words of two memories that agree on them
words_same : (ws : List (ℕ × ℕ)) (m m' : ℕ → ℕ) → ((a : ℕ) → is_some (lookup ws a) ≡ true → m (a / 4) ≡ m' (a / 4))
    → map (λ (w : ℕ × ℕ). m (w.0 / 4)) ws ≡ map (λ (w : ℕ × ℕ). m' (w.0 / 4)) ws
words_same [] m m' h = refl
words_same (w ∷ ws) m m' h =
    let head : m (w.0 / 4) ≡ m' (w.0 / 4) = h w.0 (rw (eq-eqb w.0 w.0 refl) refl) in
    let tail : map (λ (w : ℕ × ℕ). m (w.0 / 4)) ws ≡ map (λ (w : ℕ × ℕ). m' (w.0 / 4)) ws =
    words_same ws m m' (λ a s. h a (elim (cases_Bool (eqb w.0 a)) [ inl e ↦ rw e refl | inr e ↦ rw e s ])) in
    rw (head, tail) refl

abbrev pub end_of : Cert → ℕ → End
end_of c k = record { fixed = fixed_in c.template.ram k (final_of c k); places = lookup (final_of c k).places }

abbrev pub setting : Cert → System → Setting
setting c s = record {
  count = length c.start;
  words = word_of c;
  origin = first_memory c;
  first = s;
  traces = trace_of c;
  ends = end_of c;
}

abbrev pub first_alone : Cert → ℕ → Alone
first_alone c k = record {
  hart = first_hart c k;
  memory = first_memory c;
  knows = is_given (start_of c k);
  did = [];
  left = trace_of c k;
}

first_goes : (c : Cert) (k : ℕ) → IsHartValid c k → Goes (word_of c) (end_of c k) (trace_of c k) (is_given (start_of c k)) (first_hart c k) (first_memory c)
first_goes c k v = solo_goes (word_of c) (end_of c k) (trace_of c k) (is_given (start_of c k)) (first_hart c k) (first_memory c) v.records v.initialised (record { fixed = v.ends.fixed; places = v.ends.places })

all_given : (c : Cert) → IsSound c → (k : ℕ) → k < length c.start → (x : Access) → HasItem (footprint_of (trace_of c k)) x → is_some (word_of c (x.addr / 4)) ≡ true
all_given c v k l x i = goes_given (word_of c) (end_of c k) (trace_of c k) (is_given (start_of c k)) (first_hart c k) (first_memory c) (first_goes c k (v.harts k l)) x i

pub good : (c : Cert) (s : System) → IsSound c → AgreesWith c s → Good (setting c s)
good c s v a = record { race_free = v.race_free; origin = λ n some. has_filled s.memory (word_of c) a.words n some }

-- start words are words at aligned addresses
pub start_word : (ram : List Region) (from : ℕ) (ws : List (ℕ × ℕ)) → AreStartWords ram from ws → (a v : ℕ) → lookup ws a ≡ Some v → (a % 4 ≡ 0) × (v < 2 ^ 32)
start_word ram from [] is a v e = absurd cc
start_word ram from (w ∷ ws) is a v e = elim (cases_Bool (eqb w.0 a)) [
  | inl here ↦
      let place : w.0 ≡ a = eqb-true w.0 a here in
      let value : Some w.1 ≡ Some v = rw here at e in
      (ap (λ (n : ℕ). n % 4) (sym place) ∙ is.1, subst (λ (n : ℕ). n < 2 ^ 32) (cc value) is.3)
  | inr other ↦ start_word ram (w.0 + 4) ws is.4 a v (rw other at e)
]

start_aligned : (ram : List Region) (ws : List (ℕ × ℕ)) → AreStartWords ram 0 ws → (a : ℕ) → is_some (lookup ws a) ≡ true → a % 4 ≡ 0
start_aligned ram ws is a some = go (lookup ws a) refl some
  where
    go : (o : Option ℕ) → lookup ws a ≡ o → is_some o ≡ true → a % 4 ≡ 0
    go None e s = absurd cc
    go (Some v) e s = (start_word ram 0 ws is a v e).0

filled_words : (given : ℕ → Option ℕ) → ((n v : ℕ) → given n ≡ Some v → v < 2 ^ 32) → HoldsWords (zero_elsewhere given)
filled_words given small n = go (given n) refl
  where
    go : (o : Option ℕ) → given n ≡ o → unwrap_or o 0 < 2 ^ 32
    go None e = omega arith
    go (Some v) e = small n v e

pub keeps_first : (c : Cert) (s : System) → IsSound c → AgreesWith c s → Keeps (setting c s) s (first_alone c)
keeps_first c s v a = record {
  each = λ k l. let agrees = a.harts k l in record {
    goes = first_goes c k (v.harts k l);
    fixed = agrees.fixed;
    known = λ key some. has_filled (s.harts k).file (lookup (start_of c k).places) agrees.places key some;
    others = λ key none. refl;
    whole = refl;
    memory = refl;
    small = filled_words (word_of c) (λ n x e. (start_word c.template.ram 0 c.words v.words (n * 4) x e).1);
  };
  past = λ k l. get_or_past c.traces k [] (omega (arith, v.traces));
  memory = sym (in_turn_none (length c.start) s.memory);
  small = a.memory;
}

-- a printed place is known, and another one is not
known_place : (knows : ℕ → Bool) (h : WholeHart) (end : End) → Ends knows h end → (key v : ℕ) → end.places key ≡ Some v → (knows key ≡ true) × (h.file key ≡ v)
known_place knows h end ends key v e = elim (cases_Bool (knows key)) [
  | inl t ↦ let f : end.places key ≡ Some (h.file key) = rw t at (ends.places key) in (t, cc)
  | inr n ↦ let f : end.places key ≡ None = rw n at (ends.places key) in absurd cc
]

unknown_place : (knows : ℕ → Bool) (h : WholeHart) (end : End) → Ends knows h end → (key : ℕ) → end.places key ≡ None → knows key ≡ false
unknown_place knows h end ends key e = false_from_ne_true (knows key) (λ t. let f : end.places key ≡ Some (h.file key) = rw t at (ends.places key) in absurd cc)

pub finished_at : (c : Cert) (s last : System) (after : ℕ → Alone) → IsSound c → AgreesWith c s → Keeps (setting c s) last after → ((k : ℕ) → (after k).left ≡ []) → IsFinished c s last
finished_at c s last after v a keeps none =
    let ends : (k : ℕ) → k < length c.start → Ends (after k).knows (after k).hart (end_of c k) =
    λ k l. subst (λ (rs : List Record). Goes (word_of c) (end_of c k) rs (after k).knows (after k).hart (after k).memory) (none k) (keeps.each k l).goes in
    let did : (k : ℕ) → k < length c.start → (after k).did ≡ footprint_of (trace_of c k) =
    λ k l. sym (append-nil (after k).did) ∙ sym (ap (λ (rs : List Record). (after k).did ++ footprint_of rs) (none k)) ∙ (keeps.each k l).whole in
    let now : last.memory ≡ in_turn (length c.start) (λ k. footprint_of (trace_of c k)) s.memory =
    keeps.memory ∙ in_turn_agree (length c.start) (λ k. footprint_of (trace_of c k)) (λ k. (after k).did) s.memory did in
    record {
      harts = λ k l. record {
        fixed = (keeps.each k l).fixed ∙ sym (ends k l).fixed;
        places = λ key x e. let here = known_place (after k).knows (after k).hart (end_of c k) (ends k l) key x e in (keeps.each k l).known key here.0 ∙ here.1;
      };
      other_places = λ k key l e. (keeps.each k l).others key (unknown_place (after k).knows (after k).hart (end_of c k) (ends k l) key e);
      words = words_same c.words last.memory (in_turn (length c.start) (λ k. footprint_of (trace_of c k)) (first_memory c)) (λ d some.
          let al : d % 4 ≡ 0 = start_aligned c.template.ram c.words v.words d some in
          let back : d / 4 * 4 ≡ d = omega arith in
          let some' : is_some (word_of c (d / 4)) ≡ true = ap (λ (q : ℕ). is_some (lookup c.words q)) back ∙ some in
          ap (λ (m : ℕ → ℕ). m (d / 4)) now
          ∙ in_turn_at (length c.start) (λ k. footprint_of (trace_of c k)) s.memory (first_memory c) (d / 4) (has_filled s.memory (word_of c) a.words (d / 4) some'))
          ∙ v.last;
      other_words = λ n e. ap (λ (m : ℕ → ℕ). m n) now ∙ in_turn_apart (length c.start) (λ k. footprint_of (trace_of c k)) s.memory n (λ j l x i same.
          let some : is_some (word_of c (x.addr / 4)) ≡ true = all_given c v j l x i in
          let no : is_some (word_of c n) ≡ false = ap (λ (o : Option ℕ). is_some o) e in
          let no' : is_some (word_of c (x.addr / 4)) ≡ false = subst (λ (q : ℕ). is_some (word_of c q) ≡ false) same no in
          absurd cc);
    }

pub faithful : (c : Cert) → IsSound c → IsFaithful c
faithful c v s ks a bound =
    let w : Whole (setting c s) ks s (first_alone c) = whole_run (setting c s) (good c s v a) ks s (first_alone c) (keeps_first c s v a) bound in
    record {
      whole = w.whole;
      records = w.records;
      finished = λ complete. finished_at c s (run_of ks s).system w.after v a w.keeps (λ k. w.left k ∙ drop_all (times k ks) (trace_of c k) (omega (arith, complete k)));
    }

-- the system with zero wherever nothing is given begins as the certificate says
pub first_agrees : (c : Cert) → IsSound c → AgreesWith c (first_system c)
first_agrees c v = record {
  harts = λ k l. record { fixed = refl; places = λ key x e. ap (λ (o : Option ℕ). unwrap_or o 0) e };
  words = λ n x e. ap (λ (o : Option ℕ). unwrap_or o 0) e;
  memory = filled_words (word_of c) (λ n x e. (start_word c.template.ram 0 c.words v.words (n * 4) x e).1);
}
