-- A certificate of a test that was made is sound.
use Rattle.std.proofs.Common.{◌≡◌, ℕ, ◌+◌, ◌*◌, ◌/◌, ◌^◌, ◌<◌, Bool, true, false, eqb, if◌then◌else◌, List, [], ◌∷◌, Option, Some, None, refl, sym, ap, ◌∙◌, subst, inl, inr, map, arith}
use Rattle.std.specs.Option.{is_some, unwrap_or}
use Rattle.std.proofs.Math.Path.{fun_ext}
use Rattle.std.proofs.lemmas.Bool.{cases_Bool}
use Rattle.rv_script.specs.declared.access.Access.{Access}
use Rattle.rv_hart.specs.declared.record.Record.{Record}
use Rattle.rv_hart.specs.Whole.{WholeHart}
use Rattle.foot_map.specs.Races.{IsRaceFree}
use Rattle.tpl_ast.specs.declared.template.Region.{Region}
use Rattle.tpl_admit.specs.declared.certificate.Cert.{Cert}
use Rattle.tpl_admit.specs.Races.{footprints_of}
use Rattle.tpl_admit.specs.Starts.{start_of, trace_of, word_of, zero_elsewhere, first_hart, first_memory, first_system, is_given, lookup}
use Rattle.tpl_ast.specs.States.{AreStartWords}
use Rattle.tpl_admit.specs.Solo.{solo_run, knows_after}
use Rattle.tpl_admit.specs.Validity.{in_turn, IsHartValid}
use Rattle.part_laws.specs.Partial.{Held, Partial, Begins, End, Runs, is_held, IsReached, IsAlone, IsPartialTest}
use Rattle.part_laws.specs.Laws.{IsMade, FinishLaw, BegunLaw}
use Rattle.part_laws.proofs.Runs.{IsSolo, runs_solo}

-- start words are words
small_word : (ram : List Region) (from : ℕ) (ws : List (ℕ × ℕ)) → AreStartWords ram from ws → (a v : ℕ) → lookup ws a ≡ Some v → v < 2 ^ 32
small_word ram from [] is a v e = absurd (cc e)
small_word ram from (w ∷ ws) is a v e = elim (cases_Bool (eqb w.0 a)) [
  | inl here ↦ let value : Some w.1 ≡ Some v = rw here at e in subst (λ (n : ℕ). n < 2 ^ 32) (cc value) is.3
  | inr other ↦ small_word ram (w.0 + 4) ws is.4 a v (rw other at e)
]

filled_at : (given : ℕ → Option ℕ) (x v : ℕ) → given x ≡ Some v → zero_elsewhere given x ≡ v
filled_at given x v e = ap (λ (o : Option ℕ). unwrap_or o 0) e

filled_small : (given : ℕ → Option ℕ) → ((n v : ℕ) → given n ≡ Some v → v < 2 ^ 32) → (n : ℕ) → zero_elsewhere given n < 2 ^ 32
filled_small given small n = go (given n) refl
  where
    go : (o : Option ℕ) → given n ≡ o → unwrap_or o 0 < 2 ^ 32
    go None e = omega arith
    go (Some v) e = small n v e

-- the system with zero wherever nothing is given begins so
first_begins : (p : Partial) (c : Cert) → IsMade p c → Begins p (first_system c)
first_begins p c made = record {
  fixed = λ k l. (made.start k l).fixed;
  places = λ k key v l e. filled_at (lookup (start_of c k).places) key v ((made.start k l).places key ∙ e);
  words = λ n v e. filled_at (word_of c) n v (made.words n ∙ e);
  small = filled_small (word_of c) (λ n v e. small_word c.template.ram 0 c.words made.start_words (n * 4) v e);
}

-- hart k of the certificate, alone
solo_made : (p : Partial) (c : Cert) → IsMade p c → (k : ℕ) → k < p.count → (a : IsAlone p (first_system c) k)
    → IsSolo (word_of c) (is_given (start_of c k)) (trace_of c k) a.end (solo_run c k)
solo_made p c made k l a =
    let words : p.words ≡ word_of c = fun_ext (λ n. sym (made.words n)) in
    let given : is_held (p.start k) ≡ is_given (start_of c k) = fun_ext (λ key. ap (λ (o : Option ℕ). is_some o) (sym ((made.start k l).places key))) in
    let one : Runs p.words (is_held (p.start k)) (first_hart c k) (first_memory c) (trace_of c k) a.end =
    subst (λ (rs : List Record). Runs p.words (is_held (p.start k)) (first_hart c k) (first_memory c) rs a.end) (sym (made.records k)) a.runs in
    let two : Runs (word_of c) (is_held (p.start k)) (first_hart c k) (first_memory c) (trace_of c k) a.end =
    subst (λ (w : ℕ → Option ℕ). Runs w (is_held (p.start k)) (first_hart c k) (first_memory c) (trace_of c k) a.end) words one in
    let three : Runs (word_of c) (is_given (start_of c k)) (first_hart c k) (first_memory c) (trace_of c k) a.end =
    subst (λ (q : ℕ → Bool). Runs (word_of c) q (first_hart c k) (first_memory c) (trace_of c k) a.end) given two in
    runs_solo (word_of c) (is_given (start_of c k)) (first_hart c k) (first_memory c) (trace_of c k) a.end three

place_told : (first : WholeHart) (e : End) (now : Held) (key : ℕ) → IsReached first e now → now.places key ≡ (if e.knows key then Some (e.hart.file key) else None)
place_told first e now key reached = go (now.places key) refl
  where
    go : (o : Option ℕ) → now.places key ≡ o → o ≡ (if e.knows key then Some (e.hart.file key) else None)
    go None is = let unknown : e.knows key ≡ false = reached.knows key ∙ ap (λ (q : Option ℕ). is_some q) is in rw unknown refl
    go (Some v) is =
        let known : e.knows key ≡ true = reached.knows key ∙ ap (λ (q : Option ℕ). is_some q) is in
        let value : e.hart.file key ≡ v = reached.values key v is in
        rw (known, value) refl

hart_made : (p : Partial) (c : Cert) → IsPartialTest p → IsMade p c → (k : ℕ) → k < p.count → IsHartValid c k
hart_made p c test made k l =
    let a : IsAlone p (first_system c) k = test.alone (first_system c) (first_begins p c made) k l in
    let s = solo_made p c made k l a in
    record {
      records = s.records;
      initialised = s.initialised;
      ends = record {
        fixed = (made.end k l).fixed ∙ sym a.reached.fixed ∙ ap (λ (h : WholeHart). h.fixed) (sym s.hart);
        places = λ key.
            (made.end k l).places key ∙ place_told (first_hart c k) a.end (p.harts k) key a.reached
            ∙ ap (λ (q : ℕ → Bool). if q key then Some (a.end.hart.file key) else None) (sym s.knows)
            ∙ ap (λ (h : WholeHart). if knows_after (is_given (start_of c k)) (solo_run c k).steps key then Some (h.file key) else None) (sym s.hart);
      };
    }

-- the last values, word by word
last_made : (memory : ℕ → Option ℕ) (m : ℕ → ℕ) → ((n v : ℕ) → memory n ≡ Some v → m n ≡ v) → (ws : List (ℕ × ℕ)) (last : List ℕ)
    → map (λ v. Some v) last ≡ map (λ (w : ℕ × ℕ). memory (w.0 / 4)) ws → map (λ (w : ℕ × ℕ). m (w.0 / 4)) ws ≡ last
last_made memory m shows [] [] e = refl
last_made memory m shows [] (v ∷ last) e = absurd (cc e)
last_made memory m shows (w ∷ ws) [] e = absurd (cc e)
last_made memory m shows (w ∷ ws) (v ∷ last) e =
    let head : Some v ≡ memory (w.0 / 4) = cc e in
    let tail : map (λ v. Some v) last ≡ map (λ (w : ℕ × ℕ). memory (w.0 / 4)) ws = cc e in
    rw (shows (w.0 / 4) v (sym head), last_made memory m shows ws last tail) refl

same_footprints : (p : Partial) (c : Cert) → IsMade p c → footprints_of (trace_of c) ≡ footprints_of p.records
same_footprints p c made = let traces : trace_of c ≡ p.records = fun_ext made.records in ap footprints_of traces

pub finish : FinishLaw
finish p c test made =
    let all : footprints_of (trace_of c) ≡ footprints_of p.records = same_footprints p c made in
    let shows : (n v : ℕ) → p.memory n ≡ Some v → in_turn p.count (footprints_of p.records) (first_memory c) n ≡ v = test.memory (first_system c) (first_begins p c made) in
    record {
      traces = made.traces ∙ sym made.count;
      finals = made.finals ∙ sym made.count;
      start_places = made.start_places;
      final_places = made.final_places;
      words = made.start_words;
      harts = λ k l. hart_made p c test made k (subst (λ (n : ℕ). k < n) made.count l);
      race_free = subst IsRaceFree (sym all) test.race_free;
      last = ap (λ (n : ℕ). map (λ (w : ℕ × ℕ). in_turn n (footprints_of (trace_of c)) (first_memory c) (w.0 / 4)) c.words) made.count
          ∙ ap (λ (did : ℕ → List Access). map (λ (w : ℕ × ℕ). in_turn p.count did (first_memory c) (w.0 / 4)) c.words) all
          ∙ last_made p.memory (in_turn p.count (footprints_of p.records) (first_memory c)) shows c.words c.last made.last;
    }

pub begun : BegunLaw
begun p small = (
  record { harts = λ k. record { fixed = (p.start k).fixed; file = zero_elsewhere (p.start k).places }; memory = zero_elsewhere p.words },
  record {
    fixed = λ k l. refl;
    places = λ k key v l e. filled_at (p.start k).places key v e;
    words = λ n v e. filled_at p.words n v e;
    small = filled_small p.words small;
  },
)
