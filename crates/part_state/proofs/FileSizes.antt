-- The limit of a file's bytes follows from the others.
use Rattle.std.proofs.Common.{◌≡◌, ℕ, suc, ◌+◌, ◌-◌, ◌*◌, ◌<◌, ◌≤◌, min, Bool, true, false, eqb, if◌then◌else◌, ◌==◌, ◌||◌, List, [], ◌∷◌, length, Option, refl, sym, ap, ◌∙◌, subst, inl, inr, arith}
use Rattle.std.specs.Prelude.{sum_by, slice_get}
use Rattle.std.specs.List.{AllByRecursion, list_any}
use Rattle.std.proofs.lemmas.Bool.{cases_Bool, cases_lt, eqb-true}
use Rattle.std.proofs.lemmas.List.Sums.{sum_by-cons}
use Rattle.std.proofs.lemmas.Option.{slice_get_past}
use Rattle.rv_csr.specs.Table.{csr_key, lazy_csrs}
use Rattle.rv_hart.specs.declared.record.Record.{Record}
use Rattle.tpl_ast.specs.declared.template.HartState.{HartState}
use Rattle.tpl_ast.specs.declared.template.NameDecl.{NameDecl}
use Rattle.tpl_lang.specs.Laws.{TemplatesKeepLimits}
use Rattle.tpl_ast.specs.Limits.{FileLimits, file_limits}
use Rattle.tpl_ast.specs.States.{is_key, ArePlaces, IsState}
use Rattle.tpl_ast.specs.Templates.{KeepsLimits}
use Rattle.tpl_admit.specs.declared.certificate.Cert.{Cert}
use Rattle.tpl_admit.specs.Sizes.{runs_behind, run_count, state_bytes, record_bytes, trace_bytes, note_bytes, rest_bytes, file_size}
use Rattle.tpl_admit.specs.WellFormed.{IsNamed, IsRecordBy, AreNamed}
use Rattle.part_state.specs.Files.{FileSizesFollow}

-- ---- runs of words

runs_few : (next : ℕ) (words : List (ℕ × ℕ)) → runs_behind next words ≤ length words
runs_few next [] = omega arith
runs_few next (w ∷ words) = let ih = runs_few (w.0 + 4) words in at_most (w.0 == next) (runs_behind (w.0 + 4) words) (length words) ih
  where
    at_most : (b : Bool) (n size : ℕ) → n ≤ size → (if b then 0 else 1) + n ≤ suc size
    at_most true n size le = omega arith
    at_most false n size le = omega arith

count_few : (words : List (ℕ × ℕ)) → run_count words ≤ length words
count_few [] = omega arith
count_few (w ∷ words) = let few = runs_few (w.0 + 4) words in omega (arith, few)

-- ---- places

-- how many of these CSRs have a key below a number
abbrev csrs_below : ℕ → List ℕ → ℕ
csrs_below n [] = 0
csrs_below n (a ∷ addrs) = min 1 (n - csr_key a) + csrs_below n addrs

csrs_most : (n : ℕ) (addrs : List ℕ) → csrs_below n addrs ≤ length addrs
csrs_most n [] = omega arith
csrs_most n (a ∷ addrs) = let ih = csrs_most n addrs in omega (arith, ih)

csrs_rise : (m n : ℕ) (addrs : List ℕ) → m ≤ n → csrs_below m addrs ≤ csrs_below n addrs
csrs_rise m n [] l = omega arith
csrs_rise m n (a ∷ addrs) l = let ih = csrs_rise m n addrs l in omega (arith, ih, l)

csrs_step : (key : ℕ) (addrs : List ℕ) → list_any (λ a. eqb key (csr_key a)) addrs ≡ true → csrs_below key addrs + 1 ≤ csrs_below (key + 1) addrs
csrs_step key [] is = absurd (cc is)
csrs_step key (a ∷ addrs) is = elim (cases_Bool (eqb key (csr_key a))) [
  | inl t ↦
      let same : key ≡ csr_key a = eqb-true key (csr_key a) t in
      let rest : csrs_below key addrs ≤ csrs_below (key + 1) addrs = csrs_rise key (key + 1) addrs (omega arith) in
      omega (arith, same, rest)
  | inr f ↦
      let ih : csrs_below key addrs + 1 ≤ csrs_below (key + 1) addrs = csrs_step key addrs (sym (ap (λ (b : Bool). b || list_any (λ a. eqb key (csr_key a)) addrs) f) ∙ is) in
      omega (arith, ih)
]

-- a bound on how many keys lie below a number: 0, which is none, is counted with the registers
abbrev keys_below : ℕ → ℕ
keys_below n = min n 32 + csrs_below n lazy_csrs

keys_most : (n : ℕ) → keys_below n ≤ 42
keys_most n = let csrs : csrs_below n lazy_csrs ≤ 10 = csrs_most n lazy_csrs in omega (arith, csrs)

keys_rise : (m n : ℕ) → m ≤ n → keys_below m ≤ keys_below n
keys_rise m n l = let csrs : csrs_below m lazy_csrs ≤ csrs_below n lazy_csrs = csrs_rise m n lazy_csrs l in omega (arith, csrs, l)

keys_step : (key : ℕ) → is_key key ≡ true → keys_below key + 1 ≤ keys_below (key + 1)
keys_step key is = elim (cases_lt key 32) [
  | inl low ↦
      let csrs : csrs_below key lazy_csrs ≤ csrs_below (key + 1) lazy_csrs = csrs_rise key (key + 1) lazy_csrs (omega arith) in
      omega (arith, low, csrs)
  | inr high ↦
      let csrs : csrs_below key lazy_csrs + 1 ≤ csrs_below (key + 1) lazy_csrs = csrs_step key lazy_csrs (grind (arith, is, high)) in
      omega (arith, high, csrs)
]

places_few : (from : ℕ) (es : List (ℕ × ℕ)) → ArePlaces from es → length es + keys_below from ≤ 42
places_few from [] are = let most : keys_below from ≤ 42 = keys_most from in omega (arith, most)
places_few from (e ∷ es) are =
    let above : keys_below from ≤ keys_below e.0 = keys_rise from e.0 are.0 in
    let here : keys_below e.0 + 1 ≤ keys_below (e.0 + 1) = keys_step e.0 are.1 in
    let rest : length es + keys_below (e.0 + 1) ≤ 42 = places_few (e.0 + 1) es are.3 in
    omega (arith, above, here, rest)

states_few : (ss : List HartState) → AllByRecursion IsState ss → sum_by state_bytes ss ≤ 360 * length ss
states_few [] are = omega arith
states_few (s ∷ ss) are =
    let sum : sum_by state_bytes (s ∷ ss) ≡ state_bytes s + sum_by state_bytes ss = sum_by-cons state_bytes s ss in
    let places : length s.places + keys_below 0 ≤ 42 = places_few 0 s.places are.0.places in
    let rest : sum_by state_bytes ss ≤ 360 * length ss = states_few ss are.1 in
    omega (arith, sum, places, rest)

pub states_within : (ss : List HartState) → AllByRecursion IsState ss → length ss ≤ 4 → sum_by state_bytes ss ≤ 1440
states_within ss are few = let bytes : sum_by state_bytes ss ≤ 360 * length ss = states_few ss are in omega (arith, bytes, few)

-- ---- records

records_few : (limits : FileLimits) (rs : List Record) → limits.accesses ≡ 8 → AllByRecursion (IsRecordBy limits) rs → sum_by record_bytes rs ≤ 124 * length rs
records_few limits [] eight are = omega arith
records_few limits (r ∷ rs) eight are =
    let sum : sum_by record_bytes (r ∷ rs) ≡ record_bytes r + sum_by record_bytes rs = sum_by-cons record_bytes r rs in
    let count : length r.accesses ≤ limits.accesses = are.0.count in
    let rest : sum_by record_bytes rs ≤ 124 * length rs = records_few limits rs eight are.1 in
    omega (arith, sum, count, eight, rest)

traces_few : (limits : FileLimits) (ts : List (List Record)) → limits.accesses ≡ 8 → AllByRecursion (λ t. AllByRecursion (IsRecordBy limits) t) ts
    → sum_by trace_bytes ts ≤ 4 * length ts + 124 * sum_by (λ t. length t) ts
traces_few limits [] eight are = omega arith
traces_few limits (t ∷ ts) eight are =
    let sum : sum_by trace_bytes (t ∷ ts) ≡ trace_bytes t + sum_by trace_bytes ts = sum_by-cons trace_bytes t ts in
    let steps : sum_by (λ q. length q) (t ∷ ts) ≡ length t + sum_by (λ q. length q) ts = sum_by-cons (λ (q : List Record). length q) t ts in
    let here : sum_by record_bytes t ≤ 124 * length t = records_few limits t eight are.0 in
    let rest : sum_by trace_bytes ts ≤ 4 * length ts + 124 * sum_by (λ q. length q) ts = traces_few limits ts eight are.1 in
    omega (arith, sum, steps, here, rest)

pub traces_within : (limits : FileLimits) (ts : List (List Record)) → limits.accesses ≡ 8 → AllByRecursion (λ t. AllByRecursion (IsRecordBy limits) t) ts
    → length ts ≤ 4 → sum_by (λ t. length t) ts ≤ 8192 → sum_by trace_bytes ts ≤ 1015824
traces_within limits ts eight are few steps =
    let bytes : sum_by trace_bytes ts ≤ 4 * length ts + 124 * sum_by (λ t. length t) ts = traces_few limits ts eight are in
    omega (arith, bytes, few, steps)

-- ---- names

named_below : (names : List NameDecl) (n v : ℕ) → IsNamed (slice_get names n) v → n < length names
named_below names n v is = elim (cases_lt n (length names)) [
  | inl l ↦ l
  | inr past ↦ absurd (subst (λ (o : Option NameDecl). IsNamed o v) (slice_get_past names n past) is)
]

names_few : (names : List NameDecl) (from : ℕ) (es : List (ℕ × ℕ)) → AreNamed names from es → length es ≤ length names - from
names_few names from [] are = omega arith
names_few names from (e ∷ es) are =
    let above : from ≤ e.0 = are.0 in
    let below : e.0 < length names = named_below names e.0 e.1 are.3 in
    let rest : length es ≤ length names - (e.0 + 1) = names_few names (e.0 + 1) es are.4 in
    omega (arith, above, below, rest)

pub names_within : (names : List NameDecl) (es : List (ℕ × ℕ)) → AreNamed names 0 es → length names ≤ 256 → length es ≤ 256
names_within names es are few = let count : length es ≤ length names - 0 = names_few names 0 es are in omega (arith, count, few)

-- ---- the whole

-- how much each part has at most
pub record IsCounted (c : Cert) : Type 0 where
  pub start : sum_by state_bytes c.start ≤ 1440
  pub finals : sum_by state_bytes c.finals ≤ 1440
  pub traces : sum_by trace_bytes c.traces ≤ 1015824
  pub words : length c.words ≤ 60000
  pub last : length c.last ≤ 60000
  pub text : length c.template.text ≤ 65536
  pub choices : length c.choices ≤ 8192
  pub names : length c.names ≤ 256
  pub dropped : length c.dropped ≤ 262144

note_within : (n most : ℕ) → n ≤ most → note_bytes n ≤ most + 23
note_within n most l = omega (arith, l)

total : (runs words start traces finals text rest : ℕ) → runs ≤ 60000 → words ≤ 60000 → start ≤ 1471 → traces ≤ 1015847 → finals ≤ 241467 → text ≤ 65559 → rest ≤ 4229155
    → 52 + 32 * (1 + runs) + (start + (traces + (finals + (text + rest))) + 4 * words) ≤ 8388608
total runs words start traces finals text rest few short a b c d e = omega (arith, few, short, a, b, c, d, e)

pub size_within : (c : Cert) → IsCounted c → file_size c ≤ 8388608
size_within c is =
    let start : ℕ = 8 + sum_by state_bytes c.start in
    let traces : ℕ = sum_by trace_bytes c.traces in
    let finals : ℕ = sum_by state_bytes c.finals + (4 + 4 * length c.last) in
    let text : ℕ = length c.template.text in
    let runs : run_count c.words ≤ length c.words = count_few c.words in
    total (run_count c.words) (length c.words) (note_bytes start) (note_bytes traces) (note_bytes finals) (note_bytes text) (note_bytes (rest_bytes c))
    (omega (arith, runs, is.words))
    is.words
    (note_within start 1448 (omega (arith, is.start)))
    (note_within traces 1015824 is.traces)
    (note_within finals 241444 (omega (arith, is.finals, is.last)))
    (note_within text 65536 is.text)
    (note_within (rest_bytes c) 4229132 (omega (arith, is.choices, is.names, is.dropped)))

pub file_sizes : TemplatesKeepLimits → FileSizesFollow
file_sizes law c is =
    let of_template : KeepsLimits c.template.text c.template = law c.template.text c.template is.template in
    size_within c (record {
      start = states_within c.start is.start is.harts;
      finals = states_within c.finals is.finals (omega (arith, is.finals_count, is.harts));
      traces = traces_within (record file_limits { size = file_size c }) c.traces refl is.traces (omega (arith, is.traces_count, is.harts)) is.steps;
      words = is.words_count;
      last = omega (arith, is.last_count, is.words_count);
      text = of_template.text;
      choices = is.choices_count;
      names = names_within c.template.names c.names is.names of_template.names_count;
      dropped = is.dropped_count;
    })
