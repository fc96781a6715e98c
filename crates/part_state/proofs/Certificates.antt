-- The certificate of a test is made of it.
use Rattle.std.proofs.Common.{◌≡◌, ◌≢◌, ℕ, zero, suc, ◌+◌, ◌*◌, ◌/◌, ◌%◌, ◌<◌, ◌≤◌, true, List, [], ◌∷◌, length, map, get_or, Option, Some, refl, sym, ap, ◌∙◌, subst, arith}
use Rattle.std.specs.Prelude.{All}
use Rattle.std.specs.List.{AllByRecursion}
use Rattle.std.specs.Option.{is_some}
use Rattle.std.proofs.lemmas.Bool.{eq-eqb, ne_eqb}
use Rattle.std.proofs.lemmas.List.{get_or-map, length-map}
use Rattle.std.proofs.lemmas.List.Elements.{All-cons}
use Rattle.rv_mem.specs.declared.words.Seen.{Seen}
use Rattle.rv_mem.specs.declared.words.Seen.TheVariants.{Known as KnownWord, Untouched, Vacant}
use Rattle.rv_mem.specs.Seen.{known_word, is_there}
use Rattle.rv_mem.specs.Ram.{in_ram}
use Rattle.rv_hart.specs.declared.record.Record.{Record}
use Rattle.tpl_ast.specs.declared.template.HartState.{HartState}
use Rattle.tpl_ast.specs.declared.template.Region.{Region}
use Rattle.tpl_ast.specs.declared.template.Template.{Template}
use Rattle.tpl_lang.specs.Laws.{TemplatesKeepLimits}
use Rattle.tpl_ast.specs.Templates.{KeepsLimits}
use Rattle.tpl_ast.specs.Limits.{file_limits}
use Rattle.tpl_lang.specs.Parsing.{Parses}
use Rattle.tpl_admit.specs.declared.certificate.Cert.{Cert}
use Rattle.tpl_admit.specs.Starts.{no_state, lookup}
use Rattle.tpl_ast.specs.States.{ArePlaces, AreStartWords, IsState, IsWord, is_in_ram}
use Rattle.tpl_admit.specs.WellFormed.{IsWellFormed}
use Rattle.part_machine.specs.Notes.{IsKnownAt}
use Rattle.part_machine.specs.Whole.{Bare, Whole, given, no_hart}
use Rattle.part_laws.specs.Laws.{IsStateOf, IsMade}
use Rattle.part_told.specs.Finishing.{told_state}
use Rattle.part_told.specs.Words.{AreListed, IsWithinRam, IsWordAt, ListsWords}
use Rattle.part_state.specs.Meaning.{held_in, partial_of, IsFit, IsTest}
use Rattle.part_state.specs.Told.{Tells, FitsFile}
use Rattle.part_state.proofs.KnownPlaces.{told_state_is}
use Rattle.part_state.proofs.FileSizes.{IsCounted, names_within, size_within, states_within, traces_within}

-- ---- the words of the start

record IsOfTest (w : Whole) (n : ℕ) : Type 0 where
  pub value : ℕ
  pub known : w.memory n ≡ KnownWord value
  pub there : in_ram w.ram n ≡ true

of_test : (w : Whole) (n v : ℕ) → IsTest w → given w.words n ≡ Some v → IsOfTest w n
of_test w n v test e = go (w.memory n) refl (test.test.known n ∙ ap (λ (o : Option ℕ). is_some o) e)
  where
    go : (s : Seen) → w.memory n ≡ s → is_some (known_word s) ≡ true → IsOfTest w n
    go (KnownWord u) is t = record { value = u; known = is; there = sym (test.there n) ∙ ap is_there is }
    go Untouched is t = absurd (cc t)
    go Vacant is t = absurd (cc t)

-- they lie in RAM, and are known
pub given_inside : (w : Whole) → IsTest w → IsWithinRam w.ram w.words
given_inside w test n v e = (of_test w n v test e).there

pub given_known : (w : Whole) → IsTest w → (n v : ℕ) → given w.words n ≡ Some v → IsKnownAt w.memory (n * 4)
given_known w test n v e =
    let o : IsOfTest w n = of_test w n v test e in
    let same : n * 4 / 4 ≡ n = omega arith in
    (o.value, ap w.memory same ∙ o.known)

known_from_list : (ram : List (ℕ × ℕ)) (at : ℕ → Seen) (from : ℕ) (es : List (ℕ × ℕ)) → AreListed ram from es → ((n v : ℕ) → from ≤ n * 4 → lookup es (n * 4) ≡ Some v → IsKnownAt at (n * 4)) → All (λ e. IsWordAt at e.0) es
known_from_list ram at from [] are known = λ k d l. absurd (omega (arith, l))
known_from_list ram at from (e ∷ es) are known =
    let aligned : e.0 % 4 ≡ 0 = are.1 in
    let whole : e.0 / 4 * 4 ≡ e.0 = omega (arith, aligned) in
    let here : IsKnownAt at (e.0 / 4 * 4) = known (e.0 / 4) e.1 (omega (arith, whole, are.0)) (rw (eq-eqb e.0 (e.0 / 4 * 4) (sym whole)) refl) in
    All-cons (λ (x : ℕ × ℕ). IsWordAt at x.0) e es (aligned, subst (IsKnownAt at) whole here) (known_from_list ram at (e.0 + 4) es are.4 later)
  where
    later : (n v : ℕ) → e.0 + 4 ≤ n * 4 → lookup es (n * 4) ≡ Some v → IsKnownAt at (n * 4)
    later n v above is =
        let other : e.0 ≢ n * 4 = λ same. absurd (omega (arith, same, above)) in
        known n v (omega (arith, above, are.0)) (rw (ne_eqb e.0 (n * 4) other) is)

pub listed_known : (ram words pairs : List (ℕ × ℕ)) (at : ℕ → Seen) → ListsWords ram words pairs → ((n v : ℕ) → given words n ≡ Some v → IsKnownAt at (n * 4)) → All (λ e. IsWordAt at e.0) pairs
listed_known ram words pairs at lists known = known_from_list ram at 0 pairs lists.listed (λ n v above is. known n v (sym (lists.values n) ∙ is))

start_words : (ram : List Region) (ends : List (ℕ × ℕ)) → ((n : ℕ) → is_in_ram ram (n * 4) ≡ in_ram ends n) → (from : ℕ) (es : List (ℕ × ℕ)) → AreListed ends from es → AreStartWords ram from es
start_words ram ends same from [] are = tt
start_words ram ends same from (e ∷ es) are =
    let whole : e.0 / 4 * 4 ≡ e.0 = let aligned : e.0 % 4 ≡ 0 = are.1 in omega (arith, aligned) in
    (are.0, are.1, sym (ap (is_in_ram ram) whole) ∙ same (e.0 / 4) ∙ are.2, are.3, start_words ram ends same (e.0 + 4) es are.4)

-- ---- the states

state_places : (ss : List HartState) (k : ℕ) → AllByRecursion IsState ss → ArePlaces 0 (get_or ss k no_state).places
state_places [] k are = tt
state_places (s ∷ ss) zero are = are.0.places
state_places (s ∷ ss) (suc k) are = state_places ss k are.1

state_is : (c : Cert) (w : Whole) (ss : List HartState) (bs : List Bare) (k : ℕ) → ss ≡ map told_state bs → k < length bs → IsFit (get_or bs k no_hart) → (get_or bs k no_hart).csrs.hart ≡ k
    → ((n : ℕ) → is_in_ram c.template.ram (n * 4) ≡ is_there (w.memory n)) → IsStateOf c k (get_or ss k no_state) (held_in (get_or bs k no_hart) w.memory)
state_is c w ss bs k is l fit number there =
    let same : get_or ss k no_state ≡ told_state (get_or bs k no_hart) = ap (λ (qs : List HartState). get_or qs k no_state) is ∙ get_or-map told_state bs k no_hart no_state l in
    subst (λ (s : HartState). IsStateOf c k s (held_in (get_or bs k no_hart) w.memory)) (sym same) (told_state_is c k (get_or bs k no_hart) w.memory fit number there)

-- ---- the whole

pub made_of : (t : Template) (w : Whole) (c : Cert) → IsTest w → ((n : ℕ) → is_in_ram t.ram (n * 4) ≡ in_ram w.ram n) → Tells t w c → AllByRecursion IsState c.start → AllByRecursion IsState c.finals → IsMade (partial_of w) c
made_of t w c test ram tells start finals = record {
  count = ap (λ (ss : List HartState). length ss) tells.start ∙ length-map w.first told_state ∙ test.first;
  traces = ap (λ (ts : List (List Record)). length ts) tells.traces ∙ test.traces;
  finals = ap (λ (ss : List HartState). length ss) tells.finals ∙ length-map w.harts told_state;
  start = λ k l. state_is c w c.start w.first k tells.start (omega (arith, l, test.first)) (test.fit_first k l) (test.number_first k l) there;
  end = λ k l. state_is c w c.finals w.harts k tells.finals l (test.fit k l) (test.number k l) there;
  records = λ k. ap (λ (ts : List (List Record)). get_or ts k none) tells.traces;
  words = tells.words.values;
  last = tells.last;
  start_places = λ k. state_places c.start k start;
  final_places = λ k. state_places c.finals k finals;
  start_words = start_words c.template.ram w.ram same 0 c.words tells.words.listed;
}
  where
    none : List Record
    none = []

    same : (n : ℕ) → is_in_ram c.template.ram (n * 4) ≡ in_ram w.ram n
    same n = ap (λ (q : Template). is_in_ram q.ram (n * 4)) tells.template ∙ ram n

    there : (n : ℕ) → is_in_ram c.template.ram (n * 4) ≡ is_there (w.memory n)
    there n = same n ∙ sym (test.there n)

-- it is well formed, where it fits into a file
pub well_formed_of : (t : Template) (w : Whole) (c : Cert) → TemplatesKeepLimits → IsTest w → length t.harts ≡ length w.harts → IsMade (partial_of w) c → Tells t w c
    → AllByRecursion IsState c.start → AllByRecursion IsState c.finals → AllByRecursion IsWord c.last → AllByRecursion IsWord c.choices → Parses t.text t → FitsFile c → IsWellFormed c
well_formed_of t w c law test harts made tells start finals last choices parses fits =
    let limits : KeepsLimits t.text t = law t.text t parses in
    let template : Parses c.template.text c.template = subst (λ (q : Template). Parses q.text q) (sym tells.template) parses in
    let of_template : KeepsLimits c.template.text c.template = law c.template.text c.template template in
    let same : length c.template.harts ≡ length t.harts = ap (λ (q : Template). length q.harts) tells.template in
    let harts_few : length c.start ≤ 4 = omega (arith, made.count, harts, limits.harts) in
    let finals_count : length c.finals ≡ length c.start = made.finals ∙ sym made.count in
    let traces_count : length c.traces ≡ length c.start = made.traces ∙ sym made.count in
    let last_count : length c.last ≡ length c.words = sym (length-map c.last (λ (v : ℕ). Some v)) ∙ ap (λ (os : List (Option ℕ)). length os) tells.last ∙ length-map c.words (λ (e : ℕ × ℕ). known_word (w.memory (e.0 / 4))) in
    let counted : IsCounted c = record {
      start = states_within c.start start harts_few;
      finals = states_within c.finals finals (omega (arith, finals_count, harts_few));
      traces = traces_within file_limits c.traces refl fits.records (omega (arith, traces_count, harts_few)) fits.steps;
      words = fits.words_count;
      last = omega (arith, last_count, fits.words_count);
      text = of_template.text;
      choices = fits.choices_count;
      names = names_within c.template.names c.names fits.names of_template.names_count;
      dropped = fits.dropped_count;
    } in
    record {
      size = size_within c counted;
      some_harts = omega (arith, made.count, harts, limits.some_harts);
      harts = harts_few;
      start = start;
      finals_count = finals_count;
      finals = finals;
      traces_count = traces_count;
      traces = fits.records;
      steps = fits.steps;
      words_count = fits.words_count;
      words = made.start_words;
      last_count = last_count;
      last = last;
      template = template;
      template_harts = same ∙ harts ∙ sym made.count;
      choices_count = fits.choices_count;
      choices = choices;
      names = fits.names;
      dropped_count = fits.dropped_count;
      dropped = fits.dropped;
    }
