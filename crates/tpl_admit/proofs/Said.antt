-- A certificate stays valid with another template that says the same.
use Rattle.std.proofs.Common.{◌≡◌, ℕ, ◌+◌, ◌++◌, if◌then◌else◌, List, [], ◌∷◌, length, map, drop, Option, Some, None, refl, sym, ap, ◌∙◌, subst}
use Rattle.tpl_ast.specs.declared.template.HartDecl.{HartDecl}
use Rattle.tpl_ast.specs.declared.template.HartState.{HartState}
use Rattle.tpl_ast.specs.declared.template.Region.{Region}
use Rattle.tpl_ast.specs.declared.template.Template.{Template}
use Rattle.tpl_ast.specs.Expansion.{Expanding, expansion_of}
use Rattle.tpl_ast.specs.Laws.{LinesTellExpansions}
use Rattle.tpl_ast.specs.Bodies.{HartLines, hart_lines}
use Rattle.tpl_lang.specs.Parsing.{Said, said_by}
use Rattle.tpl_admit.specs.declared.admission.Unmet.{Unmet}
use Rattle.tpl_admit.specs.declared.certificate.Cert.{Cert}
use Rattle.tpl_admit.specs.Admission.{trace_in}
use Rattle.tpl_admit.specs.Admitting.{failures_from, hart_failures, at_hart}
use Rattle.tpl_admit.specs.Laws.{with_template}
use Rattle.tpl_admit.specs.Solo.{Solo, solo, knows_after, AreInitialised}
use Rattle.tpl_admit.specs.Starts.{final_of, first_memory, fixed_in, is_given, start_of, trace_of, word_of, zero_elsewhere, lookup}
use Rattle.tpl_ast.specs.States.{AreStartWords}
use Rattle.tpl_admit.specs.Validity.{IsHartValid, IsSound, IsValid}

-- ---- what the template admits

same_first : (h h' : HartDecl) (hs hs' : List HartDecl) → map hart_lines (h ∷ hs) ≡ map hart_lines (h' ∷ hs') → hart_lines h ≡ hart_lines h'
same_first h h' hs hs' same = ap (first_or (hart_lines h)) same where
  first_or : HartLines → List HartLines → HartLines
  first_or d [] = d
  first_or d (x ∷ xs) = x

same_rest : (h h' : HartDecl) (hs hs' : List HartDecl) → map hart_lines (h ∷ hs) ≡ map hart_lines (h' ∷ hs') → map hart_lines hs ≡ map hart_lines hs'
same_rest h h' hs hs' same = ap (drop 1) same

-- what says the same fails alike
pub failures_same : LinesTellExpansions → (c : Cert) (t u : Template) → t.words ≡ u.words → (k : ℕ) (hs hs' : List HartDecl) → map hart_lines hs ≡ map hart_lines hs' → (o : Option (List ℕ))
    → failures_from (trace_in (with_template c t)) k hs o ≡ failures_from (trace_in (with_template c u)) k hs' o
failures_same tell c t u words k hs hs' same None = refl
failures_same tell c t u words k [] [] same (Some choices) = refl
failures_same tell c t u words k (h ∷ hs) (h' ∷ hs') same (Some choices) =
    let first : hart_lines h ≡ hart_lines h' = same_first h h' hs hs' same in
    let start : h.start ≡ h'.start = ap (λ (l : HartLines). l.start) first in
    let laid : expansion_of h.body.items ≡ expansion_of h'.body.items = tell h.body.items h'.body.items (ap (λ (l : HartLines). l.body) first) in
    ap (λ (x : Expanding). map (at_hart k) (hart_failures (trace_in (with_template c t)) k h (x choices).pieces) ++ failures_from (trace_in (with_template c t)) (k + 1) hs (x choices).left) laid
    ∙ ap (λ (s : HartState). map (at_hart k) (hart_failures (trace_in (with_template c t)) k (record { start = s; body = h.body }) (expansion_of h'.body.items choices).pieces) ++ failures_from (trace_in (with_template c t)) (k + 1) hs (expansion_of h'.body.items choices).left) start
    ∙ ap (λ (ws : List (ℕ × ℕ)). map (at_hart k) (hart_failures (record (trace_in (with_template c t)) { template = record t { words = ws } }) k (record { start = h'.start; body = h.body }) (expansion_of h'.body.items choices).pieces) ++ failures_from (trace_in (with_template c t)) (k + 1) hs (expansion_of h'.body.items choices).left) words
    ∙ ap (λ (fs : List Unmet). map (at_hart k) (hart_failures (trace_in (with_template c u)) k h' (expansion_of h'.body.items choices).pieces) ++ fs) (failures_same tell c t u words (k + 1) hs hs' (same_rest h h' hs hs' same) (expansion_of h'.body.items choices).left)
failures_same tell c t u words k [] (h' ∷ hs') same (Some choices) = absurd (cc same)
failures_same tell c t u words k (h ∷ hs) [] same (Some choices) = absurd (cc same)

-- ---- the machine

-- what hart k does alone, in this RAM
alone_in : Cert → ℕ → List Region → Solo
alone_in c k ram = solo (length (trace_of c k)) (record { fixed = fixed_in ram k (start_of c k); file = zero_elsewhere (lookup (start_of c k).places) }) (first_memory c)

hart_same : (c : Cert) (k : ℕ) (t : Template) → c.template.ram ≡ t.ram → IsHartValid c k → IsHartValid (with_template c t) k
unfolding alone_in
hart_same c k t ram v = record {
  records = subst (λ (r : List Region). map (λ x. x.step.did) (alone_in c k r).steps ≡ trace_of c k) ram v.records;
  initialised = subst (λ (r : List Region). AreInitialised (word_of c) (is_given (start_of c k)) (alone_in c k r).steps) ram v.initialised;
  ends = record {
    fixed = subst (λ (r : List Region). fixed_in r k (final_of c k) ≡ (alone_in c k r).hart.fixed) ram v.ends.fixed;
    places = λ key. subst (λ (r : List Region). lookup (final_of c k).places key ≡ (if knows_after (is_given (start_of c k)) (alone_in c k r).steps key then Some ((alone_in c k r).hart.file key) else None)) ram (v.ends.places key);
  };
}

sound_same : (c : Cert) (t : Template) → c.template.ram ≡ t.ram → IsSound c → IsSound (with_template c t)
sound_same c t ram s = record {
  traces = s.traces;
  finals = s.finals;
  start_places = s.start_places;
  final_places = s.final_places;
  words = subst (λ (r : List Region). AreStartWords r 0 c.words) ram s.words;
  harts = λ k within. hart_same c k t ram (s.harts k within);
  race_free = s.race_free;
  last = s.last;
}

pub said_decides : LinesTellExpansions → (c : Cert) (t : Template) → said_by c.template ≡ said_by t → IsValid c → IsValid (with_template c t)
said_decides tell c t same v = record {
  sound = sound_same c t (ap (λ (s : Said). s.ram) same) v.sound;
  admits = sym (failures_same tell c c.template t (ap (λ (s : Said). s.words) same) 0 c.template.harts t.harts (ap (λ (s : Said). s.harts) same) (Some c.choices)) ∙ v.admits;
}
