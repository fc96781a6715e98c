-- A text has one test at most, or one line that says why none is given.
use Rattle.std.proofs.Common.{◌≡◌, ℕ, ◌<◌, ◌≤◌, inl, inr, List, length, sym, ◌∙◌, ap, arith, Result, Ok, Err}
use Rattle.tpl_lang.specs.declared.fault.Fault.{Fault}
use Rattle.tpl_ast.specs.declared.template.Template.{Template}
use Rattle.tpl_lang.specs.Laws.{LongTextsAreRefused, TemplatesKeepLimits}
use Rattle.tpl_lang.specs.Parsing.{Parses, Said, parses, said_by}
use Rattle.tpl_admit.specs.declared.certificate.Cert.{Cert}
use Rattle.tpl_admit.specs.Laws.{with_template}
use Rattle.elf_image.specs.File.{file_bytes}
use Rattle.gen_turn.specs.declared.making.Generated.{Generated}
use Rattle.gen_turn.specs.declared.making.Generated.TheVariants as made
use Rattle.gen_turn.specs.Laws.{TextsTellWhatIsMade}
use Rattle.trace_text.specs.Faults.{fault_text}
use Rattle.trace_text.specs.Report.{report_text}
use Rattle.trace_text.specs.Verdicts.{gave_up_text}
use Rattle.tool_words.specs.declared.command.Effort.{Effort}
use Rattle.tool_texts.specs.Tests.{IsGaveUpLine, IsRefusal, IsTemplateLine, IsTest}
use Rattle.tool_texts.proofs.Told.{file_same, report_same}

same_ok : (x y : Said) → ◌≡◌ {A = Result Said Fault} (Ok x) (Ok y) → x ≡ y
same_ok x y e = cc

same_fault : (x y : Fault) → ◌≡◌ {A = Result Said Fault} (Err x) (Err y) → x ≡ y
same_fault x y e = cc

pub not_both : (x : Said) (y : Fault) → ◌≡◌ {A = Result Said Fault} (Ok x) (Err y) → ⊥
not_both x y e = cc

said_same : (text : List ℕ) (t u : Template) → Parses text t → Parses text u → said_by t ≡ said_by u
said_same text t u p q = same_ok _ _ (sym p.says ∙ q.says)

same_done : (c d : Cert) → made.Done c ≡ made.Done d → c ≡ d
same_done c d e = cc

not_done : (c : Cert) (n s l : ℕ) → made.Done c ≡ made.GaveUp n s l → ⊥
not_done c n s l e = absurd (cc e)

abbrev numbers_of : Generated → ℕ × ℕ × ℕ
numbers_of (made.Done c) = (0, 0, 0)
numbers_of (made.GaveUp n s l) = (n, s, l)

-- ---- one answer

module _ (tell : TextsTellWhatIsMade) (effort : Effort) (text : List ℕ) where
  pub one_certificate : (a b : Cert) → IsTest effort text a → IsTest effort text b → with_template a b.template ≡ b
  one_certificate a b p q = same_done _ b (tell text a.template b.template effort.seed effort.nodes effort.turns (made.Done a) (made.Done b) p.parses q.parses p.found q.found)

  pub one_test : (a b : Cert) → IsTest effort text a → IsTest effort text b → (file_bytes a ≡ file_bytes b) × (report_text a ≡ report_text b)
  one_test a b p q =
      let said : said_by a.template ≡ said_by b.template = said_same text a.template b.template p.parses q.parses in
      let same = one_certificate a b p q in (
        file_same a b.template (p.parses.text ∙ sym q.parses.text) ∙ ap file_bytes same,
        report_same a b.template (ap (λ (s : Said). s.names) said) ∙ ap report_text same,
      )

  done_or_not : (line : List ℕ) (c : Cert) → IsTest effort text c → IsGaveUpLine effort text line → ⊥
  done_or_not line c test up =
      not_done _ up.none_fits up.spent up.last_line
      (tell text c.template up.template effort.seed effort.nodes effort.turns (made.Done c) (made.GaveUp up.none_fits up.spent up.last_line) test.parses up.parses test.found up.given_up)

  parsed_or_not : (t : Template) (line : List ℕ) → Parses text t → IsTemplateLine text line → ⊥
  parsed_or_not t line parses why = not_both _ _ (sym parses.says ∙ why.1)

  pub no_test : (status : ℕ) (line : List ℕ) (c : Cert) → IsTest effort text c → IsRefusal effort text status line → ⊥
  no_test status line c test (inl why) = parsed_or_not c.template line test.parses why.1
  no_test status line c test (inr up) = done_or_not line c test up.1

  one_line : (l m : List ℕ) → IsTemplateLine text l → IsTemplateLine text m → l ≡ m
  one_line l m v w = v.2 ∙ ap fault_text (same_fault _ _ (sym v.1 ∙ w.1)) ∙ sym w.2

  one_end : (l m : List ℕ) → IsGaveUpLine effort text l → IsGaveUpLine effort text m → l ≡ m
  one_end l m a b =
      let same : made.GaveUp a.none_fits a.spent a.last_line ≡ made.GaveUp b.none_fits b.spent b.last_line =
      tell text a.template b.template effort.seed effort.nodes effort.turns (made.GaveUp a.none_fits a.spent a.last_line) (made.GaveUp b.none_fits b.spent b.last_line) a.parses b.parses a.given_up b.given_up in
      a.line_is ∙ ap (λ (g : Generated). gave_up_text (numbers_of g).0 (numbers_of g).1 (numbers_of g).2) same ∙ sym b.line_is

  pub one_refusal : (s s' : ℕ) (l m : List ℕ) → IsRefusal effort text s l → IsRefusal effort text s' m → (s ≡ s') × (l ≡ m)
  one_refusal s s' l m (inl a) (inl b) = (a.0 ∙ sym b.0, one_line l m a.1 b.1)
  one_refusal s s' l m (inl a) (inr b) = absurd (parsed_or_not b.1.template l b.1.parses a.1)
  one_refusal s s' l m (inr a) (inl b) = absurd (parsed_or_not a.1.template m a.1.parses b.1)
  one_refusal s s' l m (inr a) (inr b) = (a.0 ∙ sym b.0, one_end l m a.1 b.1)

-- ---- texts that are too long

parsed_short : TemplatesKeepLimits → (text : List ℕ) (t : Template) → Parses text t → length text < 65537
parsed_short keep text t parses = omega (arith, (keep text t parses).text)

pub test_short : TemplatesKeepLimits → (effort : Effort) (text : List ℕ) (c : Cert) → IsTest effort text c → length text < 65537
test_short keep effort text c test = parsed_short keep text c.template test.parses

long_line : LongTextsAreRefused → (a b line : List ℕ) → 65537 ≤ length a → 65537 ≤ length b → IsTemplateLine a line → IsTemplateLine b line
long_line refused a b line long long' why =
    let same : parses b ≡ parses a = refused b (omega (arith, long')) ∙ sym (refused a (omega (arith, long))) in
    (why.0, same ∙ why.1, why.2)

pub long_refusal : TemplatesKeepLimits → LongTextsAreRefused → (effort : Effort) (a b : List ℕ) (status : ℕ) (line : List ℕ) → 65537 ≤ length a → 65537 ≤ length b → IsRefusal effort a status line → IsRefusal effort b status line
long_refusal keep refused effort a b status line long long' (inl why) = inl (why.0, long_line refused a b line long long' why.1)
long_refusal keep refused effort a b status line long long' (inr up) = absurd (omega (arith, long, parsed_short keep a up.1.template up.1.parses))
