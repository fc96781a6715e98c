-- What is written of a certificate is told by what its template says.
use Rattle.std.proofs.Common.{◌≡◌, ℕ, List, ap}
use Rattle.tpl_ast.specs.declared.template.NameDecl.{NameDecl}
use Rattle.tpl_ast.specs.declared.template.Template.{Template}
use Rattle.tpl_admit.specs.declared.certificate.Cert.{Cert}
use Rattle.tpl_admit.specs.Laws.{with_template}
use Rattle.elf_image.specs.File.{file_bytes}
use Rattle.elf_image.specs.Told.{Told, told}
use Rattle.trace_text.specs.Report.{report_text, harts_text}

pub told_same : (a b : Cert) → told a ≡ told b → with_template a b.template ≡ b
told_same a b e = λ i. record {
  start = ap (λ (x : Told). x.start) e i;
  words = ap (λ (x : Told). x.words) e i;
  traces = ap (λ (x : Told). x.traces) e i;
  finals = ap (λ (x : Told). x.finals) e i;
  last = ap (λ (x : Told). x.last) e i;
  template = b.template;
  choices = ap (λ (x : Told). x.choices) e i;
  names = ap (λ (x : Told). x.names) e i;
  dropped = ap (λ (x : Told). x.dropped) e i;
}

pub file_same : (c : Cert) (t : Template) → c.template.text ≡ t.text → file_bytes c ≡ file_bytes (with_template c t)
unfolding file_bytes
file_same c t text = ap (λ (bytes : List ℕ). file_bytes (with_template c (record t { text = bytes }))) text

pub report_same : (c : Cert) (t : Template) → c.template.names ≡ t.names → report_text c ≡ report_text (with_template c t)
unfolding report_text harts_text
report_same c t names = ap (λ (ds : List NameDecl). report_text (with_template c (record t { names = ds }))) names
