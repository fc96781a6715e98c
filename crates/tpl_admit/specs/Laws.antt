-- What a template says decides, and not how its bodies are kept.
use Rattle.std.specs.Prelude.{◌≡◌}
use Rattle.tpl_ast.specs.declared.template.Template.{Template}
use Rattle.tpl_lang.specs.Parsing.{said_by}
use Rattle.tpl_admit.specs.declared.certificate.Cert.{Cert}
use Rattle.tpl_admit.specs.Validity.{IsValid}

-- the certificate with another template
abbrev pub with_template : Cert → Template → Cert
with_template c t = record {
  start = c.start;
  words = c.words;
  traces = c.traces;
  finals = c.finals;
  last = c.last;
  template = t;
  choices = c.choices;
  names = c.names;
  dropped = c.dropped;
}

-- a certificate stays valid with another template that says the same
abbrev pub SaidDecides : Type 0
SaidDecides = (c : Cert) (t : Template) → said_by c.template ≡ said_by t → IsValid c → IsValid (with_template c t)
