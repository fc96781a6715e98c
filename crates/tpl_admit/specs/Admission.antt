-- When a template admits a certificate's trace.
use Rattle.tpl_admit.specs.declared.certificate.Cert.{Cert}
use Rattle.tpl_admit.specs.Admitting.{IsAdmitted, Trace}

-- what a certificate has for its template to judge
abbrev pub trace_in : Cert → Trace
trace_in c = record {
  template = c.template;
  start = c.start;
  words = c.words;
  records = c.traces;
  choices = c.choices;
  names = c.names;
  dropped = c.dropped;
}

-- each hart starts as the template says, each leaf has one record that it admits, and nothing is left over
abbrev pub Admits : Cert → Type 0
Admits c = IsAdmitted (trace_in c)
