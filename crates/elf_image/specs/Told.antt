-- What a certificate tells. Its template is seen as its text and what that says.
use Rattle.std.specs.Prelude.{ℕ, List}
use Rattle.rv_hart.specs.declared.record.Record.{Record}
use Rattle.tpl_ast.specs.declared.template.HartState.{HartState}
use Rattle.tpl_lang.specs.Parsing.{Said, said_by}
use Rattle.tpl_admit.specs.declared.certificate.Cert.{Cert}
use Rattle.tpl_admit.specs.declared.dropped.Dropped.{Dropped}

pub record Told : Type 0 where
  pub start : List HartState
  pub words : List (ℕ × ℕ)
  pub traces : List (List Record)
  pub finals : List HartState
  pub last : List ℕ
  pub text : List ℕ
  pub said : Said
  pub choices : List ℕ
  pub names : List (ℕ × ℕ)
  pub dropped : List Dropped

abbrev pub told : Cert → Told
told c = record {
  start = c.start;
  words = c.words;
  traces = c.traces;
  finals = c.finals;
  last = c.last;
  text = c.template.text;
  said = said_by c.template;
  choices = c.choices;
  names = c.names;
  dropped = c.dropped;
}
