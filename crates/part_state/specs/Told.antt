-- The certificate of a test.
use Rattle.std.specs.Prelude.{◌≡◌, ◌≤◌, ◌/◌, length, map, sum_by, Some}
use Rattle.std.specs.List.{AllByRecursion}
use Rattle.rv_mem.specs.Seen.{known_word}
use Rattle.tpl_ast.specs.declared.template.Template.{Template}
use Rattle.tpl_admit.specs.declared.certificate.Cert.{Cert}
use Rattle.tpl_admit.specs.WellFormed.{IsRecord, AreNamed, AreDropped}
use Rattle.part_machine.specs.Whole.{Whole}
use Rattle.part_told.specs.Finishing.{known_from, told_state}
use Rattle.part_told.specs.Words.{ListsWords}
use Rattle.tpl_ast.specs.Limits.{file_limits}

-- it has the start, the records, the names, the choices and the dropped biases of the test, and where the test stands as its end
pub record Tells (t : Template) (w : Whole) (c : Cert) : Type 0 where
  pub template : c.template ≡ t
  pub start : c.start ≡ map told_state w.first
  pub finals : c.finals ≡ map told_state w.harts
  pub traces : c.traces ≡ w.traces
  pub words : ListsWords w.ram w.words c.words
  pub last : map (λ v. Some v) c.last ≡ map (λ e. known_word (w.memory (e.0 / 4))) c.words
  pub choices : c.choices ≡ w.choices
  pub names : c.names ≡ known_from 0 w.names
  pub dropped : c.dropped ≡ w.dropped

-- what else has to be known so that it has a file: limits, and what depends on the template's names and on who dropped biases. That its bytes are within
-- their limit follows
pub record FitsFile (c : Cert) : Type 0 where
  pub records : AllByRecursion (λ t. AllByRecursion IsRecord t) c.traces
  pub steps : sum_by (λ t. length t) c.traces ≤ file_limits.records
  pub words_count : length c.words ≤ file_limits.words
  pub choices_count : length c.choices ≤ file_limits.choices
  pub names : AreNamed c.template.names 0 c.names
  pub dropped_count : length c.dropped ≤ file_limits.dropped
  pub dropped : AreDropped (length c.start) 0 c.dropped
