-- The statements of the language, as their lines say them.
use Rattle.std.specs.Prelude.{ℕ, Bool, List, Option}
use Rattle.rv_csr.specs.declared.privilege.Priv.{Priv}
use Rattle.tpl_lang.specs.declared.phrase.Element.{Element}
use Rattle.tpl_lang.specs.declared.phrase.Numeral.{Numeral}
use Rattle.tpl_lang.specs.declared.phrase.OutcomeElement.{OutcomeElement}
use Rattle.tpl_ast.specs.declared.template.Var.{Var}

-- a set of numbers: a named one, or elements and what stands behind `align`
pub data SetPhrase : Type 0 where
  Named : List ℕ → SetPhrase
  Listed : List Element → Option Numeral → SetPhrase

-- what a variable is among: numbers; names of operations or CSRs; outcomes
pub data Domain : Type 0 where
  Numbers : SetPhrase → Domain
  Words : List (List ℕ) → Domain
  Outcomes : List OutcomeElement → Domain

pub data AtomPhrase : Type 0 where
  Among : Var → Domain → AtomPhrase
  NotAmong : Var → Domain → AtomPhrase
  IsName : Var → List ℕ → AtomPhrase
  Same : Var → Var → AtomPhrase
  Differ : Var → Var → AtomPhrase
  Taken : AtomPhrase
  NotTaken : AtomPhrase
  Shared : AtomPhrase

pub record WishPhrase : Type 0 where
  pub prefer : Bool
  pub atom : AtomPhrase

pub data Phrase : Type 0 where
  -- ram LO HI
  Ram : Numeral → Numeral → Phrase
  -- pool F ..
  Pool : List Numeral → Phrase
  -- tables F ..
  Tables : List Numeral → Phrase
  -- pteflags B ..
  Flags : List Numeral → Phrase
  -- vectors SET
  Vectors : SetPhrase → Phrase
  -- set NAME = SET
  Set : List ℕ → SetPhrase → Phrase
  -- name NAME in SET
  Name : List ℕ → SetPhrase → Phrase
  -- data A = W
  Data : Numeral → Numeral → Phrase
  -- hart K {
  Hart : Numeral → Phrase
  -- start pc P priv M
  Start : Numeral → Priv → Phrase
  -- csr NAME = V
  Csr : List ℕ → Numeral → Phrase
  -- reg xN = V; N is None where it is too large
  Reg : Option ℕ → Numeral → Phrase
  -- body {
  Body : Phrase
  -- do ATOMS
  Do : List WishPhrase → Phrase
  -- fault outcome in SET
  Fault : List OutcomeElement → Phrase
  -- seq {
  Seq : Phrase
  -- repeat N {
  Repeat : Numeral → Phrase
  -- choose {
  Choose : Phrase
  -- W: {
  Way : Numeral → Phrase
  -- label NAME
  Label : List ℕ → Phrase
  -- }
  Close : Phrase
