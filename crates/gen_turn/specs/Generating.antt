-- What is made of a template.
use Rattle.std.specs.Prelude.{◌≡◌, ℕ, length}
use Rattle.part_state.specs.Beginning.{IsBegun}
use Rattle.part_state.specs.Meaning.{IsTest}
use Rattle.part_state.specs.State.{Test, data_of, whole}
use Rattle.part_state.specs.Told.{Tells}
use Rattle.tpl_ast.specs.declared.template.Template.{Template}
use Rattle.tpl_admit.specs.declared.certificate.Cert.{Cert}
use Rattle.rv_system.specs.Faithfulness.{IsFaithful}
use Rattle.tpl_admit.specs.Validity.{IsValid}
use Rattle.tpl_admit.specs.WellFormed.{IsWellFormed}
use Rattle.gen_search.specs.declared.draws.Tally.{Tally}
use Rattle.gen_search.specs.Answers.{AnswerIs, CountsTurns}
use Rattle.gen_search.specs.Search.{Done, NoTest, SearchResult, Searches}
use Rattle.gen_turn.specs.declared.making.Found.{Found}
use Rattle.gen_turn.specs.declared.making.Generated.{Generated}
use Rattle.gen_turn.specs.declared.making.Generated.TheVariants as made
use Rattle.gen_turn.specs.Rules.{Shown, draft_rules, shown}

-- from the test that begins as the template says, which is told by its whole, the search with these draws and budgets has this result
pub record Comes (t : Template) (seed nodes turns : ℕ) (result : SearchResult Shown) : Type 0 where
  pub first : Test
  pub begun : IsBegun t (whole first)
  pub test : IsTest (whole first)
  pub told : first ≡ data_of (whole first)
  pub searches : Searches draft_rules t.harts seed turns (shown t nodes first) result

-- a certificate is that of the test in which the search is done; it is valid, faithful and well-formed
pub record IsOfTest (t : Template) (seed nodes turns : ℕ) (c : Cert) : Type 0 where
  pub last : Shown
  pub tally : Tally
  pub comes : Comes t seed nodes turns (Done last tally)
  pub tells : Tells t (whole last.now) c
  pub valid : IsValid c
  pub faithful : IsFaithful c
  pub well_formed : IsWellFormed c

-- the search gave up, with these numbers
pub record IsGivenUp (t : Template) (seed nodes turns none_fits spent last_line : ℕ) : Type 0 where
  pub tally : Tally
  pub comes : Comes t seed nodes turns (NoTest tally)
  pub none_fits_is : none_fits ≡ tally.none_fits
  pub spent_is : spent ≡ tally.spent
  pub last_line_is : last_line ≡ tally.last_line

abbrev pub IsGenerated : Template → ℕ → ℕ → ℕ → Generated → Type 0
IsGenerated t seed nodes turns (made.Done c) = IsOfTest t seed nodes turns c
IsGenerated t seed nodes turns (made.GaveUp none_fits spent last_line) = IsGivenUp t seed nodes turns none_fits spent last_line

-- what stays while a test is made
pub record IsOfStart (first now : Shown) : Type 0 where
  pub template : now.template ≡ first.template
  pub nodes : now.nodes ≡ first.nodes
  pub ram : now.now.ram ≡ first.now.ram
  pub harts : length now.now.harts ≡ length first.now.harts

-- the test as the search leaves it, the answer, which tells the result, and the number of leaf turns that were made: that of the result, at most `turns`, and just so many where it gave up
pub record IsFound (t : Template) (seed nodes turns : ℕ) (found : Found) : Type 0 where
  pub last : Shown
  pub result : SearchResult Shown
  pub comes : Comes t seed nodes turns result
  pub answer : AnswerIs result last found.answer
  pub now : last.now ≡ found.part.now
  pub counts : CountsTurns result turns 0 found.turned
