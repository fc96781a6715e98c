-- Laws of the search for a test of a template.
use Rattle.std.specs.Prelude.{◌≡◌, ℕ, List}
use Rattle.tpl_ast.specs.declared.template.HartDecl.{HartDecl}
use Rattle.tpl_ast.specs.declared.template.Template.{Template}
use Rattle.tpl_lang.specs.Parsing.{Parses}
use Rattle.tpl_admit.specs.declared.certificate.Cert.{Cert}
use Rattle.tpl_admit.specs.Admission.{Admits}
use Rattle.tpl_admit.specs.Laws.{with_template}
use Rattle.part_machine.specs.Whole.{Whole}
use Rattle.part_state.specs.Beginning.{IsBegun}
use Rattle.part_state.specs.Meaning.{IsTest}
use Rattle.part_state.specs.State.{whole}
use Rattle.part_state.specs.Told.{FitsFile, Tells}
use Rattle.gen_search.specs.Ready.{BodiesAreReady}
use Rattle.gen_search.specs.declared.draws.Tally.{Tally}
use Rattle.gen_search.specs.Search.{Done, SearchResult, Searches}
use Rattle.gen_turn.specs.declared.making.Generated.{Generated}
use Rattle.gen_turn.specs.declared.making.Generated.TheVariants as made
use Rattle.gen_turn.specs.Drafts.{drafted}
use Rattle.gen_turn.specs.Grounds.{CanTake}
use Rattle.gen_turn.specs.Generating.{Comes, IsGenerated}
use Rattle.gen_turn.specs.Rules.{Shown, can_be_taken, draft_rules}

-- each leaf and label of a template's bodies can be taken on the test that begins as it says
abbrev pub TemplatesAreReady : Type 0
TemplatesAreReady = (t : Template) (nodes : ℕ) (w : Whole) → Parses t.text t → IsBegun t w → IsTest w → BodiesAreReady (CanTake (drafted t nodes w)) t.harts

-- two results of a search from one test, on which all leaves and labels can be taken, are one
abbrev pub SearchesHaveOneResult : Type 0
SearchesHaveOneResult =
    (harts : List HartDecl) (seed turns : ℕ) (first : Shown) (r s : SearchResult Shown) → BodiesAreReady (can_be_taken first) harts
    → Searches draft_rules harts seed turns first r → Searches draft_rules harts seed turns first s → r ≡ s

-- what is made of a template, of a seed and of the budgets is one
abbrev pub GeneratedIsOne : Type 0
GeneratedIsOne =
    (t : Template) (seed nodes turns : ℕ) (a b : Generated) → Parses t.text t
    → IsGenerated t seed nodes turns a → IsGenerated t seed nodes turns b → a ≡ b

-- what is made, with another template in its certificate
abbrev pub retold : Template → Generated → Generated
retold t (made.Done c) = made.Done (with_template c t)
retold t (made.GaveUp none_fits spent last_line) = made.GaveUp none_fits spent last_line

-- what is made of templates that one text is parsed as is the same
abbrev pub TextsTellWhatIsMade : Type 0
TextsTellWhatIsMade =
    (text : List ℕ) (t u : Template) (seed nodes turns : ℕ) (a b : Generated) → Parses text t → Parses text u
    → IsGenerated t seed nodes turns a → IsGenerated u seed nodes turns b → retold u a ≡ b

-- the certificate of a test in which a search is done is admitted by its template
abbrev pub DoneTestsAreAdmitted : Type 0
DoneTestsAreAdmitted =
    (t : Template) (seed nodes turns : ℕ) (last : Shown) (tally : Tally) (c : Cert) → Parses t.text t
    → Comes t seed nodes turns (Done last tally) → Tells t (whole last.now) c → Admits c

-- and it fits a file
abbrev pub DoneTestsFitFiles : Type 0
DoneTestsFitFiles =
    (t : Template) (seed nodes turns : ℕ) (last : Shown) (tally : Tally) (c : Cert) → Parses t.text t
    → Comes t seed nodes turns (Done last tally) → Tells t (whole last.now) c → FitsFile c
